-- Runs of the ranking: the steps come together, whatever answers the searches.
use Rattle.std.proofs.Common.{◌≡◌, ℕ, zero, suc, ◌+◌, ◌-◌, ◌<◌, ◌≤◌, Bool, true, false, ◌⊎◌, List, [], ◌++◌, map, length, get_or, take, refl, ap, ◌∙◌, subst, inl, inr, arith}
use mathlib.Core.Path.{subst⁻¹}
use Rattle.std.specs.List.{ContainsAt, insert}
use Rattle.std.proofs.lemmas.Bool.{cases_Bool, cases_lt}
use Rattle.network.specs.Meaning.{Meaning, Sound}
use Rattle.cost.specs.Costs.{Costs, Laws}
use Rattle.route.specs.Routes.{no_bars, Route, ahead}
use Rattle.route.specs.Deviation.{Answer}
use Rattle.route.specs.Pool.{Candidate, fronts, Rows, Place, given_of, start_of, front_of, Pools}
use Rattle.route.proofs.Rows.{start_is, rows_open, rows_few, rows_back, rows_none, rows_there, rows_behind, rows_placed, rows_found, rows_over, rows_give, rows_exact, rows_front, different}

pub place_from : (r : List ℕ → List ℕ → Bool) (rows : List Candidate) (g : ℕ) (d : Candidate) (v : List ℕ) (n i : ℕ) → n + i ≡ length rows → g ≤ i → ((j : ℕ) → g ≤ j → j < i → r (get_or rows j d).legs v ≡ true) → (place : ℕ) × Place r rows g d v place
place_from r rows g d v zero i e l below = (i, record { low = l; high = omega arith; below = below; stop = λ b. absurd (omega arith) })
place_from r rows g d v (suc n) i e l below = go (place_from r rows g d v n (i + 1) (omega arith) (omega arith)) (cases_Bool (r (get_or rows i d).legs v))
  where
    more : r (get_or rows i d).legs v ≡ true → (j : ℕ) → g ≤ j → j < i + 1 → (j < i) ⊎ (i ≤ j) → r (get_or rows j d).legs v ≡ true
    more y j a b (inl c) = below j a c
    more y j a b (inr c) = let f : i ≡ j = omega arith in subst (λ (x : ℕ). r (get_or rows x d).legs v ≡ true) f y

    go : (((j : ℕ) → g ≤ j → j < i + 1 → r (get_or rows j d).legs v ≡ true) → (place : ℕ) × Place r rows g d v place) → (r (get_or rows i d).legs v ≡ true) ⊎ (r (get_or rows i d).legs v ≡ false) → (place : ℕ) × Place r rows g d v place
    go on (inl y) = on (λ j a b. more y j a b (cases_lt j i))
    go on (inr n') = (i, record { low = l; high = omega arith; below = below; stop = λ b. n' })

-- rows with the same given ones
pub record Onto {C : Type 0} (k : Costs C) (m : Meaning) (s t : ℕ) (rows : List Candidate) (g j : ℕ) : Type 0 where
  pub now : List Candidate
  pub upto : ℕ
  pub later : j ≤ upto
  pub kept : Rows k m s t now g upto
  pub same : take g now ≡ take g rows

module _ (m : Meaning) (sound : Sound m) {C : Type 0} (k : Costs C) (laws : Laws k) (s t : ℕ) where
  none : Candidate
  none = record { legs = []; at = 0 }

  -- one front
  one : (rows : List Candidate) (g j : ℕ) → j < fronts (given_of rows g) → Rows k m s t rows g j → Answer k m (given_of rows g) s t (front_of rows g j) → (now : List Candidate) × Rows k m s t now g (j + 1) × (take g now ≡ take g rows)
  one rows g j l h (inr closed) = (rows, rows_none m sound k laws s t rows g j h closed, refl)
  one rows g j l h (inl a) = go (place_from (ahead k m) rows g none v (length rows - g) g (omega (arith, h.fits)) (omega arith) (λ n x y. absurd (omega arith)))
    where
      v : List ℕ
      v = front_of rows g j ++ a.0

      Out : Type 0
      Out = (now : List Candidate) × Rows k m s t now g (j + 1) × (take g now ≡ take g rows)

      go : (i : ℕ) × Place (ahead k m) rows g none v i → Out
      go x = at (cases_lt i (length rows)) (cases_Bool (ahead k m v (get_or rows i none).legs))
        where
          i : ℕ
          i = x.0

          p : Place (ahead k m) rows g none v i
          p = x.1

          c : Candidate
          c = record { legs = v; at = j }

          put : (i < length rows → ahead k m v (get_or rows i none).legs ≡ true) → Out
          put above = (take 16 (insert rows i c), (rows_found m sound k laws s t rows g j h a.0 i none l a.1 p).2 above, rows_front m sound k laws s t rows g j h i c p.low p.high)

          at : (i < length rows) ⊎ (length rows ≤ i) → (ahead k m v (get_or rows i none).legs ≡ true) ⊎ (ahead k m v (get_or rows i none).legs ≡ false) → Out
          at (inr b) y = put (λ z. absurd (omega arith))
          at (inl b) (inl y) = put (λ z. y)
          at (inl b) (inr n) = (rows, (rows_found m sound k laws s t rows g j h a.0 i none l a.1 p).1 b n, refl)

  module _ (answers : (given : List (List ℕ)) (p : List ℕ) → Answer k m given s t p) where
    -- all fronts
    fronts_all : (n : ℕ) (rows : List Candidate) (g j : ℕ) → fronts (given_of rows g) ≤ n + j → Rows k m s t rows g j → (o : Onto k m s t rows g j) × (fronts (given_of rows g) ≤ o.upto)
    fronts_all zero rows g j l h = (record { now = rows; upto = j; later = omega arith; kept = h; same = refl }, omega arith)
    fronts_all (suc n) rows g j l h = go (cases_lt j (fronts (given_of rows g))) (λ now. fronts_all n now g (j + 1))
      where
        Out : Type 0
        Out = (o : Onto k m s t rows g j) × (fronts (given_of rows g) ≤ o.upto)

        on : ((now : List Candidate) → fronts (given_of now g) ≤ n + (j + 1) → Rows k m s t now g (j + 1) → (o : Onto k m s t now g (j + 1)) × (fronts (given_of now g) ≤ o.upto)) → ((now : List Candidate) × Rows k m s t now g (j + 1) × (take g now ≡ take g rows)) → Out
        on ih x =
            let f : fronts (given_of x.0 g) ≡ fronts (given_of rows g) = ap (λ (cs : List Candidate). fronts (map (λ (c : Candidate). c.legs) cs)) x.2 in
            let y = ih x.0 (omega (arith, f)) x.1 in
            (record { now = y.0.now; upto = y.0.upto; later = omega (arith, y.0.later); kept = y.0.kept; same = y.0.same ∙ x.2 }, subst (λ (x : ℕ). x ≤ y.0.upto) f y.1)

        go : (j < fronts (given_of rows g)) ⊎ (fronts (given_of rows g) ≤ j) → ((now : List Candidate) → fronts (given_of now g) ≤ n + (j + 1) → Rows k m s t now g (j + 1) → (o : Onto k m s t now g (j + 1)) × (fronts (given_of now g) ≤ o.upto)) → Out
        go (inl b) ih = on ih (one rows g j b h (answers (given_of rows g) (front_of rows g j)))
        go (inr b) ih = (record { now = rows; upto = j; later = omega arith; kept = h; same = refl }, b)

    -- one turn: the next route is given, or there is none
    turn : (rows : List Candidate) (g : ℕ) → g < 16 → Rows k m s t rows g (start_of rows g) → ((now : List Candidate) × Rows k m s t now (g + 1) (start_of now (g + 1))) ⊎ ((now : List Candidate) × Rows k m s t now g (start_of now g) × ((w : List ℕ) → Route m no_bars s t w → ContainsAt (given_of now g) w))
    turn rows g b h = go (fronts_all (fronts (given_of rows g)) rows g (start_of rows g) (omega arith) h)
      where
        Out : Type 0
        Out = ((now : List Candidate) × Rows k m s t now (g + 1) (start_of now (g + 1))) ⊎ ((now : List Candidate) × Rows k m s t now g (start_of now g) × ((w : List ℕ) → Route m no_bars s t w → ContainsAt (given_of now g) w))

        go : ((o : Onto k m s t rows g (start_of rows g)) × (fronts (given_of rows g) ≤ o.upto)) → Out
        go x = side (cases_lt g (length now))
          where
            now : List Candidate
            now = x.0.now

            all : fronts (given_of now g) ≤ x.0.upto
            all = subst⁻¹ (λ (cs : List Candidate). fronts (map (λ (c : Candidate). c.legs) cs) ≤ x.0.upto) x.0.same x.1

            late : start_of now g ≤ x.0.upto
            late = subst⁻¹ (λ (cs : List Candidate). get_or (map (λ (c : Candidate). c.at) cs) (g - 1) 0 ≤ x.0.upto) x.0.same x.0.later

            side : (g < length now) ⊎ (length now ≤ g) → Out
            side (inl l) = inl (now, subst⁻¹ (λ (i : ℕ). Rows k m s t now (g + 1) i) (start_is now g none l) (rows_give m sound k laws s t now g x.0.upto x.0.kept none all l).1)
            side (inr l) = inr (now, rows_back m sound k laws s t now g x.0.upto x.0.kept (start_of now g) late, rows_over m sound k laws s t now g x.0.upto x.0.kept all l b)

    pub runs : (n : ℕ) → n ≤ 16 → (rows : List Candidate) × (g : ℕ) × Rows k m s t rows g (start_of rows g) × ((g ≡ n) ⊎ ((g < n) × ((w : List ℕ) → Route m no_bars s t w → ContainsAt (given_of rows g) w)))
    runs zero l = ([], 0, rows_open m sound k laws s t, inl refl)
    runs (suc n) l = go (runs n (omega arith))
      where
        Out : Type 0
        Out = (rows : List Candidate) × (g : ℕ) × Rows k m s t rows g (start_of rows g) × ((g ≡ suc n) ⊎ ((g < suc n) × ((w : List ℕ) → Route m no_bars s t w → ContainsAt (given_of rows g) w)))

        step : (g : ℕ) → g ≡ n → ((now : List Candidate) × Rows k m s t now (g + 1) (start_of now (g + 1))) ⊎ ((now : List Candidate) × Rows k m s t now g (start_of now g) × ((w : List ℕ) → Route m no_bars s t w → ContainsAt (given_of now g) w)) → Out
        step g e (inl a) = (a.0, g + 1, a.1, inl (omega arith))
        step g e (inr a) = (a.0, g, a.1, inr (omega arith, a.2))

        ends : (rows : List Candidate) (g : ℕ) → Rows k m s t rows g (start_of rows g) → (g ≡ n) ⊎ ((g < n) × ((w : List ℕ) → Route m no_bars s t w → ContainsAt (given_of rows g) w)) → Out
        ends rows g h (inl e) = step g e (turn rows g (omega arith) h)
        ends rows g h (inr b) = (rows, g, h, inr (omega (arith, b.0), b.1))

        go : ((rows : List Candidate) × (g : ℕ) × Rows k m s t rows g (start_of rows g) × ((g ≡ n) ⊎ ((g < n) × ((w : List ℕ) → Route m no_bars s t w → ContainsAt (given_of rows g) w)))) → Out
        go x = ends x.0 x.1 x.2 x.3

pub pools : {C : Type 0} (k : Costs C) → Laws k → Pools k
pools k laws =
    record { opens = λ m sound s t. rows_open m sound k laws s t; back = λ m sound s t rows g i j l h. rows_back m sound k laws s t rows g j h i l; none = λ m sound s t rows g j h. rows_none m sound k laws s t rows g j h; there = λ m sound s t rows g j q i d h. rows_there m sound k laws s t rows g j h q i d; behind = λ m sound s t rows g j q d h. rows_behind m sound k laws s t rows g j h q d; placed = λ m sound s t rows g j q i d h. rows_placed m sound k laws s t rows g j h q i d; found = λ m sound s t rows g j q i d h. rows_found m sound k laws s t rows g j h q i d; over = λ m sound s t rows g j h. rows_over m sound k laws s t rows g j h; give = λ m sound s t rows g j d h. rows_give m sound k laws s t rows g j h d; exact = λ m sound s t rows g j h. rows_exact m sound k laws s t rows g j h; front = λ m sound s t rows g j i c h. rows_front m sound k laws s t rows g j h i c; different = λ m sound s t given i j d h. different m sound k laws s t given i j d h; few = λ m sound s t rows g j h. rows_few m sound k laws s t rows g j h; runs = λ m sound s t answers. runs m sound k laws s t answers }
