-- The given routes and the pool in one list of rows.
use Rattle.std.proofs.Common.{◌≡◌, ℕ, zero, suc, ◌+◌, ◌-◌, ◌<◌, ◌≤◌, Bool, true, false, ◌⊎◌, List, [], ◌∷◌, ◌++◌, map, length, get_or, take, drop, refl, ap, ◌∙◌, subst, inl, inr, arith, length-take-le}
use mathlib.Core.Path.{subst⁻¹}
use Rattle.std.specs.List.{ContainsAt, insert}
use Rattle.std.proofs.lemmas.List.{length-take, length-drop, length-map, take-take, take-append-le, drop-take, drop_more, drop_all, map_more, get_or-map, get_or-take, get_or-drop}
use Rattle.std.proofs.lemmas.List.Edits.{length-insert}
use Rattle.std.proofs.ByRecursion.{All-get_or, All-from_get_or, has_get_or}
use Rattle.std.proofs.lemmas.Bool.{cases_lt, both_ways}
use Rattle.network.specs.Meaning.{Meaning, Sound}
use Rattle.cost.specs.Costs.{Costs, Laws}
use Rattle.route.specs.Routes.{no_bars, Route, ahead}
use Rattle.route.specs.Deviation.{Next}
use Rattle.route.specs.Pool.{Ascending, Candidate, room, newest, fronts, Held, Kept, Ranked, Rows, Place, given_of, start_of, front_of, Closed, Spur}
use Rattle.route.proofs.Order.{ahead_strict}
use Rattle.route.proofs.Pool.{kept_start, ranked_start, kept_back, kept_none, kept_held, kept_placed, kept_next, kept_over, kept_give, ranked_give}

-- an insertion behind the first g leaves them, and is one into the rest
pub take_inserted : {X : Type 0} (g i : ℕ) (xs : List X) (c : X) → g ≤ i → i ≤ length xs → take g (insert xs i c) ≡ take g xs
take_inserted g i xs c b le = take-append-le g (take i xs) (c ∷ drop i xs) (omega (arith, length-take-le i xs le)) ∙ take-take g i xs b

pub drop_inserted : {X : Type 0} (g i e : ℕ) (xs : List X) (c : X) → g + e ≡ i → i ≤ length xs → drop g (insert xs i c) ≡ insert (drop g xs) e c
drop_inserted zero i e xs c h le = let f : i ≡ e = omega arith in ap (λ (n : ℕ). insert xs n c) f
drop_inserted (suc g) zero e xs c h le = absurd (omega arith)
drop_inserted (suc g) (suc i) e [] c h le = absurd (omega arith)
drop_inserted (suc g) (suc i) e (x ∷ xs) c h le = drop_inserted g i e xs c (omega arith) (omega arith)

-- what is dropped for room may be dropped first
pub take_inserted_first : {X : Type 0} (n i : ℕ) (xs : List X) (c : X) → i ≤ n → take (suc n) (insert xs i c) ≡ insert (take n xs) i c
take_inserted_first n zero xs c l = refl
take_inserted_first zero (suc i) xs c l = absurd (omega arith)
take_inserted_first (suc n) (suc i) [] c l = refl
take_inserted_first {X} (suc n) (suc i) (x ∷ xs) c l = ap (λ (ys : List X). x ∷ ys) (take_inserted_first n i xs c (omega arith))

pub length_given : (rows : List Candidate) (g : ℕ) → g ≤ length rows → length (given_of rows g) ≡ g
length_given rows g l = length-map (take g rows) (λ (c : Candidate). c.legs) ∙ length-take-le g rows l

pub newest_of : (rows : List Candidate) (g : ℕ) (d : Candidate) → g < length rows → newest (given_of rows (g + 1)) ≡ (get_or rows g d).legs
newest_of rows g d l =
    let n : length (given_of rows (g + 1)) - 1 ≡ g = omega (arith, length_given rows (g + 1) (omega arith)) in
    ap (λ (i : ℕ). get_or (given_of rows (g + 1)) i []) n ∙ (get_or-map (λ (c : Candidate). c.legs) (take (g + 1) rows) g d [] (omega (arith, length-take-le (g + 1) rows (omega arith))) ∙ ap (λ (c : Candidate). c.legs) (get_or-take (g + 1) rows g d (omega arith)))

pub start_is : (rows : List Candidate) (g : ℕ) (d : Candidate) → g < length rows → start_of rows (g + 1) ≡ (get_or rows g d).at
start_is rows g d l =
    let n : g + 1 - 1 ≡ g = omega arith in
    ap (λ (i : ℕ). get_or (map (λ (c : Candidate). c.at) (take (g + 1) rows)) i 0) n ∙ (get_or-map (λ (c : Candidate). c.at) (take (g + 1) rows) g d 0 (omega (arith, length-take-le (g + 1) rows (omega arith))) ∙ ap (λ (c : Candidate). c.at) (get_or-take (g + 1) rows g d (omega arith)))

-- of what ascends, an earlier one is before a later one
pub ascending_get_or : {X : Type 0} (r : X → X → Bool) (xs : List X) (i j : ℕ) (d : X) → Ascending r xs → i < j → j < length xs → r (get_or xs i d) (get_or xs j d) ≡ true
ascending_get_or r [] i j d h b l = absurd (omega arith)
ascending_get_or r (x ∷ xs) i zero d h b l = absurd (omega arith)
ascending_get_or r (x ∷ xs) zero (suc j) d h b l = All-get_or (λ y. r x y ≡ true) xs j d (omega arith) h.0
ascending_get_or r (x ∷ xs) (suc i) (suc j) d h b l = ascending_get_or r xs i j d h.1 (omega arith) (omega arith)

module _ (m : Meaning) (sound : Sound m) {C : Type 0} (k : Costs C) (laws : Laws k) (s t : ℕ) where
  pub different : (given : List (List ℕ)) (i j : ℕ) (d : List ℕ) → Ranked k m s t given → i < j → j < length given → (ahead k m (get_or given i d) (get_or given j d) ≡ true) × (get_or given i d ≡ get_or given j d → ⊥)
  different given i j d h b l =
      let e = ascending_get_or (ahead k m) given i j d h.rising b l in
      (e, λ f. both_ways (ahead k m (get_or given j d) (get_or given j d)) ((ahead_strict m k laws).never (get_or given j d)) (subst (λ (x : List ℕ). ahead k m x (get_or given j d) ≡ true) f e))

  pub rows_open : Rows k m s t [] 0 0
  rows_open = record { fits = omega arith; ranked = ranked_start m sound k laws s t; kept = kept_start m sound k laws s t }

  module _ (rows : List Candidate) (g j : ℕ) (h : Rows k m s t rows g j) where
    size : length (given_of rows g) ≡ g
    size = length_given rows g h.fits

    pub rows_few : length rows ≤ 16
    rows_few = omega (arith, h.kept.few, size, length-drop g rows, h.ranked.count)

    pub rows_back : (i : ℕ) → i ≤ j → Rows k m s t rows g i
    rows_back i l = record { fits = h.fits; ranked = h.ranked; kept = kept_back m sound k laws s t (given_of rows g) (drop g rows) i j l h.kept }

    pub rows_none : Closed m (given_of rows g) s t (front_of rows g j) → Rows k m s t rows g (j + 1)
    rows_none none = record { fits = h.fits; ranked = h.ranked; kept = kept_none m sound k laws s t (given_of rows g) h.ranked.routes (drop g rows) j h.kept none }

    held_one : (q : List ℕ) → Spur k m (given_of rows g) s t (front_of rows g j) q → Held (ahead k m) (room (given_of rows g)) (drop g rows) (front_of rows g j ++ q) → Rows k m s t rows g (j + 1)
    held_one q spur held = record { fits = h.fits; ranked = h.ranked; kept = kept_held m sound k laws s t (given_of rows g) h.ranked.routes (drop g rows) j q h.kept spur held }

    -- a row of the pool, read behind the given ones
    row_is : (i e : ℕ) (d : Candidate) → g + e ≡ i → get_or (drop g rows) e d ≡ get_or rows i d
    row_is i e d f = get_or-drop g rows e d ∙ ap (λ (n : ℕ). get_or rows n d) f

    pub rows_there : (q : List ℕ) (i : ℕ) (d : Candidate) → Spur k m (given_of rows g) s t (front_of rows g j) q → g ≤ i → i < length rows → (get_or rows i d).legs ≡ front_of rows g j ++ q → Rows k m s t rows g (j + 1)
    rows_there q i d spur b l e =
        let f : g + (i - g) ≡ i = omega arith in
        held_one q spur (inl (get_or (drop g rows) (i - g) d, has_get_or (drop g rows) (i - g) d (omega (arith, length-drop g rows)), ap (λ (c : Candidate). c.legs) (row_is i (i - g) d f) ∙ e))

    pub rows_behind : (q : List ℕ) (d : Candidate) → Spur k m (given_of rows g) s t (front_of rows g j) q → 16 ≤ length rows → ((n : ℕ) → g ≤ n → n < length rows → ahead k m (get_or rows n d).legs (front_of rows g j ++ q) ≡ true) → Rows k m s t rows g (j + 1)
    rows_behind q d spur full all =
        held_one q spur (inr (omega (arith, size, length-drop g rows), All-from_get_or (λ c. ahead k m c.legs (front_of rows g j ++ q) ≡ true) (drop g rows) d (λ n l. subst⁻¹ (λ (c : Candidate). ahead k m c.legs (front_of rows g j ++ q) ≡ true) (row_is (g + n) n d refl) (all (g + n) (omega arith) (omega (arith, length-drop g rows))))))

    pub rows_placed : (q : List ℕ) (i : ℕ) (d : Candidate) → j < fronts (given_of rows g) → Spur k m (given_of rows g) s t (front_of rows g j) q → g ≤ i → i ≤ length rows → ((n : ℕ) → g ≤ n → n < i → ahead k m (get_or rows n d).legs (front_of rows g j ++ q) ≡ true) → (i < length rows → ahead k m (front_of rows g j ++ q) (get_or rows i d).legs ≡ true) → Rows k m s t (take 16 (insert rows i (record { legs = front_of rows g j ++ q; at = j }))) g (j + 1)
    rows_placed q i d l spur b le below above =
        record { fits = omega (arith, length-take 16 (insert rows i c), length-insert rows i c le, h.ranked.count, size); ranked = subst⁻¹ (λ (gs : List (List ℕ)). Ranked k m s t gs) same h.ranked; kept = subst⁻¹ (λ (gs : List (List ℕ)). Kept k m gs s t (drop g (take 16 (insert rows i c))) (j + 1)) same (subst⁻¹ (λ (cs : List Candidate). Kept k m (given_of rows g) s t cs (j + 1)) rest (kept_placed m sound k laws s t (given_of rows g) h.ranked.routes (drop g rows) j q (i - g) d l h.kept spur (omega (arith, length-drop g rows)) (λ n x. subst⁻¹ (λ (y : Candidate). ahead k m y.legs (front_of rows g j ++ q) ≡ true) (row_is (g + n) n d refl) (below (g + n) (omega arith) (omega arith))) (λ x. subst⁻¹ (λ (y : Candidate). ahead k m (front_of rows g j ++ q) y.legs ≡ true) (row_is i (i - g) d off) (above (omega (arith, length-drop g rows)))))) }
      where
        c : Candidate
        c = record { legs = front_of rows g j ++ q; at = j }

        off : g + (i - g) ≡ i
        off = omega arith

        same : given_of (take 16 (insert rows i c)) g ≡ given_of rows g
        same = ap (map (λ (x : Candidate). x.legs)) (take-take g 16 (insert rows i c) (omega (arith, size, h.ranked.count)) ∙ take_inserted g i rows c b le)

        left : 16 ≡ g + room (given_of rows g)
        left = omega (arith, size, h.ranked.count)

        rest : drop g (take 16 (insert rows i c)) ≡ take (room (given_of rows g)) (insert (drop g rows) (i - g) c)
        rest = ap (λ (n : ℕ). drop g (take n (insert rows i c))) left ∙ (drop-take g (room (given_of rows g)) (insert rows i c) ∙ ap (take (room (given_of rows g))) (drop_inserted g i (i - g) rows c off le))

    -- what is to be done at the place: nothing where it is the seventeenth or the route stands there, and else it is put there
    pub rows_found : (q : List ℕ) (i : ℕ) (d : Candidate) → j < fronts (given_of rows g) → Spur k m (given_of rows g) s t (front_of rows g j) q → Place (ahead k m) rows g d (front_of rows g j ++ q) i → ((16 ≤ i → Rows k m s t rows g (j + 1)) × (i < length rows → ahead k m (front_of rows g j ++ q) (get_or rows i d).legs ≡ false → Rows k m s t rows g (j + 1)) × ((i < length rows → ahead k m (front_of rows g j ++ q) (get_or rows i d).legs ≡ true) → Rows k m s t (take 16 (insert rows i (record { legs = front_of rows g j ++ q; at = j }))) g (j + 1)))
    rows_found q i d l spur p =
        (λ b. rows_behind q d spur (omega (arith, p.high)) (λ n a c. p.below n a (omega (arith, rows_few))), λ b e. rows_there q i d spur p.low b ((ahead_strict m k laws).same (get_or rows i d).legs (front_of rows g j ++ q) (p.stop b) e), λ above. rows_placed q i d l spur p.low p.high p.below above)

    pub rows_over : fronts (given_of rows g) ≤ j → length rows ≤ g → g < 16 → (w : List ℕ) → Route m no_bars s t w → ContainsAt (given_of rows g) w
    rows_over l none b = kept_over m sound k laws s t (given_of rows g) h.ranked.routes j (omega (arith, size)) l (subst (λ (cs : List Candidate). Kept k m (given_of rows g) s t cs j) (drop_all g rows none) h.kept)

    pub rows_give : (d : Candidate) → fronts (given_of rows g) ≤ j → g < length rows → Next k m (given_of rows g) s t (get_or rows g d).legs × Rows k m s t rows (g + 1) (get_or rows g d).at
    rows_give d l b = (next, record { fits = omega arith; ranked = subst⁻¹ (λ (gs : List (List ℕ)). Ranked k m s t gs) more (ranked_give m sound k laws s t (given_of rows g) (get_or rows g d).legs (omega (arith, size, rows_few)) h.ranked next); kept = subst⁻¹ (λ (gs : List (List ℕ)). Kept k m gs s t (drop (g + 1) rows) (get_or rows g d).at) more (kept_give m sound k laws s t (given_of rows g) h.ranked.routes (get_or rows g d) (drop (g + 1) rows) j l kept) })
      where
        kept : Kept k m (given_of rows g) s t (get_or rows g d ∷ drop (g + 1) rows) j
        kept = subst (λ (cs : List Candidate). Kept k m (given_of rows g) s t cs j) (drop_more rows g d b) h.kept

        next : Next k m (given_of rows g) s t (get_or rows g d).legs
        next = kept_next m sound k laws s t (given_of rows g) h.ranked.routes (get_or rows g d) (drop (g + 1) rows) j l kept

        more : given_of rows (g + 1) ≡ given_of rows g ++ (get_or rows g d).legs ∷ []
        more = map_more (λ (c : Candidate). c.legs) rows g d b

    -- where every route is given, no candidate is left
    pub rows_exact : fronts (given_of rows g) ≤ j → ((w : List ℕ) → Route m no_bars s t w → ContainsAt (given_of rows g) w) → length rows ≤ g
    rows_exact l all = go (cases_lt g (length rows))
      where
        go : (g < length rows) ⊎ (length rows ≤ g) → length rows ≤ g
        go (inr b) = b
        go (inl b) =
            let next = (rows_give (record { legs = []; at = 0 }) l b).0 in
            absurd (next.other.new (all (get_or rows g (record { legs = []; at = 0 })).legs next.other.route))

    -- the given rows stay
    pub rows_front : (i : ℕ) (c : Candidate) → g ≤ i → i ≤ length rows → take g (take 16 (insert rows i c)) ≡ take g rows
    rows_front i c b le = take-take g 16 (insert rows i c) (omega (arith, size, h.ranked.count)) ∙ take_inserted g i rows c b le
