-- Candidates in rank order: what an insertion keeps.
use Rattle.std.proofs.Common.{◌≡◌, ℕ, zero, suc, ◌<◌, ◌≤◌, Bool, true, ◌⊎◌, List, [], ◌∷◌, length, get_or, take, drop, refl, ap, subst, inl, inr, arith, length-take-le}
use mathlib.Core.Path.{subst⁻¹}
use lib.Seq.{take-append-le}
use Rattle.std.specs.List.{ContainsAt, HoldsAt, insert, AllByRecursion}
use Rattle.std.proofs.lemmas.List.{length-take}
use Rattle.std.proofs.lemmas.List.Edits.{length-insert}
use Rattle.std.proofs.ByRecursion.{All-take, All-drop, All-append, All-weaker, All-get_or, all-has, has_append_right}
use Rattle.std.proofs.lemmas.Bool.{cases_lt}
use Rattle.route.specs.Claims.{Strict}
use Rattle.route.specs.Pool.{Ascending, Candidate, sooner, Held}

pub has_cons : {X : Type 0} (xs : List X) (y x : X) → ContainsAt xs x → ContainsAt (y ∷ xs) x
has_cons xs y x h = (suc h.0, omega (arith, h.1), λ d. h.2 d)

pub has_cons_cases : {X : Type 0} (xs : List X) (y x : X) → ContainsAt (y ∷ xs) x → ContainsAt xs x ⊎ (y ≡ x)
has_cons_cases {X} xs y x h = go h.0 h.1 h.2
  where
    go : (n : ℕ) → n < length (y ∷ xs) → HoldsAt (λ (z : X). z ≡ x) (y ∷ xs) n → ContainsAt xs x ⊎ (y ≡ x)
    go zero l at = inr (at x)
    go (suc n) l at = inl (n, omega arith, λ d. at d)

pub has_inserted : {X : Type 0} (i : ℕ) (xs : List X) (c x : X) → ContainsAt xs x → ContainsAt (insert xs i c) x
has_inserted zero xs c x h = has_cons xs c x h
has_inserted (suc i) [] c x h = absurd (omega (arith, h.1))
has_inserted {X} (suc i) (y ∷ xs) c x h = go (has_inserted i xs c x) (has_cons_cases xs y x h)
  where
    go : (ContainsAt xs x → ContainsAt (insert xs i c) x) → ContainsAt xs x ⊎ (y ≡ x) → ContainsAt (y ∷ insert xs i c) x
    go ih (inl a) = has_cons (insert xs i c) y x (ih a)
    go ih (inr e) = (zero, omega arith, λ d. e)

pub has_inserted_new : {X : Type 0} (i : ℕ) (xs : List X) (c : X) → ContainsAt (insert xs i c) c
has_inserted_new i xs c = has_append_right (take i xs) (c ∷ drop i xs) c (zero, omega arith, λ d. refl)

module _ (r : List ℕ → List ℕ → Bool) (o : Strict r) where
  pub ascending_take : (n : ℕ) (xs : List Candidate) → Ascending (sooner r) xs → Ascending (sooner r) (take n xs)
  ascending_take zero xs h = tt
  ascending_take (suc n) [] h = tt
  ascending_take (suc n) (x ∷ xs) h = (All-take (λ y. sooner r x y ≡ true) n xs h.0, ascending_take n xs h.1)

  -- what is before one is before all behind it
  pub before_all : (v : List ℕ) (x : Candidate) (xs : List Candidate) → r v x.legs ≡ true → AllByRecursion (λ y. sooner r x y ≡ true) xs → AllByRecursion (λ y. r v y.legs ≡ true) xs
  before_all v x xs h all = All-weaker (λ y. sooner r x y ≡ true) (λ y. r v y.legs ≡ true) (λ y k. o.onward v x.legs y.legs h k) xs all

  pub before_from : (v : List ℕ) (d : Candidate) (i : ℕ) (xs : List Candidate) → Ascending (sooner r) xs → (i < length xs → r v (get_or xs i d).legs ≡ true) → AllByRecursion (λ y. r v y.legs ≡ true) (drop i xs)
  before_from v d zero [] h b = tt
  before_from v d zero (x ∷ xs) h b = let e = b (omega arith) in (e, before_all v x xs e h.0)
  before_from v d (suc i) [] h b = tt
  before_from v d (suc i) (x ∷ xs) h b = before_from v d i xs h.1 (λ l. b (omega arith))

  pub ascending_inserted : (c : Candidate) (i : ℕ) (xs : List Candidate) → Ascending (sooner r) xs → AllByRecursion (λ y. sooner r y c ≡ true) (take i xs) → AllByRecursion (λ y. sooner r c y ≡ true) (drop i xs) → Ascending (sooner r) (insert xs i c)
  ascending_inserted c zero xs h a b = (b, h)
  ascending_inserted c (suc i) [] h a b = (tt, tt)
  ascending_inserted c (suc i) (x ∷ xs) h a b = (All-append (λ y. sooner r x y ≡ true) (take i xs) (c ∷ drop i xs) (All-take (λ y. sooner r x y ≡ true) i xs h.0) (a.0, All-drop (λ y. sooner r x y ≡ true) i xs h.0), ascending_inserted c i xs h.1 a.1 b)

  -- of what ascends, the first n hold each
  pub held_taken : (n : ℕ) (ys : List Candidate) (y : Candidate) → Ascending (sooner r) ys → ContainsAt ys y → Held r n (take n ys) y.legs
  held_taken zero ys y h has = inr (omega arith, tt)
  held_taken (suc n) [] y h has = absurd (omega (arith, has.1))
  held_taken (suc n) (x ∷ ys) y h has = go (held_taken n ys y h.1) (has_cons_cases ys x y has)
    where
      more : ContainsAt ys y → Held r n (take n ys) y.legs → Held r (suc n) (x ∷ take n ys) y.legs
      more a (inl b) = inl (b.0, has_cons (take n ys) x b.0 b.1, b.2)
      more a (inr b) = inr (omega (arith, b.0), (all-has (λ z. sooner r x z ≡ true) ys y h.0 a, b.1))

      go : (ContainsAt ys y → Held r n (take n ys) y.legs) → ContainsAt ys y ⊎ (x ≡ y) → Held r (suc n) (x ∷ take n ys) y.legs
      go ih (inl a) = more a (ih a)
      go ih (inr e) = inl (x, (zero, omega arith, λ d. refl), ap (λ (z : Candidate). z.legs) e)

  -- n that are before v stay n that are before v
  full_inserted : (n i : ℕ) (xs : List Candidate) (c d : Candidate) (v : List ℕ) → i ≤ length xs → (i < length xs → r c.legs (get_or xs i d).legs ≡ true) → n ≤ length xs → AllByRecursion (λ y. r y.legs v ≡ true) xs → (n ≤ length (take n (insert xs i c))) × AllByRecursion (λ y. r y.legs v ≡ true) (take n (insert xs i c))
  full_inserted n i xs c d v le at full all = (omega (arith, length-take n (insert xs i c), length-insert xs i c le), go (cases_lt i n))
    where
      go : (i < n) ⊎ (n ≤ i) → AllByRecursion (λ y. r y.legs v ≡ true) (take n (insert xs i c))
      go (inl b) =
          let l : i < length xs = omega arith in
          All-take (λ y. r y.legs v ≡ true) n (insert xs i c) (All-append (λ y. r y.legs v ≡ true) (take i xs) (c ∷ drop i xs) (All-take (λ y. r y.legs v ≡ true) i xs all) (o.onward c.legs (get_or xs i d).legs v (at l) (All-get_or (λ y. r y.legs v ≡ true) xs i d l all), All-drop (λ y. r y.legs v ≡ true) i xs all))
      go (inr b) =
          subst⁻¹ (λ (zs : List Candidate). AllByRecursion (λ y. r y.legs v ≡ true) zs) (take-append-le n (take i xs) (c ∷ drop i xs) (omega (arith, length-take-le i xs le))) (All-take (λ y. r y.legs v ≡ true) n (take i xs) (All-take (λ y. r y.legs v ≡ true) i xs all))

  -- what is held is held after an insertion that drops what is too many
  pub held_inserted : (n i : ℕ) (xs : List Candidate) (c d : Candidate) (v : List ℕ) → i ≤ length xs → Ascending (sooner r) (insert xs i c) → (i < length xs → r c.legs (get_or xs i d).legs ≡ true) → Held r n xs v → Held r n (take n (insert xs i c)) v
  held_inserted n i xs c d v le up at (inl a) = subst (λ (x : List ℕ). Held r n (take n (insert xs i c)) x) a.2 (held_taken n (insert xs i c) a.0 up (has_inserted i xs c a.0 a.1))
  held_inserted n i xs c d v le up at (inr a) = inr (full_inserted n i xs c d v le at a.0 a.1)
