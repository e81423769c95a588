-- The rank is a strict total order.
use Rattle.std.proofs.Common.{◌≡◌, ℕ, ◌<◌, Bool, true, false, eqb, ◌⊎◌, List, [], ◌∷◌, length, sym, refl, ◌∙◌, inl, inr, arith}
use Rattle.std.proofs.lemmas.Bool.{cases_Bool, both_ways, eqb-true, ltb-true, lt-ltb, eq-eqb, ne_eqb, cases_order}
use Rattle.route.specs.Claims.{Strict}
use Rattle.network.specs.Meaning.{Meaning}
use Rattle.cost.specs.Costs.{Costs, Laws}
use Rattle.route.specs.Routes.{cost, lower, shorter, ahead}

module _ {X : Type 0} {r : X → X → Bool} (o : Strict r) where
  pub strict_one_way : (x y : X) → r x y ≡ true → r y x ≡ false
  strict_one_way x y h = go (cases_Bool (r y x))
    where
      go : (r y x ≡ true) ⊎ (r y x ≡ false) → r y x ≡ false
      go (inl e) = absurd (both_ways (r x x) (o.never x) (o.onward x y x h e))
      go (inr e) = e

  -- "not behind" goes on
  pub strict_behind : (x y z : X) → r y x ≡ false → r z y ≡ false → r z x ≡ false
  strict_behind x y z h k = go (cases_Bool (r z x)) (cases_Bool (r x y))
    where
      go : (r z x ≡ true) ⊎ (r z x ≡ false) → (r x y ≡ true) ⊎ (r x y ≡ false) → r z x ≡ false
      go (inr e) c = e
      go (inl e) (inl f) = absurd (both_ways (r z y) k (o.onward z x y e f))
      go (inl e) (inr f) = absurd (both_ways (r z y) k (rw (o.same x y f h) at e))

lower_never : (xs : List ℕ) → lower xs xs ≡ false
lower_never [] = refl
lower_never (x ∷ xs) = rw (eq-eqb x x refl) (lower_never xs)

-- the first is lower at the first difference
lower_cons : (x y : ℕ) (xs ys : List ℕ) → lower (x ∷ xs) (y ∷ ys) ≡ true → (x < y) ⊎ ((x ≡ y) × (lower xs ys ≡ true))
lower_cons x y xs ys h = go (cases_Bool (eqb x y))
  where
    go : (eqb x y ≡ true) ⊎ (eqb x y ≡ false) → (x < y) ⊎ ((x ≡ y) × (lower xs ys ≡ true))
    go (inl e) = inr (eqb-true x y e, rw e at h)
    go (inr e) = inl (ltb-true x y (rw e at h))

lower_less : (x y : ℕ) (xs ys : List ℕ) → x < y → lower (x ∷ xs) (y ∷ ys) ≡ true
lower_less x y xs ys h = rw (ne_eqb x y (λ e. omega arith)) (lt-ltb x y h)

lower_tail : (x y : ℕ) (xs ys : List ℕ) → x ≡ y → lower (x ∷ xs) (y ∷ ys) ≡ lower xs ys
lower_tail x y xs ys e = rw (eq-eqb x y e) refl

lower_onward : (xs ys zs : List ℕ) → lower xs ys ≡ true → lower ys zs ≡ true → lower xs zs ≡ true
lower_onward [] ys zs h k = h
lower_onward (x ∷ xs) [] zs h k = absurd (both_ways false refl h)
lower_onward (x ∷ xs) (y ∷ ys) [] h k = k
lower_onward (x ∷ xs) (y ∷ ys) (z ∷ zs) h k = go (lower_onward xs ys zs) (lower_cons x y xs ys h) (lower_cons y z ys zs k)
  where
    go : (lower xs ys ≡ true → lower ys zs ≡ true → lower xs zs ≡ true) → (x < y) ⊎ ((x ≡ y) × (lower xs ys ≡ true)) → (y < z) ⊎ ((y ≡ z) × (lower ys zs ≡ true)) → lower (x ∷ xs) (z ∷ zs) ≡ true
    go ih (inl a) (inl b) = lower_less x z xs zs (omega arith)
    go ih (inl a) (inr b) = lower_less x z xs zs (omega arith)
    go ih (inr a) (inl b) = lower_less x z xs zs (omega arith)
    go ih (inr a) (inr b) = lower_tail x z xs zs (a.0 ∙ b.0) ∙ ih a.1 b.1

lower_same : (xs ys : List ℕ) → length xs ≡ length ys → lower xs ys ≡ false → lower ys xs ≡ false → xs ≡ ys
lower_same [] [] l h k = refl
lower_same [] (y ∷ ys) l h k = absurd (omega arith)
lower_same (x ∷ xs) [] l h k = absurd (omega arith)
lower_same (x ∷ xs) (y ∷ ys) l h k = go (lower_same xs ys (omega arith)) (cases_order x y)
  where
    go : (lower xs ys ≡ false → lower ys xs ≡ false → xs ≡ ys) → (x ≡ y) ⊎ ((x < y) ⊎ (y < x)) → x ∷ xs ≡ y ∷ ys
    go ih (inl e) = let t : xs ≡ ys = ih (sym (lower_tail x y xs ys e) ∙ h) (sym (lower_tail y x ys xs (sym e)) ∙ k) in cc
    go ih (inr (inl c)) = absurd (both_ways (lower (x ∷ xs) (y ∷ ys)) h (lower_less x y xs ys c))
    go ih (inr (inr c)) = absurd (both_ways (lower (y ∷ ys) (x ∷ xs)) k (lower_less y x ys xs c))

shorter_parts : (xs ys : List ℕ) → shorter xs ys ≡ true → (length xs < length ys) ⊎ ((length xs ≡ length ys) × (lower xs ys ≡ true))
shorter_parts xs ys h = go (cases_Bool (eqb (length xs) (length ys)))
  where
    go : (eqb (length xs) (length ys) ≡ true) ⊎ (eqb (length xs) (length ys) ≡ false) → (length xs < length ys) ⊎ ((length xs ≡ length ys) × (lower xs ys ≡ true))
    go (inl e) = inr (eqb-true (length xs) (length ys) e, rw e at h)
    go (inr e) = inl (ltb-true (length xs) (length ys) (rw e at h))

pub shorter_less : (xs ys : List ℕ) → length xs < length ys → shorter xs ys ≡ true
shorter_less xs ys h = rw (ne_eqb (length xs) (length ys) (λ e. omega arith)) (lt-ltb (length xs) (length ys) h)

pub shorter_level : (xs ys : List ℕ) → length xs ≡ length ys → shorter xs ys ≡ lower xs ys
shorter_level xs ys e = rw (eq-eqb (length xs) (length ys) e) refl

pub shorter_strict : Strict shorter
shorter_strict = record { never = λ x. shorter_level x x refl ∙ lower_never x; onward = on; same = as_one }
  where
    on : (x y z : List ℕ) → shorter x y ≡ true → shorter y z ≡ true → shorter x z ≡ true
    on x y z h k = go (shorter_parts x y h) (shorter_parts y z k)
      where
        go : (length x < length y) ⊎ ((length x ≡ length y) × (lower x y ≡ true)) → (length y < length z) ⊎ ((length y ≡ length z) × (lower y z ≡ true)) → shorter x z ≡ true
        go (inl a) (inl b) = shorter_less x z (omega arith)
        go (inl a) (inr b) = shorter_less x z (omega arith)
        go (inr a) (inl b) = shorter_less x z (omega arith)
        go (inr a) (inr b) = shorter_level x z (a.0 ∙ b.0) ∙ lower_onward x y z a.1 b.1

    as_one : (x y : List ℕ) → shorter x y ≡ false → shorter y x ≡ false → x ≡ y
    as_one x y h k = go (cases_order (length x) (length y))
      where
        go : (length x ≡ length y) ⊎ ((length x < length y) ⊎ (length y < length x)) → x ≡ y
        go (inl e) = lower_same x y e (sym (shorter_level x y e) ∙ h) (sym (shorter_level y x (sym e)) ∙ k)
        go (inr (inl c)) = absurd (both_ways (shorter x y) h (shorter_less x y c))
        go (inr (inr c)) = absurd (both_ways (shorter y x) k (shorter_less y x c))

module _ (m : Meaning) {C : Type 0} (k : Costs C) (laws : Laws k) where
  -- ranked by the cost, or at one cost by the legs
  pub ahead_parts : (x y : List ℕ) → ahead k m x y ≡ true → (k.before (cost k m x) (cost k m y) ≡ true) ⊎ ((cost k m x ≡ cost k m y) × (shorter x y ≡ true))
  ahead_parts x y h = go (cases_Bool (k.before (cost k m x) (cost k m y))) (cases_Bool (k.before (cost k m y) (cost k m x)))
    where
      go : (k.before (cost k m x) (cost k m y) ≡ true) ⊎ (k.before (cost k m x) (cost k m y) ≡ false) → (k.before (cost k m y) (cost k m x) ≡ true) ⊎ (k.before (cost k m y) (cost k m x) ≡ false) → (k.before (cost k m x) (cost k m y) ≡ true) ⊎ ((cost k m x ≡ cost k m y) × (shorter x y ≡ true))
      go (inl e) f = inl e
      go (inr e) (inl f) = absurd (both_ways false refl (rw (e, f) at h))
      go (inr e) (inr f) = inr (laws.total (cost k m x) (cost k m y) e f, rw (e, f) at h)

  pub ahead_by_cost : (x y : List ℕ) → k.before (cost k m x) (cost k m y) ≡ true → ahead k m x y ≡ true
  ahead_by_cost x y h = rw h refl

  pub ahead_by_legs : (x y : List ℕ) → cost k m x ≡ cost k m y → ahead k m x y ≡ shorter x y
  ahead_by_legs x y e = rw (e, laws.irreflexive (cost k m y)) refl

  pub ahead_strict : Strict (ahead k m)
  ahead_strict = record { never = λ x. ahead_by_legs x x refl ∙ shorter_strict.never x; onward = on; same = as_one }
    where
      on : (x y z : List ℕ) → ahead k m x y ≡ true → ahead k m y z ≡ true → ahead k m x z ≡ true
      on x y z h j = go (ahead_parts x y h) (ahead_parts y z j)
        where
          go : (k.before (cost k m x) (cost k m y) ≡ true) ⊎ ((cost k m x ≡ cost k m y) × (shorter x y ≡ true)) → (k.before (cost k m y) (cost k m z) ≡ true) ⊎ ((cost k m y ≡ cost k m z) × (shorter y z ≡ true)) → ahead k m x z ≡ true
          go (inl a) (inl b) = ahead_by_cost x z (laws.carries (cost k m x) (cost k m y) (cost k m z) a b)
          go (inl a) (inr b) = ahead_by_cost x z (rw b.0 at a)
          go (inr a) (inl b) = ahead_by_cost x z (rw a.0 b)
          go (inr a) (inr b) = ahead_by_legs x z (a.0 ∙ b.0) ∙ shorter_strict.onward x y z a.1 b.1

      as_one : (x y : List ℕ) → ahead k m x y ≡ false → ahead k m y x ≡ false → x ≡ y
      as_one x y h j = go (cases_Bool (k.before (cost k m x) (cost k m y))) (cases_Bool (k.before (cost k m y) (cost k m x)))
        where
          go : (k.before (cost k m x) (cost k m y) ≡ true) ⊎ (k.before (cost k m x) (cost k m y) ≡ false) → (k.before (cost k m y) (cost k m x) ≡ true) ⊎ (k.before (cost k m y) (cost k m x) ≡ false) → x ≡ y
          go (inl e) f = absurd (both_ways (ahead k m x y) h (ahead_by_cost x y e))
          go (inr e) (inl f) = absurd (both_ways (ahead k m y x) j (ahead_by_cost y x f))
          go (inr e) (inr f) =
              let c : cost k m x ≡ cost k m y = laws.total (cost k m x) (cost k m y) e f in
              shorter_strict.same x y (sym (ahead_by_legs x y c) ∙ h) (sym (ahead_by_legs y x (sym c)) ∙ j)
