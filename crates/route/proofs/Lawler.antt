-- Lawler: what a new given route changes.
use Rattle.std.proofs.Common.{◌≡◌, ℕ, ◌<◌, ◌≤◌, Bool, true, false, ◌&&◌, ◌||◌, eqb, ◌⊎◌, List, [], ◌∷◌, ◌++◌, length, take, drop, sym, refl, ap, ◌∙◌, subst, inl, inr, arith, length-append, take-append-drop, length-take-le, take-take}
use mathlib.Core.Path.{fun_ext}
use lib.Seq.{take-append_seam, take-append-le}
use Rattle.std.specs.List.{ContainsAt}
use Rattle.std.proofs.ByRecursion.{has_push_cases}
use Rattle.std.proofs.lemmas.Bool.{cases_Bool, cases_lt, both_ways}
use Rattle.network.specs.Meaning.{Meaning}
use Rattle.route.specs.Routes.{Bars, no_bars}
use Rattle.route.specs.Deviation.{passed, goes_on, taken, deviation}
use Rattle.route.specs.Claims.{Onward}
use Rattle.route.proofs.Deviations.{goes_on_is, lists_cases, taken_since}

-- a root and its next leg are read off the front
goes_on_front : (r : List ℕ) (j : ℕ) (x y z : List ℕ) → length r < length x → goes_on r j (x ++ y) ≡ goes_on r j (x ++ z)
goes_on_front r j [] y z l = absurd (omega arith)
goes_on_front [] j (a ∷ x) y z l = refl
goes_on_front (i ∷ r) j (a ∷ x) y z l = ap (λ (b : Bool). eqb a i && b) (goes_on_front r j x y z (omega arith))

taken_push_is : (given : List (List ℕ)) (w r : List ℕ) (j : ℕ) → taken (given ++ w ∷ []) r j ≡ (taken given r j || goes_on r j w)
taken_push_is [] w r j = elim (goes_on r j w) as (λ b. (b || false) ≡ b) [ true ↦ refl | false ↦ refl ]
taken_push_is (g ∷ gs) w r j = elim (goes_on r j g) as (λ b. (b || taken (gs ++ w ∷ []) r j) ≡ ((b || taken gs r j) || goes_on r j w)) [ true ↦ refl | false ↦ taken_push_is gs w r j ]

taken_push : (given : List (List ℕ)) (w r : List ℕ) (j : ℕ) → (goes_on r j w ≡ true → taken given r j ≡ true) → taken (given ++ w ∷ []) r j ≡ taken given r j
taken_push given w r j h = taken_push_is given w r j ∙ go (cases_Bool (taken given r j)) (cases_Bool (goes_on r j w))
  where
    go : (taken given r j ≡ true) ⊎ (taken given r j ≡ false) → (goes_on r j w ≡ true) ⊎ (goes_on r j w ≡ false) → (taken given r j || goes_on r j w) ≡ taken given r j
    go (inl e) f = rw e refl
    go (inr e) (inl f) = absurd (both_ways (taken given r j) e (h f))
    go (inr e) (inr f) = rw (e, f) refl

-- the bars stay where the new route goes on as a given one does
pub deviation_kept : (m : Meaning) (given : List (List ℕ)) (s : ℕ) (w r : List ℕ) → ((j : ℕ) → goes_on r j w ≡ true → taken given r j ≡ true) → deviation m (given ++ w ∷ []) s r ≡ deviation m given s r
deviation_kept m given s w r h =
    let F : (ℕ → Bool) → Bars = λ f. record { station = (passed m no_bars s r).station; leg = f } in
    ap F (fun_ext (λ j. taken_push given w r j (h j)))

module _ (m : Meaning) (given : List (List ℕ)) (s : ℕ) (g : List ℕ) (at : ℕ) (q : List ℕ) (has : ContainsAt given g) (l : at < length g) where
  -- short of the deviation the new route goes on as the given one does
  kept_before : (r : List ℕ) → length r < at → deviation m (given ++ (take at g ++ q) ∷ []) s r ≡ deviation m given s r
  kept_before r b = deviation_kept m given s (take at g ++ q) r on
    where
      on : (j : ℕ) → goes_on r j (take at g ++ q) ≡ true → taken given r j ≡ true
      on j e =
          let same : goes_on r j (take at g ++ q) ≡ goes_on r j (take at g ++ drop at g) = goes_on_front r j (take at g) q (drop at g) (omega (arith, length-take-le at g (omega arith))) in
          let there : goes_on r j g ≡ true = ap (goes_on r j) (sym (take-append-drop at g)) ∙ sym same ∙ e in
          let x = (goes_on_is r j g).0 there in
          taken_since given r j x.0 (subst (λ (y : List ℕ). ContainsAt given y) x.1 has)

  -- and a root that the new route has not keeps its bars
  kept_apart : (r : List ℕ) → (take (length r) (take at g ++ q) ≡ r → length r < length (take at g ++ q) → ⊥) → deviation m (given ++ (take at g ++ q) ∷ []) s r ≡ deviation m given s r
  kept_apart r apart = deviation_kept m given s (take at g ++ q) r (λ j e. let x = (goes_on_is r j (take at g ++ q)).0 e in absurd (apart (rw x.1 (take-append_seam r (j ∷ x.0))) (omega (arith, ap length x.1, length-append r (j ∷ x.0)))))

pub onward : Onward
onward m given s g at q has l h i inside within = from (has_push_cases given v h inside) (cases_lt i at)
  where
    v : List ℕ
    v = take at g ++ q

    Kept : Type 0
    Kept = (f : List ℕ) × (j : ℕ) × ContainsAt given f × (j < length f) × (take i h ≡ take j f) × (deviation m (given ++ v ∷ []) s (take i h) ≡ deviation m given s (take i h))

    New : Type 0
    New = (j : ℕ) × (at ≤ j) × (j < length v) × (take i h ≡ take j v)

    size : length (take i h) ≡ i
    size = length-take-le i h (omega arith)

    early : i < at → deviation m (given ++ v ∷ []) s (take i h) ≡ deviation m given s (take i h)
    early b = kept_before m given s g at q has l (take i h) (omega (arith, size))

    late : ContainsAt given h → at ≤ i → (i < length v) ⊎ (length v ≤ i) → (take i v ≡ take i h) ⊎ (take i v ≡ take i h → ⊥) → Kept ⊎ New
    late hg b (inl c) (inl e) = inr (i, b, c, sym e)
    late hg b (inl c) (inr n) = inl (h, i, hg, within, refl, kept_apart m given s g at q has l (take i h) (λ e _. n (rw size at e)))
    late hg b (inr c) d = inl (h, i, hg, within, refl, kept_apart m given s g at q has l (take i h) (λ _ k. omega (arith, size)))

    from : ContainsAt given h ⊎ (v ≡ h) → (i < at) ⊎ (at ≤ i) → Kept ⊎ New
    from (inl hg) (inl b) = inl (h, i, hg, within, refl, early b)
    from (inl hg) (inr b) = late hg b (cases_lt i (length v)) (lists_cases (take i v) (take i h))
    from (inr e) (inl b) = inl (g, i, has, omega arith, sym (ap (take i) e) ∙ take-append-le i (take at g) q (omega (arith, length-take-le at g (omega arith))) ∙ take-take i at g (omega arith), early b)
    from (inr e) (inr b) = inr (i, b, rw e within, ap (take i) (sym e))
