-- The bars behind a front, from one front to the next and from one given route to the next.
use Rattle.std.proofs.Common.{◌≡◌, ℕ, ◌+◌, ◌<◌, Bool, true, false, ◌&&◌, ◌||◌, eqb, ◌⊎◌, List, [], ◌∷◌, ◌++◌, length, get_or, take, sym, refl, ap, ◌∙◌, subst, inl, inr, arith, length-append}
use lib.Seq.{take-append_seam}
use Rattle.std.proofs.lemmas.List.{take_more}
use Rattle.std.proofs.lemmas.Bool.{cases_Bool, eq-eqb}
use Rattle.network.specs.Meaning.{Meaning}
use Rattle.route.specs.Routes.{Bars, barring}
use Rattle.route.specs.Deviation.{leads_to, end_of, passed, goes_on, taken}
use Rattle.route.proofs.Walks.{end_append, passed_append}
use Rattle.route.proofs.Deviations.{goes_on_is}

-- one leg more
pub end_more : (m : Meaning) (a : ℕ) (w : List ℕ) (j : ℕ) → j < length w → end_of m a (take (j + 1) w) ≡ leads_to (m.at (get_or w j 0)) (end_of m a (take j w))
end_more m a w j l = ap (end_of m a) (take_more w j 0 l) ∙ end_append m a (take j w) (get_or w j 0 ∷ [])

pub passed_more : (m : Meaning) (b : Bars) (a : ℕ) (w : List ℕ) (j : ℕ) → j < length w → passed m b a (take (j + 1) w) ≡ barring (end_of m a (take j w)) (passed m b a (take j w))
passed_more m b a w j l = ap (passed m b a) (take_more w j 0 l) ∙ passed_append m b a (take j w) (get_or w j 0 ∷ [])

-- a route with the front p takes its leg behind it, and no other
pub goes_on_at : (p : List ℕ) (i : ℕ) (g : List ℕ) → take (length p) g ≡ p → length p < length g → goes_on p i g ≡ eqb (get_or g (length p) 0) i
goes_on_at p i [] e l = absurd (omega arith)
goes_on_at [] i (x ∷ xs) e l = refl
goes_on_at (y ∷ p) i (x ∷ xs) e l =
    let head : x ≡ y = cc in
    let tail : take (length p) xs ≡ p = cc in
    ap (λ (b : Bool). b && goes_on p i xs) (eq-eqb x y head) ∙ goes_on_at p i xs tail (omega arith)

pub goes_on_not : (p : List ℕ) (i : ℕ) (g : List ℕ) → (take (length p) g ≡ p → length p < length g → ⊥) → goes_on p i g ≡ false
goes_on_not p i g apart = go (cases_Bool (goes_on p i g))
  where
    go : (goes_on p i g ≡ true) ⊎ (goes_on p i g ≡ false) → goes_on p i g ≡ false
    go (inr n) = n
    go (inl y) = let x = (goes_on_is p i g).0 y in absurd (apart (subst (λ (z : List ℕ). take (length p) z ≡ p) (sym x.1) (take-append_seam p (i ∷ x.0))) (omega (arith, ap length x.1, length-append p (i ∷ x.0))))

-- one given route more
pub taken_one : (given : List (List ℕ)) (w p : List ℕ) (i : ℕ) → taken (given ++ w ∷ []) p i ≡ (taken given p i || goes_on p i w)
taken_one [] w p i = elim (goes_on p i w) as (λ b. (b || false) ≡ b) [ true ↦ refl | false ↦ refl ]
taken_one (g ∷ gs) w p i = elim (goes_on p i g) as (λ b. (b || taken (gs ++ w ∷ []) p i) ≡ ((b || taken gs p i) || goes_on p i w)) [ true ↦ refl | false ↦ taken_one gs w p i ]

pub taken_more : (given : List (List ℕ)) (n : ℕ) (p : List ℕ) (i : ℕ) → n < length given → taken (take (n + 1) given) p i ≡ (taken (take n given) p i || goes_on p i (get_or given n []))
taken_more given n p i l = ap (λ (gs : List (List ℕ)). taken gs p i) (take_more given n [] l) ∙ taken_one (take n given) (get_or given n []) p i
