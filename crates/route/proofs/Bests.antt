-- The first in rank of what leaves behind the roots, and that it is the next route.
use Rattle.std.proofs.Common.{◌≡◌, ℕ, zero, suc, ◌<◌, ◌≤◌, true, false, ◌⊎◌, List, [], ◌∷◌, ◌++◌, length, take, refl, inl, inr, arith}
use mathlib.Core.Path.{subst⁻¹}
use Rattle.std.specs.List.{ContainsAt, HoldsAt, AllByRecursion}
use Rattle.std.proofs.lemmas.Bool.{cases_Bool, cases_lt}
use Rattle.network.specs.Meaning.{Meaning, Sound}
use Rattle.cost.specs.Costs.{Costs, Laws}
use Rattle.route.specs.Routes.{no_bars, Route, ahead}
use Rattle.route.specs.Deviation.{end_of, deviation, Next, Root, Answer, Leading, Best}
use Rattle.route.specs.Claims.{Nexts}
use Rattle.route.proofs.Order.{ahead_strict, strict_one_way}
use Rattle.route.proofs.Deviations.{deviation_sound, leading_kept, next_from, no_other, root_at}

module _ (m : Meaning) (sound : Sound m) {C : Type 0} (k : Costs C) (laws : Laws k) (given : List (List ℕ)) (s t : ℕ) (routes : AllByRecursion (Route m no_bars s t) given) where
  pub best_none : (P : List ℕ → Type 0) → ((p : List ℕ) → P p → ⊥) → Best k m given s t P
  best_none P n = inr (λ p h. absurd (n p h))

  pub best_fewer : (P Q : List ℕ → Type 0) → ((p : List ℕ) → Q p → P p) → Best k m given s t P → Best k m given s t Q
  best_fewer P Q f (inl b) = inl (b.0, b.1, λ p h. b.2 p (f p h))
  best_fewer P Q f (inr n) = inr (λ p h. n p (f p h))

  -- one root
  pub best_one : (r : List ℕ) → Root given r → Answer k m given s t r → Best k m given s t (λ p. p ≡ r)
  best_one r root (inl a) = inl (r ++ a.0, deviation_sound m given s t routes r a.0 root a.1.route, λ p e. subst⁻¹ (λ (x : List ℕ). Leading k m given s t (r ++ a.0) x) e (inl (a.0, a.1, (ahead_strict m k laws).never (r ++ a.0))))
  best_one r root (inr n) = inr (λ p e. subst⁻¹ (λ (x : List ℕ). (q : List ℕ) → Route m (deviation m given s x) (end_of m s x) t q → ⊥) e n)

  -- the roots of two kinds
  pub best_both : (P Q : List ℕ → Type 0) → Best k m given s t P → Best k m given s t Q → Best k m given s t (λ p. P p ⊎ Q p)
  best_both P Q (inr n) (inr o) = inr all
    where
      all : (p : List ℕ) → P p ⊎ Q p → (q : List ℕ) → Route m (deviation m given s p) (end_of m s p) t q → ⊥
      all p (inl h) = n p h
      all p (inr h) = o p h
  best_both P Q (inr n) (inl b) = inl (b.0, b.1, all)
    where
      all : (p : List ℕ) → P p ⊎ Q p → Leading k m given s t b.0 p
      all p (inl h) = inr (n p h)
      all p (inr h) = b.2 p h
  best_both P Q (inl a) (inr n) = inl (a.0, a.1, all)
    where
      all : (p : List ℕ) → P p ⊎ Q p → Leading k m given s t a.0 p
      all p (inl h) = a.2 p h
      all p (inr h) = inr (n p h)
  best_both P Q (inl a) (inl b) = go (cases_Bool (ahead k m a.0 b.0))
    where
      first : ahead k m b.0 a.0 ≡ false → (p : List ℕ) → P p ⊎ Q p → Leading k m given s t a.0 p
      first e p (inl h) = a.2 p h
      first e p (inr h) = leading_kept m sound k laws given s t routes b.0 a.0 e p (b.2 p h)

      second : ahead k m a.0 b.0 ≡ false → (p : List ℕ) → P p ⊎ Q p → Leading k m given s t b.0 p
      second e p (inl h) = leading_kept m sound k laws given s t routes a.0 b.0 e p (a.2 p h)
      second e p (inr h) = b.2 p h

      go : (ahead k m a.0 b.0 ≡ true) ⊎ (ahead k m a.0 b.0 ≡ false) → Best k m given s t (λ p. P p ⊎ Q p)
      go (inl e) = inl (a.0, a.1, first (strict_one_way (ahead_strict m k laws) a.0 b.0 e))
      go (inr e) = inl (b.0, b.1, second e)

  -- the first n roots of a given route
  pub best_upto : (g : List ℕ) → ContainsAt given g → ((i : ℕ) → i < length g → Answer k m given s t (take i g)) → (n : ℕ) → n ≤ length g → Best k m given s t (λ p. (i : ℕ) × (i < n) × (p ≡ take i g))
  best_upto g h answers zero l = best_none (λ p. (i : ℕ) × (i < zero) × (p ≡ take i g)) (λ p x. omega (arith, x.1))
  best_upto g h answers (suc n) l = best_fewer (λ p. ((i : ℕ) × (i < n) × (p ≡ take i g)) ⊎ (p ≡ take n g)) (λ p. (i : ℕ) × (i < suc n) × (p ≡ take i g)) (λ p x. side p x (cases_lt x.0 n)) (best_both (λ p. (i : ℕ) × (i < n) × (p ≡ take i g)) (λ p. p ≡ take n g) (best_upto g h answers n (omega arith)) (best_one (take n g) (root_at given g n h l) (answers n l)))
    where
      side : (p : List ℕ) (x : (i : ℕ) × (i < suc n) × (p ≡ take i g)) → (x.0 < n) ⊎ (n ≤ x.0) → ((i : ℕ) × (i < n) × (p ≡ take i g)) ⊎ (p ≡ take n g)
      side p x (inl b) = inl (x.0, b, x.2)
      side p x (inr b) = let e : x.0 ≡ n = omega (arith, x.1) in inr (rw e at x.2)

  -- the roots of some given routes
  pub best_over : (gs : List (List ℕ)) → ((g : List ℕ) → ContainsAt gs g → ContainsAt given g) → ((g : List ℕ) (i : ℕ) → ContainsAt given g → i < length g → Answer k m given s t (take i g)) → Best k m given s t (Root gs)
  best_over [] sub answers = best_none (Root []) (λ p r. omega (arith, r.has.1))
  best_over (g ∷ gs) sub answers = best_fewer (λ p. ((i : ℕ) × (i < length g) × (p ≡ take i g)) ⊎ Root gs p) (Root (g ∷ gs)) (λ p r. side p r.route r.at r.within r.is r.has.0 r.has.1 r.has.2) (best_both (λ p. (i : ℕ) × (i < length g) × (p ≡ take i g)) (Root gs) (best_upto g here (λ i. answers g i here) (length g) (omega arith)) (best_over gs (λ x h. sub x (suc h.0, omega (arith, h.1), h.2)) answers))
    where
      here : ContainsAt given g
      here = sub g (0, omega arith, λ d. refl)

      side : (p f : List ℕ) (i : ℕ) → i < length f → p ≡ take i f → (n : ℕ) → n < length (g ∷ gs) → HoldsAt (λ (y : List ℕ). y ≡ f) (g ∷ gs) n → ((j : ℕ) × (j < length g) × (p ≡ take j g)) ⊎ Root gs p
      side p f i b e zero l at = let same : g ≡ f = at [] in inl (i, rw same b, rw same e)
      side p f i b e (suc n) l at = inr (record { route = f; has = (n, omega arith, at); at = i; within = b; is = e })

  pub next_or_none : 0 < length given → ((g : List ℕ) (i : ℕ) → ContainsAt given g → i < length g → Answer k m given s t (take i g)) → ((w : List ℕ) × Next k m given s t w) ⊎ ((w : List ℕ) → Route m no_bars s t w → ContainsAt given w)
  next_or_none some answers = go (best_over given (λ g h. h) answers)
    where
      go : Best k m given s t (Root given) → ((w : List ℕ) × Next k m given s t w) ⊎ ((w : List ℕ) → Route m no_bars s t w → ContainsAt given w)
      go (inl b) = inl (b.0, next_from m sound k laws given s t routes b.0 some b.1 b.2)
      go (inr n) = inr (no_other m given s t routes some n)

pub nexts : {C : Type 0} (k : Costs C) → Laws k → Nexts k
nexts k laws =
    record { next = λ m sound given s t routes g i q h l least answers. next_from m sound k laws given s t routes (take i g ++ q) (omega (arith, h.1)) (deviation_sound m given s t routes (take i g) q (root_at given g i h l) least.route) (λ p r. rw r.is (answers r.route r.at r.has r.within)); either = λ m sound given s t routes. next_or_none m sound k laws given s t routes; none = λ m given s t routes some none. no_other m given s t routes some (λ p r q x. none r.route r.at r.has r.within q (rw r.is at x)) }
