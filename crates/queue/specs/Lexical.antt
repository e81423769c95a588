-- Entries by a key, and by a number where their keys are equal.
use Rattle.std.specs.Prelude.{◌≡◌, ℕ, ◌<◌, Bool, true, false, cond, ltb, ◌⊎◌, nat_lt}
use Rattle.std.proofs.Common.{sym, ap, ◌∙◌, inl, inr, arith}
use Rattle.std.proofs.lemmas.Bool.{lt-ltb, le-ltb, ltb-true, ltb-false, cases_Bool, both_ways, cond-true, cond-false}
use Rattle.queue.specs.Order.{Strict}

-- numbers come in their own order
pub numbers_strict : Strict ltb
numbers_strict = record {
  one_way = λ x y e. le-ltb y x (omega (arith, ltb-true x y e));
  chain = λ x y z e f. lt-ltb x z (omega (arith, ltb-true x y e, ltb-true y z f));
  apart = λ x y e f. omega (arith, ltb-false x y e, ltb-false y x f);
}

abbrev pub lexical : {C E : Type 0} → (C → C → Bool) → (E → C) → (E → ℕ) → E → E → Bool
lexical less key number x y = cond (less (key x) (key y)) true (cond (less (key y) (key x)) false (nat_lt (number x) (number y)))

module _ {C E : Type 0} (less : C → C → Bool) (o : Strict less) (key : E → C) (number : E → ℕ) (same : (x y : E) → key x ≡ key y → number x ≡ number y → x ≡ y) where
  never : (a : C) → less a a ≡ false
  never a = go (cases_Bool (less a a))
    where
      go : (less a a ≡ true) ⊎ (less a a ≡ false) → less a a ≡ false
      go (inl t) = o.one_way a a t
      go (inr f) = f

  -- an earlier key, or an equal one and a smaller number
  abbrev Sooner : E → E → Type 0
  Sooner x y = (less (key x) (key y) ≡ true) ⊎ ((key x ≡ key y) × (number x < number y))

  told : (x y : E) → lexical less key number x y ≡ true → Sooner x y
  told x y e = go (cases_Bool (less (key x) (key y))) (cases_Bool (less (key y) (key x)))
    where
      go : (less (key x) (key y) ≡ true) ⊎ (less (key x) (key y) ≡ false) → (less (key y) (key x) ≡ true) ⊎ (less (key y) (key x) ≡ false) → Sooner x y
      go (inl t) s = inl t
      go (inr f) (inl t) = absurd (both_ways (lexical less key number x y) (cond-false _ _ _ f ∙ cond-true _ _ _ t) e)
      go (inr f) (inr g) = inr (o.apart (key x) (key y) f g, ltb-true _ _ (sym (cond-false _ _ _ f ∙ cond-false _ _ _ g) ∙ e))

  shown : (x y : E) → Sooner x y → lexical less key number x y ≡ true
  shown x y (inl t) = cond-true _ _ _ t
  shown x y (inr h) =
      cond-false _ _ _ (ap (λ c. less c (key y)) h.0 ∙ never (key y)) ∙ cond-false _ _ _ (ap (less (key y)) h.0 ∙ never (key y)) ∙ lt-ltb _ _ h.1

  one : (x y : E) → Sooner x y → lexical less key number y x ≡ false
  one x y (inl t) = cond-false _ _ _ (o.one_way _ _ t) ∙ cond-true _ _ _ t
  one x y (inr h) =
      cond-false _ _ _ (ap (less (key y)) h.0 ∙ never (key y)) ∙ cond-false _ _ _ (ap (λ c. less c (key y)) h.0 ∙ never (key y)) ∙ le-ltb _ _ (omega (arith, h.1))

  chained : (x y z : E) → Sooner x y → Sooner y z → Sooner x z
  chained x y z (inl s) (inl t) = inl (o.chain _ _ _ s t)
  chained x y z (inl s) (inr t) = inl (sym (ap (less (key x)) t.0) ∙ s)
  chained x y z (inr s) (inl t) = inl (ap (λ c. less c (key z)) s.0 ∙ t)
  chained x y z (inr s) (inr t) = inr (s.0 ∙ t.0, omega (arith, s.1, t.1))

  tied : (x y : E) → lexical less key number x y ≡ false → lexical less key number y x ≡ false → x ≡ y
  tied x y e f = go (cases_Bool (less (key x) (key y))) (cases_Bool (less (key y) (key x)))
    where
      go : (less (key x) (key y) ≡ true) ⊎ (less (key x) (key y) ≡ false) → (less (key y) (key x) ≡ true) ⊎ (less (key y) (key x) ≡ false) → x ≡ y
      go (inl t) s = absurd (both_ways (lexical less key number x y) e (cond-true _ _ _ t))
      go (inr s) (inl t) = absurd (both_ways (lexical less key number y x) f (cond-true _ _ _ t))
      go (inr s) (inr t) = same x y (o.apart _ _ s t) (omega (arith, ltb-false (number x) (number y) (sym (cond-false _ _ _ s ∙ cond-false _ _ _ t) ∙ e), ltb-false (number y) (number x) (sym (cond-false _ _ _ t ∙ cond-false _ _ _ s) ∙ f)))

  pub lexical_strict : Strict (lexical less key number)
  lexical_strict = record {
    one_way = λ x y e. one x y (told x y e);
    chain = λ x y z e f. shown x z (chained x y z (told x y e) (told y z f));
    apart = tied;
  }
