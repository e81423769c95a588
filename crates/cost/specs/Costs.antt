-- What a cost model answers, and the laws that it keeps.
use Rattle.std.specs.Prelude.{◌≡◌, ℕ, ◌+◌, ◌≤◌, Bool, true, false}
use Rattle.network.specs.Meaning.{Figures}
use Rattle.network.specs.declared.leg.Leg.{Leg}

-- `stands c n`: the cost c stands for at most n legs
pub record Costs (C : Type 0) : Type 1 where
  pub zero : C
  pub of_leg : Leg → C
  pub join : C → C → C
  pub before : C → C → Bool
  pub stands : C → ℕ → Type 0

-- The order is total over all costs. The other laws hold while each joined cost in them stands for at most 63 legs.
pub record Laws {C : Type 0} (k : Costs C) : Type 0 where
  pub stands_zero : k.stands k.zero 0
  pub stands_leg : (l : Leg) → Figures l → k.stands (k.of_leg l) 1
  pub stands_join : (a b : C) (m n : ℕ) → k.stands a m → k.stands b n → m + n ≤ 63 → k.stands (k.join a b) (m + n)
  pub zero_left : (a : C) (m : ℕ) → k.stands a m → m ≤ 63 → k.join k.zero a ≡ a
  pub zero_right : (a : C) (m : ℕ) → k.stands a m → m ≤ 63 → k.join a k.zero ≡ a
  pub assoc : (a b c : C) (m n p : ℕ) → k.stands a m → k.stands b n → k.stands c p → m + n + p ≤ 63 → k.join (k.join a b) c ≡ k.join a (k.join b c)
  pub irreflexive : (a : C) → k.before a a ≡ false
  pub one_way : (a b : C) → k.before a b ≡ true → k.before b a ≡ false
  pub total : (a b : C) → k.before a b ≡ false → k.before b a ≡ false → a ≡ b
  pub carries : (a b c : C) → k.before a b ≡ true → k.before b c ≡ true → k.before a c ≡ true
  -- a joined with b never comes before a
  pub grows : (a b : C) (m n : ℕ) → k.stands a m → k.stands b n → m + n ≤ 63 → k.before (k.join a b) a ≡ false
  -- joining on either side keeps what comes before
  pub keeps_right : (a b c : C) (m n p : ℕ) → k.stands a m → k.stands b n → k.stands c p → m + p ≤ 63 → n + p ≤ 63 → k.before a b ≡ true → k.before (k.join a c) (k.join b c) ≡ true
  pub keeps_left : (a b c : C) (m n p : ℕ) → k.stands a m → k.stands b n → k.stands c p → m + p ≤ 63 → n + p ≤ 63 → k.before a b ≡ true → k.before (k.join c a) (k.join c b) ≡ true
