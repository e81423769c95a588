-- Loopless routes and their rank.
use Rattle.std.specs.Prelude.{◌≡◌, ℕ, ◌<◌, Bool, true, false, cond, List, [], ◌∷◌, length, Some, None, Option, ◌==◌, nat_lt}
use Rattle.network.specs.declared.leg.Leg.{Leg}
use Rattle.network.specs.Meaning.{Meaning}
use Rattle.cost.specs.Costs.{Costs}

-- P of the leg that is shown; nothing shown fails it
abbrev pub Shown : Option Leg → (Leg → Type 0) → Type 0
Shown None P = ⊥
Shown (Some l) P = P l

-- the stations and the legs that a route may not use
pub record Bars : Type 0 where
  pub station : ℕ → Bool
  pub leg : ℕ → Bool

abbrev pub no_bars : Bars
no_bars = record { station = λ s. false; leg = λ i. false }

-- the bars with one station more
abbrev pub barring : ℕ → Bars → Bars
barring a b = record { station = λ s. cond (s == a) true (b.station s); leg = b.leg }

-- the legs `is`, in order, lead from `a` to `goal` over nothing barred, and meet no station twice
abbrev pub Leads : Meaning → Bars → ℕ → List ℕ → ℕ → Type 0
Leads m b a [] goal = a ≡ goal
Leads m b a (i ∷ is) goal = Shown (m.at i) (λ l. (b.leg i ≡ false) × (l.from ≡ a) × ((barring a b).station l.to ≡ false) × Leads m (barring a b) l.to is goal)

-- a loopless route from start to goal that meets nothing barred, its ends included
pub record Route (m : Meaning) (b : Bars) (start goal : ℕ) (is : List ℕ) : Type 0 where
  pub some : 0 < length is
  pub free : b.station start ≡ false
  pub leads : Leads m b start is goal

abbrev pub leg_cost : {C : Type 0} → Costs C → Option Leg → C
leg_cost k None = k.zero
leg_cost k (Some l) = k.of_leg l

-- the costs of the legs, joined in order
abbrev pub cost : {C : Type 0} → Costs C → Meaning → List ℕ → C
cost k m [] = k.zero
cost k m (i ∷ is) = k.join (leg_cost k (m.at i)) (cost k m is)

-- of two lists of one length, the first has the lower number at the first difference
abbrev pub lower : List ℕ → List ℕ → Bool
lower [] js = false
lower (i ∷ is) [] = false
lower (i ∷ is) (j ∷ js) = cond (i == j) (lower is js) (nat_lt i j)

-- fewer legs, then the lower leg number at the first difference
abbrev pub shorter : List ℕ → List ℕ → Bool
shorter is js = cond (length is == length js) (lower is js) (nat_lt (length is) (length js))

-- `is` ranks before `js`: by cost, then by fewer legs, then by the lower leg number at the first difference
abbrev pub ahead : {C : Type 0} → Costs C → Meaning → List ℕ → List ℕ → Bool
ahead k m is js = cond (k.before (cost k m is) (cost k m js)) true (cond (k.before (cost k m js) (cost k m is)) false (shorter is js))

-- `is` is the first route in rank
pub record Least {C : Type 0} (k : Costs C) (m : Meaning) (b : Bars) (start goal : ℕ) (is : List ℕ) : Type 0 where
  pub route : Route m b start goal is
  pub first : (js : List ℕ) → Route m b start goal js → ahead k m js is ≡ false
