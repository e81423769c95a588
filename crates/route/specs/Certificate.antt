-- What the two phases of a least-route search leave behind, checked leg by leg, and what follows from it.
-- The search works backward from the goal. Phase 1 settles stations, phase 2 labels them.
use Rattle.std.specs.Prelude.{◌≡◌, ℕ, zero, suc, ◌<◌, ◌≤◌, Bool, true, false, List, [], ◌∷◌, length, Some, None, Option, ◌≢◌}
use Rattle.network.specs.declared.leg.Leg.{Leg}
use Rattle.network.specs.Meaning.{Meaning, Sound}
use Rattle.cost.specs.Costs.{Costs, Laws}
use Rattle.route.specs.Routes.{Bars, Route, Least}

-- the leg l stands at the number e, and neither it nor an end of it is barred
pub record Usable (m : Meaning) (b : Bars) (e : ℕ) (l : Leg) : Type 0 where
  pub shown : m.at e ≡ Some l
  pub free : b.leg e ≡ false
  pub from_free : b.station l.from ≡ false
  pub to_free : b.station l.to ≡ false

-- a usable leg that gives its first station's cost
pub record Tight {C : Type 0} (k : Costs C) (m : Meaning) (b : Bars) (D : ℕ → C) (e : ℕ) (l : Leg) : Type 0 where
  pub usable : Usable m b e l
  pub gives : D l.from ≡ k.join (k.of_leg l) (D l.to)

-- Phase 1: `ord v` is the place at which v was settled, `D v` its cost.
pub record Settling {C : Type 0} (k : Costs C) (m : Meaning) (b : Bars) (goal : ℕ) (settled : ℕ → Bool) (ord : ℕ → ℕ) (D : ℕ → C) : Type 0 where
  pub goal_settled : settled goal ≡ true
  pub goal_cost : D goal ≡ k.zero
  pub early : (v : ℕ) → settled v ≡ true → ord v ≤ 63
  -- nothing that leads to a settled station is left out
  pub closed : (e : ℕ) (l : Leg) → Usable m b e l → settled l.to ≡ true → settled l.from ≡ true
  -- each cost comes from a station settled earlier
  pub witness : (v : ℕ) → settled v ≡ true → (v ≢ goal) → (e : ℕ) × (l : Leg) × Tight k m b D e l × (l.from ≡ v) × (settled l.to ≡ true) × (ord l.to < ord v)
  -- no station settled earlier gives a lower one
  pub bounds : (e : ℕ) (l : Leg) → Usable m b e l → settled l.to ≡ true → ord l.to < ord l.from → k.before (k.join (k.of_leg l) (D l.to)) (D l.from) ≡ false
  -- stations are settled in rising cost
  pub sorted : (v w : ℕ) → settled v ≡ true → settled w ≡ true → ord v ≤ ord w → k.before (D w) (D v) ≡ false

-- Phase 2: `hops v` is the fewest legs from v at the cost D v, and 64 or more where v has no label; `first v` is the leg to take.
pub record Labelling {C : Type 0} (k : Costs C) (m : Meaning) (b : Bars) (goal : ℕ) (D : ℕ → C) (hops first : ℕ → ℕ) : Type 0 where
  pub goal_hops : hops goal ≡ 0
  -- a label comes over a tight leg, from a label that is one less
  pub step : (v : ℕ) → (v ≢ goal) → hops v ≤ 63 → (l : Leg) × Tight k m b D (first v) l × (l.from ≡ v) × (hops v ≡ suc (hops l.to))
  -- each tight leg to a label was looked at
  pub fewest : (e : ℕ) (l : Leg) → Tight k m b D e l → hops l.to ≤ 62 → hops l.from ≤ suc (hops l.to)
  -- in rising leg number
  pub lowest : (e : ℕ) (l : Leg) → Tight k m b D e l → hops l.to ≤ 62 → hops l.from ≡ suc (hops l.to) → first l.from ≤ e

pub record Certificate {C : Type 0} (k : Costs C) (m : Meaning) (b : Bars) (goal : ℕ) (settled : ℕ → Bool) (ord : ℕ → ℕ) (D : ℕ → C) (hops first : ℕ → ℕ) : Type 0 where
  pub settling : Settling k m b goal settled ord D
  pub labelling : Labelling k m b goal D hops first

-- where a leg ends
abbrev pub leg_end : Option Leg → ℕ
leg_end None = 0
leg_end (Some l) = l.to

-- n legs from v on, each station's own first leg
abbrev pub follow : Meaning → (ℕ → ℕ) → ℕ → ℕ → List ℕ
follow m first zero v = []
follow m first (suc n) v = first v ∷ follow m first n (leg_end (m.at (first v)))

-- what a certificate tells of one start
pub record Answers {C : Type 0} (k : Costs C) (m : Meaning) (b : Bars) (start goal : ℕ) (settled : ℕ → Bool) (D : ℕ → C) (hops first : ℕ → ℕ) : Type 0 where
  pub labelled : settled start ≡ true → hops start ≤ 63
  pub reached : hops start ≤ 63 → settled start ≡ true
  pub least : settled start ≡ true → (start ≢ goal) → Least k m b start goal (follow m first (hops start) start)
  pub none : settled start ≡ false → (is : List ℕ) → Route m b start goal is → ⊥
  pub same : start ≡ goal → (is : List ℕ) → Route m b start goal is → ⊥

-- a loopless route has at most 63 legs
abbrev pub Short : Meaning → Type 0
Short m = (b : Bars) (start goal : ℕ) (is : List ℕ) → Route m b start goal is → length is ≤ 63

-- a certificate answers for every start
abbrev pub Certified : {C : Type 0} → Costs C → Type 0
Certified {C} k = Laws k → (m : Meaning) → Sound m → Short m → (b : Bars) (goal : ℕ) (settled : ℕ → Bool) (ord : ℕ → ℕ) (D : ℕ → C) (hops first : ℕ → ℕ) → Certificate k m b goal settled ord D hops first → (start : ℕ) → Answers k m b start goal settled D hops first
