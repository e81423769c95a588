-- The two phases of a least-route search under way: what their loops keep.
use Rattle.std.specs.Prelude.{◌≡◌, ℕ, suc, ◌<◌, ◌≤◌, Bool, true, false, ◌⊎◌, ◌≢◌}
use Rattle.network.specs.declared.leg.Leg.{Leg}
use Rattle.network.specs.Meaning.{Meaning}
use Rattle.cost.specs.Costs.{Costs}
use Rattle.route.specs.Routes.{Bars}
use Rattle.route.specs.Certificate.{Usable, Tight}

-- g is f with x at v
pub record Put {A : Type 0} (f g : ℕ → A) (v : ℕ) (x : A) : Type 0 where
  pub here : g v ≡ x
  pub elsewhere : (y : ℕ) → (y ≢ v) → g y ≡ f y

-- the leg was looked at: its end came in a round before the n-th, or in the n-th, which is at the leg number i
abbrev pub Handled : (ℕ → ℕ) → ℕ → ℕ → ℕ → Leg → Type 0
Handled round n i e l = (round l.to < n) ⊎ ((round l.to ≡ n) × (e < i))

-- Phase 1: c stations are settled, at the places below c, and another's place is 64 or more.
-- `D v` is a settled station's cost, and of another that is seen the least found so far.
-- Of the legs into the station settled last, those with numbers below i were looked at.
pub record SettlingTo {C : Type 0} (k : Costs C) (m : Meaning) (b : Bars) (goal c i : ℕ) (seen : ℕ → Bool) (ord : ℕ → ℕ) (D : ℕ → C) : Type 0 where
  pub goal_seen : seen goal ≡ true
  pub goal_cost : D goal ≡ k.zero
  pub places : (v : ℕ) → ord v ≤ 63 → ord v < c
  pub settled_seen : (v : ℕ) → ord v ≤ 63 → seen v ≡ true
  pub closed : (e : ℕ) (l : Leg) → Usable m b e l → Handled (λ v. suc (ord v)) c i e l → seen l.from ≡ true
  pub witness : (v : ℕ) → seen v ≡ true → (v ≢ goal) → (e : ℕ) × (l : Leg) × Tight k m b D e l × (l.from ≡ v) × (ord l.to ≤ 63) × (ord l.to < ord v)
  pub bounds : (e : ℕ) (l : Leg) → Usable m b e l → Handled (λ v. suc (ord v)) c i e l → ord l.to < ord l.from → k.before (k.join (k.of_leg l) (D l.to)) (D l.from) ≡ false
  pub sorted : (v w : ℕ) → ord v ≤ 63 → seen w ≡ true → ord v ≤ ord w → k.before (D w) (D v) ≡ false

-- Phase 2, in the round h, which is at the leg number i: what has no label has hops of 64 or more.
pub record LabellingTo {C : Type 0} (k : Costs C) (m : Meaning) (b : Bars) (goal h i : ℕ) (D : ℕ → C) (hops first : ℕ → ℕ) : Type 0 where
  pub goal_hops : hops goal ≡ 0
  pub so_far : (v : ℕ) → hops v ≤ 63 → hops v ≤ suc h
  pub newest : (v : ℕ) → hops v ≤ 63 → hops v ≡ suc h → first v < i
  pub step : (v : ℕ) → (v ≢ goal) → hops v ≤ 63 → (l : Leg) × Tight k m b D (first v) l × (l.from ≡ v) × (hops v ≡ suc (hops l.to))
  pub fewest : (e : ℕ) (l : Leg) → Tight k m b D e l → Handled hops h i e l → hops l.from ≤ suc (hops l.to)
  pub lowest : (e : ℕ) (l : Leg) → Tight k m b D e l → Handled hops h i e l → hops l.from ≡ suc (hops l.to) → first l.from ≤ e

-- A queue of costs and stations, known by what stands in it: each open station with its cost, and else only staler costs.
pub record Queued {C : Type 0} (k : Costs C) (seen : ℕ → Bool) (ord : ℕ → ℕ) (D : ℕ → C) (Entry : C → ℕ → Type 0) : Type 0 where
  pub covers : (v : ℕ) → seen v ≡ true → 64 ≤ ord v → Entry (D v) v
  pub stale : (x : C) (v : ℕ) → Entry x v → (seen v ≡ true) × (k.before x (D v) ≡ false)

-- an entry is gone, and no other
pub record Popped {C : Type 0} (Entry Entry' : C → ℕ → Type 0) (x : C) (u : ℕ) : Type 0 where
  pub was : Entry x u
  pub others : (y : C) (w : ℕ) → Entry y w → Entry' y w ⊎ ((y ≡ x) × (w ≡ u))
  pub before : (y : C) (w : ℕ) → Entry' y w → Entry y w

-- an entry is new, and no other
pub record Pushed {C : Type 0} (Entry Entry' : C → ℕ → Type 0) (x : C) (u : ℕ) : Type 0 where
  pub here : Entry' x u
  pub others : (y : C) (w : ℕ) → Entry y w → Entry' y w
  pub only : (y : C) (w : ℕ) → Entry' y w → Entry y w ⊎ ((y ≡ x) × (w ≡ u))
