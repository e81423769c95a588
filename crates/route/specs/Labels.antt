-- The second phase of a least-route search under way, where the stations with a label stand in a line.
use Rattle.std.specs.Prelude.{◌≡◌, ℕ, suc, ◌<◌, ◌≤◌, ◌⊎◌, ◌≢◌}
use Rattle.network.specs.declared.leg.Leg.{Leg}
use Rattle.network.specs.Meaning.{Meaning}
use Rattle.cost.specs.Costs.{Costs}
use Rattle.route.specs.Routes.{Bars}
use Rattle.route.specs.Certificate.{Tight}

-- the leg was looked at: its end stands in the line before the c-th place, or at the c-th, which is at the leg number i
abbrev pub Reached : (ℕ → ℕ) → ℕ → ℕ → ℕ → Leg → Type 0
Reached line c i e l = (j : ℕ) × (line j ≡ l.to) × ((j < c) ⊎ ((j ≡ c) × (e < i)))

-- Phase 2: n stations have a label, in the order of `line`; what has no label has hops of 64 or more.
-- Of the legs into the c-th of them those with numbers below i were looked at, and all into those before it.
pub record LabellingAlong {C : Type 0} (k : Costs C) (m : Meaning) (b : Bars) (goal c n i : ℕ) (D : ℕ → C) (line hops first : ℕ → ℕ) : Type 0 where
  pub goal_hops : hops goal ≡ 0
  pub listed : (j : ℕ) → j < n → hops (line j) ≤ 63
  pub all : (v : ℕ) → hops v ≤ 63 → (j : ℕ) × (j < n) × (line j ≡ v)
  pub once : (j j' : ℕ) → j < n → j' < n → line j ≡ line j' → j ≡ j'
  pub rising : (j j' : ℕ) → j ≤ j' → j' < n → hops (line j) ≤ hops (line j')
  pub near : (v : ℕ) → hops v ≤ 63 → c < n → hops v ≤ suc (hops (line c))
  pub step : (v : ℕ) → (v ≢ goal) → hops v ≤ 63 → (l : Leg) × Tight k m b D (first v) l × (l.from ≡ v) × (hops v ≡ suc (hops l.to))
  pub fewest : (e : ℕ) (l : Leg) → Tight k m b D e l → Reached line c i e l → hops l.to ≤ 62 → hops l.from ≤ suc (hops l.to)
  pub lowest : (e : ℕ) (l : Leg) → Tight k m b D e l → Reached line c i e l → hops l.to ≤ 62 → hops l.from ≡ suc (hops l.to) → first l.from ≤ e
