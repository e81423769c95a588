-- What overlays do to any network.
use Rattle.std.specs.Prelude.{◌≡◌, ℕ, ◌+◌, ◌<◌, min, Bool, false, Some, None, Option}
use Rattle.network.specs.Meaning.{Meaning}
use Rattle.network.specs.declared.leg.Leg.{Leg}
use Rattle.overlay.specs.Meanings.{closed, capped, delayed}

-- it has as many stations and leg numbers
abbrev pub SameCounts : Meaning → Meaning → Type 0
SameCounts m o = (o.stations ≡ m.stations) × (o.legs ≡ m.legs)

-- every leg that it shows is shown below
abbrev pub ShowsNoMore : Meaning → Meaning → Type 0
ShowsNoMore m o = (i : ℕ) (l : Leg) → o.at i ≡ Some l → m.at i ≡ Some l

-- a leg and the same leg after a wait
pub record OnlySeconds (wait : ℕ) (l k : Leg) : Type 0 where
  pub from_same : k.from ≡ l.from
  pub to_same : k.to ≡ l.to
  pub points_same : k.points ≡ l.points
  pub grade_same : k.grade ≡ l.grade
  pub seconds_more : k.seconds ≡ min 43200 (l.seconds + wait)

-- nothing stays nothing, and a leg stays that leg but for its seconds
abbrev pub WaitsOnly : ℕ → Option Leg → Option Leg → Type 0
WaitsOnly wait None o = o ≡ None
WaitsOnly wait (Some l) o = (k : Leg) × (o ≡ Some k) × OnlySeconds wait l k

pub record ClosureLaws (m : Meaning) : Type 0 where
  pub counts : (shut : ℕ → Bool) → SameCounts m (closed m shut)
  pub no_more : (shut : ℕ → Bool) → ShowsNoMore m (closed m shut)
  -- with nothing shut below the count of legs it means what lies below
  pub plain : (shut : ℕ → Bool) → ((i : ℕ) → i < m.legs → shut i ≡ false) → closed m shut ≡ m
  -- closures and a cap may change places
  pub commutes : (shut : ℕ → Bool) (ceiling : ℕ) → closed (capped m ceiling) shut ≡ capped (closed m shut) ceiling

pub record CapLaws (m : Meaning) : Type 0 where
  pub counts : (ceiling : ℕ) → SameCounts m (capped m ceiling)
  pub no_more : (ceiling : ℕ) → ShowsNoMore m (capped m ceiling)
  -- under a ceiling of 3 it means what lies below
  pub plain : capped m 3 ≡ m

pub record WaitLaws (m : Meaning) : Type 0 where
  pub counts : (wait : ℕ → ℕ) → SameCounts m (delayed m wait)
  pub only_seconds : (wait : ℕ → ℕ) (i : ℕ) → WaitsOnly (wait i) (m.at i) ((delayed m wait).at i)
  -- with no wait below the count of legs it means what lies below
  pub plain : (wait : ℕ → ℕ) → ((i : ℕ) → i < m.legs → wait i ≡ 0) → delayed m wait ≡ m
