-- Tables of legs, and the lists of the legs that arrive at each station.
use Rattle.std.specs.Prelude.{◌≡◌, ℕ, ◌<◌, ◌≤◌, Bool, true, List, Some, None, Option, slice_index_or}
use Rattle.network.specs.Meaning.{Meaning}
use Rattle.network.specs.Ranges.{in_range}
use Rattle.network.specs.declared.leg.Leg.{Leg}
use Rattle.snapshot.specs.Arrivals.{FirstFrom, NextArrival}

-- what a table means: so many stations and leg numbers, and these legs
abbrev pub table_meaning : ℕ → ℕ → List (Option Leg) → Meaning
table_meaning stations count legs = record { stations = stations; legs = count; at = λ i. slice_index_or legs i None }

-- the table has the legs of the network
abbrev pub Copied : Meaning → List (Option Leg) → Type 0
Copied m legs = (i : ℕ) → slice_index_or legs i None ≡ m.at i

-- whether what is at a leg number is nothing, or a leg in range in a network of s stations
abbrev pub none_or_fits : ℕ → Option Leg → Bool
none_or_fits s None = true
none_or_fits s (Some l) = in_range s l

-- every leg arrives below 64
abbrev pub Bounded : List (Option Leg) → Type 0
Bounded legs = (e : ℕ) (l : Leg) → slice_index_or legs e None ≡ Some l → l.to < 64

-- the rows of the lists that have the legs from number i on, whatever numbers of stations and legs the table is said to have
pub record Linked (legs : List (Option Leg)) (i : ℕ) (first next : List (Option ℕ)) : Type 0 where
  pub firsts : (stations count u : ℕ) → FirstFrom (table_meaning stations count legs) u i (slice_index_or first u None)
  pub nexts : (stations count e : ℕ) → i ≤ e → NextArrival (table_meaning stations count legs) e (slice_index_or next e None)
  -- the legs below are in no list yet
  pub rest : (e : ℕ) → e < i → slice_index_or next e None ≡ None
