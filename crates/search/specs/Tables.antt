-- The tables of a search: a row of entries, those that came out of the queue in front, and where each station stands in it.
use Rattle.std.specs.Prelude.{◌≡◌, ℕ, ◌<◌, ◌≤◌, Bool, cond, List, length, None, Some, Option, ◌≢◌, nat_lt, slice_index_or, unwrap_or}
use Rattle.network.specs.Meaning.{Meaning}
use Rattle.cost.specs.Costs.{Costs}
use Rattle.route.specs.Routes.{Bars}
use Rattle.route.specs.Certificate.{Settling}
use Rattle.route.specs.Progress.{SettlingTo}
use Rattle.search_types.specs.declared.entry.Entry.{Entry}

-- what a cleared entry holds
abbrev pub blank : {C : Type 0} → Costs C → Entry C
blank k = record { cost = k.zero; station = 0 }

-- where a station stands in the row; 64 where it has no entry
abbrev pub place : List (Option ℕ) → ℕ → ℕ
place places v = unwrap_or (slice_index_or places v None) 64

abbrev pub seen : List (Option ℕ) → ℕ → Bool
seen places v = nat_lt (place places v) 64

-- the turn at which a station came out; 64 where it has not
abbrev pub turn : List (Option ℕ) → ℕ → ℕ → ℕ
turn places out v = cond (nat_lt (place places v) out) (place places v) 64

abbrev pub cost_of : {C : Type 0} → Costs C → List (Entry C) → List (Option ℕ) → ℕ → C
cost_of k row places v = (slice_index_or row (place places v) (blank k)).cost

-- each entry stands where its station says, and each station that has a place is there
pub record Placed {C : Type 0} (k : Costs C) (stations : ℕ) (row : List (Entry C)) (places : List (Option ℕ)) : Type 0 where
  pub long : length places ≡ 64
  pub small : (v p : ℕ) → slice_index_or places v None ≡ Some p → p ≤ 63
  pub here : (j : ℕ) → j < length row → place places (slice_index_or row j (blank k)).station ≡ j
  pub there : (v : ℕ) → place places v ≤ 63 → (place places v < length row) × ((slice_index_or row (place places v) (blank k)).station ≡ v)
  pub fits : (j : ℕ) → j < length row → (slice_index_or row j (blank k)).station < stations

-- two entries change places
pub record Swap {A : Type 0} (d : A) (out at : ℕ) (row row' : List A) : Type 0 where
  pub behind : out ≤ at
  pub within : at < length row
  pub same_length : length row' ≡ length row
  pub to_front : slice_index_or row' out d ≡ slice_index_or row at d
  pub to_back : slice_index_or row' at d ≡ slice_index_or row out d
  pub others : (j : ℕ) → (j ≢ out) → (j ≢ at) → slice_index_or row' j d ≡ slice_index_or row j d

-- phase 1 under way in these tables
pub record Settles {C : Type 0} (k : Costs C) (m : Meaning) (b : Bars) (goal out i : ℕ) (row : List (Entry C)) (places : List (Option ℕ)) : Type 0 where
  pub placed : Placed k m.stations row places
  pub within : out ≤ length row
  pub settling : SettlingTo k m b goal out i (seen places) (turn places out) (cost_of k row places)

-- phase 1 done: every entry has come out
pub record Settled {C : Type 0} (k : Costs C) (m : Meaning) (b : Bars) (goal : ℕ) (row : List (Entry C)) (places : List (Option ℕ)) : Type 0 where
  pub placed : Placed k m.stations row places
  pub settling : Settling k m b goal (seen places) (turn places (length row)) (cost_of k row places)
