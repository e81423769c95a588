-- What a request is answered, by the order of the checks.
use Rattle.std.specs.Prelude.{◌≡◌, ℕ, ◌+◌, Bool, true, false, cond, List, length, drop, Some, None, Ok, Err, Option, Result, nat_lt, slice_index}
use Rattle.cost.specs.Points.{points}
use Rattle.cost.specs.Seconds.{seconds}
use Rattle.map_format.specs.Format.{Item, station, leg, notice}
use Rattle.map_format.specs.Reading.{Contents, verdict}
use Rattle.map_format.specs.declared.fault.Fault.{Fault}
use Rattle.network.specs.Meaning.{Meaning}
use Rattle.network.specs.declared.leg.Leg.{Leg}
use Rattle.network.specs.declared.refusal.Refusal.{Refusal}
use Rattle.network.specs.declared.refusal.Refusal.TheVariants.{CutShort, UnknownLetter}
use Rattle.std.specs.List.{slice_get}
use Rattle.leastroute.specs.Rankings.{ranking_of}
use Rattle.leastroute.specs.Rides.{Ridden}
use Rattle.leastroute.specs.declared.ranking.Ranking.{Ranking}
use Rattle.leastroute.specs.declared.ranking.Ranking.TheVariants.{Seconds as by_seconds, Points as by_points}
use Rattle.leastroute.specs.declared.ride.Ride.{Ride}

-- the leg in a record, if it is one of a leg
abbrev pub leg_in : Option (ℕ × Item) → Option Leg
leg_in (Some p) = elim p.1 [ station _ ↦ None | leg l ↦ Some l | notice _ ↦ None ]
leg_in None = None

-- the network of a map: leg i is in the record behind the stations and the i legs before it
abbrev pub network_in : Contents → Meaning
network_in c = record {
  stations = c.heading.stations;
  legs = c.heading.legs;
  at = λ i. cond (nat_lt i c.heading.legs) (leg_in (slice_get c.records (c.heading.stations + i))) None;
}

abbrev pub RankedBy : Ranking → Meaning → ℕ → ℕ → Result Ride Refusal → Type 0
RankedBy by_seconds m start goal r = Ridden seconds m start goal r
RankedBy by_points m start goal r = Ridden points m start goal r

-- a map that is refused; else what comes of the ends and the search
abbrev pub OnMap : Ranking → Result Contents Fault → ℕ → ℕ → Result Ride Refusal → Type 0
OnMap ranking (Err fault) start goal r = r ≡ Err fault.why
OnMap ranking (Ok contents) start goal r = RankedBy ranking (network_in contents) start goal r

-- too short; an unknown letter; else what comes of the map
abbrev pub Asked : Bool → Option Ranking → Result Contents Fault → ℕ → ℕ → Result Ride Refusal → Type 0
Asked true ranking map start goal r = r ≡ Err CutShort
Asked false None map start goal r = r ≡ Err UnknownLetter
Asked false (Some ranking) map start goal r = OnMap ranking map start goal r

-- start, goal, a byte that says nothing, a letter, and then the map file
abbrev pub Answered : List ℕ → Result Ride Refusal → Type 0
Answered input r = Asked (nat_lt (length input) 4) (ranking_of (slice_index input 3)) (verdict (drop 4 input)) (slice_index input 0) (slice_index input 1) r
