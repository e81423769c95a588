-- The ride between two stations: which it is, and when it is refused.
use Rattle.std.specs.Prelude.{◌≡◌, ℕ, List, Some, None, Ok, Err, Option, Result}
use Rattle.cost.specs.Costs.{Costs}
use Rattle.network.specs.Meaning.{Meaning}
use Rattle.network.specs.declared.refusal.Refusal.{Refusal}
use Rattle.network.specs.declared.refusal.Refusal.TheVariants.{NoFurtherRoute}
use Rattle.route.specs.Routes.{Route, Least, no_bars}
use Rattle.search_types.specs.Ends.{ends_refusal}
use Rattle.search_types.specs.Legs.{legs_of}
use Rattle.leastroute.specs.Fares.{fare_of}
use Rattle.leastroute.specs.declared.ride.Ride.{Ride}

-- the legs are the first route in rank, and the fare is theirs
pub record LeastRide {C : Type 0} (k : Costs C) (m : Meaning) (start goal : ℕ) (ride : Ride) : Type 0 where
  pub least : Least k m no_bars start goal (legs_of ride.legs)
  pub fare : ride.fare ≡ fare_of m (legs_of ride.legs)

-- a wrong end is refused; else the least ride comes, or there is no route
abbrev pub RiddenIf : {C : Type 0} → Costs C → Meaning → ℕ → ℕ → Option Refusal → Result Ride Refusal → Type 0
RiddenIf k m start goal (Some why) r = r ≡ Err why
RiddenIf k m start goal None (Ok ride) = LeastRide k m start goal ride
RiddenIf k m start goal None (Err why) = (why ≡ NoFurtherRoute) × ((is : List ℕ) → Route m no_bars start goal is → ⊥)

abbrev pub Ridden : {C : Type 0} → Costs C → Meaning → ℕ → ℕ → Result Ride Refusal → Type 0
Ridden k m start goal r = RiddenIf k m start goal (ends_refusal m.stations start goal) r
