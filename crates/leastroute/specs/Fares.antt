-- What legs take together.
use Rattle.std.specs.Prelude.{ℕ, List}
use Rattle.cost.specs.Points.{points}
use Rattle.cost.specs.declared.fare.Fare.{Fare}
use Rattle.network.specs.Meaning.{Meaning}
use Rattle.route.specs.Routes.{cost}

-- the points and the seconds of the legs with these numbers, added up
abbrev pub fare_of : Meaning → List ℕ → Fare
fare_of m legs = cost points m legs
