use Rattle.std.proofs.Common.{◌≡◌, take}
use Rattle.cost.specs.Points.{points}
use Rattle.leastroute.specs.Fares.{fare_of}
use Rattle.leastroute.proofs.totals.fare.Given as goal

-- the sum so far, which stands for the legs so far
abbrev pub invariant-loop-number : goal.invariant-loop-number
invariant-loop-number g l =
    (l.total ≡ fare_of (g.N.Network.meaning l.network) (take l.number-index l.legs)) × points.stands l.total l.number-index
