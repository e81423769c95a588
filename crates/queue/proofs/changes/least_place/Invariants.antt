use Rattle.std.proofs.Common.{◌≡◌, get_or}
use Rattle.std.specs.List.{IsFirstBest}
use Rattle.queue.proofs.changes.least_place.Given as goal

abbrev pub invariant-loop-i : goal.invariant-loop-i
invariant-loop-i g l = IsFirstBest (g.O.Order.less l.order) l.entries l.i l.best × (l.least ≡ get_or l.entries l.best l.least)
