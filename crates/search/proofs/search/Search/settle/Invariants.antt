use Rattle.std.proofs.Common.{◌-◌}
use Rattle.queue.specs.Waiting.{gone, room, SameRow}
use Rattle.search.specs.Stages.{network_of, Stage}
use Rattle.search.proofs.search.Search.settle.Given as goal

abbrev pub invariant-loop-least : goal.invariant-loop-least
invariant-loop-least g l = Stage (g.K.CostModel.costs l.self.model.now) l.self (network_of l.self).legs l.settling × SameRow l.initial.settling.queue l.settling.queue

abbrev pub decreases-loop-least : goal.decreases-loop-least
decreases-loop-least g l = room l.settling.queue - gone l.settling.queue
