use Rattle.std.proofs.Common.{◌-◌}
use Rattle.search.specs.Stages.{LabelledIn}
use Rattle.search.proofs.search.Search.label.Given as goal

abbrev pub invariant-loop-labels : goal.invariant-loop-labels
invariant-loop-labels g l = LabelledIn (g.K.CostModel.costs l.fn.self.model.now) l.fn.self l.fn.table l.labels.done 0 l.labels

abbrev pub decreases-loop-labels : goal.decreases-loop-labels
decreases-loop-labels g l = 64 - l.labels.done
