use Rattle.std.proofs.Common.{ℕ}
use Rattle.queue.specs.Waiting.{Keeps}
use Rattle.search.specs.Stages.{Relaxing}
use Rattle.search.proofs.search.Search.relax_arrivals.Given as goal

abbrev pub invariant-loop-number : goal.invariant-loop-number
invariant-loop-number g l = ((i : ℕ) × Relaxing (g.K.CostModel.costs l.self.model.now) l.self l.last i l.number-iterator l.settling) × Keeps l.initial.settling.queue l.settling.queue
