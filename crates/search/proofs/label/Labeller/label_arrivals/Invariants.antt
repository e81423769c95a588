use Rattle.std.proofs.Common.{◌≡◌, ℕ, ◌+◌}
use Rattle.search.specs.Stages.{Naming}
use Rattle.search.proofs.label.Labeller.label_arrivals.Given as goal

abbrev pub invariant-loop-first : goal.invariant-loop-first
invariant-loop-first g l = ((i : ℕ) × Naming (g.K.CostModel.costs l.self.search.now.model.now) l.self.search.now l.self.table.now (l.to.hops + 1) i l.first-iterator l.labels) × (l.labels.done ≡ l.initial.labels.done)
