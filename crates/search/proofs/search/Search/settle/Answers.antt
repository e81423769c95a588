use Rattle.std.proofs.Common.{sym, subst}
use Rattle.search.specs.Stages.{network_of, barred_in}
use Rattle.search.specs.Tables.{Settled}
use Rattle.search.proofs.Relaxes.{stage_pop, stage_end}
use Rattle.search.proofs.search.Search.settle.Goals as goal

pub settle_least-requires-clause-stage : goal.settle_least-requires-clause-stage
settle_least-requires-clause-stage g c =
    let s = c.args.self.now in
    (stage_pop (g.K.CostModel.costs s.model.now) (g.K.CostModel.laws s.model.now) s c.loop-least.settling c.pop_least.new.self c.in-Some.least c.loop-least.invariant.0 c.in-Some.ensures).0

pub returns-clause-settled : goal.returns-clause-settled
returns-clause-settled g c =
    let s = c.args.self.now in
    let k = g.K.CostModel.costs s.model.now in
    let still = c.in_default.ensures in
    subst (λ xs. Settled k (network_of s) (barred_in s) s.goal xs c.loop-least.settling.places) (sym still.held_is)
    (stage_end k (g.K.CostModel.laws s.model.now) s c.loop-least.settling c.loop-least.invariant.0 still.empty)
