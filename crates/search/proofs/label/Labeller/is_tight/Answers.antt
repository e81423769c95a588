use Rattle.search.specs.Tables.{blank}
use Rattle.search.proofs.Namings.{tight_told, from_placed}
use Rattle.search.proofs.label.Labeller.is_tight.Goals as goal

pub returns : goal.returns
returns g c =
    let k = g.K.CostModel.costs c.args.self.now.search.now.model.now in
    tight_told k (g.K.CostModel.laws c.args.self.now.search.now.model.now) c.args.self.now.search.now c.args.self.now.table.now c.args.number c.args.leg c.requires.shown
    (c.may_use.ensures.0 c.if-not-may_use.false) c.requires.short c.of_leg.result c.cost.result c.join-over.result c.cost-2.result
    c.of_leg.ensures (c.cost.ensures (blank k)) (c.cost-2.ensures (blank k)) c.join-over.ensures c.level.result c.level.ensures

pub cost-requires-2-clause-placed : goal.cost-requires-2-clause-placed
cost-requires-2-clause-placed g c =
    let k = g.K.CostModel.costs c.args.self.now.search.now.model.now in
    from_placed k (g.K.CostModel.laws c.args.self.now.search.now.model.now) c.args.self.now.search.now c.args.self.now.table.now c.args.number c.args.leg c.requires.shown c.args.self.now.settled c.requires.reached (c.may_use.ensures.0 c.if-not-may_use.false)
