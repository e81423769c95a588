use Rattle.std.proofs.Common.{suc, sym, ap, ◌∙◌, subst}
use Rattle.std.proofs.lemmas.Bool.{both_ways}
use Rattle.search.specs.Lines.{line_of}
use Rattle.search.specs.Stages.{LabelledIn, Current}
use Rattle.search.proofs.Namings.{from_below, to_seen, to_stands, naming_pass, naming_loose, put_room, put_labelled, put_station, put_current}
use Rattle.search.proofs.label.Labeller.label_leg.Goals as goal
use Rattle.search.proofs.label.Labeller.label_leg.Goals.{else-improves-via-then-improves+else-is_tight, else-improves-via-else-improves}

pub is_tight-requires-clause-reached : goal.is_tight-requires-clause-reached
is_tight-requires-clause-reached g c =
    let k = g.K.CostModel.costs c.args.self.now.search.now.model.now in
    to_seen k (g.K.CostModel.laws c.args.self.now.search.now.model.now) c.args.self.now.search.now c.args.self.now.table.now c.args.label c.args.labels.now c.requires.labelled c.requires.current c.requires.arrives c.in-Some.leg (sym c.in-Some.ensures) c.args.self.now.settled

pub is_tight-requires-clause-short : goal.is_tight-requires-clause-short
is_tight-requires-clause-short g c =
    let k = g.K.CostModel.costs c.args.self.now.search.now.model.now in
    to_stands k (g.K.CostModel.laws c.args.self.now.search.now.model.now) c.args.self.now.search.now c.args.self.now.table.now c.args.label c.args.labels.now c.requires.labelled c.requires.current c.requires.arrives c.in-Some.leg (sym c.in-Some.ensures)

pub put-requires : goal.put-requires
put-requires g c =
    let k = g.K.CostModel.costs c.args.self.now.search.now.model.now in
    let laws = g.K.CostModel.laws c.args.self.now.search.now.model.now in
    record {
      station = from_below k laws c.args.self.now.search.now c.args.self.now.table.now c.args.label c.args.labels.now c.requires.labelled c.requires.current c.requires.arrives c.in-Some.leg (sym c.in-Some.ensures);
      room = put_room k laws c.args.self.now.search.now c.args.self.now.table.now c.args.label c.args.labels.now c.requires.labelled c.requires.current c.requires.arrives c.in-Some.leg (sym c.in-Some.ensures) (c.is_tight.ensures.0 c.if-is_tight.true);
    }

pub returns-then-is_tight : goal.returns-then-is_tight
returns-then-is_tight g c =
    let k = g.K.CostModel.costs c.args.self.now.search.now.model.now in
    let laws = g.K.CostModel.laws c.args.self.now.search.now.model.now in
    let ls = c.args.labels.now in
    let tight = c.is_tight.ensures.0 c.if-is_tight.true in
    let told = sym c.improves.ensures ∙ c.if-improves.true in
    record {
      labelled = subst (λ xs. LabelledIn k c.args.self.now.search.now c.args.self.now.table.now ls.done (suc c.args.label.first) xs) (sym c.put.ensures) (put_labelled k laws c.args.self.now.search.now c.args.self.now.table.now c.args.label ls c.requires.labelled c.requires.current c.requires.arrives c.in-Some.leg (sym c.in-Some.ensures) tight told);
      current = subst (Current c.args.label.hops) (sym c.put.ensures) (put_current k laws c.args.self.now.search.now c.args.self.now.table.now c.args.label ls c.requires.labelled c.requires.current c.requires.arrives c.in-Some.leg (sym c.in-Some.ensures) tight told);
      done = ap (λ xs. xs.done) c.put.ensures;
      station = ap (λ xs. line_of xs ls.done) c.put.ensures ∙ put_station k laws c.args.self.now.search.now c.args.self.now.table.now c.args.label ls c.requires.labelled c.requires.current c.requires.arrives c.in-Some.leg (sym c.in-Some.ensures) tight;
    }

pub returns-else-improves-clause-labelled : goal.returns-else-improves-clause-labelled
returns-else-improves-clause-labelled g c =
    let k = g.K.CostModel.costs c.args.self.now.search.now.model.now in
    let laws = g.K.CostModel.laws c.args.self.now.search.now.model.now in
    elim c.else-improves.branch [
      | else-improves-via-then-improves+else-is_tight w ↦ naming_loose k laws c.args.self.now.search.now c.args.self.now.table.now c.args.label c.args.labels.now c.requires.labelled c.requires.current c.requires.arrives c.in-Some.leg (sym c.in-Some.ensures) (λ tight. both_ways w.is_tight.result w.if-is_tight.false (w.is_tight.ensures.1 tight))
      | else-improves-via-else-improves w ↦ naming_pass k laws c.args.self.now.search.now c.args.self.now.table.now c.args.label c.args.labels.now c.requires.labelled c.requires.current c.requires.arrives c.in-Some.leg (sym c.in-Some.ensures) (sym c.improves.ensures ∙ w.if-improves.false)
    ]
