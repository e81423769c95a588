use Rattle.std.proofs.Common.{◌≡◌, suc, sym, refl, ap, ◌∙◌, subst, inl, inr, arith}
use Rattle.search.specs.Lines.{line_of, hops_of, hops_in}
use Rattle.search.specs.Stages.{network_of, barred_in, table_cost, LabelledIn}
use Rattle.search.proofs.Lines.{labelled_most, labelled_next}
use Rattle.search.proofs.Namings.{naming_next, naming_end}
use Rattle.snapshot.specs.Steps.{Awaits}
use Rattle.snapshot.specs.Sounds.{snapshot_sound}
use Rattle.search.proofs.label.Labeller.label_arrivals.Goals as goal

pub bounds-labels-labels : goal.bounds-labels-labels
bounds-labels-labels g c =
    let k = g.K.CostModel.costs c.args.self.now.search.now.model.now in
    let s = c.args.self.now.search.now in
    omega (arith, c.requires.line, labelled_most k (network_of s) (barred_in s) s.goal _ 0 (table_cost k c.args.self.now.table.now) c.args.labels.now c.requires.labelled)

pub returns-then-to-gt62-clause-labelled : goal.returns-then-to-gt62-clause-labelled
returns-then-to-gt62-clause-labelled g c =
    let k = g.K.CostModel.costs c.args.self.now.search.now.model.now in
    let s = c.args.self.now.search.now in
    let ls = c.args.labels.now in
    let read : hops_of ls (line_of ls ls.done) ≡ c.in-Some.to.hops = ap (hops_of ls) (sym c.from.ensures) ∙ ap hops_in c.in-Some.is in
    labelled_next k (network_of s) (barred_in s) s.goal ls.done 0 (table_cost k c.args.self.now.table.now) ls c.requires.labelled (snapshot_sound s.network.now) (inr (omega (arith, read)))

pub label_leg-requires : goal.label_leg-requires
label_leg-requires g c =
    let k = g.K.CostModel.costs c.args.self.now.search.now.model.now in
    let laws = g.K.CostModel.laws c.args.self.now.search.now.model.now in
    let (i, was) = c.loop-first.invariant.0 in
    let next = naming_next k laws c.args.self.now.search.now c.args.self.now.table.now _ i c.loop-first.first-iterator c.next.new.self c.loop-first.labels was c.in-Some-first.first c.in-Some-first.ensures.steps in
    record { labelled = next.0; current = was.current; arrives = next.1 }

pub loop-first-preserved : goal.loop-first-preserved
loop-first-preserved g c =
    let k = g.K.CostModel.costs c.args.self.now.search.now.model.now in
    let laws = g.K.CostModel.laws c.args.self.now.search.now.model.now in
    let s = c.args.self.now.search.now in
    let t = c.args.self.now.table.now in
    let e = c.in-Some-first.first in
    let old = c.loop-first.labels in
    let new = c.label_leg.new.labels in
    let after = c.label_leg.ensures in
    let (i, was) = c.loop-first.invariant.0 in
    let next = naming_next k laws s t _ i c.loop-first.first-iterator c.next.new.self old was e c.in-Some-first.ensures.steps in
    let same : line_of old old.done ≡ line_of new new.done = sym after.station ∙ ap (line_of new) (sym after.done) in (
      (
        suc e,
        record {
          labelled = subst (λ n. LabelledIn k s t n (suc e) new) (sym after.done) after.labelled;
          current = after.current;
          awaits = subst (λ u. Awaits c.next.new.self (network_of s) u (suc e)) same next.2;
        },
      ),
      after.done ∙ c.loop-first.invariant.1,
    )

pub returns-clause-labelled : goal.returns-clause-labelled
returns-clause-labelled g c =
    let k = g.K.CostModel.costs c.args.self.now.search.now.model.now in
    let laws = g.K.CostModel.laws c.args.self.now.search.now.model.now in
    let s = c.args.self.now.search.now in
    let t = c.args.self.now.table.now in
    let ls = c.loop-first.labels in
    let (i, was) = c.loop-first.invariant.0 in
    let all = naming_end k laws s t _ i c.loop-first.first-iterator c.next.new.self ls was c.in-None.ensures.steps in
    subst (λ n. LabelledIn k s t (suc n) 0 ls) c.loop-first.invariant.1 (labelled_next k (network_of s) (barred_in s) s.goal ls.done (network_of s).legs (table_cost k t) ls all (snapshot_sound s.network.now) (inl refl))
