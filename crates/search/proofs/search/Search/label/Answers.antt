use Rattle.std.proofs.Common.{◌≡◌, suc, ◌+◌, sym, subst, arith}
use Rattle.search.specs.Lines.{Labelled}
use Rattle.search.specs.Stages.{network_of, barred_in, table_cost, LabelledIn}
use Rattle.search.proofs.Lines.{labelled_start, labelled_most, labelled_done, labelled_all}
use Rattle.search.proofs.search.Search.label.Goals as goal

pub loop-labels-init : goal.loop-labels-init
loop-labels-init g c =
    let k = g.K.CostModel.costs c.args.self.now.model.now in
    let s = c.args.self.now in
    let t = c.args.table.now in
    subst (λ ls. LabelledIn k s t ls.done 0 ls) (sym c.start-labels.ensures) (labelled_start k (network_of s) (barred_in s) s.goal (table_cost k t) c.requires.settled.settling.goal_cost c.requires.goal)

pub overflow_add-labels : goal.overflow_add-labels
overflow_add-labels g c =
    let k = g.K.CostModel.costs c.args.self.now.model.now in
    let s = c.args.self.now in
    omega (arith, c.label_arrivals.ensures.done, labelled_most k (network_of s) (barred_in s) s.goal _ 0 (table_cost k c.args.table.now) c.loop-labels.labels c.loop-labels.invariant)

pub loop-labels-smaller : goal.loop-labels-smaller
loop-labels-smaller g c =
    let k = g.K.CostModel.costs c.args.self.now.model.now in
    let s = c.args.self.now in
    omega (arith, c.label_arrivals.ensures.done, labelled_most k (network_of s) (barred_in s) s.goal _ 0 (table_cost k c.args.table.now) c.loop-labels.labels c.loop-labels.invariant)

pub loop-labels-preserved : goal.loop-labels-preserved
loop-labels-preserved g c =
    let k = g.K.CostModel.costs c.args.self.now.model.now in
    let s = c.args.self.now in
    let D = table_cost k c.args.table.now in
    let is = c.label_arrivals.new.labels in
    let next : suc c.loop-labels.labels.done ≡ is.done + 1 = omega (arith, c.label_arrivals.ensures.done) in
    labelled_done k (network_of s) (barred_in s) s.goal (is.done + 1) 0 D is (is.done + 1) (subst (λ n. Labelled k (network_of s) (barred_in s) s.goal n 0 D is) next c.label_arrivals.ensures.labelled)

pub returns : goal.returns
returns g c =
    let k = g.K.CostModel.costs c.args.self.now.model.now in
    let s = c.args.self.now in
    record { labelling = labelled_all k (network_of s) (barred_in s) s.goal c.loop-labels.labels.done 0 (table_cost k c.args.table.now) c.loop-labels.labels c.loop-labels.invariant c.loop-labels-test.false }
