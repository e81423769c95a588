use Rattle.std.proofs.Common.{suc}
use Rattle.queue.proofs.Rows.{keeps_then}
use Rattle.search.specs.Stages.{network_of, Stage}
use Rattle.search.proofs.Relaxes.{relaxing_next, relaxing_end, last_kept}
use Rattle.snapshot.specs.Meanings.{Arrives}
use Rattle.snapshot.specs.Steps.{Awaits}
use Rattle.search.proofs.search.Search.relax_arrivals.Given.{Over}
use Rattle.search.proofs.search.Search.relax_arrivals.Goals as goal
use Rattle.search.proofs.search.Search.relax_arrivals.Goals.{In-Some}

next : (g : Over) (c : In-Some g) → Stage (g.K.CostModel.costs c.args.self.now.model.now) c.args.self.now c.in-Some.number c.loop-number.settling × Arrives ((network_of c.args.self.now).at c.in-Some.number) c.args.last.station × Awaits c.next.new.self (network_of c.args.self.now) c.args.last.station (suc c.in-Some.number)
next g c =
    let s = c.args.self.now in
    let (i, was) = c.loop-number.invariant.0 in
    relaxing_next (g.K.CostModel.costs s.model.now) (g.K.CostModel.laws s.model.now) s c.loop-number.settling i c.loop-number.number-iterator c.next.new.self c.args.last was c.in-Some.number c.in-Some.ensures.steps

pub relax_leg-requires-clause-stage : goal.relax_leg-requires-clause-stage
relax_leg-requires-clause-stage g c = (next g (goal.at.relax_leg-requires-clause-stage g c).In-Some).0

pub relax_leg-requires-clause-arrives : goal.relax_leg-requires-clause-arrives
relax_leg-requires-clause-arrives g c = (next g (goal.at.relax_leg-requires-clause-arrives g c).In-Some).1

pub loop-number-preserved : goal.loop-number-preserved
loop-number-preserved g c =
    let after = c.relax_leg.ensures in (
      (
        suc c.in-Some.number,
        record {
          stage = after.stage;
          last_is = last_kept (g.K.CostModel.costs c.args.self.now.model.now) c.loop-number.settling.queue c.relax_leg.new.settling.queue c.args.last c.loop-number.invariant.0.1.last_is after.keeps;
          awaits = (next g (goal.at.loop-number-preserved g c).In-Some).2;
        },
      ),
      keeps_then c.loop-number.invariant.1 after.keeps,
    )

pub returns-clause-stage : goal.returns-clause-stage
returns-clause-stage g c =
    let s = c.args.self.now in
    let (i, was) = c.loop-number.invariant.0 in
    relaxing_end (g.K.CostModel.costs s.model.now) (g.K.CostModel.laws s.model.now) s c.loop-number.settling i c.loop-number.number-iterator c.next.new.self c.args.last was c.in-None.ensures.steps
