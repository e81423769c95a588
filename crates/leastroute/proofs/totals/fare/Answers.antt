use Rattle.std.proofs.Common.{◌+◌, ◌<◌, ◌≤◌, length, take, sym, ap, ◌∙◌, subst, arith, rules}
use Rattle.cost.specs.Points.{points, points_laws, sum}
use Rattle.cost.specs.declared.fare.Fare.{Fare}
use Rattle.route.specs.Routes.{leg_cost}
use Rattle.leastroute.specs.Fares.{fare_of}
use Rattle.leastroute.proofs.Adds.{fare_more}
use Rattle.leastroute.proofs.totals.fare.Goals as goal
use Rattle.leastroute.proofs.totals.fare.Goals.{in-Some, in_default}

pub loop-number-preserved : goal.loop-number-preserved
loop-number-preserved g c =
    let m = g.N.Network.meaning c.args.network.now in
    let i = c.loop-number.number-index in
    let was = c.loop-number.invariant in
    let h : i < length c.args.legs.now = search rules in
    let fits : i + 1 ≤ 63 = omega arith in
    let more = fare_more m c.args.legs.now i h in
    elim c.match-leg_at.branch [
      | in-Some w ↦
          let shown = sym c.leg_at.ensures ∙ w.in-Some.is in
          let figures = ((g.N.Network.sound c.args.network.now).fits _ _ shown).figures in
          let one = subst (λ (f : Fare). points.stands f 1) (sym w.of_leg.ensures) (points_laws.stands_leg _ figures) in
          let is = w.total-is ∙ w.join-total.ensures i 1 was.1 one fits in
          let cost = ap (leg_cost points) shown in
          (cc, subst (λ (f : Fare). points.stands f (i + 1)) (sym is) (points_laws.stands_join _ _ i 1 was.1 one fits))
      | in_default w ↦
          let cost = ap (leg_cost points) (sym c.leg_at.ensures ∙ w.in_default.is) in
          let added = points_laws.zero_right _ i was.1 (omega arith) in
          (w.total-is ∙ sym added ∙ ap (λ (f : Fare). sum f points.zero) was.0 ∙ ap (sum (fare_of m (take i c.args.legs.now))) (sym cost) ∙ sym more, subst (λ (f : Fare). points.stands f (i + 1)) (sym w.total-is) (omega (arith, was.1.0), omega (arith, was.1.1)))
    ]
