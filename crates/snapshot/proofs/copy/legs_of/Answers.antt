use Rattle.std.proofs.Common.{◌+◌, set, sym, refl, ◌∙◌, subst, arith}
use Rattle.std.proofs.lemmas.List.{length-set}
use Rattle.snapshot.proofs.Copies.{CopiedTo, copied_none, copied_more, copied_all}
use Rattle.snapshot.proofs.copy.legs_of.Goals as goal

pub loop-number-init : goal.loop-number-init
loop-number-init g c = (refl, copied_none (g.N.Network.meaning c.args.network.now))

pub loop-number-preserved : goal.loop-number-preserved
loop-number-preserved g c =
    let m = g.N.Network.meaning c.args.network.now in
    let few = (g.N.Network.sound c.args.network.now).legs_high in
    let legs = c.loop-number.legs in
    let n = c.loop-number.number in
    let leg = c.leg_at.result in (
      length-set legs c.from.result leg ∙ c.loop-number.invariant.0,
      subst (λ k. CopiedTo m (n + 1) (set legs k leg)) (sym c.from.ensures) (copied_more m n legs leg (omega (arith, few)) c.leg_at.ensures c.loop-number.invariant.1),
    )

pub returns : goal.returns
returns g c =
    copied_all (g.N.Network.meaning c.args.network.now) c.loop-number.number c.loop-number.legs (g.N.Network.sound c.args.network.now) (omega arith) c.loop-number.invariant.1
