use Rattle.std.proofs.Common.{get_or, refl, arith}
use Rattle.std.proofs.lemmas.List.{get_or_default}
use Rattle.queue.proofs.Pops.{comes}
use Rattle.queue.proofs.queue.Queue.take_least.Goals as goal

pub returns : goal.returns
returns g c =
    let q = c.args.self.now in
    let row = q.row.now in
    let least = c.place_of_least-place in
    let d = c.index-self-place.result in
    comes q _ least.result least.ensures.low least.ensures.high (get_or row least.result d) (get_or row q.out d)
    (λ d'. get_or_default row least.result d d' (omega (arith, least.ensures.high, q.within)))
    (λ d'. get_or_default row q.out d d' (omega (arith, least.ensures.low, least.ensures.high, q.within)))
    (c.swap.ensures.by_index.3 d) refl refl (record { lent = refl; room_is = c.swap.ensures.len }) (g.O.Order.less c.args.order.now) least.ensures.first
