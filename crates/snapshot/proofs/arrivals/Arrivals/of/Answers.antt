use Rattle.std.proofs.Common.{◌≡◌, length, rules}
use Rattle.snapshot.proofs.Links.{linked_start}
use Rattle.snapshot.proofs.arrivals.Arrivals.of.Goals as goal

pub loop-number-init : goal.loop-number-init
loop-number-init c =
    let long : length c.args.legs.now ≡ 512 = search rules in
    linked_start c.args.legs.now long
