use Rattle.std.proofs.Common.{◌≤◌, length, arith}
use Rattle.std.proofs.lemmas.Result.{err_from_is_err_and}
use Rattle.leastroute.proofs.Refused.{refused_ride}
use Rattle.leastroute.proofs.rides.least_ride.Goals as goal

pub returns-in_err-least_route : goal.returns-in_err-least_route
returns-in_err-least_route g c =
    let p = err_from_is_err_and c.from_residual.result c.from_residual.ensures.1 in
    let m = g.N.Network.meaning c.args.network.now in
    let room : m.stations ≤ length c.args.workspace.now = omega (arith, (g.N.Network.sound c.args.network.now).stations_high, c.requires) in
    rw (p.1, p.2)
    (refused_ride (g.K.CostModel.costs c.args.model.now) m c.args.ends.start c.args.ends.goal c.in_err-least_route.field-0.0 c.new-legs.result c.least_route.new.route c.args.workspace.now c.least_route.new.workspace
    c.none-bars.result c.none-bars.ensures room c.in_err-least_route.ensures)
