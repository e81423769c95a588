use Rattle.std.proofs.Common.{◌-◌, ap, arith}
use Rattle.queue.specs.Waiting.{held, gone}
use Rattle.queue.proofs.Rows.{gone_within}
use Rattle.search.specs.Stages.{network_of}
use Rattle.search.proofs.Tables.{placed_most}
use Rattle.search.proofs.Relaxes.{last_held}
use Rattle.snapshot.specs.Sounds.{snapshot_sound}
use Rattle.search.proofs.search.Search.settle_least.Goals as goal

pub overflow_cast-settling : goal.overflow_cast-settling
overflow_cast-settling g c =
    let k = g.K.CostModel.costs c.args.self.now.model.now in
    let s = c.args.self.now in
    let q = c.args.settling.now.queue in
    let sound = snapshot_sound s.network.now in
    omega (arith, c.requires.place, placed_most k (network_of s).stations sound.stations_high (held q) _ c.requires.stage.settles.placed, sound.stations_high)

pub overflow_cast-settling-2 : goal.overflow_cast-settling-2
overflow_cast-settling-2 g c =
    let k = g.K.CostModel.costs c.args.self.now.model.now in
    let s = c.args.self.now in
    let q = c.args.settling.now.queue in
    let sound = snapshot_sound s.network.now in
    omega (arith, c.gone.ensures, gone_within q, placed_most k (network_of s).stations sound.stations_high (held q) _ c.requires.stage.settles.placed, sound.stations_high)

pub bounds-settling-from-2 : goal.bounds-settling-from-2
bounds-settling-from-2 g c =
    let k = g.K.CostModel.costs c.args.self.now.model.now in
    let s = c.args.self.now in
    let q = c.args.settling.now.queue in
    let last = last_held k q c.args.least.entry c.requires.last in
    let fits = c.requires.stage.settles.placed.fits (gone q - 1) (omega (arith, c.requires.last.some, gone_within q)) in
    omega (arith, c.from-2.ensures, ap (λ e. e.station) last, fits, (snapshot_sound s.network.now).stations_high)
