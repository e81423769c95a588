use Rattle.std.proofs.Common.{ap, ◌∙◌, arith, rules}
use Rattle.snapshot.specs.Tables.{none_or_fits}
use Rattle.snapshot.proofs.Copies.{shown_fits}
use Rattle.snapshot.proofs.questions.table.Goals as goal

pub invariant_of-result : goal.invariant_of-result
invariant_of-result g c =
    let m = g.N.Network.meaning c.args.network.now in
    let s = g.N.Network.sound c.args.network.now in
    let copied = c.requires in
    let stations = c.station_count-stations.ensures in
    let count = c.leg_count-count.ensures in
    let lists = c.of.ensures in
    record {
      wide = search rules;
      low = omega (arith, s.stations_low);
      high = omega (arith, s.stations_high);
      few = omega (arith, s.legs_high);
      past = λ i h. copied i ∙ s.past i (omega arith);
      fits = λ i. ap (none_or_fits c.station_count-stations.result) (copied i) ∙ ap (λ k. none_or_fits k (m.at i)) stations ∙ shown_fits m.stations (m.at i) (s.fits i);
      firsts = lists.firsts c.station_count-stations.result c.leg_count-count.result;
      nexts = λ e. lists.nexts c.station_count-stations.result c.leg_count-count.result e (omega arith);
    }
