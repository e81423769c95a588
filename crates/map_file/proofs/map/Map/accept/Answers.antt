use Rattle.std.proofs.Common.{sym, refl, ap, ◌∙◌, rules}
use Rattle.map_format.specs.declared.kind.Kind.TheVariants.{Station as StationKind}
use Rattle.map_file.specs.declared.map.Map.{Map}
use Rattle.map_format.specs.Reading.{end_of, run}
use Rattle.map_file.proofs.Maps.{Tested, accepted, indexed, rewritten_same, shows_records}
use Rattle.map_file.proofs.map.Map.accept.Goals as goal

pub returns : goal.returns
returns c =
    let heading = c.in_ok-heading.heading in
    let m : Map = record { bytes = c.args.bytes; heading = heading; legs_at = c.pass_run.new.self.at; notices_at = c.pass_run-2.new.self.at } in
    let begun = c.new-records.ensures in
    let same = c.pass_run.ensures.same ∙ begun.bytes in
    let t : Tested m c.pass_notices.new.self.at = record {
      heading_read = search rules;
      stations_end = rw (begun.bytes, begun.at) at c.in_ok-pass_run.ensures.end ∙ ap (λ k. end_of (run StationKind heading.stations c.args.bytes.now k 8)) c.from.ensures;
      legs_end = rw same at c.in_ok-pass_run-2.ensures.end;
      notices_end = rw (c.pass_run-2.ensures.same ∙ same) at c.in_ok-pass_notices.ensures;
    } in
    record {
      verdict = sym (accepted m _ t);
      file = refl;
      indexed = indexed m _ t;
      network = shows_records m _ t;
      same = rewritten_same m _ t (λ i. (c.type_inv.bytes i).fits);
    }
