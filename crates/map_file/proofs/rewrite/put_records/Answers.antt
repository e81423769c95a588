use Rattle.std.proofs.Common.{ℕ, List, ap, ◌∙◌, arith}
use Rattle.map_format.specs.Walking.{encode_records}
use Rattle.map_file.specs.Steps.{left_in}
use Rattle.map_file.specs.Writing.{spliced}
use Rattle.map_file.proofs.Rewrites.{step_length, step_splice}
use Rattle.map_file.proofs.rewrite.put_records.Goals as goal

pub loop-place-preserved : goal.loop-place-preserved
loop-place-preserved c =
    let t = c.in-Some.ensures.steps in
    let left = c.loop-place.place-iterator in
    let behind = c.next.new.self in
    let inv = c.loop-place.invariant in
    record {
      room = omega (arith, step_length left _ behind t, inv.room, c.put_record.auto.out);
      whole = ap (λ (l : List ℕ). spliced l behind.at (encode_records (left_in behind))) c.put_record.ensures ∙ step_splice left _ behind t c.loop-place.out inv.room ∙ inv.whole;
    }
