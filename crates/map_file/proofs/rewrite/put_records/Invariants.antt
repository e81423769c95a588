use Rattle.std.proofs.Common.{◌≡◌, ◌+◌, ◌≤◌, length}
use Rattle.map_format.specs.Walking.{encode_records}
use Rattle.map_file.specs.Steps.{left_in}
use Rattle.map_file.specs.Writing.{spliced}
use Rattle.map_file.proofs.rewrite.put_records.Given as goal

-- there is room for the records that are left, and with them the buffer is as it shall be
abbrev pub invariant-loop-place : goal.invariant-loop-place
invariant-loop-place l =
    let left = l.place-iterator in
    let all = l.initial.records in record {
      room : left.at + length (encode_records (left_in left)) ≤ length l.out;
      whole : spliced l.out left.at (encode_records (left_in left)) ≡ spliced l.initial.out all.at (encode_records (left_in all));
    }
