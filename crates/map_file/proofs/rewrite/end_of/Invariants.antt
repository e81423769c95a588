use Rattle.std.proofs.Common.{◌≡◌, ◌+◌, ◌-◌, length}
use Rattle.map_format.specs.Walking.{encode_records}
use Rattle.map_file.specs.Steps.{left_in}
use Rattle.map_file.proofs.rewrite.end_of.Given as goal

-- the offset so far, and the bytes of the records that are left
abbrev pub invariant-loop : goal.invariant-loop
invariant-loop l = l.left.at + length (encode_records (left_in l.left)) ≡ l.initial.left.at + length (encode_records (left_in l.initial.left))

abbrev pub decreases-loop : goal.decreases-loop
decreases-loop l = length l.left.bytes.now - l.left.at
