use Rattle.std.proofs.Common.{◌≡◌, ◌-◌, length}
use Rattle.map_format.specs.Reading.{end_of, notices}
use Rattle.map_file.proofs.walk.Records.pass_notices.Given as goal

-- what is left decides
abbrev pub invariant-loop-self : goal.invariant-loop-self
invariant-loop-self l =
    let file = l.initial.self.bytes.now in
    let start = l.initial.self.at in record {
      same : l.self.bytes ≡ l.initial.self.bytes;
      decides : end_of (notices l.stations file (length file - l.self.at) l.self.at) ≡ end_of (notices l.stations file (length file - start) start);
    }

abbrev pub decreases-loop-self : goal.decreases-loop-self
decreases-loop-self l = length l.self.bytes.now - l.self.at
