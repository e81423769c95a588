use Rattle.std.proofs.Common.{◌≡◌, ◌-◌}
use Rattle.map_format.specs.Reading.{end_of, run}
use Rattle.map_file.proofs.walk.Records.pass_run.Given as goal

-- what is left decides
abbrev pub invariant-loop : goal.invariant-loop
invariant-loop l =
    let file = l.initial.self.bytes.now in record {
      same : l.self.bytes ≡ l.initial.self.bytes;
      decides : end_of (run l.kind l.stations file (l.count - l.counter) l.self.at) ≡ end_of (run l.kind l.stations file l.count l.initial.self.at);
    }
