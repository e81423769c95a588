use Rattle.map_file.proofs.Starts.{begins}
use Rattle.map_file.proofs.read.record_at.Goals as goal

pub returns-clause-begins : goal.returns-clause-begins
returns-clause-begins c = begins c.args.bytes.now c.args.at _ c.any_record.ensures.value
