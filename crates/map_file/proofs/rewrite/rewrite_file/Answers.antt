use Rattle.map_format.specs.Walking.{records_from, encode_records}
use Rattle.map_format.proofs.Exactly.{round_trip}
use Rattle.map_file.proofs.Rewrites.{rewritten}
use Rattle.map_file.proofs.rewrite.rewrite_file.Goals as goal

pub returns-then-out-size-clause-law : goal.returns-then-out-size-clause-law
returns-then-out-size-clause-law c = round_trip

pub returns-clause-law : goal.returns-clause-law
returns-clause-law c = round_trip

pub returns-clause-after : goal.returns-clause-after
returns-clause-after c =
    let all = c.new-records.ensures in
    let rs = encode_records (records_from c.args.bytes.now 8) in
    let size = rw (all.bytes, all.at) at c.end_of-size.ensures in
    let put = rw (all.bytes, all.at) at c.put_records.ensures in
    let w = rewritten c.args.heading rs c.args.out.now c.put_heading.new.out c.put_records.new.out c.end_of-size.result size c.if-out-size.false c.put_heading.ensures put in
    w.1
