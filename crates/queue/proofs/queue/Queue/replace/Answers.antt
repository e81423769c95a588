use Rattle.std.proofs.Common.{◌<◌, ◌≤◌, arith}
use Rattle.std.proofs.lemmas.Grind.{common_steps}
use lib.Seq.{take-set-lt}
use Rattle.queue.proofs.Rows.{rewritten}
use Rattle.queue.proofs.queue.Queue.replace.Goals as goal

pub returns-then-waits-clause-held : goal.returns-then-waits-clause-held
returns-then-waits-clause-held g c =
    let q = c.args.self.now in
    let high : c.args.place < q.end = grind (arith, common_steps) in
    let h = take-set-lt q.end q.row.now c.args.place c.args.entry high in
    grind (arith, common_steps)

pub returns-then-waits-clause-waiting : goal.returns-then-waits-clause-waiting
returns-then-waits-clause-waiting g c =
    let q = c.args.self.now in
    let low : q.out ≤ c.args.place = grind (arith, common_steps) in
    let high : c.args.place < q.end = grind (arith, common_steps) in
    let h = rewritten q.row.now q.out q.end c.args.place c.args.entry low high in
    grind (arith, common_steps)
