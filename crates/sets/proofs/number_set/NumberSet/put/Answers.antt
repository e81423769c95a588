use Rattle.std.proofs.Common.{rules}
use Rattle.sets.proofs.Puts.{put_in, taken_out}
use Rattle.sets.proofs.number_set.NumberSet.put.Goals as goal

pub returns-then-member : goal.returns-then-member
returns-then-member g c = put_in _ _ _ _ c.from-word.ensures c.if-word.true (search rules) _ c.if-member.true

pub returns-else-member : goal.returns-else-member
returns-else-member g c = taken_out _ _ _ _ c.from-word.ensures c.if-word.true (search rules) _ c.if-member.false
