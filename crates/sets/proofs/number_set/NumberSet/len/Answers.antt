use Rattle.std.proofs.Common.{rules}
use Rattle.sets.proofs.Counts.{count_take}
use Rattle.sets.proofs.number_set.NumberSet.len.Goals as goal

pub returns : goal.returns
returns g c = search (rules, count_take)
