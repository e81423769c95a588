use Rattle.std.proofs.Common.{◌≡◌, sum_by, count_ones, ◌∙◌, rules}
use Rattle.sets.proofs.Counts.{count_words}
use Rattle.sets.proofs.number_set.ones.Goals as goal

pub returns : goal.returns
returns c =
    let e : c.sum.result ≡ sum_by count_ones c.args.words.now = search rules in
    e ∙ count_words c.args.words.now (λ i. let h = c.type_inv.words i in search rules)
