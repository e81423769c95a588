use Rattle.std.proofs.Common.{◌≡◌, ◌+◌, ◌-◌, take, drop, sym, ap, ◌∙◌, arith}
use Rattle.std.proofs.lemmas.List.{drop-take}
use Rattle.queue.proofs.queue.Queue.waiting.Goals as goal

pub returns : goal.returns
returns g c =
    let q = c.args.self.now in
    let end : q.out + (q.end - q.out) ≡ q.end = omega (arith, q.ordered) in
    sym (drop-take q.out (q.end - q.out) q.row.now) ∙ ap (λ n. drop q.out (take n q.row.now)) end
