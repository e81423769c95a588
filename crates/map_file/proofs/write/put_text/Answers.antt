use Rattle.std.proofs.Common.{ℕ, ◌+◌, List, [], ◌∷◌, length, refl, ap, ◌∙◌, arith}
use Rattle.map_file.specs.Writing.{spliced}
use Rattle.map_file.proofs.Splices.{splice_behind}
use Rattle.map_file.proofs.write.put_text.Goals as goal

pub returns : goal.returns
returns c =
    let at = c.args.at in
    let out = c.args.out.now in
    let text = c.args.text.now in
    let mark = c.from.result in
    c.put-2.ensures
    ∙ ap (λ (l : List ℕ). spliced l (at + 2) text) c.put.ensures
    ∙ splice_behind out at (at + 2) (mark ∷ length text ∷ []) text refl (omega (arith, c.requires.fits))
    ∙ ap (λ b. spliced out at (b ∷ length text ∷ text)) c.from.ensures
