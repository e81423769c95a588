-- One write behind another.
use Rattle.std.proofs.Common.{◌≡◌, ℕ, ◌+◌, ◌≤◌, List, ◌++◌, length, take, drop, sym, ap, ◌∙◌, append_assoc, arith}
use Rattle.std.proofs.lemmas.List.{take_at, drop_at, drop-drop, length-append, length-take-le}
use Rattle.map_file.specs.Writing.{spliced}

-- a write that begins where one before it ends
pub splice_behind : (out : List ℕ) (at n : ℕ) (xs ys : List ℕ) → n ≡ at + length xs → at + length xs + length ys ≤ length out → spliced (spliced out at xs) n ys ≡ spliced out at (xs ++ ys)
splice_behind out at n xs ys e room =
    let front = take at out ++ xs in
    let tail = drop (at + length xs) out in
    let m = length ys in
    let at_fits : at ≤ length out = omega arith in
    let long : length front ≡ n = length-append (take at out) xs ∙ ap (λ k. k + length xs) (length-take-le at out at_fits) ∙ sym e in
    let grouped : spliced out at xs ≡ front ++ tail = sym (append_assoc (take at out) xs tail) in
    let past : drop (n + m) (front ++ tail) ≡ drop (at + length (xs ++ ys)) out =
    sym (drop-drop m n (front ++ tail)) ∙ ap (drop m) (drop_at front tail n long) ∙ drop-drop m (at + length xs) out
    ∙ ap (λ k. drop k out) (omega (arith, length-append xs ys)) in
    ap (λ (l : List ℕ). spliced l n ys) grouped
    ∙ ap (λ (l : List ℕ). l ++ (ys ++ drop (n + m) (front ++ tail))) (take_at front tail n long)
    ∙ ap (λ (l : List ℕ). front ++ (ys ++ l)) past
    ∙ append_assoc (take at out) xs (ys ++ drop (at + length (xs ++ ys)) out)
    ∙ ap (λ (l : List ℕ). take at out ++ l) (sym (append_assoc xs ys (drop (at + length (xs ++ ys)) out)))
