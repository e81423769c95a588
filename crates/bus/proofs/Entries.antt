-- The entries of a matrix, each with its place.
use Rattle.std.proofs.Common.{◌≡◌, ℕ, ◌+◌, ◌<◌, Bool, true, ◌&&◌, List, [], ◌∷◌, length, get_or, refl, ap, ◌∙◌, subst}
use Rattle.std.specs.List.{list_all, enumerate_from}
use Rattle.std.proofs.lemmas.List.Elements.{All-get_or}
use Rattle.std.proofs.lemmas.List.FromFn.{length-enumerate_from, get_or-enumerate_from}
use Rattle.std.proofs.lemmas.List.Sums.{AllPass-from_list_all}
use Rattle.bus.specs.Matrices.{entry_fits, entries_fit}

-- whether each entry fits with its place
pub all_fit : (n i : ℕ) (entries : List ℕ) → list_all (λ e. entry_fits n e.0 e.1) (enumerate_from i entries) ≡ entries_fit n i entries
all_fit n i [] = refl
all_fit n i (x ∷ xs) = ap (λ (b : Bool). entry_fits n i x && b) (all_fit n (i + 1) xs)

-- where every entry fits, each does
pub each_fits : (n i : ℕ) (entries : List ℕ) → entries_fit n i entries ≡ true → (k : ℕ) → k < length entries → entry_fits n (i + k) (get_or entries k 0) ≡ true
each_fits n i entries e k h =
    let fits : ℕ × ℕ → Bool = λ p. entry_fits n p.0 p.1 in
    let all = AllPass-from_list_all fits (enumerate_from i entries) (all_fit n i entries ∙ e) in
    let long = length-enumerate_from i entries in
    let at = get_or-enumerate_from i entries k (0, 0) h in
    subst (λ p. fits p ≡ true) at (All-get_or (λ p. fits p ≡ true) (enumerate_from i entries) k (0, 0) (rw long h) all)
