use Rattle.std.proofs.Common.{◌≡◌, length, replicate, List, [], ◌∷◌, refl, subst, ap, ◌∙◌, rules}
use Rattle.std.specs.List.{FoldsTo}
use Rattle.search.proofs.least.clear.Goals as goal

-- where each call gives one value, the list is that value over and over
filled : {F X : Type 0} (R : F → X → F → Type 0) (x : X) (f : F) → ((y : X) (f' : F) → R f y f' → (y ≡ x) × (f' ≡ f)) → (xs : List X) (f' : F) → FoldsTo R f xs f' → xs ≡ replicate (length xs) x
filled R x f one [] f' h = refl
filled R x f one (y ∷ ys) f' h =
    let now = one y h.0 h.1 in
    let more = filled R x f one ys f' (subst (λ k. FoldsTo R k ys f') now.1 h.2) in
    cc

pub returns : goal.returns
returns g c =
    filled _ c.args.blank _ (λ y f' k. (search rules, search rules)) c.fill_with.new.self _ c.fill_with.ensures.ran.1 ∙ ap (λ n. replicate n c.args.blank) c.fill_with.ensures.len
