use Rattle.std.proofs.Common.{◌≡◌, suc, length, get_or, set, Some, None, sym, ap, ◌∙◌, subst, add-one, arith, rules}
use Rattle.snapshot.specs.Tables.{Linked}
use Rattle.snapshot.proofs.Links.{linked_none, linked_some}
use Rattle.snapshot.proofs.arrivals.Arrivals.link.Goals as goal

pub returns-in-Some : goal.returns-in-Some
returns-in-Some c =
    let legs = c.args.legs.now in
    let first = c.args.self.now.first in
    let next = c.args.self.now.next in
    let i = c.args.number in
    let l = c.in-Some.leg in
    let wide : length first ≡ 64 = search rules in
    let tall : length next ≡ 512 = search rules in
    let here : get_or legs i None ≡ Some l = sym (ap (λ k. get_or legs k None) c.from-place.ensures) ∙ c.in-Some.is in
    let reach = c.requires.bounded i l here in
    let above : Linked legs (suc i) first next = subst (λ k. Linked legs k first next) (add-one i) c.requires.linked in
    subst (λ t. Linked legs i (set first t (Some i)) (set next c.from-place.result (get_or first t None))) (sym c.from-to.ensures)
    (subst (λ k. Linked legs i (set first l.to (Some i)) (set next k (get_or first l.to None))) (sym c.from-place.ensures)
    (linked_some legs i first next c.requires.number above l here (omega (arith, reach)) (omega arith)))

pub returns-in_default : goal.returns-in_default
returns-in_default c =
    let legs = c.args.legs.now in
    let i = c.args.number in
    let here : get_or legs i None ≡ None = sym (ap (λ k. get_or legs k None) c.from-place.ensures) ∙ cc in
    linked_none legs i c.args.self.now.first c.args.self.now.next c.requires.number (subst (λ k. Linked legs k c.args.self.now.first c.args.self.now.next) (add-one i) c.requires.linked) here
