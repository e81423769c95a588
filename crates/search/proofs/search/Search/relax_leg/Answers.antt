use Rattle.std.proofs.Common.{◌≡◌, ℕ, ◌<◌, ◌≤◌, Bool, List, Option, length, get_or, set, Some, None, sym, refl, ap, ◌∙◌, inl, inr, arith}
use Rattle.cost.specs.Costs.{Costs}
use Rattle.queue.specs.declared.queue.Queue.{Queue}
use Rattle.search_types.specs.declared.entry.Entry.{Entry}
use Rattle.queue.specs.Waiting.{held, gone}
use Rattle.queue.proofs.Rows.{gone_within}
use Rattle.search.specs.Tables.{blank, place}
use Rattle.search.proofs.Tables.{placed_most, place_some, place_none}
use Rattle.search.proofs.Relaxes.{Arrived, relax_pass, relax_over, relax_insert, relax_replace}
use Rattle.snapshot.specs.Sounds.{snapshot_sound}
use Rattle.std.proofs.lemmas.List.{get_or_default}
use Rattle.std.proofs.lemmas.Bool.{both_ways}
use Rattle.search.proofs.search.Search.relax_leg.Given.{Over}
use Rattle.search.proofs.search.Search.relax_leg.Goals as goal
use Rattle.search.proofs.search.Search.relax_leg.Goals.{In-Some, After-may_use, in_default-via-in-None-1, in_default-via-in-Some-place+else-from-gone}

arrived : (g : Over) (c : In-Some g) → Arrived (g.K.CostModel.costs c.args.self.now.model.now) c.args.self.now c.args.number c.args.settling.now c.args.last c.in-Some.leg
arrived g c = record {
  laws = g.K.CostModel.laws c.args.self.now.model.now;
  stage = c.requires.stage;
  last_is = c.requires.last;
  arrives = c.requires.arrives;
  at = sym c.in-Some.ensures;
}

-- the place that is read, and the cost in the entry there
before_as : {C : Type 0} (k : Costs C) (a a' d d' : C) (r t : Bool) → a ≡ a' → d ≡ d' → r ≡ k.before a d → r ≡ t → k.before a' d' ≡ t
before_as k a a' d d' r t p q e h = cc

-- where the leg's start stands, if it has an entry: it waits
place_read : (g : Over) (c : After-may_use g) → c.in_default.place ≡ get_or c.args.settling.now.places c.in-Some.leg.from None
place_read g c = elim c.in_default.branch [
  | in_default-via-in-None-1 w ↦ w.place-is ∙ ap (λ v. get_or c.args.settling.now.places v None) c.from-from.ensures
  | in_default-via-in-Some-place+else-from-gone w ↦ w.place-is ∙ sym w.in-Some-place.is ∙ ap (λ v. get_or c.args.settling.now.places v None) c.from-from.ensures
]

waits : (g : Over) (c : After-may_use g) (w : ℕ) → c.in_default.place ≡ Some w → gone c.args.settling.now.queue ≤ w
waits g c w e = elim c.in_default.branch [
  | in_default-via-in-None-1 x ↦ absurd (cc)
  | in_default-via-in-Some-place+else-from-gone x ↦
      let same : x.in-Some-place.place ≡ w = cc in
      omega arith
]

-- where the waiting entry of a station v stands
record Spot {C : Type 0} (q : Queue (Entry C)) (places : List (Option ℕ)) (v w : ℕ) : Type 0 where
  is : w ≡ place places v
  low : gone q ≤ w
  near : w ≤ 63
  high : w < length (held q)

spot : (g : Over) (c : After-may_use g) (w : ℕ) → c.in_default.place ≡ Some w → Spot c.args.settling.now.queue c.args.settling.now.places c.in-Some.leg.from w
spot g c w e = record { is = at; low = waits g c w e; near = small; high = omega (arith, at, small, (c.requires.stage.settles.placed.there c.in-Some.leg.from (omega (arith, at, small))).0) }
  where
    read : get_or c.args.settling.now.places c.in-Some.leg.from None ≡ Some w
    read = sym (place_read g c) ∙ e

    at : w ≡ place c.args.settling.now.places c.in-Some.leg.from
    at = place_some c.args.settling.now.places c.in-Some.leg.from w read

    small : w ≤ 63
    small = c.requires.stage.settles.placed.small c.in-Some.leg.from w read

pub overflow_cast-settling : goal.overflow_cast-settling
overflow_cast-settling g c =
    let s = c.args.self.now in
    let few : length (held c.args.settling.now.queue) ≤ s.network.now.stations = placed_most _ s.network.now.stations (snapshot_sound s.network.now).stations_high (held c.args.settling.now.queue) c.args.settling.now.places c.requires.stage.settles.placed in
    omega (arith, few, ap length c.held.ensures, (snapshot_sound s.network.now).stations_high)

pub returns-clause-stage : goal.returns-clause-stage
returns-clause-stage g c =
    let a = arrived g (goal.at.returns-clause-stage g c).In-Some in
    let is : c.in-Some-place.place ≡ place c.args.settling.now.places c.in-Some.leg.from = place_some c.args.settling.now.places c.in-Some.leg.from _ (rw c.from-from.ensures at c.in-Some-place.is) in
    relax_pass a c.in-Some-place.place is (λ u. inl (omega arith))

pub returns-then-not-may_use-clause-stage : goal.returns-then-not-may_use-clause-stage
returns-then-not-may_use-clause-stage g c =
    let a = arrived g (goal.at.returns-then-not-may_use-clause-stage g c).In-Some in
    relax_pass a (place c.args.settling.now.places c.in-Some.leg.from) refl (λ u. absurd (both_ways c.may_use.result c.if-not-may_use.true (c.may_use.ensures.1 u)))

pub offset_bounds-held-place : goal.offset_bounds-held-place
offset_bounds-held-place g c =
    let p = spot g (goal.at.offset_bounds-held-place g c).After-may_use c.from-place.result (c.in-Some-place-2.is ∙ ap (λ n. Some n) (sym c.from-place.ensures)) in
    omega (arith, p.high, ap length c.held-in-Some-place-2.ensures)

pub bounds-held-place : goal.bounds-held-place
bounds-held-place g c =
    let p = spot g (goal.at.bounds-held-place g c).After-may_use c.from-place.result (c.in-Some-place-2.is ∙ ap (λ n. Some n) (sym c.from-place.ensures)) in
    omega (arith, p.high, ap length c.held-in-Some-place-2.ensures)

pub bounds-held-place-in-Some-place-2 : goal.bounds-held-place-in-Some-place-2
bounds-held-place-in-Some-place-2 g c =
    let p = spot g (goal.at.bounds-held-place-in-Some-place-2 g c).After-may_use c.from-place.result (c.in-Some-place-2.is ∙ ap (λ n. Some n) (sym c.from-place.ensures)) in
    omega (arith, p.high, ap length c.held-in-Some-place-2.ensures)

pub returns-in-None-clause-stage : goal.returns-in-None-clause-stage
returns-in-None-clause-stage g c =
    let k = g.K.CostModel.costs c.args.self.now.model.now in
    let a = arrived g (goal.at.returns-in-None-clause-stage g c).In-Some in
    let is : 64 ≡ place c.args.settling.now.places c.in-Some.leg.from = place_none c.args.settling.now.places c.in-Some.leg.from (sym (place_read g (goal.at.returns-in-None-clause-stage g c).After-may_use) ∙ c.in-None.is) in
    let free = c.may_use.ensures.0 c.if-not-may_use.false in
    let most : length (held c.args.settling.now.queue) ≤ 64 = omega (arith, placed_most k _ (snapshot_sound c.args.self.now.network.now).stations_high (held c.args.settling.now.queue) c.args.settling.now.places c.requires.stage.settles.placed, (snapshot_sound c.args.self.now.network.now).stations_high) in
    let over = relax_over a 64 is (omega (arith, most, gone_within c.args.settling.now.queue)) c.of_leg.result c.join-cost.result c.of_leg.ensures c.join-cost.ensures in
    relax_insert a 64 is free c.join-cost.result over c.insert.new.self c.insert.ensures.keeps (omega arith) c.insert.ensures.held _
    ((λ t. set c.args.settling.now.places (c.from-from.ensures t) (Some (length (c.held.ensures t)))))

pub returns-then-before-clause-stage : goal.returns-then-before-clause-stage
returns-then-before-clause-stage g c =
    let k = g.K.CostModel.costs c.args.self.now.model.now in
    let q = c.args.settling.now.queue in
    let at = goal.at.returns-then-before-clause-stage g c in
    let a = arrived g at.In-Some in
    let w = c.from-place.result in
    let p = spot g at.After-may_use w (c.in-Some-place-2.is ∙ ap (λ n. Some n) (sym c.from-place.ensures)) in
    let over = relax_over a w p.is p.low c.of_leg.result c.join-cost.result c.of_leg.ensures c.join-cost.ensures in
    let read = ap (λ xs. (get_or xs w c.index-held-place.result).cost) c.held-in-Some-place-2.ensures ∙ ap (λ e. e.cost) (get_or_default (held q) w c.index-held-place.result (blank k) p.high) in
    relax_replace a w p.is (c.may_use.ensures.0 c.if-not-may_use.false) c.join-cost.result over c.replace.new.self c.replace.ensures.keeps p.low p.near (before_as k _ _ _ _ _ _ refl read c.before-in-Some-place-2.ensures c.if-before.true) c.replace.ensures.held

pub returns-else-before-clause-stage : goal.returns-else-before-clause-stage
returns-else-before-clause-stage g c =
    let k = g.K.CostModel.costs c.args.self.now.model.now in
    let q = c.args.settling.now.queue in
    let at = goal.at.returns-else-before-clause-stage g c in
    let a = arrived g at.In-Some in
    let w = c.from-place.result in
    let p = spot g at.After-may_use w (c.in-Some-place-2.is ∙ ap (λ n. Some n) (sym c.from-place.ensures)) in
    let over = relax_over a w p.is p.low c.of_leg.result c.join-cost.result c.of_leg.ensures c.join-cost.ensures in
    let read = ap (λ xs. (get_or xs w c.index-held-place.result).cost) c.held-in-Some-place-2.ensures ∙ ap (λ e. e.cost) (get_or_default (held q) w c.index-held-place.result (blank k) p.high) in
    relax_pass a w p.is (λ u. inr (p.near, before_as k _ _ _ _ _ _ over read c.before-in-Some-place-2.ensures c.if-before.false))
