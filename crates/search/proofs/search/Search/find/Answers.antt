use Rattle.std.proofs.Common.{◌≡◌, ◌≤◌, get_or, None, Some, Option, sym, ap, ◌∙◌, subst, arith}
use Rattle.queue.specs.Waiting.{held}
use Rattle.route.specs.Routes.{Least}
use Rattle.search_types.specs.declared.leg_list.LegList.{LegList}
use Rattle.search.specs.Answers.{Found}
use Rattle.search.specs.Stages.{network_of, barred_in}
use Rattle.search.specs.Tables.{place, Settled}
use Rattle.search.proofs.Tables.{place_some, place_none, placed_most}
use Rattle.search.proofs.Whole.{stage_start, none_found, least_hops, least_found}
use Rattle.snapshot.specs.Sounds.{snapshot_sound}
use Rattle.search.proofs.search.Search.find.Given.{Over}
use Rattle.search.proofs.search.Search.find.Goals as goal
use Rattle.search.proofs.search.Search.find.Goals.{After-held}

-- the start has an entry
near : (g : Over) (c : After-held g) → place c.settle.new.settling.places c.args.start ≤ 63
near g c =
    let places = c.settle.new.settling.places in
    let read : get_or places c.args.start None ≡ Some c.in_ok-settling.field-0 = ap (λ v. get_or places v None) (sym c.from-2.ensures) ∙ c.in_ok-settling.was in
    omega (arith, c.settle.ensures.settled.placed.small c.args.start c.in_ok-settling.field-0 read, place_some places c.args.start c.in_ok-settling.field-0 read)

table : (g : Over) (c : After-held g) → Settled (g.K.CostModel.costs c.args.self.now.model.now) (network_of c.args.self.now) (barred_in c.args.self.now) c.args.self.now.goal c.held.result.now c.settle.new.settling.places
table g c = subst (λ xs. Settled (g.K.CostModel.costs c.args.self.now.model.now) (network_of c.args.self.now) (barred_in c.args.self.now) c.args.self.now.goal xs c.settle.new.settling.places) (sym c.held.ensures) c.settle.ensures.settled

pub settle-requires : goal.settle-requires
settle-requires g c = stage_start (g.K.CostModel.costs c.args.self.now.model.now) c.args.self.now c.requires.goal c.over.result c.insert.new.self c.zero.result c.zero.ensures c.over.ensures.held c.over.ensures.gone (omega (arith, c.requires.room, c.over.ensures.room)) (network_of c.args.self.now).legs c.from.result c.from.ensures c.insert.ensures.held c.insert.ensures.keeps

pub returns-in_err-settling-clause-found : goal.returns-in_err-settling-clause-found
returns-in_err-settling-clause-found g c =
    let k = g.K.CostModel.costs c.args.self.now.model.now in
    let s = c.args.self.now in
    let places = c.settle.new.settling.places in
    let far = place_none places c.args.start (ap (λ v. get_or places v None) (sym c.from-2.ensures) ∙ c.in_err-settling.was) in
    subst (λ (r : Option LegList). Found k (network_of s) (barred_in s) c.args.start s.goal r) (sym c.from_residual.ensures)
    (none_found k (g.K.CostModel.laws s.model.now) (network_of s) (snapshot_sound s.network.now) (barred_in s) s.goal (held c.settle.new.settling.queue) places c.settle.ensures.settled c.args.start (omega (arith, far)))

pub invariant_of-table : goal.invariant_of-table
invariant_of-table g c =
    let s = c.args.self.now in
    let sound = snapshot_sound s.network.now in
    omega (arith, placed_most (g.K.CostModel.costs s.model.now) (network_of s).stations sound.stations_high c.held.result.now c.settle.new.settling.places (table g (goal.at.invariant_of-table g c).After-held).placed, sound.stations_high)

pub trace-requires-clause-labelled : goal.trace-requires-clause-labelled
trace-requires-clause-labelled g c =
    let s = c.args.self.now in
    let at = (goal.at.trace-requires-clause-labelled g c).After-held in
    least_hops (g.K.CostModel.costs s.model.now) (g.K.CostModel.laws s.model.now) (network_of s) (snapshot_sound s.network.now) (barred_in s) s.goal c.held.result.now c.settle.new.settling.places (table g at) c.args.start c.label-labels.result c.label-labels.ensures.labelling (near g at)

pub returns-clause-found : goal.returns-clause-found
returns-clause-found g c =
    let s = c.args.self.now in
    let at = (goal.at.returns-clause-found g c).After-held in
    subst (λ is. Least (g.K.CostModel.costs s.model.now) (network_of s) (barred_in s) c.args.start s.goal is) (sym c.trace.ensures)
    (least_found (g.K.CostModel.costs s.model.now) (g.K.CostModel.laws s.model.now) (network_of s) (snapshot_sound s.network.now) (barred_in s) s.goal c.held.result.now c.settle.new.settling.places (table g at) c.args.start c.label-labels.result c.label-labels.ensures.labelling (near g at) c.requires.apart)
