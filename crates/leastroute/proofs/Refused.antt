-- A search that is refused, and the ride that is refused for it.
use Rattle.std.proofs.Common.{◌≡◌, ℕ, ◌≤◌, List, length, Some, None, Err, Option, arith}
use Rattle.std.proofs.lemmas.Bool.Decides.{nat_tests}
use Rattle.cost.specs.Costs.{Costs}
use Rattle.network.specs.Meaning.{Meaning}
use Rattle.network.specs.declared.refusal.Refusal.{Refusal}
use Rattle.route.specs.Routes.{no_bars}
use Rattle.search.specs.Answers.{Searched, refused_first}
use Rattle.search_types.specs.Bars.{bars_of}
use Rattle.search_types.specs.Ends.{ends_refusal}
use Rattle.search_types.specs.declared.bars.Bars.{Bars as Barred}
use Rattle.search_types.specs.declared.entry.Entry.{Entry}
use Rattle.search_types.specs.declared.leg_list.LegList.{LegList}
use Rattle.leastroute.specs.Rides.{Ridden, RiddenIf}

module _ {C : Type 0} (k : Costs C) (m : Meaning) (start goal : ℕ) (why : Refusal) (was is : LegList) (row row' : List (Entry C)) where
  -- with room for every station, only the ends can be refused
  ends_only : (entries : ℕ) → m.stations ≤ entries → refused_first m.stations start goal entries ≡ ends_refusal m.stations start goal
  ends_only entries room = grind (arith, nat_tests)

  told : (o : Option Refusal) → Searched k m no_bars start goal o (Err why) was is row row' → RiddenIf k m start goal o (Err why)
  told (Some other) searched = let e = searched.0 in cc
  told None searched = (searched.0.0, searched.0.2)

  pub refused_ride : (b : Barred) → bars_of b ≡ no_bars → m.stations ≤ length row → Searched k m (bars_of b) start goal (refused_first m.stations start goal (length row)) (Err why) was is row row' → Ridden k m start goal (Err why)
  refused_ride b free room searched = told (ends_refusal m.stations start goal) (rw (free, ends_only (length row) room) at searched)
