-- What a search for the least route answers, and what it leaves.
use Rattle.std.specs.Prelude.{◌≡◌, ℕ, cond, List, length, replicate, Some, None, Ok, Err, Option, Result, nat_lt}
use Rattle.std.specs.Option.{option_or}
use Rattle.network.specs.Meaning.{Meaning}
use Rattle.network.specs.declared.refusal.Refusal.{Refusal}
use Rattle.network.specs.declared.refusal.Refusal.TheVariants.{ShortWorkspace, NoFurtherRoute}
use Rattle.cost.specs.Costs.{Costs}
use Rattle.route.specs.Routes.{Bars, Route, Least}
use Rattle.search_types.specs.declared.entry.Entry.{Entry}
use Rattle.search_types.specs.declared.leg_list.LegList.{LegList}
use Rattle.search_types.specs.Ends.{ends_refusal}
use Rattle.search_types.specs.Legs.{legs_of}
use Rattle.search.specs.Tables.{blank}

-- the least route where there is one
abbrev pub Found : {C : Type 0} → Costs C → Meaning → Bars → ℕ → ℕ → Option LegList → Type 0
Found k m b start goal None = (is : List ℕ) → Route m b start goal is → ⊥
Found k m b start goal (Some x) = Least k m b start goal (legs_of x)

-- what is refused before anything is searched: ends that are no stations, then equal ends, then fewer entries than stations
abbrev pub refused_first : ℕ → ℕ → ℕ → ℕ → Option Refusal
refused_first stations start goal entries = option_or (ends_refusal stations start goal) (cond (nat_lt entries stations) (Some ShortWorkspace) None)

-- the answer of a search that was made, and the route in the lent place before and after it
abbrev pub Answered : {C : Type 0} → Costs C → Meaning → Bars → ℕ → ℕ → Result (Unit {0}) Refusal → LegList → LegList → Type 0
Answered k m b start goal (Ok x) was is = Least k m b start goal (legs_of is)
Answered k m b start goal (Err why) was is = (why ≡ NoFurtherRoute) × (is ≡ was) × ((js : List ℕ) → Route m b start goal js → ⊥)

-- refused first, and all is as it was; or searched, and every entry of the workspace is cleared
abbrev pub Searched : {C : Type 0} → Costs C → Meaning → Bars → ℕ → ℕ → Option Refusal → Result (Unit {0}) Refusal → LegList → LegList → List (Entry C) → List (Entry C) → Type 0
Searched k m b start goal (Some why) r was is row row' = (r ≡ Err why) × (is ≡ was) × (row' ≡ row)
Searched k m b start goal None r was is row row' = Answered k m b start goal r was is × (row' ≡ replicate (length row) (blank k))
