-- A search under way in a queue and its tables.
use Rattle.std.specs.Prelude.{◌≡◌, ℕ, suc, ◌-◌, ◌<◌, ◌≤◌, List, Some, Option, slice_index_or, slice_set}
use Rattle.network.specs.Meaning.{Meaning}
use Rattle.cost.specs.Costs.{Costs}
use Rattle.queue.specs.declared.least.Least.{Least}
use Rattle.queue.specs.declared.queue.Queue.{Queue}
use Rattle.queue.specs.Waiting.{taken, held, gone, room}
use Rattle.route.specs.Routes as routes
use Rattle.snapshot.specs.Meanings.{meaning_of}
use Rattle.snapshot.specs.Steps.{Awaits}
use Rattle.snapshot.specs.declared.iter.ArrivalsAt.{ArrivalsAt}
use Rattle.search_types.specs.declared.entry.Entry.{Entry}
use Rattle.search.specs.declared.cost_table.CostTable.{CostTable}
use Rattle.search.specs.declared.labels.Labels.{Labels}
use Rattle.search.specs.declared.search.Search.{Search}
use Rattle.search.specs.declared.settling.Settling.{Settling}
use Rattle.search_types.specs.Bars.{bars_of}
use Rattle.search.specs.Lines.{line_of, hops_of, Labelled}
use Rattle.search.specs.Tables.{blank, cost_of, Settles, Settled}

abbrev pub network_of : {K : Type 0} → Search K → Meaning
network_of s = meaning_of s.network.now

abbrev pub barred_in : {K : Type 0} → Search K → routes.Bars
barred_in s = bars_of s.bars.now

-- phase 1, at the leg number i, with room for every station
pub record Stage {K C : Type 0} (k : Costs C) (s : Search K) (i : ℕ) (t : Settling C) : Type 0 where
  pub settles : Settles k (network_of s) (barred_in s) s.goal (gone t.queue) i (held t.queue) t.places
  pub roomy : (network_of s).stations ≤ room t.queue

-- the entry that came out last
pub record Last {C : Type 0} (k : Costs C) (q : Queue (Entry C)) (last : Entry C) : Type 0 where
  pub some : 0 < gone q
  pub is : slice_index_or (taken q) (gone q - 1) (blank k) ≡ last

-- phase 1 while the arrivals at the station that came out last are looked at: those below i were, and the walk has the
-- others
pub record Relaxing {K C : Type 0} (k : Costs C) (s : Search K) (last : Entry C) (i : ℕ) (walk : ArrivalsAt) (t : Settling C) : Type 0 where
  pub stage : Stage k s i t
  pub last_is : Last k t.queue last
  pub awaits : Awaits walk (network_of s) last.station i

-- the places once a waiting entry has come out: it stands at the end of those that have, and the entry that stood there
-- went to its place
abbrev pub places_after : {C : Type 0} → Costs C → Queue (Entry C) → Least (Entry C) → List (Option ℕ) → List (Option ℕ)
places_after k q l places = slice_set (slice_set places (slice_index_or (held q) l.place (blank k)).station (Some l.place)) l.entry.station (Some (gone q - 1))

-- the same, once a waiting entry has come out of the queue
abbrev pub popped : {C : Type 0} → Costs C → Settling C → Least (Entry C) → Settling C
popped k t l = record { queue = t.queue; places = places_after k t.queue l t.places }

abbrev pub table_cost : {C : Type 0} → Costs C → CostTable C → ℕ → C
table_cost k t = cost_of k t.row.now t.places.now

abbrev pub SettledIn : {K C : Type 0} → Costs C → Search K → CostTable C → Type 0
SettledIn k s t = Settled k (network_of s) (barred_in s) s.goal t.row.now t.places.now

-- phase 2, at the leg number i into the c-th station of the line
abbrev pub LabelledIn : {K C : Type 0} → Costs C → Search K → CostTable C → ℕ → ℕ → Labels → Type 0
LabelledIn k s t c i ls = Labelled k (network_of s) (barred_in s) s.goal c i (table_cost k t) ls

-- the station whose arrivals are looked at: it stands in the line, and the labels over legs into it have h legs, at most 63
pub record Current (h : ℕ) (ls : Labels) : Type 0 where
  pub in_line : ls.done < ls.count
  pub hops : h ≡ suc (hops_of ls (line_of ls ls.done))
  pub near : h ≤ 63

-- phase 2 while the arrivals at that station are looked at: those below i were, and the walk has the others
pub record Naming {K C : Type 0} (k : Costs C) (s : Search K) (t : CostTable C) (h i : ℕ) (walk : ArrivalsAt) (ls : Labels) : Type 0 where
  pub labelled : LabelledIn k s t ls.done i ls
  pub current : Current h ls
  pub awaits : Awaits walk (network_of s) (line_of ls ls.done) i
