-- The order of entries.
use Rattle.std.specs.Prelude.{Bool}
use Rattle.cost.specs.Costs.{Costs, Laws}
use Rattle.queue.specs.Order.{Strict}
use Rattle.queue.specs.Lexical.{lexical, lexical_strict}
use Rattle.search_types.specs.declared.entry.Entry.{Entry}

abbrev pub sooner : {C : Type 0} → (C → C → Bool) → Entry C → Entry C → Bool
sooner before = lexical before (λ e. e.cost) (λ e. e.station)

pub sooner_strict : {C : Type 0} (k : Costs C) → Laws k → Strict (sooner k.before)
sooner_strict k l = lexical_strict k.before (record { one_way = l.one_way; chain = l.carries; apart = l.total }) (λ e. e.cost) (λ e. e.station) (λ x y p q. λ i. record { cost = p i; station = q i })
