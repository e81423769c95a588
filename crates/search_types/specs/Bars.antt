-- What bars mean, and what one bar more makes of them.
use Rattle.std.specs.Prelude.{ℕ, Bool, true, cond, ◌==◌, nat_lt}
use Rattle.route.specs.Routes as routes
use Rattle.search_types.specs.declared.bars.Bars.{Bars}
use Rattle.sets.specs.Sets.{holds}

abbrev pub bars_of : Bars → routes.Bars
bars_of b = record { station = λ s. holds b.stations.words s; leg = λ i. holds b.legs.words i }

-- what is barred after a number is; one that is not below the bound changes nothing
abbrev pub barred : ℕ → ℕ → (ℕ → Bool) → ℕ → Bool
barred bound number old i = cond (nat_lt number bound) (cond (i == number) true (old i)) (old i)
