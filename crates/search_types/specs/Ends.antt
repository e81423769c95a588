-- What is wrong with the ends of a route.
use Rattle.std.specs.Prelude.{ℕ, cond, ◌&&◌, Some, None, Option, ◌==◌, nat_lt}
use Rattle.network.specs.declared.refusal.Refusal.{Refusal}
use Rattle.network.specs.declared.refusal.Refusal.TheVariants.{NoSuchStation, SameStation}

-- ends that are no stations, then equal ends
abbrev pub ends_refusal : ℕ → ℕ → ℕ → Option Refusal
ends_refusal stations start goal = cond (nat_lt start stations && nat_lt goal stations) (cond (start == goal) (Some SameStation) None) (Some NoSuchStation)
