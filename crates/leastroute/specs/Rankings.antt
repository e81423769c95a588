-- The letters of the rankings.
use Rattle.std.specs.Prelude.{ℕ, cond, Some, None, Option, ◌==◌}
use Rattle.leastroute.specs.declared.ranking.Ranking.{Ranking}
use Rattle.leastroute.specs.declared.ranking.Ranking.TheVariants.{Seconds, Points}

-- "S" and "P"
abbrev pub ranking_of : ℕ → Option Ranking
ranking_of letter = cond (letter == 0x53) (Some Seconds) (cond (letter == 0x50) (Some Points) None)
