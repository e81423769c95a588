-- Pairs by what is first in them, and then by what is second.
use Rattle.std.specs.Prelude.{Bool, nat_lt}
use Rattle.queue.specs.Lexical.{lexical, lexical_strict, numbers_strict}
use Rattle.queue.specs.Order.{Strict}
use Rattle.queue.specs.declared.pair.Pair.{Pair}

abbrev pub pair_less : Pair → Pair → Bool
pair_less = lexical nat_lt (λ p. p.first) (λ p. p.second)

pub pairs_strict : Strict pair_less
pairs_strict = lexical_strict nat_lt numbers_strict (λ p. p.first) (λ p. p.second) (λ x y f s. λ i. record { first = f i; second = s i })
