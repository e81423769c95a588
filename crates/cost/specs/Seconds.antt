-- Costs that are seconds.
use Rattle.std.specs.Prelude.{ℕ, ◌+◌, ◌*◌, ◌≤◌, nat_lt}
use Rattle.std.proofs.Common.{arith}
use Rattle.std.proofs.lemmas.Bool.Decides.{nat_tests}
use Rattle.cost.specs.Costs.{Costs, Laws}

-- a leg takes at most 43,200 seconds
abbrev pub seconds : Costs ℕ
seconds = record { zero = 0; of_leg = λ l. l.seconds; join = λ a b. a + b; before = nat_lt; stands = λ c n. c ≤ 43200 * n }

pub seconds_laws : Laws seconds
seconds_laws = record {
  stands_zero = omega arith;
  stands_leg = λ l f. omega (arith, f.seconds_high);
  stands_join = λ a b m n p q h. omega arith;
  zero_left = λ a m p h. omega arith;
  zero_right = λ a m p h. omega arith;
  assoc = λ a b c m n p x y z h. omega arith;
  irreflexive = λ a. grind (arith, nat_tests);
  one_way = λ a b e. grind (arith, nat_tests);
  total = λ a b e f. grind (arith, nat_tests);
  carries = λ a b c e f. grind (arith, nat_tests);
  grows = λ a b m n p q h. grind (arith, nat_tests);
  keeps_right = λ a b c m n p x y z g h e. grind (arith, nat_tests);
  keeps_left = λ a b c m n p x y z g h e. grind (arith, nat_tests);
}
