-- Costs that are seconds, those of some legs.
use Rattle.std.specs.Prelude.{ℕ, ◌+◌, ◌*◌, ◌%◌, ◌≤◌, cond, ltb, ◌==◌}
use Rattle.std.proofs.Common.{arith}
use Rattle.std.proofs.lemmas.Bool.{lt-ltb, le-ltb, ltb-true, ltb-false, cond_both}
use Rattle.network.specs.declared.leg.Leg.{Leg}
use Rattle.cost.specs.Costs.{Costs, Laws}

-- a leg with an even number of seconds is free
abbrev pub charged : Leg → ℕ
charged l = cond (l.seconds % 2 == 0) 0 l.seconds

abbrev pub even_free : Costs ℕ
even_free = record { zero = 0; of_leg = charged; join = λ a b. a + b; before = ltb; stands = λ c n. c ≤ 43200 * n }

pub even_free_laws : Laws even_free
even_free_laws = record {
  stands_zero = omega arith;
  stands_leg = λ l f. cond_both (l.seconds % 2 == 0) 0 l.seconds (λ c. c ≤ 43200 * 1) (λ e. omega arith) (λ e. omega (arith, f.seconds_high));
  stands_join = λ a b m n p q h. omega arith;
  zero_left = λ a m p h. omega arith;
  zero_right = λ a m p h. omega arith;
  assoc = λ a b c m n p x y z h. omega arith;
  irreflexive = λ a. le-ltb a a (omega arith);
  one_way = λ a b e. le-ltb b a (omega (arith, ltb-true a b e));
  total = λ a b e f. omega (arith, ltb-false a b e, ltb-false b a f);
  carries = λ a b c e f. lt-ltb a c (omega (arith, ltb-true a b e, ltb-true b c f));
  grows = λ a b m n p q h. le-ltb (a + b) a (omega arith);
  keeps_right = λ a b c m n p x y z g h e. lt-ltb (a + c) (b + c) (omega (arith, ltb-true a b e));
  keeps_left = λ a b c m n p x y z g h e. lt-ltb (c + a) (c + b) (omega (arith, ltb-true a b e));
}
