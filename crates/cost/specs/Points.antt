-- Costs that are points and then seconds.
use Rattle.std.specs.Prelude.{◌≡◌, ◌+◌, ◌*◌, ◌<◌, ◌≤◌, Bool, true, false, ◌&&◌, ◌||◌, ◌⊎◌, ◌==◌, nat_lt}
use Rattle.std.proofs.Common.{sym, arith}
use Rattle.std.proofs.lemmas.Bool.Decides.{nat_tests}
use Rattle.cost.specs.declared.fare.Fare.{Fare}
use Rattle.cost.specs.Costs.{Costs, Laws}

abbrev pub sum : Fare → Fare → Fare
sum a b = record { points = a.points + b.points; seconds = a.seconds + b.seconds }

-- fewer points, or as many and fewer seconds
abbrev pub cheaper : Fare → Fare → Bool
cheaper a b = nat_lt a.points b.points || (a.points == b.points && nat_lt a.seconds b.seconds)

-- a leg takes at most 99 points and 43,200 seconds
abbrev pub points : Costs Fare
points = record {
  zero = record { points = 0; seconds = 0 };
  of_leg = λ l. record { points = l.points; seconds = l.seconds };
  join = sum;
  before = cheaper;
  stands = λ c n. (c.points ≤ 99 * n) × (c.seconds ≤ 43200 * n);
}

-- ---- what the order says

abbrev pub Cheaper : Fare → Fare → Type 0
Cheaper a b = (a.points < b.points) ⊎ ((a.points ≡ b.points) × (a.seconds < b.seconds))

pub told : (a b : Fare) → cheaper a b ≡ true → Cheaper a b
told a b e = grind (arith, nat_tests)

pub shown : (a b : Fare) → Cheaper a b → cheaper a b ≡ true
shown a b h = grind (arith, nat_tests)

-- not before: more points, or as many and no fewer seconds
abbrev pub NoCheaper : Fare → Fare → Type 0
NoCheaper a b = (b.points ≤ a.points) × (a.points ≡ b.points → b.seconds ≤ a.seconds)

pub not_shown : (a b : Fare) → NoCheaper a b → cheaper a b ≡ false
not_shown a b h = grind (arith, nat_tests)

pub not_told : (a b : Fare) → cheaper a b ≡ false → NoCheaper a b
not_told a b e = (grind (arith, nat_tests), λ same. grind (arith, nat_tests))

carried : (a b c : Fare) → Cheaper a b → Cheaper b c → Cheaper a c
carried a b c h g = grind (arith, nat_tests)

-- joined with the same from either side
right : (a b c : Fare) → Cheaper a b → Cheaper (sum a c) (sum b c)
right a b c h = grind (arith, nat_tests)

left : (a b c : Fare) → Cheaper a b → Cheaper (sum c a) (sum c b)
left a b c h = grind (arith, nat_tests)

one : (a b : Fare) → Cheaper a b → NoCheaper b a
one a b h = (grind (arith, nat_tests), λ same. grind (arith, nat_tests))

-- ---- the laws

same_fare : (a b : Fare) → a.points ≡ b.points → a.seconds ≡ b.seconds → a ≡ b
same_fare a b p s = λ i. record { points = p i; seconds = s i }

tied : (a b : Fare) → NoCheaper a b → NoCheaper b a → a ≡ b
tied a b h g =
    let p : a.points ≡ b.points = omega (arith, h.0, g.0) in
    same_fare a b p (omega (arith, h.1 p, g.1 (sym p)))

pub points_laws : Laws points
points_laws = record {
  stands_zero = (omega arith, omega arith);
  stands_leg = λ l f. (omega (arith, f.points_high), omega (arith, f.seconds_high));
  stands_join = λ a b m n p q h. (omega (arith, p.0, q.0), omega (arith, p.1, q.1));
  zero_left = λ a m p h. same_fare _ a (omega arith) (omega arith);
  zero_right = λ a m p h. same_fare _ a (omega arith) (omega arith);
  assoc = λ a b c m n p x y z h. same_fare _ _ (omega arith) (omega arith);
  irreflexive = λ a. grind (arith, nat_tests);
  one_way = λ a b e. grind (arith, nat_tests);
  total = λ a b e f. same_fare a b (grind (arith, nat_tests)) (grind (arith, nat_tests));
  carries = λ a b c e f. grind (arith, nat_tests);
  grows = λ a b m n p q h. grind (arith, nat_tests);
  keeps_right = λ a b c m n p x y z g h e. grind (arith, nat_tests);
  keeps_left = λ a b c m n p x y z g h e. grind (arith, nat_tests);
}
