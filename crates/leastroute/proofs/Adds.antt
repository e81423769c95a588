-- What legs take together, one leg after the other.
use Rattle.std.proofs.Common.{◌≡◌, ℕ, ◌+◌, ◌<◌, List, [], ◌∷◌, ◌++◌, length, get_or, take, ap, ◌∙◌, arith}
use Rattle.std.proofs.lemmas.List.{take_more}
use Rattle.cost.specs.Points.{points, sum}
use Rattle.cost.specs.declared.fare.Fare.{Fare}
use Rattle.network.specs.Meaning.{Meaning}
use Rattle.route.specs.Routes.{leg_cost}
use Rattle.leastroute.specs.Fares.{fare_of}

pub same_fare : (a b : Fare) → a.points ≡ b.points → a.seconds ≡ b.seconds → a ≡ b
same_fare a b p s = λ i. record { points = p i; seconds = s i }

module _ (m : Meaning) where
  push : (legs : List ℕ) (n : ℕ) → fare_of m (legs ++ n ∷ []) ≡ sum (fare_of m legs) (leg_cost points (m.at n))
  push [] n = same_fare _ _ (omega arith) (omega arith)
  push (x ∷ legs) n = same_fare _ _ (omega (arith, ap (λ f. f.points) (push legs n))) (omega (arith, ap (λ f. f.seconds) (push legs n)))

  pub fare_more : (legs : List ℕ) (i : ℕ) → i < length legs → fare_of m (take (i + 1) legs) ≡ sum (fare_of m (take i legs)) (leg_cost points (m.at (get_or legs i 0)))
  fare_more legs i h = ap (fare_of m) (take_more legs i 0 h) ∙ push (take i legs) (get_or legs i 0)
