-- What is proved of routes, of their rank and of their deviations.
use Rattle.std.specs.Prelude.{◌≡◌, ℕ, ◌<◌, ◌≤◌, Bool, true, false, ◌⊎◌, List, [], ◌∷◌, ◌++◌, length, take, ◌≢◌}
use Rattle.std.specs.List.{ContainsAt, AllByRecursion}
use Rattle.network.specs.Meaning.{Meaning, Sound}
use Rattle.cost.specs.Costs.{Costs}
use Rattle.route.specs.Routes.{Bars, no_bars, Leads, Route, Least, ahead, cost}
use Rattle.route.specs.Deviation.{end_of, met, passed, deviation, Other, Next, Answer, Leading}

abbrev pub Distinct : List ℕ → Type 0
Distinct [] = Unit {0}
Distinct (x ∷ xs) = AllByRecursion (λ y. y ≢ x) xs × Distinct xs

-- a test that is a strict total order
pub record Strict {X : Type 0} (r : X → X → Bool) : Type 0 where
  pub never : (x : X) → r x x ≡ false
  pub onward : (x y z : X) → r x y ≡ true → r y z ≡ true → r x z ≡ true
  pub same : (x y : X) → r x y ≡ false → r y x ≡ false → x ≡ y

-- a route meets distinct stations, so it has fewer legs than there are stations
pub record Loopless : Type 0 where
  pub pigeonhole : (n : ℕ) (xs : List ℕ) → Distinct xs → AllByRecursion (λ x. x < n) xs → length xs ≤ n
  pub distinct : (m : Meaning) (b : Bars) (s t : ℕ) (is : List ℕ) → Route m b s t is → Distinct (met m s is)
  pub short : (m : Meaning) → Sound m → (b : Bars) (s t : ℕ) (is : List ℕ) → Route m b s t is → length is < m.stations

-- legs that lead fall into two parts at each place, and two such parts join
pub record Parts : Type 0 where
  pub split : (m : Meaning) (b : Bars) (a : ℕ) (p q : List ℕ) (goal : ℕ) → Leads m b a (p ++ q) goal → Leads m b a p (end_of m a p) × Leads m (passed m b a p) (end_of m a p) q goal
  pub connect : (m : Meaning) (b : Bars) (a : ℕ) (p q : List ℕ) (v goal : ℕ) → Leads m b a p v → Leads m (passed m b a p) v q goal → Leads m b a (p ++ q) goal

-- the rank, and what a common root does to it
pub record Ranks {C : Type 0} (k : Costs C) : Type 0 where
  pub strict : (m : Meaning) → Strict (ahead k m)
  pub stands : (m : Meaning) → Sound m → (b : Bars) (s t : ℕ) (is : List ℕ) → Route m b s t is → k.stands (cost k m is) (length is)
  pub parts : (m : Meaning) → Sound m → (b : Bars) (s t : ℕ) (p q : List ℕ) → Route m b s t (p ++ q) → cost k m (p ++ q) ≡ k.join (cost k m p) (cost k m q)
  pub root : (m : Meaning) → Sound m → (b c : Bars) (s t : ℕ) (p x y : List ℕ) → Route m b s t (p ++ x) → Route m c s t (p ++ y) → ahead k m (p ++ x) (p ++ y) ≡ ahead k m x y
  pub suffix : (m : Meaning) → Sound m → (b : Bars) (s t : ℕ) (p q : List ℕ) → Route m b s t (p ++ q) → k.before (cost k m (p ++ q)) (cost k m q) ≡ false
  pub prefix : (m : Meaning) → Sound m → (b : Bars) (s t : ℕ) (p q : List ℕ) → Route m b s t (p ++ q) → k.before (cost k m (p ++ q)) (cost k m p) ≡ false

-- a route that leaves a given one behind a root is another route, and each other route does so
pub record Deviates : Type 0 where
  pub sound : (m : Meaning) (given : List (List ℕ)) (s t : ℕ) → AllByRecursion (Route m no_bars s t) given → (g : List ℕ) (i : ℕ) (q : List ℕ) → ContainsAt given g → i < length g → Route m (deviation m given s (take i g)) (end_of m s (take i g)) t q → Other m given s t (take i g ++ q)
  pub covers : (m : Meaning) (given : List (List ℕ)) (s t : ℕ) → AllByRecursion (Route m no_bars s t) given → 0 < length given → (w : List ℕ) → Other m given s t w → (g : List ℕ) × (i : ℕ) × (q : List ℕ) × ContainsAt given g × (i < length g) × (w ≡ take i g ++ q) × Route m (deviation m given s (take i g)) (end_of m s (take i g)) t q

-- the next route is the first in rank of the least behind each root
pub record Nexts {C : Type 0} (k : Costs C) : Type 0 where
  pub next : (m : Meaning) → Sound m → (given : List (List ℕ)) (s t : ℕ) → AllByRecursion (Route m no_bars s t) given → (g : List ℕ) (i : ℕ) (q : List ℕ) → ContainsAt given g → i < length g → Least k m (deviation m given s (take i g)) (end_of m s (take i g)) t q → ((h : List ℕ) (j : ℕ) → ContainsAt given h → j < length h → Leading k m given s t (take i g ++ q) (take j h)) → Next k m given s t (take i g ++ q)
  pub either : (m : Meaning) → Sound m → (given : List (List ℕ)) (s t : ℕ) → AllByRecursion (Route m no_bars s t) given → 0 < length given → ((g : List ℕ) (i : ℕ) → ContainsAt given g → i < length g → Answer k m given s t (take i g)) → ((w : List ℕ) × Next k m given s t w) ⊎ ((w : List ℕ) → Route m no_bars s t w → ContainsAt given w)
  pub none : (m : Meaning) (given : List (List ℕ)) (s t : ℕ) → AllByRecursion (Route m no_bars s t) given → 0 < length given → ((g : List ℕ) (i : ℕ) → ContainsAt given g → i < length g → (q : List ℕ) → Route m (deviation m given s (take i g)) (end_of m s (take i g)) t q → ⊥) → (w : List ℕ) → Route m no_bars s t w → ContainsAt given w

-- once the deviation p ++ q is given too, only the roots that it has beyond p are new or have other bars
abbrev pub Onward : Type 0
Onward = (m : Meaning) (given : List (List ℕ)) (s : ℕ) (g : List ℕ) (at : ℕ) (q : List ℕ) → ContainsAt given g → at < length g → (h : List ℕ) (i : ℕ) → ContainsAt (given ++ (take at g ++ q) ∷ []) h → i < length h → ((f : List ℕ) × (j : ℕ) × ContainsAt given f × (j < length f) × (take i h ≡ take j f) × (deviation m (given ++ (take at g ++ q) ∷ []) s (take i h) ≡ deviation m given s (take i h))) ⊎ ((j : ℕ) × (at ≤ j) × (j < length (take at g ++ q)) × (take i h ≡ take j (take at g ++ q)))
