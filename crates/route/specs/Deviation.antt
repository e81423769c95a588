-- Routes that leave a given one: the root, and what is barred behind it.
use Rattle.std.specs.Prelude.{◌≡◌, ℕ, ◌<◌, Bool, false, ◌&&◌, ◌||◌, ◌⊎◌, List, [], ◌∷◌, ◌++◌, length, take, Some, None, Option, ◌==◌}
use Rattle.network.specs.declared.leg.Leg.{Leg}
use Rattle.network.specs.Meaning.{Meaning}
use Rattle.route.specs.Routes.{Bars, no_bars, barring, Route, Least, ahead}
use Rattle.cost.specs.Costs.{Costs}
use Rattle.std.specs.List.{ContainsAt}

-- where a leg leads; nothing shown leads nowhere new
abbrev pub leads_to : Option Leg → ℕ → ℕ
leads_to None a = a
leads_to (Some l) a = l.to

-- the station that the legs lead to from `a`
abbrev pub end_of : Meaning → ℕ → List ℕ → ℕ
end_of m a [] = a
end_of m a (i ∷ is) = end_of m (leads_to (m.at i) a) is

-- the stations that the legs meet from `a` on
abbrev pub met : Meaning → ℕ → List ℕ → List ℕ
met m a [] = a ∷ []
met m a (i ∷ is) = a ∷ met m (leads_to (m.at i) a) is

-- the bars, with each station that the legs leave
abbrev pub passed : Meaning → Bars → ℕ → List ℕ → Bars
passed m b a [] = b
passed m b a (i ∷ is) = passed m (barring a b) (leads_to (m.at i) a) is

-- the route begins with `p` and then goes on with `j`
abbrev pub goes_on : List ℕ → ℕ → List ℕ → Bool
goes_on p j [] = false
goes_on [] j (x ∷ xs) = x == j
goes_on (i ∷ p) j (x ∷ xs) = x == i && goes_on p j xs

-- a given route begins with `p` and then goes on with `j`
abbrev pub taken : List (List ℕ) → List ℕ → ℕ → Bool
taken [] p j = false
taken (g ∷ gs) p j = goes_on p j g || taken gs p j

-- behind the root `p`: no station that the root leaves, and no leg by which a given route leaves the root
abbrev pub deviation : Meaning → List (List ℕ) → ℕ → List ℕ → Bars
deviation m given start p = record { station = (passed m no_bars start p).station; leg = taken given p }

-- a route that is not given
pub record Other (m : Meaning) (given : List (List ℕ)) (start goal : ℕ) (is : List ℕ) : Type 0 where
  pub route : Route m no_bars start goal is
  pub new : ContainsAt given is → ⊥

-- the first in rank of the routes that are not given
pub record Next {C : Type 0} (k : Costs C) (m : Meaning) (given : List (List ℕ)) (start goal : ℕ) (is : List ℕ) : Type 0 where
  pub other : Other m given start goal is
  pub first : (js : List ℕ) → Other m given start goal js → ahead k m js is ≡ false

-- `p` is the front of a given route that goes on behind it
pub record Root (given : List (List ℕ)) (p : List ℕ) : Type 0 where
  pub route : List ℕ
  pub has : ContainsAt given route
  pub at : ℕ
  pub within : at < length route
  pub is : p ≡ take at route

-- what is known behind the root `p`: the least that leaves there, or that nothing does
abbrev pub Answer : {C : Type 0} → Costs C → Meaning → List (List ℕ) → ℕ → ℕ → List ℕ → Type 0
Answer k m given start goal p = ((q : List ℕ) × Least k m (deviation m given start p) (end_of m start p) goal q) ⊎ ((q : List ℕ) → Route m (deviation m given start p) (end_of m start p) goal q → ⊥)

-- of what leaves behind the root `p` nothing is ahead of w: the least is not, or there is none
abbrev pub Leading : {C : Type 0} → Costs C → Meaning → List (List ℕ) → ℕ → ℕ → List ℕ → List ℕ → Type 0
Leading k m given start goal w p =
    ((q : List ℕ) × Least k m (deviation m given start p) (end_of m start p) goal q × (ahead k m (p ++ q) w ≡ false)) ⊎ ((q : List ℕ) → Route m (deviation m given start p) (end_of m start p) goal q → ⊥)

-- over the roots of P: another route that leads at each, or nothing that leaves behind any
abbrev pub Best : {C : Type 0} → Costs C → Meaning → List (List ℕ) → ℕ → ℕ → (List ℕ → Type 0) → Type 0
Best k m given start goal P =
    ((w : List ℕ) × Other m given start goal w × ((p : List ℕ) → P p → Leading k m given start goal w p)) ⊎ ((p : List ℕ) → P p → (q : List ℕ) → Route m (deviation m given start p) (end_of m start p) goal q → ⊥)
