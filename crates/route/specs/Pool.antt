-- The candidates that are kept beside the given routes, so that each root is searched once.
use Rattle.std.specs.Prelude.{◌≡◌, ℕ, ◌+◌, ◌-◌, ◌<◌, ◌≤◌, max, Bool, true, false, ◌⊎◌, List, [], ◌∷◌, ◌++◌, map, length, get_or, take, drop, ◌≢◌, slice_index, slice_index_or}
use Rattle.std.specs.List.{ContainsAt, insert, AllByRecursion}
use Rattle.network.specs.Meaning.{Meaning, Sound}
use Rattle.cost.specs.Costs.{Costs}
use Rattle.route.specs.Routes.{no_bars, Route, Least, ahead}
use Rattle.route.specs.Deviation.{end_of, deviation, Other, Next, Root, Answer}

-- each is before all that follow it
abbrev pub Ascending : {X : Type 0} → (X → X → Bool) → List X → Type 0
Ascending r [] = Unit {0}
Ascending r (x ∷ xs) = AllByRecursion (λ y. r x y ≡ true) xs × Ascending r xs

-- a route, and how many of its legs are a given route's front
pub record Candidate : Type 0 where
  pub legs : List ℕ
  pub at : ℕ

abbrev pub sooner : (List ℕ → List ℕ → Bool) → Candidate → Candidate → Bool
sooner r c d = r c.legs d.legs

-- of sixteen routes, those that are still to be given
abbrev pub room : List (List ℕ) → ℕ
room given = 16 - length given

-- the newest of the given routes; while none is given, no legs
abbrev pub newest : List (List ℕ) → List ℕ
newest given = slice_index_or given (length given - 1) []

-- how many fronts of the newest route are stems; while none is given, the empty front is the one stem
abbrev pub fronts : List (List ℕ) → ℕ
fronts given = max 1 (length (newest given))

-- the front of a given route that goes on behind it; while none is given, no legs at all
abbrev pub Stem : List (List ℕ) → List ℕ → Type 0
Stem [] p = p ≡ []
Stem (g ∷ gs) p = Root (g ∷ gs) p

-- w is kept, or n and more are kept and all of them are before w
abbrev pub Held : (List ℕ → List ℕ → Bool) → ℕ → List Candidate → List ℕ → Type 0
Held r n pool w = ((c : Candidate) × ContainsAt pool c × (c.legs ≡ w)) ⊎ ((n ≤ length pool) × AllByRecursion (λ c. r c.legs w ≡ true) pool)

-- the stem p is searched: the least that leaves behind it is held, or nothing leaves there
abbrev pub Searched : {C : Type 0} → Costs C → Meaning → List (List ℕ) → ℕ → ℕ → List Candidate → List ℕ → Type 0
Searched k m given start goal pool p =
    ((q : List ℕ) × Least k m (deviation m given start p) (end_of m start p) goal q × Held (ahead k m) (room given) pool (p ++ q)) ⊎ ((q : List ℕ) → Route m (deviation m given start p) (end_of m start p) goal q → ⊥)

-- p is a front of the newest route with j legs or more: a stem that is still to be searched
abbrev pub Ahead : List (List ℕ) → ℕ → List ℕ → Type 0
Ahead given j p = (i : ℕ) × (j ≤ i) × (i < fronts given) × (p ≡ take i (newest given))

-- another route, that leaves a given one where it says
pub record Member (m : Meaning) (given : List (List ℕ)) (start goal : ℕ) (c : Candidate) : Type 0 where
  pub other : Other m given start goal c.legs
  pub within : c.at < length c.legs
  pub stem : Stem given (take c.at c.legs)

-- what the pool means while the fronts of the newest route are searched up to j
pub record Kept {C : Type 0} (k : Costs C) (m : Meaning) (given : List (List ℕ)) (start goal : ℕ) (pool : List Candidate) (j : ℕ) : Type 0 where
  pub members : AllByRecursion (Member m given start goal) pool
  pub rising : Ascending (sooner (ahead k m)) pool
  pub few : length pool ≤ room given
  pub stems : (p : List ℕ) → Stem given p → Searched k m given start goal pool p ⊎ Ahead given j p

-- the given routes are routes in rising rank, at most sixteen, and every other route ranks behind each of them
pub record Ranked {C : Type 0} (k : Costs C) (m : Meaning) (start goal : ℕ) (given : List (List ℕ)) : Type 0 where
  pub routes : AllByRecursion (Route m no_bars start goal) given
  pub rising : Ascending (ahead k m) given
  pub behind : (js : List ℕ) → Other m given start goal js → AllByRecursion (λ g. ahead k m g js ≡ true) given
  pub count : length given ≤ 16

-- the legs of the first g rows: the given routes stand in the first rows, and the pool behind them
abbrev pub given_of : List Candidate → ℕ → List (List ℕ)
given_of rows g = map (λ (c : Candidate). c.legs) (take g rows)

-- where the newest route deviates; while none is given, at the start
abbrev pub start_of : List Candidate → ℕ → ℕ
start_of rows g = slice_index (map (λ (c : Candidate). c.at) (take g rows)) (g - 1)

-- g given routes and the pool in one list of rows, with the fronts of the newest route searched up to j
pub record Rows {C : Type 0} (k : Costs C) (m : Meaning) (start goal : ℕ) (rows : List Candidate) (g j : ℕ) : Type 0 where
  pub fits : g ≤ length rows
  pub ranked : Ranked k m start goal (given_of rows g)
  pub kept : Kept k m (given_of rows g) start goal (drop g rows) j

-- behind the stem p nothing leaves
abbrev pub Closed : Meaning → List (List ℕ) → ℕ → ℕ → List ℕ → Type 0
Closed m given start goal p = (q : List ℕ) → Route m (deviation m given start p) (end_of m start p) goal q → ⊥

-- q is the least spur behind the stem p
abbrev pub Spur : {C : Type 0} → Costs C → Meaning → List (List ℕ) → ℕ → ℕ → List ℕ → List ℕ → Type 0
Spur k m given start goal p q = Least k m (deviation m given start p) (end_of m start p) goal q

-- the front that is searched at j
abbrev pub front_of : List Candidate → ℕ → ℕ → List ℕ
front_of rows g j = take j (newest (given_of rows g))

-- the place of v behind the first g rows: what stands before it is before v, and what stands there is not
pub record Place (r : List ℕ → List ℕ → Bool) (rows : List Candidate) (g : ℕ) (d : Candidate) (v : List ℕ) (place : ℕ) : Type 0 where
  pub low : g ≤ place
  pub high : place ≤ length rows
  pub below : (n : ℕ) → g ≤ n → n < place → r (get_or rows n d).legs v ≡ true
  pub stop : place < length rows → r (get_or rows place d).legs v ≡ false

-- The ranking over rows, step by step. `opens`: nothing is given. `none`, `there`, `behind` and `placed`: one front more is searched.
-- `back`: a search may be done again. `over` and `give`: all fronts are searched.
pub record Pools {C : Type 0} (k : Costs C) : Type 0 where
  pub opens : (m : Meaning) → Sound m → (s t : ℕ) → Rows k m s t [] 0 0
  pub back : (m : Meaning) → Sound m → (s t : ℕ) (rows : List Candidate) (g i j : ℕ) → i ≤ j → Rows k m s t rows g j → Rows k m s t rows g i
  pub none : (m : Meaning) → Sound m → (s t : ℕ) (rows : List Candidate) (g j : ℕ) → Rows k m s t rows g j → Closed m (given_of rows g) s t (front_of rows g j) → Rows k m s t rows g (j + 1)
  pub there : (m : Meaning) → Sound m → (s t : ℕ) (rows : List Candidate) (g j : ℕ) (q : List ℕ) (i : ℕ) (d : Candidate) → Rows k m s t rows g j → Spur k m (given_of rows g) s t (front_of rows g j) q → g ≤ i → i < length rows → (get_or rows i d).legs ≡ front_of rows g j ++ q → Rows k m s t rows g (j + 1)
  pub behind : (m : Meaning) → Sound m → (s t : ℕ) (rows : List Candidate) (g j : ℕ) (q : List ℕ) (d : Candidate) → Rows k m s t rows g j → Spur k m (given_of rows g) s t (front_of rows g j) q → 16 ≤ length rows → ((n : ℕ) → g ≤ n → n < length rows → ahead k m (get_or rows n d).legs (front_of rows g j ++ q) ≡ true) → Rows k m s t rows g (j + 1)
  pub placed : (m : Meaning) → Sound m → (s t : ℕ) (rows : List Candidate) (g j : ℕ) (q : List ℕ) (i : ℕ) (d : Candidate) → Rows k m s t rows g j → j < fronts (given_of rows g) → Spur k m (given_of rows g) s t (front_of rows g j) q → g ≤ i → i ≤ length rows → ((n : ℕ) → g ≤ n → n < i → ahead k m (get_or rows n d).legs (front_of rows g j ++ q) ≡ true) → (i < length rows → ahead k m (front_of rows g j ++ q) (get_or rows i d).legs ≡ true) → Rows k m s t (take 16 (insert rows i (record { legs = front_of rows g j ++ q; at = j }))) g (j + 1)
  pub found : (m : Meaning) → Sound m → (s t : ℕ) (rows : List Candidate) (g j : ℕ) (q : List ℕ) (i : ℕ) (d : Candidate) → Rows k m s t rows g j → j < fronts (given_of rows g) → Spur k m (given_of rows g) s t (front_of rows g j) q → Place (ahead k m) rows g d (front_of rows g j ++ q) i → ((16 ≤ i → Rows k m s t rows g (j + 1)) × (i < length rows → ahead k m (front_of rows g j ++ q) (get_or rows i d).legs ≡ false → Rows k m s t rows g (j + 1)) × ((i < length rows → ahead k m (front_of rows g j ++ q) (get_or rows i d).legs ≡ true) → Rows k m s t (take 16 (insert rows i (record { legs = front_of rows g j ++ q; at = j }))) g (j + 1)))
  pub over : (m : Meaning) → Sound m → (s t : ℕ) (rows : List Candidate) (g j : ℕ) → Rows k m s t rows g j → fronts (given_of rows g) ≤ j → length rows ≤ g → g < 16 → (w : List ℕ) → Route m no_bars s t w → ContainsAt (given_of rows g) w
  pub give : (m : Meaning) → Sound m → (s t : ℕ) (rows : List Candidate) (g j : ℕ) (d : Candidate) → Rows k m s t rows g j → fronts (given_of rows g) ≤ j → g < length rows → Next k m (given_of rows g) s t (get_or rows g d).legs × Rows k m s t rows (g + 1) (get_or rows g d).at
  pub exact : (m : Meaning) → Sound m → (s t : ℕ) (rows : List Candidate) (g j : ℕ) → Rows k m s t rows g j → fronts (given_of rows g) ≤ j → ((w : List ℕ) → Route m no_bars s t w → ContainsAt (given_of rows g) w) → length rows ≤ g
  pub front : (m : Meaning) → Sound m → (s t : ℕ) (rows : List Candidate) (g j : ℕ) (i : ℕ) (c : Candidate) → Rows k m s t rows g j → g ≤ i → i ≤ length rows → take g (take 16 (insert rows i c)) ≡ take g rows
  pub different : (m : Meaning) → Sound m → (s t : ℕ) (given : List (List ℕ)) (i j : ℕ) (d : List ℕ) → Ranked k m s t given → i < j → j < length given → (ahead k m (slice_index_or given i d) (slice_index_or given j d) ≡ true) × (slice_index_or given i d ≢ slice_index_or given j d)
  pub few : (m : Meaning) → Sound m → (s t : ℕ) (rows : List Candidate) (g j : ℕ) → Rows k m s t rows g j → length rows ≤ 16
  pub runs : (m : Meaning) → Sound m → (s t : ℕ) → ((given : List (List ℕ)) (p : List ℕ) → Answer k m given s t p) → (n : ℕ) → n ≤ 16 → (rows : List Candidate) × (g : ℕ) × Rows k m s t rows g (start_of rows g) × ((g ≡ n) ⊎ ((g < n) × ((w : List ℕ) → Route m no_bars s t w → ContainsAt (given_of rows g) w)))
