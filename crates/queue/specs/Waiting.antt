-- What a queue holds, and what a pop takes from it.
use Rattle.std.specs.Prelude.{◌≡◌, ℕ, ◌+◌, ◌-◌, ◌<◌, ◌≤◌, Bool, false, ◌&&◌, List, [], ◌∷◌, ◌++◌, length, take, drop, Some, None, Option, ◌≢◌, nat_le, nat_lt, slice_index_or}
use Rattle.std.specs.List.{IsFirstBest, swap, AllByRecursion}
use Rattle.std.specs.List.Sorted.{IsPermutation}
use Rattle.queue.specs.declared.least.Least.{Least}
use Rattle.queue.specs.declared.queue.Queue.{Queue}

-- the row that is lent, with what stands behind the entries too
abbrev pub whole : {E : Type 0} → Queue E → List E
whole q = q.row.now

-- how many entries the row can hold
abbrev pub room : {E : Type 0} → Queue E → ℕ
room q = length (whole q)

-- all that was put in: the entries that came out, and behind them those that wait
abbrev pub held : {E : Type 0} → Queue E → List E
held q = take q.end (whole q)

-- how many came out
abbrev pub gone : {E : Type 0} → Queue E → ℕ
gone q = q.out

abbrev pub taken : {E : Type 0} → Queue E → List E
taken q = take (gone q) (whole q)

abbrev pub waiting : {E : Type 0} → Queue E → List E
waiting q = drop (gone q) (held q)

abbrev pub has_room : {E : Type 0} → Queue E → Bool
has_room q = nat_lt (length (held q)) (room q)

-- whether the entry at a place of the row waits
abbrev pub waits_at : {E : Type 0} → Queue E → ℕ → Bool
waits_at q p = nat_le (gone q) p && nat_lt p (length (held q))

-- a queue over the same row: it is lent by the same name, and holds as many entries
pub record SameRow {E : Type 0} (q after : Queue E) : Type 0 where
  pub lent : after.row.ghost_name ≡ q.row.ghost_name
  pub room_is : room after ≡ room q

-- the same row, and nothing came out of it
pub record Keeps {E : Type 0} (q after : Queue E) : Type 0 where
  pub same_row : SameRow q after
  pub taken_is : taken after ≡ taken q
  pub gone_is : gone after ≡ gone q

-- e taken from the entries xs, which leaves ys: none of xs comes before it
pub record Taken {E : Type 0} (less : E → E → Bool) (xs ys : List E) (e : E) : Type 0 where
  pub shuffled : IsPermutation xs (e ∷ ys)
  pub least : AllByRecursion (λ x. less x e ≡ false) xs
  pub fewer : length xs ≡ length ys + 1

-- the entry at a place waited, and is the last that came out; the entry that was first of those that wait stands there now
pub record Moved {E : Type 0} (q after : Queue E) (l : Least E) : Type 0 where
  pub low : gone q ≤ l.place
  pub high : l.place < length (held q)
  pub entry : (d : E) → l.entry ≡ slice_index_or (held q) l.place d
  pub gone_is : gone after ≡ gone q + 1
  pub whole_is : whole after ≡ swap (whole q) (gone q) l.place
  pub held_is : held after ≡ swap (held q) (gone q) l.place
  pub taken_is : taken after ≡ taken q ++ l.entry ∷ []
  -- the same, place by place
  pub at_gone : (d : E) → slice_index_or (held after) (gone q) d ≡ l.entry
  pub at_place : (d : E) → slice_index_or (held after) l.place d ≡ slice_index_or (held q) (gone q) d
  pub elsewhere : (i : ℕ) (d : E) → (i ≢ gone q) → (i ≢ l.place) → slice_index_or (held after) i d ≡ slice_index_or (held q) i d
  pub held_length : length (held after) ≡ length (held q)
  pub same_row : SameRow q after

-- what a pop does where something waits
pub record Comes {E : Type 0} (less : E → E → Bool) (q after : Queue E) (l : Least E) : Type 0 where
  pub bag : Taken less (waiting q) (waiting after) l.entry
  -- of equal entries the one in front
  pub first : IsFirstBest less (waiting q) (length (waiting q)) (l.place - gone q)
  pub moved : Moved q after l

-- what it does where nothing waits
pub record Still {E : Type 0} (q after : Queue E) : Type 0 where
  pub empty : waiting q ≡ []
  pub keeps : Keeps q after
  pub whole_is : whole after ≡ whole q
  pub held_is : held after ≡ held q
  pub waiting_is : waiting after ≡ waiting q

-- what a pop does, by what comes
abbrev pub Popping : {E : Type 0} → (E → E → Bool) → Queue E → Queue E → Option (Least E) → Type 0
Popping less q after None = Still q after
Popping less q after (Some l) = Comes less q after l
