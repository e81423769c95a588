-- What is left of a walk over the legs that arrive at a station, and one step of it.
use Rattle.std.specs.Prelude.{◌≡◌, ℕ, suc, ◌-◌, Some, None, Option}
use Rattle.network.specs.Meaning.{Meaning}
use Rattle.snapshot.specs.Meanings.{meaning_of, FirstFrom}
use Rattle.snapshot.specs.declared.iter.ArrivalsAt.{ArrivalsAt}

-- the legs from number i on that arrive at station u of the network are left
pub record Awaits (w : ArrivalsAt) (m : Meaning) (u i : ℕ) : Type 0 where
  pub network : meaning_of w.snapshot.now ≡ m
  pub first : FirstFrom m u i w.number

-- a step takes the lowest of the legs that are left; at the end nothing comes, and nothing changes
abbrev pub Stepped : ArrivalsAt → Option ℕ → ArrivalsAt → Type 0
Stepped w (Some e) v = (m : Meaning) (u i : ℕ) → Awaits w m u i → FirstFrom m u i (Some e) × Awaits v m u (suc e)
Stepped w None v = (v ≡ w) × ((m : Meaning) (u i : ℕ) → Awaits w m u i → FirstFrom m u i None)

-- how many legs are left at most: the lowest of them, and as many as there are numbers above it
abbrev pub left : Option ℕ → ℕ
left None = 0
left (Some e) = suc (511 - e)
