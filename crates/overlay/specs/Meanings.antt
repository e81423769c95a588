-- What an overlay means, from the meaning below and what it holds.
use Rattle.std.specs.Prelude.{ℕ, ◌+◌, min, Bool, cond, Some, None, Option, nat_le}
use Rattle.network.specs.Meaning.{Meaning}
use Rattle.network.specs.declared.leg.Leg.{Leg}
use Rattle.overlay.specs.Rules.{overlaid}

-- nothing at the numbers that are shut
abbrev pub closing : (ℕ → Bool) → ℕ → Option Leg → Option Leg
closing shut i o = cond (shut i) None o

abbrev pub closed : Meaning → (ℕ → Bool) → Meaning
closed m shut = overlaid m (closing shut)

-- a leg no harder than the ceiling
abbrev pub no_harder : ℕ → Option Leg → Option Leg
no_harder ceiling (Some l) = cond (nat_le l.grade ceiling) (Some l) None
no_harder ceiling None = None

abbrev pub capping : ℕ → ℕ → Option Leg → Option Leg
capping ceiling i o = no_harder ceiling o

abbrev pub capped : Meaning → ℕ → Meaning
capped m ceiling = overlaid m (capping ceiling)

-- a leg with a wait before it, twelve hours in all at most
abbrev pub later : ℕ → Leg → Leg
later wait l = record { from = l.from; to = l.to; seconds = min 43200 (l.seconds + wait); points = l.points; grade = l.grade }

abbrev pub with_wait : ℕ → Option Leg → Option Leg
with_wait wait (Some l) = Some (later wait l)
with_wait wait None = None

abbrev pub delaying : (ℕ → ℕ) → ℕ → Option Leg → Option Leg
delaying wait i o = with_wait (wait i) o

abbrev pub delayed : Meaning → (ℕ → ℕ) → Meaning
delayed m wait = overlaid m (delaying wait)
