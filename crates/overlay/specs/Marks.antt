-- What marking an overlay answers, and which marks it holds after.
use Rattle.std.specs.Prelude.{ℕ, Bool, cond, Ok, Err, Result, ◌==◌, nat_lt}
use Rattle.network.specs.declared.refusal.Refusal.{Refusal}
use Rattle.network.specs.declared.refusal.Refusal.TheVariants.{OverlayOutOfRange}

-- an answer that is refused unless the test holds
abbrev pub unless : {X : Type 0} → Bool → X → Result X Refusal
unless in_range x = cond in_range (Ok x) (Err OverlayOutOfRange)

abbrev pub markable : ℕ → Bool
markable number = nat_lt number 512

-- the marks after one is set: at that number the new one, at all others as before; a number out of range changes nothing
abbrev pub marked : {X : Type 0} → ℕ → X → (ℕ → X) → ℕ → X
marked number x old i = cond (markable number) (cond (i == number) x (old i)) (old i)
