-- What accepting answers, with what the reference points to in the place of the reference.
use Rattle.std.specs.Prelude.{ℕ, List, Some, None, Ok, Err, Option, Result}
use Rattle.network.specs.declared.refusal.Refusal.{Refusal}
use Rattle.bus.specs.declared.matrix.BusMatrix.{BusMatrix}

abbrev pub told : Result BusMatrix Refusal → Result (ℕ × List ℕ) Refusal
told (Ok m) = Ok (m.stops, m.minutes.now)
told (Err why) = Err why

-- what was given, unless it is refused
abbrev pub answer : {X : Type 0} → Option Refusal → X → Result X Refusal
answer (Some why) given = Err why
answer None given = Ok given
