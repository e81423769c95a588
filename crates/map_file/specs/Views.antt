-- What answers of the code say, with what a reference points to in the place of the reference.
use Rattle.std.specs.Prelude.{ℕ, List, Some, None, Ok, Err, Option, Result}
use Rattle.std.specs.Borrow.{Bor}
use Rattle.network.specs.declared.refusal.Refusal.{Refusal}
use Rattle.map_format.specs.declared.record.Record.{Record}
use Rattle.map_format.specs.Format.{Item}
use Rattle.map_format.specs.Views.{said}

abbrev pub text_told : Option (Bor (List ℕ) × ℕ) → Option (List ℕ × ℕ)
text_told (Some p) = Some (p.0.now, p.1)
text_told None = None

abbrev pub record_told : Option (Record × ℕ) → Option (Item × ℕ)
record_told (Some p) = Some (said p.0, p.1)
record_told None = None

abbrev pub due_told : Result (Record × ℕ) Refusal → Result (Item × ℕ) Refusal
due_told (Ok p) = Ok (said p.0, p.1)
due_told (Err why) = Err why
