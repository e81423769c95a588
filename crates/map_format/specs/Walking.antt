-- The records of any file, as they are walked.
use Rattle.std.specs.Prelude.{ℕ, zero, suc, ◌-◌, List, [], ◌∷◌, length, Some, None, Option, slice_index}
use Rattle.network.specs.declared.leg.Leg.{Leg}
use Rattle.std.specs.List.{flat_map}
use Rattle.map_format.specs.declared.kind.Kind.{Kind}
use Rattle.map_format.specs.Format.{Item, station, leg, notice, kind_of, encode}
use Rattle.map_format.specs.Reading.{whole_record}

abbrev pub of_kind : Option Kind → List ℕ → ℕ → Option (Item × ℕ)
of_kind (Some kind) file at = whole_record kind file at
of_kind None file at = None

-- the record at an offset, of the kind that its kind byte says, and the offset behind it
abbrev pub record_at : List ℕ → ℕ → Option (Item × ℕ)
record_at file at = of_kind (kind_of (slice_index file at)) file at

abbrev pub onward : ℕ → Option (Item × ℕ) → (ℕ → List (ℕ × Item)) → List (ℕ × Item)
onward at (Some p) behind = (at, p.0) ∷ behind p.1
onward at None behind = []

-- at most n records, each with its place, up to the end of the file or to what is no record
abbrev pub at_most : ℕ → List ℕ → ℕ → List (ℕ × Item)
at_most zero file at = []
at_most (suc n) file at = onward at (record_at file at) (at_most n file)

-- the records from an offset on: each takes a byte at least
abbrev pub records_from : List ℕ → ℕ → List (ℕ × Item)
records_from file at = at_most (length file - at) file at

-- the leg that was read, if it was one
abbrev pub the_leg : Option (Item × ℕ) → Option Leg
the_leg (Some p) = elim p.0 [ station _ ↦ None | leg l ↦ Some l | notice _ ↦ None ]
the_leg None = None

-- records, written out one behind the other
abbrev pub encode_records : List (ℕ × Item) → List ℕ
encode_records rs = flat_map (λ p. encode p.1) rs
