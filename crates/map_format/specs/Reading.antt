-- The verdict on a file, by the order of the checks.
use Rattle.std.specs.Prelude.{ℕ, zero, suc, ◌+◌, ◌-◌, Bool, cond, ◌&&◌, List, [], ◌∷◌, ◌++◌, length, Some, None, Ok, Err, Option, Result, ◌==◌, nat_le, nat_lt, slice_index}
use Rattle.network.specs.declared.refusal.Refusal.{Refusal}
use Rattle.network.specs.declared.refusal.Refusal.TheVariants.{CutShort, WrongMark, WrongVersion, CountOutOfRange, WrongKind, FieldOutOfRange}
use Rattle.map_format.specs.declared.fault.Fault.{Fault}
use Rattle.map_format.specs.declared.heading.Heading.{Heading}
use Rattle.map_format.specs.declared.kind.Kind.{Kind}
use Rattle.map_format.specs.declared.kind.Kind.TheVariants.{Station as StationKind, Leg as LegKind, Notice as NoticeKind}
use Rattle.map_format.specs.Format.{Item, station, leg, notice, mark_of, counts_fit, fits, heading_of, leg_at, part}

abbrev pub marked : List ℕ → Bool
marked file = slice_index file 0 == 0x4C && (slice_index file 1 == 0x50 && slice_index file 2 == 0x4E)

abbrev pub version_one : List ℕ → Bool
version_one file = slice_index file 3 == 0 && slice_index file 4 == 1

-- length, mark, version, counts
abbrev pub read_heading : List ℕ → Result Heading Refusal
read_heading file =
    cond (nat_lt (length file) 8) (Err CutShort)
    (cond (marked file)
    (cond (version_one file)
    (cond (counts_fit (heading_of file)) (Ok (heading_of file)) (Err CountOutOfRange)) (Err WrongVersion)) (Err WrongMark))

-- ---- one record

-- the text of a station or a notice and the offset behind it, if the file does not end before
abbrev pub whole_text : List ℕ → ℕ → Option (List ℕ × ℕ)
whole_text file at =
    cond (nat_lt (length file) (at + 2 + slice_index file (at + 1))) None
    (Some (part file (at + 2) (slice_index file (at + 1)), at + 2 + slice_index file (at + 1)))

abbrev pub telling : (List ℕ → Item) → Option (List ℕ × ℕ) → Option (Item × ℕ)
telling f (Some p) = Some (f p.0, p.1)
telling f None = None

-- the record of this kind whose kind byte is at this offset, and the offset behind it, if the file does not end before
abbrev pub whole_record : Kind → List ℕ → ℕ → Option (Item × ℕ)
whole_record StationKind file at = telling station (whole_text file at)
whole_record LegKind file at = cond (nat_lt (length file) (at + 7)) None (Some (leg (leg_at file at), at + 7))
whole_record NoticeKind file at = telling notice (whole_text file at)

abbrev pub in_range : ℕ → Option (Item × ℕ) → Result (Item × ℕ) Refusal
in_range s None = Err CutShort
in_range s (Some p) = cond (fits s p.0) (Ok p) (Err FieldOutOfRange)

-- the record of this kind that is due at an offset, in a map of s stations: no kind byte, wrong kind, cut short, fields
abbrev pub due_record : ℕ → Kind → List ℕ → ℕ → Result (Item × ℕ) Refusal
due_record s kind file at =
    cond (nat_le (length file) at) (Err CutShort)
    (cond (slice_index file at == mark_of kind) (in_range s (whole_record kind file at)) (Err WrongKind))

-- ---- the whole file

-- records with their places, and the offset behind the last
abbrev pub Stretch : Type 0
Stretch = List (ℕ × Item) × ℕ

abbrev pub and_then : {X Y : Type 0} → Result X Fault → (X → Result Y Fault) → Result Y Fault
and_then (Ok x) f = f x
and_then (Err e) f = Err e

-- a refusal with its place
abbrev pub placed : {X : Type 0} → ℕ → Result X Refusal → Result X Fault
placed at (Ok x) = Ok x
placed at (Err why) = Err (record { why = why; place = at })

-- the offset behind a stretch
abbrev pub end_of : Result Stretch Fault → Result ℕ Fault
end_of r = and_then r (λ q. Ok q.1)

-- a record is read, and then those behind it
abbrev pub follow : ℕ → Result (Item × ℕ) Refusal → (ℕ → Result Stretch Fault) → Result Stretch Fault
follow at r behind = and_then (placed at r) (λ p. and_then (behind p.1) (λ q. Ok ((at, p.0) ∷ q.0, q.1)))

-- n records of one kind
abbrev pub run : Kind → ℕ → List ℕ → ℕ → ℕ → Result Stretch Fault
run kind s file zero at = Ok ([], at)
run kind s file (suc n) at = follow at (due_record s kind file at) (run kind s file n)

-- notices up to the end of the file; n bounds how many there can be
abbrev pub notices : ℕ → List ℕ → ℕ → ℕ → Result Stretch Fault
notices s file zero at = Ok ([], at)
notices s file (suc n) at = cond (nat_le (length file) at) (Ok ([], at)) (follow at (due_record s NoticeKind file at) (notices s file n))

pub record Contents : Type 0 where
  pub heading : Heading
  pub records : List (ℕ × Item)
  -- the offset of the first leg, and the one behind the last
  pub legs_at : ℕ
  pub notices_at : ℕ

-- the heading, its stations, its legs, and notices
abbrev pub verdict : List ℕ → Result Contents Fault
verdict file =
    and_then (placed 0 (read_heading file)) (λ h.
    and_then (run StationKind h.stations file h.stations 8) (λ ss.
    and_then (run LegKind h.stations file h.legs ss.1) (λ ls.
    and_then (notices h.stations file (length file - ls.1) ls.1) (λ ns.
    Ok (record { heading = h; records = ss.0 ++ (ls.0 ++ ns.0); legs_at = ss.1; notices_at = ls.1 })))))
