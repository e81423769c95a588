-- The layout of a map file: the bytes of its heading and of each kind of record, and their ranges.
use Rattle.std.specs.Prelude.{ℕ, ◌+◌, ◌*◌, ◌/◌, ◌%◌, ◌<◌, Bool, cond, not, ◌&&◌, List, [], ◌∷◌, length, take, drop, Some, None, Option, ◌==◌, nat_le, slice_index}
use Rattle.std.specs.List.{list_all}
use Rattle.network.specs.declared.leg.Leg.{Leg}
use Rattle.network.specs.Ranges.{in_range}
pub use Rattle.network.specs.Ranges.{stations_fit}
use Rattle.map_format.specs.declared.heading.Heading.{Heading}
use Rattle.map_format.specs.declared.kind.Kind.{Kind}
use Rattle.map_format.specs.declared.kind.Kind.TheVariants.{Station as StationKind, Leg as LegKind, Notice as NoticeKind}

-- what a record says
pub data Item : Type 0 where
  station : List ℕ → Item
  leg : Leg → Item
  notice : List ℕ → Item

-- ---- the bytes

-- "LPN", version 1 in two bytes, the stations in one, the legs in two; the high byte comes first
abbrev pub encode_heading : Heading → List ℕ
encode_heading h = 0x4C ∷ 0x50 ∷ 0x4E ∷ 0 ∷ 1 ∷ h.stations ∷ h.legs / 256 ∷ h.legs % 256 ∷ []

-- the byte that a record begins with
abbrev pub mark_of : Kind → ℕ
mark_of StationKind = 0x53
mark_of LegKind = 0x4C
mark_of NoticeKind = 0x4E

-- a name or a text comes behind its length
abbrev pub encode_text : Kind → List ℕ → List ℕ
encode_text kind text = mark_of kind ∷ length text ∷ text

-- the kind byte and the fields
abbrev pub encode : Item → List ℕ
encode (station name) = encode_text StationKind name
encode (leg l) = 0x4C ∷ l.from ∷ l.to ∷ l.seconds / 256 ∷ l.seconds % 256 ∷ l.points ∷ l.grade ∷ []
encode (notice text) = encode_text NoticeKind text

abbrev pub size : Item → ℕ
size x = length (encode x)

abbrev pub kind_of : ℕ → Option Kind
kind_of b = cond (b == 0x53) (Some StationKind) (cond (b == 0x4C) (Some LegKind) (cond (b == 0x4E) (Some NoticeKind) None))

-- ---- the ranges

abbrev pub counts_fit : Heading → Bool
counts_fit h = stations_fit h.stations && nat_le h.legs 512

abbrev pub printable_byte : ℕ → Bool
printable_byte b = nat_le 0x20 b && nat_le b 0x7E

-- every byte is a printable one
abbrev pub printable : List ℕ → Bool
printable text = list_all printable_byte text

-- a leg of a map with s stations: in range in such a network, and not from a station to itself
abbrev pub leg_fits : ℕ → Leg → Bool
leg_fits s l = not (l.from == l.to) && in_range s l

abbrev pub name_fits : List ℕ → Bool
name_fits name = (nat_le 1 (length name) && nat_le (length name) 20) && printable name

abbrev pub notice_fits : List ℕ → Bool
notice_fits text = nat_le (length text) 60 && printable text

-- a record of a map with s stations
abbrev pub fits : ℕ → Item → Bool
fits s (station name) = name_fits name
fits s (leg l) = leg_fits s l
fits s (notice text) = notice_fits text

-- ---- what stands at an offset

-- every number of the list is a byte
abbrev pub Bytes : List ℕ → Type 0
Bytes file = (i : ℕ) → slice_index file i < 256

-- the number in the two bytes at i
abbrev pub number_at : List ℕ → ℕ → ℕ
number_at file i = 256 * slice_index file i + slice_index file (i + 1)

-- the n bytes from `at` on
abbrev pub part : List ℕ → ℕ → ℕ → List ℕ
part file at n = take n (drop at file)

abbrev pub heading_of : List ℕ → Heading
heading_of file = record { stations = slice_index file 5; legs = number_at file 6 }

abbrev pub leg_at : List ℕ → ℕ → Leg
leg_at file at = record {
  from = slice_index file (at + 1);
  to = slice_index file (at + 2);
  seconds = number_at file (at + 3);
  points = slice_index file (at + 5);
  grade = slice_index file (at + 6);
}
