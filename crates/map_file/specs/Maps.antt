-- What an accepted map stands for.
use Rattle.std.specs.Prelude.{◌≡◌, ℕ, ◌+◌, ◌*◌, ◌<◌, cond, List, ◌++◌, drop, Some, None, Ok, Err, Option, Result, nat_lt}
use Rattle.network.specs.declared.leg.Leg.{Leg}
use Rattle.std.specs.List.{slice_get}
use Rattle.map_format.specs.declared.fault.Fault.{Fault}
use Rattle.map_format.specs.Format.{Item, leg, encode_heading}
use Rattle.map_format.specs.Reading.{Contents}
use Rattle.map_format.specs.Walking.{record_at, records_from, the_leg, encode_records}
use Rattle.map_file.specs.declared.map.Map.{Map}

-- the records behind the heading, in file order
abbrev pub records_of : Map → List (ℕ × Item)
records_of m = records_from m.bytes.now 8

abbrev pub notices_of : Map → List (ℕ × Item)
notices_of m = records_from m.bytes.now m.notices_at

abbrev pub contents : Map → Contents
contents m = record { heading = m.heading; records = records_of m; legs_at = m.legs_at; notices_at = m.notices_at }

-- what accepting answers
abbrev pub told : Result Map Fault → Result Contents Fault
told (Ok m) = Ok (contents m)
told (Err f) = Err f

-- the place of leg i: leg records have seven bytes
abbrev pub leg_place : Map → ℕ → ℕ
leg_place m i = m.legs_at + 7 * i

-- leg i, read in place
abbrev pub leg_number : Map → ℕ → Option Leg
leg_number m i = cond (nat_lt i m.heading.legs) (the_leg (record_at m.bytes.now (leg_place m i))) None

-- heading and records, written out
abbrev pub encode_map : Map → List ℕ
encode_map m = encode_heading m.heading ++ encode_records (records_of m)

-- what a map's offsets are for: record S + i is leg i, and the notices are the records behind the legs
pub record Indexed (m : Map) : Type 0 where
  pub leg_found : (i : ℕ) → i < m.heading.legs → (l : Leg) × (slice_get (records_of m) (m.heading.stations + i) ≡ Some (leg_place m i, leg l)) × (leg_number m i ≡ Some l)
  pub notices_found : notices_of m ≡ drop (m.heading.stations + m.heading.legs) (records_of m)
