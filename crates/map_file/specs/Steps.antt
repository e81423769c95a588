-- What is left of a walk, and one step of it.
use Rattle.std.specs.Prelude.{◌≡◌, ℕ, ◌<◌, ◌≤◌, List, [], ◌∷◌, length, Some, None, Ok, Err, Option, Result}
use Rattle.map_format.specs.declared.fault.Fault.{Fault}
use Rattle.map_format.specs.declared.record.Placed.{Placed}
use Rattle.map_file.specs.declared.walk.Records.{Records}
use Rattle.map_format.specs.Format.{Item}
use Rattle.map_format.specs.Views.{said, seen}
use Rattle.map_format.specs.Walking.{record_at, records_from}
use Rattle.map_file.specs.Writing.{Short}

-- the records that are left
abbrev pub left_in : Records → List (ℕ × Item)
left_in w = records_from w.bytes.now w.at

-- a step takes the first of the records that are left, which is the one at the offset, and goes behind it
pub record TakesFirst (w : Records) (p : Placed) (v : Records) : Type 0 where
  pub first : left_in w ≡ seen p ∷ left_in v
  pub same : v.bytes ≡ w.bytes
  pub place : p.place ≡ w.at
  pub read : record_at w.bytes.now w.at ≡ Some (said p.record, v.at)
  pub short : Short (said p.record)

-- at the end nothing comes, and nothing changes
abbrev pub Stepped : Records → Option Placed → Records → Type 0
Stepped w (Some p) v = TakesFirst w p v
Stepped w None v = (left_in w ≡ []) × (v ≡ w)

-- the offset behind what was tested, or its fault
abbrev pub behind : Result (Unit {0}) Fault → Records → Result ℕ Fault
behind (Ok _) w = Ok w.at
behind (Err f) w = Err f

-- the records from an offset on begin with one that was read, or there are none
abbrev pub Begins : List ℕ → ℕ → Option (Item × ℕ) → Type 0
Begins file at (Some p) = (records_from file at ≡ (at, p.0) ∷ records_from file p.1) × (at < p.1) × (p.1 ≤ length file)
Begins file at None = records_from file at ≡ []
