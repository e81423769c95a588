-- What it means that a file is accepted, in the words of the format.
use Rattle.std.specs.Prelude.{◌≡◌, ℕ, ◌+◌, Bool, true, ◌&&◌, List, [], ◌∷◌, ◌++◌, map, length, Ok}
use Rattle.network.specs.declared.leg.Leg.{Leg}
use Rattle.std.specs.List.{flat_map}
use Rattle.map_format.specs.declared.heading.Heading.{Heading}
use Rattle.map_format.specs.Format.{Item, station, leg, notice, Bytes, encode, encode_heading, size, counts_fit, fits}
use Rattle.map_format.specs.Reading.{Contents, verdict}
use Rattle.map_format.specs.Walking.{encode_records}

-- a map: the names of its stations, its legs, and the texts of its notices
pub record Description : Type 0 where
  pub names : List (List ℕ)
  pub legs : List Leg
  pub texts : List (List ℕ)

abbrev pub heading_for : Description → Heading
heading_for d = record { stations = length d.names; legs = length d.legs }

-- stations, then legs, then notices
abbrev pub items : Description → List Item
items d = map station d.names ++ (map leg d.legs ++ map notice d.texts)

abbrev pub all_fit : ℕ → List Item → Bool
all_fit s [] = true
all_fit s (x ∷ xs) = fits s x && all_fit s xs

-- counts and fields are in range
abbrev pub InRange : Description → Type 0
InRange d = (counts_fit (heading_for d) ≡ true) × (all_fit (length d.names) (items d) ≡ true)

-- the heading, and each record behind the one before
abbrev pub encode_file : Description → List ℕ
encode_file d = encode_heading (heading_for d) ++ flat_map encode (items d)

-- each record with its place: the first is at `at`, and each next one behind the one before
abbrev pub placed_from : ℕ → List Item → List (ℕ × Item)
placed_from at [] = []
placed_from at (x ∷ xs) = (at, x) ∷ placed_from (at + size x) xs

-- what was read is the map that is described
abbrev pub Tells : Contents → Description → Type 0
Tells c d = (c.heading ≡ heading_for d) × (c.records ≡ placed_from 8 (items d))

pub record Exact (file : List ℕ) : Type 0 where
  -- an accepted file is the encoding of a map in range
  pub is_encoding : (c : Contents) → verdict file ≡ Ok c → (d : Description) × InRange d × (encode_file d ≡ file) × Tells c d
  -- the encoding of a map in range is accepted
  pub is_accepted : (d : Description) → InRange d → encode_file d ≡ file → (c : Contents) × (verdict file ≡ Ok c) × Tells c d
  -- heading and records of an accepted file, written out again, are the same file
  pub is_same : (c : Contents) → verdict file ≡ Ok c → encode_heading c.heading ++ encode_records c.records ≡ file

-- this holds of every list of bytes
abbrev pub RoundTrip : Type 0
RoundTrip = (file : List ℕ) → Bytes file → Exact file
