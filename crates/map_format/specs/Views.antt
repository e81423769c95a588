-- What a record of the code says, with what a reference points to in the place of the reference.
use Rattle.std.specs.Prelude.{ℕ}
use Rattle.map_format.specs.declared.record.Placed.{Placed}
use Rattle.map_format.specs.declared.record.Record.{Record}
use Rattle.map_format.specs.declared.record.Record.TheVariants.{Station, Leg, Notice}
use Rattle.map_format.specs.Format.{Item, station, leg, notice}

abbrev pub said : Record → Item
said (Station name) = station name.now
said (Leg l) = leg l
said (Notice text) = notice text.now

-- a record with its place
abbrev pub seen : Placed → ℕ × Item
seen p = (p.place, said p.record)
