-- What writing answers, and what the buffer holds after.
use Rattle.std.specs.Prelude.{ℕ, ◌+◌, ◌<◌, cond, List, ◌++◌, length, take, drop, Some, None, Ok, Err, Option, Result, nat_lt}
use Rattle.network.specs.declared.leg.Leg.{Leg}
use Rattle.network.specs.declared.refusal.Refusal.{Refusal}
use Rattle.network.specs.declared.refusal.Refusal.TheVariants.{CountOutOfRange, FieldOutOfRange, ShortBuffer}
use Rattle.map_format.specs.declared.heading.Heading.{Heading}
use Rattle.map_format.specs.Format.{Item, station, leg, notice, stations_fit, counts_fit, fits}

-- what is wrong with a heading, a record, or a leg in a map of s stations
abbrev pub heading_refusal : Heading → Option Refusal
heading_refusal h = cond (counts_fit h) None (Some CountOutOfRange)

abbrev pub record_refusal : ℕ → Item → Option Refusal
record_refusal s x = cond (fits s x) None (Some FieldOutOfRange)

abbrev pub leg_refusal : ℕ → Leg → Option Refusal
leg_refusal s l = cond (stations_fit s) (record_refusal s (leg l)) (Some CountOutOfRange)

-- what is wrong with the value comes first, then a buffer that is too short; else the count of bytes written
abbrev pub write_answer : Option Refusal → List ℕ → List ℕ → Result ℕ Refusal
write_answer (Some why) bytes out = Err why
write_answer None bytes out = cond (nat_lt (length out) (length bytes)) (Err ShortBuffer) (Ok (length bytes))

-- the bytes stand in front of what was there; a refusal leaves the buffer as it was
abbrev pub buffer_after : Result ℕ Refusal → List ℕ → List ℕ → List ℕ
buffer_after (Ok n) bytes out = bytes ++ drop n out
buffer_after (Err why) bytes out = out

-- a buffer with these bytes from an offset on
abbrev pub spliced : List ℕ → ℕ → List ℕ → List ℕ
spliced out at bytes = take at out ++ (bytes ++ drop (at + length bytes) out)

-- a text whose length fits one byte
abbrev pub Short : Item → Type 0
Short (station name) = length name < 256
Short (leg l) = Unit {0}
Short (notice text) = length text < 256
