-- The number and the reason of each refusal.
use Rattle.std.specs.Prelude.{ℕ, List, codes}
use Rattle.network.specs.declared.refusal.Refusal.{Refusal}
use Rattle.network.specs.declared.refusal.Refusal.TheVariants.{CutShort, WrongMark, WrongVersion, CountOutOfRange, WrongKind, FieldOutOfRange, WrongMatrixSize, WrongMatrixEntry, OverlayOutOfRange, NoSuchStation, SameStation, ShortWorkspace, ListFull, NoFurtherRoute, NotGiven, ShortBuffer, TotalTooWide, UnknownLetter}

abbrev pub number_of : Refusal → ℕ
number_of CutShort = 1
number_of WrongMark = 2
number_of WrongVersion = 3
number_of CountOutOfRange = 4
number_of WrongKind = 5
number_of FieldOutOfRange = 6
number_of WrongMatrixSize = 7
number_of WrongMatrixEntry = 8
number_of OverlayOutOfRange = 9
number_of NoSuchStation = 10
number_of SameStation = 11
number_of ShortWorkspace = 12
number_of ListFull = 13
number_of NoFurtherRoute = 14
number_of NotGiven = 15
number_of ShortBuffer = 16
number_of TotalTooWide = 17
number_of UnknownLetter = 18

-- the bytes of the text that is shown
abbrev pub reason_of : Refusal → List ℕ
reason_of CutShort = codes "the file ends too early"
reason_of WrongMark = codes "the mark is not LPN"
reason_of WrongVersion = codes "the version is not 1"
reason_of CountOutOfRange = codes "a count is out of range"
reason_of WrongKind = codes "another kind of record is due"
reason_of FieldOutOfRange = codes "a field is out of range"
reason_of WrongMatrixSize = codes "the bus matrix has the wrong size"
reason_of WrongMatrixEntry = codes "an entry of the bus matrix is out of range"
reason_of OverlayOutOfRange = codes "a leg number or a ceiling is out of range"
reason_of NoSuchStation = codes "start or goal is no station"
reason_of SameStation = codes "start and goal are the same"
reason_of ShortWorkspace = codes "the workspace is too short"
reason_of ListFull = codes "sixteen ways are given"
reason_of NoFurtherRoute = codes "there is no further way"
reason_of NotGiven = codes "no such way or leg was given"
reason_of ShortBuffer = codes "the buffer is too short"
reason_of TotalTooWide = codes "a total is wider than its column"
reason_of UnknownLetter = codes "the letter is unknown"
