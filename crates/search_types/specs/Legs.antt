-- The legs of a route in fixed storage.
use Rattle.std.specs.Prelude.{ℕ, List, take}
use Rattle.search_types.specs.declared.leg_list.LegList.{LegList}

abbrev pub legs_of : LegList → List ℕ
legs_of x = take x.len x.legs
