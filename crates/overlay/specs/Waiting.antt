-- The waits in a row.
use Rattle.std.specs.Prelude.{ℕ, List, slice_index}

-- the wait of leg i, 0 past the row
abbrev pub wait_in : List ℕ → ℕ → ℕ
wait_in waits i = slice_index waits i
