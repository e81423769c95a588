-- Two lists of bytes, compared.
use Rattle.std.specs.Prelude.{◌≡◌, ℕ, List, take, Some, None, Option, ◌≢◌}
use Rattle.std.specs.List.{slice_get}

-- they are the same, or alike up to k and not alike at k, where one of them may end
abbrev pub Compared : List ℕ → List ℕ → Option ℕ → Type 0
Compared a b None = a ≡ b
Compared a b (Some k) = (take k a ≡ take k b) × (slice_get a k ≢ slice_get b k)
