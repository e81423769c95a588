-- The minutes by bus between n stops, row after row.
use Rattle.std.specs.Prelude.{◌≡◌, ℕ, ◌+◌, ◌*◌, ◌/◌, ◌%◌, ◌<◌, ◌≤◌, Bool, true, cond, not, ◌&&◌, ◌||◌, List, [], ◌∷◌, length, Some, None, Option, ◌==◌, nat_le, nat_lt, slice_index}
use Rattle.network.specs.Meaning.{Meaning}
use Rattle.network.specs.declared.leg.Leg.{Leg}
use Rattle.network.specs.declared.refusal.Refusal.{Refusal}
use Rattle.network.specs.declared.refusal.Refusal.TheVariants.{WrongMatrixSize, WrongMatrixEntry}

-- the ride from stop to stop in so many minutes; none at 0, and none above 720
abbrev pub ride : ℕ → ℕ → ℕ → Option Leg
ride from to minutes = cond (nat_le 1 minutes && nat_le minutes 720) (Some (record { from = from; to = to; seconds = 60 * minutes; points = 0; grade = 0 })) None

-- number i is the ride from stop i / n to stop i % n
abbrev pub matrix_meaning : ℕ → List ℕ → Meaning
matrix_meaning n minutes = record { stations = n; legs = n * n; at = λ i. cond (nat_lt i (n * n)) (ride (i / n) (i % n) (slice_index minutes i)) None }

-- there are 2 to 22 stops
abbrev pub count_fits : ℕ → Bool
count_fits n = nat_le 2 n && nat_le n 22

-- a count that is out of range stands for the least one, so that every matrix means a network
abbrev pub stops_of : ℕ → ℕ
stops_of n = cond (count_fits n) n 2

abbrev pub bus_meaning : ℕ → List ℕ → Meaning
bus_meaning n minutes = matrix_meaning (stops_of n) minutes

abbrev pub size_fits : ℕ → List ℕ → Bool
size_fits n minutes = count_fits n && length minutes == n * n

-- entry i is in row i / n and column i % n: at most 720, and 0 on the diagonal
abbrev pub entry_fits : ℕ → ℕ → ℕ → Bool
entry_fits n i entry = nat_le entry 720 && (not (i / n == i % n) || entry == 0)

-- every entry, the first of them entry i
abbrev pub entries_fit : ℕ → ℕ → List ℕ → Bool
entries_fit n i [] = true
entries_fit n i (entry ∷ rest) = entry_fits n i entry && entries_fit n (i + 1) rest

-- why a matrix is refused, the size first
abbrev pub matrix_refusal : ℕ → List ℕ → Option Refusal
matrix_refusal n minutes = cond (size_fits n minutes) (cond (entries_fit n 0 minutes) None (Some WrongMatrixEntry)) (Some WrongMatrixSize)

-- what is sure of an accepted matrix
pub record Accepted (n : ℕ) (minutes : List ℕ) : Type 0 where
  pub stations : (bus_meaning n minutes).stations ≡ n
  pub legs : (bus_meaning n minutes).legs ≡ n * n
  pub rides : (from to : ℕ) → from < n → to < n → (bus_meaning n minutes).at (from * n + to) ≡ ride from to (slice_index minutes (from * n + to))
  pub longest : (from to : ℕ) → from < n → to < n → slice_index minutes (from * n + to) ≤ 720
  pub diagonal : (stop : ℕ) → stop < n → slice_index minutes (stop * n + stop) ≡ 0
