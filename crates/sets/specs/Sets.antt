-- Sets of numbers in words of 64 bits.
use Rattle.std.specs.Prelude.{ℕ, zero, suc, ◌+◌, ◌*◌, ◌/◌, ◌%◌, ◌^◌, min, Bool, cond, List, ◌==◌, nat_lt, slice_index}

-- whether the set holds i: bit i % 64 of word i / 64
abbrev pub holds : List ℕ → ℕ → Bool
holds words i = (slice_index words (i / 64) / 2 ^ (i % 64)) % 2 == 1

-- the members after a number is put in or taken out; past the last word it changes nothing
abbrev pub after_put : ℕ → ℕ → Bool → (ℕ → Bool) → ℕ → Bool
after_put words number member old i = cond (nat_lt number (words * 64)) (cond (i == number) member (old i)) (old i)

-- how many numbers below n pass the test
unfoldable pub count : (ℕ → Bool) → ℕ → ℕ
count p zero = 0
count p (suc n) = count p n + cond (p n) 1 0

-- how many numbers of 16 bits there are in so many words
abbrev pub numbers : ℕ → ℕ
numbers words = min words 1024 * 64
