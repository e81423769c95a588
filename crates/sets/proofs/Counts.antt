-- A count of members, word by word.
use Rattle.std.proofs.Common.{◌≡◌, ℕ, zero, suc, ◌+◌, ◌*◌, ◌/◌, ◌%◌, ◌^◌, ◌<◌, ◌≤◌, Bool, cond, eqb, List, length, get_or, take, sum_by, sym, refl, ap, ◌∙◌, ap₂, add-zero, add_assoc, add-suc, mod-lt, zero-lt-suc, zero-add, div-one, add-one, arith, shr_lt, take_all, length-take-le, get_or-take}
use native.Mathlib.Nat.{div-div-eq-div-mul, pow-succ'}
use lib.Arith.{digits_div, digits_mod, lt-one}
use lib.Count.{ones, ones_step}
use Rattle.std.proofs.lemmas.List.Sums.{sum_by_more}
use Rattle.sets.specs.Sets.{holds, count}

-- the same test at each number below n, the same count
pub count_same : (p q : ℕ → Bool) (n : ℕ) → ((j : ℕ) → j < n → p j ≡ q j) → count p n ≡ count q n
unfolding count
count_same p q zero h = refl
count_same p q (suc n) h = ap₂ (λ (a : ℕ) (b : Bool). a + cond b 1 0) (count_same p q n (λ j k. h j (omega arith))) (h n (omega arith))

-- a count goes in two parts
pub count_add : (p : ℕ → Bool) (m n : ℕ) → count p (m + n) ≡ count p m + count (λ j. p (m + j)) n
unfolding count
count_add p m zero = ap (count p) (add-zero m) ∙ sym (add-zero (count p m))
count_add p m (suc n) = rw add-suc (ap (λ (a : ℕ). a + cond (p (m + n)) 1 0) (count_add p m n) ∙ add_assoc (count p m) _ _)

-- the first number apart
pub count_first : (p : ℕ → Bool) (n : ℕ) → count p (suc n) ≡ cond (p 0) 1 0 + count (λ j. p (suc j)) n
unfolding count
count_first p zero = zero-add _ ∙ sym (add-zero _)
count_first p (suc n) = ap (λ (a : ℕ). a + cond (p (suc n)) 1 0) (count_first p n) ∙ add_assoc _ _ _

pub count_none : (p : ℕ → Bool) → count p 0 ≡ 0
unfolding count
count_none p = refl

pub count_high : (p : ℕ → Bool) (n : ℕ) → count p n ≤ n
unfolding count
count_high p zero = omega arith
count_high p (suc n) = let h = count_high p n in grind arith

ones_none : (w : ℕ) → w ≡ zero → ones w ≡ count (λ j. eqb ((w / 2 ^ j) % 2) 1) 0
unfolding ones count
ones_none w e = ap ones e

low_digit : (w : ℕ) → cond (eqb (w % 2) 1) 1 0 ≡ w % 2
low_digit w = let h : w % 2 < 2 = mod-lt w (zero-lt-suc 1) in grind arith

-- the ones of a number below 2 ^ d
pub ones_count : (d w : ℕ) → w < 2 ^ d → ones w ≡ count (λ j. eqb ((w / 2 ^ j) % 2) 1) d
ones_count zero w h = ones_none w (lt-one h)
ones_count (suc d) w h =
    let fits : w < 2 ^ (d + 1) = rw add-one h in
    ones_step w
    ∙ (ap (λ (x : ℕ). w % 2 + x) (ones_count d (w / 2) (shr_lt d 1 fits))
    ∙ sym
    (count_first (λ j. eqb ((w / 2 ^ j) % 2) 1) d
    ∙ ap₂ (λ (a b : ℕ). a + b) (rw div-one (low_digit w)) (count_same _ _ d (λ j k. ap (λ (x : ℕ). eqb (x % 2) 1) (ap (λ (y : ℕ). w / y) (pow-succ' 2 j) ∙ sym (div-div-eq-div-mul w 2 (2 ^ j)))))))

-- one word more
pub word_step : (ws : List ℕ) (k : ℕ) → get_or ws k 0 < 2 ^ 64 → count (holds ws) ((k + 1) * 64) ≡ count (holds ws) (k * 64) + ones (get_or ws k 0)
word_step ws k h =
    let e : (k + 1) * 64 ≡ k * 64 + 64 = omega arith in
    ap (count (holds ws)) e
    ∙ (count_add (holds ws) (k * 64) 64
    ∙ ap (λ (x : ℕ). count (holds ws) (k * 64) + x) (count_same _ _ 64 (λ j l. ap₂ (λ (a b : ℕ). eqb ((get_or ws a 0 / 2 ^ b) % 2) 1) (digits_div k l) (digits_mod k l)) ∙ sym (ones_count 64 (get_or ws k 0) h)))

-- the ones of the first k words
words_count : (ws : List ℕ) (k : ℕ) → k ≤ length ws → ((i : ℕ) → get_or ws i 0 < 2 ^ 64) → sum_by ones (take k ws) ≡ count (holds ws) (k * 64)
unfolding count
words_count ws zero h fits = refl
words_count ws (suc k) h fits =
    let more : suc k ≡ k + 1 = omega arith in
    ap (λ (n : ℕ). sum_by ones (take n ws)) more
    ∙ sum_by_more ones ws k 0 (omega arith)
    ∙ ap (λ (a : ℕ). a + ones (get_or ws k 0)) (words_count ws k (omega arith) fits)
    ∙ sym (ap (λ (n : ℕ). count (holds ws) (n * 64)) more ∙ word_step ws k (fits k))

-- the ones of all words
pub count_words : (ws : List ℕ) → ((i : ℕ) → get_or ws i 0 < 2 ^ 64) → sum_by ones ws ≡ count (holds ws) (length ws * 64)
count_words ws fits = ap (sum_by ones) (sym (take_all (length ws) ws (omega arith))) ∙ words_count ws (length ws) (omega arith) fits

-- the members that the first k words say
pub count_take : (ws : List ℕ) (k : ℕ) → k ≤ length ws → count (holds (take k ws)) (length (take k ws) * 64) ≡ count (holds ws) (k * 64)
count_take ws k h =
    ap (λ (n : ℕ). count (holds (take k ws)) (n * 64)) (length-take-le k ws h)
    ∙ count_same (holds (take k ws)) (holds ws) (k * 64) (λ j l. ap (λ (w : ℕ). eqb ((w / 2 ^ (j % 64)) % 2) 1) (get_or-take k ws (j / 64) 0 (omega arith)))
