-- One number made a member, or not.
use Rattle.std.proofs.Common.{◌≡◌, ℕ, ◌-◌, ◌*◌, ◌/◌, ◌%◌, ◌^◌, ◌<◌, Bool, true, false, cond, eqb, ltb, ◌⊎◌, List, length, get_or, set, bit_or, bit_and, w64, sym, ap, ◌∙◌, inl, inr, mod-lt, zero-lt-suc, div-add-mod', arith}
use Rattle.std.specs.Int.{bit_at}
use Rattle.std.proofs.lemmas.Nat.Bits.{bit_at_set_same, bit_at_set_other, bit_at_clear_same, bit_at_clear_other}
use Rattle.std.proofs.lemmas.List.{get_or-set_same, get_or-set_other}
use Rattle.std.proofs.lemmas.Bool.{cases_eq, eq-eqb, ne_eqb, lt-ltb, cond-true, cond-false}
use Rattle.sets.specs.Sets.{holds, after_put}

module _ (words : List ℕ) (n k size : ℕ) (place : k ≡ n / 64) (inside : k < size) (long : length words ≡ size) where
  low : n % 64 < 64
  low = mod-lt n (zero-lt-suc 63)

  -- a word with the bit of n as it should be, and each other bit as it was
  holds_set : (w : ℕ) (member : Bool) → eqb (bit_at w (n % 64)) 1 ≡ member → ((j : ℕ) → j < 64 → (j ≡ n % 64 → ⊥) → bit_at w j ≡ bit_at (get_or words k 0) j) → (i : ℕ) → holds (set words k w) i ≡ after_put size n member (holds words) i
  holds_set w member here others i =
      go (cases_eq i n) ∙ sym (cond-true (ltb n (size * 64)) (cond (eqb i n) member (holds words i)) (holds words i) (lt-ltb n (size * 64) (omega (arith, place, inside))))
    where
      same_word : i / 64 ≡ k → holds (set words k w) i ≡ eqb (bit_at w (i % 64)) 1
      same_word e = ap (λ j. eqb (bit_at (get_or (set words k w) j 0) (i % 64)) 1) e ∙ ap (λ v. eqb (bit_at v (i % 64)) 1) (get_or-set_same words k w 0 (omega (arith, inside, long)))

      apart : (i ≡ n → ⊥) → (i / 64 ≡ k) ⊎ (i / 64 ≡ k → ⊥) → holds (set words k w) i ≡ holds words i
      apart ne (inl e) =
          same_word e
          ∙ ap (λ v. eqb v 1) (others (i % 64) (mod-lt i (zero-lt-suc 63)) (λ f. ne (omega (arith, e, f, place, div-add-mod' i 64, div-add-mod' n 64))))
          ∙ ap (λ j. eqb (bit_at (get_or words j 0) (i % 64)) 1) (sym e)
      apart ne (inr f) = ap (λ v. eqb (bit_at v (i % 64)) 1) (get_or-set_other words k (i / 64) w 0 f)

      go : (i ≡ n) ⊎ (i ≡ n → ⊥) → holds (set words k w) i ≡ cond (eqb i n) member (holds words i)
      go (inl e) = same_word (ap (λ m. m / 64) e ∙ sym place) ∙ ap (λ m. eqb (bit_at w (m % 64)) 1) e ∙ here ∙ sym (cond-true (eqb i n) member (holds words i) (eq-eqb i n e))
      go (inr ne) = apart ne (cases_eq (i / 64) k) ∙ sym (cond-false (eqb i n) member (holds words i) (ne_eqb i n ne))

  -- the bit of n set, and cleared, as the code computes them
  pub put_in : (member : Bool) → member ≡ true → (i : ℕ) → holds (set words k (bit_or (get_or words k 0) (1 * 2 ^ (n % 64) % 18446744073709551616))) i ≡ after_put size n member (holds words) i
  put_in member e =
      holds_set _ member
      (ap (λ d. eqb d 1) (bit_at_set_same w64 (get_or words k 0) (n % 64) low) ∙ sym e)
      (λ j h. bit_at_set_other w64 (get_or words k 0) (n % 64) low j)

  pub taken_out : (member : Bool) → member ≡ false → (i : ℕ) → holds (set words k (bit_and (get_or words k 0) (18446744073709551615 - 1 * 2 ^ (n % 64) % 18446744073709551616))) i ≡ after_put size n member (holds words) i
  taken_out member e =
      holds_set _ member
      (ap (λ d. eqb d 1) (bit_at_clear_same w64 (get_or words k 0) (n % 64) low) ∙ sym e)
      (bit_at_clear_other w64 (get_or words k 0) (n % 64) low)
