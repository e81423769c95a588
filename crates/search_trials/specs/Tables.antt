-- A table of legs as a network.
use Rattle.std.specs.Prelude.{◌≡◌, ℕ, ◌≤◌, min, cond, List, length, Some, None, Option, nat_le, nat_lt, slice_index_or}
use Rattle.std.proofs.Common.{subst, arith}
use Rattle.std.proofs.lemmas.Bool.{and_parts, leb-true, le-ltb, cond-false, cond_both}
use Rattle.network.specs.Meaning.{Meaning, Sound, LegFits}
use Rattle.network.specs.Ranges.{stations_fit, in_range, in_range_fits}
use Rattle.network.specs.Shown.{held}
use Rattle.network.specs.declared.leg.Leg.{Leg}

abbrev pub no_leg : Leg
no_leg = record { from = 0; to = 0; seconds = 0; points = 0; grade = 0 }

abbrev pub stations_of : ℕ → ℕ
stations_of n = cond (stations_fit n) n 2

-- the leg itself where it is in range
abbrev pub shown : ℕ → Leg → Option Leg
shown s l = cond (in_range s l) (Some l) None

abbrev pub table_meaning : ℕ → List Leg → Meaning
table_meaning n legs = record {
  stations = stations_of n;
  legs = min (length legs) 512;
  at = λ i. cond (nat_lt i (min (length legs) 512)) (shown (stations_of n) (slice_index_or legs i no_leg)) None;
}

-- ---- the ranges

shown_fits : (s : ℕ) (x l : Leg) → shown s x ≡ Some l → LegFits s l
shown_fits s x l e =
    let h = held (in_range s x) (Some x) l e in
    let same = h.1 in
    let q : x ≡ l = cc in
    subst (LegFits s) q (in_range_fits s x h.0)

pub table_sound : (n : ℕ) (legs : List Leg) → Sound (table_meaning n legs)
table_sound n legs = record {
  stations_low = cond_both (stations_fit n) n 2 (λ s. 2 ≤ s) (λ e. leb-true _ _ (and_parts (nat_le 2 n) (nat_le n 64) e).0) (λ e. omega arith);
  stations_high = cond_both (stations_fit n) n 2 (λ s. s ≤ 64) (λ e. leb-true _ _ (and_parts (nat_le 2 n) (nat_le n 64) e).1) (λ e. omega arith);
  legs_high = omega arith;
  past = λ i h. cond-false (nat_lt i (min (length legs) 512)) (shown (stations_of n) (slice_index_or legs i no_leg)) None (le-ltb i (min (length legs) 512) h);
  fits = λ i l e. shown_fits (stations_of n) (slice_index_or legs i no_leg) l (held (nat_lt i (min (length legs) 512)) (shown (stations_of n) (slice_index_or legs i no_leg)) l e).1;
}
