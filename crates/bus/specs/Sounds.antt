-- Every matrix means a sound network.
use Rattle.std.specs.Prelude.{◌≡◌, ℕ, ◌*◌, ◌/◌, ◌%◌, ◌<◌, ◌≤◌, ◌&&◌, List, Some, None, nat_le, nat_lt, slice_index}
use Rattle.std.proofs.Common.{subst, arith}
use Rattle.std.proofs.lemmas.Grind.{common_steps}
use Rattle.std.proofs.lemmas.Nat.{mul-le, div_below, mod_below}
use Rattle.std.proofs.lemmas.Bool.{and_parts, leb-true, ltb-true, le-ltb, cond-false}
use Rattle.network.specs.Meaning.{Sound, LegFits}
use Rattle.network.specs.Shown.{held}
use Rattle.network.specs.declared.leg.Leg.{Leg}
use Rattle.bus.specs.Matrices.{ride, matrix_meaning, stops_of, bus_meaning}

ride_fits : (n from to minutes : ℕ) (l : Leg) → from < n → to < n → ride from to minutes ≡ Some l → LegFits n l
ride_fits n from to minutes l a b e =
    let leg : Leg = record { from = from; to = to; seconds = 60 * minutes; points = 0; grade = 0 } in
    let h = held (nat_le 1 minutes && nat_le minutes 720) (Some leg) l e in
    let t = and_parts (nat_le 1 minutes) (nat_le minutes 720) h.0 in
    let low = leb-true 1 minutes t.0 in
    let high = leb-true minutes 720 t.1 in
    let same : leg ≡ l = let s = h.1 in cc in
    subst (λ (y : Leg). LegFits n y) same (record {
      from_fits = a;
      to_fits = b;
      figures = record { seconds_low = omega arith; seconds_high = omega arith; points_high = omega arith; grade_high = omega arith };
    })

matrix_sound : (n : ℕ) (minutes : List ℕ) → 2 ≤ n → n ≤ 22 → Sound (matrix_meaning n minutes)
matrix_sound n minutes low high = record {
  stations_low = low;
  stations_high = omega arith;
  legs_high = omega (arith, mul-le n n 22 22 high high);
  past = λ i h. cond-false (nat_lt i (n * n)) (ride (i / n) (i % n) (slice_index minutes i)) None (le-ltb i (n * n) h);
  fits = λ i l e.
      let h = held (nat_lt i (n * n)) (ride (i / n) (i % n) (slice_index minutes i)) l e in
      let pos : 0 < n = omega arith in
      ride_fits n (i / n) (i % n) (slice_index minutes i) l (div_below i n n pos (ltb-true i (n * n) h.0)) (mod_below i n pos) h.1;
}

stops_low : (n : ℕ) → 2 ≤ stops_of n
stops_low n = grind (arith, common_steps)

stops_high : (n : ℕ) → stops_of n ≤ 22
stops_high n = grind (arith, common_steps)

pub bus_sound : (n : ℕ) (minutes : List ℕ) → Sound (bus_meaning n minutes)
bus_sound n minutes = matrix_sound (stops_of n) minutes (stops_low n) (stops_high n)
