-- An accepted map as a network.
use Rattle.std.specs.Prelude.{◌≡◌, ℕ, ◌+◌, ◌<◌, ◌≤◌, min, Bool, true, cond, not, Some, None, Option, ◌==◌, ◌≢◌, nat_le, nat_lt}
use Rattle.std.proofs.Common.{ap, subst, arith}
use Rattle.std.proofs.lemmas.Bool.{and_parts, leb-true, le-ltb, cond_both}
use Rattle.network.specs.Meaning.{Meaning, Sound, LegFits}
use Rattle.network.specs.Ranges.{in_range, in_range_fits}
use Rattle.network.specs.Shown.{nothing, held}
use Rattle.network.specs.declared.leg.Leg.{Leg}
use Rattle.std.specs.List.{slice_get}
use Rattle.map_format.specs.Format.{leg, stations_fit, leg_fits}
use Rattle.map_file.specs.declared.map.Map.{Map}
use Rattle.map_file.specs.Maps.{records_of, leg_place, leg_number}

-- the counts of the heading; any value of the type has counts in range
abbrev pub map_stations : Map → ℕ
map_stations m = cond (stations_fit m.heading.stations) m.heading.stations 2

abbrev pub map_legs : Map → ℕ
map_legs m = min m.heading.legs 512

-- a leg that may stand in a map of s stations
abbrev pub fitting : ℕ → Option Leg → Option Leg
fitting s (Some l) = cond (leg_fits s l) (Some l) None
fitting s None = None

abbrev pub map_meaning : Map → Meaning
map_meaning m = record {
  stations = map_stations m;
  legs = map_legs m;
  at = λ i. cond (nat_lt i (map_legs m)) (fitting (map_stations m) (leg_number m i)) None;
}

-- the network of an accepted map is what its leg records say, and none of them leads from a station to itself
pub record ShowsRecords (m : Map) : Type 0 where
  pub stations_are : (map_meaning m).stations ≡ m.heading.stations
  pub legs_are : (map_meaning m).legs ≡ m.heading.legs
  pub legs_shown : (i : ℕ) → i < m.heading.legs → (l : Leg) × (slice_get (records_of m) (m.heading.stations + i) ≡ Some (leg_place m i, leg l)) × ((map_meaning m).at i ≡ Some l) × (l.from ≢ l.to)

-- ---- the ranges

pub fits_leg : (s : ℕ) (l : Leg) → leg_fits s l ≡ true → LegFits s l
fits_leg s l e = in_range_fits s l (and_parts (not (l.from == l.to)) (in_range s l) e).1

fitting_fits : (s : ℕ) (o : Option Leg) (l : Leg) → fitting s o ≡ Some l → LegFits s l
fitting_fits s None l e = absurd (nothing l e)
fitting_fits s (Some x) l e =
    let h = held (leg_fits s x) (Some x) l e in
    let same = h.1 in
    let q : x ≡ l = cc in
    subst (LegFits s) q (fits_leg s x h.0)

pub map_sound : (m : Map) → Sound (map_meaning m)
map_sound m = record {
  stations_low = cond_both (stations_fit m.heading.stations) m.heading.stations 2 (λ s. 2 ≤ s) (λ e. leb-true _ _ (and_parts (nat_le 2 m.heading.stations) (nat_le m.heading.stations 64) e).0) (λ e. omega arith);
  stations_high = cond_both (stations_fit m.heading.stations) m.heading.stations 2 (λ s. s ≤ 64) (λ e. leb-true _ _ (and_parts (nat_le 2 m.heading.stations) (nat_le m.heading.stations 64) e).1) (λ e. omega arith);
  legs_high = omega arith;
  past = λ i h. ap (λ (t : Bool). cond t (fitting (map_stations m) (leg_number m i)) None) (le-ltb i (map_legs m) h);
  fits = λ i l e. fitting_fits (map_stations m) (leg_number m i) l (held (nat_lt i (map_legs m)) (fitting (map_stations m) (leg_number m i)) l e).1;
}
