-- The ranges of a station count and of a leg as tests.
use Rattle.std.specs.Prelude.{◌≡◌, ℕ, Bool, true, ◌&&◌, nat_le, nat_lt}
use Rattle.std.proofs.lemmas.Bool.{and_parts, leb-true, ltb-true}
use Rattle.network.specs.Meaning.{LegFits}
use Rattle.network.specs.declared.leg.Leg.{Leg}

-- whether a network may have so many stations
abbrev pub stations_fit : ℕ → Bool
stations_fit s = nat_le 2 s && nat_le s 64

-- whether a leg is in range in a network of s stations
abbrev pub in_range : ℕ → Leg → Bool
in_range s l = nat_lt l.from s && (nat_lt l.to s && (nat_le 1 l.seconds && (nat_le l.seconds 43200 && (nat_le l.points 99 && nat_le l.grade 3))))

pub in_range_fits : (s : ℕ) (l : Leg) → in_range s l ≡ true → LegFits s l
in_range_fits s l e =
    let a = and_parts (nat_lt l.from s) _ e in
    let b = and_parts (nat_lt l.to s) _ a.1 in
    let c = and_parts (nat_le 1 l.seconds) _ b.1 in
    let d = and_parts (nat_le l.seconds 43200) _ c.1 in
    let f = and_parts (nat_le l.points 99) (nat_le l.grade 3) d.1 in
    record {
      from_fits = ltb-true l.from s a.0;
      to_fits = ltb-true l.to s b.0;
      figures = record {
        seconds_low = leb-true 1 l.seconds c.0;
        seconds_high = leb-true l.seconds 43200 d.0;
        points_high = leb-true l.points 99 f.0;
        grade_high = leb-true l.grade 3 f.1;
      };
    }
