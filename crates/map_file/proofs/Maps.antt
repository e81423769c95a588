-- What accepting promises of the map that it makes.
use Rattle.std.proofs.Common.{◌≡◌, ℕ, ◌+◌, ◌-◌, ◌*◌, ◌<◌, ◌≤◌, true, not, eqb, ltb, leb, length, Some, None, Ok, sym, ap, ◌∙◌, arith}
use Rattle.std.proofs.lemmas.Bool.{and_parts, not-true, cond-true, leb-true, lt-ltb, eqb-false}
use Rattle.std.specs.List.{slice_get}
use Rattle.network.specs.Ranges.{in_range}
use Rattle.network.specs.declared.leg.Leg.{Leg}
use Rattle.map_format.specs.declared.kind.Kind.TheVariants.{Station as StationKind, Leg as LegKind}
use Rattle.map_file.specs.declared.map.Map.{Map}
use Rattle.map_format.specs.Format.{leg, Bytes, stations_fit, leg_fits}
use Rattle.map_format.specs.Reading.{Stretch, end_of, read_heading, run, notices, verdict}
use Rattle.map_format.specs.Walking.{record_at, records_from, the_leg}
use Rattle.map_file.specs.Networks.{map_stations, map_legs, fitting, ShowsRecords}
use Rattle.map_file.specs.Maps.{records_of, contents, leg_place, leg_number, encode_map, Indexed}
use Rattle.map_format.proofs.Encodes.{heading_inv}
use Rattle.map_format.proofs.Exactly.{round_trip}
use Rattle.map_format.proofs.Verdicts.{Phases, phases_verdict, all_walked, leg_found, notices_found}
use Rattle.map_format.proofs.Walks.{end_inv}

apart_ends : (s : ℕ) (l : Leg) → leg_fits s l ≡ true → l.from ≡ l.to → ⊥
apart_ends s l e same =
    eqb-false l.from l.to (not-true (eqb l.from l.to) (and_parts (not (eqb l.from l.to)) (in_range s l) e).0) same

-- each phase ended where the next one began
pub record Tested (m : Map) (end : ℕ) : Type 0 where
  pub heading_read : Ok m.heading ≡ read_heading m.bytes.now
  pub stations_end : Ok m.legs_at ≡ end_of (run StationKind m.heading.stations m.bytes.now m.heading.stations 8)
  pub legs_end : Ok m.notices_at ≡ end_of (run LegKind m.heading.stations m.bytes.now m.heading.legs m.legs_at)
  pub notices_end : Ok end ≡ end_of (notices m.heading.stations m.bytes.now (length m.bytes.now - m.notices_at) m.notices_at)

module _ (m : Map) (end : ℕ) (t : Tested m end) where
  phases : (ss : Stretch) × (ls : Stretch) × (ns : Stretch) × Phases m.bytes.now m.heading ss ls ns × (ss.1 ≡ m.legs_at) × (ls.1 ≡ m.notices_at)
  phases =
      let file = m.bytes.now in
      let s = m.heading.stations in
      let a = end_inv (run StationKind s file s 8) m.legs_at t.stations_end in
      let b = end_inv (run LegKind s file m.heading.legs m.legs_at) m.notices_at t.legs_end in
      let c = end_inv (notices s file (length file - m.notices_at) m.notices_at) end t.notices_end in (
        a.0,
        b.0,
        c.0,
        record {
          heading_read = sym t.heading_read;
          stations_read = a.1;
          legs_read = ap (run LegKind s file m.heading.legs) a.2 ∙ b.1;
          notices_read = ap (λ k. notices s file (length file - k) k) b.2 ∙ c.1;
        },
        a.2,
        b.2,
      )

  pub accepted : verdict m.bytes.now ≡ Ok (contents m)
  accepted =
      let p = phases in
      phases_verdict m.bytes.now m.heading p.0 p.1 p.2 p.3
      ∙ (λ i. Ok (record { heading = m.heading; records = sym (all_walked m.bytes.now m.heading p.0 p.1 p.2 p.3) i; legs_at = p.4 i; notices_at = p.5 i }))

  -- leg i, as a record and as it is read in place
  found_leg : (i : ℕ) → i < m.heading.legs → (l : Leg) × (slice_get (records_of m) (m.heading.stations + i) ≡ Some (leg_place m i, leg l)) × (leg_number m i ≡ Some l) × (leg_fits m.heading.stations l ≡ true)
  found_leg i small =
      let p = phases in
      let file = m.bytes.now in
      let f = leg_found file m.heading p.0 p.1 p.2 p.3 i small in (
        f.0,
        f.1 ∙ ap (λ k. Some (k + 7 * i, leg f.0)) p.4,
        cond-true (ltb i m.heading.legs) (the_leg (record_at file (leg_place m i))) None (lt-ltb i m.heading.legs small) ∙ ap (λ k. the_leg (record_at file (k + 7 * i))) (sym p.4) ∙ f.2,
        f.3,
      )

  pub indexed : Indexed m
  indexed =
      let p = phases in
      let file = m.bytes.now in
      record {
        leg_found = λ i small. let f = found_leg i small in (f.0, f.1, f.2);
        notices_found = ap (records_from file) (sym p.5) ∙ notices_found file m.heading p.0 p.1 p.2 p.3;
      }

  pub rewritten_same : Bytes m.bytes.now → encode_map m ≡ m.bytes.now
  rewritten_same small = (round_trip m.bytes.now small).is_same (contents m) accepted

  counts : (stations_fit m.heading.stations ≡ true) × (m.heading.legs ≤ 512)
  counts =
      let c = and_parts (stations_fit m.heading.stations) (leb m.heading.legs 512) (heading_inv m.bytes.now m.heading (sym t.heading_read)).counts in
      (c.0, leb-true m.heading.legs 512 c.1)

  -- each leg record is shown
  pub shows_records : ShowsRecords m
  shows_records =
      let h = m.heading in
      let same_stations : map_stations m ≡ h.stations = cond-true (stations_fit h.stations) h.stations 2 counts.0 in
      let same_legs : map_legs m ≡ h.legs = omega (arith, counts.1) in
      record {
        stations_are = same_stations;
        legs_are = same_legs;
        legs_shown = λ i small.
            let f = found_leg i small in
            let l = f.0 in (
              l,
              f.1,
              cond-true (ltb i (map_legs m)) (fitting (map_stations m) (leg_number m i)) None (lt-ltb i (map_legs m) (omega (arith, same_legs, small)))
                  ∙ ap (fitting (map_stations m)) f.2
                  ∙ cond-true (leg_fits (map_stations m) l) (Some l) None (ap (λ s. leg_fits s l) same_stations ∙ f.3),
              apart_ends h.stations l f.3,
            );
      }
