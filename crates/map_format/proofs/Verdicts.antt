-- An accepted file, phase by phase.
use Rattle.std.proofs.Common.{◌≡◌, ℕ, zero, suc, ◌+◌, ◌-◌, ◌*◌, ◌<◌, true, List, [], ◌∷◌, ◌++◌, length, drop, Some, Ok, Err, Result, sym, refl, ap, ◌∙◌, append_assoc, arith, length-append}
use Rattle.std.proofs.lemmas.List.{drop_at}
use Rattle.std.specs.List.{slice_get}
use Rattle.network.specs.declared.leg.Leg.{Leg}
use Rattle.network.specs.declared.refusal.Refusal.{Refusal}
use Rattle.map_format.specs.declared.fault.Fault.{Fault}
use Rattle.map_format.specs.declared.heading.Heading.{Heading}
use Rattle.map_format.specs.declared.kind.Kind.{Kind}
use Rattle.map_format.specs.declared.kind.Kind.TheVariants.{Station as StationKind, Leg as LegKind}
use Rattle.map_format.specs.Format.{Item, leg, leg_at, fits, leg_fits}
use Rattle.map_format.specs.Reading.{Stretch, Contents, and_then, placed, read_heading, due_record, run, notices, verdict}
use Rattle.map_format.specs.Walking.{record_at, records_from, the_leg}
use Rattle.map_format.proofs.Records.{refused, due_inv, whole_leg_inv}
use Rattle.map_format.proofs.Walks.{follow_inv, due_walk, run_walk, notices_walk}

-- what each phase of the verdict read
pub record Phases (file : List ℕ) (h : Heading) (ss ls ns : Stretch) : Type 0 where
  pub heading_read : read_heading file ≡ Ok h
  pub stations_read : run StationKind h.stations file h.stations 8 ≡ Ok ss
  pub legs_read : run LegKind h.stations file h.legs ss.1 ≡ Ok ls
  pub notices_read : notices h.stations file (length file - ls.1) ls.1 ≡ Ok ns

abbrev pub gathered : Heading → Stretch → Stretch → Stretch → Contents
gathered h ss ls ns = record { heading = h; records = ss.0 ++ (ls.0 ++ ns.0); legs_at = ss.1; notices_at = ls.1 }

then_is : {X Y : Type 0} (r : Result X Fault) (f : X → Result Y Fault) (x : X) → r ≡ Ok x → and_then r f ≡ f x
then_is r f x e = ap (λ r. and_then r f) e

then_inv : {X Y : Type 0} (r : Result X Fault) (f : X → Result Y Fault) (y : Y) → and_then r f ≡ Ok y → (x : X) × (r ≡ Ok x) × (f x ≡ Ok y)
then_inv (Ok x) f y e = (x, refl, e)
then_inv (Err g) f y e = absurd (refused g y e)

placed_inv : {X : Type 0} (at : ℕ) (r : Result X Refusal) (x : X) → placed at r ≡ Ok x → r ≡ Ok x
placed_inv at (Ok y) x e = let a : y ≡ x = cc in ap Ok a
placed_inv at (Err why) x e = let f : Fault = record { why = why; place = at } in absurd (refused f x e)

module _ (file : List ℕ) where
  -- the verdict from each phase on
  abbrev from_notices : Heading → Stretch → Stretch → Result Contents Fault
  from_notices h ss ls = and_then (notices h.stations file (length file - ls.1) ls.1) (λ ns. Ok (gathered h ss ls ns))

  abbrev from_legs : Heading → Stretch → Result Contents Fault
  from_legs h ss = and_then (run LegKind h.stations file h.legs ss.1) (from_notices h ss)

  abbrev from_stations : Heading → Result Contents Fault
  from_stations h = and_then (run StationKind h.stations file h.stations 8) (from_legs h)

  pub phases_verdict : (h : Heading) (ss ls ns : Stretch) → Phases file h ss ls ns → verdict file ≡ Ok (gathered h ss ls ns)
  phases_verdict h ss ls ns p =
      then_is (placed 0 (read_heading file)) from_stations h (ap (placed 0) p.heading_read)
      ∙ then_is (run StationKind h.stations file h.stations 8) (from_legs h) ss p.stations_read
      ∙ then_is (run LegKind h.stations file h.legs ss.1) (from_notices h ss) ls p.legs_read
      ∙ then_is (notices h.stations file (length file - ls.1) ls.1) (λ ns. Ok (gathered h ss ls ns)) ns p.notices_read

  pub verdict_phases : (c : Contents) → verdict file ≡ Ok c → (h : Heading) × (ss : Stretch) × (ls : Stretch) × (ns : Stretch) × Phases file h ss ls ns × (gathered h ss ls ns ≡ c)
  verdict_phases c e =
      let a = then_inv (placed 0 (read_heading file)) from_stations c e in
      let h = a.0 in
      let b = then_inv (run StationKind h.stations file h.stations 8) (from_legs h) c a.2 in
      let ss = b.0 in
      let d = then_inv (run LegKind h.stations file h.legs ss.1) (from_notices h ss) c b.2 in
      let ls = d.0 in
      let f = then_inv (notices h.stations file (length file - ls.1) ls.1) (λ ns. Ok (gathered h ss ls ns)) c d.2 in
      let last = f.2 in
      let same : gathered h ss ls f.0 ≡ c = cc in
      (h, ss, ls, f.0, record { heading_read = placed_inv 0 (read_heading file) h a.1; stations_read = b.1; legs_read = d.1; notices_read = f.1 }, same)

-- ---- the walk over an accepted file, and its offsets

run_length : (kind : Kind) (s : ℕ) (file : List ℕ) (n at : ℕ) (q : Stretch) → run kind s file n at ≡ Ok q → length q.0 ≡ n
run_length kind s file zero at q e = let a : [] ≡ q.0 = cc in ap length (sym a)
run_length kind s file (suc n) at q e =
    let i = follow_inv at (due_record s kind file at) (run kind s file n) q e in
    ap length i.4 ∙ ap suc (run_length kind s file n i.0.1 i.1 i.3)

nth_behind : {X : Type 0} (xs ys : List X) (i : ℕ) → slice_get (xs ++ ys) (length xs + i) ≡ slice_get ys i
nth_behind [] ys i = ap (slice_get ys) (omega arith)
nth_behind (x ∷ xs) ys i =
    let a : suc (length xs) + i ≡ suc (length xs + i) = omega arith in
    ap (slice_get (x ∷ (xs ++ ys))) a ∙ nth_behind xs ys i

nth_front : {X : Type 0} (xs ys : List X) (i : ℕ) (x : X) → slice_get xs i ≡ Some x → slice_get (xs ++ ys) i ≡ Some x
nth_front [] ys i x e = absurd (let z : ◌≡◌ {A = ℕ} 0 1 = cc in omega arith)
nth_front (y ∷ xs) ys zero x e = e
nth_front (y ∷ xs) ys (suc i) x e = nth_front xs ys i x e

-- leg i of a run of legs, by its place
pub leg_run : (s : ℕ) (file : List ℕ) (n at : ℕ) (q : Stretch) → run LegKind s file n at ≡ Ok q → (i : ℕ) → i < n → (l : Leg) × (slice_get q.0 i ≡ Some (at + 7 * i, leg l)) × (the_leg (record_at file (at + 7 * i)) ≡ Some l) × (leg_fits s l ≡ true)
leg_run s file zero at q e i h = absurd (omega arith)
leg_run s file (suc n) at q e zero h =
    let j = follow_inv at (due_record s LegKind file at) (run LegKind s file n) q e in
    let p = j.0 in
    let d = due_inv s LegKind file at p j.2 in
    let w = (whole_leg_inv file at p d.whole).1 in
    let here : at + 7 * 0 ≡ at = omega arith in
    let l = leg_at file at in
    let is : p.0 ≡ leg l = ap (λ (x : Item × ℕ). x.0) (sym w) in (
      l,
      ap (λ (r : List (ℕ × Item)). slice_get r 0) j.4 ∙ ap (λ (x : Item). Some (at, x)) is ∙ ap (λ k. Some (k, leg l)) (sym here),
      ap (λ k. the_leg (record_at file k)) here ∙ ap the_leg (due_walk s LegKind file at p j.2 ∙ ap Some (sym w)),
      ap (fits s) (sym is) ∙ d.fit,
    )
leg_run s file (suc n) at q e (suc i) h =
    let j = follow_inv at (due_record s LegKind file at) (run LegKind s file n) q e in
    let p = j.0 in
    let w = (whole_leg_inv file at p (due_inv s LegKind file at p j.2).whole).1 in
    let next : p.1 ≡ at + 7 = ap (λ (x : Item × ℕ). x.1) (sym w) in
    let there : p.1 + 7 * i ≡ at + 7 * suc i = omega arith in
    let r = leg_run s file n p.1 j.1 j.3 i (omega arith) in (
      r.0,
      ap (λ (x : List (ℕ × Item)). slice_get x (suc i)) j.4 ∙ r.1 ∙ ap (λ k. Some (k, leg r.0)) there,
      ap (λ k. the_leg (record_at file k)) (sym there) ∙ r.2,
      r.3,
    )

module _ (file : List ℕ) (h : Heading) (ss ls ns : Stretch) (p : Phases file h ss ls ns) where
  pub notices_walked : records_from file ls.1 ≡ ns.0
  notices_walked = notices_walk h.stations (length file - ls.1) file ls.1 ns (omega arith) p.notices_read

  pub all_walked : records_from file 8 ≡ ss.0 ++ (ls.0 ++ ns.0)
  all_walked =
      run_walk StationKind h.stations file h.stations 8 ss p.stations_read
      ∙ ap (λ (l : List (ℕ × Item)). ss.0 ++ l) (run_walk LegKind h.stations file h.legs ss.1 ls p.legs_read ∙ ap (λ (l : List (ℕ × Item)). ls.0 ++ l) notices_walked)

  pub leg_found : (i : ℕ) → i < h.legs → (l : Leg) × (slice_get (records_from file 8) (h.stations + i) ≡ Some (ss.1 + 7 * i, leg l)) × (the_leg (record_at file (ss.1 + 7 * i)) ≡ Some l) × (leg_fits h.stations l ≡ true)
  leg_found i small =
      let r = leg_run h.stations file h.legs ss.1 ls p.legs_read i small in
      let long : h.stations ≡ length ss.0 = sym (run_length StationKind h.stations file h.stations 8 ss p.stations_read) in (
        r.0,
        ap (λ (l : List (ℕ × Item)). slice_get l (h.stations + i)) all_walked
            ∙ ap (λ k. slice_get (ss.0 ++ (ls.0 ++ ns.0)) (k + i)) long
            ∙ nth_behind ss.0 (ls.0 ++ ns.0) i
            ∙ nth_front ls.0 ns.0 i (ss.1 + 7 * i, leg r.0) r.1,
        r.2,
        r.3,
      )

  pub notices_found : records_from file ls.1 ≡ drop (h.stations + h.legs) (records_from file 8)
  notices_found =
      let a = run_length StationKind h.stations file h.stations 8 ss p.stations_read in
      let b = run_length LegKind h.stations file h.legs ss.1 ls p.legs_read in
      let n = h.stations + h.legs in
      notices_walked
      ∙ sym (drop_at (ss.0 ++ ls.0) ns.0 n (omega (arith, length-append ss.0 ls.0)))
      ∙ ap (drop n) (append_assoc ss.0 ls.0 ns.0 ∙ sym all_walked)
