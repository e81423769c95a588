-- A file is accepted exactly when it is the encoding of a map in range.
use Rattle.std.proofs.Common.{◌≡◌, ℕ, zero, suc, ◌+◌, ◌-◌, ◌≤◌, true, List, [], ◌∷◌, ◌++◌, map, length, drop, Some, Ok, Result, sym, refl, ap, ◌∙◌, append_assoc, append-nil, add-zero, arith, length-append}
use Rattle.std.proofs.lemmas.List.{drop_all}
use Rattle.std.proofs.lemmas.Bool.{and_parts, and_from}
use Rattle.network.specs.declared.leg.Leg.{Leg}
use Rattle.std.specs.List.{flat_map}
use Rattle.map_format.specs.declared.fault.Fault.{Fault}
use Rattle.map_format.specs.declared.heading.Heading.{Heading}
use Rattle.map_format.specs.declared.kind.Kind.{Kind}
use Rattle.map_format.specs.declared.kind.Kind.TheVariants.{Station as StationKind, Leg as LegKind, Notice as NoticeKind}
use Rattle.map_format.specs.Format.{Item, station, leg, notice, Bytes, encode, encode_heading, size, counts_fit, fits, leg_at}
use Rattle.map_format.specs.Reading.{Stretch, due_record, whole_text, whole_record, run, notices}
use Rattle.map_format.specs.Walking.{encode_records}
use Rattle.map_format.specs.Laws.{Description, heading_for, items, all_fit, InRange, encode_file, placed_from, Tells}
use Rattle.map_format.proofs.Records.{due_inv, whole_leg_inv, telling_inv, whole_size}
use Rattle.map_format.proofs.Encodes.{whole_encodes, heading_inv}
use Rattle.map_format.proofs.Runs.{due_bounds}
use Rattle.map_format.proofs.Verdicts.{Phases, gathered}
use Rattle.map_format.proofs.Walks.{either, follow_inv, notices_inv}

-- ---- lists of records, one behind the other

pub joined_both : (xs ys : List Item) → flat_map encode (xs ++ ys) ≡ flat_map encode xs ++ flat_map encode ys
joined_both [] ys = refl
joined_both (x ∷ xs) ys = ap (λ (l : List ℕ). encode x ++ l) (joined_both xs ys) ∙ sym (append_assoc (encode x) (flat_map encode xs) (flat_map encode ys))

pub placed_both : (at n : ℕ) (xs ys : List Item) → n ≡ at + length (flat_map encode xs) → placed_from at (xs ++ ys) ≡ placed_from at xs ++ placed_from n ys
placed_both at n [] ys e = ap (λ k. placed_from k ys) (sym (e ∙ add-zero at))
placed_both at n (x ∷ xs) ys e = ap (λ (l : List (ℕ × Item)). (at, x) ∷ l) (placed_both (at + size x) n xs ys (omega (arith, e, length-append (encode x) (flat_map encode xs))))

fit_both : (s : ℕ) (xs ys : List Item) → all_fit s xs ≡ true → all_fit s ys ≡ true → all_fit s (xs ++ ys) ≡ true
fit_both s [] ys a b = b
fit_both s (x ∷ xs) ys a b = let p = and_parts (fits s x) (all_fit s xs) a in and_from (fits s x) (all_fit s (xs ++ ys)) p.0 (fit_both s xs ys p.1 b)

pub fit_parts : (s : ℕ) (xs ys : List Item) → all_fit s (xs ++ ys) ≡ true → (all_fit s xs ≡ true) × (all_fit s ys ≡ true)
fit_parts s [] ys a = (refl, a)
fit_parts s (x ∷ xs) ys a =
    let p = and_parts (fits s x) (all_fit s (xs ++ ys)) a in
    let q = fit_parts s xs ys p.1 in
    (and_from (fits s x) (all_fit s xs) p.0 q.0, q.1)

pub encoded_placed : (at : ℕ) (xs : List Item) → encode_records (placed_from at xs) ≡ flat_map encode xs
encoded_placed at [] = refl
encoded_placed at (x ∷ xs) = ap (λ (l : List ℕ). encode x ++ l) (encoded_placed (at + size x) xs)

-- ---- from a stretch that was read to what it says

-- n values that make records by f stand in the file, from `at` up to an end
record Stands {X : Type 0} (f : X → Item) (s : ℕ) (file : List ℕ) (at : ℕ) (q : Stretch) : Type 0 where
  values : List X
  fit : all_fit s (map f values) ≡ true
  placed_so : q.0 ≡ placed_from at (map f values)
  whole : drop at file ≡ flat_map encode (map f values) ++ drop q.1 file
  ends : q.1 ≡ at + length (flat_map encode (map f values))

-- what a kind of record is made of
pub record MadeOf (kind : Kind) (X : Type 0) : Type 0 where
  pub make : X → Item
  pub made : (file : List ℕ) (at : ℕ) (p : Item × ℕ) → whole_record kind file at ≡ Some p → (x : X) × (p.0 ≡ make x)

abbrev pub stations_of : MadeOf StationKind (List ℕ)
stations_of = record { make = station; made = λ file at p e. let q = telling_inv station (whole_text file at) p e in (q.0.0, q.2) }

abbrev pub legs_of : MadeOf LegKind Leg
legs_of = record { make = leg; made = λ file at p e. (leg_at file at, ap (λ (q : Item × ℕ). q.0) (sym (whole_leg_inv file at p e).1)) }

abbrev pub notices_of : MadeOf NoticeKind (List ℕ)
notices_of = record { make = notice; made = λ file at p e. let q = telling_inv notice (whole_text file at) p e in (q.0.0, q.2) }

module _ {kind : Kind} {X : Type 0} (of : MadeOf kind X) (s : ℕ) (file : List ℕ) (small : Bytes file) where
  stands_none : (at : ℕ) (q : Stretch) → ◌≡◌ {A = Result Stretch Fault} (Ok ([], at)) (Ok q) → Stands of.make s file at q
  stands_none at q e =
      let a : [] ≡ q.0 = cc in
      let b : at ≡ q.1 = cc in
      record { values = []; fit = refl; placed_so = sym a; whole = ap (λ k. drop k file) b; ends = sym b ∙ sym (add-zero at) }

  stands_more : (at : ℕ) (p : Item × ℕ) (t q : Stretch) → due_record s kind file at ≡ Ok p → q.0 ≡ (at, p.0) ∷ t.0 → q.1 ≡ t.1 → Stands of.make s file p.1 t → Stands of.make s file at q
  stands_more at p t q e a b rest =
      let d = due_inv s kind file at p e in
      let m = of.made file at p d.whole in
      let x = m.0 in
      let xs = map of.make rest.values in
      let z = (whole_size kind file at p d.whole).0 in
      let end : p.1 ≡ at + size (of.make x) = sym z ∙ ap (λ (i : Item). at + size i) m.1 in
      record {
        values = x ∷ rest.values;
        fit = and_from (fits s (of.make x)) (all_fit s xs) (ap (fits s) (sym m.1) ∙ d.fit) rest.fit;
        placed_so = a ∙ ap (λ (l : List (ℕ × Item)). (at, p.0) ∷ l) rest.placed_so ∙ ap (λ (i : Item). (at, i) ∷ placed_from p.1 xs) m.1 ∙ ap (λ k. (at, of.make x) ∷ placed_from k xs) end;
        whole = whole_encodes kind file at p small d.inside d.marked d.whole
            ∙ ap (λ (i : Item). encode i ++ drop p.1 file) m.1
            ∙ ap (λ (l : List ℕ). encode (of.make x) ++ l) rest.whole
            ∙ sym (append_assoc (encode (of.make x)) (flat_map encode xs) (drop t.1 file))
            ∙ ap (λ k. (encode (of.make x) ++ flat_map encode xs) ++ drop k file) (sym b);
        ends = omega (arith, b, rest.ends, end, length-append (encode (of.make x)) (flat_map encode xs));
      }

  run_stands : (n at : ℕ) (q : Stretch) → run kind s file n at ≡ Ok q → (r : Stands of.make s file at q) × (length r.values ≡ n)
  unfolding stands_none stands_more
  run_stands zero at q e = (stands_none at q e, refl)
  run_stands (suc n) at q e =
      let i = follow_inv at (due_record s kind file at) (run kind s file n) q e in
      let r = run_stands n i.0.1 i.1 i.3 in
      (stands_more at i.0 i.1 q i.2 i.4 i.5 r.0, ap suc r.1)

module _ (s : ℕ) (file : List ℕ) (small : Bytes file) where
  notices_stand : (n at : ℕ) (q : Stretch) → length file - at ≤ n → notices s file n at ≡ Ok q → Stands notice s file at q × (length file ≤ q.1)
  notices_stand zero at q h e = let b : at ≡ q.1 = cc in (stands_none notices_of s file small at q e, omega arith)
  notices_stand (suc n) at q h e =
      either (notices_inv s n file at q e)
      (λ end. let k = end.1 in let b : at ≡ q.1 = cc in (stands_none notices_of s file small at q end.1, omega (arith, end.0)))
      (λ more.
      let i = follow_inv at (due_record s NoticeKind file at) (notices s file n) q more in
      let b = due_bounds s NoticeKind file at i.0 i.2 in
      let r = notices_stand n i.0.1 i.1 (omega (arith, h, b.0)) i.3 in
      (stands_more notices_of s file small at i.0 i.1 q i.2 i.4 i.5 r.0, omega (arith, r.1, i.5)))

-- ---- an accepted file is an encoding

module _ (file : List ℕ) (small : Bytes file) (h : Heading) (ss ls ns : Stretch) (p : Phases file h ss ls ns) where
  pub described : (d : Description) × InRange d × (encode_file d ≡ file) × Tells (gathered h ss ls ns) d
  described =
      let s = h.stations in
      let a = run_stands stations_of s file small s 8 ss p.stations_read in
      let b = run_stands legs_of s file small h.legs ss.1 ls p.legs_read in
      let c = notices_stand s file small (length file - ls.1) ls.1 ns (omega arith) p.notices_read in
      let head = heading_inv file h p.heading_read in
      let d : Description = record { names = a.0.values; legs = b.0.values; texts = c.0.values } in
      let xs = map station a.0.values in
      let ys = map leg b.0.values in
      let zs = map notice c.0.values in
      let same_head : h ≡ heading_for d = λ i. record { stations = sym a.1 i; legs = sym b.1 i } in
      let body : drop 8 file ≡ flat_map encode (items d) =
      a.0.whole
      ∙ ap (λ (l : List ℕ). flat_map encode xs ++ l) (b.0.whole ∙ ap (λ (l : List ℕ). flat_map encode ys ++ l) (c.0.whole ∙ ap (λ (l : List ℕ). flat_map encode zs ++ l) (drop_all ns.1 file c.1) ∙ append-nil (flat_map encode zs)) ∙ sym (joined_both ys zs))
      ∙ sym (joined_both xs (ys ++ zs)) in
      let all_records : ss.0 ++ (ls.0 ++ ns.0) ≡ placed_from 8 (items d) =
      (λ i. a.0.placed_so i ++ (b.0.placed_so i ++ c.0.placed_so i))
      ∙ ap (λ (l : List (ℕ × Item)). placed_from 8 xs ++ l) (sym (placed_both ss.1 ls.1 ys zs b.0.ends))
      ∙ sym (placed_both 8 ss.1 xs (ys ++ zs) a.0.ends) in (
        d,
        (
          ap counts_fit (sym same_head) ∙ head.counts,
          ap (λ k. all_fit k (items d)) a.1 ∙ fit_both s xs (ys ++ zs) a.0.fit (fit_both s ys zs b.0.fit c.0.fit),
        ),
        ap (λ (k : Heading). encode_heading k ++ flat_map encode (items d)) (sym same_head) ∙ ap (λ (l : List ℕ). encode_heading h ++ l) (sym body) ∙ sym (head.whole small),
        (same_head, all_records),
      )
