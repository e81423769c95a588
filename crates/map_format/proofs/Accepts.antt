-- The encoding of a map in range is accepted.
use Rattle.std.proofs.Common.{◌≡◌, ℕ, zero, suc, ◌+◌, ◌-◌, ◌*◌, ◌%◌, ◌<◌, ◌≤◌, true, cond, eqb, ltb, leb, List, [], ◌∷◌, ◌++◌, map, length, get_or, take, drop, Some, None, Ok, Err, Result, sym, refl, ap, ◌∙◌, append_assoc, append-nil, add-zero, arith, length-append, length-drop}
use Rattle.std.proofs.lemmas.List.Prefix.{at_reads}
use Rattle.std.proofs.lemmas.List.{drop-drop, drop_at, take_at}
use Rattle.std.proofs.lemmas.Bool.{and_parts, cond-true, cond-false, lt-leb, le-ltb, eq-eqb}
use Rattle.network.specs.declared.leg.Leg.{Leg}
use Rattle.network.specs.declared.refusal.Refusal.{Refusal}
use Rattle.network.specs.declared.refusal.Refusal.TheVariants.{CutShort, CountOutOfRange, WrongKind, FieldOutOfRange}
use Rattle.std.specs.List.{flat_map}
use Rattle.map_format.specs.declared.fault.Fault.{Fault}
use Rattle.map_format.specs.declared.heading.Heading.{Heading}
use Rattle.map_format.specs.declared.kind.Kind.{Kind}
use Rattle.map_format.specs.declared.kind.Kind.TheVariants.{Notice as NoticeKind}
use Rattle.map_format.specs.Format.{Item, station, leg, notice, encode, encode_heading, mark_of, size, counts_fit, fits, heading_of, leg_at, part}
use Rattle.map_format.specs.Reading.{Stretch, Contents, and_then, follow, marked, read_heading, in_range, telling, due_record, whole_text, whole_record, run, notices, verdict}
use Rattle.map_format.specs.Laws.{Description, heading_for, items, all_fit, InRange, encode_file, placed_from, Tells}
use Rattle.map_format.proofs.Encodes.{word_back}
use Rattle.map_format.proofs.Runs.{notices_end}
use Rattle.map_format.proofs.Verdicts.{Phases, gathered, phases_verdict}
use Rattle.map_format.proofs.Laws.{joined_both, placed_both, fit_parts, MadeOf, stations_of, legs_of, notices_of}

-- what stands from an offset on, read at places behind it
module _ (file : List ℕ) (at : ℕ) (xs rest : List ℕ) (stand : drop at file ≡ xs ++ rest) where
  read_at : (k : ℕ) → k < length xs → get_or file (at + k) 0 ≡ get_or xs k 0
  read_at k h = at_reads 0 file xs at rest stand k h

  long_enough : 0 < length xs → at + length xs ≤ length file
  long_enough h = omega (arith, length-drop at file, ap length stand, length-append xs rest)

  drop_behind : drop (at + length xs) file ≡ rest
  drop_behind = sym (drop-drop (length xs) at file) ∙ ap (drop (length xs)) stand ∙ drop_at xs rest (length xs) refl

due_from : (s : ℕ) (kind : Kind) (file : List ℕ) (at : ℕ) (p : Item × ℕ) → at < length file → get_or file at 0 ≡ mark_of kind → whole_record kind file at ≡ Some p → fits s p.0 ≡ true → due_record s kind file at ≡ Ok p
due_from s kind file at p inside marked whole fit =
    cond-false (leb (length file) at) (Err CutShort) _ (lt-leb (length file) at inside)
    ∙ cond-true (eqb (get_or file at 0) (mark_of kind)) _ (Err WrongKind) (eq-eqb _ _ marked)
    ∙ ap (in_range s) whole
    ∙ cond-true (fits s p.0) (Ok p) (Err FieldOutOfRange) fit

-- a text behind its kind byte and its length is read back
text_back : (file : List ℕ) (at mark : ℕ) (t rest : List ℕ) → drop at file ≡ (mark ∷ length t ∷ t) ++ rest → whole_text file at ≡ Some (t, at + 2 + length t)
text_back file at mark t rest stand =
    let n : get_or file (at + 1) 0 ≡ length t = read_at file at (mark ∷ length t ∷ t) rest stand 1 (omega arith) in
    let room : at + suc (suc (length t)) ≤ length file = long_enough file at (mark ∷ length t ∷ t) rest stand (omega arith) in
    let text : part file (at + 2) (length t) ≡ t =
    ap (take (length t)) (sym (drop-drop 2 at file) ∙ ap (drop 2) stand) ∙ take_at t rest (length t) refl in
    ap (λ k. cond (ltb (length file) (at + 2 + k)) None (Some (part file (at + 2) k, at + 2 + k))) n
    ∙ cond-false (ltb (length file) (at + 2 + length t)) None (Some (part file (at + 2) (length t), at + 2 + length t)) (le-ltb (length file) (at + 2 + length t) (omega arith))
    ∙ ap (λ (l : List ℕ). Some (l, at + 2 + length t)) text

leg_back : (file : List ℕ) (at : ℕ) (l : Leg) (rest : List ℕ) → drop at file ≡ encode (leg l) ++ rest → leg_at file at ≡ l
leg_back file at l rest stand =
    let b : (k : ℕ) → k < 7 → get_or file (at + k) 0 ≡ get_or (encode (leg l)) k 0 = λ k h. read_at file at (encode (leg l)) rest stand k h in
    let next : at + 3 + 1 ≡ at + 4 = omega arith in
    let low : get_or file (at + 3 + 1) 0 ≡ l.seconds % 256 = ap (λ k. get_or file k 0) next ∙ b 4 (omega arith) in
    let seconds : 256 * get_or file (at + 3) 0 + get_or file (at + 3 + 1) 0 ≡ l.seconds =
    (λ i. 256 * b 3 (omega arith) i + low i) ∙ word_back l.seconds in
    λ i. record { from = b 1 (omega arith) i; to = b 2 (omega arith) i; seconds = seconds i; points = b 5 (omega arith) i; grade = b 6 (omega arith) i }

-- values of a kind of record are read back
abbrev BackTo : {kind : Kind} {X : Type 0} → MadeOf kind X → Type 0
BackTo {kind} {X} of = (file : List ℕ) (at : ℕ) (x : X) (rest : List ℕ) → drop at file ≡ encode (of.make x) ++ rest → (get_or file (at + 0) 0 ≡ mark_of kind) × (whole_record kind file at ≡ Some (of.make x, at + size (of.make x)))

text_end : (at n : ℕ) → at + 2 + n ≡ at + suc (suc n)
text_end at n = omega arith

stations_back : BackTo stations_of
stations_back file at t rest stand = (read_at file at (encode (station t)) rest stand 0 (omega arith), ap (telling station) (text_back file at 0x53 t rest stand) ∙ ap (λ k. Some (station t, k)) (text_end at (length t)))

legs_back : BackTo legs_of
legs_back file at l rest stand = (
  read_at file at (encode (leg l)) rest stand 0 (omega arith),
  cond-false (ltb (length file) (at + 7)) None (Some (leg (leg_at file at), at + 7)) (le-ltb (length file) (at + 7) (long_enough file at (encode (leg l)) rest stand (omega arith)))
      ∙ ap (λ (k : Leg). Some (leg k, at + 7)) (leg_back file at l rest stand),
)

notices_back : BackTo notices_of
notices_back file at t rest stand = (read_at file at (encode (notice t)) rest stand 0 (omega arith), ap (telling notice) (text_back file at 0x4E t rest stand) ∙ ap (λ k. Some (notice t, k)) (text_end at (length t)))

size_some : (x : Item) → 0 < size x
size_some (station name) = omega arith
size_some (leg l) = omega arith
size_some (notice text) = omega arith

module _ {kind : Kind} {X : Type 0} (of : MadeOf kind X) (back : BackTo of) (s : ℕ) (file : List ℕ) where
  due_back : (at : ℕ) (x : X) (rest : List ℕ) → fits s (of.make x) ≡ true → drop at file ≡ encode (of.make x) ++ rest → due_record s kind file at ≡ Ok (of.make x, at + size (of.make x))
  due_back at x rest fit stand =
      let b = back file at x rest stand in
      let long = long_enough file at (encode (of.make x)) rest stand (size_some (of.make x)) in
      due_from s kind file at (of.make x, at + size (of.make x)) (omega (arith, size_some (of.make x))) (ap (λ k. get_or file k 0) (sym (add-zero at)) ∙ b.0) b.1 fit

  -- one record more in front of a stretch
  follow_back : (behind : ℕ → Result Stretch Fault) (at : ℕ) (x : X) (xs : List Item) (rest : List ℕ) → fits s (of.make x) ≡ true → drop at file ≡ encode (of.make x) ++ rest → behind (at + size (of.make x)) ≡ Ok (placed_from (at + size (of.make x)) xs, at + size (of.make x) + length (flat_map encode xs)) → follow at (due_record s kind file at) behind ≡ Ok (placed_from at (of.make x ∷ xs), at + length (flat_map encode (of.make x ∷ xs)))
  follow_back behind at x xs rest fit stand next =
      let y = of.make x in
      let end : at + size y + length (flat_map encode xs) ≡ at + length (flat_map encode (y ∷ xs)) = omega (arith, length-append (encode y) (flat_map encode xs)) in
      ap (λ (r : Result (Item × ℕ) Refusal). follow at r behind) (due_back at x rest fit stand)
      ∙ ap (λ (r : Result Stretch Fault). and_then r (λ q. Ok ((at, y) ∷ q.0, q.1))) next
      ∙ ap (λ k. Ok ((at, y) ∷ placed_from (at + size y) xs, k)) end

  -- what stands behind the first record
  behind_first : (at : ℕ) (y : Item) (xs : List Item) (rest : List ℕ) → drop at file ≡ flat_map encode (y ∷ xs) ++ rest → (drop at file ≡ encode y ++ (flat_map encode xs ++ rest)) × (drop (at + size y) file ≡ flat_map encode xs ++ rest)
  behind_first at y xs rest stand =
      let first = stand ∙ append_assoc (encode y) (flat_map encode xs) rest in
      (first, drop_behind file at (encode y) (flat_map encode xs ++ rest) first)

  run_back : (values : List X) (at : ℕ) (rest : List ℕ) → all_fit s (map of.make values) ≡ true → drop at file ≡ flat_map encode (map of.make values) ++ rest → run kind s file (length values) at ≡ Ok (placed_from at (map of.make values), at + length (flat_map encode (map of.make values)))
  run_back [] at rest fit stand = ap (λ k. Ok ([], k)) (sym (add-zero at))
  run_back (x ∷ values) at rest fit stand =
      let xs = map of.make values in
      let f = and_parts (fits s (of.make x)) (all_fit s xs) fit in
      let b = behind_first at (of.make x) xs rest stand in
      follow_back (run kind s file (length values)) at x xs (flat_map encode xs ++ rest) f.0 b.0 (run_back values (at + size (of.make x)) rest f.1 b.1)

notices_read_back : (s : ℕ) (file : List ℕ) (texts : List (List ℕ)) (n at : ℕ) → length file - at ≤ n → all_fit s (map notice texts) ≡ true → drop at file ≡ flat_map encode (map notice texts) ++ [] → notices s file n at ≡ Ok (placed_from at (map notice texts), at + length (flat_map encode (map notice texts)))
notices_read_back s file [] n at h fit stand =
    notices_end s n file at (omega (arith, ap length stand, length-drop at file)) ∙ ap (λ k. Ok ([], k)) (sym (add-zero at))
notices_read_back s file (t ∷ texts) zero at h fit stand =
    let b = behind_first notices_of notices_back s file at (notice t) (map notice texts) [] stand in
    absurd (omega (arith, h, long_enough file at (encode (notice t)) (flat_map encode (map notice texts) ++ []) b.0 (size_some (notice t))))
notices_read_back s file (t ∷ texts) (suc n) at h fit stand =
    let xs = map notice texts in
    let f = and_parts (fits s (notice t)) (all_fit s xs) fit in
    let b = behind_first notices_of notices_back s file at (notice t) xs [] stand in
    let long = long_enough file at (encode (notice t)) (flat_map encode xs ++ []) b.0 (size_some (notice t)) in
    cond-false (leb (length file) at) (Ok ([], at)) (follow at (due_record s NoticeKind file at) (notices s file n)) (lt-leb (length file) at (omega arith))
    ∙ follow_back notices_of notices_back s file (notices s file n) at t xs (flat_map encode xs ++ []) f.0 b.0 (notices_read_back s file texts n (at + size (notice t)) (omega arith) f.1 b.1)

-- ---- the whole file

heading_back : (h : Heading) (body : List ℕ) → counts_fit h ≡ true → read_heading (encode_heading h ++ body) ≡ Ok h
heading_back h body fit =
    let file = encode_heading h ++ body in
    let same : heading_of file ≡ h = λ i. record { stations = h.stations; legs = word_back h.legs i } in
    cond-false (ltb (length file) 8) (Err CutShort) (cond (counts_fit (heading_of file)) (Ok (heading_of file)) (Err CountOutOfRange)) (le-ltb (length file) 8 (omega arith))
    ∙ cond-true (counts_fit (heading_of file)) (Ok (heading_of file)) (Err CountOutOfRange) (ap counts_fit same ∙ fit)
    ∙ ap Ok same

module _ (d : Description) (fit : InRange d) where
  pub encoded_read : (c : Contents) × (verdict (encode_file d) ≡ Ok c) × Tells c d
  encoded_read =
      let file = encode_file d in
      let h = heading_for d in
      let s = length d.names in
      let xs = map station d.names in
      let ys = map leg d.legs in
      let zs = map notice d.texts in
      let f = fit_parts s xs (ys ++ zs) fit.1 in
      let g = fit_parts s ys zs f.1 in
      let legs_at = 8 + length (flat_map encode xs) in
      let notices_at = legs_at + length (flat_map encode ys) in
      let first : drop 8 file ≡ flat_map encode xs ++ flat_map encode (ys ++ zs) = joined_both xs (ys ++ zs) in
      let second : drop legs_at file ≡ flat_map encode ys ++ flat_map encode zs = drop_behind file 8 (flat_map encode xs) (flat_map encode (ys ++ zs)) first ∙ joined_both ys zs in
      let third : drop notices_at file ≡ flat_map encode zs ++ [] = drop_behind file legs_at (flat_map encode ys) (flat_map encode zs) second ∙ sym (append-nil (flat_map encode zs)) in
      let ss : Stretch = (placed_from 8 xs, legs_at) in
      let ls : Stretch = (placed_from legs_at ys, notices_at) in
      let ns : Stretch = (placed_from notices_at zs, notices_at + length (flat_map encode zs)) in
      let p : Phases file h ss ls ns = record {
        heading_read = heading_back h (flat_map encode (items d)) fit.0;
        stations_read = run_back stations_of stations_back s file d.names 8 (flat_map encode (ys ++ zs)) f.0 first;
        legs_read = run_back legs_of legs_back s file d.legs legs_at (flat_map encode zs) g.0 second;
        notices_read = notices_read_back s file d.texts (length file - notices_at) notices_at (omega arith) g.1 third;
      } in (
        gathered h ss ls ns,
        phases_verdict file h ss ls ns p,
        (
          refl,
          ap (λ (l : List (ℕ × Item)). placed_from 8 xs ++ l) (sym (placed_both legs_at notices_at ys zs refl)) ∙ sym (placed_both 8 legs_at xs (ys ++ zs) refl),
        ),
      )
