-- What was read, written out again, is what stood in the file.
use Rattle.std.proofs.Common.{◌≡◌, ℕ, suc, ◌+◌, ◌*◌, ◌/◌, ◌%◌, ◌<◌, ◌≤◌, Bool, true, false, cond, ◌&&◌, eqb, ltb, List, [], ◌∷◌, ◌++◌, length, get_or, drop, Some, Ok, Err, sym, refl, ap, ◌∙◌, add-zero, arith, take-append-drop}
use Rattle.std.proofs.lemmas.List.{drop_more, drop-drop}
use Rattle.std.proofs.lemmas.Bool.{ltb-false, eqb-true, and_parts}
use Rattle.std.proofs.lemmas.Nat.{div-mul-add, mod-mul-add, div-add-mod'}
use Rattle.network.specs.declared.refusal.Refusal.TheVariants.{CutShort, WrongMark, WrongVersion, CountOutOfRange}
use Rattle.map_format.specs.declared.heading.Heading.{Heading}
use Rattle.map_format.specs.declared.kind.Kind.{Kind}
use Rattle.map_format.specs.declared.kind.Kind.TheVariants.{Station as StationKind, Leg as LegKind, Notice as NoticeKind}
use Rattle.map_format.specs.Format.{Item, station, leg, notice, encode, encode_heading, mark_of, counts_fit, heading_of, leg_at, part, Bytes}
use Rattle.map_format.specs.Reading.{marked, version_one, read_heading, telling, whole_text, whole_record}
use Rattle.map_format.proofs.Records.{refused, whole_text_inv, whole_text_long, telling_inv, whole_leg_inv}

-- xs stands in the file from at + k on
abbrev Spells : List ℕ → ℕ → ℕ → List ℕ → Type 0
Spells file at k [] = Unit {0}
Spells file at k (x ∷ xs) = (get_or file (at + k) 0 ≡ x) × Spells file at (k + 1) xs

spelled : (file : List ℕ) (at k : ℕ) (xs : List ℕ) → at + k + length xs ≤ length file → Spells file at k xs → drop (at + k) file ≡ xs ++ drop (at + (k + length xs)) file
spelled file at k [] h s = let e : at + k ≡ at + (k + 0) = omega arith in ap (λ n. drop n file) e
spelled file at k (x ∷ xs) h s =
    let a : at + k + 1 ≡ at + (k + 1) = omega arith in
    let b : at + (k + 1 + length xs) ≡ at + (k + suc (length xs)) = omega arith in
    drop_more file (at + k) 0 (omega arith)
    ∙ ap (λ n. n ∷ drop (at + k + 1) file) s.0
    ∙ ap (λ n. x ∷ drop n file) a
    ∙ ap (λ (l : List ℕ). x ∷ l) (spelled file at (k + 1) xs (omega arith) s.1)
    ∙ ap (λ n. x ∷ xs ++ drop n file) b

-- the same from an offset on
pub spells : (file : List ℕ) (at : ℕ) (xs : List ℕ) → at + length xs ≤ length file → Spells file at 0 xs → drop at file ≡ xs ++ drop (at + length xs) file
spells file at xs h s =
    let a : at ≡ at + 0 = omega arith in
    let b : at + (0 + length xs) ≡ at + length xs = omega arith in
    ap (λ n. drop n file) a ∙ spelled file at 0 xs (omega arith) s ∙ ap (λ n. xs ++ drop n file) b

-- ---- one record

text_encodes : (file : List ℕ) (at mark : ℕ) (q : List ℕ × ℕ) → at < length file → get_or file at 0 ≡ mark → whole_text file at ≡ Some q → drop at file ≡ mark ∷ length q.0 ∷ q.0 ++ drop q.1 file
text_encodes file at mark q h marked e =
    let w = whole_text_inv file at q e in
    let n = get_or file (at + 1) 0 in
    let long = whole_text_long file at q e in
    let first : get_or file (at + 0) 0 ≡ mark = ap (λ k. get_or file k 0) (add-zero at) ∙ marked in
    spells file at (mark ∷ length q.0 ∷ []) (omega (arith, w.1, w.2)) (first, (sym long, tt))
    ∙ ap (λ (l : List ℕ). mark ∷ length q.0 ∷ l) (sym (take-append-drop n (drop (at + 2) file)))
    ∙ ap (λ (l : List ℕ). mark ∷ length q.0 ∷ part file (at + 2) n ++ l) (drop-drop n (at + 2) file ∙ ap (λ k. drop k file) (sym w.1))
    ∙ ap (λ (l : List ℕ). mark ∷ length q.0 ∷ l ++ drop q.1 file) (sym w.0)

-- the two bytes of a number, and back
pub word_high : (a b : ℕ) → b < 256 → (256 * a + b) / 256 ≡ a
word_high a b h = let e : 256 * a + b ≡ a * 256 + b = omega arith in ap (λ n. n / 256) e ∙ div-mul-add a 256 b h

pub word_low : (a b : ℕ) → b < 256 → (256 * a + b) % 256 ≡ b
word_low a b h = let e : 256 * a + b ≡ a * 256 + b = omega arith in ap (λ n. n % 256) e ∙ mod-mul-add a 256 b h

pub word_back : (n : ℕ) → 256 * (n / 256) + n % 256 ≡ n
word_back n = omega (arith, div-add-mod' n 256)

leg_encodes : (file : List ℕ) (at : ℕ) → Bytes file → at + 7 ≤ length file → get_or file at 0 ≡ 0x4C → drop at file ≡ encode (leg (leg_at file at)) ++ drop (at + 7) file
leg_encodes file at small h e =
    let first : get_or file (at + 0) 0 ≡ 0x4C = ap (λ k. get_or file k 0) (add-zero at) ∙ e in
    let next : at + 4 ≡ at + 3 + 1 = omega arith in
    let high = word_high (get_or file (at + 3) 0) (get_or file (at + 3 + 1) 0) (small (at + 3 + 1)) in
    let low = word_low (get_or file (at + 3) 0) (get_or file (at + 3 + 1) 0) (small (at + 3 + 1)) in
    spells file at (encode (leg (leg_at file at))) h
    (first, (refl, (refl, (sym high, (ap (λ k. get_or file k 0) next ∙ sym low, (refl, (refl, tt)))))))

telling_encodes : (file : List ℕ) (at mark : ℕ) (f : List ℕ → Item) (p : Item × ℕ) → ((t : List ℕ) → encode (f t) ≡ mark ∷ length t ∷ t) → at < length file → get_or file at 0 ≡ mark → telling f (whole_text file at) ≡ Some p → drop at file ≡ encode p.0 ++ drop p.1 file
telling_encodes file at mark f p is h marked e =
    let i = telling_inv f (whole_text file at) p e in
    text_encodes file at mark i.0 h marked i.1
    ∙ ap (λ (l : List ℕ). l ++ drop i.0.1 file) (sym (is i.0.0) ∙ ap encode (sym i.2))
    ∙ ap (λ k. encode p.0 ++ drop k file) (sym i.3)

-- a whole record is its encoding
pub whole_encodes : (kind : Kind) (file : List ℕ) (at : ℕ) (p : Item × ℕ) → Bytes file → at < length file → get_or file at 0 ≡ mark_of kind → whole_record kind file at ≡ Some p → drop at file ≡ encode p.0 ++ drop p.1 file
whole_encodes StationKind file at p small h marked e = telling_encodes file at 0x53 station p (λ t. refl) h marked e
whole_encodes NoticeKind file at p small h marked e = telling_encodes file at 0x4E notice p (λ t. refl) h marked e
whole_encodes LegKind file at p small h marked e =
    let w = whole_leg_inv file at p e in
    leg_encodes file at small w.0 marked ∙ ap (λ (q : Item × ℕ). encode q.0 ++ drop q.1 file) w.1

-- ---- the heading

pub record Headed (file : List ℕ) (h : Heading) : Type 0 where
  pub long : 8 ≤ length file
  pub counts : counts_fit h ≡ true
  pub whole : Bytes file → file ≡ encode_heading h ++ drop 8 file

headed_by : (short marked version counts : Bool) (h k : Heading) → cond short (Err CutShort) (cond marked (cond version (cond counts (Ok k) (Err CountOutOfRange)) (Err WrongVersion)) (Err WrongMark)) ≡ Ok h → (short ≡ false) × (marked ≡ true) × (version ≡ true) × (counts ≡ true) × (k ≡ h)
headed_by true m v c h k e = absurd (refused CutShort h e)
headed_by false false v c h k e = absurd (refused WrongMark h e)
headed_by false true false c h k e = absurd (refused WrongVersion h e)
headed_by false true true false h k e = absurd (refused CountOutOfRange h e)
headed_by false true true true h k e = let same : k ≡ h = cc in (refl, refl, refl, refl, same)

pub heading_inv : (file : List ℕ) (h : Heading) → read_heading file ≡ Ok h → Headed file h
heading_inv file h e =
    let i = headed_by (ltb (length file) 8) (marked file) (version_one file) (counts_fit (heading_of file)) h (heading_of file) e in
    let long : 8 ≤ length file = ltb-false _ _ i.0 in
    let m = and_parts (eqb (get_or file 0 0) 0x4C) (eqb (get_or file 1 0) 0x50 && eqb (get_or file 2 0) 0x4E) i.1 in
    let n = and_parts (eqb (get_or file 1 0) 0x50) (eqb (get_or file 2 0) 0x4E) m.1 in
    let v = and_parts (eqb (get_or file 3 0) 0) (eqb (get_or file 4 0) 1) i.2 in
    record {
      long = long;
      counts = ap counts_fit (sym i.4) ∙ i.3;
      whole = λ small.
          let high = word_high (get_or file 6 0) (get_or file 7 0) (small 7) in
          let low = word_low (get_or file 6 0) (get_or file 7 0) (small 7) in
          spells file 0 (encode_heading (heading_of file)) long
          (eqb-true _ _ m.0, (eqb-true _ _ n.0, (eqb-true _ _ n.1, (eqb-true _ _ v.0, (eqb-true _ _ v.1, (refl, (sym high, (sym low, tt))))))))
          ∙ ap (λ (k : Heading). encode_heading k ++ drop 8 file) i.4;
    }
