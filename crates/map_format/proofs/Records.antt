-- What a record that was read tells of the file.
use Rattle.std.proofs.Common.{◌≡◌, ℕ, ◌+◌, ◌<◌, ◌≤◌, Bool, true, false, cond, eqb, ltb, leb, ◌⊎◌, List, length, get_or, drop, Some, None, Ok, Err, Option, Result, sym, refl, ap, ◌∙◌, subst, inl, inr, ⊎_elim, arith, length-drop}
use Rattle.std.proofs.lemmas.List.{length-take-le}
use Rattle.std.proofs.lemmas.Bool.{cases_Bool, leb-false, ltb-false, eqb-true, cond-true, cond-false}
use Rattle.network.specs.Shown.{nothing}
use Rattle.network.specs.declared.refusal.Refusal.TheVariants.{CutShort, WrongKind, FieldOutOfRange}
use Rattle.map_format.specs.declared.kind.Kind.{Kind}
use Rattle.map_format.specs.declared.kind.Kind.TheVariants.{Station as StationKind, Leg as LegKind, Notice as NoticeKind}
use Rattle.map_format.specs.Format.{Item, station, leg, notice, mark_of, size, fits, leg_at, part}
use Rattle.map_format.specs.Reading.{whole_text, whole_record, telling, in_range, due_record}

pub refused : {X Y : Type 0} (y : Y) (x : X) → ◌≡◌ {A = Result X Y} (Err y) (Ok x) → ⊥
refused y x e = cc

-- a record that was read has its kind byte, is whole, and its fields fit
pub record Due (s : ℕ) (kind : Kind) (file : List ℕ) (at : ℕ) (p : Item × ℕ) : Type 0 where
  pub inside : at < length file
  pub marked : get_or file at 0 ≡ mark_of kind
  pub whole : whole_record kind file at ≡ Some p
  pub fit : fits s p.0 ≡ true

in_range_inv : (s : ℕ) (o : Option (Item × ℕ)) (p : Item × ℕ) → in_range s o ≡ Ok p → (o ≡ Some p) × (fits s p.0 ≡ true)
in_range_inv s None p e = absurd (refused CutShort p e)
in_range_inv s (Some q) p e =
    ⊎_elim
    (λ t. let same : Ok q ≡ Ok p = sym (cond-true (fits s q.0) (Ok q) (Err FieldOutOfRange) t) ∙ e in
    let r : q ≡ p = cc in (ap Some r, ap (λ (x : Item × ℕ). fits s x.0) (sym r) ∙ t))
    (λ t. absurd (refused FieldOutOfRange p (sym (cond-false (fits s q.0) (Ok q) (Err FieldOutOfRange) t) ∙ e)))
    (cases_Bool (fits s q.0))

due_inv_by : (s : ℕ) (a b : Bool) (o : Option (Item × ℕ)) (p : Item × ℕ) → cond a (Err CutShort) (cond b (in_range s o) (Err WrongKind)) ≡ Ok p → (a ≡ false) × (b ≡ true) × (in_range s o ≡ Ok p)
due_inv_by s true b o p e = absurd (refused CutShort p e)
due_inv_by s false false o p e = absurd (refused WrongKind p e)
due_inv_by s false true o p e = (refl, refl, e)

pub due_inv : (s : ℕ) (kind : Kind) (file : List ℕ) (at : ℕ) (p : Item × ℕ) → due_record s kind file at ≡ Ok p → Due s kind file at p
due_inv s kind file at p e =
    let h = due_inv_by s (leb (length file) at) (eqb (get_or file at 0) (mark_of kind)) (whole_record kind file at) p e in
    let w = in_range_inv s (whole_record kind file at) p h.2 in
    record { inside = leb-false _ _ h.0; marked = eqb-true _ _ h.1; whole = w.0; fit = w.1 }

-- the text of a whole record, and where it ends
pub whole_text_inv : (file : List ℕ) (at : ℕ) (q : List ℕ × ℕ) → whole_text file at ≡ Some q → (q.0 ≡ part file (at + 2) (get_or file (at + 1) 0)) × (q.1 ≡ at + 2 + get_or file (at + 1) 0) × (q.1 ≤ length file)
whole_text_inv file at q e = go (cases_Bool (ltb (length file) (at + 2 + get_or file (at + 1) 0)))
  where
    go : (ltb (length file) (at + 2 + get_or file (at + 1) 0) ≡ true) ⊎ (ltb (length file) (at + 2 + get_or file (at + 1) 0) ≡ false) → (q.0 ≡ part file (at + 2) (get_or file (at + 1) 0)) × (q.1 ≡ at + 2 + get_or file (at + 1) 0) × (q.1 ≤ length file)
    go (inl t) = absurd (nothing q (rw t at e))
    go (inr t) =
        let same : Some (part file (at + 2) (get_or file (at + 1) 0), at + 2 + get_or file (at + 1) 0) ≡ Some q = rw t at e in
        let a : part file (at + 2) (get_or file (at + 1) 0) ≡ q.0 = cc in
        let b : at + 2 + get_or file (at + 1) 0 ≡ q.1 = cc in
        (sym a, sym b, omega (arith, ltb-false _ _ t))

pub whole_text_long : (file : List ℕ) (at : ℕ) (q : List ℕ × ℕ) → whole_text file at ≡ Some q → length q.0 ≡ get_or file (at + 1) 0
whole_text_long file at q e =
    let w = whole_text_inv file at q e in
    ap length w.0 ∙ length-take-le (get_or file (at + 1) 0) (drop (at + 2) file) (omega (arith, length-drop (at + 2) file, w.1, w.2))

pub telling_inv : (f : List ℕ → Item) (o : Option (List ℕ × ℕ)) (p : Item × ℕ) → telling f o ≡ Some p → (q : List ℕ × ℕ) × (o ≡ Some q) × (p.0 ≡ f q.0) × (p.1 ≡ q.1)
telling_inv f None p e = absurd (nothing p e)
telling_inv f (Some q) p e = let a : p.0 ≡ f q.0 = cc in let b : p.1 ≡ q.1 = cc in (q, refl, a, b)

pub whole_leg_inv : (file : List ℕ) (at : ℕ) (p : Item × ℕ) → whole_record LegKind file at ≡ Some p → (at + 7 ≤ length file) × ((leg (leg_at file at), at + 7) ≡ p)
whole_leg_inv file at p e = go (cases_Bool (ltb (length file) (at + 7)))
  where
    go : (ltb (length file) (at + 7) ≡ true) ⊎ (ltb (length file) (at + 7) ≡ false) → (at + 7 ≤ length file) × ((leg (leg_at file at), at + 7) ≡ p)
    go (inl t) = absurd (nothing p (rw t at e))
    go (inr t) =
        let same : Some (leg (leg_at file at), at + 7) ≡ Some p = rw t at e in
        let b : (leg (leg_at file at), at + 7) ≡ p = cc in
        (ltb-false _ _ t, b)

-- where a whole record ends
text_size : (f : List ℕ → Item) (file : List ℕ) (at : ℕ) (p : Item × ℕ) → ((t : List ℕ) → size (f t) ≡ 2 + length t) → telling f (whole_text file at) ≡ Some p → (at + size p.0 ≡ p.1) × (p.1 ≤ length file)
text_size f file at p is e =
    let q = telling_inv f (whole_text file at) p e in
    let w = whole_text_inv file at q.0 q.1 in
    let long = whole_text_long file at q.0 q.1 in
    let s : size p.0 ≡ 2 + length q.0.0 = ap size q.2 ∙ is q.0.0 in
    (omega (arith, q.3, w.1), omega (arith, q.3, w.2))

pub whole_size : (kind : Kind) (file : List ℕ) (at : ℕ) (p : Item × ℕ) → whole_record kind file at ≡ Some p → (at + size p.0 ≡ p.1) × (p.1 ≤ length file)
whole_size StationKind file at p e = text_size station file at p (λ t. omega arith) e
whole_size NoticeKind file at p e = text_size notice file at p (λ t. omega arith) e
whole_size LegKind file at p e =
    let w = whole_leg_inv file at p e in
    let end : at + 7 ≡ p.1 = ap (λ (q : Item × ℕ). q.1) w.1 in
    (subst (λ (q : Item × ℕ). at + size q.0 ≡ q.1) w.1 refl, omega (arith, w.0))

-- every record has two bytes at least
size_low : (x : Item) → 2 ≤ size x
size_low (station name) = omega arith
size_low (leg l) = omega arith
size_low (notice text) = omega arith

pub whole_bounds : (kind : Kind) (file : List ℕ) (at : ℕ) (p : Item × ℕ) → whole_record kind file at ≡ Some p → (at + 2 ≤ p.1) × (p.1 ≤ length file)
whole_bounds kind file at p e = let w = whole_size kind file at p e in (omega (arith, w.0, size_low p.0), w.1)
