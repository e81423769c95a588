-- The legs of a network, copied one after the other.
use Rattle.std.proofs.Common.{◌≡◌, ℕ, ◌+◌, ◌<◌, ◌≤◌, Bool, true, cond, ltb, leb, ◌⊎◌, List, length, get_or, set, replicate, Some, None, Option, sym, refl, ap, ◌∙◌, inl, inr, arith}
use Rattle.std.proofs.lemmas.List.{get_or-set_same, get_or-set_other}
use Rattle.std.proofs.lemmas.Bool.{cases_eq, cases_lt, lt-ltb, le-ltb, le-leb, cond-true, cond-false, and_from}
use Rattle.network.specs.Meaning.{Meaning, Sound, LegFits}
use Rattle.network.specs.declared.leg.Leg.{Leg}
use Rattle.snapshot.specs.Tables.{table_meaning, Copied, Bounded, none_or_fits}
use Rattle.snapshot.proofs.Links.{one_value}

-- the legs below n are copied, and the others not yet
abbrev pub CopiedTo : Meaning → ℕ → List (Option Leg) → Type 0
CopiedTo m n legs = (i : ℕ) → get_or legs i None ≡ cond (ltb i n) (m.at i) None

pub copied_none : (m : Meaning) → CopiedTo m 0 (replicate 512 None)
copied_none m i = one_value 512 i None ∙ sym (cond-false (ltb i 0) (m.at i) None (le-ltb i 0 (omega arith)))

pub copied_more : (m : Meaning) (n : ℕ) (legs : List (Option Leg)) (o : Option Leg) → n < length legs → o ≡ m.at n → CopiedTo m n legs → CopiedTo m (n + 1) (set legs n o)
copied_more m n legs o inside e below i = go (cases_eq i n)
  where
    same_test : (i ≡ n → ⊥) → ltb i n ≡ ltb i (n + 1)
    same_test apart = by (cases_lt i n)
      where
        by : (i < n) ⊎ (n ≤ i) → ltb i n ≡ ltb i (n + 1)
        by (inl h) = lt-ltb i n h ∙ sym (lt-ltb i (n + 1) (omega arith))
        by (inr h) = le-ltb i n h ∙ sym (le-ltb i (n + 1) (omega arith))

    go : (i ≡ n) ⊎ (i ≡ n → ⊥) → get_or (set legs n o) i None ≡ cond (ltb i (n + 1)) (m.at i) None
    go (inl same) =
        ap (λ k. get_or (set legs n o) k None) same
        ∙ get_or-set_same legs n o None inside
        ∙ e
        ∙ ap m.at (sym same)
        ∙ sym (cond-true (ltb i (n + 1)) (m.at i) None (lt-ltb i (n + 1) (omega arith)))
    go (inr apart) =
        get_or-set_other legs n i o None apart
        ∙ below i
        ∙ ap (λ (b : Bool). cond b (m.at i) None) (same_test apart)

pub copied_all : (m : Meaning) (n : ℕ) (legs : List (Option Leg)) → Sound m → m.legs ≤ n → CopiedTo m n legs → Copied m legs
copied_all m n legs s past below i = below i ∙ go (cases_lt i n)
  where
    go : (i < n) ⊎ (n ≤ i) → cond (ltb i n) (m.at i) None ≡ m.at i
    go (inl h) = cond-true (ltb i n) (m.at i) None (lt-ltb i n h)
    go (inr h) = cond-false (ltb i n) (m.at i) None (le-ltb i n h) ∙ sym (s.past i (omega arith))

-- what a sound network shows is in range
pub shown_fits : (s : ℕ) (o : Option Leg) → ((l : Leg) → o ≡ Some l → LegFits s l) → none_or_fits s o ≡ true
shown_fits s None f = refl
shown_fits s (Some l) f =
    let fit : LegFits s l = f l refl in
    and_from (ltb l.from s) _ (lt-ltb l.from s fit.from_fits)
    (and_from (ltb l.to s) _ (lt-ltb l.to s fit.to_fits)
    (and_from (leb 1 l.seconds) _ (le-leb 1 l.seconds fit.figures.seconds_low)
    (and_from (leb l.seconds 43200) _ (le-leb l.seconds 43200 fit.figures.seconds_high)
    (and_from (leb l.points 99) (leb l.grade 3) (le-leb l.points 99 fit.figures.points_high) (le-leb l.grade 3 fit.figures.grade_high)))))

pub bounded : (m : Meaning) (legs : List (Option Leg)) → Sound m → Copied m legs → Bounded legs
bounded m legs s copied e l h = omega (arith, s.stations_high, (s.fits e l (sym (copied e) ∙ h)).to_fits)
