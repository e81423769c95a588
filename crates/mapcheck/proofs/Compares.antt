-- Where two lists differ first.
use Rattle.std.proofs.Common.{◌≡◌, ℕ, suc, ◌≤◌, min, Bool, true, false, not, eqb, ltb, ◌⊎◌, List, [], ◌∷◌, length, take, Some, None, Option, sym, subst, refl, ap, ◌∙◌, inl, inr, arith}
use Rattle.std.proofs.lemmas.Bool.{cases_Bool, eqb-true, eq-eqb, ltb-true, ltb-false, not-false}
use Rattle.std.proofs.lemmas.Option.{slice_get_past}
use Rattle.std.proofs.lemmas.Slice.Zip.{length-zip}
use Rattle.std.specs.Bool.{then_some}
use Rattle.std.specs.Option.{option_or}
use Rattle.std.specs.List.{slice_get, zip, position, position_or_len}
use Rattle.mapcheck.specs.Differences.{Compared}

abbrev pub differs : ℕ × ℕ → Bool
differs p = not (eqb p.0 p.1)

-- the first place at which both go on and differ, or the end of the shorter one
abbrev place : List ℕ → List ℕ → ℕ
place a b = position_or_len differs (zip a b)

place_yes : (x y : ℕ) (a b : List ℕ) → eqb x y ≡ true → place (x ∷ a) (y ∷ b) ≡ suc (place a b)
place_yes x y a b t = rw t (omega arith)

place_no : (x y : ℕ) (a b : List ℕ) → eqb x y ≡ false → place (x ∷ a) (y ∷ b) ≡ 0
place_no x y a b t = rw t refl

alike : (a b : List ℕ) → take (place a b) a ≡ take (place a b) b
alike [] [] = refl
alike [] (y ∷ b) = refl
alike (x ∷ a) [] = refl
alike (x ∷ a) (y ∷ b) = go (cases_Bool (eqb x y)) (alike a b)
  where
    go : (eqb x y ≡ true) ⊎ (eqb x y ≡ false) → take (place a b) a ≡ take (place a b) b → take (place (x ∷ a) (y ∷ b)) (x ∷ a) ≡ take (place (x ∷ a) (y ∷ b)) (y ∷ b)
    go (inl t) behind = subst (λ n. take n (x ∷ a) ≡ take n (y ∷ b)) (sym (place_yes x y a b t)) (λ i. eqb-true x y t i ∷ behind i)
    go (inr t) behind = subst (λ n. take n (x ∷ a) ≡ take n (y ∷ b)) (sym (place_no x y a b t)) refl

-- where they do not differ there either, they are the same
apart : (a b : List ℕ) → slice_get a (place a b) ≡ slice_get b (place a b) → a ≡ b
apart [] [] e = refl
apart [] (y ∷ b) e = absurd (let z : ◌≡◌ {A = ℕ} 0 1 = cc in omega arith)
apart (x ∷ a) [] e = absurd (let z : ◌≡◌ {A = ℕ} 0 1 = cc in omega arith)
apart (x ∷ a) (y ∷ b) e = go (cases_Bool (eqb x y)) (apart a b)
  where
    go : (eqb x y ≡ true) ⊎ (eqb x y ≡ false) → (slice_get a (place a b) ≡ slice_get b (place a b) → a ≡ b) → x ∷ a ≡ y ∷ b
    go (inl t) behind = λ i. eqb-true x y t i ∷ behind (subst (λ n. slice_get (x ∷ a) n ≡ slice_get (y ∷ b) n) (place_yes x y a b t) e) i
    go (inr t) behind =
        let first : Some x ≡ Some y = subst (λ n. slice_get (x ∷ a) n ≡ slice_get (y ∷ b) n) (place_no x y a b t) e in
        let same : x ≡ y = cc in
        let z : true ≡ false = sym (eq-eqb x y same) ∙ t in
        absurd (let k : ◌≡◌ {A = ℕ} 0 1 = cc in omega arith)

place_same : (a : List ℕ) → place a a ≡ length a
place_same [] = refl
place_same (x ∷ a) = place_yes x x a a (eq-eqb x x refl) ∙ ap suc (place_same a)

place_low : (a b : List ℕ) → place a b ≤ length (zip a b)
place_low [] b = omega arith
place_low (x ∷ a) [] = omega arith
place_low (x ∷ a) (y ∷ b) = go (cases_Bool (eqb x y)) (place_low a b)
  where
    go : (eqb x y ≡ true) ⊎ (eqb x y ≡ false) → place a b ≤ length (zip a b) → place (x ∷ a) (y ∷ b) ≤ length (zip (x ∷ a) (y ∷ b))
    go (inl t) low = omega (arith, place_yes x y a b t)
    go (inr t) low = omega (arith, place_no x y a b t)

module _ (a b : List ℕ) where
  differ_inside : (k : ℕ) → Some k ≡ position differs (zip a b) → Compared a b (Some k)
  differ_inside k e = go (cases_Bool (ltb (place a b) (length (zip a b))))
    where
      go : (ltb (place a b) (length (zip a b)) ≡ true) ⊎ (ltb (place a b) (length (zip a b)) ≡ false) → Compared a b (Some k)
      go (inl t) =
          let is : Some k ≡ Some (place a b) = rw t at e in
          let here : k ≡ place a b = cc in
          rw here (
            alike a b,
            λ same.
                let whole = ap (place a) (sym (apart a b same)) ∙ place_same a in
                omega (arith, ltb-true _ _ t, length-zip a b, whole),
          )
      go (inr t) = absurd (let none : Some k ≡ None = rw t at e in let z : ◌≡◌ {A = ℕ} 0 1 = cc in omega arith)

  -- no difference as long as both go on
  at_end : None ≡ position differs (zip a b) → place a b ≡ min (length a) (length b)
  at_end e = go (cases_Bool (ltb (place a b) (length (zip a b))))
    where
      go : (ltb (place a b) (length (zip a b)) ≡ true) ⊎ (ltb (place a b) (length (zip a b)) ≡ false) → place a b ≡ min (length a) (length b)
      go (inl t) = absurd (let none : None ≡ Some (place a b) = rw t at e in let z : ◌≡◌ {A = ℕ} 0 1 = cc in omega arith)
      go (inr t) = omega (arith, ltb-false _ _ t, place_low a b, length-zip a b)

  same_whole : None ≡ position differs (zip a b) → length a ≡ length b → Compared a b None
  same_whole e long =
      let end = at_end e in
      apart a b (slice_get_past a (place a b) (omega arith) ∙ sym (slice_get_past b (place a b) (omega arith)))

  differ_end : None ≡ position differs (zip a b) → (length a ≡ length b → ⊥) → Compared a b (Some (min (length a) (length b)))
  differ_end e long = rw (sym (at_end e)) (alike a b, λ same. long (ap length (apart a b same)))

  -- the first difference inside, or else the shorter end of two lengths
  pub compared : (found : Option ℕ) → found ≡ position differs (zip a b) → (ends : Bool) → ends ≡ not (eqb (length a) (length b)) → Compared a b (option_or found (then_some ends (min (length a) (length b))))
  compared (Some k) e ends is = differ_inside k e
  compared None e true is = differ_end e (λ same. let t = eq-eqb (length a) (length b) same in let z : true ≡ false = is ∙ ap not t in absurd (let k : ◌≡◌ {A = ℕ} 0 1 = cc in omega arith))
  compared None e false is = same_whole e (eqb-true _ _ (not-false (eqb (length a) (length b)) (sym is)))
