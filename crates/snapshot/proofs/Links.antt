-- The lists of arrivals, from the highest leg down.
use Rattle.std.proofs.Common.{◌≡◌, ℕ, suc, ◌<◌, ◌≤◌, ◌⊎◌, List, length, get_or, set, replicate, Some, None, Option, sym, ap, ◌∙◌, subst, inl, inr, arith}
use Rattle.std.proofs.lemmas.List.{get_or-replicate, get_or_past, get_or-set_same, get_or-set_other, length-replicate}
use Rattle.std.proofs.lemmas.Bool.{cases_eq, cases_lt}
use Rattle.network.specs.Meaning.{Meaning}
use Rattle.network.specs.declared.leg.Leg.{Leg}
use Rattle.snapshot.specs.Arrivals.{Arrives, FirstFrom, NextFrom, NextArrival}
use Rattle.snapshot.specs.Tables.{table_meaning, Linked}

-- a row of one value has it everywhere, where it is the default too
pub one_value : {X : Type 0} (n i : ℕ) (x : X) → get_or (replicate n x) i x ≡ x
one_value n i x = go (cases_lt i n)
  where
    go : (i < n) ⊎ (n ≤ i) → get_or (replicate n x) i x ≡ x
    go (inl h) = get_or-replicate n i x x h
    go (inr h) = get_or_past (replicate n x) i x (omega (arith, length-replicate n x))

module _ (m : Meaning) (u i : ℕ) where
  -- a leg that arrives is the lowest from its own number on
  first_hit : i < 512 → Arrives (m.at i) u → FirstFrom m u i (Some i)
  first_hit small a = record { from = omega arith; small = small; arrives = a; lowest = λ f h h' b. absurd (omega arith) }

  -- and the lowest is the same one number lower, where none arrives there
  first_miss : (Arrives (m.at i) u → ⊥) → (r : Option ℕ) → FirstFrom m u (suc i) r → FirstFrom m u i r
  first_miss none None above = λ e h a. go e h a (cases_eq e i)
    where
      go : (e : ℕ) → i ≤ e → Arrives (m.at e) u → (e ≡ i) ⊎ (e ≡ i → ⊥) → ⊥
      go e h a (inl same) = none (subst (λ k. Arrives (m.at k) u) same a)
      go e h a (inr apart) = above e (omega arith) a
  first_miss none (Some e) above = record {
    from = omega (arith, above.from);
    small = above.small;
    arrives = above.arrives;
    lowest = λ f h h' a. go f h h' a (cases_eq f i);
  }
    where
      go : (f : ℕ) → i ≤ f → f < e → Arrives (m.at f) u → (f ≡ i) ⊎ (f ≡ i → ⊥) → ⊥
      go f h h' a (inl same) = none (subst (λ k. Arrives (m.at k) u) same a)
      go f h h' a (inr apart) = above.lowest f (omega arith) h' a

pub linked_start : (legs : List (Option Leg)) → length legs ≡ 512 → Linked legs 512 (replicate 64 None) (replicate 512 None)
linked_start legs long = record {
  firsts = λ s c u. subst (FirstFrom (table_meaning s c legs) u 512) (sym (one_value 64 u None)) (λ e h a. subst (λ (o : Option Leg). Arrives o u) (get_or_past legs e None (omega arith)) a);
  nexts = λ s c e h. subst (λ (o : Option Leg). NextFrom (table_meaning s c legs) e o (get_or (replicate 512 None) e None)) (sym (get_or_past legs e None (omega arith))) (one_value 512 e None);
  rest = λ e h. one_value 512 e None;
}

module _ (legs : List (Option Leg)) (i : ℕ) (first next : List (Option ℕ)) (inside : i < 512) (above : Linked legs (suc i) first next) where
  -- where nothing is at the number, the lists stay
  pub linked_none : get_or legs i None ≡ None → Linked legs i first next
  linked_none e = record {
    firsts = λ s c u. first_miss (table_meaning s c legs) u i (subst (λ (o : Option Leg). Arrives o u → ⊥) (sym e) (λ a. a)) (get_or first u None) (above.firsts s c u);
    nexts = λ s c f h. at s c f h (cases_eq f i);
    rest = λ f h. above.rest f (omega arith);
  }
    where
      at : (s c f : ℕ) → i ≤ f → (f ≡ i) ⊎ (f ≡ i → ⊥) → NextArrival (table_meaning s c legs) f (get_or next f None)
      at s c f h (inl same) =
          subst (λ (o : Option Leg). NextFrom (table_meaning s c legs) f o (get_or next f None)) (sym (ap (λ k. get_or legs k None) same ∙ e)) (above.rest f (omega arith))
      at s c f h (inr apart) = above.nexts s c f (omega arith)

  -- a leg goes before the list of its station
  pub linked_some : (l : Leg) → get_or legs i None ≡ Some l → l.to < length first → i < length next → Linked legs i (set first l.to (Some i)) (set next i (get_or first l.to None))
  linked_some l e reach wide = record {
    firsts = λ s c u. head s c u (cases_eq u l.to);
    nexts = λ s c f h. at s c f h (cases_eq f i);
    rest = λ f h. get_or-set_other next i f (get_or first l.to None) None (omega arith) ∙ above.rest f (omega arith);
  }
    where
      head : (s c u : ℕ) → (u ≡ l.to) ⊎ (u ≡ l.to → ⊥) → FirstFrom (table_meaning s c legs) u i (get_or (set first l.to (Some i)) u None)
      head s c u (inl same) =
          subst (FirstFrom (table_meaning s c legs) u i) (sym (ap (λ k. get_or (set first l.to (Some i)) k None) same ∙ get_or-set_same first l.to (Some i) None reach))
          (first_hit (table_meaning s c legs) u i inside (subst (λ (o : Option Leg). Arrives o u) (sym e) (sym same)))
      head s c u (inr apart) =
          subst (FirstFrom (table_meaning s c legs) u i) (sym (get_or-set_other first l.to u (Some i) None apart))
          (first_miss (table_meaning s c legs) u i (subst (λ (o : Option Leg). Arrives o u → ⊥) (sym e) (λ a. apart (sym a))) (get_or first u None) (above.firsts s c u))

      at : (s c f : ℕ) → i ≤ f → (f ≡ i) ⊎ (f ≡ i → ⊥) → NextArrival (table_meaning s c legs) f (get_or (set next i (get_or first l.to None)) f None)
      at s c f h (inl same) =
          subst (λ k. NextArrival (table_meaning s c legs) k (get_or (set next i (get_or first l.to None)) k None)) (sym same)
          (subst (NextArrival (table_meaning s c legs) i) (sym (get_or-set_same next i (get_or first l.to None) None wide))
          (subst (λ (o : Option Leg). NextFrom (table_meaning s c legs) i o (get_or first l.to None)) (sym e) (above.firsts s c l.to)))
      at s c f h (inr apart) =
          subst (NextArrival (table_meaning s c legs) f) (sym (get_or-set_other next i f (get_or first l.to None) None apart))
          (above.nexts s c f (omega arith))
