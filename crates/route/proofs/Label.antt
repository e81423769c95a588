-- Phase 2, a step at a time: from the goal's label to a labelling.
use Rattle.std.proofs.Common.{◌≡◌, ℕ, zero, suc, ◌≤◌, ◌⊎◌, sym, ap, ◌∙◌, subst, inl, inr, arith}
use Rattle.network.specs.declared.leg.Leg.{Leg}
use Rattle.network.specs.Meaning.{Meaning, Sound}
use Rattle.cost.specs.Costs.{Costs, Laws}
use Rattle.route.specs.Routes.{Bars}
use Rattle.route.specs.Certificate.{Tight, Labelling}
use Rattle.route.specs.Progress.{Put, Handled, LabellingTo}
use Rattle.route.proofs.Certify.{over_stands}
use Rattle.route.proofs.Settle.{either, put_cases, same_leg, shown_below, handled_more}
use Rattle.std.proofs.lemmas.Bool.{cases_eq, cases_lt}

module _ {C : Type 0} (k : Costs C) (m : Meaning) (b : Bars) (goal : ℕ) (D : ℕ → C) where
  -- only the goal has a label
  pub label_none : (hops first : ℕ → ℕ) → hops goal ≡ 0 → ((v : ℕ) → (v ≡ goal → ⊥) → 64 ≤ hops v) → LabellingTo k m b goal 0 0 D hops first
  label_none hops first gh far = record {
    goal_hops = gh;
    so_far = λ v h. omega (arith, home v h);
    newest = λ v h e. absurd (omega (arith, home v h));
    step = λ v ne h. absurd (omega (arith, far v ne));
    fewest = λ e l t d. absurd (omega arith);
    lowest = λ e l t d h. absurd (omega arith);
  }
    where
      home : (v : ℕ) → hops v ≤ 63 → hops v ≡ 0
      home v h = either (cases_eq v goal) (λ e. ap hops e ∙ gh) (λ ne. absurd (omega (arith, far v ne)))

  -- a leg is passed over: it is of no use, does not end at a label h, is not tight, or its start has a label
  pub label_skip : (h i : ℕ) (hops first : ℕ → ℕ) → LabellingTo k m b goal h i D hops first → ((l : Leg) → Tight k m b D i l → hops l.to ≡ h → hops l.from ≤ 63) → LabellingTo k m b goal h (suc i) D hops first
  label_skip h i hops first p skip = record {
    goal_hops = p.goal_hops;
    so_far = p.so_far;
    newest = λ v o e. omega (arith, p.newest v o e);
    step = p.step;
    fewest = λ e l t d.
        either (handled_more hops h i e l d) (λ x. p.fewest e l t x)
        (λ x. omega (arith, p.so_far l.from (had e l t x)));
    lowest = λ e l t d n.
        either (handled_more hops h i e l d) (λ x. p.lowest e l t x n)
        (λ x. omega (arith, p.newest l.from (had e l t x) (omega arith)));
  }
    where
      had : (e : ℕ) (l : Leg) → Tight k m b D e l → (e ≡ i) × (hops l.to ≡ h) → hops l.from ≤ 63
      had e l t x = skip l (rw x.0 at t) x.1

  -- a tight leg to a label h, from a station with none
  module _ (h i : ℕ) (hops hops' first first' : ℕ → ℕ) (l : Leg) where
    pub label_more : LabellingTo k m b goal h i D hops first → Tight k m b D i l → hops l.to ≡ h → h ≤ 62 → 64 ≤ hops l.from → Put hops hops' l.from (suc h) → Put first first' l.from i → LabellingTo k m b goal h (suc i) D hops' first'
    label_more p t hw hh far ph pf = record {
      goal_hops = kept goal (omega (arith, p.goal_hops)) ∙ p.goal_hops;
      so_far = λ v o. either (at v) (λ x. omega arith) (λ x. omega (arith, p.so_far v (omega arith)));
      newest = λ v o e.
          either (at v) (λ x. omega (arith, ap first' x.0, pf.here))
          (λ x. omega (arith, pf.elsewhere v x.0, p.newest v (omega arith) (omega arith)));
      step = λ v ne o. either (at v)
          (λ x. (l, subst (λ y. Tight k m b D y l) (sym (ap first' x.0 ∙ pf.here)) t, sym x.0, omega (arith, kept l.to (omega arith))))
          (λ x.
          let (l', t', f, n) = p.step v ne (omega arith) in
          (l', subst (λ y. Tight k m b D y l') (sym (pf.elsewhere v x.0)) t', f, omega (arith, kept l'.to (omega arith))));
      fewest = λ e l' t' d.
          let same : hops' l'.to ≡ hops l'.to = (handled e l' d).0 in
          either (handled_more hops h i e l' (handled e l' d).1)
          (λ x. omega (arith, p.fewest e l' t' x, kept l'.from (short e l' t' x)))
          (λ x. omega (arith, ap (λ z. hops' z.from) (this e l' t' x.0), ph.here));
      lowest = λ e l' t' d n.
          let same : hops' l'.to ≡ hops l'.to = (handled e l' d).0 in
          either (handled_more hops h i e l' (handled e l' d).1)
          (λ x.
          let few : hops l'.from ≤ 63 = short e l' t' x in
          omega (arith, pf.elsewhere l'.from (other l'.from few), p.lowest e l' t' x (omega (arith, kept l'.from few))))
          (λ x. omega (arith, ap (λ z. first' z.from) (this e l' t' x.0), pf.here));
    }
      where
        at : (y : ℕ) → ((y ≡ l.from) × (hops' y ≡ suc h)) ⊎ ((y ≡ l.from → ⊥) × (hops' y ≡ hops y))
        at y = put_cases hops hops' l.from (suc h) ph y

        other : (y : ℕ) → hops y ≤ 63 → y ≡ l.from → ⊥
        other y o e = omega (arith, ap hops e)

        kept : (y : ℕ) → hops y ≤ 63 → hops' y ≡ hops y
        kept y o = ph.elsewhere y (other y o)

        this : (e : ℕ) (l' : Leg) → Tight k m b D e l' → e ≡ i → l' ≡ l
        this e l' t' x = same_leg m i l' l (ap m.at (sym x) ∙ t'.usable.shown) t.usable.shown

        handled : (e : ℕ) (l' : Leg) → Handled hops' h (suc i) e l' → (hops' l'.to ≡ hops l'.to) × Handled hops h (suc i) e l'
        handled e l' d = either (at l'.to) (λ x. absurd (omega arith)) (λ x. (x.1, either d (λ y. inl (omega arith)) (λ y. inr (omega arith, y.1))))

        short : (e : ℕ) (l' : Leg) → Tight k m b D e l' → Handled hops h i e l' → hops l'.from ≤ 63
        short e l' t' d = omega (arith, p.fewest e l' t' d)

  module _ (sound : Sound m) (h : ℕ) (hops first : ℕ → ℕ) where
    -- the next round
    pub label_round : LabellingTo k m b goal h m.legs D hops first → LabellingTo k m b goal (suc h) 0 D hops first
    label_round p = record {
      goal_hops = p.goal_hops;
      so_far = λ v o. omega (arith, p.so_far v o);
      newest = λ v o e. absurd (omega (arith, p.so_far v o));
      step = p.step;
      fewest = λ e l t d. p.fewest e l t (handled e l t d);
      lowest = λ e l t d n. p.lowest e l t (handled e l t d) n;
    }
      where
        handled : (e : ℕ) (l : Leg) → Tight k m b D e l → Handled hops (suc h) 0 e l → Handled hops h m.legs e l
        handled e l t d = either (cases_lt (hops l.to) h) (λ x. inl x) (λ x. inr (omega arith, shown_below m sound e l t.usable.shown))

    -- a round that gave no label is the last
    pub label_early : LabellingTo k m b goal h m.legs D hops first → ((v : ℕ) → hops v ≤ 63 → hops v ≡ suc h → ⊥) → Labelling k m b goal D hops first
    label_early p none = record {
      goal_hops = p.goal_hops;
      step = p.step;
      fewest = λ e l t o. p.fewest e l t (handled e l t o);
      lowest = λ e l t o n. p.lowest e l t (handled e l t o) n;
    }
      where
        handled : (e : ℕ) (l : Leg) → Tight k m b D e l → hops l.to ≤ 62 → Handled hops h m.legs e l
        handled e l t o =
            either (cases_lt (hops l.to) h) (λ x. inl x)
            (λ x. either (cases_eq (hops l.to) h) (λ y. inr (y, shown_below m sound e l t.usable.shown))
            (λ y. absurd (none l.to (omega arith) (omega (arith, p.so_far l.to (omega arith))))))

  -- the rounds 0 to 62 are done
  pub label_all : (hops first : ℕ → ℕ) → LabellingTo k m b goal 63 0 D hops first → Labelling k m b goal D hops first
  label_all hops first p = record {
    goal_hops = p.goal_hops;
    step = p.step;
    fewest = λ e l t o. p.fewest e l t (inl (omega arith));
    lowest = λ e l t o n. p.lowest e l t (inl (omega arith)) n;
  }

  -- the cost of a station with a label stands for as many legs
  pub label_stands : Laws k → Sound m → (h i : ℕ) (hops first : ℕ → ℕ) → LabellingTo k m b goal h i D hops first → D goal ≡ k.zero → (n v : ℕ) → hops v ≡ n → n ≤ 63 → k.stands (D v) n
  label_stands laws sound h i hops first p gc zero v e o =
      either (cases_eq v goal) (λ x. subst (λ y. k.stands y 0) (sym (ap D x ∙ gc)) laws.stands_zero)
      (λ ne. let (l, t, f, n) = p.step v ne (omega arith) in absurd (omega arith))
  label_stands laws sound h i hops first p gc (suc n) v e o =
      let ne : v ≡ goal → ⊥ = λ x. away x in
      let (l, t, f, n') = p.step v ne (omega arith) in
      subst (λ y. k.stands y (suc n)) (sym t.gives ∙ ap D f)
      (over_stands k laws m sound b (first v) l t.usable (D l.to) n (label_stands laws sound h i hops first p gc n l.to (omega arith) (omega arith)) (omega arith))
    where
      away : v ≡ goal → ⊥
      away x = omega (arith, ap hops x, p.goal_hops)
