-- Phase 2, a step at a time: from the goal's label to a labelling.
use Rattle.std.proofs.Common.{◌≡◌, ℕ, zero, suc, ◌<◌, ◌≤◌, Bool, true, ◌⊎◌, sym, ap, ◌∙◌, subst, inl, inr, arith}
use Rattle.network.specs.declared.leg.Leg.{Leg}
use Rattle.network.specs.Meaning.{Meaning, Sound}
use Rattle.cost.specs.Costs.{Costs, Laws}
use Rattle.route.specs.Routes.{Bars}
use Rattle.route.specs.Certificate.{Tight, Settling, Labelling}
use Rattle.route.specs.Labels.{Reached, LabellingAlong}
use Rattle.route.specs.Progress.{Put}
use Rattle.route.proofs.Certify.{over_stands}
use Rattle.route.proofs.Counting.{room_left, room_most}
use Rattle.route.proofs.Settle.{either, put_cases, same_leg, shown_below}
use Rattle.std.proofs.lemmas.Bool.{cases_eq, cases_lt}

-- the legs looked at up to j, where those from i on are told apart
reached_to : (line : ℕ → ℕ) (c i j e : ℕ) (l : Leg) → Reached line c j e l → Reached line c i e l ⊎ ((i ≤ e) × (e < j) × (line c ≡ l.to))
reached_to line c i j e l (at, is, where') =
    either where' (λ x. inl (at, is, inl x))
    (λ x. either (cases_lt e i) (λ y. inl (at, is, inr (x.0, y))) (λ y. inr (y, x.1, ap line (sym x.0) ∙ is)))

module _ {C : Type 0} (k : Costs C) (m : Meaning) (b : Bars) (goal : ℕ) (D : ℕ → C) where
  -- only the goal has a label
  pub label_none : (line hops first : ℕ → ℕ) → line 0 ≡ goal → hops goal ≡ 0 → ((v : ℕ) → (v ≡ goal → ⊥) → 64 ≤ hops v) → LabellingAlong k m b goal 0 1 0 D line hops first
  label_none line hops first l0 gh far = record {
    goal_hops = gh;
    listed = λ j h. omega (arith, start j h);
    all = λ v h. (0, omega arith, l0 ∙ sym (home v h));
    once = λ j j' h h' e. omega arith;
    rising = λ j j' h h'. omega (arith, start j (omega arith), start j' h');
    near = λ v h h'. omega (arith, ap hops (home v h));
    step = λ v ne h. absurd (ne (home v h));
    fewest = λ e l t d o. absurd (nothing e l d);
    lowest = λ e l t d o h. absurd (nothing e l d);
  }
    where
      home : (v : ℕ) → hops v ≤ 63 → v ≡ goal
      home v h = either (cases_eq v goal) (λ e. e) (λ ne. absurd (omega (arith, far v ne)))

      start : (j : ℕ) → j < 1 → hops (line j) ≡ 0
      start j h = let z : j ≡ 0 = omega arith in ap (λ x. hops (line x)) z ∙ ap hops l0 ∙ gh

      nothing : (e : ℕ) (l : Leg) → Reached line 0 0 e l → ⊥
      nothing e l (j, is, d) = omega arith

  module _ (c n i : ℕ) (line hops first : ℕ → ℕ) (p : LabellingAlong k m b goal c n i D line hops first) where
    -- the legs with numbers from i up to j give no label: each is not tight, or its start has a better one
    pub label_skip : (j : ℕ) → ((e : ℕ) (l : Leg) → Tight k m b D e l → i ≤ e → e < j → line c ≡ l.to → hops l.to ≤ 62 → (hops l.from ≤ suc (hops l.to)) × (hops l.from ≡ suc (hops l.to) → first l.from ≤ e)) → LabellingAlong k m b goal c n j D line hops first
    label_skip j skip = record {
      goal_hops = p.goal_hops;
      listed = p.listed;
      all = p.all;
      once = p.once;
      rising = p.rising;
      near = p.near;
      step = p.step;
      fewest = λ e l t d o. either (reached_to line c i j e l d) (λ x. p.fewest e l t x o) (λ x. (skip e l t x.0 x.1 x.2 o).0);
      lowest = λ e l t d o h. either (reached_to line c i j e l d) (λ x. p.lowest e l t x o h) (λ x. (skip e l t x.0 x.1 x.2 o).1 h);
    }

    -- the next station of the line
    pub label_next : Sound m → (i ≡ m.legs) ⊎ (63 ≤ hops (line c)) → LabellingAlong k m b goal (suc c) n 0 D line hops first
    label_next sound done = record {
      goal_hops = p.goal_hops;
      listed = p.listed;
      all = p.all;
      once = p.once;
      rising = p.rising;
      near = λ v h o. omega (arith, p.near v h (omega arith), p.rising c (suc c) (omega arith) o);
      step = p.step;
      fewest = λ e l t d o. p.fewest e l t (before e l t d o) o;
      lowest = λ e l t d o h. p.lowest e l t (before e l t d o) o h;
    }
      where
        before : (e : ℕ) (l : Leg) → Tight k m b D e l → Reached line (suc c) 0 e l → hops l.to ≤ 62 → Reached line c i e l
        before e l t (j, is, d) o =
            either (cases_lt j c) (λ x. (j, is, inl x))
            (λ x. let same : j ≡ c = omega arith in
            (j, is, inr (same, either done (λ y. omega (arith, shown_below m sound e l t.usable.shown)) (λ y. absurd (omega (arith, ap hops is, ap (λ z. hops (line z)) same))))))

    -- every station of the line is done
    pub label_all : n ≤ c → Labelling k m b goal D hops first
    label_all done = record {
      goal_hops = p.goal_hops;
      step = p.step;
      fewest = λ e l t o. p.fewest e l t (reached l o) o;
      lowest = λ e l t o h. p.lowest e l t (reached l o) o h;
    }
      where
        reached : {e : ℕ} (l : Leg) → hops l.to ≤ 62 → Reached line c i e l
        reached l o = let (j, h, is) = p.all l.to (omega arith) in (j, is, inl (omega arith))

    -- the cost of a station with a label stands for as many legs
    pub label_stands : Laws k → Sound m → D goal ≡ k.zero → (h v : ℕ) → hops v ≡ h → h ≤ 63 → k.stands (D v) h
    label_stands laws sound gc zero v e o =
        either (cases_eq v goal) (λ x. subst (λ y. k.stands y 0) (sym (ap D x ∙ gc)) laws.stands_zero)
        (λ ne. let (l, t, f, h) = p.step v ne (omega arith) in absurd (omega arith))
    label_stands laws sound gc (suc h) v e o =
        let (l, t, f, h') = p.step v away (omega arith) in
        subst (λ y. k.stands y (suc h)) (sym t.gives ∙ ap D f)
        (over_stands k laws m sound b (first v) l t.usable (D l.to) h (label_stands laws sound gc h l.to (omega arith) (omega arith)) (omega arith))
      where
        away : v ≡ goal → ⊥
        away x = omega (arith, ap hops x, p.goal_hops)

    -- a station with a label is settled
    pub label_settled : (settled : ℕ → Bool) (ord : ℕ → ℕ) → Settling k m b goal settled ord D → (h v : ℕ) → hops v ≡ h → h ≤ 63 → settled v ≡ true
    label_settled settled ord q zero v e o =
        either (cases_eq v goal) (λ x. subst (λ y. settled y ≡ true) (sym x) q.goal_settled)
        (λ ne. let (l, t, f, h) = p.step v ne (omega arith) in absurd (omega arith))
    label_settled settled ord q (suc h) v e o =
        let (l, t, f, h') = p.step v away (omega arith) in
        subst (λ y. settled y ≡ true) f (q.closed (first v) l t.usable (label_settled settled ord q h l.to (omega arith) (omega arith)))
      where
        away : v ≡ goal → ⊥
        away x = omega (arith, ap hops x, p.goal_hops)

    -- there are no more places in the line than stations
    pub label_most : (s : ℕ) → ((u : ℕ) → hops u ≤ 63 → u < s) → n ≤ s
    label_most s below = room_most line n s (λ j h. below (line j) (p.listed j h)) p.once

    -- a station with no label leaves a place in the line
    pub label_room : (s v : ℕ) → ((u : ℕ) → hops u ≤ 63 → u < s) → v < s → 64 ≤ hops v → n < s
    label_room s v below hv far = room_left line n s v (λ j h. below (line j) (p.listed j h)) p.once hv (λ j h e. omega (arith, ap hops e, p.listed j h))

    module _ (l : Leg) (t : Tight k m b D i l) (end : line c ≡ l.to) where
      this : (e : ℕ) (l' : Leg) → Tight k m b D e l' → i ≤ e → e < suc i → l' ≡ l
      this e l' t' h h' =
          let same : e ≡ i = omega arith in
          same_leg m i l' l (ap m.at (sym same) ∙ t'.usable.shown) t.usable.shown

      -- a tight leg from a station with no label
      module _ (line' hops' first' : ℕ → ℕ) where
        pub label_more : c < n → hops l.to ≤ 62 → 64 ≤ hops l.from → Put line line' n l.from → Put hops hops' l.from (suc (hops l.to)) → Put first first' l.from i → LabellingAlong k m b goal c (suc n) (suc i) D line' hops' first'
        label_more cn low far pl ph pf = record {
          goal_hops = kept goal (omega (arith, p.goal_hops)) ∙ p.goal_hops;
          listed = λ j h. either (place j h)
              (λ x. omega (arith, x.1, x.2))
              (λ x. omega (arith, ap hops' x.1, ph.here));
          all = λ v h. either (at v)
              (λ x. (n, omega arith, pl.here ∙ sym x.0))
              (λ x. let (j, hj, is) = p.all v (omega arith) in (j, omega arith, pl.elsewhere j (λ z. omega arith) ∙ is));
          once = λ j j' h h' e. either (place j h)
              (λ x. either (place j' h')
              (λ x'. p.once j j' x.0 x'.0 (sym (pl.elsewhere j (λ z. omega arith)) ∙ e ∙ pl.elsewhere j' (λ z. omega arith)))
              (λ x'. absurd (other (line j) x.2 (sym (pl.elsewhere j (λ z. omega arith)) ∙ e ∙ x'.1))))
              (λ x. either (place j' h')
              (λ x'. absurd (other (line j') x'.2 (sym (pl.elsewhere j' (λ z. omega arith)) ∙ sym e ∙ x.1)))
              (λ x'. omega arith));
          rising = λ j j' h h'. either (place j' h')
              (λ x'. either (place j (omega arith)) (λ x. omega (arith, x.1, x'.1, p.rising j j' h x'.0)) (λ x. absurd (omega arith)))
              (λ x'. either (place j (omega arith))
              (λ x. omega (arith, ap hops' x'.1, ph.here, x.1, p.near (line j) x.2 cn, ap hops end))
              (λ x. omega (arith, ap hops' x.1, ap hops' x'.1)));
          near = λ v h o. either (at v)
              (λ x. omega (arith, x.1, current))
              (λ x. omega (arith, x.1, current, p.near v (omega arith) cn, ap hops end));
          step = λ v ne h. either (at v)
              (λ x. (l, subst (λ y. Tight k m b D y l) (sym (ap first' x.0 ∙ pf.here)) t, sym x.0, omega (arith, kept l.to (omega arith))))
              (λ x.
              let (l', t', f, s) = p.step v ne (omega arith) in
              (l', subst (λ y. Tight k m b D y l') (sym (pf.elsewhere v x.0)) t', f, omega (arith, kept l'.to (omega arith))));
          fewest = λ e l' t' d o.
              let to = kept l'.to (labelled e l' d) in
              either (reached_to line c i (suc i) e l' (older e l' d))
              (λ x. let few = p.fewest e l' t' x (omega (arith, to)) in omega (arith, to, few, kept l'.from (omega (arith, to, few))))
              (λ x. omega (arith, ap (λ z. hops' z.from) (this e l' t' x.0 x.1), ap (λ z. hops z.to) (this e l' t' x.0 x.1), ph.here, to));
          lowest = λ e l' t' d o h.
              let to = kept l'.to (labelled e l' d) in
              either (reached_to line c i (suc i) e l' (older e l' d))
              (λ x.
              let few = p.fewest e l' t' x (omega (arith, to)) in
              let few' : hops l'.from ≤ 63 = omega (arith, to, few) in
              omega (arith, pf.elsewhere l'.from (other l'.from few'), p.lowest e l' t' x (omega (arith, to)) (omega (arith, to, kept l'.from few'))))
              (λ x. omega (arith, ap (λ z. first' z.from) (this e l' t' x.0 x.1), pf.here, x.0));
        }
          where
            at : (y : ℕ) → ((y ≡ l.from) × (hops' y ≡ suc (hops l.to))) ⊎ ((y ≡ l.from → ⊥) × (hops' y ≡ hops y))
            at y = put_cases hops hops' l.from (suc (hops l.to)) ph y

            other : (y : ℕ) → hops y ≤ 63 → y ≡ l.from → ⊥
            other y o e = omega (arith, ap hops e)

            kept : (y : ℕ) → hops y ≤ 63 → hops' y ≡ hops y
            kept y o = ph.elsewhere y (other y o)

            -- a place of the longer line: an old one with its label, or the new one
            place : (j : ℕ) → j < suc n → ((j < n) × (hops' (line' j) ≡ hops (line j)) × (hops (line j) ≤ 63)) ⊎ ((j ≡ n) × (line' j ≡ l.from))
            place j h =
                either (cases_lt j n)
                (λ x. inl (x, ap hops' (pl.elsewhere j (λ z. omega arith)) ∙ kept (line j) (p.listed j x), p.listed j x))
                (λ x. let z : j ≡ n = omega arith in inr (z, ap line' z ∙ pl.here))

            current : hops' (line' c) ≡ hops l.to
            current = ap hops' (pl.elsewhere c (λ z. omega arith) ∙ end) ∙ kept l.to (omega arith)

            older : (e : ℕ) (l' : Leg) → Reached line' c (suc i) e l' → Reached line c (suc i) e l'
            older e l' (j, is, d) = (j, sym (pl.elsewhere j (λ z. omega arith)) ∙ is, d)

            labelled : (e : ℕ) (l' : Leg) → Reached line' c (suc i) e l' → hops l'.to ≤ 63
            labelled e l' d = let (j, is, w) = older e l' d in subst (λ y. hops y ≤ 63) is (p.listed j (omega arith))

      -- a tight leg with a lower number from a station with the same label
      module _ (first' : ℕ → ℕ) where
        pub label_lower : c < n → hops l.to ≤ 62 → hops l.from ≡ suc (hops l.to) → i ≤ first l.from → Put first first' l.from i → LabellingAlong k m b goal c n (suc i) D line hops first'
        label_lower cn low one less pf = record {
          goal_hops = p.goal_hops;
          listed = p.listed;
          all = p.all;
          once = p.once;
          rising = p.rising;
          near = p.near;
          step = λ v ne h. either (put_cases first first' l.from i pf v)
              (λ x. (l, subst (λ y. Tight k m b D y l) (sym x.1) t, sym x.0, ap hops x.0 ∙ one))
              (λ x.
              let (l', t', f, s) = p.step v ne h in
              (l', subst (λ y. Tight k m b D y l') (sym x.1) t', f, s));
          fewest = λ e l' t' d o.
              either (reached_to line c i (suc i) e l' d) (λ x. p.fewest e l' t' x o)
              (λ x. omega (arith, ap (λ z. hops z.from) (this e l' t' x.0 x.1), ap (λ z. hops z.to) (this e l' t' x.0 x.1), one));
          lowest = λ e l' t' d o h.
              either (reached_to line c i (suc i) e l' d)
              (λ x. either (put_cases first first' l.from i pf l'.from)
              (λ y. omega (arith, y.1, ap first y.0, p.lowest e l' t' x o h))
              (λ y. omega (arith, y.1, p.lowest e l' t' x o h)))
              (λ x. omega (arith, ap (λ z. first' z.from) (this e l' t' x.0 x.1), pf.here, x.0));
        }
