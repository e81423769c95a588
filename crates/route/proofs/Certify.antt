-- A certificate's followed list is the least route.
use Rattle.std.proofs.Common.{◌≡◌, ℕ, zero, suc, ◌+◌, ◌<◌, ◌≤◌, Bool, true, false, cond, eqb, ltb, ◌⊎◌, List, [], ◌∷◌, length, Some, None, Option, sym, refl, ap, ◌∙◌, inl, inr, ⊎_elim, one-add, arith}
use Rattle.network.specs.declared.leg.Leg.{Leg}
use Rattle.network.specs.Meaning.{Meaning, Sound}
use Rattle.cost.specs.Costs.{Costs, Laws}
use Rattle.route.specs.Routes.{Bars, barring, Shown, Leads, Route, leg_cost, cost, lower, shorter, ahead}
use Rattle.route.specs.Certificate.{Usable, Tight, Settling, Labelling, leg_end, follow, Answers, Short, Certified}
use Rattle.std.proofs.lemmas.Bool.{both_ways, cases_Bool, cases_eq, cases_lt, eqb-true, eqb-false, ne_eqb, le-ltb, cond-true, cond-false, cond_both}

-- Orders

module _ {C : Type 0} (k : Costs C) (laws : Laws k) where
  -- `k.before b a ≡ false` says that a is at most b
  pub at_most_trans : (a b c : C) → k.before b a ≡ false → k.before c b ≡ false → k.before c a ≡ false
  at_most_trans a b c p q = go (k.before c a) refl (k.before a b) refl
    where
      go : (x : Bool) → k.before c a ≡ x → (y : Bool) → k.before a b ≡ y → k.before c a ≡ false
      go false e y f = e
      go true e true f = absurd (both_ways (k.before c b) q (laws.carries c a b e f))
      go true e false f = absurd (both_ways (k.before c b) q (rw (laws.total a b f p) at e))

  pub at_most_cases : (a b : C) → k.before b a ≡ false → (a ≡ b) ⊎ (k.before a b ≡ true)
  at_most_cases a b p = ⊎_elim (λ t. inr t) (λ f. inl (laws.total a b f p)) (cases_Bool (k.before a b))

  -- a leg before two costs keeps their order
  pub at_most_join : (c a b : C) (p m n : ℕ) → k.stands c p → k.stands a m → k.stands b n → p + m ≤ 63 → p + n ≤ 63 → k.before b a ≡ false → k.before (k.join c b) (k.join c a) ≡ false
  at_most_join c a b p m n sc sa sb hm hn h = ⊎_elim same less (at_most_cases a b h)
    where
      same : a ≡ b → k.before (k.join c b) (k.join c a) ≡ false
      same e = rw e (laws.irreflexive (k.join c b))

      less : k.before a b ≡ true → k.before (k.join c b) (k.join c a) ≡ false
      less e = laws.one_way (k.join c a) (k.join c b) (laws.keeps_left a b c m n p sa sb sc (omega arith) (omega arith) e)

  -- a cost before another makes it no lower
  pub grows_left : (c a : C) (p m : ℕ) → k.stands c p → k.stands a m → p + m ≤ 63 → k.before (k.join c a) a ≡ false
  grows_left c a p m sc sa h = ⊎_elim same less (at_most_cases k.zero c low)
    where
      low : k.before c k.zero ≡ false
      low = rw (laws.zero_left c p sc (omega arith)) at (laws.grows k.zero c 0 p laws.stands_zero sc (omega arith))

      whole : k.join k.zero a ≡ a
      whole = laws.zero_left a m sa (omega arith)

      same : k.zero ≡ c → k.before (k.join c a) a ≡ false
      same e = rw (← e, whole) (laws.irreflexive a)

      less : k.before k.zero c ≡ true → k.before (k.join c a) a ≡ false
      less e = laws.one_way a (k.join c a) (rw whole at (laws.keeps_right k.zero c a 0 p m laws.stands_zero sc sa (omega arith) (omega arith) e))

-- Chains of usable legs, in which a station may come twice

abbrev pub Chain : Meaning → Bars → ℕ → List ℕ → ℕ → Type 0
Chain m b v [] goal = v ≡ goal
Chain m b v (e ∷ es) goal = (l : Leg) × Usable m b e l × (l.from ≡ v) × Chain m b l.to es goal

pub shown_leg : (o : Option Leg) (P : Leg → Type 0) → Shown o P → (l : Leg) × (o ≡ Some l) × P l
shown_leg None P h = absurd h
shown_leg (Some l) P h = (l, refl, h)

pub barring_parts : (s a : ℕ) (b : Bars) → (barring a b).station s ≡ false → (b.station s ≡ false) × (s ≡ a → ⊥)
barring_parts s a b h = ⊎_elim same apart (cases_Bool (eqb s a))
  where
    same : eqb s a ≡ true → (b.station s ≡ false) × (s ≡ a → ⊥)
    same e = absurd (both_ways (cond (eqb s a) true (b.station s)) h (cond-true (eqb s a) true (b.station s) e))

    apart : eqb s a ≡ false → (b.station s ≡ false) × (s ≡ a → ⊥)
    apart e = (sym (cond-false (eqb s a) true (b.station s) e) ∙ h, eqb-false s a e)

pub barring_free : (s a : ℕ) (b : Bars) → b.station s ≡ false → (s ≡ a → ⊥) → (barring a b).station s ≡ false
barring_free s a b h n = cond-false (eqb s a) true (b.station s) (ne_eqb s a n) ∙ h

pub onward : (m : Meaning) (b : Bars) (goal i : ℕ) (is : List ℕ) (v : ℕ) → Leads m b v (i ∷ is) goal → (l : Leg) × (m.at i ≡ Some l) × ((b.leg i ≡ false) × (l.from ≡ v) × ((barring v b).station l.to ≡ false) × Leads m (barring v b) l.to is goal)
onward m b goal i is v h = shown_leg (m.at i) (λ l. (b.leg i ≡ false) × (l.from ≡ v) × ((barring v b).station l.to ≡ false) × Leads m (barring v b) l.to is goal) h

-- a loopless way over more bars is a chain
pub chain : (m : Meaning) (b b' : Bars) (goal : ℕ) → ((s : ℕ) → b'.station s ≡ false → b.station s ≡ false) → ((i : ℕ) → b'.leg i ≡ false → b.leg i ≡ false) → (is : List ℕ) (v : ℕ) → b'.station v ≡ false → Leads m b' v is goal → Chain m b v is goal
chain m b b' goal hs hl [] v f h = h
chain m b b' goal hs hl (i ∷ is) v f h =
    let (l, e, (open', start, next, rest)) = onward m b' goal i is v h in
    let usable : Usable m b i l = record { shown = e; free = hl i open'; from_free = rw start (hs v f); to_free = hs l.to (barring_parts l.to v b' next).0 } in
    (l, usable, start, chain m b (barring v b') goal (λ s x. hs s (barring_parts s v b' x).0) hl is l.to next rest)

-- the end of a way is free
pub end_free : (m : Meaning) (b : Bars) (goal : ℕ) (is : List ℕ) (v : ℕ) → b.station v ≡ false → Leads m b v is goal → b.station goal ≡ false
end_free m b goal [] v f h = rw h at f
end_free m b goal (i ∷ is) v f h =
    let (l, e, (open', start, next, rest)) = onward m b goal i is v h in
    (barring_parts goal v b (end_free m (barring v b) goal is l.to next rest)).0

-- no route leads back to its start
pub no_round : (m : Meaning) (b : Bars) (start goal : ℕ) → start ≡ goal → (is : List ℕ) → Route m b start goal is → ⊥
no_round m b start goal same [] r = let h : 0 < 0 = r.some in omega arith
no_round m b start goal same (i ∷ is) r =
    let (l, e, (open', from, next, rest)) = onward m b goal i is start r.leads in
    (barring_parts goal start b (end_free m (barring start b) goal is l.to next rest)).1 (sym same)

pub route_chain : (m : Meaning) (b : Bars) (start goal : ℕ) (is : List ℕ) → Route m b start goal is → Chain m b start is goal
route_chain m b start goal is r = chain m b b goal (λ s x. x) (λ i x. x) is start r.free r.leads

pub follow_length : (m : Meaning) (first : ℕ → ℕ) (n v : ℕ) → length (follow m first n v) ≡ n
follow_length m first zero v = refl
follow_length m first (suc n) v = ap suc (follow_length m first n (leg_end (m.at (first v))))

-- Phase 1: each settled cost is the least of all chains

module _ {C : Type 0} (k : Costs C) (laws : Laws k) (m : Meaning) (sound : Sound m) (b : Bars) where
  pub leg_stands : (e : ℕ) (l : Leg) → Usable m b e l → k.stands (k.of_leg l) 1
  leg_stands e l u = laws.stands_leg l (sound.fits e l u.shown).figures

  pub over_stands : (e : ℕ) (l : Leg) → Usable m b e l → (x : C) (p : ℕ) → k.stands x p → p ≤ 62 → k.stands (k.join (k.of_leg l) x) (suc p)
  over_stands e l u x p sx h = rw one-add at (laws.stands_join (k.of_leg l) x 1 p (leg_stands e l u) sx (omega arith))

  pub cost_over : (e : ℕ) (l : Leg) → Usable m b e l → (q : List ℕ) → cost k m (e ∷ q) ≡ k.join (k.of_leg l) (cost k m q)
  cost_over e l u q = ap (λ o. k.join (leg_cost k o) (cost k m q)) u.shown

  pub chain_stands : (goal : ℕ) (q : List ℕ) (v : ℕ) → Chain m b v q goal → length q ≤ 63 → k.stands (cost k m q) (length q)
  chain_stands goal [] v ch h = laws.stands_zero
  chain_stands goal (e ∷ q) v ch h =
      let (l, u, f, r) = ch in
      rw (cost_over e l u q) (over_stands e l u (cost k m q) (length q) (chain_stands goal q l.to r (omega arith)) (omega arith))

  module _ (goal : ℕ) (settled : ℕ → Bool) (ord : ℕ → ℕ) (D : ℕ → C) (s : Settling k m b goal settled ord D) where
    -- an induction in the order of settling
    pub by_order : (P : ℕ → Type 0) → P goal → ((e : ℕ) (l : Leg) → Tight k m b D e l → settled l.from ≡ true → ord l.to < ord l.from → P l.to → P l.from) → (n v : ℕ) → ord v < n → settled v ≡ true → P v
    by_order P base up zero v h sv = absurd (omega arith)
    by_order P base up (suc n) v h sv =
        ⊎_elim (λ e. rw e base)
        (λ ne.
        let (e, l, t, f, sw, o) = s.witness v sv ne in
        rw (← f) (up e l t (rw f sv) (rw f o) (by_order P base up n l.to (omega arith) sw)))
        (cases_eq v goal)

    pub settled_stands : (v : ℕ) → settled v ≡ true → (p : ℕ) × (p ≤ ord v) × k.stands (D v) p
    settled_stands v = by_order (λ x. (p : ℕ) × (p ≤ ord x) × k.stands (D x) p) (0, omega arith, rw s.goal_cost laws.stands_zero)
        (λ e l t sv o ih.
        let (p, hp, sd) = ih in
        let late : ord l.from ≤ 63 = s.early l.from sv in
        (suc p, omega arith, rw t.gives (over_stands e l t.usable (D l.to) p sd (omega arith))))
        (suc (ord v)) v (omega arith)

    pub over : (e : ℕ) (l : Leg) → Usable m b e l → settled l.to ≡ true → (x : C) (p : ℕ) → k.stands x p → p ≤ 62 → k.before x (D l.to) ≡ false → k.before (k.join (k.of_leg l) x) (D l.from) ≡ false
    over e l u sw x p sx h low = ⊎_elim later earlier (cases_lt (ord l.to) (ord l.from))
      where
        sv : settled l.from ≡ true
        sv = s.closed e l u sw

        later : ord l.to < ord l.from → k.before (k.join (k.of_leg l) x) (D l.from) ≡ false
        later o =
            let late : ord l.from ≤ 63 = s.early l.from sv in
            let (n, hn, sd) = settled_stands l.to sw in
            at_most_trans k laws (D l.from) (k.join (k.of_leg l) (D l.to)) (k.join (k.of_leg l) x) (s.bounds e l u sw o)
            (at_most_join k laws (k.of_leg l) (D l.to) x 1 n p (leg_stands e l u) sd sx (omega arith) (omega arith) low)

        earlier : ord l.from ≤ ord l.to → k.before (k.join (k.of_leg l) x) (D l.from) ≡ false
        earlier o =
            at_most_trans k laws (D l.from) x (k.join (k.of_leg l) x)
            (at_most_trans k laws (D l.from) (D l.to) x (s.sorted l.from l.to sv sw o) low)
            (grows_left k laws (k.of_leg l) x 1 p (leg_stands e l u) sx (omega arith))

    -- where a leg before x gives the least cost, x is the least too
    pub exact : (e : ℕ) (l : Leg) → Usable m b e l → settled l.to ≡ true → (x : C) (p : ℕ) → k.stands x p → p ≤ 62 → k.before x (D l.to) ≡ false → k.join (k.of_leg l) x ≡ D l.from → x ≡ D l.to
    exact e l u sw x p sx h low eq = ⊎_elim later earlier (cases_lt (ord l.to) (ord l.from))
      where
        sv : settled l.from ≡ true
        sv = s.closed e l u sw

        later : ord l.to < ord l.from → x ≡ D l.to
        later o =
            let late : ord l.from ≤ 63 = s.early l.from sv in
            let (n, hn, sd) = settled_stands l.to sw in
            let strict : k.before (D l.to) x ≡ true → x ≡ D l.to = λ lt.
            absurd (both_ways (k.before (k.join (k.of_leg l) (D l.to)) (D l.from)) (s.bounds e l u sw o)
            (rw eq at (laws.keeps_left (D l.to) x (k.of_leg l) n p 1 sd sx (leg_stands e l u) (omega arith) (omega arith) lt))) in
            ⊎_elim (λ same. sym same) strict (at_most_cases k laws (D l.to) x low)

        earlier : ord l.from ≤ ord l.to → x ≡ D l.to
        earlier o =
            let up : k.before (D l.from) x ≡ false = rw eq at (grows_left k laws (k.of_leg l) x 1 p (leg_stands e l u) sx (omega arith)) in
            laws.total x (D l.to) low (at_most_trans k laws x (D l.from) (D l.to) up (s.sorted l.from l.to sv sw o))

    pub chain_settled : (q : List ℕ) (v : ℕ) → Chain m b v q goal → settled v ≡ true
    chain_settled [] v ch = rw ch s.goal_settled
    chain_settled (e ∷ q) v ch =
        let (l, u, f, r) = ch in
        rw (← f) (s.closed e l u (chain_settled q l.to r))

    pub chain_bound : (q : List ℕ) (v : ℕ) → Chain m b v q goal → length q ≤ 63 → k.before (cost k m q) (D v) ≡ false
    chain_bound [] v ch h = rw (ch, s.goal_cost) (laws.irreflexive k.zero)
    chain_bound (e ∷ q) v ch h =
        let (l, u, f, r) = ch in
        rw (cost_over e l u q, ← f) (over e l u (chain_settled q l.to r) (cost k m q) (length q) (chain_stands goal q l.to r (omega arith)) (omega arith) (chain_bound q l.to r (omega arith)))

    -- the rest of a least chain is least
    pub chain_rest : (e : ℕ) (q : List ℕ) (l : Leg) → Usable m b e l → Chain m b l.to q goal → length q ≤ 62 → cost k m (e ∷ q) ≡ D l.from → cost k m q ≡ D l.to
    chain_rest e q l u r h eq = exact e l u (chain_settled q l.to r) (cost k m q) (length q) (chain_stands goal q l.to r (omega arith)) h (chain_bound q l.to r (omega arith)) (sym (cost_over e l u q) ∙ eq)

    -- and its first leg is tight
    pub chain_tight : (e : ℕ) (q : List ℕ) (l : Leg) → Usable m b e l → Chain m b l.to q goal → length q ≤ 62 → cost k m (e ∷ q) ≡ D l.from → Tight k m b D e l
    chain_tight e q l u r h eq = record { usable = u; gives = sym eq ∙ cost_over e l u q ∙ ap (λ x. k.join (k.of_leg l) x) (chain_rest e q l u r h eq) }

-- Phase 2: the followed list

module _ {C : Type 0} (k : Costs C) (laws : Laws k) (m : Meaning) (sound : Sound m) (b : Bars) (goal : ℕ) (settled : ℕ → Bool) (ord : ℕ → ℕ) (D : ℕ → C) (hops first : ℕ → ℕ) (s : Settling k m b goal settled ord D) (t : Labelling k m b goal D hops first) where
  -- every settled station has a label
  pub labels : (v : ℕ) → settled v ≡ true → hops v ≤ ord v
  labels v = by_order k laws m sound b goal settled ord D s (λ x. hops x ≤ ord x) (omega (arith, t.goal_hops))
      (λ e l g sv o ih.
      let late : ord l.from ≤ 63 = s.early l.from sv in
      omega (arith, t.fewest e l g (omega arith)))
      (suc (ord v)) v (omega arith)

  -- and no other
  pub label_settled : (n v : ℕ) → hops v < n → n ≤ 64 → settled v ≡ true
  label_settled zero v h hn = absurd (omega arith)
  label_settled (suc n) v h hn =
      ⊎_elim (λ e. rw e s.goal_settled)
      (λ ne.
      let (l, g, f, hs) = t.step v ne (omega arith) in
      rw (← f) (s.closed (first v) l g.usable (label_settled n l.to (omega arith) (omega arith))))
      (cases_eq v goal)

  pub home : (v : ℕ) → hops v ≡ 0 → v ≡ goal
  home v h = ⊎_elim (λ e. e) (λ ne. absurd (away ne)) (cases_eq v goal)
    where
      away : (v ≡ goal → ⊥) → ⊥
      away ne = let (l, g, f, hs) = t.step v ne (omega arith) in omega arith

  pub abroad : (n v : ℕ) → hops v ≡ suc n → v ≡ goal → ⊥
  abroad n v h e = let z : hops v ≡ 0 = rw e t.goal_hops in omega arith

  pub follow_cost : (n v : ℕ) → hops v ≡ n → n ≤ 63 → cost k m (follow m first n v) ≡ D v
  follow_cost zero v h hn = rw (home v h) (sym s.goal_cost)
  follow_cost (suc n) v h hn =
      let (l, g, f, hs) = t.step v (abroad n v h) (omega arith) in
      cost_over k laws m sound b (first v) l g.usable (follow m first n (leg_end (m.at (first v))))
      ∙ ap (λ x. k.join (k.of_leg l) (cost k m (follow m first n (leg_end x)))) g.usable.shown
      ∙ ap (λ x. k.join (k.of_leg l) x) (follow_cost n l.to (omega arith) (omega arith))
      ∙ sym g.gives
      ∙ ap D f

  apart : (n v w : ℕ) → w ≡ v → hops v ≡ suc n → hops w ≤ n → ⊥
  apart n v w e hv hw = omega (arith, ap hops e)

  pub follow_leads : (n v : ℕ) (b' : Bars) → hops v ≡ n → n ≤ 63 → ((i : ℕ) → b.leg i ≡ false → b'.leg i ≡ false) → ((x : ℕ) → b.station x ≡ false → hops x < n → b'.station x ≡ false) → Leads m b' v (follow m first n v) goal
  follow_leads zero v b' h hn hl hs = home v h
  follow_leads (suc n) v b' h hn hl hs =
      let (l, g, f, hl') = t.step v (abroad n v h) (omega arith) in
      let u : Usable m b (first v) l = g.usable in
      let next : (barring v b').station l.to ≡ false = barring_free l.to v b' (hs l.to u.to_free (omega arith)) (λ e. apart n v l.to e h (omega arith)) in
      let rest : Leads m (barring v b') l.to (follow m first n l.to) goal =
      follow_leads n l.to (barring v b') (omega arith) (omega arith) hl
      (λ x fx hx. barring_free x v b' (hs x fx (omega arith)) (λ e. apart n v x e h (omega arith))) in
      rw u.shown (hl (first v) u.free, f, next, rest)

  -- a least chain has at least as many legs, and at as many its numbers come no lower
  pub fewest_legs : (q : List ℕ) (v : ℕ) → Chain m b v q goal → length q ≤ 63 → cost k m q ≡ D v → hops v ≤ length q
  fewest_legs [] v ch h eq = rw ch (omega (arith, t.goal_hops))
  fewest_legs (e ∷ q) v ch h eq =
      let (l, u, f, r) = ch in
      let eq' : cost k m (e ∷ q) ≡ D l.from = rw f eq in
      let few : hops l.to ≤ length q = fewest_legs q l.to r (omega arith) (chain_rest k laws m sound b goal settled ord D s e q l u r (omega arith) eq') in
      rw (← f) (omega (arith, t.fewest e l (chain_tight k laws m sound b goal settled ord D s e q l u r (omega arith) eq') (omega arith)))

  pub lowest_legs : (q : List ℕ) (v : ℕ) → Chain m b v q goal → length q ≤ 63 → cost k m q ≡ D v → hops v ≡ length q → lower q (follow m first (length q) v) ≡ false
  lowest_legs [] v ch h eq hv = refl
  lowest_legs (e ∷ q) v ch h eq hv =
      let (l, u, f, r) = ch in
      let eq' : cost k m (e ∷ q) ≡ D l.from = rw f eq in
      let least : cost k m q ≡ D l.to = chain_rest k laws m sound b goal settled ord D s e q l u r (omega arith) eq' in
      let tight : Tight k m b D e l = chain_tight k laws m sound b goal settled ord D s e q l u r (omega arith) eq' in
      let hv' : hops l.from ≡ suc (length q) = rw f hv in
      let few : hops l.to ≤ length q = fewest_legs q l.to r (omega arith) least in
      let one : hops l.from ≤ suc (hops l.to) = t.fewest e l tight (omega arith) in
      let low : first v ≤ e = rw f at (t.lowest e l tight (omega arith) (omega arith)) in
      let ih : lower q (follow m first (length q) l.to) ≡ false = lowest_legs q l.to r (omega arith) least (omega arith) in
      cond_both (eqb e (first v)) (lower q (follow m first (length q) (leg_end (m.at (first v))))) (ltb e (first v)) (λ x. x ≡ false)
      (λ same. rw (← eqb-true e (first v) same, u.shown) ih)
      (λ _. le-ltb e (first v) low)

  pub not_shorter : (q : List ℕ) (v : ℕ) → Chain m b v q goal → length q ≤ 63 → cost k m q ≡ D v → shorter q (follow m first (hops v) v) ≡ false
  not_shorter q v ch h eq =
      let few : hops v ≤ length q = fewest_legs q v ch h eq in
      let long : length (follow m first (hops v) v) ≡ hops v = follow_length m first (hops v) v in
      cond_both (eqb (length q) (length (follow m first (hops v) v))) (lower q (follow m first (hops v) v)) (ltb (length q) (length (follow m first (hops v) v))) (λ x. x ≡ false)
      (λ same.
      let like : hops v ≡ length q = sym (eqb-true (length q) (length (follow m first (hops v) v)) same ∙ long) in
      rw like (lowest_legs q v ch h eq like))
      (λ _. le-ltb (length q) (length (follow m first (hops v) v)) (omega arith))

  -- no chain ranks before the followed list
  pub not_ahead : (q : List ℕ) (v : ℕ) → Chain m b v q goal → length q ≤ 63 → hops v ≤ 63 → ahead k m q (follow m first (hops v) v) ≡ false
  not_ahead q v ch h hv =
      let is : List ℕ = follow m first (hops v) v in
      let eq : cost k m is ≡ D v = follow_cost (hops v) v refl hv in
      let up : k.before (cost k m q) (cost k m is) ≡ false = rw eq (chain_bound k laws m sound b goal settled ord D s q v ch h) in
      cond-false (k.before (cost k m q) (cost k m is)) true (cond (k.before (cost k m is) (cost k m q)) false (shorter q is)) up
      ∙ cond_both (k.before (cost k m is) (cost k m q)) false (shorter q is) (λ x. x ≡ false) (λ _. refl)
      (λ down. not_shorter q v ch h (laws.total (cost k m q) (cost k m is) up down ∙ eq))

  pub follow_route : (start : ℕ) → (start ≡ goal → ⊥) → hops start ≤ 63 → Route m b start goal (follow m first (hops start) start)
  follow_route start ne h =
      let (l, g, f, hs) = t.step start ne h in
      record {
        some = rw (follow_length m first (hops start) start) (omega arith);
        free = rw f at g.usable.from_free;
        leads = follow_leads (hops start) start b refl h (λ i x. x) (λ x fx _. fx);
      }

  pub answers : Short m → (start : ℕ) → Answers k m b start goal settled D hops first
  answers short start = record {
    labelled = λ sv. omega (arith, labels start sv, s.early start sv);
    reached = λ h. label_settled 64 start (omega arith) (omega arith);
    least = λ sv ne.
        let h : hops start ≤ 63 = omega (arith, labels start sv, s.early start sv) in
        record {
          route = follow_route start ne h;
          first = λ js r. not_ahead js start (route_chain m b start goal js r) (short b start goal js r) h;
        };
    none = λ sv is r. both_ways (settled start) sv (chain_settled k laws m sound b goal settled ord D s is start (route_chain m b start goal is r));
    same = no_round m b start goal;
  }

pub theorem : {C : Type 0} (k : Costs C) → Certified k
theorem k laws m sound short b goal settled ord D hops first c start = answers k laws m sound b goal settled ord D hops first c.settling c.labelling short start
