-- Phase 1, a step at a time: from nothing settled to a settling.
use Rattle.std.proofs.Common.{◌≡◌, ℕ, zero, suc, ◌<◌, ◌≤◌, Bool, true, false, ◌⊎◌, Some, None, sym, ap, ◌∙◌, subst, inl, inr, ⊎_elim, arith}
use Rattle.network.specs.declared.leg.Leg.{Leg}
use Rattle.network.specs.Meaning.{Meaning, Sound}
use Rattle.cost.specs.Costs.{Costs, Laws}
use Rattle.route.specs.Routes.{Bars}
use Rattle.route.specs.Certificate.{Usable, Settling}
use Rattle.route.specs.Progress.{Put, Handled, SettlingTo}
use Rattle.route.proofs.Certify.{at_most_trans, grows_left, leg_stands, over_stands}
use Rattle.std.proofs.lemmas.Bool.{both_ways, cases_eq, cases_lt}

-- the sum first, so that antt knows the types of the cases' arguments when it reads the cases
pub either : {A B C : Type 0} → A ⊎ B → (A → C) → (B → C) → C
either d f g = ⊎_elim f g d

pub put_cases : {A : Type 0} (f g : ℕ → A) (v : ℕ) (x : A) → Put f g v x → (y : ℕ) → ((y ≡ v) × (g y ≡ x)) ⊎ ((y ≡ v → ⊥) × (g y ≡ f y))
put_cases f g v x p y = ⊎_elim (λ e. inl (e, rw e p.here)) (λ ne. inr (ne, p.elsewhere y ne)) (cases_eq y v)

pub same_leg : (m : Meaning) (e : ℕ) (l l' : Leg) → m.at e ≡ Some l → m.at e ≡ Some l' → l ≡ l'
same_leg m e l l' p q = cc

-- the legs looked at one later
pub handled_more : (round : ℕ → ℕ) (n i e : ℕ) (l : Leg) → Handled round n (suc i) e l → Handled round n i e l ⊎ ((e ≡ i) × (round l.to ≡ n))
handled_more round n i e l h = either h (λ x. inl (inl x)) (λ x. either (cases_lt e i) (λ y. inl (inr (x.0, y))) (λ y. inr (omega arith, x.0)))

-- what is shown stands below the count of legs
pub shown_below : (m : Meaning) → Sound m → (e : ℕ) (l : Leg) → m.at e ≡ Some l → e < m.legs
shown_below m sound e l p = ⊎_elim (λ h. h) (λ h. absurd (never (sound.past e h))) (cases_lt e m.legs)
  where
    never : m.at e ≡ None → ⊥
    never q = let z : ◌≡◌ {A = ℕ} 0 1 = cc in omega arith

-- only the goal is seen, and nothing settled
pub settle_none : {C : Type 0} (k : Costs C) (m : Meaning) (b : Bars) (goal i : ℕ) (seen : ℕ → Bool) (ord : ℕ → ℕ) (D : ℕ → C) → ((v : ℕ) → 64 ≤ ord v) → seen goal ≡ true → ((v : ℕ) → seen v ≡ true → v ≡ goal) → D goal ≡ k.zero → SettlingTo k m b goal 0 i seen ord D
settle_none k m b goal i seen ord D far gs only gc = record {
  goal_seen = gs;
  goal_cost = gc;
  places = λ v h. absurd (omega (arith, far v));
  settled_seen = λ v h. absurd (omega (arith, far v));
  closed = λ e l u h. absurd (omega arith);
  witness = λ v sv ne. absurd (ne (only v sv));
  bounds = λ e l u h o. absurd (omega arith);
  sorted = λ v w h sw o. absurd (omega (arith, far v));
}

module _ {C : Type 0} (k : Costs C) (laws : Laws k) (m : Meaning) (sound : Sound m) (b : Bars) (goal c : ℕ) where
  -- no leg is left to look at, and no seen station to settle
  pub settle_all : (seen : ℕ → Bool) (ord : ℕ → ℕ) (D : ℕ → C) → SettlingTo k m b goal c m.legs seen ord D → ((v : ℕ) → seen v ≡ true → ord v ≤ 63) → Settling k m b goal seen ord D
  settle_all seen ord D p all = record {
    goal_settled = p.goal_seen;
    goal_cost = p.goal_cost;
    early = all;
    closed = λ e l u sw. p.closed e l u (handled e l u sw);
    witness = λ v sv ne.
        let (e, l, t, f, o, o') = p.witness v sv ne in
        (e, l, t, f, p.settled_seen l.to o, o');
    bounds = λ e l u sw o. p.bounds e l u (handled e l u sw) o;
    sorted = λ v w sv sw o. p.sorted v w (all v sv) sw o;
  }
    where
      handled : (e : ℕ) (l : Leg) → Usable m b e l → seen l.to ≡ true → Handled (λ v. suc (ord v)) c m.legs e l
      handled e l u sw =
          let o : ord l.to < c = p.places l.to (all l.to sw) in
          ⊎_elim (λ h. inl h) (λ h. inr (omega arith, shown_below m sound e l u.shown)) (cases_lt (suc (ord l.to)) c)

  -- the cost of a settled station stands for no more legs than its place
  pub place_stands : (i : ℕ) (seen : ℕ → Bool) (ord : ℕ → ℕ) (D : ℕ → C) → SettlingTo k m b goal c i seen ord D → (n v : ℕ) → ord v < n → ord v ≤ 63 → (p : ℕ) × (p ≤ ord v) × k.stands (D v) p
  place_stands i seen ord D p zero v h o = absurd (omega arith)
  place_stands i seen ord D p (suc n) v h o =
      either (cases_eq v goal)
      (λ e. (0, omega arith, rw (e, p.goal_cost) laws.stands_zero))
      (λ ne.
      let (e, l, t, f, o', o'') = p.witness v (p.settled_seen v o) ne in
      let (q, hq, sq) = place_stands i seen ord D p n l.to (omega arith) (omega arith) in
      (suc q, omega arith, subst (λ x. k.stands x (suc q)) (sym t.gives ∙ ap D f) (over_stands k laws m sound b e l t.usable (D l.to) q sq (omega arith))))

  -- the least of the seen stations is settled next
  module _ (seen : ℕ → Bool) (ord ord' : ℕ → ℕ) (D : ℕ → C) (u : ℕ) where
    pub settle_more : SettlingTo k m b goal c m.legs seen ord D → seen u ≡ true → 64 ≤ ord u → ((w : ℕ) → seen w ≡ true → 64 ≤ ord w → k.before (D w) (D u) ≡ false) → c ≤ 63 → Put ord ord' u c → SettlingTo k m b goal (suc c) 0 seen ord' D
    settle_more p su hu least hc put = record {
      goal_seen = p.goal_seen;
      goal_cost = p.goal_cost;
      places = λ v h. either (at v) (λ x. omega arith) (λ x. omega (arith, p.places v (omega arith)));
      settled_seen = λ v h. either (at v) (λ x. rw x.0 su) (λ x. p.settled_seen v (omega arith));
      closed = λ e l g h. p.closed e l g (handled e l g h).1;
      witness = λ v sv ne.
          let (e, l, t, f, o, o') = p.witness v sv ne in
          let same : ord' l.to ≡ ord l.to = old l.to o in
          (e, l, t, f, omega arith, either (at v) (λ x. omega (arith, p.places l.to o)) (λ x. omega arith));
      bounds = λ e l g h o.
          let same : ord' l.to ≡ ord l.to = (handled e l g h).0 in
          p.bounds e l g (handled e l g h).1 (either (at l.from) (λ x. omega (arith, ap ord x.0, below e l h)) (λ x. omega arith));
      sorted = λ v w h sw o.
          either (at v)
          (λ x. either (at w)
          (λ y. rw (x.0, y.0) (laws.irreflexive (D u)))
          (λ y. rw x.0 (least w sw (either (cases_lt (ord w) 64) (λ z. absurd (omega (arith, p.places w (omega arith)))) (λ z. z)))))
          (λ x. p.sorted v w (omega arith) sw (either (at w) (λ y. omega (arith, ap ord y.0)) (λ y. omega arith)));
    }
      where
        at : (y : ℕ) → ((y ≡ u) × (ord' y ≡ c)) ⊎ ((y ≡ u → ⊥) × (ord' y ≡ ord y))
        at y = put_cases ord ord' u c put y

        old : (y : ℕ) → ord y ≤ 63 → ord' y ≡ ord y
        old y h = either (at y) (λ x. absurd (omega (arith, ap ord x.0))) (λ x. x.1)

        below : (e : ℕ) (l : Leg) → Handled (λ v. suc (ord' v)) (suc c) 0 e l → ord' l.to < c
        below e l h = omega arith

        handled : (e : ℕ) (l : Leg) → Usable m b e l → Handled (λ v. suc (ord' v)) (suc c) 0 e l → (ord' l.to ≡ ord l.to) × Handled (λ v. suc (ord v)) c m.legs e l
        handled e l g h =
            let o : ord' l.to < c = below e l h in
            either (at l.to) (λ x. absurd (omega arith))
            (λ x. (x.1, either (cases_lt (suc (ord l.to)) c) (λ y. inl y) (λ y. inr (omega arith, shown_below m sound e l g.shown))))

  -- a leg is passed over: it is of no use, does not end at the station settled last, or gives no lower cost
  pub relax_none : (i : ℕ) (seen : ℕ → Bool) (ord : ℕ → ℕ) (D : ℕ → C) → SettlingTo k m b goal c i seen ord D
      → ((l : Leg) → Usable m b i l → suc (ord l.to) ≡ c → (seen l.from ≡ true) × (64 ≤ ord l.from → k.before (k.join (k.of_leg l) (D l.to)) (D l.from) ≡ false))
      → SettlingTo k m b goal c (suc i) seen ord D
  relax_none i seen ord D p skip = record {
    goal_seen = p.goal_seen;
    goal_cost = p.goal_cost;
    places = p.places;
    settled_seen = p.settled_seen;
    closed = λ e l g h. either (handled_more (λ v. suc (ord v)) c i e l h) (λ x. p.closed e l g x) (λ x. (skip l (rw x.0 at g) x.1).0);
    witness = p.witness;
    bounds = λ e l g h o. either (handled_more (λ v. suc (ord v)) c i e l h) (λ x. p.bounds e l g x o)
        (λ x. (skip l (rw x.0 at g) x.1).1 (either (cases_lt (ord l.from) 64) (λ y. absurd (omega (arith, p.places l.from (omega arith)))) (λ y. y)));
    sorted = p.sorted;
  }

  -- no leg with a number from i up to j ends at the station settled last
  pub relax_skip : (i j : ℕ) (seen : ℕ → Bool) (ord : ℕ → ℕ) (D : ℕ → C) → SettlingTo k m b goal c i seen ord D → ((e : ℕ) (l : Leg) → Usable m b e l → i ≤ e → e < j → suc (ord l.to) ≡ c → ⊥) → SettlingTo k m b goal c j seen ord D
  relax_skip i j seen ord D p none = record {
    goal_seen = p.goal_seen;
    goal_cost = p.goal_cost;
    places = p.places;
    settled_seen = p.settled_seen;
    closed = λ e l g h. p.closed e l g (earlier e l g h);
    witness = p.witness;
    bounds = λ e l g h o. p.bounds e l g (earlier e l g h) o;
    sorted = p.sorted;
  }
    where
      earlier : (e : ℕ) (l : Leg) → Usable m b e l → Handled (λ v. suc (ord v)) c j e l → Handled (λ v. suc (ord v)) c i e l
      earlier e l g h = either h (λ x. inl x) (λ x. either (cases_lt e i) (λ y. inr (x.0, y)) (λ y. absurd (none e l g y x.1 x.0)))

  -- no lawful cost comes before zero
  pub zero_least : (x : C) (p : ℕ) → k.stands x p → p ≤ 63 → k.before x k.zero ≡ false
  zero_least x p sx h = rw (laws.zero_left x p sx h) at (laws.grows k.zero x 0 p laws.stands_zero sx (omega arith))

  -- a leg gives a lower cost, or the first, to a station that is not settled
  module _ (i : ℕ) (seen seen' : ℕ → Bool) (ord : ℕ → ℕ) (D D' : ℕ → C) (l : Leg) where
    pub relax_more : SettlingTo k m b goal c i seen ord D → Usable m b i l → suc (ord l.to) ≡ c → c ≤ 63 → 64 ≤ ord l.from
        → (seen l.from ≡ true → k.before (k.join (k.of_leg l) (D l.to)) (D l.from) ≡ true)
        → Put seen seen' l.from true → Put D D' l.from (k.join (k.of_leg l) (D l.to)) → SettlingTo k m b goal c (suc i) seen' ord D'
    relax_more p u hc h far better ps pd = record {
      goal_seen = still goal p.goal_seen;
      goal_cost = either (at goal) (λ x. absurd (no_goal x.0)) (λ x. x.1 ∙ p.goal_cost);
      places = p.places;
      settled_seen = λ v o. still v (p.settled_seen v o);
      closed = λ e l' g d.
          either (handled_more (λ v. suc (ord v)) c i e l' d) (λ x. still l'.from (p.closed e l' g x))
          (λ x. subst (λ z. seen' z.from ≡ true) (sym (this e l' g x.0)) ps.here);
      witness = λ v sv ne.
          either (put_cases seen seen' l.from true ps v)
          (λ x. (i, l, record { usable = u; gives = pd.here ∙ ap (λ y. k.join (k.of_leg l) y) (sym (kept l.to (omega arith))) }, sym x.0, omega arith, omega (arith, ap ord x.0)))
          (λ x.
          let (e, l', t, f, o, o') = p.witness v (sym x.1 ∙ sv) ne in
          (e, l', record { usable = t.usable; gives = pd.elsewhere l'.from (λ z. x.0 (sym f ∙ z)) ∙ t.gives ∙ ap (λ y. k.join (k.of_leg l') y) (sym (kept l'.to o)) }, f, o, o'));
      bounds = λ e l' g d o.
          let o' : ord l'.to ≤ 63 = omega arith in
          subst (λ x. k.before (k.join (k.of_leg l') x) (D' l'.from) ≡ false) (sym (kept l'.to o'))
          (either (at l'.from)
          (λ x. subst (λ y. k.before (k.join (k.of_leg l') (D l'.to)) y ≡ false) (sym x.1)
          (either (handled_more (λ v. suc (ord v)) c i e l' d)
          (λ y. older e l' x.0 (p.closed e l' g y) (p.bounds e l' g y o))
          (λ y. subst (λ z. k.before (k.join (k.of_leg z) (D z.to)) new ≡ false) (sym (this e l' g y.0)) (laws.irreflexive new))))
          (λ x. subst (λ y. k.before (k.join (k.of_leg l') (D l'.to)) y ≡ false) (sym x.1)
          (either (handled_more (λ v. suc (ord v)) c i e l' d) (λ y. p.bounds e l' g y o) (λ y. absurd (x.0 (ap (λ z. z.from) (this e l' g y.0)))))));
      sorted = λ v w hv sw o.
          subst (λ x. k.before (D' w) x ≡ false) (sym (kept v hv))
          (either (at w)
          (λ x. subst (λ y. k.before y (D v) ≡ false) (sym x.1) (above v hv))
          (λ x. subst (λ y. k.before y (D v) ≡ false) (sym x.1) (p.sorted v w hv (sym (ps.elsewhere w x.0) ∙ sw) o)));
    }
      where
        new : C
        new = k.join (k.of_leg l) (D l.to)

        at : (y : ℕ) → ((y ≡ l.from) × (D' y ≡ new)) ⊎ ((y ≡ l.from → ⊥) × (D' y ≡ D y))
        at y = put_cases D D' l.from new pd y

        still : (y : ℕ) → seen y ≡ true → seen' y ≡ true
        still y sy = either (put_cases seen seen' l.from true ps y) (λ x. x.1) (λ x. x.1 ∙ sy)

        -- a settled station keeps its cost
        kept : (y : ℕ) → ord y ≤ 63 → D' y ≡ D y
        kept y o = either (at y) (λ x. absurd (omega (arith, ap ord x.0))) (λ x. x.1)

        stood : (q : ℕ) × (q ≤ ord l.to) × k.stands (D l.to) q
        stood = place_stands i seen ord D p (suc (ord l.to)) l.to (omega arith) (omega arith)

        no_goal : goal ≡ l.from → ⊥
        no_goal e =
            let (q, hq, sq) = stood in
            both_ways (k.before new k.zero) (zero_least new (suc q) (over_stands k laws m sound b i l u (D l.to) q sq (omega arith)) (omega arith))
            (subst (λ x. k.before new x ≡ true) (sym (ap D e) ∙ p.goal_cost) (better (subst (λ x. seen x ≡ true) e p.goal_seen)))

        this : (e : ℕ) (l' : Leg) → Usable m b e l' → e ≡ i → l' ≡ l
        this e l' g x = same_leg m i l' l (ap m.at (sym x) ∙ g.shown) u.shown

        -- the cost before was at most what an older leg gives
        older : (e : ℕ) (l' : Leg) → l'.from ≡ l.from → seen l'.from ≡ true → k.before (k.join (k.of_leg l') (D l'.to)) (D l'.from) ≡ false → k.before (k.join (k.of_leg l') (D l'.to)) new ≡ false
        older e l' f sf bound =
            at_most_trans k laws new (D l.from) (k.join (k.of_leg l') (D l'.to)) (laws.one_way new (D l.from) (better (subst (λ x. seen x ≡ true) f sf)))
            (subst (λ x. k.before (k.join (k.of_leg l') (D l'.to)) (D x) ≡ false) f bound)

        above : (v : ℕ) → ord v ≤ 63 → k.before new (D v) ≡ false
        above v hv =
            let (q, hq, sq) = stood in
            at_most_trans k laws (D v) (D l.to) new (p.sorted v l.to hv (p.settled_seen l.to (omega arith)) (omega (arith, p.places v hv)))
            (grows_left k laws (k.of_leg l) (D l.to) 1 q (leg_stands k laws m sound b i l u) sq (omega arith))
