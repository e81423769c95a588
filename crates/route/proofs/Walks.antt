-- Legs that lead: taking the first leg off, looser bars, how long they get, splitting and joining.
use Rattle.std.proofs.Common.{◌≡◌, ℕ, suc, ◌<◌, true, false, cond, eqb, List, [], ◌∷◌, ◌++◌, length, Some, None, Option, sym, refl, ap, subst, arith}
use mathlib.Core.Path.{subst⁻¹}
use Rattle.std.specs.List.{AllByRecursion}
use Rattle.std.proofs.lemmas.Bool.{eq-eqb, both_ways}
use Rattle.std.proofs.ByRecursion.{All-weaker}
use Rattle.network.specs.declared.leg.Leg.{Leg}
use Rattle.network.specs.Meaning.{Meaning, Sound}
use Rattle.route.specs.Routes.{Shown, Bars, barring, Leads, Route}
use Rattle.route.specs.Deviation.{leads_to, end_of, met, passed}
use Rattle.route.proofs.Counting.{left, left_one, left_all, pigeonhole}
use Rattle.route.specs.Claims.{Distinct, Loopless, Parts}

-- what the first of some legs that lead is, and what the others do
pub record First (m : Meaning) (b : Bars) (a i : ℕ) (is : List ℕ) (goal : ℕ) : Type 0 where
  pub leg : Leg
  pub shown : m.at i ≡ Some leg
  pub unbarred : b.leg i ≡ false
  pub leaves : leg.from ≡ a
  pub new : (barring a b).station leg.to ≡ false
  pub rest : Leads m (barring a b) leg.to is goal

pub first_leg : (m : Meaning) (b : Bars) (a i : ℕ) (is : List ℕ) (goal : ℕ) → Leads m b a (i ∷ is) goal → First m b a i is goal
first_leg m b a i is goal h = go (m.at i) refl h
  where
    go : (o : Option Leg) → m.at i ≡ o → Shown o (λ l. (b.leg i ≡ false) × (l.from ≡ a) × ((barring a b).station l.to ≡ false) × Leads m (barring a b) l.to is goal) → First m b a i is goal
    go None e k = absurd k
    go (Some l) e k = record { leg = l; shown = e; unbarred = k.0; leaves = k.1; new = k.2; rest = k.3 }

pub then_leads : (m : Meaning) (b : Bars) (a i : ℕ) (is : List ℕ) (goal : ℕ) → First m b a i is goal → Leads m b a (i ∷ is) goal
then_leads m b a i is goal f = rw f.shown (f.unbarred, f.leaves, f.new, f.rest)

pub barring_less : (a : ℕ) (b : Bars) (s : ℕ) → (barring a b).station s ≡ false → b.station s ≡ false
barring_less a b s = elim (eqb s a) as (λ v. cond v true (b.station s) ≡ false → b.station s ≡ false) [ true ↦ λ e. absurd (both_ways true e refl) | false ↦ λ e. e ]

pub barring_itself : (a : ℕ) (b : Bars) → (barring a b).station a ≡ true
barring_itself a b = rw (eq-eqb a a refl) refl

pub barring_other : (a : ℕ) (b : Bars) (s : ℕ) → (barring a b).station s ≡ false → s ≡ a → ⊥
barring_other a b s h e = both_ways ((barring a b).station a) (subst (λ (x : ℕ). (barring a b).station x ≡ false) e h) (barring_itself a b)

module _ (m : Meaning) where
  -- legs that lead still do where no more stations are barred, and of the legs that leave a free station no more either
  pub looser : (b c : Bars) (a : ℕ) (is : List ℕ) (goal : ℕ) → ((s : ℕ) → b.station s ≡ false → c.station s ≡ false) → ((i : ℕ) (l : Leg) → m.at i ≡ Some l → b.station l.from ≡ false → b.leg i ≡ false → c.leg i ≡ false) → b.station a ≡ false → Leads m b a is goal → Leads m c a is goal
  looser b c a [] goal st lg u h = h
  looser b c a (i ∷ is) goal st lg u h =
      let f = first_leg m b a i is goal h in
      let st' : (s : ℕ) → (barring a b).station s ≡ false → (barring a c).station s ≡ false = λ s. elim (eqb s a) as (λ v. cond v true (b.station s) ≡ false → cond v true (c.station s) ≡ false) [ true ↦ λ e. e | false ↦ st s ] in
      let lg' : (j : ℕ) (l : Leg) → m.at j ≡ Some l → (barring a b).station l.from ≡ false → b.leg j ≡ false → c.leg j ≡ false = λ j l e v w. lg j l e (barring_less a b l.from v) w in
      let free : b.station f.leg.from ≡ false = rw f.leaves u in
      then_leads m c a i is goal (record { leg = f.leg; shown = f.shown; unbarred = lg i f.leg f.shown free f.unbarred; leaves = f.leaves; new = st' f.leg.to f.new; rest = looser (barring a b) (barring a c) f.leg.to is goal st' lg' f.new f.rest })

  -- the legs lead to where they end
  pub leads_end : (b : Bars) (a : ℕ) (is : List ℕ) (goal : ℕ) → Leads m b a is goal → end_of m a is ≡ goal
  leads_end b a [] goal h = h
  leads_end b a (i ∷ is) goal h =
      let f = first_leg m b a i is goal h in
      rw f.shown (leads_end (barring a b) f.leg.to is goal f.rest)

  -- the end is not barred
  pub end_free : (b : Bars) (a : ℕ) (is : List ℕ) (goal : ℕ) → b.station a ≡ false → Leads m b a is goal → (passed m b a is).station goal ≡ false
  end_free b a [] goal u h = rw h at u
  end_free b a (i ∷ is) goal u h =
      let f = first_leg m b a i is goal h in
      subst⁻¹ (λ (o : Option Leg). (passed m (barring a b) (leads_to o a) is).station goal ≡ false) f.shown (end_free (barring a b) f.leg.to is goal f.new f.rest)

  -- to pass stations bars no leg, and frees no station
  pub passed_leg : (b : Bars) (a : ℕ) (is : List ℕ) (i : ℕ) → (passed m b a is).leg i ≡ b.leg i
  passed_leg b a [] i = refl
  passed_leg b a (j ∷ is) i = passed_leg (barring a b) (leads_to (m.at j) a) is i

  pub passed_less : (b : Bars) (a : ℕ) (is : List ℕ) (s : ℕ) → (passed m b a is).station s ≡ false → b.station s ≡ false
  passed_less b a [] s h = h
  passed_less b a (j ∷ is) s h = barring_less a b s (passed_less (barring a b) (leads_to (m.at j) a) is s h)

  -- no legs lead back to where they began
  pub no_return : (b : Bars) (a i : ℕ) (is : List ℕ) → Leads m b a (i ∷ is) a → ⊥
  no_return b a i is h =
      let f = first_leg m b a i is a h in
      both_ways ((barring a b).station a) (passed_less (barring a b) f.leg.to is a (end_free (barring a b) f.leg.to is a f.new f.rest)) (barring_itself a b)

  pub split : (b : Bars) (a : ℕ) (p q : List ℕ) (goal : ℕ) → Leads m b a (p ++ q) goal → Leads m b a p (end_of m a p) × Leads m (passed m b a p) (end_of m a p) q goal
  split b a [] q goal h = (refl, h)
  split b a (i ∷ p) q goal h =
      let f = first_leg m b a i (p ++ q) goal h in
      let r = split (barring a b) f.leg.to p q goal f.rest in
      rw f.shown ((f.unbarred, f.leaves, f.new, r.0), r.1)

  pub connect : (b : Bars) (a : ℕ) (p q : List ℕ) (v goal : ℕ) → Leads m b a p v → Leads m (passed m b a p) v q goal → Leads m b a (p ++ q) goal
  connect b a [] q v goal h k = subst (λ (x : ℕ). Leads m b x q goal) (sym h) k
  connect b a (i ∷ p) q v goal h k =
      let f = first_leg m b a i p v h in
      then_leads m b a i (p ++ q) goal (record { leg = f.leg; shown = f.shown; unbarred = f.unbarred; leaves = f.leaves; new = f.new; rest = connect (barring a b) f.leg.to p q v goal f.rest (rw f.shown at k) })

  -- legs that lead to the goal lead there no more with others behind them
  pub ends_there : (b : Bars) (a : ℕ) (p : List ℕ) (i : ℕ) (is : List ℕ) (goal : ℕ) → Leads m b a p goal → Leads m b a (p ++ (i ∷ is)) goal → ⊥
  ends_there b a p i is goal h k =
      let r : Leads m (passed m b a p) (end_of m a p) (i ∷ is) goal = (split b a p (i ∷ is) goal k).1 in
      no_return (passed m b a p) goal i is (subst (λ (x : ℕ). Leads m (passed m b a p) x (i ∷ is) goal) (leads_end b a p goal h) r)

  pub end_append : (a : ℕ) (p q : List ℕ) → end_of m a (p ++ q) ≡ end_of m (end_of m a p) q
  end_append a [] q = refl
  end_append a (i ∷ p) q = end_append (leads_to (m.at i) a) p q

  pub passed_append : (b : Bars) (a : ℕ) (p q : List ℕ) → passed m b a (p ++ q) ≡ passed m (passed m b a p) (end_of m a p) q
  passed_append b a [] q = refl
  passed_append b a (i ∷ p) q = passed_append (barring a b) (leads_to (m.at i) a) p q

  -- the stations met are not barred, and distinct
  pub met_free : (b : Bars) (a : ℕ) (is : List ℕ) (goal : ℕ) → b.station a ≡ false → Leads m b a is goal → AllByRecursion (λ x. b.station x ≡ false) (met m a is)
  met_free b a [] goal u h = (u, tt)
  met_free b a (i ∷ is) goal u h =
      let f = first_leg m b a i is goal h in
      let rest = met_free (barring a b) f.leg.to is goal f.new f.rest in
      (u, rw f.shown (All-weaker (λ x. (barring a b).station x ≡ false) (λ x. b.station x ≡ false) (λ x. barring_less a b x) (met m f.leg.to is) rest))

  pub met_distinct : (b : Bars) (a : ℕ) (is : List ℕ) (goal : ℕ) → b.station a ≡ false → Leads m b a is goal → Distinct (met m a is)
  met_distinct b a [] goal u h = (tt, tt)
  met_distinct b a (i ∷ is) goal u h =
      let f = first_leg m b a i is goal h in
      let rest = met_free (barring a b) f.leg.to is goal f.new f.rest in
      rw f.shown (All-weaker (λ x. (barring a b).station x ≡ false) (λ x. x ≡ a → ⊥) (barring_other a b) (met m f.leg.to is) rest, met_distinct (barring a b) f.leg.to is goal f.new f.rest)

  pub met_below : (n : ℕ) (b : Bars) (a : ℕ) (is : List ℕ) (goal : ℕ) → ((i : ℕ) (l : Leg) → m.at i ≡ Some l → l.to < n) → a < n → Leads m b a is goal → AllByRecursion (λ x. x < n) (met m a is)
  met_below n b a [] goal fits l h = (l, tt)
  met_below n b a (i ∷ is) goal fits l h =
      let f = first_leg m b a i is goal h in
      (l, rw f.shown (met_below n (barring a b) f.leg.to is goal fits (fits i f.leg f.shown) f.rest))

  pub length_met : (a : ℕ) (is : List ℕ) → length (met m a is) ≡ suc (length is)
  length_met a [] = refl
  length_met a (i ∷ is) = ap suc (length_met (leads_to (m.at i) a) is)

  -- some legs that lead are fewer than the stations that are not barred
  pub fewer : (n : ℕ) (b : Bars) (a : ℕ) (is : List ℕ) (goal : ℕ) → ((i : ℕ) (l : Leg) → m.at i ≡ Some l → l.to < n) → a < n → b.station a ≡ false → Leads m b a is goal → length is < left n b.station
  fewer n b a [] goal fits l u h = omega (arith, left_one n a b.station l u)
  fewer n b a (i ∷ is) goal fits l u h =
      let f = first_leg m b a i is goal h in
      omega (arith, left_one n a b.station l u, fewer n (barring a b) f.leg.to is goal fits (fits i f.leg f.shown) f.new f.rest)

module _ (m : Meaning) (sound : Sound m) where
  pub leads_short : (b : Bars) (a : ℕ) (is : List ℕ) (goal : ℕ) → a < m.stations → b.station a ≡ false → Leads m b a is goal → length is < m.stations
  leads_short b a is goal l u h = omega (arith, fewer m m.stations b a is goal (λ i l e. (sound.fits i l e).to_fits) l u h, left_all m.stations b.station)

  pub starts_below : (b : Bars) (s t : ℕ) (is : List ℕ) → Route m b s t is → s < m.stations
  starts_below b s t [] r = absurd (omega (arith, r.some))
  starts_below b s t (i ∷ is) r = let f = first_leg m b s i is t r.leads in rw f.leaves at (sound.fits i f.leg f.shown).from_fits

  pub short : (b : Bars) (s t : ℕ) (is : List ℕ) → Route m b s t is → length is < m.stations
  short b s t is r = leads_short b s is t (starts_below b s t is r) r.free r.leads

pub loopless : Loopless
loopless = record { pigeonhole = pigeonhole; distinct = λ m b s t is r. met_distinct m b s is t r.free r.leads; short = short }

pub parts : Parts
parts = record { split = split; connect = connect }
