-- Costs of legs one after another, and the rank of what has a common root.
use Rattle.std.proofs.Common.{◌≡◌, ℕ, ◌+◌, ◌<◌, ◌≤◌, true, false, eqb, ltb, ◌⊎◌, List, [], ◌∷◌, ◌++◌, length, Some, sym, refl, ap, ◌∙◌, inl, inr, append-nil, one-add, arith, length-append}
use Rattle.std.specs.List.{AllByRecursion}
use Rattle.std.proofs.lemmas.Bool.{cases_Bool, eq-eqb}
use Rattle.std.proofs.lemmas.Bool.Decides.{nat_tests}
use Rattle.network.specs.declared.leg.Leg.{Leg}
use Rattle.network.specs.Meaning.{Meaning, Sound}
use Rattle.cost.specs.Costs.{Costs, Laws}
use Rattle.route.specs.Routes.{Bars, barring, Leads, Route, cost, leg_cost, lower, shorter, ahead}
use Rattle.route.proofs.Walks.{first_leg, short}
use Rattle.route.specs.Claims.{Ranks}
use Rattle.route.proofs.Order.{strict_one_way, shorter_strict, ahead_strict, shorter_less, ahead_by_legs}

-- each number has a leg
abbrev pub Real : Meaning → List ℕ → Type 0
Real m is = AllByRecursion (λ i. (l : Leg) × (m.at i ≡ Some l)) is

pub leads_real : (m : Meaning) (b : Bars) (a : ℕ) (is : List ℕ) (goal : ℕ) → Leads m b a is goal → Real m is
leads_real m b a [] goal h = tt
leads_real m b a (i ∷ is) goal h = let f = first_leg m b a i is goal h in ((f.leg, f.shown), leads_real m (barring a b) f.leg.to is goal f.rest)

pub real_split : (m : Meaning) (p q : List ℕ) → Real m (p ++ q) → Real m p × Real m q
real_split m [] q r = (tt, r)
real_split m (i ∷ p) q r = let h = real_split m p q r.1 in ((r.0, h.0), h.1)

pub lower_root : (p x y : List ℕ) → lower (p ++ x) (p ++ y) ≡ lower x y
lower_root [] x y = refl
lower_root (i ∷ p) x y = rw (eq-eqb i i refl) (lower_root p x y)

pub shorter_root : (p x y : List ℕ) → shorter (p ++ x) (p ++ y) ≡ shorter x y
shorter_root p x y =
    let e : eqb (length p + length x) (length p + length y) ≡ eqb (length x) (length y) = grind (arith, nat_tests) in
    let l : ltb (length p + length x) (length p + length y) ≡ ltb (length x) (length y) = grind (arith, nat_tests) in
    rw (length-append p x, length-append p y, e, l, lower_root p x y) refl

module _ (m : Meaning) (sound : Sound m) {C : Type 0} (k : Costs C) (laws : Laws k) where
  pub stands : (is : List ℕ) → Real m is → length is ≤ 63 → k.stands (cost k m is) (length is)
  stands [] r h = laws.stands_zero
  stands (i ∷ is) r h =
      let rest : k.stands (cost k m is) (length is) = stands is r.1 (omega arith) in
      let one : k.stands (leg_cost k (m.at i)) 1 = rw r.0.1 (laws.stands_leg r.0.0 (sound.fits i r.0.0 r.0.1).figures) in
      let fits : 1 + length is ≤ 63 = omega arith in
      rw one-add at (laws.stands_join (leg_cost k (m.at i)) (cost k m is) 1 (length is) one rest fits)

  pub leads_stands : (b : Bars) (a : ℕ) (is : List ℕ) (goal : ℕ) → Leads m b a is goal → length is ≤ 63 → k.stands (cost k m is) (length is)
  leads_stands b a is goal h l = stands is (leads_real m b a is goal h) l

  pub cost_append : (p q : List ℕ) → Real m p → Real m q → length p + length q ≤ 63 → cost k m (p ++ q) ≡ k.join (cost k m p) (cost k m q)
  cost_append [] q r s h = sym (laws.zero_left (cost k m q) (length q) (stands q s (omega arith)) (omega arith))
  cost_append (i ∷ p) q r s h =
      let one : k.stands (leg_cost k (m.at i)) 1 = rw r.0.1 (laws.stands_leg r.0.0 (sound.fits i r.0.0 r.0.1).figures) in
      ap (λ (c : C). k.join (leg_cost k (m.at i)) c) (cost_append p q r.1 s (omega arith)) ∙ sym (laws.assoc (leg_cost k (m.at i)) (cost k m p) (cost k m q) 1 (length p) (length q) one (stands p r.1 (omega arith)) (stands q s (omega arith)) (omega arith))

  -- a common part before keeps which comes before
  pub before_left : (a b c : C) (i j n : ℕ) → k.stands a i → k.stands b j → k.stands c n → i + n ≤ 63 → j + n ≤ 63 → k.before (k.join c a) (k.join c b) ≡ k.before a b
  before_left a b c i j n sa sb sc h g = go (cases_Bool (k.before a b)) (cases_Bool (k.before b a))
    where
      go : (k.before a b ≡ true) ⊎ (k.before a b ≡ false) → (k.before b a ≡ true) ⊎ (k.before b a ≡ false) → k.before (k.join c a) (k.join c b) ≡ k.before a b
      go (inl e) f = laws.keeps_left a b c i j n sa sb sc h g e ∙ sym e
      go (inr e) (inl f) = laws.one_way (k.join c b) (k.join c a) (laws.keeps_left b a c j i n sb sa sc g h f) ∙ sym e
      go (inr e) (inr f) = rw (laws.total a b e f) (laws.irreflexive (k.join c b) ∙ sym (laws.irreflexive b))

  -- A5: a common root keeps the rank
  pub ahead_root : (p x y : List ℕ) → Real m p → Real m x → Real m y → length p + length x ≤ 63 → length p + length y ≤ 63 → ahead k m (p ++ x) (p ++ y) ≡ ahead k m x y
  ahead_root p x y rp rx ry h g =
      let sp = stands p rp (omega arith) in
      let sx = stands x rx (omega arith) in
      let sy = stands y ry (omega arith) in
      rw (cost_append p x rp rx h, cost_append p y rp ry g, before_left (cost k m x) (cost k m y) (cost k m p) (length x) (length y) (length p) sx sy sp (omega arith) (omega arith), before_left (cost k m y) (cost k m x) (cost k m p) (length y) (length x) (length p) sy sx sp (omega arith) (omega arith), shorter_root p x y) refl

  pub zero_first : (a : C) (n : ℕ) → k.stands a n → n ≤ 63 → k.before a k.zero ≡ false
  zero_first a n s h = rw (laws.zero_left a n s h) at (laws.grows k.zero a 0 n laws.stands_zero s (omega arith))

  -- the left version of the law `grows`
  pub grows_left : (a b : C) (i j : ℕ) → k.stands a i → k.stands b j → i + j ≤ 63 → k.before (k.join a b) b ≡ false
  grows_left a b i j sa sb h = go (cases_Bool (k.before k.zero a))
    where
      zb : k.join k.zero b ≡ b
      zb = laws.zero_left b j sb (omega arith)

      go : (k.before k.zero a ≡ true) ⊎ (k.before k.zero a ≡ false) → k.before (k.join a b) b ≡ false
      go (inl e) = laws.one_way b (k.join a b) (rw zb at (laws.keeps_right k.zero a b 0 i j laws.stands_zero sa sb (omega arith) (omega arith) e))
      go (inr e) = rw (laws.total a k.zero (zero_first a i sa (omega arith)) e, zb) (laws.irreflexive b)

  pub before_suffix : (p q : List ℕ) → Real m p → Real m q → length p + length q ≤ 63 → k.before (cost k m (p ++ q)) (cost k m q) ≡ false
  before_suffix p q rp rq h = rw (cost_append p q rp rq h) (grows_left (cost k m p) (cost k m q) (length p) (length q) (stands p rp (omega arith)) (stands q rq (omega arith)) h)

  pub before_prefix : (p q : List ℕ) → Real m p → Real m q → length p + length q ≤ 63 → k.before (cost k m (p ++ q)) (cost k m p) ≡ false
  before_prefix p q rp rq h = rw (cost_append p q rp rq h) (laws.grows (cost k m p) (cost k m q) (length p) (length q) (stands p rp (omega arith)) (stands q rq (omega arith)) h)

  -- what costs no less and has no fewer legs is not ahead, but for itself
  ahead_longer : (x y : List ℕ) → k.before (cost k m x) (cost k m y) ≡ false → length y < length x → ahead k m x y ≡ false
  ahead_longer x y h l = go (cases_Bool (k.before (cost k m y) (cost k m x)))
    where
      go : (k.before (cost k m y) (cost k m x) ≡ true) ⊎ (k.before (cost k m y) (cost k m x) ≡ false) → ahead k m x y ≡ false
      go (inl e) = rw (h, e) refl
      go (inr e) = ahead_by_legs m k laws x y (laws.total (cost k m x) (cost k m y) h e) ∙ strict_one_way shorter_strict y x (shorter_less y x l)

  pub ahead_suffix : (p q : List ℕ) → Real m p → Real m q → length p + length q ≤ 63 → ahead k m (p ++ q) q ≡ false
  ahead_suffix [] q rp rq h = (ahead_strict m k laws).never q
  ahead_suffix (i ∷ p) q rp rq h = ahead_longer ((i ∷ p) ++ q) q (before_suffix (i ∷ p) q rp rq h) (omega (arith, length-append p q))

  pub ahead_prefix : (p q : List ℕ) → Real m p → Real m q → length p + length q ≤ 63 → ahead k m (p ++ q) p ≡ false
  ahead_prefix p [] rp rq h = rw append-nil ((ahead_strict m k laws).never p)
  ahead_prefix p (j ∷ q) rp rq h = ahead_longer (p ++ (j ∷ q)) p (before_prefix p (j ∷ q) rp rq h) (omega (arith, length-append p (j ∷ q)))

  -- the same of routes, which are short enough
  pub route_fits : (b : Bars) (s t : ℕ) (is : List ℕ) → Route m b s t is → length is ≤ 63
  route_fits b s t is r = omega (arith, short m sound b s t is r, sound.stations_high)

  pub route_parts : (b : Bars) (s t : ℕ) (p q : List ℕ) → Route m b s t (p ++ q) → Real m p × Real m q × (length p + length q ≤ 63)
  route_parts b s t p q r =
      let x = real_split m p q (leads_real m b s (p ++ q) t r.leads) in
      (x.0, x.1, rw length-append at (route_fits b s t (p ++ q) r))

  pub route_root : (b c : Bars) (s t : ℕ) (p x y : List ℕ) → Route m b s t (p ++ x) → Route m c s t (p ++ y) → ahead k m (p ++ x) (p ++ y) ≡ ahead k m x y
  route_root b c s t p x y rx ry =
      let hx = route_parts b s t p x rx in
      let hy = route_parts c s t p y ry in
      ahead_root p x y hx.0 hx.1 hy.1 hx.2 hy.2

pub ranks : {C : Type 0} (k : Costs C) → Laws k → Ranks k
ranks k laws = record { strict = λ m. ahead_strict m k laws; stands = λ m sound b s t is r. leads_stands m sound k laws b s is t r.leads (route_fits m sound k laws b s t is r); parts = λ m sound b s t p q r. let h = route_parts m sound k laws b s t p q r in cost_append m sound k laws p q h.0 h.1 h.2; root = λ m sound. route_root m sound k laws; suffix = λ m sound b s t p q r. let h = route_parts m sound k laws b s t p q r in before_suffix m sound k laws p q h.0 h.1 h.2; prefix = λ m sound b s t p q r. let h = route_parts m sound k laws b s t p q r in before_prefix m sound k laws p q h.0 h.1 h.2 }
