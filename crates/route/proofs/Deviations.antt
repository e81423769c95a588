-- Yen and Lawler: the next route leaves a given one at a root, and is the least of the least spurs.
use Rattle.std.proofs.Common.{◌≡◌, ℕ, zero, suc, ◌<◌, true, false, eqb, ◌⊎◌, List, [], ◌∷◌, ◌++◌, length, get_or, take, drop, Some, Decides, sym, refl, ap, ◌∙◌, subst, inl, inr, append-nil, arith, length-append, take-append-drop, drop-cons}
use lib.Seq.{take-append_seam, append_snoc}
use Rattle.std.specs.List.{ContainsAt, HoldsAt, AllByRecursion}
use Rattle.std.proofs.ByRecursion.{all-has, has_get_or}
use Rattle.std.proofs.lemmas.Bool.{cases_Bool, cases_eq, both_ways, eqb-true, eq-eqb, and_parts, and_from}
use Rattle.std.proofs.lemmas.Bool.Decides.{Decides-by_or}
use Rattle.network.specs.declared.leg.Leg.{Leg}
use Rattle.network.specs.Meaning.{Meaning, Sound}
use Rattle.cost.specs.Costs.{Costs, Laws}
use Rattle.route.specs.Routes.{Bars, no_bars, barring, Leads, Route, ahead}
use Rattle.route.specs.Deviation.{end_of, passed, goes_on, taken, deviation, Other, Next, Root, Leading}
use Rattle.route.specs.Claims.{Deviates}
use Rattle.route.proofs.Walks.{First, first_leg, then_leads, looser, end_free, split, connect, ends_there, passed_leg, barring_itself}
use Rattle.route.proofs.Order.{strict_behind, ahead_strict}
use Rattle.route.proofs.Joins.{route_root}

pub goes_on_is : (p : List ℕ) (j : ℕ) (g : List ℕ) → Decides (goes_on p j g) ((rest : List ℕ) × (g ≡ p ++ (j ∷ rest)))
goes_on_is p j [] = (λ e. absurd (both_ways false refl e), λ h. absurd (omega (arith, ap length h.1, length-append p (j ∷ h.0))))
goes_on_is [] j (x ∷ xs) = (λ e. (xs, let z = eqb-true x j e in cc), λ h. eq-eqb x j (cc h.1))
goes_on_is (i ∷ p) j (x ∷ xs) =
    let r = goes_on_is p j xs in
    (λ e. let y = and_parts (eqb x i) (goes_on p j xs) e in let z = r.0 y.1 in (z.0, cc (eqb-true x i y.0, z.1)), λ h. and_from (eqb x i) (goes_on p j xs) (eq-eqb x i (cc h.1)) (r.1 (h.0, cc h.1)))

-- a leg is taken where some given route goes on with it
taken_is : (given : List (List ℕ)) (p : List ℕ) (j : ℕ) → Decides (taken given p j) ((k : ℕ) × (k < length given) × HoldsAt (λ g. (rest : List ℕ) × (g ≡ p ++ (j ∷ rest))) given k)
taken_is given p j = Decides-by_or (λ g. goes_on p j g) (λ g. (rest : List ℕ) × (g ≡ p ++ (j ∷ rest))) (λ gs. taken gs p j) (λ g. goes_on_is p j g) refl (λ _ _. refl) given

-- a given route that goes on so
pub record Taken (given : List (List ℕ)) (p : List ℕ) (j : ℕ) : Type 0 where
  pub rest : List ℕ
  pub has : ContainsAt given (p ++ (j ∷ rest))

pub taken_by : (given : List (List ℕ)) (p : List ℕ) (j : ℕ) → taken given p j ≡ true → Taken given p j
taken_by given p j e =
    let w = (taken_is given p j).0 e in
    let r = w.2 [] in
    record { rest = r.0; has = subst (λ (g : List ℕ). ContainsAt given g) r.1 (has_get_or given w.0 [] w.1) }

pub taken_since : (given : List (List ℕ)) (p : List ℕ) (j : ℕ) (rest : List ℕ) → ContainsAt given (p ++ (j ∷ rest)) → taken given p j ≡ true
taken_since given p j rest h = (taken_is given p j).1 (h.0, h.1, λ d. (rest, h.2 d))

-- a root, with the leg behind it
pub root_by : {given : List (List ℕ)} {p : List ℕ} → Root given p → (j : ℕ) × Taken given p j
root_by {given} {p} r =
    let e : r.route ≡ p ++ (get_or r.route r.at 0 ∷ drop (suc r.at) r.route) = sym (take-append-drop r.at r.route) ∙ (rw (drop-cons r.route r.at 0 r.within, r.is) refl) in
    (get_or r.route r.at 0, record { rest = drop (suc r.at) r.route; has = subst (λ (g : List ℕ). ContainsAt given g) e r.has })

pub root_since : {given : List (List ℕ)} {p : List ℕ} {j : ℕ} → Taken given p j → Root given p
root_since {given} {p} {j} t = record { route = p ++ (j ∷ t.rest); has = t.has; at = length p; within = omega (arith, length-append p (j ∷ t.rest)); is = sym (take-append_seam p (j ∷ t.rest)) }

-- w is a root and a spur
pub record Covered (m : Meaning) (given : List (List ℕ)) (s t : ℕ) (w : List ℕ) : Type 0 where
  pub root : List ℕ
  pub spur : List ℕ
  pub rooted : Root given root
  pub parts : w ≡ root ++ spur
  pub route : Route m (deviation m given s root) (end_of m s root) t spur

module _ (m : Meaning) (given : List (List ℕ)) (s t : ℕ) (routes : AllByRecursion (Route m no_bars s t) given) where
  the_route : (g : List ℕ) → ContainsAt given g → Route m no_bars s t g
  the_route g h = all-has (Route m no_bars s t) given g routes h

  -- a root leads to its end
  root_leads : (p : List ℕ) → Root given p → Leads m no_bars s p (end_of m s p)
  root_leads p r =
      let x = root_by r in
      (split m no_bars s p (x.0 ∷ x.1.rest) t (the_route (p ++ (x.0 ∷ x.1.rest)) x.1.has).leads).0

  -- a leg that is taken leaves from there
  taken_leaves : (p : List ℕ) (j : ℕ) (l : Leg) → m.at j ≡ Some l → Taken given p j → l.from ≡ end_of m s p
  taken_leaves p j l e x =
      let r = (split m no_bars s p (j ∷ x.rest) t (the_route (p ++ (j ∷ x.rest)) x.has).leads).1 in
      let f = first_leg m (passed m no_bars s p) (end_of m s p) j x.rest t r in
      let same : l ≡ f.leg = cc (e, f.shown) in
      rw same f.leaves

  pub deviation_sound : (p q : List ℕ) → Root given p → Route m (deviation m given s p) (end_of m s p) t q → Other m given s t (p ++ q)
  deviation_sound p [] root r = absurd (omega (arith, r.some))
  deviation_sound p (j ∷ q) root r =
      let back : Leads m (passed m no_bars s p) (end_of m s p) (j ∷ q) t = looser m (deviation m given s p) (passed m no_bars s p) (end_of m s p) (j ∷ q) t (λ _ u. u) (λ i _ _ _ _. passed_leg m no_bars s p i) r.free r.leads in
      let whole : Leads m no_bars s (p ++ (j ∷ q)) t = connect m no_bars s p (j ∷ q) (end_of m s p) t (root_leads p root) back in
      let f = first_leg m (deviation m given s p) (end_of m s p) j q t r.leads in
      record { route = record { some = omega (arith, length-append p (j ∷ q)); free = refl; leads = whole }; new = λ h. both_ways (taken given p j) f.unbarred (taken_since given p j q h) }

  -- what leaves the root by a leg that is not taken is a route under the deviation's bars
  spur_route : (p : List ℕ) (j : ℕ) (q : List ℕ) → Leads m no_bars s (p ++ (j ∷ q)) t → taken given p j ≡ false → Route m (deviation m given s p) (end_of m s p) t (j ∷ q)
  spur_route p j q h u =
      record { some = omega arith; free = end_free m no_bars s p v refl parts.0; leads = then_leads m (deviation m given s p) v j q t (record { leg = f.leg; shown = f.shown; unbarred = u; leaves = f.leaves; new = f.new; rest = looser m (barring v met) (barring v (deviation m given s p)) f.leg.to q t (λ _ e. e) (λ i l e free _. go i l e free (cases_Bool (taken given p i))) f.new f.rest }) }
    where
      v : ℕ
      v = end_of m s p

      met : Bars
      met = passed m no_bars s p

      parts : Leads m no_bars s p v × Leads m met v (j ∷ q) t
      parts = split m no_bars s p (j ∷ q) t h

      f : First m met v j q t
      f = first_leg m met v j q t parts.1

      go : (i : ℕ) (l : Leg) → m.at i ≡ Some l → (barring v met).station l.from ≡ false → (taken given p i ≡ true) ⊎ (taken given p i ≡ false) → taken given p i ≡ false
      go i l e free (inr n) = n
      go i l e free (inl y) = absurd (both_ways ((barring v met).station v) (subst (λ (x : ℕ). (barring v met).station x ≡ false) (taken_leaves p i l e (taken_by given p i y)) free) (barring_itself v met))

  -- from a front of w that is a given route's too, go on while some given route does
  cover_from : (w : List ℕ) → Other m given s t w → (q p : List ℕ) → w ≡ p ++ q → (behind : List ℕ) → ContainsAt given (p ++ behind) → Covered m given s t w
  cover_from w o [] p e [] h = absurd (o.new (subst (λ (x : List ℕ). ContainsAt given x) (sym e) h))
  cover_from w o [] p e (i ∷ is) h =
      let lead : Leads m no_bars s p t = subst (λ (x : List ℕ). Leads m no_bars s x t) (e ∙ append-nil p) o.route.leads in
      absurd (ends_there m no_bars s p i is t lead (the_route (p ++ (i ∷ is)) h).leads)
  cover_from w o (j ∷ q) p e behind h = go (cover_from w o q (p ++ (j ∷ [])) (e ∙ sym (append_snoc p j q))) (cases_Bool (taken given p j)) behind h
    where
      lead : Leads m no_bars s (p ++ (j ∷ q)) t
      lead = subst (λ (x : List ℕ). Leads m no_bars s x t) e o.route.leads

      go : ((is : List ℕ) → ContainsAt given ((p ++ (j ∷ [])) ++ is) → Covered m given s t w) → (taken given p j ≡ true) ⊎ (taken given p j ≡ false) → (is : List ℕ) → ContainsAt given (p ++ is) → Covered m given s t w
      go on (inl y) is g = let x = taken_by given p j y in on x.rest (rw append_snoc x.has)
      go on (inr n) [] g = absurd (ends_there m no_bars s p j q t (subst (λ (x : List ℕ). Leads m no_bars s x t) (append-nil p) (the_route (p ++ []) g).leads) lead)
      go on (inr n) (i ∷ is) g = record { root = p; spur = j ∷ q; rooted = root_since {p = p} {j = i} (record { rest = is; has = g }); parts = e; route = spur_route p j q lead n }

  pub deviation_covers : (w : List ℕ) → 0 < length given → Other m given s t w → Covered m given s t w
  deviation_covers w some o = cover_from w o w [] refl (get_or given 0 []) (has_get_or given 0 [] some)

pub lists_cases : (xs ys : List ℕ) → (xs ≡ ys) ⊎ (xs ≡ ys → ⊥)
lists_cases [] [] = inl refl
lists_cases [] (y ∷ ys) = inr (λ e. let z : ◌≡◌ {A = ℕ} 0 1 = cc in omega arith)
lists_cases (x ∷ xs) [] = inr (λ e. let z : ◌≡◌ {A = ℕ} 0 1 = cc in omega arith)
lists_cases (x ∷ xs) (y ∷ ys) = go (cases_eq x y) (lists_cases xs ys)
  where
    go : (x ≡ y) ⊎ (x ≡ y → ⊥) → (xs ≡ ys) ⊎ (xs ≡ ys → ⊥) → (x ∷ xs ≡ y ∷ ys) ⊎ (x ∷ xs ≡ y ∷ ys → ⊥)
    go (inl a) (inl b) = inl cc
    go (inl a) (inr n) = inr (λ e. n (cc))
    go (inr n) b = inr (λ e. n (cc))

pub given_cases : (given : List (List ℕ)) (w : List ℕ) → ContainsAt given w ⊎ (ContainsAt given w → ⊥)
given_cases [] w = inr (λ h. omega (arith, h.1))
given_cases (g ∷ gs) w = go (lists_cases g w) (given_cases gs w)
  where
    not : (g ≡ w → ⊥) → (ContainsAt gs w → ⊥) → (k : ℕ) → k < length (g ∷ gs) → HoldsAt (λ (y : List ℕ). y ≡ w) (g ∷ gs) k → ⊥
    not ne no' zero l h = ne (h [])
    not ne no' (suc k) l h = no' (k, omega arith, λ d. h d)

    go : (g ≡ w) ⊎ (g ≡ w → ⊥) → ContainsAt gs w ⊎ (ContainsAt gs w → ⊥) → ContainsAt (g ∷ gs) w ⊎ (ContainsAt (g ∷ gs) w → ⊥)
    go (inl e) b = inl (0, omega arith, λ d. e)
    go (inr ne) (inl h) = inl (suc h.0, omega (arith, h.1), λ d. h.2 d)
    go (inr ne) (inr no') = inr (λ h. not ne no' h.0 h.1 h.2)

module _ (m : Meaning) (sound : Sound m) {C : Type 0} (k : Costs C) (laws : Laws k) (given : List (List ℕ)) (s t : ℕ) (routes : AllByRecursion (Route m no_bars s t) given) where
  -- under one root, the rank of two spurs is their routes' rank
  spur_rank : (p q r : List ℕ) → Root given p → Route m (deviation m given s p) (end_of m s p) t q → Route m (deviation m given s p) (end_of m s p) t r → ahead k m (p ++ q) (p ++ r) ≡ ahead k m q r
  spur_rank p q r root x y = route_root m sound k laws no_bars no_bars s t p q r (deviation_sound m given s t routes p q root x).route (deviation_sound m given s t routes p r root y).route

  -- what is ahead of w, or w itself, leads where w does
  pub leading_kept : (w v : List ℕ) → ahead k m w v ≡ false → (p : List ℕ) → Leading k m given s t w p → Leading k m given s t v p
  leading_kept w v h p (inl a) = inl (a.0, a.1, strict_behind (ahead_strict m k laws) v w (p ++ a.0) h a.2)
  leading_kept w v h p (inr none) = inr none

  -- another route that leads at each root is the next
  pub next_from : (w : List ℕ) → 0 < length given → Other m given s t w → ((p : List ℕ) → Root given p → Leading k m given s t w p) → Next k m given s t w
  next_from w some o answers = record { other = o; first = λ js oj. behind js (deviation_covers m given s t routes js some oj) }
    where
      behind : (js : List ℕ) → Covered m given s t js → ahead k m js w ≡ false
      behind js c = go (answers c.root c.rooted)
        where
          go : Leading k m given s t w c.root → ahead k m js w ≡ false
          go (inl a) =
              let one : ahead k m (c.root ++ c.spur) (c.root ++ a.0) ≡ false = spur_rank c.root c.spur a.0 c.rooted c.route a.1.route ∙ a.1.first c.spur c.route in
              rw c.parts (strict_behind (ahead_strict m k laws) w (c.root ++ a.0) (c.root ++ c.spur) a.2 one)
          go (inr none) = absurd (none c.spur c.route)

-- where no root has a spur, every route is given
pub no_other : (m : Meaning) (given : List (List ℕ)) (s t : ℕ) → AllByRecursion (Route m no_bars s t) given → 0 < length given → ((p : List ℕ) → Root given p → (q : List ℕ) → Route m (deviation m given s p) (end_of m s p) t q → ⊥) → (w : List ℕ) → Route m no_bars s t w → ContainsAt given w
no_other m given s t routes some none w r = go (given_cases given w)
  where
    go : ContainsAt given w ⊎ (ContainsAt given w → ⊥) → ContainsAt given w
    go (inl h) = h
    go (inr n) = let c = deviation_covers m given s t routes w some (record { route = r; new = n }) in absurd (none c.root c.rooted c.spur c.route)

-- a place in a given route is a root
pub root_at : (given : List (List ℕ)) (g : List ℕ) (i : ℕ) → ContainsAt given g → i < length g → Root given (take i g)
root_at given g i h l = record { route = g; has = h; at = i; within = l; is = refl }

pub deviates : Deviates
deviates =
    record { sound = λ m given s t routes g i q h l. deviation_sound m given s t routes (take i g) q (root_at given g i h l); covers = λ m given s t routes some w o. let c = deviation_covers m given s t routes w some o in let r = c.rooted in (r.route, r.at, c.spur, r.has, r.within, rw (← r.is) c.parts, rw (← r.is) c.route) }
