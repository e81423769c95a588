-- Stems: the roots of the given routes, and before the first of them the empty one.
use Rattle.std.proofs.Common.{◌≡◌, ℕ, zero, suc, ◌-◌, ◌<◌, ◌≤◌, false, ◌⊎◌, List, [], ◌∷◌, ◌++◌, length, take, drop, sym, refl, ap, ◌∙◌, subst, inl, inr, arith, take-append-drop, length-take-le}
use mathlib.Core.Path.{subst⁻¹}
use Rattle.std.specs.List.{ContainsAt, AllByRecursion}
use Rattle.std.proofs.lemmas.List.{length_push, get_or_push}
use Rattle.std.proofs.ByRecursion.{All-get_or, has_get_or, has_push, has_push_cases, has_append_left}
use Rattle.network.specs.Meaning.{Meaning, Sound}
use Rattle.cost.specs.Costs.{Costs, Laws}
use Rattle.route.specs.Routes.{no_bars, Route, ahead}
use Rattle.route.specs.Deviation.{end_of, deviation, Other, Next, Root, Leading}
use Rattle.route.specs.Pool.{Stem, newest, fronts}
use Rattle.route.proofs.Order.{strict_behind, ahead_strict}
use Rattle.route.proofs.Joins.{route_root}
use Rattle.route.proofs.Deviations.{deviation_sound, deviation_covers, given_cases, root_at}
use Rattle.route.proofs.Lawler.{onward}

pub root_push : (given : List (List ℕ)) (w p : List ℕ) → Root given p → Root (given ++ w ∷ []) p
root_push given w p r = record { route = r.route; has = has_append_left given (w ∷ []) r.route r.has; at = r.at; within = r.within; is = r.is }

-- a stem stays one
pub stem_push : (given : List (List ℕ)) (w p : List ℕ) → 0 < length w → Stem given p → Stem (given ++ w ∷ []) p
stem_push [] w p some e = record { route = w; has = has_push [] w; at = 0; within = some; is = e }
stem_push (g ∷ gs) w p some r = root_push (g ∷ gs) w p r

pub newest_push : (given : List (List ℕ)) (w : List ℕ) → newest (given ++ w ∷ []) ≡ w
newest_push given w = get_or_push given w [] (length (given ++ w ∷ []) - 1) (omega (arith, length_push given w))

-- each front of the newest route is a stem
pub stem_front : (m : Meaning) (s t : ℕ) (given : List (List ℕ)) → AllByRecursion (Route m no_bars s t) given → (j : ℕ) → j < fronts given → Stem given (take j (newest given))
stem_front m s t [] routes zero l = refl
stem_front m s t [] routes (suc j) l = absurd (omega arith)
stem_front m s t (g ∷ gs) routes j l =
    let within : length (g ∷ gs) - 1 < length (g ∷ gs) = omega arith in
    let r : Route m no_bars s t (newest (g ∷ gs)) = All-get_or (Route m no_bars s t) (g ∷ gs) (length (g ∷ gs) - 1) [] within routes in
    root_at (g ∷ gs) (newest (g ∷ gs)) j (has_get_or (g ∷ gs) (length (g ∷ gs) - 1) [] within) (omega (arith, r.some))

-- w is a stem and a spur
pub record Stemmed (m : Meaning) (given : List (List ℕ)) (s t : ℕ) (w : List ℕ) : Type 0 where
  pub root : List ℕ
  pub spur : List ℕ
  pub stem : Stem given root
  pub parts : w ≡ root ++ spur
  pub route : Route m (deviation m given s root) (end_of m s root) t spur

module _ (m : Meaning) (s t : ℕ) where
  pub stem_sound : (given : List (List ℕ)) → AllByRecursion (Route m no_bars s t) given → (p q : List ℕ) → Stem given p → Route m (deviation m given s p) (end_of m s p) t q → Other m given s t (p ++ q)
  stem_sound [] routes p q e r =
      let free : Route m no_bars s t q = subst (λ (x : List ℕ). Route m (deviation m [] s x) (end_of m s x) t q) e r in
      subst⁻¹ (λ (x : List ℕ). Other m [] s t (x ++ q)) e (record { route = free; new = λ h. omega (arith, h.1) })
  stem_sound (g ∷ gs) routes p q root r = deviation_sound m (g ∷ gs) s t routes p q root r

  pub stem_covers : (given : List (List ℕ)) → AllByRecursion (Route m no_bars s t) given → (w : List ℕ) → Other m given s t w → Stemmed m given s t w
  stem_covers [] routes w o = record { root = []; spur = w; stem = refl; parts = refl; route = o.route }
  stem_covers (g ∷ gs) routes w o =
      let c = deviation_covers m (g ∷ gs) s t routes w (omega arith) o in
      record { root = c.root; spur = c.spur; stem = c.rooted; parts = c.parts; route = c.route }

  -- where no stem has a spur, every route is given
  pub stem_none : (given : List (List ℕ)) → AllByRecursion (Route m no_bars s t) given → ((p : List ℕ) → Stem given p → (q : List ℕ) → Route m (deviation m given s p) (end_of m s p) t q → ⊥) → (w : List ℕ) → Route m no_bars s t w → ContainsAt given w
  stem_none given routes none w r = go (given_cases given w)
    where
      go : ContainsAt given w ⊎ (ContainsAt given w → ⊥) → ContainsAt given w
      go (inl h) = h
      go (inr n) = let c = stem_covers given routes w (record { route = r; new = n }) in absurd (none c.root c.stem c.spur c.route)

  -- once w is given too, only its fronts from its deviation on are new or have other bars
  pub stem_onward : (given : List (List ℕ)) (w : List ℕ) (at : ℕ) → at < length w → Stem given (take at w) → (p : List ℕ) → Stem (given ++ w ∷ []) p → (Stem given p × (deviation m (given ++ w ∷ []) s p ≡ deviation m given s p)) ⊎ ((i : ℕ) × (at ≤ i) × (i < length w) × (p ≡ take i w))
  stem_onward [] w at l e p r = go (has_push_cases [] w r.route r.has)
    where
      none : at ≡ 0
      none = sym (length-take-le at w (omega arith)) ∙ ap length e

      go : ContainsAt [] r.route ⊎ (w ≡ r.route) → (Stem [] p × (deviation m (w ∷ []) s p ≡ deviation m [] s p)) ⊎ ((i : ℕ) × (at ≤ i) × (i < length w) × (p ≡ take i w))
      go (inl h) = absurd (omega (arith, h.1))
      go (inr f) = inr (r.at, omega (arith, none), rw f r.within, r.is ∙ ap (take r.at) (sym f))
  stem_onward (g ∷ gs) w at l r₀ p r = go (onward m (g ∷ gs) s r₀.route r₀.at (drop at w) r₀.has r₀.within r.route r.at (subst (λ (x : List ℕ). ContainsAt ((g ∷ gs) ++ x ∷ []) r.route) e r.has) r.within)
    where
      v : List ℕ
      v = take r₀.at r₀.route ++ drop at w

      e : w ≡ v
      e = sym (take-append-drop at w) ∙ ap (λ (x : List ℕ). x ++ drop at w) r₀.is

      level : at ≡ r₀.at
      level = sym (length-take-le at w (omega arith)) ∙ (ap length r₀.is ∙ length-take-le r₀.at r₀.route (omega (arith, r₀.within)))

      Same : Type 0
      Same = (f : List ℕ) × (j : ℕ) × ContainsAt (g ∷ gs) f × (j < length f) × (take r.at r.route ≡ take j f) × (deviation m ((g ∷ gs) ++ v ∷ []) s (take r.at r.route) ≡ deviation m (g ∷ gs) s (take r.at r.route))

      New : Type 0
      New = (j : ℕ) × (r₀.at ≤ j) × (j < length v) × (take r.at r.route ≡ take j v)

      go : Same ⊎ New → (Stem (g ∷ gs) p × (deviation m ((g ∷ gs) ++ w ∷ []) s p ≡ deviation m (g ∷ gs) s p)) ⊎ ((i : ℕ) × (at ≤ i) × (i < length w) × (p ≡ take i w))
      go (inl a) =
          inl (record { route = a.0; has = a.2; at = a.1; within = a.3; is = r.is ∙ a.4 }, subst⁻¹ (λ (x : List ℕ). deviation m ((g ∷ gs) ++ x ∷ []) s p ≡ deviation m (g ∷ gs) s p) e (subst⁻¹ (λ (x : List ℕ). deviation m ((g ∷ gs) ++ v ∷ []) s x ≡ deviation m (g ∷ gs) s x) r.is a.5))
      go (inr b) = inr (b.0, omega (arith, level, b.1), subst⁻¹ (λ (x : List ℕ). b.0 < length x) e b.2, r.is ∙ (b.3 ∙ ap (take b.0) (sym e)))

  module _ (sound : Sound m) {C : Type 0} (k : Costs C) (laws : Laws k) (given : List (List ℕ)) (routes : AllByRecursion (Route m no_bars s t) given) where
    -- another route that leads at each stem is the next
    pub stem_next : (w : List ℕ) → Other m given s t w → ((p : List ℕ) → Stem given p → Leading k m given s t w p) → Next k m given s t w
    stem_next w o answers = record { other = o; first = λ js oj. behind js (stem_covers given routes js oj) }
      where
        behind : (js : List ℕ) → Stemmed m given s t js → ahead k m js w ≡ false
        behind js c = go (answers c.root c.stem)
          where
            go : Leading k m given s t w c.root → ahead k m js w ≡ false
            go (inl a) =
                let x = (stem_sound given routes c.root c.spur c.stem c.route).route in
                let y = (stem_sound given routes c.root a.0 c.stem a.1.route).route in
                let one : ahead k m (c.root ++ c.spur) (c.root ++ a.0) ≡ false = route_root m sound k laws no_bars no_bars s t c.root c.spur a.0 x y ∙ a.1.first c.spur c.route in
                rw c.parts (strict_behind (ahead_strict m k laws) w (c.root ++ a.0) (c.root ++ c.spur) a.2 one)
            go (inr none) = absurd (none c.spur c.route)
