-- The steps of phase 1, in the tables.
use Rattle.std.proofs.Common.{◌≡◌, ℕ, zero, suc, ◌+◌, ◌-◌, ◌<◌, ◌≤◌, true, false, ◌⊎◌, List, [], ◌∷◌, ◌++◌, length, get_or, set, replicate, Some, None, Option, sym, refl, ap, ◌∙◌, subst, arith}
use Rattle.network.specs.declared.leg.Leg.{Leg}
use Rattle.network.specs.Meaning.{Meaning, Sound}
use Rattle.cost.specs.Costs.{Costs, Laws}
use Rattle.route.specs.Routes.{Bars}
use Rattle.route.specs.Certificate.{Usable, Settling}
use Rattle.route.specs.Progress.{Put, SettlingTo}
use Rattle.route.proofs.Settle.{either, same_leg, settle_none, settle_more, settle_all, relax_none, relax_skip, relax_more, place_stands}
use Rattle.search_types.specs.declared.entry.Entry.{Entry}
use Rattle.std.specs.Prelude.{unwrap_or}
use Rattle.search.specs.Tables.{blank, place, seen, turn, cost_of, Swap, Settles, Settled}
use Rattle.search.proofs.Tables.{place_put, small_put, turn_out, turn_open, seen_placed, placed_seen, placed_most, placed_room, placed_insert, seen_insert, cost_insert, turn_insert, placed_replace, cost_replace, placed_pop, seen_pop, cost_pop, turn_pop}
use Rattle.std.proofs.lemmas.List.{length-set, length_push, length-replicate, get_or-replicate, get_or_past}
use Rattle.std.proofs.lemmas.Bool.{cases_eq, cases_lt}

-- 64 at every place
pub far : (v : ℕ) → ◌≡◌ {A = ℕ} (get_or (replicate 64 64) v 64) 64
far v = either (cases_lt v 64) (λ h. get_or-replicate 64 v 64 64 h) (λ h. get_or_past (replicate 64 64) v 64 (subst (λ y. y ≤ v) (sym (length-replicate {A = ℕ} 64 64)) h))

-- no station has a place
none_at : (v : ℕ) → get_or {A = Option ℕ} (replicate 64 None) v None ≡ None
none_at v = either (cases_lt v 64) (λ h. get_or-replicate 64 v None None h) (λ h. get_or_past (replicate 64 None) v None (subst (λ y. y ≤ v) (sym (length-replicate {A = Option ℕ} 64 None)) h))

nowhere : (v : ℕ) → place (replicate 64 None) v ≡ 64
nowhere v = ap (λ o. unwrap_or o 64) (none_at v)

no_place : (y p : ℕ) → get_or (replicate 64 None) y None ≡ Some p → p ≤ 63
no_place y p e = absurd (never (sym (none_at y) ∙ e))
  where
    never : None ≡ Some p → ⊥
    never h = cc

-- only the goal waits
pub settles_start : {C : Type 0} (k : Costs C) (m : Meaning) (b : Bars) (goal i : ℕ) → Sound m → goal < m.stations → (z : C) → z ≡ k.zero → Settles k m b goal 0 i (record { cost = z; station = goal } ∷ []) (set (replicate 64 None) goal (Some 0))
settles_start k m b goal i sound h z ez = record {
  placed = record {
    long = length-set (replicate 64 None) goal (Some 0) ∙ length-replicate {A = Option ℕ} 64 None;
    small = small_put (replicate 64 None) goal 0 inside (omega arith) no_place;
    here = first;
    there = λ v near. let e : v ≡ goal = only v near in let at : place (set (replicate 64 None) goal (Some 0)) v ≡ 0 = ap (place (set (replicate 64 None) goal (Some 0))) e ∙ home in
        (omega (arith, at), ap (λ q. (get_or (record { cost = z; station = goal } ∷ []) q (blank k)).station) at ∙ sym e);
    fits = below;
  };
  within = omega arith;
  settling = settle_none k m b goal i (seen (set (replicate 64 None) goal (Some 0))) (turn (set (replicate 64 None) goal (Some 0)) 0) (cost_of k (record { cost = z; station = goal } ∷ []) (set (replicate 64 None) goal (Some 0)))
      (λ v. omega (arith, turn_open (set (replicate 64 None) goal (Some 0)) 0 v (omega arith)))
      (placed_seen (set (replicate 64 None) goal (Some 0)) goal (omega (arith, home)))
      (λ v s. only v (seen_placed (set (replicate 64 None) goal (Some 0)) v s))
      (ap (λ q. (get_or (record { cost = z; station = goal } ∷ []) q (blank k)).cost) home ∙ ez);
}
  where
    inside : goal < length {A = Option ℕ} (replicate 64 None)
    inside = subst (λ n. goal < n) (sym (length-replicate {A = Option ℕ} 64 None)) (omega (arith, h, sound.stations_high))

    home : place (set (replicate 64 None) goal (Some 0)) goal ≡ 0
    home = (place_put (replicate 64 None) goal 0 inside).here

    first : (j : ℕ) → j < 1 → place (set (replicate 64 None) goal (Some 0)) (get_or (record { cost = z; station = goal } ∷ []) j (blank k)).station ≡ j
    first zero h' = home
    first (suc j) h' = absurd (omega arith)

    below : (j : ℕ) → j < 1 → (get_or (record { cost = z; station = goal } ∷ []) j (blank k)).station < m.stations
    below zero h' = h
    below (suc j) h' = absurd (omega arith)

    only : (v : ℕ) → place (set (replicate 64 None) goal (Some 0)) v ≤ 63 → v ≡ goal
    only v near = either (cases_eq v goal) (λ e. e) (λ ne. absurd (omega (arith, (place_put (replicate 64 None) goal 0 inside).elsewhere v ne, nowhere v)))

module _ {C : Type 0} (k : Costs C) (laws : Laws k) (m : Meaning) (sound : Sound m) (b : Bars) (goal out i : ℕ) (row : List (Entry C)) (places : List (Option ℕ)) (p : Settles k m b goal out i row places) where
  low : m.stations ≤ 64
  low = sound.stations_high

  -- nothing waits, and every leg into the station that came out last was looked at
  pub settles_end : out ≡ length row → i ≡ m.legs → Settled k m b goal row places
  settles_end all done = record {
    placed = p.placed;
    settling = subst (λ n. Settling k m b goal (seen places) (turn places n) (cost_of k row places)) all
        (settle_all k laws m sound b goal out (seen places) (turn places out) (cost_of k row places)
        (subst (λ x. SettlingTo k m b goal out x (seen places) (turn places out) (cost_of k row places)) done p.settling)
        (λ v s.
        let near = seen_placed places v s in
        omega (arith, near, turn_out places out v (omega (arith, all, (p.placed.there v near).0)))));
  }

  -- the least of the waiting entries comes out
  module _ (at : ℕ) (row' : List (Entry C)) (swap : Swap (blank k) out at row row') (places' : List (Option ℕ)) (made : places' ≡ set (set places (get_or row out (blank k)).station (Some at)) (get_or row at (blank k)).station (Some out)) where
    u_place : place places (get_or row at (blank k)).station ≡ at
    u_place = p.placed.here at swap.within

    most : length row ≤ m.stations
    most = placed_most k m.stations low row places p.placed

    pub settles_pop : i ≡ m.legs → ((j : ℕ) → out ≤ j → j < length row → k.before (get_or row j (blank k)).cost (get_or row at (blank k)).cost ≡ false) → Settles k m b goal (suc out) 0 row' places'
    settles_pop done least = record {
      placed = placed_pop k m.stations low row places p.placed out at row' swap (get_or row at (blank k)).station (get_or row out (blank k)).station refl refl places' made;
      within = omega (arith, swap.behind, swap.within, swap.same_length);
      settling = subst (λ s. SettlingTo k m b goal (suc out) 0 s (turn places' (suc out)) (cost_of k row' places')) (λ t y. seen_pop k m.stations low row places p.placed out at row' swap (get_or row at (blank k)).station (get_or row out (blank k)).station refl refl places' made y t)
          (subst (λ d. SettlingTo k m b goal (suc out) 0 (seen places) (turn places' (suc out)) d) (λ t y. cost_pop k m.stations low row places p.placed out at row' swap (get_or row at (blank k)).station (get_or row out (blank k)).station refl refl places' made y t)
          (settle_more k laws m sound b goal out (seen places) (turn places out) (turn places' (suc out)) (cost_of k row places) (get_or row at (blank k)).station
          (subst (λ x. SettlingTo k m b goal out x (seen places) (turn places out) (cost_of k row places)) done p.settling)
          (placed_seen places (get_or row at (blank k)).station (omega (arith, u_place, swap.within, most)))
          (omega (arith, turn_open places out (get_or row at (blank k)).station (omega (arith, u_place, swap.behind))))
          lowest
          (omega (arith, swap.behind, swap.within, most))
          (turn_pop k m.stations low row places p.placed out at row' swap (get_or row at (blank k)).station (get_or row out (blank k)).station refl refl places' made)));
    }
      where
        lowest : (w : ℕ) → seen places w ≡ true → 64 ≤ turn places out w → k.before (cost_of k row places w) (cost_of k row places (get_or row at (blank k)).station) ≡ false
        lowest w s h =
            let near = seen_placed places w s in
            subst (λ x. k.before (cost_of k row places w) (get_or row x (blank k)).cost ≡ false) (sym u_place)
            (least (place places w) (either (cases_lt (place places w) out) (λ x. absurd (omega (arith, near, turn_out places out w x))) (λ x. x)) (p.placed.there w near).0)

  -- the station that came out last
  module _ (some : 0 < out) (u : ℕ) (is : (get_or row (out - 1) (blank k)).station ≡ u) where
    last_place : place places u ≡ out - 1
    last_place = ap (place places) (sym is) ∙ p.placed.here (out - 1) (omega (arith, some, p.within))

    last_turn : suc (turn places out u) ≡ out
    last_turn = omega (arith, some, turn_out places out u (omega (arith, some, last_place)), last_place)

    pub last_cost : cost_of k row places u ≡ (get_or row (out - 1) (blank k)).cost
    last_cost = ap (λ q. (get_or row q (blank k)).cost) last_place

    only_last : (v : ℕ) → suc (turn places out v) ≡ out → v ≡ u
    only_last v e = either (cases_lt (place places v) out)
        (λ x. let at : place places v ≡ out - 1 = omega (arith, e, turn_out places out v x) in
        sym (p.placed.there v (omega (arith, x, p.within, placed_most k m.stations low row places p.placed, low))).1 ∙ ap (λ q. (get_or row q (blank k)).station) at ∙ is)
        (λ x. absurd (omega (arith, e, turn_open places out v x, p.within, placed_most k m.stations low row places p.placed, low)))

    -- no leg with a number from i up to j arrives there
    pub settles_skip : (j : ℕ) → ((e : ℕ) (l : Leg) → m.at e ≡ Some l → l.to ≡ u → i ≤ e → e < j → ⊥) → Settles k m b goal out j row places
    settles_skip j none = record {
      placed = p.placed;
      within = p.within;
      settling = relax_skip k laws m sound b goal out i j (seen places) (turn places out) (cost_of k row places) p.settling (λ e l g h h' t. none e l g.shown (only_last l.to t) h h');
    }

    -- the leg with the number i arrives there
    module _ (l : Leg) (at : m.at i ≡ Some l) (to : l.to ≡ u) where
      from_in : l.from < m.stations
      from_in = (sound.fits i l at).from_fits

      to_turn : suc (turn places out l.to) ≡ out
      to_turn = ap (λ v. suc (turn places out v)) to ∙ last_turn

      to_cost : cost_of k row places l.to ≡ (get_or row (out - 1) (blank k)).cost
      to_cost = ap (cost_of k row places) to ∙ last_cost

      -- a station that has not come out leaves a turn
      pub settles_left : out ≤ place places l.from → out ≤ 63
      settles_left ahead = either (cases_lt (place places l.from) 64)
          (λ x. omega (arith, ahead, x))
          (λ x. omega (arith, p.within, placed_room k m.stations low row places p.placed l.from from_in x, low))

      -- it gives its start no lower cost
      pub settles_pass : (Usable m b i l → (place places l.from < out) ⊎ ((place places l.from ≤ 63) × (k.before (k.join (k.of_leg l) (get_or row (out - 1) (blank k)).cost) (cost_of k row places l.from) ≡ false))) → Settles k m b goal out (suc i) row places
      settles_pass pass = record {
        placed = p.placed;
        within = p.within;
        settling = relax_none k laws m sound b goal out i (seen places) (turn places out) (cost_of k row places) p.settling
            (λ l' g t. subst P (sym (same_leg m i l' l g.shown at)) here g t);
      }
        where
          P : Leg → Type 0
          P x = Usable m b i x → suc (turn places out x.to) ≡ out → (seen places x.from ≡ true) × (64 ≤ turn places out x.from → k.before (k.join (k.of_leg x) (cost_of k row places x.to)) (cost_of k row places x.from) ≡ false)

          here : P l
          here g t = either (pass g)
              (λ x. (placed_seen places l.from (omega (arith, x, settled)), λ h. absurd (omega (arith, x, h, settled, turn_out places out l.from x))))
              (λ x. (placed_seen places l.from x.0, λ _. subst (λ c. k.before (k.join (k.of_leg l) c) (cost_of k row places l.from) ≡ false) (sym to_cost) x.1))
            where
              settled : out ≤ 64
              settled = omega (arith, p.within, placed_most k m.stations low row places p.placed, low)

      -- what `join` gives is the cost over the leg
      pub settles_over : out ≤ place places l.from → (a d r : C) → a ≡ k.of_leg l → d ≡ (get_or row (out - 1) (blank k)).cost → ((m n : ℕ) → k.stands a m → k.stands d n → m + n ≤ 63 → r ≡ k.join a d) → r ≡ k.join (k.of_leg l) (get_or row (out - 1) (blank k)).cost
      settles_over ahead a d r ea ed joined =
          let left : out ≤ 63 = settles_left ahead in
          let (q, hq, sq) = place_stands k laws m sound b goal out i (seen places) (turn places out) (cost_of k row places) p.settling (suc (turn places out l.to)) l.to (omega arith) (omega (arith, to_turn)) in
          let sa : k.stands a 1 = subst (λ y. k.stands y 1) (sym ea) (laws.stands_leg l (sound.fits i l at).figures) in
          let sd : k.stands d q = subst (λ y. k.stands y q) (to_cost ∙ sym ed) sq in
          joined 1 q sa sd (omega (arith, hq, to_turn, left)) ∙ ap (λ y. k.join y d) ea ∙ ap (λ y. k.join (k.of_leg l) y) ed

      -- it gives its start a cost x
      module _ (g : Usable m b i l) (x : C) (ex : x ≡ k.join (k.of_leg l) (get_or row (out - 1) (blank k)).cost) where
        gives : x ≡ k.join (k.of_leg l) (cost_of k row places l.to)
        gives = ex ∙ ap (k.join (k.of_leg l)) (sym to_cost)

        pub settles_insert : 64 ≤ place places l.from → Settles k m b goal out (suc i) (row ++ record { cost = x; station = l.from } ∷ []) (set places l.from (Some (length row)))
        settles_insert ahead = record {
          placed = placed_insert k m.stations low row places p.placed (record { cost = x; station = l.from }) from_in ahead;
          within = omega (arith, p.within, length_push row (record { cost = x; station = l.from }));
          settling = subst (λ t. SettlingTo k m b goal out (suc i) (seen (set places l.from (Some (length row)))) t (cost_of k (row ++ record { cost = x; station = l.from } ∷ []) (set places l.from (Some (length row)))))
              (λ t y. turn_insert k m.stations low row places p.placed (record { cost = x; station = l.from }) from_in ahead out p.within y t)
              (relax_more k laws m sound b goal out i (seen places) (seen (set places l.from (Some (length row)))) (turn places out) (cost_of k row places) (cost_of k (row ++ record { cost = x; station = l.from } ∷ []) (set places l.from (Some (length row)))) l p.settling g to_turn
              (settles_left behind) (omega (arith, turn_open places out l.from behind)) (λ s. absurd (omega (arith, ahead, seen_placed places l.from s)))
              (seen_insert k m.stations low row places p.placed (record { cost = x; station = l.from }) from_in ahead)
              (subst (λ c. Put (cost_of k row places) (cost_of k (row ++ record { cost = x; station = l.from } ∷ []) (set places l.from (Some (length row)))) l.from c) gives (cost_insert k m.stations low row places p.placed (record { cost = x; station = l.from }) from_in ahead)));
        }
          where
            behind : out ≤ place places l.from
            behind = omega (arith, ahead, p.within, placed_most k m.stations low row places p.placed, low)

        pub settles_replace : out ≤ place places l.from → place places l.from ≤ 63 → k.before x (cost_of k row places l.from) ≡ true → Settles k m b goal out (suc i) (set row (place places l.from) (record { cost = x; station = l.from })) places
        settles_replace ahead near better = record {
          placed = placed_replace k m.stations low row places p.placed (record { cost = x; station = l.from }) near;
          within = omega (arith, p.within, length-set row (place places l.from) (record { cost = x; station = l.from }));
          settling = relax_more k laws m sound b goal out i (seen places) (seen places) (turn places out) (cost_of k row places) (cost_of k (set row (place places l.from) (record { cost = x; station = l.from })) places) l p.settling g to_turn
              (settles_left ahead) (omega (arith, turn_open places out l.from ahead)) (λ _. subst (λ c. k.before c (cost_of k row places l.from) ≡ true) gives better)
              (record { here = placed_seen places l.from near; elsewhere = λ y ne. refl })
              (subst (λ c. Put (cost_of k row places) (cost_of k (set row (place places l.from) (record { cost = x; station = l.from })) places) l.from c) gives (cost_replace k m.stations low row places p.placed (record { cost = x; station = l.from }) near));
        }
