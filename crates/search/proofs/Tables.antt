-- Where the stations stand when an entry is put in, replaced, or comes out.
use Rattle.std.proofs.Common.{◌≡◌, ℕ, suc, ◌<◌, ◌≤◌, true, cond, ltb, ◌⊎◌, List, [], ◌∷◌, ◌++◌, length, get_or, set, Some, None, Option, sym, refl, ap, ◌∙◌, subst, inl, inr, arith}
use Rattle.cost.specs.Costs.{Costs}
use Rattle.route.specs.Progress.{Put}
use Rattle.route.proofs.Counting.{room_left, room_most}
use Rattle.route.proofs.Settle.{either}
use Rattle.search_types.specs.declared.entry.Entry.{Entry}
use Rattle.std.specs.Prelude.{unwrap_or}
use Rattle.search.specs.Tables.{blank, place, seen, turn, cost_of, Placed, Swap}
use Rattle.std.proofs.lemmas.List.{length-set, length_push, get_or_push, get_or_past, get_or_append_left, get_or-set_same, get_or-set_other}
use Rattle.std.proofs.lemmas.Bool.{cases_eq, cases_lt, lt-ltb, le-ltb, ltb-true, cond-true, cond-false}

-- a write to a list, at a default of your own
pub put_set : {A : Type 0} (xs : List A) (v : ℕ) (x d : A) → v < length xs → Put (λ y. get_or xs y d) (λ y. get_or (set xs v x) y d) v x
put_set xs v x d h = record { here = get_or-set_same xs v x d h; elsewhere = λ y ne. get_or-set_other xs v y x d ne }

-- one place written
module _ (places : List (Option ℕ)) (v n : ℕ) (inside : v < length places) where
  at : Option ℕ → ℕ
  at o = unwrap_or o 64

  pub place_put : Put (place places) (place (set places v (Some n))) v n
  unfolding at
  place_put = record {
    here = ap at (get_or-set_same places v (Some n) None inside);
    elsewhere = λ y ne. ap at (get_or-set_other places v y (Some n) None ne);
  }

  pub small_put : n ≤ 63 → ((y p : ℕ) → get_or places y None ≡ Some p → p ≤ 63) → (y p : ℕ) → get_or (set places v (Some n)) y None ≡ Some p → p ≤ 63
  small_put low was y p e = either (cases_eq y v)
      (λ x. let same : n ≡ p = some_same n p (sym (get_or-set_same places v (Some n) None inside) ∙ ap (λ z. get_or (set places v (Some n)) z None) (sym x) ∙ e) in omega arith)
      (λ x. was y p (sym (get_or-set_other places v y (Some n) None x) ∙ e))
    where
      some_same : (a b : ℕ) → Some a ≡ Some b → a ≡ b
      some_same a b h = cc

pub place_some : (places : List (Option ℕ)) (v p : ℕ) → get_or places v None ≡ Some p → p ≡ place places v
place_some places v p e = sym (ap (λ o. unwrap_or o 64) e)

pub place_none : (places : List (Option ℕ)) (v : ℕ) → get_or places v None ≡ None → 64 ≡ place places v
place_none places v e = sym (ap (λ o. unwrap_or o 64) e)

pub turn_out : (places : List (Option ℕ)) (out v : ℕ) → place places v < out → turn places out v ≡ place places v
turn_out places out v h = cond-true (ltb (place places v) out) (place places v) 64 (lt-ltb (place places v) out h)

pub turn_open : (places : List (Option ℕ)) (out v : ℕ) → out ≤ place places v → turn places out v ≡ 64
turn_open places out v h = cond-false (ltb (place places v) out) (place places v) 64 (le-ltb (place places v) out h)

pub seen_placed : (places : List (Option ℕ)) (v : ℕ) → seen places v ≡ true → place places v ≤ 63
seen_placed places v e = omega (arith, ltb-true (place places v) 64 e)

pub placed_seen : (places : List (Option ℕ)) (v : ℕ) → place places v ≤ 63 → seen places v ≡ true
placed_seen places v h = lt-ltb (place places v) 64 (omega arith)

-- a list with one more at its end, read at another place
pub get_or_other : {A : Type 0} (xs : List A) (x d : A) (q : ℕ) → (q ≡ length xs → ⊥) → get_or (xs ++ x ∷ []) q d ≡ get_or xs q d
get_or_other xs x d q ne =
    either (cases_lt q (length xs)) (λ h. get_or_append_left xs (x ∷ []) d q h)
    (λ h. get_or_past (xs ++ x ∷ []) q d (omega (arith, length_push xs x, ne)) ∙ sym (get_or_past xs q d h))

module _ {C : Type 0} (k : Costs C) (stations : ℕ) (low : stations ≤ 64) (row : List (Entry C)) (places : List (Option ℕ)) (p : Placed k stations row places) where
  once : (i j : ℕ) → i < length row → j < length row → (get_or row i (blank k)).station ≡ (get_or row j (blank k)).station → i ≡ j
  once i j hi hj e = sym (p.here i hi) ∙ ap (place places) e ∙ p.here j hj

  pub placed_most : length row ≤ stations
  placed_most = room_most (λ j. (get_or row j (blank k)).station) (length row) stations p.fits once

  -- a station without an entry leaves room for one
  pub placed_room : (v : ℕ) → v < stations → 64 ≤ place places v → length row < stations
  placed_room v hv far = room_left (λ j. (get_or row j (blank k)).station) (length row) stations v p.fits once hv (λ j h e. omega (arith, p.here j h, ap (place places) e, placed_most))

  pub placed_below : (v : ℕ) → place places v ≤ 63 → v < stations
  placed_below v h = let (j, is) = p.there v h in subst (λ x. x < stations) is (p.fits (place places v) j)

  -- a station gets its first entry, at the end
  module _ (e : Entry C) (hv : e.station < stations) (far : 64 ≤ place places e.station) where
    room : length row < stations
    room = placed_room e.station hv far

    moved : Put (place places) (place (set places e.station (Some (length row)))) e.station (length row)
    moved = place_put places e.station (length row) (omega (arith, p.long))

    pub placed_insert : Placed k stations (row ++ e ∷ []) (set places e.station (Some (length row)))
    placed_insert = record {
      long = length-set places e.station (Some (length row)) ∙ p.long;
      small = small_put places e.station (length row) (omega (arith, p.long)) (omega (arith, room)) p.small;
      here = λ j h. either (cases_eq j (length row))
          (λ x. ap (λ z. place (set places e.station (Some (length row))) (get_or (row ++ e ∷ []) z (blank k)).station) x
          ∙ ap (λ z. place (set places e.station (Some (length row))) z.station) (get_or_push row e (blank k) (length row) refl) ∙ moved.here ∙ sym x)
          (λ x. let old : j < length row = omega (arith, length_push row e, x) in
          ap (λ z. place (set places e.station (Some (length row))) z.station) (get_or_other row e (blank k) j x)
          ∙ moved.elsewhere (get_or row j (blank k)).station (λ z. omega (arith, p.here j old, ap (place places) z, room)) ∙ p.here j old);
      there = λ v h. either (cases_eq v e.station)
          (λ x. let at : place (set places e.station (Some (length row))) v ≡ length row = ap (place (set places e.station (Some (length row)))) x ∙ moved.here in
          (omega (arith, at, length_push row e), ap (λ z. (get_or (row ++ e ∷ []) z (blank k)).station) at ∙ ap (λ z. z.station) (get_or_push row e (blank k) (length row) refl) ∙ sym x))
          (λ x. let at : place (set places e.station (Some (length row))) v ≡ place places v = moved.elsewhere v x in
          let (j, is) = p.there v (omega (arith, at)) in
          (omega (arith, at, j, length_push row e), ap (λ z. (get_or (row ++ e ∷ []) z (blank k)).station) at ∙ ap (λ z. z.station) (get_or_other row e (blank k) (place places v) (λ z. omega (arith, j))) ∙ is));
      fits = λ j h. either (cases_eq j (length row))
          (λ x. subst (λ z. z < stations) (sym (ap (λ z. (get_or (row ++ e ∷ []) z (blank k)).station) x ∙ ap (λ z. z.station) (get_or_push row e (blank k) (length row) refl))) hv)
          (λ x. subst (λ z. z < stations) (sym (ap (λ z. z.station) (get_or_other row e (blank k) j x))) (p.fits j (omega (arith, length_push row e, x))));
    }

    pub seen_insert : Put (seen places) (seen (set places e.station (Some (length row)))) e.station true
    seen_insert = record {
      here = placed_seen (set places e.station (Some (length row))) e.station (omega (arith, moved.here, room));
      elsewhere = λ y ne. ap (λ z. ltb z 64) (moved.elsewhere y ne);
    }

    pub cost_insert : Put (cost_of k row places) (cost_of k (row ++ e ∷ []) (set places e.station (Some (length row)))) e.station e.cost
    cost_insert = record {
      here = ap (λ z. (get_or (row ++ e ∷ []) z (blank k)).cost) moved.here ∙ ap (λ z. z.cost) (get_or_push row e (blank k) (length row) refl);
      elsewhere = λ y ne.
          ap (λ z. (get_or (row ++ e ∷ []) z (blank k)).cost) (moved.elsewhere y ne)
          ∙ ap (λ z. z.cost) (get_or_other row e (blank k) (place places y) (λ z. either (cases_lt (place places y) 64) (λ h. omega (arith, (p.there y (omega arith)).0)) (λ h. omega (arith, room))));
    }

    pub turn_insert : (out : ℕ) → out ≤ length row → (y : ℕ) → turn places out y ≡ turn (set places e.station (Some (length row))) out y
    turn_insert out within y = either (cases_eq y e.station)
        (λ x. turn_open places out y (omega (arith, ap (place places) x, room)) ∙ sym (turn_open (set places e.station (Some (length row))) out y (omega (arith, ap (place (set places e.station (Some (length row)))) x, moved.here))))
        (λ x. ap (λ z. cond (ltb z out) z 64) (sym (moved.elsewhere y x)))

  -- a station's entry is replaced where it stands
  module _ (e : Entry C) (near : place places e.station ≤ 63) where
    spot : place places e.station < length row
    spot = (p.there e.station near).0

    apart : (y : ℕ) → place places y ≡ place places e.station → y ≡ e.station
    apart y x = let (j, is) = p.there y (omega (arith, x)) in sym is ∙ ap (λ z. (get_or row z (blank k)).station) x ∙ (p.there e.station near).1

    replaced : (j : ℕ) → (get_or (set row (place places e.station) e) j (blank k)).station ≡ (get_or row j (blank k)).station
    replaced j = either (cases_eq j (place places e.station))
        (λ x. ap (λ z. (get_or (set row (place places e.station) e) z (blank k)).station) x ∙ ap (λ z. z.station) (get_or-set_same row (place places e.station) e (blank k) spot)
        ∙ sym (p.there e.station near).1 ∙ ap (λ z. (get_or row z (blank k)).station) (sym x))
        (λ x. ap (λ z. z.station) (get_or-set_other row (place places e.station) j e (blank k) x))

    pub placed_replace : Placed k stations (set row (place places e.station) e) places
    placed_replace = record {
      long = p.long;
      small = p.small;
      here = λ j h. ap (place places) (replaced j) ∙ p.here j (omega (arith, length-set row (place places e.station) e));
      there = λ v h. let (j, is) = p.there v h in (omega (arith, j, length-set row (place places e.station) e), replaced (place places v) ∙ is);
      fits = λ j h. subst (λ z. z < stations) (sym (replaced j)) (p.fits j (omega (arith, length-set row (place places e.station) e)));
    }

    pub cost_replace : Put (cost_of k row places) (cost_of k (set row (place places e.station) e) places) e.station e.cost
    cost_replace = record {
      here = ap (λ z. z.cost) (get_or-set_same row (place places e.station) e (blank k) spot);
      elsewhere = λ y ne. ap (λ z. z.cost) (get_or-set_other row (place places e.station) (place places y) e (blank k) (λ x. ne (apart y x)));
    }

  -- the waiting entry at `at`, of station u, comes out: it changes places with the first of the waiting, of station f
  module _ (out at : ℕ) (row' : List (Entry C)) (swap : Swap (blank k) out at row row') (u f : ℕ) (eu : (get_or row at (blank k)).station ≡ u) (ef : (get_or row out (blank k)).station ≡ f) (places' : List (Option ℕ)) (made : places' ≡ set (set places f (Some at)) u (Some out)) where
    -- a station with a place is the one that stands there
    from_place : (w j : ℕ) → place places w ≡ j → j < length row → w ≡ (get_or row j (blank k)).station
    from_place w j e h = sym (p.there w (omega (arith, e, placed_most))).1 ∙ ap (λ q. (get_or row q (blank k)).station) e

    long' : length places' ≡ 64
    long' = ap length made ∙ length-set (set places f (Some at)) u (Some out) ∙ length-set places f (Some at) ∙ p.long

    inside : out < length row
    inside = omega (arith, swap.behind, swap.within)

    u_in : u < 64
    u_in = omega (arith, eu, p.fits at swap.within)

    f_in : f < 64
    f_in = omega (arith, ef, p.fits out inside)

    f_long : f < length places
    f_long = omega (arith, f_in, p.long)

    u_long : u < length (set places f (Some at))
    u_long = omega (arith, u_in, length-set places f (Some at), p.long)

    u_now : place places' u ≡ out
    u_now = ap (λ z. place z u) made ∙ (place_put (set places f (Some at)) u out u_long).here

    f_now : (f ≡ u → ⊥) → place places' f ≡ at
    f_now ne = ap (λ z. place z f) made ∙ (place_put (set places f (Some at)) u out u_long).elsewhere f ne ∙ (place_put places f at f_long).here

    others : (y : ℕ) → (y ≡ u → ⊥) → (y ≡ f → ⊥) → place places' y ≡ place places y
    others y nu nf = ap (λ z. place z y) made ∙ (place_put (set places f (Some at)) u out u_long).elsewhere y nu ∙ (place_put places f at f_long).elsewhere y nf

    u_was : place places u ≡ at
    u_was = ap (place places) (sym eu) ∙ p.here at swap.within

    f_was : place places f ≡ out
    f_was = ap (place places) (sym ef) ∙ p.here out inside

    -- where a station stood and stands: it came out, it made way, or it stayed
    abbrev Moves : ℕ → Type 0
    Moves y = ((y ≡ u) × (place places y ≡ at) × (place places' y ≡ out)) ⊎ (((place places y ≡ out) × (place places' y ≡ at) × (out < at)) ⊎ ((place places' y ≡ place places y) × (place places y ≡ out → ⊥) × (place places y ≡ at → ⊥)))

    moves : (y : ℕ) → Moves y
    moves y = either (cases_eq y u)
        (λ x. inl (x, ap (place places) x ∙ u_was, ap (place places') x ∙ u_now))
        (λ x. inr (either (cases_eq y f)
        (λ z. inl (ap (place places) z ∙ f_was, ap (place places') z ∙ f_now (λ e. x (z ∙ e)), either (cases_lt out at) (λ h. h) (λ h. absurd (x (z ∙ same_one (omega (arith, swap.behind, h)))))))
        (λ z. inr (others y x z, (λ e. z (from_place y out e inside ∙ ef)), (λ e. x (from_place y at e swap.within ∙ eu))))))
      where
        same_one : out ≡ at → f ≡ u
        same_one e = sym ef ∙ ap (λ q. (get_or row q (blank k)).station) e ∙ eu

    pub placed_pop : Placed k stations row' places'
    placed_pop = record {
      long = long';
      small = λ y q e. small_put (set places f (Some at)) u out u_long (omega (arith, inside, placed_most)) (small_put places f at f_long (omega (arith, swap.within, placed_most)) p.small) y q (ap (λ z. get_or z y None) (sym made) ∙ e);
      here = λ j h. either (cases_eq j out)
          (λ x. ap (λ z. place places' (get_or row' z (blank k)).station) x ∙ ap (λ z. place places' z.station) swap.to_front ∙ ap (place places') eu ∙ u_now ∙ sym x)
          (λ x. either (cases_eq j at)
          (λ y. ap (λ z. place places' (get_or row' z (blank k)).station) y ∙ ap (λ z. place places' z.station) swap.to_back ∙ ap (place places') ef ∙ f_now (λ e. omega (arith, x, y, u_was, f_was, ap (place places) e)) ∙ sym y)
          (λ y.
          let old : j < length row = omega (arith, swap.same_length) in
          let was : place places (get_or row j (blank k)).station ≡ j = p.here j old in
          ap (λ z. place places' z.station) (swap.others j x y)
          ∙ either (moves (get_or row j (blank k)).station) (λ z. absurd (omega (arith, y, was, z.1))) (λ z. either z (λ w. absurd (omega (arith, x, was, w.0))) (λ w. w.0 ∙ was))));
      there = λ v h. either (moves v)
          (λ z. (omega (arith, z.2, inside, swap.same_length), ap (λ q. (get_or row' q (blank k)).station) z.2 ∙ ap (λ q. q.station) swap.to_front ∙ eu ∙ sym z.0))
          (λ z. either z
          (λ w. (omega (arith, w.1, swap.within, swap.same_length), ap (λ q. (get_or row' q (blank k)).station) w.1 ∙ ap (λ q. q.station) swap.to_back ∙ sym (from_place v out w.0 inside)))
          (λ w. let (j, is) = p.there v (omega (arith, w.0)) in (omega (arith, w.0, j, swap.same_length), ap (λ q. (get_or row' q (blank k)).station) w.0 ∙ ap (λ q. q.station) (swap.others (place places v) w.1 w.2) ∙ is)));
      fits = λ j h. either (cases_eq j out)
          (λ x. subst (λ z. z < stations) (sym (ap (λ z. (get_or row' z (blank k)).station) x ∙ ap (λ z. z.station) swap.to_front)) (p.fits at swap.within))
          (λ x. either (cases_eq j at)
          (λ y. subst (λ z. z < stations) (sym (ap (λ z. (get_or row' z (blank k)).station) y ∙ ap (λ z. z.station) swap.to_back)) (p.fits out inside))
          (λ y. subst (λ z. z < stations) (sym (ap (λ z. z.station) (swap.others j x y))) (p.fits j (omega (arith, swap.same_length)))));
    }

    pub seen_pop : (y : ℕ) → seen places y ≡ seen places' y
    seen_pop y = either (moves y)
        (λ z. placed_seen places y (omega (arith, z.1, swap.within, placed_most)) ∙ sym (placed_seen places' y (omega (arith, z.2, inside, placed_most))))
        (λ z. either z
        (λ w. placed_seen places y (omega (arith, w.0, inside, placed_most)) ∙ sym (placed_seen places' y (omega (arith, w.1, swap.within, placed_most))))
        (λ w. ap (λ q. ltb q 64) (sym w.0)))

    pub cost_pop : (y : ℕ) → cost_of k row places y ≡ cost_of k row' places' y
    cost_pop y = either (moves y)
        (λ z. ap (λ q. (get_or row q (blank k)).cost) z.1 ∙ sym (ap (λ q. (get_or row' q (blank k)).cost) z.2 ∙ ap (λ q. q.cost) swap.to_front))
        (λ z. either z
        (λ w. ap (λ q. (get_or row q (blank k)).cost) w.0 ∙ sym (ap (λ q. (get_or row' q (blank k)).cost) w.1 ∙ ap (λ q. q.cost) swap.to_back))
        (λ w. sym (ap (λ q. (get_or row' q (blank k)).cost) w.0 ∙ ap (λ q. q.cost) (swap.others (place places y) w.1 w.2))))

    pub turn_pop : Put (turn places out) (turn places' (suc out)) u out
    turn_pop = record {
      here = turn_out places' (suc out) u (omega (arith, u_now)) ∙ u_now;
      elsewhere = λ y ne. either (moves y)
          (λ z. absurd (ne z.0))
          (λ z. either z
          (λ w. turn_open places' (suc out) y (omega (arith, w.1, w.2)) ∙ sym (turn_open places out y (omega (arith, w.0))))
          (λ w. either (cases_lt (place places y) out)
          (λ h. turn_out places' (suc out) y (omega (arith, w.0, h)) ∙ w.0 ∙ sym (turn_out places out y h))
          (λ h. turn_open places' (suc out) y (omega (arith, w.0, w.1, h)) ∙ sym (turn_open places out y h))));
    }
