-- Phase 1 in its queue: what one leg does, and what coming out does.
use Rattle.std.proofs.Common.{◌≡◌, ℕ, suc, ◌+◌, ◌-◌, ◌<◌, ◌≤◌, Bool, true, false, cond, ltb, leb, ◌⊎◌, List, [], ◌∷◌, ◌++◌, length, get_or, set, Some, None, Option, sym, refl, ap, ◌∙◌, subst, arith}
use Rattle.network.specs.declared.leg.Leg.{Leg}
use Rattle.network.specs.Meaning.{Sound}
use Rattle.cost.specs.Costs.{Costs, Laws}
use Rattle.queue.specs.declared.least.Least.{Least}
use Rattle.queue.specs.declared.queue.Queue.{Queue}
use Rattle.queue.specs.Waiting.{taken, waiting, held, gone, room, has_room, waits_at, Keeps, Comes}
use Rattle.queue.proofs.Rows.{taken_held, taken_length, gone_within, waiting_length}
use Rattle.route.specs.Certificate.{Usable}
use Rattle.search_types.specs.declared.entry.Entry.{Entry}
use Rattle.search.specs.declared.search.Search.{Search}
use Rattle.search.specs.declared.settling.Settling.{Settling}
use Rattle.search_types.specs.Entries.{sooner}
use Rattle.search.specs.Stages.{network_of, barred_in, Stage, Last, Relaxing, places_after, popped}
use Rattle.search.specs.Tables.{blank, place, cost_of, Swap, Settles, Settled}
use Rattle.search.proofs.Tables.{placed_room}
use Rattle.search.proofs.Places.{settles_end, settles_pop, settles_skip, settles_pass, settles_over, settles_insert, settles_replace}
use Rattle.snapshot.specs.Meanings.{Arrives}
use Rattle.snapshot.specs.Steps.{Awaits, Stepped}
use Rattle.snapshot.specs.declared.iter.ArrivalsAt.{ArrivalsAt}
use Rattle.snapshot.specs.Sounds.{snapshot_sound}
use Rattle.std.proofs.ByRecursion.{All-get_or}
use Rattle.std.proofs.lemmas.List.{get_or-take, get_or-drop, get_or_push}
use Rattle.std.proofs.lemmas.Bool.{lt-ltb, le-leb, and_from, cond-true}

-- the entry that came out last, in the row
pub last_held : {C : Type 0} (k : Costs C) (q : Queue (Entry C)) (last : Entry C) → Last k q last → get_or (held q) (gone q - 1) (blank k) ≡ last
last_held k q last is = sym (get_or-take (gone q) (held q) (gone q - 1) (blank k) (omega (arith, is.some))) ∙ ap (λ xs. get_or xs (gone q - 1) (blank k)) (sym (taken_held q)) ∙ is.is

-- a leg into the station that came out last
pub record Arrived {K C : Type 0} (k : Costs C) (s : Search K) (i : ℕ) (t : Settling C) (last : Entry C) (l : Leg) : Type 0 where
  pub laws : Laws k
  pub stage : Stage k s i t
  pub last_is : Last k t.queue last
  pub arrives : Arrives ((network_of s).at i) last.station
  pub at : (network_of s).at i ≡ Some l

module _ {K C : Type 0} {k : Costs C} {s : Search K} {i : ℕ} {t : Settling C} {last : Entry C} {l : Leg} (a : Arrived k s i t last l) where
  sound : Sound (network_of s)
  sound = snapshot_sound s.network.now

  the_last : get_or (held t.queue) (gone t.queue - 1) (blank k) ≡ last
  the_last = last_held k t.queue last a.last_is

  to : l.to ≡ last.station
  to = subst (λ o. Arrives o last.station) a.at a.arrives

  fits : l.from < (network_of s).stations
  fits = (sound.fits i l a.at).from_fits

  -- w is where the leg's start stands
  module _ (w : ℕ) (is_place : w ≡ place t.places l.from) where
    pub placed_in : w ≤ 63 → w < length (held t.queue)
    placed_in near = subst (λ x. x < length (held t.queue)) (sym is_place) (a.stage.settles.placed.there l.from (omega (arith, near, is_place))).0

    pub relax_pass : ((Usable (network_of s) (barred_in s) i l → (w < gone t.queue) ⊎ ((w ≤ 63) × (k.before (k.join (k.of_leg l) last.cost) (get_or (held t.queue) w (blank k)).cost ≡ false)))) → Stage k s (suc i) t
    relax_pass pass = record {
      settles = settles_pass k a.laws (network_of s) sound (barred_in s) s.goal (gone t.queue) i (held t.queue) t.places a.stage.settles a.last_is.some last.station (ap (λ e. e.station) the_last) l a.at to
          (λ g. subst (λ c. (place t.places l.from < gone t.queue) ⊎ ((place t.places l.from ≤ 63) × (k.before (k.join (k.of_leg l) c) (cost_of k (held t.queue) t.places l.from) ≡ false))) (sym (ap (λ e. e.cost) the_last))
          (subst (λ x. (x < gone t.queue) ⊎ ((x ≤ 63) × (k.before (k.join (k.of_leg l) last.cost) (get_or (held t.queue) x (blank k)).cost ≡ false))) is_place (pass g)));
      roomy = a.stage.roomy;
    }

    -- what `join` gives
    pub relax_over : gone t.queue ≤ w → (c r : C) → c ≡ k.of_leg l → ((m n : ℕ) → k.stands c m → k.stands last.cost n → m + n ≤ 63 → r ≡ k.join c last.cost) → r ≡ k.join (k.of_leg l) last.cost
    relax_over open' c r ec joined =
        settles_over k a.laws (network_of s) sound (barred_in s) s.goal (gone t.queue) i (held t.queue) t.places a.stage.settles a.last_is.some last.station (ap (λ e. e.station) the_last) l a.at to (omega (arith, open', is_place)) c last.cost r ec (sym (ap (λ e. e.cost) the_last)) joined
        ∙ ap (λ e. k.join (k.of_leg l) e.cost) the_last

    module _ (g : Usable (network_of s) (barred_in s) i l) (x : C) (ex : x ≡ k.join (k.of_leg l) last.cost) (q' : Queue (Entry C)) (keeps : Keeps t.queue q') where
      ex' : x ≡ k.join (k.of_leg l) (get_or (held t.queue) (gone t.queue - 1) (blank k)).cost
      ex' = ex ∙ ap (λ e. k.join (k.of_leg l) e.cost) (sym the_last)

      pub relax_insert : 64 ≤ w → held q' ≡ cond (has_room t.queue) (held t.queue ++ record { cost = x; station = l.from } ∷ []) (held t.queue) → (places' : List (Option ℕ)) → places' ≡ set t.places l.from (Some (length (held t.queue))) → Stage k s (suc i) (record { queue = q'; places = places' })
      relax_insert new hs places' ps = record {
        settles = subst (λ n. Settles k (network_of s) (barred_in s) s.goal n (suc i) (held q') places') (sym keeps.gone_is)
            (subst (λ es. Settles k (network_of s) (barred_in s) s.goal (gone t.queue) (suc i) es places') (sym (hs ∙ cond-true (has_room t.queue) (held t.queue ++ record { cost = x; station = l.from } ∷ []) (held t.queue) free))
            (subst (λ ps'. Settles k (network_of s) (barred_in s) s.goal (gone t.queue) (suc i) (held t.queue ++ record { cost = x; station = l.from } ∷ []) ps') (sym ps)
            (settles_insert k a.laws (network_of s) sound (barred_in s) s.goal (gone t.queue) i (held t.queue) t.places a.stage.settles a.last_is.some last.station (ap (λ e. e.station) the_last) l a.at to g x ex' (omega (arith, new, is_place)))));
        roomy = subst (λ n. (network_of s).stations ≤ n) (sym keeps.same_row.room_is) a.stage.roomy;
      }
        where
          free : has_room t.queue ≡ true
          free = lt-ltb (length (held t.queue)) (room t.queue) (omega (arith, a.stage.roomy, placed_room k (network_of s).stations sound.stations_high (held t.queue) t.places a.stage.settles.placed l.from fits (omega (arith, new, is_place))))

      pub relax_replace : gone t.queue ≤ w → w ≤ 63 → k.before x (get_or (held t.queue) w (blank k)).cost ≡ true → held q' ≡ cond (waits_at t.queue w) (set (held t.queue) w (record { cost = x; station = l.from })) (held t.queue) → Stage k s (suc i) (record { queue = q'; places = t.places })
      relax_replace open' near better hs = record {
        settles = subst (λ n. Settles k (network_of s) (barred_in s) s.goal n (suc i) (held q') t.places) (sym keeps.gone_is)
            (subst (λ es. Settles k (network_of s) (barred_in s) s.goal (gone t.queue) (suc i) es t.places) (sym (hs ∙ cond-true (waits_at t.queue w) (set (held t.queue) w (record { cost = x; station = l.from })) (held t.queue) waits ∙ ap (λ v. set (held t.queue) v (record { cost = x; station = l.from })) is_place))
            (settles_replace k a.laws (network_of s) sound (barred_in s) s.goal (gone t.queue) i (held t.queue) t.places a.stage.settles a.last_is.some last.station (ap (λ e. e.station) the_last) l a.at to g x ex' (omega (arith, open', is_place)) (omega (arith, near, is_place))
            (subst (λ v. k.before x (get_or (held t.queue) v (blank k)).cost ≡ true) is_place better)));
        roomy = subst (λ n. (network_of s).stations ≤ n) (sym keeps.same_row.room_is) a.stage.roomy;
      }
        where
          waits : waits_at t.queue w ≡ true
          waits = and_from (leb (gone t.queue) w) (ltb w (length (held t.queue))) (le-leb (gone t.queue) w open') (lt-ltb w (length (held t.queue)) (placed_in near))

cond_first : (t x : Bool) → cond t true x ≡ false → t ≡ false
cond_first true x e = e
cond_first false x e = refl

pub last_kept : {C : Type 0} (k : Costs C) (q q' : Queue (Entry C)) (last : Entry C) → Last k q last → Keeps q q' → Last k q' last
last_kept k q q' last is keeps = record {
  some = omega (arith, is.some, keeps.gone_is);
  is = ap (λ n. get_or (taken q') (n - 1) (blank k)) keeps.gone_is ∙ ap (λ xs. get_or xs (gone q - 1) (blank k)) keeps.taken_is ∙ is.is;
}

module _ {K C : Type 0} (k : Costs C) (laws : Laws k) (s : Search K) (t : Settling C) where
  -- no leg with a number from i up to e arrives there
  skip : (i e : ℕ) (last : Entry C) → Stage k s i t → Last k t.queue last → ((f : ℕ) → i ≤ f → f < e → Arrives ((network_of s).at f) last.station → ⊥) → Stage k s e t
  skip i e last stage is none = record {
    settles = settles_skip k laws (network_of s) (snapshot_sound s.network.now) (barred_in s) s.goal (gone t.queue) i (held t.queue) t.places stage.settles is.some last.station (ap (λ e. e.station) (last_held k t.queue last is)) e
        (λ f l at to h h'. none f h h' (subst (λ o. Arrives o last.station) (sym at) to));
    roomy = stage.roomy;
  }

  module _ (i : ℕ) (w w' : ArrivalsAt) (last : Entry C) (p : Relaxing k s last i w t) where
    -- at the next arrival, all legs before it were looked at
    pub relaxing_next : (e : ℕ) → Stepped w (Some e) w' → Stage k s e t × Arrives ((network_of s).at e) last.station × Awaits w' (network_of s) last.station (suc e)
    relaxing_next e step =
        let (here, more) = step (network_of s) last.station i p.awaits in
        (skip i e last p.stage p.last_is here.lowest, here.arrives, more)

    -- at the end, all were
    pub relaxing_end : Stepped w None w' → Stage k s (network_of s).legs t
    relaxing_end step = skip i (network_of s).legs last p.stage p.last_is (λ f h _. step.1 (network_of s) last.station i p.awaits f h)

  -- nothing waits
  pub stage_end : Stage k s (network_of s).legs t → waiting t.queue ≡ [] → Settled k (network_of s) (barred_in s) s.goal (held t.queue) t.places
  stage_end stage none = settles_end k laws (network_of s) (snapshot_sound s.network.now) (barred_in s) s.goal (gone t.queue) (network_of s).legs (held t.queue) t.places stage.settles (omega (arith, gone_within t.queue, waiting_length t.queue, ap length none)) refl

  -- the least of the waiting entries comes out
  pub stage_pop : (q' : Queue (Entry C)) (l : Least (Entry C)) → Stage k s (network_of s).legs t → Comes (sooner k.before) t.queue q' l → Stage k s 0 (popped k (record { queue = q'; places = t.places }) l) × Last k q' l.entry
  stage_pop q' l stage comes = (
    record {
      settles = subst (λ n. Settles k (network_of s) (barred_in s) s.goal n 0 (held q') (places_after k q' l t.places)) (sym gs)
          (settles_pop k laws (network_of s) (snapshot_sound s.network.now) (barred_in s) s.goal (gone t.queue) (network_of s).legs (held t.queue) t.places stage.settles l.place (held q') swap (places_after k q' l t.places) made refl least);
      roomy = omega (arith, stage.roomy, comes.moved.same_row.room_is);
    },
    record {
      some = omega (arith, gs);
      is = ap (λ n. get_or (taken q') n (blank k)) one_less ∙ ap (λ xs. get_or xs (gone t.queue) (blank k)) comes.moved.taken_is ∙ get_or_push (taken t.queue) l.entry (blank k) (gone t.queue) (taken_length t.queue);
    },
  )
    where
      gs : gone q' ≡ suc (gone t.queue)
      gs = omega (arith, comes.moved.gone_is)

      one_less : gone q' - 1 ≡ gone t.queue
      one_less = omega (arith, gs)

      swap : Swap (blank k) (gone t.queue) l.place (held t.queue) (held q')
      swap = record {
        behind = comes.moved.low;
        within = comes.moved.high;
        same_length = comes.moved.held_length;
        to_front = comes.moved.at_gone (blank k) ∙ comes.moved.entry (blank k);
        to_back = comes.moved.at_place (blank k);
        others = λ j no ni. comes.moved.elsewhere j (blank k) no ni;
      }

      made : places_after k q' l t.places ≡ set (set t.places (get_or (held t.queue) (gone t.queue) (blank k)).station (Some l.place)) (get_or (held t.queue) l.place (blank k)).station (Some (gone t.queue))
      made =
          ap (λ v. set (set t.places v (Some l.place)) l.entry.station (Some (gone q' - 1))) (ap (λ e. e.station) (comes.moved.at_place (blank k)))
          ∙ ap (λ v. set (set t.places (get_or (held t.queue) (gone t.queue) (blank k)).station (Some l.place)) v (Some (gone q' - 1))) (ap (λ e. e.station) (comes.moved.entry (blank k)))
          ∙ ap (λ n. set (set t.places (get_or (held t.queue) (gone t.queue) (blank k)).station (Some l.place)) (get_or (held t.queue) l.place (blank k)).station (Some n)) one_less

      least : (j : ℕ) → gone t.queue ≤ j → j < length (held t.queue) → k.before (get_or (held t.queue) j (blank k)).cost (get_or (held t.queue) l.place (blank k)).cost ≡ false
      least j low high =
          let at : gone t.queue + (j - gone t.queue) ≡ j = omega (arith, low) in
          let x : get_or (waiting t.queue) (j - gone t.queue) (blank k) ≡ get_or (held t.queue) j (blank k) = get_or-drop (gone t.queue) (held t.queue) (j - gone t.queue) (blank k) ∙ ap (λ n. get_or (held t.queue) n (blank k)) at in
          let y : l.entry ≡ get_or (held t.queue) l.place (blank k) = comes.moved.entry (blank k) in
          cond_first (k.before (get_or (held t.queue) j (blank k)).cost (get_or (held t.queue) l.place (blank k)).cost) _
          (subst (λ e. sooner k.before (get_or (held t.queue) j (blank k)) e ≡ false) y
          (subst (λ e. sooner k.before e l.entry ≡ false) x
          (All-get_or (λ e. sooner k.before e l.entry ≡ false) (waiting t.queue) (j - gone t.queue) (blank k) (omega (arith, low, high, waiting_length t.queue)) comes.bag.least)))
