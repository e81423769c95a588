-- The kept candidates: the steps of a ranking that searches each stem once.
use Rattle.std.proofs.Common.{◌≡◌, ℕ, ◌+◌, ◌<◌, ◌≤◌, Bool, true, false, ◌⊎◌, List, [], ◌∷◌, ◌++◌, length, get_or, take, drop, sym, ap, ◌∙◌, subst, inl, inr, arith, length-append, length-take-le}
use mathlib.Core.Path.{subst⁻¹}
use Rattle.std.specs.List.{ContainsAt, insert, AllByRecursion}
use Rattle.std.proofs.lemmas.List.{length-take, length_push, get_or-take, take_at}
use Rattle.std.proofs.ByRecursion.{All-take, All-drop, All-append, All-push, All-weaker, all-has, all_has_itself, All-from_get_or, has_append_left, has_push, has_push_cases}
use Rattle.std.proofs.lemmas.Bool.{cases_Bool, cases_lt, both_ways}
use Rattle.route.specs.Claims.{Strict}
use Rattle.network.specs.Meaning.{Meaning, Sound}
use Rattle.cost.specs.Costs.{Costs, Laws}
use Rattle.route.specs.Routes.{Bars, no_bars, Route, Least, ahead}
use Rattle.route.specs.Deviation.{end_of, deviation, Other, Next, Leading}
use Rattle.route.specs.Pool.{Ascending, Candidate, sooner, room, newest, fronts, Stem, Held, Searched, Ahead, Member, Kept, Ranked}
use Rattle.route.proofs.Order.{strict_one_way, ahead_strict}
use Rattle.route.proofs.Ascents.{has_cons_cases, has_inserted_new, ascending_take, before_from, ascending_inserted, held_taken, held_inserted}
use Rattle.route.proofs.Stems.{stem_push, newest_push, stem_front, stem_sound, stem_none, stem_onward, stem_next}

pub ascending_push : {X : Type 0} (r : X → X → Bool) (xs : List X) (w : X) → Ascending r xs → AllByRecursion (λ x. r x w ≡ true) xs → Ascending r (xs ++ w ∷ [])
ascending_push r [] w h a = (tt, tt)
ascending_push r (x ∷ xs) w h a = (All-push (λ y. r x y ≡ true) xs w h.0 a.0, ascending_push r xs w h.1 a.1)

module _ (m : Meaning) (sound : Sound m) {C : Type 0} (k : Costs C) (laws : Laws k) (s t : ℕ) where
  -- nothing is given and nothing kept: the empty stem is still to be searched
  pub kept_start : Kept k m [] s t [] 0
  kept_start = record { members = tt; rising = tt; few = omega arith; stems = λ p e. inr (0, omega arith, omega arith, e) }

  pub ranked_start : Ranked k m s t []
  ranked_start = record { routes = tt; rising = tt; behind = λ js o. tt; count = omega arith }

  -- a search may be done again
  pub kept_back : (given : List (List ℕ)) (pool : List Candidate) (i j : ℕ) → i ≤ j → Kept k m given s t pool j → Kept k m given s t pool i
  kept_back given pool i j l h = record { members = h.members; rising = h.rising; few = h.few; stems = λ p st. go p (h.stems p st) }
    where
      go : (p : List ℕ) → Searched k m given s t pool p ⊎ Ahead given j p → Searched k m given s t pool p ⊎ Ahead given i p
      go p (inl a) = inl a
      go p (inr b) = inr (b.0, omega (arith, b.1), b.2, b.3)

  module _ (given : List (List ℕ)) (routes : AllByRecursion (Route m no_bars s t) given) where
    -- the stem at j is searched, and what was held is held
    one_more : (old new : List Candidate) (j : ℕ) → ((v : List ℕ) → Held (ahead k m) (room given) old v → Held (ahead k m) (room given) new v) → Searched k m given s t new (take j (newest given)) → ((p : List ℕ) → Stem given p → Searched k m given s t old p ⊎ Ahead given j p) → (p : List ℕ) → Stem given p → Searched k m given s t new p ⊎ Ahead given (j + 1) p
    one_more old new j keep here stems p st = go (stems p st)
      where
        side : (b : Ahead given j p) → (b.0 < j + 1) ⊎ (j + 1 ≤ b.0) → Searched k m given s t new p ⊎ Ahead given (j + 1) p
        side b (inl l) =
            let e : b.0 ≡ j = omega (arith, b.1) in
            inl (subst⁻¹ (λ (x : List ℕ). Searched k m given s t new x) (b.3 ∙ ap (λ (i : ℕ). take i (newest given)) e) here)
        side b (inr l) = inr (b.0, l, b.2, b.3)

        go : Searched k m given s t old p ⊎ Ahead given j p → Searched k m given s t new p ⊎ Ahead given (j + 1) p
        go (inl (inl a)) = inl (inl (a.0, a.1, keep (p ++ a.0) a.2))
        go (inl (inr none)) = inl (inr none)
        go (inr b) = side b (cases_lt b.0 (j + 1))

    -- nothing leaves behind the stem at j
    pub kept_none : (pool : List Candidate) (j : ℕ) → Kept k m given s t pool j → ((q : List ℕ) → Route m (deviation m given s (take j (newest given))) (end_of m s (take j (newest given))) t q → ⊥) → Kept k m given s t pool (j + 1)
    kept_none pool j h none = record { members = h.members; rising = h.rising; few = h.few; stems = one_more pool pool j (λ v x. x) (inr none) h.stems }

    -- the least behind the stem at j is held as it is
    pub kept_held : (pool : List Candidate) (j : ℕ) (q : List ℕ) → Kept k m given s t pool j → Least k m (deviation m given s (take j (newest given))) (end_of m s (take j (newest given))) t q → Held (ahead k m) (room given) pool (take j (newest given) ++ q) → Kept k m given s t pool (j + 1)
    kept_held pool j q h least held = record { members = h.members; rising = h.rising; few = h.few; stems = one_more pool pool j (λ v x. x) (inl (q, least, held)) h.stems }

    -- it is put in its place, and what is then too many is dropped
    pub kept_placed : (pool : List Candidate) (j : ℕ) (q : List ℕ) (i : ℕ) (d : Candidate) → j < fronts given → Kept k m given s t pool j → Least k m (deviation m given s (take j (newest given))) (end_of m s (take j (newest given))) t q → i ≤ length pool → ((n : ℕ) → n < i → ahead k m (get_or pool n d).legs (take j (newest given) ++ q) ≡ true) → (i < length pool → ahead k m (take j (newest given) ++ q) (get_or pool i d).legs ≡ true) → Kept k m given s t (take (room given) (insert pool i (record { legs = take j (newest given) ++ q; at = j }))) (j + 1)
    kept_placed pool j q i d l h least le below above = record { members = All-take (Member m given s t) (room given) (insert pool i c) (All-append (Member m given s t) (take i pool) (c ∷ drop i pool) (All-take (Member m given s t) i pool h.members) (member, All-drop (Member m given s t) i pool h.members)); rising = ascending_take (ahead k m) o (room given) (insert pool i c) up; few = omega (arith, length-take (room given) (insert pool i c)); stems = one_more pool (take (room given) (insert pool i c)) j (λ v x. held_inserted (ahead k m) o (room given) i pool c d v le up above x) (inl (q, least, held_taken (ahead k m) o (room given) (insert pool i c) c up (has_inserted_new i pool c))) h.stems }
      where
        o : Strict (ahead k m)
        o = ahead_strict m k laws

        c : Candidate
        c = record { legs = take j (newest given) ++ q; at = j }

        size : length (take j (newest given)) ≡ j
        size = length-take-le j (newest given) (omega arith)

        stem : Stem given (take j (newest given))
        stem = stem_front m s t given routes j l

        member : Member m given s t c
        member = record { other = stem_sound m s t given routes (take j (newest given)) q stem least.route; within = omega (arith, size, length-append (take j (newest given)) q, least.route.some); stem = subst⁻¹ (λ (x : List ℕ). Stem given x) (take_at (take j (newest given)) q j size) stem }

        before : AllByRecursion (λ y. sooner (ahead k m) y c ≡ true) (take i pool)
        before = All-from_get_or (λ y. sooner (ahead k m) y c ≡ true) (take i pool) d (λ n b. let b' : n < i = omega (arith, length-take-le i pool le) in subst⁻¹ (λ (y : Candidate). sooner (ahead k m) y c ≡ true) (get_or-take i pool n d b') (below n b'))

        up : Ascending (sooner (ahead k m)) (insert pool i c)
        up = ascending_inserted (ahead k m) o c i pool h.rising before (before_from (ahead k m) o c.legs d i pool h.rising above)

    -- all fronts are searched, so all stems are
    all_searched : (pool : List Candidate) (j : ℕ) → fronts given ≤ j → Kept k m given s t pool j → (p : List ℕ) → Stem given p → Searched k m given s t pool p
    all_searched pool j l h p st = go (h.stems p st)
      where
        go : Searched k m given s t pool p ⊎ Ahead given j p → Searched k m given s t pool p
        go (inl a) = a
        go (inr b) = absurd (omega (arith, b.1, b.2))

    -- the first candidate is the next route
    pub kept_next : (c : Candidate) (rest : List Candidate) (j : ℕ) → fronts given ≤ j → Kept k m given s t (c ∷ rest) j → Next k m given s t c.legs
    kept_next c rest j l h = stem_next m s t sound k laws given routes c.legs h.members.0.other (λ p st. go p (all_searched (c ∷ rest) j l h p st))
      where
        o : Strict (ahead k m)
        o = ahead_strict m k laws

        not_first : (v : List ℕ) → Held (ahead k m) (room given) (c ∷ rest) v → ahead k m v c.legs ≡ false
        not_first v (inl a) = subst (λ (x : List ℕ). ahead k m x c.legs ≡ false) a.2 (side (has_cons_cases rest c a.0 a.1))
          where
            side : ContainsAt rest a.0 ⊎ (c ≡ a.0) → ahead k m a.0.legs c.legs ≡ false
            side (inl b) = strict_one_way o c.legs a.0.legs (all-has (λ y. sooner (ahead k m) c y ≡ true) rest a.0 h.rising.0 b)
            side (inr e) = subst (λ (x : Candidate). ahead k m x.legs c.legs ≡ false) e (o.never c.legs)
        not_first v (inr a) = strict_one_way o c.legs v a.1.0

        go : (p : List ℕ) → Searched k m given s t (c ∷ rest) p → Leading k m given s t c.legs p
        go p (inl a) = inl (a.0, a.1, not_first (p ++ a.0) a.2)
        go p (inr none) = inr none

    -- no candidate: every route is given
    pub kept_over : (j : ℕ) → length given < 16 → fronts given ≤ j → Kept k m given s t [] j → (w : List ℕ) → Route m no_bars s t w → ContainsAt given w
    kept_over j some l h = stem_none m s t given routes (λ p st. go p (all_searched [] j l h p st))
      where
        nothing : (v : List ℕ) → Held (ahead k m) (room given) [] v → ⊥
        nothing v (inl a) = omega (arith, a.1.1)
        nothing v (inr a) = omega (arith, a.0)

        go : (p : List ℕ) → Searched k m given s t [] p → (q : List ℕ) → Route m (deviation m given s p) (end_of m s p) t q → ⊥
        go p (inl a) q r = nothing (p ++ a.0) a.2
        go p (inr none) q r = none q r

    -- the first candidate is given: its fronts from its deviation on are to be searched
    pub kept_give : (c : Candidate) (rest : List Candidate) (j : ℕ) → fronts given ≤ j → Kept k m given s t (c ∷ rest) j → Kept k m (given ++ c.legs ∷ []) s t rest c.at
    kept_give c rest j l h = record { members = All-weaker (ContainsAt rest) (Member m (given ++ c.legs ∷ []) s t) (λ x b. still x b) rest (all_has_itself rest); rising = h.rising.1; few = omega (arith, h.few, length_push given c.legs); stems = λ p st. from p st (stem_onward m s t given c.legs c.at here.within here.stem p st) }
      where
        o : Strict (ahead k m)
        o = ahead_strict m k laws

        here : Member m given s t c
        here = h.members.0

        still : (x : Candidate) → ContainsAt rest x → Member m (given ++ c.legs ∷ []) s t x
        still x b = record { other = record { route = mem.other.route; new = λ y. go (has_push_cases given c.legs x.legs y) }; within = mem.within; stem = stem_push given c.legs (take x.at x.legs) here.other.route.some mem.stem }
          where
            mem : Member m given s t x
            mem = all-has (Member m given s t) rest x h.members.1 b

            go : ContainsAt given x.legs ⊎ (c.legs ≡ x.legs) → ⊥
            go (inl a) = mem.other.new a
            go (inr e) = both_ways (ahead k m c.legs c.legs) (o.never c.legs) (subst⁻¹ (λ (z : List ℕ). ahead k m c.legs z ≡ true) e (all-has (λ y. sooner (ahead k m) c y ≡ true) rest x h.rising.0 b))

        fewer : (v : List ℕ) → (c.legs ≡ v → ⊥) → Held (ahead k m) (room given) (c ∷ rest) v → Held (ahead k m) (room (given ++ c.legs ∷ [])) rest v
        fewer v ne (inl a) = go (has_cons_cases rest c a.0 a.1)
          where
            go : ContainsAt rest a.0 ⊎ (c ≡ a.0) → Held (ahead k m) (room (given ++ c.legs ∷ [])) rest v
            go (inl b) = inl (a.0, b, a.2)
            go (inr e) = absurd (ne (ap (λ (z : Candidate). z.legs) e ∙ a.2))
        fewer v ne (inr a) = inr (omega (arith, a.0, length_push given c.legs), a.1.1)

        routes' : AllByRecursion (Route m no_bars s t) (given ++ c.legs ∷ [])
        routes' = All-push (Route m no_bars s t) given c.legs routes here.other.route

        carried : (p : List ℕ) → Stem (given ++ c.legs ∷ []) p → deviation m (given ++ c.legs ∷ []) s p ≡ deviation m given s p → Searched k m given s t (c ∷ rest) p → Searched k m (given ++ c.legs ∷ []) s t rest p
        carried p st e (inl a) =
            let least : Least k m (deviation m (given ++ c.legs ∷ []) s p) (end_of m s p) t a.0 = subst⁻¹ (λ (b : Bars). Least k m b (end_of m s p) t a.0) e a.1 in
            let other = stem_sound m s t (given ++ c.legs ∷ []) routes' p a.0 st least.route in
            inl (a.0, least, fewer (p ++ a.0) (λ f. other.new (subst (λ (x : List ℕ). ContainsAt (given ++ c.legs ∷ []) x) f (has_push given c.legs))) a.2)
        carried p st e (inr none) = inr (λ q r. none q (subst (λ (b : Bars). Route m b (end_of m s p) t q) e r))

        from : (p : List ℕ) → Stem (given ++ c.legs ∷ []) p → (Stem given p × (deviation m (given ++ c.legs ∷ []) s p ≡ deviation m given s p)) ⊎ ((i : ℕ) × (c.at ≤ i) × (i < length c.legs) × (p ≡ take i c.legs)) → Searched k m (given ++ c.legs ∷ []) s t rest p ⊎ Ahead (given ++ c.legs ∷ []) c.at p
        from p st (inl a) = inl (carried p st a.1 (all_searched (c ∷ rest) j l h p a.0))
        from p st (inr b) = inr (b.0, b.1, omega (arith, b.2, ap length (newest_push given c.legs)), b.3 ∙ ap (take b.0) (sym (newest_push given c.legs)))

  -- what the next route leaves
  pub ranked_give : (given : List (List ℕ)) (w : List ℕ) → length given < 16 → Ranked k m s t given → Next k m given s t w → Ranked k m s t (given ++ w ∷ [])
  ranked_give given w l h n = record { routes = All-push (Route m no_bars s t) given w h.routes n.other.route; rising = ascending_push (ahead k m) given w h.rising (h.behind w n.other); behind = λ js o. behind js o; count = omega (arith, length_push given w) }
    where
      behind : (js : List ℕ) → Other m (given ++ w ∷ []) s t js → AllByRecursion (λ g. ahead k m g js ≡ true) (given ++ w ∷ [])
      behind js o = All-push (λ g. ahead k m g js ≡ true) given w (h.behind js old) (go (cases_Bool (ahead k m w js)))
        where
          old : Other m given s t js
          old = record { route = o.route; new = λ x. o.new (has_append_left given (w ∷ []) js x) }

          go : (ahead k m w js ≡ true) ⊎ (ahead k m w js ≡ false) → ahead k m w js ≡ true
          go (inl e) = e
          go (inr e) = absurd (o.new (subst (λ (x : List ℕ). ContainsAt (given ++ w ∷ []) x) ((ahead_strict m k laws).same w js e (n.first js old)) (has_push given w)))
