-- What the phases of a search come to.
use Rattle.std.proofs.Common.{◌≡◌, ℕ, ◌<◌, ◌≤◌, true, cond, List, [], ◌∷◌, ◌++◌, length, set, replicate, Some, None, Option, sym, ap, ◌∙◌, subst, arith}
use Rattle.network.specs.Meaning.{Meaning, Sound}
use Rattle.cost.specs.Costs.{Costs, Laws}
use Rattle.queue.specs.declared.queue.Queue.{Queue}
use Rattle.queue.specs.Waiting.{held, gone, room, has_room, Keeps}
use Rattle.route.specs.Routes.{Bars, Route, Least}
use Rattle.route.specs.Certificate.{Labelling, Answers, Short, follow}
use Rattle.route.proofs.Certify.{theorem, chain_settled, route_chain}
use Rattle.route.proofs.Walks.{short}
use Rattle.search_types.specs.declared.entry.Entry.{Entry}
use Rattle.search.specs.declared.labels.Labels.{Labels}
use Rattle.search.specs.declared.search.Search.{Search}
use Rattle.search.specs.Lines.{hops_of, first_of}
use Rattle.search.specs.Stages.{network_of, barred_in, Stage}
use Rattle.search.specs.Tables.{place, seen, turn, cost_of, Settles, Settled}
use Rattle.search.proofs.Places.{settles_start}
use Rattle.search.proofs.Tables.{seen_placed, placed_seen}
use Rattle.snapshot.specs.Sounds.{snapshot_sound}
use Rattle.std.proofs.lemmas.Bool.{lt-ltb, cond-true}

short_of : (m : Meaning) → Sound m → Short m
short_of m sound b s t is r = omega (arith, short m sound b s t is r, sound.stations_high)

module _ {C : Type 0} (k : Costs C) (laws : Laws k) (m : Meaning) (sound : Sound m) (b : Bars) (goal : ℕ) (row : List (Entry C)) (places : List (Option ℕ)) (p : Settled k m b goal row places) (start : ℕ) where
  pub none_found : 64 ≤ place places start → (is : List ℕ) → Route m b start goal is → ⊥
  none_found far is r = omega (arith, far, seen_placed places start (chain_settled k laws m sound b goal (seen places) (turn places (length row)) (cost_of k row places) p.settling is start (route_chain m b start goal is r)))

  module _ (ls : Labels) (q : Labelling k m b goal (cost_of k row places) (hops_of ls) (first_of ls)) (near : place places start ≤ 63) where
    told : Answers k m b start goal (seen places) (cost_of k row places) (hops_of ls) (first_of ls)
    told = theorem k laws m sound (short_of m sound) b goal (seen places) (turn places (length row)) (cost_of k row places) (hops_of ls) (first_of ls) (record { settling = p.settling; labelling = q }) start

    pub least_hops : hops_of ls start ≤ 63
    least_hops = told.labelled (placed_seen places start near)

    pub least_found : (start ≡ goal → ⊥) → Least k m b start goal (follow m (first_of ls) (hops_of ls start) start)
    least_found ne = told.least (placed_seen places start near) ne

-- only the goal waits
module _ {K C : Type 0} (k : Costs C) (s : Search K) (fits : s.goal < (network_of s).stations) (q q' : Queue (Entry C)) (z : C) (ez : z ≡ k.zero) (none : held q ≡ []) (first : gone q ≡ 0) (roomy : (network_of s).stations ≤ room q) where
  pub stage_start : (i f : ℕ) → f ≡ s.goal → held q' ≡ cond (has_room q) (held q ++ record { cost = z; station = s.goal } ∷ []) (held q) → Keeps q q' → Stage k s i (record { queue = q'; places = set (replicate 64 None) f (Some 0) })
  stage_start i f ef hs keeps = record {
    settles = subst (λ n. Settles k (network_of s) (barred_in s) s.goal n i (held q') (set (replicate 64 None) f (Some 0))) (sym (keeps.gone_is ∙ first))
        (subst (λ xs. Settles k (network_of s) (barred_in s) s.goal 0 i xs (set (replicate 64 None) f (Some 0))) (sym (hs ∙ cond-true (has_room q) (held q ++ record { cost = z; station = s.goal } ∷ []) (held q) free ∙ ap (λ xs. xs ++ record { cost = z; station = s.goal } ∷ []) none))
        (subst (λ v. Settles k (network_of s) (barred_in s) s.goal 0 i (record { cost = z; station = s.goal } ∷ []) (set (replicate 64 None) v (Some 0))) (sym ef)
        (settles_start k (network_of s) (barred_in s) s.goal i (snapshot_sound s.network.now) fits z ez)));
    roomy = subst (λ n. (network_of s).stations ≤ n) (sym keeps.same_row.room_is) roomy;
  }
    where
      free : has_room q ≡ true
      free = lt-ltb (length (held q)) (room q) (omega (arith, ap length none, roomy, (snapshot_sound s.network.now).stations_low))
