-- The steps of phase 2, in the labels.
use Rattle.std.proofs.Common.{◌≡◌, ℕ, suc, ◌+◌, ◌<◌, ◌≤◌, Bool, true, false, cond, ◌⊎◌, List, length, get_or, set, replicate, Some, None, Option, is_none, sym, refl, ap, ◌∙◌, subst, arith}
use Rattle.network.specs.declared.leg.Leg.{Leg}
use Rattle.network.specs.Meaning.{Meaning, Sound}
use Rattle.cost.specs.Costs.{Costs, Laws}
use Rattle.route.specs.Routes.{Bars}
use Rattle.route.specs.Certificate.{Tight, Settling, Labelling}
use Rattle.route.specs.Labels.{LabellingAlong}
use Rattle.route.specs.Progress.{Put}
use Rattle.route.proofs.Settle.{either, same_leg}
use Rattle.route.proofs.LabelAlong.{label_none, label_skip, label_next, label_all, label_stands, label_settled, label_most, label_room, label_more, label_lower}
use Rattle.search.specs.declared.labels.Label.{Label}
use Rattle.search.specs.declared.labels.Labels.{Labels}
use Rattle.search.specs.Lines.{line_of, label_of, hops_in, first_in, hops_of, first_of, Labelled, unlabelled, put_label, first_label}
use Rattle.search.proofs.Tables.{put_set}
use Rattle.std.proofs.lemmas.List.{length-set, length-replicate, get_or-replicate, get_or_past, get_or-set_same, get_or-set_other}
use Rattle.std.proofs.lemmas.Bool.{cases_Bool, cases_eq, cases_lt, both_ways}

-- what is read of the labels, where a station gets one
put_in : {A : Type 0} (f : Option Label → A) (xs : List (Option Label)) (v : ℕ) (x : Option Label) → v < length xs → Put (λ y. f (get_or xs y None)) (λ y. f (get_or (set xs v x) y None)) v (f x)
put_in f xs v x h = record { here = ap f (get_or-set_same xs v x None h); elsewhere = λ y ne. ap f (get_or-set_other xs v y x None ne) }

one_value : {X : Type 0} (n i : ℕ) (x : X) → get_or (replicate n x) i x ≡ x
one_value n i x = either (cases_lt i n) (get_or-replicate n i x x) (λ h. get_or_past (replicate n x) i x (omega (arith, length-replicate n x)))

-- what has no label has hops of 64
none_far : (o : Option Label) → is_none o ≡ true → hops_in o ≡ 64
none_far None e = refl
none_far (Some x) e = cc

-- only the goal has a label
pub labelled_start : {C : Type 0} (k : Costs C) (m : Meaning) (b : Bars) (goal : ℕ) (D : ℕ → C) → D goal ≡ k.zero → goal < 64 → Labelled k m b goal 0 0 D (first_label goal)
labelled_start k m b goal D gc h = record {
  line_long = length-set (replicate 64 0) 0 goal ∙ length-replicate {A = ℕ} 64 0;
  labels_long = length-set none goal only ∙ long;
  few = λ v e. either (cases_eq v goal)
      (λ x. omega (arith, ap (λ y. hops_in (get_or (set none goal only) y None)) x, here))
      (λ ne. absurd (both_ways (is_none (get_or (set none goal only) v None)) e (ap is_none (elsewhere v ne))));
  goal_cost = gc;
  labels = label_none k m b goal D (λ j. get_or (set (replicate 64 0) 0 goal) j 0) (λ v. hops_in (get_or (set none goal only) v None)) (λ v. first_in (get_or (set none goal only) v None))
      (get_or-set_same (replicate 64 0) 0 goal 0 (subst (λ n. 0 < n) (sym (length-replicate {A = ℕ} 64 0)) (omega arith)))
      here
      (λ v ne. omega (arith, ap hops_in (elsewhere v ne)));
}
  where
    none : List (Option Label)
    none = replicate 64 None

    only : Option Label
    only = Some (record { hops = 0; first = 0 })

    long : length none ≡ 64
    long = length-replicate {A = Option Label} 64 None

    here : hops_in (get_or (set none goal only) goal None) ≡ 0
    here = ap hops_in (get_or-set_same none goal only None (omega (arith, h, long)))

    elsewhere : (v : ℕ) → (v ≡ goal → ⊥) → get_or (set none goal only) v None ≡ None
    elsewhere v ne = get_or-set_other none goal v only None ne ∙ one_value 64 v None

module _ {C : Type 0} (k : Costs C) (m : Meaning) (b : Bars) (goal c i : ℕ) (D : ℕ → C) (ls : Labels) (p : Labelled k m b goal c i D ls) where
  pub labelled_below : (v : ℕ) → hops_of ls v ≤ 63 → v < 64
  labelled_below v h = either (cases_lt v 64) (λ x. x) (λ x. absurd (omega (arith, h, ap hops_in (get_or_past ls.labels v None (omega (arith, x, p.labels_long))))))

  pub labelled_most : ls.count ≤ 64
  labelled_most = label_most k m b goal D c ls.count i (line_of ls) (hops_of ls) (first_of ls) p.labels 64 labelled_below

  pub labelled_line : (j : ℕ) → j < ls.count → line_of ls j < 64
  labelled_line j h = labelled_below (line_of ls j) (p.labels.listed j h)

  pub labelled_next : Sound m → (i ≡ m.legs) ⊎ (63 ≤ hops_of ls (line_of ls c)) → Labelled k m b goal (suc c) 0 D ls
  labelled_next sound done = record {
    line_long = p.line_long;
    labels_long = p.labels_long;
    few = p.few;
    goal_cost = p.goal_cost;
    labels = label_next k m b goal D c ls.count i (line_of ls) (hops_of ls) (first_of ls) p.labels sound done;
  }

  pub labelled_all : ls.count ≤ c → Labelling k m b goal D (hops_of ls) (first_of ls)
  labelled_all done = label_all k m b goal D c ls.count i (line_of ls) (hops_of ls) (first_of ls) p.labels done

  pub labelled_settled : (settled : ℕ → Bool) (ord : ℕ → ℕ) → Settling k m b goal settled ord D → (v : ℕ) → hops_of ls v ≤ 63 → settled v ≡ true
  labelled_settled settled ord q v h = label_settled k m b goal D c ls.count i (line_of ls) (hops_of ls) (first_of ls) p.labels settled ord q (hops_of ls v) v refl h

  pub labelled_stands : Laws k → Sound m → (v : ℕ) → hops_of ls v ≤ 63 → k.stands (D v) (hops_of ls v)
  labelled_stands laws sound v h = label_stands k m b goal D c ls.count i (line_of ls) (hops_of ls) (first_of ls) p.labels laws sound p.goal_cost (hops_of ls v) v refl h

  -- no leg with a number from i up to j arrives at the c-th station
  pub labelled_skip : (j : ℕ) → ((e : ℕ) (l : Leg) → m.at e ≡ Some l → l.to ≡ line_of ls c → i ≤ e → e < j → ⊥) → Labelled k m b goal c j D ls
  labelled_skip j none = record {
    line_long = p.line_long;
    labels_long = p.labels_long;
    few = p.few;
    goal_cost = p.goal_cost;
    labels = label_skip k m b goal D c ls.count i (line_of ls) (hops_of ls) (first_of ls) p.labels j (λ e l t h h' end o. absurd (none e l t.usable.shown (sym end) h h'));
  }

  module _ (l : Leg) (at : m.at i ≡ Some l) where
    -- the leg with the number i gives no label, or no better one
    pub labelled_pass : (Tight k m b D i l → (hops_of ls l.from ≤ suc (hops_of ls l.to)) × (hops_of ls l.from ≡ suc (hops_of ls l.to) → first_of ls l.from ≤ i)) → Labelled k m b goal c (suc i) D ls
    labelled_pass pass = record {
      line_long = p.line_long;
      labels_long = p.labels_long;
      few = p.few;
      goal_cost = p.goal_cost;
      labels = label_skip k m b goal D c ls.count i (line_of ls) (hops_of ls) (first_of ls) p.labels (suc i) better;
    }
      where
        P : ℕ → Leg → Type 0
        P e x = Tight k m b D e x → (hops_of ls x.from ≤ suc (hops_of ls x.to)) × (hops_of ls x.from ≡ suc (hops_of ls x.to) → first_of ls x.from ≤ e)

        better : (e : ℕ) (l' : Leg) → Tight k m b D e l' → i ≤ e → e < suc i → line_of ls c ≡ l'.to → hops_of ls l'.to ≤ 62 → (hops_of ls l'.from ≤ suc (hops_of ls l'.to)) × (hops_of ls l'.from ≡ suc (hops_of ls l'.to) → first_of ls l'.from ≤ e)
        better e l' t h h' end o =
            let same : e ≡ i = omega (arith, h, h') in
            let this : l' ≡ l = same_leg m i l' l (ap m.at (sym same) ∙ t.usable.shown) at in
            subst (λ y. P y l') (sym same) (subst (P i) (sym this) pass) t

    module _ (t : Tight k m b D i l) (end : line_of ls c ≡ l.to) (from_in : l.from < 64) (turn : c < ls.count) (low : hops_of ls l.to ≤ 62) (x : Label) (one : x.hops ≡ suc (hops_of ls l.to)) (this : x.first ≡ i) where
      hops_put : Put (hops_of ls) (λ v. hops_in (get_or (set ls.labels l.from (Some x)) v None)) l.from (suc (hops_of ls l.to))
      hops_put = subst (Put (hops_of ls) (λ v. hops_in (get_or (set ls.labels l.from (Some x)) v None)) l.from) one (put_in hops_in ls.labels l.from (Some x) (omega (arith, from_in, p.labels_long)))

      first_put : Put (first_of ls) (λ v. first_in (get_or (set ls.labels l.from (Some x)) v None)) l.from i
      first_put = subst (Put (first_of ls) (λ v. first_in (get_or (set ls.labels l.from (Some x)) v None)) l.from) this (put_in first_in ls.labels l.from (Some x) (omega (arith, from_in, p.labels_long)))

      few_put : (v : ℕ) → is_none (get_or (set ls.labels l.from (Some x)) v None) ≡ false → hops_in (get_or (set ls.labels l.from (Some x)) v None) ≤ 63
      few_put v e = either (cases_eq v l.from)
          (λ y. omega (arith, ap (λ z. hops_in (get_or (set ls.labels l.from (Some x)) z None)) y, hops_put.here, low))
          (λ ne.
          let same = get_or-set_other ls.labels l.from v (Some x) None ne in
          omega (arith, ap hops_in same, p.few v (sym (ap is_none same) ∙ e)))

      -- a station gets its first label
      labelled_more : 64 ≤ hops_of ls l.from → (ls.count < 64) × Labelled k m b goal c (suc i) D (record { line = set ls.line ls.count l.from; count = ls.count + 1; done = ls.done; labels = set ls.labels l.from (Some x) })
      labelled_more none =
          let room : ls.count < 64 = label_room k m b goal D c ls.count i (line_of ls) (hops_of ls) (first_of ls) p.labels 64 l.from labelled_below from_in none in
          let next : suc ls.count ≡ ls.count + 1 = omega arith in (
            room,
            record {
              line_long = length-set ls.line ls.count l.from ∙ p.line_long;
              labels_long = length-set ls.labels l.from (Some x) ∙ p.labels_long;
              few = few_put;
              goal_cost = p.goal_cost;
              labels = subst (λ n. LabellingAlong k m b goal c n (suc i) D (λ j. get_or (set ls.line ls.count l.from) j 0) (λ v. hops_in (get_or (set ls.labels l.from (Some x)) v None)) (λ v. first_in (get_or (set ls.labels l.from (Some x)) v None))) next
                  (label_more k m b goal D c ls.count i (line_of ls) (hops_of ls) (first_of ls) p.labels l t end (λ j. get_or (set ls.line ls.count l.from) j 0) (λ v. hops_in (get_or (set ls.labels l.from (Some x)) v None)) (λ v. first_in (get_or (set ls.labels l.from (Some x)) v None))
                  turn low none (put_set ls.line ls.count l.from 0 (omega (arith, room, p.line_long))) hops_put first_put);
            },
          )

      -- a leg with a lower number gives a label of as many legs
      labelled_lower : hops_of ls l.from ≡ suc (hops_of ls l.to) → i ≤ first_of ls l.from → Labelled k m b goal c (suc i) D (record { line = ls.line; count = ls.count; done = ls.done; labels = set ls.labels l.from (Some x) })
      labelled_lower same lower = record {
        line_long = p.line_long;
        labels_long = length-set ls.labels l.from (Some x) ∙ p.labels_long;
        few = few_put;
        goal_cost = p.goal_cost;
        labels = subst (λ f. LabellingAlong k m b goal c ls.count (suc i) D (line_of ls) f (λ v. first_in (get_or (set ls.labels l.from (Some x)) v None))) (λ z v. kept v z)
            (label_lower k m b goal D c ls.count i (line_of ls) (hops_of ls) (first_of ls) p.labels l t end (λ v. first_in (get_or (set ls.labels l.from (Some x)) v None)) turn low same lower first_put);
      }
        where
          kept : (v : ℕ) → hops_of ls v ≡ hops_in (get_or (set ls.labels l.from (Some x)) v None)
          kept v = either (cases_eq v l.from)
              (λ e. ap (hops_of ls) e ∙ same ∙ sym (ap (λ y. hops_in (get_or (set ls.labels l.from (Some x)) y None)) e ∙ hops_put.here))
              (λ ne. sym (hops_put.elsewhere v ne))

      pub labelled_room : unlabelled ls l.from ≡ true → ls.count < 64
      labelled_room e = (labelled_more (omega (arith, none_far (label_of ls l.from) e))).0

      -- the label over the leg is the first, or better than the one that the station has
      pub labelled_put : x.hops ≤ hops_of ls l.from → (hops_of ls l.from ≡ x.hops → i ≤ first_of ls l.from) → Labelled k m b goal c (suc i) D (put_label ls l.from x)
      labelled_put more lower = either (cases_Bool (unlabelled ls l.from))
          (λ e. subst (λ t. Labelled k m b goal c (suc i) D (put_with t)) (sym e) (labelled_more (omega (arith, none_far (label_of ls l.from) e))).1)
          (λ e.
          let same : hops_of ls l.from ≡ suc (hops_of ls l.to) = omega (arith, one, more, p.labels.near l.from (p.few l.from e) turn, ap (hops_of ls) end) in
          subst (λ t. Labelled k m b goal c (suc i) D (put_with t)) (sym e) (labelled_lower same (lower (same ∙ sym one))))
        where
          put_with : Bool → Labels
          put_with t = record { line = cond t (set ls.line ls.count l.from) ls.line; count = cond t (ls.count + 1) ls.count; done = ls.done; labels = set ls.labels l.from (Some x) }

-- how many are done is told by c
pub labelled_done : {C : Type 0} (k : Costs C) (m : Meaning) (b : Bars) (goal c i : ℕ) (D : ℕ → C) (ls : Labels) (n : ℕ) → Labelled k m b goal c i D ls → Labelled k m b goal c i D (record { line = ls.line; count = ls.count; done = n; labels = ls.labels })
labelled_done k m b goal c i D ls n p = record { line_long = p.line_long; labels_long = p.labels_long; few = p.few; goal_cost = p.goal_cost; labels = p.labels }
