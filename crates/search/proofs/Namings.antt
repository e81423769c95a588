-- Phase 2 in its tables: what one leg does.
use mathlib.Core.Logic.{∥∥₁_elim}
use Rattle.std.proofs.Common.{◌≡◌, ℕ, suc, ◌+◌, ◌<◌, ◌≤◌, Bool, true, false, cond, eqb, ltb, ◌⊎◌, length, get_or, set, Some, None, Decides, sym, refl, ap, ◌∙◌, subst, inl, inr, arith}
use Rattle.network.specs.declared.leg.Leg.{Leg}
use Rattle.network.specs.Meaning.{Sound}
use Rattle.cost.specs.Costs.{Costs, Laws}
use Rattle.route.specs.Certificate.{Usable, Tight}
use Rattle.route.proofs.Settle.{either}
use Rattle.search.specs.declared.cost_table.CostTable.{CostTable}
use Rattle.search.specs.declared.labels.Label.{Label}
use Rattle.search.specs.declared.labels.Labels.{Labels}
use Rattle.search.specs.declared.search.Search.{Search}
use Rattle.search.specs.Lines.{line_of, hops_in, hops_of, first_of, unlabelled, improves, put_label}
use Rattle.search.specs.Stages.{network_of, barred_in, table_cost, SettledIn, LabelledIn, Current, Naming}
use Rattle.search.specs.Tables.{place, seen, turn}
use Rattle.search.proofs.Lines.{labelled_settled, labelled_stands, labelled_skip, labelled_pass, labelled_room, labelled_put}
use Rattle.search.proofs.Tables.{seen_placed}
use Rattle.snapshot.specs.Meanings.{Arrives}
use Rattle.snapshot.specs.Steps.{Awaits, Stepped}
use Rattle.snapshot.specs.declared.iter.ArrivalsAt.{ArrivalsAt}
use Rattle.snapshot.specs.Sounds.{snapshot_sound}
use Rattle.std.proofs.Props.{props}
use Rattle.std.proofs.lemmas.List.{get_or-set_other}
use Rattle.std.proofs.lemmas.Bool.{cases_eq, eq-eqb, ne_eqb, ltb-true, ltb-false, cond-true, cond-false, cond_both}

-- what the test for a better label tells
not_better : (h h' e e' : ℕ) → cond (eqb h h') (ltb e e') (ltb h h') ≡ false → (h' < h) ⊎ ((h' ≡ h) × (e' ≤ e))
not_better h h' e e' told = either (cases_eq h h')
    (λ x. inr (sym x, ltb-false e e' (sym (cond-true (eqb h h') (ltb e e') (ltb h h') (eq-eqb h h' x)) ∙ told)))
    (λ x. inl (omega (arith, x, ltb-false h h' (sym (cond-false (eqb h h') (ltb e e') (ltb h h') (ne_eqb h h' x)) ∙ told))))

better : (h h' e e' : ℕ) → cond (eqb h h') (ltb e e') (ltb h h') ≡ true → (h < h') ⊎ ((h' ≡ h) × (e < e'))
better h h' e e' told = either (cases_eq h h')
    (λ x. inr (sym x, ltb-true e e' (sym (cond-true (eqb h h') (ltb e e') (ltb h h') (eq-eqb h h' x)) ∙ told)))
    (λ x. inl (ltb-true h h' (sym (cond-false (eqb h h') (ltb e e') (ltb h h') (ne_eqb h h' x)) ∙ told)))

module _ {K C : Type 0} (k : Costs C) (laws : Laws k) (s : Search K) (t : CostTable C) where
  sound : Sound (network_of s)
  sound = snapshot_sound s.network.now

  module _ (i : ℕ) (l : Leg) (at : (network_of s).at i ≡ Some l) where
    -- the start of a usable leg into a settled station has a cost in the table
    pub from_placed : ∥ SettledIn k s t ∥₁ → seen t.places.now l.to ≡ true → Usable (network_of s) (barred_in s) i l → place t.places.now l.from < length t.row.now
    from_placed settled e g = ∥∥₁_elim settled (hlevel props) (λ p. (p.placed.there l.from (seen_placed t.places.now l.from (p.settling.closed i l g e))).0)

    -- the test for a tight leg: r is the joined cost, z the cost of the start, b whether they are equal
    pub tight_told : Usable (network_of s) (barred_in s) i l → ((h : ℕ) × (h ≤ 62) × k.stands (table_cost k t l.to) h) → (a y r z : C) → a ≡ k.of_leg l → y ≡ table_cost k t l.to → z ≡ table_cost k t l.from → ((m n : ℕ) → k.stands a m → k.stands y n → m + n ≤ 63 → r ≡ k.join a y) → (b : Bool) → Decides b (r ≡ z) → Decides b (Tight k (network_of s) (barred_in s) (table_cost k t) i l)
    tight_told g (h, low, st) a y r z ea ey ez joined b told =
        let sa : k.stands a 1 = subst (λ c. k.stands c 1) (sym ea) (laws.stands_leg l (sound.fits i l at).figures) in
        let sy : k.stands y h = subst (λ c. k.stands c h) (sym ey) st in
        let over : r ≡ k.join (k.of_leg l) (table_cost k t l.to) = joined 1 h sa sy (omega (arith, low)) ∙ ap (λ c. k.join c y) ea ∙ ap (k.join (k.of_leg l)) ey in
        (λ e. record { usable = g; gives = sym ez ∙ sym (told.0 e) ∙ over }, λ w. told.1 (over ∙ sym w.gives ∙ sym ez))

  module _ (x : Label) (ls : Labels) (p : LabelledIn k s t ls.done x.first ls) (cur : Current x.hops ls) (arrives : Arrives ((network_of s).at x.first) (line_of ls ls.done)) (l : Leg) (at : (network_of s).at x.first ≡ Some l) where
    end : line_of ls ls.done ≡ l.to
    end = sym (subst (λ o. Arrives o (line_of ls ls.done)) at arrives)

    one : x.hops ≡ suc (hops_of ls l.to)
    one = cur.hops ∙ ap (λ v. suc (hops_of ls v)) end

    to_hops : hops_of ls l.to ≤ 62
    to_hops = omega (arith, one, cur.near)

    pub from_below : l.from < 64
    from_below = omega (arith, (sound.fits x.first l at).from_fits, sound.stations_high)

    pub to_seen : ∥ SettledIn k s t ∥₁ → seen t.places.now l.to ≡ true
    to_seen settled = ∥∥₁_elim settled (hlevel props)
        (λ q. labelled_settled k (network_of s) (barred_in s) s.goal ls.done x.first (table_cost k t) ls p (seen t.places.now) (turn t.places.now (length t.row.now)) q.settling l.to (omega (arith, to_hops)))

    pub to_stands : (h : ℕ) × (h ≤ 62) × k.stands (table_cost k t l.to) h
    to_stands = (hops_of ls l.to, to_hops, labelled_stands k (network_of s) (barred_in s) s.goal ls.done x.first (table_cost k t) ls p laws sound l.to (omega (arith, to_hops)))

    -- the start of the leg has a label that is as good
    pub naming_pass : improves ls l.from x ≡ false → LabelledIn k s t ls.done (suc x.first) ls
    naming_pass told = labelled_pass k (network_of s) (barred_in s) s.goal ls.done x.first (table_cost k t) ls p l at
        (λ _. either (not_better x.hops (hops_of ls l.from) x.first (first_of ls l.from) told)
        (λ y. (omega (arith, y, one), λ e. absurd (omega (arith, y, one, e))))
        (λ y. (omega (arith, y.0, one), λ _. y.1)))

    -- or the leg is not tight
    pub naming_loose : (Tight k (network_of s) (barred_in s) (table_cost k t) x.first l → ⊥) → LabelledIn k s t ls.done (suc x.first) ls
    naming_loose loose = labelled_pass k (network_of s) (barred_in s) s.goal ls.done x.first (table_cost k t) ls p l at (λ w. absurd (loose w))

    module _ (w : Tight k (network_of s) (barred_in s) (table_cost k t) x.first l) where
      pub put_room : unlabelled ls l.from ≡ true → ls.count < 64
      put_room = labelled_room k (network_of s) (barred_in s) s.goal ls.done x.first (table_cost k t) ls p l at w end from_below cur.in_line to_hops x one refl

      pub put_station : line_of (put_label ls l.from x) ls.done ≡ line_of ls ls.done
      put_station = cond_both (unlabelled ls l.from) (set ls.line ls.count l.from) ls.line (λ xs. get_or xs ls.done 0 ≡ line_of ls ls.done)
          (λ _. get_or-set_other ls.line ls.count ls.done l.from 0 (λ e. omega (arith, e, cur.in_line))) (λ _. refl)

      module _ (told : improves ls l.from x ≡ true) where
        more : (x.hops < hops_of ls l.from) ⊎ ((hops_of ls l.from ≡ x.hops) × (x.first < first_of ls l.from))
        more = better x.hops (hops_of ls l.from) x.first (first_of ls l.from) told

        pub put_labelled : LabelledIn k s t ls.done (suc x.first) (put_label ls l.from x)
        put_labelled = labelled_put k (network_of s) (barred_in s) s.goal ls.done x.first (table_cost k t) ls p l at w end from_below cur.in_line to_hops x one refl
            (either more (λ y. omega (arith, y)) (λ y. omega (arith, y.0)))
            (λ e. either more (λ y. absurd (omega (arith, y, e))) (λ y. omega (arith, y.1)))

        pub put_current : Current x.hops (put_label ls l.from x)
        put_current = record {
          in_line = cond_both (unlabelled ls l.from) (ls.count + 1) ls.count (λ n. ls.done < n) (λ _. omega (arith, cur.in_line)) (λ _. cur.in_line);
          hops = one ∙ ap suc (sym (ap hops_in (get_or-set_other ls.labels l.from l.to (Some x) None apart))) ∙ ap (λ v. suc (hops_of (put_label ls l.from x) v)) (sym (put_station ∙ end));
          near = cur.near;
        }
          where
            apart : l.to ≡ l.from → ⊥
            apart e = either more (λ y. omega (arith, one, y, ap (hops_of ls) e)) (λ y. omega (arith, one, y.0, ap (hops_of ls) e))

  module _ (h i : ℕ) (w w' : ArrivalsAt) (ls : Labels) (p : Naming k s t h i w ls) where
    -- at the next arrival, all legs before it were looked at
    pub naming_next : (e : ℕ) → Stepped w (Some e) w' → LabelledIn k s t ls.done e ls × Arrives ((network_of s).at e) (line_of ls ls.done) × Awaits w' (network_of s) (line_of ls ls.done) (suc e)
    naming_next e step =
        let (here, more) = step (network_of s) (line_of ls ls.done) i p.awaits in (
          labelled_skip k (network_of s) (barred_in s) s.goal ls.done i (table_cost k t) ls p.labelled e (λ f l at to h h'. here.lowest f h h' (subst (λ o. Arrives o (line_of ls ls.done)) (sym at) to)),
          here.arrives,
          more,
        )

    -- at the end, all were
    pub naming_end : Stepped w None w' → LabelledIn k s t ls.done (network_of s).legs ls
    naming_end step = labelled_skip k (network_of s) (barred_in s) s.goal ls.done i (table_cost k t) ls p.labelled (network_of s).legs
        (λ f l at to h _. step.1 (network_of s) (line_of ls ls.done) i p.awaits f h (subst (λ o. Arrives o (line_of ls ls.done)) (sym at) to))
