-- A queue with stale entries gives the open stations in rising cost.
use Rattle.std.proofs.Common.{◌≡◌, ℕ, ◌≤◌, Bool, true, false, sym, ap, ◌∙◌, subst, arith}
use Rattle.cost.specs.Costs.{Costs, Laws}
use Rattle.route.specs.Progress.{Put, Queued, Popped, Pushed}
use Rattle.route.proofs.Certify.{at_most_trans}
use Rattle.route.proofs.Settle.{either, put_cases}
use Rattle.std.proofs.lemmas.Bool.{cases_lt}

module _ {C : Type 0} (k : Costs C) (laws : Laws k) (seen : ℕ → Bool) (ord : ℕ → ℕ) (D : ℕ → C) (Entry Entry' : C → ℕ → Type 0) (p : Queued k seen ord D Entry) where
  -- the least entry, of a station that is not settled, is the least open station: what `settle-more` asks
  pub queue_least : (x : C) (u : ℕ) → Entry x u → ((y : C) (w : ℕ) → Entry y w → k.before y x ≡ false) → (w : ℕ) → seen w ≡ true → 64 ≤ ord w → k.before (D w) (D u) ≡ false
  queue_least x u h least w sw far = at_most_trans k laws (D u) x (D w) (p.stale x u h).1 (least (D w) w (p.covers w sw far))

  -- nothing is left: what `settle-all` asks
  pub queue_empty : ((x : C) (v : ℕ) → Entry x v → ⊥) → (v : ℕ) → seen v ≡ true → ord v ≤ 63
  queue_empty none v sv = either (cases_lt (ord v) 64) (λ h. omega arith) (λ far. absurd (none (D v) v (p.covers v sv far)))

  -- an entry of a settled station goes
  pub queue_pass : (x : C) (u : ℕ) → Popped Entry Entry' x u → ord u ≤ 63 → Queued k seen ord D Entry'
  queue_pass x u h near = record {
    covers = λ v sv far. either (h.others (D v) v (p.covers v sv far)) (λ e. e) (λ e. absurd (omega (arith, ap ord e.1)));
    stale = λ y w e. p.stale y w (h.before y w e);
  }

  -- the station of an entry is settled
  pub queue_settle : (x : C) (u c : ℕ) (ord' : ℕ → ℕ) → Popped Entry Entry' x u → Put ord ord' u c → c ≤ 63 → Queued k seen ord' D Entry'
  queue_settle x u c ord' h put hc = record {
    covers = λ v sv far. either (put_cases ord ord' u c put v)
        (λ e. absurd (omega arith))
        (λ e. either (h.others (D v) v (p.covers v sv (omega arith))) (λ y. y) (λ y. absurd (e.0 y.1)));
    stale = λ y w e. p.stale y w (h.before y w e);
  }

  -- a station takes its first cost or a lower one
  pub queue_push : (new : C) (v : ℕ) (seen' : ℕ → Bool) (D' : ℕ → C) → Pushed Entry Entry' new v → Put seen seen' v true → Put D D' v new → (seen v ≡ true → k.before new (D v) ≡ true) → Queued k seen' ord D' Entry'
  queue_push new v seen' D' h ps pd better = record {
    covers = λ w sw far. either (put_cases D D' v new pd w)
        (λ e. subst (λ y. Entry' (D' w) y) (sym e.0) (subst (λ y. Entry' y v) (sym e.1) h.here))
        (λ e. subst (λ y. Entry' y w) (sym e.1) (h.others (D w) w (p.covers w (sym (ps.elsewhere w e.0) ∙ sw) far)));
    stale = λ y w e. either (h.only y w e) (λ old. (still w (p.stale y w old).0, older y w old))
        (λ x. (subst (λ z. seen' z ≡ true) (sym x.1) ps.here, subst (λ z. k.before y z ≡ false) (sym (ap D' x.1 ∙ pd.here)) (subst (λ z. k.before z new ≡ false) (sym x.0) (laws.irreflexive new))));
  }
    where
      still : (y : ℕ) → seen y ≡ true → seen' y ≡ true
      still y sy = either (put_cases seen seen' v true ps y) (λ x. x.1) (λ x. x.1 ∙ sy)

      older : (y : C) (w : ℕ) → Entry y w → k.before y (D' w) ≡ false
      older y w old = either (put_cases D D' v new pd w)
          (λ e.
          let sv : seen v ≡ true = subst (λ z. seen z ≡ true) e.0 (p.stale y w old).0 in
          let low : k.before y (D v) ≡ false = subst (λ z. k.before y (D z) ≡ false) e.0 (p.stale y w old).1 in
          subst (λ z. k.before y z ≡ false) (sym e.1) (at_most_trans k laws new (D v) y (laws.one_way new (D v) (better sv)) low))
          (λ e. subst (λ z. k.before y z ≡ false) (sym e.1) (p.stale y w old).1)
