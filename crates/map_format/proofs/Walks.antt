-- The walk by kind bytes meets the records that were tested.
use Rattle.std.proofs.Common.{◌≡◌, ℕ, zero, suc, ◌+◌, ◌-◌, ◌≤◌, Bool, cond, ◌⊎◌, List, [], ◌∷◌, ◌++◌, length, get_or, Some, None, Ok, Err, Option, Result, sym, refl, ap, ◌∙◌, inl, inr, arith}
use Rattle.std.proofs.lemmas.List.{get_or_past}
use Rattle.std.proofs.lemmas.Bool.{cases_lt, lt-leb}
use Rattle.network.specs.Shown.{nothing}
use Rattle.network.specs.declared.refusal.Refusal.{Refusal}
use Rattle.map_format.specs.declared.fault.Fault.{Fault}
use Rattle.map_format.specs.declared.kind.Kind.{Kind}
use Rattle.map_format.specs.declared.kind.Kind.TheVariants.{Station as StationKind, Leg as LegKind, Notice as NoticeKind}
use Rattle.map_format.specs.Format.{Item, mark_of, kind_of}
use Rattle.map_format.specs.Reading.{Stretch, and_then, follow, end_of, due_record, run, notices}
use Rattle.map_format.specs.Walking.{of_kind, record_at, onward, at_most, records_from}
use Rattle.map_format.proofs.Records.{refused, due_inv, whole_bounds}
use Rattle.map_format.proofs.Runs.{due_bounds, notices_end}

pub either : {A B C : Type 0} → A ⊎ B → (A → C) → (B → C) → C
either (inl a) f g = f a
either (inr b) f g = g b

-- ---- what an answer that is no refusal was made of

pub follow_inv : (at : ℕ) (r : Result (Item × ℕ) Refusal) (behind : ℕ → Result Stretch Fault) (q : Stretch) → follow at r behind ≡ Ok q → (p : Item × ℕ) × (t : Stretch) × (r ≡ Ok p) × (behind p.1 ≡ Ok t) × (q.0 ≡ (at, p.0) ∷ t.0) × (q.1 ≡ t.1)
follow_inv at (Err why) behind q e = let f : Fault = record { why = why; place = at } in absurd (refused f q e)
follow_inv at (Ok p) behind q e = go (behind p.1) refl e
  where
    go : (b : Result Stretch Fault) → behind p.1 ≡ b → and_then b (λ t. Ok ((at, p.0) ∷ t.0, t.1)) ≡ Ok q → (p₁ : Item × ℕ) × (t : Stretch) × (◌≡◌ {A = Result (Item × ℕ) Refusal} (Ok p) (Ok p₁)) × (behind p₁.1 ≡ Ok t) × (q.0 ≡ (at, p₁.0) ∷ t.0) × (q.1 ≡ t.1)
    go (Err f) b-is k = absurd (refused f q k)
    go (Ok t) b-is k =
        let a : q.0 ≡ (at, p.0) ∷ t.0 = cc in
        let b : q.1 ≡ t.1 = cc in
        (p, t, refl, b-is, a, b)

pub end_inv : (r : Result Stretch Fault) (e : ℕ) → Ok e ≡ end_of r → (q : Stretch) × (r ≡ Ok q) × (q.1 ≡ e)
end_inv (Ok q) e h = let a : q.1 ≡ e = cc in (q, refl, a)
end_inv (Err f) e h = absurd (refused f e (sym h))

-- ---- a bound that is large enough does not matter

of_kind_bounds : (k : Option Kind) (file : List ℕ) (at : ℕ) (p : Item × ℕ) → of_kind k file at ≡ Some p → (at + 2 ≤ p.1) × (p.1 ≤ length file)
of_kind_bounds (Some kind) file at p e = whole_bounds kind file at p e
of_kind_bounds None file at p e = absurd (nothing p e)

pub record_bounds : (file : List ℕ) (at : ℕ) (p : Item × ℕ) → record_at file at ≡ Some p → (at + 2 ≤ p.1) × (p.1 ≤ length file)
record_bounds file at p e = of_kind_bounds (kind_of (get_or file at 0)) file at p e

pub record_past : (file : List ℕ) (at : ℕ) → length file ≤ at → record_at file at ≡ None
record_past file at h = ap (λ b. of_kind (kind_of b) file at) (get_or_past file at 0 h)

onward_same : (at : ℕ) (o : Option (Item × ℕ)) (f g : ℕ → List (ℕ × Item)) → ((p : Item × ℕ) → o ≡ Some p → f p.1 ≡ g p.1) → onward at o f ≡ onward at o g
onward_same at (Some p) f g h = ap (λ (l : List (ℕ × Item)). (at, p.0) ∷ l) (h p refl)
onward_same at None f g h = refl

at_most_end : (n : ℕ) (file : List ℕ) (at : ℕ) → length file ≤ at → at_most n file at ≡ []
at_most_end zero file at h = refl
at_most_end (suc n) file at h = ap (λ (o : Option (Item × ℕ)). onward at o (at_most n file)) (record_past file at h)

pub at_most_bound : (n m : ℕ) (file : List ℕ) (at : ℕ) → length file - at ≤ n → length file - at ≤ m → at_most n file at ≡ at_most m file at
at_most_bound zero m file at h k = sym (at_most_end m file at (omega arith))
at_most_bound (suc n) zero file at h k = at_most_end (suc n) file at (omega arith)
at_most_bound (suc n) (suc m) file at h k =
    onward_same at (record_at file at) (at_most n file) (at_most m file) (λ p e.
    let b = record_bounds file at p e in at_most_bound n m file p.1 (omega arith) (omega arith))

-- ---- one step of the walk

pub walk_step : (file : List ℕ) (at : ℕ) (p : Item × ℕ) → record_at file at ≡ Some p → records_from file at ≡ (at, p.0) ∷ records_from file p.1
walk_step file at p e =
    let b = record_bounds file at p e in
    let n : length file - at ≡ suc (length file - (at + 1)) = omega arith in
    ap (λ k. at_most k file at) n
    ∙ ap (λ (o : Option (Item × ℕ)). onward at o (at_most (length file - (at + 1)) file)) e
    ∙ ap (λ (l : List (ℕ × Item)). (at, p.0) ∷ l) (at_most_bound (length file - (at + 1)) (length file - p.1) file p.1 (omega arith) (omega arith))

walk_none : (n : ℕ) (file : List ℕ) (at : ℕ) → record_at file at ≡ None → at_most n file at ≡ []
walk_none zero file at e = refl
walk_none (suc n) file at e = ap (λ (o : Option (Item × ℕ)). onward at o (at_most n file)) e

pub walk_end : (file : List ℕ) (at : ℕ) → record_at file at ≡ None → records_from file at ≡ []
walk_end file at e = walk_none (length file - at) file at e

-- ---- the walk over tested records

kind_back : (kind : Kind) → kind_of (mark_of kind) ≡ Some kind
kind_back StationKind = refl
kind_back LegKind = refl
kind_back NoticeKind = refl

pub due_walk : (s : ℕ) (kind : Kind) (file : List ℕ) (at : ℕ) (p : Item × ℕ) → due_record s kind file at ≡ Ok p → record_at file at ≡ Some p
due_walk s kind file at p e =
    let d = due_inv s kind file at p e in
    ap (λ (k : Option Kind). of_kind k file at) (ap kind_of d.marked ∙ kind_back kind) ∙ d.whole

follow_walk : (s : ℕ) (kind : Kind) (file : List ℕ) (at : ℕ) (p : Item × ℕ) (t q : Stretch) → due_record s kind file at ≡ Ok p → q.0 ≡ (at, p.0) ∷ t.0 → q.1 ≡ t.1 → records_from file p.1 ≡ t.0 ++ records_from file t.1 → records_from file at ≡ q.0 ++ records_from file q.1
follow_walk s kind file at p t q d a b h =
    walk_step file at p (due_walk s kind file at p d)
    ∙ ap (λ (l : List (ℕ × Item)). (at, p.0) ∷ l) h
    ∙ ap (λ (l : List (ℕ × Item)). l ++ records_from file t.1) (sym a)
    ∙ ap (λ k. q.0 ++ records_from file k) (sym b)

pub run_walk : (kind : Kind) (s : ℕ) (file : List ℕ) (n at : ℕ) (q : Stretch) → run kind s file n at ≡ Ok q → records_from file at ≡ q.0 ++ records_from file q.1
run_walk kind s file zero at q e =
    let a : [] ≡ q.0 = cc in
    let b : at ≡ q.1 = cc in
    ap (records_from file) b ∙ ap (λ (l : List (ℕ × Item)). l ++ records_from file q.1) a
run_walk kind s file (suc n) at q e =
    let i = follow_inv at (due_record s kind file at) (run kind s file n) q e in
    follow_walk s kind file at i.0 i.1 q i.2 i.4 i.5 (run_walk kind s file n i.0.1 i.1 i.3)

-- notices that were read: the file ends there, or one record more was read
pub notices_inv : (s n : ℕ) (file : List ℕ) (at : ℕ) (q : Stretch) → notices s file (suc n) at ≡ Ok q → ((length file ≤ at) × (◌≡◌ {A = Result Stretch Fault} (Ok ([], at)) (Ok q))) ⊎ (follow at (due_record s NoticeKind file at) (notices s file n) ≡ Ok q)
notices_inv s n file at q e =
    either (cases_lt at (length file))
    (λ inside. inr (sym (ap (λ (b : Bool). cond b (Ok ([], at)) (follow at (due_record s NoticeKind file at) (notices s file n))) (lt-leb (length file) at inside)) ∙ e))
    (λ past. inl (past, sym (notices_end s (suc n) file at past) ∙ e))

walk_past : (file : List ℕ) (at : ℕ) (q : Stretch) → length file ≤ at → ◌≡◌ {A = Result Stretch Fault} (Ok ([], at)) (Ok q) → records_from file at ≡ q.0
walk_past file at q past e = let a : [] ≡ q.0 = cc in walk_end file at (record_past file at past) ∙ a

pub notices_walk : (s n : ℕ) (file : List ℕ) (at : ℕ) (q : Stretch) → length file - at ≤ n → notices s file n at ≡ Ok q → records_from file at ≡ q.0
notices_walk s zero file at q h e = walk_past file at q (omega arith) e
notices_walk s (suc n) file at q h e =
    either (notices_inv s n file at q e)
    (λ end. walk_past file at q end.0 end.1)
    (λ more.
    let i = follow_inv at (due_record s NoticeKind file at) (notices s file n) q more in
    let b = due_bounds s NoticeKind file at i.0 i.2 in
    let rest = notices_walk s n file i.0.1 i.1 (omega (arith, h, b.0)) i.3 in
    walk_step file at i.0 (due_walk s NoticeKind file at i.0 i.2) ∙ ap (λ (l : List (ℕ × Item)). (at, i.0.0) ∷ l) rest ∙ sym i.4)
