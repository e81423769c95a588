-- How a run of records goes on behind its first one.
use Rattle.std.proofs.Common.{◌≡◌, ℕ, zero, suc, ◌+◌, ◌-◌, ◌<◌, ◌≤◌, Bool, cond, leb, List, [], ◌∷◌, length, Ok, Err, Result, sym, refl, ap, ◌∙◌, arith}
use Rattle.std.proofs.lemmas.Bool.{le-leb, lt-leb}
use Rattle.network.specs.declared.refusal.Refusal.{Refusal}
use Rattle.map_format.specs.declared.fault.Fault.{Fault}
use Rattle.map_format.specs.declared.kind.Kind.{Kind}
use Rattle.map_format.specs.declared.kind.Kind.TheVariants.{Notice as NoticeKind}
use Rattle.map_format.specs.Format.{Item}
use Rattle.map_format.specs.Reading.{Stretch, and_then, follow, end_of, due_record, run, notices}
use Rattle.map_format.proofs.Records.{refused, due_inv, whole_bounds}

end_with : (p : ℕ × Item) (r : Result Stretch Fault) → end_of (and_then r (λ q. Ok (p ∷ q.0, q.1))) ≡ end_of r
end_with p (Ok q) = refl
end_with p (Err f) = refl

pub end_follow : (at : ℕ) (r : Result (Item × ℕ) Refusal) (behind : ℕ → Result Stretch Fault) (p : Item × ℕ) → r ≡ Ok p → end_of (follow at r behind) ≡ end_of (behind p.1)
end_follow at r behind p e = rw e (end_with (at, p.0) (behind p.1))

-- a run of one record, read back
pub one_inv : (kind : Kind) (s : ℕ) (file : List ℕ) (at : ℕ) (r : Result (Item × ℕ) Refusal) (e : ℕ) → Ok e ≡ end_of (follow at r (run kind s file 0)) → (p : Item × ℕ) × (r ≡ Ok p) × (p.1 ≡ e)
one_inv kind s file at (Ok p) e h = let is : p.1 ≡ e = cc in (p, refl, is)
one_inv kind s file at (Err why) e h = absurd (refused (record { why = why; place = at }) e (sym h))

pub one_stop : (kind : Kind) (s : ℕ) (file : List ℕ) (at : ℕ) (r : Result (Item × ℕ) Refusal) (behind : ℕ → Result Stretch Fault) (f : Fault) → Err f ≡ end_of (follow at r (run kind s file 0)) → end_of (follow at r behind) ≡ Err f
one_stop kind s file at (Ok p) behind f h = absurd (refused f p.1 h)
one_stop kind s file at (Err why) behind f h = sym h

module _ (kind : Kind) (s : ℕ) (file : List ℕ) (count i at : ℕ) (more : i < count) where
  unrolled : end_of (run kind s file (count - i) at) ≡ end_of (follow at (due_record s kind file at) (run kind s file (count - (i + 1))))
  unrolled = let n : count - i ≡ suc (count - (i + 1)) = omega arith in ap (λ k. end_of (run kind s file k at)) n

  pub run_more : (e : ℕ) → Ok e ≡ end_of (run kind s file 1 at) → end_of (run kind s file (count - i) at) ≡ end_of (run kind s file (count - (i + 1)) e)
  run_more e h =
      let p = one_inv kind s file at (due_record s kind file at) e h in
      unrolled ∙ end_follow at (due_record s kind file at) (run kind s file (count - (i + 1))) p.0 p.1 ∙ ap (λ k. end_of (run kind s file (count - (i + 1)) k)) p.2

  pub run_stop : (f : Fault) → Err f ≡ end_of (run kind s file 1 at) → end_of (run kind s file (count - i) at) ≡ Err f
  run_stop f h = unrolled ∙ one_stop kind s file at (due_record s kind file at) (run kind s file (count - (i + 1))) f h

-- ---- notices: a bound that is large enough does not matter

pub due_bounds : (s : ℕ) (kind : Kind) (file : List ℕ) (at : ℕ) (p : Item × ℕ) → due_record s kind file at ≡ Ok p → (at + 2 ≤ p.1) × (p.1 ≤ length file)
due_bounds s kind file at p e = whole_bounds kind file at p (due_inv s kind file at p e).whole

follow_same : (at : ℕ) (r : Result (Item × ℕ) Refusal) (f g : ℕ → Result Stretch Fault) → ((p : Item × ℕ) → r ≡ Ok p → f p.1 ≡ g p.1) → follow at r f ≡ follow at r g
follow_same at (Ok p) f g h = ap (λ (q : Result Stretch Fault). and_then q (λ q. Ok ((at, p.0) ∷ q.0, q.1))) (h p refl)
follow_same at (Err why) f g h = refl

pub notices_end : (s n : ℕ) (file : List ℕ) (at : ℕ) → length file ≤ at → notices s file n at ≡ Ok ([], at)
notices_end s zero file at h = refl
notices_end s (suc n) file at h = rw (le-leb (length file) at h)

pub notices_bound : (s n m : ℕ) (file : List ℕ) (at : ℕ) → length file - at ≤ n → length file - at ≤ m → notices s file n at ≡ notices s file m at
notices_bound s zero m file at h k = sym (notices_end s m file at (omega arith))
notices_bound s (suc n) zero file at h k = notices_end s (suc n) file at (omega arith)
notices_bound s (suc n) (suc m) file at h k =
    ap (cond (leb (length file) at) (Ok ([], at))) (follow_same at (due_record s NoticeKind file at) (notices s file n) (notices s file m) (λ p e.
    let b = due_bounds s NoticeKind file at p e in notices_bound s n m file p.1 (omega arith) (omega arith)))

module _ (s : ℕ) (file : List ℕ) (at : ℕ) (more : at < length file) where
  opened : notices s file (length file - at) at ≡ follow at (due_record s NoticeKind file at) (notices s file (length file - (at + 1)))
  opened =
      let n : length file - at ≡ suc (length file - (at + 1)) = omega arith in
      ap (λ k. notices s file k at) n ∙ ap (λ (b : Bool). cond b (Ok ([], at)) (follow at (due_record s NoticeKind file at) (notices s file (length file - (at + 1))))) (lt-leb (length file) at more)

  pub notices_more : (e : ℕ) → Ok e ≡ end_of (run NoticeKind s file 1 at) → end_of (notices s file (length file - at) at) ≡ end_of (notices s file (length file - e) e)
  notices_more e h =
      let p = one_inv NoticeKind s file at (due_record s NoticeKind file at) e h in
      let q = p.0 in
      let b = due_bounds s NoticeKind file at q p.1 in
      ap end_of opened
      ∙ end_follow at (due_record s NoticeKind file at) (notices s file (length file - (at + 1))) q p.1
      ∙ ap end_of (notices_bound s (length file - (at + 1)) (length file - q.1) file q.1 (omega (arith, b)) (omega arith))
      ∙ ap (λ k. end_of (notices s file (length file - k) k)) p.2

  pub notices_stop : (f : Fault) → Err f ≡ end_of (run NoticeKind s file 1 at) → end_of (notices s file (length file - at) at) ≡ Err f
  notices_stop f h = ap end_of opened ∙ one_stop NoticeKind s file at (due_record s NoticeKind file at) (notices s file (length file - (at + 1))) f h
