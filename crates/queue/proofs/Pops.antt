-- A row after the entry at `p` of those that wait, from `out` on and before `end`, went to `out`, and the one from there to `p`.
use Rattle.std.proofs.Common.{◌≡◌, ℕ, ◌+◌, ◌-◌, ◌<◌, ◌≤◌, Bool, false, List, [], ◌∷◌, ◌++◌, length, get_or, take, drop, set, sym, ap, ◌∙◌, subst, ⊎_elim, arith}
use lib.Seq.{take-set-lt}
use Rattle.std.specs.List.{IsFirstBest, swap, AllByRecursion}
use Rattle.std.specs.List.Sorted.{IsPermutation}
use Rattle.std.specs.Cmp.{IsStrictWeakOrder}
use Rattle.std.proofs.lemmas.List.Edits.{swap_is}
use Rattle.std.proofs.ByRecursion.{All-from_get_or}
use Rattle.std.proofs.lemmas.List.{length-set, length-drop, get_or-take, get_or-drop, get_or-set_same, get_or-set_other, take_more, take-set-le, drop_more, drop-set-add}
use Rattle.std.proofs.lemmas.List.Sorted.{IsPermutation-swap}
use Rattle.std.proofs.lemmas.Bool.{cases_Bool, cases_eq, both_ways}
use Rattle.queue.specs.Order.{Strict}
use Rattle.queue.specs.Waiting.{whole, waiting, held, gone, SameRow, Moved, Comes}
use Rattle.queue.specs.declared.least.Least.{Least}
use Rattle.queue.specs.declared.queue.Queue.{Queue}
use Rattle.queue.proofs.Rows.{held_length, waiting_length, waiting_at}

module _ {E : Type 0} (less : E → E → Bool) (o : Strict less) where
  not_chain : (x y z : E) → less x y ≡ false → less y z ≡ false → less x z ≡ false
  not_chain x y z p q =
      ⊎_elim
      (λ xz. ⊎_elim (λ yx. absurd (both_ways (less y z) q (o.chain y x z yx xz))) (λ yx. subst (λ w. less w z ≡ false) (sym (o.apart x y p yx)) q) (cases_Bool (less y x)))
      (λ xz. xz)
      (cases_Bool (less x z))

  pub ranks : IsStrictWeakOrder less
  ranks = record { one_way = o.one_way; chain = not_chain }

-- x goes to `out` and y to `p`, in a list that has them the other way round
module _ {E : Type 0} (xs : List E) (out p : ℕ) (low : out ≤ p) (high : p < length xs) (x y : E) (xr : (d : E) → x ≡ get_or xs p d) (yr : (d : E) → y ≡ get_or xs out d) where
  abbrev after : List E
  after = set (set xs out x) p y

  pub after_is : after ≡ swap xs out p
  after_is = (λ k. set (set xs out (xr x k)) p (yr x k)) ∙ swap_is xs out p x (omega arith) high

  pub after_length : length after ≡ length xs
  after_length = length-set (set xs out x) p y ∙ length-set xs out x

  pub at_place : (d : E) → get_or after p d ≡ get_or xs out d
  at_place d = get_or-set_same (set xs out x) p y d (omega (arith, length-set xs out x)) ∙ yr d

  pub at_out : (d : E) → get_or after out d ≡ x
  at_out d = ⊎_elim
      (λ (e : out ≡ p). ap (λ n. get_or after n d) e ∙ at_place d ∙ ap (λ n. get_or xs n d) e ∙ sym (xr d))
      (λ (n : out ≡ p → ⊥). get_or-set_other (set xs out x) p out y d n ∙ get_or-set_same xs out x d (omega arith))
      (cases_eq out p)

  pub elsewhere : (i : ℕ) (d : E) → (i ≡ out → ⊥) → (i ≡ p → ⊥) → get_or after i d ≡ get_or xs i d
  elsewhere i d m n = get_or-set_other (set xs out x) p i y d n ∙ get_or-set_other xs out i x d m

  pub front : take (out + 1) after ≡ take out xs ++ x ∷ []
  front =
      take_more after out x (omega (arith, after_length))
      ∙ (λ k. (take-set-le out (set xs out x) p y low ∙ take-set-le out xs out x (omega arith)) k ++ at_out x k ∷ [])

  -- those from `out` on, with the first two moves made among them
  back_is : drop out after ≡ swap (drop out xs) 0 (p - out)
  back_is =
      let ws = drop out xs in
      let at : p ≡ out + (p - out) = omega arith in
      let here : out ≡ out + 0 = omega arith in
      let long = length-drop out xs in
      let moved : drop out after ≡ set (set ws 0 x) (p - out) y =
      ap (λ n. drop out (set (set xs out x) n y)) at ∙ drop-set-add out (set xs out x) (p - out) y
      ∙ ap (λ l. set l (p - out) y) (ap (λ n. drop out (set xs n x)) here ∙ drop-set-add out xs 0 x) in
      let xw : x ≡ get_or ws (p - out) x = xr x ∙ ap (λ n. get_or xs n x) at ∙ sym (get_or-drop out xs (p - out) x) in
      let yw : y ≡ get_or ws 0 x = yr x ∙ ap (λ n. get_or xs n x) here ∙ sym (get_or-drop out xs 0 x) in
      moved ∙ (λ k. set (set ws 0 (xw k)) (p - out) (yw k)) ∙ swap_is ws 0 (p - out) x (omega arith) (omega arith)

  pub shuffled : IsPermutation (drop out xs) (x ∷ drop (out + 1) after)
  shuffled =
      let long = length-drop out xs in
      let split : drop out after ≡ x ∷ drop (out + 1) after = drop_more after out x (omega (arith, after_length)) ∙ ap (λ z. z ∷ drop (out + 1) after) (at_out x) in
      subst (IsPermutation (drop out xs)) split (IsPermutation-swap (drop out xs) (drop out after) 0 (p - out) (omega arith) (omega arith) back_is)

  pub fewer : length (drop out xs) ≡ length (drop (out + 1) after) + 1
  fewer = omega (arith, length-drop out xs, length-drop (out + 1) after, after_length)

module _ {E : Type 0} (less : E → E → Bool) (xs : List E) (b : ℕ) (x : E) where
  pub none_before : IsFirstBest less xs (length xs) b → x ≡ get_or xs b x → AllByRecursion (λ z. less z x ≡ false) xs
  none_before best is = All-from_get_or (λ z. less z x ≡ false) xs x (λ i h. subst (λ z. less (get_or xs i x) z ≡ false) (sym is) (best.1 i x h))

-- ---- the same of a queue

module _ {E : Type 0} (q next : Queue E) (p : ℕ) (low : gone q ≤ p) (high : p < q.end) (x y : E)
    (xr : (d : E) → x ≡ get_or (whole q) p d) (yr : (d : E) → y ≡ get_or (whole q) (gone q) d)
    (row : whole next ≡ set (set (whole q) (gone q) x) p y) (out : gone next ≡ gone q + 1) (end : next.end ≡ q.end) (same : SameRow q next) where
  in_held : p < length (held q)
  in_held = omega (arith, held_length q)

  xh : (d : E) → x ≡ get_or (held q) p d
  xh d = xr d ∙ sym (get_or-take q.end (whole q) p d high)

  yh : (d : E) → y ≡ get_or (held q) (gone q) d
  yh d = yr d ∙ sym (get_or-take q.end (whole q) (gone q) d (omega arith))

  held_next : held next ≡ set (set (held q) (gone q) x) p y
  held_next =
      (λ k. take (end k) (row k)) ∙ take-set-lt q.end (set (whole q) (gone q) x) p y high
      ∙ ap (λ l. set l p y) (take-set-lt q.end (whole q) (gone q) x (omega arith))

  waiting_next : waiting next ≡ drop (gone q + 1) (set (set (held q) (gone q) x) p y)
  waiting_next = λ k. drop (out k) (held_next k)

  in_whole : p < length (whole q)
  in_whole = omega (arith, q.within)

  pub moved : Moved q next (record { entry = x; place = p })
  moved = record {
    low = low;
    high = in_held;
    entry = xh;
    gone_is = out;
    whole_is = row ∙ after_is (whole q) (gone q) p low in_whole x y xr yr;
    held_is = held_next ∙ after_is (held q) (gone q) p low in_held x y xh yh;
    taken_is = (λ k. take (out k) (row k)) ∙ front (whole q) (gone q) p low in_whole x y xr yr;
    at_gone = λ d. ap (λ l. get_or l (gone q) d) held_next ∙ at_out (held q) (gone q) p low in_held x y xh yh d;
    at_place = λ d. ap (λ l. get_or l p d) held_next ∙ at_place (held q) (gone q) p low in_held x y xh yh d;
    elsewhere = λ i d m n. ap (λ l. get_or l i d) held_next ∙ elsewhere (held q) (gone q) p low in_held x y xh yh i d m n;
    held_length = ap length held_next ∙ after_length (held q) (gone q) p low in_held x y xh yh;
    same_row = same;
  }

  -- the entry as one of those that wait
  xw : x ≡ get_or (waiting q) (p - gone q) x
  xw = xh x ∙ sym (waiting_at q p x low)

  pub comes : (less : E → E → Bool) → IsFirstBest less (waiting q) (length (waiting q)) (p - gone q) → Comes less q next (record { entry = x; place = p })
  comes less best = record {
    bag = record {
      shuffled = subst (λ l. IsPermutation (waiting q) (x ∷ l)) (sym waiting_next) (shuffled (held q) (gone q) p low in_held x y xh yh);
      least = none_before less (waiting q) (p - gone q) x best xw;
      fewer = subst (λ l. length (waiting q) ≡ length l + 1) (sym waiting_next) (fewer (held q) (gone q) p low in_held x y xh yh);
    };
    first = best;
    moved = moved;
  }

-- the same place by place: no entry that waits comes before the one that comes
pub none_sooner : {E : Type 0} (less : E → E → Bool) (q next : Queue E) (l : Least E) → Comes less q next l → (i : ℕ) (d : E) → gone q ≤ i → i < length (held q) → less (get_or (held q) i d) l.entry ≡ false
none_sooner less q next l c i d low high =
    let m = c.moved in
    let is : get_or (waiting q) (l.place - gone q) d ≡ l.entry = waiting_at q l.place d m.low ∙ sym (m.entry d) in
    sym (λ k. less (waiting_at q i d low k) (is k)) ∙ c.first.1 (i - gone q) d (omega (arith, waiting_length q))
