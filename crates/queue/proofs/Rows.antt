-- A row whose first `end` entries are held, those in front of `out` gone, after a write.
use Rattle.std.proofs.Common.{◌≡◌, ℕ, ◌+◌, ◌-◌, ◌<◌, ◌≤◌, List, [], ◌∷◌, ◌++◌, length, get_or, take, drop, set, sym, refl, ap, ◌∙◌, arith}
use lib.Seq.{take-set-lt}
use Rattle.std.proofs.lemmas.List.{length-take-le, take_more_set, drop-append-le, drop-set-add, take-take, take-append-drop, length-drop, get_or-drop}
use Rattle.queue.specs.Waiting.{whole, taken, waiting, held, room, gone, SameRow, Keeps}
use Rattle.queue.specs.declared.queue.Queue.{Queue}

module _ {E : Type 0} (row : List E) (out end : ℕ) where
  -- one more at the end
  pub pushed : (e : E) → out ≤ end → end < length row → drop out (take (end + 1) (set row end e)) ≡ drop out (take end row) ++ e ∷ []
  pushed e from lt = ap (drop out) (take_more_set row end e lt) ∙ drop-append-le out (take end row) (e ∷ []) (omega (arith, length-take-le end row (omega arith)))

  -- another at the place p, which waits
  pub rewritten : (p : ℕ) (e : E) → out ≤ p → p < end → drop out (take end (set row p e)) ≡ set (drop out (take end row)) (p - out) e
  rewritten p e low high =
      let at : p ≡ out + (p - out) = omega arith in
      ap (drop out) (take-set-lt end row p e high) ∙ ap (λ n. drop out (set (take end row) n e)) at ∙ drop-set-add out (take end row) (p - out) e

-- ---- what a queue is by itself

module _ {E : Type 0} (q : Queue E) where
  pub held_within : length (held q) ≤ room q
  held_within = omega (arith, length-take-le q.end (whole q) q.within, q.within)

  pub held_length : length (held q) ≡ q.end
  held_length = length-take-le q.end (whole q) q.within

  pub gone_within : gone q ≤ length (held q)
  gone_within = omega (arith, held_length, q.ordered)

  pub taken_length : length (taken q) ≡ gone q
  taken_length = length-take-le (gone q) (whole q) (omega (arith, q.ordered, q.within))

  pub taken_held : taken q ≡ take (gone q) (held q)
  taken_held = sym (take-take (gone q) q.end (whole q) q.ordered)

  pub waiting_length : length (waiting q) ≡ length (held q) - gone q
  waiting_length = length-drop (gone q) (held q)

  pub held_is : held q ≡ taken q ++ waiting q
  held_is = sym (take-append-drop (gone q) (held q)) ∙ ap (λ l. l ++ waiting q) (sym taken_held)

  -- the entry at a place of the row, as one of those that wait
  pub waiting_at : (i : ℕ) (d : E) → gone q ≤ i → get_or (waiting q) (i - gone q) d ≡ get_or (held q) i d
  waiting_at i d low = let at : gone q + (i - gone q) ≡ i = omega arith in get_or-drop (gone q) (held q) (i - gone q) d ∙ ap (λ n. get_or (held q) n d) at

  pub some_wait : (waiting q ≡ [] → ⊥) → 0 < length (waiting q)
  some_wait some = go (waiting q) some
    where
      go : (xs : List E) → (xs ≡ [] → ⊥) → 0 < length xs
      go [] h = absurd (h refl)
      go (x ∷ xs) h = omega arith

-- ---- what stays, over two changes

module _ {E : Type 0} {q mid after : Queue E} where
  pub same_row_then : SameRow q mid → SameRow mid after → SameRow q after
  same_row_then a b = record { lent = b.lent ∙ a.lent; room_is = b.room_is ∙ a.room_is }

  pub keeps_then : Keeps q mid → Keeps mid after → Keeps q after
  keeps_then a b = record {
    same_row = same_row_then a.same_row b.same_row;
    taken_is = b.taken_is ∙ a.taken_is;
    gone_is = b.gone_is ∙ a.gone_is;
  }
