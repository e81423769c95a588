-- One record more, written where it stood.
use Rattle.std.proofs.Common.{◌≡◌, ℕ, ◌+◌, ◌≤◌, true, false, ltb, ◌⊎◌, List, ◌++◌, length, get_or, take, drop, Some, None, Ok, Err, Option, sym, refl, ap, ◌∙◌, inl, inr, zero-add, arith, length-append}
use Rattle.std.proofs.lemmas.List.{take_at}
use Rattle.std.proofs.lemmas.Bool.{cases_Bool, cond-true, cond-false, le-ltb}
use Rattle.network.specs.Shown.{nothing}
use Rattle.network.specs.declared.refusal.Refusal.{Refusal}
use Rattle.network.specs.declared.refusal.Refusal.TheVariants.{ShortBuffer}
use Rattle.map_format.specs.declared.heading.Heading.{Heading}
use Rattle.map_format.specs.declared.kind.Kind.{Kind}
use Rattle.map_format.specs.Format.{Item, encode, encode_heading, size, kind_of}
use Rattle.map_format.specs.Walking.{of_kind, encode_records}
use Rattle.map_format.specs.Views.{said}
use Rattle.map_format.specs.declared.record.Placed.{Placed}
use Rattle.map_file.specs.declared.walk.Records.{Records}
use Rattle.map_file.specs.Steps.{left_in, TakesFirst}
use Rattle.map_file.specs.Writing.{spliced, write_answer, buffer_after}
use Rattle.map_format.proofs.Records.{refused, whole_size}
use Rattle.map_file.proofs.Splices.{splice_behind}

of_kind_size : (k : Option Kind) (file : List ℕ) (at : ℕ) (p : Item × ℕ) → of_kind k file at ≡ Some p → at + size p.0 ≡ p.1
of_kind_size (Some kind) file at p e = (whole_size kind file at p e).0
of_kind_size None file at p e = absurd (nothing p e)

module _ (w : Records) (p : Placed) (v : Records) (t : TakesFirst w p v) where
  pub step_size : w.at + size (said p.record) ≡ v.at
  step_size = of_kind_size (kind_of (get_or w.bytes.now w.at 0)) w.bytes.now w.at (said p.record, v.at) t.read

  encoded_step : encode_records (left_in w) ≡ encode (said p.record) ++ encode_records (left_in v)
  encoded_step = ap encode_records t.first

  pub step_length : w.at + length (encode_records (left_in w)) ≡ v.at + length (encode_records (left_in v))
  step_length = omega (arith, ap length encoded_step, length-append (encode (said p.record)) (encode_records (left_in v)), step_size)

  pub step_splice : (out : List ℕ) → w.at + length (encode_records (left_in w)) ≤ length out → spliced (spliced out p.place (encode (said p.record))) v.at (encode_records (left_in v)) ≡ spliced out w.at (encode_records (left_in w))
  step_splice out room =
      ap (λ k. spliced (spliced out k (encode (said p.record))) v.at (encode_records (left_in v))) t.place
      ∙ splice_behind out w.at v.at (encode (said p.record)) (encode_records (left_in v)) (sym step_size) (omega (arith, step_length, step_size))
      ∙ ap (spliced out w.at) (sym encoded_step)

-- the heading and the records behind it
pub rewritten : (h : Heading) (rs out once twice : List ℕ) (n : ℕ) → n ≡ 8 + length rs → n ≤ length out → once ≡ spliced out 0 (encode_heading h) → twice ≡ spliced once 8 rs → (Ok n ≡ write_answer None (encode_heading h ++ rs) out) × (twice ≡ buffer_after (Ok n) (encode_heading h ++ rs) out)
rewritten h rs out once twice n long room a b =
    let all = encode_heading h ++ rs in
    let same : length all ≡ n = length-append (encode_heading h) rs ∙ sym long in (
      ap Ok (sym same) ∙ sym (cond-false (ltb (length out) (length all)) (Err ShortBuffer) (Ok (length all)) (le-ltb (length out) (length all) (omega arith))),
      b ∙ ap (λ (l : List ℕ). spliced l 8 rs) a ∙ splice_behind out 0 8 (encode_heading h) rs refl (omega arith) ∙ ap (λ k. all ++ drop k out) (zero-add (length all) ∙ same),
    )

-- what is written is all the bytes, and the buffer then begins with them
pub written_all : (o : Option Refusal) (bytes out : List ℕ) (n : ℕ) → Ok n ≡ write_answer o bytes out → n ≡ length bytes
written_all (Some why) bytes out n e = absurd (refused why n (sym e))
written_all None bytes out n e = go (cases_Bool (ltb (length out) (length bytes)))
  where
    go : (ltb (length out) (length bytes) ≡ true) ⊎ (ltb (length out) (length bytes) ≡ false) → n ≡ length bytes
    go (inl t) = absurd (refused ShortBuffer n (sym (e ∙ cond-true (ltb (length out) (length bytes)) (Err ShortBuffer) (Ok (length bytes)) t)))
    go (inr t) =
        let same : Ok n ≡ Ok (length bytes) = e ∙ cond-false (ltb (length out) (length bytes)) (Err ShortBuffer) (Ok (length bytes)) t in
        cc

pub written_front : (bytes out after : List ℕ) (n : ℕ) → n ≡ length bytes → after ≡ buffer_after (Ok n) bytes out → take n after ≡ bytes
written_front bytes out after n long e = ap (take n) e ∙ take_at bytes (drop n out) n (sym long)
