-- The law of the map file, from both directions.
use Rattle.std.proofs.Common.{◌≡◌, ℕ, List, ◌++◌, Ok, ap, ◌∙◌, subst}
use Rattle.map_format.specs.Format.{Bytes, encode_heading}
use Rattle.map_format.specs.Reading.{Contents, verdict}
use Rattle.map_format.specs.Walking.{encode_records}
use Rattle.map_format.specs.Laws.{Description, heading_for, items, InRange, encode_file, Tells, RoundTrip}
use Rattle.map_format.proofs.Accepts.{encoded_read}
use Rattle.map_format.proofs.Laws.{described, encoded_placed}
use Rattle.map_format.proofs.Verdicts.{verdict_phases}

told_by : (file : List ℕ) → Bytes file → (c : Contents) → verdict file ≡ Ok c → (d : Description) × InRange d × (encode_file d ≡ file) × Tells c d
told_by file small c e =
    let v = verdict_phases file c e in
    subst (λ (k : Contents). (d : Description) × InRange d × (encode_file d ≡ file) × Tells k d) v.5 (described file small v.0 v.1 v.2 v.3 v.4)

pub round_trip : RoundTrip
round_trip file small = record {
  is_encoding = told_by file small;
  is_accepted = λ d fit e. subst (λ (l : List ℕ). (c : Contents) × (verdict l ≡ Ok c) × Tells c d) e (encoded_read d fit);
  is_same = λ c e.
      let t = told_by file small c e in
      (λ i. encode_heading (t.3.0 i) ++ encode_records (t.3.1 i))
      ∙ ap (λ (l : List ℕ). encode_heading (heading_for t.0) ++ l) (encoded_placed 8 (items t.0))
      ∙ t.2;
}
