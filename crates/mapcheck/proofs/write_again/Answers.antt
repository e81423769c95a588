use Rattle.std.proofs.Common.{ℕ, List, None, subst}
use Rattle.map_file.specs.Maps.{encode_map}
use Rattle.map_file.proofs.Rewrites.{written_all, written_front}
use Rattle.mapcheck.specs.Differences.{Compared}
use Rattle.mapcheck.proofs.write_again.Goals as goal

pub returns : goal.returns
returns c =
    let bytes = encode_map c.args.map.now in
    let again = c.in_ok-size.ensures in
    let long = written_all None bytes c.args.copy.now c.in_ok-size.size again.answer in
    let front = written_front bytes c.args.copy.now c.rewrite.new.out c.in_ok-size.size long again.after in
    record {
      size = long;
      compared = subst (λ (l : List ℕ). Compared l c.args.file.now c.first_difference-difference.result) front c.first_difference-difference.ensures;
    }
