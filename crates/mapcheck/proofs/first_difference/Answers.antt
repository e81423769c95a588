use Rattle.std.proofs.Common.{◌≡◌, min, not, eqb, length, refl, rules, tests}
use Rattle.std.proofs.lemmas.Iterator.{YieldsList-from_slice, YieldsList-from_zip}
use Rattle.std.proofs.lemmas.Iterator.Search.{position_from_yields_List}
use Rattle.std.specs.Bool.{then_some}
use Rattle.std.specs.Option.{option_or}
use Rattle.mapcheck.proofs.Compares.{differs, compared}
use Rattle.mapcheck.proofs.first_difference.Goals as goal

pub returns : goal.returns
returns c =
    let a = c.args.a.now in
    let b = c.args.b.now in
    let found = position_from_yields_List differs c.position.new.self _ c.position.result c.position.ensures.ran (YieldsList-from_zip (YieldsList-from_slice a cc) (YieldsList-from_slice b cc)) (λ x b q k. search (rules, tests)) in
    let is : c.or.result ≡ option_or c.position.result (then_some (not (eqb (length a) (length b))) (min (length a) (length b))) = search rules in
    rw is (compared a b c.position.result found _ refl)
