use Rattle.std.proofs.Common.{◌≡◌, Ok, Result, subst, sym, ap, ◌∙◌, arith}
use Rattle.std.proofs.lemmas.Result.{IfOk-at_ok}
use Rattle.network.specs.Meaning.{Meaning}
use Rattle.map_format.specs.Reading.{Contents}
use Rattle.map_format.specs.declared.fault.Fault.{Fault}
use Rattle.map_file.specs.Maps.{told}
use Rattle.map_file.specs.Networks.{ShowsRecords}
use Rattle.leastroute.specs.Answers.{OnMap, RankedBy}
use Rattle.leastroute.proofs.Shows.{same_network}
use Rattle.leastroute.proofs.answer.ride_on.Goals as goal

pub returns : goal.returns
returns c =
    let was : c.accept.result ≡ Ok c.in_ok-map.map = grind arith in
    subst (λ (v : Result Contents Fault). OnMap c.args.ranking v c.args.ends.start c.args.ends.goal c.ranked_ride.result) (sym (ap told was) ∙ c.accept.ensures.verdict)
    (subst (λ (m : Meaning). RankedBy c.args.ranking m c.args.ends.start c.args.ends.goal c.ranked_ride.result) (same_network c.in_ok-map.map (IfOk-at_ok ShowsRecords was c.accept.ensures.network)) c.ranked_ride.ensures)
