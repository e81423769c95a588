use Rattle.route.proofs.Bests.{nexts}
use Rattle.route.proofs.Certify.{theorem}
use Rattle.route.proofs.Deviations.{deviates}
use Rattle.route.proofs.Joins.{ranks}
use Rattle.route.proofs.Lawler.{onward}
use Rattle.route.proofs.Runs.{pools}
use Rattle.route.proofs.Walks.{loopless, parts}
use Rattle.route.proofs.ranking_laws.Goals as goal

pub returns : goal.returns
returns g c =
    let costs = g.K.CostModel.costs c.args.model.now in
    let laws = g.K.CostModel.laws c.args.model.now in
    record {
      loopless = loopless;
      parts = parts;
      ranks = ranks costs laws;
      certified = theorem costs;
      deviates = deviates;
      nexts = nexts costs laws;
      onward = onward;
      pools = pools costs laws;
    }
