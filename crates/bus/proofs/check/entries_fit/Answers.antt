use Rattle.std.proofs.Common.{◌∙◌, rules, tests}
use Rattle.std.proofs.lemmas.Iterator.{YieldsList-from_slice}
use Rattle.std.proofs.lemmas.Iterator.Consumers.{YieldsList-from_enumerate}
use Rattle.std.proofs.lemmas.Iterator.Search.{all_from_yields_List}
use Rattle.bus.specs.Matrices.{entry_fits}
use Rattle.bus.proofs.Entries.{all_fit}
use Rattle.bus.proofs.check.entries_fit.Goals as goal

pub returns : goal.returns
returns c =
    all_from_yields_List (λ e. entry_fits c.args.stops e.0 e.1) _ _ _ c.all.ensures.ran (YieldsList-from_enumerate (YieldsList-from_slice c.args.minutes.now cc) cc) (λ x b q k. search (rules, tests))
    ∙ all_fit c.args.stops 0 c.args.minutes.now
