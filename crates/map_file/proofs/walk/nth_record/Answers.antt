use Rattle.std.proofs.Common.{length, ap}
use Rattle.std.proofs.lemmas.Iterator.Consumers.{nth_from_yields_List, YieldsList-from_shown}
use Rattle.map_format.specs.Views.{seen}
use Rattle.map_file.specs.Steps.{Stepped, left_in}
use Rattle.map_file.proofs.walk.nth_record.Goals as goal

pub returns : goal.returns
returns c =
    let road = YieldsList-from_shown Stepped seen left_in (λ s t e. ap length e.0) (λ s x t e. e.first) c.args.records in
    nth_from_yields_List c.nth.result c.nth.new.self c.args.number c.nth.ensures.ran road
