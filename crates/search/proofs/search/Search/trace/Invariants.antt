use Rattle.std.proofs.Common.{◌≡◌, ◌-◌, ◌<◌, ◌++◌, length}
use Rattle.route.specs.Certificate.{follow}
use Rattle.search.specs.Lines.{hops_of, first_of}
use Rattle.search.specs.Stages.{network_of}
use Rattle.search_types.specs.Legs.{legs_of}
use Rattle.search.proofs.search.Search.trace.Given as goal

abbrev pub invariant-loop-i : goal.invariant-loop-i
invariant-loop-i g l = (l.at < 64) × (length (legs_of l.route) ≡ l._i) × (legs_of l.route ++ follow (network_of l.self) (first_of l.labels) (hops_of l.labels l.start - l._i) l.at ≡ follow (network_of l.self) (first_of l.labels) (hops_of l.labels l.start) l.start)
