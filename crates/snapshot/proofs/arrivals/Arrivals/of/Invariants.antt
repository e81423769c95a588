use Rattle.snapshot.specs.Tables.{Linked}
use Rattle.snapshot.proofs.arrivals.Arrivals.of.Given as goal

-- the legs that are left are in no list yet
abbrev pub invariant-loop-number : goal.invariant-loop-number
invariant-loop-number l = Linked l.legs l.number l.arrivals.first l.arrivals.next
