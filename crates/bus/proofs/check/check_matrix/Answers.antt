use Rattle.std.proofs.Common.{sym}
use Rattle.bus.proofs.Laws.{accepted}
use Rattle.bus.proofs.check.check_matrix.Goals as goal

pub returns-clause-accepted : goal.returns-clause-accepted
returns-clause-accepted c = accepted _ _ (sym c.if-not-size_fits.ensures) (sym c.if-not-entries_fit.ensures)
