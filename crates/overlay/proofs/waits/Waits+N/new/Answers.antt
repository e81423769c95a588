use Rattle.overlay.proofs.Laws.{wait_laws, no_waits}
use Rattle.overlay.proofs.waits.Waits+N.new.Goals as goal

pub returns-clause-marks : goal.returns-clause-marks
returns-clause-marks g c = no_waits 512

pub returns-clause-laws : goal.returns-clause-laws
returns-clause-laws g c = wait_laws (g.N.Network.meaning c.args.below) (g.N.Network.sound c.args.below)
