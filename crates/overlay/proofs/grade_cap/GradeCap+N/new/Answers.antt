use Rattle.overlay.proofs.Laws.{cap_laws}
use Rattle.overlay.proofs.grade_cap.GradeCap+N.new.Goals as goal

pub returns-clause-laws : goal.returns-clause-laws
returns-clause-laws g c = cap_laws (g.N.Network.meaning c.args.below) (g.N.Network.sound c.args.below)
