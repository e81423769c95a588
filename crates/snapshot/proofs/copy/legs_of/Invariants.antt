use Rattle.std.proofs.Common.{◌≡◌, length}
use Rattle.snapshot.proofs.Copies.{CopiedTo}
use Rattle.snapshot.proofs.copy.legs_of.Given as goal

abbrev pub invariant-loop-number : goal.invariant-loop-number
invariant-loop-number g l = (length l.legs ≡ 512) × CopiedTo (g.N.Network.meaning l.network) l.number l.legs
