use Rattle.sweep_share.specs.Shares.{IsFinished}
use Rattle.sweep_share.proofs.EachOfThem.{AreSoFar}
use Rattle.sweep_share.proofs.share.finish_all.Given as goal

abbrev pub invariant-loop-i : goal.invariant-loop-i
invariant-loop-i l = AreSoFar IsFinished l.fn.territories.items l.territories.items l.i
