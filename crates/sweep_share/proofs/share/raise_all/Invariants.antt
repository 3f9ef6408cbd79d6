use Rattle.sweep_share.specs.Shares.{IsRaisedThere}
use Rattle.sweep_share.proofs.EachOfThem.{AreSoFar}
use Rattle.sweep_share.proofs.share.raise_all.Given as goal

abbrev pub invariant-loop-i : goal.invariant-loop-i
invariant-loop-i l = AreSoFar (λ t u. IsRaisedThere t u l.cg) l.fn.territories.items l.territories.items l.i
