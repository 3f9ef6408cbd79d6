use Rattle.territory.proofs.OldSegments.{IsWalked}
use Rattle.territory.proofs.pool.Pool.first_old.Given as goal

abbrev pub invariant-loop-count : goal.invariant-loop-count
invariant-loop-count l = IsWalked l.self l.cg l.fn.first l.at l._count
