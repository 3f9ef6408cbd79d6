use Rattle.std.proofs.Common.{arith}
use Rattle.territory.proofs.Begun.{begun_empty}
use Rattle.territory.proofs.pool.Pool.begin.Goals as goal

pub returns-then-is_empty-clause-begun : goal.returns-then-is_empty-clause-begun
returns-then-is_empty-clause-begun c = begun_empty _ _ _ _ _ c.self.view_is c.requires.settled (omega arith) c.is_empty.ensures c.if-is_empty.true
