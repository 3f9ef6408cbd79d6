use Rattle.std.proofs.Common.{length}
use Rattle.territory.specs.Territories.{from_list}
use Rattle.territory.specs.Pools.{IsSettled}
use Rattle.territory.proofs.Finished.{IsFinishing}
use Rattle.territory.proofs.pool.Pool.finish.Given as goal

abbrev pub invariant-loop-n : goal.invariant-loop-n
invariant-loop-n l = record {
  settled : IsSettled l.self;
  going : IsFinishing l.fn.self l.self l.targets;
}

abbrev pub decreases-loop-n : goal.decreases-loop-n
decreases-loop-n l = length (from_list l.self.lists)
