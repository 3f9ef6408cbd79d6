use Rattle.territory.specs.Pools.{IsSettled}
use Rattle.territory.specs.Changes.{AreBegun}
use Rattle.territory.proofs.pool.Pool.set_generations_aside.Given as goal

abbrev pub invariant-loop-generation : goal.invariant-loop-generation
invariant-loop-generation l = record {
  settled : IsSettled l.self;
  begun : AreBegun l.fn.self l.self l.generation;
}
