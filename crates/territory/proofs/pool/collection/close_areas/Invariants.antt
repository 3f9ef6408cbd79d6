use Rattle.std.proofs.Common.{◌≤◌}
use Rattle.territory.specs.Changes.{AreClosed}
use Rattle.territory.proofs.pool.collection.close_areas.Given as goal

abbrev pub invariant-loop-space : goal.invariant-loop-space
invariant-loop-space l = record {
  closed : AreClosed l.fn.areas.items l.areas.items l.generation l.space l.closed;
  few : l.closed ≤ l.space;
}
