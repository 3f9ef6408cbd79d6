use Rattle.std.proofs.Common.{ℕ, take}
use Rattle.segment.specs.Segments.{IsSound}
use Rattle.territory.specs.Pools.{numbered}
use Rattle.territory.specs.FinishedPools.{AreHeld}
use Rattle.territory.proofs.pool.finishing.hold_starts.Given as goal

abbrev pub invariant-loop-at : goal.invariant-loop-at
invariant-loop-at l = record {
  sound : (n : ℕ) → IsSound (numbered l.segments.items n);
  held : AreHeld l.fn.segments.items l.segments.items (take l.at-index l.held);
}
