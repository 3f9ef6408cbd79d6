-- The threads below the next one have their indices.
use Rattle.std.proofs.Common.{◌-◌}
use Rattle.sweep_share.proofs.Indices.{IsFilled}
use Rattle.sweep_share.proofs.share.indices_of.Given as goal

abbrev pub invariant-loop-thread : goal.invariant-loop-thread
invariant-loop-thread l = IsFilled l.number l.sweepers l.indices.items l.thread l.index

abbrev pub decreases-loop-thread : goal.decreases-loop-thread
decreases-loop-thread l = 64 - l.thread
