use Rattle.std.proofs.Common.{◌-◌, length}
use Rattle.segment.proofs.Scans.{NoneBelow}
use Rattle.segment.proofs.segment.Segment.next_old.Given as goal

abbrev pub invariant-loop-dirty : goal.invariant-loop-dirty
invariant-loop-dirty l = NoneBelow l.self l.limit l.from l.card

abbrev pub decreases-loop-dirty : goal.decreases-loop-dirty
decreases-loop-dirty l = length l.self.cards - l.card
