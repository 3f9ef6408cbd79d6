use Rattle.std.proofs.Common.{◌-◌, length}
use Rattle.cards.proofs.Raised.{AreRaised}
use Rattle.cards.proofs.scan.raise_in.Given as goal

abbrev pub invariant-loop-card : goal.invariant-loop-card
invariant-loop-card l = AreRaised l.limit l.to l.fn.bytes l.bytes l.at

abbrev pub decreases-loop-card : goal.decreases-loop-card
decreases-loop-card l = length l.bytes - l.at
