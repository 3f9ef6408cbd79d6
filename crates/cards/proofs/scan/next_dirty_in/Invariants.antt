use Rattle.std.proofs.Common.{◌≤◌, ◌-◌, length}
use Rattle.cards.specs.Cards.{NoneDirty}
use Rattle.cards.proofs.scan.next_dirty_in.Given as goal

abbrev pub invariant-loop-at : goal.invariant-loop-at
invariant-loop-at l = (l.from ≤ l.at) × NoneDirty l.bytes l.limit l.from l.at

abbrev pub decreases-loop-at : goal.decreases-loop-at
decreases-loop-at l = length l.bytes - l.at
