use Rattle.territory.specs.Territories.{from_list}
use Rattle.directory.proofs.Walk.{IsWalked, left}
use Rattle.directory.proofs.numbering.number_segments.Given as goal

abbrev pub invariant-loop-at : goal.invariant-loop-at
invariant-loop-at l = IsWalked l.territory l.table l.first l.next l.at

abbrev pub decreases-loop-at : goal.decreases-loop-at
decreases-loop-at l = left (from_list l.territory.lists) l.at
