use Rattle.std.proofs.Common.{◌≤◌, ◌-◌}
use Rattle.directory.specs.Nears.{IsNear}
use Rattle.sweeper.specs.Starting.{AskNothingOld}
use Rattle.sweeper.proofs.olds.next_old_asked.Given as goal

abbrev pub invariant-loop-next : goal.invariant-loop-next
invariant-loop-next l = record {
  order : l.from ≤ l.next;
  none : AskNothingOld l.directory l.territory l.object l.from l.next;
  near : IsNear l.directory l.near;
}

abbrev pub decreases-loop-next : goal.decreases-loop-next
decreases-loop-next l = l.end - l.next
