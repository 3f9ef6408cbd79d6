use Rattle.std.proofs.Common.{◌≡◌, ◌<◌, ◌≤◌, IfNone, IfSome}
use Rattle.directory.specs.Nears.{IsNear}
use Rattle.sweeper.specs.Sweepers.{IsNextPair, in_hand, left_of, with_next}
use Rattle.sweeper.specs.Looked.{HasEntry}
use Rattle.sweeper.specs.Ready.{Runs}
use Rattle.sweeper.proofs.sweeper.Sweeper.sweep_list.Given as goal

abbrev pub invariant-loop-next : goal.invariant-loop-next
invariant-loop-next l = record {
  runs : Runs (in_hand l.fn.self l.fn.first.object l.fn.first.copy) (with_next l.self l.next);
  words : IfSome l.next (IsNextPair l.self);
  near : IsNear l.directory l.near;
  from : IfSome l.next (λ pair. HasEntry l.directory pair.object l.near.from);
  same : l.self.places.directory ≡ l.directory;
  inbox : l.self.inbox ≡ l.fn.self.inbox;
  most : left_of (with_next l.self l.next) ≤ left_of (in_hand l.fn.self l.fn.first.object l.fn.first.copy);
  less : IfNone l.next
      (left_of (with_next l.self l.next) < left_of (in_hand l.fn.self l.fn.first.object l.fn.first.copy));
}

abbrev pub decreases-loop-next : goal.decreases-loop-next
decreases-loop-next l = left_of (with_next l.self l.next)
