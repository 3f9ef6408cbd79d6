use Rattle.std.proofs.Common.{◌≡◌, ◌-◌, ◌<◌, ◌≤◌}
use Rattle.directory.specs.Nears.{IsNear}
use Rattle.sweeper.specs.Sweepers.{in_hand, left_of}
use Rattle.sweeper.proofs.WorldSwept.{IsSweptTo}
use Rattle.sweeper.proofs.sweeper.Sweeper.sweep_object.Given as goal

abbrev pub invariant-loop-asked : goal.invariant-loop-asked
invariant-loop-asked l = record {
  done : IsSweptTo (in_hand l.fn.self l.object l.copy) l.self l.object l.from;
  begun : l.first ≤ l.from;
  order : l.from ≤ l.end;
  left : left_of l.self < left_of (in_hand l.fn.self l.object l.copy);
  inbox : l.self.inbox ≡ l.fn.self.inbox;
  directory : l.self.places.directory ≡ l.fn.self.places.directory;
  near : IsNear l.directory l.near;
}

abbrev pub decreases-loop-asked : goal.decreases-loop-asked
decreases-loop-asked l = l.end - l.from
