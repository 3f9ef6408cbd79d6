use Rattle.std.proofs.Common.{◌≤◌, ◌-◌}
use Rattle.directory.specs.Nears.{IsNear}
use Rattle.sweeper.specs.Starting.{AreAsked, AsksOfObject}
use Rattle.sweeper.proofs.starting.Mail.ask_object.Given as goal

abbrev pub invariant-loop-asked : goal.invariant-loop-asked
invariant-loop-asked l = record {
  asked : AreAsked l.share l.fn.self l.self (AsksOfObject l.directory l.territory l.object l.from);
  begun : l.first ≤ l.from;
  order : l.from ≤ l.end;
  near : IsNear l.directory l.near;
}

abbrev pub decreases-loop-asked : goal.decreases-loop-asked
decreases-loop-asked l = l.end - l.from
