-- What came so far is dealt out.
use Rattle.std.proofs.Common.{◌≡◌, ◌%◌, length}
use Rattle.collector.specs.Dealt.{AreDealt}
use Rattle.collector.proofs.dealing.deal_territories.Given as goal

abbrev pub invariant-loop-territory : goal.invariant-loop-territory
invariant-loop-territory l = record {
  next : l.next ≡ length l.yielded % l.sweepers;
  dealt : AreDealt l.sweepers l.yielded l.owns.items;
}
