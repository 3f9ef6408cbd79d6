use Rattle.plainreplay.specs.Words.{AreInRange}
use Rattle.plainreplay.proofs.words.read_limits.Given as goal

abbrev pub invariant-loop-word : goal.invariant-loop-word
invariant-loop-word l = AreInRange l.chosen.0 l.chosen.1.0
