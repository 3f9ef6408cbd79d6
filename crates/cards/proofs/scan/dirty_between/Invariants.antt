use Rattle.cards.specs.Cards.{NoneDirty}
use Rattle.cards.proofs.scan.dirty_between.Given as goal

abbrev pub invariant-loop-card : goal.invariant-loop-card
invariant-loop-card l = NoneDirty l.bytes l.limit l.from l.card
