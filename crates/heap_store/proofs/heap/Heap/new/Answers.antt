use Rattle.trace_types.specs.States.{opening}
use Rattle.heap_store.proofs.Opening.{opened, opened_plain, sound_cards}
use Rattle.heap_store.proofs.heap.Heap.new.Goals as goal

pub invariant_of-result : goal.invariant_of-result
invariant_of-result c = λ _. record {
  state = opening c.args.generations;
  stands = opened _ c.in_ok-territories.ensures _ _ _ _ c.args.generations c.in_ok-registers.ensures c.in_ok-notes.ensures c.new-3.ensures c.new-4.ensures c.requires.0 c.requires.1;
  cards = sound_cards _ c.in_ok-territories.ensures;
  plain = opened_plain _ c.in_ok-territories.ensures _ _ _ _ c.args.generations c.in_ok-notes.ensures c.new-3.ensures c.new-4.ensures;
}

pub returns-clause-opening : goal.returns-clause-opening
returns-clause-opening c = opened _ c.in_ok-territories.ensures _ _ _ _ c.args.generations c.in_ok-registers.ensures c.in_ok-notes.ensures c.new-3.ensures c.new-4.ensures c.requires.0 c.requires.1

pub returns-clause-cards : goal.returns-clause-cards
returns-clause-cards c = sound_cards _ c.in_ok-territories.ensures
