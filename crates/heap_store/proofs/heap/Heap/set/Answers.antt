use Rattle.heap_store.proofs.SetsSeen.{sets_nothing, start_there, room_there, refused_same, refused_step, refused_valid, put_step, put_kept, put_cards, put_valid}
use Rattle.heap_store.proofs.heap.Heap.set.Goals as goal

pub returns-in_default-clause-step : goal.returns-in_default-clause-step
returns-in_default-clause-step c = λ s line stands. sets_nothing _ s stands line c.args.s c.args.index c.args.value c.in_default.ensures

pub put_field-requires-clause-start : goal.put_field-requires-clause-start
put_field-requires-clause-start c = start_there _ _ c.self.view_is c.self.invariant c.if-self.false c.args.s _ c.args.index _ _ c.in-Some.ensures c.index_of.ensures c.index_mut-territory.ensures.value

pub put_field-requires-clause-room : goal.put_field-requires-clause-room
put_field-requires-clause-room c = room_there _ _ c.self.view_is c.self.invariant c.if-self.false c.args.s _ c.args.index _ _ c.in-Some.ensures c.index_of.ensures c.index_mut-territory.ensures.value

pub invariant_of-self : goal.invariant_of-self
invariant_of-self c = λ _. refused_valid _ _ c.self.view_is c.self.invariant c.if-self.false c.args.s _ c.args.index _ _ c.in-Some.ensures c.index_of.ensures c.index_mut-territory.ensures.value _ c.args.value _ c.operand-value.ensures c.refers-refers.result _ c.in-Err.ensures

pub returns-in-Err-clause-step : goal.returns-in-Err-clause-step
returns-in-Err-clause-step c = refused_step _ _ c.self.view_is c.self.invariant c.if-self.false c.args.s _ c.args.index _ _ c.in-Some.ensures c.index_of.ensures c.index_mut-territory.ensures.value _ c.args.value _ c.operand-value.ensures c.refers-refers.result _ c.in-Err.ensures

pub returns-in-Err-clause-left : goal.returns-in-Err-clause-left
returns-in-Err-clause-left c = refused_same _ _ c.self.view_is c.self.invariant c.if-self.false c.args.s _ c.args.index _ _ c.in-Some.ensures c.index_of.ensures c.index_mut-territory.ensures.value _ c.args.value _ c.operand-value.ensures c.refers-refers.result _ c.in-Err.ensures

pub invariant_of-self-2 : goal.invariant_of-self-2
invariant_of-self-2 c = λ _. put_valid _ _ c.self.view_is c.self.invariant c.if-self.false c.args.s _ c.args.index _ _ c.in-Some.ensures c.index_of.ensures c.index_mut-territory.ensures.value _ c.args.value _ c.operand-value.ensures c.refers-refers.result _ c.requires c.refers-refers.ensures c.in_default-put_field.ensures

pub returns-clause-step : goal.returns-clause-step
returns-clause-step c = put_step _ _ c.self.view_is c.self.invariant c.if-self.false c.args.s _ c.args.index _ _ c.in-Some.ensures c.index_of.ensures c.index_mut-territory.ensures.value _ c.args.value _ c.operand-value.ensures c.refers-refers.result _ c.requires c.refers-refers.ensures c.in_default-put_field.ensures

pub returns-clause-kept : goal.returns-clause-kept
returns-clause-kept c = put_kept _ _ c.self.view_is c.self.invariant c.if-self.false c.args.s _ c.args.index _ _ c.in-Some.ensures c.index_of.ensures c.index_mut-territory.ensures.value _ c.args.value _ c.operand-value.ensures c.refers-refers.result _ c.requires c.refers-refers.ensures c.in_default-put_field.ensures

pub returns-clause-cards : goal.returns-clause-cards
returns-clause-cards c = put_cards _ _ c.self.view_is c.self.invariant c.if-self.false c.args.s _ c.args.index _ _ c.in-Some.ensures c.index_of.ensures c.index_mut-territory.ensures.value _ c.args.value _ c.operand-value.ensures c.refers-refers.result _ c.requires c.refers-refers.ensures c.in_default-put_field.ensures
