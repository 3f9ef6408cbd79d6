use Rattle.std.proofs.Common.{◌≤◌, length, sym, ◌∙◌, subst}
use Rattle.heap_store.specs.HeapView.{HeapView}
use Rattle.heap_store.specs.Changes.{HaveSoundCards}
use Rattle.heap_store.specs.Parts.{seen_parts}
use Rattle.heap_store.specs.Calls.{IsValid}
use Rattle.heap_store.specs.Used.{HoldNoneFrom}
use Rattle.collector.proofs.Collecting.{counted_copies, counted_valid, keeps_fixed, oldest_within, overflowed, performed, ran_out, refused}
use Rattle.collector.proofs.collection.collect.Goals as goal

pub targets_of-requires : goal.targets_of-requires
targets_of-requires g c = oldest_within (seen_parts c.take_parts-parts.result) c.take_parts-parts.ensures.valid

pub collect_parts-requires-clause-valid : goal.collect_parts-requires-clause-valid
collect_parts-requires-clause-valid g c = λ κs h.
    counted_valid (seen_parts c.take_parts-parts.result) c.in-Some.number c.take_parts-parts.ensures.valid

pub collect_parts-requires-clause-within : goal.collect_parts-requires-clause-within
collect_parts-requires-clause-within g c = λ κs h.
    subst (λ (v : HeapView). c.used_registers-used.result ≤ length v.registers) (sym c.take_parts-parts.ensures.parts)
    c.used_registers-used.ensures.within

pub collect_parts-requires-clause-none : goal.collect_parts-requires-clause-none
collect_parts-requires-clause-none g c = λ κs h.
    subst (λ (v : HeapView). HoldNoneFrom v.registers c.used_registers-used.result) (sym c.take_parts-parts.ensures.parts)
    c.used_registers-used.ensures.none

pub narrow_registers-requires-clause-within : goal.narrow_registers-requires-clause-within
narrow_registers-requires-clause-within g c =
    subst (λ (v : HeapView). c.used_registers-used.result ≤ length v.registers)
    (sym (c.put_parts.ensures ∙ c.take_parts-parts.ensures.parts)) c.used_registers-used.ensures.within

pub narrow_registers-requires-clause-none : goal.narrow_registers-requires-clause-none
narrow_registers-requires-clause-none g c =
    subst (λ (v : HeapView). HoldNoneFrom v.registers c.used_registers-used.result)
    (sym (c.put_parts.ensures ∙ c.take_parts-parts.ensures.parts)) c.used_registers-used.ensures.none

pub narrow_registers-requires-2-clause-within : goal.narrow_registers-requires-2-clause-within
narrow_registers-requires-2-clause-within g c =
    subst (λ (v : HeapView). c.used_registers-used.result ≤ length v.registers) (sym c.put_parts-2.ensures)
    c.in-Ok.ensures.within

pub narrow_registers-requires-2-clause-none : goal.narrow_registers-requires-2-clause-none
narrow_registers-requires-2-clause-none g c =
    subst (λ (v : HeapView). HoldNoneFrom v.registers c.used_registers-used.result) (sym c.put_parts-2.ensures)
    c.in-Ok.ensures.none

pub collect_parts-requires-clause-allowed : goal.collect_parts-requires-clause-allowed
collect_parts-requires-clause-allowed g c = λ κs h. c.in-Some-targets_of.ensures.some.1

pub returns-in_default-clause-step : goal.returns-in_default-clause-step
returns-in_default-clause-step g c =
    overflowed c.args.heap.now c.take_parts-parts.new.self c.args.args c.in_default.ensures.none
    c.take_parts-parts.ensures.failed

pub returns-in_default-targets_of-clause-step : goal.returns-in_default-targets_of-clause-step
returns-in_default-targets_of-clause-step g c =
    refused c.args.heap.now (seen_parts c.take_parts-parts.result) c.args.args c.in-Some.number
    c.take_parts-parts.ensures.parts c.in-Some.ensures.some c.narrow_registers.new.self
    c.in_default-targets_of.ensures.none.0 c.in_default-targets_of.ensures.none.1
    (c.narrow_registers.ensures ∙ c.put_parts.ensures)

pub returns-in_default-collect_parts-clause-step : goal.returns-in_default-collect_parts-clause-step
returns-in_default-collect_parts-clause-step g c =
    ran_out c.args.heap.now (seen_parts c.take_parts-parts.result) c.args.args c.in-Some.number
    c.take_parts-parts.ensures.parts c.in-Some.ensures.some c.in-Some-targets_of.targets
    c.take_parts-parts.new.self c.in-Some-targets_of.ensures.some.0 c.in-Some-targets_of.ensures.some.1
    c.take_parts-parts.ensures.failed

pub returns-clause-step : goal.returns-clause-step
returns-clause-step g c =
    performed c.args.heap.now (seen_parts c.take_parts-parts.result) c.args.args c.in-Some.number
    c.take_parts-parts.ensures.parts c.in-Some.ensures.some c.in-Some-targets_of.targets
    (seen_parts c.in-Ok.parts) c.narrow_registers-2.new.self c.in-Some-targets_of.ensures.some.0
    c.in-Some-targets_of.ensures.some.1 c.in-Ok.ensures.stands
    (c.narrow_registers-2.ensures ∙ c.put_parts-2.ensures)

pub returns-clause-cards : goal.returns-clause-cards
returns-clause-cards g c =
    subst (λ (v : HeapView). HaveSoundCards v.territories) (sym (c.narrow_registers-2.ensures ∙ c.put_parts-2.ensures))
    c.in-Ok.ensures.valid.cards

pub returns-clause-fixed : goal.returns-clause-fixed
returns-clause-fixed g c =
    let valid : IsValid c.args.heap.now =
    subst IsValid c.take_parts-parts.ensures.parts c.take_parts-parts.ensures.valid in
    keeps_fixed c.args.heap.now c.narrow_registers-2.new.self valid.plain

pub returns-clause-counted : goal.returns-clause-counted
returns-clause-counted g c =
    counted_copies c.args.heap.now (seen_parts c.take_parts-parts.result) c.args.args c.in-Some.number
    c.take_parts-parts.ensures.parts c.in-Some.ensures.some c.in-Some-targets_of.targets c.args.sweepers
    c.in-Ok.report.forwarded c.in-Some-targets_of.ensures.some.0 c.in-Ok.ensures.count c.in-Ok.ensures.copied
