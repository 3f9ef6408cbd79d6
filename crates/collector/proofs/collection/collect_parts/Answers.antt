use Rattle.std.proofs.Common.{arith}
use Rattle.heap_store.specs.Parts.{seen_parts}
use Rattle.collector.proofs.BelowUsed.{none_after}
use Rattle.collector.proofs.Collectable.{collectable}
use Rattle.collector.proofs.Collecting.{parts_counted, parts_stand, parts_valid}
use Rattle.collector.proofs.collection.collect_parts.Goals as goal

pub sweep-requires-clause-collectable : goal.sweep-requires-clause-collectable
sweep-requires-clause-collectable g c = λ κs h.
    collectable (seen_parts c.args.parts) c.requires.valid c.args.targets c.requires.allowed

pub returns-clause-stands : goal.returns-clause-stands
returns-clause-stands g c =
    parts_stand (seen_parts c.args.parts) c.args.targets c.args.sweepers c.in_ok-swept.swept.territories.items
    c.in_ok-swept.swept.registers.items c.in_ok-swept.swept.report.forwarded c.requires.valid c.requires.allowed
    c.in_ok-swept.ensures.swept

pub returns-clause-valid : goal.returns-clause-valid
returns-clause-valid g c =
    parts_valid (seen_parts c.args.parts) c.args.targets c.args.sweepers c.in_ok-swept.swept.territories.items
    c.in_ok-swept.swept.registers.items c.in_ok-swept.swept.report.forwarded c.requires.valid c.requires.allowed
    c.in_ok-swept.ensures.swept

pub returns-clause-within : goal.returns-clause-within
returns-clause-within g c = omega (arith, c.requires.within, c.in_ok-swept.ensures.swept.registers_count)

pub returns-clause-none : goal.returns-clause-none
returns-clause-none g c =
    none_after c.args.parts.registers.items c.in_ok-swept.swept.registers.items c.args.used
    c.in_ok-swept.ensures.swept.others c.requires.none

pub returns-clause-count : goal.returns-clause-count
returns-clause-count g c = c.in_ok-swept.ensures.swept.count

pub returns-clause-copied : goal.returns-clause-copied
returns-clause-copied g c =
    parts_counted (seen_parts c.args.parts) c.args.targets c.args.sweepers c.in_ok-swept.swept.territories.items
    c.in_ok-swept.swept.registers.items c.in_ok-swept.swept.report.forwarded c.requires.valid c.requires.allowed
    c.in_ok-swept.ensures.swept
