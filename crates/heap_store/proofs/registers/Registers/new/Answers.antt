use Rattle.std.proofs.Common.{arith}
use Rattle.heap_store.proofs.Nils.{nils_hold_none}
use Rattle.heap_store.proofs.registers.Registers.new.Goals as goal

pub invariant_of-result : goal.invariant_of-result
invariant_of-result c = (omega arith, nils_hold_none _ 4096 c.in_ok-values.ensures)
