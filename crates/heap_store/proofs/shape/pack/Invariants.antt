use Rattle.std.proofs.Common.{◌≡◌, ◌-◌, ◌≤◌, ◌++◌, replicate}
use Rattle.heap_store.proofs.shape.pack.Given as goal

abbrev pub invariant-loop-index : goal.invariant-loop-index
invariant-loop-index l = (l.bytes ≡ replicate l.index l.byte ++ replicate (8 - l.index) 0) × (l.index ≤ 8)
