-- The invariant of a heap, as its view has it.
use Rattle.std.proofs.Common.{◌≡◌, false, subst}
use Rattle.heap_store.specs.HeapView.{HeapView}
use Rattle.heap_store.specs.Calls.{IsValid}

pub valid_seen : (h seen : HeapView) → h ≡ seen → (h.failed ≡ false → IsValid h) → h.failed ≡ false → IsValid seen
valid_seen h seen same invariant alive = subst IsValid same (invariant alive)
