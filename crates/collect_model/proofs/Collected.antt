-- The laws of a heap's collection, put together.
use Rattle.trace_types.specs.Kept.{kept}
use Rattle.heap_store.specs.HeapView.{starts_in, starts_of}
use Rattle.collect_model.specs.Worlds.{arguments_of}
use Rattle.collect_model.proofs.Left.{AreLeft}
use Rattle.collect_model.specs.Laws.{CollectedStands, CopiesAreCounted}
use Rattle.collect_model.proofs.KeptIsLeast.{kept_is_least}
use Rattle.collect_model.proofs.Leaving.{left_stands, plain_left}
use Rattle.collect_model.proofs.Ending.{starts_left, registers_left}
use Rattle.collect_model.proofs.Counting.{copies_counted}

pub collected_stands : CollectedStands
collected_stands h s targets n hands territories registers stands plain is_world allowed settled ended others count =
    let reached = kept_is_least h s targets n ended.setting stands plain ended.is_setting in
    let left : AreLeft (kept s targets.cg) (arguments_of targets) (starts_of h) (starts_in territories) =
    starts_left h s targets n hands (starts_in territories) registers stands plain is_world ended (kept s targets.cg)
    reached in (
      left_stands h s (arguments_of targets) territories registers stands plain allowed settled left
          (registers_left h s targets n hands (starts_in territories) registers stands plain is_world ended
          (kept s targets.cg) reached others count),
      plain_left h territories registers (kept s targets.cg) (arguments_of targets) plain left,
    )

pub copies_are_counted : CopiesAreCounted
copies_are_counted h s targets n hands territories registers stands plain is_world ended =
    copies_counted h s targets n hands (starts_in territories) registers stands plain ended
    (kept_is_least h s targets n ended.setting stands plain ended.is_setting)
