use Rattle.heap_print.proofs.Spaced.{one_more}
use Rattle.heap_print.proofs.contents.push_bytes.Goals as goal

pub loop-index-preserved : goal.loop-index-preserved
loop-index-preserved c =
    one_more _ _ _ _ _ _ _ c.to_le_bytes-bytes.ensures c.word.ensures c.loop-index.invariant c.in_ok-push_byte.ensures
