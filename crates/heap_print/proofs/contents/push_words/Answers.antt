use Rattle.std.proofs.Common.{refl, arith}
use Rattle.heap_print.proofs.Shown.{shown_more}
use Rattle.heap_print.proofs.contents.push_words.Goals as goal

pub loop-word-preserved : goal.loop-word-preserved
loop-word-preserved c =
    shown_more _ _ _ c.args.words.now c.loop-word.word-index _ _ _ _ (omega arith) refl c.loop-word.invariant c.in_ok-push_spaced.ensures
