use Rattle.std.proofs.Common.{arith}
use Rattle.heap_print.proofs.Chained.{cell_there, walked_next, walked_end, never_out}
use Rattle.heap_print.proofs.contents.queue_words.Goals as goal

pub word-requires : goal.word-requires
word-requires c = omega (arith, cell_there _ _ _ _ _ _ (c.loop.invariant c.requires.0 c.requires.1) c.in-Some.ensures.some)

pub word-next-requires : goal.word-next-requires
word-next-requires c = omega (arith, cell_there _ _ _ _ _ _ (c.loop.invariant c.requires.0 c.requires.1) c.in-Some.ensures.some)

pub returns-in-None : goal.returns-in-None
returns-in-None c = λ cells chain. walked_end _ cells _ _ _ (c.loop.invariant cells chain) c.in-None.ensures.none

pub loop-preserved : goal.loop-preserved
loop-preserved c = λ cells chain. walked_next _ cells _ _ _ _ (c.loop.invariant cells chain) c.in-Some.ensures.some c.in-Some.ensures.valid _ _ _ c.word.ensures c.word-next.ensures c.in_ok-push-in-Some.ensures.items

pub returns : goal.returns
returns c = λ cells chain. absurd (never_out _ cells _ _ _ _ chain (c.loop.invariant cells chain) (omega (arith, c.loop-test.false)))
