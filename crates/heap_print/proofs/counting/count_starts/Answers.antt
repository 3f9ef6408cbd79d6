use Rattle.heap_print.proofs.Walking.{next_there, some_more, some_end, some_most}
use Rattle.heap_print.proofs.counting.count_starts.Goals as goal

pub count_start-start-requires : goal.count_start-start-requires
count_start-start-requires c = (next_there _ _ _ _ _ _ _ c.loop.invariant c.in-Some.is).0

pub next_start-next-requires : goal.next_start-next-requires
next_start-next-requires c = (next_there _ _ _ _ _ _ _ c.loop.invariant c.in-Some.is).0

pub loop-preserved : goal.loop-preserved
loop-preserved c =
    some_more _ _ _ _ _ _ _ _ c.loop.invariant c.in-Some.is c.next_start-next.ensures _ _
    c.count_start-start.ensures.objects c.count_start-start.ensures.words c.count_start-start.ensures.one c.count_start-start.ensures.small

pub returns-in-None-clause-objects : goal.returns-in-None-clause-objects
returns-in-None-clause-objects c = (some_end _ _ _ _ _ _ c.loop.invariant c.in-None.is).0

pub returns-in-None-clause-words : goal.returns-in-None-clause-words
returns-in-None-clause-words c = (some_end _ _ _ _ _ _ c.loop.invariant c.in-None.is).1

pub returns-after-loop-clause-objects : goal.returns-after-loop-clause-objects
returns-after-loop-clause-objects c = (some_most _ _ _ _ _ _ c.requires.few c.loop.invariant c.loop-test.false).0

pub returns-after-loop-clause-words : goal.returns-after-loop-clause-words
returns-after-loop-clause-words c = (some_most _ _ _ _ _ _ c.requires.few c.loop.invariant c.loop-test.false).1
