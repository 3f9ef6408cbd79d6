use Rattle.std.proofs.Common.{arith}
use Rattle.heap_print.proofs.Walking.{to_none, to_more, to_few, few_there, to_objects, to_words}
use Rattle.heap_print.proofs.counting.count_generation.Goals as goal

pub loop-thread-init : goal.loop-thread-init
loop-thread-init c = to_none _ _

pub count_starts-counted-requires-clause-few : goal.count_starts-counted-requires-clause-few
count_starts-counted-requires-clause-few c = few_there _ _ _ c.territory.ensures.valid c.territory.ensures.lends

pub overflow_add-objects : goal.overflow_add-objects
overflow_add-objects c = omega (arith, to_few _ _ _ _ _ c.territory.ensures.valid c.loop-thread.invariant, c.count_starts-counted.ensures.few)

pub overflow_add-words : goal.overflow_add-words
overflow_add-words c =
    omega (
      arith,
      to_few _ _ _ _ _ c.territory.ensures.valid c.loop-thread.invariant,
      c.loop-thread.invariant.small,
      c.count_starts-counted.ensures.few,
      c.count_starts-counted.ensures.small,
    )

pub loop-thread-preserved : goal.loop-thread-preserved
loop-thread-preserved c =
    to_more _ _ _ _ _ _ _ _ c.territory.ensures.valid.stands.territories c.territory.ensures.lends c.count_starts-counted.ensures.all
    c.loop-thread.invariant c.count_starts-counted.ensures.objects c.count_starts-counted.ensures.words c.count_starts-counted.ensures.small

pub returns-clause-objects : goal.returns-clause-objects
returns-clause-objects c = λ s stands. to_objects _ _ _ _ _ s stands (omega (arith, c.loop-thread-test.false, c.loop-thread.auto.thread-end)) c.loop-thread.invariant

pub returns-clause-words : goal.returns-clause-words
returns-clause-words c = λ s stands. to_words _ _ _ _ _ s stands (omega (arith, c.loop-thread-test.false, c.loop-thread.auto.thread-end)) c.loop-thread.invariant
