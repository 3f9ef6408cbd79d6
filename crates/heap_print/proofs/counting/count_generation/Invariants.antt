use Rattle.heap_print.proofs.Walking.{CountedTo}
use Rattle.heap_print.proofs.counting.count_generation.Given as goal

abbrev pub invariant-loop-thread : goal.invariant-loop-thread
invariant-loop-thread l = CountedTo l.heap l.generation l.thread l.objects l.words
