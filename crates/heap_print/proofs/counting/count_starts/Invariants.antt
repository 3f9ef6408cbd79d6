use Rattle.heap_print.proofs.Walking.{CountedSome}
use Rattle.heap_print.proofs.counting.count_starts.Given as goal

abbrev pub invariant-loop : goal.invariant-loop
invariant-loop l = CountedSome l.territory l.generation l.counter l.next l.objects l.words
