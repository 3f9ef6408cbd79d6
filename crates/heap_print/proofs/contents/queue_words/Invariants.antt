use Rattle.std.proofs.Common.{List, ℕ}
use Rattle.std.specs.FinMap.{get}
use Rattle.heap_print.specs.Chains.{IsChain}
use Rattle.heap_print.proofs.Chained.{Walked}
use Rattle.heap_print.proofs.contents.queue_words.Given as goal

abbrev pub invariant-loop : goal.invariant-loop
invariant-loop l = (cells : List ℕ) → IsChain (get l.territory.starts) l.first cells → Walked (get l.territory.starts) cells l.next l.words.items l.counter
