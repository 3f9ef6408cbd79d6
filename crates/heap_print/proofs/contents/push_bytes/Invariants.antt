use Rattle.std.proofs.Common.{◌≡◌, ◌++◌, flat_map}
use Rattle.std.specs.FinMap.{get}
use Rattle.heap_store.specs.Starts.{bytes_of}
use Rattle.territory.specs.Territories.{words_of as words_at}
use Rattle.heap_print.specs.Lines.{spaced_byte}
use Rattle.heap_print.proofs.contents.push_bytes.Given as goal

abbrev pub invariant-loop-index : goal.invariant-loop-index
invariant-loop-index l = l.text.items ≡ l.initial.text.items ++ flat_map spaced_byte (bytes_of (words_at (get l.territory.starts l.at)) l.index)
