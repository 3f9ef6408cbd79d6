use Rattle.std.proofs.Common.{take}
use Rattle.std.specs.FinMap.{get}
use Rattle.territory.specs.Territories.{words_of as words_at}
use Rattle.heap_print.specs.Lines.{AreShown}
use Rattle.heap_print.proofs.contents.push_fields.Given as goal

abbrev pub invariant-loop-index : goal.invariant-loop-index
invariant-loop-index l = AreShown l.initial.numbers l.numbers (take l.index (words_at (get l.territory.starts l.at))) l.initial.text.items l.text.items
