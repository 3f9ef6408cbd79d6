use Rattle.std.proofs.Common.{take}
use Rattle.heap_print.specs.Lines.{AreShown}
use Rattle.heap_print.proofs.contents.push_words.Given as goal

abbrev pub invariant-loop-word : goal.invariant-loop-word
invariant-loop-word l = AreShown l.initial.numbers l.numbers (take l.word-index l.words) l.initial.text.items l.text.items
