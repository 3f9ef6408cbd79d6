use Rattle.std.proofs.Common.{ℕ, List, [], ◌∷◌, ◌++◌, fold, codes, ap, ◌∙◌, arith}
use Rattle.trace_types.specs.Values.{objects_in}
use Rattle.trace_types.specs.Printing.{with_number, value_text}
use Rattle.heap_print.specs.Words.{by_word}
use Rattle.heap_print.proofs.Going.{printing_first, printing_on, printing_all, object_there, never_none}
use Rattle.heap_print.proofs.print.push_graph.Goals as goal

pub loop-number-init : goal.loop-number-init
loop-number-init c =
    printing_first c.args.heap.now c.args.value.now _ _ _ _ c.requires.valid c.in_ok-push_first.ensures.address c.requires.there
    (c.in_ok-push_first.ensures.numbers ∙ ap (λ (ns : List ℕ). fold with_number ns (objects_in (by_word c.args.value.now ∷ []))) c.new-numbers.ensures)
    (λ more. c.in_ok-push_first.ensures.text more
    ∙ ap (λ (t : List ℕ). t ++ codes "= " ++ value_text (c.push_first.new.numbers ++ more) (by_word c.args.value.now) ++ 10 ∷ []) c.new-line.ensures.items)
    (c.in_ok-extend_from_slice.ensures.items ∙ ap (λ (t : List ℕ). c.args.text.now.items ++ t) c.deref.ensures.value)

pub push_line-requires-clause-there : goal.push_line-requires-clause-there
push_line-requires-clause-there c =
    let at = c.in-Some.ensures.some in
    object_there c.args.heap.now c.args.value.now _ _ at.0 c.in-Some.at c.loop-number.invariant.went at.1 at.2

pub returns-in-None-clause-text : goal.returns-in-None-clause-text
returns-in-None-clause-text c =
    absurd (never_none c.args.heap.now _ _ c.loop-number.invariant.went.refer (omega (arith, c.loop-number-test.true, c.count.ensures.count)) c.in-None.ensures.none)

pub loop-number-preserved : goal.loop-number-preserved
loop-number-preserved c =
    let at = c.in-Some.ensures.some in
    let line = c.in_ok-push_line-in-Some.ensures in
    printing_on c.args.heap.now c.args.value.now _ _ _ _ at.0 c.in-Some.at c.loop-number.invariant at.1 at.2 c.requires.valid _ _ line.numbers line.text line.kept

pub returns-clause-text : goal.returns-clause-text
returns-clause-text c = printing_all _ _ _ _ _ _ c.loop-number.invariant (omega (arith, c.loop-number-test.false, c.count.ensures.count)) c.requires.there
