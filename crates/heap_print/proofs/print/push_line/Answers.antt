use Rattle.std.proofs.Common.{◌++◌, List, ℕ, ap, ◌∙◌}
use Rattle.heap_store.specs.HeapView.{starts_of}
use Rattle.heap_print.specs.Lines.{line_text}
use Rattle.heap_print.proofs.print.push_line.Goals as goal

pub returns-clause-text : goal.returns-clause-text
returns-clause-text c = λ x cells queue here has more.
    c.in_ok-extend_from_slice.ensures.items
    ∙ ap (λ (t : List ℕ). c.args.text.now.items ++ t) (c.deref.ensures.value ∙ c.in_ok-push_object.ensures.text x cells queue here has more
    ∙ ap (λ (t : List ℕ). t ++ line_text (starts_of c.args.heap.now) (c.push_object.new.numbers ++ more) c.args.number c.args.at x cells) c.clear.ensures.items)
