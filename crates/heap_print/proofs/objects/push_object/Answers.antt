use Rattle.std.proofs.Common.{◌≡◌, ◌++◌, Option, Some, IfSome, slice_get, sym, subst, ◌∙◌, refl}
use Rattle.std.specs.FinMap.{get}
use Rattle.gc_words.specs.Layout.{thread_of}
use Rattle.segment.specs.Segments.{Start}
use Rattle.heap_print.specs.Lines.{head_text}
use Rattle.heap_print.proofs.Queued.{territory_of}
use Rattle.heap_print.proofs.Shown.{three_pieces}
use Rattle.heap_print.proofs.objects.push_object.Goals as goal

pub returns-clause-text : goal.returns-clause-text
returns-clause-text c = λ x cells queue here has more.
    let same = territory_of c.args.heap.now.territories (thread_of c.args.at) c.territory.result.now
    (subst (λ n. slice_get c.args.heap.now.territories n ≡ Some c.territory.result.now) c.thread.ensures.value c.territory.ensures.lends) in
    let there : get c.territory.result.now.starts c.args.at ≡ Some x = sym (same c.args.at refl) ∙ here in
    let head = subst (λ (o : Option Start). IfSome o (λ y. c.push_head.new.text.items ≡ c.args.text.now.items ++ head_text c.args.number c.args.at y.kind y.generation))
    there c.in_ok-push_head.ensures in
    three_pieces _ _ _ _ _ _ _ head (c.in_ok-push_contents.ensures.text x cells queue here has more) c.in_ok-push_word.ensures
