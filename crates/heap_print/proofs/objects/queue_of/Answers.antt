use Rattle.std.proofs.Common.{◌≡◌, slice_get, Some, subst}
use Rattle.heap_print.proofs.Queued.{guardian_chained, guardian_shown}
use Rattle.heap_print.proofs.objects.queue_of.Goals as goal

pub queue_words-requires : goal.queue_words-requires
queue_words-requires c =
    guardian_chained _ c.args.at _ _ c.territory-territory.ensures.valid
    (subst (λ n. slice_get c.args.heap.now.territories n ≡ Some c.territory-territory.result.now) c.thread.ensures.value c.territory-territory.ensures.lends)
    c.kind-kind.ensures.addresses c.requires.there c.requires.guardian c.word.ensures

pub returns : goal.returns
returns c =
    guardian_shown c.args.heap.now c.args.at _ _
    (subst (λ n. slice_get c.args.heap.now.territories n ≡ Some c.territory-territory.result.now) c.thread.ensures.value c.territory-territory.ensures.lends)
    c.kind-kind.ensures.addresses c.requires.guardian c.word.ensures _ c.in_ok-words.ensures
