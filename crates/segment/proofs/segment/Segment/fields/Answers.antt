use Rattle.std.proofs.Common.{rules}
use Rattle.segment.proofs.Aging.{fields_are, words_fit}
use Rattle.segment.proofs.segment.Segment.fields.Goals as goal

pub slice_bounds-result-end : goal.slice_bounds-result-end
slice_bounds-result-end c =
    let fit = words_fit _ _ _ c.self.invariant.0 c.self.view_is c.requires in
    let first = fit.0 in
    search rules

pub returns : goal.returns
returns c = fields_are _ _ _ _ _ _ c.self.invariant.0 c.self.view_is c.requires c.skip-skip.ensures.value c.count-count.ensures c.deref.ensures.value
