use Rattle.std.proofs.Common.{◌≡◌, ◌+◌, ◌*◌, set, sym, ap, subst, ◌∙◌, arith}
use Rattle.segment.specs.Layout.{skip_of}
use Rattle.segment.specs.Segments.{IsSound, Segment}
use Rattle.segment.proofs.Calls.{put_seen}
use Rattle.segment.proofs.segment.Segment.put_in_pair.Goals as goal

pub invariant_of-self : goal.invariant_of-self
invariant_of-self c =
    let bare : 2 * c.args.k + 0 ≡ 2 * c.args.k = omega arith in (
      subst (λ n. IsSound (record { space = c.self.inside.space; generation = c.self.inside.generation; role = c.self.inside.role; was_held = c.self.inside.was_held; is_dirty = c.self.inside.is_dirty; top = c.self.inside.top; words = set c.self.inside.words.items (n + c.args.index) c.args.word; births = c.self.inside.births.items; cards = c.self.inside.cards; marks = c.self.inside.marks.items })) bare
          (put_seen _ _ _ _ 0 _ c.self.invariant.0 c.self.view_is c.requires.start c.requires.index_in (sym (ap (λ (v : Segment). skip_of v.space) c.self.view_is ∙ ap skip_of c.requires.pair))),
      c.self.invariant.1,
      c.self.invariant.2,
    )
