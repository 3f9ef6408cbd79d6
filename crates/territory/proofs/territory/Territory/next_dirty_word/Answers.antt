use Rattle.std.proofs.Common.{arith}
use Rattle.territory.proofs.Reading.{reach_segment, at}
use Rattle.territory.proofs.OldWords.{byte_told, words_told, if_none}
use Rattle.territory.proofs.territory.Territory.next_dirty_word.Goals as goal

pub segment-requires : goal.segment-requires
segment-requires c = reach_segment _ _ _ _ _ _ c.self.invariant.1 c.self.view_is c.requires.start c.place-n.ensures.segment

pub next_dirty_word-requires-clause-start : goal.next_dirty_word-requires-clause-start
next_dirty_word-requires-clause-start c = (at _ _ _ _ _ _ _ _ c.self.invariant.1 c.self.view_is c.requires.start c.place-n.ensures.segment c.place-n.ensures.start c.segment.ensures).starts

pub returns-in_err-index-clause-none : goal.returns-in_err-index-clause-none
returns-in_err-index-clause-none c =
    if_none _ _ c.from_residual.ensures (λ j low high.
    let i = at _ _ _ _ _ _ _ _ c.self.invariant.1 c.self.view_is c.requires.start c.place-n.ensures.segment c.place-n.ensures.start c.segment.ensures in
    omega (
      arith,
      c.in_err-index.ensures.none j low (omega (arith, words_told _ _ _ _ _ _ i)),
      byte_told _ _ _ _ _ _ _ j _ c.self.invariant.1 c.self.view_is c.requires.start c.place-n.ensures.segment c.place-n.ensures.start c.segment.ensures,
    ))

pub returns-clause-some : goal.returns-clause-some
returns-clause-some c =
    let i = at _ _ _ _ _ _ _ _ c.self.invariant.1 c.self.view_is c.requires.start c.place-n.ensures.segment c.place-n.ensures.start c.segment.ensures in
    (c.in_ok-index.ensures.some.0, omega (arith, words_told _ _ _ _ _ _ i, c.in_ok-index.ensures.some.1))

pub returns-clause-dirty : goal.returns-clause-dirty
returns-clause-dirty c =
    omega (arith, c.in_ok-index.ensures.dirty, byte_told _ _ _ _ _ _ _ c.in_ok-index.index _ c.self.invariant.1 c.self.view_is c.requires.start c.place-n.ensures.segment c.place-n.ensures.start c.segment.ensures)

pub returns-clause-least : goal.returns-clause-least
returns-clause-least c = λ j low high.
    omega (arith, c.in_ok-index.ensures.least j low high, byte_told _ _ _ _ _ _ _ j _ c.self.invariant.1 c.self.view_is c.requires.start c.place-n.ensures.segment c.place-n.ensures.start c.segment.ensures)
