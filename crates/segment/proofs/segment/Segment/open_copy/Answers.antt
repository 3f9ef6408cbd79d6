use Rattle.segment.proofs.Openings.{opened_is, opened_seen}
use Rattle.segment.proofs.segment.Segment.open_copy.Goals as goal

pub invariant_of-self : goal.invariant_of-self
invariant_of-self c = opened_seen _ _ _ _ _ _ _ _ _ _ _ _ (record {
  sound = c.source.invariant.0;
  seen = c.source.view_is;
  start = c.requires.start;
  size_is = c.size-size.ensures;
  its_words = c.in_ok-words.ensures.items;
  read_is = c.deref.ensures.value;
  its_birth = c.index-birth.ensures;
  births_are = c.in_ok-births.ensures.items;
  cards_are = c.in_ok-cards.ensures;
  marks_are = c.in_ok-marks.ensures;
}) c.from.ensures

pub returns-clause-ok : goal.returns-clause-ok
returns-clause-ok c = opened_is _ _ _ _ _ _ _ _ _ _ _ (record {
  sound = c.source.invariant.0;
  seen = c.source.view_is;
  start = c.requires.start;
  size_is = c.size-size.ensures;
  its_words = c.in_ok-words.ensures.items;
  read_is = c.deref.ensures.value;
  its_birth = c.index-birth.ensures;
  births_are = c.in_ok-births.ensures.items;
  cards_are = c.in_ok-cards.ensures;
  marks_are = c.in_ok-marks.ensures;
})
