use Rattle.std.proofs.Common.{arith}
use Rattle.territory.proofs.Opened.{loose_in}
use Rattle.territory.proofs.Large.{opened_in, large_copy, settled_large, large_fits}
use Rattle.territory.proofs.pool.Pool.copy_large.Goals as goal

pub push_last-requires-clause-loose : goal.push_last-requires-clause-loose
push_last-requires-clause-loose c = loose_in _ _ _ _ c.self.view_is c.in_ok-n.ensures.ok

pub overflow_add-self : goal.overflow_add-self
overflow_add-self c = omega (
  arith,
  large_fits _ _ _ _ _ _ _ _ _ _ _ _ (record {
    number = record {
      seen = c.self.view_is;
      settled = c.take_number.ensures.settled;
      same = c.take_number.ensures.same;
      taken = c.in_ok-n.ensures.ok;
      start = c.requires.start;
      large = c.requires.large;
      small = c.requires.generation_in;
      to_is = c.from.ensures;
      lists_are = c.push_last.ensures.lists;
      links = c.push_last.ensures.links;
      once = c.push_last.ensures.each_once;
    };
    segments_are = opened_in _ _ _ _ _ _ _ _ c.in_ok-open_apart.ensures.ok c.deref_mut.ensures.value (omega arith);
    its_segment = c.index.ensures;
    its_words = c.words.ensures;
  }),
)

pub returns-clause-settled : goal.returns-clause-settled
returns-clause-settled c = settled_large _ _ _ _ _ _ _ _ _ _ _ _ (record {
  number = record {
    seen = c.self.view_is;
    settled = c.take_number.ensures.settled;
    same = c.take_number.ensures.same;
    taken = c.in_ok-n.ensures.ok;
    start = c.requires.start;
    large = c.requires.large;
    small = c.requires.generation_in;
    to_is = c.from.ensures;
    lists_are = c.push_last.ensures.lists;
    links = c.push_last.ensures.links;
    once = c.push_last.ensures.each_once;
  };
  segments_are = opened_in _ _ _ _ _ _ _ _ c.in_ok-open_apart.ensures.ok c.deref_mut.ensures.value (omega arith);
  its_segment = c.index.ensures;
  its_words = c.words.ensures;
})

pub returns-clause-ok : goal.returns-clause-ok
returns-clause-ok c = large_copy _ _ _ _ _ _ _ _ _ _ _ _ (record {
  number = record {
    seen = c.self.view_is;
    settled = c.take_number.ensures.settled;
    same = c.take_number.ensures.same;
    taken = c.in_ok-n.ensures.ok;
    start = c.requires.start;
    large = c.requires.large;
    small = c.requires.generation_in;
    to_is = c.from.ensures;
    lists_are = c.push_last.ensures.lists;
    links = c.push_last.ensures.links;
    once = c.push_last.ensures.each_once;
  };
  segments_are = opened_in _ _ _ _ _ _ _ _ c.in_ok-open_apart.ensures.ok c.deref_mut.ensures.value (omega arith);
  its_segment = c.index.ensures;
  its_words = c.words.ensures;
})
