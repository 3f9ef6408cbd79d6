use Rattle.std.proofs.Common.{arith}
use Rattle.territory.proofs.Opened.{loose_in, words_fit, settled_opened}
use Rattle.territory.proofs.pool.Pool.open.Goals as goal

pub push_last-requires-clause-loose : goal.push_last-requires-clause-loose
push_last-requires-clause-loose c = loose_in _ _ _ _ c.self.view_is c.in_ok-n.ensures.ok

pub overflow_add-self : goal.overflow_add-self
overflow_add-self c = omega (arith, words_fit _ _ c.self.view_is c.take_number.ensures.settled)

pub returns-clause-settled : goal.returns-clause-settled
returns-clause-settled c = settled_opened _ _ _ _ _ _ _ _ _ _ _ c.self.view_is c.take_number.ensures.settled c.in_ok-n.ensures.ok c.requires.generation_in c.requires.births_in c.requires.single c.requires.words_in
    c.in_ok-open.ensures.ok c.from.ensures c.push_last.ensures.lists c.push_last.ensures.links c.push_last.ensures.each_once
