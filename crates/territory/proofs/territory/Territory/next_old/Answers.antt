use Rattle.std.proofs.Common.{arith}
use Rattle.seg_chain.specs.Lists.{chain_of}
use Rattle.seg_chain.proofs.Laws.{contains_of}
use Rattle.territory.proofs.OldSegments.{after_contained}
use Rattle.territory.proofs.OldNexts.{at_list, list_place, same_old, later_some, later_none, later_found, next_listed}
use Rattle.territory.proofs.territory.Territory.next_old.Goals as goal

pub overflow_add-k : goal.overflow_add-k
overflow_add-k c = omega (arith, list_place _ _ _ _ _ _ _ (at_list _ _ _ _ _ _ c.self.view_is c.self.invariant.1 c.requires.old) c.place-n.ensures.segment c.place-n.ensures.start)

pub old_in-requires-clause-within : goal.old_in-requires-clause-within
old_in-requires-clause-within c = (list_place _ _ _ _ _ _ _ (at_list _ _ _ _ _ _ c.self.view_is c.self.invariant.1 c.requires.old) c.place-n.ensures.segment c.place-n.ensures.start).0

pub returns-in-Some-clause-next : goal.returns-in-Some-clause-next
returns-in-Some-clause-next c = same_old _ _ _ _ _ _ _ _ _ _ c.self.view_is c.self.invariant.1 (at_list _ _ _ _ _ _ c.self.view_is c.self.invariant.1 c.requires.old) c.place-n.ensures.segment c.place-n.ensures.start c.in-Some.ensures.some.0 c.in-Some.ensures.some.1 c.in-Some.ensures.least c.address.ensures

pub returns-in-Some-clause-listed : goal.returns-in-Some-clause-listed
returns-in-Some-clause-listed c = next_listed _ _ _ _ c.requires.old (same_old _ _ _ _ _ _ _ _ _ _ c.self.view_is c.self.invariant.1 (at_list _ _ _ _ _ _ c.self.view_is c.self.invariant.1 c.requires.old) c.place-n.ensures.segment c.place-n.ensures.start c.in-Some.ensures.some.0 c.in-Some.ensures.some.1 c.in-Some.ensures.least c.address.ensures)

pub next_dirty-requires-clause-dirty : goal.next_dirty-requires-clause-dirty
next_dirty-requires-clause-dirty c = contains_of _ (chain_of c.self.inside.pool.dirty 1) (list_place _ _ _ _ _ _ _ (at_list _ _ _ _ _ _ c.self.view_is c.self.invariant.1 c.requires.old) c.place-n.ensures.segment c.place-n.ensures.start).2

pub first_old-requires-clause-dirty : goal.first_old-requires-clause-dirty
first_old-requires-clause-dirty c = after_contained (chain_of c.self.inside.pool.dirty 1) _ _ (contains_of _ (chain_of c.self.inside.pool.dirty 1) (list_place _ _ _ _ _ _ _ (at_list _ _ _ _ _ _ c.self.view_is c.self.invariant.1 c.requires.old) c.place-n.ensures.segment c.place-n.ensures.start).2) c.next_dirty.ensures

pub returns-in_err-later-clause-next : goal.returns-in_err-later-clause-next
returns-in_err-later-clause-next c = later_none _ _ _ _ _ _ _ _ _ _ _ c.self.view_is c.self.invariant.1 (at_list _ _ _ _ _ _ c.self.view_is c.self.invariant.1 c.requires.old) c.place-n.ensures.segment c.place-n.ensures.start c.in_default.ensures.none c.next_dirty.ensures c.first_old.ensures c.in_err-later.was c.from_residual.ensures

pub address-requires-2-clause-within : goal.address-requires-2-clause-within
address-requires-2-clause-within c = (later_found _ _ _ _ _ _ _ _ _ _ _ c.self.view_is c.self.invariant.1 (at_list _ _ _ _ _ _ c.self.view_is c.self.invariant.1 c.requires.old) c.place-n.ensures.segment c.next_dirty.ensures c.first_old.ensures c.in_ok-later.was).0

pub address-requires-2-clause-start : goal.address-requires-2-clause-start
address-requires-2-clause-start c = (later_found _ _ _ _ _ _ _ _ _ _ _ c.self.view_is c.self.invariant.1 (at_list _ _ _ _ _ _ c.self.view_is c.self.invariant.1 c.requires.old) c.place-n.ensures.segment c.next_dirty.ensures c.first_old.ensures c.in_ok-later.was).1

pub returns-clause-next : goal.returns-clause-next
returns-clause-next c = later_some _ _ _ _ _ _ _ _ _ _ _ _ _ c.self.view_is c.self.invariant.1 (at_list _ _ _ _ _ _ c.self.view_is c.self.invariant.1 c.requires.old) c.place-n.ensures.segment c.place-n.ensures.start c.in_default.ensures.none c.next_dirty.ensures c.first_old.ensures c.in_ok-later.was c.address-2.ensures

pub returns-clause-listed : goal.returns-clause-listed
returns-clause-listed c = next_listed _ _ _ _ c.requires.old (later_some _ _ _ _ _ _ _ _ _ _ _ _ _ c.self.view_is c.self.invariant.1 (at_list _ _ _ _ _ _ c.self.view_is c.self.invariant.1 c.requires.old) c.place-n.ensures.segment c.place-n.ensures.start c.in_default.ensures.none c.next_dirty.ensures c.first_old.ensures c.in_ok-later.was c.address-2.ensures)
