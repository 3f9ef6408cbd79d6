use Rattle.std.proofs.Common.{refl, arith}
use Rattle.seg_chain.proofs.Moves.{relinked, lists_are, each_once, count_is}
use Rattle.seg_chain.proofs.Calls.{spliced_now, spliced_none, ends_within, some_from, spliced_length}
use Rattle.seg_chain.proofs.chains.Chains.splice.Goals as goal

pub join_circles-requires-clause-first_in : goal.join_circles-requires-clause-first_in
join_circles-requires-clause-first_in c = (ends_within _ _ _ _ _ _ c.self.invariant c.self.view_is c.requires.from_in).0

pub join_circles-requires-clause-last_in : goal.join_circles-requires-clause-last_in
join_circles-requires-clause-last_in c = (ends_within _ _ _ _ _ _ c.self.invariant c.self.view_is c.requires.from_in).1

pub join_circles-requires-clause-end_in : goal.join_circles-requires-clause-end_in
join_circles-requires-clause-end_in c = (ends_within _ _ _ _ _ _ c.self.invariant c.self.view_is c.requires.to_in).1

pub invariant_of-self : goal.invariant_of-self
invariant_of-self c =
    relinked _ _ _ _ (spliced_now _ _ _ _ _ _ _ _ _ c.self.invariant c.self.view_is c.requires.from_in c.requires.to_in c.requires.other ((some_from _ _ _ _ _ _ _ c.self.invariant c.self.view_is c.requires.from_in c.index-first.ensures).0 c.if-first-self.true) c.join_circles.ensures.next c.join_circles.ensures.prev)

pub returns-then-first-self : goal.returns-then-first-self
returns-then-first-self c =
    let l = spliced_now _ _ _ _ _ _ _ _ _ c.self.invariant c.self.view_is c.requires.from_in c.requires.to_in c.requires.other ((some_from _ _ _ _ _ _ _ c.self.invariant c.self.view_is c.requires.from_in c.index-first.ensures).0 c.if-first-self.true) c.join_circles.ensures.next c.join_circles.ensures.prev in
    record {
      lists = lists_are _ _ _ _ l;
      links = omega (arith, count_is _ _ _ _ _ c.self.invariant c.self.view_is, count_is _ _ _ _ _ (relinked _ _ _ _ l) refl, spliced_length _ _ _ _ _ _ _ _ c.join_circles.ensures.next);
      each_once = each_once _ _ _ _ _ (relinked _ _ _ _ l) refl;
    }

pub returns-else-first-self : goal.returns-else-first-self
returns-else-first-self c = record {
  lists = spliced_none _ _ _ _ _ _ _ c.self.invariant c.self.view_is c.requires.from_in c.requires.to_in c.requires.other ((some_from _ _ _ _ _ _ _ c.self.invariant c.self.view_is c.requires.from_in c.index-first.ensures).1 c.if-first-self.false);
  links = refl;
  each_once = each_once _ _ _ _ _ c.self.invariant c.self.view_is;
}
