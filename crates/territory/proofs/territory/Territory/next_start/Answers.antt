use Rattle.std.proofs.Common.{arith}
use Rattle.territory.proofs.Reading.{reach_segment}
use Rattle.territory.proofs.Showing.{place_small, place_used, told_same, told_nothing, told_later, later_used}
use Rattle.territory.proofs.territory.Territory.next_start.Goals as goal

pub segment-requires : goal.segment-requires
segment-requires c = reach_segment _ _ _ _ _ _ c.self.invariant.1 c.self.view_is c.requires c.place-n.ensures.segment

pub overflow_add-k : goal.overflow_add-k
overflow_add-k c = omega (arith, place_small _ _ _ _ _ _ c.self.view_is c.self.invariant.1 c.requires c.place-n.ensures.start)

pub returns-in-Some : goal.returns-in-Some
returns-in-Some c = told_same _ _ _ _ _ _ _ _ _ _ c.self.view_is c.self.invariant.1 c.requires c.place-n.ensures.segment c.place-n.ensures.start c.segment.ensures c.in-Some.ensures.some.0 c.in-Some.ensures.some.1 c.in-Some.ensures.least c.address.ensures

pub next_of-requires-clause-used : goal.next_of-requires-clause-used
next_of-requires-clause-used c = place_used _ _ _ _ _ _ c.self.view_is c.self.invariant.1 c.requires c.place-n.ensures.segment

pub returns-in_err-later : goal.returns-in_err-later
returns-in_err-later c = told_nothing _ _ _ _ _ _ _ _ _ _ c.self.view_is c.self.invariant.1 c.requires c.place-n.ensures.segment c.place-n.ensures.start c.segment.ensures c.in_default.ensures.none c.next_of.ensures c.in_err-later.was c.from_residual.ensures

pub first_in-requires : goal.first_in-requires
first_in-requires c = later_used _ _ _ _ _ _ _ c.self.view_is c.self.invariant.1 (place_used _ _ _ _ _ _ c.self.view_is c.self.invariant.1 c.requires c.place-n.ensures.segment) c.next_of.ensures c.in_ok-later.was

pub returns : goal.returns
returns c = told_later _ _ _ _ _ _ _ _ _ _ _ c.self.view_is c.self.invariant.1 c.requires c.place-n.ensures.segment c.place-n.ensures.start c.segment.ensures c.in_default.ensures.none c.next_of.ensures c.in_ok-later.was c.first_in.ensures.some c.first_in.ensures.first
