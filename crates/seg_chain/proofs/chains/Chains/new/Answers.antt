use Rattle.std.proofs.Common.{refl, ◌∙◌, ap}
use Rattle.seg_chain.specs.Lists.{link_count}
use Rattle.seg_chain.proofs.Moves.{relinked, lists_are, each_once}
use Rattle.seg_chain.proofs.Calls.{new_linked, link_count-replicate}
use Rattle.seg_chain.proofs.chains.Chains.new.Goals as goal

pub invariant_of-result : goal.invariant_of-result
invariant_of-result c = relinked _ _ _ _ (new_linked _ _ _ c.in_ok-own_numbers.ensures.0 c.in_ok-own_numbers.ensures.1 c.in_ok-own_numbers-2.ensures.0 c.in_ok-own_numbers-2.ensures.1)

pub returns-clause-lists : goal.returns-clause-lists
returns-clause-lists c = lists_are _ _ _ _ (new_linked _ _ _ c.in_ok-own_numbers.ensures.0 c.in_ok-own_numbers.ensures.1 c.in_ok-own_numbers-2.ensures.0 c.in_ok-own_numbers-2.ensures.1)

pub returns-clause-links : goal.returns-clause-links
returns-clause-links c =
    ap link_count (lists_are _ _ _ _ (new_linked _ _ _ c.in_ok-own_numbers.ensures.0 c.in_ok-own_numbers.ensures.1 c.in_ok-own_numbers-2.ensures.0 c.in_ok-own_numbers-2.ensures.1)) ∙ link_count-replicate _

pub returns-clause-each_once : goal.returns-clause-each_once
returns-clause-each_once c =
    each_once _ _ _ _ _ (relinked _ _ _ _ (new_linked _ _ _ c.in_ok-own_numbers.ensures.0 c.in_ok-own_numbers.ensures.1 c.in_ok-own_numbers-2.ensures.0 c.in_ok-own_numbers-2.ensures.1)) refl
