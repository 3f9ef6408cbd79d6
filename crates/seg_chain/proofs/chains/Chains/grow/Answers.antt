use Rattle.std.proofs.Common.{[], ◌∷◌, ◌++◌, set, refl, sym, ◌∙◌, ap, arith}
use Rattle.seg_chain.specs.Lists.{chain_of}
use Rattle.seg_chain.proofs.Moves.{relinked, lists_are, each_once, count_is}
use Rattle.seg_chain.proofs.Calls.{grown, grown_last, grown_length}
use Rattle.seg_chain.proofs.chains.Chains.grow.Goals as goal

pub attach-requires-clause-prev_in : goal.attach-requires-clause-prev_in
attach-requires-clause-prev_in c = grown_last _ _ _ _ _ _ _ _ c.self.invariant c.self.view_is c.requires c.in_ok-add_node.ensures.ok.0 c.in_ok-add_node.ensures.ok.1

pub invariant_of-self-2 : goal.invariant_of-self-2
invariant_of-self-2 c = relinked _ _ _ _ (grown _ _ _ _ _ _ _ _ _ _ _ c.self.invariant c.self.view_is c.requires c.in_ok-add_node.ensures.ok.0 c.in_ok-add_node.ensures.ok.1 (omega (arith, c.len-node.ensures)) c.attach.ensures.next c.attach.ensures.prev).1

pub returns-clause-lists : goal.returns-clause-lists
returns-clause-lists c =
    let g = grown _ _ _ _ _ _ _ _ _ _ _ c.self.invariant c.self.view_is c.requires c.in_ok-add_node.ensures.ok.0 c.in_ok-add_node.ensures.ok.1 (omega (arith, c.len-node.ensures)) c.attach.ensures.next c.attach.ensures.prev in
    lists_are _ _ _ _ g.1 ∙ ap (λ w. set c.args.self.now c.args.chain (chain_of c.args.self.now c.args.chain ++ w ∷ [])) (sym g.0)

pub returns-clause-links : goal.returns-clause-links
returns-clause-links c =
    let g = grown _ _ _ _ _ _ _ _ _ _ _ c.self.invariant c.self.view_is c.requires c.in_ok-add_node.ensures.ok.0 c.in_ok-add_node.ensures.ok.1 (omega (arith, c.len-node.ensures)) c.attach.ensures.next c.attach.ensures.prev in
    omega (arith, count_is _ _ _ _ _ c.self.invariant c.self.view_is, count_is _ _ _ _ _ (relinked _ _ _ _ g.1) refl, grown_length _ _ _ _ _ _ _ c.in_ok-add_node.ensures.ok.0 c.attach.ensures.next)

pub returns-clause-each_once : goal.returns-clause-each_once
returns-clause-each_once c =
    let g = grown _ _ _ _ _ _ _ _ _ _ _ c.self.invariant c.self.view_is c.requires c.in_ok-add_node.ensures.ok.0 c.in_ok-add_node.ensures.ok.1 (omega (arith, c.len-node.ensures)) c.attach.ensures.next c.attach.ensures.prev in
    each_once _ _ _ _ _ (relinked _ _ _ _ g.1) refl
