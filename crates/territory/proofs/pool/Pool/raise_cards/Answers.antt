use Rattle.std.proofs.Common.{◌∙◌, ap, arith}
use Rattle.std.specs.List.{slice_get}
use Rattle.seg_chain.specs.Lists.{chain_of, link_count}
use Rattle.territory.specs.Pools.{PoolView}
use Rattle.territory.proofs.AgedAll.{aged_none, at_hand, hand_in, hand_linked, next_hand, aged_more, aged_end, aged_over}
use Rattle.territory.proofs.pool.Pool.raise_cards.Goals as goal

pub loop-count-init : goal.loop-count-init
loop-count-init c = record { aged = aged_none c.args.cg _ c.requires.settled; here = c.first-at.ensures ∙ ap (λ (v : PoolView). slice_get (chain_of v.dirty 1) 0) c.self.view_is }

pub next-at-requires : goal.next-at-requires
next-at-requires c = hand_linked _ _ _ _ _ _ c.self-in-Some.view_is (at_hand _ _ _ _ _ _ c.loop-count.invariant.aged c.loop-count.invariant.here c.in-Some.is)

pub raise_in-requires-clause-dirty : goal.raise_in-requires-clause-dirty
raise_in-requires-clause-dirty c = hand_in _ _ _ _ _ (at_hand _ _ _ _ _ _ c.loop-count.invariant.aged c.loop-count.invariant.here c.in-Some.is)

pub loop-count-preserved : goal.loop-count-preserved
loop-count-preserved c =
    let h = at_hand _ _ _ _ _ _ c.loop-count.invariant.aged c.loop-count.invariant.here c.in-Some.is in
    record {
      aged = aged_more _ _ _ _ _ _ c.requires.settled c.loop-count.invariant.aged h c.raise_in.ensures.settled c.raise_in.ensures.segments c.raise_in.ensures.dirty c.raise_in.ensures.areas c.raise_in.ensures.lists;
      here = next_hand _ _ _ _ _ _ _ c.self-in-Some.view_is h c.next-at.ensures;
    }

pub returns-in-None-clause-settled : goal.returns-in-None-clause-settled
returns-in-None-clause-settled c = c.loop-count.invariant.aged.settled

pub returns-in-None-clause-aged : goal.returns-in-None-clause-aged
returns-in-None-clause-aged c = aged_end _ _ _ _ _ c.requires.settled c.loop-count.invariant.aged c.loop-count.invariant.here c.in-None.is

pub returns-clause-settled : goal.returns-clause-settled
returns-clause-settled c = c.loop-count.invariant.aged.settled

pub returns-clause-aged : goal.returns-clause-aged
returns-clause-aged c = aged_over _ _ _ _ c.requires.settled c.loop-count.invariant.aged (omega (arith, c.links-count-end.ensures.count, ap (λ (v : PoolView). link_count v.dirty) c.self.view_is))
