use Rattle.std.proofs.Common.{◌+◌, ◌<◌, ◌^◌, refl, subst, ◌∙◌, ap}
use Rattle.std.specs.Option.{SomeIff}
use Rattle.directory.proofs.Walk.{next_from_one, unput, walked_more, walked_falls, walked_all}
use Rattle.directory.proofs.numbering.number_segments.Goals as goal

pub from_words-size-requires : goal.from_words-size-requires
from_words-size-requires c = next_from_one _ _ _ _ _ _ c.loop-at.invariant c.in-Some.is

pub from_generation-requires : goal.from_generation-requires
from_generation-requires c = next_from_one _ _ _ _ _ _ c.loop-at.invariant c.in-Some.is

pub put-requires : goal.put-requires
put-requires c = unput _ _ _ _ _ _ c.loop-at.invariant c.in-Some.is

pub next_from-at-requires : goal.next_from-at-requires
next_from-at-requires c = next_from_one _ _ _ _ _ _ c.loop-at.invariant c.in-Some.is

pub loop-at-smaller : goal.loop-at-smaller
loop-at-smaller c = walked_falls _ _ _ _ _ _ _ c.loop-at.invariant c.in-Some.is c.next_from-at.ensures.next

pub loop-at-preserved : goal.loop-at-preserved
loop-at-preserved c =
    let sum = subst (λ o. SomeIff o (c.loop-at.next + c.run.result < 2 ^ 64) (c.loop-at.next + c.run.result)) c.in_ok-next.ensures.ok_part c.checked_add.ensures in
    walked_more _ _ _ _ _ _ _ _ _
    (record { first_word = c.loop-at.next; size = c.from_words-size.result; generation = c.from_generation.result })
    c.loop-at.invariant c.in-Some.is c.from_words-size.ensures c.from_generation.ensures refl
    (sum.1 ∙ ap (λ v. c.loop-at.next + v) c.run.ensures) c.in_ok-put.ensures.here c.in_ok-put.ensures.others c.next_from-at.ensures.next

pub returns : goal.returns
returns c = walked_all _ _ _ _ _ c.loop-at.invariant c.in_default.is
