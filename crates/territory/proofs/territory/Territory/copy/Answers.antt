use Rattle.territory.proofs.Unheld.{between_copied}
use Rattle.std.proofs.Common.{ap, sym, ◌∙◌}
use Rattle.std.specs.FinMap as map
use Rattle.territory.specs.Territories.{TerritoryView}
use Rattle.territory.proofs.Allocated.{refused, address_is, on_err}
use Rattle.territory.proofs.Reading.{reach_segment, at}
use Rattle.territory.proofs.Copying.{large_copied, large_place, read, read_size, copied, ready, no_start, told_starts, told_place, told_sound, used_copy}
use Rattle.territory.proofs.territory.Territory.copy.Goals as goal

pub segment-source-requires : goal.segment-source-requires
segment-source-requires c = reach_segment _ _ _ _ _ _ c.self.invariant.1 c.self.view_is c.requires.start c.place-segment.ensures.segment

pub size-size-requires : goal.size-size-requires
size-size-requires c = (at _ _ _ _ _ _ _ _ c.self.invariant.1 c.self.view_is c.requires.start c.place-segment.ensures.segment c.place-segment.ensures.start c.segment-source.ensures).starts

pub room_for-requires-clause-some : goal.room_for-requires-clause-some
room_for-requires-clause-some c = (read_size _ _ _ _ _ _ _ _ c.self.invariant.1 (read _ _ _ _ _ _ _ _ _ _ c.self.invariant.1 c.self.view_is c.requires.start c.place-segment.ensures.segment c.place-segment.ensures.start c.segment-source.ensures c.space-space.ensures c.size-size.ensures)).0

pub room_for-requires-clause-size_in : goal.room_for-requires-clause-size_in
room_for-requires-clause-size_in c = (read_size _ _ _ _ _ _ _ _ c.self.invariant.1 (read _ _ _ _ _ _ _ _ _ _ c.self.invariant.1 c.self.view_is c.requires.start c.place-segment.ensures.segment c.place-segment.ensures.start c.segment-source.ensures c.space-space.ensures c.size-size.ensures)).1

pub copy_large-requires-clause-start :
    goal.copy_large-requires-clause-start
copy_large-requires-clause-start c =
    (read _ _ _ _ _ _ _ _ _ _ c.self.invariant.1 c.self.view_is c.requires.start c.place-segment.ensures.segment c.place-segment.ensures.start c.segment-source.ensures c.space-space.ensures c.size-size.ensures).start

pub returns-in_err-own-clause-refused :
    goal.returns-in_err-own-clause-refused
returns-in_err-own-clause-refused c =
    on_err c.from_residual.result (refused _ _ _ _ _ c.self.view_is c.self.invariant.1 c.copy_large.ensures.settled c.in_err-own.ensures.err)

pub invariant_of-self-then-size-gt-GREATEST_SHARED :
    goal.invariant_of-self-then-size-gt-GREATEST_SHARED
invariant_of-self-then-size-gt-GREATEST_SHARED c =
    let d = (large_copied _ _ _ _ _ _ _ _ _ _ _ c.self.invariant.1 c.copy_large.ensures.settled (read _ _ _ _ _ _ _ _ _ _ c.self.invariant.1 c.self.view_is c.requires.start c.place-segment.ensures.segment c.place-segment.ensures.start c.segment-source.ensures c.space-space.ensures c.size-size.ensures) c.if-size-gt-GREATEST_SHARED.true c.in_ok-own.ensures.ok) in
    (c.self.invariant.0, c.copy_large.ensures.settled, used_copy _ _ _ _ _ _ _ _ d c.self.invariant.2, between_copied c.self.inside.pool c.in_ok-own.ensures.ok.mid c.copy_large.new.self _ _ _ _ _ _ _ d.room d.segments c.self.invariant.3)

pub returns-then-size-gt-GREATEST_SHARED-clause-free :
    goal.returns-then-size-gt-GREATEST_SHARED-clause-free
returns-then-size-gt-GREATEST_SHARED-clause-free c =
    ap (λ (v : TerritoryView). map.get v.starts c.at.result) (sym c.self.view_is) ∙ no_start _ _ _ _ _ _ _ _ _ _ (large_copied _ _ _ _ _ _ _ _ _ _ _ c.self.invariant.1 c.copy_large.ensures.settled (read _ _ _ _ _ _ _ _ _ _ c.self.invariant.1 c.self.view_is c.requires.start c.place-segment.ensures.segment c.place-segment.ensures.start c.segment-source.ensures c.space-space.ensures c.size-size.ensures) c.if-size-gt-GREATEST_SHARED.true c.in_ok-own.ensures.ok) (large_place _ _ _ _ _ _ _ _ c.in_ok-own.ensures.ok c.at.ensures.value)

pub returns-then-size-gt-GREATEST_SHARED-clause-starts :
    goal.returns-then-size-gt-GREATEST_SHARED-clause-starts
returns-then-size-gt-GREATEST_SHARED-clause-starts c =
    told_starts _ _ _ _ _ _ _ _ _ _ _ _ _ _ c.self.view_is (read _ _ _ _ _ _ _ _ _ _ c.self.invariant.1 c.self.view_is c.requires.start c.place-segment.ensures.segment c.place-segment.ensures.start c.segment-source.ensures c.space-space.ensures c.size-size.ensures) (large_copied _ _ _ _ _ _ _ _ _ _ _ c.self.invariant.1 c.copy_large.ensures.settled (read _ _ _ _ _ _ _ _ _ _ c.self.invariant.1 c.self.view_is c.requires.start c.place-segment.ensures.segment c.place-segment.ensures.start c.segment-source.ensures c.space-space.ensures c.size-size.ensures) c.if-size-gt-GREATEST_SHARED.true c.in_ok-own.ensures.ok) (large_place _ _ _ _ _ _ _ _ c.in_ok-own.ensures.ok c.at.ensures.value)

pub returns-then-size-gt-GREATEST_SHARED-clause-segments :
    goal.returns-then-size-gt-GREATEST_SHARED-clause-segments
returns-then-size-gt-GREATEST_SHARED-clause-segments c =
    told_place _ _ _ _ _ _ _ _ _ _ _ _ _ _ c.self.view_is (read _ _ _ _ _ _ _ _ _ _ c.self.invariant.1 c.self.view_is c.requires.start c.place-segment.ensures.segment c.place-segment.ensures.start c.segment-source.ensures c.space-space.ensures c.size-size.ensures) (large_copied _ _ _ _ _ _ _ _ _ _ _ c.self.invariant.1 c.copy_large.ensures.settled (read _ _ _ _ _ _ _ _ _ _ c.self.invariant.1 c.self.view_is c.requires.start c.place-segment.ensures.segment c.place-segment.ensures.start c.segment-source.ensures c.space-space.ensures c.size-size.ensures) c.if-size-gt-GREATEST_SHARED.true c.in_ok-own.ensures.ok) c.in_ok-own.ensures.ok.same_areas c.in_ok-own.ensures.ok.lists (sym c.at.ensures.parts.its_segment)

pub returns-then-size-gt-GREATEST_SHARED-clause-sound :
    goal.returns-then-size-gt-GREATEST_SHARED-clause-sound
returns-then-size-gt-GREATEST_SHARED-clause-sound c =
    told_sound _ _ _ _ _ _ _ _ _ _ _ _ _ _ c.self.view_is (read _ _ _ _ _ _ _ _ _ _ c.self.invariant.1 c.self.view_is c.requires.start c.place-segment.ensures.segment c.place-segment.ensures.start c.segment-source.ensures c.space-space.ensures c.size-size.ensures) (large_copied _ _ _ _ _ _ _ _ _ _ _ c.self.invariant.1 c.copy_large.ensures.settled (read _ _ _ _ _ _ _ _ _ _ c.self.invariant.1 c.self.view_is c.requires.start c.place-segment.ensures.segment c.place-segment.ensures.start c.segment-source.ensures c.space-space.ensures c.size-size.ensures) c.if-size-gt-GREATEST_SHARED.true c.in_ok-own.ensures.ok) (large_place _ _ _ _ _ _ _ _ c.in_ok-own.ensures.ok c.at.ensures.value)

pub returns-in_err-n-clause-refused : goal.returns-in_err-n-clause-refused
returns-in_err-n-clause-refused c = on_err c.from_residual-in_err-n.result (refused _ _ _ _ _ c.self.view_is c.self.invariant.1 c.room_for.ensures.settled c.in_err-n.ensures.err)

pub copy-offset-requires-clause-start : goal.copy-offset-requires-clause-start
copy-offset-requires-clause-start c = (ready _ _ _ _ _ _ _ _ _ _ _ (read _ _ _ _ _ _ _ _ _ _ c.self.invariant.1 c.self.view_is c.requires.start c.place-segment.ensures.segment c.place-segment.ensures.start c.segment-source.ensures c.space-space.ensures c.size-size.ensures) c.in_ok-n.ensures.ok).start

pub copy-offset-requires-clause-size_is : goal.copy-offset-requires-clause-size_is
copy-offset-requires-clause-size_is c = (ready _ _ _ _ _ _ _ _ _ _ _ (read _ _ _ _ _ _ _ _ _ _ c.self.invariant.1 c.self.view_is c.requires.start c.place-segment.ensures.segment c.place-segment.ensures.start c.segment-source.ensures c.space-space.ensures c.size-size.ensures) c.in_ok-n.ensures.ok).size_is

pub copy-offset-requires-clause-space : goal.copy-offset-requires-clause-space
copy-offset-requires-clause-space c = (ready _ _ _ _ _ _ _ _ _ _ _ (read _ _ _ _ _ _ _ _ _ _ c.self.invariant.1 c.self.view_is c.requires.start c.place-segment.ensures.segment c.place-segment.ensures.start c.segment-source.ensures c.space-space.ensures c.size-size.ensures) c.in_ok-n.ensures.ok).space

pub invariant_of-self-2 : goal.invariant_of-self-2
invariant_of-self-2 c = (c.self.invariant.0, c.copy-offset.ensures.settled, used_copy _ _ _ _ _ _ _ _ (copied _ _ _ _ _ _ _ _ _ _ _ _ c.self.invariant.1 c.room_for.ensures.settled c.copy-offset.ensures.settled (read _ _ _ _ _ _ _ _ _ _ c.self.invariant.1 c.self.view_is c.requires.start c.place-segment.ensures.segment c.place-segment.ensures.start c.segment-source.ensures c.space-space.ensures c.size-size.ensures) c.in_ok-n.ensures.ok c.copy-offset.ensures.segments) c.self.invariant.2, between_copied c.self.inside.pool c.room_for.new.self c.copy-offset.new.self _ _ _ _ _ _ _ c.in_ok-n.ensures.ok c.copy-offset.ensures.segments c.self.invariant.3)

pub returns-clause-free : goal.returns-clause-free
returns-clause-free c = ap (λ (v : TerritoryView). map.get v.starts c.at-2.result) (sym c.self.view_is) ∙ no_start _ _ _ _ _ _ _ _ _ _ (copied _ _ _ _ _ _ _ _ _ _ _ _ c.self.invariant.1 c.room_for.ensures.settled c.copy-offset.ensures.settled (read _ _ _ _ _ _ _ _ _ _ c.self.invariant.1 c.self.view_is c.requires.start c.place-segment.ensures.segment c.place-segment.ensures.start c.segment-source.ensures c.space-space.ensures c.size-size.ensures) c.in_ok-n.ensures.ok c.copy-offset.ensures.segments) (address_is _ _ _ _ _ c.at-2.ensures.value c.copy-offset.ensures.offset)

pub returns-clause-starts : goal.returns-clause-starts
returns-clause-starts c = told_starts _ _ _ _ _ _ _ _ _ _ _ _ _ _ c.self.view_is (read _ _ _ _ _ _ _ _ _ _ c.self.invariant.1 c.self.view_is c.requires.start c.place-segment.ensures.segment c.place-segment.ensures.start c.segment-source.ensures c.space-space.ensures c.size-size.ensures) (copied _ _ _ _ _ _ _ _ _ _ _ _ c.self.invariant.1 c.room_for.ensures.settled c.copy-offset.ensures.settled (read _ _ _ _ _ _ _ _ _ _ c.self.invariant.1 c.self.view_is c.requires.start c.place-segment.ensures.segment c.place-segment.ensures.start c.segment-source.ensures c.space-space.ensures c.size-size.ensures) c.in_ok-n.ensures.ok c.copy-offset.ensures.segments) (address_is _ _ _ _ _ c.at-2.ensures.value c.copy-offset.ensures.offset)

pub returns-clause-segments : goal.returns-clause-segments
returns-clause-segments c = told_place _ _ _ _ _ _ _ _ _ _ _ _ _ _ c.self.view_is (read _ _ _ _ _ _ _ _ _ _ c.self.invariant.1 c.self.view_is c.requires.start c.place-segment.ensures.segment c.place-segment.ensures.start c.segment-source.ensures c.space-space.ensures c.size-size.ensures) (copied _ _ _ _ _ _ _ _ _ _ _ _ c.self.invariant.1 c.room_for.ensures.settled c.copy-offset.ensures.settled (read _ _ _ _ _ _ _ _ _ _ c.self.invariant.1 c.self.view_is c.requires.start c.place-segment.ensures.segment c.place-segment.ensures.start c.segment-source.ensures c.space-space.ensures c.size-size.ensures) c.in_ok-n.ensures.ok c.copy-offset.ensures.segments) c.copy-offset.ensures.areas c.copy-offset.ensures.lists (sym c.at-2.ensures.parts.its_segment)

pub returns-clause-sound : goal.returns-clause-sound
returns-clause-sound c = told_sound _ _ _ _ _ _ _ _ _ _ _ _ _ _ c.self.view_is (read _ _ _ _ _ _ _ _ _ _ c.self.invariant.1 c.self.view_is c.requires.start c.place-segment.ensures.segment c.place-segment.ensures.start c.segment-source.ensures c.space-space.ensures c.size-size.ensures) (copied _ _ _ _ _ _ _ _ _ _ _ _ c.self.invariant.1 c.room_for.ensures.settled c.copy-offset.ensures.settled (read _ _ _ _ _ _ _ _ _ _ c.self.invariant.1 c.self.view_is c.requires.start c.place-segment.ensures.segment c.place-segment.ensures.start c.segment-source.ensures c.space-space.ensures c.size-size.ensures) c.in_ok-n.ensures.ok c.copy-offset.ensures.segments) (address_is _ _ _ _ _ c.at-2.ensures.value c.copy-offset.ensures.offset)
