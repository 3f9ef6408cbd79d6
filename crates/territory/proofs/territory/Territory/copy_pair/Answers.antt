use Rattle.std.proofs.Common.{◌∙◌, rules}
use Rattle.gc_words.specs.Layout.{IsAddress}
use Rattle.territory.proofs.Allocated.{refused, on_err}
use Rattle.territory.proofs.Copying.{copied, ready, used_copy}
use Rattle.territory.proofs.PairCopies.{read_pair, told_copy}
use Rattle.territory.proofs.Unheld.{between_copied}
use Rattle.territory.proofs.territory.Territory.copy_pair.Goals as goal

pub returns-in_err-n-clause-refused : goal.returns-in_err-n-clause-refused
returns-in_err-n-clause-refused c = on_err c.from_residual.result (refused _ _ _ _ _ c.self.view_is c.self.invariant.1 c.room_for_pair.ensures.settled c.in_err-n.ensures.err)

pub copy_pair-offset-requires-clause-start : goal.copy_pair-offset-requires-clause-start
copy_pair-offset-requires-clause-start c = (ready _ _ _ _ _ _ _ _ _ _ _ (read_pair _ _ _ _ _ _ _ c.self.invariant.1 c.self.view_is c.requires.pair c.place-segment.ensures.segment c.place-segment.ensures.start) c.in_ok-n.ensures.ok).start

pub copy_pair-offset-requires-clause-from_space : goal.copy_pair-offset-requires-clause-from_space
copy_pair-offset-requires-clause-from_space c =
    (ready _ _ _ _ _ _ _ _ _ _ _ (read_pair _ _ _ _ _ _ _ c.self.invariant.1 c.self.view_is c.requires.pair c.place-segment.ensures.segment c.place-segment.ensures.start) c.in_ok-n.ensures.ok).space
    ∙ c.in_ok-n.ensures.ok.space_is

pub invariant_of-self-2 : goal.invariant_of-self-2
invariant_of-self-2 c =
    let read = read_pair _ _ _ _ _ _ _ c.self.invariant.1 c.self.view_is c.requires.pair c.place-segment.ensures.segment c.place-segment.ensures.start in
    let done = copied _ _ _ _ _ _ _ _ _ _ _ _ c.self.invariant.1 c.room_for_pair.ensures.settled c.copy_pair-offset.ensures.settled read c.in_ok-n.ensures.ok c.copy_pair-offset.ensures.segments in
    (c.self.invariant.0, c.copy_pair-offset.ensures.settled, used_copy _ _ _ _ _ _ _ _ done c.self.invariant.2, between_copied c.self.inside.pool c.room_for_pair.new.self c.copy_pair-offset.new.self _ _ _ _ _ _ _ c.in_ok-n.ensures.ok c.copy_pair-offset.ensures.segments c.self.invariant.3)

pub returns-clause-copied : goal.returns-clause-copied
returns-clause-copied c =
    let read = read_pair _ _ _ _ _ _ _ c.self.invariant.1 c.self.view_is c.requires.pair c.place-segment.ensures.segment c.place-segment.ensures.start in
    let done = copied _ _ _ _ _ _ _ _ _ _ _ _ c.self.invariant.1 c.room_for_pair.ensures.settled c.copy_pair-offset.ensures.settled read c.in_ok-n.ensures.ok c.copy_pair-offset.ensures.segments in
    let valid : IsAddress c.at.result = search rules in
    told_copy _ _ _ _ _ _ _ _ _ _ _ _ _ _ _ c.self.view_is read done c.copy_pair-offset.ensures.areas c.copy_pair-offset.ensures.lists c.copy_pair-offset.ensures.dirty c.at.ensures.value valid c.at.ensures.parts c.copy_pair-offset.ensures.offset
