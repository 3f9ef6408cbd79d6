use Rattle.territory.proofs.Unheld.{between_made}
use Rattle.std.proofs.Common.{ap, sym, ◌∙◌}
use Rattle.std.specs.FinMap as map
use Rattle.territory.specs.Territories.{TerritoryView, fresh_start}
use Rattle.territory.proofs.Allocated.{size_seen, fits_seen, refused, made, address_is, was_nothing, one_start, placed, placed_for, size_for_is, sound_made, used_made, on_err}
use Rattle.territory.proofs.territory.Territory.allocate.Goals as goal

pub room_for-requires-clause-some : goal.room_for-requires-clause-some
room_for-requires-clause-some c = (size_seen _ _ _ _ _ c.requires.length_in c.of-space.ensures c.first_word-first.ensures c.size-words.ensures).0

pub room_for-requires-clause-size_in : goal.room_for-requires-clause-size_in
room_for-requires-clause-size_in c = (size_seen _ _ _ _ _ c.requires.length_in c.of-space.ensures c.first_word-first.ensures c.size-words.ensures).1

pub grow-offset-requires-clause-has_length : goal.grow-offset-requires-clause-has_length
grow-offset-requires-clause-has_length c = fits_seen _ _ _ _ c.requires.length_in (c.in_ok-n.ensures.ok.space_is ∙ c.of-space.ensures) c.first_word-first.ensures

pub returns-in_err-n-clause-refused : goal.returns-in_err-n-clause-refused
returns-in_err-n-clause-refused c = on_err c.from_residual.result (refused _ _ _ _ _ c.self.view_is c.self.invariant.1 c.room_for.ensures.settled c.in_err-n.ensures.err)

pub returns-clause-free : goal.returns-clause-free
returns-clause-free c =
    let d = made _ _ _ _ _ _ _ _ _ _ _ c.self.invariant.1 c.room_for.ensures.settled c.grow-offset.ensures.settled c.in_ok-n.ensures.ok c.grow-offset.ensures.segments c.size-words.ensures c.requires.born c.of-space.ensures c.first_word-first.ensures in
    ap (λ (v : TerritoryView). map.get v.starts c.at.result) (sym c.self.view_is) ∙ was_nothing _ _ _ _ _ _ _ _ _ _ _ d (address_is _ _ _ _ _ c.at.ensures.value c.grow-offset.ensures.offset)

pub returns-clause-starts : goal.returns-clause-starts
returns-clause-starts c =
    let d = made _ _ _ _ _ _ _ _ _ _ _ c.self.invariant.1 c.room_for.ensures.settled c.grow-offset.ensures.settled c.in_ok-n.ensures.ok c.grow-offset.ensures.segments c.size-words.ensures c.requires.born c.of-space.ensures c.first_word-first.ensures in
    one_start _ _ _ _ _ _ _ _ _ _ _ _ _ d (address_is _ _ _ _ _ c.at.ensures.value c.grow-offset.ensures.offset) c.requires.length_in c.of-space.ensures c.first_word-first.ensures
    ∙ ap (λ (v : TerritoryView). map.insert v.starts c.at.result (fresh_start c.args.kind c.args.length c.args.generation c.args.birth)) c.self.view_is

pub returns-clause-segments : goal.returns-clause-segments
returns-clause-segments c =
    let d = made _ _ _ _ _ _ _ _ _ _ _ c.self.invariant.1 c.room_for.ensures.settled c.grow-offset.ensures.settled c.in_ok-n.ensures.ok c.grow-offset.ensures.segments c.size-words.ensures c.requires.born c.of-space.ensures c.first_word-first.ensures in
    placed_for _ _ _ _ _ _ _ _ _ (placed _ _ _ _ _ _ _ _ _ _ _ _ c.self.view_is d c.grow-offset.ensures.areas c.grow-offset.ensures.lists) c.of-space.ensures
    (size_for_is _ _ _ _ _ c.requires.length_in c.of-space.ensures c.first_word-first.ensures c.size-words.ensures) (sym c.at.ensures.parts.its_segment)

pub returns-clause-sound : goal.returns-clause-sound
returns-clause-sound c =
    let d = made _ _ _ _ _ _ _ _ _ _ _ c.self.invariant.1 c.room_for.ensures.settled c.grow-offset.ensures.settled c.in_ok-n.ensures.ok c.grow-offset.ensures.segments c.size-words.ensures c.requires.born c.of-space.ensures c.first_word-first.ensures in
    λ before after. sound_made _ _ _ _ _ _ _ _ _ _ _ _ _ _ _ before after c.self.view_is d
    (one_start _ _ _ _ _ _ _ _ _ _ _ _ _ d (address_is _ _ _ _ _ c.at.ensures.value c.grow-offset.ensures.offset) c.requires.length_in c.of-space.ensures c.first_word-first.ensures)

pub invariant_of-self-2 : goal.invariant_of-self-2
invariant_of-self-2 c = (c.self.invariant.0, c.grow-offset.ensures.settled, used_made _ _ _ _ _ _ _ _ _ (made _ _ _ _ _ _ _ _ _ _ _ c.self.invariant.1 c.room_for.ensures.settled c.grow-offset.ensures.settled c.in_ok-n.ensures.ok c.grow-offset.ensures.segments c.size-words.ensures c.requires.born c.of-space.ensures c.first_word-first.ensures) c.self.invariant.2, between_made c.self.inside.pool c.room_for.new.self c.grow-offset.new.self _ _ _ _ _ _ _ c.in_ok-n.ensures.ok c.grow-offset.ensures.segments c.self.invariant.3)
