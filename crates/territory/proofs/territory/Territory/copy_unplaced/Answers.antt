use Rattle.std.proofs.Common.{refl}
use Rattle.territory.proofs.Ending.{copy_told, word_fits, reached_told}
use Rattle.territory.proofs.territory.Territory.copy_unplaced.Goals as goal

pub put-requires : goal.put-requires
put-requires c =
    let e = c.in_ok-place.ensures in
    word_fits c.args.self.now c.copy.new.self c.args.at c.generation-generation.result c.in_ok-place.place c.args.copy c.args.index _
    (copy_told _ _ _ _ _ _ c.requires.refers.pair.1 e.address e.free e.starts e.segments e.sound e.thread e.dirty e.targets)
    c.requires.copy c.generation-generation.ensures.shaped c.requires.index

pub returns-clause-reached : goal.returns-clause-reached
returns-clause-reached c =
    let e = c.in_ok-place.ensures in
    reached_told c.args.self.now c.copy.new.self c.put.new.self c.args.places.now _ c.args.log.now.own.items _ c.args.log.now.waiting.items c.args.log.now.waiting.items
    c.args.object c.args.copy c.args.index c.args.at c.in_ok-place.place c.generation-generation.result c.encode-word.result c.offset.result
    c.requires.copy c.requires.refers c.generation-generation.ensures.value
    (copy_told _ _ _ _ _ _ c.requires.refers.pair.1 e.address e.free e.starts e.segments e.sound e.thread e.dirty e.targets)
    c.encode-word.ensures.round_trip (record { after = c.put.ensures.after; sound = c.put.ensures.sound }) c.offset.ensures.value refl c.and-log.ensures
