use Rattle.std.proofs.Common.{◌≡◌, ◌+◌, length, ap, ◌∙◌, arith}
use Rattle.std.proofs.lemmas.List.{length_push}
use Rattle.sweep_places.specs.Places.{PlacesView}
use Rattle.sweep_places.proofs.Entries.{noted_there}
use Rattle.sweep_places.proofs.places.Places.enter.Goals as goal

pub invariant_of-self : goal.invariant_of-self
invariant_of-self c =
    let more : length c.and-self-inside.result.items ≡ length c.self.inside.log.own.items + 1 =
    ap length c.and-self-inside.ensures ∙ length_push c.self.inside.log.own.items (c.args.at, c.args.place) in (
      noted_there _ c.args.self.now c.self.inside.first c.self.inside.table.items c.args.at c.args.word c.encode.result c.args.place
          c.and-self-inside.result.items c.self.invariant.0 c.self.view_is c.requires.own c.requires.word_is c.requires.absent
          c.encode.ensures.round_trip c.and-self-inside.ensures,
      c.requires.count ∙ (omega (arith, more, ap (λ (v : PlacesView). length v.own) c.self.view_is)),
    )
