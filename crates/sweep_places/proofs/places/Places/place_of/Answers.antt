use Rattle.std.proofs.Common.{sym, ap, ◌∙◌, Some}
use Rattle.sweep_places.proofs.Entries.{place_found}
use Rattle.sweep_places.proofs.places.Places.place_of.Goals as goal

pub returns-in-Object : goal.returns-in-Object
returns-in-Object c =
    place_found _ c.args.self.now c.self.inside.first c.self.inside.table.items c.args.at c.args.word c.index.result.now
    c.self.invariant.0 c.self.view_is c.requires.own c.requires.word_is c.index.ensures c.in-Object.place
    (sym c.decode.ensures.value ∙ (c.in_ok-place.was ∙ ap Some c.in-Object.is))
