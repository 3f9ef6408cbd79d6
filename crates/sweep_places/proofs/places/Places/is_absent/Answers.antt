use Rattle.std.proofs.lemmas.Bool.{eq-eqb, eqb-true}
use Rattle.sweep_places.proofs.Entries.{absent_told}
use Rattle.sweep_places.proofs.places.Places.is_absent.Goals as goal

pub returns : goal.returns
returns c =
    let told = absent_told _ c.args.self.now c.self.inside.first c.self.inside.table.items c.args.at c.args.word c.index.result.now
    c.self.invariant.0 c.self.view_is c.requires.own c.requires.word_is c.index.ensures in
    (λ zero. told.0 (eqb-true c.index.result.now 0 zero), λ absent. eq-eqb c.index.result.now 0 (told.1 absent))
