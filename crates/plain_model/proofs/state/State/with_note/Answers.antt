use Rattle.std.proofs.Common.{refl}
use Rattle.std.proofs.lemmas.List.{map-set}
use Rattle.plain_model.specs.Plain.{note_meaning}
use Rattle.plain_model.specs.declared.note.Note.TheVariants.{SetTo}
use Rattle.plain_model.proofs.state.State.with_note.Goals as goal

pub returns : goal.returns
returns c = rw (← c.self.view_is) (rw (map-set note_meaning c.self.inside.notes.items c.args.k (SetTo c.args.birth)) refl)
