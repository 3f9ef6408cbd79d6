use Rattle.std.proofs.Common.{◌≡◌, take, map}
use Rattle.trace_types.specs.Collections.{note_left}
use Rattle.plain_model.specs.Plain.{note_meaning}
use Rattle.plain_model.proofs.state.State.notes_left.Given as goal

abbrev pub invariant-loop-note : goal.invariant-loop-note
invariant-loop-note l =
    map note_meaning l.left.items ≡ map (note_left l.self l.sets.cg) (map note_meaning (take l.note-index l.note-items))
