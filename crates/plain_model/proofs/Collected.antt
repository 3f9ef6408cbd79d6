-- The state after a collection.
use Rattle.std.proofs.Common.{◌≡◌, ℕ, List, map, length, nat_cmp, IsTrue, refl, ap, sym, ◌∙◌}
use Rattle.std.proofs.lemmas.List.{length-map}
use Rattle.std.specs.FinMap.{is_sorted}
use Rattle.trace_types.specs.Values.{Graph}
use Rattle.trace_types.specs.States.{State, Registration}
use Rattle.trace_types.specs.States as states
use Rattle.trace_types.specs.Collections.{Arguments, graph_left, note_left, registrations_left, collect}
use Rattle.trace_types.proofs.Graphs.{graph_left_sorted}
use Rattle.trace_types.proofs.Collecting.{is_true}
use Rattle.plain_model.specs.Plain.{note_meaning}
use Rattle.plain_model.specs.declared.note.Note.{Note}
use Rattle.plain_model.specs.declared.state.State.TheInside.{Inside}
use Rattle.plain_model.specs.contracts.state.State.{the_view}

pub collected : (inside : Inside) (s : State) (a : Arguments) (cg : ℕ) (graph : Graph) (notes : List states.Note) (registrations : List Registration)
    → the_view inside ≡ s → cg ≡ a.cg → graph ≡ graph_left s a → notes ≡ map (note_left s cg) s.notes
    → registrations ≡ registrations_left s cg
    → record (the_view inside) { graph = graph; notes = notes; registrations = registrations } ≡ collect s a
unfolding collect
collected inside s a cg graph notes registrations view same g n r =
    ap (λ (t : State). record t { graph = graph; notes = notes; registrations = registrations }) view ∙ rw (g, n, r, same) refl

-- as many notes as before
pub notes_counted : (before after : List Note) (s : State) (cg : ℕ) → map note_meaning before ≡ s.notes
    → map note_meaning after ≡ map (note_left s cg) s.notes → length after ≡ length before
notes_counted before after s cg are is =
    sym (length-map after note_meaning) ∙ ap length is ∙ length-map s.notes (note_left s cg) ∙ ap length (sym are)
    ∙ length-map before note_meaning

-- births are in ascending order
pub left_sorted : (graph : Graph) (s : State) (a : Arguments) → graph ≡ graph_left s a → IsTrue (is_sorted nat_cmp s.graph) → IsTrue (is_sorted nat_cmp graph)
left_sorted graph s a is sorted = rw is (is_true (is_sorted nat_cmp (graph_left s a)) (graph_left_sorted s a (rw sorted tt)))
