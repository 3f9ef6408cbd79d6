-- States and their parts.
use Rattle.std.proofs.Common.{◌≡◌, ℕ, zero, suc, List, [], ◌∷◌, map, replicate, set, get_or, nat_cmp, IsTrue, Some, refl, ap, ◌∙◌}
use Rattle.std.specs.FinMap.{is_sorted}
use Rattle.std.proofs.lemmas.List.{map-set}
use Rattle.trace_types.specs.Values as values
use Rattle.trace_types.specs.States as states
use Rattle.plain_model.specs.Plain.{meaning, queued, note_meaning, HasEntry}
use Rattle.plain_model.specs.declared.value.Value.{Value}
use Rattle.plain_model.specs.declared.value.Value.TheVariants.{Nil}
use Rattle.plain_model.specs.declared.note.Note.TheVariants.{Empty}
use Rattle.plain_model.specs.declared.state.State.TheInside.{Inside}
use Rattle.plain_model.specs.contracts.state.State.{the_view}
use Rattle.plain_model.specs.declared.object.Object.TheInside as object
use Rattle.plain_model.specs.contracts.object.Object.{the_view as object_view}
use Rattle.plain_model.proofs.Placing.{put_again, put_sorted}

-- so many registers that hold `nil`
registers_nil : (n : ℕ) → map meaning (replicate n Nil) ≡ replicate n values.nil
registers_nil zero = refl
registers_nil (suc n) = ap (λ (rest : List values.Value). values.nil ∷ rest) (registers_nil n)

-- so many empty notes
notes_empty : (n : ℕ) → map note_meaning (replicate n Empty) ≡ replicate n states.empty
notes_empty zero = refl
notes_empty (suc n) = ap (λ (rest : List states.Note). states.empty ∷ rest) (notes_empty n)

pub opened : (s : Inside) (registers notes oldest : ℕ) → s.graph.items ≡ [] → s.registers.items ≡ replicate registers Nil
    → s.locks.items ≡ [] → s.notes.items ≡ replicate notes Empty → s.registrations.items ≡ [] → s.thread ≡ 0 → s.collects ≡ 0
    → s.oldest ≡ oldest → s.version ≡ 1
    → the_view s ≡ record (states.opening oldest) { registers = replicate registers values.nil; notes = replicate notes states.empty }
opened s registers notes oldest g r l n e t c o v = rw (g, r, registers_nil registers, l, n, notes_empty notes, e, t, c, o, v) refl

-- another value in a register
pub written : (s : Inside) (n d : ℕ) (v : Value) → n ≡ d
    → record (the_view s) { registers = map meaning (set s.registers.items n v) } ≡ states.with_register (the_view s) d (meaning v)
written s n d v same = rw (same, map-set meaning s.registers.items d v) refl

-- another value in a field
pub field_set : (o : object.Inside) (index : ℕ) (v : Value)
    → record (object_view o) { fields = map meaning (set o.fields.items index v) }
    ≡ record (object_view o) { fields = set (object_view o).fields index (meaning v) }
field_set o index v = rw (map-set meaning o.fields.items index v) refl

-- an entry with a new object leaves the order
pub sorted_again : (g : values.Graph) (i birth : ℕ) (new : values.Object) (old : ℕ × values.Object) → IsTrue (is_sorted nat_cmp g)
    → HasEntry g i birth → old ≡ get_or g i old → IsTrue (is_sorted nat_cmp (set g i (old.0, new)))
sorted_again g i birth new old sorted has is =
    rw (put_again g i birth new old sorted has is) (put_sorted g birth new sorted)

-- another value in a field of an object of the graph
pub field_written : (s : Inside) (i birth index : ℕ) (v : Value) (old : ℕ × values.Object) (new o : values.Object)
    → IsTrue (is_sorted nat_cmp s.graph.items) → HasEntry s.graph.items i birth → old ≡ get_or s.graph.items i old
    → new ≡ record old.1 { fields = set old.1.fields index (meaning v) } → values.object_at (the_view s).graph birth ≡ Some o
    → record (the_view s) { graph = set s.graph.items i (old.0, new) } ≡ states.with_field (the_view s) birth o index (meaning v)
field_written s i birth index v old new o sorted has is changed found =
    let same : old.1 ≡ o = cc (has.2 old) in
    ap (λ (g : values.Graph). record (the_view s) { graph = g }) (put_again s.graph.items i birth new old sorted has is)
    ∙ ap (λ (x : values.Object). states.with_object (the_view s) birth x)
    (changed ∙ ap (λ (x : values.Object). record x { fields = set x.fields index (meaning v) }) same)

-- the values of a queue
pub queue_seen : (queue : List (Value × ℕ)) → map (λ entry. meaning entry.0) queue ≡ map (λ (entry : values.Value × ℕ). entry.0) (map queued queue)
queue_seen [] = refl
queue_seen (entry ∷ queue) = ap (λ (rest : List values.Value). meaning entry.0 ∷ rest) (queue_seen queue)
