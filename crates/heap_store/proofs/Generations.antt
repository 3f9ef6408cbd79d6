-- The generation of the object that an operand is.
use Rattle.std.proofs.Common.{◌≡◌, ℕ, Bool, true, false, not, IsTrue, IfSome, Option, Some, None, option_map, refl, sym, ◌∙◌, ap, subst}
use Rattle.std.proofs.lemmas.Bool.{false≢true}
use Rattle.gc_words.specs.declared.value.Value.{Value}
use Rattle.gc_words.specs.declared.value.Value.TheVariants as word
use Rattle.trace_types.specs.declared.operand.Operand.{Operand}
use Rattle.trace_types.specs.Values.{object, Object, object_of_value}
use Rattle.trace_types.specs.States as states
use Rattle.trace_types.specs.States.{State}
use Rattle.trace_types.specs.WellFormed.{operand_fits}
use Rattle.segment.specs.Segments.{Start}
use Rattle.heap_store.specs.Starts.{is_cell, is_object, birth_of, read, IsThere}
use Rattle.heap_store.specs.HeapView.{HeapView, starts_of}
use Rattle.heap_store.specs.Stands.{Stands}
use Rattle.heap_store.specs.Calls.{operand_value}
use Rattle.heap_store.proofs.Operands.{operand_there, operand_read}

pub generation_found : (h : HeapView) (s : State) → Stands h s → (value : Operand) (v : Value) (a g : ℕ) (o : Option Start) → v ≡ operand_value h.registers value → v ≡ word.Object a → IsTrue (operand_fits value)
    → o ≡ starts_of h a → IfSome o (λ x. g ≡ x.generation) → Some g ≡ option_map (λ (p : Object). p.generation) (object_of_value s.graph (states.operand_value s value))
generation_found h s stands value v a g o is place fits here same =
    by_start o here same ∙ sym (ap (λ w. option_map (λ (p : Object). p.generation) (object_of_value s.graph w)) (operand_read h s stands value ∙ ap (read (starts_of h)) (sym is ∙ place)))
  where
    there : IsTrue (is_object (starts_of h a))
    there = subst (IsThere (starts_of h)) (sym is ∙ place) (operand_there h s stands value fits)

    not_true : (b : Bool) → not b ≡ true → b ≡ false
    not_true true n = absurd (false≢true n)
    not_true false n = refl

    by_start : (p : Option Start) → p ≡ starts_of h a → IfSome p (λ x. g ≡ x.generation) → Some g ≡ option_map (λ (q : Object). q.generation) (object_of_value s.graph (object (birth_of (starts_of h a))))
    by_start None e k = absurd (false≢true (ap is_object e ∙ there))
    by_start (Some x) e k =
        let found = stands.graph.objects a x (sym e) (not_true (is_cell x.kind) (ap is_object e ∙ there)) in
        ap Some k ∙ sym (ap (λ q. option_map (λ (p : Object). p.generation) (object_of_value s.graph (object (birth_of q)))) (sym e) ∙ ap (option_map (λ (p : Object). p.generation)) found.found)
