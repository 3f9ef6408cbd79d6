-- A heap that has only what the calls can make so far.
use Rattle.std.proofs.Common.{◌≡◌, ◌⊎◌, ℕ, true, false, Some, refl, sym, ◌∙◌, ap, inl, inr}
use Rattle.std.proofs.lemmas.Bool.{false≢true}
use Rattle.trace_types.specs.declared.kind.Kind.{Kind}
use Rattle.trace_types.specs.declared.kind.Kind.TheVariants as kind
use Rattle.trace_types.specs.Values.{has_bytes, is_guardian}
use Rattle.segment.specs.Segments.{Start}
use Rattle.heap_store.specs.Starts.{is_cell, has_values, IsChanged}
use Rattle.heap_store.specs.HeapView.{HeapView, starts_in, starts_of}
use Rattle.heap_store.specs.Plain.{is_plain, IsPlain}
use Rattle.heap_store.proofs.Changed.{now}

-- ---- kinds

-- what is no queue cell, no guardian, and has bytes or values
pub record IsPlainKind (k : Kind) : Type 0 where
  pub no_cell : is_cell k ≡ false
  pub no_guardian : is_guardian k ≡ false
  pub fields : (has_bytes k ≡ true) ⊎ (has_values k ≡ true)

pub plain_kind : (k : Kind) → is_plain k ≡ true → IsPlainKind k
plain_kind kind.Pair e = record { no_cell = refl; no_guardian = refl; fields = inr refl }
plain_kind kind.Boxed e = record { no_cell = refl; no_guardian = refl; fields = inr refl }
plain_kind kind.Vector e = record { no_cell = refl; no_guardian = refl; fields = inr refl }
plain_kind kind.Bytes e = record { no_cell = refl; no_guardian = refl; fields = inl refl }
plain_kind kind.Weak e = absurd (false≢true e)
plain_kind kind.Eph e = absurd (false≢true e)
plain_kind kind.ImmVector e = absurd (false≢true e)
plain_kind kind.ImmBytes e = absurd (false≢true e)
plain_kind kind.Guard e = absurd (false≢true e)
plain_kind kind.OrderedGuard e = absurd (false≢true e)
plain_kind kind.Cell e = absurd (false≢true e)

-- an object of a plain kind has bytes or values
pub plain_values : (k : Kind) → is_plain k ≡ true → (has_bytes k ≡ true) ⊎ (has_values k ≡ true)
plain_values k e = (plain_kind k e).fields

-- no start is a queue cell
pub plain_no_cell : (h : HeapView) → IsPlain h → (a : ℕ) (x : Start) → starts_of h a ≡ Some x → is_cell x.kind ≡ false
plain_no_cell h plain a x here = (plain_kind x.kind (plain.kinds a x here)).no_cell

-- no start is a guardian
pub plain_no_guardian : (h : HeapView) → IsPlain h → (a : ℕ) (x : Start) → starts_of h a ≡ Some x → is_guardian x.kind ≡ false
plain_no_guardian h plain a x here = (plain_kind x.kind (plain.kinds a x here)).no_guardian

-- ---- changes

-- after a change of anything but objects, locks, notes and registrations
pub plain_kept : (h new : HeapView) → new.territories ≡ h.territories → new.locks ≡ h.locks → new.notes ≡ h.notes
    → new.registry ≡ h.registry → IsPlain h → IsPlain new
plain_kept h new objects locks notes registry plain = record {
  kinds = λ a x here. plain.kinds a x (ap (λ ts. starts_in ts a) (sym objects) ∙ here);
  locks = locks ∙ plain.locks;
  notes = notes ∙ plain.notes;
  registry = registry ∙ plain.registry;
}

-- after one start was added or changed, which is of a plain kind
pub plain_changed : (h new : HeapView) (a : ℕ) (x : Start) → IsChanged (starts_of h) (starts_of new) a x
    → is_plain x.kind ≡ true → new.locks ≡ h.locks → new.notes ≡ h.notes → new.registry ≡ h.registry
    → IsPlain h → IsPlain new
plain_changed h new a x changed is locks notes registry plain = record {
  kinds = λ b y here. elim (now (starts_of h) (starts_of new) a x changed b y here) [
    | inl p ↦ ap (λ (z : Start). is_plain z.kind) (sym p.1) ∙ is
    | inr p ↦ plain.kinds b y p.1
  ];
  locks = locks ∙ plain.locks;
  notes = notes ∙ plain.notes;
  registry = registry ∙ plain.registry;
}
