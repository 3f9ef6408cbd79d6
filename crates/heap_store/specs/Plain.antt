-- What the calls can make so far.
use Rattle.std.specs.Prelude.{◌≡◌, ℕ, Bool, true, false, [], replicate, Some}
use Rattle.trace_types.specs.declared.kind.Kind.{Kind}
use Rattle.trace_types.specs.declared.kind.Kind.TheVariants.{Pair, Boxed, Vector, Bytes}
use Rattle.segment.specs.Segments.{Start}
use Rattle.heap_store.specs.declared.notes.Noted.TheVariants.{Empty}
use Rattle.heap_store.specs.HeapView.{HeapView, starts_of}
use Rattle.heap_store.specs.Registries.{level_count}

-- pairs, boxes, vectors and byte objects
abbrev pub is_plain : Kind → Bool
is_plain Pair = true
is_plain Boxed = true
is_plain Vector = true
is_plain Bytes = true
is_plain _ = false

-- Each start is of such a kind, and nothing is locked, noted or registered. The calls that make, lock, note
-- or register more are not built yet.
pub record IsPlain (h : HeapView) : Type 0 where
  pub kinds : (a : ℕ) (x : Start) → starts_of h a ≡ Some x → is_plain x.kind ≡ true
  pub locks : h.locks ≡ []
  pub notes : h.notes ≡ replicate 256 Empty
  pub registry : h.registry ≡ replicate level_count []
