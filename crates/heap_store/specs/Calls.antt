-- What the calls of a heap do.
use Rattle.std.specs.Prelude.{◌≡◌, ℕ, true, List, slice_index_or, Result, Ok, Err}
use Rattle.gc_words.specs.declared.value.Value.{Value}
use Rattle.gc_words.specs.declared.value.Value.TheVariants as word
use Rattle.trace_types.specs.declared.operand.Operand.{Operand}
use Rattle.trace_types.specs.declared.operand.Operand.TheVariants.{Reg, Fixnum, Nil, True, False}
use Rattle.trace_types.specs.States.{State, Answer, with_new}
use Rattle.heap_store.specs.declared.error.HeapError.{HeapError}
use Rattle.heap_store.specs.declared.error.HeapError.TheVariants.{NoMemory, Fault as IsFault}
use Rattle.segment.specs.Segments.{Start}
use Rattle.heap_store.specs.Starts.{fields_of}
use Rattle.heap_store.specs.HeapView.{HeapView, starts_of}
use Rattle.heap_store.specs.Changes.{HaveSoundCards}
use Rattle.heap_store.specs.Stands.{Stands}
use Rattle.heap_store.specs.Plain.{IsPlain}

-- What a call on a heap that stood for s leaves, by the answer of the command's step: the new state, or the
-- fault and the state of before, or a heap that has failed for want of memory.
abbrev pub Obeys : State → Answer → Result (Unit {0}) HeapError → HeapView → Type 0
Obeys s (Ok p) (Ok _) heap = Stands heap p.0
Obeys s (Err f) (Err (IsFault g)) heap = (f ≡ g) × Stands heap s
Obeys s (Ok p) (Err NoMemory) heap = heap.failed ≡ true
Obeys s _ _ heap = ⊥

-- the call obeyed the step of whatever state the heap stood for
abbrev pub Performs : HeapView → (State → Answer) → Result (Unit {0}) HeapError → HeapView → Type 0
Performs old answer result new = (s : State) → Stands old s → Obeys s (answer s) result new

-- the same of a call that is told no line, with any line
abbrev pub PerformsOnAnyLine : HeapView → (State → ℕ → Answer) → Result (Unit {0}) HeapError → HeapView
    → Type 0
PerformsOnAnyLine old answer result new =
    (s : State) (line : ℕ) → Stands old s → Obeys s (answer s line) result new

-- A call that is refused leaves the heap as it was, but for one that ran out of memory: then it has failed.
abbrev pub IsLeft : Result (Unit {0}) HeapError → HeapView → HeapView → Type 0
IsLeft (Ok _) old new = Unit {0}
IsLeft (Err NoMemory) old new = new.failed ≡ true
IsLeft (Err _) old new = new ≡ old

-- it stands for some state, its cards are sound, and it has only what the calls can make so far
pub record IsValid (h : HeapView) : Type 0 where
  pub state : State
  pub stands : Stands h state
  pub cards : HaveSoundCards h.territories
  pub plain : IsPlain h

-- what an operand is, with the place of an object
abbrev pub operand_value : List Value → Operand → Value
operand_value registers (Reg r) = slice_index_or registers r word.Nil
operand_value registers (Fixnum n) = word.Fixnum n
operand_value registers Nil = word.Nil
operand_value registers True = word.True
operand_value registers False = word.False

-- the new heap stands for the state with what starts there as a new object, in register d
abbrev pub HasMade : HeapView → HeapView → Start → ℕ → ℕ → Type 0
HasMade old new x line d =
    (s : State) → Stands old s → Stands new (with_new s line d x.kind (fields_of (starts_of old) x))
