-- What an engine is seen as, and what its calls do.
use Rattle.std.specs.Prelude.{◌≡◌, ℕ, List, ◌++◌, true, false, Result, Ok, Err}
use Rattle.trace_types.specs.declared.command.Command.{Command}
use Rattle.trace_types.specs.declared.limits.Limits.{Limits}
use Rattle.trace_types.specs.States.{State}
use Rattle.heap_store.specs.HeapView.{HeapView}
use Rattle.heap_store.specs.Stands.{Stands}
use Rattle.heap_store.specs.declared.error.HeapError.{HeapError}
use Rattle.heap_store.specs.declared.error.HeapError.TheVariants.{Failed, NoMemory, Fault as IsFault}
use Rattle.replay.specs.Built.{built_step, line_turn}

-- the heap, how many sweepers collect it, and the newest line that was performed
pub record EngineView : Type 0 where
  pub heap : HeapView
  pub sweepers : ℕ
  pub newest : ℕ

-- xs is a front of ys, and one that is not all of it
abbrev pub IsFront : List ℕ → List ℕ → Type 0
IsFront xs ys = (rest : List ℕ) × (ys ≡ xs ++ rest)

-- What a step leaves, on a heap that stood for s, of the heap and of the text: the state and the text of the command; or
-- its fault, with all as before; or a heap that has failed, behind a front of the command's text.
abbrev pub Steps : State → ℕ → Command → Result (Unit {0}) HeapError → List ℕ → List ℕ → HeapView → Type 0
Steps s n c (Ok _) old new heap = (p : State × List ℕ) × (built_step s n c ≡ Ok p) × Stands heap p.0 × (new ≡ old ++ p.1)
Steps s n c (Err (IsFault f)) old new heap = (built_step s n c ≡ Err f) × Stands heap s × (new ≡ old)
Steps s n c (Err NoMemory) old new heap =
    (heap.failed ≡ true) × ((p : State × List ℕ) × (front : List ℕ) × (built_step s n c ≡ Ok p) × IsFront front p.1 × (new ≡ old ++ front))
Steps s n c (Err Failed) old new heap = ⊥

-- What a command that prints a text and changes nothing leaves: the text behind what was there, or nothing of it and a
-- heap that has failed. `Failed` comes exactly where the heap had failed.
abbrev pub Prints : (State → List ℕ) → Result (Unit {0}) HeapError → HeapView → HeapView → List ℕ → List ℕ → Type 0
Prints shown (Ok _) before after old new = (before.failed ≡ false) × (after ≡ before) × ((s : State) → Stands before s → new ≡ old ++ shown s)
Prints shown (Err NoMemory) before after old new = (before.failed ≡ false) × (after ≡ record before { failed = true }) × (new ≡ old)
Prints shown (Err Failed) before after old new = (before.failed ≡ true) × (after ≡ record before { failed = true }) × (new ≡ old)
Prints shown (Err (IsFault f)) before after old new = ⊥

-- what a line leaves of the heap that stood for s, and the text that it gives
abbrev pub Turns : Limits → State → ℕ → List ℕ → Result (Unit {0}) HeapError → List ℕ → HeapView → Type 0
Turns limits s n line (Ok _) text heap = (p : State × List ℕ) × (line_turn limits s n line ≡ Ok p) × Stands heap p.0 × (text ≡ p.1)
Turns limits s n line (Err (IsFault f)) text heap = (line_turn limits s n line ≡ Err f) × Stands heap s
Turns limits s n line (Err NoMemory) text heap = Unit {0}
Turns limits s n line (Err Failed) text heap = ⊥
