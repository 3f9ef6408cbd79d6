-- The theorem of the top call.
use Rattle.std.specs.Prelude.{◌≡◌, ◌⊎◌, ℕ, List, [], Option, Some, None, IsSomeAnd}
use Rattle.std.specs.Io.KnownBytes.{Appends}
use Rattle.gc_io.specs.Outside.{Rose}
use Rattle.trace_types.specs.declared.fault.Fault.{Fault}
use Rattle.trace_types.specs.declared.limits.Limits.{Limits}
use Rattle.heap_store.specs.HeapView.{HeapView}
use Rattle.heap_store.specs.Stands.{Stands}
use Rattle.replay.specs.Built.{run}
use Rattle.replay.specs.Engine.{IsFront}
use Rattle.replay.specs.Texts.{refusal, read_message, write_message, memory_message, usage_message}
use Rattle.replay.specs.Rows.{Read, Wrote, Due, done, refused, read_fault, no_memory, Row, Progress, IsProperFront}
use Rattle.replay.specs.declared.report.Status.{Status}
use Rattle.replay.specs.declared.report.Status.TheVariants.{Done, Refused, Usage, ReadFault, WriteFault, NoMemory}

abbrev pub message : Due → List ℕ
message done = []
message (refused n f) = refusal n f
message read_fault = read_message
message no_memory = memory_message

-- the heap of the run's last state
abbrev pub HasHeap : Limits → List ℕ → Option HeapView → Type 0
HasHeap limits bytes heap = IsSomeAnd heap (λ h. Stands h (run limits bytes).state)

-- A status other than a fault of writing: its row, its message and its heap.
abbrev pub Reported : Due → Limits → List ℕ → Option HeapView → Read → Wrote → Wrote → Type 0
Reported due limits bytes heap source out err = Row due limits bytes source out × Appends err.before err.after (message due)

-- What is on `err` where a write failed, by the counts that rose.
pub record FaultReported (limits : Limits) (bytes : List ℕ) (source : Read) (out err : Wrote) : Type 0 where
  pub rose : Rose out.faults out.faults_after ⊎ Rose err.faults err.faults_after
  pub progress : Progress limits bytes source out
  pub quiet : (Rose err.faults err.faults_after → ⊥) → Appends err.before err.after write_message
  pub both : Rose err.faults err.faults_after → Rose out.faults out.faults_after →
      (text : List ℕ) × Appends err.before err.after text × (IsFront text write_message ⊎ ((due : Due) × IsProperFront text (message due)))
  pub only : Rose err.faults err.faults_after → (Rose out.faults out.faults_after → ⊥) →
      (due : Due) × Row due limits bytes source out × (text : List ℕ) × Appends err.before err.after text × IsProperFront text (message due)

-- The table, where the words are in their form and the source tells its bytes.
abbrev pub Headline : Status → Limits → List ℕ → Option HeapView → Read → Wrote → Wrote → Type 0
Headline Done limits bytes heap source out err = Reported done limits bytes heap source out err × HasHeap limits bytes heap
Headline Refused limits bytes heap source out err = (n : ℕ) × (f : Fault) × Reported (refused n f) limits bytes heap source out err × HasHeap limits bytes heap
Headline Usage limits bytes heap source out err = ⊥
Headline ReadFault limits bytes heap source out err = Reported read_fault limits bytes heap source out err × (heap ≡ None)
Headline NoMemory limits bytes heap source out err = Reported no_memory limits bytes heap source out err × (heap ≡ None)
Headline WriteFault limits bytes heap source out err = FaultReported limits bytes source out err × (heap ≡ None)

-- Where the words are in no form: nothing is read or written to `out`, and a message or a proper front of it is on `err`.
abbrev pub OtherWords : Status → Wrote → Type 0
OtherWords Done err = ⊥
OtherWords Refused err = ⊥
OtherWords Usage err = Appends err.before err.after usage_message
OtherWords ReadFault err = ⊥
OtherWords NoMemory err = Appends err.before err.after memory_message
OtherWords WriteFault err = Rose err.faults err.faults_after
    × ((text : List ℕ) × Appends err.before err.after text × (IsProperFront text usage_message ⊎ IsProperFront text memory_message))

-- A count of faults did not rise.
abbrev pub StaysQuiet : ℕ → ℕ → Type 0
StaysQuiet before now = Rose before now → ⊥

-- the status of a run that went through all its lines, or ended at one with a fault
abbrev pub due_status : Option (ℕ × Fault) → Status
due_status None = Done
due_status (Some stop) = Refused

abbrev pub IsComplete : Status → Option (ℕ × Fault) → Type 0
IsComplete status stop = (status ≡ due_status stop) ⊎ (status ≡ NoMemory)
