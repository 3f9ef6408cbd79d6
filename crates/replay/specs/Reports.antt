-- What the report of an ending leaves.
use Rattle.std.specs.Prelude.{◌≡◌, ◌⊎◌, ℕ, ◌<◌, List, [], length, take, Option, Some, None}
use Rattle.std.specs.Io.KnownBytes.{Appends}
use Rattle.gc_io.specs.Outside.{Rose}
use Rattle.replay.specs.Texts.{refusal, read_message, write_message, memory_message}
use Rattle.replay.specs.Rows.{Wrote}
use Rattle.heap_store.specs.HeapView.{HeapView}
use Rattle.replay.specs.declared.lines.Ending.{Ending}
use Rattle.replay.specs.declared.lines.Ending.TheVariants.{All, At, ReadFault, WriteFault, NoMemory}
use Rattle.replay.specs.declared.report.Status.{Status}
use Rattle.replay.specs.declared.report.Status.TheVariants.{Done, Refused, Usage, ReadFault as IsReadFault, WriteFault as IsWriteFault, NoMemory as IsNoMemory}
use Rattle.replay.specs.declared.report.Outcome.{Outcome}

-- the status and the heap, with its message on `err`
pub record Told (due : Status) (held : Option HeapView) (message : List ℕ) (outcome : Outcome) (err : Wrote) : Type 0 where
  pub status : outcome.status ≡ due
  pub heap : outcome.heap ≡ held
  pub text : Appends err.before err.after message

-- The message could not be written.
pub record Untold (message : List ℕ) (outcome : Outcome) (err : Wrote) : Type 0 where
  pub status : outcome.status ≡ IsWriteFault
  pub heap : outcome.heap ≡ None
  pub rose : Rose err.faults err.faults_after
  pub count : ℕ
  pub some_left : count < length message
  pub text : Appends err.before err.after (take count message)

abbrev pub Reports : Ending → Outcome → Wrote → Type 0
Reports (All heap) outcome err = Told Done (Some heap) [] outcome err
Reports (At n f heap) outcome err = (Told Refused (Some heap) (refusal n f) outcome err ⊎ Untold (refusal n f) outcome err)
    ⊎ (Told IsNoMemory None memory_message outcome err ⊎ Untold memory_message outcome err)
Reports ReadFault outcome err = Told IsReadFault None read_message outcome err ⊎ Untold read_message outcome err
Reports WriteFault outcome err = Told IsWriteFault None write_message outcome err ⊎ Untold write_message outcome err
Reports NoMemory outcome err = Told IsNoMemory None memory_message outcome err ⊎ Untold memory_message outcome err

-- the exit status
abbrev pub number_of : Status → ℕ
number_of Done = 0
number_of Refused = 1
number_of Usage = 2
number_of IsReadFault = 3
number_of IsWriteFault = 4
number_of IsNoMemory = 5
