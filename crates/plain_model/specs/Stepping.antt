-- What a command leaves, by the answer of the definitions.
use Rattle.std.specs.Prelude.{◌≡◌, ℕ, ◌<◌, All, Result, Ok, Err}
use Rattle.std.specs.Global.{Vec}
use Rattle.trace_types.specs.States.{State, Answer, silently, with_register, with_field}
use Rattle.trace_types.specs.Faults.{◌>>=◌}
use Rattle.trace_types.specs.Steps.{object_of}
use Rattle.trace_types.specs.Values.{Value, object}
use Rattle.plain_model.specs.declared.stop.Stop.{Stop}
use Rattle.plain_model.specs.declared.stop.Stop.TheVariants.{Fault as IsFault, NoMemory}

-- A refused command has the fault of the answer and leaves the state as it was. Where memory ran out, nothing
-- is said.
abbrev pub Refuses : Answer → Stop → State → State → Type 0
Refuses answer (IsFault f) old new = (answer ≡ Err f) × (new ≡ old)
Refuses answer NoMemory old new = Unit {0}

-- A command leaves the state of the answer, and gives its text.
abbrev pub Answers : Answer → Result (Vec ℕ) Stop → State → State → Type 0
Answers answer (Ok text) old new = answer ≡ Ok (new, text.items)
Answers answer (Err stop) old new = Refuses answer stop old new

-- no count of the state has come to the number
pub record CountsBelow (n : ℕ) (s : State) : Type 0 where
  pub collects : s.collects < n
  pub locks : All (λ entry. entry.1 < n) s.locks

-- the entry's value changes, and register d gets the entry
abbrev pub entry_changed : State → ℕ → Value → Value → Answer
entry_changed s d entry v =
    object_of s entry >>= λ e. silently (with_register (with_field s e.0 e.1 1 v) d (object e.0))
