-- What a line that is short and within the limit does.
use Rattle.std.proofs.Common.{◌≡◌, ℕ, ◌≤◌, List, [], ◌++◌, length, Some, Result, Ok, Err, refl, ◌∙◌, ap}
use Rattle.std.proofs.lemmas.Bool.{le-ltb}
use Rattle.trace_types.specs.declared.command.Command.{Command}
use Rattle.trace_types.specs.declared.limits.Limits.{Limits}
use Rattle.trace_types.specs.States.{State}
use Rattle.trace_types.specs.Reading.{read}
use Rattle.trace_types.specs.Runs.{performed}
use Rattle.heap_store.specs.HeapView.{HeapView}
use Rattle.heap_store.specs.declared.error.HeapError.{HeapError}
use Rattle.heap_store.specs.declared.error.HeapError.TheVariants.{Failed, NoMemory, Fault as IsFault}
use Rattle.replay.specs.Built.{built_step, line_turn}
use Rattle.replay.specs.Engine.{Steps, Turns}

-- what its reading says
pub turn_performed : (limits : Limits) (s : State) (n : ℕ) (l : List ℕ) → length l ≤ 1024 → n ≤ limits.max_lines →
    line_turn limits s n l ≡ performed built_step s n (read l)
turn_performed limits s n l short within = rw (le-ltb 1024 (length l) short, le-ltb limits.max_lines n within) refl

-- what its command does
pub turns_step : (limits : Limits) (s : State) (n : ℕ) (l : List ℕ) (c : Command) (r : Result (Unit {0}) HeapError) (old new : List ℕ) (heap : HeapView) →
    length l ≤ 1024 → n ≤ limits.max_lines → read l ≡ Ok (Some c) → old ≡ [] → Steps s n c r old new heap → Turns limits s n l r new heap
turns_step limits s n l c (Ok u) old new heap short within is none steps =
    let turn : line_turn limits s n l ≡ built_step s n c = turn_performed limits s n l short within ∙ ap (performed built_step s n) is in
    (steps.0, turn ∙ steps.1, steps.2, steps.3 ∙ ap (λ (t : List ℕ). t ++ steps.0.1) none)
turns_step limits s n l c (Err (IsFault f)) old new heap short within is none steps =
    let turn : line_turn limits s n l ≡ built_step s n c = turn_performed limits s n l short within ∙ ap (performed built_step s n) is in
    (turn ∙ steps.0, steps.1)
turns_step limits s n l c (Err NoMemory) old new heap short within is none steps = tt
turns_step limits s n l c (Err Failed) old new heap short within is none steps = steps
