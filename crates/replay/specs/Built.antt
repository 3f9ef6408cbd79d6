-- Which commands are built, and the runs of the program.
use Rattle.std.specs.Prelude.{ℕ, Bool, true, false, List, Err, if◌then◌else◌}
use Rattle.trace_types.specs.declared.fault.Fault.TheVariants.{UnknownCommand}
use Rattle.trace_types.specs.declared.command.Command.{Command}
use Rattle.trace_types.specs.declared.command.Command.TheVariants.{Thread, Cons, MakeBox, Vector, Bytes, Get, Set, Mov, Collect, Print, Census, Gen, Version}
use Rattle.trace_types.specs.declared.limits.Limits.{Limits}
use Rattle.trace_types.specs.States.{State, opening, Answer}
use Rattle.trace_types.specs.Steps.{step}
use Rattle.trace_types.specs.Lines.{lines_of}
use Rattle.trace_types.specs.Run.{Turn, Ran, run_from}
use Rattle.trace_types.specs.Runs as runs

-- the commands that the program performs
abbrev pub is_built : Command → Bool
is_built (Thread thread) = true
is_built (Cons d car cdr) = true
is_built (MakeBox d value) = true
is_built (Vector d length value) = true
is_built (Bytes d length byte) = true
is_built (Get d s index) = true
is_built (Set s index value) = true
is_built (Mov d value) = true
is_built (Collect args) = true
is_built (Print value) = true
is_built Census = true
is_built (Gen value) = true
is_built Version = true
is_built _ = false

-- those of them that take no memory
abbrev pub takes_no_memory : Command → Bool
takes_no_memory (Thread thread) = true
takes_no_memory (Get d s index) = true
takes_no_memory (Set s index value) = true
takes_no_memory (Mov d value) = true
takes_no_memory Version = true
takes_no_memory _ = false

-- Each other command has the fault of an unknown one, before its faults by the state.
abbrev pub built_step : State → ℕ → Command → Answer
built_step s n c = if is_built c then step s n c else Err UnknownCommand

-- what a line does
abbrev pub line_turn : Limits → Turn State
line_turn limits = runs.line_turn built_step limits

-- the run over a list of lines, and over the lines of bytes
abbrev pub run_lines : Limits → List (List ℕ) → Ran State
run_lines limits lines = run_from (line_turn limits) (opening limits.generations) 1 lines

abbrev pub run : Limits → List ℕ → Ran State
run limits bytes = run_lines limits (lines_of bytes)
