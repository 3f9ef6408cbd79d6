-- A run of a trace: what each line does, in the order of refusals, and what a run over its lines comes to.
use Rattle.std.specs.Prelude.{ℕ, nat_lt, List, length, Option, Some, None, Result, Ok, Err, if◌then◌else◌}
use Rattle.trace_types.specs.declared.command.Command.{Command}
use Rattle.trace_types.specs.declared.fault.Fault.{Fault}
use Rattle.trace_types.specs.declared.fault.Fault.TheVariants.{TooLong, TooManyLines}
use Rattle.trace_types.specs.declared.limits.Limits.{Limits}
use Rattle.trace_types.specs.States.{State, opening, Answer, silently}
use Rattle.trace_types.specs.Reading.{read}
use Rattle.trace_types.specs.Lines.{lines_of}
use Rattle.trace_types.specs.Run.{Turn, Ran, run_from}

-- what a line does that says this
abbrev pub performed : (State → ℕ → Command → Answer) → State → ℕ → Result (Option Command) Fault → Answer
performed step s n (Err fault) = Err fault
performed step s n (Ok None) = silently s
performed step s n (Ok (Some command)) = step s n command

-- What line n does, for a step that says what commands do. The length is tested first, then the number.
abbrev pub line_turn : (State → ℕ → Command → Answer) → Limits → Turn State
line_turn step limits s n line =
    if nat_lt 1024 (length line) then Err TooLong
    else if nat_lt limits.max_lines n then Err TooManyLines
    else performed step s n (read line)

-- the run of a trace from the opening state, over its lines from line 1 on
abbrev pub run : (State → ℕ → Command → Answer) → Limits → List ℕ → Ran State
run step limits bytes = run_from (line_turn step limits) (opening limits.generations) 1 (lines_of bytes)
