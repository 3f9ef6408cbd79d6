-- The command words of one length.
use Rattle.std.specs.Prelude.{ℕ, List, length, filter, Result, ◌==◌}
use Rattle.trace_types.specs.declared.command.Command.{Command}
use Rattle.trace_types.specs.declared.fault.Fault.{Fault}
use Rattle.trace_types.specs.Reading.{grammar}

-- the rows of the grammar whose words have this length
abbrev pub words_of : ℕ → List (List ℕ × (List (List ℕ) → Result Command Fault))
words_of n = filter (λ row. length row.0 == n) grammar
