-- Worked rows: a trace, and what its run must come to. The texts were worked out without these definitions.
use Rattle.std.specs.Prelude.{◌≡◌, ℕ, List, map, Option, Some, None}
use Rattle.trace_types.specs.declared.fault.Fault.{Fault}
use Rattle.trace_types.specs.declared.limits.Limits.{Limits}
use Rattle.trace_types.specs.Run.{Ran}
use Rattle.trace_types.specs.States.{State}
use Rattle.trace_types.specs.Steps.{step}
use Rattle.trace_types.specs.Runs.{run}

-- `stop` is the line and the fault at which the run ends, if it does
pub record Row : Type 0 where
  pub limits : Limits
  pub trace : List ℕ
  pub text : List ℕ
  pub stop : Option (ℕ × Fault)

-- the limits of a run without words
abbrev pub usual : Limits
usual = record { sweepers = 1; generations = 3; max_lines = 1073741823 }

-- the trace goes through and prints the text
abbrev pub prints : Limits → List ℕ → List ℕ → Row
prints limits trace text = record { limits = limits; trace = trace; text = text; stop = None }

-- the trace prints the text and is refused at the line
abbrev pub refused : Limits → List ℕ → List ℕ → ℕ → Fault → Row
refused limits trace text line fault = record { limits = limits; trace = trace; text = text; stop = Some (line, fault) }

-- the text and the end of a run
abbrev pub outcome : Ran State → List ℕ × Option (ℕ × Fault)
outcome ran = (ran.text, ran.stop)

-- each run comes to what its row says
abbrev pub Hold : List Row → Type 0
Hold rows = map (λ row. outcome (run step row.limits row.trace)) rows ≡ map (λ row. (row.text, row.stop)) rows
