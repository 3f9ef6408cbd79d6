-- The words of the command line.
use Rattle.std.specs.Prelude.{◌≤◌, List, [], ◌∷◌, Option, Some, None}
use Rattle.trace_types.specs.declared.limits.Limits.{Limits}
use Rattle.replay.specs.declared.words.Words.{Words}

-- 1 to 64 sweepers, 1 to 7 generations beside generation 0, and 1 to 1,073,741,823 lines
abbrev pub IsInRange : Limits → Type 0
IsInRange limits =
    (1 ≤ limits.sweepers) × (limits.sweepers ≤ 64) × (1 ≤ limits.generations) × (limits.generations ≤ 7)
    × (1 ≤ limits.max_lines) × (limits.max_lines ≤ 1073741823)

abbrev pub default_limits : Limits
default_limits = record { sweepers = 1; generations = 3; max_lines = 1073741823 }

-- What the words ask for, where they are in form: so far there are none.
abbrev pub words_of : {W : Type 0} → List W → Option Words
words_of [] = Some (record { limits = default_limits; workload = None })
words_of (w ∷ ws) = None
