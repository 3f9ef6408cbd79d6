-- What the words may set.
use Rattle.std.specs.Prelude.{◌≤◌, ℕ, Option, unwrap_or}

-- from 1 to 7 generations, and at most 1,073,741,823 lines, or where one isn't set 3 and the most
abbrev pub AreInRange : Option ℕ → Option ℕ → Type 0
AreInRange generations max_lines =
    (1 ≤ unwrap_or generations 3) × (unwrap_or generations 3 ≤ 7) × (unwrap_or max_lines 1073741823 ≤ 1073741823)
