-- Workloads: two whole ones, and the first line that is drawn.
use Rattle.std.specs.Prelude.{◌≡◌, List, [], ◌∷◌, codes}
use Rattle.trace_types.specs.Rows.{Row, usual, prints}
use Rattle.trace_types.specs.Workloads.{generated, workload_line}

abbrev pub workload_rows : List Row
workload_rows =
    -- three lines: two pairs and the census
    prints usual (generated 0 3) (codes "g0 2 4\n")
    -- no line
    ∷ prints usual (generated 0 0) []
    ∷ []

-- with number 0 the draws for line 67 are 0, 1, 7257 and 50009
abbrev pub DrawsFirst : Type 0
DrawsFirst = workload_line 67 0 ≡ codes "cons r1 r25 r25"
