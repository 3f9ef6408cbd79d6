-- How many objects and queue cells a sweeper copies in a collection.
use Rattle.std.specs.Prelude.{ℕ, ◌+◌, ◌%◌, ◌==◌, ◌&&◌, Bool, nat_le, List, length, filter, sum_by}
use Rattle.trace_types.specs.Values.{Object}
use Rattle.trace_types.specs.States.{State}
use Rattle.trace_types.specs.Rules.{has}
use Rattle.trace_types.specs.Kept.{kept}

-- a kept object of a collected generation, of a thread of sweeper k
abbrev pub is_copied_by : List ℕ → ℕ → ℕ → ℕ → ℕ × Object → Bool
is_copied_by set cg n k entry =
    has set entry.0 && nat_le entry.1.generation cg && (entry.1.creator % n == k)

-- Sweeper k of n copies the kept objects of its threads that are collected, and a cell for each entry of
-- their queues.
abbrev pub copied_by : State → ℕ → ℕ → ℕ → ℕ
copied_by s cg n k =
    sum_by (λ entry. 1 + length entry.1.queue) (filter (is_copied_by (kept s cg) cg n k) s.graph)
