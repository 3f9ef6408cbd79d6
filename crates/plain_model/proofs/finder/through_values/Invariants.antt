use Rattle.std.proofs.Common.{◌≡◌, ◌+◌, drop, map, nat_cmp}
use Rattle.std.specs.FinMap.{find}
use Rattle.trace_types.specs.Finder.{indexed}
use Rattle.plain_model.specs.Plain.{meaning}
use Rattle.plain_model.specs.Walks.{through}
use Rattle.plain_model.proofs.finder.through_values.Given as goal

abbrev pub invariant-loop-place : goal.invariant-loop-place
invariant-loop-place l =
    through (λ y. find nat_cmp y l.walks) (indexed (l.first + l.place) (map meaning (drop l.place l.values)))
    ≡ through (λ y. find nat_cmp y l.walks) (indexed l.first (map meaning l.values))
