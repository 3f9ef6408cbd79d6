use Rattle.std.proofs.Common.{◌≤◌, ◌-◌, length}
use Rattle.plain_model.specs.Plain.{place}
use Rattle.plain_model.proofs.entries.place_of.Given as goal

abbrev pub invariant-loop-low : goal.invariant-loop-low
invariant-loop-low g l =
    (l.low ≤ place l.birth l.entries) × (place l.birth l.entries ≤ l.high) × (l.high ≤ length l.entries)

abbrev pub decreases-loop-low : goal.decreases-loop-low
decreases-loop-low g l = l.high - l.low
