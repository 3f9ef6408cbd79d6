use Rattle.std.proofs.Common.{◌≡◌, ℕ, ◌<◌, ◌≤◌, get_or}
use Rattle.segment.proofs.segment.scan.last_born.Given as goal

abbrev pub invariant-loop-k : goal.invariant-loop-k
invariant-loop-k l = record { within : l.k ≤ l.to; none : (j : ℕ) → l.k ≤ j → j < l.to → get_or l.births j 0 ≡ 0 }

abbrev pub decreases-loop-k : goal.decreases-loop-k
decreases-loop-k l = l.k
