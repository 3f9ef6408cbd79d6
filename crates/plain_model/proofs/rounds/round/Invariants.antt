use Rattle.std.proofs.Common.{◌≤◌, length, drop}
use Rattle.plain_model.specs.Plain.{IsRound}
use Rattle.plain_model.proofs.rounds.round.Given as goal

abbrev pub invariant-loop-left : goal.invariant-loop-left
invariant-loop-left l = IsRound l.initial.set l.set l.added (drop l.left l.rules) l.rules × (l.left ≤ length l.rules)

abbrev pub decreases-loop-left : goal.decreases-loop-left
decreases-loop-left l = l.left
