use Rattle.plain_model.proofs.Concluding.{IsOnTheWay}
use Rattle.plain_model.proofs.rounds.least.Given as goal

abbrev pub invariant-loop-round : goal.invariant-loop-round
invariant-loop-round l = IsOnTheWay l._round l.rules l.set
