use Rattle.std.proofs.Common.{length}
use Rattle.plain_model.proofs.Running.{Halfway}
use Rattle.plain_model.proofs.runner.run.Given as goal

abbrev pub invariant-loop-rest : goal.invariant-loop-rest
invariant-loop-rest l = Halfway l.limits l.fn.bytes l.state l.text.items l.number l.rest

abbrev pub decreases-loop-rest : goal.decreases-loop-rest
decreases-loop-rest l = length l.rest
