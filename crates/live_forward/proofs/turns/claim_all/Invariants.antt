use Rattle.live_forward.proofs.Claiming.{Claimed}
use Rattle.live_forward.proofs.turns.claim_all.Given as goal

abbrev pub invariant-loop : goal.invariant-loop
invariant-loop l = Claimed l.table l.seats.items l.seat l.counter
