-- So many lists without registers.
use Rattle.std.proofs.Common.{◌≡◌, [], replicate}
use Rattle.collector.proofs.dealing.no_registers.Given as goal

abbrev pub invariant-loop : goal.invariant-loop
invariant-loop l = l.owns.items ≡ replicate l.counter []
