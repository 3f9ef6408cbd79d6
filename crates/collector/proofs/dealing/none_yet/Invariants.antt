-- So many lists without territories.
use Rattle.std.proofs.Common.{◌≡◌, [], replicate}
use Rattle.collector.proofs.dealing.none_yet.Given as goal

abbrev pub invariant-loop : goal.invariant-loop
invariant-loop l = l.owns.items ≡ replicate l.counter []
