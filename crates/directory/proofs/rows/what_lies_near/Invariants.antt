use Rattle.directory.specs.Nears.{IsNear}
use Rattle.directory.proofs.rows.what_lies_near.Given as goal

abbrev pub invariant-loop-thread : goal.invariant-loop-thread
invariant-loop-thread g l = IsNear l.directory l.near
