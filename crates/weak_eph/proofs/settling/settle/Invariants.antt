use Rattle.std.proofs.Common.{◌≡◌}
use Rattle.weak_eph.proofs.Halfway.{halfway}
use Rattle.weak_eph.proofs.settling.settle.Given as goal

abbrev pub invariant-loop-n : goal.invariant-loop-n
invariant-loop-n g l = (g.F.WeakFields.slots l.fields ≡ halfway (g.F.WeakFields.kept l.initial.fields) (g.F.WeakFields.slots l.initial.fields) l.n) × (g.F.WeakFields.kept l.fields ≡ g.F.WeakFields.kept l.initial.fields)
