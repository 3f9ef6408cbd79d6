use Rattle.std.proofs.Common.{◌≡◌, eqb, drop}
use Rattle.std.specs.Map.{lookup}
use Rattle.weak_eph.proofs.memory.MemFieldsWeakFields.kept_at.Given as goal

abbrev pub invariant-loop-pair : goal.invariant-loop-pair
invariant-loop-pair l = lookup (eqb l.key) l.self.kept.items ≡ lookup (eqb l.key) (drop l.pair-index l.self.kept.items)
