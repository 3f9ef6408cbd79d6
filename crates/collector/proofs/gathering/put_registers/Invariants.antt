-- The registers so far hold what they are given, and the others hold what they held.
use Rattle.std.proofs.Common.{◌≡◌, ◌≢◌, ℕ, ◌<◌, Some}
use Rattle.std.specs.List.{slice_get}
use Rattle.sweep_share.specs.Registers.{item_at}
use Rattle.collector.proofs.gathering.put_registers.Given as goal

abbrev pub invariant-loop-register : goal.invariant-loop-register
invariant-loop-register l = record {
  put : (i : ℕ) → i < l.register-index → slice_get l.registers (item_at l.own i).0 ≡ Some (item_at l.own i).1;
  others : (r : ℕ) → ((i : ℕ) → i < l.register-index → (item_at l.own i).0 ≢ r)
      → slice_get l.registers r ≡ slice_get l.initial.registers r;
}
