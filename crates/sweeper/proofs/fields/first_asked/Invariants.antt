use Rattle.std.proofs.Common.{◌≡◌, ℕ, ◌<◌, ◌≤◌, None, slice_index}
use Rattle.directory.specs.Nears.{IsNear}
use Rattle.sweeper.specs.Sweepers.{asked_by}
use Rattle.sweeper.proofs.fields.first_asked.Given as goal

abbrev pub invariant-loop-index : goal.invariant-loop-index
invariant-loop-index l = record {
  none : (i : ℕ) → l.from ≤ i → i < l.index → asked_by l.directory (slice_index l.words i) ≡ None;
  near : IsNear l.directory l.near;
}
