use Rattle.std.proofs.Common.{◌≡◌, ℕ, ◌<◌, [], get_or}
use Rattle.cards.proofs.scan.clean_eights.Given as goal

abbrev pub invariant-loop-count : goal.invariant-loop-count
invariant-loop-count l = (i k : ℕ) → i < l.count → k < 8 → get_or (get_or l.eights i []) k 0 ≡ 255
