use Rattle.std.proofs.Common.{◌≡◌, ℕ, ◌<◌, length, get_or}
use Rattle.seg_chain.proofs.links.own_numbers.Given as goal

abbrev pub invariant-loop-i : goal.invariant-loop-i
invariant-loop-i l = (length l.v.items ≡ l.i) × ((k : ℕ) → k < l.i → get_or l.v.items k 0 ≡ k)
