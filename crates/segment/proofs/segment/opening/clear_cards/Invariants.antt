use Rattle.std.proofs.Common.{◌≡◌, ℕ, ◌<◌, length, get_or}
use Rattle.segment.proofs.segment.opening.clear_cards.Given as goal

abbrev pub invariant-loop-card : goal.invariant-loop-card
invariant-loop-card l = record { long : length l.cards ≡ l.count; clean : (k : ℕ) → k < l.card → get_or l.cards k 0 ≡ 255 }
