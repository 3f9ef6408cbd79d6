-- What the test with threads says of two sweepers.
use Rattle.std.specs.Prelude.{◌≡◌, ℕ, Option, Some, Contains}
use Rattle.live_forward.specs.Forwarding.{IsRanged, Owns, Records}
use Rattle.live_forward.specs.Seats.{Words, Seated}

-- a sweeper of this table may store the one word and load the other
pub record IsReady (words : Words) (seat : Seated) (word wanted : ℕ) : Type 0 where
  pub table_is : seat.table ≡ words.table
  pub own : Owns seat.view word
  pub fresh : ¬ Records seat.view.own word
  pub in_range : IsRanged words.ranges wanted

-- the seat keeps its table, its ranges and its number, and has seen what was learnt
pub record Learns (before after : Seated) (wanted : ℕ) (learnt : Option ℕ) : Type 0 where
  pub table : after.table ≡ before.table
  pub ranges : after.view.ranges ≡ before.view.ranges
  pub number : after.view.number ≡ before.view.number
  pub seen : (x : ℕ) → learnt ≡ Some x → Contains after.view.seen (wanted, x)

-- the other seat stored each place that this one learnt
abbrev pub LearnsFrom : Seated → ℕ → Option ℕ → Type 0
LearnsFrom other wanted learnt = (x : ℕ) → learnt ≡ Some x → Contains other.view.own (wanted, x)
