-- What numbering makes: tables of from-segments whose words follow one another.
use Rattle.std.specs.Prelude.{◌≡◌, ◌≢◌, ℕ, ◌+◌, ◌%◌, ◌<◌, ◌≤◌, List, [], slice_index_or, Option, Some}
use Rattle.territory.specs.Territories.{TerritoryView, segment_at}
use Rattle.directory.specs.declared.table.FromSegment.{FromSegment}
use Rattle.directory.specs.Tables.{entry_in, entry_at, run_of, HasWord, aside, shown, segment_for}

-- The table has the from-segments of a territory and no others. Their words are from `first` on and below
-- `next`, and no two of them have one in common.
pub record IsNumbered (t : TerritoryView) (table : List (Option FromSegment)) (first next : ℕ) : Type 0 where
  pub order : first ≤ next
  pub same : (n : ℕ) → shown (entry_in table n) ≡ aside (segment_at t n)
  pub inside : (n : ℕ) (e : FromSegment) → entry_in table n ≡ Some e
      → (first ≤ e.first_word) × (e.first_word + run_of e.size ≤ next)
  pub apart : (m n : ℕ) (e f : FromSegment) (w : ℕ) → entry_in table m ≡ Some e → entry_in table n ≡ Some f
      → HasWord e w → HasWord f w → m ≡ n

-- The same of the tables of several threads, those that `among` tells.
pub record HaveWords (among : ℕ → Type 0) (territories : List TerritoryView)
    (tables : List (List (Option FromSegment))) (first next : ℕ) : Type 0 where
  pub order : first ≤ next
  pub same : (t n : ℕ) → among t → shown (entry_at tables t n) ≡ aside (segment_for territories t n)
  pub inside : (t n : ℕ) (e : FromSegment) → among t → entry_at tables t n ≡ Some e
      → (first ≤ e.first_word) × (e.first_word + run_of e.size ≤ next)
  pub apart : (t u m n : ℕ) (e f : FromSegment) (w : ℕ) → among t → among u
      → entry_at tables t m ≡ Some e → entry_at tables u n ≡ Some f
      → HasWord e w → HasWord f w → (t ≡ u) × (m ≡ n)

-- a thread whose objects belong to this one of the sweepers
abbrev pub IsOwned : ℕ → ℕ → ℕ → Type 0
IsOwned sweepers sweeper thread = (thread < 64) × (thread % sweepers ≡ sweeper)

-- The threads of a sweeper have tables with words now, and all others are as before.
pub record AreNumbered (territories : List TerritoryView) (old new : List (List (Option FromSegment)))
    (sweeper sweepers first next : ℕ) : Type 0 where
  pub have : HaveWords (IsOwned sweepers sweeper) territories new first next
  pub others : (t : ℕ) → t % sweepers ≢ sweeper → slice_index_or new t [] ≡ slice_index_or old t []
