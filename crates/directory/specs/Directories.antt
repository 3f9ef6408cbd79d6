-- What contracts see of a directory.
use Rattle.std.specs.Prelude.{◌≡◌, ℕ, ◌+◌, ◌%◌, ◌^◌, ◌<◌, ◌≤◌, ◌⊎◌, if◌then◌else◌, nat_lt, List, length, take, sum, slice_get, slice_index, Option, Some, None, IsSome}
use Rattle.gc_words.specs.Layout.{thread_of, segment_of, offset_of}
use Rattle.territory.specs.declared.territory.Targets.{Targets}
use Rattle.territory.specs.Territories.{TerritoryView}
use Rattle.directory.specs.declared.table.FromSegment.{FromSegment}
use Rattle.directory.specs.declared.directory.Found.{Found}
use Rattle.directory.specs.Tables.{entry_at, run_of, HasWord, word_at}

-- What the collection does with generations; how many words each sweeper has; each thread's from-segments by
-- number.
pub record DirectoryView : Type 0 where
  pub targets : Targets
  pub ranges : List ℕ
  pub tables : List (List (Option FromSegment))

-- there is a range for each sweeper
abbrev pub sweeper_count : DirectoryView → ℕ
sweeper_count d = length d.ranges

-- The first word of range k, and the word after range k - 1: word 0 is the counter of the table of
-- forwarding words, and range 0 begins at word 1.
abbrev pub start_of : List ℕ → ℕ → ℕ
start_of ranges k = 1 + sum (take k ranges)

-- the word lies in range k
abbrev pub IsWithin : List ℕ → ℕ → ℕ → Type 0
IsWithin ranges k word = (start_of ranges k ≤ word) × (word < start_of ranges (k + 1))

-- ---- an address

-- where an offset lies in a from-segment, that from-segment
abbrev pub with_offset : Option FromSegment → ℕ → Option FromSegment
with_offset None offset = None
with_offset (Some from) offset = if nat_lt offset from.size then Some from else None

-- the from-segment in which an address lies
abbrev pub from_in : List (List (Option FromSegment)) → ℕ → Option FromSegment
from_in tables a = with_offset (entry_at tables (thread_of a) (segment_of a)) (offset_of a)

-- the same, by a directory
abbrev pub from_at : DirectoryView → ℕ → Option FromSegment
from_at d a = from_in d.tables a

-- the address lies in a from-segment
abbrev pub IsCollected : DirectoryView → ℕ → Type 0
IsCollected d a = IsSome (from_at d a)

-- the sweeper to which an address belongs
abbrev pub owner_in : DirectoryView → ℕ → ℕ
owner_in d a = thread_of a % sweeper_count d

-- the word of an offset in a from-segment, where there is one
abbrev pub word_or_0 : Option FromSegment → ℕ → ℕ
word_or_0 None offset = 0
word_or_0 (Some from) offset = word_at from offset

-- the word of an address
abbrev pub word_in : DirectoryView → ℕ → ℕ
word_in d a = word_or_0 (from_at d a) (offset_of a)

-- what is told of an offset in a from-segment, where there is one
abbrev pub found_in : Option FromSegment → ℕ → Option Found
found_in None offset = None
found_in (Some from) offset = Some (record { generation = from.generation; word = word_at from offset })

-- what is told of an address
abbrev pub found_at : DirectoryView → ℕ → Option Found
found_at d a = found_in (from_at d a) (offset_of a)

-- the word of each collected address lies in the range of its owner
abbrev pub HasOwnWords : DirectoryView → Type 0
HasOwnWords d = (a : ℕ) → IsCollected d a → IsWithin d.ranges (owner_in d a) (word_in d a)

-- An object may start at an address: in a shared segment at each even offset, else at offset 0 alone.
pub record CanStart (d : DirectoryView) (a : ℕ) : Type 0 where
  pub from : FromSegment
  pub lies : from_at d a ≡ Some from
  pub offset : ((from.size ≡ 512) × (offset_of a % 2 ≡ 0)) ⊎ (offset_of a ≡ 0)

-- a word tells the possible start that has it
abbrev pub TellsApart : DirectoryView → Type 0
TellsApart d = (a b : ℕ) → CanStart d a → CanStart d b → word_in d a ≡ word_in d b → a ≡ b

-- ---- generations

-- targets that a collection may have
pub record AreTargets (targets : Targets) : Type 0 where
  pub least : targets.cg ≤ targets.min
  pub greatest : targets.min ≤ targets.max
  pub generations : targets.max ≤ 8

-- ---- conditions of a new directory

-- they are the territories of the threads 0 to 63, in this order
pub record AreOfThreads (territories : List TerritoryView) : Type 0 where
  pub count : length territories ≡ 64
  pub each : (i : ℕ) (t : TerritoryView) → slice_get territories i ≡ Some t → t.thread ≡ i

-- these are the targets of each of them: those of the collection that it began last
abbrev pub HaveBegun : List TerritoryView → Targets → Type 0
HaveBegun territories targets =
    (i : ℕ) (t : TerritoryView) → slice_get territories i ≡ Some t → t.targets ≡ targets

-- ---- what a directory keeps

-- From 1 to 64 sweepers, and where the range of each begins; all words are below 2^64. A table for each
-- thread. The words of a from-segment lie in the range of its thread's sweeper, and no two from-segments have
-- one in common.
pub record IsSound (ranges firsts : List ℕ) (tables : List (List (Option FromSegment))) : Type 0 where
  pub some : 1 ≤ length ranges
  pub most : length ranges ≤ 64
  pub fits : start_of ranges (length ranges) < 2 ^ 64
  pub firsts_too : length firsts ≡ length ranges
  pub begin : (k : ℕ) → k < length ranges → slice_index firsts k ≡ start_of ranges k
  pub threads : length tables ≡ 64
  pub own : (t n : ℕ) (e : FromSegment) → entry_at tables t n ≡ Some e
      → (start_of ranges (t % length ranges) ≤ e.first_word)
      × (e.first_word + run_of e.size ≤ start_of ranges (t % length ranges + 1))
  pub apart : (t u m n : ℕ) (e f : FromSegment) (w : ℕ)
      → entry_at tables t m ≡ Some e → entry_at tables u n ≡ Some f
      → HasWord e w → HasWord f w → (t ≡ u) × (m ≡ n)
