-- The from-segments of each thread by their numbers, and the words of each.
use Rattle.std.specs.Prelude.{ℕ, ◌+◌, ◌/◌, ◌<◌, ◌≤◌, ◌==◌, if◌then◌else◌, nat_lt, List, [], slice_get, slice_index_or, Option, Some, None}
use Rattle.gc_words.specs.Layout.{thread_of, segment_of, offset_of}
use Rattle.territory.specs.Territories.{SegmentView, TerritoryView, segment_at}
use Rattle.directory.specs.declared.table.FromSegment.{FromSegment}

-- the from-segment of a number in a thread's table
abbrev pub entry_in : List (Option FromSegment) → ℕ → Option FromSegment
entry_in table segment = slice_index_or table segment None

-- the from-segment of a number in the table of a thread
abbrev pub entry_at : List (List (Option FromSegment)) → ℕ → ℕ → Option FromSegment
entry_at tables thread segment = entry_in (slice_index_or tables thread []) segment

-- How many words a segment of this size gets: one for each two words of a shared one, in which an object may
-- start at each even offset; one where it has one large object.
abbrev pub run_of : ℕ → ℕ
run_of size = if size == 512 then 256 else 1

-- it has this word
abbrev pub HasWord : FromSegment → ℕ → Type 0
HasWord from word = (from.first_word ≤ word) × (word < from.first_word + run_of from.size)

-- the word of an offset in it
abbrev pub word_at : FromSegment → ℕ → ℕ
word_at from offset = if from.size == 512 then from.first_word + offset / 2 else from.first_word

-- ---- what territories have

-- a segment that was set aside for a collection: how many words of memory it has, and its generation
pub record Aside : Type 0 where
  pub size : ℕ
  pub generation : ℕ

-- what a segment is, where it was set aside
abbrev pub aside : Option SegmentView → Option Aside
aside None = None
aside (Some s) = if s.is_from then Some (record { size = s.words; generation = s.generation }) else None

-- the segment of a number, by its territory
abbrev pub segment_in : Option TerritoryView → ℕ → Option SegmentView
segment_in None segment = None
segment_in (Some t) segment = segment_at t segment

-- the segment of a thread, by the territories of all threads
abbrev pub segment_for : List TerritoryView → ℕ → ℕ → Option SegmentView
segment_for territories thread segment = segment_in (slice_get territories thread) segment

-- what an entry says of its segment
abbrev pub shown : Option FromSegment → Option Aside
shown None = None
shown (Some from) = Some (record { size = from.size; generation = from.generation })

-- where an offset lies in a segment set aside, that segment
abbrev pub aside_with : Option Aside → ℕ → Option Aside
aside_with None offset = None
aside_with (Some s) offset = if nat_lt offset s.size then Some s else None

-- the from-segment in which an address lies, by the territory of its thread
abbrev pub aside_at : List TerritoryView → ℕ → Option Aside
aside_at territories a =
    aside_with (aside (segment_for territories (thread_of a) (segment_of a))) (offset_of a)
