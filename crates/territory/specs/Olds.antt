-- The objects of older generations that a collection of the generations up to cg has to look at, and the marks
-- on their cards.
use Rattle.std.specs.Prelude.{◌≡◌, ℕ, ◌+◌, ◌*◌, ◌/◌, ◌<◌, ◌≤◌, Bool, false, ◌&&◌, nat_lt, nat_le, if◌then◌else◌, List, length, map, slice_get, slice_index, Option, Some, None, IsSome, IfSome, Contains}
use Rattle.std.specs.List.{list_any, filter, flat_map, range_with_len}
use Rattle.std.specs.FinMap.{get}
use Rattle.gc_words.specs.Layout.{address_of, segment_of, offset_of}
use Rattle.cards.specs.declared.table.TheConstants.{CLEAN}
use Rattle.cards.specs.Cards.{card_of, IsDirty, raised_bytes}
use Rattle.seg_chain.specs.Lists.{times, without}
use Rattle.segment.specs.Segments.{Segment, Start, HasDirtyWord, NoneWithin, NoneFrom}
use Rattle.segment.specs.Aging.{raised}
use Rattle.territory.specs.Territories.{SegmentView, TerritoryView, card_byte, segment_at, words_in, size_for}
use Rattle.territory.specs.Pools.{PoolView, numbered, shows_dirty}

-- ---- old starts

-- a word of a segment stands under a card whose byte is at most cg
abbrev pub IsMarkedAt : ℕ → Option SegmentView → ℕ → Type 0
IsMarkedAt cg None word = ⊥
IsMarkedAt cg (Some s) word = IsDirty s.cards cg (card_of word)

-- The start x at a is of a generation above cg, and has a word under a card whose byte is at most cg. Each word
-- of the object counts, its header too, and the one that makes its number even.
pub record IsOld (t : TerritoryView) (cg a : ℕ) (x : Start) : Type 0 where
  pub older : cg < x.generation
  pub marked : (word : ℕ) × (offset_of a ≤ word) × (word < offset_of a + size_for x.kind x.length)
      × IsMarkedAt cg (segment_at t (segment_of a)) word

-- a start of a generation above cg with a word whose card has a byte of at most cg is an old one
abbrev pub AreOldByWords : TerritoryView → ℕ → Type 0
AreOldByWords t cg =
    (a index : ℕ) (x : Start) → get t.starts a ≡ Some x → cg < x.generation → index < length x.words
    → card_byte t a index ≤ cg → IsOld t cg a x

-- the list has the old starts, each once
pub record AreOldOnes (t : TerritoryView) (cg : ℕ) (list : List ℕ) : Type 0 where
  pub old : (a : ℕ) → Contains list a → IfSome (get t.starts a) (IsOld t cg a) × IsSome (get t.starts a)
  pub all : (a : ℕ) (x : Start) → get t.starts a ≡ Some x → IsOld t cg a x → Contains list a
  pub once : (a : ℕ) → times a list ≤ 1

-- these facts as tests
abbrev pub is_marked_at : ℕ → Option SegmentView → ℕ → Bool
is_marked_at cg None word = false
is_marked_at cg (Some s) word =
    nat_lt (card_of word) (length s.cards) && nat_le (slice_index s.cards (card_of word)) cg

abbrev pub is_old_start : ℕ → ℕ → Option SegmentView → Option Start → Bool
is_old_start cg a s None = false
is_old_start cg a s (Some x) =
    nat_lt cg x.generation
    && list_any (is_marked_at cg s) (range_with_len (offset_of a) (size_for x.kind x.length))

unfoldable pub is_old : TerritoryView → ℕ → ℕ → Bool
is_old t cg a = is_old_start cg a (segment_at t (segment_of a)) (get t.starts a)

-- the old starts of a segment, in ascending order
unfoldable pub olds_in : TerritoryView → ℕ → ℕ → List ℕ
olds_in t cg n =
    filter (is_old t cg)
    (map (λ k. address_of t.thread n (2 * k)) (range_with_len 0 (words_in (segment_at t n) / 2)))

-- the old starts, from one dirty segment to the next
unfoldable pub olds_of : TerritoryView → ℕ → List ℕ
olds_of t cg = flat_map (olds_in t cg) t.dirty

-- ---- raised cards

-- The byte that a card of a segment of generation g gets where it had one of at most cg. What it still says of
-- objects that are not collected is above cg; and where g is cg + 1, none of these is younger than g.
abbrev pub byte_above : ℕ → ℕ → ℕ
byte_above cg g = if nat_lt (cg + 1) g then cg + 1 else CLEAN

-- a segment as it is after the marks up to cg on its cards were raised: those of older generations alone
abbrev pub when_raised : ℕ → SegmentView → SegmentView
when_raised cg s =
    if nat_lt cg s.generation
    then record s { cards = raised_bytes cg (byte_above cg s.generation) s.cards }
    else s

-- it tells generations above cg alone
abbrev pub TellsAbove : ℕ → (ℕ → Option ℕ) → Type 0
TellsAbove cg generation_at = (b h : ℕ) → generation_at b ≡ Some h → cg < h

-- ---- the same of a pool

-- start k of segment n is an old one
abbrev pub IsOldAt : List Segment → ℕ → ℕ → ℕ → Type 0
IsOldAt segments cg n k = (cg < (numbered segments n).generation) × HasDirtyWord (numbered segments n) cg k

-- the first so many segments of a list have no old start
abbrev pub NoOldsBefore : List Segment → ℕ → List ℕ → ℕ → Type 0
NoOldsBefore segments cg list count =
    (j n : ℕ) → j < count → slice_get list j ≡ Some n → NoneFrom (IsOldAt segments cg n) 0

-- start k of segment n is the first old one in the segments of a list
pub record IsFoundOld (segments : List Segment) (cg : ℕ) (list : List ℕ) (n k : ℕ) : Type 0 where
  pub place : ℕ
  pub here : slice_get list place ≡ Some n
  pub before : NoOldsBefore segments cg list place
  pub old : IsOldAt segments cg n k
  pub least : NoneWithin (IsOldAt segments cg n) 0 k

-- r is segment and start of the first old one, if there is one
abbrev pub IsFirstOld : List Segment → ℕ → List ℕ → Option (ℕ × ℕ) → Type 0
IsFirstOld segments cg list None = (count : ℕ) → NoOldsBefore segments cg list count
IsFirstOld segments cg list (Some at) = IsFoundOld segments cg list at.0 at.1

-- a segment after its marks up to cg were raised, where its generation is above cg
abbrev pub aged : ℕ → Segment → Segment
aged cg p = if nat_lt cg p.generation then raised cg (byte_above cg p.generation) p else p

-- the list of dirty segments, without n where it is clean now
abbrev pub if_dirty : Bool → ℕ → List ℕ → List ℕ
if_dirty still n dirty = if still then dirty else without n dirty

-- the dirty segments are changed so, and nothing else but the list of dirty ones
pub record AreAged (old new : PoolView) (cg : ℕ) : Type 0 where
  pub same : length new.segments ≡ length old.segments
  pub segments : (n : ℕ)
      → numbered new.segments n
      ≡ (if shows_dirty (numbered old.segments n) then aged cg (numbered old.segments n)
      else numbered old.segments n)
  pub areas : new.areas ≡ old.areas
  pub lists : new.lists ≡ old.lists
