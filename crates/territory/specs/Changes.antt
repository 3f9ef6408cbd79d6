-- What the calls of a pool do to it.
use Rattle.std.specs.Prelude.{◌≡◌, ◌≢◌, ℕ, ◌+◌, ◌<◌, Bool, true, false, if◌then◌else◌, nat_lt, ◌&&◌, ◌++◌, [], List, length, slice_get, slice_index_or, is_some, Option, Some, None, ◌/◌, ◌%◌, ◌≤◌, ◌⊎◌}
use Rattle.std.specs.List.{count_by}
use Rattle.seg_chain.specs.Lists.{chain_of, times, moved}
use Rattle.segment.specs.declared.space.Space.{Space}
use Rattle.segment.specs.declared.segment.Role.{Role}
use Rattle.segment.specs.declared.segment.Role.TheVariants.{Free, Current}
use Rattle.segment.specs.Segments.{Segment, HasRoom, is_free, opened, set_aside}
use Rattle.territory.specs.Territories.{IsNextNumber, with_number, area_of, is_large, words_for, areas_for}
use Rattle.territory.specs.Pools.{PoolView, numbered, IsIn}

-- no segment differs, nor an area, the list of dirty segments or a counter
pub record IsSame (old new : PoolView) : Type 0 where
  pub segments : (n : ℕ) → numbered new.segments n ≡ numbered old.segments n
  pub areas : new.areas ≡ old.areas
  pub dirty : chain_of new.dirty 1 ≡ chain_of old.dirty 1
  pub counts : new.counts ≡ old.counts

-- n is a free number, with a segment
pub record IsTaken (old new : PoolView) (n : ℕ) : Type 0 where
  pub next : IsNextNumber old.lists n
  pub lists : new.lists ≡ with_number old.lists n
  pub within : n < length new.segments
  pub loose : IsIn new.lists 0 n

-- n was the next number to be used, and is an empty segment now
pub record IsOpened (old new : PoolView) (s : Space) (g words births n : ℕ) : Type 0 where
  pub next : IsNextNumber old.lists n
  pub lists : new.lists ≡ moved (with_number old.lists n) 0 (1 + g) n
  pub within : n < length new.segments
  pub was_free : (numbered old.segments n).role ≡ Free
  pub here : numbered new.segments n ≡ opened s g words births
  pub others : (m : ℕ) → m ≢ n → numbered new.segments m ≡ numbered old.segments m
  pub dirty : chain_of new.dirty 1 ≡ chain_of old.dirty 1

-- n is the open segment of the area, and has room for an object of this size
pub record IsOpenRoom (p : PoolView) (area size n : ℕ) : Type 0 where
  pub is_open : slice_get p.areas area ≡ Some (Some n)
  pub within : n < length p.segments
  pub room : HasRoom (numbered p.segments n) size

-- n is the open segment of the area, which has shared segments
pub record WasOpen (old new : PoolView) (s : Space) (g size n : ℕ) : Type 0 where
  pub same : new ≡ old
  pub area : slice_get old.areas (area_of s g) ≡ Some (Some n)
  pub shared : is_large size ≡ false

-- Segment n has room for an object of this size: the open one of the area, or a new one.
pub record IsRoom (old new : PoolView) (s : Space) (g size n : ℕ) : Type 0 where
  pub within : n < length new.segments
  pub current : (numbered new.segments n).role ≡ Current
  pub space_is : (numbered new.segments n).space ≡ s
  pub generation_is : (numbered new.segments n).generation ≡ g
  pub room : HasRoom (numbered new.segments n) size
  pub areas : new.areas ≡ areas_for old.areas (area_of s g) size n
  pub dirty : chain_of new.dirty 1 ≡ chain_of old.dirty 1
  pub way : WasOpen old new s g size n ⊎ ((births : ℕ) × IsOpened old new s g (words_for size) births n)

-- the segments of a list are set aside, and no others differ
pub record AreSetAside (old new : List Segment) (list : List ℕ) : Type 0 where
  pub same : length new ≡ length old
  pub inside : (n : ℕ) → 0 < times n list → numbered new n ≡ set_aside (numbered old n)
  pub outside : (n : ℕ) → times n list ≡ 0 → numbered new n ≡ numbered old n

-- each number of the list has a segment in use
abbrev pub AreInUse : List Segment → List ℕ → Type 0
AreInUse segments list = (n : ℕ) → 0 < times n list → is_free (numbered segments n).role ≡ false

-- The areas of a generation are closed, of the spaces below `spaces` alone; so many of them were open.
pub record AreClosed (old new : List (Option ℕ)) (generation spaces closed : ℕ) : Type 0 where
  pub same : length new ≡ length old
  pub inside : (k : ℕ) → k % 9 ≡ generation → k / 9 < spaces → slice_index_or new k None ≡ None
  pub outside : (k : ℕ) → (k % 9 ≢ generation) ⊎ (spaces ≤ k / 9)
      → slice_index_or new k None ≡ slice_index_or old k None
  pub counted : count_by is_some new + closed ≡ count_by is_some old

-- a segment where the generations below `end` are set aside
abbrev pub is_current : Role → Bool
is_current Current = true
is_current _ = false

abbrev pub begun : ℕ → Segment → Segment
begun end p = if is_current p.role && nat_lt p.generation end then set_aside p else p

-- The generations below `end` are set aside: their segments stand in the lists of from-segments, behind
-- those that were there, and their areas are closed.
pub record AreBegun (old new : PoolView) (end : ℕ) : Type 0 where
  pub same : length new.segments ≡ length old.segments
  pub segments : (n : ℕ) → numbered new.segments n ≡ begun end (numbered old.segments n)
  pub areas_same : length new.areas ≡ length old.areas
  pub areas : (k : ℕ)
      → slice_index_or new.areas k None ≡ (if nat_lt (k % 9) end then None else slice_index_or old.areas k None)
  pub lists_same : length new.lists ≡ length old.lists
  pub free : chain_of new.lists 0 ≡ chain_of old.lists 0
  pub current : (g : ℕ) → g < 9
      → chain_of new.lists (1 + g) ≡ (if nat_lt g end then [] else chain_of old.lists (1 + g))
  pub from : (g : ℕ) → g < 9
      → chain_of new.lists (10 + g)
      ≡ (if nat_lt g end then chain_of old.lists (10 + g) ++ chain_of old.lists (1 + g)
      else chain_of old.lists (10 + g))
  pub dirty : new.dirty ≡ old.dirty
