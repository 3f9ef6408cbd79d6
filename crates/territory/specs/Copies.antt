-- What a copy of a start is, and where it goes.
use Rattle.std.specs.Prelude.{◌≡◌, ℕ, ◌≤◌, List, slice_set, Option, Some}
use Rattle.gc_words.specs.Layout.{segment_of}
use Rattle.segment.specs.Segments.{Segment, Start, size_at}
use Rattle.segment.specs.Copies.{with_copy, opened_copy}
use Rattle.territory.specs.Territories.{SegmentView, TerritoryView, segment_at, size_for, IsPlaced, Refers}
use Rattle.territory.specs.Pools.{PoolView, IsSettled, numbered}
use Rattle.territory.specs.Changes.{IsOpened}

-- the segments with a copy of start k of segment `from` at the top of segment n
abbrev pub with_copied : List Segment → ℕ → ℕ → ℕ → List Segment
with_copied segments from k n = slice_set segments n (with_copy (numbered segments n) (numbered segments from) k)

-- the segments with a free one, n, opened in a generation with a copy of start k of segment `from` alone
abbrev pub with_opened : List Segment → ℕ → ℕ → ℕ → ℕ → List Segment
with_opened segments from k n generation = slice_set segments n (opened_copy (numbered segments from) k generation)

-- Start k of segment `from` is copied into segment n, which has its size: as where n is opened first, which gives
-- the pool `mid`, and the start is copied to its top then.
pub record IsLargeCopy (old new : PoolView) (from k g n : ℕ) : Type 0 where
  pub mid : PoolView
  pub settled : IsSettled mid
  pub opened : IsOpened old mid (numbered old.segments from).space g (size_at (numbered old.segments from) k) 1 n
  pub segments : new.segments ≡ with_copied mid.segments from k n
  pub lists : new.lists ≡ mid.lists
  pub dirty : new.dirty ≡ mid.dirty
  pub areas : mid.areas ≡ old.areas
  pub same_areas : new.areas ≡ mid.areas

-- the same object in another generation
abbrev pub copy_in : ℕ → Start → Start
copy_in generation x = record x { generation = generation }

-- Segment n gets an object of the size of x, which starts at a, and of the space of the segment of x.
abbrev pub IsPlacedLike : TerritoryView → TerritoryView → ℕ → Start → ℕ → ℕ → Type 0
IsPlacedLike old new a x generation n =
    (s : SegmentView) × (segment_at old (segment_of a) ≡ Some s)
    × IsPlaced old new s.space generation (size_for x.kind x.length) n

-- no word of x refers to an object or cell of a generation below this one
abbrev pub RefersToNoneBelow : (ℕ → Option ℕ) → Start → ℕ → Type 0
RefersToNoneBelow generation_at x generation =
    (index b h : ℕ) → Refers x index b → generation_at b ≡ Some h → generation ≤ h
