-- What a territory keeps of its segments: their numbers in lists, the open areas, the dirty ones and counters.
use Rattle.std.specs.Prelude.{◌≡◌, ℕ, zero, suc, ◌+◌, ◌-◌, ◌*◌, ◌/◌, ◌%◌, ◌<◌, ◌≤◌, ◌==◌, ◌&&◌, Bool, true, false, not, if◌then◌else◌, nat_le, List, [], ◌∷◌, ◌++◌, length, map, is_some, slice_index_or, slice_get, Option, Some, None}
use Rattle.std.specs.List.{sum_by, count_by}
use Rattle.std.specs.Ordering.{nat_cmp}
use Rattle.std.specs.FinMap.{FinMap, from_entries}
use Rattle.gc_words.specs.declared.address.TheConstants.{SEGMENTS, OFFSETS}
use Rattle.seg_chain.specs.Lists.{chain_of, link_count, times, EachOnce}
use Rattle.segment.specs.declared.space.Space.{Space}
use Rattle.segment.specs.declared.space.Space.TheVariants as space
use Rattle.segment.specs.declared.segment.Role.{Role}
use Rattle.segment.specs.declared.segment.Role.TheVariants.{Free, Current, From}
use Rattle.segment.specs.Layout.{space_index, HasLength}
use Rattle.segment.specs.Segments.{Segment, Start, IsSound, IsStart, is_free, vacant, spot, place_in, marked_at}
use Rattle.territory.specs.declared.counts.SegmentCounts.{SegmentCounts}
use Rattle.territory.specs.declared.territory.Targets.{Targets}
use Rattle.territory.specs.Territories.{SegmentView, TerritoryView, needs_mark, with_dirty}

pub record PoolView : Type 0 where
  pub segments : List Segment
  pub areas : List (Option ℕ)
  pub lists : List (List ℕ)
  pub dirty : List (List ℕ)
  pub counts : SegmentCounts

-- the segment of a number; past the last one there is nothing in use
abbrev pub numbered : List Segment → ℕ → Segment
numbered segments n = slice_index_or segments n vacant

-- ---- the lists

-- the list in which the number of a segment stands
abbrev pub list_for : Role → ℕ → ℕ
list_for Free generation = 0
list_for Current generation = 1 + generation
list_for From generation = 10 + generation

abbrev pub list_of : Segment → ℕ
list_of p = list_for p.role p.generation

-- n stands in list c
abbrev pub IsIn : List (List ℕ) → ℕ → ℕ → Type 0
IsIn lists c n = 0 < times n (chain_of lists c)

-- Each number stands in the list of its segment's role and generation. The last segment may have no link yet,
-- where memory was refused between the two.
pub record AreListed (segments : List Segment) (lists : List (List ℕ)) : Type 0 where
  pub chains : length lists ≡ 19
  pub known : link_count lists ≤ length segments
  pub each_once : EachOnce lists
  pub fits : (c n : ℕ) → IsIn lists c n → list_of (numbered segments n) ≡ c
  pub unlisted : (n : ℕ) → link_count lists ≤ n → list_of (numbered segments n) ≡ 0

-- ---- the open areas

-- a segment that may be open in area k: it was never held, so an open one never counts as held
pub record IsOpenFor (p : Segment) (k : ℕ) : Type 0 where
  pub current : p.role ≡ Current
  pub space_is : space_index p.space ≡ k / 9
  pub generation_is : p.generation ≡ k % 9
  pub never_held : p.was_held ≡ false

pub record AreOpen (segments : List Segment) (areas : List (Option ℕ)) : Type 0 where
  pub count : length areas ≡ 72
  pub fits : (k n : ℕ) → slice_get areas k ≡ Some (Some n) → IsOpenFor (numbered segments n) k

-- ---- the dirty segments

abbrev pub shows_dirty : Segment → Bool
shows_dirty p = if is_free p.role then false else p.is_dirty

-- Chain 1 has the numbers of the segments in use with a card that is not clean.
pub record AreDirty (segments : List Segment) (dirty : List (List ℕ)) : Type 0 where
  pub chains : length dirty ≡ 2
  pub known : length segments ≤ link_count dirty
  pub each_once : EachOnce dirty
  pub shown : (n : ℕ) → IsIn dirty 1 n → shows_dirty (numbered segments n) ≡ true
  pub listed : (n : ℕ) → shows_dirty (numbered segments n) ≡ true → IsIn dirty 1 n

-- ---- the counters

abbrev pub used_words : Segment → ℕ
used_words p = if is_free p.role then 0 else length p.words

-- a 512-word segment in which a collection kept an object at its place
abbrev pub is_held : Segment → Bool
is_held p = if is_free p.role then false else (p.was_held && (length p.words == 512))

abbrev pub is_cell_space : Space → Bool
is_cell_space space.Cell = true
is_cell_space _ = false

abbrev pub cells_in : Segment → ℕ
cells_in p =
    if is_free p.role then 0
    else (if is_cell_space p.space then count_by (λ birth. not (birth == 0)) p.births else 0)

-- the counters are what a count of the segments, areas and starts gives
pub record AreCounted (segments : List Segment) (areas : List (Option ℕ)) (counts : SegmentCounts) : Type 0 where
  pub words : counts.segment_words ≡ sum_by used_words segments
  pub open_areas : counts.open_areas ≡ count_by is_some areas
  pub held : counts.held_segments ≡ count_by is_held segments
  pub cells : counts.cells ≡ sum_by cells_in segments

-- ---- all together

pub record IsSettled (p : PoolView) : Type 0 where
  pub count : length p.segments ≤ SEGMENTS
  pub sound : (n : ℕ) → IsSound (numbered p.segments n)
  pub generations : (n : ℕ) → (numbered p.segments n).generation < 9
  pub lengths : (n k : ℕ) (x : Start) → spot (numbered p.segments n) k ≡ Some x → HasLength x.kind x.length
  pub listed : AreListed p.segments p.lists
  pub open_areas : AreOpen p.segments p.areas
  pub dirty : AreDirty p.segments p.dirty
  pub counted : AreCounted p.segments p.areas p.counts

-- each segment in use has a start
abbrev pub AreUsed : List Segment → Type 0
AreUsed segments =
    (n : ℕ) → is_free (numbered segments n).role ≡ false → (k : ℕ) × IsStart (numbered segments n) k

-- ---- the starts of all segments, where their numbers count from `base`

abbrev pub start_in : ℕ → List Segment → ℕ → Option Start
start_in base segments a =
    if nat_le base (a / OFFSETS) && (a % 2 == 0)
    then spot (numbered segments (a / OFFSETS - base)) (a % OFFSETS / 2)
    else None

abbrev pub entry : ℕ → Option Start → List (ℕ × Start)
entry a None = []
entry a (Some x) = (a, x) ∷ []

unfoldable pub entries_in : ℕ → Segment → ℕ → List (ℕ × Start)
entries_in page p zero = []
entries_in page p (suc k) = entry (page * OFFSETS + 2 * k) (spot p k) ++ entries_in page p k

unfoldable pub entries_of : ℕ → List Segment → List (ℕ × Start)
entries_of page [] = []
entries_of page (p ∷ segments) = entries_in page p (length p.births) ++ entries_of (page + 1) segments

unfoldable pub starts_of : ℕ → List Segment → FinMap nat_cmp Start
starts_of base segments = from_entries (entries_of base segments)

-- what contracts see of a segment
abbrev pub is_from_role : Role → Bool
is_from_role From = true
is_from_role _ = false

abbrev pub seen : Segment → Option SegmentView
seen p =
    if is_free p.role then None
    else Some (record {
      space = p.space;
      generation = p.generation;
      words = length p.words;
      is_from = is_from_role p.role;
      was_held = p.was_held;
      cards = p.cards;
    })

-- what contracts see of a territory of these parts
abbrev pub territory_view : ℕ → PoolView → Targets → TerritoryView
territory_view thread p targets = record {
  thread = thread;
  starts = starts_of (thread * SEGMENTS) p.segments;
  segments = map seen p.segments;
  areas = p.areas;
  lists = p.lists;
  dirty = chain_of p.dirty 1;
  targets = targets;
}

-- a segment as it is after word `index` of start k was put that refers to generation `refers`
abbrev pub noted : Segment → ℕ → ℕ → ℕ → Segment
noted p k index refers =
    if needs_mark (is_from_role p.role) p.generation refers then marked_at p (place_in p k index) refers else p

-- the list of dirty segments after that
abbrev pub dirty_after : Segment → List ℕ → ℕ → ℕ → List ℕ
dirty_after p dirty n refers =
    if needs_mark (is_from_role p.role) p.generation refers then with_dirty dirty n else dirty
