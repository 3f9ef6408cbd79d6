-- What contracts see of a territory.
use Rattle.std.specs.Prelude.{◌≡◌, ◌≢◌, ℕ, ◌+◌, ◌-◌, ◌*◌, ◌/◌, ◌%◌, ◌<◌, ◌≤◌, ◌==◌, Bool, true, false, if◌then◌else◌, nat_lt, nat_le, List, [], ◌∷◌, length, map, is_some, min, replicate, slice_get, slice_index, slice_index_or, slice_set, ◌++◌, ◌⊎◌, Option, Some, None, option_map, IsSome, IsNone, IfSome, Contains, ◌&&◌, refl}
use Rattle.std.specs.List.{list_any, filter, flat_map, last_or, range_with_len}
use Rattle.std.specs.Ordering.{nat_cmp}
use Rattle.std.specs.FinMap.{FinMap, code, get, insert, empty}
use Rattle.std.specs.Coded.{Coded, code_by, coded×, coded_ℕ, coded_bool, coded_list, coded_option}
use Rattle.gc_words.specs.declared.value.Value.TheVariants as value
use Rattle.gc_words.specs.Layout.{address_of, thread_of, segment_of, offset_of, IsAddress}
use Rattle.gc_words.specs.Word.{value_of}
use Rattle.cards.specs.Cards.{card_of, card_count}
use Rattle.seg_chain.specs.Lists.{chain_of, link_count, times, with_last, moved}
use Rattle.trace_types.specs.declared.kind.Kind.{Kind}
use Rattle.trace_types.specs.declared.kind.Kind.TheVariants as kind
use Rattle.segment.specs.declared.space.Space.{Space}
use Rattle.segment.specs.Layout.{skip_of, space_of, space_index, words_after, HasLength}
use Rattle.segment.specs.Segments.{Start}
use Rattle.territory.specs.declared.territory.Targets.{Targets}
use Rattle.territory.specs.Codes.{coded_space, coded_start}

-- A segment in use: its space and generation, how many words it has, whether it is a from-segment, whether a
-- collection kept an object at its place there, and a byte for each 64 words.
pub record SegmentView : Type 0 where
  pub space : Space
  pub generation : ℕ
  pub words : ℕ
  pub is_from : Bool
  pub was_held : Bool
  pub cards : List ℕ

-- A territory: its starts by address; its segments by number, None where the number is free; the number of the
-- open segment of each area, if it has one; the lists of numbers, and of those with a card that is not clean.
pub record TerritoryView : Type 0 where
  pub thread : ℕ
  pub starts : FinMap nat_cmp Start
  pub segments : List (Option SegmentView)
  pub areas : List (Option ℕ)
  pub lists : List (List ℕ)
  pub dirty : List ℕ
  pub targets : Targets

abbrev pub coded_segment : Coded SegmentView
coded_segment = code_by (Space × (ℕ × (ℕ × (Bool × (Bool × List ℕ)))))
    (coded× coded_space (coded× coded_ℕ (coded× coded_ℕ
    (coded× coded_bool (coded× coded_bool (coded_list coded_ℕ))))))
    (λ s. (s.space, (s.generation, (s.words, (s.is_from, (s.was_held, s.cards))))))
    (λ p. record {
      space = p.0;
      generation = p.1.0;
      words = p.1.1.0;
      is_from = p.1.1.1.0;
      was_held = p.1.1.1.1.0;
      cards = p.1.1.1.1.1;
    })
    (λ _. refl)

abbrev pub coded_targets : Coded Targets
coded_targets = code_by (ℕ × (ℕ × ℕ)) (coded× coded_ℕ (coded× coded_ℕ coded_ℕ))
    (λ t. (t.cg, (t.min, t.max))) (λ p. record { cg = p.0; min = p.1.0; max = p.1.1 }) (λ _. refl)

abbrev pub coded_territory : Coded TerritoryView
coded_territory = code_by
    (ℕ × (FinMap nat_cmp Start × (List (Option SegmentView) ×
    (List (Option ℕ) × (List (List ℕ) × (List ℕ × Targets))))))
    (coded× coded_ℕ (coded× (code coded_ℕ coded_start) (coded× (coded_list (coded_option coded_segment))
    (coded× (coded_list (coded_option coded_ℕ)) (coded× (coded_list (coded_list coded_ℕ))
    (coded× (coded_list coded_ℕ) coded_targets))))))
    (λ t. (t.thread, (t.starts, (t.segments, (t.areas, (t.lists, (t.dirty, t.targets)))))))
    (λ p. record {
      thread = p.0;
      starts = p.1.0;
      segments = p.1.1.0;
      areas = p.1.1.1.0;
      lists = p.1.1.1.1.0;
      dirty = p.1.1.1.1.1.0;
      targets = p.1.1.1.1.1.1;
    })
    (λ _. refl)

-- the segment of a number, if it is in use
abbrev pub segment_at : TerritoryView → ℕ → Option SegmentView
segment_at t n = slice_index_or t.segments n None

-- the lists: first the free numbers, then the segments of each generation, then the from-segments of each
abbrev pub free_numbers : TerritoryView → List ℕ
free_numbers t = chain_of t.lists 0

abbrev pub current_numbers : TerritoryView → ℕ → List ℕ
current_numbers t generation = chain_of t.lists (1 + generation)

abbrev pub from_numbers : TerritoryView → ℕ → List ℕ
from_numbers t generation = chain_of t.lists (10 + generation)

-- n is the next number to be used: the last free one, or where none is free the first that never was used
abbrev pub IsNextNumber : List (List ℕ) → ℕ → Type 0
IsNextNumber lists n =
    (last_or None (chain_of lists 0) ≡ Some n) ⊎ ((chain_of lists 0 ≡ []) × (n ≡ link_count lists))

-- the lists with n among the free numbers, where it never was used
abbrev pub with_number : List (List ℕ) → ℕ → List (List ℕ)
with_number lists n = if nat_lt n (link_count lists) then lists else with_last lists 0 n

-- an area is a space and a generation
abbrev pub area_of : Space → ℕ → ℕ
area_of space generation = space_index space * 9 + generation

-- An object of more than 128 words has a segment of its own, of exactly its size; others share segments of 512.
abbrev pub is_large : ℕ → Bool
is_large size = nat_lt 128 size

abbrev pub words_for : ℕ → ℕ
words_for size = if is_large size then size else 512

-- the open areas, where an object of this size goes into segment n: a shared segment stays the open one
abbrev pub areas_for : List (Option ℕ) → ℕ → ℕ → ℕ → List (Option ℕ)
areas_for areas area size n = if is_large size then areas else slice_set areas area (Some n)

-- ---- objects

abbrev pub words_of : Option Start → List ℕ
words_of None = []
words_of (Some x) = x.words

-- a new object: its words are 0
abbrev pub fresh_start : Kind → ℕ → ℕ → ℕ → Start
fresh_start kind length generation birth = record {
  kind = kind;
  length = length;
  generation = generation;
  birth = birth;
  words = replicate (words_after kind length) 0;
}

-- the words that an object takes: its header, if it has one, its words, and one more for an even number
abbrev pub size_for : Kind → ℕ → ℕ
size_for kind length = (skip_of (space_of kind) + words_after kind length + 1) / 2 * 2

-- what each start has: a length of its kind, the words of this length, a generation and a birth
pub record IsShaped (x : Start) : Type 0 where
  pub has_length : HasLength x.kind x.length
  pub its_words : length x.words ≡ words_after x.kind x.length
  pub generation_in : x.generation ≤ 8
  pub born : 0 < x.birth

-- each start has an address of the territory's thread
abbrev pub HaveAddresses : TerritoryView → Type 0
HaveAddresses t = (a : ℕ) (x : Start) → get t.starts a ≡ Some x → IsAddress a × (thread_of a ≡ t.thread)

-- The segment of what starts at a: of its generation, with the start within; and where it has not 512 words, the
-- start is at its beginning.
pub record HasStart (s : SegmentView) (a : ℕ) (x : Start) : Type 0 where
  pub generation : s.generation ≡ x.generation
  pub inside : offset_of a < s.words
  pub place : ((s.words ≡ 512) × (offset_of a % 2 ≡ 0)) ⊎ (offset_of a ≡ 0)

-- each start lies in a segment in use
abbrev pub LieInSegments : TerritoryView → Type 0
LieInSegments t =
    (a : ℕ) (x : Start) → get t.starts a ≡ Some x
    → (s : SegmentView) × (segment_at t (segment_of a) ≡ Some s) × HasStart s a x

-- each start is shaped as its kind asks
abbrev pub AreShaped : TerritoryView → Type 0
AreShaped t = (a : ℕ) (x : Start) → get t.starts a ≡ Some x → IsShaped x

-- the starts with one word of one start changed
abbrev pub put_start : FinMap nat_cmp Start → ℕ → Option Start → ℕ → ℕ → FinMap nat_cmp Start
put_start starts a None index w = starts
put_start starts a (Some x) index w = insert starts a (record x { words = slice_set x.words index w })

-- ---- cards

-- the word of its segment that is word `index` of the start at a, counted after the header
abbrev pub place_of : SegmentView → ℕ → ℕ → ℕ
place_of s a index = offset_of a + skip_of s.space + index

abbrev pub byte_at : Option SegmentView → ℕ → ℕ → ℕ
byte_at None a index = 255
byte_at (Some s) a index = slice_index s.cards (card_of (place_of s a index))

-- the byte of the card of word `index` of the start at a
abbrev pub card_byte : TerritoryView → ℕ → ℕ → ℕ
card_byte t a index = byte_at (segment_at t (segment_of a)) a index

-- the words of byte objects are no values
abbrev pub has_values : Kind → Bool
has_values kind.Bytes = false
has_values kind.ImmBytes = false
has_values _ = true

-- word `index` of the start refers to the object or cell at b
pub record Refers (x : Start) (index b : ℕ) : Type 0 where
  pub within : index < length x.words
  pub values : has_values x.kind ≡ true
  pub names : value_of (slice_index x.words index) ≡ Some (value.Object b)

-- Where a word of an object or cell refers to one of a lower generation, the byte of its card is at most that
-- generation. `generation_at` tells the generation of each object and cell, of all territories.
abbrev pub AreCardsSound : (ℕ → Option ℕ) → TerritoryView → Type 0
AreCardsSound generation_at t =
    (a index b h : ℕ) (x : Start) → get t.starts a ≡ Some x
    → Refers x index b → generation_at b ≡ Some h → h < x.generation
    → card_byte t a index ≤ h

-- `after` tells the generations that `before` tells, and that of a, to which no start refers
pub record IsToldMore (before after : ℕ → Option ℕ) (t : TerritoryView) (a : ℕ) : Type 0 where
  pub others : (b : ℕ) → b ≢ a → after b ≡ before b
  pub alone : (b index : ℕ) (x : Start) → get t.starts b ≡ Some x → Refers x index a → ⊥

-- a word of a start of generation g that refers to generation `refers`, or 255, gets its card marked
abbrev pub needs_mark : Bool → ℕ → ℕ → Bool
needs_mark is_from g refers = if is_from then nat_lt refers 255 else nat_lt refers g

-- a segment as it is after a word of the start at a was put that refers to generation `refers`
abbrev pub with_card : ℕ → ℕ → ℕ → SegmentView → SegmentView
with_card a index refers s =
    let card = card_of (place_of s a index) in
    if needs_mark s.is_from s.generation refers
    then record s { cards = slice_set s.cards card (min (slice_index s.cards card) refers) }
    else s

abbrev pub marks : Option SegmentView → ℕ → Bool
marks None refers = false
marks (Some s) refers = needs_mark s.is_from s.generation refers

-- the numbers with n last, where it was not there
abbrev pub with_dirty : List ℕ → ℕ → List ℕ
with_dirty dirty n = if list_any (λ m. n == m) dirty then dirty else dirty ++ n ∷ []

-- `refers` is at most the generation to which a word of the start refers, where that is below the start's own
abbrev pub TellsLower : (ℕ → Option ℕ) → Option Start → ℕ → ℕ → Type 0
TellsLower generation_at None word refers = Unit {0}
TellsLower generation_at (Some x) word refers =
    (b h : ℕ) → has_values x.kind ≡ true → value_of word ≡ Some (value.Object b)
    → generation_at b ≡ Some h → h < x.generation → refers ≤ h

-- a territory with another word in the start at a, and with the card of the word marked where that is needed
abbrev pub with_word : TerritoryView → ℕ → ℕ → ℕ → ℕ → TerritoryView
with_word t a index word refers =
    let segment = segment_at t (segment_of a) in
    record t {
      starts = put_start t.starts a (get t.starts a) index word;
      segments = slice_set t.segments (segment_of a) (option_map (with_card a index refers) segment);
      dirty = if marks segment refers then with_dirty t.dirty (segment_of a) else t.dirty;
    }

-- The segments in use stay as they are, and so do the starts and areas: what a refused call leaves.
pub record IsAsBefore (old new : TerritoryView) : Type 0 where
  pub starts : new.starts ≡ old.starts
  pub segments : (n : ℕ) → segment_at new n ≡ segment_at old n
  pub areas : new.areas ≡ old.areas

-- a new segment
abbrev pub fresh_segment : Space → ℕ → ℕ → SegmentView
fresh_segment s g words = record {
  space = s;
  generation = g;
  words = words;
  is_from = false;
  was_held = false;
  cards = replicate (card_count words) 255;
}

-- Segment n gets an object of this size. If it was in use it was the open one of its area, and is as before;
-- else it has the next number, and is new.
pub record IsPlaced (old new : TerritoryView) (s : Space) (g size n : ℕ) : Type 0 where
  pub used : IsSome (segment_at old n)
      → (segment_at new n ≡ segment_at old n) × (new.lists ≡ old.lists)
      × (slice_get old.areas (area_of s g) ≡ Some (Some n)) × (is_large size ≡ false)
  pub fresh : IsNone (segment_at old n)
      → (segment_at new n ≡ Some (fresh_segment s g (words_for size)))
      × IsNextNumber old.lists n × (new.lists ≡ moved (with_number old.lists n) 0 (1 + g) n)
  pub fits : IfSome (segment_at new n) (λ v. (v.space ≡ s) × (v.generation ≡ g) × (v.is_from ≡ false))
  pub others : (m : ℕ) → m ≢ n → segment_at new m ≡ segment_at old m
  pub areas : new.areas ≡ areas_for old.areas (area_of s g) size n

-- ---- what is counted
abbrev pub words_in : Option SegmentView → ℕ
words_in None = 0
words_in (Some s) = s.words

-- a shared segment in which a collection kept an object at its place
abbrev pub counts_as_held : Option SegmentView → Bool
counts_as_held None = false
counts_as_held (Some s) = s.was_held && (s.words == 512)

abbrev pub is_cell : Kind → Bool
is_cell kind.Cell = true
is_cell _ = false

-- ---- the list of dirty segments: each once, and those alone that have a card other than 255
abbrev pub HasMark : Option SegmentView → Type 0
HasMark None = ⊥
HasMark (Some s) = (card : ℕ) × (card < length s.cards) × (slice_index s.cards card ≢ 255)

pub record AreDirtyOnes (t : TerritoryView) : Type 0 where
  pub marked : (n : ℕ) → Contains t.dirty n → HasMark (segment_at t n)
  pub all : (n : ℕ) → HasMark (segment_at t n) → Contains t.dirty n
  pub once : (n : ℕ) → times n t.dirty ≤ 1

-- r is what comes after n in a list
abbrev pub IsNext : List ℕ → ℕ → Option ℕ → Type 0
IsNext xs n r = (k : ℕ) → slice_get xs k ≡ Some n → r ≡ slice_get xs (k + 1)

-- ---- the list of the starts of a generation
-- the segments of a generation, and then its from-segments
abbrev pub numbers_of : List (List ℕ) → ℕ → List ℕ
numbers_of lists generation = chain_of lists (1 + generation) ++ chain_of lists (10 + generation)

-- the starts of a segment, in ascending order
unfoldable pub starts_in : TerritoryView → ℕ → List ℕ
starts_in t n =
    filter (λ a. is_some (get t.starts a))
    (map (λ k. address_of t.thread n (2 * k)) (range_with_len 0 (words_in (segment_at t n) / 2)))

unfoldable pub starts_of_generation : TerritoryView → ℕ → List ℕ
starts_of_generation t generation = flat_map (starts_in t) (numbers_of t.lists generation)

-- the list has the starts of the generation, each once
pub record AreItsStarts (t : TerritoryView) (generation : ℕ) (list : List ℕ) : Type 0 where
  pub starts : (a : ℕ) → Contains list a
      → IfSome (get t.starts a) (λ x. x.generation ≡ generation) × IsSome (get t.starts a)
  pub all : (a : ℕ) (x : Start) → get t.starts a ≡ Some x → x.generation ≡ generation → Contains list a
  pub once : (a : ℕ) → times a list ≤ 1

-- ---- a collection

-- a segment as it is after the generations up to cg were set aside
abbrev pub when_begun : ℕ → SegmentView → SegmentView
when_begun cg s = if nat_le s.generation cg then record s { is_from = true } else s

-- The lists, after the generations up to cg were set aside: their segments are behind the from-segments.
pub record AreListsBegun (old new : List (List ℕ)) (cg : ℕ) : Type 0 where
  pub same : length new ≡ length old
  pub free : chain_of new 0 ≡ chain_of old 0
  pub current : (g : ℕ) → g < 9
      → chain_of new (1 + g) ≡ (if nat_le g cg then [] else chain_of old (1 + g))
  pub from : (g : ℕ) → g < 9
      → chain_of new (10 + g)
      ≡ (if nat_le g cg then chain_of old (10 + g) ++ chain_of old (1 + g) else chain_of old (10 + g))

-- the from-segments of the generations from g on
unfoldable pub from_on : List (List ℕ) → ℕ → List ℕ
from_on lists g = flat_map (λ h. chain_of lists (10 + h)) (range_with_len g (9 - g))

-- the list of all from-segments
abbrev pub from_list : List (List ℕ) → List ℕ
from_list lists = from_on lists 0

-- a from-segment
abbrev pub IsFrom : Option SegmentView → Type 0
IsFrom None = ⊥
IsFrom (Some s) = s.is_from ≡ true

-- the list has the from-segments, each once
pub record AreFromOnes (t : TerritoryView) : Type 0 where
  pub aside : (n : ℕ) → Contains (from_list t.lists) n → IsFrom (segment_at t n)
  pub all : (n : ℕ) → IsFrom (segment_at t n) → Contains (from_list t.lists) n
  pub once : (n : ℕ) → times n (from_list t.lists) ≤ 1

abbrev pub no_territory : ℕ → TerritoryView
no_territory thread = record {
  thread = thread;
  starts = empty;
  segments = [];
  areas = replicate 72 None;
  lists = replicate 19 [];
  dirty = [];
  targets = record { cg = 0; min = 0; max = 0 };
}
