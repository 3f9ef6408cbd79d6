-- What contracts see of a segment, and which objects start in it.
use Rattle.std.specs.Prelude.{◌≡◌, ◌≢◌, ℕ, ◌+◌, ◌*◌, ◌/◌, ◌%◌, ◌<◌, ◌≤◌, ◌==◌, Bool, true, false, not, if◌then◌else◌, List, [], ◌∷◌, length, slice_index, slice_index_or, slice_set, take, drop, replicate, Option, Some, None, min}
use Rattle.std.specs.List.{count_by, list_any}
use Rattle.gc_words.specs.declared.address.TheConstants.{OFFSETS}
use Rattle.cards.specs.declared.table.TheConstants.{WORDS_PER_CARD}
use Rattle.cards.specs.Cards.{card_of, card_count, IsDirty}
use Rattle.trace_types.specs.declared.kind.Kind.{Kind}
use Rattle.segment.specs.declared.space.Space.{Space}
use Rattle.segment.specs.declared.space.Space.TheVariants as space
use Rattle.segment.specs.declared.segment.Role.{Role}
use Rattle.segment.specs.declared.segment.Role.TheVariants.{Free, Current, From}
use Rattle.segment.specs.Layout.{skip_of, kind_of, length_of, count_of, size_of}

-- An object or queue cell: its words are those after the header.
pub record Start : Type 0 where
  pub kind : Kind
  pub length : ℕ
  pub generation : ℕ
  pub birth : ℕ
  pub words : List ℕ

-- A segment: `births` has one number for each two words, 0 where nothing starts; a segment of one large object
-- has one. `marks` says which starts a collection holds at their place.
pub record Segment : Type 0 where
  pub space : Space
  pub generation : ℕ
  pub role : Role
  pub was_held : Bool
  pub is_dirty : Bool
  pub top : ℕ
  pub words : List ℕ
  pub births : List ℕ
  pub cards : List ℕ
  pub marks : List Bool

-- the first word of start k, at offset 2 k
abbrev pub first_at : Segment → ℕ → ℕ
first_at p k = slice_index p.words (2 * k)

-- the words of start k, header and all
abbrev pub size_at : Segment → ℕ → ℕ
size_at p k = size_of p.space (first_at p k)

-- the words after the header
abbrev pub words_at : Segment → ℕ → List ℕ
words_at p k = take (count_of p.space (first_at p k)) (drop (2 * k + skip_of p.space) p.words)

-- what starts at offset 2 k, if anything does
abbrev pub object_at : Segment → ℕ → Start
object_at p k = record {
  kind = kind_of p.space (first_at p k);
  length = length_of p.space (first_at p k);
  generation = p.generation;
  birth = slice_index p.births k;
  words = words_at p k;
}

abbrev pub start_at : Segment → ℕ → Option Start
start_at p k = if slice_index p.births k == 0 then None else Some (object_at p k)

-- a free segment has no objects, whatever its memory holds
abbrev pub is_free : Role → Bool
is_free Free = true
is_free _ = false

abbrev pub spot : Segment → ℕ → Option Start
spot p k = if is_free p.role then None else start_at p k

-- something starts at offset 2 k
abbrev pub IsStart : Segment → ℕ → Type 0
IsStart p k = (is_free p.role ≡ false) × (slice_index p.births k ≢ 0)

-- ---- what a segment keeps

-- Objects lie apart and below the top, and above it all words are 0: so a new object needs its header and its
-- birth alone.
pub record IsLaid (p : Segment) : Type 0 where
  pub top_in : p.top ≤ length p.words
  pub even : p.top % 2 ≡ 0
  pub zero_above : (i : ℕ) → p.top ≤ i → slice_index p.words i ≡ 0
  pub loose : (k : ℕ) → p.top ≤ 2 * k → slice_index p.births k ≡ 0
  pub fit : (k : ℕ) → slice_index p.births k ≢ 0 → 2 * k + size_at p k ≤ p.top
  pub apart : (j k : ℕ) → j < k → slice_index p.births j ≢ 0 → slice_index p.births k ≢ 0
      → 2 * j + size_at p j ≤ 2 * k

-- Memory for a start each two words at most, a mark for each start and a card for each 64 words. A segment that
-- may have several starts has 512 words. A segment in use is dirty where some card is not clean, and outside a
-- collection it holds nothing.
pub record IsSound (p : Segment) : Type 0 where
  pub small : length p.words ≤ OFFSETS
  pub births : 2 * length p.births ≤ length p.words
  pub single : 1 < length p.births → length p.words ≡ 512
  pub marks : length p.marks ≡ length p.births
  pub cards : 0 < length p.births → length p.cards ≡ card_count (length p.words)
  pub clean : is_free p.role ≡ false → p.is_dirty ≡ false
      → (card : ℕ) → card < length p.cards → slice_index p.cards card ≡ 255
  pub dirty : p.is_dirty ≡ true → (card : ℕ) × (card < length p.cards) × (slice_index p.cards card ≢ 255)
  pub free : is_free p.role ≡ true → p.is_dirty ≡ false
  pub unheld : p.role ≡ Current → (k : ℕ) → slice_index_or p.marks k false ≡ false
  pub laid : IsLaid p

-- ---- what calls make of a segment

-- room at the top for an object of that size, and a place for its birth
abbrev pub HasRoom : Segment → ℕ → Type 0
HasRoom p size = (p.top + size ≤ length p.words) × (p.top < 2 * length p.births)

-- a free segment that never was used
abbrev pub vacant : Segment
vacant = record {
  space = space.Pair;
  generation = 0;
  role = Free;
  was_held = false;
  is_dirty = false;
  top = 0;
  words = [];
  births = [];
  cards = [];
  marks = [];
}

-- an empty segment of so many words and possible starts
abbrev pub opened : Space → ℕ → ℕ → ℕ → Segment
opened space generation words births = record {
  space = space;
  generation = generation;
  role = Current;
  was_held = false;
  is_dirty = false;
  top = 0;
  words = replicate words 0;
  births = replicate births 0;
  cards = replicate (card_count words) 255;
  marks = replicate births false;
}

-- with memory of this size in which nothing starts
abbrev pub renewed : Segment → ℕ → ℕ → Segment
renewed p words births = record p {
  top = 0;
  words = replicate words 0;
  births = replicate births 0;
  cards = replicate (card_count words) 255;
  marks = replicate births false;
}

-- without memory for objects
abbrev pub emptied : Segment → Segment
emptied p = record p { top = 0; words = []; births = []; marks = [] }

-- given back: free, and the memory of a large object is let go
abbrev pub given_back : Segment → Segment
given_back p =
    let q : Segment = if length p.births == 1 then emptied p else p in
    record q { role = Free; was_held = false; is_dirty = false }

-- with a new object at the top: its first word, size and birth
abbrev pub grown : Segment → ℕ → ℕ → ℕ → Segment
grown p first size birth = record p {
  top = p.top + size;
  words = slice_set p.words p.top first;
  births = slice_set p.births (p.top / 2) birth;
}

-- the word of the segment that is word `index` of start k, counted after the header
abbrev pub place_in : Segment → ℕ → ℕ → ℕ
place_in p k index = 2 * k + skip_of p.space + index

-- with another word there
abbrev pub put_in : Segment → ℕ → ℕ → ℕ → Segment
put_in p k index w = record p { words = slice_set p.words (place_in p k index) w }

-- with the card of a word at most this generation
abbrev pub marked_at : Segment → ℕ → ℕ → Segment
marked_at p word generation = record p {
  is_dirty = true;
  cards = slice_set p.cards (card_of word) (min (slice_index p.cards (card_of word)) generation);
}

-- how many births are not 0
abbrev pub count_of_births : List ℕ → ℕ
count_of_births births = count_by (λ birth. not (birth == 0)) births

-- whether some start is held
abbrev pub is_some_marked : List Bool → Bool
is_some_marked marks = list_any (λ mark. mark) marks

-- set aside for a collection
abbrev pub set_aside : Segment → Segment
set_aside p = record p { role = From }

-- with start k held at its place by the collection that goes on
abbrev pub held_at : Segment → ℕ → Segment
held_at p k = record p { marks = slice_set p.marks k true }

-- the births with a mark
abbrev pub marked_births : List ℕ → List Bool → List ℕ
marked_births (birth ∷ births) (mark ∷ marks) = (if mark then birth else 0) ∷ marked_births births marks
marked_births births marks = births

-- in use again after a collection, with the held starts alone, and in this generation
abbrev pub kept_marked : Segment → ℕ → Segment
kept_marked p generation = record p {
  generation = generation;
  role = Current;
  was_held = true;
  births = marked_births p.births p.marks;
  marks = replicate (length p.marks) false;
}

-- the same start in another generation
abbrev pub in_generation : ℕ → Option Start → Option Start
in_generation generation None = None
in_generation generation (Some x) = Some (record x { generation = generation })

-- what then starts at offset 2 k: what was held there
abbrev pub kept_spot : Segment → ℕ → ℕ → Option Start
kept_spot p generation k = if slice_index_or p.marks k false then in_generation generation (spot p k) else None

-- ---- the search for starts

-- nothing is so from `from` up to `to`
abbrev pub NoneWithin : (ℕ → Type 0) → ℕ → ℕ → Type 0
NoneWithin P from to = (j : ℕ) → from ≤ j → j < to → P j → ⊥

-- nothing is so from `from` on
abbrev pub NoneFrom : (ℕ → Type 0) → ℕ → Type 0
NoneFrom P from = (j : ℕ) → from ≤ j → P j → ⊥

-- what starts at k ends past the first word of the card
abbrev pub EndsPast : Segment → ℕ → ℕ → Type 0
EndsPast p card k = IsStart p k × (WORDS_PER_CARD * card < 2 * k + size_at p k)

-- start k has a word, its header counted, under a card whose byte is at most the limit
abbrev pub HasDirtyWord : Segment → ℕ → ℕ → Type 0
HasDirtyWord p limit k =
    IsStart p k
    × ((word : ℕ) × (2 * k ≤ word) × (word < 2 * k + size_at p k) × IsDirty p.cards limit (card_of word))
