-- The starts of a heap, and how they read: as objects of a graph, with each place replaced by the birth of
-- what is there.
use Rattle.std.specs.Prelude.{◌≡◌, ◌≢◌, ℕ, ◌/◌, ◌%◌, ◌≤◌, pos, Bool, true, false, not, ◌&&◌, List, map, length, slice_index, [], IsTrue, IsSome, Option, Some, None, if◌then◌else◌}
use Rattle.std.specs.List.{AllByRecursion, range_with_len}
use Rattle.std.specs.Int.{w64, to_le_bytes}
use Rattle.std.specs.Option.{option_map}
use Rattle.gc_words.specs.declared.value.Value.{Value}
use Rattle.gc_words.specs.declared.value.Value.TheVariants as word
use Rattle.gc_words.specs.Word.{value_of, IsFixnum}
use Rattle.gc_words.specs.Layout.{thread_of}
use Rattle.trace_types.specs.declared.kind.Kind.{Kind}
use Rattle.trace_types.specs.declared.kind.Kind.TheVariants.{Cell}
use Rattle.trace_types.specs.Values as values
use Rattle.trace_types.specs.Values.{fixnum, nil, true_value, false_value, bwp, object, Object, has_bytes, is_guardian}
use Rattle.segment.specs.Layout.{words_after, HasLength}
use Rattle.segment.specs.Segments.{Start}

-- what starts at an address, if anything does
abbrev pub Starts : Type 0
Starts = ℕ → Option Start

-- queue cells are no objects of a graph
abbrev pub is_cell : Kind → Bool
is_cell Cell = true
is_cell _ = false

-- whether an object is there, and no queue cell
abbrev pub is_object : Option Start → Bool
is_object None = false
is_object (Some x) = not (is_cell x.kind)

abbrev pub birth_of : Option Start → ℕ
birth_of None = 0
birth_of (Some x) = x.birth

-- kinds whose words after the header are values
abbrev pub has_values : Kind → Bool
has_values k = not (has_bytes k) && not (is_guardian k) && not (is_cell k)

-- ---- values

-- a value, with a place replaced by the birth of what is there
abbrev pub read : Starts → Value → values.Value
read f (word.Fixnum n) = fixnum n
read f word.Nil = nil
read f word.True = true_value
read f word.False = false_value
read f word.Bwp = bwp
read f (word.Object a) = object (birth_of (f a))

-- the value of a word; no object has a word without a value where a value belongs
abbrev pub read_option : Starts → Option Value → values.Value
read_option f None = nil
read_option f (Some v) = read f v

abbrev pub read_word : Starts → ℕ → values.Value
read_word f w = read_option f (value_of w)

-- a value in range, whose object is there
abbrev pub IsThere : Starts → Value → Type 0
IsThere f (word.Fixnum n) = IsFixnum n
IsThere f (word.Object a) = IsTrue (is_object (f a))
IsThere f _ = Unit {0}

abbrev pub IsThereOption : Starts → Option Value → Type 0
IsThereOption f None = ⊥
IsThereOption f (Some v) = IsThere f v

-- a word of such a value
abbrev pub IsWordThere : Starts → ℕ → Type 0
IsWordThere f w = IsThereOption f (value_of w)

-- ---- bytes

-- the eight bytes of a word, the first in the lowest place
unfoldable pub word_bytes : ℕ → List ℕ
word_bytes w = to_le_bytes w64 w

-- byte i of bytes that are packed eight to a word
abbrev pub byte_at : List ℕ → ℕ → ℕ
byte_at words i = slice_index (word_bytes (slice_index words (i / 8))) (i % 8)

-- the first n of them
abbrev pub bytes_of : List ℕ → ℕ → List ℕ
bytes_of words n = map (byte_at words) (range_with_len 0 n)

-- ---- objects

-- the fields of an object; a guardian has none
abbrev pub fields_of : Starts → Start → List values.Value
fields_of f x =
    if has_bytes x.kind then map (λ b. fixnum (pos b)) (bytes_of x.words x.length)
    else if is_guardian x.kind then []
    else map (read_word f) x.words

-- what starts at a place, as an object of a graph with this queue
abbrev pub object_of : Starts → ℕ → Start → List (values.Value × ℕ) → Object
object_of f a x queue = record {
  kind = x.kind;
  creator = thread_of a;
  generation = x.generation;
  fields = fields_of f x;
  queue = queue;
}

-- The words are laid out as the kind asks: as many as belong to the length, values that are there, and
-- behind the last byte zeros.
pub record IsLaidOut (f : Starts) (x : Start) : Type 0 where
  pub sized : HasLength x.kind x.length
  pub words : length x.words ≡ words_after x.kind x.length
  pub values : IsTrue (has_values x.kind) → AllByRecursion (IsWordThere f) x.words
  pub padding : IsTrue (has_bytes x.kind) → (i : ℕ) → x.length ≤ i → byte_at x.words i ≡ 0

-- a birth has one place, and what is there is laid out
pub record IsClosed (f : Starts) : Type 0 where
  pub single : (a b : ℕ) (x y : Start) → f a ≡ Some x → f b ≡ Some y → x.birth ≡ y.birth → a ≡ b
  pub laid_out : (a : ℕ) (x : Start) → f a ≡ Some x → IsLaidOut f x

-- ---- changes

-- what a start keeps from one collection to the next
abbrev pub lasting : Option Start → Option (Kind × ℕ × ℕ)
lasting o = option_map (λ (x : Start). (x.kind, x.birth, x.generation)) o

-- whatever was there is at its old place, with the kind, the birth and the generation that it had
abbrev pub Keeps : Starts → Starts → Type 0
Keeps f g = (a : ℕ) → IsSome (f a) → lasting (g a) ≡ lasting (f a)

-- One start, no queue cell, was added, or was changed and kept its kind, birth and generation.
pub record IsChanged (f g : Starts) (a : ℕ) (x : Start) : Type 0 where
  pub here : g a ≡ Some x
  pub others : (b : ℕ) → b ≢ a → g b ≡ f b
  pub no_cell : is_cell x.kind ≡ false
  pub same : IsSome (f a) → lasting (f a) ≡ lasting (Some x)
  pub apart : (b : ℕ) (y : Start) → b ≢ a → f b ≡ Some y → y.birth ≢ x.birth
