-- How a print over the heap names objects: by the words that refer to them, before births replace these.
use Rattle.std.specs.Prelude.{◌≡◌, ℕ, ◌+◌, ◌*◌, ◌/◌, List, [], map, fold, slice_index, Option, Some, None, IsTrue, if◌then◌else◌}
use Rattle.gc_words.specs.declared.value.Value.{Value}
use Rattle.gc_words.specs.declared.value.Value.TheVariants.{Fixnum, Nil, True, False, Bwp, Object}
use Rattle.gc_words.specs.Word.{value_of}
use Rattle.trace_types.specs.Values as values
use Rattle.trace_types.specs.Values.{objects_in, has_bytes, is_guardian}
use Rattle.trace_types.specs.Printing.{with_number}
use Rattle.segment.specs.Segments.{Start}
use Rattle.territory.specs.Territories.{words_of as words_at}
use Rattle.heap_store.specs.Starts.{Starts, birth_of, is_object}

-- the word that refers to what is at an address
abbrev pub reference : ℕ → ℕ
reference a = a * 8 + 1

-- a value of the heap, its object named by the word
abbrev pub by_word : Value → values.Value
by_word (Fixnum n) = values.fixnum n
by_word Nil = values.nil
by_word True = values.true_value
by_word False = values.false_value
by_word Bwp = values.bwp
by_word (Object a) = values.object (reference a)

abbrev pub by_word_option : Option Value → values.Value
by_word_option None = values.nil
by_word_option (Some v) = by_word v

-- the value of a word
abbrev pub word_value : ℕ → values.Value
word_value w = by_word_option (value_of w)

-- the birth of what a word refers to
abbrev pub birth_at : Starts → ℕ → ℕ
birth_at f w = birth_of (f (w / 8))

-- a value with its object renamed
abbrev pub renamed : (ℕ → ℕ) → values.Value → values.Value
renamed name (values.object x) = values.object (name x)
renamed name v = v

-- the word refers to an object of the heap
pub record IsReference (f : Starts) (w : ℕ) : Type 0 where
  pub form : w ≡ reference (w / 8)
  pub value : value_of w ≡ Some (Object (w / 8))
  pub there : IsTrue (is_object (f (w / 8)))

-- ---- what is printed of an object, as words

abbrev pub first_of : Option Start → ℕ
first_of o = slice_index (words_at o) 0

-- Words that are values: of a guardian those of its queue's cells. A byte object has none.
abbrev pub shown_words : Starts → Start → List ℕ → List ℕ
shown_words f x cells =
    if has_bytes x.kind then []
    else if is_guardian x.kind then map (λ c. first_of (f c)) cells
    else x.words

-- the numbers, and one more for each object among the words that has none
abbrev pub with_words : List ℕ → List ℕ → List ℕ
with_words numbers ws = fold with_number numbers (objects_in (map word_value ws))
