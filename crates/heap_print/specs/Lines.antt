-- What is printed of an object, as text over the numbers of words.
use Rattle.std.specs.Prelude.{◌≡◌, ◌==◌, codes, decimal, pos, ℕ, List, ◌∷◌, [], ◌++◌, flat_map, if◌then◌else◌}
use Rattle.gc_words.specs.Layout.{thread_of}
use Rattle.trace_types.specs.declared.kind.Kind.{Kind}
use Rattle.trace_types.specs.Words.{kind_word}
use Rattle.trace_types.specs.Values as values
use Rattle.trace_types.specs.Values.{has_bytes}
use Rattle.trace_types.specs.Printing.{value_text, byte_text, generation_word}
use Rattle.segment.specs.Segments.{Start}
use Rattle.heap_store.specs.Starts.{Starts, bytes_of}
use Rattle.heap_print.specs.Words.{word_value, shown_words, with_words}

-- a word, after a space
abbrev pub word_text : List ℕ → ℕ → List ℕ
word_text numbers w = codes " " ++ value_text numbers (word_value w)

-- a byte, after a space
abbrev pub spaced_byte : ℕ → List ℕ
spaced_byte b = codes " " ++ byte_text (values.fixnum (pos b))

abbrev pub shown_text : Starts → List ℕ → Start → List ℕ → List ℕ
shown_text f numbers x cells =
    if has_bytes x.kind then flat_map spaced_byte (bytes_of x.words x.length)
    else flat_map (word_text numbers) (shown_words f x cells)

-- Words were shown: each object among them has a number, and those that had none the next ones. The text has
-- the words as they read with these numbers, and with more of them behind these.
pub record AreShown (before after ws old new : List ℕ) : Type 0 where
  pub numbers : after ≡ with_words before ws
  pub text : (more : List ℕ) → new ≡ old ++ flat_map (word_text (after ++ more)) ws

-- the new text is the old one and more behind it
abbrev pub GoesOn : List ℕ → List ℕ → Type 0
GoesOn old new = (more : List ℕ) × (new ≡ old ++ more)

-- of what starts at a place: its number, kind, generation and thread
abbrev pub head_text : ℕ → ℕ → Kind → ℕ → List ℕ
head_text number a kind generation =
    codes "#" ++ decimal number ++ codes " " ++ kind_word kind
    ++ codes " g" ++ generation_word generation
    ++ codes " t" ++ decimal (thread_of a)

-- its line
abbrev pub line_text : Starts → List ℕ → ℕ → ℕ → Start → List ℕ → List ℕ
line_text f numbers number a x cells =
    head_text number a x.kind x.generation ++ shown_text f numbers x cells ++ 10 ∷ []

-- ---- the census

-- the line of a generation with so many objects and words, where it has objects
abbrev pub count_line : ℕ → ℕ → ℕ → List ℕ
count_line g objects words =
    if objects == 0 then []
    else codes "g" ++ generation_word g ++ codes " " ++ decimal objects ++ codes " " ++ decimal words ++ 10 ∷ []
