-- The queue of a guardian, as a chain of cells from the first to the last.
use Rattle.std.specs.Prelude.{◌≡◌, ℕ, false, List, [], ◌∷◌, Contains, IsTrue, Some}
use Rattle.gc_words.specs.declared.value.Value.TheVariants as word
use Rattle.gc_words.specs.Word.{word_of}
use Rattle.gc_words.specs.Layout.{thread_of}
use Rattle.trace_types.specs.declared.kind.Kind.TheVariants.{Cell}
use Rattle.trace_types.specs.Values.{Value, is_guardian}
use Rattle.segment.specs.Segments.{Start}
use Rattle.heap_store.specs.Starts.{Starts, read_word, IsWordThere}

-- from the first to be taken: values, each with the line of its registration
abbrev pub Queue : Type 0
Queue = List (Value × ℕ)

abbrev pub nil_word : ℕ
nil_word = word_of word.Nil

-- the word of what is at a place
abbrev pub place_word : ℕ → ℕ
place_word a = word_of (word.Object a)

-- the word of the first and of the last place, or of `nil`
abbrev pub first_word_of : List ℕ → ℕ
first_word_of [] = nil_word
first_word_of (c ∷ cells) = place_word c

abbrev pub last_word_of : List ℕ → ℕ
last_word_of [] = nil_word
last_word_of (c ∷ []) = place_word c
last_word_of (c ∷ cells) = last_word_of cells

-- A cell holds the value of an entry and has its line for a birth; its second word is that of the next cell.
pub record IsCell (f : Starts) (thread generation c next : ℕ) (entry : Value × ℕ) : Type 0 where
  pub first : ℕ
  pub here : f c ≡ Some (record {
    kind = Cell;
    length = 2;
    generation = generation;
    birth = entry.1;
    words = first ∷ next ∷ [];
  })
  pub thread_is : thread_of c ≡ thread
  pub there : IsWordThere f first
  pub value : read_word f first ≡ entry.0

-- the cells at these places hold the queue, in order, and each refers to the next
abbrev pub AreCells : Starts → ℕ → ℕ → List ℕ → Queue → Type 0
AreCells f thread generation [] [] = Unit {0}
AreCells f thread generation (c ∷ cells) (entry ∷ queue) =
    IsCell f thread generation c (first_word_of cells) entry × AreCells f thread generation cells queue
AreCells f thread generation _ _ = ⊥

-- The queue of what starts at a place, and its cells: a guardian refers to the first and the last of them,
-- and nothing else has any. Cells are of the guardian's thread and generation.
pub record HasQueue (f : Starts) (a : ℕ) (x : Start) (cells : List ℕ) (queue : Queue) : Type 0 where
  pub are_cells : AreCells f (thread_of a) x.generation cells queue
  pub ends : IsTrue (is_guardian x.kind) → x.words ≡ first_word_of cells ∷ last_word_of cells ∷ nil_word ∷ []
  pub no_guardian : is_guardian x.kind ≡ false → cells ≡ []

-- the cell is in the queue of a guardian
pub record IsQueued (f : Starts) (c : ℕ) : Type 0 where
  pub place : ℕ
  pub guardian : Start
  pub cells : List ℕ
  pub queue : Queue
  pub here : f place ≡ Some guardian
  pub has_queue : HasQueue f place guardian cells queue
  pub within : Contains cells c
