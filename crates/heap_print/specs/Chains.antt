-- A queue in memory: a chain of cells.
use Rattle.std.specs.Prelude.{◌≡◌, ℕ, List, [], ◌∷◌, length, slice_index, Some}
use Rattle.gc_words.specs.declared.value.Value.TheVariants.{Object}
use Rattle.gc_words.specs.Word.{value_of}
use Rattle.territory.specs.Territories.{words_of as words_at}
use Rattle.heap_store.specs.Queues.{nil_word}
use Rattle.heap_store.specs.Starts.{Starts}

-- From a word that refers to the first of these cells, each cell refers to the next by its second word, and the
-- last one's is `nil`. Without cells the word is `nil`.
abbrev pub IsChain : Starts → ℕ → List ℕ → Type 0
IsChain f w [] = w ≡ nil_word
IsChain f w (c ∷ cells) =
    (value_of w ≡ Some (Object c)) × (length (words_at (f c)) ≡ 2)
    × IsChain f (slice_index (words_at (f c)) 1) cells
