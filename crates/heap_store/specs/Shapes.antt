-- New objects by what they are to hold.
use Rattle.std.specs.Prelude.{◌≡◌, ℕ, ◌+◌, ◌-◌, ◌/◌, ◌%◌, ◌==◌, List, [], ◌∷◌, ◌++◌, replicate, if◌then◌else◌}
use Rattle.std.specs.Int.{w64, from_le_bytes}
use Rattle.segment.specs.Layout.{words_after, HasLength}
use Rattle.segment.specs.Segments.{Start}
use Rattle.heap_store.specs.declared.shape.Shape.{Shape}
use Rattle.heap_store.specs.declared.shape.Shape.TheVariants.{Two, Filled, Packed}
use Rattle.heap_store.specs.Changes.{new_start}

-- the word whose first bytes, so many of the eight, are this one, and whose other bytes are 0
unfoldable pub packed_word : ℕ → ℕ → ℕ
packed_word byte count = from_le_bytes w64 (replicate count byte ++ replicate (8 - count) 0)

-- so many bytes, eight to a word
abbrev pub packed : ℕ → ℕ → List ℕ
packed byte n =
    replicate (n / 8) (packed_word byte 8) ++ (if n % 8 == 0 then [] else packed_word byte (n % 8) ∷ [])

-- the object that is made on this line
abbrev pub start_of : ℕ → Shape → Start
start_of line (Two kind first second) = new_start kind 2 line (first ∷ second ∷ [])
start_of line (Filled kind length word) = new_start kind length line (replicate length word)
start_of line (Packed kind length byte) = new_start kind length line (packed byte length)

-- the kind has this length, and as many words as are to be filled
abbrev pub HasSize : Shape → Type 0
HasSize (Two kind first second) = HasLength kind 2 × (words_after kind 2 ≡ 2)
HasSize (Filled kind length word) = HasLength kind length × (words_after kind length ≡ length)
HasSize (Packed kind length byte) = HasLength kind length × (words_after kind length ≡ (length + 7) / 8)
