-- How the numbers of objects are noted: by the words that refer to them, in rows of 256.
use Rattle.std.specs.Prelude.{◌≡◌, ◌<◌, ◌≤◌, ◌==◌, nat_lt, ℕ, ◌+◌, ◌*◌, ◌/◌, ◌%◌, List, length, slice_index, if◌then◌else◌}
use Rattle.std.specs.List.{position_or_len}

-- the first place of x in the list, or its length where it is not there
abbrev pub place_in : List ℕ → ℕ → ℕ
place_in xs x = position_or_len (λ y. x == y) xs

-- The place among the rows of what a word refers to. Its block has a row, or would get the next one.
abbrev pub place_of : List ℕ → ℕ → ℕ
place_of blocks w = 256 * place_in blocks (w / 4096) + w / 16 % 256

-- one more than the number, or 0 of what has none
abbrev pub note_of : List ℕ → ℕ → ℕ
note_of numbers w =
    if nat_lt (place_in numbers w) (length numbers) then place_in numbers w + 1 else 0

-- Each block has its row, behind these are zeros alone, and each word that refers to an object has its note.
pub record AreNoted (numbers blocks rows : List ℕ) : Type 0 where
  pub room : 256 * length blocks ≤ length rows
  pub spare : (i : ℕ) → 256 * length blocks ≤ i → slice_index rows i ≡ 0
  pub notes : (w : ℕ) → w % 16 ≡ 1 → slice_index rows (place_of blocks w) ≡ note_of numbers w

-- a block and its row, where there is such a row
abbrev pub IsLast : ℕ → ℕ → List ℕ → Type 0
IsLast block row blocks = row < length blocks → place_in blocks block ≡ row
