-- The forwarding words, what a seat knows of them, and the rule over both.
-- Word 0 counts the numbers that were claimed. The words of range k follow those of range k - 1, and range 0 begins at word 1.
use Rattle.std.specs.Prelude.{◌≡◌, ◌⊎◌, ℕ, ◌+◌, ◌-◌, ◌<◌, ◌≤◌, ◌≢◌, List, [], ◌∷◌, ◌++◌, length, take, sum, sum_by, slice_index, Contains, Some, None}
use mathlib.Core.Option.{some}
use lib.ListN.{get_elem?}
use Rattle.atomic_table.specs.Table.{Me, Step}
use Rattle.gc_words.specs.declared.value.Value.TheVariants.{Object}
use Rattle.gc_words.specs.Word.{word_of, value_of}
use Rattle.live_forward.specs.declared.view.View.{View}

-- the word that names a place, by its address number
abbrev pub place_word : ℕ → ℕ
place_word a = word_of (Object a)

-- the word names a place
abbrev pub IsPlace : ℕ → Type 0
IsPlace w = (a : ℕ) × (value_of w ≡ Some (Object a))

-- the first word of range k, and the first word behind range k - 1
abbrev pub start_of : List ℕ → ℕ → ℕ
start_of ranges k = 1 + sum (take k ranges)

abbrev pub IsWithin : List ℕ → ℕ → ℕ → Type 0
IsWithin ranges k w = (start_of ranges k ≤ w) × (w < start_of ranges (k + 1))

-- the word is in one of the ranges
abbrev pub IsRanged : List ℕ → ℕ → Type 0
IsRanged ranges w = (0 < w) × (w < 1 + sum ranges)

-- the word is in the view's range, which is that of its number
abbrev pub Owns : View → ℕ → Type 0
Owns v w = (k : ℕ) × (v.number ≡ Some k) × IsWithin v.ranges k w

-- some place is recorded for the word
abbrev pub Records : List (ℕ × ℕ) → ℕ → Type 0
Records pairs w = (x : ℕ) × Contains pairs (w, x)

-- the view of the first seat
abbrev pub first_view : List ℕ → View
first_view ranges = record { ranges = ranges; number = None; floor = 0; rights = length ranges; own = []; seen = [] }

-- what is left of a view that was joined into another
abbrev pub spent : View
spent = record { ranges = []; number = None; floor = 0; rights = 0; own = []; seen = [] }

-- the view that is split has given up its rights
abbrev pub without_rights : View → View
without_rights v = record v { rights = 0 }

-- the view of the new seat
abbrev pub split_off : View → View
split_off v = record { ranges = v.ranges; number = None; floor = v.floor; rights = v.rights; own = []; seen = v.own ++ v.seen }

-- the view has the number n, and has spent a right
abbrev pub claimed : ℕ → View → View
claimed n v = record v { number = Some n; floor = n + 1; rights = v.rights - 1 }

-- the view has forwarded one object more
abbrev pub stored : ℕ → ℕ → View → View
stored w x v = record v { own = v.own ++ (w, x) ∷ [] }

-- the view has seen one forward more
abbrev pub saw : ℕ → ℕ → View → View
saw w x v = record v { seen = v.seen ++ (w, x) ∷ [] }

-- the one view takes in what the other forwarded and saw
abbrev pub joined : View → View → View
joined v u = record v { seen = v.seen ++ (u.own ++ u.seen) }

-- What the rule says of one view. Its ranges are the table's, where it is not spent. Its number, if it has one,
-- and its floor are those of claims that were made. What it forwarded is in words of its range, and these words
-- are 0 otherwise. What it has seen is in words of some range.
pub record Fits (ranges words : List ℕ) (v : View) : Type 0 where
  pub ranged : (v.ranges ≡ ranges) ⊎ (v ≡ spent)
  pub number : (k : ℕ) → v.number ≡ Some k → k < slice_index words 0
  pub floor : v.floor ≤ slice_index words 0
  pub own : (w x : ℕ) → Contains v.own (w, x) → Owns v w × (slice_index words w ≡ place_word x)
  pub rest : (w : ℕ) → Owns v w → (slice_index words w ≡ 0) ⊎ Records v.own w
  pub seen : (w x : ℕ) → Contains v.seen (w, x) → IsRanged ranges w × (slice_index words w ≡ place_word x)

-- The rule. There is a word 0, and one for each place in a range. Each view fits, and no two have one number.
-- There are ranges for the numbers claimed and for all rights to claim. The words of a range that no view has
-- are 0, and each word of a range is 0 or names a place.
pub record KeepsRule (ranges words : List ℕ) (views : List View) : Type 0 where
  pub size : length words ≡ 1 + sum ranges
  pub each : (id : ℕ) (v : View) → get_elem? views id ≡ some v → Fits ranges words v
  pub apart : (i j k : ℕ) (v u : View) → get_elem? views i ≡ some v → get_elem? views j ≡ some u
      → v.number ≡ Some k → u.number ≡ Some k → i ≡ j
  pub rights : slice_index words 0 + sum_by (λ v. v.rights) views ≤ length ranges
  pub unclaimed : (k w : ℕ) → slice_index words 0 ≤ k → IsWithin ranges k w → slice_index words w ≡ 0
  pub places : (w : ℕ) → 0 < w → slice_index words w ≢ 0 → IsPlace (slice_index words w)

-- What the steps tell. A claim gives the word found as the number
abbrev pub Claims : Step ℕ → Me ℕ View → ℕ → Me ℕ View → Type 0
Claims s v n w = (w ≡ (claimed n v.0, v.1)) × (v.0.floor ≤ n) × (n + v.0.rights ≤ length v.0.ranges)

-- A store records the place
abbrev pub Stores : Step ℕ → Me ℕ View → ℕ → Me ℕ View → Type 0
Stores s v n w = (x : ℕ) → n ≡ place_word x → w ≡ (stored s.word x v.0, v.1)

-- A load finds what the seat stored or saw, and records what it finds
abbrev pub Loads : Step ℕ → Me ℕ View → ℕ → Me ℕ View → Type 0
Loads s v n w =
    ((x : ℕ) → Contains v.0.own (s.word, x) → n ≡ place_word x)
    × ((x : ℕ) → Contains v.0.seen (s.word, x) → n ≡ place_word x)
    × (n ≡ 0 → w ≡ v)
    × (n ≢ 0 → IsPlace n)
    × ((x : ℕ) → n ≡ place_word x → w ≡ (saw s.word x v.0, v.1))

-- What was seen is what the owner forwarded: one place for a word, and where the view owns the word, its own
pub record Agrees (v : View) : Type 0 where
  pub own : (w x : ℕ) → Contains v.seen (w, x) → Owns v w → Contains v.own (w, x)
  pub same : (w x y : ℕ) → Contains v.seen (w, x) → Contains v.seen (w, y) → x ≡ y

-- A look at the counter compares what was seen with what was forwarded
abbrev pub Settles : Step ℕ → Me ℕ View → ℕ → Me ℕ View → Type 0
Settles s v n w = (w ≡ v) × Agrees v.0
