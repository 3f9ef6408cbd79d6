-- What is counted: the objects of a generation, and the words that they take.
use Rattle.std.specs.Prelude.{◌≡◌, ◌≤◌, eqb, Bool, false, not, ◌&&◌, ◌==◌, ℕ, ◌+◌, ◌*◌, ◌/◌, List, length, IsSome}
use Rattle.std.specs.Prelude.{Option, Some, None, if◌then◌else◌}
use Rattle.std.specs.List.{AllByRecursion, IsDistinct, sum_by}
use Rattle.trace_types.specs.Rules.{has}
use Rattle.trace_types.specs.WellFormed.{greatest_line}
use Rattle.segment.specs.Layout.{space_of, skip_of, words_after}
use Rattle.segment.specs.Segments.{Start}
use Rattle.heap_store.specs.Starts.{Starts, is_cell, is_object}

-- whether an object of this generation starts there
abbrev pub is_of_generation : ℕ → Option Start → Bool
is_of_generation g None = false
is_of_generation g (Some x) = not (is_cell x.kind) && (x.generation == g)

-- the words of what starts there, header and all
abbrev pub words_in : Option Start → ℕ
words_in None = 0
words_in (Some x) = (skip_of (space_of x.kind) + words_after x.kind x.length + 1) / 2 * 2

-- the places are those of all objects of this generation, each once
pub record AreOfGeneration (f : Starts) (g : ℕ) (places : List ℕ) : Type 0 where
  pub once : IsDistinct eqb places
  pub these : (a : ℕ) → has places a ≡ is_of_generation g (f a)

-- ---- starts one after the other

-- an object counts as one, and a queue cell as none
abbrev pub objects_counted : Option Start → ℕ
objects_counted o = if is_object o then 1 else 0

-- an object counts with its words, and a queue cell with none
abbrev pub words_counted : Option Start → ℕ
words_counted o = if is_object o then words_in o else 0

-- the objects at these places
abbrev pub objects_among : Starts → List ℕ → ℕ
objects_among f places = sum_by (λ a. objects_counted (f a)) places

-- their words
abbrev pub words_among : Starts → List ℕ → ℕ
words_among f places = sum_by (λ a. words_counted (f a)) places

-- however many starts are named, each once: there are no more than lines
abbrev pub AreFew : Starts → Type 0
AreFew f = (places : List ℕ) → IsDistinct eqb places → AllByRecursion (λ a. IsSome (f a)) places
    → length places ≤ greatest_line
