-- Which registers may hold objects.
use Rattle.std.specs.Prelude.{◌≡◌, ℕ, ◌≤◌, List, slice_index_or, None}
use Rattle.gc_words.specs.declared.value.Value.{Value}
use Rattle.gc_words.specs.declared.value.Value.TheVariants as word
use Rattle.heap_store.specs.Fields.{place_in}

-- no register from one on holds an object
abbrev pub HoldNoneFrom : List Value → ℕ → Type 0
HoldNoneFrom registers from = (r : ℕ) → from ≤ r → place_in (slice_index_or registers r word.Nil) ≡ None
