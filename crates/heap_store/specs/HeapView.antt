-- What contracts see of a heap.
use Rattle.std.specs.Prelude.{ℕ, Bool, List, Option, Some, None, slice_get}
use Rattle.std.specs.FinMap.{get}
use Rattle.gc_words.specs.declared.value.Value.{Value}
use Rattle.gc_words.specs.declared.registration.Registration.{Registration}
use Rattle.gc_words.specs.Layout.{thread_of}
use Rattle.segment.specs.Segments.{Start}
use Rattle.territory.specs.Territories.{TerritoryView}
use Rattle.heap_store.specs.declared.notes.Noted.{Noted}
use Rattle.heap_store.specs.Starts.{Starts}

-- Whether a call ran out of memory; the newest line that the heap was given, 0 at first; a territory for
-- each thread; what each register holds; the locked places with their counts, in ascending order; 256
-- notes; nine lists of registrations, one for each level; the current thread, how many plain collections
-- there were, the oldest generation that is collected, and the version.
pub record HeapView : Type 0 where
  pub failed : Bool
  pub last : ℕ
  pub territories : List TerritoryView
  pub registers : List Value
  pub locks : List (ℕ × ℕ)
  pub notes : List Noted
  pub registry : List (List Registration)
  pub thread : ℕ
  pub collects : ℕ
  pub oldest : ℕ
  pub version : ℕ

abbrev pub start_in : Option TerritoryView → ℕ → Option Start
start_in None a = None
start_in (Some t) a = get t.starts a

-- what starts at an address, by the territory of its thread
abbrev pub starts_in : List TerritoryView → Starts
starts_in territories a = start_in (slice_get territories (thread_of a)) a

abbrev pub starts_of : HeapView → Starts
starts_of h = starts_in h.territories
