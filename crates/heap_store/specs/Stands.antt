-- A heap stands for a state.
use Rattle.std.specs.Prelude.{◌≡◌, ℕ, ◌≤◌, ◌⊎◌, true, false, List, [], ◌∷◌, length, slice_get, IsTrue, Some}
use Rattle.std.specs.FinMap.{get}
use Rattle.gc_words.specs.Layout.{thread_of}
use Rattle.trace_types.specs.Values.{is_guardian}
use Rattle.trace_types.specs.States.{State}
use Rattle.trace_types.specs.Rules.{has}
use Rattle.trace_types.specs.WellFormed.{greatest_line, registration_lines, IsWellFormedTo}
use Rattle.segment.specs.Segments.{Start}
use Rattle.territory.specs.Territories.{TerritoryView}
use Rattle.heap_store.specs.Starts.{Starts, is_cell, IsClosed}
use Rattle.heap_store.specs.Queues.{nil_word, IsQueued}
use Rattle.heap_store.specs.Graphs.{GraphStands}
use Rattle.heap_store.specs.Roots.{RegistersStand, LocksStand, NotesStand, RegistryStands}
use Rattle.heap_store.specs.HeapView.{HeapView, starts_of}
use Rattle.heap_store.specs.Changes.{HasNoFrom}

-- The territories of threads 0 to 63, in this order: a start is in the one of its thread, and no segment is
-- set aside for a collection.
pub record AreSettled (territories : List TerritoryView) : Type 0 where
  pub count : length territories ≡ 64
  pub threads : (i : ℕ) (t : TerritoryView) → slice_get territories i ≡ Some t → t.thread ≡ i
  pub placed : (i : ℕ) (t : TerritoryView) (a : ℕ) (x : Start) → slice_get territories i ≡ Some t
      → get t.starts a ≡ Some x → thread_of a ≡ i
  pub no_from : (i : ℕ) (t : TerritoryView) → slice_get territories i ≡ Some t → HasNoFrom t

-- a guardian of this generation
pub record HasGuardian (f : Starts) (generation : ℕ) : Type 0 where
  pub place : ℕ
  pub guardian : Start
  pub here : f place ≡ Some guardian
  pub is_guardian : IsTrue (is_guardian guardian.kind)
  pub same_generation : guardian.generation ≡ generation

-- A cell that was taken from its queue holds nothing until a collection reclaims it.
pub record IsLoose (f : Starts) (s : State) (cell : Start) : Type 0 where
  pub words : cell.words ≡ nil_word ∷ nil_word ∷ []
  pub no_line : has (registration_lines s) cell.birth ≡ false
  pub generation : (cell.generation ≤ s.oldest) ⊎ HasGuardian f cell.generation

-- A heap that has not failed stands for a state. Its starts are the objects, by birth, and its cells are in
-- queues or loose. Registers, locks, notes and registrations are the state's, with each birth replaced by
-- the place of its object; all else is equal. No number of the heap or the state is above the newest line.
pub record Stands (h : HeapView) (s : State) : Type 0 where
  pub alive : h.failed ≡ false
  pub territories : AreSettled h.territories
  pub closed : IsClosed (starts_of h)
  pub graph : GraphStands (starts_of h) s.graph
  pub cells : (c : ℕ) (cell : Start) → starts_of h c ≡ Some cell → is_cell cell.kind ≡ true
      → IsQueued (starts_of h) c ⊎ IsLoose (starts_of h) s cell
  pub registers : RegistersStand (starts_of h) h.registers s.registers
  pub locks : LocksStand (starts_of h) h.locks s.locks
  pub notes : NotesStand (starts_of h) h.notes s.notes
  pub registry : RegistryStands (starts_of h) h.registry s.registrations
  pub thread : s.thread ≡ h.thread
  pub collects : s.collects ≡ h.collects
  pub oldest : s.oldest ≡ h.oldest
  pub version : s.version ≡ h.version
  pub born : (a : ℕ) (x : Start) → starts_of h a ≡ Some x → (1 ≤ x.birth) × (x.birth ≤ h.last)
  pub last : h.last ≤ greatest_line
  pub well_formed : IsWellFormedTo h.last s
