-- What a heap stands for after one start or one register changed.
use Rattle.std.proofs.Common.{◌≡◌, ℕ, zero, suc, ◌<◌, ◌≤◌, ◌^◌, pos, negsuc, Bool, true, false, not, List, [], ◌∷◌, set, IsTrue, Option, Some, None, nat_cmp, refl, sym, ◌∙◌, ap, subst, arith, inl, inr}
use Rattle.std.specs.List.{AllByRecursion}
use Rattle.std.specs.FinMap.{find}
use Rattle.std.proofs.lemmas.Bool.{false≢true, lt-ltb}
use Rattle.std.proofs.lemmas.List.{map-set}
use Rattle.gc_words.specs.declared.value.Value.{Value}
use Rattle.gc_words.specs.declared.value.Value.TheVariants as word
use Rattle.trace_types.specs.Values.{Object, objects_in, is_value, is_guardian}
use Rattle.trace_types.specs.States.{State, with_object, with_register}
use Rattle.trace_types.specs.Rules.{◌⊆◌}
use Rattle.trace_types.specs.WellFormed.{greatest_line, births, IsWellFormedTo, IsNext}
use Rattle.trace_types.proofs.Answering.{no_objects, found_born}
use Rattle.trace_types.proofs.Stepping.{register_well_formed}
use Rattle.segment.specs.Segments.{Start}
use Rattle.territory.specs.Territories.{TerritoryView}
use Rattle.heap_store.specs.Starts.{Starts, is_cell, is_object, birth_of, read, IsThere, object_of, IsLaidOut, lasting, Keeps, IsChanged}
use Rattle.heap_store.specs.Queues.{Queue, HasQueue}
use Rattle.heap_store.specs.HeapView.{HeapView, starts_in, starts_of}
use Rattle.heap_store.specs.Stands.{AreSettled, HasGuardian, IsLoose, Stands}
use Rattle.heap_store.proofs.Kept.{is_some, same_generation as same_part, registers_kept, notes_kept, registry_kept}
use Rattle.heap_store.proofs.Changed.{keeps, kind_part, changed_closed, changed_graph, changed_locks, queued_kept, now}

-- ---- lines

-- a state is well formed with a greater bound too
pub well_formed_to : (last line : ℕ) (s : State) → last ≤ line → IsWellFormedTo last s → IsWellFormedTo line s
well_formed_to last line s less well = record {
  ordered = well.ordered;
  objects = well.objects;
  in_graph = well.in_graph;
  guardians = well.guardians;
  differ = well.differ;
  in_range = λ n h. let was = well.in_range n h in (was.0, omega (arith, was.1));
  lines_ordered = well.lines_ordered;
  registration_values = well.registration_values;
  locks_ordered = well.locks_ordered;
  locks = well.locks;
  registers = well.registers;
  register_values = well.register_values;
  notes = well.notes;
  thread = well.thread;
  oldest = well.oldest;
  version = well.version;
}

-- a line above the newest one comes next
pub next_line : (last line : ℕ) (s : State) → IsWellFormedTo last s → last < line → line ≤ greatest_line → IsNext s line
next_line last line s well above within = record {
  counted = omega arith;
  bounded = within;
  above = λ n h. let was = well.in_range n h in omega (arith, was.1);
}

-- ---- one start

generation_in : Option Start → ℕ → ℕ
generation_in None n = n
generation_in (Some x) n = x.generation

module _ (h : HeapView) (s : State) (stands : Stands h s) (territories : List TerritoryView) (a : ℕ) (x : Start) (changed : IsChanged (starts_of h) (starts_in territories) a x) where
  abbrev before : Starts
  before = starts_of h

  abbrev after : Starts
  after = starts_in territories

  guardian_kept : (generation : ℕ) → HasGuardian before generation → HasGuardian after generation
  guardian_kept generation was = by_start (after was.place) refl
    where
      same : lasting (after was.place) ≡ lasting (Some was.guardian)
      same = keeps before after a x changed was.place (is_some (before was.place) was.guardian was.here) ∙ ap lasting was.here

      by_start : (o : Option Start) → after was.place ≡ o → HasGuardian after generation
      by_start None e = absurd (let n : None ≡ lasting (Some was.guardian) = sym (ap lasting e) ∙ same in cc)
      by_start (Some y) e = record {
        place = was.place;
        guardian = y;
        here = e;
        is_guardian = ap is_guardian (kind_part y was.guardian (sym (ap lasting e) ∙ same)) ∙ was.is_guardian;
        same_generation = same_part (Some y) (Some was.guardian) (sym (ap lasting e) ∙ same) ∙ was.same_generation;
      }

  loose_kept : (o : Object) (birth : ℕ) (cell : Start) → IsLoose before s cell → IsLoose after (with_object s birth o) cell
  loose_kept o birth cell loose = record {
    words = loose.words;
    no_line = loose.no_line;
    generation = elim (loose.generation) [ inl low ↦ inl low | inr guardian ↦ inr (guardian_kept cell.generation guardian) ];
  }

  -- A start that was added or changed is an object of the graph, new or changed.
  pub start_changed : (cells : List ℕ) (q : Queue) (last : ℕ) → AreSettled territories
      → IsLaidOut after x → HasQueue after a x cells q → ((y : Start) → before a ≡ Some y → is_guardian y.kind ≡ false)
      → (before a ≡ None → find nat_cmp x.birth s.locks ≡ None)
      → h.last ≤ last → last ≤ greatest_line → (1 ≤ x.birth) × (x.birth ≤ last)
      → IsWellFormedTo last (with_object s x.birth (object_of after a x q))
      → Stands (record h { territories = territories; last = last }) (with_object s x.birth (object_of after a x q))
  start_changed cells q last settled laid queue no_guardian unlocked later within born well = record {
    alive = stands.alive;
    territories = settled;
    closed = changed_closed before after a x changed stands.closed laid;
    graph = changed_graph before after a x changed s.graph cells q stands.closed queue stands.graph;
    cells = λ c cell e celled. elim (now before after a x changed c cell e) [
      | inl p ↦ absurd (false≢true (sym (ap (λ (y : Start). is_cell y.kind) (sym p.1) ∙ changed.no_cell) ∙ celled))
      | inr p ↦ elim (stands.cells c cell p.1 celled) [
        | inl queued ↦ inl (queued_kept before after a x changed no_guardian c queued)
        | inr loose ↦ inr (loose_kept (object_of after a x q) x.birth cell loose)
      ]
    ];
    registers = registers_kept before after all h.registers s.registers stands.registers;
    locks = changed_locks before after a x changed h.locks s.locks unlocked stands.locks;
    notes = notes_kept before after all h.notes s.notes stands.notes;
    registry = registry_kept before after all h.registry s.registrations stands.registry;
    thread = stands.thread;
    collects = stands.collects;
    oldest = stands.oldest;
    version = stands.version;
    born = λ b y e. elim (now before after a x changed b y e) [
      | inl p ↦ subst (λ (z : Start). (1 ≤ z.birth) × (z.birth ≤ last)) p.1 born
      | inr p ↦ let was = stands.born b y p.1 in (was.0, omega (arith, was.1))
    ];
    last = within;
    well_formed = well;
  }
    where
      all : Keeps before after
      all = keeps before after a x changed

-- ---- one register

-- a value that is there reads as one in range
pub read_fits : (f : Starts) (v : Value) → IsThere f v → IsTrue (is_value (read f v))
read_fits f (word.Fixnum (pos n)) h = lt-ltb n (2 ^ 60) h
read_fits f (word.Fixnum (negsuc n)) h = lt-ltb n (2 ^ 60) h
read_fits f word.Nil h = refl
read_fits f word.True h = refl
read_fits f word.False h = refl
read_fits f word.Bwp h = refl
read_fits f (word.Object a) h = refl

module _ (h : HeapView) (s : State) (stands : Stands h s) where
  -- the object that is there is in the graph
  birth_there : (o : Option Start) (a : ℕ) → starts_of h a ≡ o → IsTrue (is_object o) → (birth_of o ∷ []) ⊆ births s
  birth_there None a e is = absurd (false≢true is)
  birth_there (Some x) a e is = found_born h.last s stands.well_formed x.birth _ (stands.graph.objects a x e (no_cell_of (is_cell x.kind) is)).found
    where
      no_cell_of : (b : Bool) → IsTrue (not b) → b ≡ false
      no_cell_of true h = absurd (false≢true h)
      no_cell_of false h = refl

  pub read_there : (v : Value) → IsThere (starts_of h) v → objects_in (read (starts_of h) v ∷ []) ⊆ births s
  read_there (word.Fixnum n) there = no_objects (births s)
  read_there word.Nil there = no_objects (births s)
  read_there word.True there = no_objects (births s)
  read_there word.False there = no_objects (births s)
  read_there word.Bwp there = no_objects (births s)
  read_there (word.Object a) there = birth_there (starts_of h a) a refl there

  set_there : (P : Value → Type 0) (vs : List Value) (d : ℕ) (v : Value) → P v → AllByRecursion P vs → AllByRecursion P (set vs d v)
  set_there P [] d v k all = all
  set_there P (w ∷ vs) zero v k all = (k, all.1)
  set_there P (w ∷ vs) (suc d) v k all = (all.0, set_there P vs d v k all.1)

  -- a register gets a value that is there
  pub register_changed : (d : ℕ) (v : Value) → IsThere (starts_of h) v → Stands (record h { registers = set h.registers d v }) (with_register s d (read (starts_of h) v))
  register_changed d v there = record {
    alive = stands.alive;
    territories = stands.territories;
    closed = stands.closed;
    graph = stands.graph;
    cells = λ c cell e is. elim (stands.cells c cell e is) [
      | inl queued ↦ inl queued
      | inr loose ↦ inr (record { words = loose.words; no_line = loose.no_line; generation = loose.generation })
    ];
    registers = record {
      there = set_there (IsThere (starts_of h)) h.registers d v there stands.registers.there;
      reads = ap (λ vs. set vs d (read (starts_of h) v)) stands.registers.reads ∙ sym (map-set (read (starts_of h)) h.registers d v);
    };
    locks = stands.locks;
    notes = stands.notes;
    registry = stands.registry;
    thread = stands.thread;
    collects = stands.collects;
    oldest = stands.oldest;
    version = stands.version;
    born = stands.born;
    last = stands.last;
    well_formed = register_well_formed h.last s d (read (starts_of h) v) stands.well_formed (read_fits (starts_of h) v there) (read_there v there);
  }
