-- A field of an object changed: a word of a value kind, or a byte.
use Rattle.std.proofs.Common.{◌≡◌, ℕ, zero, suc, ◌/◌, ◌%◌, ◌<◌, pos, false, cond, List, [], ◌∷◌, length, map, set, slice_get, get_or, IsTrue, Some, None, sym, ◌∙◌, ap, subst, arith}
use Rattle.std.specs.List.{AllByRecursion}
use Rattle.std.specs.FinMap.{get}
use Rattle.std.proofs.lemmas.Bool.{false≢true}
use Rattle.std.proofs.lemmas.List.{length-set, map-set}
use Rattle.gc_words.specs.Layout.{thread_of}
use Rattle.trace_types.specs.declared.kind.Kind.{Kind}
use Rattle.trace_types.specs.declared.kind.Kind.TheVariants as kind
use Rattle.trace_types.specs.Values as values
use Rattle.trace_types.specs.Values.{fixnum, is_value, is_byte, has_bytes, is_guardian, objects_in, Object, object_at}
use Rattle.trace_types.specs.States.{State, with_field, with_object}
use Rattle.trace_types.specs.Rules.{◌⊆◌}
use Rattle.trace_types.specs.WellFormed.{births, IsWellFormedTo}
use Rattle.trace_types.proofs.Answering.{field_set_well_formed}
use Rattle.segment.specs.Segments.{Start}
use Rattle.territory.specs.Territories.{TerritoryView}
use Rattle.heap_store.specs.Starts.{Starts, is_cell, has_values, read_word, IsWordThere, word_bytes, bytes_of, fields_of, object_of, IsLaidOut, Keeps, IsChanged}
use Rattle.heap_store.specs.HeapView.{HeapView, starts_in, starts_of}
use Rattle.heap_store.specs.Changes.{IsStartChanged}
use Rattle.heap_store.specs.Stands.{Stands}
use Rattle.heap_store.proofs.Kept.{laid_out_kept, fields_kept, no_queue, empty_queue}
use Rattle.heap_store.proofs.Changed.{keeps}
use Rattle.heap_store.proofs.Bytes.{bytes_of_set, byte_set_other}
use Rattle.heap_store.proofs.Territories.{start_before, still_settled, is_changed}
use Rattle.heap_store.proofs.Making.{fields_by}
use Rattle.heap_store.proofs.Standing.{start_changed}

-- ---- what a changed word makes of the fields

set_each : {X : Type 0} (P : X → Type 0) (xs : List X) (i : ℕ) (x : X) → P x → AllByRecursion P xs → AllByRecursion P (set xs i x)
set_each P [] i x h all = all
set_each P (y ∷ xs) zero x h all = (h, all.1)
set_each P (y ∷ xs) (suc i) x h all = (all.0, set_each P xs i x h all.1)

module _ (f : Starts) where
  value_set_by : (k : Kind) (n : ℕ) (ws : List ℕ) (i w : ℕ) → IsTrue (has_values k) → fields_by f k n (set ws i w) ≡ set (fields_by f k n ws) i (read_word f w)
  value_set_by kind.Pair n ws i w is = map-set (read_word f) ws i w
  value_set_by kind.Weak n ws i w is = map-set (read_word f) ws i w
  value_set_by kind.Eph n ws i w is = map-set (read_word f) ws i w
  value_set_by kind.Boxed n ws i w is = map-set (read_word f) ws i w
  value_set_by kind.Vector n ws i w is = map-set (read_word f) ws i w
  value_set_by kind.ImmVector n ws i w is = map-set (read_word f) ws i w
  value_set_by kind.Bytes n ws i w is = absurd (false≢true is)
  value_set_by kind.ImmBytes n ws i w is = absurd (false≢true is)
  value_set_by kind.Guard n ws i w is = absurd (false≢true is)
  value_set_by kind.OrderedGuard n ws i w is = absurd (false≢true is)
  value_set_by kind.Cell n ws i w is = absurd (false≢true is)

  pub value_set : (x : Start) (i w : ℕ) → IsTrue (has_values x.kind) → fields_of f (record x { words = set x.words i w }) ≡ set (fields_of f x) i (read_word f w)
  value_set x i w is = value_set_by x.kind x.length x.words i w is

  byte_set_by : (k : Kind) (n : ℕ) (ws : List ℕ) (i w b : ℕ) → IsTrue (has_bytes k) → i / 8 < length ws → word_bytes w ≡ set (word_bytes (get_or ws (i / 8) 0)) (i % 8) b
      → fields_by f k n (set ws (i / 8) w) ≡ set (fields_by f k n ws) i (fixnum (pos b))
  byte_set_by kind.Bytes n ws i w b is within e = ap (map (λ c. fixnum (pos c))) (bytes_of_set ws n i w b within e) ∙ map-set (λ c. fixnum (pos c)) (bytes_of ws n) i b
  byte_set_by kind.ImmBytes n ws i w b is within e = ap (map (λ c. fixnum (pos c))) (bytes_of_set ws n i w b within e) ∙ map-set (λ c. fixnum (pos c)) (bytes_of ws n) i b
  byte_set_by kind.Pair n ws i w b is within e = absurd (false≢true is)
  byte_set_by kind.Weak n ws i w b is within e = absurd (false≢true is)
  byte_set_by kind.Eph n ws i w b is within e = absurd (false≢true is)
  byte_set_by kind.Boxed n ws i w b is within e = absurd (false≢true is)
  byte_set_by kind.Vector n ws i w b is within e = absurd (false≢true is)
  byte_set_by kind.ImmVector n ws i w b is within e = absurd (false≢true is)
  byte_set_by kind.Guard n ws i w b is within e = absurd (false≢true is)
  byte_set_by kind.OrderedGuard n ws i w b is within e = absurd (false≢true is)
  byte_set_by kind.Cell n ws i w b is within e = absurd (false≢true is)

  pub byte_set : (x : Start) (i w b : ℕ) → IsTrue (has_bytes x.kind) → i / 8 < length x.words → word_bytes w ≡ set (word_bytes (get_or x.words (i / 8) 0)) (i % 8) b
      → fields_of f (record x { words = set x.words (i / 8) w }) ≡ set (fields_of f x) i (fixnum (pos b))
  byte_set x i w b is within e = byte_set_by x.kind x.length x.words i w b is within e

  not_both : (k : Kind) → IsTrue (has_values k) → IsTrue (has_bytes k) → ⊥
  not_both kind.Bytes v b = false≢true v
  not_both kind.ImmBytes v b = false≢true v
  not_both kind.Pair v b = false≢true b
  not_both kind.Weak v b = false≢true b
  not_both kind.Eph v b = false≢true b
  not_both kind.Boxed v b = false≢true b
  not_both kind.Vector v b = false≢true b
  not_both kind.ImmVector v b = false≢true b
  not_both kind.Guard v b = false≢true b
  not_both kind.OrderedGuard v b = false≢true b
  not_both kind.Cell v b = false≢true b

  pub value_laid_out : (x : Start) (i w : ℕ) → IsTrue (has_values x.kind) → IsWordThere f w → IsLaidOut f x → IsLaidOut f (record x { words = set x.words i w })
  value_laid_out x i w is there laid = record {
    sized = laid.sized;
    words = length-set x.words i w ∙ laid.words;
    values = λ v. set_each (IsWordThere f) x.words i w there (laid.values v);
    padding = λ b. absurd (not_both x.kind is b);
  }

  pub byte_laid_out : (x : Start) (i w b : ℕ) → IsTrue (has_bytes x.kind) → i / 8 < length x.words → i < x.length → word_bytes w ≡ set (word_bytes (get_or x.words (i / 8) 0)) (i % 8) b
      → IsLaidOut f x → IsLaidOut f (record x { words = set x.words (i / 8) w })
  byte_laid_out x i w b is within below e laid = record {
    sized = laid.sized;
    words = length-set x.words (i / 8) w ∙ laid.words;
    values = λ v. absurd (not_both x.kind v is);
    padding = λ c j past. byte_set_other x.words i j w b (λ same. absurd (omega (arith, same, past, below))) within e ∙ laid.padding c j past;
  }

-- ---- a field changed

-- the object of the graph that starts at a place, where it is no guardian
pub object_found : (h : HeapView) (s : State) → Stands h s → (a : ℕ) (x : Start) → starts_of h a ≡ Some x → is_cell x.kind ≡ false → is_guardian x.kind ≡ false → object_at s.graph x.birth ≡ Some (object_of (starts_of h) a x [])
object_found h s stands a x there lacks plain =
    let found = stands.graph.objects a x there lacks in
    found.found ∙ ap (λ q. Some (object_of (starts_of h) a x q)) (no_queue (starts_of h) a x found.cells found.queue plain found.has_queue)

module _ (h : HeapView) (s : State) (stands : Stands h s) (old new : TerritoryView) (a : ℕ) (x : Start) (words : List ℕ) (index : ℕ) (v : values.Value) where
  abbrev before : Starts
  before = starts_of h

  abbrev set_in : List TerritoryView
  set_in = set h.territories (thread_of a) new

  abbrev after : Starts
  after = starts_in set_in

  abbrev changed_start : Start
  changed_start = record x { words = words }

  pub field_changed : slice_get h.territories (thread_of a) ≡ Some old → IsStartChanged old new a changed_start → get old.starts a ≡ Some x
      → is_cell x.kind ≡ false → is_guardian x.kind ≡ false → IsLaidOut before changed_start
      → fields_of before changed_start ≡ set (fields_of before x) index v
      → IsTrue (cond (has_bytes x.kind) (is_byte v) (is_value v)) → objects_in (v ∷ []) ⊆ births s
      → Stands (record h { territories = set_in }) (with_field s x.birth (object_of before a x []) index v)
  field_changed found changed there lacks plain laid fields fits named =
      subst (λ o. Stands (record h { territories = set_in }) (with_object s x.birth o)) same_object
      (start_changed h s stands set_in a changed_start is [] [] h.last (still_settled h.territories (thread_of a) old new found stands.territories a changed_start changed)
      (laid_out_kept before after all changed_start laid)
      (empty_queue after a changed_start plain)
      (λ y e. ap is_guardian (ap kind_of (same_start y (sym e ∙ here))) ∙ plain)
      (λ none. absurd (let n : None ≡ Some x = sym none ∙ here in cc))
      (omega arith) stands.last (stands.born a x here)
      (subst (λ o. IsWellFormedTo h.last (with_object s x.birth o)) (sym same_object)
      (field_set_well_formed h.last s stands.well_formed x.birth (object_of before a x []) index v (object_found h s stands a x here lacks plain) fits named)))
    where
      here : before a ≡ Some x
      here = start_before h.territories (thread_of a) old new found stands.territories a changed_start changed ∙ there

      is : IsChanged before after a changed_start
      is = is_changed h.territories (thread_of a) old new found stands.territories a changed_start changed lacks stands.closed x there

      all : Keeps before after
      all = keeps before after a changed_start is

      kind_of : Start → Kind
      kind_of y = y.kind

      same_start : (y : Start) → Some y ≡ Some x → y ≡ x
      same_start y e = cc

      same_object : object_of after a changed_start [] ≡ record (object_of before a x []) { fields = set (fields_of before x) index v }
      same_object = ap (λ fs. let o : Object = record { kind = x.kind; creator = thread_of a; generation = x.generation; fields = fs; queue = [] } in o) (fields_kept before after all changed_start lacks laid ∙ fields)
