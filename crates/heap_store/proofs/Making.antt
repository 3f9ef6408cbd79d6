-- A new object: its fields fit a graph, and it stands for a new object in a register.
use Rattle.std.proofs.Common.{◌≡◌, ◌≢◌, ℕ, ◌+◌, ◌<◌, ◌≤◌, ◌==◌, pos, true, false, not, ◌||◌, cond, List, [], ◌∷◌, ◌++◌, flat_map, slice_get, length, map, set, IsTrue, Option, Some, None, nat_cmp, refl, sym, ◌∙◌, ap, subst, arith, inl, inr}
use Rattle.std.specs.List.{AllByRecursion, list_all, range_with_len}
use Rattle.std.specs.FinMap.{get, find}
use Rattle.std.specs.Cmp.{unsigned_tied}
use Rattle.std.proofs.lemmas.Bool.{cases_eq, cases_Bool, false≢true, eq-eqb, ne_eqb, le-leb, lt-ltb, and_from, or_left}
use Rattle.std.proofs.lemmas.List.{length-map}
use Rattle.std.proofs.lemmas.List.FromFn.{length-map-range_with_len}
use Rattle.gc_words.specs.declared.value.Value.{Value}
use Rattle.gc_words.specs.declared.value.Value.TheVariants as word
use Rattle.gc_words.specs.Word.{value_of}
use Rattle.gc_words.specs.Layout.{thread_of}
use Rattle.trace_types.specs.declared.kind.Kind.{Kind}
use Rattle.trace_types.specs.declared.kind.Kind.TheVariants as kind
use Rattle.trace_types.specs.Values as values
use Rattle.trace_types.specs.Values.{fixnum, object, is_value, is_byte, has_bytes, is_guardian, objects_in, Object, object_at}
use Rattle.trace_types.specs.States.{State, locked, with_new, with_object, with_register, new_object}
use Rattle.trace_types.specs.Rules.{has, ◌⊆◌}
use Rattle.trace_types.specs.WellFormed.{greatest_line, occurrences, registration_lines, has_its_fields, fields_fit, births, IsWellFormedTo}
use Rattle.trace_types.proofs.Answering.{no_objects}
use Rattle.trace_types.proofs.Differing.{occurrences-append}
use Rattle.trace_types.proofs.Named.{objects_both, names_parts}
use Rattle.trace_types.proofs.Stepping.{queue_lines, new_well_formed}
use Rattle.segment.specs.Layout.{words_after, HasLength}
use Rattle.segment.specs.Segments.{Start}
use Rattle.heap_store.specs.Starts.{Starts, is_cell, is_object, has_values, read_option, read_word, IsThereOption, IsWordThere, byte_at, bytes_of, fields_of, object_of, birth_of, IsLaidOut, Keeps, IsChanged}
use Rattle.heap_store.specs.Queues.{nil_word}
use Rattle.territory.specs.Territories.{TerritoryView}
use Rattle.heap_store.specs.HeapView.{HeapView, starts_in, starts_of}
use Rattle.heap_store.specs.Changes.{IsStartChanged}
use Rattle.heap_store.specs.Stands.{Stands}
use Rattle.heap_store.proofs.Bytes.{bytes_small}
use Rattle.heap_store.proofs.Kept.{laid_out_kept, fields_kept}
use Rattle.heap_store.proofs.Changed.{keeps}
use Rattle.heap_store.proofs.Territories.{its_place, start_before, start_after, still_settled, is_added}
use Rattle.heap_store.proofs.Standing.{well_formed_to, next_line, start_changed, register_changed, read_fits, read_there}

-- ---- the fields of a start fit its kind

module _ (f : Starts) where
  abbrev pub fields_by : Kind → ℕ → List ℕ → List values.Value
  fields_by k n ws = fields_of f (record { kind = k; length = n; generation = 0; birth = 0; words = ws })

  byte_fields : (n : ℕ) (ws : List ℕ) → length (map (λ b. fixnum (pos b)) (bytes_of ws n)) ≡ n
  byte_fields n ws = length-map (bytes_of ws n) (λ b. fixnum (pos b)) ∙ length-map-range_with_len (byte_at ws) 0 n

  word_fields : (ws : List ℕ) → length (map (read_word f) ws) ≡ length ws
  word_fields ws = length-map ws (read_word f)

  -- as many as its length
  pub fields_count : (k : Kind) (n : ℕ) (ws : List ℕ) → is_cell k ≡ false → HasLength k n → length ws ≡ words_after k n → length (fields_by k n ws) ≡ n
  fields_count kind.Pair n ws lacks sized count = word_fields ws ∙ count ∙ sym sized
  fields_count kind.Weak n ws lacks sized count = word_fields ws ∙ count ∙ sym sized
  fields_count kind.Eph n ws lacks sized count = word_fields ws ∙ count ∙ sym sized
  fields_count kind.Boxed n ws lacks sized count = word_fields ws ∙ count ∙ sym sized
  fields_count kind.Vector n ws lacks sized count = word_fields ws ∙ count
  fields_count kind.ImmVector n ws lacks sized count = word_fields ws ∙ count
  fields_count kind.Bytes n ws lacks sized count = byte_fields n ws
  fields_count kind.ImmBytes n ws lacks sized count = byte_fields n ws
  fields_count kind.Guard n ws lacks sized count = sym sized
  fields_count kind.OrderedGuard n ws lacks sized count = sym sized
  fields_count kind.Cell n ws lacks sized count = absurd (false≢true (sym lacks))

  shape_by : (k : Kind) (n : ℕ) (fields : List values.Value) → is_cell k ≡ false → HasLength k n → length fields ≡ n → IsTrue (has_its_fields k fields)
  shape_by kind.Pair n fields lacks sized count = eq-eqb (length fields) 2 (count ∙ sized)
  shape_by kind.Weak n fields lacks sized count = eq-eqb (length fields) 2 (count ∙ sized)
  shape_by kind.Eph n fields lacks sized count = eq-eqb (length fields) 2 (count ∙ sized)
  shape_by kind.Boxed n fields lacks sized count = eq-eqb (length fields) 1 (count ∙ sized)
  shape_by kind.Vector n fields lacks sized count = le-leb (length fields) 4000000 (omega (arith, count, sized))
  shape_by kind.ImmVector n fields lacks sized count = le-leb (length fields) 4000000 (omega (arith, count, sized))
  shape_by kind.Bytes n fields lacks sized count = le-leb (length fields) 4000000 (omega (arith, count, sized))
  shape_by kind.ImmBytes n fields lacks sized count = le-leb (length fields) 4000000 (omega (arith, count, sized))
  shape_by kind.Guard n fields lacks sized count = eq-eqb (length fields) 0 (count ∙ sized)
  shape_by kind.OrderedGuard n fields lacks sized count = eq-eqb (length fields) 0 (count ∙ sized)
  shape_by kind.Cell n fields lacks sized count = absurd (false≢true (sym lacks))

  pub fields_shape : (x : Start) → is_cell x.kind ≡ false → IsLaidOut f x → IsTrue (has_its_fields x.kind (fields_of f x))
  fields_shape x lacks laid = shape_by x.kind x.length (fields_of f x) lacks laid.sized (fields_count x.kind x.length x.words lacks laid.sized laid.words)

  word_fits : (o : Option Value) → IsThereOption f o → IsTrue (is_value (read_option f o))
  word_fits None there = absurd there
  word_fits (Some v) there = read_fits f v there

  words_fit : (ws : List ℕ) → AllByRecursion (IsWordThere f) ws → IsTrue (list_all is_value (map (read_word f) ws))
  words_fit [] there = refl
  words_fit (w ∷ ws) there = and_from (is_value (read_word f w)) (list_all is_value (map (read_word f) ws)) (word_fits (value_of w) there.0) (words_fit ws there.1)

  bytes_fit : (ws : List ℕ) (ns : List ℕ) → IsTrue (list_all is_byte (map (λ b. fixnum (pos b)) (map (byte_at ws) ns)))
  bytes_fit ws [] = refl
  bytes_fit ws (i ∷ ns) =
      and_from (is_byte (fixnum (pos (byte_at ws i)))) (list_all is_byte (map (λ b. fixnum (pos b)) (map (byte_at ws) ns))) (lt-ltb (byte_at ws i) 256 (bytes_small _ _)) (bytes_fit ws ns)

  fit_by : (k : Kind) (n : ℕ) (ws : List ℕ) → is_cell k ≡ false → (IsTrue (has_values k) → AllByRecursion (IsWordThere f) ws) → IsTrue (fields_fit k (fields_by k n ws))
  fit_by kind.Pair n ws lacks there = words_fit ws (there refl)
  fit_by kind.Weak n ws lacks there = words_fit ws (there refl)
  fit_by kind.Eph n ws lacks there = words_fit ws (there refl)
  fit_by kind.Boxed n ws lacks there = words_fit ws (there refl)
  fit_by kind.Vector n ws lacks there = words_fit ws (there refl)
  fit_by kind.ImmVector n ws lacks there = words_fit ws (there refl)
  fit_by kind.Bytes n ws lacks there = bytes_fit ws (range_with_len 0 n)
  fit_by kind.ImmBytes n ws lacks there = bytes_fit ws (range_with_len 0 n)
  fit_by kind.Guard n ws lacks there = refl
  fit_by kind.OrderedGuard n ws lacks there = refl
  fit_by kind.Cell n ws lacks there = absurd (false≢true (sym lacks))

  pub fields_fitting : (x : Start) → is_cell x.kind ≡ false → IsLaidOut f x → IsTrue (fields_fit x.kind (fields_of f x))
  fields_fitting x lacks laid = fit_by x.kind x.length x.words lacks laid.values

-- ---- the objects in them are in the graph

module _ (h : HeapView) (s : State) (stands : Stands h s) where
  word_named : (o : Option Value) → IsThereOption (starts_of h) o → objects_in (read_option (starts_of h) o ∷ []) ⊆ births s
  word_named None there = absurd there
  word_named (Some v) there = read_there h s stands v there

  words_named : (ws : List ℕ) → AllByRecursion (IsWordThere (starts_of h)) ws → objects_in (map (read_word (starts_of h)) ws) ⊆ births s
  words_named [] there = no_objects (births s)
  words_named (w ∷ ws) there = objects_both (read_word (starts_of h) w ∷ []) (map (read_word (starts_of h)) ws) (births s) (word_named (value_of w) there.0) (words_named ws there.1)

  bytes_named : (ws : List ℕ) (ns : List ℕ) → objects_in (map (λ b. fixnum (pos b)) (map (byte_at ws) ns)) ⊆ births s
  bytes_named ws [] = no_objects (births s)
  bytes_named ws (i ∷ ns) = bytes_named ws ns

  named_by : (k : Kind) (n : ℕ) (ws : List ℕ) → is_cell k ≡ false → (IsTrue (has_values k) → AllByRecursion (IsWordThere (starts_of h)) ws) → objects_in (fields_by (starts_of h) k n ws) ⊆ births s
  named_by kind.Pair n ws lacks there = words_named ws (there refl)
  named_by kind.Weak n ws lacks there = words_named ws (there refl)
  named_by kind.Eph n ws lacks there = words_named ws (there refl)
  named_by kind.Boxed n ws lacks there = words_named ws (there refl)
  named_by kind.Vector n ws lacks there = words_named ws (there refl)
  named_by kind.ImmVector n ws lacks there = words_named ws (there refl)
  named_by kind.Bytes n ws lacks there = bytes_named ws (range_with_len 0 n)
  named_by kind.ImmBytes n ws lacks there = bytes_named ws (range_with_len 0 n)
  named_by kind.Guard n ws lacks there = no_objects (births s)
  named_by kind.OrderedGuard n ws lacks there = no_objects (births s)
  named_by kind.Cell n ws lacks there = absurd (false≢true (sym lacks))

  pub fields_named : (x : Start) → is_cell x.kind ≡ false → IsLaidOut (starts_of h) x → objects_in (fields_of (starts_of h) x) ⊆ births s
  fields_named x lacks laid = named_by x.kind x.length x.words lacks laid.values

-- ---- a new number

has_occurs : (xs : List ℕ) (n : ℕ) → IsTrue (has xs n) → 1 ≤ occurrences n xs
has_occurs [] n h = absurd (false≢true h)
has_occurs (x ∷ xs) n h =
    elim (x == n) as (λ b. IsTrue (b || has xs n) → 1 ≤ cond b 1 0 + occurrences n xs) [
      | true ↦ λ _. omega arith
      | false ↦ λ later. let rest = has_occurs xs n later in omega (arith, rest)
    ] h

not_found : (locks : List (ℕ × ℕ)) (n : ℕ) → has (map (λ e. e.0) locks) n ≡ false → find nat_cmp n locks ≡ None
not_found [] n h = refl
not_found (e ∷ locks) n h =
    ap (λ b. cond b (Some e.1) (find nat_cmp n locks)) (unsigned_tied n e.0)
    ∙ elim (cases_eq n e.0) [
      | inl same ↦ absurd (false≢true (sym h ∙ or_left (e.0 == n) (has (map (λ d. d.0) locks) n) (eq-eqb e.0 n (sym same))))
      | inr ne ↦ ap (λ b. cond b (Some e.1) (find nat_cmp n locks)) (ne_eqb n e.0 ne)
          ∙ not_found locks n (sym (ap (λ b. b || has (map (λ d. d.0) locks) n) (ne_eqb e.0 n (λ same. ne (sym same)))) ∙ h)
    ]

-- a number above all those of a state is no birth, and isn't locked
pub unlocked : (last line : ℕ) (s : State) → IsWellFormedTo last s → last < line → find nat_cmp line s.locks ≡ None
unlocked last line s well above =
    not_found s.locks line (elim (cases_Bool (has (locked s) line)) [
      | inl is ↦
          let born = has_occurs (births s) line ((names_parts s (births s) well.in_graph).locks line is) in
          let front = occurrences-append line (births s) (registration_lines s) in
          let whole = occurrences-append line (births s ++ registration_lines s) (flat_map queue_lines s.graph) in
          let bound = well.in_range line (omega (arith, born, front, whole)) in
          absurd (omega (arith, bound.1, above))
      | inr none ↦ none
    ])

-- ---- a new object in a register

module _ (h : HeapView) (s : State) (stands : Stands h s) (old new : TerritoryView) (a : ℕ) (x : Start) where
  abbrev before : Starts
  before = starts_of h

  abbrev made_in : List TerritoryView
  made_in = set h.territories h.thread new

  abbrev after : Starts
  after = starts_in made_in

  -- no start has a birth above the newest line
  pub fresh : h.last < x.birth → (b : ℕ) (y : Start) → before b ≡ Some y → y.birth ≢ x.birth
  fresh above b y e same = let was = stands.born b y e in absurd (omega (arith, was.1, same))

  -- a new object of the current thread
  object_made : slice_get h.territories h.thread ≡ Some old → IsStartChanged old new a x → get old.starts a ≡ None
      → is_cell x.kind ≡ false → x.generation ≡ 0 → h.last < x.birth → x.birth ≤ greatest_line → IsLaidOut before x
      → (IsTrue (is_guardian x.kind) → x.words ≡ nil_word ∷ nil_word ∷ nil_word ∷ [])
      → Stands (record h { territories = made_in; last = x.birth }) (with_object s x.birth (new_object s x.kind (fields_of before x)))
  object_made found changed free lacks young above within laid no_queue =
      subst (λ o. Stands (record h { territories = made_in; last = x.birth }) (with_object s x.birth o)) same_object
      (start_changed h s stands made_in a x added [] [] x.birth (still_settled h.territories h.thread old new found stands.territories a x changed)
      (laid_out_kept before after all x laid)
      (record { are_cells = tt; ends = no_queue; no_guardian = λ _. refl })
      (λ y e. absurd (none_there y e))
      (λ _. unlocked h.last x.birth s stands.well_formed above)
      (omega arith) within (omega arith, omega arith)
      (subst (λ o. IsWellFormedTo x.birth (with_object s x.birth o)) (sym same_object) well))
    where
      added : IsChanged before after a x
      added = is_added h.territories h.thread old new found stands.territories a x changed lacks free (fresh above)

      all : Keeps before after
      all = keeps before after a x added

      none_there : (y : Start) → before a ≡ Some y → ⊥
      none_there y e = let n : None ≡ Some y = sym free ∙ sym (start_before h.territories h.thread old new found stands.territories a x changed) ∙ e in cc

      creator : thread_of a ≡ s.thread
      creator = its_place h.territories h.thread old new found stands.territories a x changed ∙ sym stands.thread

      same_object : object_of after a x [] ≡ new_object s x.kind (fields_of before x)
      same_object = λ i. let o : Object = record { kind = x.kind; creator = creator i; generation = young i; fields = fields_kept before after all x lacks laid i; queue = [] } in o

      well : IsWellFormedTo x.birth (with_object s x.birth (new_object s x.kind (fields_of before x)))
      well = new_well_formed x.birth s x.birth x.kind (fields_of before x) (well_formed_to h.last x.birth s (omega arith) stands.well_formed)
          (next_line h.last x.birth s stands.well_formed above within) (omega arith)
          (fields_shape before x lacks laid) (fields_fitting before x lacks laid) (fields_named h s stands x lacks laid)

  -- A new object of the current thread, whose birth is the line, in a register.
  pub made : (d : ℕ) → slice_get h.territories h.thread ≡ Some old → IsStartChanged old new a x → get old.starts a ≡ None
      → is_cell x.kind ≡ false → x.generation ≡ 0 → h.last < x.birth → x.birth ≤ greatest_line → IsLaidOut before x
      → (IsTrue (is_guardian x.kind) → x.words ≡ nil_word ∷ nil_word ∷ nil_word ∷ [])
      → Stands (record h { territories = made_in; last = x.birth; registers = set h.registers d (word.Object a) }) (with_new s x.birth d x.kind (fields_of before x))
  made d found changed free lacks young above within laid no_queue =
      subst (λ n. Stands (record h { territories = made_in; last = x.birth; registers = set h.registers d (word.Object a) }) (with_register (with_object s x.birth (new_object s x.kind (fields_of before x))) d (object n)))
      (ap birth_of here)
      (register_changed (record h { territories = made_in; last = x.birth }) (with_object s x.birth (new_object s x.kind (fields_of before x)))
      (object_made found changed free lacks young above within laid no_queue) d (word.Object a) (ap is_object here ∙ ap not lacks))
    where
      here : after a ≡ Some x
      here = start_after h.territories h.thread old new found stands.territories a x changed
