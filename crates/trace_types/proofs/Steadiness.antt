-- Every command keeps a state well formed.
use Rattle.std.proofs.Common.{◌≡◌, ℕ, zero, suc, ◌+◌, ◌-◌, ◌≤◌, ◌%◌, ◌^◌, min, Bool, true, false, not, ◌&&◌, ◌||◌, ◌==◌, List, [], ◌∷◌, slice_index_or, replicate, set, pos, cond, IsTrue, Option, Some, None, Ok, Err, refl, sym, ap, subst, ◌∙◌, arith, nat_cmp, nat_lt, nat_le, inl, inr}
use Rattle.std.proofs.lemmas.Bool.{and_parts, and_from, or_cases, or_left, or_right, cases_Bool, eq-eqb, cond-false, ltb-true, ltb-false, lt-ltb, le-leb, leb-true, not-false, ne_eqb}
use Rattle.std.proofs.lemmas.List.{length-replicate}
use Rattle.std.proofs.lemmas.List.Elements.{All-from_recursion, recursion_from_All}
use Rattle.std.proofs.lemmas.List.Quantifiers.{position-Some}
use Rattle.std.specs.List.{list_all}
use Rattle.std.specs.FinMap.{put}
use Rattle.trace_types.specs.declared.kind.Kind.{Kind}
use Rattle.trace_types.specs.declared.fault.Fault.TheVariants.{BadGeneration, WrongKind}
use Rattle.trace_types.specs.declared.operand.Operand.{Operand}
use Rattle.trace_types.specs.declared.operand.CollectArgs.{CollectArgs}
use Rattle.trace_types.specs.declared.operand.CollectArgs.TheVariants.{Plain, Explicit}
use Rattle.trace_types.specs.declared.command.Command.{Command}
use Rattle.trace_types.specs.declared.command.Command.TheVariants.{Thread, Cons, Weak, Eph, MakeBox, Vector, Bytes, ImmVector, ImmBytes, Guard, OrderedGuard, Reg, Take, Get, Set, Mov, Lock, Unlock, Note, Check, Collect, Print, Census, Gen, Version, TablePut, TableGet, TableDel, Path, Size}
use Rattle.trace_types.specs.Values.{Value, nil, fixnum, true_value, false_value, is_value, is_byte, bwp, same_value, object, Object, object_at, key_of, value_of, field_at, objects_in, is_guardian, is_immobile, has_bytes}
use Rattle.trace_types.specs.States as states
use Rattle.trace_types.specs.States.{State, Answer, silently, with_new, with_field, with_register, with_object, register_value, operand_value, lock_count}
use Rattle.trace_types.specs.Rules.{◌⊆◌}
use Rattle.trace_types.specs.Collections.{Arguments, are_allowed, plain_arguments, greatest_power, collect}
use Rattle.trace_types.specs.Kept.{is_of_kind}
use Rattle.trace_types.specs.Steps.{step, found_object, or_itself, collected, checked, table_of, whole_key, put_at, entry_in, object_of, found_at, emptied}
use Rattle.trace_types.specs.Tables.{entry_kind, is_table, is_entry, has_key, holds_entry, where_in, free_in}
use Rattle.trace_types.specs.WellFormed.{IsWellFormedTo, IsNext, IsObject, operand_fits, representative_fits, operands_fit, births, is_generation, has_its_fields, fields_fit}
use Rattle.trace_types.proofs.Named.{append_sub, objects_left, objects_right, objects_both}
use Rattle.trace_types.proofs.Collecting.{collect_well_formed}
use Rattle.trace_types.proofs.Stepping.{register_well_formed, births_before, new_birth, births_put}
use Rattle.trace_types.proofs.Graphs.{object_at-put}
use Rattle.trace_types.proofs.Meeting.{each_found}
use Rattle.trace_types.proofs.Least.{each_weaker}
use Rattle.trace_types.proofs.Ranges.{all_copies, all_slot, fields_values, table_has_values, entry_has_values}
use Rattle.trace_types.specs.Faults.{◌>>=◌}
use Rattle.trace_types.specs.declared.operand.Mode.{Mode}
use Rattle.trace_types.proofs.Answering.{IsWellAnswered, no_objects, slot_there, operand_there, operands_there, copies_there, made_well_formed, on_object, on_guardian, on_fielded, within_length, short, operand_fits_value, is_object, named_there, field_set_well_formed, taken, found_born, registered, lock_counted, noted_well_formed}

greatest_power_le : (n m : ℕ) → greatest_power n m ≤ m
greatest_power_le n zero = omega arith
greatest_power_le n (suc m) =
    let rest = greatest_power_le n m in
    elim (n % 4 ^ suc m == 0) as (λ b. cond b (suc m) (greatest_power n m) ≤ suc m) [ true ↦ omega arith | false ↦ omega (arith, rest) ]

pub plain_allowed : (version oldest n : ℕ) → IsTrue (are_allowed version oldest (plain_arguments oldest n))
plain_allowed version oldest n =
    or_left (lower || ended) _ (elim (cases_Bool (nat_lt cg oldest)) [
      | inl less ↦
          let l = ltb-true cg oldest less in
          or_left lower ended
          (and_from (nat_lt cg oldest && nat_le cg top && nat_le top top) (nat_le top (cg + 1))
          (and_from (nat_lt cg oldest && nat_le cg top) (nat_le top top) (and_from (nat_lt cg oldest) (nat_le cg top) less (le-leb cg top (omega (arith, l)))) (le-leb top top (omega arith)))
          (le-leb top (cg + 1) (omega arith)))
      | inr more ↦
          let l = ltb-false cg oldest more in
          or_right lower ended
          (and_from (cg == oldest && top == oldest) (top == oldest) (and_from (cg == oldest) (top == oldest) (eq-eqb cg oldest (omega (arith, l, below))) (eq-eqb top oldest (omega (arith, l, below)))) (eq-eqb top oldest (omega (arith, l, below))))
    ])
  where
    cg : ℕ
    cg = greatest_power n oldest

    top : ℕ
    top = min (cg + 1) oldest

    below : cg ≤ oldest
    below = greatest_power_le n oldest

    lower : Bool
    lower = nat_lt cg oldest && nat_le cg top && nat_le top top && nat_le top (cg + 1)

    ended : Bool
    ended = cg == oldest && top == oldest && top == oldest

module _ (last : ℕ) (s : State) (well : IsWellFormedTo last s) where
  threaded : (t : ℕ) → t ≤ 63 → IsWellFormedTo last (record s { thread = t })
  threaded t h = record {
    ordered = well.ordered;
    objects = well.objects;
    in_graph = well.in_graph;
    guardians = well.guardians;
    differ = well.differ;
    in_range = well.in_range;
    lines_ordered = well.lines_ordered;
    registration_values = well.registration_values;
    locks_ordered = well.locks_ordered;
    locks = well.locks;
    registers = well.registers;
    register_values = well.register_values;
    notes = well.notes;
    thread = h;
    oldest = well.oldest;
    version = well.version;
  }

  counted : (n : ℕ) → IsWellFormedTo last (record s { collects = n })
  counted n = record {
    ordered = well.ordered;
    objects = well.objects;
    in_graph = well.in_graph;
    guardians = well.guardians;
    differ = well.differ;
    in_range = well.in_range;
    lines_ordered = well.lines_ordered;
    registration_values = well.registration_values;
    locks_ordered = well.locks_ordered;
    locks = well.locks;
    registers = well.registers;
    register_values = well.register_values;
    notes = well.notes;
    thread = well.thread;
    oldest = well.oldest;
    version = well.version;
  }

  choice : (b : Bool) (yes_answer no_answer : Answer) → IsWellAnswered last yes_answer → IsWellAnswered last no_answer → IsWellAnswered last (cond b yes_answer no_answer)
  choice true one other h k = h
  choice false one other h k = k

  chosen : (b : Bool) (yes_answer no_answer : Answer) → (b ≡ true → IsWellAnswered last yes_answer) → (b ≡ false → IsWellAnswered last no_answer) → IsWellAnswered last (cond b yes_answer no_answer)
  chosen true one other h k = h refl
  chosen false one other h k = k refl

  table_operands : (a b : Operand) (x y z : Bool) → IsTrue (operand_fits a && operand_fits b && x && y && z) → IsTrue (operand_fits a && operand_fits b)
  table_operands a b x y z h = (and_parts (operand_fits a && operand_fits b) x (and_parts (operand_fits a && operand_fits b && x) y (and_parts (operand_fits a && operand_fits b && x && y) z h).0).0).0

  collection_kept : (args : CollectArgs) → IsWellAnswered last (collected s args)
  collection_kept Plain = collect_well_formed last (record s { collects = s.collects + 1 }) (plain_arguments s.oldest (s.collects + 1)) (plain_allowed s.version s.oldest (s.collects + 1)) (counted (s.collects + 1))
  collection_kept (Explicit cg least greatest) =
      let a : Arguments = record { cg = cg; least = least; greatest = greatest } in
      elim (are_allowed s.version s.oldest a) as (λ b. are_allowed s.version s.oldest a ≡ b → IsWellAnswered last (cond b (silently (collect s a)) (Err BadGeneration))) [
        | true ↦ λ e. collect_well_formed last s a e well
        | false ↦ λ e. tt
      ] refl

  check_kept : (k : ℕ) (v : Value) (note : states.Note) → IsWellAnswered last (checked s k v note)
  check_kept k v states.empty = tt
  check_kept k v states.gone = well
  check_kept k v (states.set_to birth) = well

  representative_there : (v : Value) (r : Option Operand) → objects_in (v ∷ []) ⊆ births s → objects_in (or_itself s v r ∷ []) ⊆ births s
  representative_there v None h = h
  representative_there v (Some r) h = operand_there last s well r

  shaped : (n m : ℕ) → n ≡ m → IsTrue (nat_le m 4000000) → IsTrue (nat_le n 4000000)
  shaped n m e h = ap (λ k. nat_le k 4000000) e ∙ h

  shaped_fit : (n : ℕ) (v : Value) → IsTrue (is_value v) → IsTrue (list_all is_value (replicate n v))
  shaped_fit n v h = all_copies is_value n v h

  byte_fits : (byte : ℕ) → IsTrue (nat_le byte 255) → IsTrue (is_byte (fixnum (pos byte)))
  byte_fits byte h = let l = leb-true byte 255 h in lt-ltb byte 256 (omega (arith, l))

  two_fit : (a b : Operand) → IsTrue (operand_fits a && operand_fits b) → IsTrue (list_all is_value (operand_value s a ∷ operand_value s b ∷ []))
  two_fit a b h =
      let parts = and_parts (operand_fits a) (operand_fits b) h in
      and_from (is_value (operand_value s a)) (is_value (operand_value s b) && true) (operand_fits_value last s well a parts.0) (and_from (is_value (operand_value s b)) true (operand_fits_value last s well b parts.1) refl)

  one_fits : (v : Value) → IsTrue (is_value v) → IsTrue (list_all is_value (v ∷ []))
  one_fits v h = and_from (is_value v) true h refl

  representative_value : (v : Value) (r : Option Operand) → IsTrue (is_value v) → IsTrue (representative_fits r) → IsTrue (is_value (or_itself s v r))
  representative_value v None h k = h
  representative_value v (Some r) h k = operand_fits_value last s well r k

  -- what is set into a field fits there
  set_fits : (kind : Kind) (v : Value) → IsTrue (is_value v) → (has_bytes kind && not (is_byte v)) ≡ false → IsTrue (cond (has_bytes kind) (is_byte v) (is_value v))
  set_fits kind v h e = by_bytes (has_bytes kind) e
    where
      by_bytes : (b : Bool) → (b && not (is_byte v)) ≡ false → IsTrue (cond b (is_byte v) (is_value v))
      by_bytes true e = not-false (is_byte v) e
      by_bytes false e = h

  -- version 2 allows all that version 1 does
  two_versioned : IsWellFormedTo last (record s { version = 2 })
  two_versioned = record {
    ordered = well.ordered;
    objects = All-from_recursion _ s.graph (each_weaker (λ e. IsObject s.version s.oldest e.1) (λ e. IsObject 2 s.oldest e.1) (λ e is. record {
      fields = is.fields;
      fitting = is.fitting;
      queue = is.queue;
      queue_fitting = is.queue_fitting;
      creator = is.creator;
      generation = later e.1.generation is.generation;
    }) s.graph (recursion_from_All (λ e. IsObject s.version s.oldest e.1) s.graph well.objects));
    in_graph = well.in_graph;
    guardians = well.guardians;
    differ = well.differ;
    in_range = well.in_range;
    lines_ordered = well.lines_ordered;
    registration_values = well.registration_values;
    locks_ordered = well.locks_ordered;
    locks = well.locks;
    registers = well.registers;
    register_values = well.register_values;
    notes = well.notes;
    thread = well.thread;
    oldest = well.oldest;
    version = refl;
  }
    where
      later : (g : ℕ) → IsTrue (is_generation s.version s.oldest g) → IsTrue (is_generation 2 s.oldest g)
      later g h = elim (or_cases (nat_le g s.oldest) (s.version == 2 && g == 8) h) [
        | inl low ↦ or_left (nat_le g s.oldest) (g == 8) low
        | inr high ↦ or_right (nat_le g s.oldest) (g == 8) (and_parts (s.version == 2) (g == 8) high).1
      ]

  -- ---- tables

  entry_shape : (mode : Mode) (a b : Value) → IsTrue (has_its_fields (entry_kind mode) (a ∷ b ∷ []))
  entry_shape Mode.Pair a b = refl
  entry_shape Mode.Weak a b = refl
  entry_shape Mode.Eph a b = refl

  entry_fits : (mode : Mode) (a b : Value) → IsTrue (list_all is_value (a ∷ b ∷ [])) → IsTrue (fields_fit (entry_kind mode) (a ∷ b ∷ []))
  entry_fits Mode.Pair a b h = h
  entry_fits Mode.Weak a b h = h
  entry_fits Mode.Eph a b h = h

  pub on_table : (v : Value) (act : ℕ × Object → Answer) → ((x : ℕ) (o : Object) → object_at s.graph x ≡ Some o → IsTrue (is_table o.kind) → IsWellAnswered last (act (x, o))) → IsWellAnswered last (table_of s v >>= act)
  on_table (object x) act h = by_found (object_at s.graph x) refl
    where
      by_kind : (o : Object) → object_at s.graph x ≡ Some o → (b : Bool) → is_table o.kind ≡ b → IsWellAnswered last (cond b (Ok (x, o)) (Err WrongKind) >>= act)
      by_kind o found true is = h x o found is
      by_kind o found false is = tt

      by_found : (o : Option Object) → object_at s.graph x ≡ o → IsWellAnswered last ((found_object x o >>= λ g. cond (is_table g.1.kind) (Ok g) (Err WrongKind)) >>= act)
      by_found None found = tt
      by_found (Some o) found = by_kind o found (is_table o.kind) refl
  on_table (fixnum n) act h = tt
  on_table nil act h = tt
  on_table true_value act h = tt
  on_table false_value act h = tt
  on_table bwp act h = tt

  on_key : (key : Value) (act : Value → Answer) → IsWellAnswered last (act key) → IsWellAnswered last (whole_key key >>= act)
  on_key key act h = elim (same_value key bwp) as (λ b. IsWellAnswered last (cond b (Err WrongKind) (Ok key) >>= act)) [ true ↦ tt | false ↦ h ]

  value_fits : (kind : Kind) (v : Value) → has_bytes kind ≡ false → IsTrue (is_value v) → IsTrue (cond (has_bytes kind) (is_byte v) (is_value v))
  value_fits kind v e h = subst (λ b. IsTrue (cond b (is_byte v) (is_value v))) (sym e) h

  -- the slot of a key has an entry
  on_entry : (table : Object) (key : Value) (slot : ℕ) (act : ℕ × Object → Answer) → where_in s.graph table key ≡ Some slot
      → ((x : ℕ) (o : Object) → object_at s.graph x ≡ Some o → IsTrue (is_entry o.kind) → IsWellAnswered last (act (x, o))) → IsWellAnswered last (entry_in s table slot >>= act)
  on_entry table key slot act there h = by_value (field_at table slot) (position-Some (holds_entry s.graph key) table.fields slot nil there).1
    where
      by_value : (v : Value) → holds_entry s.graph key v ≡ true → IsWellAnswered last (object_of s v >>= act)
      by_value (object x) e = by_found (object_at s.graph x) refl e
        where
          by_found : (o : Option Object) → object_at s.graph x ≡ o → (not (same_value key bwp) && has_key key o) ≡ true → IsWellAnswered last (found_object x o >>= act)
          by_found None found e = tt
          by_found (Some o) found e = h x o found (and_parts (is_entry o.kind) (same_value (key_of o) key) (and_parts (not (same_value key bwp)) (has_key key (Some o)) e).1).0
      by_value (fixnum n) e = tt
      by_value nil e = tt
      by_value true_value e = tt
      by_value false_value e = tt
      by_value bwp e = tt

  -- what is found for a key is a value of the state
  on_found : (table : Object) (slot : Option ℕ) (act : Value → Answer) → ((v : Value) → IsTrue (is_value v) → objects_in (v ∷ []) ⊆ births s → IsWellAnswered last (act v)) → IsWellAnswered last (found_at s table slot >>= act)
  on_found table None act h = h false_value refl (no_objects (births s))
  on_found table (Some slot) act h = by_value (field_at table slot)
    where
      by_value : (v : Value) → IsWellAnswered last ((object_of s v >>= λ e. Ok (value_of e.1)) >>= act)
      by_value (object x) = by_found (object_at s.graph x) refl
        where
          by_found : (o : Option Object) → object_at s.graph x ≡ o → IsWellAnswered last ((found_object x o >>= λ e. Ok (value_of e.1)) >>= act)
          by_found None found = tt
          by_found (Some o) found =
              h (value_of o) (all_slot is_value o.fields 1 nil (fields_values o.kind o.fields (is_object last s well x o found).fitting) refl)
              (slot_there o.fields 1 (births s) (objects_left o.fields _ (births s) (named_there last s well x o found)))
      by_value (fixnum n) = tt
      by_value nil = tt
      by_value true_value = tt
      by_value false_value = tt
      by_value bwp = tt

  emptied_kept : (x : ℕ) (o : Object) (slot : Option ℕ) → object_at s.graph x ≡ Some o → IsTrue (is_table o.kind) → IsWellFormedTo last (emptied s (x, o) slot)
  emptied_kept x o None found is = well
  emptied_kept x o (Some slot) found is = field_set_well_formed last s well x o slot nil found (value_fits o.kind nil (table_has_values o.kind is) refl) (no_objects (births s))

  -- an object that was there is there beside a new one
  still_found : (line : ℕ) (new : Object) (x : ℕ) (o : Object) → IsNext s line → object_at s.graph x ≡ Some o → object_at (put nat_cmp line new s.graph) x ≡ Some o
  still_found line new x o next found =
      let below = ltb-true x line (each_found (λ y q. IsTrue (nat_lt y line)) s.graph (births_before s line next.above) x o found) in
      object_at-put s.graph line new x ∙ cond-false (x == line) (Some new) (object_at s.graph x) (ne_eqb x line (λ same. omega arith)) ∙ found

  put_kept : (line d x : ℕ) (table : Object) (mode : Mode) (key v : Value) (free : Option ℕ) → IsNext s line → line ≤ last → object_at s.graph x ≡ Some table → IsTrue (is_table table.kind)
      → IsTrue (list_all is_value (key ∷ v ∷ [])) → objects_in (key ∷ v ∷ []) ⊆ births s
      → (w : Option ℕ) → where_in s.graph table key ≡ w → IsWellAnswered last (put_at s line d (x, table) (entry_kind mode) key v w free)
  put_kept line d x table mode key v free next within found is fits there (Some slot) at =
      on_entry table key slot _ at (λ y o found_entry entry.
      register_well_formed last (with_field s y o 1 v) d (object y)
      (field_set_well_formed last s well y o 1 v found_entry (value_fits o.kind v (entry_has_values o.kind entry) (and_parts (is_value v) true (and_parts (is_value key) (is_value v && true) fits).1).0) (objects_right (key ∷ []) (v ∷ []) (births s) there))
      refl
      (subst (λ xs. (y ∷ []) ⊆ xs) (sym (births_put y (record o { fields = set o.fields 1 v }) s.graph o well.ordered found_entry)) (found_born last s well y o found_entry)))
  put_kept line d x table mode key v (Some slot) next within found is fits there None at =
      let shape = entry_shape mode key v in
      let fit = entry_fits mode key v fits in
      field_set_well_formed last (with_new s line d (entry_kind mode) (key ∷ v ∷ []))
      (made_well_formed last s well line d (entry_kind mode) (key ∷ v ∷ []) next within shape fit there)
      x table slot (object line)
      (still_found line _ x table next found)
      (value_fits table.kind (object line) (table_has_values table.kind is) refl)
      (new_birth last s line (entry_kind mode) (key ∷ v ∷ []) well next within shape fit there)
  put_kept line d x table mode key v None next within found is fits there None at = tt

  -- ---- the table of commands

  -- the new state of a command is well formed
  pub answered : (line : ℕ) (c : Command) → IsNext s line → line ≤ last → IsTrue (operands_fit c) → IsWellAnswered last (step s line c)
  unfolding step
  answered line (Thread t) next within fits = threaded t (leb-true t 63 fits)
  answered line (Cons d car cdr) next within fits = made_well_formed last s well line d Kind.Pair _ next within refl (two_fit car cdr fits) (operands_there last s well car cdr)
  answered line (Weak d car cdr) next within fits = made_well_formed last s well line d Kind.Weak _ next within refl (two_fit car cdr fits) (operands_there last s well car cdr)
  answered line (Eph d key value) next within fits = made_well_formed last s well line d Kind.Eph _ next within refl (two_fit key value fits) (operands_there last s well key value)
  answered line (MakeBox d value) next within fits = made_well_formed last s well line d Kind.Boxed _ next within refl (one_fits (operand_value s value) (operand_fits_value last s well value fits)) (operand_there last s well value)
  answered line (Vector d n value) next within fits = short last s well n _ (λ h. made_well_formed last s well line d Kind.Vector _ next within (shaped _ n (length-replicate n _) h) (shaped_fit n _ (operand_fits_value last s well value fits)) (copies_there last s well _ n (operand_there last s well value)))
  answered line (Bytes d n byte) next within fits = short last s well n _ (λ h. made_well_formed last s well line d Kind.Bytes _ next within (shaped _ n (length-replicate n _) h) (all_copies is_byte n _ (byte_fits byte fits)) (copies_there last s well _ n (no_objects (births s))))
  answered line (ImmVector d n value) next within fits = short last s well n _ (λ h. made_well_formed last s well line d Kind.ImmVector _ next within (shaped _ n (length-replicate n _) h) (shaped_fit n _ (operand_fits_value last s well value fits)) (copies_there last s well _ n (operand_there last s well value)))
  answered line (ImmBytes d n byte) next within fits = short last s well n _ (λ h. made_well_formed last s well line d Kind.ImmBytes _ next within (shaped _ n (length-replicate n _) h) (all_copies is_byte n _ (byte_fits byte fits)) (copies_there last s well _ n (no_objects (births s))))
  answered line (Guard d) next within fits = made_well_formed last s well line d Kind.Guard [] next within refl refl (no_objects (births s))
  answered line (OrderedGuard d) next within fits = made_well_formed last s well line d Kind.OrderedGuard [] next within refl refl (no_objects (births s))
  answered line (Reg guardian o representative) next within fits =
      let parts = and_parts (operand_fits o) (representative_fits representative) fits in
      let value = operand_fits_value last s well o parts.0 in
      on_guardian last s well (register_value s guardian) _ (λ x g found guard.
      registered last s well (record { line = line; guardian = x; object = operand_value s o; representative = or_itself s (operand_value s o) representative }) next within
      (and_from (is_value (operand_value s o)) (is_value (or_itself s (operand_value s o) representative)) value (representative_value (operand_value s o) representative value parts.1))
      (ap (is_of_kind is_guardian) found ∙ guard)
      (append_sub (x ∷ []) _ (births s) (found_born last s well x g found)
      (objects_both (operand_value s o ∷ []) (or_itself s (operand_value s o) representative ∷ []) (births s) (operand_there last s well o) (representative_there (operand_value s o) representative (operand_there last s well o)))))
  answered line (Take d guardian) next within fits = on_guardian last s well (register_value s guardian) _ (λ x g found guard. taken last s well d x g found guard g.queue refl)
  answered line (Get d from index) next within fits =
      on_fielded last s well (register_value s from) _ (λ x o found.
      within_length last s well o index _ (register_well_formed last s d _ well
      (all_slot is_value o.fields index nil (fields_values o.kind o.fields (is_object last s well x o found).fitting) refl)
      (slot_there o.fields index (births s) (objects_left o.fields _ (births s) (named_there last s well x o found)))))
  answered line (Set into index value) next within fits =
      on_fielded last s well (register_value s into) _ (λ x o found.
      chosen (has_bytes o.kind && not (is_byte (operand_value s value))) _ _ (λ _. tt) (λ e.
      within_length last s well o index _ (field_set_well_formed last s well x o index (operand_value s value) found (set_fits o.kind (operand_value s value) (operand_fits_value last s well value fits) e) (operand_there last s well value))))
  answered line (Mov d value) next within fits = register_well_formed last s d (operand_value s value) well (operand_fits_value last s well value fits) (operand_there last s well value)
  answered line (Lock value) next within fits = on_object last s well (operand_value s value) _ (λ x o found. lock_counted last s well x (lock_count s x + 1) (found_born last s well x o found))
  answered line (Unlock value) next within fits =
      on_object last s well (operand_value s value) _ (λ x o found. choice (lock_count s x == 0) _ _ tt (lock_counted last s well x (lock_count s x - 1) (found_born last s well x o found)))
  answered line (Note k r) next within fits =
      on_object last s well (register_value s r) _ (λ x o found. choice (is_immobile o.kind || nat_lt 0 (lock_count s x)) _ _ (noted_well_formed last s well k x (found_born last s well x o found)) tt)
  answered line (Check k r) next within fits = check_kept k (register_value s r) (slice_index_or s.notes k states.empty)
  answered line (Collect args) next within fits = collection_kept args
  answered line (Print value) next within fits = well
  answered line Census next within fits = well
  answered line (Gen value) next within fits = well
  answered line Version next within fits = choice (line == 1) _ _ two_versioned tt
  answered line (TablePut d table mode key value) next within fits =
      on_table (register_value s table) _ (λ x o found is.
      on_key (operand_value s key) _
      (put_kept line d x o mode (operand_value s key) (operand_value s value) (free_in s.graph o) next within found is
      (two_fit key value (table_operands key value _ _ _ fits)) (operands_there last s well key value)
      (where_in s.graph o (operand_value s key)) refl))
  answered line (TableGet d table key) next within fits =
      on_table (register_value s table) _ (λ x o found is.
      on_key (operand_value s key) _
      (on_found o (where_in s.graph o (operand_value s key)) _ (λ v fit there. register_well_formed last s d v well fit there)))
  answered line (TableDel table key) next within fits =
      on_table (register_value s table) _ (λ x o found is.
      on_key (operand_value s key) _ (emptied_kept x o (where_in s.graph o (operand_value s key)) found is))
  answered line (Path from to) next within fits =
      on_object last s well (register_value s from) _ (λ x o found. on_object last s well (operand_value s to) _ (λ y p found_too. well))
  answered line (Size from) next within fits = well

-- Each command keeps a state well formed, and brings in no number but its line.
pub step_well_formed : (last : ℕ) (s s' : State) (line : ℕ) (c : Command) (text : List ℕ) → IsWellFormedTo last s → IsNext s line → line ≤ last → IsTrue (operands_fit c) → step s line c ≡ Ok (s', text) → IsWellFormedTo last s'
step_well_formed last s s' line c text well next within fits e = subst (IsWellAnswered last) e (answered last s well line c next within fits)
