-- Each command keeps a state well formed.
use Rattle.std.proofs.Common.{◌≡◌, ℕ, zero, suc, ◌+◌, ◌≤◌, Bool, true, false, not, ◌||◌, ◌&&◌, ◌==◌, ◌<◌, List, [], ◌∷◌, ◌++◌, map, flat_map, length, replicate, set, slice_index_or, cond, IsTrue, Option, Some, None, Ok, Err, refl, sym, ap, subst, ◌∙◌, arith, nat_cmp, nat_lt, nat_le, inl, inr}
use Rattle.std.specs.List.{AllByRecursion, list_all}
use Rattle.std.proofs.lemmas.Bool.{and_parts, or_left, or_right, or_cases, cases_Bool, eqb-true, eq-eqb, false≢true, leb-true, le-leb}
use Rattle.std.proofs.lemmas.List.{length-set, map-append}
use Rattle.std.proofs.lemmas.List.Elements.{All-from_recursion, recursion_from_All}
use Rattle.std.proofs.lemmas.Grind.{flat_map-append}
use Rattle.trace_types.specs.declared.kind.Kind.{Kind}
use Rattle.trace_types.specs.declared.kind.Kind.TheVariants.{Pair, Weak, Eph, Boxed, Vector, Bytes, ImmVector, ImmBytes, Guard, OrderedGuard, Cell}
use Rattle.trace_types.specs.declared.fault.Fault.TheVariants.{WrongKind, BadIndex, BadLength}
use Rattle.trace_types.specs.declared.operand.Operand.{Operand}
use Rattle.trace_types.specs.declared.operand.Operand.TheVariants.{Reg, Fixnum, Nil, True, False}
use Rattle.trace_types.specs.Values.{Value, is_value, is_byte, has_bytes, fixnum, nil, true_value, false_value, bwp, object, objects_in, Object, object_at, is_guardian, queue_values}
use Rattle.trace_types.specs.States.{State, Answer, Registration, Note, set_to, with_object, with_new, register_value, operand_value}
use Rattle.trace_types.specs.Rules.{has, ◌⊆◌}
use Rattle.trace_types.specs.Faults.{◌>>=◌}
use Rattle.trace_types.specs.Steps.{greatest_length, found_object, object_of, guardian_of, fielded_of, within, not_too_long, take_first, with_registration, with_lock_count}
use Rattle.trace_types.specs.WellFormed.{fields_fit, operand_fits, is_ascending, registration_lines, IsObject, IsWellFormedTo, IsNext, has_its_fields, births, numbers, occurrences, noted, named_by_object, named_by_registration}
use Rattle.trace_types.specs.Kept.{is_of_kind}
use Rattle.std.specs.Bool.{passes}
use Rattle.std.specs.FinMap.{is_sorted, put}
use Rattle.std.specs.FinMap.Entries.{where_key, is_sorted-where_key, is_sorted-put}
use Rattle.std.specs.Cmp.{nat_cmp_total}
use Rattle.trace_types.proofs.Least.{each_weaker}
use Rattle.trace_types.proofs.Meeting.{each_found, each_append}
use Rattle.trace_types.proofs.Keeping.{each_filtered}
use Rattle.trace_types.proofs.Collecting.{is_true}
use Rattle.trace_types.proofs.Ranges.{all_set, all_slot, ascending_last}
use Rattle.trace_types.proofs.Differing.{occurrences-append, one_if}
use Rattle.trace_types.proofs.Named.{append_left_sub, append_right_sub, append_sub, objects_left, objects_right, objects_both, names_parts, names_whole}
use Rattle.trace_types.proofs.Stepping.{none_above, first, register_well_formed, new_well_formed, new_birth, queue_lines, each_put_any, made, changed_well_formed, objects_in_set, births_put}

-- the new state, where there is one, is well formed
abbrev pub IsWellAnswered : ℕ → Answer → Type 0
IsWellAnswered last (Ok answer) = IsWellFormedTo last answer.0
IsWellAnswered last (Err fault) = Unit {0}

-- ---- what the operands give

pub slot_there : (vs : List Value) (i : ℕ) (xs : List ℕ) → objects_in vs ⊆ xs → objects_in (slice_index_or vs i nil ∷ []) ⊆ xs
slot_there [] i xs h = λ x there. absurd (false≢true there)
slot_there (v ∷ vs) zero xs h = objects_left (v ∷ []) vs xs h
slot_there (v ∷ vs) (suc i) xs h = slot_there vs i xs (objects_right (v ∷ []) vs xs h)

pub no_objects : (xs : List ℕ) → [] ⊆ xs
no_objects xs x there = absurd (false≢true there)

pub one_sub : (xs : List ℕ) (x : ℕ) → IsTrue (has xs x) → (x ∷ []) ⊆ xs
one_sub xs x h y there = elim (or_cases (x == y) false there) [ inl e ↦ subst (λ z. IsTrue (has xs z)) (eqb-true x y e) h | inr e ↦ absurd (false≢true e) ]

abbrev value_in : Value × ℕ → Value
value_in entry = entry.0

abbrev line_in : Value × ℕ → ℕ
line_in entry = entry.1

abbrev line_of : Registration → ℕ
line_of r = r.line

abbrev key_in : ℕ × ℕ → ℕ
key_in e = e.0

pub each_born : (g : List (ℕ × Object)) → AllByRecursion (λ e. IsTrue (has (map first g) e.0)) g
each_born [] = tt
each_born (e ∷ g) = (
  or_left (e.0 == e.0) (has (map first g) e.0) (eq-eqb e.0 e.0 refl),
  each_weaker (λ d. IsTrue (has (map first g) d.0)) (λ d. IsTrue (has (map first (e ∷ g)) d.0)) (λ d h. or_right (e.0 == d.0) (has (map first g) d.0) h) g (each_born g),
)

each_key_sub : (xs : List ℕ) (es : List (ℕ × ℕ)) → AllByRecursion (λ e. IsTrue (has xs e.0)) es → map key_in es ⊆ xs
each_key_sub xs [] h = no_objects xs
each_key_sub xs (e ∷ es) h = append_sub (e.0 ∷ []) (map key_in es) xs (one_sub xs e.0 h.0) (each_key_sub xs es h.1)

each_key_in : (xs : List ℕ) (es : List (ℕ × ℕ)) → map key_in es ⊆ xs → AllByRecursion (λ e. IsTrue (has xs e.0)) es
each_key_in xs [] h = tt
each_key_in xs (e ∷ es) h = (h e.0 (or_left (e.0 == e.0) (has (map key_in es) e.0) (eq-eqb e.0 e.0 refl)), each_key_in xs es (append_right_sub (e.0 ∷ []) (map key_in es) xs h))

module _ (last : ℕ) (s : State) (well : IsWellFormedTo last s) where
  pub register_there : (r : ℕ) → objects_in (register_value s r ∷ []) ⊆ births s
  register_there r = slot_there s.registers r (births s) (names_parts s (births s) well.in_graph).registers

  pub operand_there : (o : Operand) → objects_in (operand_value s o ∷ []) ⊆ births s
  operand_there (Reg r) = register_there r
  operand_there (Fixnum n) = no_objects (births s)
  operand_there Nil = no_objects (births s)
  operand_there True = no_objects (births s)
  operand_there False = no_objects (births s)

  pub register_fits : (r : ℕ) → IsTrue (is_value (register_value s r))
  register_fits r = all_slot is_value s.registers r nil well.register_values refl

  pub operand_fits_value : (o : Operand) → IsTrue (operand_fits o) → IsTrue (is_value (operand_value s o))
  operand_fits_value (Reg r) h = register_fits r
  operand_fits_value (Fixnum n) h = h
  operand_fits_value Nil h = refl
  operand_fits_value True h = refl
  operand_fits_value False h = refl

  pub operands_there : (a b : Operand) → objects_in (operand_value s a ∷ operand_value s b ∷ []) ⊆ births s
  operands_there a b = objects_both (operand_value s a ∷ []) (operand_value s b ∷ []) (births s) (operand_there a) (operand_there b)

  pub copies_there : (v : Value) (n : ℕ) → objects_in (v ∷ []) ⊆ births s → objects_in (replicate n v) ⊆ births s
  copies_there v zero h = no_objects (births s)
  copies_there v (suc n) h = objects_both (v ∷ []) (replicate n v) (births s) h (copies_there v n h)

  -- a new object in a register
  pub made_well_formed : (line d : ℕ) (kind : Kind) (fields : List Value) → IsNext s line → line ≤ last → IsTrue (has_its_fields kind fields) → IsTrue (fields_fit kind fields) → objects_in fields ⊆ births s → IsWellFormedTo last (with_new s line d kind fields)
  made_well_formed line d kind fields next within shape fits there =
      register_well_formed last (with_object s line (made last s line kind fields well next within shape fits there)) d (object line) (new_well_formed last s line kind fields well next within shape fits there) refl (new_birth last s line kind fields well next within shape fits there)

  -- ---- what is asked of the operands

  pub on_object : (v : Value) (act : ℕ × Object → Answer) → ((x : ℕ) (o : Object) → object_at s.graph x ≡ Some o → IsWellAnswered last (act (x, o))) → IsWellAnswered last (object_of s v >>= act)
  on_object (object x) act h = by_found (object_at s.graph x) refl
    where
      by_found : (o : Option Object) → object_at s.graph x ≡ o → IsWellAnswered last (found_object x o >>= act)
      by_found None found = tt
      by_found (Some o) found = h x o found
  on_object (fixnum n) act h = tt
  on_object nil act h = tt
  on_object true_value act h = tt
  on_object false_value act h = tt
  on_object bwp act h = tt

  pub on_guardian : (v : Value) (act : ℕ × Object → Answer) → ((x : ℕ) (o : Object) → object_at s.graph x ≡ Some o → IsTrue (is_guardian o.kind) → IsWellAnswered last (act (x, o))) → IsWellAnswered last (guardian_of s v >>= act)
  on_guardian (object x) act h = by_found (object_at s.graph x) refl
    where
      by_kind : (o : Object) → object_at s.graph x ≡ Some o → (b : Bool) → is_guardian o.kind ≡ b → IsWellAnswered last (cond b (Ok (x, o)) (Err WrongKind) >>= act)
      by_kind o found true is = h x o found is
      by_kind o found false is = tt

      by_found : (o : Option Object) → object_at s.graph x ≡ o → IsWellAnswered last ((found_object x o >>= λ g. cond (is_guardian g.1.kind) (Ok g) (Err WrongKind)) >>= act)
      by_found None found = tt
      by_found (Some o) found = by_kind o found (is_guardian o.kind) refl
  on_guardian (fixnum n) act h = tt
  on_guardian nil act h = tt
  on_guardian true_value act h = tt
  on_guardian false_value act h = tt
  on_guardian bwp act h = tt

  pub on_fielded : (v : Value) (act : ℕ × Object → Answer) → ((x : ℕ) (o : Object) → object_at s.graph x ≡ Some o → IsWellAnswered last (act (x, o))) → IsWellAnswered last (fielded_of s v >>= act)
  on_fielded (object x) act h = by_found (object_at s.graph x) refl
    where
      by_kind : (o : Object) → object_at s.graph x ≡ Some o → (b : Bool) → IsWellAnswered last (cond b (Err WrongKind) (Ok (x, o)) >>= act)
      by_kind o found true = tt
      by_kind o found false = h x o found

      by_found : (o : Option Object) → object_at s.graph x ≡ o → IsWellAnswered last ((found_object x o >>= λ g. cond (is_guardian g.1.kind) (Err WrongKind) (Ok g)) >>= act)
      by_found None found = tt
      by_found (Some o) found = by_kind o found (is_guardian o.kind)
  on_fielded (fixnum n) act h = tt
  on_fielded nil act h = tt
  on_fielded true_value act h = tt
  on_fielded false_value act h = tt
  on_fielded bwp act h = tt

  pub within_length : (o : Object) (index : ℕ) (answer : Answer) → IsWellAnswered last answer → IsWellAnswered last (within o index answer)
  within_length o index answer h = elim (nat_lt index (length o.fields)) as (λ b. IsWellAnswered last (cond b answer (Err BadIndex))) [ true ↦ h | false ↦ tt ]

  pub short : (n : ℕ) (answer : Answer) → (IsTrue (nat_le n 4000000) → IsWellAnswered last answer) → IsWellAnswered last (not_too_long s n answer)
  short n answer h = elim (nat_le n (greatest_length s)) as (λ b. nat_le n (greatest_length s) ≡ b → IsWellAnswered last (cond b answer (Err BadLength))) [ true ↦ λ e. h (shorter e) | false ↦ λ e. tt ] refl
    where
      most : greatest_length s ≤ 4000000
      most = elim (s.version == 2) as (λ b. cond b 4000000 1000000 ≤ 4000000) [ true ↦ omega arith | false ↦ omega arith ]

      shorter : IsTrue (nat_le n (greatest_length s)) → IsTrue (nat_le n 4000000)
      shorter e = let l = leb-true n (greatest_length s) e in le-leb n 4000000 (omega (arith, l, most))

  -- ---- an object that was there

  pub is_object : (x : ℕ) (o : Object) → object_at s.graph x ≡ Some o → IsObject s.version s.oldest o
  is_object = each_found (λ x o. IsObject s.version s.oldest o) s.graph (recursion_from_All (λ e. IsObject s.version s.oldest e.1) s.graph well.objects)

  pub named_there : (x : ℕ) (o : Object) → object_at s.graph x ≡ Some o → named_by_object (x, o) ⊆ births s
  named_there = each_found (λ x o. named_by_object (x, o) ⊆ births s) s.graph (names_parts s (births s) well.in_graph).objects

  same_shape : (kind : Kind) (fields others : List Value) → length others ≡ length fields → IsTrue (has_its_fields kind fields) → IsTrue (has_its_fields kind others)
  same_shape Pair fields others e h = ap (λ n. n == 2) e ∙ h
  same_shape Weak fields others e h = ap (λ n. n == 2) e ∙ h
  same_shape Eph fields others e h = ap (λ n. n == 2) e ∙ h
  same_shape Boxed fields others e h = ap (λ n. n == 1) e ∙ h
  same_shape Guard fields others e h = ap (λ n. n == 0) e ∙ h
  same_shape OrderedGuard fields others e h = ap (λ n. n == 0) e ∙ h
  same_shape Cell fields others e h = h
  same_shape Vector fields others e h = ap (λ n. nat_le n 4000000) e ∙ h
  same_shape Bytes fields others e h = ap (λ n. nat_le n 4000000) e ∙ h
  same_shape ImmVector fields others e h = ap (λ n. nat_le n 4000000) e ∙ h
  same_shape ImmBytes fields others e h = ap (λ n. nat_le n 4000000) e ∙ h

  -- one more value that fits
  fields_set_fit : (kind : Kind) (fields : List Value) (index : ℕ) (v : Value) → IsTrue (cond (has_bytes kind) (is_byte v) (is_value v)) → IsTrue (fields_fit kind fields) → IsTrue (fields_fit kind (set fields index v))
  fields_set_fit kind fields index v = by_bytes (has_bytes kind)
    where
      by_bytes : (b : Bool) → IsTrue (cond b (is_byte v) (is_value v)) → IsTrue (cond b (list_all is_byte fields) (list_all is_value fields)) → IsTrue (cond b (list_all is_byte (set fields index v)) (list_all is_value (set fields index v)))
      by_bytes true h k = all_set is_byte fields index v k h
      by_bytes false h k = all_set is_value fields index v k h

  pub field_set_well_formed : (x : ℕ) (o : Object) (index : ℕ) (v : Value) → object_at s.graph x ≡ Some o → IsTrue (cond (has_bytes o.kind) (is_byte v) (is_value v)) → objects_in (v ∷ []) ⊆ births s → IsWellFormedTo last (with_object s x (record o { fields = set o.fields index v }))
  field_set_well_formed x o index v found fits there =
      let is = is_object x o found in
      let names = named_there x o found in
      changed_well_formed last s x o (record o { fields = set o.fields index v }) well found
      (record { fields = same_shape o.kind o.fields (set o.fields index v) (length-set o.fields index v) is.fields; fitting = fields_set_fit o.kind o.fields index v fits is.fitting; queue = is.queue; queue_fitting = is.queue_fitting; creator = is.creator; generation = is.generation })
      refl
      (objects_both (set o.fields index v) (queue_values o) (births s) (objects_in_set o.fields index v (births s) (objects_left o.fields (queue_values o) (births s) names) there) (objects_right o.fields (queue_values o) (births s) names))
      (λ n. omega arith)

  -- ---- queues

  pub taken : (d x : ℕ) (o : Object) → object_at s.graph x ≡ Some o → IsTrue (is_guardian o.kind) → (q : List (Value × ℕ)) → o.queue ≡ q → IsWellFormedTo last (take_first s d x o q)
  taken d x o found guard [] e = register_well_formed last s d false_value well refl (no_objects (births s))
  taken d x o found guard (entry ∷ rest) e =
      let is = is_object x o found in
      let names = named_there x o found in
      let queued : objects_in (entry.0 ∷ map value_in rest) ⊆ births s = subst (λ q. objects_in (map value_in q) ⊆ births s) e (objects_right o.fields (queue_values o) (births s) names) in
      let fits = and_parts (is_value entry.0) (list_all is_value (map value_in rest)) (subst (λ q. IsTrue (list_all is_value (map value_in q))) e is.queue_fitting) in
      let o' : Object = record o { queue = rest } in
      let fewer : (n : ℕ) → occurrences n (queue_lines (x, o')) ≤ occurrences n (queue_lines (x, o)) = λ n. subst (λ q. occurrences n (map line_in rest) ≤ occurrences n (map line_in q)) (sym e) (omega arith) in
      register_well_formed last (with_object s x o') d entry.0
      (changed_well_formed last s x o o' well found
      (record { fields = is.fields; fitting = is.fitting; queue = or_left (is_guardian o.kind) (length rest == 0) guard; queue_fitting = fits.1; creator = is.creator; generation = is.generation })
      refl
      (objects_both o.fields (map value_in rest) (births s) (objects_left o.fields (queue_values o) (births s) names) (objects_right (entry.0 ∷ []) (map value_in rest) (births s) queued))
      fewer)
      fits.0
      (subst (λ xs. objects_in (entry.0 ∷ []) ⊆ xs) (sym (births_put x o' s.graph o well.ordered found)) (objects_left (entry.0 ∷ []) (map value_in rest) (births s) queued))

  pub found_born : (x : ℕ) (o : Object) → object_at s.graph x ≡ Some o → (x ∷ []) ⊆ births s
  found_born x o found = one_sub (births s) x (each_found (λ y q. IsTrue (has (births s) y)) s.graph (each_born s.graph) x o found)

  -- ---- registrations

  pub registered : (r : Registration) → IsNext s r.line → r.line ≤ last → IsTrue (is_value r.object && is_value r.representative) → IsTrue (is_of_kind is_guardian (object_at s.graph r.guardian)) → named_by_registration r ⊆ births s → IsWellFormedTo last (with_registration s r)
  registered r next within fits guard there =
      let names = names_parts s (births s) well.in_graph in
      record {
        ordered = well.ordered;
        objects = well.objects;
        in_graph = names_whole (with_registration s r) (births s) (record {
          objects = names.objects;
          registers = names.registers;
          locks = names.locks;
          notes = names.notes;
          registrations = each_append (λ q. named_by_registration q ⊆ births s) s.registrations (r ∷ []) names.registrations (there, tt);
        });
        guardians = All-from_recursion _ _ (each_append (λ q. IsTrue (is_of_kind is_guardian (object_at s.graph q.guardian))) s.registrations (r ∷ []) (recursion_from_All _ s.registrations well.guardians) (guard, tt));
        differ = λ n. let now = one_more n in let before = well.differ n in elim (cases_Bool (r.line == n)) [
          | inl same ↦ let e = eqb-true r.line n same in let none = none_above s r.line next n (omega arith) in let one = ap one_if same in omega (arith, now, none, one)
          | inr other ↦ let no_more = ap one_if other in omega (arith, now, before, no_more)
        ];
        in_range = λ n h. let now = one_more n in elim (cases_Bool (r.line == n)) [
          | inl same ↦ subst (λ m. (1 ≤ m) × (m ≤ last)) (eqb-true r.line n same) (next.counted, within)
          | inr other ↦ let no_more = ap one_if other in well.in_range n (omega (arith, now, no_more, h))
        ];
        lines_ordered = subst (λ ns. IsTrue (is_ascending ns)) (sym (map-append line_of s.registrations (r ∷ []))) (ascending_last (registration_lines s) r.line well.lines_ordered (each_below (registration_lines s) lines_of_state));
        registration_values = All-from_recursion _ _ (each_append (λ q. IsTrue (is_value q.object && is_value q.representative)) s.registrations (r ∷ []) (recursion_from_All _ s.registrations well.registration_values) (fits, tt));
        locks_ordered = well.locks_ordered;
        locks = well.locks;
        registers = well.registers;
        register_values = well.register_values;
        notes = well.notes;
        thread = well.thread;
        oldest = well.oldest;
        version = well.version;
      }
    where
      -- a registration line is a number of the state
      lines_of_state : (n : ℕ) → occurrences n (registration_lines s) ≤ occurrences n (numbers s)
      lines_of_state n =
          let whole = occurrences-append n (births s ++ registration_lines s) (flat_map queue_lines s.graph) in
          let front = occurrences-append n (births s) (registration_lines s) in
          omega (arith, whole, front)

      each_below : (ns : List ℕ) → ((n : ℕ) → occurrences n ns ≤ occurrences n (numbers s)) → AllByRecursion (λ n. n < r.line) ns
      each_below [] h = tt
      each_below (n ∷ ns) h =
          let here = h n in
          let one = ap one_if (eq-eqb n n refl) in
          (next.above n (omega (arith, here, one)), each_below ns (λ m. let more = h m in omega (arith, more)))

      one_more : (n : ℕ) → occurrences n (numbers (with_registration s r)) ≡ occurrences n (numbers s) + one_if (r.line == n)
      one_more n =
          let queues = flat_map queue_lines s.graph in
          let lines = map line_of s.registrations in
          let new = occurrences-append n (births s ++ map line_of (s.registrations ++ r ∷ [])) queues in
          let new_front = occurrences-append n (births s) (map line_of (s.registrations ++ r ∷ [])) in
          let new_lines : occurrences n (map line_of (s.registrations ++ r ∷ [])) ≡ occurrences n lines + (one_if (r.line == n) + 0) = ap (occurrences n) (map-append line_of s.registrations (r ∷ [])) ∙ occurrences-append n lines (r.line ∷ []) in
          let old = occurrences-append n (births s ++ lines) queues in
          let old_front = occurrences-append n (births s) lines in
          omega (arith, new, new_front, new_lines, old, old_front)

  -- ---- locks and notes

  locks_well_formed : (locks : List (ℕ × ℕ)) → IsTrue (is_sorted nat_cmp locks) → AllByRecursion (λ e. 1 ≤ e.1) locks → AllByRecursion (λ e. IsTrue (has (births s) e.0)) locks → IsWellFormedTo last (record s { locks = locks })
  locks_well_formed locks ordered counts there =
      let names = names_parts s (births s) well.in_graph in
      record {
        ordered = well.ordered;
        objects = well.objects;
        in_graph = names_whole (record s { locks = locks }) (births s) (record {
          objects = names.objects;
          registers = names.registers;
          locks = each_key_sub (births s) locks there;
          notes = names.notes;
          registrations = names.registrations;
        });
        guardians = well.guardians;
        differ = well.differ;
        in_range = well.in_range;
        lines_ordered = well.lines_ordered;
        registration_values = well.registration_values;
        locks_ordered = ordered;
        locks = All-from_recursion _ locks counts;
        registers = well.registers;
        register_values = well.register_values;
        notes = well.notes;
        thread = well.thread;
        oldest = well.oldest;
        version = well.version;
      }

  pub lock_counted : (x n : ℕ) → (x ∷ []) ⊆ births s → IsWellFormedTo last (with_lock_count s x n)
  lock_counted x zero there =
      locks_well_formed (where_key nat_cmp (λ y. not (x == y)) s.locks)
      (is_true _ (is_sorted-where_key nat_cmp (λ y. not (x == y)) s.locks (passes _ well.locks_ordered)))
      (each_filtered _ _ s.locks (each_weaker (λ e. 1 ≤ e.1) (λ e. IsTrue (not (x == e.0)) → 1 ≤ e.1) (λ e h _. h) s.locks (recursion_from_All _ s.locks well.locks)))
      (each_filtered _ _ s.locks (each_weaker (λ e. IsTrue (has (births s) e.0)) (λ e. IsTrue (not (x == e.0)) → IsTrue (has (births s) e.0)) (λ e h _. h) s.locks (each_key_in (births s) s.locks (names_parts s (births s) well.in_graph).locks)))
  lock_counted x (suc n) there =
      locks_well_formed (put nat_cmp x (suc n) s.locks)
      (is_true _ (is_sorted-put nat_cmp nat_cmp_total x (suc n) s.locks (passes _ well.locks_ordered)))
      (each_put_any x (suc n) (λ e. 1 ≤ e.1) (omega arith) s.locks (recursion_from_All _ s.locks well.locks))
      (each_put_any x (suc n) (λ e. IsTrue (has (births s) e.0)) (there x (ap (λ b. b || false) (eq-eqb x x refl))) s.locks (each_key_in (births s) s.locks (names_parts s (births s) well.in_graph).locks))

  pub noted_well_formed : (k x : ℕ) → (x ∷ []) ⊆ births s → IsWellFormedTo last (record s { notes = set s.notes k (set_to x) })
  noted_well_formed k x there =
      let names = names_parts s (births s) well.in_graph in
      record {
        ordered = well.ordered;
        objects = well.objects;
        in_graph = names_whole (record s { notes = set s.notes k (set_to x) }) (births s) (record {
          objects = names.objects;
          registers = names.registers;
          locks = names.locks;
          notes = set_note_there s.notes k names.notes;
          registrations = names.registrations;
        });
        guardians = well.guardians;
        differ = well.differ;
        in_range = well.in_range;
        lines_ordered = well.lines_ordered;
        registration_values = well.registration_values;
        locks_ordered = well.locks_ordered;
        locks = well.locks;
        registers = well.registers;
        register_values = well.register_values;
        notes = length-set s.notes k (set_to x) ∙ well.notes;
        thread = well.thread;
        oldest = well.oldest;
        version = well.version;
      }
    where
      set_note_there : (notes : List Note) (k : ℕ) → flat_map noted notes ⊆ births s → flat_map noted (set notes k (set_to x)) ⊆ births s
      set_note_there [] k h = h
      set_note_there (note ∷ notes) zero h =
          append_sub (x ∷ []) (flat_map noted notes) (births s) there
          (append_right_sub (flat_map noted (note ∷ [])) (flat_map noted notes) (births s) (subst (λ xs. xs ⊆ births s) (flat_map-append noted (note ∷ []) notes) h))
      set_note_there (note ∷ notes) (suc k) h =
          let parts = subst (λ xs. xs ⊆ births s) (flat_map-append noted (note ∷ []) notes) h in
          subst (λ xs. xs ⊆ births s) (sym (flat_map-append noted (note ∷ []) (set notes k (set_to x))))
          (append_sub (flat_map noted (note ∷ [])) (flat_map noted (set notes k (set_to x))) (births s)
          (append_left_sub (flat_map noted (note ∷ [])) (flat_map noted notes) (births s) parts)
          (set_note_there notes k (append_right_sub (flat_map noted (note ∷ [])) (flat_map noted notes) (births s) parts)))
