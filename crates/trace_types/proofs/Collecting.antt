-- A collection keeps a state well formed.
use Rattle.std.proofs.Common.{◌≡◌, ℕ, ◌+◌, min, max, Bool, true, false, not, ◌&&◌, ◌||◌, ◌==◌, List, [], ◌∷◌, ◌++◌, append-nil, map, filter, length, cond, IsTrue, T, Option, Some, None, option_map, refl, sym, ap, subst, ◌∙◌, arith, nat_lt, nat_le, inl, inr}
use Rattle.std.specs.List.{AllByRecursion, list_all}
use Rattle.std.specs.Bool.{passes}
use Rattle.std.proofs.lemmas.Bool.{and_parts, and_from, or_left, or_right, or_cases, cases_Bool, both_ways, eqb-true, eq-eqb, cond-true, ltb-true, leb-true, le-leb, and_right, ne_eqb}
use Rattle.std.proofs.lemmas.List.{length-map, map-append}
use Rattle.std.proofs.lemmas.List.Elements.{All-from_recursion, recursion_from_All}
use Rattle.trace_types.specs.declared.kind.Kind.{Kind}
use Rattle.trace_types.specs.declared.kind.Kind.TheVariants.{Pair, Weak, Eph, Boxed, Vector, Bytes, ImmVector, ImmBytes, Guard, OrderedGuard, Cell}
use Rattle.trace_types.specs.Values.{Value, bwp, is_value, Object, object_at, is_guardian, queue_values}
use Rattle.trace_types.specs.States.{State, Registration}
use Rattle.trace_types.specs.Rules.{has}
use Rattle.trace_types.specs.Kept.{kept, is_of_kind, is_given, is_outside}
use Rattle.trace_types.specs.WellFormed.{IsObject, IsWellFormedTo, has_its_fields, is_generation}
use Rattle.trace_types.proofs.Ranges.{fields_left_fit, all_both, ascending_filter}
use Rattle.trace_types.specs.Collections.{Arguments, are_allowed, target, collect, graph_left, object_left, fields_left, queued_for, note_left}
use Rattle.trace_types.proofs.Least.{each_weaker}
use Rattle.trace_types.proofs.Meeting.{found_each}
use Rattle.trace_types.proofs.Keeping.{each_filtered, each_pair}
use Rattle.trace_types.proofs.Graphs.{graph_left_sorted, object_at-graph_left}
use Rattle.trace_types.proofs.Preserving.{collect_in_graph, each_map}
use Rattle.trace_types.proofs.Differing.{fewer_numbers}

pub is_true : (b : Bool) → T b → b ≡ true
is_true true h = refl
is_true false h = absurd h

-- where the arguments are allowed, what is collected goes to a generation of the state
target_stays : (version oldest : ℕ) (a : Arguments) (g : ℕ) → IsTrue (are_allowed version oldest a) → IsTrue (is_generation version oldest g) → IsTrue (is_generation version oldest (target a g))
target_stays version oldest a g allowed here =
    elim (nat_le g a.cg) as (λ b. IsTrue (is_generation version oldest (cond b new g))) [
      | false ↦ here
      | true ↦ elim (or_cases (lower || ended) made_static allowed) [
        | inl usual ↦ or_left (nat_le new oldest) (version == 2 && new == 8) (le-leb new oldest (elim (or_cases lower ended usual) [
          | inl low ↦
              let parts = and_parts (nat_lt a.cg oldest && nat_le a.cg a.least && nat_le a.least a.greatest) (nat_le a.greatest (a.cg + 1)) low in
              let first = (and_parts (nat_lt a.cg oldest) (nat_le a.cg a.least) (and_parts (nat_lt a.cg oldest && nat_le a.cg a.least) (nat_le a.least a.greatest) parts.0).0).0 in
              let l = ltb-true a.cg oldest first in
              let m = leb-true a.greatest (a.cg + 1) parts.1 in
              omega (arith, l, m)
          | inr end ↦
              let e = eqb-true a.greatest oldest (and_parts (a.cg == oldest && a.least == oldest) (a.greatest == oldest) end).1 in
              omega (arith, e)
        ]))
        | inr static ↦
            let parts = and_parts (version == 2 && a.cg == oldest && a.least == 8) (a.greatest == 8) static in
            let before = and_parts (version == 2 && a.cg == oldest) (a.least == 8) parts.0 in
            let two = (and_parts (version == 2) (a.cg == oldest) before.0).0 in
            let e = eqb-true a.greatest 8 parts.1 in
            let f = eqb-true a.least 8 before.1 in
            or_right (nat_le new oldest) (version == 2 && new == 8) (and_from (version == 2) (new == 8) two (eq-eqb new 8 (omega (arith, e, f))))
      ]
    ]
  where
    new : ℕ
    new = min (max (g + 1) a.least) a.greatest

    lower : Bool
    lower = nat_lt a.cg oldest && nat_le a.cg a.least && nat_le a.least a.greatest && nat_le a.greatest (a.cg + 1)

    ended : Bool
    ended = a.cg == oldest && a.least == oldest && a.greatest == oldest

    made_static : Bool
    made_static = version == 2 && a.cg == oldest && a.least == 8 && a.greatest == 8

fields_left_shape : (set : List ℕ) (kind : Kind) (fields : List Value) → IsTrue (has_its_fields kind fields) → IsTrue (has_its_fields kind (fields_left set kind fields))
fields_left_shape set Weak [] h = h
fields_left_shape set Weak (car ∷ rest) h = h
fields_left_shape set Eph [] h = h
fields_left_shape set Eph (key ∷ []) h = h
fields_left_shape set Eph (key ∷ value ∷ rest) h = elim (is_outside set key) as (λ b. IsTrue (has_its_fields Eph (cond b (bwp ∷ bwp ∷ rest) (key ∷ value ∷ rest)))) [ true ↦ h | false ↦ h ]
fields_left_shape set Pair fields h = h
fields_left_shape set Boxed fields h = h
fields_left_shape set Vector fields h = h
fields_left_shape set Bytes fields h = h
fields_left_shape set ImmVector fields h = h
fields_left_shape set ImmBytes fields h = h
fields_left_shape set Guard fields h = h
fields_left_shape set OrderedGuard fields h = h
fields_left_shape set Cell fields h = h

abbrev value_in : Value × ℕ → Value
value_in e = e.0

abbrev entry_of : Registration → Value × ℕ
entry_of r = (r.representative, r.line)

-- nothing is queued for what is no guardian
module _ (s : State) (cg : ℕ) (x : ℕ) (o : Object) (found : object_at s.graph x ≡ Some o) (other : is_guardian o.kind ≡ false) where
  none_queued : (rs : List Registration) → AllByRecursion (λ r. IsTrue (is_of_kind is_guardian (object_at s.graph r.guardian))) rs → filter (λ r. is_given s cg r && (x == r.guardian)) rs ≡ []
  none_queued [] h = refl
  none_queued (r ∷ rs) h =
      let apart : (x == r.guardian) ≡ false = ne_eqb x r.guardian (λ same. both_ways (is_guardian o.kind) other (sym (ap (is_of_kind is_guardian) (ap (object_at s.graph) (sym same) ∙ found)) ∙ h.0)) in
      ap (λ b. cond b (r ∷ filter (λ q. is_given s cg q && (x == q.guardian)) rs) (filter (λ q. is_given s cg q && (x == q.guardian)) rs)) (and_right (is_given s cg r) (x == r.guardian) apart)
      ∙ none_queued rs h.1

-- the representatives that are queued are in range
queued_values : (s : State) (cg x : ℕ) (rs : List Registration) → AllByRecursion (λ r. IsTrue (is_value r.object && is_value r.representative)) rs → IsTrue (list_all is_value (map value_in (map entry_of (filter (λ r. is_given s cg r && (x == r.guardian)) rs))))
queued_values s cg x [] h = refl
queued_values s cg x (r ∷ rs) h =
    elim (is_given s cg r && (x == r.guardian)) as (λ b. IsTrue (list_all is_value (map value_in (map entry_of (cond b (r ∷ filter (λ q. is_given s cg q && (x == q.guardian)) rs) (filter (λ q. is_given s cg q && (x == q.guardian)) rs)))))) [
      | true ↦ and_from (is_value r.representative) _ (and_parts (is_value r.object) (is_value r.representative) h.0).1 (queued_values s cg x rs h.1)
      | false ↦ queued_values s cg x rs h.1
    ]

object_stays : (last : ℕ) (s : State) (a : Arguments) → IsWellFormedTo last s → IsTrue (are_allowed s.version s.oldest a) → (x : ℕ) (o : Object) → object_at s.graph x ≡ Some o → IsObject s.version s.oldest o → IsObject s.version s.oldest (object_left s a x o)
object_stays last s a well allowed x o found is = record {
  fields = fields_left_shape (kept s a.cg) o.kind o.fields is.fields;
  queue = elim (cases_Bool (is_guardian o.kind)) [
    | inl guard ↦ or_left (is_guardian o.kind) (length (o.queue ++ queued_for s a.cg x) == 0) guard
    | inr other ↦
        let was_empty : IsTrue (length o.queue == 0) = subst (λ b. IsTrue (b || (length o.queue == 0))) other is.queue in
        let none : queued_for s a.cg x ≡ [] = ap (map (λ (r : Registration). (r.representative, r.line))) (none_queued s a.cg x o found other s.registrations (recursion_from_All _ s.registrations well.guardians)) in
        or_right (is_guardian o.kind) (length (o.queue ++ queued_for s a.cg x) == 0) (rw (none, append-nil) was_empty)
  ];
  fitting = fields_left_fit (kept s a.cg) o.kind o.fields is.fitting;
  queue_fitting = subst (λ vs. IsTrue (list_all is_value vs)) (sym (map-append value_in o.queue (queued_for s a.cg x)))
      (all_both is_value (queue_values o) (map value_in (queued_for s a.cg x)) is.queue_fitting (queued_values s a.cg x s.registrations (recursion_from_All _ s.registrations well.registration_values)));
  creator = is.creator;
  generation = target_stays s.version s.oldest a o.generation allowed is.generation;
}

guardian_stays : (s : State) (a : Arguments) (r : Registration) → IsTrue (is_of_kind is_guardian (object_at s.graph r.guardian)) → IsTrue (has (kept s a.cg) r.guardian) → IsTrue (is_of_kind is_guardian (object_at (graph_left s a) r.guardian))
guardian_stays s a r guard there =
    subst (λ o. IsTrue (is_of_kind is_guardian o)) (sym (object_at-graph_left s a r.guardian ∙ cond-true (has (kept s a.cg) r.guardian) _ _ there))
    (same_kind (object_at s.graph r.guardian) guard)
  where
    same_kind : (o : Option Object) → IsTrue (is_of_kind is_guardian o) → IsTrue (is_of_kind is_guardian (option_map (object_left s a r.guardian) o))
    same_kind None h = h
    same_kind (Some o) h = h

pub collect_well_formed : (last : ℕ) (s : State) (a : Arguments) → IsTrue (are_allowed s.version s.oldest a) → IsWellFormedTo last s → IsWellFormedTo last (collect s a)
unfolding collect
collect_well_formed last s a allowed well = record {
  ordered = is_true _ (graph_left_sorted s a (passes _ well.ordered));
  objects = All-from_recursion _ _ (each_map (λ e. IsObject s.version s.oldest e.1) (λ e. (e.0, object_left s a e.0 e.1)) (filter (λ e. has (kept s a.cg) e.0) s.graph)
      (each_filtered (λ e. IsObject s.version s.oldest (object_left s a e.0 e.1)) (λ e. has (kept s a.cg) e.0) s.graph
      (each_pair (λ e. IsObject s.version s.oldest e.1 → IsObject s.version s.oldest (object_left s a e.0 e.1)) (λ e. IsObject s.version s.oldest e.1) _ (λ e stays is _. stays is) s.graph
      (found_each (λ x o. IsObject s.version s.oldest o → IsObject s.version s.oldest (object_left s a x o)) s.graph well.ordered (object_stays last s a well allowed))
      (recursion_from_All (λ e. IsObject s.version s.oldest e.1) s.graph well.objects))));
  in_graph = collect_in_graph last s a well;
  guardians = All-from_recursion _ _ (each_filtered (λ r. IsTrue (is_of_kind is_guardian (object_at (graph_left s a) r.guardian))) (λ r. has (kept s a.cg) r.guardian && not (is_given s a.cg r)) s.registrations
      (each_weaker _ _ (λ r guard passes_both. guardian_stays s a r guard (and_parts (has (kept s a.cg) r.guardian) (not (is_given s a.cg r)) passes_both).0) s.registrations (recursion_from_All _ s.registrations well.guardians)));
  differ = λ n. omega (arith, fewer_numbers s a well.ordered n, well.differ n);
  in_range = λ n h. well.in_range n (omega (arith, fewer_numbers s a well.ordered n, h));
  lines_ordered = ascending_filter (λ r. has (kept s a.cg) r.guardian && not (is_given s a.cg r)) s.registrations well.lines_ordered;
  registration_values = All-from_recursion _ _ (each_filtered (λ r. IsTrue (is_value r.object && is_value r.representative)) (λ r. has (kept s a.cg) r.guardian && not (is_given s a.cg r)) s.registrations
      (each_weaker _ _ (λ r h _. h) s.registrations (recursion_from_All _ s.registrations well.registration_values)));
  locks_ordered = well.locks_ordered;
  locks = well.locks;
  registers = well.registers;
  register_values = well.register_values;
  notes = length-map s.notes (note_left s a.cg) ∙ well.notes;
  thread = well.thread;
  oldest = well.oldest;
  version = well.version;
}
