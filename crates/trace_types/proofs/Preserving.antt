-- A collection names only objects of its graph.
use Rattle.std.proofs.Common.{flat_map, ◌≡◌, ℕ, suc, Bool, true, false, not, ◌||◌, ◌&&◌, ◌==◌, List, [], ◌∷◌, ◌++◌, map, filter, length, IsTrue, refl, sym, ap, subst, ◌∙◌, Option, Some, None, inl, inr, cond, nat_le, nat_lt, slice_index_or, arith}
use Rattle.std.proofs.lemmas.List.{map-append}
use Rattle.std.specs.List.{AllByRecursion}
use Rattle.std.proofs.lemmas.Bool.{and_parts, and_from, and_cases, or_cases, or_right, or_left, eq-eqb, eqb-true, false≢true, cases_Bool, both_ways, not-false, not-true, leb-false, lt-ltb, cond-true, cond-false, or_parts, ne_eqb, eqb-false}
use Rattle.std.proofs.lemmas.List.Elements.{recursion_from_All}
use Rattle.std.proofs.lemmas.Grind.{flat_map-append}
use Rattle.trace_types.specs.declared.kind.Kind.{Kind}
use Rattle.trace_types.specs.declared.kind.Kind.TheVariants.{Pair, Weak, Eph, Boxed, Vector, Bytes, ImmVector, ImmBytes, Guard, OrderedGuard, Cell}
use Rattle.trace_types.specs.Values.{Value, nil, bwp, objects_in, Object, object_at, is_ephemeron, strong_fields, queue_values, is_guardian}
use Rattle.trace_types.specs.States.{State, Registration, Note, empty, gone, set_to, locked}
use Rattle.trace_types.specs.Rules.{has, ◌⊆◌, meets}
use Rattle.trace_types.specs.Kept.{rules_to, older, is_outside, is_dead, is_unordered, is_ordered, is_of_kind, is_unordered_kind, is_ordered_kind, is_ready, is_given, kept}
use Rattle.trace_types.specs.Closed.{IsIn, IsClosed}
use Rattle.trace_types.specs.WellFormed.{births, named, named_by_object, named_by_registration, noted, has_its_fields, IsObject, IsWellFormedTo}
use Rattle.trace_types.specs.Collections.{Arguments, collect, object_left, fields_left, unless_outside, queued_for, note_left, is_fixed, is_note_gone}
use Rattle.trace_types.proofs.Least.{each_weaker}
use Rattle.trace_types.proofs.Meeting.{each_in_flat_map, met_use, in_from, in_use, met_closed, each_found, found_each}
use Rattle.trace_types.proofs.Graphs.{find_first}
use Rattle.trace_types.proofs.Phases.{accessible_kept, kept_meets, roots_accessible}
use Rattle.trace_types.proofs.Keeping.{each_filter, each_filtered, each_pair, stay_kept}
use Rattle.trace_types.proofs.Named.{append_left_sub, append_right_sub, append_sub, objects_left, objects_right, objects_both, Names, names_parts, names_whole, kept_born}

-- an object that is not found is not born
not_born : (graph : List (ℕ × Object)) (x : ℕ) → object_at graph x ≡ None → has (map (λ (e : ℕ × Object). e.0) graph) x ≡ false
not_born [] x e = refl
not_born (entry ∷ graph) x e =
    elim (cases_Bool (x == entry.0)) [
      | inl same ↦ absurd (not_None entry.1 (sym (cond-true (x == entry.0) (Some entry.1) (object_at graph x) same) ∙ sym (find_first x entry graph) ∙ e))
      | inr other ↦ ap (λ b. b || has (map (λ (d : ℕ × Object). d.0) graph) x) (ne_eqb entry.0 x (λ same. eqb-false x entry.0 other (sym same))) ∙ not_born graph x (sym (cond-false (x == entry.0) (Some entry.1) (object_at graph x) other) ∙ sym (find_first x entry graph) ∙ e)
    ]
  where
    not_None : (o : Object) → Some o ≡ None → ⊥
    not_None o e = cc

passing_there : (test : ℕ × Object → Bool) (graph : List (ℕ × Object)) → AllByRecursion (λ e. IsTrue (test e) → IsTrue (has (map (λ (d : ℕ × Object). d.0) (filter test graph)) e.0)) graph
passing_there test [] = tt
passing_there test (e ∷ graph) = (
  (λ passes. subst (λ b. IsTrue (has (map (λ (d : ℕ × Object). d.0) (cond b (e ∷ filter test graph) (filter test graph))) e.0)) (sym passes) (or_left (e.0 == e.0) _ (eq-eqb e.0 e.0 refl))),
  each_weaker _ _ (λ d h passes. elim (test e) as (λ b. IsTrue (has (map (λ (c : ℕ × Object). c.0) (cond b (e ∷ filter test graph) (filter test graph))) d.0)) [ true ↦ or_right (e.0 == d.0) _ (h passes) | false ↦ h passes ]) graph (passing_there test graph),
)

guardian_kinds : (s : State) (r : Registration) → IsTrue (is_of_kind is_guardian (object_at s.graph r.guardian)) → IsTrue (is_unordered s r || is_ordered s r)
guardian_kinds s r h = by_kind (object_at s.graph r.guardian) h
  where
    by_kind : (o : Option Object) → IsTrue (is_of_kind is_guardian o) → IsTrue (is_of_kind is_unordered_kind o || is_of_kind is_ordered_kind o)
    by_kind None h = absurd (false≢true h)
    by_kind (Some o) h = of o.kind h
      where
        of : (kind : Kind) → IsTrue (is_guardian kind) → IsTrue (is_unordered_kind kind || is_ordered_kind kind)
        of Guard h = refl
        of OrderedGuard h = refl
        of Pair h = absurd (false≢true h)
        of Weak h = absurd (false≢true h)
        of Eph h = absurd (false≢true h)
        of Boxed h = absurd (false≢true h)
        of Vector h = absurd (false≢true h)
        of Bytes h = absurd (false≢true h)
        of ImmVector h = absurd (false≢true h)
        of ImmBytes h = absurd (false≢true h)
        of Cell h = absurd (false≢true h)

module _ (s : State) (a : Arguments) where
  abbrev K : List ℕ
  K = kept s a.cg

  one_in : (x : ℕ) → IsTrue (has K x) → (x ∷ []) ⊆ K
  one_in x h y there = elim (or_cases (x == y) false there) [ inl e ↦ subst (λ z. IsTrue (has K z)) (eqb-true x y e) h | inr e ↦ absurd (false≢true e) ]

  -- an object that is kept and in a graph is in what is left of it
  abbrev first : ℕ × Object → ℕ
  first e = e.0

  abbrev left : ℕ × Object → ℕ × Object
  left e = (e.0, object_left s a e.0 e.1)

  abbrev is_kept : ℕ × Object → Bool
  is_kept e = has K e.0

  left_births : (graph : List (ℕ × Object)) (x : ℕ) → IsTrue (has K x) → IsTrue (has (map first graph) x) → IsTrue (has (map first (map left (filter is_kept graph))) x)
  left_births [] x h there = there
  left_births (e ∷ graph) x h there =
      elim (cases_Bool (e.0 == x)) [
        | inl same ↦
            let passes : has K e.0 ≡ true = subst (λ y. IsTrue (has K y)) (sym (eqb-true e.0 x same)) h in
            subst (λ b. IsTrue (has (map first (map left (cond b (e ∷ filter is_kept graph) (filter is_kept graph)))) x)) (sym passes) (or_left (e.0 == x) _ same)
        | inr other ↦
            let rest = left_births graph x h (subst (λ b. IsTrue (b || has (map first graph) x)) other there) in
            elim (has K e.0) as (λ b. IsTrue (has (map first (map left (cond b (e ∷ filter is_kept graph) (filter is_kept graph)))) x)) [
              | true ↦ or_right (e.0 == x) _ rest
              | false ↦ rest
            ]
      ]

  outside_lost : (v : Value) → IsIn K (unless_outside K v)
  outside_lost v = elim (is_outside K v) as (λ b. is_outside K v ≡ b → IsIn K (cond b bwp v)) [ true ↦ λ e. refl | false ↦ λ e. e ] refl

  -- the fields that are left of a kept object name kept objects
  fields_kept : (kind : Kind) (fields : List Value) → IsTrue (has_its_fields kind fields) → objects_in (strong_fields kind fields) ⊆ K → (IsTrue (is_ephemeron kind) → IsIn K (slice_index_or fields 0 nil) → IsIn K (slice_index_or fields 1 nil)) → objects_in (fields_left K kind fields) ⊆ K
  fields_kept Weak [] shape strong eph = strong
  fields_kept Weak (car ∷ rest) shape strong eph = objects_both (unless_outside K car ∷ []) rest K (in_use K (unless_outside K car) (outside_lost car)) strong
  fields_kept Eph (key ∷ value ∷ []) shape strong eph =
      elim (is_outside K key) as (λ b. is_outside K key ≡ b → objects_in (cond b (bwp ∷ bwp ∷ []) (key ∷ value ∷ [])) ⊆ K) [
        | true ↦ λ e x there. absurd (false≢true there)
        | false ↦ λ e. objects_both (key ∷ []) (value ∷ []) K (in_use K key e) (in_use K value (eph refl e))
      ] refl
  fields_kept Eph (key ∷ value ∷ v ∷ rest) shape strong eph = absurd (let e = eqb-true (suc (suc (suc (length rest)))) 2 shape in omega arith)
  fields_kept Eph (key ∷ []) shape strong eph = absurd (false≢true shape)
  fields_kept Eph [] shape strong eph = absurd (false≢true shape)
  fields_kept Pair fields shape strong eph = strong
  fields_kept Boxed fields shape strong eph = strong
  fields_kept Vector fields shape strong eph = strong
  fields_kept Bytes fields shape strong eph = strong
  fields_kept ImmVector fields shape strong eph = strong
  fields_kept ImmBytes fields shape strong eph = strong
  fields_kept Guard fields shape strong eph = strong
  fields_kept OrderedGuard fields shape strong eph = strong
  fields_kept Cell fields shape strong eph = strong

  abbrev entry_of : Registration → Value × ℕ
  entry_of r = (r.representative, r.line)

  abbrev value_in : Value × ℕ → Value
  value_in e = e.0

  abbrev is_queued : ℕ → Registration → Bool
  is_queued x r = is_given s a.cg r && (x == r.guardian)

  queued_kept : (x : ℕ) (rs : List Registration) → AllByRecursion (λ r. IsTrue (is_given s a.cg r) → IsIn K r.representative) rs → objects_in (map value_in (map entry_of (filter (is_queued x) rs))) ⊆ K
  queued_kept x [] h = λ y there. absurd (false≢true there)
  queued_kept x (r ∷ rs) h =
      elim (is_queued x r) as (λ b. is_queued x r ≡ b → objects_in (map value_in (map entry_of (cond b (r ∷ filter (is_queued x) rs) (filter (is_queued x) rs)))) ⊆ K) [
        | true ↦ λ e. objects_both (r.representative ∷ []) (map value_in (map entry_of (filter (is_queued x) rs))) K (in_use K r.representative (h.0 (and_parts (is_given s a.cg r) (x == r.guardian) e).0)) (queued_kept x rs h.1)
        | false ↦ λ e. queued_kept x rs h.1
      ] refl

  -- the representative of a registration that is given is kept
  given_kept : AllByRecursion (λ r. IsTrue (is_given s a.cg r) → IsIn K r.representative) s.registrations
  given_kept =
      each_pair _ _ _ (λ r serves ready given.
      elim (or_cases (is_dead s a.cg r && is_unordered s r && has K r.guardian) (is_ready s a.cg r) given) [
        | inl e ↦
            let parts = and_parts (is_dead s a.cg r && is_unordered s r) (has K r.guardian) e in
            in_from K r.representative (met_use K (r.guardian ∷ []) (objects_in (r.representative ∷ [])) (serves parts.0) (and_from (has K r.guardian) true parts.1 refl))
        | inr e ↦ in_from K r.representative (ready e)
      ]) s.registrations
      (each_filter (λ r. AllByRecursion (λ q. IsTrue (meets K q)) (rules_to r.representative (r.guardian ∷ []))) (λ r. is_dead s a.cg r && is_unordered s r) s.registrations
      (each_in_flat_map (λ q. IsTrue (meets K q)) (λ r. rules_to r.representative (r.guardian ∷ [])) _ (recursion_from_All _ _ (kept_meets s a.cg).serves)))
      (ready_kept s.registrations (kept_meets s a.cg).representatives)
    where
      ready_kept : (rs : List Registration) → objects_in (map (λ r. r.representative) (filter (is_ready s a.cg) rs)) ⊆ K → AllByRecursion (λ r. IsTrue (is_ready s a.cg r) → objects_in (r.representative ∷ []) ⊆ K) rs
      ready_kept [] h = tt
      ready_kept (r ∷ rs) h =
          elim (is_ready s a.cg r) as (λ b. objects_in (map (λ (q : Registration). q.representative) (cond b (r ∷ filter (is_ready s a.cg) rs) (filter (is_ready s a.cg) rs))) ⊆ K → (IsTrue b → objects_in (r.representative ∷ []) ⊆ K) × AllByRecursion (λ q. IsTrue (is_ready s a.cg q) → objects_in (q.representative ∷ []) ⊆ K) rs) [
            | true ↦ λ g. ((λ _. objects_left (r.representative ∷ []) (map (λ (q : Registration). q.representative) (filter (is_ready s a.cg) rs)) K g), ready_kept rs (objects_right (r.representative ∷ []) (map (λ (q : Registration). q.representative) (filter (is_ready s a.cg) rs)) K g))
            | false ↦ λ g. ((λ e. absurd (false≢true e)), ready_kept rs g)
          ] h

  -- ---- what is named in the state that is left

  note_kept : (note : Note) → flat_map noted (note ∷ []) ⊆ births s → older s a.cg ⊆ K → flat_map noted (note_left s a.cg note ∷ []) ⊆ K
  note_kept empty h old = λ x there. absurd (false≢true there)
  note_kept gone h old = λ x there. absurd (false≢true there)
  note_kept (set_to birth) h old =
      elim (is_note_gone s a.cg birth (object_at s.graph birth)) as (λ b. is_note_gone s a.cg birth (object_at s.graph birth) ≡ b → flat_map noted (cond b gone (set_to birth) ∷ []) ⊆ K) [
        | true ↦ λ e x there. absurd (false≢true there)
        | false ↦ λ e. one_in birth (stays (object_at s.graph birth) refl e)
      ] refl
    where
      born : IsTrue (has (births s) birth)
      born = h birth (ap (λ b. b || false) (eq-eqb birth birth refl))

      stays : (o : Option Object) → object_at s.graph birth ≡ o → is_note_gone s a.cg birth o ≡ false → IsTrue (has K birth)
      stays None found unbroken = absurd (both_ways (has (births s) birth) (not_born s.graph birth found) born)
      stays (Some o) found unbroken =
          elim (and_cases (nat_le o.generation a.cg) (not (has K birth) || not (is_fixed s birth o)) unbroken) [
            | inl young ↦ old birth (each_found (λ x q. IsTrue (nat_lt a.cg q.generation) → IsTrue (has (older s a.cg) x)) s.graph (passing_there (λ e. nat_lt a.cg e.1.generation) s.graph) birth o found (lt-ltb a.cg o.generation (leb-false o.generation a.cg young)))
            | inr no_loss ↦ not-false (has K birth) (or_parts (not (has K birth)) (not (is_fixed s birth o)) no_loss).0
          ]

  notes_kept : (notes : List Note) → flat_map noted notes ⊆ births s → older s a.cg ⊆ K → flat_map noted (map (note_left s a.cg) notes) ⊆ K
  notes_kept [] h old = λ x there. absurd (false≢true there)
  notes_kept (note ∷ notes) h old =
      let split = subst (λ xs. xs ⊆ births s) (flat_map-append noted (note ∷ []) notes) h in
      subst (λ xs. xs ⊆ K) (sym (flat_map-append noted (note_left s a.cg note ∷ []) (map (note_left s a.cg) notes)))
      (append_sub (flat_map noted (note_left s a.cg note ∷ [])) (flat_map noted (map (note_left s a.cg) notes)) K
      (note_kept note (append_left_sub (flat_map noted (note ∷ [])) (flat_map noted notes) (births s) split) old)
      (notes_kept notes (append_right_sub (flat_map noted (note ∷ [])) (flat_map noted notes) (births s) split) old))

  entry_kept : IsClosed s K → (x : ℕ) (o : Object) → object_at s.graph x ≡ Some o → IsTrue (has_its_fields o.kind o.fields) → IsTrue (has K x) → named_by_object (x, object_left s a x o) ⊆ K
  entry_kept closed x o found shape there =
      let strong = closed.strong x o found there in
      objects_both (fields_left K o.kind o.fields) (queue_values (object_left s a x o)) K
      (fields_kept o.kind o.fields shape (objects_right (queue_values o) (strong_fields o.kind o.fields) K strong) (λ is. closed.ephemerons x o found is there))
      (subst (λ vs. objects_in vs ⊆ K) (sym (map-append value_in o.queue (queued_for s a.cg x)))
      (objects_both (queue_values o) (map value_in (queued_for s a.cg x)) K
      (objects_left (queue_values o) (strong_fields o.kind o.fields) K strong)
      (queued_kept x s.registrations given_kept)))

  registrations_kept : IsClosed s K → AllByRecursion (λ r. IsTrue (is_unordered s r || is_ordered s r)) s.registrations → AllByRecursion (λ r. IsTrue (has K r.guardian && not (is_given s a.cg r)) → named_by_registration r ⊆ K) s.registrations
  registrations_kept closed guards =
      each_pair (λ r. IsTrue (has K r.guardian) → IsIn K r.object → IsIn K r.representative) (λ r. IsTrue (has K r.guardian) → is_given s a.cg r ≡ false → IsIn K r.object) (λ r. IsTrue (has K r.guardian && not (is_given s a.cg r)) → named_by_registration r ⊆ K)
      (λ r represents stays is.
      let parts = and_parts (has K r.guardian) (not (is_given s a.cg r)) is in
      let kept_object = stays parts.0 (not-true (is_given s a.cg r) parts.1) in
      append_sub (r.guardian ∷ []) (objects_in (r.object ∷ r.representative ∷ [])) K
      (one_in r.guardian parts.0)
      (objects_both (r.object ∷ []) (r.representative ∷ []) K (in_use K r.object kept_object) (in_use K r.representative (represents parts.0 kept_object))))
      s.registrations (recursion_from_All _ s.registrations closed.registrations) (stay_kept s a.cg guards)

pub each_map : {X Y : Type 0} (P : Y → Type 0) (g : X → Y) (xs : List X) → AllByRecursion (λ x. P (g x)) xs → AllByRecursion P (map g xs)
each_map P g [] h = tt
each_map P g (x ∷ xs) h = (h.0, each_map P g xs h.1)

-- a collection names only objects of the graph that it leaves
pub collect_in_graph : (last : ℕ) (s : State) (a : Arguments) → IsWellFormedTo last s → named (collect s a) ⊆ births (collect s a)
unfolding collect
collect_in_graph last s a well = λ x there. left_births s a s.graph x (names_whole (collect s a) set names x there) (kept_born s a.cg well.in_graph x (names_whole (collect s a) set names x there))
  where
    set : List ℕ
    set = kept s a.cg

    closed : IsClosed s set
    closed = met_closed s set (kept_meets s a.cg).closed

    old : Names s (births s)
    old = names_parts s (births s) well.in_graph

    roots_kept : (objects_in s.registers ++ locked s ++ older s a.cg) ⊆ set
    roots_kept x there = accessible_kept s a.cg x (roots_accessible s a.cg x there)

    names : Names (collect s a) set
    names = record {
      objects = each_map (λ e. named_by_object e ⊆ set) (left s a) (filter (is_kept s a) s.graph)
          (each_filtered (λ e. named_by_object (left s a e) ⊆ set) (is_kept s a) s.graph
          (each_pair _ _ (λ e. IsTrue (is_kept s a e) → named_by_object (left s a e) ⊆ set) (λ e kept_shaped object there. kept_shaped object.fields there) s.graph
          (found_each (λ x o. IsTrue (has_its_fields o.kind o.fields) → IsTrue (has set x) → named_by_object (x, object_left s a x o) ⊆ set) s.graph well.ordered (entry_kept s a closed))
          (recursion_from_All (λ e. IsObject s.version s.oldest e.1) s.graph well.objects)));
      registers = append_left_sub (objects_in s.registers) (locked s) set (append_left_sub (objects_in s.registers ++ locked s) (older s a.cg) set roots_kept);
      locks = append_right_sub (objects_in s.registers) (locked s) set (append_left_sub (objects_in s.registers ++ locked s) (older s a.cg) set roots_kept);
      notes = notes_kept s a s.notes old.notes (append_right_sub (objects_in s.registers ++ locked s) (older s a.cg) set roots_kept);
      registrations = each_filtered (λ r. named_by_registration r ⊆ set) (λ r. has set r.guardian && not (is_given s a.cg r)) s.registrations
          (registrations_kept s a closed (each_weaker _ (λ r. IsTrue (is_unordered s r || is_ordered s r)) (λ r g. guardian_kinds s r g) s.registrations (recursion_from_All _ s.registrations well.guardians)));
    }
