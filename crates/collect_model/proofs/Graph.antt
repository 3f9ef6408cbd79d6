-- A plain heap and its graph: what starts is an object of the graph, and nothing is locked or registered.
use Rattle.std.proofs.Common.{◌≡◌, ℕ, ◌==◌, List, [], ◌∷◌, map, flat_map, cond, Contains, IsTrue, Option, Some, None, nat_cmp, nat_lt, not, refl, sym, ◌∙◌, ap, subst, arith, inl, inr}
use Rattle.std.specs.Cmp.{unsigned_tied}
use Rattle.std.specs.FinMap.{find, is_sorted}
use Rattle.std.proofs.lemmas.Bool.{cases_lt, le-leb, le-ltb, lt-leb, lt-ltb, cases_eq, cond-true, cond-false, eq-eqb, eqb-true, false≢true, ne_eqb, not_from_false, or_cases}
use Rattle.std.proofs.lemmas.List.Elements.{All-contains, All-contains_itself, All-from_recursion, recursion_from_All}
use Rattle.std.proofs.lemmas.Option.{none-some, same_Some}
use Rattle.trace_types.specs.Values.{Graph, Object, object_at}
use Rattle.trace_types.specs.States.{State, locked}
use Rattle.trace_types.specs.Rules.{has}
use Rattle.trace_types.specs.WellFormed.{births}
use Rattle.trace_types.proofs.Meeting.{each_found, found_each}
use Rattle.trace_types.proofs.Named.{names_parts}
use Rattle.segment.specs.Segments.{Start}
use Rattle.sweep_model.specs.World.{is_old}
use Rattle.heap_store.specs.Starts.{Starts, is_object, birth_of, object_of}
use Rattle.heap_store.specs.Graphs.{GraphStands}
use Rattle.heap_store.specs.Roots.{by_line, read_registration}
use Rattle.heap_store.specs.HeapView.{HeapView, starts_of}
use Rattle.heap_store.specs.Plain.{IsPlain}
use Rattle.heap_store.specs.Stands.{Stands}
use Rattle.heap_store.proofs.Kept.{no_queue}
use Rattle.heap_store.proofs.Plain.{plain_kind, plain_no_cell}
use Rattle.collect_model.proofs.PlainKinds.{ArePlain}

-- ---- lists by keys

-- what a list has for one of its keys
key_found : {X : Type 0} (es : List (ℕ × X)) (q : ℕ) → IsTrue (has (map (λ e. e.0) es) q)
    → (x : X) × (find nat_cmp q es ≡ Some x)
key_found [] q h = absurd (false≢true h)
key_found (e ∷ es) q h =
    let first : find nat_cmp q (e ∷ es) ≡ cond (q == e.0) (Some e.1) (find nat_cmp q es) =
    ap (λ b. cond b (Some e.1) (find nat_cmp q es)) (unsigned_tied q e.0) in
    elim (cases_eq q e.0) [
      | inl same ↦ (e.1, first ∙ cond-true (q == e.0) _ _ (eq-eqb q e.0 same))
      | inr other ↦
          let r = key_found es q (elim (or_cases (e.0 == q) (has (map (λ d. d.0) es) q) h) [
            | inl same ↦ absurd (other (sym (eqb-true e.0 q same)))
            | inr later ↦ later
          ]) in
          (r.0, first ∙ cond-false (q == e.0) _ _ (ne_eqb q e.0 other) ∙ r.1)
    ]

-- an object that is found is in the graph
pub found_contains : (graph : Graph) (b : ℕ) (o : Object) → object_at graph b ≡ Some o → Contains graph (b, o)
found_contains graph b o e =
    each_found (λ x q. Contains graph (x, q)) graph
    (recursion_from_All (Contains graph) graph (All-contains_itself graph)) b o e

-- and one that is in an ordered graph is found
contains_found : (graph : Graph) → IsTrue (is_sorted nat_cmp graph) → (b : ℕ) (o : Object)
    → Contains graph (b, o) → object_at graph b ≡ Some o
contains_found graph ordered b o c =
    All-contains (λ (e : ℕ × Object). object_at graph e.0 ≡ Some e.1) graph (b, o)
    (All-from_recursion _ graph (found_each (λ x q. object_at graph x ≡ Some q) graph ordered (λ x q e. e))) c

-- ---- starts

-- a start is older where its generation is above those that are collected
pub old_above : (cg : ℕ) (x : Start) → is_old cg (Some x) ≡ nat_lt cg x.generation
old_above cg x = elim (cases_lt cg x.generation) [
  | inl more ↦ ap not (lt-leb x.generation cg more) ∙ sym (lt-ltb cg x.generation more)
  | inr less ↦ ap not (le-leb x.generation cg less) ∙ sym (le-ltb cg x.generation less)
]

-- what starts somewhere, of a plain kind, is an object of the graph, with no queue
pub plain_found : (f : Starts) (graph : Graph) → ArePlain f → GraphStands f graph → (a : ℕ) (x : Start)
    → f a ≡ Some x → object_at graph x.birth ≡ Some (object_of f a x [])
plain_found f graph kinds stands a x here =
    let is = plain_kind x.kind (kinds a x here) in
    let old = stands.objects a x here is.no_cell in
    subst (λ q. object_at graph x.birth ≡ Some (object_of f a x q))
    (no_queue f a x old.cells old.queue is.no_guardian old.has_queue) old.found

-- the place of an object of a plain graph, and its start
pub record IsPlaced (f : Starts) (birth : ℕ) (o : Object) : Type 0 where
  pub place : ℕ
  pub start : Start
  pub here : f place ≡ Some start
  pub same_birth : start.birth ≡ birth
  pub is : o ≡ object_of f place start []

-- ---- a plain heap

module _ (h : HeapView) (s : State) (stands : Stands h s) (plain : IsPlain h) where
  abbrev f : Starts
  f = starts_of h

  -- what starts somewhere is found in the graph, so it is there
  pub start_found : (a : ℕ) (x : Start) → f a ≡ Some x
      → object_at s.graph x.birth ≡ Some (object_of f a x [])
  start_found = plain_found f s.graph plain.kinds stands.graph

  pub start_contained : (a : ℕ) (x : Start) → f a ≡ Some x
      → Contains s.graph (x.birth, object_of f a x [])
  start_contained a x here = found_contains s.graph x.birth (object_of f a x []) (start_found a x here)

  -- an object of the graph is what starts somewhere
  pub object_placed : (birth : ℕ) (o : Object) → object_at s.graph birth ≡ Some o → IsPlaced f birth o
  object_placed birth o found =
      let p = stands.graph.places birth o found in
      record {
        place = p.place;
        start = p.start;
        here = p.here;
        same_birth = p.same_birth;
        is = same_Some o _
            (sym found ∙ ap (object_at s.graph) (sym p.same_birth) ∙ start_found p.place p.start p.here);
      }

  -- whether it is found or there
  pub contained_placed : (birth : ℕ) (o : Object) → Contains s.graph (birth, o) → IsPlaced f birth o
  contained_placed birth o c =
      object_placed birth o (contains_found s.graph stands.well_formed.ordered birth o c)

  pub nothing_registered : s.registrations ≡ []
  nothing_registered =
      stands.registry.reads
      ∙ ap (λ lists. by_line (map (read_registration f) (flat_map (λ rs. rs) lists))) plain.registry

  pub nothing_locked : (b : ℕ) → IsTrue (has (locked s) b) → ⊥
  nothing_locked b there =
      let born = key_found s.graph b ((names_parts s (births s) stands.well_formed.in_graph).locks b there) in
      let p = object_placed b born.0 born.1 in
      let object : IsTrue (is_object (f p.place)) = subst (λ o. IsTrue (is_object o)) (sym p.here)
      (not_from_false _ (plain_no_cell h plain p.place p.start p.here)) in
      let none : find nat_cmp b s.locks ≡ None =
      ap (λ c. find nat_cmp c s.locks) (sym p.same_birth ∙ ap birth_of (sym p.here))
      ∙ stands.locks.same p.place object ∙ ap (find nat_cmp p.place) plain.locks in
      let found = key_found s.locks b there in
      none-some found.0 (sym none ∙ found.1)

  -- a birth has one place
  pub one_place : (p q : ℕ) (x : Start) → f p ≡ Some x → birth_of (f q) ≡ x.birth → q ≡ p
  one_place p q x here same = by_start (f q) refl
    where
      by_start : (o : Option Start) → f q ≡ o → q ≡ p
      by_start None e =
          let born = stands.born p x here in
          let zero_birth : x.birth ≡ 0 = sym same ∙ ap birth_of e in
          absurd (omega (arith, born.0, zero_birth))
      by_start (Some y) e = stands.closed.single q p y x e here (sym (ap birth_of e) ∙ same)
