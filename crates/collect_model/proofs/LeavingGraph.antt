-- What is left of plain starts is the graph that a collection leaves.
use Rattle.std.proofs.Common.{◌≡◌, ℕ, Bool, true, false, List, [], map, filter, ◌&&◌, ◌==◌, cond, IsTrue, Option, Some, None, option_map, refl, sym, ap, ◌∙◌}
use Rattle.std.proofs.lemmas.Bool.{cond-true}
use Rattle.std.proofs.lemmas.Option.{none-some}
use Rattle.trace_types.specs.Values.{Object, is_guardian, object_at}
use Rattle.trace_types.specs.States.{State, Registration}
use Rattle.trace_types.specs.Rules.{has}
use Rattle.trace_types.specs.Kept.{kept, is_given}
use Rattle.trace_types.specs.Collections.{Arguments, collect, object_left, queued_for}
use Rattle.trace_types.proofs.Finding.{left_found}
use Rattle.segment.specs.Segments.{Start}
use Rattle.heap_store.specs.Starts.{Starts, is_cell, object_of, IsClosed}
use Rattle.heap_store.specs.Graphs.{GraphStands, HasPlace, IsInGraph}
use Rattle.heap_store.proofs.Kept.{empty_queue}
use Rattle.heap_store.proofs.Plain.{plain_kind}
use Rattle.collect_model.proofs.Left.{AreLeft, IsLeftOf}
use Rattle.collect_model.proofs.PlainKinds.{ArePlain}
use Rattle.collect_model.proofs.Graph.{plain_found}

-- what is left is closed
pub closed_left : (set : List ℕ) (a : Arguments) (f g : Starts) → AreLeft set a f g → IsClosed g
closed_left set a f g left = record {
  single = left.once;
  laid_out = λ q y here. (left.from q y here).left.laid_out;
}

-- what the graph has of a kept object
kept_found : (s : State) (a : Arguments) (birth : ℕ) (o : Object) → IsTrue (has (kept s a.cg) birth)
    → object_at s.graph birth ≡ Some o → object_at (collect s a).graph birth ≡ Some (object_left s a birth o)
kept_found s a birth o is found =
    left_found s a birth
    ∙ cond-true (has (kept s a.cg) birth) _ _ is ∙ ap (option_map (object_left s a birth)) found

none_queued : (s : State) (cg birth : ℕ) → s.registrations ≡ [] → queued_for s cg birth ≡ []
none_queued s cg birth none =
    ap (λ (rs : List Registration). map (λ (r : Registration). (r.representative, r.line))
    (filter (λ r. is_given s cg r && (birth == r.guardian)) rs)) none

module _ (f g : Starts) (s : State) (a : Arguments) (kinds : ArePlain f) (none : s.registrations ≡ [])
    (stands : GraphStands f s.graph) (left : AreLeft (kept s a.cg) a f g) where
  -- what is left, as an object of the graph
  same_object : (p q : ℕ) (x y : Start) → IsLeftOf (kept s a.cg) a f g p x q y
      → object_of g q y [] ≡ object_left s a x.birth (object_of f p x [])
  same_object p q x y is = λ i. let o : Object = record {
    kind = is.kind i;
    creator = is.thread i;
    generation = is.generation i;
    fields = is.fields i;
    queue = sym (none_queued s a.cg x.birth none) i;
  } in o

  objects_left : (q : ℕ) (y : Start) → g q ≡ Some y → IsInGraph g (collect s a).graph q y
  objects_left q y here =
      let was = left.from q y here in
      let x = was.start in
      let no_guardian = (plain_kind x.kind (kinds was.place x was.there)).no_guardian in
      let old = plain_found f s.graph kinds stands was.place x was.there in
      record {
        cells = [];
        queue = [];
        has_queue = empty_queue g q y (ap is_guardian was.left.kind ∙ no_guardian);
        found =
            ap (object_at (collect s a).graph) was.left.birth
            ∙ kept_found s a x.birth (object_of f was.place x []) was.kept old
            ∙ ap Some (sym (same_object was.place q x y was.left));
      }

  place_left : (birth : ℕ) → IsTrue (has (kept s a.cg) birth) → HasPlace f birth → HasPlace g birth
  place_left birth is was =
      let now = left.to was.place was.start was.here (ap (has (kept s a.cg)) was.same_birth ∙ is) in
      record {
        place = now.place;
        start = now.start;
        here = now.here;
        same_birth = now.left.birth ∙ was.same_birth;
        no_cell = ap is_cell now.left.kind ∙ was.no_cell;
      }

  places_left : (birth : ℕ) (o : Object) → object_at (collect s a).graph birth ≡ Some o → HasPlace g birth
  places_left birth o found =
      by_case (has (kept s a.cg) birth) (object_at s.graph birth) refl refl
      (sym (left_found s a birth) ∙ found)
    where
      by_case : (b : Bool) (old : Option Object) → has (kept s a.cg) birth ≡ b → object_at s.graph birth ≡ old
          → cond b (option_map (object_left s a birth) old) None ≡ Some o → HasPlace g birth
      by_case false old is e there = absurd (none-some o there)
      by_case true None is e there = absurd (none-some o there)
      by_case true (Some x) is e there = place_left birth is (stands.places birth x e)

  -- the starts that are left are the objects of the collected graph
  pub graph_left_stands : GraphStands g (collect s a).graph
  graph_left_stands = record { objects = λ q y here _. objects_left q y here; places = places_left }
