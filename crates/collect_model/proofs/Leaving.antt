-- A heap of what a collection left stands for the collected state.
use Rattle.std.proofs.Common.{◌≡◌, ℕ, ◌≤◌, false, List, [], IsTrue, Some, sym, ap, subst, ◌∙◌}
use Rattle.std.proofs.lemmas.Bool.{false≢true}
use Rattle.gc_words.specs.declared.value.Value.{Value}
use Rattle.trace_types.specs.States.{State}
use Rattle.trace_types.specs.Kept.{kept}
use Rattle.trace_types.specs.Collections.{Arguments, are_allowed, collect}
use Rattle.trace_types.proofs.Collecting.{collect_well_formed}
use Rattle.segment.specs.Segments.{Start}
use Rattle.territory.specs.Territories.{TerritoryView}
use Rattle.heap_store.specs.Starts.{is_cell}
use Rattle.heap_store.specs.HeapView.{HeapView, starts_in, starts_of}
use Rattle.heap_store.specs.Plain.{IsPlain, is_plain}
use Rattle.heap_store.specs.Stands.{AreSettled, Stands}
use Rattle.heap_store.proofs.Plain.{plain_no_cell}
use Rattle.collect_model.proofs.Left.{AreLeft, AreRegistersLeft}
use Rattle.collect_model.proofs.Graph.{nothing_registered}
use Rattle.collect_model.proofs.LeavingGraph.{closed_left, graph_left_stands}
use Rattle.collect_model.proofs.LeavingRoots.{locks_left, notes_left, registry_left}

-- the heap of what is left of the kept starts and of the registers stands for the collected state
pub left_stands : (h : HeapView) (s : State) (a : Arguments) (territories : List TerritoryView)
    (registers : List Value) → Stands h s → IsPlain h
    → IsTrue (are_allowed s.version s.oldest a) → AreSettled territories
    → AreLeft (kept s a.cg) a (starts_of h) (starts_in territories)
    → AreRegistersLeft (starts_of h) (starts_in territories) h.registers registers
    → Stands (record h { territories = territories; registers = registers }) (collect s a)
unfolding collect
left_stands h s a territories registers stands plain allowed settled left held = record {
  alive = stands.alive;
  territories = settled;
  closed = closed_left (kept s a.cg) a (starts_of h) (starts_in territories) left;
  graph = graph_left_stands (starts_of h) (starts_in territories) s a plain.kinds none stands.graph left;
  cells = λ c cell here celled. absurd (false≢true (sym (no_cell c cell here) ∙ celled));
  registers = record { there = held.there; reads = stands.registers.reads ∙ sym held.reads };
  locks =
      locks_left (starts_of h) (starts_in territories) s a h.locks plain.locks (kept s a.cg) plain.kinds left
      stands.locks;
  notes = notes_left (starts_of h) (starts_in territories) s a.cg h.notes plain.notes stands.notes;
  registry = registry_left (starts_in territories) s a.cg h.registry plain.registry none;
  thread = stands.thread;
  collects = stands.collects;
  oldest = stands.oldest;
  version = stands.version;
  born = λ q y here.
      let was = left.from q y here in
      let born = stands.born was.place was.start was.there in
      subst (λ birth. (1 ≤ birth) × (birth ≤ h.last)) (sym was.left.birth) born;
  last = stands.last;
  well_formed = collect_well_formed h.last s a allowed stands.well_formed;
}
  where
    none : s.registrations ≡ []
    none = nothing_registered h s stands plain

    no_cell : (q : ℕ) (y : Start) → starts_in territories q ≡ Some y → is_cell y.kind ≡ false
    no_cell q y here =
        let was = left.from q y here in
        ap is_cell was.left.kind ∙ plain_no_cell h plain was.place was.start was.there

-- it has no other kinds of objects than before
pub plain_left : (h : HeapView) (territories : List TerritoryView) (registers : List Value) (set : List ℕ)
    (a : Arguments) → IsPlain h → AreLeft set a (starts_of h) (starts_in territories)
    → IsPlain (record h { territories = territories; registers = registers })
plain_left h territories registers set a plain left = record {
  kinds = λ q y here.
      let was = left.from q y here in
      ap is_plain was.left.kind ∙ plain.kinds was.place was.start was.there;
  locks = plain.locks;
  notes = plain.notes;
  registry = plain.registry;
}
