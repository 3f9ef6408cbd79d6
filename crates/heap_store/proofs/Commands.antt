-- What the calls that look at no object make of the state.
use Rattle.std.proofs.Common.{◌≡◌, ℕ, ◌<◌, ◌≤◌, ◌==◌, false, cond, [], set, IsTrue, Ok, Err, refl, sym, ◌∙◌, ap, subst, arith, inl, inr}
use Rattle.gc_words.specs.declared.value.Value.{Value}
use Rattle.trace_types.specs.declared.operand.Operand.{Operand}
use Rattle.trace_types.specs.declared.command.Command.TheVariants.{Thread, Mov, Version}
use Rattle.trace_types.specs.States as states
use Rattle.trace_types.specs.States.{State, with_register}
use Rattle.trace_types.specs.Steps.{step}
use Rattle.trace_types.specs.WellFormed.{operand_fits, IsWellFormedTo}
use Rattle.trace_types.proofs.Steadiness.{step_well_formed}
use Rattle.trace_types.specs.declared.fault.Fault.{Fault}
use Rattle.heap_store.specs.declared.error.HeapError.{HeapError}
use Rattle.heap_store.specs.HeapView.{HeapView}
use Rattle.heap_store.specs.Stands.{Stands}
use Rattle.heap_store.specs.Calls.{Obeys, IsValid, operand_value}
use Rattle.heap_store.proofs.Plain.{plain_kept}
use Rattle.heap_store.proofs.Standing.{well_formed_to, next_line, register_changed}
use Rattle.heap_store.proofs.Operands.{operand_there, operand_read}

-- ---- the thread

threaded : (last : ℕ) (s : State) (t : ℕ) → IsWellFormedTo last s → t ≤ 63 → IsWellFormedTo last (record s { thread = t })
threaded last s t well less = record {
  ordered = well.ordered;
  objects = well.objects;
  in_graph = well.in_graph;
  guardians = well.guardians;
  differ = well.differ;
  in_range = well.in_range;
  lines_ordered = well.lines_ordered;
  registration_values = well.registration_values;
  locks_ordered = well.locks_ordered;
  locks = well.locks;
  registers = well.registers;
  register_values = well.register_values;
  notes = well.notes;
  thread = less;
  oldest = well.oldest;
  version = well.version;
}

thread_selected : (h : HeapView) (s : State) (t : ℕ) → t ≤ 63 → Stands h s → Stands (record h { thread = t }) (record s { thread = t })
thread_selected h s t less stands = record {
  alive = stands.alive;
  territories = stands.territories;
  closed = stands.closed;
  graph = stands.graph;
  cells = λ c cell e is. elim (stands.cells c cell e is) [
    | inl queued ↦ inl queued
    | inr loose ↦ inr (record { words = loose.words; no_line = loose.no_line; generation = loose.generation })
  ];
  registers = stands.registers;
  locks = stands.locks;
  notes = stands.notes;
  registry = stands.registry;
  thread = refl;
  collects = stands.collects;
  oldest = stands.oldest;
  version = stands.version;
  born = stands.born;
  last = stands.last;
  well_formed = threaded h.last s t stands.well_formed less;
}

pub selects : (h old : HeapView) → h ≡ old → (t : ℕ) → t ≤ 63 → (s : State) (line : ℕ) → Stands old s → Obeys s (step s line (Thread t)) (Ok tt) (record h { thread = t })
unfolding step
selects h old same t less s line stands = thread_selected h s t less (subst (λ (v : HeapView). Stands v s) (sym same) stands)

pub selected_valid : (h : HeapView) (t : ℕ) → t ≤ 63 → IsValid h → IsValid (record h { thread = t })
selected_valid h t less valid = record {
  state = record valid.state { thread = t };
  stands = thread_selected h valid.state t less valid.stands;
  cards = valid.cards;
  plain = plain_kept h (record h { thread = t }) refl refl refl refl valid.plain;
}

-- ---- registers

moved : (h : HeapView) (s : State) (d : ℕ) (o : Operand) → IsTrue (operand_fits o) → Stands h s → Stands (record h { registers = set h.registers d (operand_value h.registers o) }) (with_register s d (states.operand_value s o))
moved h s d o fits stands =
    subst (λ v. Stands (record h { registers = set h.registers d (operand_value h.registers o) }) (with_register s d v)) (sym (operand_read h s stands o))
    (register_changed h s stands d (operand_value h.registers o) (operand_there h s stands o fits))

moved_to : (h : HeapView) (s : State) (n d : ℕ) (v : Value) (o : Operand) → n ≡ d → v ≡ operand_value h.registers o → IsTrue (operand_fits o) → Stands h s → Stands (record h { registers = set h.registers n v }) (with_register s d (states.operand_value s o))
moved_to h s n d v o number value fits stands =
    let at : ℕ → Value → HeapView = λ m w. record h { registers = set h.registers m w } in
    subst (λ m. Stands (at m v) (with_register s d (states.operand_value s o))) (sym number)
    (subst (λ w. Stands (at d w) (with_register s d (states.operand_value s o))) (sym value) (moved h s d o fits stands))

pub moves : (h old : HeapView) → h ≡ old → (n d : ℕ) (v : Value) (o : Operand) → n ≡ d → v ≡ operand_value old.registers o → IsTrue (operand_fits o)
    → (s : State) (line : ℕ) → Stands old s → Obeys s (step s line (Mov d o)) (Ok tt) (record h { registers = set h.registers n v })
unfolding step
moves h old same n d v o number value fits s line stands =
    moved_to h s n d v o number (value ∙ ap (λ (w : HeapView). operand_value w.registers o) (sym same)) fits (subst (λ (w : HeapView). Stands w s) (sym same) stands)

pub moved_valid : (h old : HeapView) → h ≡ old → (n d : ℕ) (v : Value) (o : Operand) → n ≡ d → v ≡ operand_value old.registers o → IsTrue (operand_fits o)
    → IsValid h → IsValid (record h { registers = set h.registers n v })
moved_valid h old same n d v o number value fits valid = record {
  state = with_register valid.state d (states.operand_value valid.state o);
  stands = moved_to h valid.state n d v o number (value ∙ ap (λ (w : HeapView). operand_value w.registers o) (sym same)) fits valid.stands;
  cards = valid.cards;
  plain = plain_kept h (record h { registers = set h.registers n v }) refl refl refl refl valid.plain;
}

-- ---- the version

versioned : (h : HeapView) (s : State) → h.last < 1 → Stands h s → Stands (record h { last = 1; version = 2 }) (record s { version = 2 })
unfolding step
versioned h s first stands = record {
  alive = stands.alive;
  territories = stands.territories;
  closed = stands.closed;
  graph = stands.graph;
  cells = λ c cell e is. elim (stands.cells c cell e is) [
    | inl queued ↦ inl queued
    | inr loose ↦ inr (record { words = loose.words; no_line = loose.no_line; generation = loose.generation })
  ];
  registers = stands.registers;
  locks = stands.locks;
  notes = stands.notes;
  registry = stands.registry;
  thread = stands.thread;
  collects = stands.collects;
  oldest = stands.oldest;
  version = refl;
  born = λ a x e. let was = stands.born a x e in (was.0, omega (arith, was.1));
  last = omega arith;
  well_formed = step_well_formed 1 s (record s { version = 2 }) 1 Version [] (well_formed_to h.last 1 s (omega arith) stands.well_formed)
      (next_line h.last 1 s stands.well_formed first (omega arith)) (omega arith) refl refl;
}

pub versions : (h old : HeapView) → h ≡ old → (line : ℕ) → line ≡ 1 → old.last < line → (s : State) → Stands old s → Obeys s (step s line Version) (Ok tt) (record h { last = line; version = 2 })
unfolding step
versions h old same line first newer s stands =
    subst (λ n. Obeys s (step s n Version) (Ok tt) (record h { last = n; version = 2 })) (sym first)
    (versioned h s (omega (arith, ap (λ (v : HeapView). v.last) same)) (subst (λ (v : HeapView). Stands v s) (sym same) stands))

pub versioned_valid : (h old : HeapView) → h ≡ old → (line : ℕ) → line ≡ 1 → old.last < line → IsValid h → IsValid (record h { last = line; version = 2 })
versioned_valid h old same line first newer valid =
    subst (λ n. IsValid (record h { last = n; version = 2 })) (sym first) (record {
      state = record valid.state { version = 2 };
      stands = versioned h valid.state (omega (arith, ap (λ (v : HeapView). v.last) same)) valid.stands;
      cards = valid.cards;
      plain = plain_kept h (record h { last = 1; version = 2 }) refl refl refl refl valid.plain;
    })

pub no_version : (old : HeapView) (line : ℕ) → (line == 1) ≡ false → (s : State) → Stands old s → Obeys s (step s line Version) (Err (HeapError.Fault Fault.UnknownCommand)) old
unfolding step
no_version old line later s stands =
    subst (λ b. Obeys s (cond b (states.silently (record s { version = 2 })) (Err Fault.UnknownCommand)) (Err (HeapError.Fault Fault.UnknownCommand)) old) (sym later) (refl, stands)
