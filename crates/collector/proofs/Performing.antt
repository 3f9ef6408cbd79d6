-- A collection is the step of its command.
use Rattle.std.proofs.Common.{◌≡◌, ◌≢◌, ℕ, Bool, true, cond, IsTrue, Ok, Err, refl, sym, ◌∙◌, ap, subst, inl, inr}
use Rattle.std.proofs.lemmas.Bool.{cases_Bool}
use Rattle.trace_types.specs.declared.operand.CollectArgs.{CollectArgs}
use Rattle.trace_types.specs.declared.operand.CollectArgs.TheVariants.{Explicit, Plain}
use Rattle.trace_types.specs.declared.fault.Fault.{Fault}
use Rattle.trace_types.specs.declared.command.Command.TheVariants.{Collect}
use Rattle.trace_types.specs.States.{State, Answer, silently}
use Rattle.trace_types.specs.Kept.{accessible, accessible_or_served, kept, waited_for}
use Rattle.trace_types.specs.Collections.{Arguments, are_allowed, collect}
use Rattle.trace_types.specs.Steps.{collected, step}
use Rattle.heap_store.specs.declared.error.HeapError.{HeapError}
use Rattle.heap_store.specs.Calls.{Obeys}
use Rattle.heap_store.specs.HeapView.{HeapView}
use Rattle.heap_store.specs.Stands.{Stands}
use Rattle.collect_model.specs.Counts.{copied_by}
use Rattle.collector.specs.Collected.{arguments_in, counted_in}

-- the state with another number of plain collections
abbrev pub with_collects : State → ℕ → State
with_collects s n = record s { collects = n }

-- a heap with another number of them stands for such a state
pub counted_stands : (h : HeapView) (s : State) (n : ℕ) → Stands h s → Stands (record h { collects = n }) (with_collects s n)
counted_stands h s n stands = record {
  alive = stands.alive;
  territories = stands.territories;
  closed = stands.closed;
  graph = stands.graph;
  cells = λ c cell e is. elim (stands.cells c cell e is) [
    | inl queued ↦ inl queued
    | inr loose ↦ inr (record { words = loose.words; no_line = loose.no_line; generation = loose.generation })
  ];
  registers = stands.registers;
  locks = stands.locks;
  notes = stands.notes;
  registry = stands.registry;
  thread = stands.thread;
  collects = refl;
  oldest = stands.oldest;
  version = stands.version;
  born = stands.born;
  last = stands.last;
  well_formed = record {
    ordered = stands.well_formed.ordered;
    objects = stands.well_formed.objects;
    in_graph = stands.well_formed.in_graph;
    guardians = stands.well_formed.guardians;
    differ = stands.well_formed.differ;
    in_range = stands.well_formed.in_range;
    lines_ordered = stands.well_formed.lines_ordered;
    registration_values = stands.well_formed.registration_values;
    locks_ordered = stands.well_formed.locks_ordered;
    locks = stands.well_formed.locks;
    registers = stands.well_formed.registers;
    register_values = stands.well_formed.register_values;
    notes = stands.well_formed.notes;
    thread = stands.well_formed.thread;
    oldest = stands.well_formed.oldest;
    version = stands.well_formed.version;
  };
}

-- what is kept does not depend on the number of collections
pub kept_counted : (s : State) (n cg : ℕ) → kept (with_collects s n) cg ≡ kept s cg
unfolding kept waited_for accessible_or_served accessible
kept_counted s n cg = refl

pub copied_counted : (s : State) (n cg sweepers k : ℕ) → copied_by (with_collects s n) cg sweepers k ≡ copied_by s cg sweepers k
unfolding kept waited_for accessible_or_served accessible
copied_counted s n cg sweepers k = refl

-- the parts of the heap that were counted, and what they stand for
abbrev pub counted_heap : HeapView → CollectArgs → HeapView
counted_heap h args = record h { collects = counted_in args h.collects }

abbrev pub counted_state : State → CollectArgs → State
counted_state s args = with_collects s (counted_in args s.collects)

pub counted_both : (h : HeapView) (s : State) (args : CollectArgs) → Stands h s
    → Stands (counted_heap h args) (counted_state s args)
counted_both h s args stands =
    subst (λ n. Stands (counted_heap h args) (with_collects s (counted_in args n))) (sym stands.collects)
    (counted_stands h s (counted_in args h.collects) stands)

-- the answer of the step, where its arguments are allowed
allowed_answer : (s : State) (args : CollectArgs) (b : Bool)
    → are_allowed s.version s.oldest (arguments_in s.oldest (counted_in args s.collects) args) ≡ b → b ≡ true
    → collected s args ≡ silently (collect (counted_state s args) (arguments_in s.oldest (counted_in args s.collects) args))
allowed_answer s Plain b is holds = refl
allowed_answer s (Explicit cg least greatest) b is holds =
    let a : Arguments = record { cg = cg; least = least; greatest = greatest } in
    ap (λ v. cond v (silently (collect s a)) (Err Fault.BadGeneration)) (is ∙ holds)

-- a heap that was collected with these arguments stands for the state of the step
pub performs : (h : HeapView) (s : State) (args : CollectArgs) (a : Arguments) (line : ℕ) (new : HeapView)
    → a ≡ arguments_in h.oldest (counted_in args h.collects) args
    → IsTrue (are_allowed h.version h.oldest a)
    → ((t : State) → Stands (counted_heap h args) t → Stands new (collect t a))
    → Stands h s → Obeys s (step s line (Collect args)) (Ok tt) new
unfolding step
performs h s args a line new is allowed leaves stands =
    let same : a ≡ arguments_in s.oldest (counted_in args s.collects) args =
    is ∙ (ap (λ n. arguments_in n (counted_in args h.collects) args) (sym stands.oldest)
    ∙ ap (λ n. arguments_in s.oldest (counted_in args n) args) (sym stands.collects)) in
    let holds : are_allowed s.version s.oldest (arguments_in s.oldest (counted_in args s.collects) args) ≡ true =
    ap (λ b. are_allowed s.version s.oldest b) (sym same)
    ∙ (ap (λ v. are_allowed v s.oldest a) stands.version ∙ (ap (λ v. are_allowed h.version v a) stands.oldest ∙ allowed)) in
    subst (λ (answer : Answer). Obeys s answer (Ok tt) new) (sym (allowed_answer s args true holds refl))
    (subst (λ b. Stands new (collect (counted_state s args) b)) same (leaves (counted_state s args) (counted_both h s args stands)))

-- refused arguments are the fault of the step
pub performs_fault : (h : HeapView) (s : State) (args : CollectArgs) (line : ℕ)
    → (IsTrue (are_allowed h.version h.oldest (arguments_in h.oldest (counted_in args h.collects) args)) → ⊥)
    → args ≢ Plain → Stands h s
    → Obeys s (step s line (Collect args)) (Err (HeapError.Fault Fault.BadGeneration)) h
unfolding step
performs_fault h s Plain line refused other stands = absurd (other refl)
performs_fault h s (Explicit cg least greatest) line refused other stands =
    let a : Arguments = record { cg = cg; least = least; greatest = greatest } in
    let same : are_allowed s.version s.oldest a ≡ are_allowed h.version h.oldest a =
    ap (λ v. are_allowed v s.oldest a) stands.version ∙ ap (λ v. are_allowed h.version v a) stands.oldest in
    elim (cases_Bool (are_allowed h.version h.oldest a)) [
      | inl holds ↦ absurd (refused holds)
      | inr fails ↦
          subst (λ b. Obeys s (cond b (silently (collect s a)) (Err Fault.BadGeneration))
          (Err (HeapError.Fault Fault.BadGeneration)) h) (sym (same ∙ fails)) (refl, stands)
    ]

-- a heap that ran out of memory has failed, where the step is not refused
pub performs_failed : (h : HeapView) (s : State) (args : CollectArgs) (line : ℕ) (new : HeapView)
    → IsTrue (are_allowed h.version h.oldest (arguments_in h.oldest (counted_in args h.collects) args))
    → new.failed ≡ true → Stands h s
    → Obeys s (step s line (Collect args)) (Err HeapError.NoMemory) new
unfolding step
performs_failed h s Plain line new allowed failed stands = failed
performs_failed h s (Explicit cg least greatest) line new allowed failed stands =
    let a : Arguments = record { cg = cg; least = least; greatest = greatest } in
    let same : are_allowed s.version s.oldest a ≡ are_allowed h.version h.oldest a =
    ap (λ v. are_allowed v s.oldest a) stands.version ∙ ap (λ v. are_allowed h.version v a) stands.oldest in
    subst (λ b. Obeys s (cond b (silently (collect s a)) (Err Fault.BadGeneration)) (Err HeapError.NoMemory) new)
    (sym (same ∙ allowed)) failed

-- a plain collection is not refused
pub plain_failed : (s : State) (line : ℕ) (new : HeapView) → new.failed ≡ true
    → Obeys s (step s line (Collect Plain)) (Err HeapError.NoMemory) new
unfolding step
plain_failed s line new failed = failed
