-- What the commands leave of the engine, from what the calls of the heap leave.
use Rattle.std.proofs.Common.{◌≡◌, ◌≤◌, ℕ, List, [], ◌++◌, true, false, Result, Ok, Err, OnOk, ◌↔◌, IsTrue, cond, refl, sym, ◌∙◌, ap, subst, append-nil}
use Rattle.trace_types.specs.declared.command.Command.{Command}
use Rattle.trace_types.specs.declared.command.Command.TheVariants.{Print, Census, Gen}
use Rattle.trace_types.specs.declared.fault.Fault.TheVariants.{UnknownCommand}
use Rattle.territory.specs.Territories.{TerritoryView}
use Rattle.heap_store.specs.Starts.{Keeps, lasting}
use Rattle.heap_store.specs.Changes.{HaveSoundCards}
use Rattle.trace_types.specs.declared.operand.Operand.{Operand}
use Rattle.trace_types.specs.States.{State, Answer, operand_value}
use Rattle.trace_types.specs.Values.{object_of_value}
use Rattle.trace_types.specs.Printing.{print_text, census_text, generation_text}
use Rattle.trace_types.specs.Steps.{step}
use Rattle.heap_store.specs.HeapView.{HeapView, starts_of, starts_in}
use Rattle.heap_store.specs.Stands.{Stands}
use Rattle.heap_store.specs.Calls.{Obeys}
use Rattle.heap_store.specs.declared.error.HeapError.{HeapError}
use Rattle.heap_store.specs.declared.error.HeapError.TheVariants.{Failed, NoMemory, Fault as IsFault}
use Rattle.replay.specs.Built.{built_step, is_built}
use Rattle.replay.proofs.Silent.{IsSilent, is_silent, silent}
use Rattle.replay.specs.Engine.{Steps, Prints}

-- what an answer without text leaves
obeys_steps : (s : State) (n : ℕ) (c : Command) (a : Answer) (r : Result (Unit {0}) HeapError) (text : List ℕ) (heap : HeapView) →
    built_step s n c ≡ a → IsSilent a → Obeys s a r heap → Steps s n c r text text heap
obeys_steps s n c (Ok p) (Ok u) text heap is silent obeys = (p, is, obeys, sym (append-nil text) ∙ ap (λ (t : List ℕ). text ++ t) (sym silent.empty))
obeys_steps s n c (Ok p) (Err NoMemory) text heap is silent obeys = (obeys, (p, [], is, (p.1, refl), sym (append-nil text)))
obeys_steps s n c (Ok p) (Err (IsFault f)) text heap is silent obeys = absurd obeys
obeys_steps s n c (Ok p) (Err Failed) text heap is silent obeys = obeys
obeys_steps s n c (Err f) (Ok u) text heap is silent obeys = absurd obeys
obeys_steps s n c (Err f) (Err (IsFault g)) text heap is silent obeys = (is ∙ ap Err obeys.0, obeys.1, refl)
obeys_steps s n c (Err f) (Err NoMemory) text heap is silent obeys = absurd obeys
obeys_steps s n c (Err f) (Err Failed) text heap is silent obeys = obeys

-- a command that is built and prints nothing
pub silent_steps : (s : State) (n : ℕ) (c : Command) → is_built c ≡ true → IsTrue (is_silent c) → (r : Result (Unit {0}) HeapError) (text : List ℕ) (heap : HeapView) →
    Obeys s (step s n c) r heap → Steps s n c r text text heap
silent_steps s n c built quiet r text heap obeys =
    obeys_steps s n c (step s n c) r text heap (ap (λ b. cond b (step s n c) (Err UnknownCommand)) built) (silent s n c quiet) obeys

-- where no territory changed, each object is at its place
pub kept_same : (old new : HeapView) → new.territories ≡ old.territories → Keeps (starts_of old) (starts_of new)
kept_same old new same a there = ap (λ (ts : List TerritoryView). lasting (starts_in ts a)) same

pub cards_same : (old new : HeapView) → new.territories ≡ old.territories → HaveSoundCards old.territories → HaveSoundCards new.territories
cards_same old new same sound = subst HaveSoundCards (sym same) sound

pub on_ok : (r : Result (Unit {0}) HeapError) (P : Type 0) → P → OnOk r P
on_ok (Ok u) P p = p
on_ok (Err e) P p = tt

-- ---- commands that print and change nothing

print_answer : (s : State) (n : ℕ) (v : Operand) → built_step s n (Print v) ≡ Ok (s, print_text s.graph (operand_value s v))
unfolding step
print_answer s n v = refl

census_answer : (s : State) (n : ℕ) → built_step s n Census ≡ Ok (s, census_text s.graph)
unfolding step
census_answer s n = refl

generation_answer : (s : State) (n : ℕ) (v : Operand) → built_step s n (Gen v) ≡ Ok (s, generation_text (object_of_value s.graph (operand_value s v)))
unfolding step
generation_answer s n v = refl

-- what is there after a print
prints_steps : (shown : State → List ℕ) (s : State) (n : ℕ) (c : Command) → built_step s n c ≡ Ok (s, shown s) →
    (r : Result (Unit {0}) HeapError) (old new : List ℕ) (before after : HeapView) → Stands before s → Prints shown r before after old new → Steps s n c r old new after
prints_steps shown s n c is (Ok u) old new before after stands prints =
    ((s, shown s), is, subst (λ (h : HeapView). Stands h s) (sym prints.1) stands, prints.2 s stands)
prints_steps shown s n c is (Err NoMemory) old new before after stands prints =
    let p : State × List ℕ = (s, shown s) in (ap (λ (h : HeapView). h.failed) prints.1, (p, [], is, (p.1, refl), prints.2 ∙ sym (append-nil old)))
prints_steps shown s n c is (Err Failed) old new before after stands prints =
    let bad : true ≡ false = sym prints.0 ∙ stands.alive in absurd (cc)
prints_steps shown s n c is (Err (IsFault f)) old new before after stands prints = absurd prints

pub print_steps : (s : State) (n : ℕ) (v : Operand) (r : Result (Unit {0}) HeapError) (old new : List ℕ) (before after : HeapView) → Stands before s →
    Prints (λ t. print_text t.graph (operand_value t v)) r before after old new → Steps s n (Print v) r old new after
print_steps s n v = prints_steps (λ t. print_text t.graph (operand_value t v)) s n (Print v) (print_answer s n v)

pub census_steps : (s : State) (n : ℕ) (r : Result (Unit {0}) HeapError) (old new : List ℕ) (before after : HeapView) → Stands before s →
    Prints (λ t. census_text t.graph) r before after old new → Steps s n Census r old new after
census_steps s n = prints_steps (λ t. census_text t.graph) s n Census (census_answer s n)

pub generation_steps : (s : State) (n : ℕ) (v : Operand) (r : Result (Unit {0}) HeapError) (old new : List ℕ) (before after : HeapView) → Stands before s →
    Prints (λ t. generation_text (object_of_value t.graph (operand_value t v))) r before after old new → Steps s n (Gen v) r old new after
generation_steps s n v = prints_steps (λ t. generation_text (object_of_value t.graph (operand_value t v))) s n (Gen v) (generation_answer s n v)

-- what else is known after a print
module _ (shown : State → List ℕ) (before after : HeapView) (old new : List ℕ) where
  pub prints_cards : (r : Result (Unit {0}) HeapError) → Prints shown r before after old new → HaveSoundCards before.territories → OnOk r (HaveSoundCards after.territories)
  prints_cards (Ok u) prints sound = subst (λ (h : HeapView). HaveSoundCards h.territories) (sym prints.1) sound
  prints_cards (Err e) prints sound = tt

  pub prints_kept : (r : Result (Unit {0}) HeapError) → Prints shown r before after old new → OnOk r (Keeps (starts_of before) (starts_of after))
  prints_kept (Ok u) prints = kept_same before after (ap (λ (h : HeapView). h.territories) prints.1)
  prints_kept (Err e) prints = tt

  pub prints_failed : (r : Result (Unit {0}) HeapError) → Prints shown r before after old new → (r ≡ Err Failed) ↔ (before.failed ≡ true)
  prints_failed (Ok u) prints = ((λ e. cc), (λ e. let bad : true ≡ false = sym e ∙ prints.0 in cc))
  prints_failed (Err NoMemory) prints = ((λ e. cc), (λ e. let bad : true ≡ false = sym e ∙ prints.0 in cc))
  prints_failed (Err Failed) prints = ((λ e. prints.0), (λ e. refl))
  prints_failed (Err (IsFault f)) prints = absurd prints

  pub prints_last : (newest : ℕ) (r : Result (Unit {0}) HeapError) → Prints shown r before after old new → before.last ≤ newest → after.last ≤ newest
  prints_last newest (Ok u) prints less = subst (λ (h : HeapView). h.last ≤ newest) (sym prints.1) less
  prints_last newest (Err NoMemory) prints less = subst (λ (h : HeapView). h.last ≤ newest) (sym prints.1) less
  prints_last newest (Err Failed) prints less = subst (λ (h : HeapView). h.last ≤ newest) (sym prints.1) less
  prints_last newest (Err (IsFault f)) prints less = absurd prints
