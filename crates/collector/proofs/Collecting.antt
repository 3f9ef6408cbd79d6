-- What the call of a collection does, from what the calls that it makes do.
use Rattle.std.proofs.Common.{◌≡◌, ◌≢◌, ℕ, ◌<◌, ◌≤◌, true, false, List, length, slice_index, is_some, IsTrue, Ok, Err, refl, sym, ◌∙◌, ap, subst, inl, inr}
use Rattle.std.specs.FinMap.{find}
use Rattle.std.specs.Ordering.{nat_cmp}
use Rattle.std.proofs.lemmas.Bool.{false≢true, or_cases}
use Rattle.gc_words.specs.declared.value.Value.{Value}
use Rattle.trace_types.specs.declared.kind.Kind.{Kind}
use Rattle.trace_types.specs.declared.kind.Kind.TheVariants as kind
use Rattle.trace_types.specs.declared.operand.CollectArgs.{CollectArgs}
use Rattle.trace_types.specs.declared.operand.CollectArgs.TheVariants.{Plain}
use Rattle.trace_types.specs.declared.fault.Fault.{Fault}
use Rattle.trace_types.specs.declared.command.Command.TheVariants.{Collect}
use Rattle.trace_types.specs.Values.{is_immobile}
use Rattle.trace_types.specs.States.{State}
use Rattle.trace_types.specs.Collections.{are_allowed, collect}
use Rattle.trace_types.specs.Steps.{step}
use Rattle.territory.specs.declared.territory.Targets.{Targets}
use Rattle.territory.specs.Territories.{TerritoryView}
use Rattle.heap_store.specs.declared.error.HeapError.{HeapError}
use Rattle.heap_store.specs.Calls.{IsValid, Obeys}
use Rattle.heap_store.specs.HeapView.{HeapView}
use Rattle.heap_store.specs.Plain.{IsPlain, is_plain}
use Rattle.heap_store.specs.Stands.{Stands}
use Rattle.collect_model.specs.Worlds.{arguments_of}
use Rattle.collect_model.specs.Counts.{copied_by}
use Rattle.collect_model.proofs.Collected.{collected_stands, copies_are_counted}
use Rattle.collector.specs.Swept.{IsSwept}
use Rattle.collector.specs.Collected.{AreCounted, KeepsFixed, arguments_in, counted_in}
use Rattle.collector.proofs.Performing.{copied_counted, counted_both, counted_stands, counted_state, performs, performs_failed, performs_fault, plain_failed, with_collects}

-- ---- the parts

module _ (h : HeapView) (targets : Targets) (n : ℕ) (territories : List TerritoryView) (registers : List Value)
    (counts : List ℕ) (valid : IsValid h) (allowed : IsTrue (are_allowed h.version h.oldest (arguments_of targets)))
    (swept : IsSwept h.territories h.registers targets n territories registers counts) where
  abbrev left : HeapView
  left = record h { territories = territories; registers = registers }

  allowed_in : (s : State) → Stands h s → IsTrue (are_allowed s.version s.oldest (arguments_of targets))
  allowed_in s stands =
      ap (λ v. are_allowed v s.oldest (arguments_of targets)) stands.version
      ∙ (ap (λ v. are_allowed h.version v (arguments_of targets)) stands.oldest ∙ allowed)

  both : (s : State) → Stands h s → Stands left (collect s (arguments_of targets)) × IsPlain left
  both s stands =
      collected_stands h s targets n swept.hands territories registers stands valid.plain swept.is_world
      (allowed_in s stands) swept.settled swept.ended swept.others swept.registers_count

  -- the parts that are left stand for the collected state
  pub parts_stand : (s : State) → Stands h s → Stands left (collect s (arguments_of targets))
  parts_stand s stands = (both s stands).0

  -- and are valid
  pub parts_valid : IsValid left
  parts_valid =
      let after = both valid.state valid.stands in
      record { state = collect valid.state (arguments_of targets); stands = after.0; cards = swept.cards; plain = after.1 }

  pub parts_counted : (s : State) (k : ℕ) → Stands h s → k < n → slice_index counts k ≡ copied_by s targets.cg n k
  parts_counted s k stands less =
      swept.copied k less
      ∙ copies_are_counted h s targets n swept.hands territories registers stands valid.plain swept.is_world swept.ended
      k less

-- ---- the heap

-- parts with another number of collections are valid too
pub counted_valid : (p : HeapView) (n : ℕ) → IsValid p → IsValid (record p { collects = n })
counted_valid p n valid = record {
  state = with_collects valid.state n;
  stands = counted_stands p valid.state n valid.stands;
  cards = valid.cards;
  plain = record {
    kinds = valid.plain.kinds;
    locks = valid.plain.locks;
    notes = valid.plain.notes;
    registry = valid.plain.registry;
  };
}

-- the oldest generation that is collected is from 1 to 7
pub oldest_within : (p : HeapView) → IsValid p → (1 ≤ p.oldest) × (p.oldest ≤ 7)
oldest_within p valid = subst (λ n. (1 ≤ n) × (n ≤ 7)) valid.stands.oldest valid.stands.well_formed.oldest

-- no plain object may stay where it is
movable : (k : Kind) → is_plain k ≡ true → is_immobile k ≡ false
movable kind.Pair e = refl
movable kind.Boxed e = refl
movable kind.Vector e = refl
movable kind.Bytes e = refl
movable kind.Weak e = refl
movable kind.Eph e = refl
movable kind.ImmVector e = absurd (false≢true e)
movable kind.ImmBytes e = absurd (false≢true e)
movable kind.Guard e = refl
movable kind.OrderedGuard e = refl
movable kind.Cell e = refl

pub keeps_fixed : (h new : HeapView) → IsPlain h → KeepsFixed h new
keeps_fixed h new plain a b x y here no_cell fixed there same =
    elim (or_cases (is_immobile x.kind) (is_some (find nat_cmp a h.locks)) fixed) [
      | inl stays ↦ absurd (false≢true (sym (movable x.kind (plain.kinds a x here)) ∙ stays))
      | inr locked ↦ absurd (false≢true (sym (ap (λ (l : List (ℕ × ℕ)). is_some (find nat_cmp a l)) plain.locks) ∙ locked))
    ]

module _ (h p : HeapView) (args : CollectArgs) (number : ℕ) (same : p ≡ h)
    (number_is : number ≡ counted_in args p.collects) where
  -- it is collected
  pub performed : (targets : Targets) (out new : HeapView)
      → arguments_of targets ≡ arguments_in p.oldest number args
      → IsTrue (are_allowed p.version p.oldest (arguments_of targets))
      → ((s : State) → Stands (record p { collects = number }) s → Stands out (collect s (arguments_of targets)))
      → new ≡ out → (s : State) (line : ℕ) → Stands h s → Obeys s (step s line (Collect args)) (Ok tt) new
  performed targets out new is allowed leaves put s line stands =
      performs p s args (arguments_of targets) line new (is ∙ ap (λ n. arguments_in p.oldest n args) number_is) allowed
      (λ t counted. subst (λ v. Stands v (collect t (arguments_of targets))) (sym put)
      (leaves t (subst (λ n. Stands (record p { collects = n }) t) (sym number_is) counted)))
      (subst (λ v. Stands v s) (sym same) stands)

  -- memory ran out
  pub ran_out : (targets : Targets) (new : HeapView) → arguments_of targets ≡ arguments_in p.oldest number args
      → IsTrue (are_allowed p.version p.oldest (arguments_of targets)) → new.failed ≡ true
      → (s : State) (line : ℕ) → Stands h s → Obeys s (step s line (Collect args)) (Err HeapError.NoMemory) new
  ran_out targets new is allowed failed s line stands =
      performs_failed p s args line new
      (subst (λ a. IsTrue (are_allowed p.version p.oldest a)) (is ∙ ap (λ n. arguments_in p.oldest n args) number_is) allowed)
      failed (subst (λ v. Stands v s) (sym same) stands)

  -- the arguments were refused
  pub refused : (new : HeapView) → (IsTrue (are_allowed p.version p.oldest (arguments_in p.oldest number args)) → ⊥)
      → args ≢ Plain → new ≡ p → (s : State) (line : ℕ) → Stands h s
      → Obeys s (step s line (Collect args)) (Err (HeapError.Fault Fault.BadGeneration)) new
  refused new fails other put s line stands =
      subst (λ v. Obeys s (step s line (Collect args)) (Err (HeapError.Fault Fault.BadGeneration)) v) (sym put)
      (performs_fault p s args line
      (λ holds. fails (subst (λ n. IsTrue (are_allowed p.version p.oldest (arguments_in p.oldest n args))) (sym number_is) holds))
      other (subst (λ v. Stands v s) (sym same) stands))

  -- what was copied
  pub counted_copies : (targets : Targets) (n : ℕ) (counts : List ℕ)
      → arguments_of targets ≡ arguments_in p.oldest number args → length counts ≡ n
      → ((s : State) (k : ℕ) → Stands (record p { collects = number }) s → k < n
      → slice_index counts k ≡ copied_by s targets.cg n k)
      → AreCounted h args n counts
  counted_copies targets n counts is count copied = record {
    count = count;
    each = λ s k stands less.
        let here : Stands p s = subst (λ v. Stands v s) (sym same) stands in
        let parts : Stands (record p { collects = number }) (counted_state s args) =
        subst (λ m. Stands (record p { collects = m }) (counted_state s args)) (sym number_is) (counted_both p s args here) in
        let cg : targets.cg ≡ (arguments_in s.oldest (counted_in args s.collects) args).cg =
        ap (λ a. a.cg) is ∙ (ap (λ m. (arguments_in p.oldest m args).cg) number_is
        ∙ (ap (λ o. (arguments_in o (counted_in args p.collects) args).cg) (sym here.oldest)
        ∙ ap (λ m. (arguments_in s.oldest (counted_in args m) args).cg) (sym here.collects))) in
        copied (counted_state s args) k parts less
        ∙ (copied_counted s (counted_in args s.collects) targets.cg n k ∙ ap (λ v. copied_by s v n k) cg);
  }

-- more collections than can be counted
pub overflowed : (h new : HeapView) (args : CollectArgs) → args ≡ Plain → new.failed ≡ true
    → (s : State) (line : ℕ) → Stands h s → Obeys s (step s line (Collect args)) (Err HeapError.NoMemory) new
overflowed h new args plain failed s line stands =
    subst (λ (a : CollectArgs). Obeys s (step s line (Collect a)) (Err HeapError.NoMemory) new) (sym plain)
    (plain_failed s line new failed)
