-- `set`, for a heap that is seen so.
use Rattle.std.proofs.Common.{◌≡◌, ℕ, ◌<◌, false, length, set, slice_get, get_or, IsTrue, IsSome, IfSome, Some, Ok, Err, refl, sym, ◌∙◌, ap, subst}
use Rattle.std.specs.FinMap.{get}
use Rattle.std.proofs.lemmas.List.{set-get_or}
use Rattle.std.proofs.lemmas.Option.{slice_get_read}
use Rattle.gc_words.specs.declared.value.Value.{Value}
use Rattle.gc_words.specs.Layout.{thread_of}
use Rattle.trace_types.specs.declared.fault.Fault.{Fault}
use Rattle.trace_types.specs.declared.operand.Operand.{Operand}
use Rattle.trace_types.specs.declared.command.Command.TheVariants.{Set}
use Rattle.trace_types.specs.Faults.{◌>>=◌}
use Rattle.trace_types.specs.States as states
use Rattle.trace_types.specs.States.{State}
use Rattle.trace_types.specs.Steps.{step}
use Rattle.trace_types.specs.WellFormed.{operand_fits}
use Rattle.territory.specs.Territories.{TerritoryView}
use Rattle.heap_store.specs.declared.error.HeapError.{HeapError}
use Rattle.heap_store.specs.Starts.{Keeps}
use Rattle.heap_store.specs.HeapView.{HeapView, start_in, starts_in, starts_of}
use Rattle.heap_store.specs.Changes.{HaveSoundCards}
use Rattle.heap_store.specs.Stands.{Stands}
use Rattle.heap_store.specs.Calls.{Obeys, IsValid, operand_value}
use Rattle.heap_store.specs.Fields.{HasNoFields, IsFielded, word_index, refers_of, put_fault, IsPut, Puts}
use Rattle.heap_store.proofs.Getting.{field_room}
use Rattle.heap_store.proofs.Sets.{set_from, sets_fault, sets_ok, sets_kept, sets_cards, sets_valid}

-- nothing with fields is in the register
pub sets_nothing : (h : HeapView) (s : State) → Stands h s → (line r i : ℕ) (op : Operand) → HasNoFields h r → Obeys s (step s line (Set r i op)) (Err (HeapError.Fault Fault.WrongKind)) h
unfolding step
sets_nothing h s stands line r i op none = subst (λ answer. Obeys s answer (Err (HeapError.Fault Fault.WrongKind)) h) (sym (ap (λ o. o >>= set_from s i (states.operand_value s op)) (none s stands))) (refl, stands)

module _ (h seen : HeapView) (same : h ≡ seen) (invariant : h.failed ≡ false → IsValid h) (alive : h.failed ≡ false) (r a i n : ℕ) (old : TerritoryView) (is : IsFielded seen r a) (n_is : (n ≡ thread_of a) × (n < 64)) (read : old ≡ get_or h.territories n old) where
  valid : IsValid seen
  valid = subst IsValid same (invariant alive)

  found : slice_get seen.territories (thread_of a) ≡ Some old
  found =
      ap (λ (v : HeapView). slice_get v.territories (thread_of a)) (sym same) ∙ ap (slice_get h.territories) (sym n_is.0)
      ∙ slice_get_read h.territories 64 n old (sym (invariant alive).stands.territories.count) n_is.1 read

  there : get old.starts a ≡ Some is.start
  there = sym (ap (λ o. start_in o a) found) ∙ is.here

  pub start_there : IsSome (get old.starts a)
  start_there = subst IsSome (sym there) refl

  pub room_there : IfSome (get old.starts a) (λ x. i < x.length → word_index x.kind i < length x.words)
  room_there = subst (λ o. IfSome o (λ x. i < x.length → word_index x.kind i < length x.words)) (sym there) (λ less. field_room seen valid r a i is.start.length (Some is.start) is (sym is.here) refl less)

  module _ (new : TerritoryView) (op : Operand) (v : Value) (v_is : v ≡ operand_value seen.registers op) (refers : ℕ) where
    -- a put that was refused left the heap as it was
    pub refused_same : (fault : Fault) → IfSome (get old.starts a) (λ x. Puts old new a x i v refers (Err fault)) → record h { territories = set h.territories n new } ≡ seen
    refused_same fault puts =
        let put : (new ≡ old) × (put_fault is.start i v ≡ Some fault) = subst (λ o. IfSome o (λ x. Puts old new a x i v refers (Err fault))) there puts in
        ap (λ t. let w : HeapView = record h { territories = set h.territories n t } in w) (put.0 ∙ read) ∙ ap (λ ts. let w : HeapView = record h { territories = ts } in w) (set-get_or h.territories n old) ∙ same

    pub refused_step : (fault : Fault) → IfSome (get old.starts a) (λ x. Puts old new a x i v refers (Err fault)) → (s : State) (line : ℕ) → Stands seen s
        → Obeys s (step s line (Set r i op)) (Err (HeapError.Fault fault)) (record h { territories = set h.territories n new })
    refused_step fault puts s line stands =
        let put : (new ≡ old) × (put_fault is.start i v ≡ Some fault) = subst (λ o. IfSome o (λ x. Puts old new a x i v refers (Err fault))) there puts in
        subst (λ w. Obeys s (step s line (Set r i op)) (Err (HeapError.Fault fault)) w) (sym (refused_same fault puts)) (sets_fault seen r a i is op v v_is s stands line fault put.1)

    pub refused_valid : (fault : Fault) → IfSome (get old.starts a) (λ x. Puts old new a x i v refers (Err fault)) → IsValid (record h { territories = set h.territories n new })
    refused_valid fault puts = subst IsValid (sym (refused_same fault puts)) valid

    module _ (u : Unit {0}) (fits : IsTrue (operand_fits op)) (refers_is : refers ≡ refers_of (starts_of seen) v) (puts : IfSome (get old.starts a) (λ x. Puts old new a x i v refers (Ok u))) where
      put : IsPut old new a is.start i v refers
      put = subst (λ o. IfSome o (λ x. Puts old new a x i v refers (Ok u))) there puts

      at_home : record seen { territories = set seen.territories (thread_of a) new } ≡ record h { territories = set h.territories n new }
      at_home = ap (λ m. let w : HeapView = record seen { territories = set seen.territories m new } in w) (sym n_is.0) ∙ ap (λ (v : HeapView). let w : HeapView = record v { territories = set v.territories n new } in w) (sym same)

      pub put_step : (s : State) (line : ℕ) → Stands seen s → Obeys s (step s line (Set r i op)) (Ok tt) (record h { territories = set h.territories n new })
      put_step s line stands = subst (λ w. Obeys s (step s line (Set r i op)) (Ok tt) w) at_home (sets_ok seen r a i is op v v_is valid fits old new found refers refers_is put s line stands)

      pub put_kept : Keeps (starts_of seen) (starts_in (set h.territories n new))
      put_kept = subst (λ (w : HeapView). Keeps (starts_of seen) (starts_of w)) at_home (sets_kept seen r a i is op v v_is valid fits old new found refers refers_is put)

      pub put_cards : HaveSoundCards (set h.territories n new)
      put_cards = subst (λ (w : HeapView). HaveSoundCards w.territories) at_home (sets_cards seen r a i is op v v_is valid fits old new found refers refers_is put)

      pub put_valid : IsValid (record h { territories = set h.territories n new })
      put_valid = subst IsValid at_home (sets_valid seen r a i is op v v_is valid fits old new found refers refers_is put)
