-- The cells of a guardian's queue are a chain in the guardian's territory.
use Rattle.std.proofs.Common.{◌≡◌, ℕ, false, cond, List, [], ◌∷◌, map, length, slice_index, slice_get, Option, Some, None, IfSome, IsTrue, refl, sym, ap, subst, ◌∙◌}
use Rattle.std.specs.FinMap.{get}
use Rattle.std.proofs.lemmas.Bool.{false≢true}
use Rattle.trace_types.specs.Values.{is_guardian, has_bytes}
use Rattle.trace_types.specs.declared.kind.Kind.{Kind}
use Rattle.trace_types.specs.declared.kind.Kind.TheVariants as kind
use Rattle.gc_words.specs.declared.value.Value.TheVariants.{Object}
use Rattle.gc_words.specs.Layout.{thread_of}
use Rattle.gc_words.proofs.WordLaws.{value_of-word_of}
use Rattle.segment.specs.Segments.{Start}
use Rattle.territory.specs.Territories.{TerritoryView, HaveAddresses}
use Rattle.heap_store.specs.Calls.{IsValid}
use Rattle.heap_store.specs.HeapView.{HeapView, start_in, starts_in, starts_of}
use Rattle.heap_store.specs.Starts.{Starts, is_object, is_cell}
use Rattle.heap_store.specs.Queues.{Queue, AreCells, HasQueue, first_word_of}
use Rattle.territory.specs.Territories.{words_of as words_at}
use Rattle.heap_print.specs.Words.{first_of, shown_words}
use Rattle.heap_print.specs.Chains.{IsChain}

-- what the heap has of a thread is what the thread's territory has
abbrev pub IsTerritoryOf : Starts → TerritoryView → ℕ → Type 0
IsTerritoryOf f t thread = (a : ℕ) → thread_of a ≡ thread → f a ≡ get t.starts a

-- of the territories of a heap
pub territory_of : (territories : List TerritoryView) (thread : ℕ) (t : TerritoryView) → slice_get territories thread ≡ Some t → IsTerritoryOf (starts_in territories) t thread
territory_of territories thread t found a same = ap (λ n. start_in (slice_get territories n) a) same ∙ ap (λ o. start_in o a) found

cells_chained : (f : Starts) (t : TerritoryView) (thread generation : ℕ) → HaveAddresses t → IsTerritoryOf f t thread →
    (cells : List ℕ) (queue : Queue) → AreCells f thread generation cells queue → IsChain (get t.starts) (first_word_of cells) cells
cells_chained f t thread generation placed same [] queue h = refl
cells_chained f t thread generation placed same (c ∷ cells) [] h = absurd h
cells_chained f t thread generation placed same (c ∷ cells) (entry ∷ queue) h =
    let there = sym (same c h.0.thread_is) ∙ h.0.here in (
      value_of-word_of (Object c) (placed c _ there).0,
      ap (λ o. length (words_at o)) there,
      subst (λ w. IsChain (get t.starts) w cells) (ap (λ o. slice_index (words_at o) 1) (sym there)) (cells_chained f t thread generation placed same cells queue h.1),
    )

cells_same : (f : Starts) (t : TerritoryView) (thread generation : ℕ) → IsTerritoryOf f t thread →
    (cells : List ℕ) (queue : Queue) → AreCells f thread generation cells queue → map (λ c. first_of (get t.starts c)) cells ≡ map (λ c. first_of (f c)) cells
cells_same f t thread generation same [] queue h = refl
cells_same f t thread generation same (c ∷ cells) [] h = absurd h
cells_same f t thread generation same (c ∷ cells) (entry ∷ queue) h =
    rw (same c h.0.thread_is, cells_same f t thread generation same cells queue h.1) refl

no_bytes : (k : Kind) → IsTrue (is_guardian k) → has_bytes k ≡ false
no_bytes kind.Guard h = refl
no_bytes kind.OrderedGuard h = refl
no_bytes kind.Pair h = refl
no_bytes kind.Weak h = refl
no_bytes kind.Eph h = refl
no_bytes kind.Boxed h = refl
no_bytes kind.Vector h = refl
no_bytes kind.ImmVector h = refl
no_bytes kind.Cell h = refl
no_bytes kind.Bytes h = absurd (false≢true h)
no_bytes kind.ImmBytes h = absurd (false≢true h)

module _ (f : Starts) (t : TerritoryView) (a : ℕ) (x : Start) (cells : List ℕ) (queue : Queue) (same : IsTerritoryOf f t (thread_of a)) (h : HasQueue f a x cells queue) (guardian : IsTrue (is_guardian x.kind)) where
  pub queue_chained : HaveAddresses t → IsChain (get t.starts) (slice_index x.words 0) cells
  queue_chained placed =
      subst (λ (ws : List ℕ). IsChain (get t.starts) (slice_index ws 0) cells) (sym (h.ends guardian))
      (cells_chained f t (thread_of a) x.generation placed same cells queue h.are_cells)

  pub queue_shown : map (λ c. first_of (get t.starts c)) cells ≡ shown_words f x cells
  queue_shown =
      cells_same f t (thread_of a) x.generation same cells queue h.are_cells
      ∙ ap (λ b. cond b (map (λ c. first_of (f c)) cells) x.words) (sym guardian)
      ∙ ap (λ b. cond b [] (cond (is_guardian x.kind) (map (λ c. first_of (f c)) cells) x.words)) (sym (no_bytes x.kind guardian))

no_cell_kind : (k : Kind) → IsTrue (is_guardian k) → is_cell k ≡ false
no_cell_kind kind.Cell h = absurd (false≢true h)
no_cell_kind kind.Guard h = refl
no_cell_kind kind.OrderedGuard h = refl
no_cell_kind kind.Pair h = refl
no_cell_kind kind.Weak h = refl
no_cell_kind kind.Eph h = refl
no_cell_kind kind.Boxed h = refl
no_cell_kind kind.Vector h = refl
no_cell_kind kind.ImmVector h = refl
no_cell_kind kind.Bytes h = refl
no_cell_kind kind.ImmBytes h = refl

-- A guardian of a heap has a chain of cells.
pub guardian_chained : (h : HeapView) (a w : ℕ) (t : TerritoryView) → IsValid h → slice_get h.territories (thread_of a) ≡ Some t → HaveAddresses t →
    IsTrue (is_object (starts_of h a)) → IfSome (starts_of h a) (λ x. IsTrue (is_guardian x.kind)) → w ≡ slice_index (words_at (get t.starts a)) 0 →
    (cells : List ℕ) × IsChain (get t.starts) w cells
guardian_chained h a w t valid found placed object guardian word = by (get t.starts a) refl (subst (λ o. IfSome o (λ x. IsTrue (is_guardian x.kind))) (same a refl) guardian)
  where
    same : IsTerritoryOf (starts_of h) t (thread_of a)
    same = territory_of h.territories (thread_of a) t found

    by : (o : Option Start) → get t.starts a ≡ o → IfSome o (λ x. IsTrue (is_guardian x.kind)) → (cells : List ℕ) × IsChain (get t.starts) w cells
    by None e g = absurd (false≢true (ap is_object (sym (same a refl ∙ e)) ∙ object))
    by (Some x) e g =
        let here : starts_of h a ≡ Some x = same a refl ∙ e in
        let shown = valid.stands.graph.objects a x here (no_cell_kind x.kind g) in (
          shown.cells,
          subst (λ v. IsChain (get t.starts) v shown.cells) (sym (word ∙ ap (λ o. slice_index (words_at o) 0) e))
              (queue_chained (starts_of h) t a x shown.cells shown.queue same shown.has_queue g placed),
        )

-- The words of its cells are what is printed of it.
pub guardian_shown : (h : HeapView) (a w : ℕ) (t : TerritoryView) → slice_get h.territories (thread_of a) ≡ Some t → HaveAddresses t →
    IfSome (starts_of h a) (λ x. IsTrue (is_guardian x.kind)) → w ≡ slice_index (words_at (get t.starts a)) 0 →
    (words : List ℕ) → ((cells : List ℕ) → IsChain (get t.starts) w cells → words ≡ map (λ c. first_of (get t.starts c)) cells) →
    (x : Start) (cells : List ℕ) (queue : Queue) → starts_of h a ≡ Some x → HasQueue (starts_of h) a x cells queue → words ≡ shown_words (starts_of h) x cells
guardian_shown h a w t found placed guardian word words read x cells queue here has =
    let same : IsTerritoryOf (starts_of h) t (thread_of a) = territory_of h.territories (thread_of a) t found in
    let there : get t.starts a ≡ Some x = sym (same a refl) ∙ here in
    let g : IsTrue (is_guardian x.kind) = subst (λ o. IfSome o (λ y. IsTrue (is_guardian y.kind))) here guardian in
    read cells (subst (λ v. IsChain (get t.starts) v cells) (sym (word ∙ ap (λ o. slice_index (words_at o) 0) there))
    (queue_chained (starts_of h) t a x cells queue same has g placed))
    ∙ queue_shown (starts_of h) t a x cells queue same has g
