-- Each word of an object or cell that refers to a place refers to one where something starts.
use Rattle.std.proofs.Common.{◌≡◌, ℕ, zero, suc, ◌+◌, ◌*◌, ◌/◌, ◌%◌, ◌<◌, ◌==◌, Bool, true, false, cond, List, [], ◌∷◌, length, get_or, slice_get, Contains, IsTrue, IsSome, Option, Some, None, refl, sym, ◌∙◌, ap, subst, arith, inl, inr}
use Rattle.std.specs.List.{AllByRecursion}
use Rattle.std.specs.FinMap.{get}
use Rattle.std.proofs.lemmas.Bool.{false≢true}
use Rattle.gc_words.specs.declared.value.Value.{Value}
use Rattle.gc_words.specs.declared.value.Value.TheVariants as word
use Rattle.gc_words.specs.Word.{value_of, object_of as object_word}
use Rattle.gc_words.specs.Layout.{thread_of}
use Rattle.trace_types.specs.declared.kind.Kind.{Kind}
use Rattle.trace_types.specs.declared.kind.Kind.TheVariants as kind
use Rattle.trace_types.specs.Values.{is_guardian}
use Rattle.trace_types.specs.States.{State}
use Rattle.trace_types.proofs.Least.{each_weaker}
use Rattle.segment.specs.Segments.{Start}
use Rattle.territory.specs.Territories as territory
use Rattle.territory.specs.Territories.{TerritoryView, Refers}
use Rattle.heap_store.specs.Starts.{Starts, is_cell, has_values, IsThere, IsThereOption, IsWordThere}
use Rattle.heap_store.specs.Queues.{Queue, nil_word, place_word, first_word_of, last_word_of, IsCell, AreCells, HasQueue}
use Rattle.heap_store.specs.HeapView.{HeapView, start_in, starts_of}
use Rattle.heap_store.specs.Stands.{IsLoose, Stands}
use Rattle.heap_store.proofs.Kept.{is_some, object_some}

-- whatever place the word names, something starts there
abbrev Leads : Starts → ℕ → Type 0
Leads f w = (b : ℕ) → value_of w ≡ Some (word.Object b) → IsSome (f b)

there_leads : (f : Starts) (o : Option Value) (b : ℕ) → IsThereOption f o → o ≡ Some (word.Object b) → IsSome (f b)
there_leads f None b there e = absurd there
there_leads f (Some v) b there e = object_some (f b) (subst (IsThere f) (same_value v (word.Object b) e) there)
  where
    same_value : (u v : Value) → Some u ≡ Some v → u ≡ v
    same_value u v e = cc

word_leads : (f : Starts) (w : ℕ) → IsWordThere f w → Leads f w
word_leads f w there b e = there_leads f (value_of w) b there e

nil_leads : (f : Starts) → Leads f nil_word
unfolding value_of
nil_leads f b e = absurd (let n : Some word.Nil ≡ Some (word.Object b) = e in cc)

place_value : (c : ℕ) → value_of (place_word c) ≡ object_word c
unfolding value_of
place_value c =
    let tag : (c * 8 + 1) % 8 ≡ 1 = omega arith in
    let rest : (c * 8 + 1) / 8 ≡ c = omega arith in
    rw (tag, rest) refl

place_leads : (f : Starts) (c : ℕ) → IsSome (f c) → Leads f (place_word c)
place_leads f c there b e = subst (λ n. IsSome (f n)) (named (c % 2 == 0) (sym (place_value c) ∙ e)) there
  where
    named : (even : Bool) → cond even (Some (word.Object c)) None ≡ Some (word.Object b) → c ≡ b
    named true e = cc
    named false e = absurd (let n : None ≡ Some (word.Object b) = e in cc)

module _ (f : Starts) (thread generation : ℕ) where
  cell_there : (c next : ℕ) (entry : _) → IsCell f thread generation c next entry → IsSome (f c)
  cell_there c next entry cell = is_some (f c) _ cell.here

  first_leads : (cells : List ℕ) (q : Queue) → AreCells f thread generation cells q → Leads f (first_word_of cells)
  first_leads [] q are = nil_leads f
  first_leads (c ∷ cells) [] are = absurd are
  first_leads (c ∷ cells) (e ∷ q) are = place_leads f c (cell_there c (first_word_of cells) e are.0)

  last_leads : (cells : List ℕ) (q : Queue) → AreCells f thread generation cells q → Leads f (last_word_of cells)
  last_leads [] q are = nil_leads f
  last_leads (c ∷ cells) [] are = absurd are
  last_leads (c ∷ []) (e ∷ q) are = place_leads f c (cell_there c nil_word e are.0)
  last_leads (c ∷ d ∷ cells) (e ∷ q) are = last_leads (d ∷ cells) q are.1

  -- the words of a cell of a queue
  cell_leads : (cells : List ℕ) (q : Queue) (c : ℕ) (x : Start) → AreCells f thread generation cells q → Contains cells c → f c ≡ Some x → AllByRecursion (Leads f) x.words
  cell_leads [] q c x are within here = absurd (let less = within.1 in omega arith)
  cell_leads (d ∷ cells) [] c x are within here = absurd are
  cell_leads (d ∷ cells) (e ∷ q) c x are within here =
      by_index (λ k less is. cell_leads cells q c x are.1 (k, less, is) here) within.0 within.1 within.2
    where
      same_start : (y z : Start) → Some y ≡ Some z → y ≡ z
      same_start y z s = cc

      by_index : ((k : ℕ) → k < length cells → get_or cells k c ≡ c → AllByRecursion (Leads f) x.words) → (k : ℕ) → k < length (d ∷ cells) → get_or (d ∷ cells) k c ≡ c → AllByRecursion (Leads f) x.words
      by_index later zero below is =
          subst (λ (y : Start). AllByRecursion (Leads f) y.words) (same_start _ x (sym are.0.here ∙ ap f is ∙ here))
          (word_leads f are.0.first are.0.there, (first_leads cells q are.1, tt))
      by_index later (suc k) below is = later k (omega arith) is

-- ---- of each kind

guardian_leads : (f : Starts) (a : ℕ) (x : Start) (cells : List ℕ) (q : Queue) → HasQueue f a x cells q → IsTrue (is_guardian x.kind) → AllByRecursion (Leads f) x.words
guardian_leads f a x cells q has is =
    subst (AllByRecursion (Leads f)) (sym (has.ends is))
    (first_leads f (thread_of a) x.generation cells q has.are_cells, (last_leads f (thread_of a) x.generation cells q has.are_cells, (nil_leads f, tt)))

loose_leads : (f : Starts) (s : State) (x : Start) → IsLoose f s x → AllByRecursion (Leads f) x.words
loose_leads f s x loose = subst (AllByRecursion (Leads f)) (sym loose.words) (nil_leads f, (nil_leads f, tt))

-- the kinds whose words refer to something: those with values, guardians and cells
by_kind : (k : Kind) (P : Type 0) → territory.has_values k ≡ true → (IsTrue (has_values k) → P) → (is_guardian k ≡ true → P) → (is_cell k ≡ true → P) → P
by_kind kind.Pair P is v g c = v refl
by_kind kind.Weak P is v g c = v refl
by_kind kind.Eph P is v g c = v refl
by_kind kind.Boxed P is v g c = v refl
by_kind kind.Vector P is v g c = v refl
by_kind kind.ImmVector P is v g c = v refl
by_kind kind.Bytes P is v g c = absurd (false≢true is)
by_kind kind.ImmBytes P is v g c = absurd (false≢true is)
by_kind kind.Guard P is v g c = g refl
by_kind kind.OrderedGuard P is v g c = g refl
by_kind kind.Cell P is v g c = c refl

no_cell : (k : Kind) → is_guardian k ≡ true → is_cell k ≡ false
no_cell kind.Guard is = refl
no_cell kind.OrderedGuard is = refl
no_cell kind.Pair is = refl
no_cell kind.Weak is = refl
no_cell kind.Eph is = refl
no_cell kind.Boxed is = refl
no_cell kind.Vector is = refl
no_cell kind.ImmVector is = refl
no_cell kind.Bytes is = refl
no_cell kind.ImmBytes is = refl
no_cell kind.Cell is = absurd (false≢true is)

at_word : (f : Starts) (ws : List ℕ) (i : ℕ) → i < length ws → AllByRecursion (Leads f) ws → Leads f (get_or ws i 0)
at_word f [] i below all = absurd (omega arith)
at_word f (w ∷ ws) zero below all = all.0
at_word f (w ∷ ws) (suc i) below all = at_word f ws i (omega arith) all.1

module _ (h : HeapView) (s : State) (stands : Stands h s) where
  words_lead : (a : ℕ) (x : Start) → starts_of h a ≡ Some x → territory.has_values x.kind ≡ true → AllByRecursion (Leads (starts_of h)) x.words
  words_lead a x here is =
      by_kind x.kind (AllByRecursion (Leads (starts_of h)) x.words) is
      (λ v. each_weaker (IsWordThere (starts_of h)) (Leads (starts_of h)) (word_leads (starts_of h)) x.words ((stands.closed.laid_out a x here).values v))
      (λ g. let found = stands.graph.objects a x here (no_cell x.kind g) in guardian_leads (starts_of h) a x found.cells found.queue found.has_queue g)
      (λ c. elim (stands.cells a x here c) [
        | inl queued ↦ cell_leads (starts_of h) (thread_of queued.place) queued.guardian.generation queued.cells queued.queue a x queued.has_queue.are_cells queued.within here
        | inr loose ↦ loose_leads (starts_of h) s x loose
      ])

  -- what starts in a territory starts in the heap
  pub start_of_territory : (i : ℕ) (t : TerritoryView) (a : ℕ) (x : Start) → slice_get h.territories i ≡ Some t → get t.starts a ≡ Some x → starts_of h a ≡ Some x
  start_of_territory i t a x found there =
      ap (λ n. start_in (slice_get h.territories n) a) (stands.territories.placed i t a x found there) ∙ ap (λ o. start_in o a) found ∙ there

  pub refers_there : (i : ℕ) (t : TerritoryView) (a index b : ℕ) (x : Start) → slice_get h.territories i ≡ Some t → get t.starts a ≡ Some x → Refers x index b → IsSome (starts_of h b)
  refers_there i t a index b x found there refers =
      at_word (starts_of h) x.words index refers.within (words_lead a x (start_of_territory i t a x found there) refers.values) b refers.names
