-- A new object in a register of a heap.
use Rattle.std.proofs.Common.{◌≡◌, ℕ, ◌<◌, ◌≤◌, true, false, set, get_or, slice_get, Some, refl, sym, ◌∙◌, ap, subst, arith}
use Rattle.std.proofs.lemmas.Bool.{false≢true}
use Rattle.std.proofs.lemmas.Option.{slice_get_read}
use Rattle.gc_words.specs.declared.value.Value.TheVariants as word
use Rattle.trace_types.specs.States.{State, with_new}
use Rattle.trace_types.specs.WellFormed.{greatest_line}
use Rattle.segment.specs.Segments.{Start}
use Rattle.territory.specs.Territories.{TerritoryView}
use Rattle.heap_store.specs.Starts.{fields_of, IsLaidOut, Keeps, IsChanged}
use Rattle.heap_store.specs.HeapView.{HeapView, starts_in, starts_of}
use Rattle.heap_store.specs.Changes.{IsMade, HaveSoundCards}
use Rattle.heap_store.specs.Shapes.{start_of}
use Rattle.heap_store.specs.declared.shape.Shape.{Shape}
use Rattle.heap_store.specs.declared.shape.Shape.TheVariants.{Two, Filled, Packed}
use Rattle.heap_store.specs.Stands.{Stands}
use Rattle.heap_store.specs.Plain.{is_plain}
use Rattle.heap_store.specs.Calls.{IsValid}
use Rattle.heap_store.proofs.Changed.{keeps}
use Rattle.heap_store.proofs.Plain.{plain_kind, plain_changed}
use Rattle.heap_store.proofs.Territories.{is_added}
use Rattle.heap_store.proofs.Cards.{made_cards}
use Rattle.heap_store.proofs.Making.{fresh, made}

-- what is there once the object is made
pub record IsDone (h new : HeapView) (x : Start) (line d : ℕ) : Type 0 where
  pub stands : (s : State) → Stands h s → Stands new (with_new s line d x.kind (fields_of (starts_of h) x))
  pub kept : Keeps (starts_of h) (starts_of new)
  pub cards : HaveSoundCards new.territories
  pub valid : IsValid new

abbrev with_made : HeapView → ℕ → TerritoryView → ℕ → ℕ → ℕ → HeapView
with_made h i new line n a = record h { territories = set h.territories i new; last = line; registers = set h.registers n (word.Object a) }

-- the territory of a thread is there
pub territory_there : (h : HeapView) (i : ℕ) (old : TerritoryView) → IsValid h → i ≤ 63 → old ≡ get_or h.territories i old → slice_get h.territories i ≡ Some old
territory_there h i old valid within read = slice_get_read h.territories 64 i old (sym valid.stands.territories.count) (omega arith) read

pub thread_within : (h : HeapView) → IsValid h → h.thread ≤ 63
thread_within h valid = let same = valid.stands.thread in let within = valid.stands.well_formed.thread in omega (arith, same, within)

done_at : (h : HeapView) → IsValid h → (d : ℕ) (old new : TerritoryView) (a : ℕ) (x : Start) → slice_get h.territories h.thread ≡ Some old → IsMade old new a x → x.generation ≡ 0
    → is_plain x.kind ≡ true → h.last < x.birth → x.birth ≤ greatest_line → IsLaidOut (starts_of h) x → IsDone h (with_made h h.thread new x.birth d a) x x.birth d
done_at h valid d old new a x found is young plain above within laid =
    let kind = plain_kind x.kind plain in
    let stands = λ (s : State) (st : Stands h s). made h s st old new a x d found is.changed is.free kind.no_cell young above within laid (λ g. absurd (false≢true (sym kind.no_guardian ∙ g))) in
    let changed : IsChanged (starts_of h) (starts_in (set h.territories h.thread new)) a x =
    is_added h.territories h.thread old new found valid.stands.territories a x is.changed kind.no_cell is.free (fresh h valid.state valid.stands old new a x above) in
    let cards = made_cards h valid.state valid.stands valid.cards h.thread old new found a x is.changed is.free is.sound in
    record {
      stands = stands;
      kept = keeps (starts_of h) (starts_in (set h.territories h.thread new)) a x changed;
      cards = cards;
      valid = record {
        state = with_new valid.state x.birth d x.kind (fields_of (starts_of h) x);
        stands = stands valid.state valid.stands;
        cards = cards;
        plain = plain_changed h (with_made h h.thread new x.birth d a) a x changed plain refl refl refl valid.plain;
      };
    }

shape_birth : (line : ℕ) (shape : Shape) → (start_of line shape).birth ≡ line
shape_birth line (Two kind first second) = refl
shape_birth line (Filled kind n word) = refl
shape_birth line (Packed kind n byte) = refl

shape_young : (line : ℕ) (shape : Shape) → (start_of line shape).generation ≡ 0
shape_young line (Two kind first second) = refl
shape_young line (Filled kind n word) = refl
shape_young line (Packed kind n byte) = refl

-- for a heap that is seen so
pub done : (h seen : HeapView) → h ≡ seen → (h.failed ≡ false → IsValid h) → seen.failed ≡ false → (i n d : ℕ) (old new : TerritoryView) (a line : ℕ) (shape : Shape) → i ≡ h.thread → old ≡ get_or h.territories i old → n ≡ d
    → IsMade old new a (start_of line shape) → is_plain (start_of line shape).kind ≡ true → seen.last < line → line ≤ greatest_line
    → IsLaidOut (starts_of seen) (start_of line shape) → IsDone seen (with_made h i new line n a) (start_of line shape) line d
done h seen same invariant alive i n d old new a line shape thread read number is plain above within laid =
    let x : Start = start_of line shape in
    let birth = shape_birth line shape in
    let valid = invariant (ap (λ (v : HeapView). v.failed) same ∙ alive) in
    let in_range = thread_within h valid in
    let found : slice_get h.territories i ≡ Some old = territory_there h i old valid (omega (arith, thread, in_range)) read in
    let last = ap (λ (v : HeapView). v.last) same in
    let at : IsDone h (with_made h h.thread new x.birth d a) x x.birth d =
    done_at h valid d old new a x (ap (slice_get h.territories) (sym thread) ∙ found) is (shape_young line shape) plain (omega (arith, above, birth, last)) (omega (arith, within, birth))
    (subst (λ (v : HeapView). IsLaidOut (starts_of v) x) (sym same) laid) in
    subst (λ (v : HeapView). IsDone v (with_made h i new line n a) x line d) same
    (subst (λ m. IsDone h (with_made h i new line m a) x line d) (sym number)
    (subst (λ j. IsDone h (with_made h j new line d a) x line d) (sym thread)
    (subst (λ b. IsDone h (with_made h h.thread new b d a) x b d) birth at)))
