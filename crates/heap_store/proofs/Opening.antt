-- An empty heap stands for the state in which a trace begins.
use Rattle.std.proofs.Common.{◌≡◌, ℕ, zero, suc, ◌+◌, ◌<◌, ◌≤◌, false, List, [], ◌∷◌, ◌++◌, ◌-◌, map, replicate, slice_get, get_or, IsTrue, Option, Some, None, refl, sym, ◌∙◌, ap, subst, arith, inl, inr}
use Rattle.std.specs.List.{AllByRecursion}
use Rattle.std.specs.FinMap.{get, get-empty}
use Rattle.std.specs.Ordering.{nat_cmp}
use Rattle.std.proofs.lemmas.Bool.{cases_lt, false≢true}
use Rattle.std.proofs.lemmas.List.{length-append, get_or_past, get_or_append_left, get_or-append_right}
use Rattle.std.proofs.lemmas.Option.{same_Some, slice_get_past, slice_get_within, slice_get-get_or}
use Rattle.gc_words.specs.declared.value.Value.{Value}
use Rattle.gc_words.specs.declared.value.Value.TheVariants as word
use Rattle.gc_words.specs.declared.registration.Registration.{Registration}
use Rattle.gc_words.specs.Layout.{thread_of}
use Rattle.trace_types.specs.States.{opening}
use Rattle.trace_types.specs.WellFormed.{IsWellFormedTo}
use Rattle.trace_types.proofs.Opening.{opening_well_formed}
use Rattle.segment.specs.Segments.{Start}
use Rattle.territory.specs.Territories.{SegmentView, TerritoryView, segment_at, no_territory}
use Rattle.heap_store.specs.declared.notes.Noted.{Noted}
use Rattle.heap_store.specs.declared.notes.Noted.TheVariants as note
use Rattle.heap_store.specs.Starts.{is_object, read, IsThere}
use Rattle.heap_store.specs.Roots.{level_of, read_note, IsNoteThere}
use Rattle.heap_store.specs.HeapView.{HeapView, start_in, starts_in}
use Rattle.heap_store.specs.Stands.{Stands}
use Rattle.heap_store.specs.Registries.{level_count}
use Rattle.heap_store.specs.Plain.{IsPlain}
use Rattle.heap_store.specs.Opening.{AreNew}
use Rattle.heap_store.specs.Changes.{HaveSoundCards}
use Rattle.heap_store.proofs.Kept.{at_index}

map_copies : {X Y : Type 0} (f : X → Y) (n : ℕ) (x : X) → map f (replicate n x) ≡ replicate n (f x)
map_copies f zero x = refl
map_copies f (suc n) x = ap (λ ys. f x ∷ ys) (map_copies f n x)

each_copy : {X : Type 0} (P : X → Type 0) (n : ℕ) (x : X) → P x → AllByRecursion P (replicate n x)
each_copy P zero x h = tt
each_copy P (suc n) x h = (h, each_copy P n x h)

well_formed_to_0 : (oldest : ℕ) → 1 ≤ oldest → oldest ≤ 7 → IsWellFormedTo 0 (opening oldest)
well_formed_to_0 oldest low high =
    let well = opening_well_formed oldest low high in
    record {
      ordered = well.ordered;
      objects = well.objects;
      in_graph = well.in_graph;
      guardians = well.guardians;
      differ = well.differ;
      in_range = λ n h. absurd (omega (arith, h));
      lines_ordered = well.lines_ordered;
      registration_values = well.registration_values;
      locks_ordered = well.locks_ordered;
      locks = well.locks;
      registers = well.registers;
      register_values = well.register_values;
      notes = well.notes;
      thread = well.thread;
      oldest = well.oldest;
      version = well.version;
    }

-- one more territory
pub pushed : (territories after : List TerritoryView) (n : ℕ) (t : TerritoryView) → AreNew territories n → t ≡ no_territory n → after ≡ territories ++ t ∷ [] → AreNew after (n + 1)
pushed territories after n t new is e = subst (λ ts. AreNew ts (n + 1)) (sym e) (record {
  count = length-append territories (t ∷ []) ∙ ap (λ k. k + 1) new.count;
  each = λ i below. slice_get-get_or (territories ++ t ∷ []) i t (omega (arith, length-append territories (t ∷ []), new.count, below)) ∙ elim (cases_lt i n) [
    | inl less ↦
        ap Some (get_or-append_left territories i less)
        ∙ sym (slice_get-get_or territories i t (omega (arith, less, new.count))) ∙ new.each i less
    | inr past ↦
        let last : i ≡ n = omega (arith, past, below) in
        ap (λ k. Some (get_or (territories ++ t ∷ []) k t)) last ∙ ap Some (get_or-append_right territories (t ∷ []) n n t new.count (omega arith) ∙ ap (λ k. get_or (t ∷ []) k t) (n-n n)) ∙ ap Some is ∙ ap (λ k. Some (no_territory k)) (sym last)
  ];
})
  where
    get_or-append_left : (ts : List TerritoryView) (i : ℕ) → i < n → get_or (territories ++ t ∷ []) i t ≡ get_or territories i t
    get_or-append_left ts i less = get_or_append_left territories (t ∷ []) t i (omega (arith, less, new.count))

    n-n : (k : ℕ) → k - k ≡ 0
    n-n k = omega arith

module _ (territories : List TerritoryView) (new : AreNew territories 64) where
  is_new : (i : ℕ) (t : TerritoryView) → slice_get territories i ≡ Some t → no_territory i ≡ t
  is_new i t e = same_Some _ _ (sym (new.each i (omega (arith, slice_get_within territories i t e, new.count))) ∙ e)

  empty_at : (a : ℕ) → starts_in territories a ≡ None
  empty_at a =
      elim (cases_lt (thread_of a) 64) [
        | inl within ↦ ap (λ o. start_in o a) (new.each (thread_of a) within) ∙ get-empty nat_cmp a
        | inr past ↦ ap (λ o. start_in o a) (slice_get_past territories (thread_of a) (omega (arith, new.count, past)))
      ]

  none_there : (a : ℕ) (x : Start) → starts_in territories a ≡ Some x → ⊥
  none_there a x e = let n : None ≡ Some x = sym (empty_at a) ∙ e in cc

  no_segment : (i n : ℕ) (p : SegmentView) → segment_at (no_territory i) n ≡ Some p → ⊥
  no_segment i n p e = let none : None ≡ Some p = sym (get_or_past {X = Option SegmentView} [] n None (omega arith)) ∙ e in cc

  not_there : (i a : ℕ) (x : Start) → get (no_territory i).starts a ≡ Some x → ⊥
  not_there i a x f = let none : None ≡ Some x = sym (get-empty nat_cmp a) ∙ f in cc

  no_object : (a : ℕ) → IsTrue (is_object (starts_in territories a)) → ⊥
  no_object a h = false≢true (sym (ap is_object (empty_at a)) ∙ h)

  opened_empty : (registers : List Value) (notes : List Noted) (oldest : ℕ) → registers ≡ replicate 4096 word.Nil → notes ≡ replicate 256 note.Empty → 1 ≤ oldest → oldest ≤ 7
      → Stands (record {
        failed = false;
        last = 0;
        territories = territories;
        registers = registers;
        locks = [];
        notes = notes;
        registry = replicate level_count [];
        thread = 0;
        collects = 0;
        oldest = oldest;
        version = 1;
      }) (opening oldest)
  opened_empty registers notes oldest nil_registers empty_notes low high = record {
    alive = refl;
    territories = record {
      count = new.count;
      threads = λ i t e. ap (λ (u : TerritoryView). u.thread) (sym (is_new i t e));
      placed = λ i t a x e f. absurd (not_there i a x (ap (λ (u : TerritoryView). get u.starts a) (is_new i t e) ∙ f));
      no_from = λ i t e n p f. absurd (no_segment i n p (ap (λ (u : TerritoryView). segment_at u n) (is_new i t e) ∙ f));
    };
    closed = record { single = λ a b x y e _ _. absurd (none_there a x e); laid_out = λ a x e. absurd (none_there a x e) };
    graph = record { objects = λ a x e _. absurd (none_there a x e); places = λ birth o e. absurd (let n : None ≡ Some o = e in cc) };
    cells = λ c cell e _. absurd (none_there c cell e);
    registers = record {
      there = subst (AllByRecursion (IsThere (starts_in territories))) (sym nil_registers) (each_copy (IsThere (starts_in territories)) 4096 word.Nil tt);
      reads = sym (ap (map (read (starts_in territories))) nil_registers ∙ map_copies (read (starts_in territories)) 4096 word.Nil);
    };
    locks = record { there = λ a h. absurd (false≢true h); same = λ a h. absurd (no_object a h) };
    notes = record {
      there = subst (AllByRecursion (IsNoteThere (starts_in territories))) (sym empty_notes) (each_copy (IsNoteThere (starts_in territories)) 256 note.Empty tt);
      reads = sym (ap (map (read_note (starts_in territories))) empty_notes ∙ map_copies (read_note (starts_in territories)) 256 note.Empty);
    };
    registry = record { there = (tt, (tt, (tt, (tt, (tt, (tt, (tt, (tt, (tt, tt))))))))); levels = λ level below. at_index (AllByRecursion (λ r. level_of (starts_in territories) r ≡ level)) [] tt (replicate level_count []) (tt, (tt, (tt, (tt, (tt, (tt, (tt, (tt, (tt, tt))))))))) level; reads = refl };
    thread = refl;
    collects = refl;
    oldest = refl;
    version = refl;
    born = λ a x e. absurd (none_there a x e);
    last = omega arith;
    well_formed = well_formed_to_0 oldest low high;
  }

  pub opened : (registers : List Value) (notes : List Noted) (locks : List (ℕ × ℕ)) (registry : List (List Registration)) (oldest : ℕ) → registers ≡ replicate 4096 word.Nil → notes ≡ replicate 256 note.Empty
      → locks ≡ [] → registry ≡ replicate level_count [] → 1 ≤ oldest → oldest ≤ 7
      → Stands (record {
        failed = false;
        last = 0;
        territories = territories;
        registers = registers;
        locks = locks;
        notes = notes;
        registry = registry;
        thread = 0;
        collects = 0;
        oldest = oldest;
        version = 1;
      }) (opening oldest)
  opened registers notes locks registry oldest nil_registers empty_notes none nothing low high =
      let at : List (ℕ × ℕ) → List (List Registration) → HeapView = λ l r. record {
        failed = false;
        last = 0;
        territories = territories;
        registers = registers;
        locks = l;
        notes = notes;
        registry = r;
        thread = 0;
        collects = 0;
        oldest = oldest;
        version = 1;
      } in
      subst (λ l. Stands (at l registry) (opening oldest)) (sym none)
      (subst (λ r. Stands (at [] r) (opening oldest)) (sym nothing) (opened_empty registers notes oldest nil_registers empty_notes low high))

  pub opened_plain : (registers : List Value) (notes : List Noted) (locks : List (ℕ × ℕ)) (registry : List (List Registration)) (oldest : ℕ)
      → notes ≡ replicate 256 note.Empty → locks ≡ [] → registry ≡ replicate level_count []
      → IsPlain (record {
        failed = false;
        last = 0;
        territories = territories;
        registers = registers;
        locks = locks;
        notes = notes;
        registry = registry;
        thread = 0;
        collects = 0;
        oldest = oldest;
        version = 1;
      })
  opened_plain registers notes locks registry oldest empty_notes none nothing = record {
    kinds = λ a x here. absurd (none_there a x here);
    locks = none;
    notes = empty_notes;
    registry = nothing;
  }

  pub sound_cards : HaveSoundCards territories
  sound_cards i t e a index b h x there refers generation less = absurd (not_there i a x (ap (λ (u : TerritoryView). get u.starts a) (is_new i t e) ∙ there))
