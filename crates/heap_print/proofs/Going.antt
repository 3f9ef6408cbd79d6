-- Going through the objects of a heap by number gives the numbers that going through the graph gives.
use Rattle.std.proofs.Common.{◌≡◌, ◌≤◌, ◌<◌, ℕ, zero, suc, ◌+◌, ◌/◌, ◌++◌, cond, not, eqb, codes, Bool, true, false, List, [], ◌∷◌, map, fold, flat_map, length, slice_get, get_or, take, append-nil, append_assoc, Option, Some, None, IsTrue, refl, sym, ap, subst, ◌∙◌, arith}
use Rattle.std.specs.List.{AllByRecursion, IsDistinct}
use Rattle.std.proofs.lemmas.Bool.{false≢true}
use Rattle.std.specs.Option.{option_map}
use Rattle.std.proofs.lemmas.List.{length-map, length-append, map-append, take_more, take_all, take-append-le}
use Rattle.std.proofs.lemmas.Grind.{flat_map-append}
use Rattle.std.proofs.lemmas.Option.{same_Some, get_or_from_slice_get, slice_get-map, slice_get_past, slice_get_within, slice_get-get_or}
use Rattle.trace_types.proofs.Answering.{found_born}
use Rattle.trace_types.specs.Values.{objects_in, object_at}
use Rattle.trace_types.specs.States.{State}
use Rattle.trace_types.specs.Rules.{has, ◌⊆◌}
use Rattle.trace_types.specs.WellFormed.{births}
use Rattle.trace_types.specs.Printing.{with_number, number_of, numbered, numbered_at, numbering, value_text, object_line, print_text}
use Rattle.gc_words.specs.declared.value.Value.{Value}
use Rattle.gc_words.specs.declared.value.Value.TheVariants.{Fixnum, Nil, True, False, Bwp, Object as object}
use Rattle.gc_words.specs.Word.{value_of}
use Rattle.gc_words.proofs.WordLaws.{value_of-word_of}
use Rattle.gc_words.specs.Layout.{IsAddress}
use Rattle.segment.specs.Segments.{Start}
use Rattle.heap_store.specs.Calls.{IsValid}
use Rattle.heap_store.specs.HeapView.{HeapView, starts_of}
use Rattle.heap_store.specs.Queues.{Queue, HasQueue}
use Rattle.heap_store.specs.Graphs.{IsInGraph}
use Rattle.heap_store.specs.Stands.{Stands}
use Rattle.heap_store.specs.Starts.{Starts, is_object, is_cell, birth_of, read}
use Rattle.heap_print.specs.Words.{reference, birth_at, by_word, IsReference, shown_words, with_words, word_value}
use Rattle.heap_print.specs.Lines.{line_text, GoesOn}
use Rattle.heap_print.proofs.Renamed.{numbers_all}
use Rattle.heap_print.proofs.Reading.{place_of_reference, named_place, read-renamed, value_text-renamed, IsNamed}
use Rattle.heap_print.proofs.Printed.{shown_there, words_refer, went_through}
use Rattle.heap_print.proofs.Numbering.{walked_all, distinct}
use Rattle.heap_print.proofs.Visited.{number_at}
use Rattle.heap_print.proofs.Shown.{grown, goes_further}
use Rattle.heap_print.proofs.Lines.{line_shown}

-- so many objects were gone through, and these have numbers
pub record Went (h : HeapView) (v : Value) (numbers : List ℕ) (count : ℕ) : Type 0 where
  pub refer : AllByRecursion (IsReference (starts_of h)) numbers
  pub within : count ≤ length numbers
  pub so_far : (s : State) → Stands h s → map (birth_at (starts_of h)) numbers ≡ numbered s.graph (read (starts_of h) v) count

-- ---- the start

started_object : (h : HeapView) (a : ℕ) → IsAddress a → IsTrue (is_object (starts_of h a)) → Went h (object a) (reference a ∷ []) 0
started_object h a small there = record {
  refer = (named_place (starts_of h) a (value_of-word_of (object a) small) there, tt);
  within = omega arith;
  so_far = λ s stands. ap (λ b. birth_of (starts_of h b) ∷ []) (place_of_reference a);
}

pub started : (h : HeapView) (v : Value) → ((a : ℕ) → v ≡ object a → IsAddress a) → ((a : ℕ) → v ≡ object a → IsTrue (is_object (starts_of h a))) →
    Went h v (fold with_number [] (objects_in (by_word v ∷ []))) 0
started h (object a) small there = started_object h a (small a refl) (there a refl)
started h (Fixnum n) small there = record { refer = tt; within = omega arith; so_far = λ s stands. refl }
started h Nil small there = record { refer = tt; within = omega arith; so_far = λ s stands. refl }
started h True small there = record { refer = tt; within = omega arith; so_far = λ s stands. refl }
started h False small there = record { refer = tt; within = omega arith; so_far = λ s stands. refl }
started h Bwp small there = record { refer = tt; within = omega arith; so_far = λ s stands. refl }

-- ---- one object more

pub all_at : (P : ℕ → Type 0) (xs : List ℕ) (n x : ℕ) → AllByRecursion P xs → slice_get xs n ≡ Some x → P x
all_at P [] n x all e = let bad : None ≡ Some x = sym (slice_get_past [] n (omega arith)) ∙ e in cc
all_at P (y ∷ xs) zero x all e = subst P (same_Some _ _ e) all.0
all_at P (y ∷ xs) (suc n) x all e = all_at P xs n x all.1 e

with_number_grows : (numbers : List ℕ) (x : ℕ) → length numbers ≤ length (with_number numbers x)
with_number_grows numbers x = elim (has numbers x) as (λ b. length numbers ≤ length (cond b numbers (numbers ++ x ∷ []))) [
  | true ↦ omega arith
  | false ↦ omega (arith, length-append numbers (x ∷ []))
]

numbers_grow : (xs numbers : List ℕ) → length numbers ≤ length (fold with_number numbers xs)
numbers_grow [] numbers = omega arith
numbers_grow (x ∷ xs) numbers = let one = with_number_grows numbers x in let more = numbers_grow xs (with_number numbers x) in omega (arith, one, more)

-- what a reference leads to
same_place : (f : Starts) (w a : ℕ) → IsReference f w → value_of w ≡ Some (object a) → w / 8 ≡ a
same_place f w a r e = let both : Some (object (w / 8)) ≡ Some (object a) = sym r.value ∙ e in cc

no_cell_there : (x : Start) → IsTrue (is_object (Some x)) → is_cell x.kind ≡ false
no_cell_there x h = by (is_cell x.kind) h
  where
    by : (b : Bool) → IsTrue (not b) → b ≡ false
    by true e = absurd (false≢true e)
    by false e = refl

module _ (h : HeapView) (v : Value) (numbers : List ℕ) (n w a : ℕ) (went : Went h v numbers n) (found : slice_get numbers n ≡ Some w) (at : value_of w ≡ Some (object a)) where
  place_is : w / 8 ≡ a
  place_is = same_place (starts_of h) w a (all_at (IsReference (starts_of h)) numbers n w went.refer found) at

  -- it is an object
  pub object_there : IsTrue (is_object (starts_of h a))
  object_there = subst (λ b. IsTrue (is_object (starts_of h b))) place_is (all_at (IsReference (starts_of h)) numbers n w went.refer found).there

  module _ (valid : IsValid h) (after : List ℕ)
      (step : (x : Start) (cells : List ℕ) (queue : Queue) → starts_of h a ≡ Some x → HasQueue (starts_of h) a x cells queue → after ≡ with_words numbers (shown_words (starts_of h) x cells)) where
    went_from : (o : Option Start) → starts_of h a ≡ o → IsTrue (is_object o) → Went h v after (n + 1)
    went_from None e is = absurd (false≢true is)
    went_from (Some x) e is = record {
      refer = subst (AllByRecursion (IsReference (starts_of h))) (sym after_is)
          (numbers_all (IsReference (starts_of h)) (objects_in (map word_value (shown_words (starts_of h) x shown.cells))) numbers went.refer
          (words_refer (starts_of h) (shown_words (starts_of h) x shown.cells) (shown_there (starts_of h) a x shown.cells shown.queue (valid.stands.closed.laid_out a x e) shown.has_queue is)));
      within = omega (arith, slice_get_within numbers n w found, numbers_grow (objects_in (map word_value (shown_words (starts_of h) x shown.cells))) numbers, ap length after_is);
      so_far = λ s stands.
          let here = stands.graph.objects a x e (no_cell_there x is) in
          let born : slice_get (numbered s.graph (read (starts_of h) v) n) n ≡ Some x.birth =
          ap (λ (bs : List ℕ). slice_get bs n) (sym (went.so_far s stands)) ∙ slice_get-map (birth_at (starts_of h)) numbers n
          ∙ ap (option_map (birth_at (starts_of h))) found ∙ ap (λ b. Some (birth_of (starts_of h b))) place_is ∙ ap (λ o. Some (birth_of o)) e in
          let next : n + 1 ≡ suc n = omega arith in
          ap (map (birth_at (starts_of h))) (step x here.cells here.queue e here.has_queue)
          ∙ sym (went_through (starts_of h) s.graph a x here stands.closed e is numbers went.refer)
          ∙ ap (numbered_at s.graph (Some x.birth)) (went.so_far s stands)
          ∙ ap (λ o. numbered_at s.graph o (numbered s.graph (read (starts_of h) v) n)) (sym born)
          ∙ ap (numbered s.graph (read (starts_of h) v)) (sym next);
    }
      where
        shown : IsInGraph (starts_of h) valid.state.graph a x
        shown = valid.stands.graph.objects a x e (no_cell_there x is)

        after_is : after ≡ with_words numbers (shown_words (starts_of h) x shown.cells)
        after_is = step x shown.cells shown.queue e shown.has_queue

    pub went_on : Went h v after (n + 1)
    went_on = went_from (starts_of h a) refl object_there

-- ---- the end

-- what the value is is in the graph
value_born : (h : HeapView) (s : State) (v : Value) → Stands h s → ((a : ℕ) → v ≡ object a → IsTrue (is_object (starts_of h a))) → objects_in (read (starts_of h) v ∷ []) ⊆ births s
value_born h s (object a) stands there = by (starts_of h a) refl (there a refl)
  where
    by : (o : Option Start) → starts_of h a ≡ o → IsTrue (is_object o) → (birth_of o ∷ []) ⊆ births s
    by None e is = absurd (false≢true is)
    by (Some x) e is = found_born h.last s stands.well_formed x.birth _ (stands.graph.objects a x e (no_cell_there x is)).found
value_born h s (Fixnum n) stands there = λ x is. absurd (false≢true is)
value_born h s Nil stands there = λ x is. absurd (false≢true is)
value_born h s True stands there = λ x is. absurd (false≢true is)
value_born h s False stands there = λ x is. absurd (false≢true is)
value_born h s Bwp stands there = λ x is. absurd (false≢true is)

pub went_all : (h : HeapView) (v : Value) (numbers : List ℕ) (n : ℕ) → Went h v numbers n → length numbers ≤ n → ((a : ℕ) → v ≡ object a → IsTrue (is_object (starts_of h a))) →
    (s : State) → Stands h s → map (birth_at (starts_of h)) numbers ≡ numbering s.graph (read (starts_of h) v)
went_all h v numbers n went done there s stands =
    let count : length (numbered s.graph (read (starts_of h) v) n) ≡ n =
    ap length (sym (went.so_far s stands)) ∙ length-map numbers (birth_at (starts_of h)) ∙ omega (arith, done, went.within) in
    went.so_far s stands ∙ sym (walked_all h.last s (read (starts_of h) v) stands.well_formed (value_born h s v stands there) n count)

-- ---- lines

-- the line of the object of a birth, in a print with these numbers
abbrev pub line_of : HeapView → List ℕ → State → ℕ → List ℕ
line_of h numbers s birth = object_line (map (birth_at (starts_of h)) numbers) birth (object_at s.graph birth)

-- the first line, and those of these births
abbrev pub lines_of : HeapView → Value → List ℕ → State → List ℕ → List ℕ
lines_of h v numbers s births =
    codes "= " ++ value_text (map (birth_at (starts_of h)) numbers) (read (starts_of h) v) ++ 10 ∷ []
    ++ flat_map (line_of h numbers s) births

-- the text has the lines of the first n objects, whatever objects are given numbers behind these
abbrev pub Wrote : HeapView → Value → List ℕ → List ℕ → List ℕ → ℕ → Type 0
Wrote h v numbers old text n =
    (s : State) → Stands h s → (more : List ℕ) → AllByRecursion (IsReference (starts_of h)) more
    → text ≡ old ++ lines_of h v (numbers ++ more) s (map (birth_at (starts_of h)) (take n numbers))

-- A print that has come so far: so many objects were gone through, and their lines are there.
pub record Printing (h : HeapView) (v : Value) (numbers old text : List ℕ) (n : ℕ) : Type 0 where
  pub went : Went h v numbers n
  pub wrote : Wrote h v numbers old text n
  pub kept : GoesOn old text

all_append : (P : ℕ → Type 0) (xs ys : List ℕ) → AllByRecursion P xs → AllByRecursion P ys → AllByRecursion P (xs ++ ys)
all_append P [] ys h k = k
all_append P (x ∷ xs) ys h k = (h.0, all_append P xs ys h.1 k)

all_behind : (P : ℕ → Type 0) (xs ys : List ℕ) → AllByRecursion P (xs ++ ys) → AllByRecursion P ys
all_behind P [] ys h = h
all_behind P (x ∷ xs) ys h = all_behind P xs ys h.1

named_there : (f : Starts) (v : Value) → ((a : ℕ) → v ≡ object a → IsAddress a) → ((a : ℕ) → v ≡ object a → IsTrue (is_object (f a))) → IsNamed f (by_word v)
named_there f (object a) small there = named_place f a (value_of-word_of (object a) (small a refl)) (there a refl)
named_there f (Fixnum n) small there = tt
named_there f Nil small there = tt
named_there f True small there = tt
named_there f False small there = tt
named_there f Bwp small there = tt

-- after the first line
pub printing_first : (h : HeapView) (v : Value) (numbers old line text : List ℕ) → IsValid h →
    ((a : ℕ) → v ≡ object a → IsAddress a) → ((a : ℕ) → v ≡ object a → IsTrue (is_object (starts_of h a))) →
    numbers ≡ fold with_number [] (objects_in (by_word v ∷ [])) →
    ((more : List ℕ) → line ≡ codes "= " ++ value_text (numbers ++ more) (by_word v) ++ 10 ∷ []) →
    text ≡ old ++ line → Printing h v numbers old text 0
printing_first h v numbers old line text valid small there is first wrote = record {
  went = went;
  wrote = λ s stands more all.
      let ns = numbers ++ more in
      let value : value_text (map (birth_at (starts_of h)) ns) (read (starts_of h) v) ≡ value_text ns (by_word v) =
      ap (value_text (map (birth_at (starts_of h)) ns)) (read-renamed (starts_of h) v)
      ∙ value_text-renamed (starts_of h) valid.stands.closed ns (all_append (IsReference (starts_of h)) numbers more went.refer all) (by_word v) (named_there (starts_of h) v small there) in
      wrote ∙ ap (λ (t : List ℕ). old ++ t) (first more ∙ ap (λ (t : List ℕ). codes "= " ++ t ++ 10 ∷ []) (sym value) ∙ sym (append-nil _));
  kept = (line, wrote);
}
  where
    went : Went h v numbers 0
    went = subst (λ ns. Went h v ns 0) (sym is) (started h v small there)

module _ (h : HeapView) (v : Value) (numbers old text : List ℕ) (n w a : ℕ) (so_far : Printing h v numbers old text n) (found : slice_get numbers n ≡ Some w) (at : value_of w ≡ Some (object a)) (valid : IsValid h) (after new : List ℕ)
    (step : (x : Start) (cells : List ℕ) (queue : Queue) → starts_of h a ≡ Some x → HasQueue (starts_of h) a x cells queue → after ≡ with_words numbers (shown_words (starts_of h) x cells))
    (line : (x : Start) (cells : List ℕ) (queue : Queue) → starts_of h a ≡ Some x → HasQueue (starts_of h) a x cells queue → (more : List ℕ) → new ≡ text ++ line_text (starts_of h) (after ++ more) n a x cells) where
  f : Starts
  f = starts_of h

  went_now : Went h v after (n + 1)
  went_now = went_on h v numbers n w a so_far.went found at valid after step

  there_now : IsTrue (is_object (starts_of h a))
  there_now = object_there h v numbers n w a so_far.went found at

  wrote_from : (o : Option Start) → starts_of h a ≡ o → IsTrue (is_object o) → Wrote h v after old new (n + 1)
  wrote_from None e is s stands more all = absurd (false≢true is)
  wrote_from (Some x) e is s stands more all =
      let here = stands.graph.objects a x e (no_cell_there x is) in
      let grew = grown (objects_in (map word_value (shown_words (starts_of h) x here.cells))) numbers in
      let longer : after ≡ numbers ++ grew.0 = step x here.cells here.queue e here.has_queue ∙ grew.1 in
      let whole : numbers ++ (grew.0 ++ more) ≡ after ++ more = sym (append_assoc numbers grew.0 more) ∙ ap (λ (ns : List ℕ). ns ++ more) (sym longer) in
      let behind : AllByRecursion (IsReference (starts_of h)) (grew.0 ++ more) =
      all_append (IsReference (starts_of h)) grew.0 more (all_behind (IsReference (starts_of h)) numbers grew.0 (subst (AllByRecursion (IsReference (starts_of h))) longer went_now.refer)) all in
      let refer = all_append (IsReference (starts_of h)) after more went_now.refer all in
      let birth : birth_at (starts_of h) w ≡ x.birth = ap (λ b. birth_of (starts_of h b)) (place_is h v numbers n w a so_far.went found at) ∙ ap birth_of e in
      let births = map (birth_at (starts_of h)) numbers in
      let born : slice_get births n ≡ Some x.birth =
      slice_get-map (birth_at (starts_of h)) numbers n ∙ ap (option_map (birth_at (starts_of h))) found ∙ ap (λ b. Some b) birth in
      let apart : IsDistinct eqb births = subst (IsDistinct eqb) (sym (so_far.went.so_far s stands)) (distinct s.graph (read (starts_of h) v) n) in
      let number : number_of (map (birth_at (starts_of h)) (after ++ more)) x.birth ≡ n =
      ap (λ (bs : List ℕ). number_of bs x.birth) (ap (map (birth_at (starts_of h))) (sym whole) ∙ map-append (birth_at (starts_of h)) numbers (grew.0 ++ more))
      ∙ number_at births n x.birth (map (birth_at (starts_of h)) (grew.0 ++ more)) apart born in
      let shown : line_of h (after ++ more) s (birth_at (starts_of h) w) ≡ line_text (starts_of h) (after ++ more) n a x here.cells =
      ap (line_of h (after ++ more) s) birth ∙ ap (object_line (map (birth_at (starts_of h)) (after ++ more)) x.birth) here.found
      ∙ line_shown (starts_of h) s.graph a x here stands.closed e is (after ++ more) refer n number in
      let within = slice_get_within numbers n w found in
      let one : take (n + 1) after ≡ take n numbers ++ w ∷ [] =
      ap (take (n + 1)) longer ∙ take-append-le (n + 1) numbers grew.0 (omega arith)
      ∙ take_more numbers n 0 within ∙ ap (λ z. take n numbers ++ z ∷ []) (get_or_from_slice_get numbers n w 0 found) in
      let before = map (birth_at (starts_of h)) (take n numbers) in
      let first = codes "= " ++ value_text (map (birth_at (starts_of h)) (after ++ more)) (read (starts_of h) v) ++ 10 ∷ [] in
      line x here.cells here.queue e here.has_queue more
      ∙ ap (λ (t : List ℕ). t ++ line_text (starts_of h) (after ++ more) n a x here.cells) (so_far.wrote s stands (grew.0 ++ more) behind ∙ ap (λ ns. old ++ lines_of h v ns s before) whole)
      ∙ ap (λ (t : List ℕ). (old ++ (first ++ flat_map (line_of h (after ++ more) s) before)) ++ t) (sym (append-nil (line_of h (after ++ more) s (birth_at (starts_of h) w)) ∙ shown))
      ∙ append_assoc old (first ++ flat_map (line_of h (after ++ more) s) before) _
      ∙ ap (λ (t : List ℕ). old ++ t) (append_assoc first (flat_map (line_of h (after ++ more) s) before) _)
      ∙ ap (λ (t : List ℕ). old ++ (first ++ t)) (sym (flat_map-append (line_of h (after ++ more) s) before (birth_at (starts_of h) w ∷ [])))
      ∙ ap (λ (bs : List ℕ). old ++ (first ++ flat_map (line_of h (after ++ more) s) bs)) (sym (ap (map (birth_at (starts_of h))) one ∙ map-append (birth_at (starts_of h)) (take n numbers) (w ∷ [])))

  -- one line more
  pub printing_on : GoesOn text new → Printing h v after old new (n + 1)
  printing_on more = record {
    went = went_now;
    wrote = wrote_from (starts_of h a) refl there_now;
    kept = goes_further old text new so_far.kept more;
  }

-- a number of a print has its object
pub never_none : (h : HeapView) (numbers : List ℕ) (n : ℕ) → AllByRecursion (IsReference (starts_of h)) numbers → n < length numbers →
    ((w a : ℕ) → slice_get numbers n ≡ Some w → value_of w ≡ Some (object a) → ⊥) → ⊥
never_none h numbers n refer within none =
    let found = slice_get-get_or numbers n 0 within in
    none (get_or numbers n 0) (get_or numbers n 0 / 8) found (all_at (IsReference (starts_of h)) numbers n (get_or numbers n 0) refer found).value

-- ---- the whole text

pub printing_all : (h : HeapView) (v : Value) (numbers old text : List ℕ) (n : ℕ) → Printing h v numbers old text n → length numbers ≤ n →
    ((a : ℕ) → v ≡ object a → IsTrue (is_object (starts_of h a))) →
    (s : State) → Stands h s → text ≡ old ++ print_text s.graph (read (starts_of h) v)
unfolding print_text
printing_all h v numbers old text n so_far done there s stands =
    let births = map (birth_at (starts_of h)) numbers in
    let whole : List ℕ → List ℕ → List ℕ = λ ns bs. codes "= " ++ value_text ns (read (starts_of h) v) ++ 10 ∷ [] ++ flat_map (λ birth. object_line ns birth (object_at s.graph birth)) bs in
    so_far.wrote s stands [] tt
    ∙ ap (λ (ns : List ℕ). old ++ whole (map (birth_at (starts_of h)) ns) (map (birth_at (starts_of h)) (take n numbers))) (append-nil numbers)
    ∙ ap (λ (ns : List ℕ). old ++ whole births (map (birth_at (starts_of h)) ns)) (take_all n numbers done)
    ∙ ap (λ (ns : List ℕ). old ++ whole ns ns) (went_all h v numbers n so_far.went done there s stands)
