-- Counting the starts of a generation, one after the other and territory by territory.
use Rattle.std.proofs.Common.{inl, inr, Contains, get_or, ◌≡◌, ◌≤◌, ◌<◌, ◌&&◌, ◌||◌, not, ℕ, suc, ◌+◌, ◌*◌, ◌==◌, cond, eqb, nat_lt, Bool, true, false, List, [], ◌∷◌, ◌++◌, take, filter, length, Option, Some, None, IsSome, IfSome, refl, sym, ap, subst, ◌∙◌, arith, slice_get}
use Rattle.std.specs.FinMap.{get}
use Rattle.std.specs.List.{AllByRecursion, IsDistinct, sum_by}
use Rattle.std.proofs.Math.Seq.{take-suc}
use Rattle.std.proofs.lemmas.Bool.{or_cases, or_left, or_right, false≢true, eqb-true, eqb-false, and_parts, ltb-true, lt-ltb}
use Rattle.std.proofs.lemmas.List.{take_all}
use Rattle.std.proofs.lemmas.List.Sums.{sum_by-cons, sum_by-append}
use Rattle.std.proofs.lemmas.Option.{none-some, slice_get_within, get_or_from_slice_get, slice_get_cases}
use Rattle.trace_types.specs.Rules.{has}
use Rattle.trace_types.specs.Printing.{of_generation, words_of}
use Rattle.trace_types.specs.States.{State}
use Rattle.trace_types.specs.WellFormed.{greatest_line}
use Rattle.trace_types.proofs.Least.{has-append}
use Rattle.gc_words.specs.Layout.{thread_of}
use Rattle.segment.specs.Segments.{Start}
use Rattle.territory.specs.Territories.{TerritoryView, starts_of_generation, AreItsStarts, IsNext}
use Rattle.heap_store.specs.Starts.{Starts, is_object, is_cell}
use Rattle.heap_store.specs.HeapView.{HeapView, starts_of, start_in}
use Rattle.heap_store.specs.Calls.{IsValid}
use Rattle.heap_store.specs.Stands.{Stands, AreSettled}
use Rattle.heap_print.specs.Counting.{AreFew, objects_among, words_among, objects_counted, words_counted, words_in, is_of_generation, AreOfGeneration}
use Rattle.heap_print.proofs.Counted.{both_ways, counted_objects, counted_words}
use Rattle.heap_print.proofs.Listed.{starts_in_generation, listed, its_distinct, distinct_joined, distinct_kept, has_kept, all_there, few_starts}

-- ---- one territory

-- after some starts of a generation: the next one, and what was counted
pub record CountedSome (t : TerritoryView) (g : ℕ) (count : ℕ) (next : Option ℕ) (objects words : ℕ) : Type 0 where
  pub its : AreItsStarts t g (starts_of_generation t g)
  pub at : next ≡ slice_get (starts_of_generation t g) count
  pub objects_are : objects ≡ objects_among (get t.starts) (take count (starts_of_generation t g))
  pub words_are : words ≡ words_among (get t.starts) (take count (starts_of_generation t g))
  pub fewer : objects ≤ count
  pub small : words ≤ objects * 4294967304

add_zero : (n : ℕ) → n + 0 ≡ n
add_zero n = omega arith

sum_on : (h : ℕ → ℕ) (xs : List ℕ) (count at : ℕ) → slice_get xs count ≡ Some at → sum_by h (take (count + 1) xs) ≡ sum_by h (take count xs) + h at
sum_on h xs count at e =
    let one_more : count + 1 ≡ suc count = omega arith in
    ap (λ n. sum_by h (take n xs)) one_more
    ∙ ap (sum_by h) (take-suc xs count at (slice_get_within xs count at e))
    ∙ sum_by-append h (take count xs) (get_or xs count at ∷ [])
    ∙ ap (λ n. sum_by h (take count xs) + n) (sum_by-cons h (get_or xs count at) [])
    ∙ ap (λ x. sum_by h (take count xs) + (h x + 0)) (get_or_from_slice_get xs count at at e)
    ∙ ap (λ n. sum_by h (take count xs) + n) (add_zero (h at))

contains_at : (xs : List ℕ) (count at : ℕ) → slice_get xs count ≡ Some at → Contains xs at
contains_at xs count at e = (count, slice_get_within xs count at e, get_or_from_slice_get xs count at _ e)

-- the next start is one
pub next_there : (t : TerritoryView) (g count at : ℕ) (next : Option ℕ) (objects words : ℕ) → CountedSome t g count next objects words → next ≡ Some at →
    IsSome (get t.starts at) × IfSome (get t.starts at) (λ x. x.generation ≡ g)
next_there t g count at next objects words some is =
    let there = some.its.starts at (contains_at (starts_of_generation t g) count at (sym some.at ∙ is)) in (there.1, there.0)

-- and is counted
pub some_more : (t : TerritoryView) (g count at : ℕ) (next after : Option ℕ) (objects words : ℕ) → CountedSome t g count next objects words → next ≡ Some at →
    IfSome (get t.starts at) (λ x. IsNext (starts_of_generation t x.generation) at after) →
    (one many : ℕ) → one ≡ objects_counted (get t.starts at) → many ≡ words_counted (get t.starts at) → one ≤ 1 → many ≤ one * 4294967304 →
    CountedSome t g (count + 1) after (objects + one) (words + many)
some_more t g count at next after objects words some is follows one many is_one is_many single small =
    let place : slice_get (starts_of_generation t g) count ≡ Some at = sym some.at ∙ is in
    let there = next_there t g count at next objects words some is in
    record {
      its = some.its;
      at = onward (get t.starts at) there.0 there.1 follows place;
      objects_are = ap (λ n. n + one) some.objects_are ∙ ap (λ n. objects_among (get t.starts) (take count (starts_of_generation t g)) + n) is_one
          ∙ sym (sum_on (λ a. objects_counted (get t.starts a)) (starts_of_generation t g) count at place);
      words_are = ap (λ n. n + many) some.words_are ∙ ap (λ n. words_among (get t.starts) (take count (starts_of_generation t g)) + n) is_many
          ∙ sym (sum_on (λ a. words_counted (get t.starts a)) (starts_of_generation t g) count at place);
      fewer = omega (arith, some.fewer, single);
      small = omega (arith, some.small, small);
    }
  where
    onward : (o : Option Start) → IsSome o → IfSome o (λ x. x.generation ≡ g) → IfSome o (λ x. IsNext (starts_of_generation t x.generation) at after) →
        slice_get (starts_of_generation t g) count ≡ Some at → after ≡ slice_get (starts_of_generation t g) (count + 1)
    onward None there same h place = absurd (false≢true there)
    onward (Some x) there same h place = subst (λ n. IsNext (starts_of_generation t n) at after) same h count place

some_all : (t : TerritoryView) (g count : ℕ) (next : Option ℕ) (objects words : ℕ) → CountedSome t g count next objects words →
    length (starts_of_generation t g) ≤ count →
    (objects ≡ objects_among (get t.starts) (starts_of_generation t g)) × (words ≡ words_among (get t.starts) (starts_of_generation t g))
some_all t g count next objects words some past =
    let whole : take count (starts_of_generation t g) ≡ starts_of_generation t g = take_all count (starts_of_generation t g) past in
    (some.objects_are ∙ ap (objects_among (get t.starts)) whole, some.words_are ∙ ap (words_among (get t.starts)) whole)

past_end : (xs : List ℕ) (count : ℕ) → slice_get xs count ≡ None → length xs ≤ count
past_end xs count e = elim (slice_get_cases xs count).1 [
  | inl there ↦ (let bad : Some there.0 ≡ None = sym there.2 ∙ e in absurd (none-some there.0 (sym bad)))
  | inr past ↦ past.0
]

-- where none comes next, all were counted
pub some_end : (t : TerritoryView) (g count : ℕ) (next : Option ℕ) (objects words : ℕ) → CountedSome t g count next objects words → next ≡ None →
    (objects ≡ objects_among (get t.starts) (starts_of_generation t g)) × (words ≡ words_among (get t.starts) (starts_of_generation t g))
some_end t g count next objects words some none =
    some_all t g count next objects words some (past_end (starts_of_generation t g) count (sym some.at ∙ none))

-- and after as many as there can be, too
pub some_most : (t : TerritoryView) (g count : ℕ) (next : Option ℕ) (objects words : ℕ) → AreFew (get t.starts) → CountedSome t g count next objects words →
    greatest_line ≤ count →
    (objects ≡ objects_among (get t.starts) (starts_of_generation t g)) × (words ≡ words_among (get t.starts) (starts_of_generation t g))
some_most t g count next objects words few some many =
    let once = its_distinct t g (starts_of_generation t g) some.its in
    let there = all_there (get t.starts) g (starts_of_generation t g) (λ a e. sym (listed t g (starts_of_generation t g) some.its a) ∙ e) in
    some_all t g count next objects words some (omega (arith, few (starts_of_generation t g) once there, many))

-- ---- all territories

-- what was counted in the territories of the first threads
pub record CountedTo (h : HeapView) (g : ℕ) (thread : ℕ) (objects words : ℕ) : Type 0 where
  pub places : List ℕ
  pub once : IsDistinct eqb places
  pub these : (a : ℕ) → has places a ≡ (starts_in_generation g (starts_of h a) && nat_lt (thread_of a) thread)
  pub objects_are : objects ≡ objects_among (starts_of h) places
  pub words_are : words ≡ words_among (starts_of h) places
  pub small : words ≤ objects * 4294967304

and_true : (b : Bool) → (b && true) ≡ b
and_true true = refl
and_true false = refl

and_false : (b : Bool) → (b && false) ≡ false
and_false true = refl
and_false false = refl

-- ---- the heap's starts by territory

module _ (h : HeapView) (settled : AreSettled h.territories) where
  at_thread : (i : ℕ) (t : TerritoryView) (a : ℕ) → slice_get h.territories i ≡ Some t → thread_of a ≡ i → starts_of h a ≡ get t.starts a
  at_thread i t a there same = ap (λ n. start_in (slice_get h.territories n) a) same ∙ ap (λ o. start_in o a) there

  placed_at : (i : ℕ) (t : TerritoryView) (a : ℕ) → slice_get h.territories i ≡ Some t → IsSome (get t.starts a) → thread_of a ≡ i
  placed_at i t a there some = by (get t.starts a) refl some
    where
      by : (o : Option Start) → get t.starts a ≡ o → IsSome o → thread_of a ≡ i
      by None e s = absurd (false≢true s)
      by (Some x) e s = settled.placed i t a x there e

  -- what starts anywhere is in one of the 64 territories
  pub in_range : (a : ℕ) → IsSome (starts_of h a) → thread_of a < 64
  in_range a some = by (slice_get h.territories (thread_of a)) refl some
    where
      by : (o : Option TerritoryView) → slice_get h.territories (thread_of a) ≡ o → IsSome (start_in o a) → thread_of a < 64
      by None e s = absurd (false≢true s)
      by (Some t) e s = omega (arith, slice_get_within h.territories (thread_of a) t e, settled.count)

  pub few_in : (i : ℕ) (t : TerritoryView) → slice_get h.territories i ≡ Some t → AreFew (starts_of h) → AreFew (get t.starts)
  few_in i t there few places once all = few places once (each places all)
    where
      each : (xs : List ℕ) → AllByRecursion (λ a. IsSome (get t.starts a)) xs → AllByRecursion (λ a. IsSome (starts_of h a)) xs
      each [] k = tt
      each (x ∷ xs) k = (subst IsSome (sym (at_thread i t x there (placed_at i t x there k.0))) k.0, each xs k.1)

  -- the starts of a generation in one territory, by the heap
  pub listed_in : (g i : ℕ) (t : TerritoryView) (xs : List ℕ) → slice_get h.territories i ≡ Some t → AreItsStarts t g xs → (a : ℕ) →
      has xs a ≡ (starts_in_generation g (starts_of h a) && (thread_of a == i))
  listed_in g i t xs there its a = by (thread_of a == i) refl
    where
      gone : (o : Option Start) → get t.starts a ≡ o → (thread_of a == i) ≡ false → starts_in_generation g o ≡ false
      gone None e n = refl
      gone (Some x) e n = absurd (eqb-false (thread_of a) i n (settled.placed i t a x there e))

      by : (b : Bool) → (thread_of a == i) ≡ b → has xs a ≡ (starts_in_generation g (starts_of h a) && (thread_of a == i))
      by true e =
          listed t g xs its a ∙ ap (starts_in_generation g) (sym (at_thread i t a there (eqb-true (thread_of a) i e)))
          ∙ sym (and_true (starts_in_generation g (starts_of h a))) ∙ ap (λ b. starts_in_generation g (starts_of h a) && b) (sym e)
      by false e =
          listed t g xs its a ∙ gone (get t.starts a) refl e
          ∙ sym (and_false (starts_in_generation g (starts_of h a))) ∙ ap (λ b. starts_in_generation g (starts_of h a) && b) (sym e)

  -- what they count is the same by the heap
  sum_in : (k : Option Start → ℕ) (i : ℕ) (t : TerritoryView) → slice_get h.territories i ≡ Some t → (xs : List ℕ) → AllByRecursion (λ a. IsSome (get t.starts a)) xs →
      sum_by (λ a. k (get t.starts a)) xs ≡ sum_by (λ a. k (starts_of h a)) xs
  sum_in k i t there [] all = refl
  sum_in k i t there (x ∷ xs) all =
      sum_by-cons (λ a. k (get t.starts a)) x xs
      ∙ ap (λ n. k (get t.starts x) + n) (sum_in k i t there xs all.1)
      ∙ ap (λ o. k o + sum_by (λ a. k (starts_of h a)) xs) (sym (at_thread i t x there (placed_at i t x there all.0)))
      ∙ sym (sum_by-cons (λ a. k (starts_of h a)) x xs)

-- the thread's own, after those of the threads before it
below_more : (q : Bool) (n i : ℕ) → ((q && nat_lt n i) || (q && (n == i))) ≡ (q && nat_lt n (i + 1))
below_more false n i = refl
below_more true n i = both_ways (nat_lt n i || (n == i)) (nat_lt n (i + 1))
    (λ e. elim (or_cases (nat_lt n i) (n == i) e) [
      | inl less ↦ lt-ltb n (i + 1) (omega (arith, ltb-true n i less))
      | inr same ↦ lt-ltb n (i + 1) (omega (arith, eqb-true n i same))
    ])
    (λ e. by (n == i) refl (ltb-true n (i + 1) e))
  where
    by : (b : Bool) → (n == i) ≡ b → n < i + 1 → (nat_lt n i || (n == i)) ≡ true
    by true s less = or_right (nat_lt n i) (n == i) s
    by false s less = or_left (nat_lt n i) (n == i) (lt-ltb n i (omega (arith, eqb-false n i s, less)))

-- the territory of one thread more
pub to_more : (h : HeapView) (g i : ℕ) (t : TerritoryView) (objects words one many : ℕ) → AreSettled h.territories → slice_get h.territories i ≡ Some t →
    AreItsStarts t g (starts_of_generation t g) → CountedTo h g i objects words →
    one ≡ objects_among (get t.starts) (starts_of_generation t g) → many ≡ words_among (get t.starts) (starts_of_generation t g) → many ≤ one * 4294967304 →
    CountedTo h g (i + 1) (objects + one) (words + many)
to_more h g i t objects words one many settled there its to is_one is_many small =
    let xs = starts_of_generation t g in
    let all : AllByRecursion (λ a. IsSome (get t.starts a)) xs = all_there (get t.starts) g xs (λ a e. sym (listed t g xs its a) ∙ e) in
    record {
      places = to.places ++ xs;
      once = distinct_joined to.places xs to.once (its_distinct t g xs its)
          (λ a e d. apart (thread_of a) (and_parts (starts_in_generation g (starts_of h a)) (nat_lt (thread_of a) i) (sym (to.these a) ∙ e)).1
          (and_parts (starts_in_generation g (starts_of h a)) (thread_of a == i) (sym (listed_in h settled g i t xs there its a) ∙ d)).1);
      these = λ a. has-append to.places xs a
          ∙ ap (λ b. b || has xs a) (to.these a)
          ∙ ap (λ b. (starts_in_generation g (starts_of h a) && nat_lt (thread_of a) i) || b) (listed_in h settled g i t xs there its a)
          ∙ below_more (starts_in_generation g (starts_of h a)) (thread_of a) i;
      objects_are = ap (λ n. n + one) to.objects_are
          ∙ ap (λ n. objects_among (starts_of h) to.places + n) (is_one ∙ sum_in h settled objects_counted i t there xs all)
          ∙ sym (sum_by-append (λ a. objects_counted (starts_of h a)) to.places xs);
      words_are = ap (λ n. n + many) to.words_are
          ∙ ap (λ n. words_among (starts_of h) to.places + n) (is_many ∙ sum_in h settled words_counted i t there xs all)
          ∙ sym (sum_by-append (λ a. words_counted (starts_of h a)) to.places xs);
      small = omega (arith, to.small, small);
    }
  where
    apart : (n : ℕ) → nat_lt n i ≡ true → (n == i) ≡ true → ⊥
    apart n less same = omega (arith, ltb-true n i less, eqb-true n i same)

pub to_none : (h : HeapView) (g : ℕ) → CountedTo h g 0 0 0
unfolding IsDistinct
to_none h g = record { places = []; once = tt; these = λ a. sym (none (starts_in_generation g (starts_of h a)) (thread_of a)); objects_are = refl; words_are = refl; small = omega arith }
  where
    none : (q : Bool) (n : ℕ) → (q && nat_lt n 0) ≡ false
    none false n = refl
    none true n = by (nat_lt n 0) refl
      where
        by : (b : Bool) → nat_lt n 0 ≡ b → nat_lt n 0 ≡ false
        by true e = absurd (omega (arith, ltb-true n 0 e))
        by false e = e

-- ---- bounds

valid_few : (h : HeapView) (s : State) → Stands h s → AreFew (starts_of h)
valid_few h s stands = few_starts (starts_of h) stands.closed (λ a x e. let born = stands.born a x e in (born.0, omega (arith, born.1, stands.last)))

pub few_there : (h : HeapView) (i : ℕ) (t : TerritoryView) → IsValid h → slice_get h.territories i ≡ Some t → AreFew (get t.starts)
few_there h i t valid there = few_in h valid.stands.territories i t there (valid_few h valid.state valid.stands)

one_most : (f : Starts) (xs : List ℕ) → objects_among f xs ≤ length xs
one_most f [] = omega arith
one_most f (x ∷ xs) = omega (arith, sum_by-cons (λ a. objects_counted (f a)) x xs, one_most f xs, one (is_object (f x)))
  where
    one : (b : Bool) → cond b 1 0 ≤ 1
    one true = omega arith
    one false = omega arith

-- no more objects than lines
pub to_few : (h : HeapView) (g i objects words : ℕ) → IsValid h → CountedTo h g i objects words → objects ≤ greatest_line
to_few h g i objects words valid to =
    let all = all_there (starts_of h) g to.places (λ a e. (and_parts (starts_in_generation g (starts_of h a)) (nat_lt (thread_of a) i) (sym (to.these a) ∙ e)).0) in
    omega (arith, to.objects_are, one_most (starts_of h) to.places, valid_few h valid.state valid.stands to.places to.once all)

-- ---- the graph

sum_ones : (f : Starts) (xs : List ℕ) → objects_among f xs ≡ length (filter (λ a. is_object (f a)) xs)
sum_ones f [] = refl
sum_ones f (x ∷ xs) = sum_by-cons (λ a. objects_counted (f a)) x xs ∙ ap (λ n. objects_counted (f x) + n) (sum_ones f xs) ∙ by (is_object (f x))
  where
    by : (b : Bool) → cond b 1 0 + length (filter (λ a. is_object (f a)) xs) ≡ length (cond b (x ∷ filter (λ a. is_object (f a)) xs) (filter (λ a. is_object (f a)) xs))
    by true = omega arith
    by false = omega arith

sum_words : (f : Starts) (xs : List ℕ) → words_among f xs ≡ sum_by (λ a. words_in (f a)) (filter (λ a. is_object (f a)) xs)
sum_words f [] = refl
sum_words f (x ∷ xs) = sum_by-cons (λ a. words_counted (f a)) x xs ∙ ap (λ n. words_counted (f x) + n) (sum_words f xs) ∙ by (is_object (f x))
  where
    by : (b : Bool) → cond b (words_in (f x)) 0 + sum_by (λ a. words_in (f a)) (filter (λ a. is_object (f a)) xs)
        ≡ sum_by (λ a. words_in (f a)) (cond b (x ∷ filter (λ a. is_object (f a)) xs) (filter (λ a. is_object (f a)) xs))
    by true = sym (sum_by-cons (λ a. words_in (f a)) x (filter (λ a. is_object (f a)) xs))
    by false = omega arith

-- with all territories, the places but for cells are those of the generation's objects
of_all : (h : HeapView) (g objects words : ℕ) → AreSettled h.territories → (to : CountedTo h g 64 objects words) →
    AreOfGeneration (starts_of h) g (filter (λ a. is_object (starts_of h a)) to.places)
of_all h g objects words settled to = record {
  once = distinct_kept (λ a. is_object (starts_of h a)) to.places to.once;
  these = λ a. has_kept (λ b. is_object (starts_of h b)) to.places a ∙ ap (λ b. is_object (starts_of h a) && b) (to.these a) ∙ by a (starts_of h a) refl;
}
  where
    by : (a : ℕ) (o : Option Start) → starts_of h a ≡ o → (is_object o && (starts_in_generation g o && nat_lt (thread_of a) 64)) ≡ is_of_generation g o
    by a None e = refl
    by a (Some x) e =
        ap (λ b. not (is_cell x.kind) && ((x.generation == g) && b)) (lt-ltb (thread_of a) 64 (in_range h settled a (subst IsSome (sym e) refl)))
        ∙ ap (λ b. not (is_cell x.kind) && b) (and_true (x.generation == g))

pub to_objects : (h : HeapView) (g i objects words : ℕ) (s : State) → Stands h s → i ≡ 64 → CountedTo h g i objects words → objects ≡ length (of_generation g s.graph)
to_objects h g i objects words s stands last some =
    let to : CountedTo h g 64 objects words = subst (λ n. CountedTo h g n objects words) last some in
    to.objects_are ∙ sum_ones (starts_of h) to.places
    ∙ sym (counted_objects (starts_of h) s.graph stands.graph stands.closed stands.well_formed.ordered g
    (filter (λ a. is_object (starts_of h a)) to.places) (of_all h g objects words stands.territories to))

pub to_words : (h : HeapView) (g i objects words : ℕ) (s : State) → Stands h s → i ≡ 64 → CountedTo h g i objects words → words ≡ words_of (of_generation g s.graph)
to_words h g i objects words s stands last some =
    let to : CountedTo h g 64 objects words = subst (λ n. CountedTo h g n objects words) last some in
    to.words_are ∙ sum_words (starts_of h) to.places
    ∙ sym (counted_words (starts_of h) s.graph stands.graph stands.closed stands.well_formed.ordered g
    (filter (λ a. is_object (starts_of h a)) to.places) (of_all h g objects words stands.territories to))
