-- Counting the objects of the heap counts those of the graph.
use Rattle.std.proofs.Common.{◌≡◌, inl, inr, ℕ, ◌+◌, ◌*◌, ◌/◌, ◌==◌, eqb, cond, not, ◌&&◌, ◌||◌, Bool, true, false, List, [], ◌∷◌, map, length, Option, Some, None, IsTrue, refl, sym, ap, subst, ◌∙◌, pos}
use Rattle.std.specs.List.{AllByRecursion, IsDistinct, sum_by, range_with_len}
use Rattle.std.specs.FinMap.{is_sorted}
use Rattle.std.specs.FinMap.Entries.{below_all}
use Rattle.std.specs.Ordering.{nat_cmp}
use Rattle.std.proofs.lemmas.Bool.{false≢true, and_parts, eqb-true, eq-eqb, or_cases, or_left, or_right}
use Rattle.std.proofs.lemmas.Cmp.{nat_eq_equiv}
use Rattle.std.proofs.lemmas.List.{length-map}
use Rattle.std.proofs.lemmas.List.Sums.{sum_by-cons}
use Rattle.std.proofs.lemmas.List.FromFn.{length-range_with_len}
use Rattle.trace_types.specs.declared.kind.Kind.{Kind}
use Rattle.trace_types.specs.declared.kind.Kind.TheVariants as kind
use Rattle.trace_types.specs.Values as values
use Rattle.trace_types.specs.Values.{Object, Graph, object_at, is_guardian, has_bytes, size_of}
use Rattle.trace_types.specs.Rules.{has}
use Rattle.trace_types.specs.Printing.{of_generation, words_of}
use Rattle.trace_types.proofs.Graphs.{find_first}
use Rattle.trace_types.proofs.Meeting.{found_each, each_above}
use Rattle.segment.specs.Segments.{Start}
use Rattle.segment.specs.Layout.{space_of, skip_of, words_after}
use Rattle.heap_store.specs.Starts.{Starts, is_cell, is_object, birth_of, fields_of, byte_at, bytes_of, read_word, IsLaidOut, IsClosed}
use Rattle.heap_store.specs.Graphs.{GraphStands}
use Rattle.heap_print.specs.Counting.{is_of_generation, words_in, AreOfGeneration}
use Rattle.heap_print.proofs.Sums.{sum-same}
use Rattle.heap_print.proofs.Renamed.{AreApart, same_test}
use Rattle.heap_print.proofs.Numbering.{flipped}
use Rattle.std.proofs.lemmas.Map.Made.{length-from_same_keys, IsDistinct-keys_filter}

-- ---- one object

-- kinds whose objects differ in length
has_length : Kind → Bool
has_length kind.Vector = true
has_length kind.ImmVector = true
has_length kind.Bytes = true
has_length kind.ImmBytes = true
has_length _ = false

size_by : (k : Kind) (fields : List values.Value) (count : ℕ) → is_cell k ≡ false → (has_length k ≡ true → length fields ≡ count) →
    size_of k fields ≡ (skip_of (space_of k) + words_after k count + 1) / 2 * 2
unfolding has_length
size_by kind.Pair fields count cell counted = refl
size_by kind.Weak fields count cell counted = refl
size_by kind.Eph fields count cell counted = refl
size_by kind.Boxed fields count cell counted = refl
size_by kind.Guard fields count cell counted = refl
size_by kind.OrderedGuard fields count cell counted = refl
size_by kind.Vector fields count cell counted = ap (λ n. (1 + n + 1) / 2 * 2) (counted refl)
size_by kind.ImmVector fields count cell counted = ap (λ n. (1 + n + 1) / 2 * 2) (counted refl)
size_by kind.Bytes fields count cell counted = ap (λ n. (1 + (n + 7) / 8 + 1) / 2 * 2) (counted refl)
size_by kind.ImmBytes fields count cell counted = ap (λ n. (1 + (n + 7) / 8 + 1) / 2 * 2) (counted refl)
size_by kind.Cell fields count cell counted = absurd (false≢true (sym cell))

-- kinds that differ in length and have no bytes
vector_words : (k : Kind) → has_length k ≡ true → has_bytes k ≡ false → (is_guardian k ≡ false) × ((n : ℕ) → words_after k n ≡ n)
unfolding has_length
vector_words kind.Vector long bytes = (refl, λ n. refl)
vector_words kind.ImmVector long bytes = (refl, λ n. refl)
vector_words kind.Bytes long bytes = absurd (false≢true (sym bytes))
vector_words kind.ImmBytes long bytes = absurd (false≢true (sym bytes))
vector_words kind.Pair long bytes = absurd (false≢true long)
vector_words kind.Weak long bytes = absurd (false≢true long)
vector_words kind.Eph long bytes = absurd (false≢true long)
vector_words kind.Boxed long bytes = absurd (false≢true long)
vector_words kind.Guard long bytes = absurd (false≢true long)
vector_words kind.OrderedGuard long bytes = absurd (false≢true long)
vector_words kind.Cell long bytes = absurd (false≢true long)

fields_counted : (f : Starts) (x : Start) → IsLaidOut f x → has_length x.kind ≡ true → length (fields_of f x) ≡ x.length
fields_counted f x laid long = by (has_bytes x.kind) refl
  where
    by : (bytes : Bool) → has_bytes x.kind ≡ bytes → length (fields_of f x) ≡ x.length
    by true e =
        ap (λ b. length (cond b (map (λ n. values.fixnum (pos n)) (bytes_of x.words x.length)) (cond (is_guardian x.kind) [] (map (read_word f) x.words)))) e
        ∙ length-map (bytes_of x.words x.length) (λ n. values.fixnum (pos n))
        ∙ length-map (range_with_len 0 x.length) (byte_at x.words)
        ∙ length-range_with_len 0 x.length
    by false e =
        let facts = vector_words x.kind long e in
        ap (λ b. length (cond b (map (λ n. values.fixnum (pos n)) (bytes_of x.words x.length)) (cond (is_guardian x.kind) [] (map (read_word f) x.words)))) e
        ∙ ap (λ b. length (cond b [] (map (read_word f) x.words))) facts.0
        ∙ length-map x.words (read_word f) ∙ laid.words ∙ facts.1 x.length

size_read : (f : Starts) (x : Start) → IsLaidOut f x → is_cell x.kind ≡ false → size_of x.kind (fields_of f x) ≡ words_in (Some x)
size_read f x laid object = size_by x.kind (fields_of f x) x.length object (fields_counted f x laid)

-- ---- keys of a graph

distinct_births : (graph : Graph) → IsTrue (is_sorted nat_cmp graph) → IsDistinct eqb (map (λ e. e.0) graph)
unfolding IsDistinct
distinct_births [] ordered = tt
distinct_births (e ∷ graph) ordered =
    let parts = and_parts (below_all nat_cmp e.0 graph) (is_sorted nat_cmp graph) ordered in
    (apart graph (each_above e.0 graph parts.0), distinct_births graph parts.1)
  where
    apart : (g : Graph) → AllByRecursion (λ entry. (entry.0 == e.0) ≡ false) g → AllByRecursion (λ b. eqb e.0 b ≡ false) (map (λ d. d.0) g)
    apart [] h = tt
    apart (d ∷ g) h = (nat_eq_equiv.symm e.0 d.0 ∙ h.0, apart g h.1)

-- the births of one generation
abbrev births_of : ℕ → Graph → List ℕ
births_of g graph = map (λ e. e.0) (of_generation g graph)

abbrev is_old : ℕ → Option Object → Bool
is_old g None = false
is_old g (Some o) = o.generation == g

absent_key : (a : ℕ) (graph : Graph) → AllByRecursion (λ entry. (entry.0 == a) ≡ false) graph → object_at graph a ≡ None
absent_key a [] h = refl
absent_key a (d ∷ graph) h =
    find_first a d graph ∙ ap (λ b. cond b (Some d.1) (object_at graph a)) (nat_eq_equiv.symm a d.0 ∙ h.0) ∙ absent_key a graph h.1

has-births_of : (g : ℕ) (graph : Graph) → IsTrue (is_sorted nat_cmp graph) → (b : ℕ) → has (births_of g graph) b ≡ is_old g (object_at graph b)
has-births_of g [] ordered b = refl
has-births_of g (e ∷ graph) ordered b =
    let parts = and_parts (below_all nat_cmp e.0 graph) (is_sorted nat_cmp graph) ordered in
    by (has-births_of g graph parts.1 b) (each_above e.0 graph parts.0) (b == e.0) (e.1.generation == g) refl refl
  where
    by : has (births_of g graph) b ≡ is_old g (object_at graph b) → AllByRecursion (λ entry. (entry.0 == e.0) ≡ false) graph →
        (here old : Bool) → (b == e.0) ≡ here → (e.1.generation == g) ≡ old → has (births_of g (e ∷ graph)) b ≡ is_old g (object_at (e ∷ graph) b)
    by rest above true true p q =
        ap (λ (o : Bool). has (map (λ d. d.0) (cond o (e ∷ of_generation g graph) (of_generation g graph))) b) q
        ∙ ap (λ t. t || has (births_of g graph) b) (nat_eq_equiv.symm e.0 b ∙ p)
        ∙ sym q ∙ ap (λ t. is_old g (cond t (Some e.1) (object_at graph b))) (sym p) ∙ ap (is_old g) (sym (find_first b e graph))
    by rest above true false p q =
        ap (λ (o : Bool). has (map (λ d. d.0) (cond o (e ∷ of_generation g graph) (of_generation g graph))) b) q
        ∙ rest ∙ ap (λ c. is_old g (object_at graph c)) (eqb-true b e.0 p) ∙ ap (is_old g) (absent_key e.0 graph above)
        ∙ sym q ∙ ap (λ t. is_old g (cond t (Some e.1) (object_at graph b))) (sym p) ∙ ap (is_old g) (sym (find_first b e graph))
    by rest above false true p q =
        ap (λ (o : Bool). has (map (λ d. d.0) (cond o (e ∷ of_generation g graph) (of_generation g graph))) b) q
        ∙ ap (λ t. t || has (births_of g graph) b) (nat_eq_equiv.symm e.0 b ∙ p)
        ∙ rest ∙ ap (λ t. is_old g (cond t (Some e.1) (object_at graph b))) (sym p) ∙ ap (is_old g) (sym (find_first b e graph))
    by rest above false false p q =
        ap (λ (o : Bool). has (map (λ d. d.0) (cond o (e ∷ of_generation g graph) (of_generation g graph))) b) q
        ∙ rest ∙ ap (λ t. is_old g (cond t (Some e.1) (object_at graph b))) (sym p) ∙ ap (is_old g) (sym (find_first b e graph))

-- the words of what is found
abbrev words_found : Option Object → ℕ
words_found None = 0
words_found (Some o) = size_of o.kind o.fields

words_each : (graph : Graph) (g : ℕ) (entries : Graph) → AllByRecursion (λ e. object_at graph e.0 ≡ Some e.1) entries →
    words_of (of_generation g entries) ≡ sum_by (λ b. words_found (object_at graph b)) (births_of g entries)
words_each graph g [] all = refl
words_each graph g (e ∷ entries) all = by (words_each graph g entries all.1) (e.1.generation == g) refl
  where
    by : words_of (of_generation g entries) ≡ sum_by (λ b. words_found (object_at graph b)) (births_of g entries) → (old : Bool) → (e.1.generation == g) ≡ old →
        words_of (of_generation g (e ∷ entries)) ≡ sum_by (λ b. words_found (object_at graph b)) (births_of g (e ∷ entries))
    by rest true q =
        ap (λ (o : Bool). words_of (cond o (e ∷ of_generation g entries) (of_generation g entries))) q
        ∙ sum_by-cons (λ d. size_of d.1.kind d.1.fields) e (of_generation g entries)
        ∙ ap (λ n. size_of e.1.kind e.1.fields + n) rest
        ∙ ap (λ o. words_found o + sum_by (λ b. words_found (object_at graph b)) (births_of g entries)) (sym all.0)
        ∙ sym (sum_by-cons (λ b. words_found (object_at graph b)) e.0 (births_of g entries))
        ∙ ap (λ (o : Bool). sum_by (λ b. words_found (object_at graph b)) (map (λ d. d.0) (cond o (e ∷ of_generation g entries) (of_generation g entries)))) (sym q)
    by rest false q =
        ap (λ (o : Bool). words_of (cond o (e ∷ of_generation g entries) (of_generation g entries))) q
        ∙ rest
        ∙ ap (λ (o : Bool). sum_by (λ b. words_found (object_at graph b)) (map (λ d. d.0) (cond o (e ∷ of_generation g entries) (of_generation g entries)))) (sym q)

words-births_of : (g : ℕ) (graph : Graph) → IsTrue (is_sorted nat_cmp graph) → words_of (of_generation g graph) ≡ sum_by (λ b. words_found (object_at graph b)) (births_of g graph)
words-births_of g graph ordered = words_each graph g graph (found_each (λ x o. object_at graph x ≡ Some o) graph ordered (λ x o e. e))

-- ---- places

pub each_member : (P : ℕ → Type 0) (xs : List ℕ) → ((a : ℕ) → has xs a ≡ true → P a) → AllByRecursion P xs
each_member P [] h = tt
each_member P (x ∷ xs) h = (h x (or_left (eqb x x) (has xs x) (nat_eq_equiv.refl x)), each_member P xs (λ a e. h a (or_right (eqb x a) (has xs a) e)))

has-map : (h : ℕ → ℕ) (xs : List ℕ) (a : ℕ) → has xs a ≡ true → has (map h xs) (h a) ≡ true
has-map h [] a e = absurd (false≢true e)
has-map h (x ∷ xs) a e = elim (or_cases (eqb x a) (has xs a) e) [
  | inl same ↦ or_left (eqb (h x) (h a)) (has (map h xs) (h a)) (eq-eqb (h x) (h a) (ap h (eqb-true x a same)))
  | inr rest ↦ or_right (eqb (h x) (h a)) (has (map h xs) (h a)) (has-map h xs a rest)
]

from_map : (h : ℕ → ℕ) (xs : List ℕ) (b : ℕ) → has (map h xs) b ≡ true → (a : ℕ) × (has xs a ≡ true) × (h a ≡ b)
from_map h [] b e = absurd (false≢true e)
from_map h (x ∷ xs) b e = elim (or_cases (eqb (h x) b) (has (map h xs) b) e) [
  | inl same ↦ (x, or_left (eqb x x) (has xs x) (nat_eq_equiv.refl x), eqb-true (h x) b same)
  | inr rest ↦ let found = from_map h xs b rest in (found.0, or_right (eqb x found.0) (has xs found.0) found.1, found.2)
]

pub both_ways : (p q : Bool) → (p ≡ true → q ≡ true) → (q ≡ true → p ≡ true) → p ≡ q
both_ways true q h k = sym (h refl)
both_ways false true h k = k refl
both_ways false false h k = refl

pub distinct-map : (P : ℕ → Type 0) (h : ℕ → ℕ) → AreApart P h → (xs : List ℕ) → AllByRecursion P xs → IsDistinct eqb xs → IsDistinct eqb (map h xs)
unfolding IsDistinct
distinct-map P h apart [] all d = tt
distinct-map P h apart (x ∷ xs) all d = (others xs all.1 d.0, distinct-map P h apart xs all.1 d.1)
  where
    others : (ys : List ℕ) → AllByRecursion P ys → AllByRecursion (λ y. eqb x y ≡ false) ys → AllByRecursion (λ y. eqb (h x) y ≡ false) (map h ys)
    others [] a e = tt
    others (y ∷ ys) a e = (same_test P h apart x y all.0 a.0 ∙ e.0, others ys a.1 e.1)

sum-map : (h k : ℕ → ℕ) (size : ℕ → ℕ) (xs : List ℕ) → AllByRecursion (λ a. size (h a) ≡ k a) xs → sum_by size (map h xs) ≡ sum_by k xs
sum-map h k size [] all = refl
sum-map h k size (x ∷ xs) all =
    sum_by-cons size (h x) (map h xs) ∙ ap (λ n. n + sum_by size (map h xs)) all.0 ∙ ap (λ n. k x + n) (sum-map h k size xs all.1) ∙ sym (sum_by-cons k x xs)

abbrev birth_in : Starts → ℕ → ℕ
birth_in f a = birth_of (f a)

abbrev IsPlace : Starts → ℕ → Type 0
IsPlace f a = IsTrue (is_object (f a))

places_apart : (f : Starts) → IsClosed f → AreApart (IsPlace f) (birth_in f)
places_apart f closed a b p q same = by (f a) (f b) refl refl p q same
  where
    by : (x y : Option Start) → f a ≡ x → f b ≡ y → IsTrue (is_object x) → IsTrue (is_object y) → birth_of x ≡ birth_of y → a ≡ b
    by None y e d hx hy c = cc
    by (Some x) None e d hx hy c = cc
    by (Some x) (Some y) e d hx hy c = closed.single a b x y e d c

-- what is of a generation is an object
object_part : (g : ℕ) (o : Option Start) → is_of_generation g o ≡ true → IsTrue (is_object o)
object_part g None e = absurd (false≢true e)
object_part g (Some x) e = (and_parts (not (is_cell x.kind)) (x.generation == g) e).0

module _ (f : Starts) (graph : Graph) (stands : GraphStands f graph) (closed : IsClosed f) where
  no_cell : (x : Start) → IsTrue (is_object (Some x)) → is_cell x.kind ≡ false
  no_cell x h = by (is_cell x.kind) h
    where
      by : (b : Bool) → not b ≡ true → b ≡ false
      by true e = absurd (false≢true e)
      by false e = refl

  -- what the graph has of what starts at a place
  found_there : (a : ℕ) (x : Start) → f a ≡ Some x → is_cell x.kind ≡ false →
      (is_old x.generation (object_at graph x.birth) ≡ true) × (words_found (object_at graph x.birth) ≡ words_in (Some x))
  found_there a x e object =
      let here = stands.objects a x e object in (
        ap (is_old x.generation) here.found ∙ eq-eqb x.generation x.generation refl,
        ap words_found here.found ∙ size_read f x (closed.laid_out a x e) object,
      )

  old_there : (g a : ℕ) → is_of_generation g (f a) ≡ true → is_old g (object_at graph (birth_in f a)) ≡ true
  old_there g a e = by (f a) refl e
    where
      by : (o : Option Start) → f a ≡ o → is_of_generation g o ≡ true → is_old g (object_at graph (birth_of o)) ≡ true
      by None p q = absurd (false≢true q)
      by (Some x) p q =
          let parts = and_parts (not (is_cell x.kind)) (x.generation == g) q in
          ap (λ n. is_old n (object_at graph x.birth)) (sym (eqb-true x.generation g parts.1)) ∙ (found_there a x p (no_cell x parts.0)).0

  words_there : (a : ℕ) → IsPlace f a → words_found (object_at graph (birth_in f a)) ≡ words_in (f a)
  words_there a h = by (f a) refl h
    where
      by : (o : Option Start) → f a ≡ o → IsTrue (is_object o) → words_found (object_at graph (birth_of o)) ≡ words_in o
      by None p q = absurd (false≢true q)
      by (Some x) p q = (found_there a x p (no_cell x q)).1

  place_there : (g b : ℕ) → is_old g (object_at graph b) ≡ true → (a : ℕ) × (is_of_generation g (f a) ≡ true) × (birth_in f a ≡ b)
  place_there g b e = by (object_at graph b) refl e
    where
      by : (o : Option Object) → object_at graph b ≡ o → is_old g o ≡ true → (a : ℕ) × (is_of_generation g (f a) ≡ true) × (birth_in f a ≡ b)
      by None p q = absurd (false≢true q)
      by (Some o) p q =
          let place = stands.places b o p in
          let old = (found_there place.place place.start place.here place.no_cell).0 in
          let found : object_at graph place.start.birth ≡ Some o = ap (object_at graph) place.same_birth ∙ p in
          let same : place.start.generation ≡ g =
          sym (eqb-true o.generation place.start.generation (sym (ap (is_old place.start.generation) found) ∙ old)) ∙ eqb-true o.generation g q in (
            place.place,
            ap (is_of_generation g) place.here ∙ ap (λ c. not c && (place.start.generation == g)) place.no_cell ∙ eq-eqb place.start.generation g same,
            ap birth_of place.here ∙ place.same_birth,
          )

  module _ (ordered : IsTrue (is_sorted nat_cmp graph)) (g : ℕ) (places : List ℕ) (these : AreOfGeneration f g places) where
    are_places : AllByRecursion (IsPlace f) places
    are_places = each_member (IsPlace f) places (λ a e. object_part g (f a) (sym (these.these a) ∙ e))

    same_births : (b : ℕ) → has (births_of g graph) b ≡ has (map (birth_in f) places) b
    same_births b = both_ways (has (births_of g graph) b) (has (map (birth_in f) places) b)
        (λ e. let place = place_there g b (sym (has-births_of g graph ordered b) ∙ e) in
        subst (λ c. has (map (birth_in f) places) c ≡ true) place.2 (has-map (birth_in f) places place.0 (these.these place.0 ∙ place.1)))
        (λ e. let place = from_map (birth_in f) places b e in
        has-births_of g graph ordered b ∙ subst (λ c. is_old g (object_at graph c) ≡ true) place.2 (old_there g place.0 (sym (these.these place.0) ∙ place.1)))

    once_births : IsDistinct eqb (births_of g graph)
    once_births = IsDistinct-keys_filter eqb (λ e. e.1.generation == g) graph (distinct_births graph ordered)

    once_places : IsDistinct eqb (map (birth_in f) places)
    once_places = distinct-map (IsPlace f) (birth_in f) (places_apart f closed) places are_places these.once

    pub counted_objects : length (of_generation g graph) ≡ length places
    counted_objects =
        sym (length-map (of_generation g graph) (λ e. e.0))
        ∙ length-from_same_keys nat_eq_equiv (births_of g graph) (map (birth_in f) places) once_births once_places (λ q. sym (flipped (births_of g graph) q) ∙ same_births q ∙ flipped (map (birth_in f) places) q)
        ∙ length-map places (birth_in f)

    pub counted_words : words_of (of_generation g graph) ≡ sum_by (λ a. words_in (f a)) places
    counted_words =
        words-births_of g graph ordered
        ∙ sum-same (λ b. words_found (object_at graph b)) (births_of g graph) (map (birth_in f) places) once_births once_places same_births
        ∙ sum-map (birth_in f) (λ a. words_in (f a)) (λ b. words_found (object_at graph b)) places (each_place places are_places)
      where
        each_place : (xs : List ℕ) → AllByRecursion (IsPlace f) xs → AllByRecursion (λ a. words_found (object_at graph (birth_in f a)) ≡ words_in (f a)) xs
        each_place [] h = tt
        each_place (x ∷ xs) h = (words_there x h.0, each_place xs h.1)
