-- What is printed of an object of the heap is what is printed of it in the graph.
use Rattle.std.proofs.Common.{◌≡◌, ℕ, pos, Bool, List, [], ◌∷◌, map, fold, Option, Some, IsTrue, true, false, refl, sym, ap, subst, ◌∙◌}
use Rattle.std.specs.List.{AllByRecursion}
use Rattle.trace_types.specs.declared.kind.Kind.{Kind}
use Rattle.trace_types.specs.declared.kind.Kind.TheVariants as kind
use Rattle.std.proofs.lemmas.Bool.{false≢true}
use Rattle.trace_types.specs.Values.{objects_in, Object, Graph, is_guardian, has_bytes, fixnum}
use Rattle.trace_types.specs.Printing.{contents, contents_at, with_number, numbered_at}
use Rattle.segment.specs.Segments.{Start}
use Rattle.heap_store.specs.Starts.{Starts, is_object, read_word, object_of, IsWordThere, IsLaidOut, IsClosed, bytes_of}
use Rattle.heap_store.specs.Queues.{Queue, HasQueue, AreCells}
use Rattle.heap_store.specs.Graphs.{IsInGraph}
use Rattle.heap_print.specs.Words.{word_value, birth_at, IsReference, first_of, shown_words, with_words}
use Rattle.heap_print.proofs.Renamed.{numbers-map}
use Rattle.heap_print.proofs.Reading.{read_words-renamed, objects_in-renamed, references_apart, IsNamed, named_word, named_objects}

-- ---- queues

cells_read : (f : Starts) (thread generation : ℕ) (cells : List ℕ) (queue : Queue) → AreCells f thread generation cells queue →
    map (λ entry. entry.0) queue ≡ map (read_word f) (map (λ c. first_of (f c)) cells)
cells_read f thread generation [] [] h = refl
cells_read f thread generation [] (entry ∷ queue) h = absurd h
cells_read f thread generation (c ∷ cells) [] h = absurd h
cells_read f thread generation (c ∷ cells) (entry ∷ queue) h =
    rw (h.0.here, cells_read f thread generation cells queue h.1) (ap (λ v. v ∷ map (read_word f) (map (λ d. first_of (f d)) cells)) (sym h.0.value))

cells_there : (f : Starts) (thread generation : ℕ) (cells : List ℕ) (queue : Queue) → AreCells f thread generation cells queue →
    AllByRecursion (IsWordThere f) (map (λ c. first_of (f c)) cells)
cells_there f thread generation [] queue h = tt
cells_there f thread generation (c ∷ cells) [] h = absurd h
cells_there f thread generation (c ∷ cells) (entry ∷ queue) h =
    (subst (λ o. IsWordThere f (first_of o)) (sym h.0.here) h.0.there, cells_there f thread generation cells queue h.1)

-- ---- contents

bytes_name_nothing : (bytes : List ℕ) → objects_in (map (λ b. fixnum (pos b)) bytes) ≡ []
bytes_name_nothing [] = refl
bytes_name_nothing (b ∷ bytes) = bytes_name_nothing bytes

-- a byte object is no guardian
pub no_guardian : (k : Kind) → has_bytes k ≡ true → is_guardian k ≡ false
no_guardian kind.Bytes e = refl
no_guardian kind.ImmBytes e = refl
no_guardian kind.Pair e = refl
no_guardian kind.Weak e = refl
no_guardian kind.Eph e = refl
no_guardian kind.Boxed e = refl
no_guardian kind.Vector e = refl
no_guardian kind.ImmVector e = refl
no_guardian kind.Cell e = refl
no_guardian kind.Guard e = absurd (false≢true e)
no_guardian kind.OrderedGuard e = absurd (false≢true e)

-- the values that are printed of an object without bytes, read from its words
pub contents_read : (f : Starts) (a : ℕ) (x : Start) (cells : List ℕ) (queue : Queue) → HasQueue f a x cells queue → has_bytes x.kind ≡ false →
    contents (object_of f a x queue) ≡ map (read_word f) (shown_words f x cells)
contents_read f a x cells queue h no_bytes = by (is_guardian x.kind) refl
  where
    by : (guardian : Bool) → is_guardian x.kind ≡ guardian → contents (object_of f a x queue) ≡ map (read_word f) (shown_words f x cells)
    by true e = rw (no_bytes, e) (cells_read f _ x.generation cells queue h.are_cells)
    by false e = rw (no_bytes, e) refl

-- the objects among what is printed of it
pub contents_named : (f : Starts) (a : ℕ) (x : Start) (cells : List ℕ) (queue : Queue) → HasQueue f a x cells queue → IsTrue (is_object (Some x)) →
    objects_in (contents (object_of f a x queue)) ≡ map (birth_at f) (objects_in (map word_value (shown_words f x cells)))
contents_named f a x cells queue h object = by (has_bytes x.kind) refl
  where
    values_case : has_bytes x.kind ≡ false → objects_in (contents (object_of f a x queue)) ≡ map (birth_at f) (objects_in (map word_value (shown_words f x cells)))
    values_case e =
        ap objects_in (contents_read f a x cells queue h e ∙ read_words-renamed f (shown_words f x cells))
        ∙ objects_in-renamed (birth_at f) (map word_value (shown_words f x cells))

    by : (bytes : Bool) → has_bytes x.kind ≡ bytes → objects_in (contents (object_of f a x queue)) ≡ map (birth_at f) (objects_in (map word_value (shown_words f x cells)))
    by true e = rw (e, no_guardian x.kind e) (bytes_name_nothing (bytes_of x.words x.length))
    by false e = values_case e

-- what these words name is there
pub shown_there : (f : Starts) (a : ℕ) (x : Start) (cells : List ℕ) (queue : Queue) → IsLaidOut f x → HasQueue f a x cells queue → IsTrue (is_object (Some x)) →
    AllByRecursion (IsWordThere f) (shown_words f x cells)
shown_there f a x cells queue laid h object = by (has_bytes x.kind) (is_guardian x.kind) refl refl
  where
    by : (bytes guardian : Bool) → has_bytes x.kind ≡ bytes → is_guardian x.kind ≡ guardian → AllByRecursion (IsWordThere f) (shown_words f x cells)
    by true guardian e d = rw e tt
    by false true e d = rw (e, d) (cells_there f _ x.generation cells queue h.are_cells)
    by false false e d = rw (e, d) (laid.values (rw (e, d) object))

words_named : (f : Starts) (ws : List ℕ) → AllByRecursion (IsWordThere f) ws → AllByRecursion (IsNamed f) (map word_value ws)
words_named f [] h = tt
words_named f (w ∷ ws) h = (named_word f w h.0, words_named f ws h.1)

pub words_refer : (f : Starts) (ws : List ℕ) → AllByRecursion (IsWordThere f) ws → AllByRecursion (IsReference f) (objects_in (map word_value ws))
words_refer f ws h = named_objects f (map word_value ws) (words_named f ws h)

-- ---- numbers

-- Going through an object in the heap gives the numbers that going through it in the graph gives.
pub went_through : (f : Starts) (graph : Graph) (a : ℕ) (x : Start) (g : IsInGraph f graph a x) → IsClosed f → f a ≡ Some x → IsTrue (is_object (Some x)) →
    (numbers : List ℕ) → AllByRecursion (IsReference f) numbers →
    numbered_at graph (Some x.birth) (map (birth_at f) numbers) ≡ map (birth_at f) (with_words numbers (shown_words f x g.cells))
went_through f graph a x g closed here object numbers all =
    let named = objects_in (map word_value (shown_words f x g.cells)) in
    let there = words_refer f (shown_words f x g.cells) (shown_there f a x g.cells g.queue (closed.laid_out a x here) g.has_queue object) in
    ap (λ (o : Option Object). fold with_number (map (birth_at f) numbers) (objects_in (contents_at o))) g.found
    ∙ ap (λ (xs : List ℕ). fold with_number (map (birth_at f) numbers) xs) (contents_named f a x g.cells g.queue g.has_queue object)
    ∙ numbers-map (IsReference f) (birth_at f) (references_apart f closed) named numbers all there
