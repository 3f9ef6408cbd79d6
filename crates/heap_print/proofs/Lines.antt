-- The line of an object of the heap is its line in the graph.
use Rattle.std.proofs.Common.{◌≡◌, ℕ, pos, decimal, codes, cond, Bool, List, [], ◌∷◌, ◌++◌, map, flat_map, Some, IsTrue, true, false, refl, sym, ap, ◌∙◌}
use Rattle.std.specs.List.{AllByRecursion}
use Rattle.trace_types.specs.declared.kind.Kind.{Kind}
use Rattle.trace_types.specs.Words.{kind_word}
use Rattle.trace_types.specs.Values as values
use Rattle.trace_types.specs.Values.{Object, is_guardian, has_bytes}
use Rattle.trace_types.specs.Printing.{contents, content_text, number_of, generation_word, object_line}
use Rattle.gc_words.specs.Layout.{thread_of}
use Rattle.segment.specs.Segments.{Start}
use Rattle.heap_store.specs.Starts.{Starts, is_object, read_word, object_of, IsWordThere, IsClosed, bytes_of}
use Rattle.heap_store.specs.Graphs.{IsInGraph}
use Rattle.heap_print.specs.Words.{word_value, birth_at, renamed, IsReference, shown_words}
use Rattle.heap_print.specs.Lines.{word_text, spaced_byte, shown_text, line_text}
use Rattle.heap_print.proofs.Reading.{read_words-renamed, value_text-renamed, named_word}
use Rattle.heap_print.proofs.Printed.{contents_read, shown_there, no_guardian}

bytes_text : (numbers bytes : List ℕ) (k : Kind) → has_bytes k ≡ true →
    flat_map (content_text numbers k) (map (λ b. values.fixnum (pos b)) bytes) ≡ flat_map spaced_byte bytes
bytes_text numbers [] k e = refl
bytes_text numbers (b ∷ bytes) k e = rw (e, bytes_text numbers bytes k e) refl

words_text : (f : Starts) → IsClosed f → (numbers : List ℕ) → AllByRecursion (IsReference f) numbers → (k : Kind) → has_bytes k ≡ false →
    (ws : List ℕ) → AllByRecursion (IsWordThere f) ws →
    flat_map (content_text (map (birth_at f) numbers) k) (map (renamed (birth_at f)) (map word_value ws)) ≡ flat_map (word_text numbers) ws
words_text f closed numbers all k e [] h = refl
words_text f closed numbers all k e (w ∷ ws) h =
    rw (e, value_text-renamed f closed numbers all (word_value w) (named_word f w h.0), words_text f closed numbers all k e ws h.1) refl

text_shown : (f : Starts) (a : ℕ) (x : Start) → IsClosed f → (cells : List ℕ) (queue : List (values.Value × ℕ)) →
    (numbers : List ℕ) → AllByRecursion (IsReference f) numbers → AllByRecursion (IsWordThere f) (shown_words f x cells) →
    (has_bytes x.kind ≡ false → contents (object_of f a x queue) ≡ map (read_word f) (shown_words f x cells)) →
    flat_map (content_text (map (birth_at f) numbers) x.kind) (contents (object_of f a x queue)) ≡ shown_text f numbers x cells
text_shown f a x closed cells queue numbers all there read = by (has_bytes x.kind) refl
  where
    by : (bytes : Bool) → has_bytes x.kind ≡ bytes → flat_map (content_text (map (birth_at f) numbers) x.kind) (contents (object_of f a x queue)) ≡ shown_text f numbers x cells
    by true e =
        let bytes = bytes_of x.words x.length in
        let fields : contents (object_of f a x queue) ≡ map (λ b. values.fixnum (pos b)) bytes = rw (no_guardian x.kind e, e) refl in
        ap (flat_map (content_text (map (birth_at f) numbers) x.kind)) fields
        ∙ bytes_text (map (birth_at f) numbers) bytes x.kind e
        ∙ ap (λ b. cond b (flat_map spaced_byte bytes) (flat_map (word_text numbers) (shown_words f x cells))) (sym e)
    by false e =
        ap (flat_map (content_text (map (birth_at f) numbers) x.kind)) (read e ∙ read_words-renamed f (shown_words f x cells))
        ∙ words_text f closed numbers all x.kind e (shown_words f x cells) there
        ∙ ap (λ b. cond b (flat_map spaced_byte (bytes_of x.words x.length)) (flat_map (word_text numbers) (shown_words f x cells))) (sym e)

pub line_shown : (f : Starts) (graph : values.Graph) (a : ℕ) (x : Start) (g : IsInGraph f graph a x) → IsClosed f → f a ≡ Some x → IsTrue (is_object (Some x)) →
    (numbers : List ℕ) → AllByRecursion (IsReference f) numbers → (number : ℕ) → number_of (map (birth_at f) numbers) x.birth ≡ number →
    object_line (map (birth_at f) numbers) x.birth (Some (object_of f a x g.queue)) ≡ line_text f numbers number a x g.cells
line_shown f graph a x g closed here object numbers all number is =
    let there = shown_there f a x g.cells g.queue (closed.laid_out a x here) g.has_queue object in
    let shown = text_shown f a x closed g.cells g.queue numbers all there (contents_read f a x g.cells g.queue g.has_queue) in
    let line : ℕ → List ℕ → List ℕ = λ n text.
    codes "#" ++ decimal n ++ codes " " ++ kind_word x.kind ++ codes " g" ++ generation_word x.generation ++ codes " t" ++ decimal (thread_of a) ++ text ++ 10 ∷ [] in
    ap (λ n. line n (flat_map (content_text (map (birth_at f) numbers) x.kind) (contents (object_of f a x g.queue)))) is
    ∙ ap (line number) shown
