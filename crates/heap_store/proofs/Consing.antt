-- What a new object makes of the state, by command.
use Rattle.std.proofs.Common.{◌≡◌, ℕ, zero, suc, ◌==◌, ◌<◌, ◌≤◌, true, cond, pos, List, [], ◌∷◌, map, replicate, IsTrue, Some, Result, Ok, Err, OnOk, OnErr, refl, sym, ◌∙◌, ap, subst, arith}
use Rattle.std.specs.List.{AllByRecursion}
use Rattle.std.proofs.lemmas.Bool.{false≢true, le-leb, lt-leb}
use Rattle.std.proofs.lemmas.List.{length-replicate}
use Rattle.gc_words.specs.declared.value.Value.{Value}
use Rattle.gc_words.specs.Word.{value_of}
use Rattle.trace_types.specs.declared.kind.Kind.TheVariants as kind
use Rattle.trace_types.specs.declared.fault.Fault.TheVariants.{BadLength}
use Rattle.trace_types.specs.declared.operand.Operand.{Operand}
use Rattle.trace_types.specs.declared.command.Command.TheVariants.{Cons, MakeBox, Vector, Bytes}
use Rattle.trace_types.specs.Values as values
use Rattle.trace_types.specs.Values.{fixnum}
use Rattle.trace_types.specs.States as states
use Rattle.trace_types.specs.States.{State, Answer, silently, with_new}
use Rattle.trace_types.specs.Steps.{greatest_length, not_too_long, step}
use Rattle.trace_types.specs.WellFormed.{operand_fits}
use Rattle.segment.specs.Segments.{Start}
use Rattle.heap_store.specs.declared.error.HeapError.{HeapError}
use Rattle.heap_store.specs.declared.error.HeapError.TheVariants.{NoMemory}
use Rattle.heap_store.specs.Starts.{Starts, read, read_option, read_word, IsThere, IsThereOption, IsWordThere, fields_of, IsLaidOut}
use Rattle.heap_store.specs.Changes.{new_start}
use Rattle.heap_store.specs.Shapes.{packed}
use Rattle.heap_store.proofs.Packing.{packed_count, packed_padding, packed_all}
use Rattle.heap_store.specs.HeapView.{HeapView, starts_of}
use Rattle.heap_store.specs.Stands.{Stands}
use Rattle.heap_store.specs.Calls.{Obeys, IsValid, operand_value}
use Rattle.heap_store.proofs.Operands.{operand_there, operand_read}

-- what a call leaves that makes an object, where its step has no fault
pub makes : (h new : HeapView) (r : Result (Unit {0}) HeapError) (s : State) (answer : Answer) (line d : ℕ) (x : Start) (fields : List values.Value)
    → OnOk r ((s : State) → Stands h s → Stands new (with_new s line d x.kind (fields_of (starts_of h) x)))
    → OnErr r ((r ≡ Err NoMemory) × (new.failed ≡ true)) → answer ≡ silently (with_new s line d x.kind fields) → fields_of (starts_of h) x ≡ fields
    → Stands h s → Obeys s answer r new
makes h new (Ok u) s answer line d x fields stood refused is same stands =
    subst (λ q. Obeys s q (Ok u) new) (sym is) (subst (λ fs. Stands new (with_new s line d x.kind fs)) same (stood s stands))
makes h new (Err e) s answer line d x fields stood refused is same stands =
    subst (λ q. Obeys s q (Err e) new) (sym is) (subst (λ q. Obeys s (silently (with_new s line d x.kind fields)) q new) (sym refused.0) refused.1)

module _ (h : HeapView) (s : State) (stands : Stands h s) (o : Operand) (w : ℕ) (v : Value) (is : value_of w ≡ Some v) (same : v ≡ operand_value h.registers o) where
  -- the word of an operand reads as its value
  pub word_reads : read_word (starts_of h) w ≡ states.operand_value s o
  word_reads = ap (read_option (starts_of h)) is ∙ ap (read (starts_of h)) same ∙ sym (operand_read h s stands o)

  pub word_there : IsTrue (operand_fits o) → IsWordThere (starts_of h) w
  word_there fits = subst (IsThereOption (starts_of h)) (sym is) (subst (IsThere (starts_of h)) (sym same) (operand_there h s stands o fits))

-- ---- `cons`

pub conses : (h new : HeapView) (r : Result (Unit {0}) HeapError) (s : State) (line d : ℕ) (car cdr : Operand) (first second : ℕ) (a b : Value)
    → OnOk r ((s : State) → Stands h s → Stands new (with_new s line d kind.Pair (fields_of (starts_of h) (new_start kind.Pair 2 line (first ∷ second ∷ [])))))
    → OnErr r ((r ≡ Err NoMemory) × (new.failed ≡ true)) → value_of first ≡ Some a → value_of second ≡ Some b
    → a ≡ operand_value h.registers car → b ≡ operand_value h.registers cdr → Stands h s → Obeys s (step s line (Cons d car cdr)) r new
unfolding step
conses h new r s line d car cdr first second a b stood refused ea eb va vb stands =
    makes h new r s (silently (with_new s line d kind.Pair (states.operand_value s car ∷ states.operand_value s cdr ∷ []))) line d (new_start kind.Pair 2 line (first ∷ second ∷ [])) _ stood refused refl
    (λ i. word_reads h s stands car first a ea va i ∷ word_reads h s stands cdr second b eb vb i ∷ []) stands

-- ---- `box`

copies : {X Y : Type 0} (f : X → Y) (n : ℕ) (x : X) → map f (replicate n x) ≡ replicate n (f x)
copies f zero x = refl
copies f (suc n) x = ap (λ ys. f x ∷ ys) (copies f n x)

each_copy : {X : Type 0} (P : X → Type 0) (n : ℕ) (x : X) → P x → AllByRecursion P (replicate n x)
each_copy P zero x h = tt
each_copy P (suc n) x h = (h, each_copy P n x h)

pub boxes : (h new : HeapView) (r : Result (Unit {0}) HeapError) (s : State) (line d : ℕ) (value : Operand) (w : ℕ) (v : Value)
    → OnOk r ((s : State) → Stands h s → Stands new (with_new s line d kind.Boxed (fields_of (starts_of h) (new_start kind.Boxed 1 line (replicate 1 w)))))
    → OnErr r ((r ≡ Err NoMemory) × (new.failed ≡ true)) → value_of w ≡ Some v → v ≡ operand_value h.registers value → Stands h s → Obeys s (step s line (MakeBox d value)) r new
unfolding step
boxes h new r s line d value w v stood refused is same stands =
    makes h new r s (silently (with_new s line d kind.Boxed (states.operand_value s value ∷ []))) line d (new_start kind.Boxed 1 line (replicate 1 w)) _ stood refused refl
    (λ i. word_reads h s stands value w v is same i ∷ []) stands

-- ---- lengths

-- the limit of the heap's version is the limit of the state's
most : (h : HeapView) (s : State) (limit : ℕ) → limit ≡ cond (h.version == 2) 4000000 1000000 → Stands h s → limit ≡ greatest_length s
most h s limit is stands = is ∙ ap (λ v. cond (v == 2) 4000000 1000000) (sym stands.version)

short_enough : (s : State) (n limit : ℕ) (answer : Answer) → limit ≡ greatest_length s → n ≤ limit → not_too_long s n answer ≡ answer
short_enough s n limit answer is less = ap (λ b. cond b answer (Err BadLength)) (le-leb n (greatest_length s) (omega (arith, is, less)))

too_long : (s : State) (n limit : ℕ) (answer : Answer) → limit ≡ greatest_length s → limit < n → not_too_long s n answer ≡ Err BadLength
too_long s n limit answer is more = ap (λ b. cond b answer (Err BadLength)) (lt-leb n (greatest_length s) (omega (arith, is, more)))

faulty : (h : HeapView) (s : State) (answer : Answer) → answer ≡ Err BadLength → Stands h s → Obeys s answer (Err (HeapError.Fault BadLength)) h
faulty h s answer is stands = subst (λ a. Obeys s a (Err (HeapError.Fault BadLength)) h) (sym is) (refl, stands)

-- ---- `vec`

pub vectors : (h new : HeapView) (r : Result (Unit {0}) HeapError) (s : State) (line d n limit : ℕ) (value : Operand) (w : ℕ) (v : Value)
    → OnOk r ((s : State) → Stands h s → Stands new (with_new s line d kind.Vector (fields_of (starts_of h) (new_start kind.Vector n line (replicate n w)))))
    → OnErr r ((r ≡ Err NoMemory) × (new.failed ≡ true)) → limit ≡ cond (h.version == 2) 4000000 1000000 → n ≤ limit
    → value_of w ≡ Some v → v ≡ operand_value h.registers value → Stands h s → Obeys s (step s line (Vector d n value)) r new
unfolding step
vectors h new r s line d n limit value w v stood refused version less is same stands =
    makes h new r s _ line d (new_start kind.Vector n line (replicate n w)) _ stood refused (short_enough s n limit _ (most h s limit version stands) less)
    (copies (read_word (starts_of h)) n w ∙ ap (replicate n) (word_reads h s stands value w v is same)) stands

pub vector_too_long : (h : HeapView) (s : State) (line d n limit : ℕ) (value : Operand) → limit ≡ cond (h.version == 2) 4000000 1000000 → limit < n → Stands h s
    → Obeys s (step s line (Vector d n value)) (Err (HeapError.Fault BadLength)) h
unfolding step
vector_too_long h s line d n limit value version more stands = faulty h s _ (too_long s n limit _ (most h s limit version stands) more) stands

-- a vector of a word that is there
pub vector_laid_out : (h : HeapView) (valid : IsValid h) (line n : ℕ) (value : Operand) (w : ℕ) (v : Value) → n ≤ 4000000 → value_of w ≡ Some v → v ≡ operand_value h.registers value → IsTrue (operand_fits value)
    → IsLaidOut (starts_of h) (new_start kind.Vector n line (replicate n w))
vector_laid_out h valid line n value w v less is same fits = record {
  sized = less;
  words = length-replicate n w;
  values = λ _. each_copy (IsWordThere (starts_of h)) n w (word_there h valid.state valid.stands value w v is same fits);
  padding = λ none. absurd (false≢true none);
}

-- ---- `bytes`

pub byte_objects : (h new : HeapView) (r : Result (Unit {0}) HeapError) (s : State) (line d n limit byte : ℕ)
    → OnOk r ((s : State) → Stands h s → Stands new (with_new s line d kind.Bytes (fields_of (starts_of h) (new_start kind.Bytes n line (packed byte n)))))
    → OnErr r ((r ≡ Err NoMemory) × (new.failed ≡ true)) → limit ≡ cond (h.version == 2) 4000000 1000000 → n ≤ limit → byte < 256 → Stands h s → Obeys s (step s line (Bytes d n byte)) r new
unfolding step
byte_objects h new r s line d n limit byte stood refused version less small stands =
    makes h new r s _ line d (new_start kind.Bytes n line (packed byte n)) _ stood refused (short_enough s n limit _ (most h s limit version stands) less)
    (ap (map (λ b. fixnum (pos b))) (packed_all byte n small) ∙ copies (λ b. fixnum (pos b)) n byte) stands

pub bytes_too_long : (h : HeapView) (s : State) (line d n limit byte : ℕ) → limit ≡ cond (h.version == 2) 4000000 1000000 → limit < n → Stands h s
    → Obeys s (step s line (Bytes d n byte)) (Err (HeapError.Fault BadLength)) h
unfolding step
bytes_too_long h s line d n limit byte version more stands = faulty h s _ (too_long s n limit _ (most h s limit version stands) more) stands

pub bytes_laid_out : (f : Starts) (line n byte : ℕ) → n ≤ 4000000 → byte < 256 → IsLaidOut f (new_start kind.Bytes n line (packed byte n))
bytes_laid_out f line n byte less small = record {
  sized = less;
  words = packed_count byte n small;
  values = λ none. absurd (false≢true none);
  padding = λ _. packed_padding byte n small;
}
