-- A print over the heap, with words in place of births, is the print of the graph.
use Rattle.std.proofs.Common.{◌≡◌, ℕ, ◌/◌, decimal, codes, List, [], ◌∷◌, ◌++◌, map, Option, Some, None, IsTrue, refl, sym, ap, subst, ◌∙◌, arith}
use Rattle.std.specs.List.{AllByRecursion}
use Rattle.trace_types.specs.Values as values
use Rattle.trace_types.specs.Values.{objects_in}
use Rattle.trace_types.specs.Printing.{value_text}
use Rattle.gc_words.specs.declared.value.Value.{Value}
use Rattle.gc_words.specs.declared.value.Value.TheVariants.{Fixnum, Nil, True, False, Bwp, Object}
use Rattle.gc_words.specs.Word.{value_of}
use Rattle.gc_words.proofs.WordLaws.{word_of-object}
use Rattle.segment.specs.Segments.{Start}
use Rattle.heap_store.specs.Starts.{Starts, birth_of, is_object, read, read_option, read_word, IsThere, IsThereOption, IsWordThere, IsClosed}
use Rattle.heap_print.specs.Words.{reference, by_word, by_word_option, word_value, birth_at, renamed, IsReference}
use Rattle.heap_print.proofs.Renamed.{AreApart, number_of-map}

pub place_of_reference : (a : ℕ) → reference a / 8 ≡ a
place_of_reference a = omega arith

pub read-renamed : (f : Starts) (v : Value) → read f v ≡ renamed (birth_at f) (by_word v)
read-renamed f (Fixnum n) = refl
read-renamed f Nil = refl
read-renamed f True = refl
read-renamed f False = refl
read-renamed f Bwp = refl
read-renamed f (Object a) = ap (λ b. values.object (birth_of (f b))) (sym (place_of_reference a))

read_option-renamed : (f : Starts) (o : Option Value) → read_option f o ≡ renamed (birth_at f) (by_word_option o)
read_option-renamed f None = refl
read_option-renamed f (Some v) = read-renamed f v

pub read_words-renamed : (f : Starts) (ws : List ℕ) → map (read_word f) ws ≡ map (renamed (birth_at f)) (map word_value ws)
read_words-renamed f [] = refl
read_words-renamed f (w ∷ ws) = rw (read_option-renamed f (value_of w), read_words-renamed f ws) refl

pub objects_in-renamed : (name : ℕ → ℕ) (vs : List values.Value) → objects_in (map (renamed name) vs) ≡ map name (objects_in vs)
objects_in-renamed name [] = refl
objects_in-renamed name (values.fixnum n ∷ vs) = objects_in-renamed name vs
objects_in-renamed name (values.nil ∷ vs) = objects_in-renamed name vs
objects_in-renamed name (values.true_value ∷ vs) = objects_in-renamed name vs
objects_in-renamed name (values.false_value ∷ vs) = objects_in-renamed name vs
objects_in-renamed name (values.bwp ∷ vs) = objects_in-renamed name vs
objects_in-renamed name (values.object x ∷ vs) = ap (λ (xs : List ℕ). name x ∷ xs) (objects_in-renamed name vs)

-- one birth, one reference
pub references_apart : (f : Starts) → IsClosed f → AreApart (IsReference f) (birth_at f)
references_apart f closed w u p q same = by (f (w / 8)) (f (u / 8)) refl refl p.there q.there same
  where
    by : (x y : Option Start) → f (w / 8) ≡ x → f (u / 8) ≡ y → IsTrue (is_object x) → IsTrue (is_object y) → birth_of x ≡ birth_of y → w ≡ u
    by None y e d hx hy b = cc
    by (Some x) None e d hx hy b = cc
    by (Some x) (Some y) e d hx hy b = p.form ∙ ap reference (closed.single (w / 8) (u / 8) x y e d b) ∙ sym q.form

-- the object that a value is, where it is one, is there
abbrev pub IsNamed : Starts → values.Value → Type 0
IsNamed f (values.object w) = IsReference f w
IsNamed f _ = Unit {0}

pub value_text-renamed : (f : Starts) → IsClosed f → (numbers : List ℕ) → AllByRecursion (IsReference f) numbers → (v : values.Value) → IsNamed f v →
    value_text (map (birth_at f) numbers) (renamed (birth_at f) v) ≡ value_text numbers v
value_text-renamed f closed numbers all (values.fixnum n) h = refl
value_text-renamed f closed numbers all values.nil h = refl
value_text-renamed f closed numbers all values.true_value h = refl
value_text-renamed f closed numbers all values.false_value h = refl
value_text-renamed f closed numbers all values.bwp h = refl
value_text-renamed f closed numbers all (values.object w) h =
    ap (λ n. codes "#" ++ decimal n) (number_of-map (IsReference f) (birth_at f) (references_apart f closed) numbers w all h)

pub named_place : (f : Starts) (a : ℕ) → value_of (reference a) ≡ Some (Object a) → IsTrue (is_object (f a)) → IsReference f (reference a)
named_place f a round h = record {
  form = ap reference (sym (place_of_reference a));
  value = round ∙ ap (λ b. Some (Object b)) (sym (place_of_reference a));
  there = subst (λ b. IsTrue (is_object (f b))) (sym (place_of_reference a)) h;
}

-- the value of a word
pub named_value : (f : Starts) (w : ℕ) (v : Value) → value_of w ≡ Some v → IsThere f v → IsNamed f (by_word v)
named_value f w (Fixnum n) e h = tt
named_value f w Nil e h = tt
named_value f w True e h = tt
named_value f w False e h = tt
named_value f w Bwp e h = tt
named_value f w (Object a) e h = named_place f a (ap value_of (word_of-object w a e) ∙ e) h

pub named_word : (f : Starts) (w : ℕ) → IsWordThere f w → IsNamed f (word_value w)
named_word f w h = by (value_of w) refl h
  where
    by : (o : Option Value) → value_of w ≡ o → IsThereOption f o → IsNamed f (by_word_option o)
    by None e h = absurd h
    by (Some v) e h = named_value f w v e h

-- what values name is there
pub named_objects : (f : Starts) (vs : List values.Value) → AllByRecursion (IsNamed f) vs → AllByRecursion (IsReference f) (objects_in vs)
named_objects f [] h = tt
named_objects f (values.fixnum n ∷ vs) h = named_objects f vs h.1
named_objects f (values.nil ∷ vs) h = named_objects f vs h.1
named_objects f (values.true_value ∷ vs) h = named_objects f vs h.1
named_objects f (values.false_value ∷ vs) h = named_objects f vs h.1
named_objects f (values.bwp ∷ vs) h = named_objects f vs h.1
named_objects f (values.object x ∷ vs) h = (h.0, named_objects f vs h.1)
