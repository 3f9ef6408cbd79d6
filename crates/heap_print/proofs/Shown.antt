-- Words that are shown one after the other.
use Rattle.std.proofs.Common.{◌≡◌, ◌<◌, ℕ, ◌+◌, cond, true, false, List, [], ◌∷◌, ◌++◌, map, fold, flat_map, take, get_or, length, append-nil, append_assoc, refl, sym, ap, ◌∙◌, arith}
use Rattle.std.proofs.lemmas.List.{map-append, take_more, take_all, take-append-le}
use Rattle.std.proofs.lemmas.Grind.{flat_map-append, fold-append}
use Rattle.trace_types.specs.Values.{object_in, objects_in}
use Rattle.trace_types.specs.Rules.{has}
use Rattle.trace_types.specs.Printing.{with_number}
use Rattle.heap_print.specs.Words.{word_value, with_words}
use Rattle.heap_print.specs.Lines.{word_text, AreShown, GoesOn}

-- numbers that are given come behind those that there are
pub grown : (xs numbers : List ℕ) → (more : List ℕ) × (fold with_number numbers xs ≡ numbers ++ more)
grown [] numbers = ([], sym (append-nil numbers))
grown (x ∷ xs) numbers =
    let rest = grown xs (with_number numbers x) in
    let one : (more : List ℕ) × (with_number numbers x ≡ numbers ++ more) =
    elim (has numbers x) as (λ b. (more : List ℕ) × (cond b numbers (numbers ++ x ∷ []) ≡ numbers ++ more)) [
      | true ↦ ([], sym (append-nil numbers))
      | false ↦ (x ∷ [], refl)
    ] in
    (one.0 ++ rest.0, rest.1 ∙ ap (λ (ns : List ℕ). ns ++ rest.0) one.1 ∙ append_assoc numbers one.0 rest.0)

pub with_words-append : (numbers xs ys : List ℕ) → with_words numbers (xs ++ ys) ≡ with_words (with_words numbers xs) ys
with_words-append numbers xs ys =
    ap (λ vs. fold with_number numbers (objects_in vs)) (map-append word_value xs ys)
    ∙ ap (fold with_number numbers) (flat_map-append object_in (map word_value xs) (map word_value ys))
    ∙ fold-append with_number numbers (objects_in (map word_value xs)) (objects_in (map word_value ys))

pub shown_none : (numbers text : List ℕ) → AreShown numbers numbers [] text text
shown_none numbers text = record { numbers = refl; text = λ more. sym (append-nil text) }

pub shown_on : (a b c xs ys s t u : List ℕ) → AreShown a b xs s t → AreShown b c ys t u → AreShown a c (xs ++ ys) s u
shown_on a b c xs ys s t u one two = record {
  numbers = two.numbers ∙ ap (λ ns. with_words ns ys) one.numbers ∙ sym (with_words-append a xs ys);
  text = λ more.
      let new = grown (objects_in (map word_value ys)) b in
      let behind : b ++ (new.0 ++ more) ≡ c ++ more = sym (append_assoc b new.0 more) ∙ ap (λ (ns : List ℕ). ns ++ more) (sym (two.numbers ∙ new.1)) in
      two.text more
      ∙ ap (λ (p : List ℕ). p ++ flat_map (word_text (c ++ more)) ys) (one.text (new.0 ++ more))
      ∙ append_assoc s (flat_map (word_text (b ++ (new.0 ++ more))) xs) (flat_map (word_text (c ++ more)) ys)
      ∙ ap (λ ns. s ++ (flat_map (word_text ns) xs ++ flat_map (word_text (c ++ more)) ys)) behind
      ∙ ap (λ (p : List ℕ). s ++ p) (sym (flat_map-append (word_text (c ++ more)) xs ys));
}

-- one word more of a list
pub shown_more : (a b c ws : List ℕ) (i w : ℕ) (s t u : List ℕ) → i < length ws → w ≡ get_or ws i 0 →
    AreShown a b (take i ws) s t → AreShown b c (w ∷ []) t u → AreShown a c (take (i + 1) ws) s u
shown_more a b c ws i w s t u within is before one =
    let more : take (i + 1) ws ≡ take i ws ++ w ∷ [] = take_more ws i 0 within ∙ ap (λ z. take i ws ++ z ∷ []) (sym is) in
    rw more (shown_on a b c (take i ws) (w ∷ []) s t u before one)

-- ---- texts that go on

pub goes_none : (xs : List ℕ) → GoesOn xs xs
goes_none xs = ([], sym (append-nil xs))

pub goes_further : (xs ys zs : List ℕ) → GoesOn xs ys → GoesOn ys zs → GoesOn xs zs
goes_further xs ys zs h k = (h.0 ++ k.0, k.1 ∙ ap (λ (s : List ℕ). s ++ k.0) h.1 ∙ append_assoc xs h.0 k.0)

pub goes_back : (xs ys : List ℕ) → GoesOn xs ys → take (length xs) ys ≡ xs
goes_back xs ys h = ap (take (length xs)) h.1 ∙ take-append-le (length xs) xs h.0 (omega arith) ∙ take_all (length xs) xs (omega arith)

-- three pieces one after the other
pub three_pieces : (old a b c s t u : List ℕ) → s ≡ old ++ a → t ≡ s ++ b → u ≡ t ++ c → u ≡ old ++ ((a ++ b) ++ c)
three_pieces old a b c s t u one two three =
    three ∙ ap (λ (p : List ℕ). p ++ c) (two ∙ ap (λ (p : List ℕ). p ++ b) one ∙ append_assoc old a b) ∙ append_assoc old (a ++ b) c
