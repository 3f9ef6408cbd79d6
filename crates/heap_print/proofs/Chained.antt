-- The cells of a queue are as many as their places at most, since each stands once in its chain.
use Rattle.std.proofs.Common.{◌≡◌, ◌≤◌, ◌<◌, inl, inr, ◌||◌, ℕ, ◌+◌, eqb, Bool, true, false, List, [], ◌∷◌, ◌++◌, map, length, Some, refl, sym, ap, subst, ◌∙◌, arith, slice_index, append-nil}
use Rattle.std.specs.List.{AllByRecursion, IsDistinct, list_any}
use Rattle.std.proofs.lemmas.List.{map-append, length-append}
use Rattle.std.proofs.Math.Seq.{append_snoc}
use Rattle.std.proofs.lemmas.Bool.{false≢true, eqb-true, or_cases}
use Rattle.std.proofs.lemmas.Cmp.{nat_eq_equiv}
use Rattle.std.proofs.lemmas.Map.Steps.{length-le_from_distinct_below}
use Rattle.trace_types.specs.Rules.{has}
use Rattle.gc_words.specs.declared.value.Value.TheVariants.{Nil, Object}
use Rattle.gc_words.specs.Layout.{IsAddress}
use Rattle.gc_words.specs.Word.{value_of}
use Rattle.heap_store.specs.Starts.{Starts}
use Rattle.heap_store.specs.Queues.{nil_word}
use Rattle.territory.specs.Territories.{words_of as words_at}
use Rattle.heap_print.specs.Words.{first_of}
use Rattle.heap_print.specs.Chains.{IsChain}

no_nil : (w c : ℕ) → w ≡ nil_word → value_of w ≡ Some (Object c) → ⊥
unfolding value_of
no_nil w c e h = let bad : Some Nil ≡ Some (Object c) = ap value_of (sym e) ∙ h in cc

same_cell : (w x y : ℕ) → value_of w ≡ Some (Object x) → value_of w ≡ Some (Object y) → x ≡ y
same_cell w x y h k = let both : Some (Object x) ≡ Some (Object y) = sym h ∙ k in cc

-- a word has one chain
pub one_chain : (f : Starts) (w : ℕ) (xs ys : List ℕ) → IsChain f w xs → IsChain f w ys → xs ≡ ys
one_chain f w [] [] h k = refl
one_chain f w [] (y ∷ ys) h k = absurd (no_nil w y h k.0)
one_chain f w (x ∷ xs) [] h k = absurd (no_nil w x k h.0)
one_chain f w (x ∷ xs) (y ∷ ys) h k =
    let same : x ≡ y = same_cell w x y h.0 k.0 in
    let rest : xs ≡ ys = one_chain f (slice_index (words_at (f x)) 1) xs ys h.2 (subst (λ z. IsChain f (slice_index (words_at (f z)) 1) ys) (sym same) k.2) in
    ap (λ z. z ∷ xs) same ∙ ap (λ zs. y ∷ zs) rest

-- what follows a cell in a chain is shorter, and is a chain
onward : (f : Starts) (w : ℕ) (xs : List ℕ) (c : ℕ) → IsChain f w xs → has xs c ≡ true →
    (ys : List ℕ) × (length ys < length xs) × IsChain f (slice_index (words_at (f c)) 1) ys
onward f w [] c h there = absurd (false≢true there)
onward f w (x ∷ xs) c h there = elim (or_cases (eqb x c) (has xs c) there) [
  | inl e ↦ (xs, omega arith, subst (λ z. IsChain f (slice_index (words_at (f z)) 1) xs) (eqb-true x c e) h.2)
  | inr e ↦ let rest = onward f (slice_index (words_at (f x)) 1) xs c h.2 e in (rest.0, omega (arith, rest.1), rest.2)
]

or_both : (a b : Bool) → (a || b) ≡ false → (a ≡ false) × (b ≡ false)
or_both true b e = absurd (false≢true (sym e))
or_both false b e = (refl, e)

-- no cell comes twice
pub cells_once : (f : Starts) (w : ℕ) (xs : List ℕ) → IsChain f w xs → IsDistinct eqb xs
unfolding IsDistinct
cells_once f w [] h = tt
cells_once f w (x ∷ xs) h = (others xs (elsewhere (has xs x) refl), cells_once f (slice_index (words_at (f x)) 1) xs h.2)
  where
    elsewhere : (b : Bool) → has xs x ≡ b → has xs x ≡ false
    elsewhere false e = e
    elsewhere true e =
        let rest = onward f (slice_index (words_at (f x)) 1) xs x h.2 e in
        let same : xs ≡ rest.0 = one_chain f (slice_index (words_at (f x)) 1) xs rest.0 h.2 rest.2 in
        absurd (omega (arith, rest.1, ap length same))

    others : (ys : List ℕ) → has ys x ≡ false → AllByRecursion (λ y. eqb x y ≡ false) ys
    others [] e = tt
    others (y ∷ ys) e = (nat_eq_equiv.symm x y ∙ (or_both (eqb y x) (has ys x) e).0, others ys (or_both (eqb y x) (has ys x) e).1)

-- ---- a walk along a chain

-- after some cells of a chain: those, the rest of the chain from the word on, and how many there were
pub record Walked (f : Starts) (cells : List ℕ) (next : ℕ) (words : List ℕ) (count : ℕ) : Type 0 where
  pub done : List ℕ
  pub rest : List ℕ
  pub whole : cells ≡ done ++ rest
  pub goes_on : IsChain f next rest
  pub seen : words ≡ map (λ c. first_of (f c)) done
  pub counted : length done ≡ count
  pub small : AllByRecursion (λ c. c < 2305843009213693952) done

pub walked_start : (f : Starts) (cells : List ℕ) (first : ℕ) → IsChain f first cells → Walked f cells first [] 0
walked_start f cells first h = record { done = []; rest = cells; whole = refl; goes_on = h; seen = refl; counted = refl; small = tt }

all_pushed : (P : ℕ → Type 0) (xs : List ℕ) (x : ℕ) → AllByRecursion P xs → P x → AllByRecursion P (xs ++ x ∷ [])
all_pushed P [] x all px = (px, tt)
all_pushed P (y ∷ xs) x all px = (all.0, all_pushed P xs x all.1 px)

-- the next cell has its two words
pub cell_there : (f : Starts) (cells : List ℕ) (next c : ℕ) (words : List ℕ) (count : ℕ) → Walked f cells next words count → value_of next ≡ Some (Object c) →
    length (words_at (f c)) ≡ 2
cell_there f cells next c words count w h = by w.rest w.goes_on
  where
    by : (rest : List ℕ) → IsChain f next rest → length (words_at (f c)) ≡ 2
    by [] k = absurd (no_nil next c k h)
    by (d ∷ rest) k = subst (λ e. length (words_at (f e)) ≡ 2) (same_cell next d c k.0 h) k.1

pub walked_on : (f : Starts) (cells : List ℕ) (next c : ℕ) (words : List ℕ) (count : ℕ) → Walked f cells next words count → value_of next ≡ Some (Object c) → c < 2305843009213693952 →
    Walked f cells (slice_index (words_at (f c)) 1) (words ++ slice_index (words_at (f c)) 0 ∷ []) (count + 1)
walked_on f cells next c words count w h small = by w.rest w.whole w.goes_on
  where
    by : (rest : List ℕ) → cells ≡ w.done ++ rest → IsChain f next rest → Walked f cells (slice_index (words_at (f c)) 1) (words ++ slice_index (words_at (f c)) 0 ∷ []) (count + 1)
    by [] e k = absurd (no_nil next c k h)
    by (d ∷ rest) e k =
        let same : d ≡ c = same_cell next d c k.0 h in
        record {
          done = w.done ++ c ∷ [];
          rest = rest;
          whole = e ∙ ap (λ x. w.done ++ x ∷ rest) same ∙ sym (append_snoc w.done c rest);
          goes_on = subst (λ x. IsChain f (slice_index (words_at (f x)) 1) rest) same k.2;
          seen = ap (λ (xs : List ℕ). xs ++ slice_index (words_at (f c)) 0 ∷ []) w.seen ∙ sym (map-append (λ x. first_of (f x)) w.done (c ∷ []));
          counted = length-append w.done (c ∷ []) ∙ ap (λ n. n + 1) w.counted;
          small = all_pushed (λ x. x < 2305843009213693952) w.done c w.small small;
        }

pub walked_next : (f : Starts) (cells : List ℕ) (next c : ℕ) (words : List ℕ) (count : ℕ) → Walked f cells next words count → value_of next ≡ Some (Object c) → IsAddress c →
    (first second : ℕ) (more : List ℕ) → first ≡ slice_index (words_at (f c)) 0 → second ≡ slice_index (words_at (f c)) 1 → more ≡ words ++ first ∷ [] →
    Walked f cells second more (count + 1)
walked_next f cells next c words count w h valid first second more is_first is_second is_more =
    rw (is_second, is_more, is_first) (walked_on f cells next c words count w h valid.0)

-- where the word refers to nothing, the chain has ended
pub walked_end : (f : Starts) (cells : List ℕ) (next : ℕ) (words : List ℕ) (count : ℕ) → Walked f cells next words count → ((a : ℕ) → value_of next ≡ Some (Object a) → ⊥) →
    words ≡ map (λ c. first_of (f c)) cells
walked_end f cells next words count w none = by w.rest w.whole w.goes_on
  where
    by : (rest : List ℕ) → cells ≡ w.done ++ rest → IsChain f next rest → words ≡ map (λ c. first_of (f c)) cells
    by [] e k = w.seen ∙ ap (map (λ c. first_of (f c))) (sym (append-nil w.done) ∙ sym e)
    by (d ∷ rest) e k = absurd (none d k.0)

distinct_front : (xs ys : List ℕ) → IsDistinct eqb (xs ++ ys) → IsDistinct eqb xs
unfolding IsDistinct
distinct_front [] ys d = tt
distinct_front (x ∷ xs) ys d = (front xs d.0, distinct_front xs ys d.1)
  where
    front : (zs : List ℕ) → AllByRecursion (λ y. eqb x y ≡ false) (zs ++ ys) → AllByRecursion (λ y. eqb x y ≡ false) zs
    front [] h = tt
    front (z ∷ zs) h = (h.0, front zs h.1)

all_member : (P : ℕ → Type 0) (xs : List ℕ) → AllByRecursion P xs → (q : ℕ) → list_any (eqb q) xs ≡ true → P q
all_member P [] h q e = absurd (false≢true e)
all_member P (x ∷ xs) h q e = elim (or_cases (eqb q x) (list_any (eqb q) xs) e) [
  | inl same ↦ subst P (sym (eqb-true q x same)) h.0
  | inr rest ↦ all_member P xs h.1 q rest
]

-- no chain is so long
pub never_out : (f : Starts) (cells : List ℕ) (first next : ℕ) (words : List ℕ) (count : ℕ) → IsChain f first cells → Walked f cells next words count → 2305843009213693952 < count → ⊥
never_out f cells first next words count chain w many =
    let once : IsDistinct eqb w.done = distinct_front w.done w.rest (subst (IsDistinct eqb) w.whole (cells_once f first cells chain)) in
    let few : length w.done ≤ 2305843009213693952 = length-le_from_distinct_below w.done 2305843009213693952 once (all_member (λ c. c < 2305843009213693952) w.done w.small) in
    absurd (omega (arith, few, many, w.counted))
