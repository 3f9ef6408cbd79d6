-- What starts where: `spot` after each change of a segment.
use Rattle.std.proofs.Common.{◌≡◌, ◌≢◌, ℕ, zero, suc, ◌+◌, ◌-◌, ◌*◌, ◌/◌, ◌<◌, ◌≤◌, true, false, cond, eqb, List, [], ◌∷◌, length, get_or, set, take, drop, replicate, Option, Some, None, refl, sym, ◌∙◌, ap, arith, inl, inr, get_or-set_same, get_or-set_other, length-drop}
use Rattle.std.proofs.lemmas.List.{ext_get_or, get_or_past, drop-set-lt, drop-set-add, take-set-le, length-set, length-take, length-take-le, get_or-take, get_or-drop, length-replicate, get_or-replicate}
use Rattle.std.proofs.lemmas.Bool.{cases_eq, cases_lt}
use Rattle.std.proofs.lemmas.Bool.Decides.{nat_tests}
use Rattle.std.proofs.lemmas.Option.{same_Some}
use Rattle.segment.specs.declared.space.Space.{Space}
use Rattle.segment.specs.Layout.{skip_of, kind_of, length_of, count_of, size_of}
use Rattle.segment.specs.Segments.{Start, Segment, first_at, size_at, words_at, object_at, start_at, is_free, spot, IsStart, place_in, IsLaid, HasRoom, opened, put_in, grown}
use Rattle.segment.proofs.Sizes.{size_covers, size_pos}
use Rattle.segment.proofs.Changes.{IsRead, put_read, put_first_other, grown_first, grown_new_first}

-- ---- what a spot is

pub spot_is : (p : Segment) (k : ℕ) (x : Start) → spot p k ≡ Some x → IsStart p k × (x ≡ object_at p k)
spot_is p k x =
    elim (is_free p.role) as (λ t. cond t None (start_at p k) ≡ Some x → ((t ≡ false) × (get_or p.births k 0 ≢ 0)) × (x ≡ object_at p k)) [
      | true ↦ λ e. cc
      | false ↦ λ e.
          elim (eqb (get_or p.births k 0) 0) as (λ t. eqb (get_or p.births k 0) 0 ≡ t → cond t None (Some (object_at p k)) ≡ Some x → ((false ≡ false) × (get_or p.births k 0 ≢ 0)) × (x ≡ object_at p k)) [
            | true ↦ λ is f. cc
            | false ↦ λ is f. ((refl, grind (arith, nat_tests)), sym (same_Some _ _ f))
          ] refl e
    ]

pub spot_start : (p : Segment) (k : ℕ) → IsStart p k → spot p k ≡ Some (object_at p k)
spot_start p k start =
    let z : eqb (get_or p.births k 0) 0 ≡ false = let n = start.1 in grind (arith, nat_tests) in
    ap (λ t. cond t None (start_at p k)) start.0 ∙ ap (λ t. cond t None (Some (object_at p k))) z

pub spot_none : (p : Segment) (k : ℕ) → get_or p.births k 0 ≡ 0 → spot p k ≡ None
spot_none p k z =
    ap (λ v. cond (is_free p.role) None (cond (eqb v 0) None (Some (object_at p k)))) z
    ∙ elim (is_free p.role) as (λ t. let none : Option Start = None in cond t none none ≡ none) [ true ↦ refl | false ↦ refl ]

pub spot_no_start : (p : Segment) (k : ℕ) → (IsStart p k → ⊥) → spot p k ≡ None
spot_no_start p k never =
    elim (is_free p.role) as (λ t. is_free p.role ≡ t → cond t None (start_at p k) ≡ None) [
      | true ↦ λ f. refl
      | false ↦ λ f.
          elim (cases_eq (get_or p.births k 0) 0) [
            | inl z ↦ ap (λ v. cond (eqb v 0) None (Some (object_at p k))) z
            | inr some ↦ absurd (never (f, some))
          ]
    ] refl

pub spot_free : (p : Segment) (k : ℕ) → is_free p.role ≡ true → spot p k ≡ None
spot_free p k e = ap (λ t. cond t None (start_at p k)) e

-- ---- words of an object

pub in_words : (p : Segment) (k index : ℕ) → index < length (words_at p k) → index < count_of p.space (first_at p k)
in_words p k index i = omega (arith, length-take (count_of p.space (first_at p k)) (drop (2 * k + skip_of p.space) p.words))

pub word_in : (p : Segment) (k index : ℕ) → index < count_of p.space (first_at p k) → get_or (words_at p k) index 0 ≡ get_or p.words (place_in p k index) 0
word_in p k index i = get_or-take (count_of p.space (first_at p k)) (drop (2 * k + skip_of p.space) p.words) index 0 i ∙ get_or-drop (2 * k + skip_of p.space) p.words index 0

-- what starts lies below the end, and its words are all there
pub words_length : (p : Segment) (k : ℕ) → IsLaid p → get_or p.births k 0 ≢ 0 → length (words_at p k) ≡ count_of p.space (first_at p k)
words_length p k h bk =
    length-take-le (count_of p.space (first_at p k)) (drop (2 * k + skip_of p.space) p.words)
    (omega (arith, h.fit k bk, h.top_in, size_covers p.space (first_at p k), length-drop (2 * k + skip_of p.space) p.words))

pub start_in : (p : Segment) (k : ℕ) → IsLaid p → get_or p.births k 0 ≢ 0 → (k < length p.births) × (2 * k + size_at p k ≤ p.top) × (p.top ≤ length p.words)
start_in p k h bk =
    elim (cases_lt k (length p.births)) [
      | inl b ↦ (b, h.fit k bk, h.top_in)
      | inr far ↦ absurd (bk (get_or_past p.births k 0 far))
    ]

-- ---- the same spot in another segment

pub object_same : (p q : Segment) (j : ℕ) → IsRead p q j → q.generation ≡ p.generation → get_or q.births j 0 ≡ get_or p.births j 0 → words_at q j ≡ words_at p j → object_at q j ≡ object_at p j
object_same p q j r g b w = let k = r.kind in let l = r.length in cc

pub spot_same : (p q : Segment) (j : ℕ) → is_free q.role ≡ is_free p.role → get_or q.births j 0 ≡ get_or p.births j 0 → (get_or p.births j 0 ≢ 0 → object_at q j ≡ object_at p j) → spot q j ≡ spot p j
spot_same p q j f b o =
    elim (cases_eq (get_or p.births j 0) 0) [
      | inl z ↦ spot_none q j (b ∙ z) ∙ sym (spot_none p j z)
      | inr nz ↦
          ap (λ t. cond t None (start_at q j)) f
          ∙ (ap (λ v. cond (is_free p.role) None (cond (eqb v 0) None (Some (object_at q j)))) b
          ∙ ap (λ v. cond (is_free p.role) None (cond (eqb (get_or p.births j 0) 0) None (Some v))) (o nz))
    ]

-- ---- words as a window of the segment's

take-set : (n : ℕ) (xs : List ℕ) (i w : ℕ) → take n (set xs i w) ≡ set (take n xs) i w
take-set zero xs i w = refl
take-set (suc n) [] i w = refl
take-set (suc n) (x ∷ xs) zero w = refl
take-set (suc n) (x ∷ xs) (suc i) w = ap (λ ys. x ∷ ys) (take-set n xs i w)

window_same : (ws : List ℕ) (m n i w : ℕ) → take n (drop m (set ws (m + i) w)) ≡ set (take n (drop m ws)) i w
window_same ws m n i w = ap (take n) (drop-set-add m ws i w) ∙ take-set n (drop m ws) i w

window_below : (ws : List ℕ) (m n q w : ℕ) → q < m → take n (drop m (set ws q w)) ≡ take n (drop m ws)
window_below ws m n q w h = ap (take n) (drop-set-lt m ws q w h)

window_above : (ws : List ℕ) (m n q w : ℕ) → m + n ≤ q → take n (drop m (set ws q w)) ≡ take n (drop m ws)
window_above ws m n q w h =
    let e : q ≡ m + (q - m) = omega arith in
    ap (λ v. take n (drop m (set ws v w))) e ∙ (ap (take n) (drop-set-add m ws (q - m) w) ∙ take-set-le n (drop m ws) (q - m) w (omega arith))

-- ---- a word put

pub spot_put : (p : Segment) (k index w : ℕ) (x : Start) → spot p k ≡ Some x → spot (put_in p k index w) k ≡ Some (record x { words = set x.words index w })
spot_put p k index w x e =
    let is : IsStart p k × (x ≡ object_at p k) = spot_is p k x e in
    let q : Segment = put_in p k index w in
    let r : IsRead p q k = put_read p k index w in
    let rk : kind_of p.space (first_at q k) ≡ kind_of p.space (first_at p k) = r.kind in
    let rl : length_of p.space (first_at q k) ≡ length_of p.space (first_at p k) = r.length in
    let win : words_at q k ≡ set (words_at p k) index w =
    ap (λ n. take n (drop (2 * k + skip_of p.space) (set p.words (2 * k + skip_of p.space + index) w))) r.count
    ∙ window_same p.words (2 * k + skip_of p.space) (count_of p.space (first_at p k)) index w in
    let all : object_at q k ≡ record (object_at p k) { words = set (words_at p k) index w } = cc in
    spot_start q k is.0 ∙ (ap Some all ∙ ap (λ (v : Start). Some (record v { words = set v.words index w })) (sym is.1))

pub spot_put_other : (p : Segment) (k index w j : ℕ) → IsLaid p → get_or p.births k 0 ≢ 0 → index < count_of p.space (first_at p k) → j ≢ k → spot (put_in p k index w) j ≡ spot p j
spot_put_other p k index w j h bk i ne =
    spot_same p (put_in p k index w) j refl refl (λ bj.
    let f : first_at (put_in p k index w) j ≡ first_at p j = put_first_other p k index w j h bk bj ne i in
    let win : take (count_of p.space (first_at p j)) (drop (2 * j + skip_of p.space) (set p.words (place_in p k index) w)) ≡ words_at p j =
    elim (cases_lt j k) [
      | inl lt ↦ window_above p.words (2 * j + skip_of p.space) (count_of p.space (first_at p j)) (place_in p k index) w (omega (arith, h.apart j k lt bj bk, size_covers p.space (first_at p j)))
      | inr ge ↦ window_below p.words (2 * j + skip_of p.space) (count_of p.space (first_at p j)) (place_in p k index) w (omega (arith, h.apart k j (omega arith) bk bj, size_covers p.space (first_at p k)))
    ] in
    let words : words_at (put_in p k index w) j ≡ words_at p j = ap (λ v. take (count_of p.space v) (drop (2 * j + skip_of p.space) (set p.words (place_in p k index) w))) f ∙ win in
    object_same p (put_in p k index w) j (record { kind = ap (kind_of p.space) f; length = ap (length_of p.space) f; count = ap (count_of p.space) f }) refl refl words)

-- ---- an object made

pub spot_grown_other : (p : Segment) (first size birth j : ℕ) → IsLaid p → j ≢ p.top / 2 → spot (grown p first size birth) j ≡ spot p j
spot_grown_other p first size birth j h ne =
    spot_same p (grown p first size birth) j refl (get_or-set_other p.births (p.top / 2) j birth 0 ne) (λ bj.
    let f : first_at (grown p first size birth) j ≡ first_at p j = grown_first p first size birth j h bj in
    let win : take (count_of p.space (first_at p j)) (drop (2 * j + skip_of p.space) (set p.words p.top first)) ≡ words_at p j =
    window_above p.words (2 * j + skip_of p.space) (count_of p.space (first_at p j)) p.top first (omega (arith, h.fit j bj, size_covers p.space (first_at p j))) in
    let words : words_at (grown p first size birth) j ≡ words_at p j = ap (λ v. take (count_of p.space v) (drop (2 * j + skip_of p.space) (set p.words p.top first))) f ∙ win in
    object_same p (grown p first size birth) j (record { kind = ap (kind_of p.space) f; length = ap (length_of p.space) f; count = ap (count_of p.space) f }) refl (get_or-set_other p.births (p.top / 2) j birth 0 ne) words)

zeros : (ws : List ℕ) (m n : ℕ) → m + n ≤ length ws → ((i : ℕ) → m ≤ i → get_or ws i 0 ≡ 0) → take n (drop m ws) ≡ replicate n 0
zeros ws m n fits zero_from =
    let l : length (take n (drop m ws)) ≡ n = length-take-le n (drop m ws) (omega (arith, length-drop m ws)) in
    ext_get_or 0 (take n (drop m ws)) (replicate n 0) (l ∙ sym (length-replicate n 0))
    (λ i k. let b : i < n = omega (arith, l) in get_or-take n (drop m ws) i 0 b ∙ (get_or-drop m ws i 0 ∙ (zero_from (m + i) (omega arith) ∙ sym (get_or-replicate n i 0 0 b))))

-- the new object: its first word, and zero words after it
pub spot_grown : (p : Segment) (first size birth : ℕ) → IsLaid p → is_free p.role ≡ false → birth ≢ 0 → size ≡ size_of p.space first → HasRoom p size → (skip_of p.space ≡ 0 → first ≡ 0)
    → spot (grown p first size birth) (p.top / 2) ≡ Some (record { kind = kind_of p.space first; length = length_of p.space first; generation = p.generation; birth = birth; words = replicate (count_of p.space first) 0 })
spot_grown p first size birth h used born is room bare =
    let fits : p.top + size ≤ length p.words = room.0 in
    let place : p.top < 2 * length p.births = room.1 in
    let some : 2 ≤ size = omega (arith, size_pos p.space first) in
    let q : Segment = grown p first size birth in
    let t : 2 * (p.top / 2) ≡ p.top = omega (arith, h.even) in
    let b : get_or q.births (p.top / 2) 0 ≡ birth = get_or-set_same p.births (p.top / 2) birth 0 (omega arith) in
    let f : first_at q (p.top / 2) ≡ first = grown_new_first p first size birth h (omega arith) in
    let l : length (set p.words p.top first) ≡ length p.words = length-set p.words p.top first in
    let above : (i : ℕ) → p.top + skip_of p.space ≤ i → get_or (set p.words p.top first) i 0 ≡ 0 = λ i k.
    elim (cases_eq i p.top) [
      | inl e ↦ let none : skip_of p.space ≡ 0 = omega arith in ap (λ v. get_or (set p.words p.top first) v 0) e ∙ (get_or-set_same p.words p.top first 0 (omega arith) ∙ bare none)
      | inr ne ↦ get_or-set_other p.words p.top i first 0 ne ∙ h.zero_above i (omega arith)
    ] in
    let win : take (count_of p.space first) (drop (p.top + skip_of p.space) (set p.words p.top first)) ≡ replicate (count_of p.space first) 0 =
    zeros (set p.words p.top first) (p.top + skip_of p.space) (count_of p.space first) (omega (arith, l, size_covers p.space first)) above in
    let words : words_at q (p.top / 2) ≡ replicate (count_of p.space first) 0 =
    ap (λ v. take (count_of p.space v) (drop (2 * (p.top / 2) + skip_of p.space) (set p.words p.top first))) f
    ∙ (ap (λ v. take (count_of p.space first) (drop (v + skip_of p.space) (set p.words p.top first))) t ∙ win) in
    let object : object_at q (p.top / 2) ≡ record { kind = kind_of p.space first; length = length_of p.space first; generation = p.generation; birth = birth; words = replicate (count_of p.space first) 0 } = cc in
    spot_start q (p.top / 2) (used, λ z. born (sym b ∙ z)) ∙ ap Some object

-- where the next object would start there is none yet
pub spot_top : (p : Segment) → IsLaid p → spot p (p.top / 2) ≡ None
spot_top p h = spot_none p (p.top / 2) (h.loose (p.top / 2) (omega (arith, h.even)))

-- ---- a segment opened

pub zero_at : (n k z : ℕ) → get_or (replicate n z) k z ≡ z
zero_at n k z = elim (cases_lt k n) [ inl h ↦ get_or-replicate n k z z h | inr h ↦ get_or_past (replicate n z) k z (omega (arith, length-replicate n z)) ]

pub spot_opened : (s : Space) (generation w b k : ℕ) → spot (opened s generation w b) k ≡ None
spot_opened s generation w b k = spot_none (opened s generation w b) k (zero_at b k 0)
