use Rattle.std.proofs.Common.{◌≡◌, ◌≢◌, ℕ, zero, suc, ◌+◌, ◌-◌, ◌<◌, ◌≤◌, true, false, nat_lt, append-nil, List, [], ◌∷◌, ◌++◌, length, refl, sym, ◌∙◌, subst, arith}
use Rattle.std.proofs.lemmas.Bool.Decides.{nat_tests}
use Rattle.seg_chain.specs.Lists.{times}
use Rattle.seg_chain.specs.Linked.{Path, walk}
use Rattle.seg_chain.proofs.Counts.{times-append, times-here, here_in, later_in}

-- no node of xs is u
abbrev pub Outside : ℕ → ℕ → List ℕ → Type 0
Outside h u xs = (x : ℕ) → 0 < times x xs → u ≢ h + x

abbrev pub Distinct : List ℕ → Type 0
Distinct xs = (x : ℕ) → times x xs ≤ 1

-- the last node from u over xs, and the first one after u
abbrev pub last_of : ℕ → ℕ → List ℕ → ℕ
last_of h u [] = u
last_of h u (x ∷ xs) = last_of h (h + x) xs

abbrev pub first_of : ℕ → List ℕ → ℕ → ℕ
first_of h [] v = v
first_of h (x ∷ xs) v = h + x

pub outside_tail : (h u x : ℕ) (xs : List ℕ) → Outside h u (x ∷ xs) → Outside h u xs
outside_tail h u x xs out y k = out y (later_in y x xs k)

pub distinct_head : (h x : ℕ) (xs : List ℕ) → Distinct (x ∷ xs) → Outside h (h + x) xs
distinct_head h x xs d y k e =
    let same : x ≡ y = omega arith in
    let more : 0 < times x xs = subst (λ z. 0 < times z xs) (sym same) k in
    absurd (omega (arith, d x, times-here x xs))

pub distinct_tail : (x : ℕ) (xs : List ℕ) → Distinct (x ∷ xs) → Distinct xs
distinct_tail x xs d y = omega (arith, d y)

pub not_last : (h u w : ℕ) (xs : List ℕ) → w ≢ u → Outside h w xs → w ≢ last_of h u xs
not_last h u w [] ne out = ne
not_last h u w (x ∷ xs) ne out = not_last h (h + x) w xs (out x (here_in x xs)) (outside_tail h w x xs out)

pub last_below : (h u n : ℕ) (xs : List ℕ) → u < n → ((x : ℕ) → 0 < times x xs → h + x < n) → last_of h u xs < n
last_below h u n [] k each = k
last_below h u n (x ∷ xs) k each = last_below h (h + x) n xs (each x (here_in x xs)) (λ y m. each y (later_in y x xs m))

pub first_below : (h v n : ℕ) (xs : List ℕ) → v < n → ((x : ℕ) → 0 < times x xs → h + x < n) → first_of h xs v < n
first_below h v n [] k each = k
first_below h v n (x ∷ xs) k each = each x (here_in x xs)

pub last_is : (h : ℕ) (nx pv : ℕ → ℕ) (u : ℕ) (xs : List ℕ) (v : ℕ) → Path h nx pv u xs v → pv v ≡ last_of h u xs
last_is h nx pv u [] v p = p.1
last_is h nx pv u (x ∷ xs) v p = last_is h nx pv (h + x) xs v p.2

pub first_is : (h : ℕ) (nx pv : ℕ → ℕ) (u : ℕ) (xs : List ℕ) (v : ℕ) → Path h nx pv u xs v → nx u ≡ first_of h xs v
first_is h nx pv u [] v p = p.0
first_is h nx pv u (x ∷ xs) v p = p.0

pub split : (h : ℕ) (nx pv : ℕ → ℕ) (u : ℕ) (ys : List ℕ) (x : ℕ) (zs : List ℕ) (v : ℕ) → Path h nx pv u (ys ++ x ∷ zs) v → Path h nx pv u ys (h + x) × Path h nx pv (h + x) zs v
split h nx pv u [] x zs v p = ((p.0, p.1), p.2)
split h nx pv u (y ∷ ys) x zs v p = let r = split h nx pv (h + y) ys x zs v p.2 in ((p.0, p.1, r.0), r.1)

pub join : (h : ℕ) (nx pv : ℕ → ℕ) (u : ℕ) (ys : List ℕ) (x : ℕ) (zs : List ℕ) (v : ℕ) → Path h nx pv u ys (h + x) → Path h nx pv (h + x) zs v → Path h nx pv u (ys ++ x ∷ zs) v
join h nx pv u [] x zs v p q = (p.0, p.1, q)
join h nx pv u (y ∷ ys) x zs v p q = (p.0, p.1, join h nx pv (h + y) ys x zs v p.2 q)

-- links that stay make the same path
pub frame : (h : ℕ) (nx pv nx' pv' : ℕ → ℕ) (u : ℕ) (xs : List ℕ) (v : ℕ) → Path h nx pv u xs v → nx' u ≡ nx u → ((x : ℕ) → 0 < times x xs → nx' (h + x) ≡ nx (h + x)) → pv' v ≡ pv v → ((x : ℕ) → 0 < times x xs → pv' (h + x) ≡ pv (h + x)) → Path h nx' pv' u xs v
frame h nx pv nx' pv' u [] v p a b c d = (a ∙ p.0, c ∙ p.1)
frame h nx pv nx' pv' u (x ∷ xs) v p a b c d =
    (a ∙ p.0, d x (here_in x xs) ∙ p.1, frame h nx pv nx' pv' (h + x) xs v p.2 (b x (here_in x xs)) (λ y k. b y (later_in y x xs k)) c (λ y k. d y (later_in y x xs k)))

-- only the link at the end is another one
pub retarget : (h : ℕ) (nx pv nx' pv' : ℕ → ℕ) (u : ℕ) (ys : List ℕ) (w n : ℕ) → Path h nx pv u ys w → nx' (last_of h u ys) ≡ n → pv' n ≡ last_of h u ys
    → (u ≢ last_of h u ys → nx' u ≡ nx u) → ((x : ℕ) → 0 < times x ys → h + x ≢ last_of h u ys → nx' (h + x) ≡ nx (h + x))
    → ((x : ℕ) → 0 < times x ys → pv' (h + x) ≡ pv (h + x)) → Outside h u ys → Distinct ys → Path h nx' pv' u ys n
retarget h nx pv nx' pv' u [] w n p a b c c' d out dis = (a, b)
retarget h nx pv nx' pv' u (y ∷ ys) w n p a b c c' d out dis = (
  c (not_last h (h + y) u ys (out y (here_in y ys)) (outside_tail h u y ys out)) ∙ p.0,
  d y (here_in y ys) ∙ p.1,
  retarget h nx pv nx' pv' (h + y) ys w n p.2 a b (c' y (here_in y ys)) (λ x k. c' x (later_in x y ys k)) (λ x k. d x (later_in x y ys k)) (distinct_head h y ys dis) (distinct_tail y ys dis),
)

pub not_first : (h v w : ℕ) (xs : List ℕ) → w ≢ v → Outside h w xs → w ≢ first_of h xs v
not_first h v w [] ne out = ne
not_first h v w (x ∷ xs) ne out = out x (here_in x xs)

pub below_outside : (h c : ℕ) (xs : List ℕ) → c < h → Outside h c xs
below_outside h c xs k x m e = absurd (omega arith)

pub left_outside : (h i : ℕ) (ys ws : List ℕ) → Distinct (ys ++ ws) → 0 < times i ws → Outside h (h + i) ys
left_outside h i ys ws dis k y m e =
    let same : y ≡ i = omega arith in
    let m' : 0 < times i ys = subst (λ z. 0 < times z ys) same m in
    omega (arith, dis i, times-append i ys ws)

pub absent_outside : (h i : ℕ) (xs : List ℕ) → times i xs ≡ 0 → Outside h (h + i) xs
absent_outside h i xs k y m e =
    let same : y ≡ i = omega arith in
    let m' : 0 < times i xs = subst (λ z. 0 < times z xs) same m in
    omega arith

pub detach_path : (h : ℕ) (nx pv nx' pv' : ℕ → ℕ) (c : ℕ) (ys : List ℕ) (x : ℕ) (zs : List ℕ) → c < h → Path h nx pv c (ys ++ x ∷ zs) c → Distinct (ys ++ x ∷ zs)
    → nx' (last_of h c ys) ≡ first_of h zs c → pv' (first_of h zs c) ≡ last_of h c ys
    → ((q : ℕ) → q ≢ last_of h c ys → nx' q ≡ nx q) → ((q : ℕ) → q ≢ first_of h zs c → pv' q ≡ pv q) → Path h nx' pv' c (ys ++ zs) c
detach_path h nx pv nx' pv' c ys x [] below p dis a b other other' =
    let s = split h nx pv c ys x [] c p in
    subst (λ w. Path h nx' pv' c w c) (sym (append-nil ys))
    (retarget h nx pv nx' pv' c ys (h + x) c s.0 a b (other c) (λ i k. other (h + i)) (λ i k. other' (h + i) (λ e. absurd (omega arith))) (below_outside h c ys below)
    (λ i. omega (arith, dis i, times-append i ys (x ∷ []))))
detach_path h nx pv nx' pv' c ys x (z ∷ zs) below p dis a b other other' =
    let s = split h nx pv c ys x (z ∷ zs) c p in
    let z_in : 0 < times z (x ∷ z ∷ zs) = later_in z x (z ∷ zs) (here_in z zs) in
    let tail : Distinct (z ∷ zs) = λ i. omega (arith, dis i, times-append i ys (x ∷ z ∷ zs)) in
    join h nx' pv' c ys z zs c
    (retarget h nx pv nx' pv' c ys (h + x) (h + z) s.0 a b (other c) (λ i k. other (h + i))
    (λ i k. other' (h + i) (λ e. left_outside h z ys (x ∷ z ∷ zs) dis z_in i k (sym e))) (below_outside h c ys below)
    (λ i. omega (arith, dis i, times-append i ys (x ∷ z ∷ zs))))
    (frame h nx pv nx' pv' (h + z) zs c s.1.2
    (other (h + z) (not_last h c (h + z) ys (λ e. absurd (omega arith)) (left_outside h z ys (x ∷ z ∷ zs) dis z_in)))
    (λ i k. other (h + i) (not_last h c (h + i) ys (λ e. absurd (omega arith)) (left_outside h i ys (x ∷ z ∷ zs) dis (later_in i x (z ∷ zs) (later_in i z zs k)))))
    (other' c (λ e. absurd (omega arith)))
    (λ i k. other' (h + i) (λ e. distinct_head h z zs tail i k (sym e))))

pub attach_path : (h : ℕ) (nx pv nx' pv' : ℕ → ℕ) (c : ℕ) (xs : List ℕ) (x : ℕ) → c < h → Path h nx pv c xs c → Distinct xs → times x xs ≡ 0
    → nx' (last_of h c xs) ≡ h + x → pv' (h + x) ≡ last_of h c xs → nx' (h + x) ≡ c → pv' c ≡ h + x
    → ((q : ℕ) → q ≢ last_of h c xs → q ≢ h + x → nx' q ≡ nx q) → ((q : ℕ) → q ≢ c → q ≢ h + x → pv' q ≡ pv q) → Path h nx' pv' c (xs ++ x ∷ []) c
attach_path h nx pv nx' pv' c xs x below p dis none a b a' b' other other' =
    join h nx' pv' c xs x [] c
    (retarget h nx pv nx' pv' c xs c (h + x) p a b (λ ne. other c ne (λ e. absurd (omega arith)))
    (λ i k ne. other (h + i) ne (λ e. absent_outside h x xs none i k (sym e)))
    (λ i k. other' (h + i) (λ e. absurd (omega arith)) (λ e. absent_outside h x xs none i k (sym e)))
    (below_outside h c xs below) dis)
    (a', b')

-- what the links of a chain's path give back as a list
pub walk_is : (h : ℕ) (nx pv : ℕ → ℕ) (fuel u : ℕ) (xs : List ℕ) (v : ℕ) → v < h → length xs < fuel → Path h nx pv u xs v → walk h nx fuel (nx u) ≡ xs
unfolding walk
walk_is h nx pv zero u xs v below len p = absurd (omega arith)
walk_is h nx pv (suc fuel) u [] v below len p =
    let t : nat_lt (nx u) h ≡ true = grind (arith, nat_tests, p.0, below) in
    rw t refl
walk_is h nx pv (suc fuel) u (x ∷ xs) v below len p =
    let t : nat_lt (nx u) h ≡ false = grind (arith, nat_tests, p.0) in
    let d : nx u - h ≡ x = omega (arith, p.0) in
    let r : walk h nx fuel (nx (h + x)) ≡ xs = walk_is h nx pv fuel (h + x) xs v below (omega arith) p.2 in
    rw t (rw (d, p.0, r) refl)
