use Rattle.std.proofs.Common.{◌≡◌, ◌≢◌, ℕ, zero, suc, ◌+◌, ◌<◌, ◌≤◌, true, false, cond, eqb, List, [], ◌∷◌, ◌++◌, length, set, get_or, refl, ◌∙◌, ap, arith}
use Rattle.std.proofs.lemmas.Bool.Decides.{nat_tests}
use Rattle.seg_chain.specs.Lists.{times, times_all, link_count, without}

pub times-append : (i : ℕ) (xs ys : List ℕ) → times i (xs ++ ys) ≡ times i xs + times i ys
times-append i [] ys = omega arith
times-append i (x ∷ xs) ys = omega (arith, times-append i xs ys)

pub times-here : (x : ℕ) (xs : List ℕ) → times x (x ∷ xs) ≡ 1 + times x xs
times-here x xs = grind (arith, nat_tests)

pub here_in : (x : ℕ) (xs : List ℕ) → 0 < times x (x ∷ xs)
here_in x xs = omega (arith, times-here x xs)

pub later_in : (y x : ℕ) (xs : List ℕ) → 0 < times y xs → 0 < times y (x ∷ xs)
later_in y x xs h = omega arith

pub times_all-set : (i : ℕ) (lists : List (List ℕ)) (c : ℕ) (ys : List ℕ) → c < length lists → times_all i (set lists c ys) + times i (get_or lists c []) ≡ times_all i lists + times i ys
times_all-set i [] c ys h = absurd (omega arith)
times_all-set i (xs ∷ lists) zero ys h = omega arith
times_all-set i (xs ∷ lists) (suc c) ys h = omega (arith, times_all-set i lists c ys (omega arith))

pub times-le-all : (i : ℕ) (lists : List (List ℕ)) (c : ℕ) → c < length lists → times i (get_or lists c []) ≤ times_all i lists
times-le-all i [] c h = absurd (omega arith)
times-le-all i (xs ∷ lists) zero h = omega arith
times-le-all i (xs ∷ lists) (suc c) h = omega (arith, times-le-all i lists c (omega arith))

pub times_two : (i : ℕ) (lists : List (List ℕ)) (c d : ℕ) → c < length lists → d < length lists → c ≢ d → times i (get_or lists c []) + times i (get_or lists d []) ≤ times_all i lists
times_two i [] c d h k ne = absurd (omega arith)
times_two i (xs ∷ lists) zero zero h k ne = absurd (ne refl)
times_two i (xs ∷ lists) zero (suc d) h k ne = omega (arith, times-le-all i lists d (omega arith))
times_two i (xs ∷ lists) (suc c) zero h k ne = omega (arith, times-le-all i lists c (omega arith))
times_two i (xs ∷ lists) (suc c) (suc d) h k ne = omega (arith, times_two i lists c d (omega arith) (omega arith) (omega arith))

pub link_count-set : (lists : List (List ℕ)) (c : ℕ) (ys : List ℕ) → c < length lists → link_count (set lists c ys) + length (get_or lists c []) ≡ link_count lists + length ys
link_count-set [] c ys h = absurd (omega arith)
link_count-set (xs ∷ lists) zero ys h = omega arith
link_count-set (xs ∷ lists) (suc c) ys h = omega (arith, link_count-set lists c ys (omega arith))

pub length-le-total : (lists : List (List ℕ)) (c : ℕ) → c < length lists → length (get_or lists c []) ≤ link_count lists
length-le-total [] c h = absurd (omega arith)
length-le-total (xs ∷ lists) zero h = omega arith
length-le-total (xs ∷ lists) (suc c) h = omega (arith, length-le-total lists c (omega arith))

pub not_there : (x : ℕ) (xs : List ℕ) → times x xs ≡ 0 → without x xs ≡ xs
not_there x [] h = refl
not_there x (y ∷ xs) h = elim (eqb x y) as (λ b. cond b 1 0 + times x xs ≡ 0 → cond b (without x xs) (y ∷ without x xs) ≡ y ∷ xs) [ true ↦ λ k. absurd (omega arith) | false ↦ λ k. ap (λ zs. y ∷ zs) (not_there x xs (omega arith)) ] h

pub without-append : (x : ℕ) (ys zs : List ℕ) → without x (ys ++ zs) ≡ without x ys ++ without x zs
without-append x [] zs = refl
without-append x (y ∷ ys) zs = elim (eqb x y) as (λ b. cond b (without x (ys ++ zs)) (y ∷ without x (ys ++ zs)) ≡ cond b (without x ys) (y ∷ without x ys) ++ without x zs) [ true ↦ without-append x ys zs | false ↦ ap (λ w. y ∷ w) (without-append x ys zs) ]

pub without-here : (x : ℕ) (zs : List ℕ) → without x (x ∷ zs) ≡ without x zs
without-here x zs = grind (arith, nat_tests)

-- a list in which a number stands once, cut there
pub without_split : (x : ℕ) (ys zs : List ℕ) → times x (ys ++ x ∷ zs) ≤ 1 → without x (ys ++ x ∷ zs) ≡ ys ++ zs
without_split x ys zs h =
    let n : times x ys + (1 + times x zs) ≤ 1 = omega (arith, times-append x ys (x ∷ zs), times-here x zs) in
    let l : times x ys ≡ 0 = omega arith in
    let r : times x zs ≡ 0 = omega arith in
    without-append x ys (x ∷ zs) ∙ (ap (λ w. w ++ without x (x ∷ zs)) (not_there x ys l) ∙ ap (λ w. ys ++ w) (without-here x zs ∙ not_there x zs r))

pub cut : (x : ℕ) (xs : List ℕ) → 0 < times x xs → (ys : List ℕ) × (zs : List ℕ) × (xs ≡ ys ++ x ∷ zs)
cut x [] h = absurd (omega arith)
cut x (y ∷ xs) h =
    elim (eqb x y) as (λ b. eqb x y ≡ b → (ys : List ℕ) × (zs : List ℕ) × (y ∷ xs ≡ ys ++ x ∷ zs)) [
      | true ↦ λ e. ([], xs, ap (λ z. z ∷ xs) (grind (arith, nat_tests, e)))
      | false ↦ λ e. let more : 0 < times x xs = grind (arith, nat_tests, e, h) in let r = cut x xs more in (y ∷ r.0, r.1, ap (λ w. y ∷ w) r.2)
    ] refl

pub times_from_index : (xs : List ℕ) (x k : ℕ) → k < length xs → get_or xs k x ≡ x → 0 < times x xs
times_from_index [] x k h e = absurd (omega arith)
times_from_index (y ∷ xs) x zero h e = let e' : y ≡ x = e in grind (arith, nat_tests, e')
times_from_index (y ∷ xs) x (suc k) h e = later_in x y xs (times_from_index xs x k (omega arith) e)
