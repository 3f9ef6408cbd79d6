-- Numbers go by places in the heap, and in the definitions by births: a list of births is a list of places with each
-- place replaced by the birth there. `P` says what a place is, and no two places have one birth.
use Rattle.std.proofs.Common.{◌≡◌, ℕ, ◌==◌, eqb, cond, nat_lt, length, not, true, false, List, [], ◌∷◌, ◌++◌, map, fold, position, unwrap_or, Option, Some, None, refl, sym, ap, ◌∙◌}
use Rattle.std.specs.List.{AllByRecursion, prefix_len}
use Rattle.std.proofs.lemmas.Bool.{eqb-true, eqb-false, eq-eqb}
use Rattle.std.proofs.lemmas.List.{map-append, length-map}
use Rattle.trace_types.specs.Rules.{has}
use Rattle.trace_types.specs.Printing.{with_number, number_of}

-- one birth, one place
abbrev pub AreApart : (ℕ → Type 0) → (ℕ → ℕ) → Type 0
AreApart P birth = (x y : ℕ) → P x → P y → birth x ≡ birth y → x ≡ y

pub same_test : (P : ℕ → Type 0) (birth : ℕ → ℕ) → AreApart P birth → (x y : ℕ) → P x → P y → eqb (birth x) (birth y) ≡ eqb x y
same_test P birth apart x y px py = elim (eqb x y) as (λ b. eqb x y ≡ b → eqb (birth x) (birth y) ≡ b) [
  | true ↦ λ e. eq-eqb (birth x) (birth y) (ap birth (eqb-true x y e))
  | false ↦ λ e. elim (eqb (birth x) (birth y)) as (λ b. eqb (birth x) (birth y) ≡ b → b ≡ false) [
    | true ↦ λ d. absurd (eqb-false x y e (apart x y px py (eqb-true (birth x) (birth y) d)))
    | false ↦ λ d. refl
  ] refl
] refl

has-map : (P : ℕ → Type 0) (birth : ℕ → ℕ) → AreApart P birth → (places : List ℕ) (x : ℕ) → AllByRecursion P places → P x →
    has (map birth places) (birth x) ≡ has places x
has-map P birth apart [] x all px = refl
has-map P birth apart (y ∷ places) x all px = rw (same_test P birth apart y x all.0 px, has-map P birth apart places x all.1 px) refl

pub with_number-map : (P : ℕ → Type 0) (birth : ℕ → ℕ) → AreApart P birth → (places : List ℕ) (x : ℕ) → AllByRecursion P places → P x →
    with_number (map birth places) (birth x) ≡ map birth (with_number places x)
with_number-map P birth apart places x all px =
    ap (λ b. cond b (map birth places) (map birth places ++ birth x ∷ [])) (has-map P birth apart places x all px)
    ∙ elim (has places x) as (λ b. cond b (map birth places) (map birth places ++ birth x ∷ []) ≡ map birth (cond b places (places ++ x ∷ []))) [
      | true ↦ refl
      | false ↦ sym (map-append birth places (x ∷ []))
    ]

all_pushed : (P : ℕ → Type 0) (places : List ℕ) (x : ℕ) → AllByRecursion P places → P x → AllByRecursion P (places ++ x ∷ [])
all_pushed P [] x all px = (px, tt)
all_pushed P (y ∷ places) x all px = (all.0, all_pushed P places x all.1 px)

pub with_number_all : (P : ℕ → Type 0) (places : List ℕ) (x : ℕ) → AllByRecursion P places → P x → AllByRecursion P (with_number places x)
with_number_all P places x all px = elim (has places x) as (λ b. AllByRecursion P (cond b places (places ++ x ∷ []))) [
  | true ↦ all
  | false ↦ all_pushed P places x all px
]

pub numbers-map : (P : ℕ → Type 0) (birth : ℕ → ℕ) → AreApart P birth → (xs places : List ℕ) → AllByRecursion P places → AllByRecursion P xs →
    fold with_number (map birth places) (map birth xs) ≡ map birth (fold with_number places xs)
numbers-map P birth apart [] places all new = refl
numbers-map P birth apart (x ∷ xs) places all new =
    ap (λ (start : List ℕ). fold with_number start (map birth xs)) (with_number-map P birth apart places x all new.0)
    ∙ numbers-map P birth apart xs (with_number places x) (with_number_all P places x all new.0) new.1

pub numbers_all : (P : ℕ → Type 0) (xs places : List ℕ) → AllByRecursion P places → AllByRecursion P xs → AllByRecursion P (fold with_number places xs)
numbers_all P [] places all new = all
numbers_all P (x ∷ xs) places all new = numbers_all P xs (with_number places x) (with_number_all P places x all new.0) new.1

prefix-map : (P : ℕ → Type 0) (birth : ℕ → ℕ) → AreApart P birth → (places : List ℕ) (x : ℕ) → AllByRecursion P places → P x →
    prefix_len (λ y. not (y == birth x)) (map birth places) ≡ prefix_len (λ y. not (y == x)) places
prefix-map P birth apart [] x all px = refl
prefix-map P birth apart (y ∷ places) x all px = rw (same_test P birth apart y x all.0 px, prefix-map P birth apart places x all.1 px) refl

position-map : (P : ℕ → Type 0) (birth : ℕ → ℕ) → AreApart P birth → (places : List ℕ) (x : ℕ) → AllByRecursion P places → P x →
    position (λ y. y == birth x) (map birth places) ≡ position (λ y. y == x) places
position-map P birth apart places x all px =
    let at = prefix_len (λ y. not (y == x)) places in
    ap (λ n. cond (nat_lt n (length (map birth places))) (Some n) None) (prefix-map P birth apart places x all px)
    ∙ ap (λ n. cond (nat_lt at n) (Some at) None) (length-map places birth)

-- an object's number is that of its place
pub number_of-map : (P : ℕ → Type 0) (birth : ℕ → ℕ) → AreApart P birth → (places : List ℕ) (x : ℕ) → AllByRecursion P places → P x →
    number_of (map birth places) (birth x) ≡ number_of places x
number_of-map P birth apart places x all px = ap (λ (o : Option ℕ). unwrap_or o 0) (position-map P birth apart places x all px)
