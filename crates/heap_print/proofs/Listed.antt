-- The starts of a generation in a territory as a list in which each stands once.
use Rattle.std.proofs.Common.{◌≡◌, ◌≤◌, ◌<◌, inl, inr, ◌&&◌, ℕ, ◌+◌, ◌-◌, ◌==◌, cond, eqb, Bool, true, false, List, [], ◌∷◌, ◌++◌, map, filter, Option, Some, None, IsSome, IfSome, refl, sym, ap, subst, ◌∙◌, arith}
use Rattle.std.specs.FinMap.{get}
use Rattle.std.specs.List.{AllByRecursion, IsDistinct, list_any}
use Rattle.std.proofs.lemmas.Bool.{false≢true, eqb-true, eq-eqb, or_cases, or_left, or_right}
use Rattle.std.proofs.lemmas.Cmp.{nat_eq_equiv}
use Rattle.std.proofs.lemmas.List.{length-map}
use Rattle.std.proofs.lemmas.Map.Views.{list_any-from_Contains, Contains-from_any}
use Rattle.std.proofs.lemmas.Map.Steps.{length-le_from_distinct_below}
use Rattle.trace_types.specs.Rules.{has}
use Rattle.trace_types.specs.WellFormed.{greatest_line}
use Rattle.seg_chain.specs.Lists.{times}
use Rattle.seg_chain.proofs.Counts.{times-here}
use Rattle.segment.specs.Segments.{Start}
use Rattle.territory.specs.Territories.{TerritoryView, AreItsStarts}
use Rattle.heap_store.specs.Starts.{Starts, birth_of, IsClosed}
use Rattle.heap_print.specs.Counting.{AreFew}
use Rattle.heap_print.proofs.Counted.{both_ways, each_member, distinct-map}
use Rattle.heap_print.proofs.Numbering.{flipped}
use Rattle.heap_print.proofs.Renamed.{AreApart}

-- whether a queue cell or an object of this generation starts there
abbrev pub starts_in_generation : ℕ → Option Start → Bool
starts_in_generation g None = false
starts_in_generation g (Some x) = x.generation == g

-- ---- each once

no_more : (x : ℕ) (xs : List ℕ) → times x xs ≡ 0 → AllByRecursion (λ y. eqb x y ≡ false) xs
no_more x [] h = tt
no_more x (y ∷ xs) h = by (no_more x xs) (eqb x y) refl
  where
    by : (times x xs ≡ 0 → AllByRecursion (λ z. eqb x z ≡ false) xs) → (b : Bool) → eqb x y ≡ b →
        (eqb x y ≡ false) × AllByRecursion (λ z. eqb x z ≡ false) xs
    by rest true e = absurd (omega (arith, sym h ∙ ap (λ b. cond b 1 0 + times x xs) e))
    by rest false e = (e, rest (omega (arith, sym (ap (λ b. cond b 1 0 + times x xs) e) ∙ h)))

-- a list in which each stands at most once
pub distinct_times : (xs : List ℕ) → ((a : ℕ) → times a xs ≤ 1) → IsDistinct eqb xs
unfolding IsDistinct
distinct_times [] h = tt
distinct_times (x ∷ xs) h = (no_more x xs (omega (arith, h x, times-here x xs)), distinct_times xs (λ a. omega (arith, h a)))

absent_all : (x : ℕ) (ys : List ℕ) → (has ys x ≡ true → ⊥) → AllByRecursion (λ y. eqb x y ≡ false) ys
absent_all x [] h = tt
absent_all x (y ∷ ys) h = (by (eqb x y) refl, absent_all x ys (λ e. h (or_right (eqb y x) (has ys x) e)))
  where
    by : (b : Bool) → eqb x y ≡ b → eqb x y ≡ false
    by true e = absurd (h (or_left (eqb y x) (has ys x) (nat_eq_equiv.symm y x ∙ e)))
    by false e = e

all_joined : (P : ℕ → Type 0) (xs ys : List ℕ) → AllByRecursion P xs → AllByRecursion P ys → AllByRecursion P (xs ++ ys)
all_joined P [] ys h k = k
all_joined P (x ∷ xs) ys h k = (h.0, all_joined P xs ys h.1 k)

-- two lists that have nothing in common
pub distinct_joined : (xs ys : List ℕ) → IsDistinct eqb xs → IsDistinct eqb ys → ((a : ℕ) → has xs a ≡ true → has ys a ≡ true → ⊥) →
    IsDistinct eqb (xs ++ ys)
unfolding IsDistinct
distinct_joined [] ys d e apart = e
distinct_joined (x ∷ xs) ys d e apart = (
  all_joined (λ y. eqb x y ≡ false) xs ys d.0 (absent_all x ys (apart x (or_left (eqb x x) (has xs x) (nat_eq_equiv.refl x)))),
  distinct_joined xs ys d.1 e (λ a h. apart a (or_right (eqb x a) (has xs a) h)),
)

all_kept : (P : ℕ → Type 0) (test : ℕ → Bool) (xs : List ℕ) → AllByRecursion P xs → AllByRecursion P (filter test xs)
all_kept P test [] h = tt
all_kept P test (x ∷ xs) h = elim (test x) as (λ b. AllByRecursion P (cond b (x ∷ filter test xs) (filter test xs))) [
  | true ↦ (h.0, all_kept P test xs h.1)
  | false ↦ all_kept P test xs h.1
]

pub distinct_kept : (test : ℕ → Bool) (xs : List ℕ) → IsDistinct eqb xs → IsDistinct eqb (filter test xs)
unfolding IsDistinct
distinct_kept test [] d = tt
distinct_kept test (x ∷ xs) d = elim (test x) as (λ b. IsDistinct eqb (cond b (x ∷ filter test xs) (filter test xs))) [
  | true ↦ (all_kept (λ y. eqb x y ≡ false) test xs d.0, distinct_kept test xs d.1)
  | false ↦ distinct_kept test xs d.1
]

pub has_kept : (test : ℕ → Bool) (xs : List ℕ) (a : ℕ) → has (filter test xs) a ≡ (test a && has xs a)
has_kept test [] a = by (test a)
  where
    by : (b : Bool) → false ≡ (b && false)
    by true = refl
    by false = refl
has_kept test (x ∷ xs) a = by (has_kept test xs a) (test x) (eqb x a) refl refl
  where
    by : has (filter test xs) a ≡ (test a && has xs a) → (kept same : Bool) → test x ≡ kept → eqb x a ≡ same → has (filter test (x ∷ xs)) a ≡ (test a && has (x ∷ xs) a)
    by rest true true e s = rw (e, s, sym (ap test (eqb-true x a s)) ∙ e) refl
    by rest true false e s = rw (e, s, rest) refl
    by rest false true e s = rw (e, s, rest, sym (ap test (eqb-true x a s)) ∙ e) refl
    by rest false false e s = rw (e, s, rest) refl

-- ---- one territory's

-- the list has what starts in the generation, and nothing else
pub listed : (t : TerritoryView) (g : ℕ) (xs : List ℕ) → AreItsStarts t g xs → (a : ℕ) → has xs a ≡ starts_in_generation g (get t.starts a)
listed t g xs its a = both_ways (has xs a) (starts_in_generation g (get t.starts a))
    (λ e. let there = its.starts a (Contains-from_any eqb-true a xs (sym (flipped xs a) ∙ e)) in by (get t.starts a) there.0 there.1)
    (λ e. found (get t.starts a) refl e)
  where
    by : (o : Option Start) → IfSome o (λ x. x.generation ≡ g) → IsSome o → starts_in_generation g o ≡ true
    by None h there = absurd (false≢true there)
    by (Some x) h there = eq-eqb x.generation g h

    found : (o : Option Start) → get t.starts a ≡ o → starts_in_generation g o ≡ true → has xs a ≡ true
    found None p e = absurd (false≢true e)
    found (Some x) p e = flipped xs a ∙ list_any-from_Contains nat_eq_equiv a xs (its.all a x p (eqb-true x.generation g e))

pub its_distinct : (t : TerritoryView) (g : ℕ) (xs : List ℕ) → AreItsStarts t g xs → IsDistinct eqb xs
its_distinct t g xs its = distinct_times xs its.once

is_there : (g : ℕ) (o : Option Start) → starts_in_generation g o ≡ true → IsSome o
is_there g None e = absurd (false≢true e)
is_there g (Some x) e = refl

pub all_there : (f : Starts) (g : ℕ) (xs : List ℕ) → ((a : ℕ) → has xs a ≡ true → starts_in_generation g (f a) ≡ true) → AllByRecursion (λ a. IsSome (f a)) xs
all_there f g xs h = each_member (λ a. IsSome (f a)) xs (λ a e. is_there g (f a) (h a e))

-- ---- how many

less_one : Starts → ℕ → ℕ
less_one f a = birth_of (f a) - 1

all_member : (P : ℕ → Type 0) (xs : List ℕ) → AllByRecursion P xs → (q : ℕ) → list_any (eqb q) xs ≡ true → P q
all_member P [] h q e = absurd (false≢true e)
all_member P (x ∷ xs) h q e = elim (or_cases (eqb q x) (list_any (eqb q) xs) e) [
  | inl same ↦ subst P (sym (eqb-true q x same)) h.0
  | inr rest ↦ all_member P xs h.1 q rest
]

-- each start has a line of its own
pub few_starts : (f : Starts) → IsClosed f → ((a : ℕ) (x : Start) → f a ≡ Some x → (1 ≤ x.birth) × (x.birth ≤ greatest_line)) → AreFew f
unfolding less_one
few_starts f closed born places once there =
    subst (λ n. n ≤ greatest_line) (length-map places (less_one f)) (length-le_from_distinct_below (map (less_one f) places) greatest_line
    (distinct-map (λ a. IsSome (f a)) (less_one f) apart places there once)
    (all_member (λ n. n < greatest_line) (map (less_one f) places) (all_low places there)))
  where
    apart : AreApart (λ a. IsSome (f a)) (less_one f)
    apart a b p q same = by (f a) (f b) refl refl p q same
      where
        by : (x y : Option Start) → f a ≡ x → f b ≡ y → IsSome x → IsSome y → birth_of x - 1 ≡ birth_of y - 1 → a ≡ b
        by None y e d hx hy s = absurd (false≢true hx)
        by (Some x) None e d hx hy s = absurd (false≢true hy)
        by (Some x) (Some y) e d hx hy s = closed.single a b x y e d (omega (arith, s, (born a x e).0, (born b y d).0))

    low : (o : Option Start) (a : ℕ) → f a ≡ o → IsSome o → birth_of o - 1 < greatest_line
    low None a e h = absurd (false≢true h)
    low (Some x) a e h = omega (arith, (born a x e).0, (born a x e).1)

    all_low : (xs : List ℕ) → AllByRecursion (λ a. IsSome (f a)) xs → AllByRecursion (λ n. n < greatest_line) (map (less_one f) xs)
    all_low [] h = tt
    all_low (x ∷ xs) h = (low (f x) x refl h.0, all_low xs h.1)
