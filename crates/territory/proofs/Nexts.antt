-- What comes after a number in a list where it stands once.
use Rattle.std.proofs.Common.{◌≡◌, ℕ, zero, suc, ◌+◌, ◌<◌, ◌≤◌, true, false, List, [], ◌∷◌, ◌++◌, length, get_or, Option, Some, None, is_some, Contains, refl, sym, ◌∙◌, ap, subst, arith, inl, inr, ◌⊎◌}
use Rattle.std.proofs.lemmas.Bool.{cases_lt}
use Rattle.std.proofs.lemmas.Bool.Decides.{nat_tests}
use Rattle.std.proofs.lemmas.Option.{same_Some, slice_get_read, slice_get_within}
use Rattle.std.specs.List.{slice_get}
use Rattle.seg_chain.specs.Lists.{chain_of, link_count, times, times_all, EachOnce, NextIs}
use Rattle.seg_chain.proofs.Counts.{times-append, times_two}
use Rattle.seg_chain.proofs.Laws.{contains_of}
use Rattle.segment.specs.declared.segment.Role.{Role}
use Rattle.segment.specs.declared.segment.Role.TheVariants.{Free, Current, From}
use Rattle.segment.specs.Segments.{Segment, is_free, vacant}
use Rattle.territory.specs.Territories.{IsNext, numbers_of}
use Rattle.territory.specs.Pools.{PoolView, IsSettled, numbered, list_of, list_for, AreListed}
use Rattle.territory.proofs.Listing.{listed_at, in_use_linked}
use Rattle.territory.proofs.Growing.{in_at}
use Rattle.territory.proofs.Numbers.{numbered_past}
use Rattle.std.proofs.lemmas.List.{get_or_read}

twice : (x n : ℕ) (xs : List ℕ) → x ≡ n → 0 < times n xs → 1 < times n (x ∷ xs)
twice x n xs e h = grind (arith, nat_tests, e, h)

fewer : (x n : ℕ) (xs : List ℕ) → times n (x ∷ xs) ≤ 1 → times n xs ≤ 1
fewer x n xs h = omega arith

-- it has one place
pub one_place : (xs : List ℕ) (n i j : ℕ) → times n xs ≤ 1 → slice_get xs i ≡ Some n → slice_get xs j ≡ Some n → i ≡ j
one_place [] n i j h a b = cc
one_place (x ∷ xs) n zero zero h a b = refl
one_place (x ∷ xs) n zero (suc j) h a b = absurd (omega (arith, twice x n xs (same_Some _ _ a) (in_at xs j n b)))
one_place (x ∷ xs) n (suc i) zero h a b = absurd (omega (arith, twice x n xs (same_Some _ _ b) (in_at xs i n a)))
one_place (x ∷ xs) n (suc i) (suc j) h a b = let e : i ≡ j = one_place xs n i j (fewer x n xs h) a b in ap suc e

pub next_at : (xs : List ℕ) (n k : ℕ) (r : Option ℕ) → times n xs ≤ 1 → slice_get xs k ≡ Some n → r ≡ slice_get xs (k + 1) → IsNext xs n r
next_at xs n k r once here e = λ j at. e ∙ ap (λ v. slice_get xs (v + 1)) (one_place xs n k j once here at)

pub get_left : (xs ys : List ℕ) (k : ℕ) → k < length xs → slice_get (xs ++ ys) k ≡ slice_get xs k
get_left [] ys k h = absurd (omega arith)
get_left (x ∷ xs) ys zero h = refl
get_left (x ∷ xs) ys (suc k) h = get_left xs ys k (omega arith)

pub get_right : (xs ys : List ℕ) (k : ℕ) → slice_get (xs ++ ys) (length xs + k) ≡ slice_get ys k
get_right [] ys k = let e : 0 + k ≡ k = omega arith in ap (slice_get ys) e
get_right (x ∷ xs) ys k = let e : length (x ∷ xs) + k ≡ suc (length xs + k) = omega arith in ap (slice_get (x ∷ (xs ++ ys))) e ∙ get_right xs ys k

-- ---- the numbers of a generation
pub once_of : (lists : List (List ℕ)) (g n : ℕ) → EachOnce lists → length lists ≡ 19 → g < 9 → times n (numbers_of lists g) ≤ 1
once_of lists g n e l small =
    let two : times n (chain_of lists (1 + g)) + times n (chain_of lists (10 + g)) ≤ times_all n lists = times_two n lists (1 + g) (10 + g) (omega arith) (omega arith) (omega arith) in
    let most : times_all n lists ≤ 1 = elim (cases_lt n (link_count lists)) [ inl b ↦ omega (arith, e.once n b) | inr b ↦ omega (arith, e.no_other n b) ] in
    omega (arith, times-append n (chain_of lists (1 + g)) (chain_of lists (10 + g)))

pub some_there : (xs : List ℕ) (k : ℕ) → k < length xs → None ≡ slice_get xs k → ⊥
some_there [] k h e = absurd (omega arith)
some_there (x ∷ xs) zero h e = cc
some_there (x ∷ xs) (suc k) h e = some_there xs k (omega arith) e

-- where a number stands in the list of its segment
pub placed_at : (segments : List Segment) (lists : List (List ℕ)) (n : ℕ) → AreListed segments lists → (list_of (numbered segments n) ≡ 0 → ⊥) → (k : ℕ) × (slice_get (chain_of lists (list_of (numbered segments n))) k ≡ Some n)
placed_at segments lists n l used =
    let c : Contains (chain_of lists (list_of (numbered segments n))) n = contains_of n (chain_of lists (list_of (numbered segments n))) (listed_at segments lists n l (in_use_linked segments lists n l used)) in
    (c.0, slice_get_read (chain_of lists (list_of (numbered segments n))) (length (chain_of lists (list_of (numbered segments n)))) c.0 n refl c.1 (sym c.2))

from_list : (p : Segment) → p.role ≡ From → list_of p ≡ 10 + p.generation
from_list p e = ap (λ r. list_for r p.generation) e

current_list : (p : Segment) → p.role ≡ Current → list_of p ≡ 1 + p.generation
current_list p e = ap (λ r. list_for r p.generation) e

not_from : (r : Role) → is_free r ≡ false → (r ≡ From → ⊥) → r ≡ Current
not_from Free f n = cc
not_from Current f n = refl
not_from From f n = absurd (n refl)

pub next_from : (p : PoolView) (n : ℕ) (r : Option ℕ) → IsSettled p → (numbered p.segments n).role ≡ From → NextIs p.lists n r → IsNext (numbers_of p.lists (numbered p.segments n).generation) n r
next_from p n r t is next =
    let g : ℕ = (numbered p.segments n).generation in
    let cur : List ℕ = chain_of p.lists (1 + g) in
    let fr : List ℕ = chain_of p.lists (10 + g) in
    let l : list_of (numbered p.segments n) ≡ 10 + g = from_list (numbered p.segments n) is in
    let at : (k : ℕ) × (slice_get fr k ≡ Some n) = subst (λ v. (k : ℕ) × (slice_get (chain_of p.lists v) k ≡ Some n)) l (placed_at p.segments p.lists n t.listed (λ z. omega arith)) in
    let e : length cur + (at.0 + 1) ≡ length cur + at.0 + 1 = omega arith in
    next_at (numbers_of p.lists g) n (length cur + at.0) r (once_of p.lists g n t.listed.each_once t.listed.chains (t.generations n)) (get_right cur fr at.0 ∙ at.1)
    (next (10 + g) at.0 at.1 ∙ (sym (get_right cur fr (at.0 + 1)) ∙ ap (slice_get (cur ++ fr)) e))

pub next_current : (p : PoolView) (n : ℕ) (r : Option ℕ) → IsSettled p → (numbered p.segments n).role ≡ Current → NextIs p.lists n None → r ≡ slice_get (chain_of p.lists (10 + (numbered p.segments n).generation)) 0 → IsNext (numbers_of p.lists (numbered p.segments n).generation) n r
next_current p n r t is next first =
    let g : ℕ = (numbered p.segments n).generation in
    let cur : List ℕ = chain_of p.lists (1 + g) in
    let fr : List ℕ = chain_of p.lists (10 + g) in
    let l : list_of (numbered p.segments n) ≡ 1 + g = current_list (numbered p.segments n) is in
    let at : (k : ℕ) × (slice_get cur k ≡ Some n) = subst (λ v. (k : ℕ) × (slice_get (chain_of p.lists v) k ≡ Some n)) l (placed_at p.segments p.lists n t.listed (λ z. omega arith)) in
    let within : at.0 < length cur = slice_get_within cur at.0 n at.1 in
    let last : length cur ≤ at.0 + 1 = elim (cases_lt (at.0 + 1) (length cur)) [ inr far ↦ far | inl b ↦ absurd (some_there cur (at.0 + 1) b (next (1 + g) at.0 at.1)) ] in
    let e : length cur + 0 ≡ at.0 + 1 = omega arith in
    next_at (numbers_of p.lists g) n at.0 r (once_of p.lists g n t.listed.each_once t.listed.chains (t.generations n)) (get_left cur fr at.0 within ∙ at.1)
    (first ∙ (sym (get_right cur fr 0) ∙ ap (slice_get (cur ++ fr)) e))

-- ---- for the answers
pub here_is : (p now : PoolView) (n : ℕ) (q : Segment) → p ≡ now → is_free (numbered now.segments n).role ≡ false → q ≡ get_or p.segments n q → q ≡ numbered p.segments n
here_is p now n q e used read =
    let used' : is_free (numbered p.segments n).role ≡ false = subst (λ (v : PoolView). is_free (numbered v.segments n).role ≡ false) (sym e) used in
    get_or_read p.segments n q (elim (cases_lt n (length p.segments)) [
      | inl b ↦ b
      | inr far ↦ absurd (let c : true ≡ false = sym (ap (λ (v : Segment). is_free v.role) (numbered_past p.segments n far)) ∙ used' in cc)
    ]) read vacant

pub next_in_from : (p now : PoolView) (n : ℕ) (r : Option ℕ) (q : Segment) (role : Role) → p ≡ now → IsSettled now → is_free (numbered now.segments n).role ≡ false → NextIs p.lists n r → r ≡ None → q ≡ get_or p.segments n q → role ≡ q.role → role ≡ From
    → IsNext (numbers_of now.lists (numbered now.segments n).generation) n None
next_in_from p now n r q role e s used next none read er is =
    let t : IsSettled p = subst IsSettled (sym e) s in
    let f : (numbered p.segments n).role ≡ From = ap (λ (v : Segment). v.role) (sym (here_is p now n q e used read)) ∙ (sym er ∙ is) in
    subst (λ (v : PoolView). IsNext (numbers_of v.lists (numbered v.segments n).generation) n None) e (subst (IsNext (numbers_of p.lists (numbered p.segments n).generation) n) none (next_from p n r t f next))

pub next_in_current : (p now : PoolView) (n h : ℕ) (r first : Option ℕ) (q : Segment) (role : Role) → p ≡ now → IsSettled now → is_free (numbered now.segments n).role ≡ false → NextIs p.lists n r → r ≡ None → q ≡ get_or p.segments n q → role ≡ q.role → (role ≡ From → ⊥)
    → h ≡ q.generation → first ≡ slice_get (chain_of p.lists (10 + h)) 0 → IsNext (numbers_of now.lists (numbered now.segments n).generation) n first
next_in_current p now n h r first q role e s used next none read er other eh is =
    let t : IsSettled p = subst IsSettled (sym e) s in
    let same : q ≡ numbered p.segments n = here_is p now n q e used read in
    let used' : is_free (numbered p.segments n).role ≡ false = subst (λ (v : PoolView). is_free (numbered v.segments n).role ≡ false) (sym e) used in
    let f : (numbered p.segments n).role ≡ Current = not_from (numbered p.segments n).role used' (λ c. other (er ∙ (ap (λ (v : Segment). v.role) same ∙ c))) in
    subst (λ (v : PoolView). IsNext (numbers_of v.lists (numbered v.segments n).generation) n first) e
    (next_current p n first t f (subst (NextIs p.lists n) none next) (is ∙ ap (λ v. slice_get (chain_of p.lists (10 + v)) 0) (eh ∙ ap (λ (v : Segment). v.generation) same)))

pub none_if : (r : Option ℕ) → false ≡ is_some r → r ≡ None
none_if None e = refl
none_if (Some x) e = cc

pub other_role : (r : Role) → (r ≡ Free) ⊎ (r ≡ Current) → r ≡ From → ⊥
other_role r h e = elim h [ inl f ↦ let c : Free ≡ From = sym f ∙ e in cc | inr f ↦ let c : Current ≡ From = sym f ∙ e in cc ]
