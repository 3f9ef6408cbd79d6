-- The from-segments as a list.
use Rattle.std.proofs.Common.{◌≡◌, ◌≢◌, ℕ, zero, suc, ◌+◌, ◌-◌, ◌<◌, ◌≤◌, true, false, cond, eqb, List, [], ◌∷◌, ◌++◌, length, Option, Some, None, is_some, IfSome, get_or, Contains, refl, sym, ◌∙◌, ap, subst, arith, inl, inr, append_assoc}
use Rattle.std.proofs.lemmas.Bool.{cases_eq, cases_lt}
use Rattle.std.proofs.lemmas.Bool.Decides.{nat_tests}
use Rattle.std.proofs.lemmas.Option.{slice_get_within, slice_get_past}
use Rattle.std.proofs.lemmas.List.{get_or_past}
use Rattle.std.specs.List.{slice_get, flat_map, range_with_len}
use Rattle.seg_chain.specs.Lists.{chain_of, times, NextIs}
use Rattle.seg_chain.proofs.Counts.{times-append}
use Rattle.seg_chain.proofs.Laws.{contains_of, times_of}
use Rattle.segment.specs.declared.segment.Role.{Role}
use Rattle.segment.specs.declared.segment.Role.TheVariants.{Free, Current, From}
use Rattle.segment.specs.Segments.{Segment, is_free, vacant}
use Rattle.territory.specs.Territories.{SegmentView, TerritoryView, segment_at, IsNext, IsFrom, AreFromOnes, from_on, from_list}
use Rattle.territory.specs.Pools.{PoolView, IsSettled, numbered, seen, list_of, list_for, territory_view}
use Rattle.territory.specs.declared.territory.Targets.{Targets}
use Rattle.gc_words.specs.declared.address.TheConstants.{OFFSETS}
use Rattle.territory.proofs.Numbers.{seen_at, used_within}
use Rattle.territory.proofs.Growing.{in_at}
use Rattle.territory.proofs.Asides.{once_in}
use Rattle.territory.proofs.Nexts.{next_at, get_left, get_right, placed_at, some_there, here_is}
use Rattle.territory.proofs.Showing.{times_flat, times_flat_in}

-- the first generation of the list, and the others
pub from_more : (lists : List (List ℕ)) (g : ℕ) → g < 9 → from_on lists g ≡ chain_of lists (10 + g) ++ from_on lists (g + 1)
unfolding from_on
from_more lists g h =
    let e : 9 - g ≡ suc (9 - (g + 1)) = omega arith in
    ap (λ v. flat_map (λ h. chain_of lists (10 + h)) (range_with_len g v)) e

pub from_none : (lists : List (List ℕ)) (g : ℕ) → 9 ≤ g → from_on lists g ≡ []
unfolding from_on
from_none lists g h = let e : 9 - g ≡ 0 = omega arith in ap (λ v. flat_map (λ h. chain_of lists (10 + h)) (range_with_len g v)) e

from_cut_by : (lists : List (List ℕ)) (g h n : ℕ) → h + n ≡ g → g < 9 → (front : List ℕ) × (from_on lists h ≡ front ++ (chain_of lists (10 + g) ++ from_on lists (g + 1)))
from_cut_by lists g h zero e b =
    let same : h ≡ g = omega arith in
    ([], ap (from_on lists) same ∙ from_more lists g b)
from_cut_by lists g h (suc n) e b =
    let r : (front : List ℕ) × (from_on lists (h + 1) ≡ front ++ (chain_of lists (10 + g) ++ from_on lists (g + 1))) = from_cut_by lists g (h + 1) n (omega arith) b in
    (chain_of lists (10 + h) ++ r.0, from_more lists h (omega arith) ∙ (ap (λ v. chain_of lists (10 + h) ++ v) r.1 ∙ sym (append_assoc (chain_of lists (10 + h)) r.0 (chain_of lists (10 + g) ++ from_on lists (g + 1)))))

-- the lists before that of a generation, it, and those after it
pub from_cut : (lists : List (List ℕ)) (g h : ℕ) → h ≤ g → g < 9 → (front : List ℕ) × (from_on lists h ≡ front ++ (chain_of lists (10 + g) ++ from_on lists (g + 1)))
from_cut lists g h a b = from_cut_by lists g h (g - h) (omega arith) b

-- ---- each once
range_below : (x a n : ℕ) → x < a → times x (range_with_len a n) ≡ 0
range_below x a zero h = refl
range_below x a (suc n) h =
    let t : eqb x a ≡ false = (let ne : x ≢ a = λ e. absurd (omega arith) in grind (arith, nat_tests, ne)) in
    ap (λ b. cond b 1 0 + times x (range_with_len (a + 1) n)) t ∙ omega (arith, range_below x (a + 1) n (omega arith))

range_once : (x a n : ℕ) → times x (range_with_len a n) ≤ 1
range_once x a zero = omega arith
range_once x a (suc n) =
    elim (cases_eq x a) [
      | inl e ↦
          let most : cond (eqb x a) 1 0 ≤ 1 = elim (eqb x a) as (λ b. cond b 1 0 ≤ 1) [ true ↦ omega arith | false ↦ omega arith ] in
          omega (arith, range_below x (a + 1) n (omega arith))
      | inr ne ↦ (let t : eqb x a ≡ false = grind (arith, nat_tests, ne) in let z : ◌≡◌ {A = ℕ} (cond (eqb x a) 1 0) 0 = ap (λ b. cond b 1 0) t in omega (arith, range_once x (a + 1) n))
    ]

from_generation : (r : Role) (g h : ℕ) → g < 9 → list_for r g ≡ 10 + h → (r ≡ From) × (g ≡ h)
from_generation Free g h b e = absurd (omega arith)
from_generation Current g h b e = absurd (omega arith)
from_generation From g h b e = (refl, omega arith)

-- what stands in a list of from-segments
pub in_from : (p : PoolView) (h n : ℕ) → IsSettled p → 0 < times n (chain_of p.lists (10 + h)) → ((numbered p.segments n).role ≡ From) × ((numbered p.segments n).generation ≡ h)
in_from p h n t i = from_generation (numbered p.segments n).role (numbered p.segments n).generation h (t.generations n) (t.listed.fits (10 + h) n i)

pub from_once : (p : PoolView) (n : ℕ) → IsSettled p → times n (from_list p.lists) ≤ 1
unfolding from_on
from_once p n t =
    let g : ℕ = (numbered p.segments n).generation in
    omega (
      arith,
      range_once g 0 (9 - 0),
      times_flat (λ h. chain_of p.lists (10 + h)) (range_with_len 0 (9 - 0)) n g
          (λ h. elim (cases_lt (10 + h) (length p.lists)) [ inl b ↦ once_in p.lists (10 + h) n t.listed.each_once b | inr far ↦ omega (arith, ap (times n) (get_or_past p.lists (10 + h) [] far)) ])
          (λ h ne. elim (cases_lt 0 (times n (chain_of p.lists (10 + h)))) [ inr z ↦ omega arith | inl i ↦ absurd (ne (in_from p h n t i).1) ]),
    )

-- ---- the calls
head_left : (xs ys : List ℕ) (r : Option ℕ) → r ≡ slice_get xs 0 → true ≡ is_some r → r ≡ slice_get (xs ++ ys) 0
head_left [] ys r e s = absurd (let f : is_some r ≡ false = ap is_some e in let c : true ≡ false = s ∙ f in cc)
head_left (x ∷ xs) ys r e s = e

no_head : (xs : List ℕ) (r : Option ℕ) → r ≡ slice_get xs 0 → r ≡ None → xs ≡ []
no_head [] r e n = refl
no_head (x ∷ xs) r e n = absurd (let c : None ≡ Some x = sym n ∙ e in cc)

pub first_here : (p now : PoolView) (g later h : ℕ) (r : Option ℕ) → p ≡ now → from_on now.lists later ≡ from_on now.lists g → later < 9 → h ≡ later → r ≡ slice_get (chain_of p.lists (10 + h)) 0 → true ≡ is_some r → r ≡ slice_get (from_on now.lists g) 0
first_here p now g later h r e rest b eh is some =
    head_left (chain_of now.lists (10 + later)) (from_on now.lists (later + 1)) r (is ∙ (ap (λ v. slice_get (chain_of p.lists (10 + v)) 0) eh ∙ ap (λ (v : PoolView). slice_get (chain_of v.lists (10 + later)) 0) e)) some
    ∙ ap (λ v. slice_get v 0) (sym (from_more now.lists later b) ∙ rest)

pub first_later : (p now : PoolView) (g later h : ℕ) (r : Option ℕ) → p ≡ now → from_on now.lists later ≡ from_on now.lists g → later < 9 → h ≡ later → r ≡ slice_get (chain_of p.lists (10 + h)) 0 → r ≡ None → from_on now.lists (later + 1) ≡ from_on now.lists g
first_later p now g later h r e rest b eh is none =
    let empty : chain_of now.lists (10 + later) ≡ [] = no_head (chain_of now.lists (10 + later)) r (is ∙ (ap (λ v. slice_get (chain_of p.lists (10 + v)) 0) eh ∙ ap (λ (v : PoolView). slice_get (chain_of v.lists (10 + later)) 0) e)) none in
    sym (ap (λ v. v ++ from_on now.lists (later + 1)) empty) ∙ (sym (from_more now.lists later b) ∙ rest)

pub first_never : (lists : List (List ℕ)) (g later : ℕ) → from_on lists later ≡ from_on lists g → 9 ≤ later → None ≡ slice_get (from_on lists g) 0
first_never lists g later rest b = ap (λ v. slice_get v 0) (sym (from_none lists later b) ∙ rest)

-- the place of a from-segment in the list
pub record IsAside (p : PoolView) (n : ℕ) : Type 0 where
  pub place : ℕ
  pub front : List ℕ
  pub here : slice_get (chain_of p.lists (10 + (numbered p.segments n).generation)) place ≡ Some n
  pub list : from_list p.lists ≡ front ++ (chain_of p.lists (10 + (numbered p.segments n).generation) ++ from_on p.lists ((numbered p.segments n).generation + 1))

pub aside_at : (p : PoolView) (n : ℕ) → IsSettled p → (numbered p.segments n).role ≡ From → IsAside p n
aside_at p n t is =
    let g : ℕ = (numbered p.segments n).generation in
    let l : list_of (numbered p.segments n) ≡ 10 + g = ap (λ r. list_for r g) is in
    let at : (k : ℕ) × (slice_get (chain_of p.lists (10 + g)) k ≡ Some n) = subst (λ v. (k : ℕ) × (slice_get (chain_of p.lists v) k ≡ Some n)) l (placed_at p.segments p.lists n t.listed (λ z. omega arith)) in
    let c : (front : List ℕ) × (from_on p.lists 0 ≡ front ++ (chain_of p.lists (10 + g) ++ from_on p.lists (g + 1))) = from_cut p.lists g 0 (omega arith) (t.generations n) in
    record { place = at.0; front = c.0; here = at.1; list = c.1 }

aside_next : (p : PoolView) (n : ℕ) (r : Option ℕ) (a : IsAside p n) → IsSettled p → r ≡ slice_get (chain_of p.lists (10 + (numbered p.segments n).generation) ++ from_on p.lists ((numbered p.segments n).generation + 1)) (a.place + 1) → IsNext (from_list p.lists) n r
aside_next p n r a t e =
    let fr : List ℕ = chain_of p.lists (10 + (numbered p.segments n).generation) in
    let rest : List ℕ = from_on p.lists ((numbered p.segments n).generation + 1) in
    let z : length a.front + (a.place + 1) ≡ length a.front + a.place + 1 = omega arith in
    next_at (from_list p.lists) n (length a.front + a.place) r (from_once p n t)
    (ap (λ v. slice_get v (length a.front + a.place)) a.list ∙ (get_right a.front (fr ++ rest) a.place ∙ (get_left fr rest a.place (slice_get_within fr a.place n a.here) ∙ a.here)))
    (e ∙ (sym (get_right a.front (fr ++ rest) (a.place + 1)) ∙ (ap (slice_get (a.front ++ (fr ++ rest))) z ∙ ap (λ v. slice_get v (length a.front + a.place + 1)) (sym a.list))))

-- it is in the same list
pub next_inside : (p : PoolView) (n : ℕ) (r : Option ℕ) → IsSettled p → (numbered p.segments n).role ≡ From → NextIs p.lists n r → true ≡ is_some r → IsNext (from_list p.lists) n r
next_inside p n r t is next some =
    let a : IsAside p n = aside_at p n t is in
    let fr : List ℕ = chain_of p.lists (10 + (numbered p.segments n).generation) in
    let e : r ≡ slice_get fr (a.place + 1) = next (10 + (numbered p.segments n).generation) a.place a.here in
    let b : a.place + 1 < length fr = elim (cases_lt (a.place + 1) (length fr)) [ inl b ↦ b | inr far ↦ absurd (let c : true ≡ false = some ∙ ap is_some (e ∙ slice_get_past fr (a.place + 1) far) in cc) ] in
    aside_next p n r a t (e ∙ sym (get_left fr (from_on p.lists ((numbered p.segments n).generation + 1)) (a.place + 1) b))

-- it is in a later one
pub next_beyond : (p : PoolView) (n : ℕ) (r first : Option ℕ) → IsSettled p → (numbered p.segments n).role ≡ From → NextIs p.lists n r → r ≡ None → first ≡ slice_get (from_on p.lists ((numbered p.segments n).generation + 1)) 0 → IsNext (from_list p.lists) n first
next_beyond p n r first t is next none e =
    let a : IsAside p n = aside_at p n t is in
    let fr : List ℕ = chain_of p.lists (10 + (numbered p.segments n).generation) in
    let rest : List ℕ = from_on p.lists ((numbered p.segments n).generation + 1) in
    let last : length fr ≤ a.place + 1 = elim (cases_lt (a.place + 1) (length fr)) [ inr far ↦ far | inl b ↦ absurd (some_there fr (a.place + 1) b (sym none ∙ next (10 + (numbered p.segments n).generation) a.place a.here)) ] in
    let z : length fr + 0 ≡ a.place + 1 = omega (arith, slice_get_within fr a.place n a.here) in
    aside_next p n first a t (e ∙ (sym (get_right fr rest 0) ∙ ap (slice_get (fr ++ rest)) z))

-- ---- for the answers
pub told_inside : (p now : PoolView) (n : ℕ) (r : Option ℕ) → p ≡ now → IsSettled now → (numbered now.segments n).role ≡ From → NextIs p.lists n r → true ≡ is_some r → IsNext (from_list now.lists) n r
told_inside p now n r e t is next some = next_inside now n r t is (subst (λ (v : PoolView). NextIs v.lists n r) e next) some

pub told_beyond : (p now : PoolView) (n h : ℕ) (r first : Option ℕ) (q : Segment) → p ≡ now → IsSettled now → (numbered now.segments n).role ≡ From → NextIs p.lists n r → r ≡ None → q ≡ get_or p.segments n q → h ≡ q.generation → first ≡ slice_get (from_on now.lists (h + 1)) 0
    → IsNext (from_list now.lists) n first
told_beyond p now n h r first q e t is next none read eh first_is =
    let q_is : q ≡ numbered p.segments n = here_is p now n q e (ap is_free is) read in
    let gen : h ≡ (numbered now.segments n).generation = eh ∙ (ap (λ (v : Segment). v.generation) q_is ∙ ap (λ (v : PoolView). (numbered v.segments n).generation) e) in
    next_beyond now n r first t is (subst (λ (v : PoolView). NextIs v.lists n r) e next) none (first_is ∙ ap (λ v. slice_get (from_on now.lists (v + 1)) 0) gen)

-- what contracts see of them
seen_from : (p : Segment) → p.role ≡ From → IsFrom (seen p)
seen_from p e = subst (λ r. IsFrom (seen (record p { role = r }))) (sym e) refl

from_seen : (p : Segment) → IsFrom (seen p) → p.role ≡ From
from_seen p h = elim p.role as (λ r. IsFrom (seen (record p { role = r })) → r ≡ From) [ Free ↦ λ h. absurd h | Current ↦ λ h. cc | From ↦ λ h. refl ] h

pub role_told : (thread : ℕ) (p : PoolView) (targets : Targets) (now : TerritoryView) (n : ℕ) → territory_view thread p targets ≡ now → IsFrom (segment_at now n) → (numbered p.segments n).role ≡ From
role_told thread p targets now n e h = from_seen (numbered p.segments n) (subst IsFrom (seen_at p.segments n) (subst (λ v. IsFrom (segment_at v n)) (sym e) h))

pub times_from : (p : PoolView) (n : ℕ) → IsSettled p → 0 < times n (from_list p.lists) → (numbered p.segments n).role ≡ From
unfolding from_on
times_from p n t i =
    let r : (h : ℕ) × (0 < times h (range_with_len 0 (9 - 0))) × (0 < times n (chain_of p.lists (10 + h))) = times_flat_in (λ h. chain_of p.lists (10 + h)) (range_with_len 0 (9 - 0)) n i in
    (in_from p r.0 n t r.2).0

-- where there is no segment there is no from-segment
pub none_without : (p : PoolView) → IsSettled p → length p.segments ≡ 0 → None ≡ slice_get (from_list p.lists) 0
none_without p t none =
    let first : Option ℕ = slice_get (from_list p.lists) 0 in
    elim first as (λ o. first ≡ o → None ≡ o) [
      | None ↦ λ e. refl
      | Some n ↦ λ e.
          let past : numbered p.segments n ≡ vacant = get_or_past p.segments n vacant (omega arith) in
          let role : Free ≡ From = sym (ap (λ (s : Segment). s.role) past) ∙ times_from p n t (in_at (from_list p.lists) 0 n e) in absurd (cc)
    ] refl

pub from_listed : (p : PoolView) (n : ℕ) → IsSettled p → (numbered p.segments n).role ≡ From → Contains (from_list p.lists) n
from_listed p n t is =
    let a : IsAside p n = aside_at p n t is in
    let fr : List ℕ = chain_of p.lists (10 + (numbered p.segments n).generation) in
    let rest : List ℕ = from_on p.lists ((numbered p.segments n).generation + 1) in
    contains_of n (from_list p.lists) (subst (λ v. 0 < times n v) (sym a.list) (omega (arith, times-append n a.front (fr ++ rest), times-append n fr rest, in_at fr a.place n a.here)))

pub from_ones : (thread : ℕ) (p : PoolView) (targets : Targets) (now : TerritoryView) → territory_view thread p targets ≡ now → IsSettled p → AreFromOnes now
from_ones thread p targets now e t = subst AreFromOnes e (record {
  aside = λ n c. subst IsFrom (sym (seen_at p.segments n)) (seen_from (numbered p.segments n) (times_from p n t (times_of (from_list p.lists) n c)));
  all = λ n h. from_listed p n t (from_seen (numbered p.segments n) (subst IsFrom (seen_at p.segments n) h));
  once = λ n. from_once p n t;
})

pub aside_within : (thread : ℕ) (p : PoolView) (targets : Targets) (now : TerritoryView) (n : ℕ) → territory_view thread p targets ≡ now → IsFrom (segment_at now n) → n < length p.segments
aside_within thread p targets now n e h = used_within p.segments n (ap is_free (role_told thread p targets now n e h))

if_seen : (o : Option SegmentView) (v : SegmentView) (P : SegmentView → Type 0) → o ≡ Some v → P v → IfSome o P
if_seen o v P e h = subst (λ w. IfSome w P) (sym e) h

shown_from : (p : Segment) → p.role ≡ From → seen p ≡ Some (record { space = p.space; generation = p.generation; words = length p.words; is_from = true; was_held = p.was_held; cards = p.cards })
shown_from p e = ap (λ r. seen (record p { role = r })) e

pub words_told : (thread : ℕ) (p : PoolView) (targets : Targets) (now : TerritoryView) (n r : ℕ) (q : Segment) → territory_view thread p targets ≡ now → IsFrom (segment_at now n) → q ≡ numbered p.segments n → r ≡ length q.words → IfSome (segment_at now n) (λ s. r ≡ s.words)
words_told thread p targets now n r q e h is rs =
    let at : segment_at now n ≡ Some _ = ap (λ v. segment_at v n) (sym e) ∙ (seen_at p.segments n ∙ shown_from (numbered p.segments n) (role_told thread p targets now n e h)) in
    if_seen (segment_at now n) _ (λ s. r ≡ s.words) at (rs ∙ ap (λ (v : Segment). length v.words) is)

pub generation_told : (thread : ℕ) (p : PoolView) (targets : Targets) (now : TerritoryView) (n r : ℕ) (q : Segment) → territory_view thread p targets ≡ now → IsFrom (segment_at now n) → q ≡ numbered p.segments n → r ≡ q.generation → IfSome (segment_at now n) (λ s. r ≡ s.generation)
generation_told thread p targets now n r q e h is rs =
    let at : segment_at now n ≡ Some _ = ap (λ v. segment_at v n) (sym e) ∙ (seen_at p.segments n ∙ shown_from (numbered p.segments n) (role_told thread p targets now n e h)) in
    if_seen (segment_at now n) _ (λ s. r ≡ s.generation) at (rs ∙ ap (λ (v : Segment). v.generation) is)

pub words_fit : (p : PoolView) (n r : ℕ) (q : Segment) → IsSettled p → q ≡ numbered p.segments n → r ≡ length q.words → r ≤ OFFSETS
words_fit p n r q t is rs = omega (arith, rs, ap (λ (v : Segment). length v.words) is, (t.sound n).small)
