-- The starts of a generation as a list.
use Rattle.std.proofs.Common.{◌≡◌, ◌≢◌, ℕ, zero, suc, ◌+◌, ◌-◌, ◌*◌, ◌/◌, ◌<◌, ◌≤◌, Bool, true, false, cond, eqb, List, [], ◌∷◌, ◌++◌, length, map, drop, Option, Some, None, is_some, IsSome, IfSome, Contains, refl, sym, ◌∙◌, ap, subst, arith, inl, inr, ◌⊎◌, append_assoc}
use Rattle.std.proofs.lemmas.Bool.{cases_eq, cases_lt}
use Rattle.std.proofs.lemmas.Bool.Decides.{nat_tests}
use Rattle.std.proofs.lemmas.Option.{same_Some, slice_get_read}
use Rattle.std.specs.List.{slice_get, filter, flat_map, range_with_len}
use Rattle.std.specs.FinMap.{get}
use Rattle.gc_words.specs.declared.address.TheConstants.{SEGMENTS, OFFSETS}
use Rattle.gc_words.specs.Layout.{address_of, segment_of, offset_of}
use Rattle.seg_chain.specs.Lists.{chain_of, times}
use Rattle.seg_chain.proofs.Counts.{times-append, here_in, later_in}
use Rattle.seg_chain.proofs.Laws.{contains_of, times_of}
use Rattle.segment.specs.Segments.{Segment, Start, IsSound, IsStart, is_free, spot, NoneWithin, NoneFrom}
use Rattle.segment.specs.declared.segment.Role.TheVariants.{Free, Current, From}
use Rattle.segment.proofs.Spots.{spot_start, spot_is, start_in as born_in}
use Rattle.territory.specs.declared.territory.Targets.{Targets}
use Rattle.territory.specs.Territories.{TerritoryView, segment_at, words_in, numbers_of, starts_in, starts_of_generation, AreItsStarts, IsNext}
use Rattle.territory.specs.Pools.{PoolView, IsSettled, AreUsed, numbered, seen, IsIn, list_of, list_for, starts_of, territory_view}
use Rattle.segment.specs.declared.segment.Role.{Role}
use Rattle.territory.proofs.Numbers.{seen_at, numbered_past}
use Rattle.territory.proofs.Listing.{listed_at, in_use_linked, free_of}
use Rattle.territory.proofs.Present.{IsPresent, present}
use Rattle.territory.proofs.Entries.{get-starts}
use Rattle.territory.proofs.Slots.{all_small, start_here}
use Rattle.territory.proofs.Growing.{in_at}
use Rattle.territory.proofs.Reading.{IsReached, reach, if_some}
use Rattle.territory.proofs.Nexts.{next_at, once_of, get_right}

-- ---- the starts of a segment from one place on
pub is_born : Segment → ℕ → Bool
is_born p k = is_some (spot p k)

pub starts_from : ℕ → ℕ → Segment → ℕ → ℕ → List ℕ
starts_from thread n p from zero = []
starts_from thread n p from (suc count) = cond (is_born p from) (address_of thread n (2 * from) ∷ starts_from thread n p (from + 1) count) (starts_from thread n p (from + 1) count)

born_yes : (p : Segment) (k : ℕ) → IsStart p k → is_born p k ≡ true
unfolding is_born
born_yes p k s = ap is_some (spot_start p k s)

born_no : (p : Segment) (k : ℕ) → (IsStart p k → ⊥) → is_born p k ≡ false
unfolding is_born
born_no p k h = elim (spot p k) as (λ o. spot p k ≡ o → is_some o ≡ false) [ None ↦ λ e. refl | Some x ↦ λ e. absurd (h (spot_is p k x e).0) ] refl

-- where nothing starts there is nothing to show
from_none : (thread n : ℕ) (p : Segment) (from count : ℕ) → NoneFrom (IsStart p) from → starts_from thread n p from count ≡ []
unfolding starts_from
from_none thread n p from zero h = refl
from_none thread n p from (suc count) h =
    ap (λ b. cond b (address_of thread n (2 * from) ∷ starts_from thread n p (from + 1) count) (starts_from thread n p (from + 1) count)) (born_no p from (h from (omega arith)))
    ∙ from_none thread n p (from + 1) count (λ j b. h j (omega arith))

-- the next start is the first that is shown
from_some : (thread n : ℕ) (p : Segment) (from count j : ℕ) → from ≤ j → j < from + count → IsStart p j → NoneWithin (IsStart p) from j → (rest : List ℕ) × (starts_from thread n p from count ≡ address_of thread n (2 * j) ∷ rest)
unfolding starts_from
from_some thread n p from zero j a b s none = absurd (omega arith)
from_some thread n p from (suc count) j a b s none =
    elim (cases_eq from j) [
      | inl e ↦ (
        starts_from thread n p (from + 1) count,
        ap (λ b. cond b (address_of thread n (2 * from) ∷ starts_from thread n p (from + 1) count) (starts_from thread n p (from + 1) count)) (born_yes p from (subst (IsStart p) (sym e) s))
            ∙ ap (λ v. address_of thread n (2 * v) ∷ starts_from thread n p (from + 1) count) e,
      )
      | inr ne ↦
          let r : (rest : List ℕ) × (starts_from thread n p (from + 1) count ≡ address_of thread n (2 * j) ∷ rest) = from_some thread n p (from + 1) count j (omega arith) (omega arith) s (λ i c d. none i (omega arith) d) in
          (r.0, ap (λ b. cond b (address_of thread n (2 * from) ∷ starts_from thread n p (from + 1) count) (starts_from thread n p (from + 1) count)) (born_no p from (none from (omega arith) (omega arith))) ∙ r.1)
    ]

-- the list up to a start and from it on
from_split : (thread n : ℕ) (p : Segment) (from count k : ℕ) → from ≤ k → k < from + count → IsStart p k → (us : List ℕ) × (starts_from thread n p from count ≡ us ++ (address_of thread n (2 * k) ∷ starts_from thread n p (k + 1) (from + count - (k + 1))))
unfolding starts_from
from_split thread n p from zero k a b s = absurd (omega arith)
from_split thread n p from (suc count) k a b s =
    elim (cases_eq from k) [
      | inl e ↦
          let c : count ≡ from + suc count - (k + 1) = omega arith in (
            [],
            ap (λ b. cond b (address_of thread n (2 * from) ∷ starts_from thread n p (from + 1) count) (starts_from thread n p (from + 1) count)) (born_yes p from (subst (IsStart p) (sym e) s))
                ∙ (ap (λ v. address_of thread n (2 * v) ∷ starts_from thread n p (v + 1) count) e ∙ ap (λ v. address_of thread n (2 * k) ∷ starts_from thread n p (k + 1) v) c),
          )
      | inr ne ↦
          let r : (us : List ℕ) × (starts_from thread n p (from + 1) count ≡ us ++ (address_of thread n (2 * k) ∷ starts_from thread n p (k + 1) (from + 1 + count - (k + 1)))) = from_split thread n p (from + 1) count k (omega arith) (omega arith) s in
          let c : from + 1 + count - (k + 1) ≡ from + suc count - (k + 1) = omega arith in
          let all : starts_from thread n p (from + 1) count ≡ r.0 ++ (address_of thread n (2 * k) ∷ starts_from thread n p (k + 1) (from + suc count - (k + 1))) = r.1 ∙ ap (λ v. r.0 ++ (address_of thread n (2 * k) ∷ starts_from thread n p (k + 1) v)) c in
          elim (is_born p from) as (λ t. (us : List ℕ) × (cond t (address_of thread n (2 * from) ∷ starts_from thread n p (from + 1) count) (starts_from thread n p (from + 1) count) ≡ us ++ (address_of thread n (2 * k) ∷ starts_from thread n p (k + 1) (from + suc count - (k + 1))))) [
            | true ↦ (address_of thread n (2 * from) ∷ r.0, ap (λ v. address_of thread n (2 * from) ∷ v) all)
            | false ↦ (r.0, all)
          ]
    ]

-- ---- what contracts say is this list
pub address_is : (thread n o : ℕ) → address_of thread n o ≡ (thread * SEGMENTS + n) * OFFSETS + o
unfolding address_of
address_is thread n o = refl

filtered : (thread n : ℕ) (p : PoolView) (from count : ℕ) → IsSettled p → 2 * (from + count) ≤ OFFSETS
    → filter (λ a. is_some (get (starts_of (thread * SEGMENTS) p.segments) a)) (map (λ k. address_of thread n (2 * k)) (range_with_len from count)) ≡ starts_from thread n (numbered p.segments n) from count
unfolding starts_from is_born
filtered thread n p from zero s b = refl
filtered thread n p from (suc count) s b =
    let a : ℕ = address_of thread n (2 * from) in
    let same : get (starts_of (thread * SEGMENTS) p.segments) a ≡ spot (numbered p.segments n) from =
    get-starts (thread * SEGMENTS) p.segments (all_small p.segments s.sound) a ∙ start_here (thread * SEGMENTS) p.segments n from a (omega arith) (address_is thread n (2 * from)) in
    let ih : filter (λ a. is_some (get (starts_of (thread * SEGMENTS) p.segments) a)) (map (λ k. address_of thread n (2 * k)) (range_with_len (from + 1) count)) ≡ starts_from thread n (numbered p.segments n) (from + 1) count = filtered thread n p (from + 1) count s (omega arith) in
    ap (λ o. cond (is_some o) (a ∷ filter (λ a. is_some (get (starts_of (thread * SEGMENTS) p.segments) a)) (map (λ k. address_of thread n (2 * k)) (range_with_len (from + 1) count))) (filter (λ a. is_some (get (starts_of (thread * SEGMENTS) p.segments) a)) (map (λ k. address_of thread n (2 * k)) (range_with_len (from + 1) count)))) same
    ∙ ap (λ v. cond (is_some (spot (numbered p.segments n) from)) (a ∷ v) v) ih

-- how many places a segment has
pub places : PoolView → ℕ → ℕ
places p n = words_in (seen (numbered p.segments n)) / 2

pub words_small : (q : Segment) → IsSound q → words_in (seen q) ≤ OFFSETS
words_small q s = elim q.role as (λ r. words_in (seen (record q { role = r })) ≤ OFFSETS) [ Free ↦ omega arith | Current ↦ s.small | From ↦ s.small ]

pub words_used : (q : Segment) → is_free q.role ≡ false → words_in (seen q) ≡ length q.words
words_used q u = elim q.role as (λ r. is_free r ≡ false → words_in (seen (record q { role = r })) ≡ length q.words) [ Free ↦ λ h. cc | Current ↦ λ h. refl | From ↦ λ h. refl ] u

pub start_places : (p : PoolView) (n k : ℕ) → IsSettled p → IsStart (numbered p.segments n) k → k < places p n
unfolding places
start_places p n k s is =
    let q : Segment = numbered p.segments n in
    let b : (k < length q.births) × _ × _ = born_in q k (s.sound n).laid is.1 in
    omega (arith, words_used q is.0, (s.sound n).births, b.0)

pub starts_in_is : (thread : ℕ) (p : PoolView) (targets : Targets) (n : ℕ) → IsSettled p → starts_in (territory_view thread p targets) n ≡ starts_from thread n (numbered p.segments n) 0 (places p n)
unfolding starts_in places
starts_in_is thread p targets n s =
    let w : words_in (seen (numbered p.segments n)) ≤ OFFSETS = words_small (numbered p.segments n) (s.sound n) in
    ap (λ v. filter (λ a. is_some (get (starts_of (thread * SEGMENTS) p.segments) a)) (map (λ k. address_of thread n (2 * k)) (range_with_len 0 (words_in v / 2)))) (seen_at p.segments n)
    ∙ filtered thread n p 0 (words_in (seen (numbered p.segments n)) / 2) s (omega arith)

-- the first start of a segment
pub first_told : (thread : ℕ) (p : PoolView) (targets : Targets) (n k : ℕ) → IsSettled p → IsStart (numbered p.segments n) k → NoneWithin (IsStart (numbered p.segments n)) 0 k → (rest : List ℕ) × (starts_in (territory_view thread p targets) n ≡ address_of thread n (2 * k) ∷ rest)
first_told thread p targets n k s is none =
    let r : (rest : List ℕ) × (starts_from thread n (numbered p.segments n) 0 (places p n) ≡ address_of thread n (2 * k) ∷ rest) = from_some thread n (numbered p.segments n) 0 (places p n) k (omega arith) (omega (arith, start_places p n k s is)) is none in
    (r.0, starts_in_is thread p targets n s ∙ r.1)

-- the starts of a segment, cut at one of them
pub split_told : (thread : ℕ) (p : PoolView) (targets : Targets) (n k : ℕ) → IsSettled p → IsStart (numbered p.segments n) k
    → (us : List ℕ) × (starts_in (territory_view thread p targets) n ≡ us ++ (address_of thread n (2 * k) ∷ starts_from thread n (numbered p.segments n) (k + 1) (0 + places p n - (k + 1))))
split_told thread p targets n k s is =
    let r : (us : List ℕ) × (starts_from thread n (numbered p.segments n) 0 (places p n) ≡ us ++ (address_of thread n (2 * k) ∷ starts_from thread n (numbered p.segments n) (k + 1) (0 + places p n - (k + 1)))) =
    from_split thread n (numbered p.segments n) 0 (places p n) k (omega arith) (omega (arith, start_places p n k s is)) is in
    (r.0, starts_in_is thread p targets n s ∙ r.1)

-- ---- lists of lists
pub flat_first : (f : ℕ → List ℕ) (ns : List ℕ) (n a : ℕ) (rest : List ℕ) → slice_get ns 0 ≡ Some n → f n ≡ a ∷ rest → slice_get (flat_map f ns) 0 ≡ Some a
flat_first f [] n a rest h e = cc
flat_first f (m ∷ ns) n a rest h e =
    let same : m ≡ n = same_Some _ _ h in
    ap (λ v. slice_get (v ++ flat_map f ns) 0) (ap f same ∙ e)

pub flat_none : (f : ℕ → List ℕ) (ns : List ℕ) → slice_get ns 0 ≡ None → flat_map f ns ≡ []
flat_none f [] h = refl
flat_none f (m ∷ ns) h = cc

pub flat_cut : (f : ℕ → List ℕ) (ns : List ℕ) (i n : ℕ) → slice_get ns i ≡ Some n → (front : List ℕ) × (flat_map f ns ≡ front ++ (f n ++ flat_map f (drop (i + 1) ns)))
flat_cut f [] i n h = cc
flat_cut f (m ∷ ns) zero n h =
    let same : m ≡ n = same_Some _ _ h in
    let z : 0 + 1 ≡ 1 = omega arith in
    let d : drop (0 + 1) (m ∷ ns) ≡ ns = ap (λ v. drop v (m ∷ ns)) z in
    ([], ap (λ v. f v ++ flat_map f ns) same ∙ ap (λ v. f n ++ flat_map f v) (sym d))
flat_cut f (m ∷ ns) (suc i) n h =
    let r : (front : List ℕ) × (flat_map f ns ≡ front ++ (f n ++ flat_map f (drop (i + 1) ns))) = flat_cut f ns i n h in
    let z : suc i + 1 ≡ suc (i + 1) = omega arith in
    let d : drop (suc i + 1) (m ∷ ns) ≡ drop (i + 1) ns = ap (λ v. drop v (m ∷ ns)) z in
    (f m ++ r.0, ap (λ v. f m ++ v) r.1 ∙ (sym (append_assoc (f m) r.0 (f n ++ flat_map f (drop (i + 1) ns))) ∙ ap (λ v. f m ++ r.0 ++ (f n ++ flat_map f v)) (sym d)))

-- what comes after a in `front ++ a ∷ rest`
pub next_cut : (xs front rest : List ℕ) (a : ℕ) (r : Option ℕ) → times a xs ≤ 1 → xs ≡ front ++ a ∷ rest → r ≡ slice_get rest 0 → IsNext xs a r
next_cut xs front rest a r once e is =
    let z : length front ≡ length front + 0 = omega arith in
    let here : slice_get xs (length front) ≡ Some a = ap (λ v. slice_get v (length front)) e ∙ (ap (slice_get (front ++ a ∷ rest)) z ∙ get_right front (a ∷ rest) 0) in
    let after : slice_get xs (length front + 1) ≡ slice_get rest 0 = ap (λ v. slice_get v (length front + 1)) e ∙ (get_right front (a ∷ rest) 1 ∙ refl) in
    next_at xs a (length front) r once here (is ∙ sym after)

-- ---- each start once
pub segment_is : (thread n o a : ℕ) → n < SEGMENTS → o < OFFSETS → a ≡ address_of thread n o → segment_of a ≡ n
unfolding address_of segment_of
segment_is thread n o a small b e = omega arith

from_below : (thread n : ℕ) (p : Segment) (from count a : ℕ) → a < address_of thread n (2 * from) → times a (starts_from thread n p from count) ≡ 0
unfolding starts_from address_of
from_below thread n p from zero a h = refl
from_below thread n p from (suc count) a h =
    let later : times a (starts_from thread n p (from + 1) count) ≡ 0 = from_below thread n p (from + 1) count a (omega arith) in
    let ne : eqb a ((thread * SEGMENTS + n) * OFFSETS + 2 * from) ≡ false = (let d : a ≢ (thread * SEGMENTS + n) * OFFSETS + 2 * from = λ e. absurd (omega arith) in grind (arith, nat_tests, d)) in
    elim (is_born p from) as (λ t. times a (cond t (((thread * SEGMENTS + n) * OFFSETS + 2 * from) ∷ starts_from thread n p (from + 1) count) (starts_from thread n p (from + 1) count)) ≡ 0) [
      | true ↦ ap (λ b. cond b 1 0 + times a (starts_from thread n p (from + 1) count)) ne ∙ omega arith
      | false ↦ later
    ]

from_once : (thread n : ℕ) (p : Segment) (from count a : ℕ) → times a (starts_from thread n p from count) ≤ 1
unfolding starts_from address_of
from_once thread n p from zero a = omega arith
from_once thread n p from (suc count) a =
    let later : times a (starts_from thread n p (from + 1) count) ≤ 1 = from_once thread n p (from + 1) count a in
    elim (is_born p from) as (λ t. times a (cond t (((thread * SEGMENTS + n) * OFFSETS + 2 * from) ∷ starts_from thread n p (from + 1) count) (starts_from thread n p (from + 1) count)) ≤ 1) [
      | true ↦ elim (cases_eq a ((thread * SEGMENTS + n) * OFFSETS + 2 * from)) [
        | inl e ↦
            let none : times a (starts_from thread n p (from + 1) count) ≡ 0 = from_below thread n p (from + 1) count a (omega arith) in
            let most : cond (eqb a ((thread * SEGMENTS + n) * OFFSETS + 2 * from)) 1 0 ≤ 1 = elim (eqb a ((thread * SEGMENTS + n) * OFFSETS + 2 * from)) as (λ b. cond b 1 0 ≤ 1) [ true ↦ omega arith | false ↦ omega arith ] in
            omega arith
        | inr ne ↦ (let d : eqb a ((thread * SEGMENTS + n) * OFFSETS + 2 * from) ≡ false = grind (arith, nat_tests, ne) in
            let z : ◌≡◌ {A = ℕ} (cond (eqb a ((thread * SEGMENTS + n) * OFFSETS + 2 * from)) 1 0) 0 = ap (λ b. cond b 1 0) d in omega arith)
      ]
      | false ↦ later
    ]

from_other : (thread n : ℕ) (p : Segment) (from count a : ℕ) → n < SEGMENTS → 2 * (from + count) ≤ OFFSETS → segment_of a ≢ n → times a (starts_from thread n p from count) ≡ 0
unfolding starts_from
from_other thread n p from zero a small b ne = refl
from_other thread n p from (suc count) a small b ne =
    let later : times a (starts_from thread n p (from + 1) count) ≡ 0 = from_other thread n p (from + 1) count a small (omega arith) ne in
    let apart : a ≢ address_of thread n (2 * from) = λ e. ne (segment_is thread n (2 * from) a small (omega arith) e) in
    let d : eqb a (address_of thread n (2 * from)) ≡ false = grind (arith, nat_tests, apart) in
    elim (is_born p from) as (λ t. times a (cond t (address_of thread n (2 * from) ∷ starts_from thread n p (from + 1) count) (starts_from thread n p (from + 1) count)) ≡ 0) [
      | true ↦ ap (λ b. cond b 1 0 + times a (starts_from thread n p (from + 1) count)) d ∙ omega arith
      | false ↦ later
    ]

-- the starts of one segment: each once, and of no other segment
pub in_once : (thread : ℕ) (p : PoolView) (targets : Targets) (n a : ℕ) → IsSettled p → times a (starts_in (territory_view thread p targets) n) ≤ 1
in_once thread p targets n a s = subst (λ v. times a v ≤ 1) (sym (starts_in_is thread p targets n s)) (from_once thread n (numbered p.segments n) 0 (places p n) a)

past_none : (thread : ℕ) (p : PoolView) (n a : ℕ) → length p.segments ≤ n → times a (starts_from thread n (numbered p.segments n) 0 (places p n)) ≡ 0
unfolding places starts_from
past_none thread p n a far = ap (λ q. times a (starts_from thread n q 0 (words_in (seen q) / 2))) (numbered_past p.segments n far)

pub in_other : (thread : ℕ) (p : PoolView) (targets : Targets) (n a : ℕ) → IsSettled p → segment_of a ≢ n → times a (starts_in (territory_view thread p targets) n) ≡ 0
unfolding places
in_other thread p targets n a s ne =
    subst (λ v. times a v ≡ 0) (sym (starts_in_is thread p targets n s)) (elim (cases_lt n (length p.segments)) [
      | inl b ↦ let w : words_in (seen (numbered p.segments n)) ≤ OFFSETS = words_small (numbered p.segments n) (s.sound n) in from_other thread n (numbered p.segments n) 0 (places p n) a (omega (arith, s.count)) (omega arith) ne
      | inr far ↦ past_none thread p n a far
    ])

pub times_flat : (f : ℕ → List ℕ) (ns : List ℕ) (a n0 : ℕ) → ((n : ℕ) → times a (f n) ≤ 1) → ((n : ℕ) → n0 ≢ n → times a (f n) ≡ 0) → times a (flat_map f ns) ≤ times n0 ns
times_flat f [] a n0 once other = omega arith
times_flat f (m ∷ ns) a n0 once other =
    let later : times a (flat_map f ns) ≤ times n0 ns = times_flat f ns a n0 once other in
    elim (cases_eq n0 m) [
      | inl e ↦ let y : ◌≡◌ {A = ℕ} (cond (eqb n0 m) 1 0) 1 = (let t : eqb n0 m ≡ true = grind (arith, nat_tests, e) in ap (λ b. cond b 1 0) t) in omega (arith, times-append a (f m) (flat_map f ns), once m)
      | inr ne ↦ omega (arith, times-append a (f m) (flat_map f ns), other m ne)
    ]

pub times_flat_in : (f : ℕ → List ℕ) (ns : List ℕ) (a : ℕ) → 0 < times a (flat_map f ns) → (n : ℕ) × (0 < times n ns) × (0 < times a (f n))
times_flat_in f [] a h = absurd (omega arith)
times_flat_in f (m ∷ ns) a h =
    elim (cases_lt 0 (times a (f m))) [
      | inl b ↦ (m, here_in m ns, b)
      | inr none ↦ let r : (n : ℕ) × (0 < times n ns) × (0 < times a (f n)) = times_flat_in f ns a (omega (arith, times-append a (f m) (flat_map f ns))) in (r.0, later_in r.0 m ns r.1, r.2)
    ]

pub times_flat_ge : (f : ℕ → List ℕ) (ns : List ℕ) (a n : ℕ) → 0 < times n ns → 0 < times a (f n) → 0 < times a (flat_map f ns)
times_flat_ge f [] a n h k = absurd (omega arith)
times_flat_ge f (m ∷ ns) a n h k =
    elim (cases_eq n m) [
      | inl e ↦ let k' : 0 < times a (f m) = subst (λ v. 0 < times a (f v)) e k in omega (arith, times-append a (f m) (flat_map f ns))
      | inr ne ↦ let h' : 0 < times n ns = (let t : eqb n m ≡ false = grind (arith, nat_tests, ne) in let z : ◌≡◌ {A = ℕ} (cond (eqb n m) 1 0) 0 = ap (λ b. cond b 1 0) t in omega arith) in omega (arith, times-append a (f m) (flat_map f ns), times_flat_ge f ns a n h' k)
    ]

pub filter_passes : (test : ℕ → Bool) (xs : List ℕ) (a : ℕ) → 0 < times a (filter test xs) → test a ≡ true
filter_passes test [] a h = absurd (omega arith)
filter_passes test (x ∷ xs) a h =
    elim (test x) as (λ t. test x ≡ t → 0 < times a (cond t (x ∷ filter test xs) (filter test xs)) → test a ≡ true) [
      | true ↦ λ e k. elim (cases_eq a x) [
        | inl same ↦ ap test same ∙ e
        | inr ne ↦ filter_passes test xs a (let t : eqb a x ≡ false = grind (arith, nat_tests, ne) in let z : ◌≡◌ {A = ℕ} (cond (eqb a x) 1 0) 0 = ap (λ b. cond b 1 0) t in omega arith)
      ]
      | false ↦ λ e k. filter_passes test xs a k
    ] refl h

in_is_start : (t : TerritoryView) (n a : ℕ) → 0 < times a (starts_in t n) → is_some (get t.starts a) ≡ true
unfolding starts_in
in_is_start t n a h = filter_passes (λ a. is_some (get t.starts a)) (map (λ k. address_of t.thread n (2 * k)) (range_with_len 0 (words_in (segment_at t n) / 2))) a h

-- ---- the list of a generation
pub all_once : (thread : ℕ) (p : PoolView) (targets : Targets) (g a : ℕ) → IsSettled p → g < 9 → times a (starts_of_generation (territory_view thread p targets) g) ≤ 1
unfolding starts_of_generation
all_once thread p targets g a s small =
    omega (
      arith,
      times_flat (starts_in (territory_view thread p targets)) (numbers_of p.lists g) a (segment_of a) (λ n. in_once thread p targets n a s) (λ n ne. in_other thread p targets n a s ne),
      once_of p.lists g (segment_of a) s.listed.each_once s.listed.chains small,
    )

-- a number that stands in the lists of a generation has a segment of it
list_generation : (r : Role) (g h : ℕ) → g < 9 → h < 9 → (list_for r h ≡ 1 + g) ⊎ (list_for r h ≡ 10 + g) → h ≡ g
list_generation Free g h a b e = elim e [ inl x ↦ absurd (omega arith) | inr x ↦ absurd (omega arith) ]
list_generation Current g h a b e = elim e [ inl x ↦ omega arith | inr x ↦ absurd (omega arith) ]
list_generation From g h a b e = elim e [ inl x ↦ absurd (omega arith) | inr x ↦ omega arith ]

number_generation : (p : PoolView) (g n : ℕ) → IsSettled p → g < 9 → 0 < times n (numbers_of p.lists g) → (numbered p.segments n).generation ≡ g
number_generation p g n s small h =
    list_generation (numbered p.segments n).role g (numbered p.segments n).generation small (s.generations n)
    (elim (cases_lt 0 (times n (chain_of p.lists (1 + g)))) [
      | inl b ↦ inl (s.listed.fits (1 + g) n b)
      | inr none ↦ inr (s.listed.fits (10 + g) n (omega (arith, times-append n (chain_of p.lists (1 + g)) (chain_of p.lists (10 + g)))))
    ])

listed_either : (r : Role) (g : ℕ) (lists : List (List ℕ)) (n : ℕ) → is_free r ≡ false → IsIn lists (list_for r g) n → 0 < times n (numbers_of lists g)
listed_either Free g lists n u i = cc
listed_either Current g lists n u i = omega (arith, times-append n (chain_of lists (1 + g)) (chain_of lists (10 + g)))
listed_either From g lists n u i = omega (arith, times-append n (chain_of lists (1 + g)) (chain_of lists (10 + g)))

number_listed : (p : PoolView) (n : ℕ) → IsSettled p → is_free (numbered p.segments n).role ≡ false → 0 < times n (numbers_of p.lists (numbered p.segments n).generation)
number_listed p n s used =
    let q : Segment = numbered p.segments n in
    let i : IsIn p.lists (list_of q) n = listed_at p.segments p.lists n s.listed (in_use_linked p.segments p.lists n s.listed (λ z. let c : true ≡ false = sym (ap is_free (free_of q z)) ∙ used in cc)) in
    listed_either q.role q.generation p.lists n used i

pub is_some_of : (o : Option Start) → is_some o ≡ true → (x : Start) × (o ≡ Some x)
is_some_of None h = cc
is_some_of (Some x) h = (x, refl)

pub its_starts : (thread : ℕ) (p : PoolView) (targets : Targets) (now : TerritoryView) (g : ℕ) → territory_view thread p targets ≡ now → IsSettled p → g < 9 → AreItsStarts now g (starts_of_generation now g)
unfolding starts_of_generation
its_starts thread p targets now g e s small =
    let t : TerritoryView = territory_view thread p targets in
    subst (λ v. AreItsStarts v g (starts_of_generation v g)) e (record {
      starts = λ a c.
          let r : (n : ℕ) × (0 < times n (numbers_of p.lists g)) × (0 < times a (starts_in t n)) = times_flat_in (starts_in t) (numbers_of p.lists g) a (times_of (flat_map (starts_in t) (numbers_of p.lists g)) a c) in
          let x : (x : Start) × (get t.starts a ≡ Some x) = is_some_of (get t.starts a) (in_is_start t r.0 a r.2) in
          let at : IsPresent thread p.segments a x.0 = present thread p a x.0 s x.1 in
          let same : segment_of a ≡ r.0 = elim (cases_eq (segment_of a) r.0) [ inl y ↦ y | inr ne ↦ absurd (omega (arith, r.2, in_other thread p targets r.0 a s ne)) ] in
          let gen : x.0.generation ≡ g = ap (λ (v : Start). v.generation) at.object ∙ (ap (λ v. (numbered p.segments v).generation) same ∙ number_generation p g r.0 s small r.1) in
          (subst (λ o. IfSome o (λ x. x.generation ≡ g)) (sym x.1) gen, subst IsSome (sym x.1) refl);
      all = λ a x has gen.
          let at : IsPresent thread p.segments a x = present thread p a x s has in
          let n : ℕ = segment_of a in
          let k : ℕ = offset_of a / 2 in
          let is_g : (numbered p.segments n).generation ≡ g = ap (λ (v : Start). v.generation) (sym at.object) ∙ gen in
          let in_list : 0 < times n (numbers_of p.lists g) = subst (λ v. 0 < times n (numbers_of p.lists v)) is_g (number_listed p n s at.starts.0) in
          let cut : (us : List ℕ) × (starts_in t n ≡ us ++ (address_of thread n (2 * k) ∷ starts_from thread n (numbered p.segments n) (k + 1) (0 + places p n - (k + 1)))) = split_told thread p targets n k s at.starts in
          let a_is : address_of thread n (2 * k) ≡ a = address_is thread n (2 * k) ∙ sym at.address in
          let there : 0 < times a (starts_in t n) = subst (λ v. 0 < times a v) (sym cut.1) (subst (λ v. 0 < times a (cut.0 ++ (v ∷ starts_from thread n (numbered p.segments n) (k + 1) (0 + places p n - (k + 1))))) (sym a_is)
          (omega (arith, times-append a cut.0 (a ∷ starts_from thread n (numbered p.segments n) (k + 1) (0 + places p n - (k + 1))), here_in a (starts_from thread n (numbered p.segments n) (k + 1) (0 + places p n - (k + 1)))))) in
          contains_of a (flat_map (starts_in t) (numbers_of p.lists g)) (times_flat_ge (starts_in t) (numbers_of p.lists g) a n in_list there);
      once = λ a. all_once thread p targets g a s small;
    })

-- ---- the calls
pub drop_get : (xs : List ℕ) (i : ℕ) → slice_get (drop i xs) 0 ≡ slice_get xs i
drop_get [] zero = refl
drop_get [] (suc i) = refl
drop_get (x ∷ xs) zero = refl
drop_get (x ∷ xs) (suc i) = drop_get xs i

used_some : (q : Segment) → IsSome (seen q) → is_free q.role ≡ false
used_some q h = elim q.role as (λ r. IsSome (seen (record q { role = r })) → is_free r ≡ false) [ Free ↦ λ h. cc | Current ↦ λ h. refl | From ↦ λ h. refl ] h

some_used : (q : Segment) → is_free q.role ≡ false → IsSome (seen q)
some_used q u = elim q.role as (λ r. is_free r ≡ false → IsSome (seen (record q { role = r }))) [ Free ↦ λ h. cc | Current ↦ λ h. refl | From ↦ λ h. refl ] u

pub segment_used : (thread : ℕ) (p : PoolView) (targets : Targets) (now : TerritoryView) (n : ℕ) → territory_view thread p targets ≡ now → IsSome (segment_at now n) → is_free (numbered p.segments n).role ≡ false
segment_used thread p targets now n e h = used_some (numbered p.segments n) (subst IsSome (seen_at p.segments n) (subst (λ v. IsSome (segment_at v n)) (sym e) h))

-- the first start of a segment
pub first_some : (thread : ℕ) (p : PoolView) (targets : Targets) (now : TerritoryView) (n k a : ℕ) (q : Segment) → territory_view thread p targets ≡ now → IsSettled p → q ≡ numbered p.segments n → IsStart q k → NoneWithin (IsStart q) 0 k → a ≡ address_of now.thread n (2 * k)
    → Some a ≡ slice_get (starts_in now n) 0
first_some thread p targets now n k a q e s is start none here =
    let r : (rest : List ℕ) × (starts_in (territory_view thread p targets) n ≡ address_of thread n (2 * k) ∷ rest) = first_told thread p targets n k s (subst (λ v. IsStart v k) is start) (subst (λ v. NoneWithin (IsStart v) 0 k) is none) in
    ap Some (here ∙ ap (λ (v : TerritoryView). address_of v.thread n (2 * k)) (sym e)) ∙ (sym (ap (λ v. slice_get v 0) r.1) ∙ ap (λ v. slice_get (starts_in v n) 0) e)

pub never_none : (p : PoolView) (n : ℕ) (q : Segment) → AreUsed p.segments → is_free (numbered p.segments n).role ≡ false → q ≡ numbered p.segments n → NoneFrom (IsStart q) 0 → ⊥
never_none p n q u used is none = let k : (k : ℕ) × IsStart (numbered p.segments n) k = u n used in none k.0 (omega arith) (subst (λ v. IsStart v k.0) (sym is) k.1)

pub start_small : (p : PoolView) (n k : ℕ) (q : Segment) → IsSettled p → q ≡ numbered p.segments n → IsStart q k → k < 4194304
start_small p n k q s is start =
    let b : (k < length (numbered p.segments n).births) × _ × _ = born_in (numbered p.segments n) k (s.sound n).laid (subst (λ v. IsStart v k) is start).1 in
    omega (arith, b.0, (s.sound n).births, (s.sound n).small)

-- the first start of a generation
list_used : (r : Role) (h g : ℕ) → (list_for r h ≡ 1 + g) ⊎ (list_for r h ≡ 10 + g) → is_free r ≡ false
list_used Free h g e = elim e [ inl x ↦ absurd (omega arith) | inr x ↦ absurd (omega arith) ]
list_used Current h g e = refl
list_used From h g e = refl

pub listed_used : (thread : ℕ) (p : PoolView) (targets : Targets) (now : TerritoryView) (g n i : ℕ) → territory_view thread p targets ≡ now → IsSettled p → slice_get (numbers_of p.lists g) i ≡ Some n → IsSome (segment_at now n)
listed_used thread p targets now g n i e s at =
    let t : 0 < times n (numbers_of p.lists g) = in_at (numbers_of p.lists g) i n at in
    let l : (list_of (numbered p.segments n) ≡ 1 + g) ⊎ (list_of (numbered p.segments n) ≡ 10 + g) = elim (cases_lt 0 (times n (chain_of p.lists (1 + g)))) [
      | inl b ↦ inl (s.listed.fits (1 + g) n b)
      | inr none ↦ inr (s.listed.fits (10 + g) n (omega (arith, times-append n (chain_of p.lists (1 + g)) (chain_of p.lists (10 + g)))))
    ] in
    let u : is_free (numbered p.segments n).role ≡ false = list_used (numbered p.segments n).role (numbered p.segments n).generation g l in
    subst (λ v. IsSome (segment_at v n)) e (subst IsSome (sym (seen_at p.segments n)) (some_used (numbered p.segments n) u))

pub generation_none : (now : TerritoryView) (g : ℕ) (r : Option ℕ) → r ≡ slice_get (numbers_of now.lists g) 0 → r ≡ None → None ≡ slice_get (starts_of_generation now g) 0
unfolding starts_of_generation
generation_none now g r e n = sym (ap (λ v. slice_get v 0) (flat_none (starts_in now) (numbers_of now.lists g) (sym e ∙ n)))

some_nothing : (r : Option ℕ) → IsSome r → r ≡ None → ⊥
some_nothing None s e = cc
some_nothing (Some x) s e = cc

head_is : (xs : List ℕ) (r : Option ℕ) → IsSome r → r ≡ slice_get xs 0 → (a : ℕ) × (rest : List ℕ) × (r ≡ Some a) × (xs ≡ a ∷ rest)
head_is [] r s e = absurd (some_nothing r s e)
head_is (x ∷ xs) r s e = (x, xs, e, refl)

pub generation_first : (now : TerritoryView) (g n : ℕ) (r : Option ℕ) → slice_get (numbers_of now.lists g) 0 ≡ Some n → IsSome r → r ≡ slice_get (starts_in now n) 0 → r ≡ slice_get (starts_of_generation now g) 0
unfolding starts_of_generation
generation_first now g n r first s e =
    let h : (a : ℕ) × (rest : List ℕ) × (r ≡ Some a) × (starts_in now n ≡ a ∷ rest) = head_is (starts_in now n) r s e in
    h.2 ∙ sym (flat_first (starts_in now) (numbers_of now.lists g) n h.0 h.1 first h.3)

-- ---- the next start
pub record IsBehind (now : TerritoryView) (g a n : ℕ) (rest : List ℕ) (i : ℕ) : Type 0 where
  pub number : slice_get (numbers_of now.lists g) i ≡ Some n
  pub front : List ℕ
  pub list : starts_of_generation now g ≡ front ++ a ∷ (rest ++ flat_map (starts_in now) (drop (i + 1) (numbers_of now.lists g)))
  pub once : times a (starts_of_generation now g) ≤ 1

pub behind : (thread : ℕ) (p : PoolView) (targets : Targets) (now : TerritoryView) (a : ℕ) (x : Start) → territory_view thread p targets ≡ now → IsSettled p → get now.starts a ≡ Some x
    → (i : ℕ) × IsBehind now x.generation a (segment_of a) (starts_from thread (segment_of a) (numbered p.segments (segment_of a)) (offset_of a / 2 + 1) (0 + places p (segment_of a) - (offset_of a / 2 + 1))) i
unfolding starts_of_generation
behind thread p targets now a x e s has0 =
    let t : TerritoryView = territory_view thread p targets in
    let n : ℕ = segment_of a in
    let k : ℕ = offset_of a / 2 in
    let has : get t.starts a ≡ Some x = ap (λ (v : TerritoryView). get v.starts a) e ∙ has0 in
    let at : IsPresent thread p.segments a x = present thread p a x s has in
    let rest : List ℕ = starts_from thread n (numbered p.segments n) (k + 1) (0 + places p n - (k + 1)) in
    let gen : (numbered p.segments n).generation ≡ x.generation = ap (λ (v : Start). v.generation) (sym at.object) in
    let small : x.generation < 9 = omega (arith, gen, s.generations n) in
    let there : Contains (numbers_of p.lists x.generation) n = contains_of n (numbers_of p.lists x.generation) (subst (λ v. 0 < times n (numbers_of p.lists v)) gen (number_listed p n s at.starts.0)) in
    let number : slice_get (numbers_of p.lists x.generation) there.0 ≡ Some n = slice_get_read (numbers_of p.lists x.generation) (length (numbers_of p.lists x.generation)) there.0 n refl there.1 (sym there.2) in
    let cut : (us : List ℕ) × (starts_in t n ≡ us ++ (address_of thread n (2 * k) ∷ rest)) = split_told thread p targets n k s at.starts in
    let a_is : address_of thread n (2 * k) ≡ a = address_is thread n (2 * k) ∙ sym at.address in
    let tail : List ℕ = flat_map (starts_in t) (drop (there.0 + 1) (numbers_of p.lists x.generation)) in
    let flat : (front : List ℕ) × (flat_map (starts_in t) (numbers_of p.lists x.generation) ≡ front ++ (starts_in t n ++ tail)) = flat_cut (starts_in t) (numbers_of p.lists x.generation) there.0 n number in
    let list : flat_map (starts_in t) (numbers_of p.lists x.generation) ≡ flat.0 ++ cut.0 ++ a ∷ (rest ++ tail) =
    flat.1 ∙ (ap (λ v. flat.0 ++ (v ++ tail)) (cut.1 ∙ ap (λ v. cut.0 ++ (v ∷ rest)) a_is) ∙ (ap (λ v. flat.0 ++ v) (append_assoc cut.0 (a ∷ rest) tail) ∙ sym (append_assoc flat.0 cut.0 (a ∷ (rest ++ tail))))) in
    (there.0, subst (λ v. IsBehind v x.generation a n rest there.0) e (record { number = number; front = flat.0 ++ cut.0; list = list; once = all_once thread p targets x.generation a s small }))

-- it is in the same segment
pub next_same : (thread : ℕ) (p : PoolView) (targets : Targets) (now : TerritoryView) (a n k j b : ℕ) (x : Start) (q : Segment) → territory_view thread p targets ≡ now → IsSettled p → get now.starts a ≡ Some x → n ≡ segment_of a → k ≡ offset_of a / 2 → q ≡ numbered p.segments n
    → k + 1 ≤ j → IsStart q j → NoneWithin (IsStart q) (k + 1) j → b ≡ address_of now.thread n (2 * j) → IsNext (starts_of_generation now x.generation) a (Some b)
next_same thread p targets now a n k j b x q e s has en ek is after start none here =
    let h : (i : ℕ) × IsBehind now x.generation a (segment_of a) (starts_from thread (segment_of a) (numbered p.segments (segment_of a)) (offset_of a / 2 + 1) (0 + places p (segment_of a) - (offset_of a / 2 + 1))) i = behind thread p targets now a x e s has in
    let q_is : q ≡ numbered p.segments (segment_of a) = is ∙ ap (numbered p.segments) en in
    let start' : IsStart (numbered p.segments (segment_of a)) j = subst (λ v. IsStart v j) q_is start in
    let none' : NoneWithin (IsStart (numbered p.segments (segment_of a))) (offset_of a / 2 + 1) j = subst (λ v. NoneWithin (IsStart (numbered p.segments (segment_of a))) (v + 1) j) ek (subst (λ v. NoneWithin (IsStart v) (k + 1) j) q_is none) in
    let r : (rest : List ℕ) × (starts_from thread (segment_of a) (numbered p.segments (segment_of a)) (offset_of a / 2 + 1) (0 + places p (segment_of a) - (offset_of a / 2 + 1)) ≡ address_of thread (segment_of a) (2 * j) ∷ rest) =
    from_some thread (segment_of a) (numbered p.segments (segment_of a)) (offset_of a / 2 + 1) (0 + places p (segment_of a) - (offset_of a / 2 + 1)) j (omega (arith, ek)) (omega (arith, ek, start_places p (segment_of a) j s start')) start' none' in
    let b_is : address_of thread (segment_of a) (2 * j) ≡ b = ap (λ (v : TerritoryView). address_of v.thread (segment_of a) (2 * j)) e ∙ (ap (λ v. address_of now.thread v (2 * j)) (sym en) ∙ sym here) in
    let tail : List ℕ = flat_map (starts_in now) (drop (h.0 + 1) (numbers_of now.lists x.generation)) in
    next_cut (starts_of_generation now x.generation) h.1.front (b ∷ (r.0 ++ tail)) a (Some b) h.1.once (h.1.list ∙ ap (λ v. h.1.front ++ a ∷ (v ++ tail)) (r.1 ∙ ap (λ v. v ∷ r.0) b_is)) refl

-- no more start in the segment
last_there : (thread : ℕ) (p : PoolView) (targets : Targets) (now : TerritoryView) (a n k : ℕ) (x : Start) (q : Segment) → territory_view thread p targets ≡ now → IsSettled p → get now.starts a ≡ Some x → n ≡ segment_of a → k ≡ offset_of a / 2 → q ≡ numbered p.segments n
    → NoneFrom (IsStart q) (k + 1) → (i : ℕ) × IsBehind now x.generation a n [] i
last_there thread p targets now a n k x q e s has en ek is none =
    let h : (i : ℕ) × IsBehind now x.generation a (segment_of a) (starts_from thread (segment_of a) (numbered p.segments (segment_of a)) (offset_of a / 2 + 1) (0 + places p (segment_of a) - (offset_of a / 2 + 1))) i = behind thread p targets now a x e s has in
    let none' : NoneFrom (IsStart (numbered p.segments (segment_of a))) (offset_of a / 2 + 1) = subst (λ v. NoneFrom (IsStart (numbered p.segments (segment_of a))) (v + 1)) ek (subst (λ v. NoneFrom (IsStart v) (k + 1)) (is ∙ ap (numbered p.segments) en) none) in (
      h.0,
      subst (λ v. IsBehind now x.generation a v [] h.0) (sym en) (subst (λ v. IsBehind now x.generation a (segment_of a) v h.0)
          (from_none thread (segment_of a) (numbered p.segments (segment_of a)) (offset_of a / 2 + 1) (0 + places p (segment_of a) - (offset_of a / 2 + 1)) none') h.1),
    )

after_is : (now : TerritoryView) (g n i : ℕ) (o : Option ℕ) → slice_get (numbers_of now.lists g) i ≡ Some n → IsNext (numbers_of now.lists g) n o → slice_get (drop (i + 1) (numbers_of now.lists g)) 0 ≡ o
after_is now g n i o at next = drop_get (numbers_of now.lists g) (i + 1) ∙ sym (next i at)

pub next_nothing : (thread : ℕ) (p : PoolView) (targets : Targets) (now : TerritoryView) (a n k : ℕ) (x : Start) (q : Segment) (o : Option ℕ) → territory_view thread p targets ≡ now → IsSettled p → get now.starts a ≡ Some x → n ≡ segment_of a → k ≡ offset_of a / 2 → q ≡ numbered p.segments n
    → NoneFrom (IsStart q) (k + 1) → IsNext (numbers_of now.lists x.generation) n o → o ≡ None → IsNext (starts_of_generation now x.generation) a None
next_nothing thread p targets now a n k x q o e s has en ek is none next last =
    let h : (i : ℕ) × IsBehind now x.generation a n [] i = last_there thread p targets now a n k x q e s has en ek is none in
    let tail : flat_map (starts_in now) (drop (h.0 + 1) (numbers_of now.lists x.generation)) ≡ [] = flat_none (starts_in now) (drop (h.0 + 1) (numbers_of now.lists x.generation)) (after_is now x.generation n h.0 o h.1.number next ∙ last) in
    next_cut (starts_of_generation now x.generation) h.1.front [] a None h.1.once (h.1.list ∙ ap (λ v. h.1.front ++ a ∷ v) tail) refl

pub next_later : (thread : ℕ) (p : PoolView) (targets : Targets) (now : TerritoryView) (a n k m : ℕ) (x : Start) (q : Segment) (o r : Option ℕ) → territory_view thread p targets ≡ now → IsSettled p → get now.starts a ≡ Some x → n ≡ segment_of a → k ≡ offset_of a / 2 → q ≡ numbered p.segments n
    → NoneFrom (IsStart q) (k + 1) → IsNext (numbers_of now.lists x.generation) n o → o ≡ Some m → IsSome r → r ≡ slice_get (starts_in now m) 0 → IsNext (starts_of_generation now x.generation) a r
next_later thread p targets now a n k m x q o r e s has en ek is none next more some first =
    let h : (i : ℕ) × IsBehind now x.generation a n [] i = last_there thread p targets now a n k x q e s has en ek is none in
    let tail : List ℕ = flat_map (starts_in now) (drop (h.0 + 1) (numbers_of now.lists x.generation)) in
    let head : (b : ℕ) × (rest : List ℕ) × (r ≡ Some b) × (starts_in now m ≡ b ∷ rest) = head_is (starts_in now m) r some first in
    let at : slice_get tail 0 ≡ Some head.0 = flat_first (starts_in now) (drop (h.0 + 1) (numbers_of now.lists x.generation)) m head.0 head.1 (after_is now x.generation n h.0 o h.1.number next ∙ more) head.3 in
    next_cut (starts_of_generation now x.generation) h.1.front tail a r h.1.once h.1.list (head.2 ∙ sym at)

-- ---- for the answers of `next_start`
number_next : (thread : ℕ) (p : PoolView) (targets : Targets) (now : TerritoryView) (a n : ℕ) (o : Option ℕ) → territory_view thread p targets ≡ now → (r : IsReached thread p now a) → n ≡ segment_of a → IsNext (numbers_of p.lists (numbered p.segments n).generation) n o
    → IsNext (numbers_of now.lists r.start.generation) n o
number_next thread p targets now a n o e r en next =
    let gen : (numbered p.segments n).generation ≡ r.start.generation = ap (λ v. (numbered p.segments v).generation) en ∙ sym (ap (λ (v : Start). v.generation) r.present.object) in
    subst (λ (v : TerritoryView). IsNext (numbers_of v.lists r.start.generation) n o) e (subst (λ v. IsNext (numbers_of p.lists v) n o) gen next)

pub place_small : (thread : ℕ) (p : PoolView) (targets : Targets) (now : TerritoryView) (a k : ℕ) → territory_view thread p targets ≡ now → IsSettled p → IsSome (get now.starts a) → k ≡ offset_of a / 2 → k < OFFSETS
place_small thread p targets now a k e s h ek = let r : IsReached thread p now a = reach thread p targets now a s e h in omega (arith, r.present.small)

pub place_used : (thread : ℕ) (p : PoolView) (targets : Targets) (now : TerritoryView) (a n : ℕ) → territory_view thread p targets ≡ now → IsSettled p → IsSome (get now.starts a) → n ≡ segment_of a → is_free (numbered p.segments n).role ≡ false
place_used thread p targets now a n e s h en = let r : IsReached thread p now a = reach thread p targets now a s e h in subst (λ v. is_free (numbered p.segments v).role ≡ false) (sym en) r.present.starts.0

pub told_same : (thread : ℕ) (p : PoolView) (targets : Targets) (now : TerritoryView) (a n k j b : ℕ) (q : Segment) → territory_view thread p targets ≡ now → IsSettled p → IsSome (get now.starts a) → n ≡ segment_of a → k ≡ offset_of a / 2 → q ≡ numbered p.segments n
    → k + 1 ≤ j → IsStart q j → NoneWithin (IsStart q) (k + 1) j → b ≡ address_of now.thread n (2 * j) → IfSome (get now.starts a) (λ x. IsNext (starts_of_generation now x.generation) a (Some b))
told_same thread p targets now a n k j b q e s h en ek is after start none here =
    let r : IsReached thread p now a = reach thread p targets now a s e h in
    if_some (get now.starts a) r.start (λ x. IsNext (starts_of_generation now x.generation) a (Some b)) r.has (next_same thread p targets now a n k j b r.start q e s r.has en ek is after start none here)

pub told_nothing : (thread : ℕ) (p : PoolView) (targets : Targets) (now : TerritoryView) (a n k : ℕ) (q : Segment) (o last : Option ℕ) → territory_view thread p targets ≡ now → IsSettled p → IsSome (get now.starts a) → n ≡ segment_of a → k ≡ offset_of a / 2 → q ≡ numbered p.segments n
    → NoneFrom (IsStart q) (k + 1) → IsNext (numbers_of p.lists (numbered p.segments n).generation) n o → o ≡ None → last ≡ None → IfSome (get now.starts a) (λ x. IsNext (starts_of_generation now x.generation) a last)
told_nothing thread p targets now a n k q o last e s h en ek is none next end last_is =
    let r : IsReached thread p now a = reach thread p targets now a s e h in
    if_some (get now.starts a) r.start (λ x. IsNext (starts_of_generation now x.generation) a last) r.has
    (subst (IsNext (starts_of_generation now r.start.generation) a) (sym last_is) (next_nothing thread p targets now a n k r.start q o e s r.has en ek is none (number_next thread p targets now a n o e r en next) end))

pub told_later : (thread : ℕ) (p : PoolView) (targets : Targets) (now : TerritoryView) (a n k m : ℕ) (q : Segment) (o r : Option ℕ) → territory_view thread p targets ≡ now → IsSettled p → IsSome (get now.starts a) → n ≡ segment_of a → k ≡ offset_of a / 2 → q ≡ numbered p.segments n
    → NoneFrom (IsStart q) (k + 1) → IsNext (numbers_of p.lists (numbered p.segments n).generation) n o → o ≡ Some m → IsSome r → r ≡ slice_get (starts_in now m) 0 → IfSome (get now.starts a) (λ x. IsNext (starts_of_generation now x.generation) a r)
told_later thread p targets now a n k m q o r e s h en ek is none next more some first =
    let c : IsReached thread p now a = reach thread p targets now a s e h in
    if_some (get now.starts a) c.start (λ x. IsNext (starts_of_generation now x.generation) a r) c.has
    (next_later thread p targets now a n k m c.start q o r e s c.has en ek is none (number_next thread p targets now a n o e c en next) more some first)

-- the segment after it is in use
pub later_used : (thread : ℕ) (p : PoolView) (targets : Targets) (now : TerritoryView) (n m : ℕ) (o : Option ℕ) → territory_view thread p targets ≡ now → IsSettled p → is_free (numbered p.segments n).role ≡ false → IsNext (numbers_of p.lists (numbered p.segments n).generation) n o → o ≡ Some m → IsSome (segment_at now m)
later_used thread p targets now n m o e s used next more =
    let g : ℕ = (numbered p.segments n).generation in
    let there : Contains (numbers_of p.lists g) n = contains_of n (numbers_of p.lists g) (number_listed p n s used) in
    let number : slice_get (numbers_of p.lists g) there.0 ≡ Some n = slice_get_read (numbers_of p.lists g) (length (numbers_of p.lists g)) there.0 n refl there.1 (sym there.2) in
    listed_used thread p targets now g m (there.0 + 1) e s (sym (next there.0 number) ∙ more)
