-- The old starts as a list.
use Rattle.std.proofs.Common.{◌≡◌, ◌≢◌, ℕ, zero, suc, ◌+◌, ◌-◌, ◌*◌, ◌/◌, ◌<◌, ◌≤◌, Bool, true, false, cond, eqb, List, [], ◌∷◌, ◌++◌, length, map, drop, Option, Some, None, option_map, IsSome, IfSome, Contains, refl, sym, ◌∙◌, ap, subst, arith, inl, inr}
use Rattle.std.proofs.lemmas.Bool.{cases_eq, cases_lt}
use Rattle.std.proofs.lemmas.Bool.Decides.{nat_tests}
use Rattle.std.specs.List.{slice_get, filter, flat_map, range_with_len}
use Rattle.std.specs.FinMap.{get}
use Rattle.gc_words.specs.declared.address.TheConstants.{SEGMENTS, OFFSETS}
use Rattle.gc_words.specs.Layout.{address_of, segment_of, offset_of}
use Rattle.cards.specs.Cards.{card_of, IsDirty}
use Rattle.seg_chain.specs.Lists.{chain_of, times}
use Rattle.seg_chain.proofs.Counts.{times-append, here_in}
use Rattle.seg_chain.proofs.Laws.{contains_of, times_of}
use Rattle.segment.specs.Segments.{Segment, Start, IsStart, NoneWithin, NoneFrom, size_at}
use Rattle.segment.proofs.Spots.{start_in}
use Rattle.territory.specs.declared.territory.Targets.{Targets}
use Rattle.territory.specs.Territories.{TerritoryView, words_in}
use Rattle.territory.specs.Pools.{PoolView, IsSettled, numbered, seen, shows_dirty, territory_view}
use Rattle.territory.specs.Olds.{IsOld, AreOldOnes, is_old, olds_in, olds_of, IsOldAt, NoOldsBefore, IsFoundOld, IsFirstOld}
use Rattle.territory.proofs.Numbers.{seen_at, numbered_past}
use Rattle.territory.proofs.Dirties.{marked_dirty}
use Rattle.territory.proofs.Present.{IsPresent, present}
use Rattle.territory.proofs.Growing.{in_at}
use Rattle.territory.proofs.Asides.{once_in}
use Rattle.territory.proofs.AgedPool.{in_chain}
use Rattle.territory.proofs.AgedAll.{drop_is, get_drop}
use Rattle.territory.proofs.Showing.{words_small, words_used, times_flat, times_flat_in, times_flat_ge, filter_passes, segment_is}
use Rattle.territory.proofs.OldTests.{has_old, old_told, old_test, old_seen, seen_old, not_old}

-- ---- the addresses of some places of a segment, and those of them that pass a test
abbrev pub places_of : ℕ → ℕ → ℕ → ℕ → List ℕ
places_of thread n from count = map (λ k. address_of thread n (2 * k)) (range_with_len from count)

abbrev pub passing : (ℕ → Bool) → ℕ → ℕ → ℕ → ℕ → List ℕ
passing test thread n from count = filter test (places_of thread n from count)

passing_none : (test : ℕ → Bool) (thread n from count : ℕ) → ((j : ℕ) → from ≤ j → j < from + count → test (address_of thread n (2 * j)) ≡ false) → passing test thread n from count ≡ []
passing_none test thread n from zero h = refl
passing_none test thread n from (suc count) h =
    ap (λ b. cond b (address_of thread n (2 * from) ∷ passing test thread n (from + 1) count) (passing test thread n (from + 1) count)) (h from (omega arith) (omega arith))
    ∙ passing_none test thread n (from + 1) count (λ j a b. h j (omega arith) (omega arith))

passing_some : (test : ℕ → Bool) (thread n from count j : ℕ) → from ≤ j → j < from + count → test (address_of thread n (2 * j)) ≡ true → ((i : ℕ) → from ≤ i → i < j → test (address_of thread n (2 * i)) ≡ false)
    → (rest : List ℕ) × (passing test thread n from count ≡ address_of thread n (2 * j) ∷ rest)
passing_some test thread n from zero j a b s none = absurd (omega arith)
passing_some test thread n from (suc count) j a b s none =
    elim (cases_eq from j) [
      | inl e ↦ (
        passing test thread n (from + 1) count,
        ap (λ b. cond b (address_of thread n (2 * from) ∷ passing test thread n (from + 1) count) (passing test thread n (from + 1) count)) (subst (λ v. test (address_of thread n (2 * v)) ≡ true) (sym e) s)
            ∙ ap (λ v. address_of thread n (2 * v) ∷ passing test thread n (from + 1) count) e,
      )
      | inr ne ↦
          let r : (rest : List ℕ) × (passing test thread n (from + 1) count ≡ address_of thread n (2 * j) ∷ rest) = passing_some test thread n (from + 1) count j (omega arith) (omega arith) s (λ i c d. none i (omega arith) d) in
          (r.0, ap (λ b. cond b (address_of thread n (2 * from) ∷ passing test thread n (from + 1) count) (passing test thread n (from + 1) count)) (none from (omega arith) (omega arith)) ∙ r.1)
    ]

-- the list up to one of them, and from it on
passing_split : (test : ℕ → Bool) (thread n from count k : ℕ) → from ≤ k → k < from + count → test (address_of thread n (2 * k)) ≡ true
    → (us : List ℕ) × (passing test thread n from count ≡ us ++ (address_of thread n (2 * k) ∷ passing test thread n (k + 1) (from + count - (k + 1))))
passing_split test thread n from zero k a b s = absurd (omega arith)
passing_split test thread n from (suc count) k a b s =
    elim (cases_eq from k) [
      | inl e ↦
          let c : count ≡ from + suc count - (k + 1) = omega arith in (
            [],
            ap (λ b. cond b (address_of thread n (2 * from) ∷ passing test thread n (from + 1) count) (passing test thread n (from + 1) count)) (subst (λ v. test (address_of thread n (2 * v)) ≡ true) (sym e) s)
                ∙ (ap (λ v. address_of thread n (2 * v) ∷ passing test thread n (v + 1) count) e ∙ ap (λ v. address_of thread n (2 * k) ∷ passing test thread n (k + 1) v) c),
          )
      | inr ne ↦
          let r : (us : List ℕ) × (passing test thread n (from + 1) count ≡ us ++ (address_of thread n (2 * k) ∷ passing test thread n (k + 1) (from + 1 + count - (k + 1)))) = passing_split test thread n (from + 1) count k (omega arith) (omega arith) s in
          let c : from + 1 + count - (k + 1) ≡ from + suc count - (k + 1) = omega arith in
          let all : passing test thread n (from + 1) count ≡ r.0 ++ (address_of thread n (2 * k) ∷ passing test thread n (k + 1) (from + suc count - (k + 1))) = r.1 ∙ ap (λ v. r.0 ++ (address_of thread n (2 * k) ∷ passing test thread n (k + 1) v)) c in
          elim (test (address_of thread n (2 * from))) as (λ t. (us : List ℕ) × (cond t (address_of thread n (2 * from) ∷ passing test thread n (from + 1) count) (passing test thread n (from + 1) count) ≡ us ++ (address_of thread n (2 * k) ∷ passing test thread n (k + 1) (from + suc count - (k + 1))))) [
            | true ↦ (address_of thread n (2 * from) ∷ r.0, ap (λ v. address_of thread n (2 * from) ∷ v) all)
            | false ↦ (r.0, all)
          ]
    ]

-- ---- each once, and of no other segment
times-filter_le : (test : ℕ → Bool) (xs : List ℕ) (a : ℕ) → times a (filter test xs) ≤ times a xs
times-filter_le test [] a = omega arith
times-filter_le test (x ∷ xs) a =
    let rest : times a (filter test xs) ≤ times a xs = times-filter_le test xs a in
    elim (test x) as (λ b. times a (cond b (x ∷ filter test xs) (filter test xs)) ≤ times a (x ∷ xs)) [ true ↦ omega arith | false ↦ omega arith ]

other_hit : (a x : ℕ) → a ≢ x → ◌≡◌ {A = ℕ} (cond (eqb a x) 1 0) 0
other_hit a x ne = let t : eqb a x ≡ false = grind (arith, nat_tests, ne) in ap (λ b. cond b 1 0) t

most_hit : (a x : ℕ) → cond (eqb a x) 1 0 ≤ 1
most_hit a x = elim (eqb a x) as (λ b. cond b 1 0 ≤ 1) [ true ↦ omega arith | false ↦ omega arith ]

places_below : (thread n from count a : ℕ) → a < address_of thread n (2 * from) → times a (places_of thread n from count) ≡ 0
unfolding address_of
places_below thread n from zero a h = refl
places_below thread n from (suc count) a h =
    omega (arith, other_hit a ((thread * SEGMENTS + n) * OFFSETS + 2 * from) (λ e. absurd (omega arith)), places_below thread n (from + 1) count a (omega arith))

places_once : (thread n from count a : ℕ) → times a (places_of thread n from count) ≤ 1
unfolding address_of
places_once thread n from zero a = omega arith
places_once thread n from (suc count) a =
    elim (cases_eq a ((thread * SEGMENTS + n) * OFFSETS + 2 * from)) [
      | inl e ↦ omega (arith, most_hit a ((thread * SEGMENTS + n) * OFFSETS + 2 * from), places_below thread n (from + 1) count a (omega arith))
      | inr ne ↦ omega (arith, other_hit a ((thread * SEGMENTS + n) * OFFSETS + 2 * from) ne, places_once thread n (from + 1) count a)
    ]

places_other : (thread n from count a : ℕ) → n < SEGMENTS → 2 * (from + count) ≤ OFFSETS → segment_of a ≢ n → times a (places_of thread n from count) ≡ 0
places_other thread n from zero a small b ne = refl
places_other thread n from (suc count) a small b ne =
    omega (arith, other_hit a (address_of thread n (2 * from)) (λ e. ne (segment_is thread n (2 * from) a small (omega arith) e)), places_other thread n (from + 1) count a small (omega arith) ne)

-- ---- the old starts of a segment
pub places : PoolView → ℕ → ℕ
places p n = words_in (seen (numbered p.segments n)) / 2

pub start_places : (p : PoolView) (n k : ℕ) → IsSettled p → IsStart (numbered p.segments n) k → k < places p n
unfolding places
start_places p n k s is =
    let q : Segment = numbered p.segments n in
    let b : (k < length q.births) × _ × _ = start_in q k (s.sound n).laid is.1 in
    omega (arith, words_used q is.0, (s.sound n).births, b.0)

places_small : (p : PoolView) (n : ℕ) → IsSettled p → 2 * places p n ≤ OFFSETS
unfolding places
places_small p n s = omega (arith, words_small (numbered p.segments n) (s.sound n))

olds_in_is : (thread : ℕ) (p : PoolView) (targets : Targets) (cg n : ℕ) → olds_in (territory_view thread p targets) cg n ≡ passing (is_old (territory_view thread p targets) cg) thread n 0 (places p n)
unfolding olds_in places
olds_in_is thread p targets cg n = ap (λ v. passing (is_old (territory_view thread p targets) cg) thread n 0 (words_in v / 2)) (seen_at p.segments n)

pub none_old : (thread : ℕ) (p : PoolView) (targets : Targets) (cg n from : ℕ) → IsSettled p → n < length p.segments → NoneFrom (IsOldAt p.segments cg n) from → passing (is_old (territory_view thread p targets) cg) thread n from (0 + places p n - from) ≡ []
none_old thread p targets cg n from s within none =
    passing_none (is_old (territory_view thread p targets) cg) thread n from (0 + places p n - from)
    (λ j a b. not_old thread p targets cg n j s (omega (arith, s.count)) (omega (arith, places_small p n s)) (none j a))

pub first_old : (thread : ℕ) (p : PoolView) (targets : Targets) (cg n from k : ℕ) → IsSettled p → n < length p.segments → from ≤ k → IsOldAt p.segments cg n k → NoneWithin (IsOldAt p.segments cg n) from k
    → (rest : List ℕ) × (passing (is_old (territory_view thread p targets) cg) thread n from (0 + places p n - from) ≡ address_of thread n (2 * k) ∷ rest)
first_old thread p targets cg n from k s within low old least =
    let b : k < places p n = start_places p n k s old.1.0 in
    passing_some (is_old (territory_view thread p targets) cg) thread n from (0 + places p n - from) k low (omega arith) (old_seen thread p targets cg n k s (omega (arith, s.count)) (omega (arith, places_small p n s)) old)
    (λ i c d. not_old thread p targets cg n i s (omega (arith, s.count)) (omega (arith, places_small p n s)) (least i c d))

none_in : (thread : ℕ) (p : PoolView) (targets : Targets) (cg n : ℕ) → IsSettled p → n < length p.segments → NoneFrom (IsOldAt p.segments cg n) 0 → olds_in (territory_view thread p targets) cg n ≡ []
none_in thread p targets cg n s within none =
    let z : 0 + places p n - 0 ≡ places p n = omega arith in
    olds_in_is thread p targets cg n ∙ (ap (passing (is_old (territory_view thread p targets) cg) thread n 0) (sym z) ∙ none_old thread p targets cg n 0 s within none)

first_in : (thread : ℕ) (p : PoolView) (targets : Targets) (cg n k : ℕ) → IsSettled p → n < length p.segments → IsOldAt p.segments cg n k → NoneWithin (IsOldAt p.segments cg n) 0 k
    → (rest : List ℕ) × (olds_in (territory_view thread p targets) cg n ≡ address_of thread n (2 * k) ∷ rest)
first_in thread p targets cg n k s within old least =
    let z : 0 + places p n - 0 ≡ places p n = omega arith in
    let r : (rest : List ℕ) × (passing (is_old (territory_view thread p targets) cg) thread n 0 (0 + places p n - 0) ≡ address_of thread n (2 * k) ∷ rest) = first_old thread p targets cg n 0 k s within (omega arith) old least in
    (r.0, olds_in_is thread p targets cg n ∙ (ap (passing (is_old (territory_view thread p targets) cg) thread n 0) (sym z) ∙ r.1))

pub split_in : (thread : ℕ) (p : PoolView) (targets : Targets) (cg n k : ℕ) → IsSettled p → n < length p.segments → IsOldAt p.segments cg n k
    → (us : List ℕ) × (olds_in (territory_view thread p targets) cg n ≡ us ++ (address_of thread n (2 * k) ∷ passing (is_old (territory_view thread p targets) cg) thread n (k + 1) (0 + places p n - (k + 1))))
split_in thread p targets cg n k s within old =
    let b : k < places p n = start_places p n k s old.1.0 in
    let r : (us : List ℕ) × (passing (is_old (territory_view thread p targets) cg) thread n 0 (places p n) ≡ us ++ (address_of thread n (2 * k) ∷ passing (is_old (territory_view thread p targets) cg) thread n (k + 1) (0 + places p n - (k + 1)))) =
    passing_split (is_old (territory_view thread p targets) cg) thread n 0 (places p n) k (omega arith) (omega arith) (old_seen thread p targets cg n k s (omega (arith, s.count)) (omega (arith, places_small p n s)) old) in
    (r.0, olds_in_is thread p targets cg n ∙ r.1)

in_once : (thread : ℕ) (p : PoolView) (targets : Targets) (cg n a : ℕ) → times a (olds_in (territory_view thread p targets) cg n) ≤ 1
in_once thread p targets cg n a =
    subst (λ v. times a v ≤ 1) (sym (olds_in_is thread p targets cg n))
    (omega (arith, times-filter_le (is_old (territory_view thread p targets) cg) (places_of thread n 0 (places p n)) a, places_once thread n 0 (places p n) a))

past_none : (thread : ℕ) (p : PoolView) (n a : ℕ) → length p.segments ≤ n → times a (places_of thread n 0 (places p n)) ≡ 0
unfolding places
past_none thread p n a far = ap (λ q. times a (places_of thread n 0 (words_in (seen q) / 2))) (numbered_past p.segments n far)

in_other : (thread : ℕ) (p : PoolView) (targets : Targets) (cg n a : ℕ) → IsSettled p → segment_of a ≢ n → times a (olds_in (territory_view thread p targets) cg n) ≡ 0
in_other thread p targets cg n a s ne =
    let none : times a (places_of thread n 0 (places p n)) ≡ 0 = elim (cases_lt n (length p.segments)) [
      | inl b ↦ places_other thread n 0 (places p n) a (omega (arith, s.count)) (omega (arith, places_small p n s)) ne
      | inr far ↦ past_none thread p n a far
    ] in
    subst (λ v. times a v ≡ 0) (sym (olds_in_is thread p targets cg n)) (omega (arith, times-filter_le (is_old (territory_view thread p targets) cg) (places_of thread n 0 (places p n)) a))

in_is_old : (thread : ℕ) (p : PoolView) (targets : Targets) (cg n a : ℕ) → 0 < times a (olds_in (territory_view thread p targets) cg n) → is_old (territory_view thread p targets) cg a ≡ true
in_is_old thread p targets cg n a h =
    filter_passes (is_old (territory_view thread p targets) cg) (places_of thread n 0 (places p n)) a (subst (λ v. 0 < times a v) (olds_in_is thread p targets cg n) h)

-- ---- one segment after the other
flat_skip : (f : ℕ → List ℕ) (ns : List ℕ) (count : ℕ) → ((j n : ℕ) → j < count → slice_get ns j ≡ Some n → f n ≡ []) → flat_map f ns ≡ flat_map f (drop count ns)
flat_skip f [] zero h = refl
flat_skip f [] (suc count) h = refl
flat_skip f (m ∷ ns) zero h = refl
flat_skip f (m ∷ ns) (suc count) h =
    ap (λ v. v ++ flat_map f ns) (h 0 m (omega arith) refl) ∙ flat_skip f ns count (λ j n lt at. h (suc j) n (omega arith) at)

flat_empty : (f : ℕ → List ℕ) (ns : List ℕ) → ((j n : ℕ) → slice_get ns j ≡ Some n → f n ≡ []) → flat_map f ns ≡ []
flat_empty f [] h = refl
flat_empty f (m ∷ ns) h = ap (λ v. v ++ flat_map f ns) (h 0 m refl) ∙ flat_empty f ns (λ j n at. h (suc j) n at)

-- a part of the dirty list has segments in use
pub part_within : (p : PoolView) (i j n : ℕ) → IsSettled p → slice_get (drop i (chain_of p.dirty 1)) j ≡ Some n → n < length p.segments
part_within p i j n s h = (in_chain p n s (in_at (chain_of p.dirty 1) (i + j) n (sym (get_drop (chain_of p.dirty 1) i j) ∙ h))).within

pub found_first : (thread : ℕ) (p : PoolView) (targets : Targets) (cg i n k : ℕ) → IsSettled p → IsFoundOld p.segments cg (drop i (chain_of p.dirty 1)) n k
    → slice_get (flat_map (olds_in (territory_view thread p targets) cg) (drop i (chain_of p.dirty 1))) 0 ≡ Some (address_of thread n (2 * k))
found_first thread p targets cg i n k s found =
    let f : ℕ → List ℕ = olds_in (territory_view thread p targets) cg in
    let ns : List ℕ = drop i (chain_of p.dirty 1) in
    let r : (rest : List ℕ) × (f n ≡ address_of thread n (2 * k) ∷ rest) = first_in thread p targets cg n k s (part_within p i found.place n s found.here) found.old found.least in
    let skip : flat_map f ns ≡ f n ++ flat_map f (drop (found.place + 1) ns) =
    flat_skip f ns found.place (λ j m lt at. none_in thread p targets cg m s (part_within p i j m s at) (found.before j m lt at)) ∙ ap (flat_map f) (drop_is ns found.place n found.here) in
    ap (λ v. slice_get v 0) (skip ∙ ap (λ v. v ++ flat_map f (drop (found.place + 1) ns)) r.1)

none_first : (thread : ℕ) (p : PoolView) (targets : Targets) (cg i : ℕ) → IsSettled p → ((count : ℕ) → NoOldsBefore p.segments cg (drop i (chain_of p.dirty 1)) count) → flat_map (olds_in (territory_view thread p targets) cg) (drop i (chain_of p.dirty 1)) ≡ []
none_first thread p targets cg i s none =
    flat_empty (olds_in (territory_view thread p targets) cg) (drop i (chain_of p.dirty 1)) (λ j n at. none_in thread p targets cg n s (part_within p i j n s at) (none (j + 1) j n (omega arith) at))

-- what the pool found is the first of the list
pub told_first : (thread : ℕ) (p : PoolView) (targets : Targets) (cg i : ℕ) (r : Option (ℕ × ℕ)) → IsSettled p → IsFirstOld p.segments cg (drop i (chain_of p.dirty 1)) r
    → slice_get (flat_map (olds_in (territory_view thread p targets) cg) (drop i (chain_of p.dirty 1))) 0 ≡ option_map (λ at. address_of thread at.0 (2 * at.1)) r
told_first thread p targets cg i None s h = ap (λ v. slice_get v 0) (none_first thread p targets cg i s h)
told_first thread p targets cg i (Some at) s h = found_first thread p targets cg i at.0 at.1 s h

-- ---- the list has the old starts, each once
pub all_once : (thread : ℕ) (p : PoolView) (targets : Targets) (cg a : ℕ) → IsSettled p → times a (olds_of (territory_view thread p targets) cg) ≤ 1
unfolding olds_of
all_once thread p targets cg a s =
    omega (
      arith,
      times_flat (olds_in (territory_view thread p targets) cg) (chain_of p.dirty 1) a (segment_of a) (λ n. in_once thread p targets cg n a) (λ n ne. in_other thread p targets cg n a s ne),
      once_in p.dirty 1 (segment_of a) s.dirty.each_once (omega (arith, s.dirty.chains)),
    )

-- where an old start of the list stands
pub record IsInList (thread : ℕ) (p : PoolView) (targets : Targets) (cg a : ℕ) : Type 0 where
  pub start : Start
  pub has : get (territory_view thread p targets).starts a ≡ Some start
  pub present : IsPresent thread p.segments a start
  pub told : IsOld (territory_view thread p targets) cg a start
  pub listed : 0 < times (segment_of a) (chain_of p.dirty 1)
  pub old : IsOldAt p.segments cg (segment_of a) (offset_of a / 2)
  pub address : address_of thread (segment_of a) (2 * (offset_of a / 2)) ≡ a

address_back : (thread : ℕ) (p : PoolView) (a : ℕ) (x : Start) → IsPresent thread p.segments a x → address_of thread (segment_of a) (2 * (offset_of a / 2)) ≡ a
unfolding address_of
address_back thread p a x at = sym at.address

pub in_list : (thread : ℕ) (p : PoolView) (targets : Targets) (cg a : ℕ) → IsSettled p → Contains (olds_of (territory_view thread p targets) cg) a → IsInList thread p targets cg a
unfolding olds_of
in_list thread p targets cg a s c =
    let t : TerritoryView = territory_view thread p targets in
    let r : (n : ℕ) × (0 < times n (chain_of p.dirty 1)) × (0 < times a (olds_in t cg n)) = times_flat_in (olds_in t cg) (chain_of p.dirty 1) a (times_of (flat_map (olds_in t cg) (chain_of p.dirty 1)) a c) in
    let test : is_old t cg a ≡ true = in_is_old thread p targets cg r.0 a r.2 in
    let x : (x : Start) × (get t.starts a ≡ Some x) = has_old t cg a test in
    let at : IsPresent thread p.segments a x.0 = present thread p a x.0 s x.1 in
    let same : segment_of a ≡ r.0 = elim (cases_eq (segment_of a) r.0) [ inl y ↦ y | inr ne ↦ absurd (omega (arith, r.2, in_other thread p targets cg r.0 a s ne)) ] in
    let back : address_of thread (segment_of a) (2 * (offset_of a / 2)) ≡ a = address_back thread p a x.0 at in
    record {
      start = x.0;
      has = x.1;
      present = at;
      told = old_told t cg a x.0 x.1 test;
      listed = subst (λ v. 0 < times v (chain_of p.dirty 1)) (sym same) r.1;
      old = seen_old thread p targets cg (segment_of a) (offset_of a / 2) s (omega (arith, at.within, s.count)) at.small (ap (is_old t cg) back ∙ test);
      address = back;
    }

-- its segment is a dirty one
old_shown : (p : PoolView) (cg n k : ℕ) → IsSettled p → cg < 255 → IsOldAt p.segments cg n k → shows_dirty (numbered p.segments n) ≡ true
old_shown p cg n k s small old =
    let q : Segment = numbered p.segments n in
    let w : (word : ℕ) × (2 * k ≤ word) × (word < 2 * k + size_at q k) × IsDirty q.cards cg (card_of word) = old.1.1 in
    ap (λ b. cond b false q.is_dirty) old.1.0.0 ∙ marked_dirty q (s.sound n) old.1.0.0 (card_of w.0, w.3.0, λ clean. absurd (omega (arith, w.3.1)))

pub old_ones : (thread : ℕ) (p : PoolView) (targets : Targets) (now : TerritoryView) (cg : ℕ) → territory_view thread p targets ≡ now → IsSettled p → cg < 255 → AreOldOnes now cg (olds_of now cg)
unfolding olds_of
old_ones thread p targets now cg e s small =
    let t : TerritoryView = territory_view thread p targets in
    subst (λ v. AreOldOnes v cg (olds_of v cg)) e (record {
      old = λ a c.
          let i : IsInList thread p targets cg a = in_list thread p targets cg a s c in
          (subst (λ o. IfSome o (IsOld t cg a)) (sym i.has) i.told, subst IsSome (sym i.has) refl);
      all = λ a x has old.
          let at : IsPresent thread p.segments a x = present thread p a x s has in
          let n : ℕ = segment_of a in
          let k : ℕ = offset_of a / 2 in
          let back : address_of thread n (2 * k) ≡ a = address_back thread p a x at in
          let it : IsOldAt p.segments cg n k = seen_old thread p targets cg n k s (omega (arith, at.within, s.count)) at.small (ap (is_old t cg) back ∙ old_test t cg a x has old) in
          let in_dirty : 0 < times n (chain_of p.dirty 1) = s.dirty.listed n (old_shown p cg n k s small it) in
          let cut : (us : List ℕ) × (olds_in t cg n ≡ us ++ (address_of thread n (2 * k) ∷ passing (is_old t cg) thread n (k + 1) (0 + places p n - (k + 1)))) = split_in thread p targets cg n k s at.within it in
          let there : 0 < times a (olds_in t cg n) = subst (λ v. 0 < times a v) (sym cut.1) (subst (λ v. 0 < times a (cut.0 ++ (v ∷ passing (is_old t cg) thread n (k + 1) (0 + places p n - (k + 1))))) (sym back)
          (omega (arith, times-append a cut.0 (a ∷ passing (is_old t cg) thread n (k + 1) (0 + places p n - (k + 1))), here_in a (passing (is_old t cg) thread n (k + 1) (0 + places p n - (k + 1)))))) in
          contains_of a (flat_map (olds_in t cg) (chain_of p.dirty 1)) (times_flat_ge (olds_in t cg) (chain_of p.dirty 1) a n in_dirty there);
      once = λ a. all_once thread p targets cg a s;
    })
