-- The first old start, and what comes after one.
use Rattle.std.proofs.Common.{◌≡◌, ℕ, ◌+◌, ◌-◌, ◌*◌, ◌/◌, ◌<◌, ◌≤◌, List, [], ◌∷◌, ◌++◌, length, drop, Option, Some, None, option_map, IfSome, Contains, refl, sym, ◌∙◌, ap, subst, arith, append_assoc}
use Rattle.std.proofs.lemmas.List.{length-map}
use Rattle.std.proofs.lemmas.Option.{slice_get_read}
use Rattle.std.specs.List.{slice_get, flat_map}
use Rattle.gc_words.specs.Layout.{address_of, segment_of, offset_of}
use Rattle.seg_chain.specs.Lists.{chain_of, times}
use Rattle.seg_chain.proofs.Laws.{contains_of}
use Rattle.segment.specs.Segments.{NoneWithin, NoneFrom}
use Rattle.segment.proofs.Spots.{start_in}
use Rattle.territory.specs.declared.territory.Targets.{Targets}
use Rattle.territory.specs.Territories.{TerritoryView, IsNext}
use Rattle.territory.specs.Pools.{PoolView, IsSettled, numbered, seen, territory_view}
use Rattle.territory.specs.Olds.{is_old, olds_in, olds_of, IsOldAt, IsFirstOld, IsFoundOld}
use Rattle.territory.proofs.Showing.{flat_cut, next_cut}
use Rattle.territory.proofs.OldSegments.{if_contained, after_contained}
use Rattle.territory.proofs.OldStarts.{places, passing, none_old, first_old, split_in, part_within, told_first, all_once, IsInList, in_list}

-- ---- the first
pub olds_first : (thread : ℕ) (p : PoolView) (targets : Targets) (now : TerritoryView) (cg : ℕ) (r : Option (ℕ × ℕ)) → territory_view thread p targets ≡ now → IsSettled p → IsFirstOld p.segments cg (drop 0 (chain_of p.dirty 1)) r
    → slice_get (olds_of now cg) 0 ≡ option_map (λ at. address_of now.thread at.0 (2 * at.1)) r
unfolding olds_of
olds_first thread p targets now cg r e s h =
    subst (λ (v : TerritoryView). slice_get (olds_of v cg) 0 ≡ option_map (λ at. address_of v.thread at.0 (2 * at.1)) r) e (told_first thread p targets cg 0 r s h)

pub told_some : (thread : ℕ) (p : PoolView) (targets : Targets) (now : TerritoryView) (cg n k a : ℕ) (r : Option (ℕ × ℕ)) → territory_view thread p targets ≡ now → IsSettled p → IsFirstOld p.segments cg (drop 0 (chain_of p.dirty 1)) r → r ≡ Some (n, k) → a ≡ address_of now.thread n (2 * k)
    → Some a ≡ slice_get (olds_of now cg) 0
told_some thread p targets now cg n k a r e s h is here = ap Some here ∙ sym (olds_first thread p targets now cg r e s h ∙ ap (option_map (λ at. address_of now.thread at.0 (2 * at.1))) is)

pub told_none : (thread : ℕ) (p : PoolView) (targets : Targets) (now : TerritoryView) (cg : ℕ) (r : Option (ℕ × ℕ)) (last : Option ℕ) → territory_view thread p targets ≡ now → IsSettled p → IsFirstOld p.segments cg (drop 0 (chain_of p.dirty 1)) r → r ≡ None → last ≡ None
    → last ≡ slice_get (olds_of now cg) 0
told_none thread p targets now cg r last e s h is here = here ∙ sym (olds_first thread p targets now cg r e s h ∙ ap (option_map (λ at. address_of now.thread at.0 (2 * at.1))) is)

-- ---- where one stands
pub at_list : (thread : ℕ) (p : PoolView) (targets : Targets) (now : TerritoryView) (cg a : ℕ) → territory_view thread p targets ≡ now → IsSettled p → Contains (olds_of now cg) a → IsInList thread p targets cg a
at_list thread p targets now cg a e s c = in_list thread p targets cg a s (subst (λ (v : TerritoryView). Contains (olds_of v cg) a) (sym e) c)

-- what comes behind it: the rest of its segment, and the later segments
pub record IsBehindOld (thread : ℕ) (p : PoolView) (targets : Targets) (cg a i : ℕ) (rest : List ℕ) : Type 0 where
  pub number : slice_get (chain_of p.dirty 1) i ≡ Some (segment_of a)
  pub front : List ℕ
  pub list : olds_of (territory_view thread p targets) cg ≡ front ++ a ∷ (rest ++ flat_map (olds_in (territory_view thread p targets) cg) (drop (i + 1) (chain_of p.dirty 1)))
  pub once : times a (olds_of (territory_view thread p targets) cg) ≤ 1

behind_old : (thread : ℕ) (p : PoolView) (targets : Targets) (cg a : ℕ) → IsSettled p → IsInList thread p targets cg a
    → (i : ℕ) × IsBehindOld thread p targets cg a i (passing (is_old (territory_view thread p targets) cg) thread (segment_of a) (offset_of a / 2 + 1) (0 + places p (segment_of a) - (offset_of a / 2 + 1)))
unfolding olds_of
behind_old thread p targets cg a s h =
    let t : TerritoryView = territory_view thread p targets in
    let xs : List ℕ = chain_of p.dirty 1 in
    let n : ℕ = segment_of a in
    let k : ℕ = offset_of a / 2 in
    let rest : List ℕ = passing (is_old t cg) thread n (k + 1) (0 + places p n - (k + 1)) in
    let there : Contains xs n = contains_of n xs h.listed in
    let number : slice_get xs there.0 ≡ Some n = slice_get_read xs (length xs) there.0 n refl there.1 (sym there.2) in
    let cut : (us : List ℕ) × (olds_in t cg n ≡ us ++ (address_of thread n (2 * k) ∷ rest)) = split_in thread p targets cg n k s h.present.within h.old in
    let tail : List ℕ = flat_map (olds_in t cg) (drop (there.0 + 1) xs) in
    let flat : (front : List ℕ) × (flat_map (olds_in t cg) xs ≡ front ++ (olds_in t cg n ++ tail)) = flat_cut (olds_in t cg) xs there.0 n number in
    let list : flat_map (olds_in t cg) xs ≡ flat.0 ++ cut.0 ++ a ∷ (rest ++ tail) =
    flat.1 ∙ (ap (λ v. flat.0 ++ (v ++ tail)) (cut.1 ∙ ap (λ v. cut.0 ++ (v ∷ rest)) h.address) ∙ (ap (λ v. flat.0 ++ v) (append_assoc cut.0 (a ∷ rest) tail) ∙ sym (append_assoc flat.0 cut.0 (a ∷ (rest ++ tail))))) in
    (there.0, record { number = number; front = flat.0 ++ cut.0; list = list; once = all_once thread p targets cg a s })

-- ---- the next in the same segment
pub same_old : (thread : ℕ) (p : PoolView) (targets : Targets) (now : TerritoryView) (cg a n k j b : ℕ) → territory_view thread p targets ≡ now → IsSettled p → IsInList thread p targets cg a → n ≡ segment_of a → k ≡ offset_of a / 2
    → k + 1 ≤ j → IsOldAt p.segments cg n j → NoneWithin (IsOldAt p.segments cg n) (k + 1) j → b ≡ address_of now.thread n (2 * j) → IsNext (olds_of now cg) a (Some b)
same_old thread p targets now cg a n k j b e s h en ek after old least here =
    let t : TerritoryView = territory_view thread p targets in
    let at : (i : ℕ) × IsBehindOld thread p targets cg a i (passing (is_old t cg) thread (segment_of a) (offset_of a / 2 + 1) (0 + places p (segment_of a) - (offset_of a / 2 + 1))) = behind_old thread p targets cg a s h in
    let r : (rest : List ℕ) × (passing (is_old t cg) thread (segment_of a) (offset_of a / 2 + 1) (0 + places p (segment_of a) - (offset_of a / 2 + 1)) ≡ address_of thread (segment_of a) (2 * j) ∷ rest) =
    first_old thread p targets cg (segment_of a) (offset_of a / 2 + 1) j s h.present.within (omega (arith, ek)) (subst (λ v. IsOldAt p.segments cg v j) en old) (λ i c d. subst (λ v. IsOldAt p.segments cg v i → ⊥) en (least i (omega (arith, ek)) d)) in
    let b_is : address_of thread (segment_of a) (2 * j) ≡ b = ap (λ (v : TerritoryView). address_of v.thread (segment_of a) (2 * j)) e ∙ (ap (λ v. address_of now.thread v (2 * j)) (sym en) ∙ sym here) in
    let tail : List ℕ = flat_map (olds_in t cg) (drop (at.0 + 1) (chain_of p.dirty 1)) in
    subst (λ (v : TerritoryView). IsNext (olds_of v cg) a (Some b)) e
    (next_cut (olds_of t cg) at.1.front (b ∷ (r.0 ++ tail)) a (Some b) at.1.once (at.1.list ∙ ap (λ v. at.1.front ++ a ∷ (v ++ tail)) (r.1 ∙ ap (λ v. v ∷ r.0) b_is)) refl)

-- ---- the next in a later segment
pub later_old : (thread : ℕ) (p : PoolView) (targets : Targets) (now : TerritoryView) (cg a n k : ℕ) (o : Option ℕ) (r : Option (ℕ × ℕ)) → territory_view thread p targets ≡ now → IsSettled p → IsInList thread p targets cg a → n ≡ segment_of a → k ≡ offset_of a / 2
    → NoneFrom (IsOldAt p.segments cg n) (k + 1) → IsNext (chain_of p.dirty 1) n o → ((i : ℕ) → o ≡ slice_get (chain_of p.dirty 1) i → IsFirstOld p.segments cg (drop i (chain_of p.dirty 1)) r)
    → IsNext (olds_of now cg) a (option_map (λ at. address_of now.thread at.0 (2 * at.1)) r)
later_old thread p targets now cg a n k o r e s h en ek none next first =
    let t : TerritoryView = territory_view thread p targets in
    let xs : List ℕ = chain_of p.dirty 1 in
    let at : (i : ℕ) × IsBehindOld thread p targets cg a i (passing (is_old t cg) thread (segment_of a) (offset_of a / 2 + 1) (0 + places p (segment_of a) - (offset_of a / 2 + 1))) = behind_old thread p targets cg a s h in
    let empty : passing (is_old t cg) thread (segment_of a) (offset_of a / 2 + 1) (0 + places p (segment_of a) - (offset_of a / 2 + 1)) ≡ [] =
    none_old thread p targets cg (segment_of a) (offset_of a / 2 + 1) s h.present.within (λ i c. subst (λ v. IsOldAt p.segments cg v i → ⊥) en (none i (omega (arith, ek)))) in
    let tail : List ℕ = flat_map (olds_in t cg) (drop (at.0 + 1) xs) in
    let number : slice_get xs at.0 ≡ Some n = at.1.number ∙ ap Some (sym en) in
    let told : slice_get tail 0 ≡ option_map (λ v. address_of thread v.0 (2 * v.1)) r = told_first thread p targets cg (at.0 + 1) r s (first (at.0 + 1) (next at.0 number)) in
    subst (λ (v : TerritoryView). IsNext (olds_of v cg) a (option_map (λ w. address_of v.thread w.0 (2 * w.1)) r)) e
    (next_cut (olds_of t cg) at.1.front tail a (option_map (λ v. address_of thread v.0 (2 * v.1)) r) at.1.once (at.1.list ∙ ap (λ v. at.1.front ++ a ∷ (v ++ tail)) empty) (sym told))

pub later_some : (thread : ℕ) (p : PoolView) (targets : Targets) (now : TerritoryView) (cg a n k m j b : ℕ) (o : Option ℕ) (r : Option (ℕ × ℕ)) → territory_view thread p targets ≡ now → IsSettled p → IsInList thread p targets cg a → n ≡ segment_of a → k ≡ offset_of a / 2
    → NoneFrom (IsOldAt p.segments cg n) (k + 1) → IsNext (chain_of p.dirty 1) n o → ((i : ℕ) → o ≡ slice_get (chain_of p.dirty 1) i → IsFirstOld p.segments cg (drop i (chain_of p.dirty 1)) r) → r ≡ Some (m, j) → b ≡ address_of now.thread m (2 * j)
    → IsNext (olds_of now cg) a (Some b)
later_some thread p targets now cg a n k m j b o r e s h en ek none next first is here =
    subst (IsNext (olds_of now cg) a) (ap (option_map (λ at. address_of now.thread at.0 (2 * at.1))) is ∙ ap Some (sym here)) (later_old thread p targets now cg a n k o r e s h en ek none next first)

pub later_none : (thread : ℕ) (p : PoolView) (targets : Targets) (now : TerritoryView) (cg a n k : ℕ) (o last : Option ℕ) (r : Option (ℕ × ℕ)) → territory_view thread p targets ≡ now → IsSettled p → IsInList thread p targets cg a → n ≡ segment_of a → k ≡ offset_of a / 2
    → NoneFrom (IsOldAt p.segments cg n) (k + 1) → IsNext (chain_of p.dirty 1) n o → ((i : ℕ) → o ≡ slice_get (chain_of p.dirty 1) i → IsFirstOld p.segments cg (drop i (chain_of p.dirty 1)) r) → r ≡ None → last ≡ None
    → IsNext (olds_of now cg) a last
later_none thread p targets now cg a n k o last r e s h en ek none next first is here =
    subst (IsNext (olds_of now cg) a) (ap (option_map (λ at. address_of now.thread at.0 (2 * at.1))) is ∙ sym here) (later_old thread p targets now cg a n k o r e s h en ek none next first)

-- ---- for the answers
pub list_place : (thread : ℕ) (p : PoolView) (targets : Targets) (cg a n k : ℕ) → IsInList thread p targets cg a → n ≡ segment_of a → k ≡ offset_of a / 2 → (n < length p.segments) × (2 * k < 8388608) × (0 < times n (chain_of p.dirty 1))
list_place thread p targets cg a n k h en ek = (
  subst (λ v. v < length p.segments) (sym en) h.present.within,
  omega (arith, ek, h.present.small),
  subst (λ v. 0 < times v (chain_of p.dirty 1)) (sym en) h.listed,
)

old_small : (p : PoolView) (cg n k : ℕ) → IsSettled p → IsOldAt p.segments cg n k → k < 4194304
old_small p cg n k s old =
    let b : (k < length (numbered p.segments n).births) × _ × _ = start_in (numbered p.segments n) k (s.sound n).laid old.1.0.1 in
    omega (arith, b.0, (s.sound n).births, (s.sound n).small)

pub later_found : (thread : ℕ) (p : PoolView) (targets : Targets) (now : TerritoryView) (cg a n m j : ℕ) (o : Option ℕ) (r : Option (ℕ × ℕ)) → territory_view thread p targets ≡ now → IsSettled p → IsInList thread p targets cg a → n ≡ segment_of a
    → IsNext (chain_of p.dirty 1) n o → ((i : ℕ) → o ≡ slice_get (chain_of p.dirty 1) i → IsFirstOld p.segments cg (drop i (chain_of p.dirty 1)) r) → r ≡ Some (m, j) → (m < length now.segments) × (j < 4194304)
later_found thread p targets now cg a n m j o r e s h en next first is =
    let xs : List ℕ = chain_of p.dirty 1 in
    let there : Contains xs n = contains_of n xs (subst (λ v. 0 < times v xs) (sym en) h.listed) in
    let number : slice_get xs there.0 ≡ Some n = slice_get_read xs (length xs) there.0 n refl there.1 (sym there.2) in
    let found : IsFoundOld p.segments cg (drop (there.0 + 1) xs) m j = subst (λ (v : Option (ℕ × ℕ)). IsFirstOld p.segments cg (drop (there.0 + 1) xs) v) is (first (there.0 + 1) (next there.0 number)) in
    let within : m < length p.segments = part_within p (there.0 + 1) found.place m s found.here in
    (omega (arith, within, length-map p.segments seen, ap (λ (v : TerritoryView). length v.segments) e), old_small p cg m j s found.old)

pub next_listed : (now : TerritoryView) (cg a : ℕ) (r : Option ℕ) → Contains (olds_of now cg) a → IsNext (olds_of now cg) a r → IfSome r (Contains (olds_of now cg))
next_listed now cg a r c next = after_contained (olds_of now cg) a r c next

pub first_listed : (now : TerritoryView) (cg : ℕ) (r : Option ℕ) → r ≡ slice_get (olds_of now cg) 0 → IfSome r (Contains (olds_of now cg))
first_listed now cg r e = if_contained (olds_of now cg) 0 r e
