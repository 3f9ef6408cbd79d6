-- The open areas, after each change.
use Rattle.std.proofs.Common.{◌≡◌, ◌≢◌, ℕ, ◌<◌, List, [], ◌∷◌, ◌++◌, length, get_or, set, Option, Some, None, sym, ◌∙◌, ap, subst, arith, inl, inr, get_or-set_same, get_or-set_other}
use Rattle.std.proofs.lemmas.Bool.{cases_eq, cases_lt}
use Rattle.std.proofs.lemmas.List.{length-set}
use Rattle.std.proofs.lemmas.Option.{same_Some, slice_get_past, slice_get-get_or}
use Rattle.std.specs.List.{slice_get}
use Rattle.segment.specs.declared.space.Space.{Space}
use Rattle.segment.specs.Layout.{space_index}
use Rattle.segment.specs.Segments.{vacant, Segment}
use Rattle.territory.specs.Codes.{space_by_index, space_by_index-space_index}
use Rattle.territory.specs.Territories.{area_of}
use Rattle.territory.specs.Pools.{numbered, IsOpenFor, AreOpen}
use Rattle.territory.proofs.Numbers.{numbered-set_same, numbered-set_other, numbered_push}

-- the areas stay where the changed segment is as good for each area as it was
pub open_changed : (segments : List Segment) (areas : List (Option ℕ)) (n : ℕ) (p : Segment) → AreOpen segments areas → n < length segments → ((k : ℕ) → IsOpenFor (numbered segments n) k → IsOpenFor p k) → AreOpen (set segments n p) areas
open_changed segments areas n p o b keeps = record {
  count = o.count;
  fits = λ k m i. elim (cases_eq m n) [
    | inl same ↦ subst (λ v. IsOpenFor v k) (sym (ap (numbered (set segments n p)) same ∙ numbered-set_same segments n p b)) (keeps k (subst (λ v. IsOpenFor (numbered segments v) k) same (o.fits k m i)))
    | inr other ↦ subst (λ v. IsOpenFor v k) (sym (numbered-set_other segments n m p other)) (o.fits k m i)
  ];
}

pub open_push : (segments : List Segment) (areas : List (Option ℕ)) → AreOpen segments areas → AreOpen (segments ++ vacant ∷ []) areas
open_push segments areas o = record { count = o.count; fits = λ k m i. subst (λ v. IsOpenFor v k) (sym (numbered_push segments m)) (o.fits k m i) }

slice_get-set_other : {X : Type 0} (xs : List (Option X)) (k j : ℕ) (v : Option X) → j ≢ k → slice_get (set xs k v) j ≡ slice_get xs j
slice_get-set_other xs k j v ne =
    elim (cases_lt j (length xs)) [
      | inl b ↦ slice_get-get_or (set xs k v) j None (omega (arith, length-set xs k v)) ∙ (ap Some (get_or-set_other xs k j v None ne) ∙ sym (slice_get-get_or xs j None b))
      | inr far ↦ slice_get_past (set xs k v) j (omega (arith, length-set xs k v)) ∙ sym (slice_get_past xs j far)
    ]

-- a segment becomes the open one of an area
pub open_set : (segments : List Segment) (areas : List (Option ℕ)) (k n : ℕ) → AreOpen segments areas → k < 72 → IsOpenFor (numbered segments n) k → AreOpen segments (set areas k (Some n))
open_set segments areas k n o small here = record {
  count = length-set areas k (Some n) ∙ o.count;
  fits = λ j m i. elim (cases_eq j k) [
    | inl same ↦
        let at_k : slice_get (set areas k (Some n)) k ≡ Some (Some n) = slice_get-get_or (set areas k (Some n)) k None (omega (arith, length-set areas k (Some n), o.count)) ∙ ap Some (get_or-set_same areas k (Some n) None (omega (arith, o.count))) in
        let is : m ≡ n = sym (same_Some _ _ (same_Some _ _ (sym (ap (λ v. slice_get (set areas k (Some n)) v) same ∙ at_k) ∙ i))) in
        subst (λ v. IsOpenFor (numbered segments m) v) (sym same) (subst (λ v. IsOpenFor (numbered segments v) k) (sym is) here)
    | inr other ↦ o.fits j m (sym (slice_get-set_other areas k j (Some n) other) ∙ i)
  ];
}

-- what the open segment of an area is
pub open_at : (segments : List Segment) (areas : List (Option ℕ)) (s : Space) (g n : ℕ) (o : Option ℕ) → AreOpen segments areas → space_index s < 8 → g < 9 → o ≡ get_or areas (area_of s g) o → o ≡ Some n
    → IsOpenFor (numbered segments n) (area_of s g)
open_at segments areas s g n o op s_in g_in read is =
    op.fits (area_of s g) n (slice_get-get_or areas (area_of s g) o (omega (arith, op.count)) ∙ ap Some (sym read ∙ is))

pub its_space : (p : Segment) (s : Space) (g : ℕ) → IsOpenFor p (area_of s g) → g < 9 → p.space ≡ s
its_space p s g o small =
    let e : space_index p.space ≡ space_index s = omega (arith, o.space_is) in
    sym (space_by_index-space_index p.space) ∙ (ap space_by_index e ∙ space_by_index-space_index s)

pub its_generation : (p : Segment) (s : Space) (g : ℕ) → IsOpenFor p (area_of s g) → g < 9 → p.generation ≡ g
its_generation p s g o small = omega (arith, o.generation_is)
