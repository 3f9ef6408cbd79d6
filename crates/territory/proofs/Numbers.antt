-- One segment of the list of segments changed, or a vacant one was added.
use Rattle.std.proofs.Common.{true, false, ◌≡◌, ◌≢◌, ℕ, zero, suc, ◌+◌, ◌<◌, ◌≤◌, List, [], ◌∷◌, ◌++◌, length, get_or, set, map, Some, None, sym, ◌∙◌, ap, subst, arith, inl, inr, get_or-set_same, get_or-set_other}
use Rattle.std.proofs.lemmas.List.{get_or_past, get_or_append_left, get_or_push, length_push, length-map, get_or-map, set_past}
use Rattle.std.proofs.lemmas.List.Sums.{sum_by-cons}
use Rattle.std.proofs.lemmas.Bool.{cases_eq, cases_lt}
use Rattle.std.specs.List.{sum_by}
use Rattle.segment.specs.Segments.{is_free, vacant, Segment, Start, spot}
use Rattle.segment.specs.Layout.{HasLength}
use Rattle.territory.specs.Pools.{numbered, seen}

pub numbered-set_same : (segments : List Segment) (n : ℕ) (p : Segment) → n < length segments → numbered (set segments n p) n ≡ p
numbered-set_same segments n p h = get_or-set_same segments n p vacant h

pub numbered-set_other : (segments : List Segment) (n m : ℕ) (p : Segment) → m ≢ n → numbered (set segments n p) m ≡ numbered segments m
numbered-set_other segments n m p h = get_or-set_other segments n m p vacant h

pub numbered_past : (segments : List Segment) (n : ℕ) → length segments ≤ n → numbered segments n ≡ vacant
numbered_past segments n h = get_or_past segments n vacant h

-- a vacant segment more makes no difference
pub numbered_push : (segments : List Segment) (m : ℕ) → numbered (segments ++ vacant ∷ []) m ≡ numbered segments m
numbered_push segments m =
    elim (cases_lt m (length segments)) [
      | inl l ↦ get_or_append_left segments (vacant ∷ []) vacant m l
      | inr far ↦ elim (cases_eq (length segments) m) [
        | inl e ↦ get_or_push segments vacant vacant m e ∙ sym (numbered_past segments m far)
        | inr ne ↦ get_or_past (segments ++ vacant ∷ []) m vacant (omega (arith, length_push segments vacant)) ∙ sym (numbered_past segments m far)
      ]
    ]

-- what holds of each segment, where one changed
pub each_set : (P : Segment → Type 0) (segments : List Segment) (n : ℕ) (p : Segment) → ((m : ℕ) → P (numbered segments m)) → P p → (m : ℕ) → P (numbered (set segments n p) m)
each_set P segments n p h k m =
    elim (cases_lt n (length segments)) [
      | inl b ↦ elim (cases_eq m n) [
        | inl e ↦ subst (λ v. P (numbered (set segments n p) v)) (sym e) (subst P (sym (numbered-set_same segments n p b)) k)
        | inr ne ↦ subst P (sym (numbered-set_other segments n m p ne)) (h m)
      ]
      | inr far ↦ subst (λ v. P (numbered v m)) (sym (set_past segments n p far)) (h m)
    ]

-- what holds of each start, where one segment changed
pub spot_set : (segments : List Segment) (n : ℕ) (p : Segment) → ((m k : ℕ) (x : Start) → spot (numbered segments m) k ≡ Some x → HasLength x.kind x.length) → ((k : ℕ) (x : Start) → spot p k ≡ Some x → HasLength x.kind x.length)
    → (m k : ℕ) (x : Start) → spot (numbered (set segments n p) m) k ≡ Some x → HasLength x.kind x.length
spot_set segments n p old new m = each_set (λ q. (k : ℕ) (x : Start) → spot q k ≡ Some x → HasLength x.kind x.length) segments n p old new m

-- what does not differ at the segment that changed differs nowhere
pub each_same : {X : Type 0} (F : Segment → X) (segments : List Segment) (n : ℕ) (p : Segment) → F p ≡ F (numbered segments n) → (m : ℕ) → F (numbered (set segments n p) m) ≡ F (numbered segments m)
each_same F segments n p e m =
    elim (cases_lt n (length segments)) [
      | inl b ↦ elim (cases_eq m n) [
        | inl same ↦ ap (λ v. F (numbered (set segments n p) v)) same ∙ (ap F (numbered-set_same segments n p b) ∙ (e ∙ ap (λ v. F (numbered segments v)) (sym same)))
        | inr ne ↦ ap F (numbered-set_other segments n m p ne)
      ]
      | inr far ↦ ap (λ v. F (numbered v m)) (set_past segments n p far)
    ]

-- a sum over all segments, where one changed
pub sum_by-set : {X : Type 0} (f : X → ℕ) (xs : List X) (n : ℕ) (y d : X) → n < length xs → sum_by f (set xs n y) + f (get_or xs n d) ≡ sum_by f xs + f y
sum_by-set f [] n y d h = absurd (omega arith)
sum_by-set f (x ∷ xs) zero y d h = omega (arith, sum_by-cons f x xs, sum_by-cons f y xs)
sum_by-set f (x ∷ xs) (suc n) y d h = omega (arith, sum_by-cons f x xs, sum_by-cons f x (set xs n y), sum_by-set f xs n y d (omega arith))

-- one of the terms is at most the sum
pub sum_by_part : {X : Type 0} (f : X → ℕ) (xs : List X) (n : ℕ) (d : X) → n < length xs → f (get_or xs n d) ≤ sum_by f xs
sum_by_part f [] n d h = absurd (omega arith)
sum_by_part f (x ∷ xs) zero d h = omega (arith, sum_by-cons f x xs)
sum_by_part f (x ∷ xs) (suc n) d h = omega (arith, sum_by-cons f x xs, sum_by_part f xs n d (omega arith))

-- what contracts see of segment n
pub seen_at : (segments : List Segment) (n : ℕ) → get_or (map seen segments) n None ≡ seen (numbered segments n)
seen_at segments n =
    elim (cases_lt n (length segments)) [
      | inl b ↦ get_or-map seen segments n vacant None b
      | inr far ↦ get_or_past (map seen segments) n None (omega (arith, length-map segments seen)) ∙ sym (ap seen (numbered_past segments n far))
    ]

-- what is in use has a segment
pub used_within : (segments : List Segment) (n : ℕ) → is_free (numbered segments n).role ≡ false → n < length segments
used_within segments n u =
    elim (cases_lt n (length segments)) [
      | inl b ↦ b
      | inr far ↦ absurd (let c : true ≡ false = sym (ap (λ (q : Segment). is_free q.role) (numbered_past segments n far)) ∙ u in cc)
    ]
