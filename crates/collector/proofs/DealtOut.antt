-- Territories are dealt out one by one: one more goes to the sweeper whose turn it is.
use Rattle.std.proofs.Common.{◌≡◌, ◌≢◌, ℕ, zero, suc, ◌+◌, ◌*◌, ◌/◌, ◌%◌, ◌<◌, ◌≤◌, List, [], ◌∷◌, ◌++◌, length, set, replicate, slice_get, None, Some, refl, sym, ◌∙◌, ap, subst, inl, inr, arith, get_or-set_same, get_or-set_other}
use Rattle.std.proofs.Math.Nat.{mod-add-div'}
use Rattle.std.proofs.lemmas.Bool.{cases_eq, cases_lt}
use Rattle.std.proofs.lemmas.List.{get_or-replicate, length-replicate, length-set}
use Rattle.std.proofs.lemmas.Nat.{mod-mul-add, row_fits, same_from_place}
use Rattle.std.proofs.lemmas.Option.{none-some, slice_get_past}
use Rattle.territory.specs.Territories.{TerritoryView}
use Rattle.collector.specs.Dealt.{AreDealt, IsDealtTo, own_at}

-- ---- one more at the end of a list

pub slice_get_push : {X : Type 0} (xs : List X) (y : X) → slice_get (xs ++ y ∷ []) (length xs) ≡ Some y
slice_get_push [] y = refl
slice_get_push (x ∷ xs) y = slice_get_push xs y

pub slice_get_push_other : {X : Type 0} (xs : List X) (y : X) (i : ℕ) → i ≢ length xs
    → slice_get (xs ++ y ∷ []) i ≡ slice_get xs i
slice_get_push_other [] y zero ne = absurd (ne refl)
slice_get_push_other [] y (suc i) ne = refl
slice_get_push_other (x ∷ xs) y zero ne = refl
slice_get_push_other (x ∷ xs) y (suc i) ne = slice_get_push_other xs y i (λ e. ne (ap suc e))

-- where a list has nothing it ends
past_none : {X : Type 0} (xs : List X) (i : ℕ) → slice_get xs i ≡ None → length xs ≤ i
past_none [] i e = omega arith
past_none (x ∷ xs) zero e = absurd (none-some x (sym e))
past_none (x ∷ xs) (suc i) e = omega (arith, past_none xs i e)

-- ---- territories

-- the sweeper whose turn it is has one of each whole turn so far
turn_count : (n : ℕ) (all own : List TerritoryView) → 0 < n → IsDealtTo n (length all % n) all own
    → length own ≡ length all / n
turn_count n all own some dealt = elim (cases_lt (length own) (length all / n)) [
  | inl few ↦
      let ends : length all ≤ length all % n + length own * n =
      past_none all (length all % n + length own * n) (sym (dealt (length own)) ∙ slice_get_past own (length own) (omega arith)) in
      absurd (omega (arith, ends, row_fits (length own) n (length all / n) n few (omega arith), mod-add-div' (length all) n))
  | inr many ↦
      let most : length own ≤ length all / n =
      past_none own (length all / n) (dealt (length all / n)
      ∙ slice_get_past all (length all % n + length all / n * n) (omega (arith, mod-add-div' (length all) n))) in
      omega arith
]

-- it gets one more
dealt_here : (n : ℕ) (all own : List TerritoryView) (t : TerritoryView) → 0 < n → IsDealtTo n (length all % n) all own
    → IsDealtTo n (length all % n) (all ++ t ∷ []) (own ++ t ∷ [])
dealt_here n all own t some dealt i =
    let count : length own ≡ length all / n = turn_count n all own some dealt in
    let whole : length all % n + length all / n * n ≡ length all = mod-add-div' (length all) n in
    elim (cases_eq i (length own)) [
      | inl e ↦
          let last : length all ≡ length all % n + i * n =
          sym whole ∙ ap (λ j. length all % n + j * n) (sym count ∙ sym e) in
          ap (slice_get (own ++ t ∷ [])) e ∙ (slice_get_push own t
          ∙ (sym (slice_get_push all t) ∙ ap (slice_get (all ++ t ∷ [])) last))
      | inr ne ↦
          let other : length all % n + i * n ≢ length all =
          λ e. ne ((same_from_place i (length all % n) (length all / n) (length all % n) n (omega arith) (omega arith)
          (omega (arith, e, whole))).0 ∙ sym count) in
          slice_get_push_other own t i ne
          ∙ (dealt i ∙ sym (slice_get_push_other all t (length all % n + i * n) other))
    ]

-- the others keep theirs
dealt_there : (n k : ℕ) (all own : List TerritoryView) (t : TerritoryView) → k < n → k ≢ length all % n
    → IsDealtTo n k all own → IsDealtTo n k (all ++ t ∷ []) own
dealt_there n k all own t low ne dealt i =
    let other : k + i * n ≢ length all =
    λ e. ne (sym (mod-mul-add i n k low) ∙ ap (λ m. m % n) (omega (arith, e))) in
    dealt i ∙ sym (slice_get_push_other all t (k + i * n) other)

pub dealt_none : (n : ℕ) → AreDealt n [] (replicate n [])
dealt_none n = record {
  count = length-replicate n [];
  each = λ k low i. ap (λ own. slice_get own i) (get_or-replicate n k [] [] low);
}

pub dealt_more : (n : ℕ) (all : List TerritoryView) (owns : List (List TerritoryView)) (t : TerritoryView) → 0 < n
    → AreDealt n all owns
    → AreDealt n (all ++ t ∷ []) (set owns (length all % n) (own_at owns (length all % n) ++ t ∷ []))
dealt_more n all owns t some dealt = record {
  count = length-set owns turn more ∙ dealt.count;
  each = λ k low. elim (cases_eq k turn) [
    | inl e ↦
        subst (λ j. IsDealtTo n j (all ++ t ∷ []) (own_at (set owns turn more) j)) (sym e)
        (subst (IsDealtTo n turn (all ++ t ∷ [])) (sym (get_or-set_same owns turn more [] (omega (arith, dealt.count))))
        (dealt_here n all (own_at owns turn) t some (dealt.each turn (omega arith))))
    | inr ne ↦
        subst (IsDealtTo n k (all ++ t ∷ [])) (sym (get_or-set_other owns turn k more [] ne))
        (dealt_there n k all (own_at owns k) t low ne (dealt.each k low))
  ];
}
  where
    turn : ℕ
    turn = length all % n

    more : List TerritoryView
    more = own_at owns turn ++ t ∷ []

-- ---- one sweeper

-- it has all of them
pub dealt_one : (all : List TerritoryView) (owns : List (List TerritoryView)) → owns ≡ all ∷ [] → AreDealt 1 all owns
dealt_one all owns is = subst (AreDealt 1 all) (sym is) (record {
  count = refl;
  each = λ k low.
      let first : 0 ≡ k = omega (arith, low) in
      subst (λ j. IsDealtTo 1 j all (own_at (all ∷ []) j)) first
      (λ i. ap (slice_get all) (omega arith));
})
