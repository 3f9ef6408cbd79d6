-- Lists of entries in ascending order of births.
use Rattle.std.proofs.Common.{◌≡◌, ℕ, zero, suc, ◌+◌, ◌<◌, ◌≤◌, true, false, cond, ◌==◌, List, [], ◌∷◌, ◌++◌, length, get_or, take, drop, set, nat_lt, nat_cmp, IsTrue, T, Some, None, refl, sym, ap, subst, ◌∙◌, arith, is_lt}
use Rattle.std.specs.FinMap.{find, put, is_sorted}
use Rattle.std.specs.FinMap.Entries.{by_order, below_all, is_sorted-put}
use Rattle.std.specs.declared.cmp.Ordering.TheVariants.{Less, Equal, Greater}
use Rattle.std.specs.Cmp.{unsigned_tied, nat_cmp_is, nat_cmp_total}
use Rattle.std.proofs.lemmas.Bool.{eq-eqb, eqb-true, and_parts, ltb-true, ltb-false, lt-ltb, le-ltb}
use Rattle.std.proofs.lemmas.Bool.Decides.{nat_tests}
use Rattle.std.proofs.lemmas.List.{at_drop_more}
use Rattle.trace_types.proofs.Collecting.{is_true}
use Rattle.plain_model.specs.Plain.{place, HasEntry}

differs : (k n : ℕ) → (n ≡ k → ⊥) → (k == n) ≡ false
differs k n other =
    elim (k == n) as (λ b. (k == n) ≡ b → b ≡ false) [
      | true ↦ λ same. absurd (other (sym (eqb-true k n same)))
      | false ↦ λ _. refl
    ] refl

less_than : (x y : ℕ) → IsTrue (is_lt (nat_cmp x y)) → x < y
less_than x y h = grind (arith, nat_tests)

between : (k n : ℕ) → k ≤ n → (n ≡ k → ⊥) → k < n
between k n most other = elim (nat_lt k n) as (λ b. nat_lt k n ≡ b → k < n) [
  | true ↦ λ less. ltb-true k n less
  | false ↦ λ not_less. absurd (other (omega (arith, ltb-false k n not_less)))
] refl

module _ {X : Type 0} where
  pub find_first : (k : ℕ) (e : ℕ × X) (es : List (ℕ × X)) → find nat_cmp k (e ∷ es) ≡ cond (k == e.0) (Some e.1) (find nat_cmp k es)
  find_first k e es = ap (λ b. cond b (Some e.1) (find nat_cmp k es)) (unsigned_tied k e.0)

  -- the order stays
  pub put_sorted : (es : List (ℕ × X)) (k : ℕ) (v : X) → IsTrue (is_sorted nat_cmp es) → IsTrue (is_sorted nat_cmp (put nat_cmp k v es))
  put_sorted es k v sorted =
      is_true (is_sorted nat_cmp (put nat_cmp k v es)) (is_sorted-put nat_cmp nat_cmp_total k v es (subst T (sym sorted) tt))

  -- the default of a read within the list does not matter
  pub read_same : (es : List (ℕ × X)) (i : ℕ) (d e : ℕ × X) → i < length es → get_or es i d ≡ get_or es i e
  read_same [] i d e less = absurd (omega arith)
  read_same (x ∷ es) zero d e less = refl
  read_same (x ∷ es) (suc i) d e less = read_same es i d e (omega arith)

  -- the entry at the index is the one that is looked for, and none before it was
  pub entry_here : (es : List (ℕ × X)) (i k : ℕ) (e : ℕ × X) → find nat_cmp k (drop i es) ≡ find nat_cmp k es → i < length es
      → e ≡ get_or es i e → e.0 ≡ k → HasEntry es i k
  entry_here es i k e rest less is same = (
    less,
    λ d. ap (λ (x : ℕ × X). x.0) (read_same es i d e less ∙ sym is) ∙ same,
    λ d. sym rest ∙ at_drop_more (find nat_cmp k) es i d less ∙ find_first k (get_or es i d) (drop (i + 1) es)
        ∙ ap (λ b. cond b (Some (get_or es i d).1) (find nat_cmp k (drop (i + 1) es)))
        (eq-eqb k (get_or es i d).0 (sym (ap (λ (x : ℕ × X). x.0) (read_same es i d e less ∙ sym is) ∙ same))),
  )

  -- the entry at the index is another one
  pub entry_later : (es : List (ℕ × X)) (i k : ℕ) (e : ℕ × X) → find nat_cmp k (drop i es) ≡ find nat_cmp k es → i < length es
      → e ≡ get_or es i e → (e.0 ≡ k → ⊥) → find nat_cmp k (drop (i + 1) es) ≡ find nat_cmp k es
  entry_later es i k e rest less is other =
      sym (at_drop_more (find nat_cmp k) es i e less ∙ find_first k (get_or es i e) (drop (i + 1) es)
      ∙ ap (λ b. cond b (Some (get_or es i e).1) (find nat_cmp k (drop (i + 1) es))) (differs k (get_or es i e).0 (rw (← is) other)))
      ∙ rest

  -- what stands behind an entry is of a greater birth
  above : (es : List (ℕ × X)) (i x k : ℕ) (d : ℕ × X) → IsTrue (below_all nat_cmp x es) → i < length es
      → (get_or es i d).0 ≡ k → x < k
  above [] i x k d below less same = absurd (omega arith)
  above (e ∷ es) zero x k d below less same =
      rw (← same) (less_than x e.0 (and_parts (is_lt (nat_cmp x e.0)) (below_all nat_cmp x es) below).0)
  above (e ∷ es) (suc i) x k d below less same =
      above es i x k d (and_parts (is_lt (nat_cmp x e.0)) (below_all nat_cmp x es) below).1 (omega arith) same

  -- a new value of a birth that is there
  pub put_there : (es : List (ℕ × X)) (i k : ℕ) (v : X) (d : ℕ × X) → IsTrue (is_sorted nat_cmp es) → i < length es
      → (get_or es i d).0 ≡ k → put nat_cmp k v es ≡ set es i (k, v)
  put_there [] i k v d sorted less same = absurd (omega arith)
  put_there (e ∷ es) zero k v d sorted less same =
      ap (λ r. by_order r ((k, v) ∷ e ∷ es) ((e.0, v) ∷ es) (e ∷ put nat_cmp k v es)) (sym (nat_cmp_is k e.0 Equal (sym same)))
      ∙ ap (λ n. (n, v) ∷ es) same
  put_there (e ∷ es) (suc i) k v d sorted less same =
      let parts = and_parts (below_all nat_cmp e.0 es) (is_sorted nat_cmp es) sorted in
      ap (λ r. by_order r ((k, v) ∷ e ∷ es) ((e.0, v) ∷ es) (e ∷ put nat_cmp k v es))
      (sym (nat_cmp_is k e.0 Greater (above es i e.0 k d parts.0 (omega arith) same)))
      ∙ ap (λ rest. e ∷ rest) (put_there es i k v d parts.1 (omega arith) same)

  not_found : (k : ℕ) (e : ℕ × X) (es : List (ℕ × X)) → find nat_cmp k (e ∷ es) ≡ None
      → (k ≡ e.0 → ⊥) × (find nat_cmp k es ≡ None)
  not_found k e es none =
      elim (k == e.0) as (λ b. (k == e.0) ≡ b → cond b (Some e.1) (find nat_cmp k es) ≡ None
      → (k ≡ e.0 → ⊥) × (find nat_cmp k es ≡ None)) [
        | true ↦ λ _ some. cc
        | false ↦ λ other rest. (λ same. cc (eq-eqb k e.0 same, other), rest)
      ] refl (sym (find_first k e es) ∙ none)

  -- an entry of a birth that is not there
  pub put_new : (es : List (ℕ × X)) (k : ℕ) (v : X) → find nat_cmp k es ≡ None
      → put nat_cmp k v es ≡ take (place k es) es ++ (k, v) ∷ drop (place k es) es
  put_new [] k v none = refl
  put_new (e ∷ es) k v none =
      elim (nat_lt e.0 k) as (λ b. nat_lt e.0 k ≡ b → put nat_cmp k v (e ∷ es)
      ≡ take (cond b (suc (place k es)) 0) (e ∷ es) ++ (k, v) ∷ drop (cond b (suc (place k es)) 0) (e ∷ es)) [
        | true ↦ λ before. ap (λ r. by_order r ((k, v) ∷ e ∷ es) ((e.0, v) ∷ es) (e ∷ put nat_cmp k v es))
            (sym (nat_cmp_is k e.0 Greater (ltb-true e.0 k before)))
            ∙ ap (λ rest. e ∷ rest) (put_new es k v (not_found k e es none).1)
        | false ↦ λ after. ap (λ r. by_order r ((k, v) ∷ e ∷ es) ((e.0, v) ∷ es) (e ∷ put nat_cmp k v es))
            (sym (nat_cmp_is k e.0 Less (between k e.0 (ltb-false e.0 k after) (λ same. (not_found k e es none).0 (sym same)))))
      ] refl

  -- an entry of a lesser birth stands before the place
  pub place_above : (es : List (ℕ × X)) (i k : ℕ) (d : ℕ × X) → IsTrue (is_sorted nat_cmp es) → i < length es
      → (get_or es i d).0 < k → i + 1 ≤ place k es
  place_above [] i k d sorted less before = absurd (omega arith)
  place_above (e ∷ es) zero k d sorted less before = rw (lt-ltb e.0 k before) (omega arith)
  place_above (e ∷ es) (suc i) k d sorted less before =
      let parts = and_parts (below_all nat_cmp e.0 es) (is_sorted nat_cmp es) sorted in
      let rest = place_above es i k d parts.1 (omega arith) before in
      let greater = above es i e.0 (get_or es i d).0 d parts.0 (omega arith) refl in
      rw (lt-ltb e.0 k (omega arith)) (omega arith)

  -- and one of the same or a greater birth does not
  pub place_below : (es : List (ℕ × X)) (i k : ℕ) (d : ℕ × X) → i < length es → k ≤ (get_or es i d).0 → place k es ≤ i
  place_below [] i k d less after = absurd (omega arith)
  place_below (e ∷ es) zero k d less after = rw (le-ltb e.0 k after) (omega arith)
  place_below (e ∷ es) (suc i) k d less after =
      let rest = place_below es i k d (omega arith) after in
      elim (nat_lt e.0 k) as (λ b. cond b (suc (place k es)) 0 ≤ suc i) [ true ↦ omega arith | false ↦ omega arith ]

  -- an entry of the birth is the one that is looked for
  pub entry_found : (es : List (ℕ × X)) (i k : ℕ) (e : ℕ × X) → IsTrue (is_sorted nat_cmp es) → i < length es
      → (get_or es i e).0 ≡ k → HasEntry es i k
  entry_found es i k e sorted less same =
      let birth : (d : ℕ × X) → (get_or es i d).0 ≡ k = λ d. ap (λ (x : ℕ × X). x.0) (read_same es i d e less) ∙ same in
      (less, birth, λ d. found es i k d sorted less (birth d))
    where
      found : (es : List (ℕ × X)) (i k : ℕ) (d : ℕ × X) → IsTrue (is_sorted nat_cmp es) → i < length es
          → (get_or es i d).0 ≡ k → find nat_cmp k es ≡ Some (get_or es i d).1
      found [] i k d sorted less same = absurd (omega arith)
      found (e ∷ es) zero k d sorted less same =
          find_first k e es ∙ ap (λ b. cond b (Some e.1) (find nat_cmp k es)) (eq-eqb k e.0 (sym same))
      found (e ∷ es) (suc i) k d sorted less same =
          let parts = and_parts (below_all nat_cmp e.0 es) (is_sorted nat_cmp es) sorted in
          let greater = above es i e.0 k d parts.0 (omega arith) same in
          find_first k e es
          ∙ ap (λ b. cond b (Some e.1) (find nat_cmp k es)) (differs k e.0 (λ equal. absurd (omega arith)))
          ∙ found es i k d parts.1 (omega arith) same

  none_below : (es : List (ℕ × X)) (x k : ℕ) → IsTrue (below_all nat_cmp x es) → k < x → find nat_cmp k es ≡ None
  none_below [] x k below less = refl
  none_below (e ∷ es) x k below less =
      let parts = and_parts (is_lt (nat_cmp x e.0)) (below_all nat_cmp x es) below in
      let greater = less_than x e.0 parts.0 in
      find_first k e es
      ∙ ap (λ b. cond b (Some e.1) (find nat_cmp k es)) (differs k e.0 (λ equal. absurd (omega arith)))
      ∙ none_below es x k parts.1 less

  -- where no entry at the place is of the birth, none is
  pub entry_missing : (es : List (ℕ × X)) (k : ℕ) (d : ℕ × X) → IsTrue (is_sorted nat_cmp es)
      → (place k es < length es → (get_or es (place k es) d).0 ≡ k → ⊥) → find nat_cmp k es ≡ None
  entry_missing [] k d sorted other = refl
  entry_missing (e ∷ es) k d sorted other =
      let parts = and_parts (below_all nat_cmp e.0 es) (is_sorted nat_cmp es) sorted in
      elim (nat_lt e.0 k) as (λ b. nat_lt e.0 k ≡ b
      → (cond b (suc (place k es)) 0 < suc (length es) → (get_or (e ∷ es) (cond b (suc (place k es)) 0) d).0 ≡ k → ⊥)
      → find nat_cmp k (e ∷ es) ≡ None) [
        | true ↦ λ before other. find_first k e es
            ∙ ap (λ b. cond b (Some e.1) (find nat_cmp k es)) (differs k e.0 (λ equal. absurd (omega (arith, ltb-true e.0 k before))))
            ∙ entry_missing es k d parts.1 (λ less same. other (omega arith) same)
        | false ↦ λ after other.
            let less = between k e.0 (ltb-false e.0 k after) (λ same. other (omega arith) same) in
            find_first k e es
            ∙ ap (λ b. cond b (Some e.1) (find nat_cmp k es)) (differs k e.0 (λ equal. absurd (omega arith)))
            ∙ none_below es e.0 k parts.0 less
      ] refl other

  -- where the place is behind all entries, none is of the birth
  pub entry_missing_behind : (es : List (ℕ × X)) (k : ℕ) → IsTrue (is_sorted nat_cmp es) → length es ≤ place k es → find nat_cmp k es ≡ None
  entry_missing_behind [] k sorted behind = refl
  entry_missing_behind (e ∷ es) k sorted behind = entry_missing (e ∷ es) k e sorted (λ less same. absurd (omega arith))

  pub place_in_list : (k : ℕ) (es : List (ℕ × X)) → place k es ≤ length es
  place_in_list k [] = omega arith
  place_in_list k (e ∷ es) =
      elim (nat_lt e.0 k) as (λ b. cond b (suc (place k es)) 0 ≤ suc (length es)) [
        | true ↦ omega (arith, place_in_list k es)
        | false ↦ omega arith
      ]

  -- the entry at the index with a new value
  pub put_again : (es : List (ℕ × X)) (i k : ℕ) (v : X) (old : ℕ × X) → IsTrue (is_sorted nat_cmp es) → HasEntry es i k
      → old ≡ get_or es i old → set es i (old.0, v) ≡ put nat_cmp k v es
  put_again es i k v old sorted has is =
      ap (λ n. set es i (n, v)) (ap (λ (x : ℕ × X). x.0) is ∙ has.1 old)
      ∙ sym (put_there es i k v old sorted has.0 (has.1 old))
