-- The table of entries: what a write and a push make of what stands where, and of the pairs that wait.
use Rattle.std.proofs.Common.{◌≡◌, ◌≢◌, ℕ, zero, suc, ◌<◌, true, false, ◌&&◌, eqb, List, [], ◌∷◌, ◌++◌, length, set, refl, sym, ◌∙◌, ap, arith, rules}
use Rattle.std.specs.Prelude.{Option, Some, None, slice_get, is_some}
use Rattle.std.specs.Map.{lookup, remove_entry}
use Rattle.weak_eph.specs.declared.watches.Entry.{Entry}
use Rattle.weak_eph.specs.Watching.{before, waiting, waits_at}

module _ {X : Type 0} where
  pub slice_get-set_same : (xs : List X) (i : ℕ) (x y : X) → slice_get xs i ≡ Some x → slice_get (set xs i y) i ≡ Some y
  slice_get-set_same [] i x y e = search (rules, e)
  slice_get-set_same (z ∷ xs) zero x y e = refl
  slice_get-set_same (z ∷ xs) (suc i) x y e = slice_get-set_same xs i x y e

  pub slice_get-set_other : (xs : List X) (i j : ℕ) (y : X) → j ≢ i → slice_get (set xs i y) j ≡ slice_get xs j
  slice_get-set_other [] i j y ne = refl
  slice_get-set_other (z ∷ xs) zero zero y ne = absurd (ne refl)
  slice_get-set_other (z ∷ xs) zero (suc j) y ne = refl
  slice_get-set_other (z ∷ xs) (suc i) zero y ne = refl
  slice_get-set_other (z ∷ xs) (suc i) (suc j) y ne = slice_get-set_other xs i j y (λ e. ne (ap suc e))

  pub slice_get-push_here : (xs : List X) (x : X) → slice_get (xs ++ x ∷ []) (length xs) ≡ Some x
  slice_get-push_here [] x = refl
  slice_get-push_here (y ∷ xs) x = slice_get-push_here xs x

  pub slice_get-push_other : (xs : List X) (x : X) (j : ℕ) → j ≢ length xs → slice_get (xs ++ x ∷ []) j ≡ slice_get xs j
  slice_get-push_other [] x zero ne = absurd (ne refl)
  slice_get-push_other [] x (suc j) ne = refl
  slice_get-push_other (y ∷ xs) x zero ne = refl
  slice_get-push_other (y ∷ xs) x (suc j) ne = slice_get-push_other xs x j (λ e. ne (ap suc e))

module _ {B : Type 0} where
  pub before-append : (key : ℕ) (back : Option B) (ps qs : List (ℕ × B)) → before key back ps ++ qs ≡ before key back (ps ++ qs)
  before-append key None ps qs = refl
  before-append key (Some b) ps qs = refl

  pub waiting-push : (es : List (Entry B)) (e : Entry B) → waiting (es ++ e ∷ []) ≡ waiting es ++ before e.key e.back []
  waiting-push [] e = refl
  waiting-push (x ∷ es) e = ap (before x.key x.back) (waiting-push es e) ∙ sym (before-append x.key x.back (waiting es) (before e.key e.back []))

  -- an entry whose key and back stay
  pub waiting-set : (es : List (Entry B)) (i : ℕ) (e d : Entry B) → slice_get es i ≡ Some e → d.key ≡ e.key → d.back ≡ e.back → waiting (set es i d) ≡ waiting es
  waiting-set [] i e d h k b = refl
  waiting-set (x ∷ es) zero e d h k b = let same : x ≡ e = search (rules, h) in rw (k, b, same) refl
  waiting-set (x ∷ es) (suc i) e d h k b = ap (before x.key x.back) (waiting-set es i e d h k b)

  passed_lookup : (key k : ℕ) (b : Option B) (ps : List (ℕ × B)) → (eqb key k && is_some b) ≡ false → lookup (eqb key) (before k b ps) ≡ lookup (eqb key) ps
  passed_lookup key k None ps h = refl
  passed_lookup key k (Some b) ps h = let no : eqb key k ≡ false = search (rules, h) in rw no refl

  passed_remove : (key k : ℕ) (b : Option B) (ps : List (ℕ × B)) → (eqb key k && is_some b) ≡ false → remove_entry (eqb key) (before k b ps) ≡ before k b (remove_entry (eqb key) ps)
  passed_remove key k None ps h = refl
  passed_remove key k (Some b) ps h = let no : eqb key k ≡ false = search (rules, h) in rw no refl

  here_lookup : (key k : ℕ) (b : Option B) (ps : List (ℕ × B)) → (eqb key k && is_some b) ≡ true → lookup (eqb key) (before k b ps) ≡ b
  here_lookup key k None ps h = search (rules, h)
  here_lookup key k (Some b) ps h = let yes : eqb key k ≡ true = search (rules, h) in rw yes refl

  here_remove : (key k : ℕ) (b : Option B) (ps : List (ℕ × B)) → (eqb key k && is_some b) ≡ true → ps ≡ remove_entry (eqb key) (before k b ps)
  here_remove key k None ps h = search (rules, h)
  here_remove key k (Some b) ps h = let yes : eqb key k ≡ true = search (rules, h) in rw yes refl

  -- the first place that waits for a key has the first back of that key
  pub lookup-waiting : (es : List (Entry B)) (key i : ℕ) (e : Entry B) → slice_get es i ≡ Some e → waits_at es key i ≡ true → ((j : ℕ) → j < i → waits_at es key j ≡ false) → lookup (eqb key) (waiting es) ≡ e.back
  lookup-waiting [] key i e h t n = search (rules, h)
  lookup-waiting (x ∷ es) key zero e h t n = let same : x ≡ e = search (rules, h) in here_lookup key x.key x.back (waiting es) t ∙ ap (λ y. y.back) same
  lookup-waiting (x ∷ es) key (suc i) e h t n = passed_lookup key x.key x.back (waiting es) (n 0 (omega arith)) ∙ lookup-waiting es key i e h t (λ j l. n (suc j) (omega (arith, l)))

  -- and the pairs without it are those that wait once it was taken
  pub remove-waiting : (es : List (Entry B)) (key i : ℕ) (e d : Entry B) → slice_get es i ≡ Some e → waits_at es key i ≡ true → ((j : ℕ) → j < i → waits_at es key j ≡ false) → d.back ≡ None → waiting (set es i d) ≡ remove_entry (eqb key) (waiting es)
  remove-waiting [] key i e d h t n g = search (rules, h)
  remove-waiting (x ∷ es) key zero e d h t n g = ap (λ b. before d.key b (waiting es)) g ∙ here_remove key x.key x.back (waiting es) t
  remove-waiting (x ∷ es) key (suc i) e d h t n g = ap (before x.key x.back) (remove-waiting es key i e d h t (λ j l. n (suc j) (omega (arith, l))) g) ∙ sym (passed_remove key x.key x.back (waiting es) (n 0 (omega arith)))

  pub lookup-waiting_none : (es : List (Entry B)) (key : ℕ) → ((j : ℕ) → waits_at es key j ≡ false) → lookup (eqb key) (waiting es) ≡ None
  lookup-waiting_none [] key n = refl
  lookup-waiting_none (x ∷ es) key n = passed_lookup key x.key x.back (waiting es) (n 0) ∙ lookup-waiting_none es key (λ j. n (suc j))

  pub remove-waiting_none : (es : List (Entry B)) (key : ℕ) → ((j : ℕ) → waits_at es key j ≡ false) → remove_entry (eqb key) (waiting es) ≡ waiting es
  remove-waiting_none [] key n = refl
  remove-waiting_none (x ∷ es) key n = passed_remove key x.key x.back (waiting es) (n 0) ∙ ap (before x.key x.back) (remove-waiting_none es key (λ j. n (suc j)))
