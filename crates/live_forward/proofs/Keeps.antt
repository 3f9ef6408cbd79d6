-- Each step keeps the rule.
use Rattle.std.proofs.Common.{◌≡◌, ◌≢◌, ◌⊎◌, ℕ, zero, suc, ◌+◌, ◌%◌, ◌^◌, ◌<◌, ◌≤◌, List, [], ◌∷◌, ◌++◌, length, get_or, take, set, Some, None, refl, sym, ap, ◌∙◌, subst, inl, inr, ⊎_elim, arith, length-set}
use Rattle.std.specs.Prelude.{sum, sum_by, slice_index, Contains}
use Rattle.std.proofs.Math.Nat.{mod-eq_of_lt}
use Rattle.std.proofs.lemmas.Bool.{cases_lt, cases_eq}
use Rattle.std.proofs.lemmas.Option.{none-some, same_Some}
use Rattle.std.proofs.lemmas.List.{take-take, get_or-set_same, get_or-set_other, set-get_or}
use Rattle.std.proofs.lemmas.List.Sums.{sum_by-take-le, sum_by-set, sum_by_push}
use Rattle.std.proofs.lemmas.List.Elements.{Contains-append_cases, Contains-append_left, Contains-append_right}
use mathlib.Core.Option.{some, some-injective, some-ne-none}
use lib.ListN.{get_elem?}
use Rattle.atomic_table.specs.Table.{State, Me, Step, keeps, step, Allows, Splits, Joins}
use Rattle.atomic_table.proofs.Lists.{at_set, at_snoc}
use Rattle.gc_words.proofs.WordLaws.{word_of-object}
use Rattle.live_forward.specs.declared.view.View.{View}
use Rattle.live_forward.specs.Forwarding.{place_word, IsPlace, start_of, IsWithin, IsRanged, Owns, Records, first_view, spent, without_rights, split_off, claimed, stored, saw, joined, Fits, KeepsRule, Claims, Stores, Loads, Agrees, Settles}

start_mono : (ranges : List ℕ) (i j : ℕ) → i ≤ j → start_of ranges i ≤ start_of ranges j
start_mono ranges i j h =
    let part : sum (take i (take j ranges)) ≤ sum (take j ranges) = sum_by-take-le (λ x. x) (take j ranges) i in
    let less : sum (take i ranges) ≤ sum (take j ranges) = subst (λ t. sum t ≤ sum (take j ranges)) (take-take i j ranges h) part in
    omega arith

pub within_ranged : (ranges : List ℕ) (k w : ℕ) → IsWithin ranges k w → IsRanged ranges w
within_ranged ranges k w h = let all : sum (take (k + 1) ranges) ≤ sum ranges = sum_by-take-le (λ x. x) ranges (k + 1) in (omega arith, omega arith)

pub one_range : (ranges : List ℕ) (i j w : ℕ) → IsWithin ranges i w → IsWithin ranges j w → i ≡ j
one_range ranges i j w h g =
    ⊎_elim
    (λ (l : i < j). let m = start_mono ranges (i + 1) j (omega arith) in absurd (omega arith))
    (λ (l : j ≤ i). ⊎_elim (λ (l' : j < i). let m = start_mono ranges (j + 1) i (omega arith) in absurd (omega arith)) (λ (l' : i ≤ j). omega arith) (cases_lt j i))
    (cases_lt i j)

elem_at : {A : Type 0} (l : List A) (i : ℕ) (a d : A) → get_elem? l i ≡ some a → (i < length l) × (get_or l i d ≡ a)
elem_at [] i a d e = absurd (some-ne-none a (sym e))
elem_at (x ∷ xs) zero a d e = (omega arith, some-injective x a e)
elem_at (x ∷ xs) (suc i) a d e = let r = elem_at xs i a d e in (omega arith, r.1)

each_set : (P : View → Type 0) (views : List View) (id : ℕ) (w : View) → ((j : ℕ) (u : View) → j ≢ id → get_elem? views j ≡ some u → P u) → P w → (j : ℕ) (u : View) → get_elem? (set views id w) j ≡ some u → P u
each_set P views id w others mine j u e =
    ⊎_elim
    (λ (x : (j ≡ id) × (w ≡ u)). subst P x.1 mine)
    (λ (x : (j ≢ id) × (get_elem? views j ≡ some u)). others j u x.0 x.1)
    (at_set views id j w u e)

-- a view with a number is not spent
live : (ranges : List ℕ) (v : View) (k : ℕ) → (v.ranges ≡ ranges) ⊎ (v ≡ spent) → v.number ≡ Some k → v.ranges ≡ ranges
live ranges v k (inl e) n = e
live ranges v k (inr e) n = absurd (none-some k (sym (ap (λ (u : View). u.number) e) ∙ n))

owns_within : (ranges words : List ℕ) (v : View) (w : ℕ) → Fits ranges words v → (o : Owns v w) → IsWithin ranges o.0 w
owns_within ranges words v w f o = subst (λ r. IsWithin r o.0 w) (live ranges v o.0 f.ranged o.1) o.2

owns_ranged : (ranges words : List ℕ) (v : View) (w : ℕ) → Fits ranges words v → Owns v w → IsRanged ranges w
owns_ranged ranges words v w f o = within_ranged ranges o.0 w (owns_within ranges words v w f o)

-- what holds of a view goes on to hold where no word changes that it owns or knows
fits_words : (ranges words next : List ℕ) (v : View) → Fits ranges words v → slice_index words 0 ≤ slice_index next 0
    → ((w : ℕ) → Owns v w → slice_index next w ≡ slice_index words w)
    → ((w x : ℕ) → 0 < w → slice_index words w ≡ place_word x → slice_index next w ≡ slice_index words w) → Fits ranges next v
fits_words ranges words next v f more mine known = record {
  ranged = f.ranged;
  number = λ k e. let l = f.number k e in omega arith;
  floor = let l = f.floor in omega arith;
  own = λ w x h. let o = f.own w x h in (o.0, mine w o.0 ∙ o.1);
  rest = λ w o. ⊎_elim (λ (e : slice_index words w ≡ 0). inl (mine w o ∙ e)) (λ (r : Records v.own w). inr r) (f.rest w o);
  seen = λ w x h. let s = f.seen w x h in (s.0, known w x s.0.0 s.1 ∙ s.1);
}

nothing : (x : ℕ × ℕ) → Contains [] x → ⊥
nothing x c = omega arith

only_one : (x y : ℕ × ℕ) → Contains (x ∷ []) y → x ≡ y
only_one x y (zero, l, e) = e
only_one x y (suc k, l, e) = absurd (omega arith)

rights_set : (views : List View) (id : ℕ) (v w : View) → get_elem? views id ≡ some v → sum_by (λ (u : View). u.rights) (set views id w) + v.rights ≡ sum_by (λ (u : View). u.rights) views + w.rights
rights_set views id v w at =
    let e = elem_at views id v v at in
    let s = sum_by-set (λ (u : View). u.rights) views id w v e.0 in
    ap (λ (u : View). sum_by (λ (u : View). u.rights) (set views id w) + u.rights) (sym e.1) ∙ s

-- numbers stay apart where a view keeps its number or loses it
apart_set : (views : List View) (id : ℕ) (v w : View) → get_elem? views id ≡ some v → ((k : ℕ) → w.number ≡ Some k → v.number ≡ Some k)
    → ((i j k : ℕ) (a b : View) → get_elem? views i ≡ some a → get_elem? views j ≡ some b → a.number ≡ Some k → b.number ≡ Some k → i ≡ j)
    → (i j k : ℕ) (a b : View) → get_elem? (set views id w) i ≡ some a → get_elem? (set views id w) j ≡ some b → a.number ≡ Some k → b.number ≡ Some k → i ≡ j
apart_set views id v w at less apart i j k a b ai bj ak bk =
    let P : ℕ → Type 0 = λ i. (c : View) × (get_elem? views i ≡ some c) × (c.number ≡ Some k) in
    let was : (i : ℕ) (c : View) → get_elem? (set views id w) i ≡ some c → c.number ≡ Some k → P i =
    λ i c e n. ⊎_elim
    (λ (x : (i ≡ id) × (w ≡ c)). subst P (sym x.0) (v, at, less k (ap (λ (u : View). u.number) x.1 ∙ n)))
    (λ (x : (i ≢ id) × (get_elem? views i ≡ some c)). (c, x.1, n))
    (at_set views id i w c e) in
    let p = was i a ai ak in
    let q = was j b bj bk in
    apart i j k p.0 q.0 p.1 q.1 p.2 q.2

-- a view changes, and no word
pub kept_view : (ranges words : List ℕ) (views : List View) (id : ℕ) (v w : View) → KeepsRule ranges words views → get_elem? views id ≡ some v → Fits ranges words w
    → ((k : ℕ) → w.number ≡ Some k → v.number ≡ Some k) → w.rights ≤ v.rights → KeepsRule ranges words (set views id w)
kept_view ranges words views id v w h at fits less fewer = record {
  size = h.size;
  each = each_set (Fits ranges words) views id w (λ j u _ e. h.each j u e) fits;
  apart = apart_set views id v w at less h.apart;
  rights = let r = rights_set views id v w at in let l = h.rights in omega arith;
  unclaimed = h.unclaimed;
  places = h.places;
}

-- the start
pub begins : (ranges words : List ℕ) → length words ≡ 1 + sum ranges → ((w : ℕ) → slice_index words w ≡ 0) → KeepsRule ranges words (first_view ranges ∷ [])
begins ranges words size zeros = record {
  size = size;
  each = λ id v e. subst (Fits ranges words) (only id v e) fits;
  apart = λ i j k a b ai bj ak bk. absurd (none-some k (ap (λ (u : View). u.number) (only i a ai) ∙ ak));
  rights = let z = zeros 0 in omega arith;
  unclaimed = λ k w _ _. zeros w;
  places = λ w _ n. absurd (n (zeros w));
}
  where
    only : (id : ℕ) (v : View) → get_elem? (first_view ranges ∷ []) id ≡ some v → first_view ranges ≡ v
    only zero v e = some-injective _ _ e
    only (suc id) v e = absurd (some-ne-none v (sym e))

    fits : Fits ranges words (first_view ranges)
    fits = record {
      ranged = inl refl;
      number = λ k e. absurd (none-some k e);
      floor = omega arith;
      own = λ w x c. absurd (nothing (w, x) c);
      rest = λ w o. absurd (none-some o.0 o.1);
      seen = λ w x c. absurd (nothing (w, x) c);
    }

-- a view with no number, that knows what this view forwarded and saw
fits_split : (ranges words : List ℕ) (v : View) → Fits ranges words v → Fits ranges words (split_off v)
fits_split ranges words v f = record {
  ranged = ⊎_elim (λ (e : v.ranges ≡ ranges). inl e) (λ (e : v ≡ spent). inr (ap split_off e)) f.ranged;
  number = λ k e. absurd (none-some k e);
  floor = f.floor;
  own = λ w x c. absurd (nothing (w, x) c);
  rest = λ w o. absurd (none-some o.0 o.1);
  seen = λ w x c. ⊎_elim
      (λ (d : Contains v.own (w, x)). let o = f.own w x d in (owns_ranged ranges words v w f o.0, o.1))
      (λ (d : Contains v.seen (w, x)). f.seen w x d)
      (Contains-append_cases v.own v.seen (w, x) c);
}

fits_left : (ranges words : List ℕ) (v : View) → Fits ranges words v → Fits ranges words (without_rights v)
fits_left ranges words v f = record {
  ranged = ⊎_elim (λ (e : v.ranges ≡ ranges). inl e) (λ (e : v ≡ spent). inr (ap without_rights e)) f.ranged;
  number = f.number;
  floor = f.floor;
  own = f.own;
  rest = f.rest;
  seen = f.seen;
}

pub splits : (ranges : List ℕ) (id : ℕ) (v : View) → Splits (λ (s : State ℕ View). KeepsRule ranges s.words s.views) id v (without_rights v) (split_off v)
splits ranges id v s h at =
    let left : List View = set s.views id (without_rights v) in
    let k : KeepsRule ranges s.words left = kept_view ranges s.words s.views id v (without_rights v) h at (fits_left ranges s.words v (h.each id v at)) (λ k e. e) (omega arith) in
    let right = fits_split ranges s.words v (h.each id v at) in
    let old : (i n : ℕ) (a : View) → get_elem? (left ++ split_off v ∷ []) i ≡ some a → a.number ≡ Some n → get_elem? left i ≡ some a =
    λ i n a e num. ⊎_elim (λ (w : get_elem? left i ≡ some a). w) (λ (w : split_off v ≡ a). absurd (none-some n (ap (λ (u : View). u.number) w ∙ num))) (at_snoc left (split_off v) a i e) in record {
      size = h.size;
      each = λ i a e. ⊎_elim (λ (w : get_elem? left i ≡ some a). k.each i a w) (λ (w : split_off v ≡ a). subst (Fits ranges s.words) w right) (at_snoc left (split_off v) a i e);
      apart = λ i j n a b ai bj an bn. k.apart i j n a b (old i n a ai an) (old j n b bj bn) an bn;
      rights =
          let r = rights_set s.views id v (without_rights v) at in
          let p = sum_by_push (λ (u : View). u.rights) left (split_off v) in
          let l = h.rights in
          omega arith;
      unclaimed = h.unclaimed;
      places = h.places;
    }

fits_joined : (ranges words : List ℕ) (v u : View) → Fits ranges words v → Fits ranges words u → v.ranges ≡ ranges → Fits ranges words (joined v u)
fits_joined ranges words v u f g same = record {
  ranged = inl same;
  number = f.number;
  floor = f.floor;
  own = f.own;
  rest = f.rest;
  seen = λ w x c. ⊎_elim
      (λ (d : Contains v.seen (w, x)). f.seen w x d)
      (λ (d : Contains (u.own ++ u.seen) (w, x)). (fits_split ranges words u g).seen w x d)
      (Contains-append_cases v.seen (u.own ++ u.seen) (w, x) c);
}

fits_spent : (ranges words : List ℕ) → Fits ranges words spent
fits_spent ranges words = record {
  ranged = inr refl;
  number = λ k e. absurd (none-some k e);
  floor = omega arith;
  own = λ w x c. absurd (nothing (w, x) c);
  rest = λ w o. absurd (none-some o.0 o.1);
  seen = λ w x c. absurd (nothing (w, x) c);
}

-- a view with ranges is not spent
ranged_view : (ranges : List ℕ) (v : View) → 0 < length v.ranges → (v.ranges ≡ ranges) ⊎ (v ≡ spent) → v.ranges ≡ ranges
ranged_view ranges v p (inl e) = e
ranged_view ranges v p (inr e) = let r : length v.ranges ≡ 0 = ap (λ (u : View). length u.ranges) e in absurd (omega arith)

pub joins : (ranges : List ℕ) (id : ℕ) (v : View) (other : ℕ) (u : View) → 0 < length v.ranges → Joins (λ (s : State ℕ View). KeepsRule ranges s.words s.views) id v other u (joined v u) spent
joins ranges id v other u some_range s h at two there =
    let same : v.ranges ≡ ranges = ranged_view ranges v some_range (h.each id v at).ranged in
    let both : List View = set s.views id (joined v u) in
    let was : get_elem? s.views other ≡ some u = ⊎_elim (λ (t : (other ≡ id) × (joined v u ≡ u)). absurd (two t.0)) (λ (t : (other ≢ id) × (get_elem? s.views other ≡ some u)). t.1) (at_set s.views id other (joined v u) u there) in
    let k : KeepsRule ranges s.words both = kept_view ranges s.words s.views id v (joined v u) h at (fits_joined ranges s.words v u (h.each id v at) (h.each other u was) same) (λ k e. e) (omega arith) in
    kept_view ranges s.words both other u spent k there (fits_spent ranges s.words) (λ k e. absurd (none-some k e)) (omega arith)

-- a claim
kept_claimed : (ranges words : List ℕ) (views : List View) (id : ℕ) (v : View) (n : ℕ) → KeepsRule ranges words views → get_elem? views id ≡ some v
    → v.number ≡ None → v.ranges ≡ ranges → 0 < v.rights → slice_index words 0 ≡ n → KeepsRule ranges (set words 0 (n + 1)) (set views id (claimed n v))
kept_claimed ranges words views id v n h at none same some_right is =
    let next : List ℕ = set words 0 (n + 1) in
    let long = h.size in
    let count : slice_index next 0 ≡ n + 1 = get_or-set_same words 0 (n + 1) 0 (omega arith) in
    let else : (w : ℕ) → 0 < w → slice_index next w ≡ slice_index words w = λ w p. get_or-set_other words 0 w (n + 1) 0 (λ e. omega arith) in
    let f = h.each id v at in
    let owned : (u : View) → Fits ranges words u → (w : ℕ) → Owns u w → slice_index next w ≡ slice_index words w = λ u g w o. else w (owns_ranged ranges words u w g o).0 in
    let g : Fits ranges next v = fits_words ranges words next v f (omega arith) (owned v f) (λ w x p _. else w p) in
    let mine : Fits ranges next (claimed n v) = record {
      ranged = inl same;
      number = λ k e. let e' = same_Some n k e in omega arith;
      floor = omega arith;
      own = λ w x c. let o = f.own w x c in absurd (none-some o.0.0 (sym none ∙ o.0.1));
      rest = λ w o. let wi : IsWithin ranges o.0 w = subst (λ r. IsWithin r o.0 w) same o.2 in let e' = same_Some n o.0 o.1 in inl (else w (within_ranged ranges o.0 w wi).0 ∙ h.unclaimed o.0 w (omega arith) wi);
      seen = g.seen;
    } in
    let new_one : (i k : ℕ) (a : View) → get_elem? (set views id (claimed n v)) i ≡ some a → a.number ≡ Some k → ((i ≡ id) × (n ≡ k)) ⊎ ((get_elem? views i ≡ some a) × (k < n)) =
    λ i k a e num. ⊎_elim
    (λ (x : (i ≡ id) × (claimed n v ≡ a)). inl (x.0, same_Some n k (ap (λ (u : View). u.number) x.1 ∙ num)))
    (λ (x : (i ≢ id) × (get_elem? views i ≡ some a)). let l = (h.each i a x.1).number k num in inr (x.1, omega arith))
    (at_set views id i (claimed n v) a e) in record {
      size = length-set words 0 (n + 1) ∙ h.size;
      each = each_set (Fits ranges next) views id (claimed n v) (λ j u _ e. fits_words ranges words next u (h.each j u e) (omega arith) (owned u (h.each j u e)) (λ w x p _. else w p)) mine;
      apart = λ i j k a b ai bj ak bk. ⊎_elim
          (λ (x : (i ≡ id) × (n ≡ k)). ⊎_elim (λ (y : (j ≡ id) × (n ≡ k)). x.0 ∙ sym y.0) (λ (y : (get_elem? views j ≡ some b) × (k < n)). let x1 = x.1 in let y1 = y.1 in absurd (omega arith)) (new_one j k b bj bk))
          (λ (x : (get_elem? views i ≡ some a) × (k < n)). ⊎_elim (λ (y : (j ≡ id) × (n ≡ k)). let x1 = x.1 in let y1 = y.1 in absurd (omega arith)) (λ (y : (get_elem? views j ≡ some b) × (k < n)). h.apart i j k a b x.0 y.0 ak bk) (new_one j k b bj bk))
          (new_one i k a ai ak);
      rights = let r = rights_set views id v (claimed n v) at in let l = h.rights in omega arith;
      unclaimed = λ k w l wi. else w (within_ranged ranges k w wi).0 ∙ h.unclaimed k w (omega arith) wi;
      places = λ w p ne. subst IsPlace (sym (else w p)) (h.places w p (λ e. ne (else w p ∙ e)));
    }

-- a view with a right is not spent
righted : (ranges : List ℕ) (v : View) → 0 < v.rights → (v.ranges ≡ ranges) ⊎ (v ≡ spent) → v.ranges ≡ ranges
righted ranges v p (inl e) = e
righted ranges v p (inr e) = let r : v.rights ≡ 0 = ap (λ (u : View). u.rights) e in absurd (omega arith)

rights_one : (views : List View) (id : ℕ) (v : View) → get_elem? views id ≡ some v → v.rights ≤ sum_by (λ (u : View). u.rights) views
rights_one views id v at = let r = rights_set views id v spent at in omega arith

pub claims : (ranges : List ℕ) (slots id : ℕ) (v : View) (c : List (ℕ × ℕ)) → v.number ≡ None → 0 < v.rights → length ranges < 2 ^ 63
    → Allows (λ (s : State ℕ View). KeepsRule ranges s.words s.views) slots id (v, c) 0 (λ n. (n + 1) % 2 ^ 64) (Claims (step slots 0 1 0 mathlib.Core.Option.none) (v, c))
claims ranges slots id v c none some_right short s h homes at fits =
    let n : ℕ = slice_index s.words 0 in
    let same : v.ranges ≡ ranges = righted ranges v some_right (h.each id v at).ranged in
    let one = rights_one s.views id v at in
    let most = h.rights in
    let plus : (n + 1) % 2 ^ 64 ≡ n + 1 = mod-eq_of_lt (omega arith) in
    let now = kept_claimed ranges s.words s.views id v n h at none same some_right refl in (
      claimed n v,
      keeps,
      tt,
      subst (λ m. KeepsRule ranges (set s.words 0 m) (set s.views id (claimed n v))) (sym plus) now,
      (refl, (h.each id v at).floor, subst (λ r. n + v.rights ≤ length r) (sym same) (omega arith)),
    )

-- a word of a range whose view is known holds what the view recorded, and other views know nothing of a word that is 0
kept_stored : (ranges words : List ℕ) (views : List View) (id : ℕ) (v : View) (w x : ℕ) → KeepsRule ranges words views → get_elem? views id ≡ some v
    → Owns v w → (Records v.own w → ⊥) → IsPlace (place_word x) → KeepsRule ranges (set words w (place_word x)) (set views id (stored w x v))
kept_stored ranges words views id v w x h at owns fresh fits_place =
    let next : List ℕ = set words w (place_word x) in
    let f = h.each id v at in
    let long = h.size in
    let in' : IsRanged ranges w = owns_ranged ranges words v w f owns in
    let here : slice_index next w ≡ place_word x = get_or-set_same words w (place_word x) 0 (omega arith) in
    let else : (y : ℕ) → y ≢ w → slice_index next y ≡ slice_index words y = λ y n. get_or-set_other words w y (place_word x) 0 n in
    let count : slice_index next 0 ≡ slice_index words 0 = else 0 (λ e. omega arith) in
    let empty : slice_index words w ≡ 0 = ⊎_elim (λ (e : slice_index words w ≡ 0). e) (λ (r : Records v.own w). absurd (fresh r)) (f.rest w owns) in
    let known : (y z : ℕ) → 0 < y → slice_index words y ≡ place_word z → slice_index next y ≡ slice_index words y = λ y z p e. else y (λ same. let e' : slice_index words w ≡ place_word z = subst (λ i. slice_index words i ≡ place_word z) same e in omega arith) in
    let mine : Fits ranges next (stored w x v) = record {
      ranged = ⊎_elim (λ (e : v.ranges ≡ ranges). inl e) (λ (e : v ≡ spent). absurd (none-some owns.0 (sym (ap (λ (u : View). u.number) e) ∙ owns.1))) f.ranged;
      number = λ k e. let l = f.number k e in omega arith;
      floor = let l = f.floor in omega arith;
      own = λ y z c. ⊎_elim
          (λ (d : Contains v.own (y, z)). let o = f.own y z d in (o.0, known y z (owns_ranged ranges words v y f o.0).0 o.1 ∙ o.1))
          (λ (d : Contains ((w, x) ∷ []) (y, z)). let e = only_one (w, x) (y, z) d in subst (λ (p : ℕ × ℕ). Owns v p.0 × (slice_index next p.0 ≡ place_word p.1)) e (owns, here))
          (Contains-append_cases v.own ((w, x) ∷ []) (y, z) c);
      rest = λ y o. ⊎_elim
          (λ (same : y ≡ w). inr (subst (Records (v.own ++ (w, x) ∷ [])) (sym same) (x, Contains-append_right v.own ((w, x) ∷ []) (w, x) (0, omega arith, refl))))
          (λ (n : y ≡ w → ⊥). ⊎_elim (λ (e : slice_index words y ≡ 0). inl (else y n ∙ e)) (λ (r : Records v.own y). inr (r.0, Contains-append_left v.own ((w, x) ∷ []) (y, r.0) r.1)) (f.rest y o))
          (cases_eq y w);
      seen = λ y z c. let s = f.seen y z c in (s.0, known y z s.0.0 s.1 ∙ s.1);
    } in
    let others : (j : ℕ) (u : View) → j ≢ id → get_elem? views j ≡ some u → Fits ranges next u =
    λ j u n e. let g = h.each j u e in fits_words ranges words next u g (omega arith)
    (λ y o. else y (λ same.
    let o' : IsWithin ranges o.0 w = subst (IsWithin ranges o.0) same (owns_within ranges words u y g o) in
    let k : owns.0 ≡ o.0 = one_range ranges owns.0 o.0 w (owns_within ranges words v w f owns) o' in
    n (h.apart j id o.0 u v e at o.1 (owns.1 ∙ ap Some k))))
    known in record {
      size = length-set words w (place_word x) ∙ h.size;
      each = each_set (Fits ranges next) views id (stored w x v) others mine;
      apart = apart_set views id v (stored w x v) at (λ k e. e) h.apart;
      rights = let r = rights_set views id v (stored w x v) at in let l = h.rights in omega arith;
      unclaimed = λ k y l wi. else y (λ same.
          let wi' : IsWithin ranges k w = subst (IsWithin ranges k) same wi in
          let k' : owns.0 ≡ k = one_range ranges owns.0 k w (owns_within ranges words v w f owns) wi' in
          let low = f.number owns.0 owns.1 in
          omega arith) ∙ h.unclaimed k y (omega arith) wi;
      places = λ y p ne. ⊎_elim
          (λ (same : y ≡ w). subst IsPlace (sym (ap (λ i. slice_index next i) same ∙ here)) fits_place)
          (λ (n : y ≡ w → ⊥). subst IsPlace (sym (else y n)) (h.places y p (λ e. ne (else y n ∙ e))))
          (cases_eq y w);
    }

pub stores : (ranges : List ℕ) (slots id : ℕ) (v : View) (c : List (ℕ × ℕ)) (w code x : ℕ) → Owns v w → (Records v.own w → ⊥) → code ≡ place_word x → IsPlace code
    → Allows (λ (s : State ℕ View). KeepsRule ranges s.words s.views) slots id (v, c) w (λ _. code) (λ _. Stores (step slots w code 0 mathlib.Core.Option.none) (v, c) code)
stores ranges slots id v c w code x owns fresh is fits_place s h homes at fits =
    let kept = kept_stored ranges s.words s.views id v w x h at owns fresh (subst IsPlace is fits_place) in (
      stored w x v,
      keeps,
      tt,
      subst (λ m. KeepsRule ranges (set s.words w m) (set s.views id (stored w x v))) (sym is) kept,
      λ y e. let same : x ≡ y = omega arith in ap (λ z. (stored w z v, c)) same,
    )

fits_saw : (ranges words : List ℕ) (v : View) (w x : ℕ) → Fits ranges words v → v.ranges ≡ ranges → IsRanged ranges w → slice_index words w ≡ place_word x → Fits ranges words (saw w x v)
fits_saw ranges words v w x f same in' is = record {
  ranged = inl same;
  number = f.number;
  floor = f.floor;
  own = f.own;
  rest = f.rest;
  seen = λ y z c. ⊎_elim
      (λ (d : Contains v.seen (y, z)). f.seen y z d)
      (λ (d : Contains ((w, x) ∷ []) (y, z)). subst (λ (p : ℕ × ℕ). IsRanged ranges p.0 × (slice_index words p.0 ≡ place_word p.1)) (only_one (w, x) (y, z) d) (in', is))
      (Contains-append_cases v.seen ((w, x) ∷ []) (y, z) c);
}

-- a word that names a place is the word of that place
place_at : (n : ℕ) → (p : IsPlace n) → n ≡ place_word p.0
place_at n p = sym (word_of-object n p.0 p.1)

pub loads : (ranges : List ℕ) (slots id : ℕ) (v : View) (c : List (ℕ × ℕ)) (w : ℕ) → 0 < length v.ranges → IsRanged ranges w
    → Allows (λ (s : State ℕ View). KeepsRule ranges s.words s.views) slots id (v, c) w (λ n. n) (Loads (step slots w 0 0 mathlib.Core.Option.none) (v, c))
loads ranges slots id v c w some_range in' s h homes at fits =
    let n : ℕ = slice_index s.words w in
    let f = h.each id v at in
    let same : v.ranges ≡ ranges = ranged_view ranges v some_range f.ranged in
    let unchanged : (u : View) → KeepsRule ranges s.words (set s.views id u) → KeepsRule ranges (set s.words w n) (set s.views id u) = λ u k. subst (λ ws. KeepsRule ranges ws (set s.views id u)) (sym (set-get_or s.words w 0)) k in
    let own : (x : ℕ) → Contains v.own (w, x) → n ≡ place_word x = λ x d. (f.own w x d).1 in
    let seen : (x : ℕ) → Contains v.seen (w, x) → n ≡ place_word x = λ x d. (f.seen w x d).1 in
    ⊎_elim
    (λ (zero_ : n ≡ 0). (
      v,
      keeps,
      tt,
      unchanged v (kept_view ranges s.words s.views id v v h at f (λ k e. e) (omega arith)),
      (own, seen, (λ _. refl), (λ ne. absurd (ne zero_)), (λ x e. absurd (omega arith))),
    ))
    (λ (found : n ≡ 0 → ⊥).
    let is = h.places w in'.0 found in
    let x : ℕ = is.0 in
    let e : n ≡ place_word x = place_at n is in (
      saw w x v,
      keeps,
      tt,
      unchanged (saw w x v) (kept_view ranges s.words s.views id v (saw w x v) h at (fits_saw ranges s.words v w x f same in' e) (λ k e'. e') (omega arith)),
      (own, seen, (λ z. absurd (found z)), (λ _. is), (λ y e'. let eq : x ≡ y = omega arith in ap (λ z. (saw w z v, c)) eq)),
    ))
    (cases_eq n 0)

agrees : (ranges words : List ℕ) (v : View) → Fits ranges words v → Agrees v
agrees ranges words v f = record {
  own = λ w x c o. let s = f.seen w x c in ⊎_elim
      (λ (e : slice_index words w ≡ 0). let s1 = s.1 in absurd (omega arith))
      (λ (r : Records v.own w). let e = f.own w r.0 r.1 in let e1 = e.1 in let s1 = s.1 in let same : r.0 ≡ x = omega arith in subst (λ y. Contains v.own (w, y)) same r.1)
      (f.rest w o);
  same = λ w x y c d. let e = (f.seen w x c).1 in let e' = (f.seen w y d).1 in omega arith;
}

pub settles : (ranges : List ℕ) (slots id : ℕ) (v : View) (c : List (ℕ × ℕ))
    → Allows (λ (s : State ℕ View). KeepsRule ranges s.words s.views) slots id (v, c) 0 (λ n. n) (Settles (step slots 0 0 0 mathlib.Core.Option.none) (v, c))
settles ranges slots id v c s h homes at fits =
    let f = h.each id v at in (
      v,
      keeps,
      tt,
      subst (λ ws. KeepsRule ranges ws (set s.views id v)) (sym (set-get_or s.words 0 0)) (kept_view ranges s.words s.views id v v h at f (λ k e. e) (omega arith)),
      (refl, agrees ranges s.words v f),
    )

-- a load leaves the ranges, and takes no slot
pub loaded : (s : Step ℕ) (v : Me ℕ View) (n : ℕ) (w : Me ℕ View) → Loads s v n w → (w.1 ≡ v.1) × (w.0.ranges ≡ v.0.ranges)
loaded s v n w l =
    ⊎_elim
    (λ (z : n ≡ 0). let e = l.2 z in (ap (λ (m : Me ℕ View). m.1) e, ap (λ (m : Me ℕ View). m.0.ranges) e))
    (λ (f : n ≡ 0 → ⊥). let p = l.3 f in let e = l.4 p.0 (place_at n p) in (ap (λ (m : Me ℕ View). m.1) e, ap (λ (m : Me ℕ View). m.0.ranges) e))
    (cases_eq n 0)
