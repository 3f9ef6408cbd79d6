-- From-segments are finished one by one.
use Rattle.std.proofs.Common.{◌≡◌, ◌≢◌, ℕ, ◌+◌, ◌-◌, ◌<◌, ◌≤◌, Bool, true, false, cond, eqb, not, List, [], ◌∷◌, ◌++◌, length, set, Option, Some, None, refl, sym, ◌∙◌, ap, subst, arith, inl, inr, append_assoc}
use Rattle.std.proofs.lemmas.Bool.{cases_eq, cases_lt}
use Rattle.std.proofs.lemmas.Bool.Decides.{nat_tests}
use Rattle.std.proofs.lemmas.List.{length-set, append-nil, length-append}
use Rattle.std.proofs.lemmas.Option.{same_Some}
use Rattle.std.specs.List.{filter, slice_get, range_with_len}
use Rattle.seg_chain.specs.Lists.{chain_of, times, without, moved}
use Rattle.seg_chain.proofs.Counts.{times-here, not_there}
use Rattle.seg_chain.proofs.Laws.{length-moved, chain_of-moved_from, chain_of-moved_to, chain_of-moved_other, times_of}
use Rattle.segment.specs.declared.segment.Role.{Role}
use Rattle.segment.specs.declared.segment.Role.TheVariants.{Free, Current, From}
use Rattle.segment.specs.Segments.{Segment, is_free, is_some_marked, kept_marked, given_back}
use Rattle.territory.specs.declared.territory.Targets.{Targets}
use Rattle.territory.specs.Territories.{from_on, from_list}
use Rattle.territory.specs.Pools.{PoolView, IsSettled, numbered, list_of, list_for, is_from_role, shows_dirty}
use Rattle.territory.specs.Finishing.{target_of}
use Rattle.territory.specs.FinishedPools.{finished, list_after, is_used_after, IsFinishedAt, AreFinished}
use Rattle.territory.proofs.Numbers.{numbered-set_same, numbered-set_other, used_within}
use Rattle.territory.proofs.Growing.{in_at, no_first}
use Rattle.territory.proofs.Cells.{none_left}
use Rattle.territory.proofs.Moving.{without_first, flat-without}
use Rattle.territory.proofs.Fromward.{from_cut, in_from, from_once, times_from, from_listed}

-- ---- what passes a test
filter_first : (p : ℕ → Bool) (x : ℕ) (xs : List ℕ) → p x ≡ true → filter p (x ∷ xs) ≡ x ∷ filter p xs
filter_first p x xs e = ap (λ b. cond b (x ∷ filter p xs) (filter p xs)) e

filter_next : (p : ℕ → Bool) (x : ℕ) (xs : List ℕ) → p x ≡ false → filter p (x ∷ xs) ≡ filter p xs
filter_next p x xs e = ap (λ b. cond b (x ∷ filter p xs) (filter p xs)) e

-- what does not pass may be taken out before
filter-without : (p : ℕ → Bool) (n : ℕ) (xs : List ℕ) → p n ≡ false → filter p (without n xs) ≡ filter p xs
filter-without p n [] e = refl
filter-without p n (x ∷ xs) e =
    elim (cases_eq n x) [
      | inl same ↦
          let t : eqb n x ≡ true = grind (arith, nat_tests, same) in
          ap (λ b. filter p (cond b (without n xs) (x ∷ without n xs))) t ∙ (filter-without p n xs e ∙ sym (filter_next p x xs (ap p (sym same) ∙ e)))
      | inr other ↦
          let t : eqb n x ≡ false = grind (arith, nat_tests, other) in
          ap (λ b. filter p (cond b (without n xs) (x ∷ without n xs))) t ∙ ap (λ v. cond (p x) (x ∷ v) v) (filter-without p n xs e)
    ]

pub filter_all : (p : ℕ → Bool) (xs : List ℕ) → ((m : ℕ) → 0 < times m xs → p m ≡ true) → filter p xs ≡ xs
filter_all p [] h = refl
filter_all p (x ∷ xs) h = filter_first p x xs (h x (omega (arith, times-here x xs))) ∙ ap (λ v. x ∷ v) (filter_all p xs (λ m i. h m (omega arith)))

-- ---- a segment after the collection
pub finished_from : (targets : Targets) (p : Segment) → p.role ≡ From → finished targets p ≡ cond (is_some_marked p.marks) (kept_marked p (target_of targets p.generation)) (given_back p)
finished_from targets p e = ap (λ r. cond (is_from_role r) (cond (is_some_marked p.marks) (kept_marked p (target_of targets p.generation)) (given_back p)) p) e

pub finished_other : (targets : Targets) (p : Segment) → is_from_role p.role ≡ false → finished targets p ≡ p
finished_other targets p e = ap (λ b. cond b (cond (is_some_marked p.marks) (kept_marked p (target_of targets p.generation)) (given_back p)) p) e

pub finished_role : (targets : Targets) (p : Segment) → is_from_role (finished targets p).role ≡ false
finished_role targets p =
    elim (is_from_role p.role) as (λ b. is_from_role p.role ≡ b → is_from_role (cond b (cond (is_some_marked p.marks) (kept_marked p (target_of targets p.generation)) (given_back p)) p).role ≡ false) [
      | true ↦ λ e. elim (is_some_marked p.marks) as (λ b. is_from_role (cond b (kept_marked p (target_of targets p.generation)) (given_back p)).role ≡ false) [ true ↦ refl | false ↦ refl ]
      | false ↦ λ e. e
    ] refl

from_role : (r : Role) → is_from_role r ≡ false → r ≢ From
from_role r e f = let c : true ≡ false = sym (ap is_from_role f) ∙ e in cc

pub role_from : (r : Role) → r ≢ From → is_from_role r ≡ false
role_from Free h = refl
role_from Current h = refl
role_from From h = absurd (h refl)

pub target_in : (targets : Targets) (g : ℕ) → targets.max < 9 → target_of targets g < 9
target_in targets g h = omega arith

to_in : (targets : Targets) (p : Segment) → p.role ≡ From → targets.max < 9 → list_of (finished targets p) < 10
to_in targets p e h =
    subst (λ v. list_of v < 10) (sym (finished_from targets p e))
    (elim (is_some_marked p.marks) as (λ b. list_of (cond b (kept_marked p (target_of targets p.generation)) (given_back p)) < 10) [ true ↦ (let t : target_of targets p.generation < 9 = target_in targets p.generation h in omega arith) | false ↦ omega arith ])

-- ---- the list of from-segments without its first
pub first_of : (xs : List ℕ) (n : ℕ) → slice_get xs 0 ≡ Some n → (rest : List ℕ) × (xs ≡ n ∷ rest)
first_of [] n e = cc
first_of (x ∷ xs) n e = (xs, ap (λ v. v ∷ xs) (same_Some _ _ e))

from_taken : (p : PoolView) (n to : ℕ) (rest : List ℕ) → IsSettled p → (numbered p.segments n).role ≡ From → from_list p.lists ≡ n ∷ rest → to < 10 → from_list (moved p.lists (list_of (numbered p.segments n)) to n) ≡ rest
unfolding from_on
from_taken p n to rest t aside is small =
    let g : ℕ = (numbered p.segments n).generation in
    let from : list_of (numbered p.segments n) ≡ 10 + g = ap (λ r. list_for r g) aside in
    let each : (h : ℕ) → chain_of (moved p.lists (10 + g) to n) (10 + h) ≡ without n (chain_of p.lists (10 + h)) = λ h. elim (cases_eq h g) [
      | inl same ↦ subst (λ v. chain_of (moved p.lists (10 + g) to n) (10 + v) ≡ without n (chain_of p.lists (10 + v))) (sym same) (chain_of-moved_from p.lists (10 + g) to n (omega (arith, t.listed.chains, t.generations n)) (λ e. absurd (omega arith)))
      | inr other ↦ chain_of-moved_other p.lists (10 + g) to n (10 + h) (λ e. other (omega arith)) (λ e. absurd (omega arith)) ∙ sym (not_there n (chain_of p.lists (10 + h)) (elim (cases_lt 0 (times n (chain_of p.lists (10 + h)))) [ inl i ↦ absurd (other (sym (in_from p h n t i).1)) | inr z ↦ omega arith ]))
    ] in
    let once : times n (n ∷ rest) ≤ 1 = subst (λ v. times n v ≤ 1) is (from_once p n t) in
    ap (λ v. from_list (moved p.lists v to n)) from ∙ (flat-without n (λ h. chain_of p.lists (10 + h)) (λ h. chain_of (moved p.lists (10 + g) to n) (10 + h)) each (range_with_len 0 (9 - 0)) ∙ (ap (without n) is ∙ without_first n rest once))

-- ---- the loop

-- What is left to do would end as it would have from the beginning.
pub record IsFinishing (old now : PoolView) (targets : Targets) : Type 0 where
  pub same : length now.segments ≡ length old.segments
  pub segments : (n : ℕ) → finished targets (numbered now.segments n) ≡ finished targets (numbered old.segments n)
  pub areas : now.areas ≡ old.areas
  pub lists_same : length now.lists ≡ length old.lists
  pub lists : (c : ℕ) → c < 10
      → chain_of now.lists c ++ filter (λ n. eqb (list_after targets old.segments n) c) (from_list now.lists)
      ≡ chain_of old.lists c ++ filter (λ n. eqb (list_after targets old.segments n) c) (from_list old.lists)
  pub dirty : filter (is_used_after targets old.segments) (chain_of now.dirty 1) ≡ filter (is_used_after targets old.segments) (chain_of old.dirty 1)

pub finishing_start : (old : PoolView) (targets : Targets) → IsFinishing old old targets
finishing_start old targets = record { same = refl; segments = λ n. refl; areas = refl; lists_same = refl; lists = λ c h. refl; dirty = refl }

-- the first from-segment
pub record IsFirst (p : PoolView) (n : ℕ) : Type 0 where
  pub rest : List ℕ
  pub list : from_list p.lists ≡ n ∷ rest
  pub aside : (numbered p.segments n).role ≡ From

pub is_first : (p : PoolView) (n : ℕ) (r : Option ℕ) → IsSettled p → r ≡ slice_get (from_on p.lists 0) 0 → r ≡ Some n → IsFirst p n
is_first p n r t e some =
    let f : (rest : List ℕ) × (from_list p.lists ≡ n ∷ rest) = first_of (from_list p.lists) n (sym e ∙ some) in
    record { rest = f.0; list = f.1; aside = times_from p n t (in_at (from_list p.lists) 0 n (sym e ∙ some)) }

from_after : (mid new : PoolView) (targets : Targets) (n : ℕ) (f : IsFirst mid n) → IsSettled mid → targets.max < 9 → IsFinishedAt mid new targets n → from_list new.lists ≡ f.rest
from_after mid new targets n f t greatest a = ap from_list a.lists ∙ from_taken mid n (list_of (finished targets (numbered mid.segments n))) f.rest t f.aside f.list (to_in targets (numbered mid.segments n) f.aside greatest)

pub finishing_less : (mid new : PoolView) (targets : Targets) (n : ℕ) → IsFirst mid n → IsSettled mid → targets.max < 9 → IsFinishedAt mid new targets n → length (from_list new.lists) < length (from_list mid.lists)
finishing_less mid new targets n f t greatest a = omega (arith, ap length (from_after mid new targets n f t greatest a), ap length f.list)

lists_more : (old mid new : PoolView) (targets : Targets) (n c : ℕ) (f : IsFirst mid n) → IsSettled mid → targets.max < 9 → IsFinishing old mid targets → IsFinishedAt mid new targets n → c < 10
    → chain_of new.lists c ++ filter (λ m. eqb (list_after targets old.segments m) c) f.rest ≡ chain_of mid.lists c ++ filter (λ m. eqb (list_after targets old.segments m) c) (n ∷ f.rest)
lists_more old mid new targets n c f t greatest i a small =
    let P : ℕ → Bool = λ m. eqb (list_after targets old.segments m) c in
    let from : ℕ = list_of (numbered mid.segments n) in
    let to : ℕ = list_of (finished targets (numbered mid.segments n)) in
    let from_is : from ≡ 10 + (numbered mid.segments n).generation = ap (λ r. list_for r (numbered mid.segments n).generation) f.aside in
    let after : list_after targets old.segments n ≡ to = ap list_of (sym (i.segments n)) in
    let to_small : to < 10 = to_in targets (numbered mid.segments n) f.aside greatest in
    elim (cases_eq c to) [
      | inl same ↦
          let pass : P n ≡ true = (let e : list_after targets old.segments n ≡ c = after ∙ sym same in grind (arith, nat_tests, e)) in
          let chain : chain_of new.lists c ≡ chain_of mid.lists c ++ n ∷ [] = ap (λ v. chain_of v c) a.lists ∙ subst (λ v. chain_of (moved mid.lists from to n) v ≡ chain_of mid.lists v ++ n ∷ []) (sym same) (chain_of-moved_to mid.lists from to n (omega (arith, t.listed.chains))) in
          ap (λ v. v ++ filter P f.rest) chain ∙ (append_assoc (chain_of mid.lists c) (n ∷ []) (filter P f.rest) ∙ ap (λ v. chain_of mid.lists c ++ v) (sym (filter_first P n f.rest pass)))
      | inr other ↦
          let fail : P n ≡ false = (let e : list_after targets old.segments n ≢ c = λ z. other (sym z ∙ after) in grind (arith, nat_tests, e)) in
          let chain : chain_of new.lists c ≡ chain_of mid.lists c = ap (λ v. chain_of v c) a.lists ∙ chain_of-moved_other mid.lists from to n c (λ e. absurd (omega arith)) other in
          ap (λ v. v ++ filter P f.rest) chain ∙ ap (λ v. chain_of mid.lists c ++ v) (sym (filter_next P n f.rest fail))
    ]

dirty_more : (old mid new : PoolView) (targets : Targets) (n : ℕ) → IsFinishing old mid targets → IsFinishedAt mid new targets n → filter (is_used_after targets old.segments) (chain_of new.dirty 1) ≡ filter (is_used_after targets old.segments) (chain_of mid.dirty 1)
dirty_more old mid new targets n i a =
    let S : ℕ → Bool = is_used_after targets old.segments in
    let ch : List ℕ = chain_of mid.dirty 1 in
    ap (filter S) a.dirty ∙ elim (is_free (finished targets (numbered mid.segments n)).role) as (λ b. is_free (finished targets (numbered mid.segments n)).role ≡ b → filter S (cond b (without n ch) ch) ≡ filter S ch) [
      | true ↦ λ e. filter-without S n ch (ap (λ (v : Segment). not (is_free v.role)) (sym (i.segments n)) ∙ ap not e)
      | false ↦ λ e. refl
    ] refl

pub finishing_more : (old mid new : PoolView) (targets : Targets) (n : ℕ) → IsFirst mid n → IsSettled mid → targets.max < 9 → IsFinishing old mid targets → IsFinishedAt mid new targets n → IsFinishing old new targets
finishing_more old mid new targets n f t greatest i a =
    let q : Segment = finished targets (numbered mid.segments n) in
    let within : n < length mid.segments = used_within mid.segments n (ap is_free f.aside) in
    record {
      same = ap length a.segments ∙ (length-set mid.segments n q ∙ i.same);
      segments = λ m. ap (λ v. finished targets (numbered v m)) a.segments ∙ elim (cases_eq m n) [
        | inl same ↦ subst (λ v. finished targets (numbered (set mid.segments n q) v) ≡ finished targets (numbered old.segments v)) (sym same)
            (ap (finished targets) (numbered-set_same mid.segments n q within) ∙ (finished_other targets q (finished_role targets (numbered mid.segments n)) ∙ i.segments n))
        | inr other ↦ ap (finished targets) (numbered-set_other mid.segments n m q other) ∙ i.segments m
      ];
      areas = a.areas ∙ i.areas;
      lists_same = ap length a.lists ∙ (length-moved mid.lists (list_of (numbered mid.segments n)) (list_of q) n ∙ i.lists_same);
      lists = λ c small.
          ap (λ v. chain_of new.lists c ++ filter (λ m. eqb (list_after targets old.segments m) c) v) (from_after mid new targets n f t greatest a)
          ∙ (lists_more old mid new targets n c f t greatest i a small ∙ (ap (λ v. chain_of mid.lists c ++ filter (λ m. eqb (list_after targets old.segments m) c) v) (sym f.list) ∙ i.lists c small));
      dirty = dirty_more old mid new targets n i a ∙ i.dirty;
    }

-- ---- the end
from_empty : (lists : List (List ℕ)) (g : ℕ) → from_list lists ≡ [] → g < 9 → chain_of lists (10 + g) ≡ []
from_empty lists g e small =
    let c : (front : List ℕ) × (from_on lists 0 ≡ front ++ (chain_of lists (10 + g) ++ from_on lists (g + 1))) = from_cut lists g 0 (omega arith) small in
    none_left (chain_of lists (10 + g)) (omega (arith, ap length (sym c.1 ∙ e), length-append c.0 (chain_of lists (10 + g) ++ from_on lists (g + 1)), length-append (chain_of lists (10 + g)) (from_on lists (g + 1))))

used_here : (p : Segment) → shows_dirty p ≡ true → not (is_free p.role) ≡ true
used_here p e = elim (is_free p.role) as (λ b. cond b false p.is_dirty ≡ true → not b ≡ true) [ true ↦ λ h. cc | false ↦ λ h. refl ] e

pub finishing_end : (old now : PoolView) (targets : Targets) (r : Option ℕ) → IsSettled now → IsFinishing old now targets → r ≡ slice_get (from_on now.lists 0) 0 → r ≡ None → AreFinished old now targets
finishing_end old now targets r t i e none =
    let empty : from_list now.lists ≡ [] = no_first (from_list now.lists) r e none in
    let done : (n : ℕ) → is_from_role (numbered now.segments n).role ≡ false = λ n. role_from (numbered now.segments n).role (λ f. absurd (omega (arith, times_of (from_list now.lists) n (from_listed now n t f), ap (times n) empty))) in
    let is : (n : ℕ) → numbered now.segments n ≡ finished targets (numbered old.segments n) = λ n. sym (finished_other targets (numbered now.segments n) (done n)) ∙ i.segments n in
    record {
      same = i.same;
      segments = is;
      areas = i.areas;
      lists_same = i.lists_same;
      lists = λ c small. sym (append-nil (chain_of now.lists c)) ∙ (ap (λ v. chain_of now.lists c ++ filter (λ m. eqb (list_after targets old.segments m) c) v) (sym empty) ∙ i.lists c small);
      from = λ g small. from_empty now.lists g empty small;
      dirty = sym (filter_all (is_used_after targets old.segments) (chain_of now.dirty 1) (λ m there. ap (λ (v : Segment). not (is_free v.role)) (sym (is m)) ∙ used_here (numbered now.segments m) (t.dirty.shown m there))) ∙ i.dirty;
    }
