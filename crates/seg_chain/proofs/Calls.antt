use Rattle.std.proofs.Common.{◌≡◌, ◌≢◌, ℕ, zero, suc, ◌+◌, ◌-◌, ◌<◌, ◌≤◌, List, [], ◌∷◌, ◌++◌, length, set, get_or, replicate, length-append, append-nil, get_or-set_same, get_or-set_other, Some, None, refl, sym, ◌∙◌, ap, subst, arith, inl, inr}
use Rattle.std.proofs.lemmas.List.{length-set, length-replicate, get_or_append_left, get_or_past, get_or_read, length_push, set-get_or}
use Rattle.std.proofs.lemmas.Bool.{cases_eq, cases_lt}
use Rattle.std.specs.List.{last_or, slice_get}
use Rattle.seg_chain.specs.Lists.{chain_of, times, times_all, link_count, NextIs}
use Rattle.seg_chain.specs.Linked.{Path, IsLinked}
use Rattle.seg_chain.proofs.Counts.{times-append, here_in, later_in, times_all-set, link_count-set}
use Rattle.seg_chain.proofs.Paths.{Distinct, last_of, last_is, first_is, last_below, first_below, split, join, frame, retarget, not_last, below_outside, absent_outside, distinct_head, distinct_tail}
use Rattle.seg_chain.proofs.Moves.{IsLinkedBut, at, at_most_one, member_below, distinct_chain, apart, chain_at, chain_other, attach_linked, last_within}

-- ---- `new`
none_at : (n c : ℕ) → chain_of (replicate n []) c ≡ []
none_at zero c = refl
none_at (suc n) zero = refl
none_at (suc n) (suc c) = none_at n c

no_times : (i n : ℕ) → times_all i (replicate n []) ≡ 0
no_times i zero = refl
no_times i (suc n) = omega (arith, no_times i n)

pub link_count-replicate : (n : ℕ) → link_count (replicate n []) ≡ 0
link_count-replicate zero = refl
link_count-replicate (suc n) = omega (arith, link_count-replicate n)

pub new_linked : (n : ℕ) (next prev : List ℕ) → length next ≡ n → ((i : ℕ) → i < n → get_or next i 0 ≡ i) → length prev ≡ n → ((i : ℕ) → i < n → get_or prev i 0 ≡ i) → IsLinked n next prev (replicate n [])
new_linked n next prev l each l' each' = record {
  same = l' ∙ sym l;
  chains = length-replicate n [];
  total = omega (arith, link_count-replicate n);
  paths = λ c k. subst (λ w. Path n (at next) (at prev) c w c) (sym (none_at n c)) (each c k, each' c k);
  once = λ i k. absurd (omega arith);
  beyond = λ i k. no_times i n;
}

-- ---- `first` and `next`
pub after_none : (h : ℕ) (nx pv : ℕ → ℕ) (u : ℕ) (xs : List ℕ) (v : ℕ) → Path h nx pv u xs v → nx u < h → None ≡ slice_get xs 0
after_none h nx pv u [] v p k = refl
after_none h nx pv u (x ∷ xs) v p k = absurd (omega (arith, p.0))

pub after_some : (h : ℕ) (nx pv : ℕ → ℕ) (u : ℕ) (xs : List ℕ) (v : ℕ) → Path h nx pv u xs v → v < h → h ≤ nx u → Some (nx u - h) ≡ slice_get xs 0
after_some h nx pv u [] v p b k = absurd (omega (arith, p.0))
after_some h nx pv u (x ∷ xs) v p b k = ap Some (omega (arith, p.0))

-- a list is cut at each of its places
pub cut_at : (xs : List ℕ) (k i : ℕ) → slice_get xs k ≡ Some i → (ys : List ℕ) × (zs : List ℕ) × (xs ≡ ys ++ i ∷ zs) × (slice_get zs 0 ≡ slice_get xs (suc k))
cut_at [] k i e = absurd (cc)
cut_at (x ∷ xs) zero i e = let same : x ≡ i = cc in ([], xs, ap (λ w. w ∷ xs) same, refl)
cut_at (x ∷ xs) (suc k) i e = let r = cut_at xs k i e in (x ∷ r.0, r.1, ap (λ w. x ∷ w) r.2, r.3)

pub first_path : (h : ℕ) (next prev : List ℕ) (lists now : List (List ℕ)) (c : ℕ) → IsLinked h next prev lists → lists ≡ now → c < length now → (c < h) × Path h (at next) (at prev) c (chain_of now c) c
first_path h next prev lists now c l e k =
    let l' : IsLinked h next prev now = subst (λ w. IsLinked h next prev w) e l in
    let b : c < h = omega (arith, l'.chains) in (b, l'.paths c b)

nil_or : (ys : List ℕ) (i : ℕ) (zs : List ℕ) → [] ≡ ys ++ i ∷ zs → ⊥
nil_or ys i zs e = omega (arith, ap length e, length-append ys (i ∷ zs))

pub next_path : (h : ℕ) (next prev : List ℕ) (lists now : List (List ℕ)) (i : ℕ) → IsLinked h next prev lists → lists ≡ now → (c : ℕ) (ys zs : List ℕ) → chain_of now c ≡ ys ++ i ∷ zs → (c < h) × Path h (at next) (at prev) (h + i) zs c
next_path h next prev lists now i l e c ys zs is =
    let l' : IsLinked h next prev now = subst (λ w. IsLinked h next prev w) e l in
    elim (cases_lt c h) [
      | inl b ↦ (b, (split h (at next) (at prev) c ys i zs c (subst (λ w. Path h (at next) (at prev) c w c) is (l'.paths c b))).1)
      | inr far ↦ absurd (nil_or ys i zs (sym (get_or_past now c [] (omega (arith, l'.chains))) ∙ is))
    ]

-- ---- `grow`
pub extended : (h : ℕ) (next prev : List ℕ) (lists : List (List ℕ)) → IsLinked h next prev lists → IsLinkedBut (link_count lists) h (next ++ 0 ∷ []) (prev ++ 0 ∷ []) lists
extended h next prev lists l =
    let n1 : length (next ++ 0 ∷ []) ≡ length next + 1 = length_push next 0 in
    let p1 : length (prev ++ 0 ∷ []) ≡ length prev + 1 = length_push prev 0 in
    let nx : (q : ℕ) → q < length next → at (next ++ 0 ∷ []) q ≡ at next q = λ q k. get_or_append_left next (0 ∷ []) 0 q k in
    let pv : (q : ℕ) → q < length next → at (prev ++ 0 ∷ []) q ≡ at prev q = λ q k. get_or_append_left prev (0 ∷ []) 0 q (omega (arith, l.same)) in
    record {
      same = omega (arith, n1, p1, l.same);
      chains = l.chains;
      total = omega (arith, n1, l.total);
      paths = λ c k. frame h (at next) (at prev) (at (next ++ 0 ∷ [])) (at (prev ++ 0 ∷ [])) c (chain_of lists c) c (l.paths c k)
          (nx c (omega (arith, l.total))) (λ i m. nx (h + i) (member_below h next prev lists l c i k m)) (pv c (omega (arith, l.total))) (λ i m. pv (h + i) (member_below h next prev lists l c i k m));
      at_most = at_most_one h next prev lists l;
      once = λ i ne k. l.once i (omega (arith, n1, l.total));
      beyond = λ i k. l.beyond i (omega (arith, n1));
      within = omega (arith, n1, l.total);
      absent = l.beyond (link_count lists) (omega (arith, l.total));
    }

-- ---- `splice`
last_apart : (h u : ℕ) (xs : List ℕ) (w : ℕ) → w ≢ u → ((i : ℕ) → 0 < times i xs → h + i ≢ w) → last_of h u xs ≢ w
last_apart h u [] w ne each e = ne (sym e)
last_apart h u (x ∷ xs) w ne each e = last_apart h (h + x) xs w (λ q. each x (here_in x xs) (sym q)) (λ i k. each i (later_in i x xs k)) e

pub spliced_linked : (h : ℕ) (next prev : List ℕ) (lists : List (List ℕ)) (from to y : ℕ) (ys : List ℕ) → IsLinked h next prev lists → from < h → to < h → to ≢ from → chain_of lists from ≡ y ∷ ys
    → IsLinked h (set (set (set next (at prev to) (at next from)) (at prev from) to) from from) (set (set (set prev (at next from) (at prev to)) to (at prev from)) from from)
    (set (set lists from []) to (chain_of lists to ++ chain_of lists from))
spliced_linked h next prev lists from to y ys l kf kt ne is =
    let lf : from < length lists = omega (arith, l.chains) in
    let lt : to < length lists = omega (arith, l.chains) in
    let most : (i : ℕ) → times_all i lists ≤ 1 = at_most_one h next prev lists l in
    let xs : List ℕ = chain_of lists to in
    let pf : Path h (at next) (at prev) from (y ∷ ys) from = subst (λ w. Path h (at next) (at prev) from w from) is (l.paths from kf) in
    let pt : Path h (at next) (at prev) to xs to = l.paths to kt in
    let df : Distinct (y ∷ ys) = subst Distinct is (distinct_chain lists most from lf) in
    let dt : Distinct xs = distinct_chain lists most to lt in
    let end : at prev to ≡ last_of h to xs = last_is h (at next) (at prev) to xs to pt in
    let last : at prev from ≡ last_of h (h + y) ys = last_is h (at next) (at prev) from (y ∷ ys) from pf in
    let first : at next from ≡ h + y = pf.0 in
    let in_from : (i : ℕ) → 0 < times i (y ∷ ys) → times i xs ≡ 0 = λ i k. apart lists most to from i lt lf (λ e. ne (sym e)) (subst (λ w. 0 < times i w) (sym is) k) in
    let in_to : (i : ℕ) → 0 < times i xs → times i (y ∷ ys) ≡ 0 = λ i k. ap (times i) (sym is) ∙ apart lists most from to i lf lt ne k in
    let mem_f : (i : ℕ) → 0 < times i (y ∷ ys) → h + i < length next = λ i k. member_below h next prev lists l from i kf (subst (λ w. 0 < times i w) (sym is) k) in
    let mem_t : (i : ℕ) → 0 < times i xs → h + i < length next = λ i k. member_below h next prev lists l to i kt k in
    let y_in : 0 < times y (y ∷ ys) = here_in y ys in
    let rf : from < length next = omega (arith, l.total) in
    let rt : to < length next = omega (arith, l.total) in
    let end_in : last_of h to xs < length next = last_below h to (length next) xs rt mem_t in
    let last_in : last_of h (h + y) ys < length next = last_below h (h + y) (length next) ys (mem_f y y_in) (λ i k. mem_f i (later_in i y ys k)) in
    -- which nodes differ
    let end_from : last_of h to xs ≢ from = λ e. not_last h to from xs (λ q. ne (sym q)) (below_outside h from xs kf) (sym e) in
    let last_from : last_of h (h + y) ys ≢ from = λ e. not_last h (h + y) from ys (λ q. absurd (omega arith)) (below_outside h from ys kf) (sym e) in
    let last_to : last_of h (h + y) ys ≢ to = λ e. not_last h (h + y) to ys (λ q. absurd (omega arith)) (below_outside h to ys kt) (sym e) in
    let node_end : (i : ℕ) → 0 < times i (y ∷ ys) → h + i ≢ last_of h to xs = λ i k. not_last h to (h + i) xs (λ q. absurd (omega arith)) (absent_outside h i xs (in_from i k)) in
    let node_last : (i : ℕ) → 0 < times i xs → h + i ≢ last_of h (h + y) ys = λ i k.
    not_last h (h + y) (h + i) ys (λ q. absurd (omega (arith, in_to i k, (subst (λ w. 0 < times w (y ∷ ys)) (let e : y ≡ i = omega arith in e) y_in)))) (absent_outside h i ys (omega (arith, in_to i k))) in
    let end_last : last_of h to xs ≢ last_of h (h + y) ys = λ e. last_apart h to xs (last_of h (h + y) ys) last_to node_last e in
    let next1 : List ℕ = set next (at prev to) (at next from) in
    let next2 : List ℕ = set next1 (at prev from) to in
    let prev1 : List ℕ = set prev (at next from) (at prev to) in
    let prev2 : List ℕ = set prev1 to (at prev from) in
    let nx' : ℕ → ℕ = at (set next2 from from) in
    let pv' : ℕ → ℕ = at (set prev2 from from) in
    let n1 : length next1 ≡ length next = length-set next (at prev to) (at next from) in
    let n2 : length next2 ≡ length next = length-set next1 (at prev from) to ∙ n1 in
    let n3 : length (set next2 from from) ≡ length next = length-set next2 from from ∙ n2 in
    let p1 : length prev1 ≡ length prev = length-set prev (at next from) (at prev to) in
    let p2 : length prev2 ≡ length prev = length-set prev1 to (at prev from) ∙ p1 in
    let nx_end : nx' (last_of h to xs) ≡ h + y =
    get_or-set_other next2 from (last_of h to xs) from 0 end_from ∙ (get_or-set_other next1 (at prev from) (last_of h to xs) to 0 (λ e. end_last (e ∙ last))
    ∙ (ap (λ w. at (set next w (at next from)) (last_of h to xs)) end ∙ (get_or-set_same next (last_of h to xs) (at next from) 0 end_in ∙ first))) in
    let nx_last : nx' (last_of h (h + y) ys) ≡ to =
    get_or-set_other next2 from (last_of h (h + y) ys) from 0 last_from ∙ (ap (λ w. at (set next1 w to) (last_of h (h + y) ys)) last ∙ get_or-set_same next1 (last_of h (h + y) ys) to 0 (omega (arith, last_in, n1))) in
    let nx_from : nx' from ≡ from = get_or-set_same next2 from from 0 (omega (arith, rf, n2)) in
    let pv_first : pv' (h + y) ≡ last_of h to xs =
    get_or-set_other prev2 from (h + y) from 0 (λ e. absurd (omega arith)) ∙ (get_or-set_other prev1 to (h + y) (at prev from) 0 (λ e. absurd (omega arith))
    ∙ (ap (λ w. at (set prev w (at prev to)) (h + y)) first ∙ (get_or-set_same prev (h + y) (at prev to) 0 (omega (arith, mem_f y y_in, l.same)) ∙ end))) in
    let pv_to : pv' to ≡ last_of h (h + y) ys = get_or-set_other prev2 from to from 0 ne ∙ (get_or-set_same prev1 to (at prev from) 0 (omega (arith, rt, l.same, p1)) ∙ last) in
    let pv_from : pv' from ≡ from = get_or-set_same prev2 from from 0 (omega (arith, rf, l.same, p2)) in
    let nx_other : (q : ℕ) → q ≢ last_of h to xs → q ≢ last_of h (h + y) ys → q ≢ from → nx' q ≡ at next q = λ q a b c.
    get_or-set_other next2 from q from 0 c ∙ (get_or-set_other next1 (at prev from) q to 0 (λ e. b (e ∙ last)) ∙ get_or-set_other next (at prev to) q (at next from) 0 (λ e. a (e ∙ end))) in
    let pv_other : (q : ℕ) → q ≢ h + y → q ≢ to → q ≢ from → pv' q ≡ at prev q = λ q a b c.
    get_or-set_other prev2 from q from 0 c ∙ (get_or-set_other prev1 to q (at prev from) 0 b ∙ get_or-set_other prev (at next from) q (at prev to) 0 (λ e. a (e ∙ first))) in
    let joined : Path h nx' pv' to (xs ++ y ∷ ys) to =
    join h nx' pv' to xs y ys to
    (retarget h (at next) (at prev) nx' pv' to xs to (h + y) pt nx_end pv_first
    (λ a. nx_other to a (λ e. last_to (sym e)) ne)
    (λ i k a. nx_other (h + i) a (node_last i k) (λ e. absurd (omega arith)))
    (λ i k. pv_other (h + i) (λ e. absurd (omega (arith, in_to i k, (subst (λ w. 0 < times w (y ∷ ys)) (let f : y ≡ i = omega arith in f) y_in)))) (λ e. absurd (omega arith)) (λ e. absurd (omega arith)))
    (below_outside h to xs kt) dt)
    (retarget h (at next) (at prev) nx' pv' (h + y) ys from to pf.2 nx_last pv_to
    (λ b. nx_other (h + y) (node_end y y_in) b (λ e. absurd (omega arith)))
    (λ i k b. nx_other (h + i) (node_end i (later_in i y ys k)) b (λ e. absurd (omega arith)))
    (λ i k. pv_other (h + i) (λ e. distinct_head h y ys df i k (sym e)) (λ e. absurd (omega arith)) (λ e. absurd (omega arith)))
    (distinct_head h y ys df) (distinct_tail y ys df)) in
    let lists1 : List (List ℕ) = set lists from [] in
    let l1 : to < length lists1 = omega (arith, lt, length-set lists from []) in
    let chain_to1 : chain_of lists1 to ≡ xs = chain_other lists from to [] ne in
    let lists2 : List (List ℕ) = set lists1 to (xs ++ chain_of lists from) in
    let counts : (i : ℕ) → times_all i lists2 ≡ times_all i lists = λ i.
    omega (arith, times_all-set i lists1 to (xs ++ chain_of lists from) l1, times_all-set i lists from [] lf, ap (times i) chain_to1, times-append i xs (chain_of lists from)) in
    record {
      same = length-set prev2 from from ∙ (p2 ∙ (l.same ∙ sym n3));
      chains = length-set lists1 to (xs ++ chain_of lists from) ∙ (length-set lists from [] ∙ l.chains);
      total = omega (arith, l.total, n3, link_count-set lists1 to (xs ++ chain_of lists from) l1, link_count-set lists from [] lf, ap length chain_to1, length-append xs (chain_of lists from));
      paths = λ e k. elim (cases_eq e to) [
        | inl p ↦ subst (λ w. Path h nx' pv' w (chain_of lists2 w) w) (sym p)
            (subst (λ w. Path h nx' pv' to w to) (sym (chain_at lists1 to (xs ++ chain_of lists from) l1)) (subst (λ w. Path h nx' pv' to (xs ++ w) to) (sym is) joined))
        | inr n ↦ subst (λ w. Path h nx' pv' e w e) (sym (chain_other lists1 to e (xs ++ chain_of lists from) n))
            (elim (cases_eq e from) [
              | inl p ↦ subst (λ w. Path h nx' pv' w (chain_of lists1 w) w) (sym p) (subst (λ w. Path h nx' pv' from w from) (sym (chain_at lists from [] lf)) (nx_from, pv_from))
              | inr m ↦
                  let le : e < length lists = omega (arith, l.chains) in
                  let gone_t : (i : ℕ) → 0 < times i (chain_of lists e) → times i xs ≡ 0 = λ i c. apart lists most to e i lt le n c in
                  let gone_f : (i : ℕ) → 0 < times i (chain_of lists e) → times i (y ∷ ys) ≡ 0 = λ i c. ap (times i) (sym is) ∙ apart lists most from e i lf le m c in
                  let not_y : (i : ℕ) → 0 < times i (chain_of lists e) → h + i ≢ h + y = λ i c q. absurd (omega (arith, gone_f i c, (subst (λ w. 0 < times w (y ∷ ys)) (let f : y ≡ i = omega arith in f) y_in))) in
                  subst (λ w. Path h nx' pv' e w e) (sym (chain_other lists from e [] m))
                  (frame h (at next) (at prev) nx' pv' e (chain_of lists e) e (l.paths e k)
                  (nx_other e (not_last h to e xs n (below_outside h e xs k)) (not_last h (h + y) e ys (λ q. absurd (omega arith)) (below_outside h e ys k)) m)
                  (λ i c. nx_other (h + i) (not_last h to (h + i) xs (λ q. absurd (omega arith)) (absent_outside h i xs (gone_t i c)))
                  (not_last h (h + y) (h + i) ys (not_y i c) (absent_outside h i ys (omega (arith, gone_f i c)))) (λ q. absurd (omega arith)))
                  (pv_other e (λ q. absurd (omega arith)) n m)
                  (λ i c. pv_other (h + i) (not_y i c) (λ q. absurd (omega arith)) (λ q. absurd (omega arith))))
            ])
      ];
      once = λ i k. counts i ∙ l.once i (omega (arith, n3));
      beyond = λ i k. counts i ∙ l.beyond i (omega (arith, n3));
    }

-- ---- the goals, over plain variables
pub ends_within : (h : ℕ) (next prev : List ℕ) (lists now : List (List ℕ)) (c : ℕ) → IsLinked h next prev lists → lists ≡ now → c < length now → (at next c < length next) × (at prev c < length next)
ends_within h next prev lists now c l e k =
    let l' : IsLinked h next prev now = subst (λ w. IsLinked h next prev w) e l in
    let b : c < h = omega (arith, l'.chains) in
    let p : Path h (at next) (at prev) c (chain_of now c) c = l'.paths c b in
    let room : c < length next = omega (arith, l'.total) in
    let mem : (i : ℕ) → 0 < times i (chain_of now c) → h + i < length next = λ i m. member_below h next prev now l' c i b m in (
      subst (λ w. w < length next) (sym (first_is h (at next) (at prev) c (chain_of now c) c p)) (first_below h c (length next) (chain_of now c) room mem),
      subst (λ w. w < length next) (sym (last_is h (at next) (at prev) c (chain_of now c) c p)) (last_below h c (length next) (chain_of now c) room mem),
    )

pub grown_last : (h : ℕ) (next prev : List ℕ) (lists now : List (List ℕ)) (c : ℕ) (next1 prev1 : List ℕ) → IsLinked h next prev lists → lists ≡ now → c < length now → next1 ≡ next ++ 0 ∷ [] → prev1 ≡ prev ++ 0 ∷ [] → at prev1 c < length next1
grown_last h next prev lists now c next1 prev1 l e k e1 f1 =
    let l' : IsLinked h next prev now = subst (λ w. IsLinked h next prev w) e l in
    let x : IsLinkedBut (link_count now) h (next ++ 0 ∷ []) (prev ++ 0 ∷ []) now = extended h next prev now l' in
    let x' : IsLinkedBut (link_count now) h next1 prev1 now = subst (λ w. IsLinkedBut (link_count now) h w prev1 now) (sym e1) (subst (λ w. IsLinkedBut (link_count now) h (next ++ 0 ∷ []) w now) (sym f1) x) in
    (last_within (link_count now) h next1 prev1 now c x' (omega (arith, l'.chains))).1

pub grown : (h : ℕ) (next prev : List ℕ) (lists now : List (List ℕ)) (c node : ℕ) (next1 prev1 next2 prev2 : List ℕ) → IsLinked h next prev lists → lists ≡ now → c < length now → next1 ≡ next ++ 0 ∷ [] → prev1 ≡ prev ++ 0 ∷ [] → node ≡ length next
    → next2 ≡ set (set next1 (at prev1 c) node) node c → prev2 ≡ set (set prev1 node (at prev1 c)) c node
    → (node - h ≡ link_count now) × IsLinked h next2 prev2 (set now c (chain_of now c ++ link_count now ∷ []))
grown h next prev lists now c node next1 prev1 next2 prev2 l e k e1 f1 n e2 f2 =
    let l' : IsLinked h next prev now = subst (λ w. IsLinked h next prev w) e l in
    let t : ℕ = link_count now in
    let x : IsLinkedBut t h (next ++ 0 ∷ []) (prev ++ 0 ∷ []) now = extended h next prev now l' in
    let x' : IsLinkedBut t h next1 prev1 now = subst (λ w. IsLinkedBut t h w prev1 now) (sym e1) (subst (λ w. IsLinkedBut t h (next ++ 0 ∷ []) w now) (sym f1) x) in
    let ni : node ≡ h + t = omega (arith, l'.total) in
    let a : IsLinked h (set (set next1 (at prev1 c) (h + t)) (h + t) c) (set (set prev1 (h + t) (at prev1 c)) c (h + t)) (set now c (chain_of now c ++ t ∷ [])) = attach_linked h next1 prev1 now c t x' (omega (arith, l'.chains)) in
    let e2' : next2 ≡ set (set next1 (at prev1 c) (h + t)) (h + t) c = e2 ∙ ap (λ w. set (set next1 (at prev1 c) w) w c) ni in
    let f2' : prev2 ≡ set (set prev1 (h + t) (at prev1 c)) c (h + t) = f2 ∙ ap (λ w. set (set prev1 w (at prev1 c)) c w) ni in (
      omega arith,
      subst (λ w. IsLinked h w prev2 (set now c (chain_of now c ++ t ∷ []))) (sym e2') (subst (λ w. IsLinked h (set (set next1 (at prev1 c) (h + t)) (h + t) c) w (set now c (chain_of now c ++ t ∷ []))) (sym f2') a),
    )

shape : (h : ℕ) (nx pv : ℕ → ℕ) (u : ℕ) (xs : List ℕ) (v : ℕ) → v < h → h ≤ nx u → Path h nx pv u xs v → (y : ℕ) × (ys : List ℕ) × (xs ≡ y ∷ ys)
shape h nx pv u [] v b k p = absurd (omega (arith, p.0))
shape h nx pv u (y ∷ ys) v b k p = (y, ys, refl)

pub spliced_now : (h : ℕ) (next prev : List ℕ) (lists now : List (List ℕ)) (from to : ℕ) (next2 prev2 : List ℕ) → IsLinked h next prev lists → lists ≡ now → from < length now → to < length now → to ≢ from → h ≤ at next from
    → next2 ≡ set (set (set next (at prev to) (at next from)) (at prev from) to) from from → prev2 ≡ set (set (set prev (at next from) (at prev to)) to (at prev from)) from from
    → IsLinked h next2 prev2 (set (set now from []) to (chain_of now to ++ chain_of now from))
spliced_now h next prev lists now from to next2 prev2 l e kf kt ne some e2 f2 =
    let l' : IsLinked h next prev now = subst (λ w. IsLinked h next prev w) e l in
    let b : from < h = omega (arith, l'.chains) in
    let s : (y : ℕ) × (ys : List ℕ) × (chain_of now from ≡ y ∷ ys) = shape h (at next) (at prev) from (chain_of now from) from b some (l'.paths from b) in
    subst (λ w. IsLinked h w prev2 (set (set now from []) to (chain_of now to ++ chain_of now from))) (sym e2)
    (subst (λ w. IsLinked h (set (set (set next (at prev to) (at next from)) (at prev from) to) from from) w (set (set now from []) to (chain_of now to ++ chain_of now from))) (sym f2)
    (spliced_linked h next prev now from to s.0 s.1 l' b (omega (arith, l'.chains)) ne s.2))

empty_path : (h : ℕ) (nx pv : ℕ → ℕ) (u : ℕ) (xs : List ℕ) (v : ℕ) → nx u < h → Path h nx pv u xs v → xs ≡ []
empty_path h nx pv u [] v k p = refl
empty_path h nx pv u (y ∷ ys) v k p = absurd (omega (arith, p.0))

pub spliced_none : (h : ℕ) (next prev : List ℕ) (lists now : List (List ℕ)) (from to : ℕ) → IsLinked h next prev lists → lists ≡ now → from < length now → to < length now → to ≢ from → at next from < h → now ≡ set (set now from []) to (chain_of now to ++ chain_of now from)
spliced_none h next prev lists now from to l e kf kt ne none =
    let l' : IsLinked h next prev now = subst (λ w. IsLinked h next prev w) e l in
    let b : from < h = omega (arith, l'.chains) in
    let z : chain_of now from ≡ [] = empty_path h (at next) (at prev) from (chain_of now from) from none (l'.paths from b) in
    let same : set now from [] ≡ now = ap (λ w. set now from w) (sym z) ∙ set-get_or now from [] in
    let back : chain_of now to ++ chain_of now from ≡ chain_of now to = ap (λ w. chain_of now to ++ w) z ∙ append-nil (chain_of now to) in
    sym (ap (λ w. set w to (chain_of now to ++ chain_of now from)) same ∙ (ap (λ w. set now to w) back ∙ set-get_or now to []))

read_is : (next : List ℕ) (q r : ℕ) → q < length next → r ≡ get_or next q r → r ≡ at next q
read_is next q r k e = get_or_read next q r k e 0

pub first_none : (h : ℕ) (next prev : List ℕ) (lists now : List (List ℕ)) (c r : ℕ) → IsLinked h next prev lists → lists ≡ now → c < length now → r ≡ get_or next c r → r < h → None ≡ slice_get (chain_of now c) 0
first_none h next prev lists now c r l e k rd b =
    let p : (c < h) × Path h (at next) (at prev) c (chain_of now c) c = first_path h next prev lists now c l e k in
    after_none h (at next) (at prev) c (chain_of now c) c p.1 (subst (λ w. w < h) (read_is next c r (omega (arith, l.total, p.0)) rd) b)

pub first_some : (h : ℕ) (next prev : List ℕ) (lists now : List (List ℕ)) (c r : ℕ) → IsLinked h next prev lists → lists ≡ now → c < length now → r ≡ get_or next c r → h ≤ r → Some (r - h) ≡ slice_get (chain_of now c) 0
first_some h next prev lists now c r l e k rd b =
    let p : (c < h) × Path h (at next) (at prev) c (chain_of now c) c = first_path h next prev lists now c l e k in
    let q : r ≡ at next c = read_is next c r (omega (arith, l.total, p.0)) rd in
    ap (λ w. Some (w - h)) q ∙ after_some h (at next) (at prev) c (chain_of now c) c p.1 p.0 (subst (λ w. h ≤ w) q b)

-- ---- `last`
-- the last node over a list that isn't empty is that of its last index
last_high : (h u : ℕ) (xs : List ℕ) → h ≤ u → h ≤ last_of h u xs
last_high h u [] b = b
last_high h u (x ∷ xs) b = last_high h (h + x) xs (omega arith)

last_value : (h x : ℕ) (xs : List ℕ) → Some (last_of h (h + x) xs - h) ≡ last_or (Some x) xs
last_value h x [] = ap Some (omega arith)
last_value h x (y ∷ xs) = last_value h y xs

none_last : (h u : ℕ) (xs : List ℕ) → last_of h u xs < h → None ≡ last_or None xs
none_last h u [] b = refl
none_last h u (x ∷ xs) b = absurd (omega (arith, last_high h (h + x) xs (omega arith)))

some_last : (h u : ℕ) (xs : List ℕ) → u < h → h ≤ last_of h u xs → Some (last_of h u xs - h) ≡ last_or None xs
some_last h u [] c b = absurd (omega (arith, c, b))
some_last h u (x ∷ xs) c b = last_value h x xs

-- what `prev` has for a chain's own node
last_node : (h : ℕ) (next prev : List ℕ) (lists now : List (List ℕ)) (c r : ℕ) → IsLinked h next prev lists → lists ≡ now → c < length now → r ≡ get_or prev c r → (c < h) × (r ≡ last_of h c (chain_of now c))
last_node h next prev lists now c r l e k rd =
    let p : (c < h) × Path h (at next) (at prev) c (chain_of now c) c = first_path h next prev lists now c l e k in
    (p.0, read_is prev c r (omega (arith, l.same, l.total, p.0)) rd ∙ last_is h (at next) (at prev) c (chain_of now c) c p.1)

pub last_none : (h : ℕ) (next prev : List ℕ) (lists now : List (List ℕ)) (c r : ℕ) → IsLinked h next prev lists → lists ≡ now → c < length now → r ≡ get_or prev c r → r < h → None ≡ last_or None (chain_of now c)
last_none h next prev lists now c r l e k rd b =
    let q : (c < h) × (r ≡ last_of h c (chain_of now c)) = last_node h next prev lists now c r l e k rd in
    none_last h c (chain_of now c) (subst (λ w. w < h) q.1 b)

pub last_some : (h : ℕ) (next prev : List ℕ) (lists now : List (List ℕ)) (c r : ℕ) → IsLinked h next prev lists → lists ≡ now → c < length now → r ≡ get_or prev c r → h ≤ r → Some (r - h) ≡ last_or None (chain_of now c)
last_some h next prev lists now c r l e k rd b =
    let q : (c < h) × (r ≡ last_of h c (chain_of now c)) = last_node h next prev lists now c r l e k rd in
    ap (λ w. Some (w - h)) q.1 ∙ some_last h c (chain_of now c) q.0 (subst (λ w. h ≤ w) q.1 b)

pub next_none : (h : ℕ) (next prev : List ℕ) (lists now : List (List ℕ)) (i r : ℕ) → IsLinked h next prev lists → lists ≡ now → i < link_count now → r ≡ get_or next (h + i) r → r < h → NextIs now i None
next_none h next prev lists now i r l e k rd b c j is =
    let t = cut_at (chain_of now c) j i is in
    let p : (c < h) × Path h (at next) (at prev) (h + i) t.1 c = next_path h next prev lists now i l e c t.0 t.1 t.2 in
    let none : None ≡ slice_get t.1 0 = after_none h (at next) (at prev) (h + i) t.1 c p.1 (subst (λ w. w < h) (read_is next (h + i) r (omega (arith, l.total, ap link_count e)) rd) b) in
    none ∙ (t.3 ∙ ap (slice_get (chain_of now c)) (omega arith))

pub next_some : (h : ℕ) (next prev : List ℕ) (lists now : List (List ℕ)) (i r : ℕ) → IsLinked h next prev lists → lists ≡ now → i < link_count now → r ≡ get_or next (h + i) r → h ≤ r → NextIs now i (Some (r - h))
next_some h next prev lists now i r l e k rd b c j is =
    let t = cut_at (chain_of now c) j i is in
    let p : (c < h) × Path h (at next) (at prev) (h + i) t.1 c = next_path h next prev lists now i l e c t.0 t.1 t.2 in
    let q : r ≡ at next (h + i) = read_is next (h + i) r (omega (arith, l.total, ap link_count e)) rd in
    let some : Some (r - h) ≡ slice_get t.1 0 = ap (λ w. Some (w - h)) q ∙ after_some h (at next) (at prev) (h + i) t.1 c p.1 p.0 (subst (λ w. h ≤ w) q b) in
    some ∙ (t.3 ∙ ap (slice_get (chain_of now c)) (omega arith))

pub some_from : (h : ℕ) (next prev : List ℕ) (lists now : List (List ℕ)) (c r : ℕ) → IsLinked h next prev lists → lists ≡ now → c < length now → r ≡ get_or next c r → (h ≤ r → h ≤ at next c) × (r < h → at next c < h)
some_from h next prev lists now c r l e k rd =
    let p : (c < h) × Path h (at next) (at prev) c (chain_of now c) c = first_path h next prev lists now c l e k in
    let q : r ≡ at next c = read_is next c r (omega (arith, l.total, p.0)) rd in
    (subst (λ w. h ≤ w) q, subst (λ w. w < h) q)

pub spliced_length : (next next' : List ℕ) (a b c d e f : ℕ) → next' ≡ set (set (set next a b) c d) e f → length next' ≡ length next
spliced_length next next' a b c d e f is = ap length is ∙ simp length-set

pub grown_length : (next next1 next2 : List ℕ) (c d e f : ℕ) → next1 ≡ next ++ 0 ∷ [] → next2 ≡ set (set next1 c d) e f → length next2 ≡ length next + 1
grown_length next next1 next2 c d e f is is' = ap length is' ∙ (simp length-set (ap length is ∙ length-append next (0 ∷ [])))
