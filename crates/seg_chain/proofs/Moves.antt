use Rattle.std.proofs.Common.{◌≡◌, ◌≢◌, ℕ, zero, suc, ◌+◌, ◌<◌, ◌≤◌, List, [], ◌∷◌, ◌++◌, length, set, get_or, length-append, get_or-set_same, get_or-set_other, refl, sym, ◌∙◌, ap, subst, arith, inl, inr}
use Rattle.std.proofs.lemmas.List.{ext_get_or, length-set, get_or_append_left, get_or_push}
use Rattle.std.proofs.lemmas.Bool.{cases_eq, cases_lt}
use Rattle.std.proofs.lemmas.Bool.Decides.{nat_tests}
use Rattle.seg_chain.specs.Lists.{chain_of, hit, times, times_all, link_count, without, EachOnce}
use Rattle.seg_chain.specs.Linked.{Path, walk, lists_below, lists_of, IsLinked}
use Rattle.seg_chain.proofs.Counts.{times-append, times-here, times_all-set, times-le-all, times_two, link_count-set, length-le-total, cut, without_split}
use Rattle.seg_chain.proofs.Paths.{Distinct, last_of, first_of, last_is, first_is, last_below, first_below, split, frame, not_last, not_first, below_outside, absent_outside, detach_path, attach_path, walk_is}

abbrev pub at : List ℕ → ℕ → ℕ
at xs k = get_or xs k 0

-- the links without the index x
pub record IsLinkedBut (x heads : ℕ) (next prev : List ℕ) (lists : List (List ℕ)) : Type 0 where
  pub same : length prev ≡ length next
  pub chains : length lists ≡ heads
  pub total : heads + link_count lists + 1 ≡ length next
  pub paths : (c : ℕ) → c < heads → Path heads (at next) (at prev) c (chain_of lists c) c
  pub at_most : (i : ℕ) → times_all i lists ≤ 1
  pub once : (i : ℕ) → i ≢ x → heads + i < length next → times_all i lists ≡ 1
  pub beyond : (i : ℕ) → length next ≤ heads + i → times_all i lists ≡ 0
  pub within : heads + x < length next
  pub absent : times_all x lists ≡ 0

pub at_most_one : (h : ℕ) (next prev : List ℕ) (lists : List (List ℕ)) → IsLinked h next prev lists → (i : ℕ) → times_all i lists ≤ 1
at_most_one h next prev lists l i = elim (cases_lt (h + i) (length next)) [ inl k ↦ omega (arith, l.once i k) | inr k ↦ omega (arith, l.beyond i k) ]

pub member_below : (h : ℕ) (next prev : List ℕ) (lists : List (List ℕ)) → IsLinked h next prev lists → (c i : ℕ) → c < h → 0 < times i (chain_of lists c) → h + i < length next
member_below h next prev lists l c i k m =
    elim (cases_lt (h + i) (length next)) [ inl b ↦ b | inr b ↦ absurd (omega (arith, l.beyond i b, times-le-all i lists c (omega (arith, l.chains)))) ]

pub distinct_chain : (lists : List (List ℕ)) → ((i : ℕ) → times_all i lists ≤ 1) → (c : ℕ) → c < length lists → Distinct (chain_of lists c)
distinct_chain lists most c k i = omega (arith, most i, times-le-all i lists c k)

-- a member of a chain is no member of another
pub apart : (lists : List (List ℕ)) → ((i : ℕ) → times_all i lists ≤ 1) → (c e i : ℕ) → c < length lists → e < length lists → e ≢ c → 0 < times i (chain_of lists e) → times i (chain_of lists c) ≡ 0
apart lists most c e i k k' ne m = omega (arith, most i, times_two i lists e c k' k ne)

pub parts_of : (i : ℕ) (ys : List ℕ) (x : ℕ) (zs : List ℕ) → times i (ys ++ x ∷ zs) ≡ 0 → (times i ys ≡ 0) × (times i zs ≡ 0)
parts_of i ys x zs e = (omega (arith, times-append i ys (x ∷ zs)), omega (arith, times-append i ys (x ∷ zs)))

pub chain_at : (lists : List (List ℕ)) (c : ℕ) (ws : List ℕ) → c < length lists → chain_of (set lists c ws) c ≡ ws
chain_at lists c ws k = get_or-set_same lists c ws [] k

pub chain_other : (lists : List (List ℕ)) (c e : ℕ) (ws : List ℕ) → e ≢ c → chain_of (set lists c ws) e ≡ chain_of lists e
chain_other lists c e ws ne = get_or-set_other lists c e ws [] ne

pub detach_linked : (h : ℕ) (next prev : List ℕ) (lists : List (List ℕ)) (c : ℕ) (ys : List ℕ) (x : ℕ) (zs : List ℕ) → IsLinked h next prev lists → c < h → chain_of lists c ≡ ys ++ x ∷ zs
    → IsLinkedBut x h (set next (at prev (h + x)) (at next (h + x))) (set prev (at next (h + x)) (at prev (h + x))) (set lists c (ys ++ zs))
detach_linked h next prev lists c ys x zs l below is =
    let len : c < length lists = omega (arith, l.chains) in
    let most : (i : ℕ) → times_all i lists ≤ 1 = at_most_one h next prev lists l in
    let path : Path h (at next) (at prev) c (ys ++ x ∷ zs) c = subst (λ w. Path h (at next) (at prev) c w c) is (l.paths c below) in
    let dis : Distinct (ys ++ x ∷ zs) = subst Distinct is (distinct_chain lists most c len) in
    let s : Path h (at next) (at prev) c ys (h + x) × Path h (at next) (at prev) (h + x) zs c = split h (at next) (at prev) c ys x zs c path in
    let p : at prev (h + x) ≡ last_of h c ys = last_is h (at next) (at prev) c ys (h + x) s.0 in
    let n : at next (h + x) ≡ first_of h zs c = first_is h (at next) (at prev) (h + x) zs c s.1 in
    let mem : (i : ℕ) → 0 < times i (ys ++ x ∷ zs) → h + i < length next = λ i k. member_below h next prev lists l c i below (subst (λ w. 0 < times i w) (sym is) k) in
    let room : c < length next = omega (arith, l.total) in
    let p_in : last_of h c ys < length next = last_below h c (length next) ys room (λ i k. mem i (omega (arith, times-append i ys (x ∷ zs)))) in
    let n_in : first_of h zs c < length next = first_below h c (length next) zs room (λ i k. mem i (omega (arith, times-append i ys (x ∷ zs)))) in
    let x_in : 0 < times x (ys ++ x ∷ zs) = omega (arith, times-append x ys (x ∷ zs), times-here x zs) in
    let nx' : ℕ → ℕ = at (set next (at prev (h + x)) (at next (h + x))) in
    let pv' : ℕ → ℕ = at (set prev (at next (h + x)) (at prev (h + x))) in
    let a : nx' (last_of h c ys) ≡ first_of h zs c = subst (λ w. at (set next w (at next (h + x))) (last_of h c ys) ≡ first_of h zs c) (sym p) (get_or-set_same next (last_of h c ys) (at next (h + x)) 0 p_in ∙ n) in
    let b : pv' (first_of h zs c) ≡ last_of h c ys = subst (λ w. at (set prev w (at prev (h + x))) (first_of h zs c) ≡ last_of h c ys) (sym n) (get_or-set_same prev (first_of h zs c) (at prev (h + x)) 0 (omega (arith, l.same, n_in)) ∙ p) in
    let other : (q : ℕ) → q ≢ last_of h c ys → nx' q ≡ at next q = λ q ne. get_or-set_other next (at prev (h + x)) q (at next (h + x)) 0 (λ e. ne (e ∙ p)) in
    let other' : (q : ℕ) → q ≢ first_of h zs c → pv' q ≡ at prev q = λ q ne. get_or-set_other prev (at next (h + x)) q (at prev (h + x)) 0 (λ e. ne (e ∙ n)) in
    let counts : (i : ℕ) → times_all i (set lists c (ys ++ zs)) + hit i x ≡ times_all i lists =
    λ i. omega (arith, times_all-set i lists c (ys ++ zs) len, ap (times i) is, times-append i ys zs, times-append i ys (x ∷ zs)) in
    let counts_x : times_all x (set lists c (ys ++ zs)) + 1 ≡ times_all x lists =
    omega (arith, times_all-set x lists c (ys ++ zs) len, ap (times x) is, times-append x ys zs, times-append x ys (x ∷ zs), times-here x zs) in
    record {
      same = length-set prev _ _ ∙ (l.same ∙ sym (length-set next _ _));
      chains = length-set lists _ _ ∙ l.chains;
      total = omega (arith, l.total, link_count-set lists c (ys ++ zs) len, ap length is, length-append ys zs, length-append ys (x ∷ zs), length-set next (at prev (h + x)) (at next (h + x)));
      paths = λ e k. elim (cases_eq e c) [
        | inl same ↦ subst (λ w. Path h nx' pv' w (chain_of (set lists c (ys ++ zs)) w) w) (sym same)
            (subst (λ w. Path h nx' pv' c w c) (sym (chain_at lists c (ys ++ zs) len)) (detach_path h (at next) (at prev) nx' pv' c ys x zs below path dis a b other other'))
        | inr ne ↦
            let len' : e < length lists = omega (arith, l.chains) in
            let none : (i : ℕ) → 0 < times i (chain_of lists e) → (times i ys ≡ 0) × (times i zs ≡ 0) =
            λ i m. parts_of i ys x zs (ap (times i) (sym is) ∙ apart lists most c e i len len' ne m) in
            subst (λ w. Path h nx' pv' e w e) (sym (chain_other lists c e (ys ++ zs) ne))
            (frame h (at next) (at prev) nx' pv' e (chain_of lists e) e (l.paths e k)
            (other e (not_last h c e ys ne (below_outside h e ys k)))
            (λ i m. other (h + i) (not_last h c (h + i) ys (λ q. absurd (omega arith)) (absent_outside h i ys (none i m).0)))
            (other' e (not_first h c e zs ne (below_outside h e zs k)))
            (λ i m. other' (h + i) (not_first h c (h + i) zs (λ q. absurd (omega arith)) (absent_outside h i zs (none i m).1))))
      ];
      at_most = λ i. omega (arith, counts i, most i);
      once = λ i ne k. let z : hit i x ≡ 0 = grind (arith, nat_tests, ne) in omega (arith, counts i, z, l.once i (omega (arith, length-set next (at prev (h + x)) (at next (h + x)))));
      beyond = λ i k. omega (arith, counts i, l.beyond i (omega (arith, length-set next (at prev (h + x)) (at next (h + x)))));
      within = omega (arith, mem x x_in, length-set next (at prev (h + x)) (at next (h + x)));
      absent = omega (arith, counts_x, most x);
    }

pub attach_linked : (h : ℕ) (next prev : List ℕ) (lists : List (List ℕ)) (c x : ℕ) → IsLinkedBut x h next prev lists → c < h
    → IsLinked h (set (set next (at prev c) (h + x)) (h + x) c) (set (set prev (h + x) (at prev c)) c (h + x)) (set lists c (chain_of lists c ++ x ∷ []))
attach_linked h next prev lists c x l below =
    let len : c < length lists = omega (arith, l.chains) in
    let xs : List ℕ = chain_of lists c in
    let path : Path h (at next) (at prev) c xs c = l.paths c below in
    let dis : Distinct xs = distinct_chain lists l.at_most c len in
    let last : at prev c ≡ last_of h c xs = last_is h (at next) (at prev) c xs c path in
    let mem : (i : ℕ) → 0 < times i xs → h + i < length next =
    λ i k. elim (cases_lt (h + i) (length next)) [ inl b ↦ b | inr b ↦ absurd (omega (arith, l.beyond i b, times-le-all i lists c len)) ] in
    let room : c < length next = omega (arith, l.total) in
    let l_in : last_of h c xs < length next = last_below h c (length next) xs room mem in
    let none : times x xs ≡ 0 = omega (arith, l.absent, times-le-all x lists c len) in
    let lx : last_of h c xs ≢ h + x = λ e. not_last h c (h + x) xs (λ q. absurd (omega arith)) (absent_outside h x xs none) (sym e) in
    let lx' : at prev c ≢ h + x = λ e. lx (sym last ∙ e) in
    let next1 : List ℕ = set next (at prev c) (h + x) in
    let prev1 : List ℕ = set prev (h + x) (at prev c) in
    let nx' : ℕ → ℕ = at (set next1 (h + x) c) in
    let pv' : ℕ → ℕ = at (set prev1 c (h + x)) in
    let n1 : length next1 ≡ length next = length-set next (at prev c) (h + x) in
    let p1 : length prev1 ≡ length prev = length-set prev (h + x) (at prev c) in
    let a : nx' (last_of h c xs) ≡ h + x =
    get_or-set_other next1 (h + x) (last_of h c xs) c 0 lx ∙ subst (λ w. at (set next (at prev c) (h + x)) w ≡ h + x) last (get_or-set_same next (at prev c) (h + x) 0 (omega (arith, l_in, last))) in
    let b : pv' (h + x) ≡ last_of h c xs =
    get_or-set_other prev1 c (h + x) (h + x) 0 (λ e. absurd (omega arith)) ∙ (get_or-set_same prev (h + x) (at prev c) 0 (omega (arith, l.within, l.same)) ∙ last) in
    let a' : nx' (h + x) ≡ c = get_or-set_same next1 (h + x) c 0 (omega (arith, l.within, n1)) in
    let b' : pv' c ≡ h + x = get_or-set_same prev1 c (h + x) 0 (omega (arith, room, l.same, p1)) in
    let other : (q : ℕ) → q ≢ last_of h c xs → q ≢ h + x → nx' q ≡ at next q =
    λ q ne ne'. get_or-set_other next1 (h + x) q c 0 ne' ∙ get_or-set_other next (at prev c) q (h + x) 0 (λ e. ne (e ∙ last)) in
    let other' : (q : ℕ) → q ≢ c → q ≢ h + x → pv' q ≡ at prev q =
    λ q ne ne'. get_or-set_other prev1 c q (h + x) 0 ne ∙ get_or-set_other prev (h + x) q (at prev c) 0 ne' in
    let counts : (i : ℕ) → times_all i (set lists c (xs ++ x ∷ [])) ≡ times_all i lists + hit i x =
    λ i. omega (arith, times_all-set i lists c (xs ++ x ∷ []) len, times-append i xs (x ∷ [])) in
    let outer : length (set next1 (h + x) c) ≡ length next = length-set next1 (h + x) c ∙ n1 in
    record {
      same = length-set prev1 c (h + x) ∙ (p1 ∙ (l.same ∙ sym outer));
      chains = length-set lists _ _ ∙ l.chains;
      total = omega (arith, l.total, link_count-set lists c (xs ++ x ∷ []) len, length-append xs (x ∷ []), outer);
      paths = λ e k. elim (cases_eq e c) [
        | inl same ↦ subst (λ w. Path h nx' pv' w (chain_of (set lists c (xs ++ x ∷ [])) w) w) (sym same)
            (subst (λ w. Path h nx' pv' c w c) (sym (chain_at lists c (xs ++ x ∷ []) len)) (attach_path h (at next) (at prev) nx' pv' c xs x below path dis none a b a' b' other other'))
        | inr ne ↦
            let len' : e < length lists = omega (arith, l.chains) in
            let gone : (i : ℕ) → 0 < times i (chain_of lists e) → times i xs ≡ 0 = λ i m. apart lists l.at_most c e i len len' ne m in
            let not_x : (i : ℕ) → 0 < times i (chain_of lists e) → h + i ≢ h + x =
            λ i m q. let same : i ≡ x = omega arith in
            let m' : 0 < times x (chain_of lists e) = subst (λ z. 0 < times z (chain_of lists e)) same m in
            absurd (omega (arith, l.absent, times-le-all x lists e len')) in
            subst (λ w. Path h nx' pv' e w e) (sym (chain_other lists c e (xs ++ x ∷ []) ne))
            (frame h (at next) (at prev) nx' pv' e (chain_of lists e) e (l.paths e k)
            (other e (not_last h c e xs ne (below_outside h e xs k)) (λ q. absurd (omega arith)))
            (λ i m. other (h + i) (not_last h c (h + i) xs (λ q. absurd (omega arith)) (absent_outside h i xs (gone i m))) (not_x i m))
            (other' e ne (λ q. absurd (omega arith)))
            (λ i m. other' (h + i) (λ q. absurd (omega arith)) (not_x i m)))
      ];
      once = λ i k. elim (cases_eq i x) [
        | inl e ↦ let z : hit i x ≡ 1 = grind (arith, nat_tests, e) in omega (arith, counts i, z, ap (λ w. times_all w lists) e, l.absent)
        | inr ne ↦ let z : hit i x ≡ 0 = grind (arith, nat_tests, ne) in omega (arith, counts i, z, l.once i ne (omega (arith, outer)))
      ];
      beyond = λ i k. let ne : i ≢ x = λ e. absurd (omega (arith, l.within, outer)) in
          let z : hit i x ≡ 0 = grind (arith, nat_tests, ne) in omega (arith, counts i, z, l.beyond i (omega (arith, outer)));
    }

length-lists_below : (h : ℕ) (nx : ℕ → ℕ) (fuel n : ℕ) → length (lists_below h nx fuel n) ≡ n
unfolding lists_below
length-lists_below h nx fuel zero = refl
length-lists_below h nx fuel (suc n) = omega (arith, length-append (lists_below h nx fuel n) (walk h nx fuel (nx n) ∷ []), length-lists_below h nx fuel n)

get_or-lists_below : (h : ℕ) (nx : ℕ → ℕ) (fuel n c : ℕ) → c < n → get_or (lists_below h nx fuel n) c [] ≡ walk h nx fuel (nx c)
unfolding lists_below
get_or-lists_below h nx fuel zero c k = absurd (omega arith)
get_or-lists_below h nx fuel (suc n) c k =
    elim (cases_lt c n) [
      | inl b ↦ get_or_append_left (lists_below h nx fuel n) (walk h nx fuel (nx n) ∷ []) [] c (omega (arith, length-lists_below h nx fuel n)) ∙ get_or-lists_below h nx fuel n c b
      | inr b ↦ let e : n ≡ c = omega arith in
          get_or_push (lists_below h nx fuel n) (walk h nx fuel (nx n)) [] c (length-lists_below h nx fuel n ∙ e) ∙ ap (λ w. walk h nx fuel (nx w)) e
    ]

pub lists_are : (h : ℕ) (next prev : List ℕ) (lists : List (List ℕ)) → IsLinked h next prev lists → lists_of h next ≡ lists
unfolding lists_of
lists_are h next prev lists l =
    ext_get_or [] (lists_of h next) lists (length-lists_below h (at next) (length next) h ∙ sym l.chains)
    (λ c k. let below : c < h = omega (arith, length-lists_below h (at next) (length next) h) in
    get_or-lists_below h (at next) (length next) h c below
    ∙ walk_is h (at next) (at prev) (length next) c (chain_of lists c) c below (omega (arith, l.total, length-le-total lists c (omega (arith, l.chains)))) (l.paths c below))

-- the invariant and the view after a change
pub relinked : (h : ℕ) (next prev : List ℕ) (lists : List (List ℕ)) → IsLinked h next prev lists → IsLinked h next prev (lists_of h next)
relinked h next prev lists l = subst (λ w. IsLinked h next prev w) (sym (lists_are h next prev lists l)) l

pub loosened : (h : ℕ) (next prev : List ℕ) (lists : List (List ℕ)) (c x : ℕ) → IsLinked h next prev lists → c < h → 0 < times x (chain_of lists c)
    → (next1 prev1 : List ℕ) → next1 ≡ set next (at prev (h + x)) (at next (h + x)) → prev1 ≡ set prev (at next (h + x)) (at prev (h + x))
    → IsLinkedBut x h next1 prev1 (set lists c (without x (chain_of lists c)))
loosened h next prev lists c x l below m next1 prev1 e1 f1 =
    let k : (ys : List ℕ) × (zs : List ℕ) × (chain_of lists c ≡ ys ++ x ∷ zs) = cut x (chain_of lists c) m in
    let len : c < length lists = omega (arith, l.chains) in
    let once : times x (k.0 ++ x ∷ k.1) ≤ 1 = subst (λ w. times x w ≤ 1) k.2 (distinct_chain lists (at_most_one h next prev lists l) c len x) in
    let gone : without x (chain_of lists c) ≡ k.0 ++ k.1 = ap (without x) k.2 ∙ without_split x k.0 k.1 once in
    let but : IsLinkedBut x h next1 prev1 (set lists c (k.0 ++ k.1)) =
    subst (λ w. IsLinkedBut x h w prev1 (set lists c (k.0 ++ k.1))) (sym e1) (subst (λ w. IsLinkedBut x h (set next (at prev (h + x)) (at next (h + x))) w (set lists c (k.0 ++ k.1))) (sym f1)
    (detach_linked h next prev lists c k.0 x k.1 l below k.2)) in
    subst (λ w. IsLinkedBut x h next1 prev1 (set lists c w)) (sym gone) but

pub last_within : (x h : ℕ) (next prev : List ℕ) (lists : List (List ℕ)) (d : ℕ) → IsLinkedBut x h next prev lists → d < h → (h + x < length next) × (at prev d < length next)
last_within x h next prev lists d l below =
    let room : d < length next = omega (arith, l.total) in
    let mem : (i : ℕ) → 0 < times i (chain_of lists d) → h + i < length next =
    λ i k. elim (cases_lt (h + i) (length next)) [ inl b ↦ b | inr b ↦ absurd (omega (arith, l.beyond i b, times-le-all i lists d (omega (arith, l.chains)))) ] in
    (l.within, subst (λ w. w < length next) (sym (last_is h (at next) (at prev) d (chain_of lists d) d (l.paths d below))) (last_below h d (length next) (chain_of lists d) room mem))

-- to put it last in another chain
pub moved_linked : (h : ℕ) (lists : List (List ℕ)) (c d x : ℕ) (zs : List ℕ) (next1 prev1 : List ℕ) → IsLinkedBut x h next1 prev1 (set lists c zs) → d < h → d ≢ c
    → (next2 prev2 : List ℕ) → next2 ≡ set (set next1 (at prev1 d) (h + x)) (h + x) d → prev2 ≡ set (set prev1 (h + x) (at prev1 d)) d (h + x)
    → IsLinked h next2 prev2 (set (set lists c zs) d (chain_of lists d ++ x ∷ []))
moved_linked h lists c d x zs next1 prev1 but below ne next2 prev2 e2 f2 =
    let back : IsLinked h next2 prev2 (set (set lists c zs) d (chain_of (set lists c zs) d ++ x ∷ [])) =
    subst (λ w. IsLinked h w prev2 (set (set lists c zs) d (chain_of (set lists c zs) d ++ x ∷ []))) (sym e2)
    (subst (λ w. IsLinked h (set (set next1 (at prev1 d) (h + x)) (h + x) d) w (set (set lists c zs) d (chain_of (set lists c zs) d ++ x ∷ []))) (sym f2)
    (attach_linked h next1 prev1 (set lists c zs) d x but below)) in
    subst (λ w. IsLinked h next2 prev2 (set (set lists c zs) d (w ++ x ∷ []))) (chain_other lists c d zs ne) back

-- the links of a member lie within
pub neighbours : (h : ℕ) (next prev : List ℕ) (lists : List (List ℕ)) (c x : ℕ) → IsLinked h next prev lists → c < h → 0 < times x (chain_of lists c)
    → (h + x < length next) × (at next (h + x) < length next) × (at prev (h + x) < length next)
neighbours h next prev lists c x l below m =
    let k : (ys : List ℕ) × (zs : List ℕ) × (chain_of lists c ≡ ys ++ x ∷ zs) = cut x (chain_of lists c) m in
    let path : Path h (at next) (at prev) c (k.0 ++ x ∷ k.1) c = subst (λ w. Path h (at next) (at prev) c w c) k.2 (l.paths c below) in
    let s : Path h (at next) (at prev) c k.0 (h + x) × Path h (at next) (at prev) (h + x) k.1 c = split h (at next) (at prev) c k.0 x k.1 c path in
    let mem : (i : ℕ) → 0 < times i (k.0 ++ x ∷ k.1) → h + i < length next = λ i j. member_below h next prev lists l c i below (subst (λ w. 0 < times i w) (sym k.2) j) in
    let room : c < length next = omega (arith, l.total) in (
      member_below h next prev lists l c x below m,
      subst (λ w. w < length next) (sym (first_is h (at next) (at prev) (h + x) k.1 c s.1)) (first_below h c (length next) k.1 room (λ i j. mem i (omega (arith, times-append i k.0 (x ∷ k.1))))),
      subst (λ w. w < length next) (sym (last_is h (at next) (at prev) c k.0 (h + x) s.0)) (last_below h c (length next) k.0 room (λ i j. mem i (omega (arith, times-append i k.0 (x ∷ k.1))))),
    )

-- what callers are told of linked lists
pub each_once : (h : ℕ) (next prev : List ℕ) (lists now : List (List ℕ)) → IsLinked h next prev lists → lists ≡ now → EachOnce now
each_once h next prev lists now l e =
    let l' : IsLinked h next prev now = subst (λ w. IsLinked h next prev w) e l in record {
      once = λ i k. l'.once i (omega (arith, l'.total));
      no_other = λ i k. l'.beyond i (omega (arith, l'.total));
    }

-- as many links as nodes that are no chain's
pub count_is : (h : ℕ) (next prev : List ℕ) (lists now : List (List ℕ)) → IsLinked h next prev lists → lists ≡ now → h + link_count now ≡ length next
count_is h next prev lists now l e = subst (λ w. h + link_count w ≡ length next) e l.total
