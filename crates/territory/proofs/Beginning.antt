-- The segments of a generation are set aside.
use Rattle.std.proofs.Common.{◌≡◌, ◌≢◌, ℕ, suc, ◌+◌, ◌-◌, ◌%◌, ◌<◌, Bool, false, cond, eqb, ◌&&◌, List, [], ◌∷◌, ◌++◌, length, get_or, set, Option, Some, None, refl, sym, ◌∙◌, ap, subst, arith, inl, inr, true, is_some}
use Rattle.std.proofs.lemmas.Bool.{cases_eq, cases_lt}
use Rattle.std.proofs.lemmas.List.Sums.{sum_by-cons}
use Rattle.std.proofs.lemmas.Option.{get_or_from_slice_get, slice_get_within, slice_get-get_or}
use Rattle.std.specs.List.{slice_get, sum_by}
use Rattle.seg_chain.specs.Lists.{chain_of, link_count, times, spliced, EachOnce}
use Rattle.seg_chain.proofs.Counts.{times-append}
use Rattle.seg_chain.proofs.Laws.{length-spliced, chain_of-spliced_from, chain_of-spliced_to, chain_of-spliced_other}
use Rattle.segment.specs.declared.segment.Role.{Role}
use Rattle.segment.specs.declared.segment.Role.TheVariants.{Free, Current, From}
use Rattle.segment.specs.Segments.{Segment, IsSound, is_free, spot, set_aside}
use Rattle.segment.proofs.Collected.{IsSound-aside}
use Rattle.territory.specs.Pools.{PoolView, numbered, list_of, list_for, IsIn, IsOpenFor, IsSettled, used_words, is_held, cells_in, shows_dirty}
use Rattle.territory.specs.Changes.{AreSetAside, AreClosed}
use Rattle.std.proofs.lemmas.List.{append-nil, set-get_or}
use Rattle.territory.proofs.Listing.{listed_at, in_use_linked}

-- what a segment that is set aside keeps
pub record IsKept (p q : Segment) : Type 0 where
  pub free : is_free q.role ≡ is_free p.role
  pub parts : q ≡ record p { role = q.role }

aside_kept : (p : Segment) → is_free p.role ≡ false → IsKept p (set_aside p)
aside_kept p u = record { free = sym u; parts = refl }

same_kept : (p q : Segment) → q ≡ p → IsKept p q
same_kept p q e = record { free = ap (λ (v : Segment). is_free v.role) e; parts = e ∙ ap (λ r. let v : Segment = record p { role = r } in v) (sym (ap (λ (v : Segment). v.role) e)) }

listed_used : (r : Role) (h g : ℕ) → list_for r h ≡ 1 + g → is_free r ≡ false
listed_used Free h g e = absurd (omega arith)
listed_used Current h g e = refl
listed_used From h g e = refl

pub kept : (p : PoolView) (g : ℕ) (segments : List Segment) → IsSettled p → AreSetAside p.segments segments (chain_of p.lists (1 + g)) → (n : ℕ) → IsKept (numbered p.segments n) (numbered segments n)
kept p g segments t a n =
    elim (cases_lt 0 (times n (chain_of p.lists (1 + g)))) [
      | inr out ↦ same_kept (numbered p.segments n) (numbered segments n) (a.outside n (omega arith))
      | inl i ↦ subst (IsKept (numbered p.segments n)) (sym (a.inside n i)) (aside_kept (numbered p.segments n) (listed_used (numbered p.segments n).role (numbered p.segments n).generation g (t.listed.fits (1 + g) n i)))
    ]

pub listed_current : (r : Role) (h g : ℕ) → h < 9 → g < 9 → list_for r h ≡ 1 + g → (r ≡ Current) × (h ≡ g)
listed_current Free h g a b e = absurd (omega arith)
listed_current Current h g a b e = (refl, omega arith)
listed_current From h g a b e = absurd (omega arith)

-- a sum in which each term stays
pub sum_kept : (f : Segment → ℕ) (xs ys : List Segment) → length ys ≡ length xs → ((n : ℕ) → f (numbered ys n) ≡ f (numbered xs n)) → sum_by f ys ≡ sum_by f xs
sum_kept f [] [] l h = refl
sum_kept f [] (y ∷ ys) l h = absurd (omega arith)
sum_kept f (x ∷ xs) [] l h = absurd (omega arith)
sum_kept f (x ∷ xs) (y ∷ ys) l h = omega (arith, sum_by-cons f x xs, sum_by-cons f y ys, h 0, sum_kept f xs ys (omega arith) (λ n. h (suc n)))

-- it counts for the same, and shows the same
kept_free : {Y : Type 0} (F : Bool → Segment → Y) (p q : Segment) → IsKept p q → F (is_free q.role) (record q { role = Current }) ≡ F (is_free p.role) (record p { role = Current })
kept_free F p q k = ap (λ b. F b (record q { role = Current })) k.free ∙ ap (λ (v : Segment). F (is_free p.role) (record v { role = Current })) k.parts

kept_words : (p q : Segment) → IsKept p q → used_words q ≡ used_words p
kept_words p q k = kept_free (λ b v. cond b 0 (length v.words)) p q k

kept_held : (p q : Segment) → IsKept p q → is_held q ≡ is_held p
kept_held p q k = kept_free (λ b v. cond b false (v.was_held && eqb (length v.words) 512)) p q k

kept_cells : (p q : Segment) → IsKept p q → cells_in q ≡ cells_in p
kept_cells p q k = kept_free (λ b v. cond b 0 (cells_in v)) p q k

kept_dirty : (p q : Segment) → IsKept p q → shows_dirty q ≡ shows_dirty p
kept_dirty p q k = kept_free (λ b v. cond b false v.is_dirty) p q k

kept_spot : (p q : Segment) (j : ℕ) → IsKept p q → spot q j ≡ spot p j
kept_spot p q j k = kept_free (λ b v. cond b None (spot v j)) p q k

pub settled_aside : (p now : PoolView) (g : ℕ) (segments : List Segment) (areas : List (Option ℕ)) (lists : List (List ℕ)) (closed : ℕ) → p ≡ now → IsSettled now → g < 9
    → AreSetAside p.segments segments (chain_of p.lists (1 + g)) → AreClosed p.areas areas g 8 closed → lists ≡ spliced p.lists (1 + g) (10 + g) → link_count lists ≡ link_count p.lists → EachOnce lists
    → IsSettled (record p { segments = segments; areas = areas; lists = lists; counts = record p.counts { open_areas = p.counts.open_areas - closed } })
settled_aside p now g segments areas lists closed e done small a c is links once =
    let t : IsSettled p = subst IsSettled (sym e) done in
    let k : (n : ℕ) → IsKept (numbered p.segments n) (numbered segments n) = kept p g segments t a in
    let cur_in : (n : ℕ) → 0 < times n (chain_of p.lists (1 + g)) → ((numbered p.segments n).role ≡ Current) × ((numbered p.segments n).generation ≡ g) = λ n i. listed_current (numbered p.segments n).role (numbered p.segments n).generation g (t.generations n) small (t.listed.fits (1 + g) n i) in
    let as_before : (n : ℕ) → times n (chain_of p.lists (1 + g)) ≡ 0 → list_of (numbered segments n) ≡ list_of (numbered p.segments n) = λ n o. ap list_of (a.outside n o) in
    let not_current : (l n : ℕ) → l ≢ 1 + g → IsIn p.lists l n → times n (chain_of p.lists (1 + g)) ≡ 0 = λ l n ne i.
    elim (cases_lt 0 (times n (chain_of p.lists (1 + g)))) [ inr z ↦ omega arith | inl y ↦ absurd (ne (sym (t.listed.fits l n i) ∙ t.listed.fits (1 + g) n y)) ] in
    record {
      count = omega (arith, a.same, t.count);
      sound = λ n. elim (cases_lt 0 (times n (chain_of p.lists (1 + g)))) [
        | inr z ↦ subst IsSound (sym (a.outside n (omega arith))) (t.sound n)
        | inl i ↦ subst IsSound (sym (a.inside n i)) (IsSound-aside (numbered p.segments n) (t.sound n) (ap is_free (cur_in n i).0))
      ];
      generations = λ n. subst (λ v. v < 9) (sym (ap (λ (v : Segment). v.generation) (k n).parts)) (t.generations n);
      lengths = λ n j x h. t.lengths n j x (sym (kept_spot (numbered p.segments n) (numbered segments n) j (k n)) ∙ h);
      listed = record {
        chains = ap length is ∙ (length-spliced p.lists (1 + g) (10 + g) ∙ t.listed.chains);
        known = omega (arith, links, t.listed.known, a.same);
        each_once = once;
        fits = λ l n i. elim (cases_eq l (10 + g)) [
          | inl to ↦
              let i' : 0 < times n (chain_of p.lists (10 + g) ++ chain_of p.lists (1 + g)) = subst (λ v. 0 < times n v) (ap (λ v. chain_of v l) is ∙ (ap (chain_of (spliced p.lists (1 + g) (10 + g))) to ∙ chain_of-spliced_to p.lists (1 + g) (10 + g) (omega (arith, t.listed.chains)))) i in
              elim (cases_lt 0 (times n (chain_of p.lists (1 + g)))) [
                | inl y ↦ ap list_of (a.inside n y) ∙ (ap (λ v. 10 + v) (cur_in n y).1 ∙ sym to)
                | inr z ↦ as_before n (omega arith) ∙ (t.listed.fits (10 + g) n (omega (arith, times-append n (chain_of p.lists (10 + g)) (chain_of p.lists (1 + g)))) ∙ sym to)
              ]
          | inr nt ↦ elim (cases_eq l (1 + g)) [
            | inl from ↦
                let none : chain_of lists l ≡ [] = ap (λ v. chain_of v l) is ∙ (ap (chain_of (spliced p.lists (1 + g) (10 + g))) from ∙ chain_of-spliced_from p.lists (1 + g) (10 + g) (omega (arith, t.listed.chains)) (omega arith)) in
                absurd (omega (arith, i, ap (times n) none))
            | inr nf ↦
                let i' : IsIn p.lists l n = subst (λ v. 0 < times n v) (ap (λ v. chain_of v l) is ∙ chain_of-spliced_other p.lists (1 + g) (10 + g) l nf nt) i in
                as_before n (not_current l n nf i') ∙ t.listed.fits l n i'
          ]
        ];
        unlisted = λ n b. as_before n (elim (cases_lt 0 (times n (chain_of p.lists (1 + g)))) [
          | inr z ↦ omega arith
          | inl y ↦ absurd (omega (arith, t.listed.fits (1 + g) n y, t.listed.unlisted n (omega (arith, links))))
        ]) ∙ t.listed.unlisted n (omega (arith, links));
      };
      open_areas = record {
        count = c.same ∙ t.open_areas.count;
        fits = λ j n h.
            let in_areas : j < length areas = slice_get_within areas j (Some n) h in
            let here : get_or areas j None ≡ Some n = get_or_from_slice_get areas j (Some n) None h in
            elim (cases_eq (j % 9) g) [
              | inl same ↦ absurd (let z : None ≡ Some n = sym (c.inside j same (omega (arith, c.same, t.open_areas.count))) ∙ here in cc)
              | inr ne ↦
                  let before : slice_get p.areas j ≡ Some (Some n) = slice_get-get_or p.areas j None (omega (arith, c.same)) ∙ ap Some (sym (c.outside j (inl ne)) ∙ here) in
                  let o : IsOpenFor (numbered p.segments n) j = t.open_areas.fits j n before in
                  subst (λ v. IsOpenFor v j) (sym (a.outside n (elim (cases_lt 0 (times n (chain_of p.lists (1 + g)))) [
                    | inr z ↦ omega arith
                    | inl y ↦ absurd (ne (sym o.generation_is ∙ (cur_in n y).1))
                  ]))) o
            ];
      };
      dirty = record {
        chains = t.dirty.chains;
        known = omega (arith, a.same, t.dirty.known);
        each_once = t.dirty.each_once;
        shown = λ n i. kept_dirty (numbered p.segments n) (numbered segments n) (k n) ∙ t.dirty.shown n i;
        listed = λ n h. t.dirty.listed n (sym (kept_dirty (numbered p.segments n) (numbered segments n) (k n)) ∙ h);
      };
      counted = record {
        words = t.counted.words ∙ sym (sum_kept used_words p.segments segments a.same (λ n. kept_words (numbered p.segments n) (numbered segments n) (k n)));
        open_areas = omega (arith, t.counted.open_areas, c.counted);
        held = t.counted.held ∙ sym (sum_kept (λ v. cond (is_held v) 1 0) p.segments segments a.same (λ n. ap (λ b. cond b 1 0) (kept_held (numbered p.segments n) (numbered segments n) (k n))));
        cells = t.counted.cells ∙ sym (sum_kept cells_in p.segments segments a.same (λ n. kept_cells (numbered p.segments n) (numbered segments n) (k n)));
      };
    }

-- the same with the numbers of the lists as they are read
pub settled_set_aside : (p now : PoolView) (g h i : ℕ) (segments : List Segment) (areas : List (Option ℕ)) (lists : List (List ℕ)) (closed : ℕ) → p ≡ now → IsSettled now → g < 9 → h ≡ g → i ≡ g
    → AreSetAside p.segments segments (chain_of p.lists (1 + h)) → AreClosed p.areas areas i 8 closed → lists ≡ spliced p.lists (1 + h) (1 + h + 9) → link_count lists ≡ link_count p.lists → EachOnce lists
    → IsSettled (record p { segments = segments; areas = areas; lists = lists; counts = record p.counts { open_areas = p.counts.open_areas - closed } })
settled_set_aside p now g h i segments areas lists closed e done small eh ei a c is links once =
    let to : 1 + h + 9 ≡ 10 + g = omega arith in
    settled_aside p now g segments areas lists closed e done small (subst (λ v. AreSetAside p.segments segments (chain_of p.lists (1 + v))) eh a) (subst (λ v. AreClosed p.areas areas v 8 closed) ei c)
    (is ∙ (ap (λ v. spliced p.lists (1 + h) v) to ∙ ap (λ v. spliced p.lists (1 + v) (10 + g)) eh)) links once

-- ---- a generation without segments

nothing : (o : Option ℕ) → ((n : ℕ) → o ≡ Some n → ⊥) → o ≡ None
nothing None h = refl
nothing (Some n) h = absurd (h n refl)

no_first : (xs : List ℕ) (r : Option ℕ) → r ≡ slice_get xs 0 → is_some r ≡ false → xs ≡ []
no_first [] r e n = refl
no_first (x ∷ xs) r e n = absurd (let c : true ≡ false = sym (ap is_some e) ∙ n in cc)

-- an empty chain appended to another leaves the chains as they are
spliced_none : (lists : List (List ℕ)) (from to : ℕ) → chain_of lists from ≡ [] → lists ≡ spliced lists from to
spliced_none lists from to e =
    let kept : set lists from [] ≡ lists = ap (set lists from) (sym e) ∙ set-get_or lists from [] in
    let rest : chain_of lists to ++ chain_of lists from ≡ chain_of lists to = ap (λ v. chain_of lists to ++ v) e ∙ append-nil (chain_of lists to) in
    sym (ap (λ v. set v to (chain_of lists to ++ chain_of lists from)) kept ∙ (ap (set lists to) rest ∙ set-get_or lists to []))

-- an open area names a segment of its generation, which stands in the list of the generation
open_listed : (p : PoolView) (k n : ℕ) → IsSettled p → slice_get p.areas k ≡ Some (Some n) → IsIn p.lists (1 + k % 9) n
open_listed p k n t h =
    let o : IsOpenFor (numbered p.segments n) k = t.open_areas.fits k n h in
    let at : list_of (numbered p.segments n) ≡ 1 + k % 9 = ap (λ r. list_for r (numbered p.segments n).generation) o.current ∙ ap (λ g. 1 + g) o.generation_is in
    let linked : n < link_count p.lists = in_use_linked p.segments p.lists n t.listed (λ z. absurd (omega arith)) in
    subst (λ v. IsIn p.lists v n) at (listed_at p.segments p.lists n t.listed linked)

-- so a generation without segments has no open area
pub closed_none : (p : PoolView) (g : ℕ) → IsSettled p → chain_of p.lists (1 + g) ≡ [] → AreClosed p.areas p.areas g 8 0
closed_none p g t e = record {
  same = refl;
  inside = λ k same below. nothing (get_or p.areas k None) (λ n h.
      let here : slice_get p.areas k ≡ Some (Some n) = slice_get-get_or p.areas k None (omega (arith, t.open_areas.count)) ∙ ap Some h in
      let i : IsIn p.lists (1 + g) n = subst (λ v. IsIn p.lists (1 + v) n) same (open_listed p k n t here) in
      absurd (omega (arith, i, ap (times n) e)));
  outside = λ k far. refl;
  counted = omega arith;
}

-- what then is so of a pool whose list has no first number
pub none_aside : (p now : PoolView) (g h : ℕ) (first : Option ℕ) → p ≡ now → IsSettled now → h ≡ g → first ≡ slice_get (chain_of p.lists (1 + h)) 0 → is_some first ≡ false
    → (now.lists ≡ spliced now.lists (1 + g) (10 + g)) × AreClosed now.areas now.areas g 8 0
none_aside p now g h first e t eh is none =
    let empty : chain_of now.lists (1 + g) ≡ [] = no_first (chain_of now.lists (1 + g)) first (is ∙ (ap (λ v. slice_get (chain_of p.lists (1 + v)) 0) eh ∙ ap (λ (v : PoolView). slice_get (chain_of v.lists (1 + g)) 0) e)) none in
    (spliced_none now.lists (1 + g) (10 + g) empty, closed_none now g t empty)
