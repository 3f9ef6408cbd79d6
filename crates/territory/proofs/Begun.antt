-- A generation more is set aside.
use Rattle.std.proofs.Common.{◌≡◌, ◌≢◌, ℕ, ◌+◌, ◌%◌, ◌<◌, ◌≤◌, Bool, true, false, cond, nat_lt, ◌&&◌, List, [], ◌∷◌, ◌++◌, length, append-nil, get_or, Option, None, refl, sym, ◌∙◌, ap, subst, arith, inl, inr, ◌⊎◌}
use Rattle.std.proofs.lemmas.Bool.{cases_eq, cases_lt}
use Rattle.std.proofs.lemmas.Bool.Decides.{nat_tests}
use Rattle.std.proofs.lemmas.List.{get_or_past}
use Rattle.std.specs.Prelude.{◌==◌}
use Rattle.seg_chain.specs.Lists.{chain_of, times, spliced}
use Rattle.seg_chain.proofs.Counts.{here_in}
use Rattle.seg_chain.proofs.Laws.{length-spliced, chain_of-spliced_from, chain_of-spliced_to, chain_of-spliced_other}
use Rattle.segment.specs.declared.segment.Role.{Role}
use Rattle.segment.specs.declared.segment.Role.TheVariants.{Free, Current, From}
use Rattle.segment.specs.Segments.{Segment, set_aside, vacant}
use Rattle.territory.specs.Pools.{PoolView, numbered, list_of, list_for, IsIn, IsSettled}
use Rattle.territory.specs.Changes.{AreSetAside, AreClosed, AreBegun, begun, is_current}
use Rattle.territory.proofs.Listing.{listed_at, in_use_linked}
use Rattle.territory.proofs.Beginning.{closed_none, listed_current}

below_none : (x : ℕ) → nat_lt x 0 ≡ false
below_none x = grind (arith, nat_tests)

below_more : (x g : ℕ) → x ≢ g → nat_lt x (g + 1) ≡ nat_lt x g
below_more x g ne = elim (cases_lt x g) [
  | inl b ↦ (let s : nat_lt x g ≡ true = grind (arith, nat_tests, b) in let t : nat_lt x (g + 1) ≡ true = (let b' : x < g + 1 = omega arith in grind (arith, nat_tests, b')) in t ∙ sym s)
  | inr far ↦ (let s : nat_lt x g ≡ false = grind (arith, nat_tests, far) in let t : nat_lt x (g + 1) ≡ false = (let b' : g + 1 ≤ x = omega arith in grind (arith, nat_tests, b')) in t ∙ sym s)
]

below_here : (g : ℕ) → nat_lt g (g + 1) ≡ true
below_here g = let b : g < g + 1 = omega arith in grind (arith, nat_tests, b)

below_itself : (g : ℕ) → nat_lt g g ≡ false
below_itself g = let b : g ≤ g = omega arith in grind (arith, nat_tests, b)

begun_zero : (b : Bool) (q : Segment) → cond (b && false) (set_aside q) q ≡ q
begun_zero true q = refl
begun_zero false q = refl

pub begun_none : (p : PoolView) → AreBegun p p 0
begun_none p = record {
  same = refl;
  segments = λ n. sym (ap (λ b. cond (is_current (numbered p.segments n).role && b) (set_aside (numbered p.segments n)) (numbered p.segments n)) (below_none (numbered p.segments n).generation) ∙ begun_zero (is_current (numbered p.segments n).role) (numbered p.segments n));
  areas_same = refl;
  areas = λ k. sym (ap (λ b. cond b None (get_or p.areas k None)) (below_none (k % 9)));
  lists_same = refl;
  free = refl;
  current = λ g h. sym (ap (λ b. cond b [] (chain_of p.lists (1 + g))) (below_none g));
  from = λ g h. sym (ap (λ b. cond b (chain_of p.lists (10 + g) ++ chain_of p.lists (1 + g)) (chain_of p.lists (10 + g))) (below_none g));
  dirty = refl;
}

-- a segment that is current after the younger generations were set aside was not set aside
still : (p : Segment) (g : ℕ) → (begun g p).role ≡ Current → begun g p ≡ p
still p g h = elim (is_current p.role && nat_lt p.generation g) as (λ b. (cond b (set_aside p) p).role ≡ Current → cond b (set_aside p) p ≡ p) [ true ↦ λ e. cc | false ↦ λ e. refl ] h

current_is : (r : Role) → r ≡ Current → is_current r ≡ true
current_is r e = ap is_current e

current_or : (r : Role) → (r ≡ Current) ⊎ (is_current r ≡ false)
current_or Free = inr refl
current_or Current = inl refl
current_or From = inr refl

begun_same : (p : Segment) (g : ℕ) → (p.role ≡ Current → p.generation ≢ g) → begun (g + 1) p ≡ begun g p
begun_same p g h =
    elim (current_or p.role) [
      | inl c ↦ ap (λ b. cond (is_current p.role && b) (set_aside p) p) (below_more p.generation g (h c))
      | inr n ↦ ap (λ b. cond (b && nat_lt p.generation (g + 1)) (set_aside p) p) n ∙ sym (ap (λ b. cond (b && nat_lt p.generation g) (set_aside p) p) n)
    ]

begun_here : (p : Segment) (g : ℕ) → p.role ≡ Current → p.generation ≡ g → begun (g + 1) p ≡ set_aside p
begun_here p g c e = ap (λ b. cond (b && nat_lt p.generation (g + 1)) (set_aside p) p) (current_is p.role c) ∙ (ap (λ v. cond (nat_lt v (g + 1)) (set_aside p) p) e ∙ ap (λ b. cond b (set_aside p) p) (below_here g))

begun_segment : (old mid new : PoolView) (g n : ℕ) → IsSettled mid → g < 9 → AreBegun old mid g → AreSetAside mid.segments new.segments (chain_of mid.lists (1 + g)) → numbered new.segments n ≡ begun (g + 1) (numbered old.segments n)
begun_segment old mid new g n t small b a =
    let p : Segment = numbered old.segments n in
    elim (cases_lt 0 (times n (chain_of mid.lists (1 + g)))) [
      | inl i ↦
          let c : ((numbered mid.segments n).role ≡ Current) × ((numbered mid.segments n).generation ≡ g) = listed_current (numbered mid.segments n).role (numbered mid.segments n).generation g (t.generations n) small (t.listed.fits (1 + g) n i) in
          let is_p : numbered mid.segments n ≡ p = b.segments n ∙ still p g (subst (λ (v : Segment). v.role ≡ Current) (b.segments n) c.0) in
          a.inside n i ∙ (ap set_aside is_p ∙ sym (begun_here p g (subst (λ (v : Segment). v.role ≡ Current) is_p c.0) (subst (λ (v : Segment). v.generation ≡ g) is_p c.1)))
      | inr out ↦
          a.outside n (omega arith) ∙ (b.segments n ∙ sym (begun_same p g (λ c e.
          let same : begun g p ≡ p = ap (λ v. cond (is_current p.role && v) (set_aside p) p) (ap (λ v. nat_lt v g) e ∙ below_itself g) ∙ begun_zero (is_current p.role) p in
          let is_p : numbered mid.segments n ≡ p = b.segments n ∙ same in
          let l : list_of (numbered mid.segments n) ≡ 1 + g = ap list_of is_p ∙ (ap (λ r. list_for r p.generation) c ∙ ap (λ v. 1 + v) e) in
          let there : IsIn mid.lists (list_of (numbered mid.segments n)) n = listed_at mid.segments mid.lists n t.listed (in_use_linked mid.segments mid.lists n t.listed (λ z. omega arith)) in
          absurd (omega (arith, out, subst (λ v. IsIn mid.lists v n) l there)))))
    ]

closed_at : (old mid new : PoolView) (g k closed : ℕ) → AreBegun old mid g → length mid.areas ≡ 72 → AreClosed mid.areas new.areas g 8 closed → get_or new.areas k None ≡ cond (nat_lt (k % 9) (g + 1)) None (get_or old.areas k None)
closed_at old mid new g k closed b l c =
    elim (cases_eq (k % 9) g) [
      | inl e ↦
          let none : get_or new.areas k None ≡ None = elim (cases_lt k 72) [ inl h ↦ c.inside k e (omega arith) | inr far ↦ get_or_past new.areas k None (omega (arith, c.same)) ] in
          none ∙ sym (ap (λ v. cond v None (get_or old.areas k None)) (ap (λ v. nat_lt v (g + 1)) e ∙ below_here g))
      | inr ne ↦ c.outside k (inl ne) ∙ (b.areas k ∙ sym (ap (λ v. cond v None (get_or old.areas k None)) (below_more (k % 9) g ne)))
    ]

pub begun_more : (old mid new : PoolView) (g closed : ℕ) → IsSettled old → IsSettled mid → g < 9 → AreBegun old mid g → AreSetAside mid.segments new.segments (chain_of mid.lists (1 + g)) → new.lists ≡ spliced mid.lists (1 + g) (10 + g)
    → AreClosed mid.areas new.areas g 8 closed → new.dirty ≡ mid.dirty → AreBegun old new (g + 1)
begun_more old mid new g closed s t small b a is c d =
    let other : (l : ℕ) → l ≢ 1 + g → l ≢ 10 + g → chain_of new.lists l ≡ chain_of mid.lists l = λ l x y. ap (λ v. chain_of v l) is ∙ chain_of-spliced_other mid.lists (1 + g) (10 + g) l x y in
    record {
      same = a.same ∙ b.same;
      segments = λ n. begun_segment old mid new g n t small b a;
      areas_same = c.same ∙ b.areas_same;
      areas = λ k. closed_at old mid new g k closed b t.open_areas.count c;
      lists_same = ap length is ∙ (length-spliced mid.lists (1 + g) (10 + g) ∙ b.lists_same);
      free = other 0 (omega arith) (omega arith) ∙ b.free;
      current = λ h k. elim (cases_eq h g) [
        | inl e ↦ ap (λ v. chain_of new.lists (1 + v)) e ∙ (ap (λ v. chain_of v (1 + g)) is ∙ (chain_of-spliced_from mid.lists (1 + g) (10 + g) (omega (arith, t.listed.chains)) (omega arith)
            ∙ sym (ap (λ v. cond v [] (chain_of old.lists (1 + h))) (ap (λ v. nat_lt v (g + 1)) e ∙ below_here g))))
        | inr ne ↦ other (1 + h) (λ e. ne (omega arith)) (λ e. absurd (omega arith)) ∙ (b.current h k ∙ sym (ap (λ v. cond v [] (chain_of old.lists (1 + h))) (below_more h g ne)))
      ];
      from = λ h k. elim (cases_eq h g) [
        | inl e ↦
            let before : chain_of mid.lists (10 + g) ++ chain_of mid.lists (1 + g) ≡ chain_of old.lists (10 + g) ++ chain_of old.lists (1 + g) =
            ap (λ v. v ++ chain_of mid.lists (1 + g)) (b.from g small ∙ ap (λ v. cond v (chain_of old.lists (10 + g) ++ chain_of old.lists (1 + g)) (chain_of old.lists (10 + g))) (below_itself g))
            ∙ ap (λ v. chain_of old.lists (10 + g) ++ v) (b.current g small ∙ ap (λ v. cond v [] (chain_of old.lists (1 + g))) (below_itself g)) in
            ap (λ v. chain_of new.lists (10 + v)) e ∙ (ap (λ v. chain_of v (10 + g)) is ∙ (chain_of-spliced_to mid.lists (1 + g) (10 + g) (omega (arith, t.listed.chains)) ∙ (before
            ∙ (ap (λ v. chain_of old.lists (10 + v) ++ chain_of old.lists (1 + v)) (sym e)
            ∙ sym (ap (λ v. cond v (chain_of old.lists (10 + h) ++ chain_of old.lists (1 + h)) (chain_of old.lists (10 + h))) (ap (λ v. nat_lt v (g + 1)) e ∙ below_here g))))))
        | inr ne ↦ other (10 + h) (λ e. absurd (omega arith)) (λ e. ne (omega arith)) ∙ (b.from h k ∙ sym (ap (λ v. cond v (chain_of old.lists (10 + h) ++ chain_of old.lists (1 + h)) (chain_of old.lists (10 + h))) (below_more h g ne)))
      ];
      dirty = d ∙ b.dirty;
    }

-- ---- a pool without segments

no_number : (xs : List ℕ) → ((n : ℕ) → 0 < times n xs → ⊥) → xs ≡ []
no_number [] h = refl
no_number (x ∷ xs) h = absurd (h x (here_in x xs))

vacant_at : (p : PoolView) (n : ℕ) → length p.segments ≡ 0 → numbered p.segments n ≡ vacant
vacant_at p n none = get_or_past p.segments n vacant (omega arith)

-- no number stands in the list of a generation
list_without : (p : PoolView) (g : ℕ) → IsSettled p → length p.segments ≡ 0 → chain_of p.lists (1 + g) ≡ []
list_without p g t none = no_number (chain_of p.lists (1 + g)) (λ n i.
    let at : 0 ≡ 1 + g = sym (ap list_of (vacant_at p n none)) ∙ t.listed.fits (1 + g) n i in absurd (omega (arith, at)))

area_without : (p : PoolView) (k : ℕ) → IsSettled p → length p.segments ≡ 0 → get_or p.areas k None ≡ None
area_without p k t none =
    elim (cases_lt k 72) [
      | inl h ↦ (closed_none p (k % 9) t (list_without p (k % 9) t none)).inside k refl (omega arith)
      | inr far ↦ get_or_past p.areas k None (omega (arith, t.open_areas.count))
    ]

either : (A : Type 0) (b : Bool) (x y : A) → y ≡ x → y ≡ cond b x y
either A true x y e = e
either A false x y e = refl

-- so it is as it would be after any generations were set aside
begun_without : (p : PoolView) (end : ℕ) → IsSettled p → length p.segments ≡ 0 → AreBegun p p end
begun_without p end t none = record {
  same = refl;
  segments = λ n. subst (λ v. v ≡ begun end v) (sym (vacant_at p n none)) refl;
  areas_same = refl;
  areas = λ k. either (Option ℕ) (nat_lt (k % 9) end) None (get_or p.areas k None) (area_without p k t none);
  lists_same = refl;
  free = refl;
  current = λ g h. either (List ℕ) (nat_lt g end) [] (chain_of p.lists (1 + g)) (list_without p g t none);
  from = λ g h. either (List ℕ) (nat_lt g end) (chain_of p.lists (10 + g) ++ chain_of p.lists (1 + g)) (chain_of p.lists (10 + g))
      (sym (ap (λ v. chain_of p.lists (10 + g) ++ v) (list_without p g t none) ∙ append-nil (chain_of p.lists (10 + g))));
  dirty = refl;
}

pub begun_empty : (p now : PoolView) (n end : ℕ) (b : Bool) → p ≡ now → IsSettled now → length p.segments ≡ n → b ≡ (n == 0) → b ≡ true → AreBegun now now end
begun_empty p now n end b e t len is holds =
    let zero : n ≡ 0 = (let test : (n == 0) ≡ true = sym is ∙ holds in grind (arith, nat_tests, test)) in
    begun_without now end t (sym (ap (λ (q : PoolView). length q.segments) e) ∙ (len ∙ zero))
