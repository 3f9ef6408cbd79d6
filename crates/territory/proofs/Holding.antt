-- Starts are held at their place.
use Rattle.std.proofs.Common.{◌≡◌, ◌≢◌, ℕ, ◌+◌, ◌/◌, ◌<◌, Bool, true, false, cond, eqb, ◌&&◌, ◌||◌, List, [], ◌∷◌, ◌++◌, length, get_or, set, take, All, refl, sym, ◌∙◌, ap, subst, arith, inl, inr, get_or-set_same, get_or-set_other}
use Rattle.std.proofs.lemmas.Bool.{cases_eq, cases_lt}
use Rattle.std.proofs.lemmas.Bool.Decides.{nat_tests}
use Rattle.std.proofs.lemmas.List.{length-set, get_or_read, get_or_past, take_more}
use Rattle.std.proofs.lemmas.List.Elements.{All-get_or}
use Rattle.std.proofs.lemmas.List.Folds.{list_any-append}
use Rattle.std.specs.List.{list_any}
use Rattle.gc_words.specs.Layout.{segment_of, offset_of}
use Rattle.segment.specs.declared.segment.Role.TheVariants.{From}
use Rattle.segment.specs.Segments.{Segment, IsSound, IsStart, is_free, spot, held_at, vacant}
use Rattle.segment.proofs.Collected.{IsSound-held}
use Rattle.territory.specs.Pools.{PoolView, IsOpenFor, IsSettled, numbered, list_of, used_words, is_held, cells_in, shows_dirty}
use Rattle.territory.specs.FinishedPools.{IsHoldable, is_place, AreHeld}
use Rattle.territory.proofs.Numbers.{numbered-set_same, numbered-set_other, used_within, each_set}
use Rattle.territory.proofs.Beginning.{sum_kept}

or_true : (x y : Bool) → (x || (y || true)) ≡ true
or_true true y = refl
or_true false true = refl
or_true false false = refl

or_false : (x y : Bool) → (x || (y || false)) ≡ (x || y)
or_false true y = refl
or_false false true = refl
or_false false false = refl

-- one more address
any_more : (p : ℕ → Bool) (xs : List ℕ) (i a : ℕ) → i < length xs → a ≡ get_or xs i a → list_any p (take (i + 1) xs) ≡ (list_any p (take i xs) || p a)
any_more p xs i a h e =
    let last : (p a || false) ≡ p a = elim (p a) as (λ b. (b || false) ≡ b) [ true ↦ refl | false ↦ refl ] in
    ap (list_any p) (take_more xs i a h ∙ ap (λ v. take i xs ++ v ∷ []) (sym e)) ∙ (list_any-append p (take i xs) (a ∷ []) ∙ ap (λ b. list_any p (take i xs) || b) last)

here_place : (a : ℕ) → is_place (segment_of a) (offset_of a / 2) a ≡ true
here_place a =
    let s : eqb (segment_of a) (segment_of a) ≡ true = grind (arith, nat_tests) in
    let o : eqb (offset_of a / 2) (offset_of a / 2) ≡ true = grind (arith, nat_tests) in
    ap (λ b. b && eqb (offset_of a / 2) (offset_of a / 2)) s ∙ o

other_segment : (n k a : ℕ) → n ≢ segment_of a → is_place n k a ≡ false
other_segment n k a ne =
    let s : eqb (segment_of a) n ≡ false = (let ne' : segment_of a ≢ n = λ e. ne (sym e) in grind (arith, nat_tests, ne')) in
    ap (λ b. b && eqb (offset_of a / 2) k) s

other_start : (n k a : ℕ) → k ≢ offset_of a / 2 → is_place n k a ≡ false
other_start n k a ne =
    let o : eqb (offset_of a / 2) k ≡ false = (let ne' : offset_of a / 2 ≢ k = λ e. ne (sym e) in grind (arith, nat_tests, ne')) in
    elim (eqb (segment_of a) n) as (λ b. (b && eqb (offset_of a / 2) k) ≡ false) [ true ↦ o | false ↦ refl ]

-- the segment that is read, where something is to be held in it
pub record IsHeldHere (old now : List Segment) (a : ℕ) (q : Segment) : Type 0 where
  pub within : segment_of a < length now
  pub is : q ≡ numbered now (segment_of a)
  pub aside : q.role ≡ From
  pub start : IsStart q (offset_of a / 2)

pub held_here : (old now : List Segment) (held : List ℕ) (i a n : ℕ) (q : Segment) → AreHeld old now (take i held) → All (IsHoldable old) held → i < length held → a ≡ get_or held i a → n ≡ segment_of a → q ≡ get_or now n q → IsHeldHere old now a q
held_here old now held i a n q h all b e en read =
    let can : IsHoldable old a = subst (IsHoldable old) (sym e) (All-get_or (IsHoldable old) held i a b all) in
    let parts : numbered now (segment_of a) ≡ record (numbered old (segment_of a)) { marks = (numbered now (segment_of a)).marks } = h.parts (segment_of a) in
    let role : (numbered now (segment_of a)).role ≡ From = ap (λ (v : Segment). v.role) parts ∙ can.aside in
    let within : segment_of a < length now = used_within now (segment_of a) (ap is_free role) in
    let is : q ≡ numbered now (segment_of a) = get_or_read now (segment_of a) q within (read ∙ ap (λ v. get_or now v q) en) vacant in
    let whole : q ≡ record (numbered old (segment_of a)) { marks = (numbered now (segment_of a)).marks } = is ∙ parts in
    record {
      within = within;
      is = is;
      aside = ap (λ (v : Segment). v.role) is ∙ role;
      start = (ap (λ (v : Segment). is_free v.role) whole ∙ can.start.0, λ z. can.start.1 (ap (λ (v : Segment). get_or v.births (offset_of a / 2) 0) (sym whole) ∙ z));
    }

pub held_within : (old now : List Segment) (held : List ℕ) (i a n : ℕ) → AreHeld old now (take i held) → All (IsHoldable old) held → i < length held → a ≡ get_or held i a → n ≡ segment_of a → n < length now
held_within old now held i a n h all b e en =
    let can : IsHoldable old a = subst (IsHoldable old) (sym e) (All-get_or (IsHoldable old) held i a b all) in
    subst (λ v. v < length now) (sym en) (used_within now (segment_of a) (ap (λ (v : Segment). is_free v.role) (h.parts (segment_of a)) ∙ ap is_free can.aside))

pub held_more : (old now : List Segment) (held : List ℕ) (i a n k : ℕ) (q q' : Segment) → AreHeld old now (take i held) → IsHeldHere old now a q → ((m : ℕ) → IsSound (numbered now m)) → i < length held → a ≡ get_or held i a → n ≡ segment_of a → k ≡ offset_of a → q' ≡ held_at q (k / 2) → AreHeld old (set now n q') (take (i + 1) held)
held_more old now held i a n k q q' h here sound b e en ek is =
    let s : ℕ = segment_of a in
    let start : ℕ = offset_of a / 2 in
    let p : Segment = numbered now s in
    let is' : q' ≡ held_at p start = is ∙ (ap (λ v. held_at q (v / 2)) ek ∙ ap (λ v. held_at v start) here.is) in
    let new : List Segment = set now s q' in
    let at : numbered new s ≡ held_at p start = numbered-set_same now s q' here.within ∙ is' in
    let born : start < length p.births = elim (cases_lt start (length p.births)) [ inl y ↦ y | inr far ↦ absurd (here.start.1 (ap (λ (v : Segment). get_or v.births start 0) here.is ∙ get_or_past p.births start 0 far)) ] in
    let place : start < length p.marks = omega (arith, (sound s).marks) in
    let more : (m j : ℕ) → list_any (is_place m j) (take (i + 1) held) ≡ (list_any (is_place m j) (take i held) || is_place m j a) = λ m j. any_more (is_place m j) held i a b e in
    subst (λ v. AreHeld old (set now v q') (take (i + 1) held)) (sym en) (record {
      same = length-set now s q' ∙ h.same;
      parts = λ m. elim (cases_eq m s) [
        | inl same ↦ subst (λ v. numbered new v ≡ record (numbered old v) { marks = (numbered new v).marks }) (sym same)
            (at ∙ (ap (λ (v : Segment). held_at v start) (h.parts s) ∙ ap (λ (v : Segment). record (numbered old s) { marks = v.marks }) (sym at)))
        | inr other ↦ let o : numbered new m ≡ numbered now m = numbered-set_other now s m q' other in o ∙ (h.parts m ∙ ap (λ (v : Segment). record (numbered old m) { marks = v.marks }) (sym o))
      ];
      marks = λ m j. elim (cases_eq m s) [
        | inl same ↦ subst (λ v. get_or (numbered new v).marks j false ≡ (get_or (numbered old v).marks j false || list_any (is_place v j) (take (i + 1) held))) (sym same)
            (ap (λ (v : Segment). get_or v.marks j false) at ∙ elim (cases_eq j start) [
              | inl here_j ↦ subst (λ v. get_or (set p.marks start true) v false ≡ (get_or (numbered old s).marks v false || list_any (is_place s v) (take (i + 1) held))) (sym here_j)
                  (get_or-set_same p.marks start true false place ∙ sym (ap (λ v. get_or (numbered old s).marks start false || v) (more s start ∙ ap (λ v. list_any (is_place s start) (take i held) || v) (here_place a)) ∙ or_true (get_or (numbered old s).marks start false) (list_any (is_place s start) (take i held))))
              | inr other_j ↦ get_or-set_other p.marks start j true false other_j ∙ (h.marks s j ∙ sym (ap (λ v. get_or (numbered old s).marks j false || v) (more s j ∙ ap (λ v. list_any (is_place s j) (take i held) || v) (other_start s j a other_j)) ∙ or_false (get_or (numbered old s).marks j false) (list_any (is_place s j) (take i held))))
            ])
        | inr other ↦ ap (λ (v : Segment). get_or v.marks j false) (numbered-set_other now s m q' other) ∙ (h.marks m j ∙ sym (ap (λ v. get_or (numbered old m).marks j false || v) (more m j ∙ ap (λ v. list_any (is_place m j) (take i held) || v) (other_segment m j a other)) ∙ or_false (get_or (numbered old m).marks j false) (list_any (is_place m j) (take i held))))
      ];
    })

pub held_sound : (old now : List Segment) (a n k : ℕ) (q q' : Segment) → IsHeldHere old now a q → ((m : ℕ) → IsSound (numbered now m)) → q' ≡ held_at q k → (m : ℕ) → IsSound (numbered (set now n q') m)
held_sound old now a n k q q' here sound is = each_set IsSound now n q' sound (subst IsSound (sym is) (IsSound-held q k (subst IsSound (sym here.is) (sound (segment_of a))) here.aside))

pub held_none : (segments : List Segment) → AreHeld segments segments []
held_none segments = record { same = refl; parts = λ n. refl; marks = λ n k. elim (get_or (numbered segments n).marks k false) as (λ b. b ≡ (b || false)) [ true ↦ refl | false ↦ refl ] }

-- the pool stays settled
pub settled_held : (p now : PoolView) (segments : List Segment) (held : List ℕ) → p ≡ now → IsSettled now → AreHeld p.segments segments held → ((n : ℕ) → IsSound (numbered segments n)) → IsSettled (record p { segments = segments })
settled_held p now segments held e done h sound =
    let t : IsSettled p = subst IsSettled (sym e) done in
    record {
      count = omega (arith, h.same, t.count);
      sound = sound;
      generations = λ n. subst (λ v. v < 9) (sym (ap (λ (v : Segment). v.generation) (h.parts n))) (t.generations n);
      lengths = λ n k x s. t.lengths n k x (sym (ap (λ v. spot v k) (h.parts n)) ∙ s);
      listed = record {
        chains = t.listed.chains;
        known = omega (arith, h.same, t.listed.known);
        each_once = t.listed.each_once;
        fits = λ c n i. ap list_of (h.parts n) ∙ t.listed.fits c n i;
        unlisted = λ n b. ap list_of (h.parts n) ∙ t.listed.unlisted n b;
      };
      open_areas = record {
        count = t.open_areas.count;
        fits = λ k n i. let o : IsOpenFor (numbered p.segments n) k = t.open_areas.fits k n i in subst (λ v. IsOpenFor v k) (sym (h.parts n)) (record { current = o.current; space_is = o.space_is; generation_is = o.generation_is; never_held = o.never_held });
      };
      dirty = record {
        chains = t.dirty.chains;
        known = omega (arith, h.same, t.dirty.known);
        each_once = t.dirty.each_once;
        shown = λ n i. ap shows_dirty (h.parts n) ∙ t.dirty.shown n i;
        listed = λ n i. t.dirty.listed n (sym (ap shows_dirty (h.parts n)) ∙ i);
      };
      counted = record {
        words = t.counted.words ∙ sym (sum_kept used_words p.segments segments h.same (λ n. ap used_words (h.parts n)));
        open_areas = t.counted.open_areas;
        held = t.counted.held ∙ sym (sum_kept (λ v. cond (is_held v) 1 0) p.segments segments h.same (λ n. ap (λ v. cond (is_held v) 1 0) (h.parts n)));
        cells = t.counted.cells ∙ sym (sum_kept cells_in p.segments segments h.same (λ n. ap cells_in (h.parts n)));
      };
    }
