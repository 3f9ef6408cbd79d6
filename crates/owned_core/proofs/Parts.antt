-- What a sweeper does to its part is done to the whole.
use Rattle.std.proofs.Common.{◌≡◌, ℕ, Bool, true, false, not, ◌||◌, ◌&&◌, ◌==◌, ◌⊎◌, List, [], ◌∷◌, ◌++◌, map, filter, cond, Contains, IsTrue, refl, sym, ap, subst, ◌∙◌, inl, inr, Option, None, Some}
use Rattle.std.specs.List.{list_any, list_all}
use Rattle.std.proofs.lemmas.Bool.{or_cases, or_right, or_left, and_from, eqb-true, eq-eqb, cases_Bool, cases_eq, both_ways, not-true, false≢true, not_from_false, false_from_ne_true, or_parts}
use Rattle.std.proofs.lemmas.List.Folds.{list_any-append}
use Rattle.std.proofs.lemmas.List.Elements.{Contains-append_left, Contains-append_right, Contains-append_cases, Contains-push_cases, filter-append}
use Rattle.trace_types.specs.Rules.{has}
use Rattle.owned_core.specs.Events.{Adds, Answer, Becomes, Deliver, Event, Fix, Forward, Learn, Sweep, after_answer, after_fix, after_learning, forwarded, is_heard_keep, is_place_for, may_answer, may_fix, may_forward, may_learn, moved, swept}
use Rattle.owned_core.specs.Invariants.{Invariant}
use Rattle.owned_core.specs.Owned.{Entry, State, begun, in_list, is_due, is_fixed_watch, is_listed, is_met, is_opened, is_swept, is_taken, is_there}
use Rattle.owned_core.specs.Parts.{BecomesHere, HoldsWell, InTerritory, IsPart, Makes, MayForwardHere, Part, ReachesHere, SamePart, Together, alone, is_with_holder, lies_at, moved_here, swept_here, with_news}
use Rattle.owned_core.specs.Settings.{HasPlaces, Setting, all_dues, is_collected}
use Rattle.owned_core.specs.Slots.{Answered, Asked, Due, Fixed, Heard, Slot, Stage, Standing, Told, is_asked, is_fixed, is_heard, is_keep, is_told_at, same_slot}
use Rattle.owned_core.proofs.Adding.{there_more}
use Rattle.owned_core.proofs.Holding.{at_stage, chosen, moved_there, step_holds, there_moved}
use Rattle.owned_core.proofs.Lists.{all_at, all_each, any_some, filter_some, map_some, not_all, some_any, some_filter, some_map}
use Rattle.owned_core.proofs.Resting.{same_tests}
use Rattle.owned_core.proofs.SameSlots.{and_l, and_r, same_slot_holder, same_slot_itself, same_slot_target, slot_is}

-- ---- the part and the whole

-- each entry is in the list of its object's owner
abbrev pub HasOwners : Setting → State → Type 0
HasOwners w s = (e : Entry) → Contains s.own e → w.owner e.object ≡ e.sweeper

pub owners : (w : Setting) (s : State) → Invariant w s → HasOwners w s
owners w s i e c = eqb-true (w.owner e.object) e.sweeper (and_r _ _ (and_l _ _ (i.entries e c)))

fixed_with_holder : (g : Stage) → IsTrue (is_fixed g) → is_with_holder g ≡ true
fixed_with_holder Asked h = absurd (false≢true h)
fixed_with_holder Heard h = absurd (false≢true h)
fixed_with_holder (Answered p) h = absurd (false≢true h)
fixed_with_holder (Told p) h = absurd (false≢true h)
fixed_with_holder (Fixed p) h = refl

pub lies_with_holder : (w : Setting) (t : Standing) → is_with_holder t.stage ≡ true → lies_at w t ≡ t.slot.holder
lies_with_holder w t h = ap (λ b. cond b t.slot.holder (w.owner t.slot.target)) h

pub lies_with_owner : (w : Setting) (t : Standing) → is_with_holder t.stage ≡ false → lies_at w t ≡ w.owner t.slot.target
lies_with_owner w t h = ap (λ b. cond b t.slot.holder (w.owner t.slot.target)) h

module _ (w : Setting) (k : ℕ) (s : State) (p : Part) (i : IsPart w k s p) where
  own_down : (e : Entry) → Contains p.own e → Contains s.own e × (e.sweeper ≡ k)
  own_down e c =
      let f = filter_some (λ (e : Entry). e.sweeper == k) s.own e (subst (λ l. Contains l e) (sym i.own) c) in
      (f.0, eqb-true e.sweeper k f.1)

  own_up : (e : Entry) → Contains s.own e → e.sweeper ≡ k → Contains p.own e
  own_up e c is = subst (λ l. Contains l e) i.own (some_filter (λ (e : Entry). e.sweeper == k) s.own e c (eq-eqb e.sweeper k is))

  listed_same : (x q : ℕ) → is_listed s k x q ≡ is_listed (alone p) k x q
  listed_same x q = same_tests (is_listed s k x q) (is_listed (alone p) k x q)
      (λ h. let r = any_some test s.own h in some_any test p.own r.0 (own_up r.0 r.1 (eqb-true r.0.sweeper k (and_l _ _ (and_l _ _ r.2)))) r.2)
      (λ h. let r = any_some test p.own h in some_any test s.own r.0 (own_down r.0 r.1).0 r.2)
    where
      test : Entry → Bool
      test e = e.sweeper == k && e.object == x && e.place == q

  pub in_list_down : (x : ℕ) → IsTrue (in_list (alone p) x) → IsTrue (in_list s x)
  in_list_down x h = let r = any_some (λ (e : Entry). e.object == x) p.own h in some_any (λ (e : Entry). e.object == x) s.own r.0 (own_down r.0 r.1).0 r.2

  module _ (have : HasOwners w s) where
    pub in_list_up : (x : ℕ) → w.owner x ≡ k → IsTrue (in_list s x) → IsTrue (in_list (alone p) x)
    in_list_up x is h =
        let r = any_some (λ (e : Entry). e.object == x) s.own h in
        some_any (λ (e : Entry). e.object == x) p.own r.0
        (own_up r.0 r.1 (sym (have r.0 r.1) ∙ ap w.owner (eqb-true r.0.object x r.2) ∙ is)) r.2

    swept_up : (x : ℕ) → w.owner x ≡ k → IsTrue (is_swept (alone p) x) → IsTrue (is_swept s x)
    swept_up x is h = and_from (in_list s x) (not (has s.unswept x)) (in_list_down x (and_l _ _ h)) (subst (λ b. IsTrue (not b)) (sym (i.unswept x is)) (and_r _ _ h))

    swept_down : (x : ℕ) → w.owner x ≡ k → IsTrue (is_swept s x) → IsTrue (is_swept (alone p) x)
    swept_down x is h = and_from (in_list (alone p) x) (not (has p.unswept x)) (in_list_up x is (and_l _ _ h)) (subst (λ b. IsTrue (not b)) (i.unswept x is) (and_r _ _ h))

    opened_up : (m : Option ℕ) → ((x : ℕ) → m ≡ Some x → w.owner x ≡ k) → IsTrue (is_opened w (alone p) m) → IsTrue (is_opened w s m)
    opened_up None f h = refl
    opened_up (Some x) f h = elim (or_cases (has w.older x) (is_swept (alone p) x) h) [
      | inl e ↦ or_left (has w.older x) (is_swept s x) e
      | inr e ↦ or_right (has w.older x) (is_swept s x) (swept_up x (f x refl) e)
    ]

    opened_down : (m : Option ℕ) → ((x : ℕ) → m ≡ Some x → w.owner x ≡ k) → IsTrue (is_opened w s m) → IsTrue (is_opened w (alone p) m)
    opened_down None f h = refl
    opened_down (Some x) f h = elim (or_cases (has w.older x) (is_swept s x) h) [
      | inl e ↦ or_left (has w.older x) (is_swept (alone p) x) e
      | inr e ↦ or_right (has w.older x) (is_swept (alone p) x) (swept_down x (f x refl) e)
    ]

    met_up : (a : Slot) → IsTrue (is_met w (alone p) a) → IsTrue (is_met w s a)
    met_up a h = elim (or_cases (has w.older a.target) (list_any (is_fixed_watch a) p.here) h) [
      | inl e ↦ or_left (has w.older a.target) (list_any (is_fixed_watch a) s.slots) e
      | inr e ↦
          let r = any_some (is_fixed_watch a) p.here e in
          or_right (has w.older a.target) (list_any (is_fixed_watch a) s.slots) (some_any (is_fixed_watch a) s.slots r.0 (i.here r.0 r.1).0 r.2)
    ]

    met_down : (a : Slot) → a.holder ≡ k → IsTrue (is_met w s a) → IsTrue (is_met w (alone p) a)
    met_down a is h = elim (or_cases (has w.older a.target) (list_any (is_fixed_watch a) s.slots) h) [
      | inl e ↦ or_left (has w.older a.target) (list_any (is_fixed_watch a) p.here) e
      | inr e ↦
          let r = any_some (is_fixed_watch a) s.slots e in
          or_right (has w.older a.target) (list_any (is_fixed_watch a) p.here) (some_any (is_fixed_watch a) p.here r.0 (i.whole r.0 r.1 (lies r.0 r.2)) r.2)
    ]
      where
        lies : (t : Standing) → IsTrue (is_fixed_watch a t) → lies_at w t ≡ k
        lies t h =
            let same : IsTrue (same_slot t.slot a) = and_l (same_slot t.slot a) (not (is_keep t.slot.want)) (and_l _ (is_fixed t.stage) h) in
            lies_with_holder w t (fixed_with_holder t.stage (and_r (same_slot t.slot a && not (is_keep t.slot.want)) (is_fixed t.stage) h)) ∙ same_slot_holder t.slot a same ∙ is

    module _ (well : HoldsWell w) (d : Due) (c : Contains (all_dues w) d) (mine : d.slot.holder ≡ k) where
      pub due_up : IsTrue (is_due w (alone p) d) → IsTrue (is_due w s d)
      due_up h = and_from (is_collected w d.slot.target && is_opened w s d.member) (list_all (is_met w s) d.watched)
          (and_from (is_collected w d.slot.target) (is_opened w s d.member) (and_l _ _ (and_l _ _ h))
          (opened_up d.member (λ x e. well.member d c x e ∙ mine) (and_r (is_collected w d.slot.target) (is_opened w (alone p) d.member) (and_l _ _ h))))
          (all_each (is_met w s) d.watched (λ a in_d. met_up a (all_at (is_met w (alone p)) d.watched (and_r _ _ h) a in_d)))

      pub due_down : IsTrue (is_due w s d) → IsTrue (is_due w (alone p) d)
      due_down h = and_from (is_collected w d.slot.target && is_opened w (alone p) d.member) (list_all (is_met w (alone p)) d.watched)
          (and_from (is_collected w d.slot.target) (is_opened w (alone p) d.member) (and_l _ _ (and_l _ _ h))
          (opened_down d.member (λ x e. well.member d c x e ∙ mine) (and_r (is_collected w d.slot.target) (is_opened w s d.member) (and_l _ _ h))))
          (all_each (is_met w (alone p)) d.watched (λ a in_d. met_down a (well.watched d c a in_d ∙ mine) (all_at (is_met w s) d.watched (and_r _ _ h) a in_d)))

-- ---- slots that go to a stage

stays_at : (to : Standing → Stage) (t : Standing) → to t ≡ t.stage → at_stage to t ≡ t
stays_at to t e = ap {B = Standing} (λ g. record { slot = t.slot; stage = g }) e

module _ (w : Setting) (k : ℕ) (s : State) (to here : Standing → Stage)
    (kept_here : (t : Standing) → lies_at w t ≡ k → lies_at w (at_stage to t) ≡ k)
    (left_there : (t : Standing) → (lies_at w t ≡ k → ⊥) → to t ≡ t.stage) where
  moved_part : (p : Part) → IsPart w k s p → ((t : Standing) → Contains p.here t → to t ≡ here t) → IsPart w k (moved s to) (moved_here p here)
  moved_part p i alike = record {
    own = i.own;
    unswept = i.unswept;
    here = λ u c.
        let r = map_some (at_stage here) p.here u c in
        let old = i.here r.0 r.1 in
        let same : at_stage to r.0 ≡ u = ap {B = Standing} (λ g. record { slot = r.0.slot; stage = g }) (alike r.0 r.1) ∙ r.2 in
        (subst (λ z. Contains (map (at_stage to) s.slots) z) same (some_map (at_stage to) s.slots r.0 old.0), subst (λ z. lies_at w z ≡ k) same (kept_here r.0 old.1));
    whole = λ u c lies.
        let r = map_some (at_stage to) s.slots u c in
        elim (cases_eq (lies_at w r.0) k) [
          | inl is ↦
              let in_part = i.whole r.0 r.1 is in
              let same : at_stage here r.0 ≡ u = ap {B = Standing} (λ g. record { slot = r.0.slot; stage = g }) (sym (alike r.0 in_part)) ∙ r.2 in
              subst (λ z. Contains (map (at_stage here) p.here) z) same (some_map (at_stage here) p.here r.0 in_part)
          | inr no_so ↦ absurd (no_so (ap (lies_at w) (sym (stays_at to r.0 (left_there r.0 no_so))) ∙ ap (lies_at w) r.2 ∙ lies))
        ];
    made = λ a c. there_moved w s to a (i.made a c);
  }

  moved_other : (j : ℕ) (o : Part) → (j ≡ k → ⊥) → IsPart w j s o → IsPart w j (moved s to) o
  moved_other j o apart i = record {
    own = i.own;
    unswept = i.unswept;
    here = λ u c.
        let old = i.here u c in
        let same = stays_at to u (left_there u (λ is. apart (sym old.1 ∙ is))) in
        (subst (λ z. Contains (map (at_stage to) s.slots) z) same (some_map (at_stage to) s.slots u old.0), old.1);
    whole = λ u c lies.
        let r = map_some (at_stage to) s.slots u c in
        elim (cases_eq (lies_at w r.0) k) [
          | inl is ↦ absurd (apart (sym lies ∙ ap (lies_at w) (sym r.2) ∙ kept_here r.0 is))
          | inr no_so ↦
              let same = sym (stays_at to r.0 (left_there r.0 no_so)) ∙ r.2 in
              subst (λ z. Contains o.here z) same (i.whole r.0 r.1 (ap (lies_at w) same ∙ lies))
        ];
    made = λ a c. there_moved w s to a (i.made a c);
  }

-- ---- new slots

pub there_left : (ts news : List Standing) (a : Slot) → IsTrue (is_there ts a) → IsTrue (is_there (ts ++ news) a)
there_left ts news = there_more ts (ts ++ news) (λ t c. Contains-append_left ts news t c)

pub there_new : (ts news : List Standing) (a : Slot) → Contains (map (λ (t : Standing). t.slot) news) a → IsTrue (is_there (ts ++ news) a)
there_new ts news a c =
    let r = map_some (λ (t : Standing). t.slot) news a c in
    some_any (λ (t : Standing). same_slot t.slot a) (ts ++ news) r.0 (Contains-append_right ts news r.0 r.1) (subst (λ z. IsTrue (same_slot r.0.slot z)) r.2 (same_slot_itself r.0.slot))

module _ (w : Setting) (k : ℕ) (s : State) (news : List Standing) (lie : (t : Standing) → Contains news t → lies_at w t ≡ k) where
  pub news_part : (p : Part) → IsPart w k s p → IsPart w k (record s { slots = s.slots ++ news }) (with_news p news)
  news_part p i = record {
    own = i.own;
    unswept = i.unswept;
    here = λ t c. elim (Contains-append_cases p.here news t c) [
      | inl old ↦ (Contains-append_left s.slots news t (i.here t old).0, (i.here t old).1)
      | inr new ↦ (Contains-append_right s.slots news t new, lie t new)
    ];
    whole = λ t c lies. elim (Contains-append_cases s.slots news t c) [
      | inl old ↦ Contains-append_left p.here news t (i.whole t old lies)
      | inr new ↦ Contains-append_right p.here news t new
    ];
    made = λ a c. elim (Contains-append_cases p.made (map (λ (t : Standing). t.slot) news) a c) [
      | inl old ↦ there_left s.slots news a (i.made a old)
      | inr new ↦ there_new s.slots news a new
    ];
  }

  pub news_other : (j : ℕ) (o : Part) → (j ≡ k → ⊥) → IsPart w j s o → IsPart w j (record s { slots = s.slots ++ news }) o
  news_other j o apart i = record {
    own = i.own;
    unswept = i.unswept;
    here = λ t c. (Contains-append_left s.slots news t (i.here t c).0, (i.here t c).1);
    whole = λ t c lies. elim (Contains-append_cases s.slots news t c) [
      | inl old ↦ i.whole t old lies
      | inr new ↦ absurd (apart (sym lies ∙ lie t new))
    ];
    made = λ a c. there_left s.slots news a (i.made a c);
  }

pub begun_lies : (w : Setting) (a : Slot) → lies_at w (begun w a) ≡ a.holder
begun_lies w a = chosen (w.owner a.target == a.holder) Heard Asked (λ g. cond (is_with_holder g) a.holder (w.owner a.target) ≡ a.holder) (λ e. eqb-true (w.owner a.target) a.holder e) refl

abbrev in_all : (w : Setting) (d : Due) → Contains w.dues d → Contains (all_dues w) d
in_all w d c = Contains-append_right w.past w.dues d c

makes_lie : (w : Setting) (k : ℕ) {before p : Part} {news : List Standing} → Makes w k before p news → (t : Standing) → Contains news t → lies_at w t ≡ k
makes_lie w k h t c = let r = h.sound t c in ap (lies_at w) (sym r.2) ∙ begun_lies w r.0.slot ∙ r.3

-- what the sweeper made is what is due in the whole, and was not there
makes_adds : (w : Setting) (k : ℕ) (s u : State) (before p : Part) (news : List Standing)
    → HoldsWell w → Invariant w s → IsPart w k s before → HasOwners w u → IsPart w k u p
    → ((a : Slot) → IsTrue (is_there s.slots a) → IsTrue (is_there u.slots a))
    → ((a : Slot) → IsTrue (is_there u.slots a) → IsTrue (is_there s.slots a))
    → ((d : Due) → Contains w.dues d → IsTrue (is_due w u d) → is_due w s d ≡ false → d.slot.holder ≡ k)
    → Makes w k before p news → Adds w u (u.slots ++ news)
makes_adds w k s u before p news well inv was have i more less newly h = record {
  stays = λ t c. Contains-append_left u.slots news t c;
  comes = λ t c. elim (Contains-append_cases u.slots news t c) [
    | inl old ↦ inl old
    | inr new ↦ let r = h.sound t new in inr (r.0, r.1, due_up w k u p i have well r.0 (in_all w r.0 r.1) r.3 r.4, r.2, absent t new r.0 r.2 r.3)
  ];
  all = λ d c is. elim (cases_Bool (is_due w s d)) [
    | inl old ↦ there_left u.slots news d.slot (more d.slot (inv.due d c old))
    | inr new ↦
        let mine = newly d c is new in
        let old_here = false_from_ne_true (is_due w (alone before) d) (λ e. both_ways (is_due w s d) new (due_up w k s before was (owners w s inv) well d (in_all w d c) mine e)) in
        elim (Contains-append_cases p.made (map (λ (t : Standing). t.slot) news) d.slot (h.complete d c mine old_here (due_down w k u p i have well d (in_all w d c) mine is))) [
          | inl made ↦ there_left u.slots news d.slot (i.made d.slot made)
          | inr made ↦ there_new u.slots news d.slot made
        ]
  ];
}
  where
    absent : (t : Standing) → Contains news t → (d : Due) → begun w d.slot ≡ t → d.slot.holder ≡ k → is_there u.slots d.slot ≡ false
    absent t new d is mine = false_from_ne_true (is_there u.slots d.slot) (λ there.
        let r = any_some (λ (z : Standing). same_slot z.slot d.slot) s.slots (less d.slot there) in
        let o = inv.was_due r.0 r.1 in
        let same : o.of.slot ≡ d.slot = o.slot ∙ slot_is r.0.slot d.slot r.2 in
        both_ways (is_due w (alone before) o.of) (h.new t new o.of o.known (same ∙ ap (λ (z : Standing). z.slot) is))
        (due_down w k s before was (owners w s inv) well o.of o.known (ap (λ (z : Slot). z.holder) same ∙ mine) o.met))

-- ---- one event

-- the whole after an event of sweeper k that made q of its part
record One (w : Setting) (k : ℕ) (s : State) (e : Event) (q : Part) : Type 0 where
  after : State
  becomes : Becomes w s e after
  territory : InTerritory w after
  part : IsPart w k after q
  others : (j : ℕ) (o : Part) → (j ≡ k → ⊥) → IsPart w j s o → IsPart w j after o

pub has_filter : (x : ℕ) (us : List ℕ) (y : ℕ) → has (filter (λ z. not (z == x)) us) y ≡ (has us y && not (y == x))
has_filter x us y = same_tests (has (filter (λ z. not (z == x)) us) y) (has us y && not (y == x))
    (λ h.
    let r = any_some (λ z. z == y) (filter (λ z. not (z == x)) us) h in
    let f = filter_some (λ z. not (z == x)) us r.0 r.1 in
    and_from (has us y) (not (y == x)) (some_any (λ z. z == y) us r.0 f.0 r.2) (subst (λ z. IsTrue (not (z == x))) (eqb-true r.0 y r.2) f.1))
    (λ h.
    let r = any_some (λ z. z == y) us (and_l _ _ h) in
    some_any (λ z. z == y) (filter (λ z. not (z == x)) us) r.0
    (some_filter (λ z. not (z == x)) us r.0 r.1 (subst (λ z. IsTrue (not (z == x))) (sym (eqb-true r.0 y r.2)) (and_r _ _ h))) r.2)

pub true_and : (b : Bool) → (b && true) ≡ b
true_and true = refl
true_and false = refl

or_false : (b : Bool) → (b || false) ≡ b
or_false true = refl
or_false false = refl

module _ (w : Setting) (well : HoldsWell w) (k : ℕ) (s : State) (p : Part) (inv : Invariant w s) (in_territory : InTerritory w s) (i : IsPart w k s p) where
  -- ---- swept

  swept_part : (x : ℕ) → IsPart w k (swept s x) (swept_here p x)
  swept_part x = record {
    own = i.own;
    unswept = λ y is. has_filter x s.unswept y ∙ ap (λ b. b && not (y == x)) (i.unswept y is) ∙ sym (has_filter x p.unswept y);
    here = i.here;
    whole = i.whole;
    made = i.made;
  }

  swept_other : (x : ℕ) → w.owner x ≡ k → (j : ℕ) (o : Part) → (j ≡ k → ⊥) → IsPart w j s o → IsPart w j (swept s x) o
  swept_other x is j o apart of = record {
    own = of.own;
    unswept = λ y mine.
        has_filter x s.unswept y
        ∙ ap (λ b. has s.unswept y && not b) (false_from_ne_true (y == x) (λ e. apart (sym mine ∙ ap w.owner (eqb-true y x e) ∙ is)))
        ∙ true_and (has s.unswept y) ∙ of.unswept y mine;
    here = of.here;
    whole = of.whole;
    made = of.made;
  }

  -- what is due only since x was swept has x for its member
  opened_newly : (x : ℕ) (m : Option ℕ) → IsTrue (is_opened w (swept s x) m) → IsTrue (is_opened w s m) ⊎ (m ≡ Some x)
  opened_newly x None h = inl refl
  opened_newly x (Some y) h = elim (or_cases (has w.older y) (is_swept (swept s x) y) h) [
    | inl e ↦ inl (or_left (has w.older y) (is_swept s y) e)
    | inr e ↦ elim (cases_eq y x) [
      | inl same ↦ inr (ap (λ z. Some z) same)
      | inr other ↦ inl (or_right (has w.older y) (is_swept s y) (and_from (in_list s y) (not (has s.unswept y)) (and_l _ _ e)
          (subst (λ b. IsTrue (not b))
          (has_filter x s.unswept y ∙ ap (λ b. has s.unswept y && not b) (false_from_ne_true (y == x) (λ t. other (eqb-true y x t))) ∙ true_and (has s.unswept y))
          (and_r (in_list s y) (not (has (filter (λ z. not (z == x)) s.unswept) y)) e))))
    ]
  ]

  swept_newly : (x : ℕ) → w.owner x ≡ k → (d : Due) → Contains w.dues d → IsTrue (is_due w (swept s x) d) → is_due w s d ≡ false → d.slot.holder ≡ k
  swept_newly x is d c now old = elim (opened_newly x d.member (and_r (is_collected w d.slot.target) (is_opened w (swept s x) d.member) (and_l _ _ now))) [
    | inl before ↦ absurd (both_ways (is_due w s d) old (and_from (is_collected w d.slot.target && is_opened w s d.member) (list_all (is_met w s) d.watched)
        (and_from (is_collected w d.slot.target) (is_opened w s d.member) (and_l _ _ (and_l _ _ now)) before) (and_r _ _ now)))
    | inr member ↦ sym (well.member d (in_all w d c) x member) ∙ is
  ]

  lift_sweep : (x : ℕ) (q : Part) → BecomesHere w k p (Sweep k x) q → One w k s (Sweep k x) q
  lift_sweep x q h = at h.1 h.2 h.3.0 h.3.1 h.3.2
    where
      at : w.owner x ≡ k → IsTrue (has p.unswept x) → (news : List Standing) → Makes w k p (swept_here p x) news → q ≡ with_news (swept_here p x) news → One w k s (Sweep k x) q
      at is unswept news makes result =
          let adds = makes_adds w k s (swept s x) p (swept_here p x) news well inv i (owners w s inv) (swept_part x) (λ a t. t) (λ a t. t) (swept_newly x is) makes in
          let lie : (t : Standing) → Contains news t → lies_at w t ≡ k = makes_lie w k makes in
          record {
            after = record (swept s x) { slots = s.slots ++ news };
            becomes = (s.slots ++ news, and_from (w.owner x == k) (has s.unswept x) (eq-eqb (w.owner x) k is) (subst IsTrue (sym (i.unswept x is)) unswept), adds, refl);
            territory = in_territory;
            part = subst (IsPart w k (record (swept s x) { slots = s.slots ++ news })) (sym result) (news_part w k (swept s x) news lie (swept_here p x) (swept_part x));
            others = λ j o apart of. news_other w k (swept s x) news lie j o apart (swept_other x is j o apart of);
          }

  -- ---- forwarded

  lift_forward : (x to : ℕ) (q : Part) → BecomesHere w k p (Forward k x to) q → One w k s (Forward k x to) q
  lift_forward x to q h = record {
    after = forwarded s k x to;
    becomes = sym (ap (λ b. cond b (forwarded s k x to) s) may_too);
    territory = λ e c. elim (Contains-push_cases s.own (record { sweeper = k; object = x; place = to }) e c) [
      | inl old ↦ in_territory e old
      | inr new ↦ subst (λ (z : Entry). w.place_owner z.place ≡ z.sweeper) new may.territory
    ];
    part = subst (IsPart w k (forwarded s k x to)) (sym h.2) (record {
      own = filter-append (λ (e : Entry). e.sweeper == k) s.own _ ∙ ap (λ b. filter (λ (e : Entry). e.sweeper == k) s.own ++ cond b (record { sweeper = k; object = x; place = to } ∷ []) []) (eq-eqb k k refl)
          ∙ ap (λ l. l ++ record { sweeper = k; object = x; place = to } ∷ []) i.own;
      unswept = λ y is. list_any-append (λ z. z == y) s.unswept (x ∷ []) ∙ ap (λ b. b || has (x ∷ []) y) (i.unswept y is) ∙ sym (list_any-append (λ z. z == y) p.unswept (x ∷ []));
      here = i.here;
      whole = i.whole;
      made = i.made;
    });
    others = λ j o apart of. record {
      own = filter-append (λ (e : Entry). e.sweeper == j) s.own _
          ∙ ap (λ b. filter (λ (e : Entry). e.sweeper == j) s.own ++ cond b (record { sweeper = k; object = x; place = to } ∷ []) []) (false_from_ne_true (k == j) (λ e. apart (sym (eqb-true k j e))))
          ∙ nothing_more (filter (λ (e : Entry). e.sweeper == j) s.own) ∙ of.own;
      unswept = λ y mine. list_any-append (λ z. z == y) s.unswept (x ∷ [])
          ∙ ap (λ b. has s.unswept y || (b || false)) (false_from_ne_true (x == y) (λ e. apart (sym mine ∙ ap w.owner (sym (eqb-true x y e)) ∙ may.owner)))
          ∙ or_false (has s.unswept y) ∙ of.unswept y mine;
      here = of.here;
      whole = of.whole;
      made = of.made;
    };
  }
    where
      may : MayForwardHere w k p x to
      may = h.1

      nothing_more : (l : List Entry) → l ++ [] ≡ l
      nothing_more [] = refl
      nothing_more (e ∷ l) = ap (λ z. e ∷ z) (nothing_more l)

      new_too : in_list s x ≡ false
      new_too = false_from_ne_true (in_list s x) (λ t. both_ways (in_list (alone p) x) may.new (in_list_up w k s p i (owners w s inv) x may.owner t))

      heard_too : IsTrue (list_any (is_heard_keep x) s.slots)
      heard_too = let r = any_some (is_heard_keep x) p.here may.heard in some_any (is_heard_keep x) s.slots r.0 (i.here r.0 r.1).0 r.2

      free : is_taken (alone p) to ≡ false → is_taken s to ≡ false
      free none = false_from_ne_true (is_taken s to) (λ t.
          let r = any_some (λ (e : Entry). e.place == to) s.own t in
          both_ways (is_taken (alone p) to) none (some_any (λ (e : Entry). e.place == to) p.own r.0
          (own_up w k s p i r.0 r.1 (sym (in_territory r.0 r.1) ∙ ap w.place_owner (eqb-true r.0.place to r.2) ∙ may.territory)) r.2))

      place_of : (b : Bool) → IsTrue (cond b (to == w.old_place x) (not (is_taken (alone p) to) && not (w.was_place to))) → IsTrue (cond b (to == w.old_place x) (not (is_taken s to) && not (w.was_place to)))
      place_of true e = e
      place_of false e = and_from (not (is_taken s to)) (not (w.was_place to)) (not_from_false (is_taken s to) (free (not-true (is_taken (alone p) to) (and_l _ _ e)))) (and_r _ _ e)

      may_too : IsTrue (may_forward w s k x to)
      may_too = and_from (w.owner x == k && not (in_list s x) && list_any (is_heard_keep x) s.slots) (is_place_for w s x to)
          (and_from (w.owner x == k && not (in_list s x)) (list_any (is_heard_keep x) s.slots)
          (and_from (w.owner x == k) (not (in_list s x)) (eq-eqb (w.owner x) k may.owner) (not_from_false (in_list s x) new_too)) heard_too)
          (place_of (w.stays x) may.place)

-- ---- events that move slots to a stage

pub heard_with_owner : (g : Stage) → IsTrue (is_heard g) → is_with_holder g ≡ false
heard_with_owner Asked h = absurd (false≢true h)
heard_with_owner Heard h = refl
heard_with_owner (Answered p) h = refl
heard_with_owner (Told p) h = absurd (false≢true h)
heard_with_owner (Fixed p) h = absurd (false≢true h)

told_with_holder : (g : Stage) (q : ℕ) → IsTrue (is_told_at g q) → is_with_holder g ≡ true
told_with_holder Asked q h = absurd (false≢true h)
told_with_holder Heard q h = absurd (false≢true h)
told_with_holder (Answered p) q h = absurd (false≢true h)
told_with_holder (Told p) q h = refl
told_with_holder (Fixed p) q h = absurd (false≢true h)

asked_with_holder : (g : Stage) → IsTrue (is_asked g) → is_with_holder g ≡ true
asked_with_holder Asked h = refl
asked_with_holder Heard h = absurd (false≢true h)
asked_with_holder (Answered p) h = absurd (false≢true h)
asked_with_holder (Told p) h = absurd (false≢true h)
asked_with_holder (Fixed p) h = absurd (false≢true h)

module _ (w : Setting) (k : ℕ) (a : Slot) (to : ℕ) where
  answer_lies : (s : State) (t : Standing) → IsTrue (may_answer w s k a to t) → lies_at w t ≡ k
  answer_lies s t may =
      let heard : IsTrue (is_heard t.stage) = search (and_l, and_r) in
      let owner : IsTrue (w.owner t.slot.target == k) = search (and_l, and_r) in
      lies_with_owner w t (heard_with_owner t.stage heard) ∙ eqb-true (w.owner t.slot.target) k owner

  answer_here : (s : State) (t : Standing) → lies_at w t ≡ k → lies_at w (at_stage (after_answer w s k a to) t) ≡ k
  answer_here s t lies =
      chosen (may_answer w s k a to t) (cond (t.slot.holder == k) (Told to) (Answered to)) t.stage (λ g. cond (is_with_holder g) t.slot.holder (w.owner t.slot.target) ≡ k)
      (λ may.
      let owner : IsTrue (w.owner t.slot.target == k) = search (and_l, and_r) in
      chosen (t.slot.holder == k) (Told to) (Answered to) (λ g. cond (is_with_holder g) t.slot.holder (w.owner t.slot.target) ≡ k)
      (λ is. eqb-true t.slot.holder k is) (eqb-true (w.owner t.slot.target) k owner))
      lies

  answer_there : (s : State) (t : Standing) → (lies_at w t ≡ k → ⊥) → after_answer w s k a to t ≡ t.stage
  answer_there s t not_here = ap (λ b. cond b (cond (t.slot.holder == k) (Told to) (Answered to)) t.stage) (false_from_ne_true (may_answer w s k a to t) (λ may. not_here (answer_lies s t may)))

  answer_alike : (s : State) (p : Part) → IsPart w k s p → (t : Standing) → after_answer w s k a to t ≡ after_answer w (alone p) k a to t
  answer_alike s p i t = ap (λ b. cond (same_slot t.slot a && is_heard t.stage && t.slot.has_place && w.owner t.slot.target == k && b) (cond (t.slot.holder == k) (Told to) (Answered to)) t.stage) (listed_same w k s p i t.slot.target to)

  fix_holder : (t : Standing) → IsTrue (may_fix k a to t) → t.slot.holder ≡ k
  fix_holder t may = let is : IsTrue (t.slot.holder == k) = search (and_l, and_r) in eqb-true t.slot.holder k is

  fix_lies : (t : Standing) → IsTrue (may_fix k a to t) → lies_at w t ≡ k
  fix_lies t may = let told : IsTrue (is_told_at t.stage to) = search (and_l, and_r) in lies_with_holder w t (told_with_holder t.stage to told) ∙ fix_holder t may

  fix_here : (t : Standing) → lies_at w t ≡ k → lies_at w (at_stage (after_fix k a to) t) ≡ k
  fix_here t lies = chosen (may_fix k a to t) (Fixed to) t.stage (λ g. cond (is_with_holder g) t.slot.holder (w.owner t.slot.target) ≡ k) (fix_holder t) lies

  fix_there : (t : Standing) → (lies_at w t ≡ k → ⊥) → after_fix k a to t ≡ t.stage
  fix_there t not_here = ap (λ b. cond b (Fixed to) t.stage) (false_from_ne_true (may_fix k a to t) (λ may. not_here (fix_lies t may)))

  learn_holder : (s : State) (t : Standing) → IsTrue (may_learn w s k a to t) → t.slot.holder ≡ k
  learn_holder s t may = let is : IsTrue (t.slot.holder == k) = search (and_l, and_r) in eqb-true t.slot.holder k is

  learn_lies : (s : State) (t : Standing) → IsTrue (may_learn w s k a to t) → lies_at w t ≡ k
  learn_lies s t may = let asked : IsTrue (is_asked t.stage) = search (and_l, and_r) in lies_with_holder w t (asked_with_holder t.stage asked) ∙ learn_holder s t may

  learn_here : (s : State) (t : Standing) → lies_at w t ≡ k → lies_at w (at_stage (after_learning w s k a to) t) ≡ k
  learn_here s t lies = chosen (may_learn w s k a to t) (Told to) t.stage (λ g. cond (is_with_holder g) t.slot.holder (w.owner t.slot.target) ≡ k) (learn_holder s t) lies

  learn_there : (s : State) (t : Standing) → (lies_at w t ≡ k → ⊥) → after_learning w s k a to t ≡ t.stage
  learn_there s t not_here = ap (λ b. cond b (Told to) t.stage) (false_from_ne_true (may_learn w s k a to t) (λ may. not_here (learn_lies s t may)))

  learn_alike : (s u : State) → IsTrue (w.believed a.target to) → (t : Standing) → after_learning w s k a to t ≡ after_learning w u k a to t
  learn_alike s u seen t = elim (cases_Bool pre) [
    | inl e ↦
        let same : IsTrue (same_slot t.slot a) = and_l (same_slot t.slot a) (t.slot.holder == k) (and_l _ (is_keep t.slot.want) (and_l _ (is_asked t.stage) e)) in
        let here : IsTrue (w.believed t.slot.target to) = subst (λ z. IsTrue (w.believed z to)) (sym (same_slot_target t.slot a same)) seen in
        ap (λ b. cond (pre && b) (Told to) t.stage)
        (or_right (is_listed s (w.owner t.slot.target) t.slot.target to) (w.believed t.slot.target to) here
        ∙ sym (or_right (is_listed u (w.owner t.slot.target) t.slot.target to) (w.believed t.slot.target to) here))
    | inr e ↦
        ap (λ b. cond (b && (is_listed s (w.owner t.slot.target) t.slot.target to || w.believed t.slot.target to)) (Told to) t.stage) e
        ∙ sym (ap (λ b. cond (b && (is_listed u (w.owner t.slot.target) t.slot.target to || w.believed t.slot.target to)) (Told to) t.stage) e)
  ]
    where
      pre : Bool
      pre = same_slot t.slot a && t.slot.holder == k && is_keep t.slot.want && is_asked t.stage

module _ (w : Setting) (well : HoldsWell w) (k : ℕ) (s : State) (p : Part) (inv : Invariant w s) (in_territory : InTerritory w s) (i : IsPart w k s p) (a : Slot) (to : ℕ) where
  lift_answer : (q : Part) → BecomesHere w k p (Answer k a to) q → One w k s (Answer k a to) q
  lift_answer q h = record {
    after = moved s (after_answer w s k a to);
    becomes = refl;
    territory = in_territory;
    part = subst (IsPart w k (moved s (after_answer w s k a to))) (sym h.1)
        (moved_part w k s (after_answer w s k a to) (after_answer w (alone p) k a to) (answer_here w k a to s) (answer_there w k a to s) p i (λ t c. answer_alike w k a to s p i t));
    others = moved_other w k s (after_answer w s k a to) (after_answer w (alone p) k a to) (answer_here w k a to s) (answer_there w k a to s);
  }

  lift_learn : (q : Part) → BecomesHere w k p (Learn k a to) q → One w k s (Learn k a to) q
  lift_learn q h = record {
    after = moved s (after_learning w s k a to);
    becomes = refl;
    territory = in_territory;
    part = subst (IsPart w k (moved s (after_learning w s k a to))) (sym h.2)
        (moved_part w k s (after_learning w s k a to) (after_learning w (alone p) k a to) (learn_here w k a to s) (learn_there w k a to s) p i (λ t c. learn_alike w k a to s (alone p) h.1 t));
    others = moved_other w k s (after_learning w s k a to) (after_learning w (alone p) k a to) (learn_here w k a to s) (learn_there w k a to s);
  }

  fixed_newly : (d : Due) → Contains w.dues d → IsTrue (is_due w (moved s (after_fix k a to)) d) → is_due w s d ≡ false → d.slot.holder ≡ k
  fixed_newly d c_d now old = elim (cases_Bool (list_all (is_met w s) d.watched)) [
    | inl met ↦ absurd (both_ways (is_due w s d) old (and_from (is_collected w d.slot.target && is_opened w s d.member) (list_all (is_met w s) d.watched) same_opened met))
    | inr not_met ↦ let r = not_all (is_met w s) d.watched not_met in at r.0 r.1 r.2
  ]
    where
      same_opened : IsTrue (is_collected w d.slot.target && is_opened w s d.member)
      same_opened = and_from (is_collected w d.slot.target) (is_opened w s d.member) (and_l _ _ (and_l _ _ now)) (opened d.member (and_r (is_collected w d.slot.target) (is_opened w (moved s (after_fix k a to)) d.member) (and_l _ _ now)))
        where
          opened : (m : Option ℕ) → IsTrue (is_opened w (moved s (after_fix k a to)) m) → IsTrue (is_opened w s m)
          opened None h = refl
          opened (Some x) h = h

      at : (b : Slot) → Contains d.watched b → is_met w s b ≡ false → d.slot.holder ≡ k
      at b in_d unmet =
          let parts = or_parts (has w.older b.target) (list_any (is_fixed_watch b) s.slots) unmet in
          elim (or_cases (has w.older b.target) (list_any (is_fixed_watch b) (moved s (after_fix k a to)).slots) (all_at (is_met w (moved s (after_fix k a to))) d.watched (and_r (is_collected w d.slot.target && is_opened w (moved s (after_fix k a to)) d.member) (list_all (is_met w (moved s (after_fix k a to))) d.watched) now) b in_d)) [
            | inl e ↦ absurd (both_ways (has w.older b.target) parts.0 e)
            | inr e ↦
                let r = any_some (is_fixed_watch b) (moved s (after_fix k a to)).slots e in
                let m = map_some (at_stage (after_fix k a to)) s.slots r.0 r.1 in
                fixed m.0 m.1 (subst (λ z. IsTrue (is_fixed_watch b z)) (sym m.2) r.2) parts.1
          ]
        where
          fixed : (t : Standing) → Contains s.slots t → IsTrue (is_fixed_watch b (at_stage (after_fix k a to) t)) → list_any (is_fixed_watch b) s.slots ≡ false → d.slot.holder ≡ k
          fixed t c f none = elim (cases_Bool (may_fix k a to t)) [
            | inl may ↦
                let same : IsTrue (same_slot t.slot b) = and_l (same_slot t.slot b) (not (is_keep t.slot.want)) (and_l _ (is_fixed (after_fix k a to t)) f) in
                sym (well.watched d (in_all w d c_d) b in_d) ∙ sym (same_slot_holder t.slot b same) ∙ fix_holder w k a to t may
            | inr may_not ↦ absurd (both_ways (list_any (is_fixed_watch b) s.slots) none (some_any (is_fixed_watch b) s.slots t c
                (subst (λ g. IsTrue (same_slot t.slot b && not (is_keep t.slot.want) && is_fixed g)) (ap (λ z. cond z (Fixed to) t.stage) may_not) f)))
          ]

  lift_fix : (q : Part) → BecomesHere w k p (Fix k a to) q → One w k s (Fix k a to) q
  lift_fix q h = at h.1.0 h.1.1 h.1.2
    where
      step : Standing → Stage
      step = after_fix k a to

      at : (news : List Standing) → Makes w k p (moved_here p (after_fix k a to)) news → q ≡ with_news (moved_here p (after_fix k a to)) news → One w k s (Fix k a to) q
      at news makes result =
          let part' = moved_part w k s (after_fix k a to) (after_fix k a to) (fix_here w k a to) (fix_there w k a to) p i (λ t c. refl) in
          let adds = makes_adds w k s (moved s (after_fix k a to)) p (moved_here p (after_fix k a to)) news well inv i (owners w s inv) part' (there_moved w s (after_fix k a to)) (moved_there w s (after_fix k a to)) fixed_newly makes in
          let lie : (t : Standing) → Contains news t → lies_at w t ≡ k = makes_lie w k makes in
          record {
            after = record (moved s (after_fix k a to)) { slots = (moved s (after_fix k a to)).slots ++ news };
            becomes = ((moved s (after_fix k a to)).slots ++ news, adds, refl);
            territory = in_territory;
            part = subst (IsPart w k (record (moved s (after_fix k a to)) { slots = (moved s (after_fix k a to)).slots ++ news })) (sym result)
                (news_part w k (moved s (after_fix k a to)) news lie (moved_here p (after_fix k a to)) part');
            others = λ j o apart of. news_other w k (moved s (after_fix k a to)) news lie j o apart
                (moved_other w k s (after_fix k a to) (after_fix k a to) (fix_here w k a to) (fix_there w k a to) j o apart of);
          }

-- ---- every event of the sweeper

lift : (w : Setting) → HoldsWell w → (k : ℕ) (s : State) (p : Part) → Invariant w s → InTerritory w s → IsPart w k s p → (e : Event) (q : Part) → BecomesHere w k p e q → One w k s e q
lift w well k s p inv in_territory i (Forward j x to) q h = subst (λ z. One w k s (Forward z x to) q) (sym h.0) (lift_forward w well k s p inv in_territory i x to q (refl, h.1, h.2))
lift w well k s p inv in_territory i (Sweep j x) q h = subst (λ z. One w k s (Sweep z x) q) (sym h.0) (lift_sweep w well k s p inv in_territory i x q (refl, h.1, h.2, h.3))
lift w well k s p inv in_territory i (Answer j a to) q h = subst (λ z. One w k s (Answer z a to) q) (sym h.0) (lift_answer w well k s p inv in_territory i a to q (refl, h.1))
lift w well k s p inv in_territory i (Fix j a to) q h = subst (λ z. One w k s (Fix z a to) q) (sym h.0) (lift_fix w well k s p inv in_territory i a to q (refl, h.1))
lift w well k s p inv in_territory i (Deliver a) q h = absurd h
lift w well k s p inv in_territory i (Learn j a to) q h = subst (λ z. One w k s (Learn z a to) q) (sym h.0) (lift_learn w well k s p inv in_territory i a to q (refl, h.1, h.2))

pub same_part : (w : Setting) (k : ℕ) (s : State) (p q : Part) → IsPart w k s p → SamePart p q → IsPart w k s q
same_part w k s p q i h = record {
  own = i.own ∙ h.own;
  unswept = λ x is. i.unswept x is ∙ h.unswept x;
  here = λ t c. i.here t (h.here t c);
  whole = λ t c lies. h.whole t (i.whole t c lies);
  made = λ a c. i.made a (h.made a c);
}

-- what a sweeper does to its part, event by event, is done to the whole, and the other parts stay
pub together : (w : Setting) → HasPlaces w → HoldsWell w → (k : ℕ) (s : State) (p : Part) (es : List Event) (q : Part)
    → Invariant w s → InTerritory w s → IsPart w k s p → ReachesHere w k p es q → Together w k s es q
together w places well k s p [] q inv in_territory i h = record {
  after = s;
  reached = refl;
  invariant = inv;
  territory = in_territory;
  part = same_part w k s p q i h;
  others = λ j o apart of. of;
}
together w places well k s p (e ∷ es) q inv in_territory i h =
    let one = lift w well k s h.0 inv in_territory (same_part w k s p h.0 i h.2) e h.1 h.3 in
    let rest = together w places well k one.after h.1 es q (step_holds w places s e one.after inv one.becomes) one.territory one.part h.4 in
    record {
      after = rest.after;
      reached = (one.after, one.becomes, rest.reached);
      invariant = rest.invariant;
      territory = rest.territory;
      part = rest.part;
      others = λ j o apart of. rest.others j o apart (one.others j o apart of);
    }
