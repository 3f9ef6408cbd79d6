-- Each event keeps the invariant.
use Rattle.std.proofs.Common.{◌≡◌, nat_eq, ℕ, Bool, true, false, not, ◌||◌, ◌&&◌, ◌==◌, ◌⊎◌, List, [], ◌∷◌, ◌++◌, map, filter, cond, Contains, IsTrue, refl, sym, ap, subst, ◌∙◌, inl, inr}
use Rattle.std.specs.List.{list_any, IsDistinct}
use Rattle.std.proofs.lemmas.Bool.{or_cases, or_right, or_left, and_from, eqb-true, eq-eqb, cases_Bool, both_ways, not-true, false≢true, not_from_false, false_from_ne_true, or_parts}
use Rattle.std.proofs.lemmas.List.Folds.{list_any-append}
use Rattle.std.proofs.lemmas.List.{map-append}
use Rattle.std.proofs.lemmas.Map.Keys.{IsDistinct-push}
use Rattle.std.specs.Cmp.{nat_eq_equiv}
use Rattle.std.proofs.lemmas.List.Elements.{Contains-append_left, Contains-push, Contains-push_cases}
use Rattle.trace_types.specs.Rules.{has, least}
use Rattle.owned_core.specs.Events.{Answer, Becomes, Deliver, Event, Fix, Forward, Learn, Reaches, Sweep, after_answer, after_delivery, after_fix, after_learning, delivered, forwarded, happens, is_heard_keep, is_place_for, may_answer, may_fix, may_forward, may_learn, may_sweep, moved, run, swept}
use Rattle.owned_core.specs.Invariants.{Invariant, IsOfDue, is_sound_entry, is_vouched}
use Rattle.owned_core.specs.Owned.{Entry, State, in_list, is_kept, is_listed, is_taken, is_there, with_slots}
use Rattle.owned_core.specs.Settings.{HasPlaces, Setting, is_collected, rules_of}
use Rattle.owned_core.specs.Slots.{Answered, Asked, Fixed, Heard, Slot, Stage, Standing, Told, is_asked, is_at, is_fixed, is_heard, is_keep, is_told_at, same_slot}
use Rattle.owned_core.proofs.Adding.{Base, Before, adds_holds, base_of, due_before, has_append_cases, of_due, target_collected, vouched_cases, with_slots_holds}
use Rattle.owned_core.proofs.Lists.{any_some, filter_some, map_some, some_any, some_map}
use Rattle.owned_core.proofs.SameSlots.{and_l, and_r}

-- ---- slots that go to a stage

abbrev pub at_stage : (Standing → Stage) → Standing → Standing
at_stage to t = record { slot = t.slot; stage = to t }

module _ (w : Setting) (s : State) (to : Standing → Stage) where
  kept_moved : (x : ℕ) → IsTrue (is_kept s x) → IsTrue (is_kept (moved s to) x)
  kept_moved x h =
      let r = any_some (λ a. is_keep a.slot.want && a.slot.target == x) s.slots h in
      some_any (λ a. is_keep a.slot.want && a.slot.target == x) (map (at_stage to) s.slots) (at_stage to r.0) (some_map (at_stage to) s.slots r.0 r.1) r.2

  pub there_moved : (a : Slot) → IsTrue (is_there s.slots a) → IsTrue (is_there (moved s to).slots a)
  there_moved a h =
      let r = any_some (λ t. same_slot t.slot a) s.slots h in
      some_any (λ t. same_slot t.slot a) (map (at_stage to) s.slots) (at_stage to r.0) (some_map (at_stage to) s.slots r.0 r.1) r.2

  pub moved_there : (a : Slot) → IsTrue (is_there (moved s to).slots a) → IsTrue (is_there s.slots a)
  moved_there a h =
      let r = any_some (λ t. same_slot t.slot a) (map (at_stage to) s.slots) h in
      let q = map_some (at_stage to) s.slots r.0 r.1 in
      some_any (λ t. same_slot t.slot a) s.slots q.0 q.1 (subst (λ (z : Standing). IsTrue (same_slot z.slot a)) (sym q.2) r.2)

  moved_from : (t : Standing) → Contains (moved s to).slots t → (u : Standing) × Contains s.slots u × (at_stage to u ≡ t)
  moved_from t c = map_some (at_stage to) s.slots t c

  module _ (grow : (t : Standing) → IsTrue (is_fixed t.stage) → IsTrue (is_fixed (to t))) where
    moved_after : Before (moved s to) s
    moved_after = record {
      swept_before = λ x h. h;
      fixed_before = λ a c f. (at_stage to a, some_map (at_stage to) s.slots a c, refl, grow a f);
    }

    moved_base : Base w s → ((t : Standing) → Contains s.slots t → (p : ℕ) → IsTrue (is_at (to t) p) → IsTrue (is_vouched w s t.slot p)) → Base w (moved s to)
    moved_base i still = record {
      entries = i.entries;
      objects_once = i.objects_once;
      places_once = i.places_once;
      placed = λ t c p at. let r = moved_from t c in
          subst (λ z. IsTrue (is_vouched w s z.slot p)) r.2 (still r.0 r.1 p (subst (λ z. IsTrue (is_at z.stage p)) (sym r.2) at));
      members = λ t c keep. let r = moved_from t c in
          subst (λ z. IsTrue (has (least (rules_of w)) z.slot.target)) r.2 (i.members r.0 r.1 (subst (λ z. IsTrue (is_keep z.slot.want)) (sym r.2) keep));
      given_kept = λ x g c. kept_moved x (i.given_kept x g c);
      was_due = λ t c. let r = moved_from t c in
          subst (λ (z : Standing). IsOfDue w (moved s to) z.slot) r.2 (of_due w s (moved s to) moved_after r.0.slot (i.was_due r.0 r.1));
      kept = λ x h. kept_moved x (i.kept x h);
      slots_once = λ t u c e same. let r = moved_from t c in let q = moved_from u e in
          sym r.2 ∙ ap (at_stage to) (i.slots_once r.0 q.0 r.1 q.1
          (subst (λ (z : Standing). IsTrue (same_slot r.0.slot z.slot)) (sym q.2) (subst (λ (z : Standing). IsTrue (same_slot z.slot u.slot)) (sym r.2) same))) ∙ q.2;
      unswept_listed = i.unswept_listed;
    }

    moved_before : ((t : Standing) → IsTrue (is_fixed (to t)) → IsTrue (is_fixed t.stage)) → Before s (moved s to)
    moved_before no_more = record {
      swept_before = λ x h. h;
      fixed_before = λ a c f. let r = moved_from a c in
          (r.0, r.1, ap (λ z. z.slot) r.2, no_more r.0 (subst (λ z. IsTrue (is_fixed z.stage)) (sym r.2) f));
    }

    moved_holds : Invariant w s → ((t : Standing) → Contains s.slots t → (p : ℕ) → IsTrue (is_at (to t) p) → IsTrue (is_vouched w s t.slot p)) → ((t : Standing) → IsTrue (is_fixed (to t)) → IsTrue (is_fixed t.stage)) → Invariant w (moved s to)
    moved_holds i still no_more =
        let base = moved_base (base_of w s i) still in
        record {
          entries = base.entries;
          objects_once = base.objects_once;
          places_once = base.places_once;
          placed = base.placed;
          members = base.members;
          given_kept = base.given_kept;
          due = λ d c is. there_moved d.slot (i.due d c (due_before w s (moved s to) (moved_before no_more) d is));
          was_due = base.was_due;
          kept = base.kept;
          slots_once = base.slots_once;
          unswept_listed = base.unswept_listed;
        }

-- ---- each event

delivered_at : (g : Stage) (p : ℕ) → IsTrue (is_at (delivered g) p) → IsTrue (is_at g p)
delivered_at Asked p h = h
delivered_at Heard p h = h
delivered_at (Answered q) p h = h
delivered_at (Told q) p h = h
delivered_at (Fixed q) p h = h

delivered_fixed : (g : Stage) → IsTrue (is_fixed (delivered g)) → IsTrue (is_fixed g)
delivered_fixed Asked h = h
delivered_fixed Heard h = h
delivered_fixed (Answered q) h = h
delivered_fixed (Told q) h = h
delivered_fixed (Fixed q) h = h

told_at : (g : Stage) (p q : ℕ) → IsTrue (is_told_at g p) → IsTrue (q == p) → IsTrue (is_at g q)
told_at Asked p q h e = absurd (false≢true h)
told_at Heard p q h e = absurd (false≢true h)
told_at (Answered r) p q h e = absurd (false≢true h)
told_at (Told r) p q h e = eq-eqb q r (eqb-true q p e ∙ eqb-true p r h)
told_at (Fixed r) p q h e = absurd (false≢true h)

-- what holds of both choices holds
pub chosen : (b : Bool) (g h : Stage) (P : Stage → Type 0) → (IsTrue b → P g) → P h → P (cond b g h)
chosen true g h P f o = f refl
chosen false g h P f o = o

-- a fixed slot stays fixed where the choice was of another stage only for slots that are not fixed
still_fixed : (b : Bool) (g h : Stage) → (IsTrue b → IsTrue (is_fixed h) → IsTrue (is_fixed g)) → IsTrue (is_fixed h) → IsTrue (is_fixed (cond b g h))
still_fixed true g h f is = f refl is
still_fixed false g h f is = is

fixed_delivered : (g : Stage) → IsTrue (is_fixed g) → IsTrue (is_fixed (delivered g))
fixed_delivered Asked h = h
fixed_delivered Heard h = h
fixed_delivered (Answered q) h = h
fixed_delivered (Told q) h = h
fixed_delivered (Fixed q) h = h

heard_not_fixed : (g : Stage) → IsTrue (is_heard g) → IsTrue (is_fixed g) → ⊥
heard_not_fixed Heard h f = false≢true f
heard_not_fixed Asked h f = false≢true f
heard_not_fixed (Answered p) h f = false≢true f
heard_not_fixed (Told p) h f = false≢true f
heard_not_fixed (Fixed p) h f = false≢true h

asked_not_fixed : (g : Stage) → IsTrue (is_asked g) → IsTrue (is_fixed g) → ⊥
asked_not_fixed Heard h f = false≢true f
asked_not_fixed Asked h f = false≢true f
asked_not_fixed (Answered p) h f = false≢true f
asked_not_fixed (Told p) h f = false≢true f
asked_not_fixed (Fixed p) h f = false≢true h

pub deliver_keeps_fixed : (a : Slot) (t : Standing) → IsTrue (is_fixed t.stage) → IsTrue (is_fixed (after_delivery a t))
deliver_keeps_fixed a t = still_fixed (same_slot t.slot a) (delivered t.stage) t.stage (λ _. fixed_delivered t.stage)

pub answer_keeps_fixed : (w : Setting) (s : State) (k : ℕ) (a : Slot) (p : ℕ) (t : Standing) → IsTrue (is_fixed t.stage) → IsTrue (is_fixed (after_answer w s k a p t))
answer_keeps_fixed w s k a p t = still_fixed (may_answer w s k a p t) (cond (t.slot.holder == k) (Told p) (Answered p)) t.stage
    (λ may f. let heard : IsTrue (is_heard t.stage) = search (and_l, and_r) in absurd (heard_not_fixed t.stage heard f))

pub learn_keeps_fixed : (w : Setting) (s : State) (k : ℕ) (a : Slot) (p : ℕ) (t : Standing) → IsTrue (is_fixed t.stage) → IsTrue (is_fixed (after_learning w s k a p t))
learn_keeps_fixed w s k a p t = still_fixed (may_learn w s k a p t) (Told p) t.stage
    (λ may f. let asked : IsTrue (is_asked t.stage) = search (and_l, and_r) in absurd (asked_not_fixed t.stage asked f))

pub fix_keeps_fixed : (k : ℕ) (a : Slot) (p : ℕ) (t : Standing) → IsTrue (is_fixed t.stage) → IsTrue (is_fixed (after_fix k a p t))
fix_keeps_fixed k a p t = still_fixed (may_fix k a p t) (Fixed p) t.stage (λ _ _. refl)

deliver_holds : (w : Setting) (s : State) (a : Slot) → Invariant w s → Invariant w (moved s (after_delivery a))
deliver_holds w s a i = moved_holds w s (after_delivery a) (deliver_keeps_fixed a) i
    (λ t c p. chosen (same_slot t.slot a) (delivered t.stage) t.stage (λ g. IsTrue (is_at g p) → IsTrue (is_vouched w s t.slot p))
    (λ _ at. i.placed t c p (delivered_at t.stage p at)) (i.placed t c p))
    (λ t. chosen (same_slot t.slot a) (delivered t.stage) t.stage (λ g. IsTrue (is_fixed g) → IsTrue (is_fixed t.stage)) (λ _ f. delivered_fixed t.stage f) (λ f. f))

pub vouched_listed : (w : Setting) (s : State) (a : Slot) (p : ℕ) → IsTrue (is_listed s (w.owner a.target) a.target p) → IsTrue (is_vouched w s a p)
vouched_listed w s a p h = or_left (is_listed s (w.owner a.target) a.target p) (is_keep a.want && w.believed a.target p) h

pub vouched_believed : (w : Setting) (s : State) (a : Slot) (p : ℕ) → IsTrue (is_keep a.want) → IsTrue (w.believed a.target p) → IsTrue (is_vouched w s a p)
vouched_believed w s a p k h = or_right (is_listed s (w.owner a.target) a.target p) (is_keep a.want && w.believed a.target p) (and_from _ _ k h)

answer_vouched : (w : Setting) (s : State) (k : ℕ) (a : Slot) (p q : ℕ) (t : Standing) → IsTrue (may_answer w s k a p t) → IsTrue (q == p) → IsTrue (is_vouched w s t.slot q)
answer_vouched w s k a p q t may e =
    let owner : IsTrue (w.owner t.slot.target == k) = search (and_l, and_r) in
    let listed : IsTrue (is_listed s k t.slot.target p) = search (and_l, and_r) in
    vouched_listed w s t.slot q
    (subst (λ z. IsTrue (is_listed s z t.slot.target q)) (sym (eqb-true (w.owner t.slot.target) k owner))
    (subst (λ z. IsTrue (is_listed s k t.slot.target z)) (sym (eqb-true q p e)) listed))

learn_vouched : (w : Setting) (s : State) (k : ℕ) (a : Slot) (p q : ℕ) (t : Standing) → IsTrue (may_learn w s k a p t) → IsTrue (q == p) → IsTrue (is_vouched w s t.slot q)
learn_vouched w s k a p q t may e =
    let keep : IsTrue (is_keep t.slot.want) = search (and_l, and_r) in
    let known : IsTrue (is_listed s (w.owner t.slot.target) t.slot.target p || w.believed t.slot.target p) = search (and_l, and_r) in
    subst (λ z. IsTrue (is_vouched w s t.slot z)) (sym (eqb-true q p e))
    (elim (or_cases (is_listed s (w.owner t.slot.target) t.slot.target p) (w.believed t.slot.target p) known) [
      | inl listed ↦ vouched_listed w s t.slot p listed
      | inr believed ↦ vouched_believed w s t.slot p keep believed
    ])

answer_holds : (w : Setting) (s : State) (k : ℕ) (a : Slot) (p : ℕ) → Invariant w s → Invariant w (moved s (after_answer w s k a p))
answer_holds w s k a p i = moved_holds w s (after_answer w s k a p) (answer_keeps_fixed w s k a p) i
    (λ t c q. chosen (may_answer w s k a p t) (cond (t.slot.holder == k) (Told p) (Answered p)) t.stage (λ g. IsTrue (is_at g q) → IsTrue (is_vouched w s t.slot q))
    (λ may. chosen (t.slot.holder == k) (Told p) (Answered p) (λ g. IsTrue (is_at g q) → IsTrue (is_vouched w s t.slot q)) (λ _. answer_vouched w s k a p q t may) (answer_vouched w s k a p q t may))
    (i.placed t c q))
    (λ t. chosen (may_answer w s k a p t) (cond (t.slot.holder == k) (Told p) (Answered p)) t.stage (λ g. IsTrue (is_fixed g) → IsTrue (is_fixed t.stage))
    (λ _. chosen (t.slot.holder == k) (Told p) (Answered p) (λ g. IsTrue (is_fixed g) → IsTrue (is_fixed t.stage)) (λ _ f. absurd (false≢true f)) (λ f. absurd (false≢true f)))
    (λ f. f))

learn_holds : (w : Setting) (s : State) (k : ℕ) (a : Slot) (p : ℕ) → Invariant w s → Invariant w (moved s (after_learning w s k a p))
learn_holds w s k a p i = moved_holds w s (after_learning w s k a p) (learn_keeps_fixed w s k a p) i
    (λ t c q. chosen (may_learn w s k a p t) (Told p) t.stage (λ g. IsTrue (is_at g q) → IsTrue (is_vouched w s t.slot q)) (learn_vouched w s k a p q t) (i.placed t c q))
    (λ t. chosen (may_learn w s k a p t) (Told p) t.stage (λ g. IsTrue (is_fixed g) → IsTrue (is_fixed t.stage)) (λ _ f. absurd (false≢true f)) (λ f. f))

fix_base : (w : Setting) (s : State) (k : ℕ) (a : Slot) (p : ℕ) → Invariant w s → Base w (moved s (after_fix k a p))
fix_base w s k a p i = moved_base w s (after_fix k a p) (fix_keeps_fixed k a p) (base_of w s i)
    (λ t c q. chosen (may_fix k a p t) (Fixed p) t.stage (λ g. IsTrue (is_at g q) → IsTrue (is_vouched w s t.slot q))
    (λ may e. i.placed t c q (told_at t.stage p q (and_r _ _ may) e)) (i.placed t c q))

-- ---- one more pair in a list

-- what the test before it says
record MayForward (w : Setting) (s : State) (k x p : ℕ) : Type 0 where
  owner : IsTrue (w.owner x == k)
  new : in_list s x ≡ false
  heard : IsTrue (list_any (is_heard_keep x) s.slots)
  place : IsTrue (is_place_for w s x p)

module _ (w : Setting) (places : HasPlaces w) (s : State) (k x p : ℕ) (i : Invariant w s) (may : MayForward w s k x p) where
  after_forward : State
  after_forward = forwarded s k x p

  kept_target : IsTrue (is_kept s x)
  kept_target =
      let r = any_some (is_heard_keep x) s.slots may.heard in
      some_any (λ a. is_keep a.slot.want && a.slot.target == x) s.slots r.0 r.1 (and_l _ _ r.2)

  collected_target : IsTrue (is_collected w x)
  collected_target =
      let r = any_some (λ a. is_keep a.slot.want && a.slot.target == x) s.slots kept_target in
      subst (λ z. IsTrue (is_collected w z)) (eqb-true r.0.slot.target x (and_r _ _ r.2)) (target_collected w s (base_of w s i) r.0 r.1)

  place_cases : (b : Bool) → w.stays x ≡ b → IsTrue (cond b (p == w.old_place x) (not (is_taken s p) && not (w.was_place p))) → IsTrue (cond b (p == w.old_place x) (not (w.was_place p))) × (is_taken s p ≡ false)
  place_cases true stays h = (h, false_from_ne_true (is_taken s p) none)
    where
      none : IsTrue (is_taken s p) → ⊥
      none t = at r.0 r.1 (eqb-true r.0.place p r.2 ∙ eqb-true p (w.old_place x) h) (cases_Bool (w.stays r.0.object))
        where
          r : (e : Entry) × Contains s.own e × IsTrue (e.place == p)
          r = any_some (λ (e : Entry). e.place == p) s.own t

          at : (e : Entry) → Contains s.own e → e.place ≡ w.old_place x → (w.stays e.object ≡ true) ⊎ (w.stays e.object ≡ false) → ⊥
          at e c is (inl too) =
              let sound : IsTrue (cond (w.stays e.object) (e.place == w.old_place e.object) (not (w.was_place e.place))) = and_r _ _ (i.entries e c) in
              let here = eqb-true e.place (w.old_place e.object) (subst (λ b. IsTrue (cond b (e.place == w.old_place e.object) (not (w.was_place e.place)))) too sound) in
              both_ways (in_list s x) may.new
              (some_any (λ e. e.object == x) s.own e c (eq-eqb e.object x (places.apart e.object x too stays (sym here ∙ is))))
          at e c is (inr not_so) =
              let sound : IsTrue (cond (w.stays e.object) (e.place == w.old_place e.object) (not (w.was_place e.place))) = and_r _ _ (i.entries e c) in
              let fresh = not-true (w.was_place e.place) (subst (λ b. IsTrue (cond b (e.place == w.old_place e.object) (not (w.was_place e.place)))) not_so sound) in
              both_ways (w.was_place e.place) fresh (subst (λ z. IsTrue (w.was_place z)) (sym is) (places.was x stays))
  place_cases false stays h = (and_r _ _ h, not-true (is_taken s p) (and_l _ _ h))

  place_facts : IsTrue (cond (w.stays x) (p == w.old_place x) (not (w.was_place p))) × (is_taken s p ≡ false)
  place_facts = place_cases' (w.stays x) refl may.place
    where
      place_cases' : (b : Bool) → w.stays x ≡ b → IsTrue (cond (w.stays x) (p == w.old_place x) (not (is_taken s p) && not (w.was_place p))) → IsTrue (cond (w.stays x) (p == w.old_place x) (not (w.was_place p))) × (is_taken s p ≡ false)
      place_cases' b e h =
          let r = place_cases b e (subst (λ c. IsTrue (cond c (p == w.old_place x) (not (is_taken s p) && not (w.was_place p)))) e h) in
          (subst (λ c. IsTrue (cond c (p == w.old_place x) (not (w.was_place p)))) (sym e) r.0, r.1)

  new_entry : Entry
  new_entry = record { sweeper = k; object = x; place = p }

  entry_sound : IsTrue (is_sound_entry w (record { sweeper = k; object = x; place = p }))
  entry_sound = and_from (is_collected w x && w.owner x == k) (cond (w.stays x) (p == w.old_place x) (not (w.was_place p)))
      (and_from (is_collected w x) (w.owner x == k) collected_target may.owner) place_facts.0

  listed_more : (j y q : ℕ) → IsTrue (is_listed s j y q) → IsTrue (is_listed (forwarded s k x p) j y q)
  listed_more j y q h =
      let test = λ (e : Entry). e.sweeper == j && e.object == y && e.place == q in
      let r = any_some test s.own h in
      some_any test (s.own ++ record { sweeper = k; object = x; place = p } ∷ []) r.0 (Contains-append_left s.own _ r.0 r.1) r.2

  in_list_more : (y : ℕ) → IsTrue (in_list s y) → IsTrue (in_list (forwarded s k x p) y)
  in_list_more y h =
      let r = any_some (λ (e : Entry). e.object == y) s.own h in
      some_any (λ (e : Entry). e.object == y) (s.own ++ record { sweeper = k; object = x; place = p } ∷ []) r.0 (Contains-append_left s.own _ r.0 r.1) r.2

  in_list_cases : (y : ℕ) → IsTrue (in_list (forwarded s k x p) y) → IsTrue (in_list s y) ⊎ (x ≡ y)
  in_list_cases y h = at r.0 r.1 r.2
    where
      r : (e : Entry) × Contains (s.own ++ record { sweeper = k; object = x; place = p } ∷ []) e × IsTrue (e.object == y)
      r = any_some (λ (e : Entry). e.object == y) (s.own ++ record { sweeper = k; object = x; place = p } ∷ []) h

      at : (e : Entry) → Contains (s.own ++ record { sweeper = k; object = x; place = p } ∷ []) e → IsTrue (e.object == y) → IsTrue (in_list s y) ⊎ (x ≡ y)
      at e c is = elim (Contains-push_cases s.own (record { sweeper = k; object = x; place = p }) e c) [
        | inl old ↦ inl (some_any (λ (e : Entry). e.object == y) s.own e old is)
        | inr new ↦ inr (ap (λ (z : Entry). z.object) new ∙ eqb-true e.object y is)
      ]

  forward_before : Before s (forwarded s k x p)
  forward_before = record {
    swept_before = λ y h.
        let there : IsTrue (in_list (forwarded s k x p) y) = and_l _ _ h in
        let done : has (s.unswept ++ x ∷ []) y ≡ false = not-true (has (s.unswept ++ x ∷ []) y) (and_r _ _ h) in
        let split : (has s.unswept y || (x == y || false)) ≡ false = sym (list_any-append (λ z. z == y) s.unswept (x ∷ [])) ∙ done in
        let parts = or_parts (has s.unswept y) (x == y || false) split in
        elim (in_list_cases y there) [
          | inl old ↦ and_from (in_list s y) (not (has s.unswept y)) old (not_from_false (has s.unswept y) parts.0)
          | inr same ↦ absurd (both_ways (x == y || false) parts.1 (or_left (x == y) false (eq-eqb x y same)))
        ];
    fixed_before = λ a c f. (a, c, refl, f);
  }

  forward_after : Before (forwarded s k x p) s
  forward_after = record {
    swept_before = λ y h.
        let there : IsTrue (in_list s y) = and_l _ _ h in
        let done : has s.unswept y ≡ false = not-true (has s.unswept y) (and_r _ _ h) in
        and_from (in_list (forwarded s k x p) y) (not (has (s.unswept ++ x ∷ []) y)) (in_list_more y there)
        (not_from_false (has (s.unswept ++ x ∷ []) y) (false_from_ne_true (has (s.unswept ++ x ∷ []) y) (λ t. elim (has_append_cases s.unswept (x ∷ []) y t) [
          | inl old ↦ both_ways (has s.unswept y) done old
          | inr new ↦ elim (or_cases (x == y) false new) [
            | inl e ↦ both_ways (in_list s x) may.new (subst (λ z. IsTrue (in_list s z)) (sym (eqb-true x y e)) there)
            | inr e ↦ false≢true e
          ]
        ])));
    fixed_before = λ a c f. (a, c, refl, f);
  }

  forward_holds : Invariant w (forwarded s k x p)
  forward_holds = record {
    entries = λ e c. elim (Contains-push_cases s.own (record { sweeper = k; object = x; place = p }) e c) [
      | inl old ↦ i.entries e old
      | inr new ↦ subst (λ z. IsTrue (is_sound_entry w z)) new entry_sound
    ];
    objects_once = subst (IsDistinct nat_eq) (sym (map-append (λ (e : Entry). e.object) s.own _))
        (IsDistinct-push nat_eq_equiv (map (λ (e : Entry). e.object) s.own) x i.objects_once (false_from_ne_true _ (λ t.
        let r = any_some (nat_eq x) (map (λ (e : Entry). e.object) s.own) t in
        let e = map_some (λ (e : Entry). e.object) s.own r.0 r.1 in
        both_ways (in_list s x) may.new (some_any (λ (e : Entry). e.object == x) s.own e.0 e.1 (eq-eqb e.0.object x (e.2 ∙ sym (eqb-true x r.0 r.2)))))));
    places_once = subst (IsDistinct nat_eq) (sym (map-append (λ (e : Entry). e.place) s.own _))
        (IsDistinct-push nat_eq_equiv (map (λ (e : Entry). e.place) s.own) p i.places_once (false_from_ne_true _ (λ t.
        let r = any_some (nat_eq p) (map (λ (e : Entry). e.place) s.own) t in
        let e = map_some (λ (e : Entry). e.place) s.own r.0 r.1 in
        both_ways (is_taken s p) place_facts.1 (some_any (λ (e : Entry). e.place == p) s.own e.0 e.1 (eq-eqb e.0.place p (e.2 ∙ sym (eqb-true p r.0 r.2)))))));
    placed = λ t c q at. elim (vouched_cases w s t.slot q (i.placed t c q at)) [
      | inl listed ↦ vouched_listed w (forwarded s k x p) t.slot q (listed_more (w.owner t.slot.target) t.slot.target q listed)
      | inr believed ↦ vouched_believed w (forwarded s k x p) t.slot q believed.0 believed.1
    ];
    members = i.members;
    given_kept = i.given_kept;
    due = λ d c is. i.due d c (due_before w s (forwarded s k x p) forward_before d is);
    kept = λ y h. elim (in_list_cases y h) [
      | inl old ↦ i.kept y old
      | inr same ↦ subst (λ z. IsTrue (is_kept s z)) same kept_target
    ];
    was_due = λ t c. of_due w s (forwarded s k x p) forward_after t.slot (i.was_due t c);
    slots_once = i.slots_once;
    unswept_listed = λ y h. elim (has_append_cases s.unswept (x ∷ []) y h) [
      | inl old ↦ in_list_more y (i.unswept_listed y old)
      | inr new ↦ some_any (λ (e : Entry). e.object == y) (s.own ++ record { sweeper = k; object = x; place = p } ∷ []) (record { sweeper = k; object = x; place = p })
          (Contains-push s.own (record { sweeper = k; object = x; place = p }))
          (elim (or_cases (x == y) false new) [ inl e ↦ e | inr e ↦ absurd (false≢true e) ])
    ];
  }

-- ---- one object swept

swept_after : (s : State) (x : ℕ) → Before (swept s x) s
swept_after s x = record {
  swept_before = λ y h. and_from (in_list s y) (not (has (filter (λ z. not (z == x)) s.unswept) y)) (and_l _ _ h)
      (not_from_false (has (filter (λ z. not (z == x)) s.unswept) y) (false_from_ne_true (has (filter (λ z. not (z == x)) s.unswept) y) (λ t.
      let r = any_some (λ z. z == y) (filter (λ z. not (z == x)) s.unswept) t in
      both_ways (has s.unswept y) (not-true (has s.unswept y) (and_r _ _ h)) (some_any (λ z. z == y) s.unswept r.0 (filter_some (λ z. not (z == x)) s.unswept r.0 r.1).0 r.2))));
  fixed_before = λ a c f. (a, c, refl, f);
}

swept_base : (w : Setting) (s : State) (x : ℕ) → Invariant w s → Base w (swept s x)
swept_base w s x i = record {
  entries = i.entries;
  objects_once = i.objects_once;
  places_once = i.places_once;
  placed = i.placed;
  members = i.members;
  given_kept = i.given_kept;
  was_due = λ t c. of_due w s (swept s x) (swept_after s x) t.slot (i.was_due t c);
  kept = i.kept;
  slots_once = i.slots_once;
  unswept_listed = λ y h.
      let r = any_some (λ z. z == y) (filter (λ z. not (z == x)) s.unswept) h in
      let f = filter_some (λ z. not (z == x)) s.unswept r.0 r.1 in
      i.unswept_listed y (some_any (λ z. z == y) s.unswept r.0 f.0 r.2);
}

-- ---- the first law

-- what a test chooses, state by state
pub either : (b : Bool) (s t : State) (P : State → Type 0) → (IsTrue b → P s) → P t → P (cond b s t)
either true s t P f o = f refl
either false s t P f o = o

pub step_holds : (w : Setting) → HasPlaces w → (s : State) (e : Event) (t : State) → Invariant w s → Becomes w s e t → Invariant w t
step_holds w places s (Forward k x p) t i h = subst (Invariant w) (sym h) (either (may_forward w s k x p) (forwarded s k x p) s (Invariant w) (λ may. forward_holds w places s k x p i (record {
  owner = search (and_l, and_r);
  new = not-true (in_list s x) (search (and_l, and_r));
  heard = search (and_l, and_r);
  place = and_r _ _ may;
})) i)
step_holds w places s (Sweep k x) t i h = subst (Invariant w) (sym h.3) (adds_holds w (swept s x) h.0 (swept_base w s x i) h.2)
step_holds w places s (Answer k a p) t i h = subst (Invariant w) (sym h) (answer_holds w s k a p i)
step_holds w places s (Fix k a p) t i h = subst (Invariant w) (sym h.2) (adds_holds w (moved s (after_fix k a p)) h.0 (fix_base w s k a p i) h.1)
step_holds w places s (Deliver a) t i h = subst (Invariant w) (sym h) (deliver_holds w s a i)
step_holds w places s (Learn k a p) t i h = subst (Invariant w) (sym h) (learn_holds w s k a p i)

pub steps_hold : (w : Setting) → HasPlaces w → (s : State) (es : List Event) (t : State) → Invariant w s → Reaches w s es t → Invariant w t
steps_hold w places s [] t i h = subst (Invariant w) (sym h) i
steps_hold w places s (e ∷ es) t i h = steps_hold w places h.0 es t (step_holds w places s e h.0 i h.1) h.2

pub event_holds : (w : Setting) → HasPlaces w → (s : State) (e : Event) → Invariant w s → Invariant w (happens w s e)
event_holds w places s (Forward k x p) i = step_holds w places s (Forward k x p) (happens w s (Forward k x p)) i refl
event_holds w places s (Sweep k x) i = either (may_sweep w s k x) (with_slots w (swept s x)) s (Invariant w) (λ _. with_slots_holds w (swept s x) (swept_base w s x i)) i
event_holds w places s (Answer k a p) i = answer_holds w s k a p i
event_holds w places s (Fix k a p) i = with_slots_holds w (moved s (after_fix k a p)) (fix_base w s k a p i)
event_holds w places s (Deliver a) i = deliver_holds w s a i
event_holds w places s (Learn k a p) i = learn_holds w s k a p i

pub run_holds : (w : Setting) → HasPlaces w → (s : State) (es : List Event) → Invariant w s → Invariant w (run w s es)
run_holds w places s [] i = i
run_holds w places s (e ∷ es) i = run_holds w places (happens w s e) es (event_holds w places s e i)
