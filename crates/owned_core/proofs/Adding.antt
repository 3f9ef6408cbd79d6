-- New slots, and what they leave.
use Rattle.std.proofs.Common.{◌≡◌, nat_eq, ℕ, Bool, true, false, not, ◌&&◌, ◌==◌, ◌⊎◌, List, [], ◌∷◌, ◌++◌, map, filter, cond, Contains, IsTrue, refl, sym, ap, subst, ◌∙◌, inl, inr, Option, None, Some}
use Rattle.std.specs.List.{list_any, list_all, IsDistinct}
use Rattle.std.proofs.lemmas.Bool.{or_cases, or_right, or_left, and_from, eqb-true, eq-eqb, both_ways, not-true, false≢true, not_from_false, false_from_ne_true}
use Rattle.std.proofs.lemmas.List.Folds.{list_any-append}
use Rattle.std.proofs.lemmas.List.Elements.{Contains-append_left, Contains-append_right, Contains-push, Contains-push_cases, All-contains}
use Rattle.trace_types.specs.Rules.{has, ◌⊆◌, least, meets, facts}
use Rattle.trace_types.proofs.Least.{least_meets, meets_use, has_all_from, facts_there, MeetsAll-append}
use Rattle.owned_core.specs.Events.{Adds}
use Rattle.owned_core.specs.Invariants.{Invariant, IsOfDue, is_sound_entry, is_vouched}
use Rattle.owned_core.specs.Owned.{Entry, State, begun, in_list, is_due, is_fixed_watch, is_kept, is_listed, is_met, is_opened, is_swept, is_there, with_due, with_slots}
use Rattle.owned_core.specs.Settings.{Setting, is_collected, rule_of, rules_of}
use Rattle.owned_core.specs.Slots.{Answered, Asked, Due, Fixed, Heard, Slot, Stage, Standing, Told, is_at, is_fixed, is_keep, keeps, member_list, same_slot}
use Rattle.owned_core.proofs.Lists.{all_at, all_each, any_some, contains_cases, contains_here, contains_none, contains_there, map_some, some_any, some_filter, some_map}
use Rattle.owned_core.proofs.SameSlots.{and_l, and_r, same_slot_itself, same_slot_target, slot_is}

-- ---- new slots

added_keeps : (b : Bool) (ts : List Standing) (n t : Standing) → Contains ts t → Contains (cond b (ts ++ n ∷ []) ts) t
added_keeps true ts n t h = Contains-append_left ts (n ∷ []) t h
added_keeps false ts n t h = h

added_cases : (b : Bool) (ts : List Standing) (n t : Standing) → Contains (cond b (ts ++ n ∷ []) ts) t → Contains ts t ⊎ (IsTrue b × (n ≡ t))
added_cases true ts n t h = elim (Contains-push_cases ts n t h) [ inl e ↦ inl e | inr e ↦ inr (refl, e) ]
added_cases false ts n t h = inl h

pub there_more : (ts us : List Standing) → ((t : Standing) → Contains ts t → Contains us t) → (a : Slot) → IsTrue (is_there ts a) → IsTrue (is_there us a)
there_more ts us sub a h = let r = any_some (λ t. same_slot t.slot a) ts h in some_any (λ t. same_slot t.slot a) us r.0 (sub r.0 r.1) r.2

module _ (w : Setting) (due : Due → Bool) where
  pub with_due_keeps : (ds : List Due) (ts : List Standing) (t : Standing) → Contains ts t → Contains (with_due w due ts ds) t
  with_due_keeps [] ts t h = h
  with_due_keeps (d ∷ ds) ts t h = with_due_keeps ds _ t (added_keeps (due d && not (is_there ts d.slot)) ts (begun w d.slot) t h)

  pub with_due_from : (ds : List Due) (ts : List Standing) (t : Standing) → Contains (with_due w due ts ds) t → Contains ts t ⊎ ((d : Due) × Contains ds d × IsTrue (due d) × (begun w d.slot ≡ t) × (is_there ts d.slot ≡ false))
  with_due_from [] ts t h = inl h
  with_due_from (d ∷ ds) ts t h = elim (with_due_from ds _ t h) [
    | inl e ↦ elim (added_cases (due d && not (is_there ts d.slot)) ts (begun w d.slot) t e) [
      | inl old ↦ inl old
      | inr new ↦ inr (d, contains_here d ds, and_l _ _ new.0, new.1, not-true (is_there ts d.slot) (and_r (due d) (not (is_there ts d.slot)) new.0))
    ]
    | inr r ↦ inr (
      r.0,
      contains_there d ds r.0 r.1,
      r.2,
      r.3,
      false_from_ne_true (is_there ts r.0.slot) (λ there. both_ways (is_there _ r.0.slot) r.4 (there_more ts _ (added_keeps (due d && not (is_there ts d.slot)) ts (begun w d.slot)) r.0.slot there)),
    )
  ]

  with_due_there : (ds : List Due) (ts : List Standing) (d : Due) → Contains ds d → IsTrue (due d) → IsTrue (is_there (with_due w due ts ds) d.slot)
  with_due_there [] ts d h is = absurd (contains_none d h)
  with_due_there (e ∷ ds) ts d h is = elim (contains_cases e ds d h) [
    | inl same ↦ there_more _ _ (with_due_keeps ds _) d.slot (now same)
    | inr later ↦ with_due_there ds _ d later is
  ]
    where
      here : (b : Bool) → is_there ts d.slot ≡ b → IsTrue (is_there (cond (due d && not (is_there ts d.slot)) (ts ++ begun w d.slot ∷ []) ts) d.slot)
      here true e = there_more _ _ (added_keeps (due d && not (is_there ts d.slot)) ts (begun w d.slot)) d.slot e
      here false e =
          subst (λ b. IsTrue (is_there (cond b (ts ++ begun w d.slot ∷ []) ts) d.slot)) (sym (and_from _ _ is (not_from_false _ e)))
          (some_any (λ t. same_slot t.slot d.slot) _ (begun w d.slot) (Contains-push ts (begun w d.slot)) (same_slot_itself d.slot))

      now : e ≡ d → IsTrue (is_there (cond (due e && not (is_there ts e.slot)) (ts ++ begun w e.slot ∷ []) ts) d.slot)
      now same = subst (λ z. IsTrue (is_there (cond (due z && not (is_there ts z.slot)) (ts ++ begun w z.slot ∷ []) ts) d.slot)) (sym same) (here (is_there ts d.slot) refl)

pub begun_not_fixed : (w : Setting) (a : Slot) → is_fixed (begun w a).stage ≡ false
begun_not_fixed w a = elim (w.owner a.target == a.holder) as (λ b. is_fixed (cond b Heard Asked) ≡ false) [ true ↦ refl | false ↦ refl ]

begun_not_at : (w : Setting) (a : Slot) (p : ℕ) → is_at (begun w a).stage p ≡ false
begun_not_at w a p = elim (w.owner a.target == a.holder) as (λ b. is_at (cond b Heard Asked) p ≡ false) [ true ↦ refl | false ↦ refl ]

fixed_place : (g : Stage) → IsTrue (is_fixed g) → (p : ℕ) × IsTrue (is_at g p)
fixed_place Asked h = absurd (false≢true h)
fixed_place Heard h = absurd (false≢true h)
fixed_place (Answered p) h = absurd (false≢true h)
fixed_place (Told p) h = absurd (false≢true h)
fixed_place (Fixed p) h = (p, eq-eqb p p refl)

-- ---- what is due

pub listed_in_list : (s : State) (k x p : ℕ) → IsTrue (is_listed s k x p) → IsTrue (in_list s x)
listed_in_list s k x p h =
    let r = any_some (λ e. e.sweeper == k && e.object == x && e.place == p) s.own h in
    some_any (λ e. e.object == x) s.own r.0 r.1 (and_r _ _ (and_l _ _ r.2))

-- what each state tells of the one before it, as to what is due
pub record Before (s t : State) : Type 0 where
  pub swept_before : (x : ℕ) → IsTrue (is_swept t x) → IsTrue (is_swept s x)
  pub fixed_before : (a : Standing) → Contains t.slots a → IsTrue (is_fixed a.stage) → (b : Standing) × Contains s.slots b × (b.slot ≡ a.slot) × IsTrue (is_fixed b.stage)

pub opened_before : (w : Setting) (s t : State) → Before s t → (m : Option ℕ) → IsTrue (is_opened w t m) → IsTrue (is_opened w s m)
opened_before w s t b None h = refl
opened_before w s t b (Some x) h = elim (or_cases (has w.older x) (is_swept t x) h) [
  | inl e ↦ or_left (has w.older x) (is_swept s x) e
  | inr e ↦ or_right (has w.older x) (is_swept s x) (b.swept_before x e)
]

pub met_before : (w : Setting) (s t : State) → Before s t → (a : Slot) → IsTrue (is_met w t a) → IsTrue (is_met w s a)
met_before w s t b a h = elim (or_cases _ _ h) [
  | inl e ↦ or_left _ _ e
  | inr e ↦
      let r = any_some (is_fixed_watch a) t.slots e in
      let old = b.fixed_before r.0 r.1 (and_r _ _ r.2) in
      or_right _ _ (some_any (is_fixed_watch a) s.slots old.0 old.1
      (and_from _ _ (subst (λ z. IsTrue (same_slot z a && not (is_keep z.want))) (sym old.2) (and_l _ _ r.2)) old.3))
]

pub due_before : (w : Setting) (s t : State) → Before s t → (d : Due) → IsTrue (is_due w t d) → IsTrue (is_due w s d)
due_before w s t b d h =
    let opened = and_r (is_collected w d.slot.target) (is_opened w t d.member) (and_l _ _ h) in
    let met = all_at (is_met w t) d.watched (and_r _ _ h) in
    and_from _ _ (and_from _ _ (and_l _ _ (and_l _ _ h)) (opened_before w s t b d.member opened)) (all_each (is_met w s) d.watched (λ q c. met_before w s t b q (met q c)))

-- ---- the invariant but for what is due

pub record Base (w : Setting) (s : State) : Type 0 where
  pub entries : (e : Entry) → Contains s.own e → IsTrue (is_sound_entry w e)
  pub objects_once : IsDistinct nat_eq (map (λ e. e.object) s.own)
  pub places_once : IsDistinct nat_eq (map (λ e. e.place) s.own)
  pub placed : (t : Standing) → Contains s.slots t → (p : ℕ) → IsTrue (is_at t.stage p) → IsTrue (is_vouched w s t.slot p)
  pub members : (t : Standing) → Contains s.slots t → IsTrue (is_keep t.slot.want) → IsTrue (has (least (rules_of w)) t.slot.target)
  pub given_kept : (x : ℕ) → IsTrue (has w.given x) → IsTrue (is_collected w x) → IsTrue (is_kept s x)
  pub was_due : (t : Standing) → Contains s.slots t → IsOfDue w s t.slot
  pub kept : (x : ℕ) → IsTrue (in_list s x) → IsTrue (is_kept s x)
  pub slots_once : (t u : Standing) → Contains s.slots t → Contains s.slots u → IsTrue (same_slot t.slot u.slot) → t ≡ u
  pub unswept_listed : (x : ℕ) → IsTrue (has s.unswept x) → IsTrue (in_list s x)

-- the target of a slot is collected
pub target_collected : (w : Setting) (s : State) → Base w s → (t : Standing) → Contains s.slots t → IsTrue (is_collected w t.slot.target)
target_collected w s i t c =
    let r = i.was_due t c in
    subst (λ (z : Slot). IsTrue (is_collected w z.target)) r.slot (and_l _ _ (and_l (is_collected w r.of.slot.target && is_opened w s r.of.member) (list_all (is_met w s) r.of.watched) r.met))

-- a slot stays that of a due which was met
pub of_due : (w : Setting) (s t : State) → Before t s → (a : Slot) → IsOfDue w s a → IsOfDue w t a
of_due w s t b a i = record { of = i.of; known = i.known; slot = i.slot; met = due_before w t s b i.of i.met }

-- what is in a list is in the least set
pub listed_member : (w : Setting) (s : State) → Base w s → (x : ℕ) → IsTrue (in_list s x) → IsTrue (has (least (rules_of w)) x)
listed_member w s i x h =
    let r = any_some (λ t. is_keep t.slot.want && t.slot.target == x) s.slots (i.kept x h) in
    subst (λ z. IsTrue (has (least (rules_of w)) z)) (eqb-true r.0.slot.target x (and_r _ _ r.2)) (i.members r.0 r.1 (and_l _ _ r.2))

older_member : (w : Setting) (x : ℕ) → IsTrue (has w.older x) → IsTrue (has (least (rules_of w)) x)
older_member w x h = facts_there w.older (least (rules_of w)) ((MeetsAll-append (facts w.older) _ (least (rules_of w))).0 (least_meets (rules_of w))).0 x h

opened_member : (w : Setting) (s : State) → Base w s → (m : Option ℕ) → IsTrue (is_opened w s m) → member_list m ⊆ least (rules_of w)
opened_member w s i None h y c = absurd (false≢true c)
opened_member w s i (Some x) h y c =
    elim (or_cases (x == y) false c) [
      | inl e ↦ subst (λ z. IsTrue (has (least (rules_of w)) z)) (eqb-true x y e) (elim (or_cases (has w.older x) (is_swept s x) h) [
        | inl old ↦ older_member w x old
        | inr there ↦ listed_member w s i x (and_l _ _ there)
      ])
      | inr e ↦ absurd (false≢true e)
    ]

pub vouched_cases : (w : Setting) (s : State) (a : Slot) (p : ℕ) → IsTrue (is_vouched w s a p) → IsTrue (is_listed s (w.owner a.target) a.target p) ⊎ (IsTrue (is_keep a.want) × IsTrue (w.believed a.target p))
vouched_cases w s a p h = elim (or_cases (is_listed s (w.owner a.target) a.target p) (is_keep a.want && w.believed a.target p) h) [
  | inl e ↦ inl e
  | inr e ↦ inr (and_l _ _ e, and_r _ _ e)
]

-- what the test on a Watch slot says
record IsFixedWatch (a : Slot) (t : Standing) : Type 0 where
  same : IsTrue (same_slot t.slot a)
  watch : is_keep t.slot.want ≡ false
  place : ℕ
  at : IsTrue (is_at t.stage place)

fixed_watch : (a : Slot) (t : Standing) → IsTrue (is_fixed_watch a t) → IsFixedWatch a t
fixed_watch a t h =
    let p = fixed_place t.stage (and_r (same_slot t.slot a && not (is_keep t.slot.want)) (is_fixed t.stage) h) in
    record {
      same = and_l (same_slot t.slot a) (not (is_keep t.slot.want)) (and_l _ _ h);
      watch = not-true (is_keep t.slot.want) (and_r (same_slot t.slot a) (not (is_keep t.slot.want)) (and_l _ _ h));
      place = p.0;
      at = p.1;
    }

-- a Watch slot that is fixed has its target in a list
fixed_watch_listed : (w : Setting) (s : State) → Base w s → (a : Slot) → IsTrue (list_any (is_fixed_watch a) s.slots) → IsTrue (in_list s a.target)
fixed_watch_listed w s i a h = let r = any_some (is_fixed_watch a) s.slots h in at r.0 r.1 (fixed_watch a r.0 r.2)
  where
    at : (t : Standing) → Contains s.slots t → IsFixedWatch a t → IsTrue (in_list s a.target)
    at t c f = subst (λ z. IsTrue (in_list s z)) (same_slot_target t.slot a f.same)
        (elim (vouched_cases w s t.slot f.place (i.placed t c f.place f.at)) [
          | inl e ↦ listed_in_list s (w.owner t.slot.target) t.slot.target f.place e
          | inr e ↦ absurd (both_ways (is_keep t.slot.want) f.watch e.0)
        ])

met_member : (w : Setting) (s : State) → Base w s → (a : Slot) → IsTrue (is_met w s a) → IsTrue (has (least (rules_of w)) a.target)
met_member w s i a h = elim (or_cases _ _ h) [
  | inl e ↦ older_member w a.target e
  | inr e ↦ listed_member w s i a.target (fixed_watch_listed w s i a e)
]

pub has_append_cases : (xs ys : List ℕ) (x : ℕ) → IsTrue (has (xs ++ ys) x) → IsTrue (has xs x) ⊎ IsTrue (has ys x)
has_append_cases xs ys x h = or_cases (has xs x) (has ys x) (subst IsTrue (list_any-append (λ y. y == x) xs ys) h)

due_member : (w : Setting) (s : State) → Base w s → (d : Due) → Contains w.dues d → IsTrue (keeps d) → IsTrue (is_due w s d) → IsTrue (has (least (rules_of w)) d.slot.target)
due_member w s i d there keep due =
    meets_use (least (rules_of w)) (rule_of d)
    (All-contains (λ r. IsTrue (meets (least (rules_of w)) r)) (rules_of w) (rule_of d) (least_meets (rules_of w))
    (Contains-append_right (facts w.older) _ (rule_of d) (Contains-append_right (facts w.given) _ (rule_of d)
    (some_map rule_of (filter keeps w.dues) d (some_filter keeps w.dues d there keep)))))
    (has_all_from (least (rules_of w)) (rule_of d).premises each)
  where
    each : (rule_of d).premises ⊆ least (rules_of w)
    each y c = elim (has_append_cases (member_list d.member) (map (λ q. q.target) d.watched) y c) [
      | inl e ↦ opened_member w s i d.member (and_r (is_collected w d.slot.target) (is_opened w s d.member) (and_l _ _ due)) y e
      | inr e ↦
          let r = any_some (λ z. z == y) (map (λ q. q.target) d.watched) e in
          let q = map_some (λ (q : Slot). q.target) d.watched r.0 r.1 in
          subst (λ z. IsTrue (has (least (rules_of w)) z)) (q.2 ∙ eqb-true r.0 y r.2)
          (met_member w s i q.0 (all_at (is_met w s) d.watched (and_r _ _ due) q.0 q.1))
    ]

kept_more : (s t : State) → ((a : Standing) → Contains s.slots a → Contains t.slots a) → (x : ℕ) → IsTrue (is_kept s x) → IsTrue (is_kept t x)
kept_more s t sub x h =
    let r = any_some (λ a. is_keep a.slot.want && a.slot.target == x) s.slots h in
    some_any (λ a. is_keep a.slot.want && a.slot.target == x) t.slots r.0 (sub r.0 r.1) r.2

with_slots_adds : (w : Setting) (s : State) → Adds w s (with_slots w s).slots
with_slots_adds w s = record {
  stays = λ t c. with_due_keeps w (is_due w s) w.dues s.slots t c;
  comes = λ t c. with_due_from w (is_due w s) w.dues s.slots t c;
  all = λ d c is. with_due_there w (is_due w s) w.dues s.slots d c is;
}

-- what new slots leave
module _ (w : Setting) (s : State) (ts : List Standing) (h : Adds w s ts) where
  abbrev after_adding : State
  after_adding = record s { slots = ts }

  adds_before : Before s after_adding
  adds_before = record {
    swept_before = λ x l. l;
    fixed_before = λ a c f. elim (h.comes a c) [
      | inl old ↦ (a, old, refl, f)
      | inr new ↦ absurd (both_ways (is_fixed a.stage) (subst (λ (z : Standing). is_fixed z.stage ≡ false) new.3 (begun_not_fixed w new.0.slot)) f)
    ];
  }

  adds_after : Before after_adding s
  adds_after = record { swept_before = λ x l. l; fixed_before = λ a c f. (a, h.stays a c, refl, f) }

  pub adds_once : ((t u : Standing) → Contains s.slots t → Contains s.slots u → IsTrue (same_slot t.slot u.slot) → t ≡ u)
      → (t u : Standing) → Contains ts t → Contains ts u → IsTrue (same_slot t.slot u.slot) → t ≡ u
  adds_once once t u c e same = elim (h.comes t c) [
    | inl old ↦ elim (h.comes u e) [
      | inl too ↦ once t u old too same
      | inr new ↦ absurd (both_ways (is_there s.slots new.0.slot) new.4
          (some_any (λ (z : Standing). same_slot z.slot new.0.slot) s.slots t old (subst (λ (z : Slot). IsTrue (same_slot t.slot z)) (sym (ap (λ (z : Standing). z.slot) new.3)) same)))
    ]
    | inr new ↦ elim (h.comes u e) [
      | inl old ↦ absurd (both_ways (is_there s.slots new.0.slot) new.4
          (some_any (λ (z : Standing). same_slot z.slot new.0.slot) s.slots u old
          (subst (λ (z : Slot). IsTrue (same_slot u.slot z)) (sym (slot_is t.slot u.slot same) ∙ sym (ap (λ (z : Standing). z.slot) new.3)) (same_slot_itself u.slot))))
      | inr too ↦
          sym new.3 ∙ ap (begun w) (ap (λ (z : Standing). z.slot) new.3 ∙ slot_is t.slot u.slot same ∙ sym (ap (λ (z : Standing). z.slot) too.3)) ∙ too.3
    ]
  ]

-- where the rest holds, adding what is due gives the invariant
pub adds_holds : (w : Setting) (s : State) (ts : List Standing) → Base w s → Adds w s ts → Invariant w (record s { slots = ts })
adds_holds w s ts i h = record {
  entries = i.entries;
  objects_once = i.objects_once;
  places_once = i.places_once;
  placed = λ t c p at. elim (h.comes t c) [
    | inl old ↦ i.placed t old p at
    | inr new ↦ absurd (both_ways (is_at t.stage p) (subst (λ (z : Standing). is_at z.stage p ≡ false) new.3 (begun_not_at w new.0.slot p)) at)
  ];
  members = λ t c keep. elim (h.comes t c) [
    | inl old ↦ i.members t old keep
    | inr new ↦ subst (λ (z : Standing). IsTrue (has (least (rules_of w)) z.slot.target)) new.3
        (due_member w s i new.0 new.1 (subst (λ (z : Standing). IsTrue (is_keep z.slot.want)) (sym new.3) keep) new.2)
  ];
  given_kept = λ x g c. kept_more s after h.stays x (i.given_kept x g c);
  due = λ d c is. h.all d c (due_before w s after (adds_before w s ts h) d is);
  was_due = λ t c. elim (h.comes t c) [
    | inl old ↦ of_due w s after (adds_after w s ts h) t.slot (i.was_due t old)
    | inr new ↦ record {
      of = new.0;
      known = Contains-append_right w.past w.dues new.0 new.1;
      slot = ap (λ (z : Standing). z.slot) new.3;
      met = due_before w after s (adds_after w s ts h) new.0 new.2;
    }
  ];
  kept = λ x l. kept_more s after h.stays x (i.kept x l);
  slots_once = adds_once w s ts h i.slots_once;
  unswept_listed = i.unswept_listed;
}
  where
    after : State
    after = record s { slots = ts }

pub with_slots_holds : (w : Setting) (s : State) → Base w s → Invariant w (with_slots w s)
with_slots_holds w s i = adds_holds w s (with_slots w s).slots i (with_slots_adds w s)

pub base_of : (w : Setting) (s : State) → Invariant w s → Base w s
base_of w s i = record {
  entries = i.entries;
  objects_once = i.objects_once;
  places_once = i.places_once;
  placed = i.placed;
  members = i.members;
  given_kept = i.given_kept;
  was_due = i.was_due;
  kept = i.kept;
  slots_once = i.slots_once;
  unswept_listed = i.unswept_listed;
}
