-- What an idle state has, and what it gives to the next phase.
use Rattle.std.proofs.Common.{◌≡◌, ℕ, Bool, true, false, not, ◌||◌, ◌&&◌, ◌==◌, ◌⊎◌, List, [], ◌++◌, map, filter, cond, Contains, IsTrue, refl, sym, subst, ◌∙◌, inl, inr, Option, None, Some}
use Rattle.std.specs.List.{list_any, list_all, IsDistinct}
use Rattle.std.proofs.lemmas.Bool.{or_cases, or_right, or_left, and_from, eqb-true, eq-eqb, cases_Bool, both_ways, not-true, false≢true, not_from_false}
use Rattle.std.proofs.lemmas.List.Folds.{list_any-append}
use Rattle.std.proofs.lemmas.List.Elements.{Contains-append_left, Contains-append_right, Contains-append_cases, All-weaker, All-contains_itself}
use Rattle.trace_types.specs.Rules.{Rule, has, least, IsAmong, facts}
use Rattle.trace_types.proofs.Least.{least_meets, least_induct, least_among, facts_there, MeetsAll-append}
use Rattle.owned_core.specs.Changes.{begins, drops_none, forgets, next_phase, without_watches}
use Rattle.owned_core.specs.Invariants.{HasWatches, Invariant, IsConfirmed, IsIdle, IsOfDue, IsWatchFor, is_vouched, rests}
use Rattle.owned_core.specs.Owned.{Entry, State, in_list, is_due, is_fixed_watch, is_kept, is_met, is_opened, is_swept, nothing_yet, with_slots}
use Rattle.owned_core.specs.Settings.{Setting, all_dues, is_collected, rule_of, rules_of}
use Rattle.owned_core.specs.Slots.{Answered, Asked, Due, Fixed, Heard, Slot, Stage, Standing, Told, is_at, is_fixed, is_keep, keeps, member_list, same_slot}
use Rattle.owned_core.proofs.Adding.{Base, base_of, listed_in_list, listed_member, vouched_cases, with_slots_holds}
use Rattle.owned_core.proofs.Holding.{vouched_listed}
use Rattle.owned_core.proofs.Lists.{all_at, all_each, any_some, contains_none, filter_some, map_some, some_any, some_filter, some_map}
use Rattle.owned_core.proofs.SameSlots.{and_l, and_r, same_slot_keep, same_slot_target, slot_is}

-- ---- at rest

pub in_list_collected : (w : Setting) (s : State) → Invariant w s → (x : ℕ) → IsTrue (in_list s x) → IsTrue (is_collected w x)
in_list_collected w s i x h =
    let r = any_some (λ (e : Entry). e.object == x) s.own h in
    subst (λ z. IsTrue (is_collected w z)) (eqb-true r.0.object x r.2) (and_l _ _ (and_l _ _ (i.entries r.0 r.1)))

module _ (w : Setting) (s : State) (i : Invariant w s) (watches : HasWatches w) (known : IsConfirmed w s) (idle : IsIdle s) where
  rest_keep : (a : Slot) (g : Stage) → IsTrue (rests s a g) → IsTrue (is_keep a.want) → ((p : ℕ) → IsTrue (is_at g p) → IsTrue (is_vouched w s a p)) → IsTrue (in_list s a.target)
  rest_keep a Asked h keep v = absurd (false≢true h)
  rest_keep a Heard h keep v = and_r _ _ (subst (λ b. IsTrue (cond b (not a.has_place && in_list s a.target) (not (in_list s a.target)))) keep h)
  rest_keep a (Answered p) h keep v = absurd (false≢true h)
  rest_keep a (Told p) h keep v = absurd (false≢true h)
  rest_keep a (Fixed p) h keep v = elim (vouched_cases w s a p (v p (eq-eqb p p refl))) [
    | inl listed ↦ listed_in_list s (w.owner a.target) a.target p listed
    | inr believed ↦ listed_in_list s (w.owner a.target) a.target p (known a.target p believed.1)
  ]

  rest_watch : (a : Slot) (g : Stage) → IsTrue (rests s a g) → is_keep a.want ≡ false → IsTrue (in_list s a.target) → IsTrue (is_fixed g)
  rest_watch a Asked h watch l = absurd (false≢true h)
  rest_watch a Heard h watch l = absurd (both_ways (in_list s a.target) (not-true (in_list s a.target) (subst (λ b. IsTrue (cond b (not a.has_place && in_list s a.target) (not (in_list s a.target)))) watch h)) l)
  rest_watch a (Answered p) h watch l = absurd (false≢true h)
  rest_watch a (Told p) h watch l = absurd (false≢true h)
  rest_watch a (Fixed p) h watch l = refl

  -- an older object, or one in a list
  abbrev Reached : ℕ → Type 0
  Reached x = IsTrue (has w.older x) ⊎ IsTrue (in_list s x)

  opened_at : (m : Option ℕ) → ((y : ℕ) → IsTrue (has (member_list m) y) → Reached y) → IsTrue (is_opened w s m)
  opened_at None f = refl
  opened_at (Some x) f = elim (f x (or_left (x == x) false (eq-eqb x x refl))) [
    | inl old ↦ or_left (has w.older x) (is_swept s x) old
    | inr there ↦ or_right (has w.older x) (is_swept s x) (and_from (in_list s x) (not (has s.unswept x)) there (subst (λ u. IsTrue (not (has u x))) (sym idle.all_swept) refl))
  ]

  -- a Watch slot whose target is in a list is fixed
  watch_fixed : (d : Due) → IsTrue (is_opened w s d.member) → (a : Slot) → IsTrue (in_list s a.target) → (v : Due) → Contains w.dues v → IsWatchFor d a v → IsTrue (list_any (is_fixed_watch a) s.slots)
  watch_fixed d opened a there v c f = at r.0 r.1 (subst (λ z. IsTrue (same_slot r.0.slot z)) f.slot r.2)
    where
      open_too : IsTrue (is_opened w s v.member)
      open_too = elim f.member [ inl none ↦ subst (λ m. IsTrue (is_opened w s m)) (sym none) refl | inr same ↦ subst (λ m. IsTrue (is_opened w s m)) (sym same) opened ]

      r : (t : Standing) × Contains s.slots t × IsTrue (same_slot t.slot v.slot)
      r = any_some (λ (t : Standing). same_slot t.slot v.slot) s.slots
          (i.due v c (and_from (is_collected w v.slot.target && is_opened w s v.member) (list_all (is_met w s) v.watched)
          (and_from (is_collected w v.slot.target) (is_opened w s v.member) (subst (λ z. IsTrue (is_collected w z.target)) (sym f.slot) (in_list_collected w s i a.target there)) open_too)
          (subst (λ l. IsTrue (list_all (is_met w s) l)) (sym f.alone) refl)))

      at : (t : Standing) → Contains s.slots t → IsTrue (same_slot t.slot a) → IsTrue (list_any (is_fixed_watch a) s.slots)
      at t c' same =
          let watch' : is_keep t.slot.want ≡ false = same_slot_keep t.slot a same ∙ f.watch in
          let fixed : IsTrue (is_fixed t.stage) = rest_watch t.slot t.stage (idle.all_rest t c') watch' (subst (λ z. IsTrue (in_list s z)) (sym (same_slot_target t.slot a same)) there) in
          some_any (is_fixed_watch a) s.slots t c'
          (and_from (same_slot t.slot a && not (is_keep t.slot.want)) (is_fixed t.stage)
          (and_from (same_slot t.slot a) (not (is_keep t.slot.want)) same (not_from_false (is_keep t.slot.want) watch')) fixed)

  -- what the rule of a Keep slot asks for is reached
  due_reached : (d : Due) → Contains w.dues d → IsTrue (keeps d) → ((y : ℕ) → IsTrue (has (rule_of d).premises y) → Reached y) → Reached d.slot.target
  due_reached d c keep f = elim (cases_Bool (has w.older d.slot.target)) [
    | inl old ↦ inl old
    | inr new ↦ inr (at (not_from_false (has w.older d.slot.target) new))
  ]
    where
      opened : IsTrue (is_opened w s d.member)
      opened = opened_at d.member (λ y h. f y (subst IsTrue (sym (list_any-append (λ z. z == y) (member_list d.member) (map (λ q. q.target) d.watched))) (or_left (has (member_list d.member) y) (has (map (λ q. q.target) d.watched) y) h)))

      met : (q : Slot) → Contains d.watched q → IsTrue (is_met w s q)
      met q in_d =
          elim (f q.target (subst IsTrue (sym (list_any-append (λ z. z == q.target) (member_list d.member) (map (λ r. r.target) d.watched)))
          (or_right (has (member_list d.member) q.target) (has (map (λ r. r.target) d.watched) q.target)
          (some_any (λ z. z == q.target) (map (λ r. r.target) d.watched) q.target (some_map (λ (r : Slot). r.target) d.watched q in_d) (eq-eqb q.target q.target refl))))) [
            | inl old ↦ or_left (has w.older q.target) (list_any (is_fixed_watch q) s.slots) old
            | inr there ↦ elim (watches d c q in_d) [
              | inl old ↦ or_left (has w.older q.target) (list_any (is_fixed_watch q) s.slots) old
              | inr v ↦ or_right (has w.older q.target) (list_any (is_fixed_watch q) s.slots) (watch_fixed d opened q there v.0 v.1 v.2)
            ]
          ]

      at : IsTrue (is_collected w d.slot.target) → IsTrue (in_list s d.slot.target)
      at collected =
          let there = i.due d c (and_from (is_collected w d.slot.target && is_opened w s d.member) (list_all (is_met w s) d.watched)
          (and_from (is_collected w d.slot.target) (is_opened w s d.member) collected opened) (all_each (is_met w s) d.watched met)) in
          let r = any_some (λ (t : Standing). same_slot t.slot d.slot) s.slots there in
          subst (λ z. IsTrue (in_list s z)) (same_slot_target r.0.slot d.slot r.2)
          (rest_keep r.0.slot r.0.stage (idle.all_rest r.0 r.1) (same_slot_keep r.0.slot d.slot r.2 ∙ keep) (i.placed r.0 r.1))

  kept_listed : (x : ℕ) → IsTrue (is_kept s x) → IsTrue (in_list s x)
  kept_listed x h =
      let r = any_some (λ (t : Standing). is_keep t.slot.want && t.slot.target == x) s.slots h in
      subst (λ z. IsTrue (in_list s z)) (eqb-true r.0.slot.target x (and_r _ _ r.2)) (rest_keep r.0.slot r.0.stage (idle.all_rest r.0 r.1) (and_l _ _ r.2) (i.placed r.0 r.1))

  fact_reached : (xs : List ℕ) → ((x : ℕ) → IsTrue (has xs x) → Reached x) → (r : Rule) → Contains (facts xs) r → Reached r.conclusion
  fact_reached xs f r c =
      let m = map_some (λ x. record { premises = []; conclusion = x }) xs r c in
      subst (λ z. Reached z.conclusion) m.2 (f m.0 (some_any (λ z. z == m.0) xs m.0 m.1 (eq-eqb m.0 m.0 refl)))

  member_reached : (x : ℕ) → IsTrue (has (least (rules_of w)) x) → Reached x
  member_reached = least_induct Reached (rules_of w)
      (All-weaker (Contains (rules_of w)) (λ r. ((y : ℕ) → IsTrue (has r.premises y) → Reached y) → Reached r.conclusion) each (rules_of w) (All-contains_itself (rules_of w)))
    where
      each : (r : Rule) → Contains (rules_of w) r → ((y : ℕ) → IsTrue (has r.premises y) → Reached y) → Reached r.conclusion
      each r c f = elim (Contains-append_cases (facts w.older) (facts w.given ++ map rule_of (filter keeps w.dues)) r c) [
        | inl old ↦ fact_reached w.older (λ x h. inl h) r old
        | inr more ↦ elim (Contains-append_cases (facts w.given) (map rule_of (filter keeps w.dues)) r more) [
          | inl given ↦ fact_reached w.given (λ x h. elim (cases_Bool (has w.older x)) [
            | inl old ↦ inl old
            | inr new ↦ inr (kept_listed x (i.given_kept x h (not_from_false (has w.older x) new)))
          ]) r given
          | inr due ↦
              let m = map_some rule_of (filter keeps w.dues) r due in
              let d = filter_some keeps w.dues m.0 m.1 in
              subst (λ (z : Rule). Reached z.conclusion) m.2 (due_reached m.0 d.0 d.1 (λ y h. f y (subst (λ (z : Rule). IsTrue (has z.premises y)) m.2 h)))
        ]
      ]

pub same_tests : (a b : Bool) → (IsTrue a → IsTrue b) → (IsTrue b → IsTrue a) → a ≡ b
same_tests true b f g = sym (f refl)
same_tests false true f g = g refl
same_tests false false f g = refl

-- an idle state has exactly the collected members in its lists
pub idle_exact : (w : Setting) (s : State) → Invariant w s → HasWatches w → IsConfirmed w s → IsIdle s → (x : ℕ) → in_list s x ≡ (is_collected w x && has (least (rules_of w)) x)
idle_exact w s i watches known idle x = same_tests (in_list s x) (is_collected w x && has (least (rules_of w)) x)
    (λ h. and_from (is_collected w x) (has (least (rules_of w)) x) (in_list_collected w s i x h) (listed_member w s (base_of w s i) x h))
    (λ h. elim (member_reached w s i watches known idle x (and_r _ _ h)) [
      | inl old ↦ absurd (both_ways (has w.older x) (not-true (has w.older x) (and_l _ _ h)) old)
      | inr there ↦ there
    ])

-- ---- from phase to phase

module _ (w : Setting) (s : State) (i : Invariant w s) (known : IsConfirmed w s) (dropped : Slot → Bool) (v : Setting) where
  left_kept : (x : ℕ) → IsTrue (is_kept s x) → IsTrue (is_kept (without_watches dropped s) x)
  left_kept x h =
      let r = any_some (λ (t : Standing). is_keep t.slot.want && t.slot.target == x) s.slots h in
      some_any (λ (t : Standing). is_keep t.slot.want && t.slot.target == x) (without_watches dropped s).slots r.0
      (some_filter (λ (t : Standing). is_keep t.slot.want || not (dropped t.slot)) s.slots r.0 r.1 (or_left (is_keep r.0.slot.want) (not (dropped r.0.slot)) (and_l _ _ r.2))) r.2

  left_from : (t : Standing) → Contains (without_watches dropped s).slots t → Contains s.slots t
  left_from t c = (filter_some (λ (t : Standing). is_keep t.slot.want || not (dropped t.slot)) s.slots t c).0

  -- a watched premise that is not taken out stays met
  left_met : (a : Slot) → IsTrue (not (dropped a)) → IsTrue (is_met w s a) → IsTrue (is_met w (without_watches dropped s) a)
  left_met a left h = elim (or_cases (has w.older a.target) (list_any (is_fixed_watch a) s.slots) h) [
    | inl e ↦ or_left (has w.older a.target) (list_any (is_fixed_watch a) (without_watches dropped s).slots) e
    | inr e ↦
        let r = any_some (is_fixed_watch a) s.slots e in
        let same : IsTrue (same_slot r.0.slot a) = and_l (same_slot r.0.slot a) (not (is_keep r.0.slot.want)) (and_l _ (is_fixed r.0.stage) r.2) in
        or_right (has w.older a.target) (list_any (is_fixed_watch a) (without_watches dropped s).slots)
        (some_any (is_fixed_watch a) (without_watches dropped s).slots r.0
        (some_filter (λ (t : Standing). is_keep t.slot.want || not (dropped t.slot)) s.slots r.0 r.1
        (or_right (is_keep r.0.slot.want) (not (dropped r.0.slot)) (subst (λ (z : Slot). IsTrue (not (dropped z))) (sym (slot_is r.0.slot a same)) left))) r.2)
  ]

  left_due : v.past ≡ map (forgets dropped) (all_dues w) → v.older ≡ w.older → (a : Slot) → IsOfDue w s a → (d : Due) × Contains v.past d × (d.slot ≡ a) × IsTrue (is_due v (without_watches dropped s) d)
  left_due past older a o = (
    forgets dropped o.of,
    subst (λ (l : List Due). Contains l (forgets dropped o.of)) (sym past) (some_map (forgets dropped) (all_dues w) o.of o.known),
    o.slot,
    subst (λ (l : List ℕ). IsTrue (is_due (record w { older = l }) (without_watches dropped s) (forgets dropped o.of))) (sym older)
        (and_from (is_collected w o.of.slot.target && is_opened w s o.of.member) (list_all (is_met w (without_watches dropped s)) (filter (λ a. not (dropped a)) o.of.watched))
        (and_l _ _ o.met)
        (all_each (is_met w (without_watches dropped s)) (filter (λ a. not (dropped a)) o.of.watched) (λ b c.
        let f = filter_some (λ (a : Slot). not (dropped a)) o.of.watched b c in
        left_met b f.1 (all_at (is_met w s) o.of.watched (and_r (is_collected w o.of.slot.target && is_opened w s o.of.member) (list_all (is_met w s) o.of.watched) o.met) b f.0)))),
  )

  -- each slot that is left is that of a due of a phase before
  pub phase_past : v.past ≡ map (forgets dropped) (all_dues w) → v.older ≡ w.older → (t : Standing) → Contains (without_watches dropped s).slots t → (d : Due) × Contains v.past d × (d.slot ≡ t.slot) × IsTrue (is_due v (without_watches dropped s) d)
  phase_past past older t c = left_due past older t.slot (i.was_due t (left_from t c))

-- what an idle state gives to the next phase before its slots are added
pub phase_base : (w : Setting) (s : State) (dues : List Due) (given : List ℕ) (believed : ℕ → ℕ → Bool) (dropped : Slot → Bool)
    → Invariant w s → HasWatches w → IsConfirmed w s → IsIdle s
    → ((x : ℕ) → IsTrue (in_list s x) → IsTrue (has (least (rules_of (next_phase w dropped dues given believed))) x))
    → ((x : ℕ) → IsTrue (has given x) → IsTrue (is_collected w x) → IsTrue (has (least (rules_of w)) x))
    → Base (next_phase w dropped dues given believed) (without_watches dropped s)
phase_base w s dues given believed dropped i watches known idle still had = record {
  entries = i.entries;
  objects_once = i.objects_once;
  places_once = i.places_once;
  placed = λ t c p at. vouched_listed v (without_watches dropped s) t.slot p (elim (vouched_cases w s t.slot p (i.placed t (from t c) p at)) [
    | inl listed ↦ listed
    | inr seen ↦ known t.slot.target p seen.1
  ]);
  members = λ t c keep. still t.slot.target (rest_keep w s i watches known idle t.slot t.stage (idle.all_rest t (from t c)) keep (i.placed t (from t c)));
  given_kept = λ x g collected. kept x (i.kept x (elim (member_reached w s i watches known idle x (had x g collected)) [
    | inl old ↦ absurd (both_ways (has w.older x) (not-true (has w.older x) collected) old)
    | inr there ↦ there
  ]));
  was_due = λ t c. let r = phase_past w s i known dropped v refl refl t c in
      record { of = r.0; known = Contains-append_left v.past v.dues r.0 r.1; slot = r.2; met = r.3 };
  kept = λ x h. kept x (i.kept x h);
  slots_once = λ t u c e same. i.slots_once t u (from t c) (from u e) same;
  unswept_listed = i.unswept_listed;
}
  where
    v : Setting
    v = next_phase w dropped dues given believed

    from : (t : Standing) → Contains (without_watches dropped s).slots t → Contains s.slots t
    from = left_from w s i known dropped v

    kept : (x : ℕ) → IsTrue (is_kept s x) → IsTrue (is_kept (without_watches dropped s) x)
    kept = left_kept w s i known dropped v

pub phase_holds : (w : Setting) (s : State) (dues : List Due) (given : List ℕ) (believed : ℕ → ℕ → Bool) (dropped : Slot → Bool)
    → Invariant w s → HasWatches w → IsConfirmed w s → IsIdle s
    → ((x : ℕ) → IsTrue (in_list s x) → IsTrue (has (least (rules_of (next_phase w dropped dues given believed))) x))
    → ((x : ℕ) → IsTrue (has given x) → IsTrue (is_collected w x) → IsTrue (has (least (rules_of w)) x))
    → Invariant (next_phase w dropped dues given believed) (begins (next_phase w dropped dues given believed) dropped s)
phase_holds w s dues given believed dropped i watches known idle still had =
    with_slots_holds (next_phase w dropped dues given believed) (without_watches dropped s) (phase_base w s dues given believed dropped i watches known idle still had)

-- a first phase, with nothing in the lists
pub start_holds : (w : Setting) → w.given ≡ [] → Invariant w (with_slots w nothing_yet)
unfolding IsDistinct
start_holds w none = with_slots_holds w nothing_yet (record {
  entries = λ e c. absurd (contains_none e c);
  objects_once = tt;
  places_once = tt;
  placed = λ t c. absurd (contains_none t c);
  members = λ t c. absurd (contains_none t c);
  given_kept = λ x g c. absurd (false≢true (subst (λ (l : List ℕ). IsTrue (has l x)) none g));
  was_due = λ t c. absurd (contains_none t c);
  kept = λ x h. absurd (false≢true h);
  slots_once = λ t u c. absurd (contains_none t c);
  unswept_listed = λ x h. absurd (false≢true h);
})

pub more_rules : (w : Setting) (s : State) (more : List Due) (believed : ℕ → ℕ → Bool)
    → Invariant w s → HasWatches w → IsConfirmed w s → IsIdle s
    → Invariant (next_phase w drops_none (w.dues ++ more) w.given believed) (begins (next_phase w drops_none (w.dues ++ more) w.given believed) drops_none s)
more_rules w s more believed i watches known idle = phase_holds w s (w.dues ++ more) w.given believed drops_none i watches known idle
    (λ x h. least_among (rules_of w) (rules_of v) among x (listed_member w s (base_of w s i) x h))
    (λ x g c. facts_there w.given (least (rules_of w))
    ((MeetsAll-append (facts w.given) (map rule_of (filter keeps w.dues)) (least (rules_of w))).0
    ((MeetsAll-append (facts w.older) (facts w.given ++ map rule_of (filter keeps w.dues)) (least (rules_of w))).0 (least_meets (rules_of w))).1).0 x g)
  where
    v : Setting
    v = next_phase w drops_none (w.dues ++ more) w.given believed

    among : IsAmong (rules_of w) (rules_of v)
    among r c = elim (Contains-append_cases (facts w.older) (facts w.given ++ map rule_of (filter keeps w.dues)) r c) [
      | inl old ↦ Contains-append_left (facts w.older) (facts w.given ++ map rule_of (filter keeps (w.dues ++ more))) r old
      | inr rest ↦ Contains-append_right (facts w.older) (facts w.given ++ map rule_of (filter keeps (w.dues ++ more))) r
          (elim (Contains-append_cases (facts w.given) (map rule_of (filter keeps w.dues)) r rest) [
            | inl given ↦ Contains-append_left (facts w.given) (map rule_of (filter keeps (w.dues ++ more))) r given
            | inr due ↦ Contains-append_right (facts w.given) (map rule_of (filter keeps (w.dues ++ more))) r
                (let m = map_some rule_of (filter keeps w.dues) r due in
                let f = filter_some keeps w.dues m.0 m.1 in
                subst (λ z. Contains (map rule_of (filter keeps (w.dues ++ more))) z) m.2
                (some_map rule_of (filter keeps (w.dues ++ more)) m.0 (some_filter keeps (w.dues ++ more) m.0 (Contains-append_left w.dues more m.0 f.0) f.1)))
          ])
    ]

pub given_keeps : (w : Setting) (s : State) (dues : List Due) (believed : ℕ → ℕ → Bool) (dropped : Slot → Bool)
    → Invariant w s → HasWatches w → IsConfirmed w s → IsIdle s
    → Invariant (next_phase w dropped dues (least (rules_of w)) believed) (begins (next_phase w dropped dues (least (rules_of w)) believed) dropped s)
given_keeps w s dues believed dropped i watches known idle = phase_holds w s dues (least (rules_of w)) believed dropped i watches known idle
    (λ x h. facts_there (least (rules_of w)) (least (rules_of v))
    ((MeetsAll-append (facts (least (rules_of w))) (map rule_of (filter keeps dues)) (least (rules_of v))).0
    ((MeetsAll-append (facts w.older) (facts (least (rules_of w)) ++ map rule_of (filter keeps dues)) (least (rules_of v))).0 (least_meets (rules_of v))).1).0
    x (listed_member w s (base_of w s i) x h))
    (λ x g c. g)
  where
    v : Setting
    v = next_phase w dropped dues (least (rules_of w)) believed
