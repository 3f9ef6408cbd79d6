-- The rank falls at every event.
use Rattle.std.proofs.Common.{◌≡◌, ℕ, ◌+◌, ◌*◌, ◌<◌, ◌≤◌, Bool, true, false, not, ◌||◌, ◌&&◌, ◌==◌, List, [], ◌∷◌, map, length, cond, Contains, IsTrue, refl, sym, ap, subst, ◌∙◌, inl, inr, Option, None, Some, arith}
use Rattle.std.specs.List.{list_any}
use Rattle.std.proofs.lemmas.Bool.{or_left, or_right, eqb-true, eq-eqb, cases_Bool, both_ways, not-true, false≢true, or_parts}
use Rattle.std.proofs.lemmas.List.Folds.{list_any-append}
use Rattle.trace_types.specs.Rules.{has}
use Rattle.owned_core.specs.Events.{Adds, Answer, Becomes, Deliver, Event, Fix, Forward, Learn, Reaches, Sweep, after_answer, after_delivery, after_fix, after_learning, can_happen, delivered, forwarded, is_heard_keep, is_sent, may_answer, may_deliver, may_fix, may_forward, may_learn, moved, swept}
use Rattle.owned_core.specs.Invariants.{Invariant}
use Rattle.owned_core.specs.Owned.{Entry, State, in_list, is_kept, is_there}
use Rattle.owned_core.specs.Ranks.{Covers, Works, deliveries, message_rank, messages, object_rank, rank, slot_rank, stage_of, sum_over}
use Rattle.owned_core.specs.Settings.{HasPlaces, Setting}
use Rattle.owned_core.specs.Slots.{Answered, Asked, Fixed, Heard, Slot, Stage, Standing, Told, is_asked, is_heard, is_keep, is_told_at, same_slot}
use Rattle.owned_core.proofs.Adding.{adds_once}
use Rattle.owned_core.proofs.Holding.{at_stage, either, step_holds}
use Rattle.owned_core.proofs.Lists.{any_some, contains_cases, contains_here, contains_none, contains_there, map_some, some_any, some_map}
use Rattle.owned_core.proofs.Parts.{has_filter}
use Rattle.owned_core.proofs.SameSlots.{and_l, and_r, same_slot_itself, slot_is}

-- ---- sums

pub sum_less : (f g : Slot → ℕ) → ((a : Slot) → f a ≤ g a) → (names : List Slot) → sum_over f names ≤ sum_over g names
sum_less f g h [] = omega arith
sum_less f g h (a ∷ rest) = omega (arith, h a, sum_less f g h rest)

pub sum_falls : (f g : Slot → ℕ) → ((a : Slot) → f a ≤ g a) → (names : List Slot) (b : Slot) → Contains names b → f b < g b → sum_over f names < sum_over g names
sum_falls f g h [] b c less = absurd (contains_none b c)
sum_falls f g h (a ∷ rest) b c less = elim (contains_cases a rest b c) [
  | inl e ↦ let first : f a < g a = subst (λ z. f z < g z) (sym e) less in omega (arith, first, sum_less f g h rest)
  | inr e ↦ let later = sum_falls f g h rest b e less in omega (arith, h a, later)
]

sum_within : (f : Slot → ℕ) (top : ℕ) → ((a : Slot) → f a ≤ top) → (names : List Slot) → sum_over f names ≤ top * length names
sum_within f top h [] = omega arith
sum_within f top h (a ∷ rest) = omega (arith, h a, sum_within f top h rest)

-- ---- what is found of a slot

abbrev Once : List Standing → Type 0
Once ts = (t u : Standing) → Contains ts t → Contains ts u → IsTrue (same_slot t.slot u.slot) → t ≡ u

found : (ts : List Standing) → Once ts → (t : Standing) → Contains ts t → (a : Slot) → IsTrue (same_slot t.slot a) → stage_of ts a ≡ Some t.stage
found [] once t c a same = absurd (contains_none t c)
found (u ∷ ts) once t c a same = elim (cases_Bool (same_slot u.slot a)) [
  | inl is ↦
      let alike : IsTrue (same_slot u.slot t.slot) = subst (λ (z : Slot). IsTrue (same_slot u.slot z)) (slot_is u.slot a is ∙ sym (slot_is t.slot a same)) (same_slot_itself u.slot) in
      let e : u ≡ t = once u t (contains_here u ts) c alike in
      ap (λ b. cond b (Some u.stage) (stage_of ts a)) is ∙ ap (λ (z : Standing). Some z.stage) e
  | inr other ↦
      ap (λ b. cond b (Some u.stage) (stage_of ts a)) other
      ∙ elim (contains_cases u ts t c) [
        | inl e ↦ absurd (both_ways (same_slot u.slot a) other (subst (λ (z : Standing). IsTrue (same_slot z.slot a)) (sym e) same))
        | inr later ↦ found ts (λ x y i j. once x y (contains_there u ts x i) (contains_there u ts y j)) t later a same
      ]
]

missing : (ts : List Standing) (a : Slot) → is_there ts a ≡ false → stage_of ts a ≡ None
missing [] a h = refl
missing (t ∷ ts) a h =
    let parts = or_parts (same_slot t.slot a) (is_there ts a) h in
    ap (λ b. cond b (Some t.stage) (stage_of ts a)) parts.0 ∙ missing ts a parts.1

-- ---- slots that go to a stage, and new ones

module _ (f : Option Stage → ℕ) where
  moved_less : (to : Standing → Stage) → ((t : Standing) → f (Some (to t)) ≤ f (Some t.stage)) → (ts : List Standing) (a : Slot) → f (stage_of (map (at_stage to) ts) a) ≤ f (stage_of ts a)
  moved_less to h [] a = omega arith
  moved_less to h (t ∷ ts) a = elim (same_slot t.slot a) as (λ b. f (cond b (Some (to t)) (stage_of (map (at_stage to) ts) a)) ≤ f (cond b (Some t.stage) (stage_of ts a))) [
    | true ↦ h t
    | false ↦ moved_less to h ts a
  ]

  adds_less : ((g : Option Stage) → f g ≤ f None) → (w : Setting) (s : State) (ts : List Standing) → Adds w s ts → Once s.slots → (a : Slot) → f (stage_of ts a) ≤ f (stage_of s.slots a)
  adds_less top w s ts h once a = elim (cases_Bool (is_there s.slots a)) [
    | inl there ↦
        let r = any_some (λ (t : Standing). same_slot t.slot a) s.slots there in
        let same : stage_of ts a ≡ stage_of s.slots a =
        found ts (adds_once w s ts h once) r.0 (h.stays r.0 r.1) a r.2 ∙ sym (found s.slots once r.0 r.1 a r.2) in
        subst (λ g. f (stage_of ts a) ≤ f g) same (omega arith)
    | inr absent ↦ subst (λ g. f (stage_of ts a) ≤ f g) (sym (missing s.slots a absent)) (top (stage_of ts a))
  ]

once_moved : (s : State) (to : Standing → Stage) → Once s.slots → Once (moved s to).slots
once_moved s to once t u c e same =
    let r = map_some (at_stage to) s.slots t c in
    let q = map_some (at_stage to) s.slots u e in
    sym r.2 ∙ ap (at_stage to) (once r.0 q.0 r.1 q.1
    (subst (λ (z : Standing). IsTrue (same_slot r.0.slot z.slot)) (sym q.2) (subst (λ (z : Standing). IsTrue (same_slot z.slot u.slot)) (sym r.2) same))) ∙ q.2

-- ---- a measure of stages that no event makes rise

record IsLowered (f : Option Stage → ℕ) : Type 0 where
  top : (g : Option Stage) → f g ≤ f None
  delivery : (g : Stage) → f (Some (delivered g)) ≤ f (Some g)
  answer : (p : ℕ) → f (Some (Answered p)) ≤ f (Some Heard)
  told : (p : ℕ) → f (Some (Told p)) ≤ f (Some Heard)
  learnt : (p : ℕ) → f (Some (Told p)) ≤ f (Some Asked)
  fixed : (p : ℕ) → f (Some (Fixed p)) ≤ f (Some (Told p))

-- the choice between two stages is no more than a third
chosen_less : (f : Option Stage → ℕ) (b : Bool) (g h i : Stage) → (IsTrue b → f (Some g) ≤ f (Some i)) → f (Some h) ≤ f (Some i) → f (Some (cond b g h)) ≤ f (Some i)
chosen_less f true g h i x y = x refl
chosen_less f false g h i x y = y

heard_is : (g : Stage) → IsTrue (is_heard g) → g ≡ Heard
heard_is Asked h = absurd (false≢true h)
heard_is Heard h = refl
heard_is (Answered p) h = absurd (false≢true h)
heard_is (Told p) h = absurd (false≢true h)
heard_is (Fixed p) h = absurd (false≢true h)

asked_is : (g : Stage) → IsTrue (is_asked g) → g ≡ Asked
asked_is Asked h = refl
asked_is Heard h = absurd (false≢true h)
asked_is (Answered p) h = absurd (false≢true h)
asked_is (Told p) h = absurd (false≢true h)
asked_is (Fixed p) h = absurd (false≢true h)

told_is : (g : Stage) (p : ℕ) → IsTrue (is_told_at g p) → g ≡ Told p
told_is Asked p h = absurd (false≢true h)
told_is Heard p h = absurd (false≢true h)
told_is (Answered q) p h = absurd (false≢true h)
told_is (Told q) p h = ap (λ z. Told z) (sym (eqb-true p q h))
told_is (Fixed q) p h = absurd (false≢true h)

module _ (f : Option Stage → ℕ) (low : IsLowered f) where
  same_stage : (g : Stage) → f (Some g) ≤ f (Some g)
  same_stage g = omega arith

  answer_less : (w : Setting) (s : State) (k : ℕ) (a : Slot) (p : ℕ) (t : Standing) → f (Some (after_answer w s k a p t)) ≤ f (Some t.stage)
  answer_less w s k a p t = chosen_less f (may_answer w s k a p t) (cond (t.slot.holder == k) (Told p) (Answered p)) t.stage t.stage
      (λ may. let heard : IsTrue (is_heard t.stage) = search (and_l, and_r) in
      subst (λ g. f (Some (cond (t.slot.holder == k) (Told p) (Answered p))) ≤ f (Some g)) (sym (heard_is t.stage heard))
      (chosen_less f (t.slot.holder == k) (Told p) (Answered p) Heard (λ _. low.told p) (low.answer p)))
      (same_stage t.stage)

  fix_less : (k : ℕ) (a : Slot) (p : ℕ) (t : Standing) → f (Some (after_fix k a p t)) ≤ f (Some t.stage)
  fix_less k a p t = chosen_less f (may_fix k a p t) (Fixed p) t.stage t.stage
      (λ may. let told : IsTrue (is_told_at t.stage p) = search (and_l, and_r) in
      subst (λ g. f (Some (Fixed p)) ≤ f (Some g)) (sym (told_is t.stage p told)) (low.fixed p))
      (same_stage t.stage)

  deliver_less : (a : Slot) (t : Standing) → f (Some (after_delivery a t)) ≤ f (Some t.stage)
  deliver_less a t = chosen_less f (same_slot t.slot a) (delivered t.stage) t.stage t.stage (λ _. low.delivery t.stage) (same_stage t.stage)

  learn_less : (w : Setting) (s : State) (k : ℕ) (a : Slot) (p : ℕ) (t : Standing) → f (Some (after_learning w s k a p t)) ≤ f (Some t.stage)
  learn_less w s k a p t = chosen_less f (may_learn w s k a p t) (Told p) t.stage t.stage
      (λ may. let asked : IsTrue (is_asked t.stage) = search (and_l, and_r) in
      subst (λ g. f (Some (Told p)) ≤ f (Some g)) (sym (asked_is t.stage asked)) (low.learnt p))
      (same_stage t.stage)

  -- no event makes it rise
  stages_less : (w : Setting) (s t : State) (e : Event) → Once s.slots → Becomes w s e t → (a : Slot) → f (stage_of t.slots a) ≤ f (stage_of s.slots a)
  stages_less w s t (Forward k x p) once b a = subst (λ (z : State). f (stage_of z.slots a) ≤ f (stage_of s.slots a)) (sym b)
      (either (may_forward w s k x p) (forwarded s k x p) s (λ z. f (stage_of z.slots a) ≤ f (stage_of s.slots a)) (λ _. omega arith) (omega arith))
  stages_less w s t (Sweep k x) once b a = subst (λ (z : State). f (stage_of z.slots a) ≤ f (stage_of s.slots a)) (sym b.3)
      (adds_less f low.top w (swept s x) b.0 b.2 once a)
  stages_less w s t (Answer k c p) once b a = subst (λ (z : State). f (stage_of z.slots a) ≤ f (stage_of s.slots a)) (sym b)
      (moved_less f (after_answer w s k c p) (answer_less w s k c p) s.slots a)
  stages_less w s t (Fix k c p) once b a = subst (λ (z : State). f (stage_of z.slots a) ≤ f (stage_of s.slots a)) (sym b.2)
      (omega (
        arith,
        adds_less f low.top w (moved s (after_fix k c p)) b.0 b.1 (once_moved s (after_fix k c p) once) a,
        moved_less f (after_fix k c p) (fix_less k c p) s.slots a,
      ))
  stages_less w s t (Deliver c) once b a = subst (λ (z : State). f (stage_of z.slots a) ≤ f (stage_of s.slots a)) (sym b)
      (moved_less f (after_delivery c) (deliver_less c) s.slots a)
  stages_less w s t (Learn k c p) once b a = subst (λ (z : State). f (stage_of z.slots a) ≤ f (stage_of s.slots a)) (sym b)
      (moved_less f (after_learning w s k c p) (learn_less w s k c p) s.slots a)

-- a slot that goes to a lower stage
moved_falls : (f : Option Stage → ℕ) (s : State) (to : Standing → Stage) → Once s.slots → (t : Standing) → Contains s.slots t → f (Some (to t)) < f (Some t.stage)
    → f (stage_of (moved s to).slots t.slot) < f (stage_of s.slots t.slot)
moved_falls f s to once t c less =
    subst (λ g. f g < f (stage_of s.slots t.slot)) (sym (found (moved s to).slots (once_moved s to once) (at_stage to t) (some_map (at_stage to) s.slots t c) t.slot (same_slot_itself t.slot)))
    (subst (λ g. f (Some (to t)) < f g) (sym (found s.slots once t c t.slot (same_slot_itself t.slot))) less)

-- ---- objects

in_list_forwarded : (s : State) (k x p y : ℕ) → in_list (forwarded s k x p) y ≡ (in_list s y || (x == y || false))
in_list_forwarded s k x p y = list_any-append (λ (e : Entry). e.object == y) s.own (record { sweeper = k; object = x; place = p } ∷ [])

unswept_forwarded : (s : State) (k x p y : ℕ) → has (forwarded s k x p).unswept y ≡ (has s.unswept y || (x == y || false))
unswept_forwarded s k x p y = list_any-append (λ z. z == y) s.unswept (x ∷ [])

-- the rank of an object by whether it is in a list, and unswept
abbrev rank_by : Bool → Bool → ℕ
rank_by listed unswept = cond listed (cond unswept 1 0) 2

forward_by : (listed unswept b : Bool) → (b ≡ true → listed ≡ false) → rank_by (listed || (b || false)) (unswept || (b || false)) ≤ rank_by listed unswept
forward_by true true true h = absurd (false≢true (sym (h refl)))
forward_by true false true h = absurd (false≢true (sym (h refl)))
forward_by true true false h = omega arith
forward_by true false false h = omega arith
forward_by false true true h = omega arith
forward_by false false true h = omega arith
forward_by false true false h = omega arith
forward_by false false false h = omega arith

forward_less : (s : State) (k x p : ℕ) → in_list s x ≡ false → (y : ℕ) → object_rank (forwarded s k x p) y ≤ object_rank s y
forward_less s k x p new y =
    subst (λ b. rank_by b (has (forwarded s k x p).unswept y) ≤ object_rank s y) (sym (in_list_forwarded s k x p y))
    (subst (λ b. rank_by (in_list s y || (x == y || false)) b ≤ object_rank s y) (sym (unswept_forwarded s k x p y))
    (forward_by (in_list s y) (has s.unswept y) (x == y) (λ e. subst (λ z. in_list s z ≡ false) (eqb-true x y e) new)))

forward_falls : (s : State) (k x p : ℕ) → in_list s x ≡ false → object_rank (forwarded s k x p) x < object_rank s x
forward_falls s k x p new =
    subst (λ b. rank_by b (has (forwarded s k x p).unswept x) < object_rank s x) (sym (in_list_forwarded s k x p x ∙ both_new (in_list s x)))
    (subst (λ b. rank_by true b < object_rank s x) (sym (unswept_forwarded s k x p x ∙ both_new (has s.unswept x)))
    (subst (λ b. 1 < rank_by b (has s.unswept x)) (sym new) (omega arith)))
  where
    both_new : (b : Bool) → (b || (x == x || false)) ≡ true
    both_new b = or_right b (x == x || false) (or_left (x == x) false (eq-eqb x x refl))

sweep_by : (listed unswept b : Bool) → rank_by listed (unswept && not b) ≤ rank_by listed unswept
sweep_by true true true = omega arith
sweep_by true true false = omega arith
sweep_by true false b = omega arith
sweep_by false true b = omega arith
sweep_by false false b = omega arith

sweep_less : (s : State) (x y : ℕ) → object_rank (swept s x) y ≤ object_rank s y
sweep_less s x y = subst (λ b. rank_by (in_list s y) b ≤ object_rank s y) (sym (has_filter x s.unswept y)) (sweep_by (in_list s y) (has s.unswept y) (y == x))

sweep_falls : (s : State) (x : ℕ) → IsTrue (in_list s x) → IsTrue (has s.unswept x) → object_rank (swept s x) x < object_rank s x
sweep_falls s x listed unswept =
    subst (λ b. rank_by (in_list s x) b < object_rank s x) (sym (has_filter x s.unswept x ∙ gone))
    (subst (λ b. rank_by b false < rank_by b (has s.unswept x)) (sym listed) (subst (λ b. 0 < rank_by true b) (sym unswept) (omega arith)))
  where
    gone : (has s.unswept x && not (x == x)) ≡ false
    gone = ap (λ b. has s.unswept x && not b) (eq-eqb x x refl) ∙ and_false (has s.unswept x)
      where
        and_false : (b : Bool) → (b && false) ≡ false
        and_false true = refl
        and_false false = refl

objects_less : (w : Setting) (s t : State) (e : Event) → Becomes w s e t → (y : ℕ) → object_rank t y ≤ object_rank s y
objects_less w s t (Forward k x p) b y = subst (λ z. object_rank z y ≤ object_rank s y) (sym b)
    (either (may_forward w s k x p) (forwarded s k x p) s (λ z. object_rank z y ≤ object_rank s y) (λ may. forward_less s k x p (not-true (in_list s x) (search (and_l, and_r))) y) (omega arith))
objects_less w s t (Sweep k x) b y = subst (λ (z : State). object_rank z y ≤ object_rank s y) (sym b.3) (sweep_less s x y)
objects_less w s t (Answer k a p) b y = subst (λ (z : State). object_rank z y ≤ object_rank s y) (sym b) (omega arith)
objects_less w s t (Fix k a p) b y = subst (λ (z : State). object_rank z y ≤ object_rank s y) (sym b.2) (omega arith)
objects_less w s t (Deliver a) b y = subst (λ (z : State). object_rank z y ≤ object_rank s y) (sym b) (omega arith)
objects_less w s t (Learn k a p) b y = subst (λ (z : State). object_rank z y ≤ object_rank s y) (sym b) (omega arith)

-- ---- the two measures

rank_lowered : IsLowered slot_rank
rank_lowered = record { top = top; delivery = delivery; answer = λ p. omega arith; told = λ p. omega arith; learnt = λ p. omega arith; fixed = λ p. omega arith }
  where
    top : (g : Option Stage) → slot_rank g ≤ slot_rank None
    top None = omega arith
    top (Some Asked) = omega arith
    top (Some Heard) = omega arith
    top (Some (Answered p)) = omega arith
    top (Some (Told p)) = omega arith
    top (Some (Fixed p)) = omega arith

    delivery : (g : Stage) → slot_rank (Some (delivered g)) ≤ slot_rank (Some g)
    delivery Asked = omega arith
    delivery Heard = omega arith
    delivery (Answered p) = omega arith
    delivery (Told p) = omega arith
    delivery (Fixed p) = omega arith

messages_lowered : IsLowered message_rank
messages_lowered = record { top = top; delivery = delivery; answer = λ p. omega arith; told = λ p. omega arith; learnt = λ p. omega arith; fixed = λ p. omega arith }
  where
    top : (g : Option Stage) → message_rank g ≤ message_rank None
    top None = omega arith
    top (Some Asked) = omega arith
    top (Some Heard) = omega arith
    top (Some (Answered p)) = omega arith
    top (Some (Told p)) = omega arith
    top (Some (Fixed p)) = omega arith

    delivery : (g : Stage) → message_rank (Some (delivered g)) ≤ message_rank (Some g)
    delivery Asked = omega arith
    delivery Heard = omega arith
    delivery (Answered p) = omega arith
    delivery (Told p) = omega arith
    delivery (Fixed p) = omega arith

object_top : (s : State) (x : ℕ) → object_rank s x ≤ 2
object_top s x = by (in_list s x) (has s.unswept x)
  where
    by : (listed unswept : Bool) → rank_by listed unswept ≤ 2
    by true true = omega arith
    by true false = omega arith
    by false b = omega arith

abbrev pub left_for : State → Slot → ℕ
left_for s a = slot_rank (stage_of s.slots a) + object_rank s a.target

each_less : (w : Setting) (s t : State) (e : Event) → Once s.slots → Becomes w s e t → (a : Slot) → left_for t a ≤ left_for s a
each_less w s t e once b a = omega (arith, stages_less slot_rank rank_lowered w s t e once b a, objects_less w s t e b a.target)

pub rank_top : (names : List Slot) (s : State) → rank names s ≤ 7 * length names
rank_top names s = sum_within (left_for s) 7 (λ a. omega (arith, rank_lowered.top (stage_of s.slots a), object_top s a.target)) names

pub messages_top : (names : List Slot) (s : State) → messages names s ≤ 2 * length names
messages_top names s = sum_within (λ a. message_rank (stage_of s.slots a)) 2 (λ a. messages_lowered.top (stage_of s.slots a)) names

-- ---- each event

-- the name of a slot that is there is among the names
named : (w : Setting) (names : List Slot) → Covers w names → (s : State) → Invariant w s → (t : Standing) → Contains s.slots t → Contains names t.slot
named w names covers s i t c = let o = i.was_due t c in subst (λ (z : Slot). Contains names z) o.slot (covers o.of o.known)

-- the target of a Keep slot is the target of a name
kept_named : (w : Setting) (names : List Slot) → Covers w names → (s : State) → Invariant w s → (x : ℕ) → IsTrue (is_kept s x) → (a : Slot) × Contains names a × (a.target ≡ x)
kept_named w names covers s i x h =
    let r = any_some (λ (t : Standing). is_keep t.slot.want && t.slot.target == x) s.slots h in
    (r.0.slot, named w names covers s i r.0 r.1, eqb-true r.0.slot.target x (and_r _ _ r.2))

delivery_falls : (g : Stage) → IsTrue (is_sent g) → slot_rank (Some (delivered g)) < slot_rank (Some g)
delivery_falls Asked h = omega arith
delivery_falls Heard h = absurd (false≢true h)
delivery_falls (Answered p) h = omega arith
delivery_falls (Told p) h = absurd (false≢true h)
delivery_falls (Fixed p) h = absurd (false≢true h)

message_falls : (g : Stage) → IsTrue (is_sent g) → message_rank (Some (delivered g)) < message_rank (Some g)
message_falls Asked h = omega arith
message_falls Heard h = absurd (false≢true h)
message_falls (Answered p) h = omega arith
message_falls (Told p) h = absurd (false≢true h)
message_falls (Fixed p) h = absurd (false≢true h)

module _ (w : Setting) (names : List Slot) (covers : Covers w names) (s : State) (i : Invariant w s) where
  -- a slot that went lower makes the rank fall
  by_slot : (t : State) (e : Event) → Becomes w s e t → (u : Standing) → Contains s.slots u → slot_rank (stage_of t.slots u.slot) < slot_rank (stage_of s.slots u.slot) → rank names t < rank names s
  by_slot t e b u c less = sum_falls (left_for t) (left_for s) (each_less w s t e i.slots_once b) names u.slot (named w names covers s i u c)
      (omega (arith, less, objects_less w s t e b u.slot.target))

  -- and so does an object
  by_object : (t : State) (e : Event) → Becomes w s e t → (x : ℕ) → IsTrue (is_kept s x) → object_rank t x < object_rank s x → rank names t < rank names s
  by_object t e b x kept less =
      let r = kept_named w names covers s i x kept in
      let here : object_rank t r.0.target < object_rank s r.0.target = subst (λ z. object_rank t z < object_rank s z) (sym r.2) less in
      sum_falls (left_for t) (left_for s) (each_less w s t e i.slots_once b) names r.0 r.1
      (omega (arith, here, stages_less slot_rank rank_lowered w s t e i.slots_once b r.0))

  chosen_falls : (b : Bool) (g h k : Stage) → IsTrue b → slot_rank (Some g) < slot_rank (Some k) → slot_rank (Some (cond b g h)) < slot_rank (Some k)
  chosen_falls true g h k is less = less
  chosen_falls false g h k is less = absurd (false≢true is)

  falls : (t : State) (e : Event) → Becomes w s e t → IsTrue (can_happen w s e) → rank names t < rank names s
  falls t (Forward k x p) b may = by_object t (Forward k x p) b x kept
      (subst (λ z. object_rank z x < object_rank s x) (sym (b ∙ ap (λ c. cond c (forwarded s k x p) s) may)) (forward_falls s k x p (not-true (in_list s x) (search (and_l, and_r)))))
    where
      kept : IsTrue (is_kept s x)
      kept =
          let heard : IsTrue (list_any (is_heard_keep x) s.slots) = search (and_l, and_r) in
          let r = any_some (is_heard_keep x) s.slots heard in
          some_any (λ (t : Standing). is_keep t.slot.want && t.slot.target == x) s.slots r.0 r.1 (and_l _ _ r.2)
  falls t (Sweep k x) b may =
      let unswept : IsTrue (has s.unswept x) = and_r _ _ may in
      let listed = i.unswept_listed x unswept in
      by_object t (Sweep k x) b x (i.kept x listed) (subst (λ (z : State). object_rank z x < object_rank s x) (sym b.3) (sweep_falls s x listed unswept))
  falls t (Answer k a p) b may = at r.0 r.1 r.2
    where
      r : (u : Standing) × Contains s.slots u × IsTrue (may_answer w s k a p u)
      r = any_some (may_answer w s k a p) s.slots may

      at : (u : Standing) → Contains s.slots u → IsTrue (may_answer w s k a p u) → rank names t < rank names s
      at u c may_u =
          let heard : IsTrue (is_heard u.stage) = search (and_l, and_r) in
          by_slot t (Answer k a p) b u c (subst (λ (z : State). slot_rank (stage_of z.slots u.slot) < slot_rank (stage_of s.slots u.slot)) (sym b)
          (moved_falls slot_rank s (after_answer w s k a p) i.slots_once u c
          (subst (λ g. slot_rank (Some (after_answer w s k a p u)) < slot_rank (Some g)) (sym (heard_is u.stage heard))
          (chosen_falls (may_answer w s k a p u) (cond (u.slot.holder == k) (Told p) (Answered p)) u.stage Heard may_u (lower (u.slot.holder == k))))))
        where
          lower : (b : Bool) → slot_rank (Some (cond b (Told p) (Answered p))) < slot_rank (Some Heard)
          lower true = omega arith
          lower false = omega arith
  falls t (Fix k a p) b may = at r.0 r.1 r.2
    where
      r : (u : Standing) × Contains s.slots u × IsTrue (may_fix k a p u)
      r = any_some (may_fix k a p) s.slots may

      at : (u : Standing) → Contains s.slots u → IsTrue (may_fix k a p u) → rank names t < rank names s
      at u c may_u =
          let told : IsTrue (is_told_at u.stage p) = search (and_l, and_r) in
          let here = moved_falls slot_rank s (after_fix k a p) i.slots_once u c
          (subst (λ g. slot_rank (Some (after_fix k a p u)) < slot_rank (Some g)) (sym (told_is u.stage p told))
          (chosen_falls (may_fix k a p u) (Fixed p) u.stage (Told p) may_u (omega arith))) in
          by_slot t (Fix k a p) b u c (subst (λ (z : State). slot_rank (stage_of z.slots u.slot) < slot_rank (stage_of s.slots u.slot)) (sym b.2)
          (omega (arith, here, adds_less slot_rank rank_lowered.top w (moved s (after_fix k a p)) b.0 b.1 (once_moved s (after_fix k a p) i.slots_once) u.slot)))
  falls t (Deliver a) b may = at r.0 r.1 r.2
    where
      r : (u : Standing) × Contains s.slots u × IsTrue (may_deliver a u)
      r = any_some (may_deliver a) s.slots may

      at : (u : Standing) → Contains s.slots u → IsTrue (may_deliver a u) → rank names t < rank names s
      at u c may_u = by_slot t (Deliver a) b u c (subst (λ (z : State). slot_rank (stage_of z.slots u.slot) < slot_rank (stage_of s.slots u.slot)) (sym b)
          (moved_falls slot_rank s (after_delivery a) i.slots_once u c
          (chosen_falls (same_slot u.slot a) (delivered u.stage) u.stage u.stage (and_l _ _ may_u) (delivery_falls u.stage (and_r (same_slot u.slot a) (is_sent u.stage) may_u)))))
  falls t (Learn k a p) b may = at r.0 r.1 r.2
    where
      r : (u : Standing) × Contains s.slots u × IsTrue (may_learn w s k a p u)
      r = any_some (may_learn w s k a p) s.slots may

      at : (u : Standing) → Contains s.slots u → IsTrue (may_learn w s k a p u) → rank names t < rank names s
      at u c may_u =
          let asked : IsTrue (is_asked u.stage) = search (and_l, and_r) in
          by_slot t (Learn k a p) b u c (subst (λ (z : State). slot_rank (stage_of z.slots u.slot) < slot_rank (stage_of s.slots u.slot)) (sym b)
          (moved_falls slot_rank s (after_learning w s k a p) i.slots_once u c
          (subst (λ g. slot_rank (Some (after_learning w s k a p u)) < slot_rank (Some g)) (sym (asked_is u.stage asked))
          (chosen_falls (may_learn w s k a p u) (Told p) u.stage Asked may_u (omega arith)))))

  -- a delivery takes a message
  delivers_one : (t : State) (a : Slot) → Becomes w s (Deliver a) t → IsTrue (can_happen w s (Deliver a)) → messages names t < messages names s
  delivers_one t a b may =
      let r = any_some (may_deliver a) s.slots may in
      sum_falls (λ c. message_rank (stage_of t.slots c)) (λ c. message_rank (stage_of s.slots c)) (stages_less message_rank messages_lowered w s t (Deliver a) i.slots_once b)
      names r.0.slot (named w names covers s i r.0 r.1)
      (subst (λ (z : State). message_rank (stage_of z.slots r.0.slot) < message_rank (stage_of s.slots r.0.slot)) (sym b)
      (moved_falls message_rank s (after_delivery a) i.slots_once r.0 r.1
      (subst (λ c. message_rank (Some (cond c (delivered r.0.stage) r.0.stage)) < message_rank (Some r.0.stage)) (sym (and_l _ _ r.2)) (message_falls r.0.stage (and_r (same_slot r.0.slot a) (is_sent r.0.stage) r.2)))))

pub events_lower_rank : (w : Setting) → HasPlaces w → (names : List Slot) → Covers w names → (s t : State) (e : Event) → Invariant w s → Becomes w s e t
    → (rank names t ≤ rank names s) × (IsTrue (can_happen w s e) → rank names t < rank names s)
events_lower_rank w places names covers s t e i b = (sum_less (left_for t) (left_for s) (each_less w s t e i.slots_once b) names, falls w names covers s i t e b)

pub events_end : (w : Setting) → HasPlaces w → (names : List Slot) → Covers w names → (s t : State) (es : List Event) → Invariant w s → Works w s es t
    → (length es + rank names t ≤ rank names s) × (rank names s ≤ 7 * length names)
events_end w places names covers s t es i h = (go s es i h, rank_top names s)
  where
    go : (s : State) (es : List Event) → Invariant w s → Works w s es t → length es + rank names t ≤ rank names s
    go s [] i h = subst (λ z. 0 + rank names z ≤ rank names s) (sym h) (omega arith)
    go s (e ∷ es) i h =
        let less = falls w names covers s i h.0 e h.2 h.1 in
        let rest = go h.0 es (step_holds w places s e h.0 i h.2) h.3 in
        omega (arith, less, rest)

pub messages_are_bounded : (w : Setting) → HasPlaces w → (names : List Slot) → Covers w names → (s t : State) (es : List Event) → Invariant w s → Works w s es t
    → (deliveries es + messages names t ≤ messages names s) × (messages names s ≤ 2 * length names)
messages_are_bounded w places names covers s t es i h = (go s es i h, messages_top names s)
  where
    less : (s u : State) (e : Event) → Invariant w s → Becomes w s e u → messages names u ≤ messages names s
    less s u e i b = sum_less (λ c. message_rank (stage_of u.slots c)) (λ c. message_rank (stage_of s.slots c)) (stages_less message_rank messages_lowered w s u e i.slots_once b) names

    one : (s u : State) (e : Event) → Invariant w s → IsTrue (can_happen w s e) → Becomes w s e u → deliveries (e ∷ []) + messages names u ≤ messages names s
    one s u (Forward k x p) i may b = omega (arith, less s u (Forward k x p) i b)
    one s u (Sweep k x) i may b = omega (arith, less s u (Sweep k x) i b)
    one s u (Answer k a p) i may b = omega (arith, less s u (Answer k a p) i b)
    one s u (Fix k a p) i may b = omega (arith, less s u (Fix k a p) i b)
    one s u (Deliver a) i may b = omega (arith, delivers_one w names covers s i u a b may)
    one s u (Learn k a p) i may b = omega (arith, less s u (Learn k a p) i b)

    split : (e : Event) (es : List Event) → deliveries (e ∷ es) ≡ deliveries (e ∷ []) + deliveries es
    split (Forward k x p) es = omega arith
    split (Sweep k x) es = omega arith
    split (Answer k a p) es = omega arith
    split (Fix k a p) es = omega arith
    split (Deliver a) es = omega arith
    split (Learn k a p) es = omega arith

    go : (s : State) (es : List Event) → Invariant w s → Works w s es t → deliveries es + messages names t ≤ messages names s
    go s [] i h = subst (λ z. 0 + messages names z ≤ messages names s) (sym h) (omega arith)
    go s (e ∷ es) i h =
        let first = one s h.0 e i h.1 h.2 in
        let rest = go h.0 es (step_holds w places s e h.0 i h.2) h.3 in
        omega (arith, split e es, first, rest)

-- ---- many events

module _ (w : Setting) (places : HasPlaces w) where
  -- Events, each of which could happen or not, leave no object and no slot with more to do than before.
  objects_stay : (s : State) (es : List Event) (t : State) → Invariant w s → Reaches w s es t → (x : ℕ)
      → object_rank t x ≤ object_rank s x
  objects_stay s [] t i r x = subst (λ (z : State). object_rank z x ≤ object_rank s x) (sym r) (omega arith)
  objects_stay s (e ∷ es) t i r x =
      let first = objects_less w s r.0 e r.1 x in
      let rest = objects_stay r.0 es t (step_holds w places s e r.0 i r.1) r.2 x in
      omega (arith, first, rest)

  slots_stay : (s : State) (es : List Event) (t : State) → Invariant w s → Reaches w s es t → (a : Slot)
      → left_for t a ≤ left_for s a
  slots_stay s [] t i r a = subst (λ (z : State). left_for z a ≤ left_for s a) (sym r) (omega arith)
  slots_stay s (e ∷ es) t i r a =
      let first = each_less w s r.0 e i.slots_once r.1 a in
      let rest = slots_stay r.0 es t (step_holds w places s e r.0 i r.1) r.2 a in
      omega (arith, first, rest)

  -- so the rank does not rise
  pub rank_stays : (names : List Slot) (s : State) (es : List Event) (t : State) → Invariant w s
      → Reaches w s es t → rank names t ≤ rank names s
  rank_stays names s es t i r = sum_less (left_for t) (left_for s) (slots_stay s es t i r) names

  -- and it falls where a slot stands at a lower stage
  pub rank_falls : (names : List Slot) → Covers w names → (s : State) (es : List Event) (t : State)
      → Invariant w s → Invariant w t → Reaches w s es t → (u v : Standing) → Contains s.slots u
      → Contains t.slots v → v.slot ≡ u.slot → slot_rank (Some v.stage) < slot_rank (Some u.stage)
      → rank names t < rank names s
  rank_falls names covers s es t i j r u v c d same less =
      let a : Slot = u.slot in
      let alike : IsTrue (same_slot v.slot a) = subst (λ z. IsTrue (same_slot v.slot z)) same (same_slot_itself v.slot) in
      let before : stage_of s.slots a ≡ Some u.stage = found s.slots i.slots_once u c a (same_slot_itself a) in
      let after : stage_of t.slots a ≡ Some v.stage = found t.slots j.slots_once v d a alike in
      let lower : slot_rank (stage_of t.slots a) < slot_rank (stage_of s.slots a) =
      subst (λ g. slot_rank g < slot_rank (stage_of s.slots a)) (sym after)
      (subst (λ g. slot_rank (Some v.stage) < slot_rank g) (sym before) less) in
      sum_falls (left_for t) (left_for s) (slots_stay s es t i r) names a (named w names covers s i u c)
      (omega (arith, lower, objects_stay s es t i r a.target))
