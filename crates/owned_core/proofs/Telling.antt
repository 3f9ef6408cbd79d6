-- The invariant in the words of its five parts.
use Rattle.std.proofs.Common.{ℕ, Bool, not, ◌&&◌, ◌==◌, Contains, IsTrue, refl, sym, subst, ◌∙◌, inl, inr, Option, None, Some}
use Rattle.std.specs.List.{list_all}
use Rattle.std.proofs.lemmas.Bool.{or_cases, or_right, or_left, and_from, eq-eqb, cases_Bool, false≢true, not_from_false}
use Rattle.trace_types.specs.Rules.{has}
use Rattle.owned_core.specs.Invariants.{Invariant, StatedParts}
use Rattle.owned_core.specs.Owned.{State, in_list, is_due, is_kept, is_met, is_opened, is_swept, is_there, nothing_yet}
use Rattle.owned_core.specs.Settings.{Setting, is_collected}
use Rattle.owned_core.specs.Slots.{Due, Slot, Standing, is_keep, same_slot}
use Rattle.owned_core.proofs.Adding.{vouched_cases}
use Rattle.owned_core.proofs.Holding.{vouched_believed, vouched_listed}
use Rattle.owned_core.proofs.Lists.{all_each, any_some, some_any}
use Rattle.owned_core.proofs.SameSlots.{same_slot_keep, same_slot_target}

-- ---- the five parts

there_kept : (s : State) (a : Slot) → IsTrue (is_keep a.want) → IsTrue (is_there s.slots a) → IsTrue (is_kept s a.target)
there_kept s a keep h =
    let r = any_some (λ (t : Standing). same_slot t.slot a) s.slots h in
    some_any (λ (t : Standing). is_keep t.slot.want && t.slot.target == a.target) s.slots r.0 r.1
    (and_from (is_keep r.0.slot.want) (r.0.slot.target == a.target) (same_slot_keep r.0.slot a r.2 ∙ keep) (eq-eqb r.0.slot.target a.target (same_slot_target r.0.slot a r.2)))

due_of : (w : Setting) (s : State) (d : Due) → IsTrue (is_collected w d.slot.target) → IsTrue (is_opened w s d.member) → ((a : Slot) → Contains d.watched a → IsTrue (is_met w s a)) → IsTrue (is_due w s d)
due_of w s d collected opened met = and_from (is_collected w d.slot.target && is_opened w s d.member) (list_all (is_met w s) d.watched) (and_from (is_collected w d.slot.target) (is_opened w s d.member) collected opened) (all_each (is_met w s) d.watched met)

opened_always : (w : Setting) (s : State) (m : Option ℕ) → IsTrue (is_opened w nothing_yet m) → IsTrue (is_opened w s m)
opened_always w s None h = refl
opened_always w s (Some x) h = elim (or_cases (has w.older x) (is_swept nothing_yet x) h) [
  | inl e ↦ or_left (has w.older x) (is_swept s x) e
  | inr e ↦ absurd (false≢true e)
]

pub stated_parts : (w : Setting) (s : State) → Invariant w s → StatedParts w s
stated_parts w s i = record {
  one = i.entries;
  one_object = i.objects_once;
  one_place = i.places_once;
  two = i.placed;
  three_targets = i.members;
  three_slots = λ d c opened met. elim (cases_Bool (has w.older d.slot.target)) [
    | inl old ↦ inl old
    | inr new ↦ inr (i.due d c (due_of w s d (not_from_false (has w.older d.slot.target) new) opened met))
  ];
  three_rules = λ d c keep opened met. elim (cases_Bool (has w.older d.slot.target)) [
    | inl old ↦ inl old
    | inr new ↦ inr (there_kept s d.slot keep (i.due d c (due_of w s d (not_from_false (has w.older d.slot.target) new) opened met)))
  ];
  three_given = λ x g. elim (cases_Bool (has w.older x)) [
    | inl old ↦ inl old
    | inr new ↦ inr (i.given_kept x g (not_from_false (has w.older x) new))
  ];
  four = λ x l. elim (cases_Bool (has s.unswept x)) [
    | inl e ↦ inl e
    | inr e ↦ inr (and_from (in_list s x) (not (has s.unswept x)) l (not_from_false (has s.unswept x) e))
  ];
  four_swept = λ x is d c member met collected. i.due d c (due_of w s d collected (subst (λ m. IsTrue (is_opened w s m)) (sym member) (or_right (has w.older x) (is_swept s x) is)) met);
  four_begun = λ d c opened met collected. i.due d c (due_of w s d collected (opened_always w s d.member opened) met);
  five = i.kept;
}

pub believing_more : (w : Setting) (s : State) (believed : ℕ → ℕ → Bool) → ((x p : ℕ) → IsTrue (w.believed x p) → IsTrue (believed x p))
    → Invariant w s → Invariant (record w { believed = believed }) s
believing_more w s believed more i = record {
  entries = i.entries;
  objects_once = i.objects_once;
  places_once = i.places_once;
  placed = λ t c p at. elim (vouched_cases w s t.slot p (i.placed t c p at)) [
    | inl listed ↦ vouched_listed (record w { believed = believed }) s t.slot p listed
    | inr seen ↦ vouched_believed (record w { believed = believed }) s t.slot p seen.0 (more t.slot.target p seen.1)
  ];
  members = i.members;
  given_kept = i.given_kept;
  due = i.due;
  was_due = λ t c. let r = i.was_due t c in record { of = r.of; known = r.known; slot = r.slot; met = r.met };
  kept = i.kept;
  slots_once = i.slots_once;
  unswept_listed = i.unswept_listed;
}
