-- Where the sweepers have nothing left to do.
use Rattle.std.proofs.Common.{◌≡◌, ℕ, Bool, true, false, not, ◌&&◌, ◌==◌, ◌⊎◌, cond, Contains, IsTrue, refl, sym, ap, subst, ◌∙◌, inl, inr}
use Rattle.std.specs.List.{list_any}
use Rattle.std.proofs.lemmas.Bool.{and_from, eqb-true, eq-eqb, cases_Bool, both_ways, false≢true, not_from_false, false_from_ne_true}
use Rattle.trace_types.specs.Rules.{has}
use Rattle.owned_core.specs.Events.{Answer, Deliver, Event, Fix, Forward, Sweep, can_happen, is_heard_keep, is_place_for, is_sent, may_answer, may_deliver, may_fix, may_forward, may_sweep}
use Rattle.owned_core.specs.Invariants.{Invariant, IsIdle, rests}
use Rattle.owned_core.specs.Owned.{Entry, State, in_list, is_listed}
use Rattle.owned_core.specs.Ranks.{HasRoom, WatchesHavePlaces, is_work}
use Rattle.owned_core.specs.Settings.{Setting}
use Rattle.owned_core.specs.Slots.{Answered, Asked, Fixed, Heard, Slot, Stage, Standing, Told, is_heard, is_keep, is_told_at, same_slot}
use Rattle.owned_core.proofs.Lists.{any_some, some_any}
use Rattle.owned_core.proofs.Parts.{owners}
use Rattle.owned_core.proofs.Rounds.{nobody_left}
use Rattle.owned_core.proofs.SameSlots.{same_slot_itself}

module _ (w : Setting) (s : State) (i : Invariant w s) (room : HasRoom w s) (words : WatchesHavePlaces w) (quiet : (e : Event) → IsTrue (is_work e) → can_happen w s e ≡ false) where
  -- what is in a list has its pair in the list of its owner
  listed_of : (x : ℕ) → IsTrue (in_list s x) → (p : ℕ) × IsTrue (is_listed s (w.owner x) x p)
  listed_of x h =
      let r = any_some (λ (e : Entry). e.object == x) s.own h in (
        r.0.place,
        some_any (λ (e : Entry). e.sweeper == w.owner x && e.object == x && e.place == r.0.place) s.own r.0 r.1
            (and_from (r.0.sweeper == w.owner x && r.0.object == x) (r.0.place == r.0.place)
            (and_from (r.0.sweeper == w.owner x) (r.0.object == x) (eq-eqb r.0.sweeper (w.owner x) (sym (owners w s i r.0 r.1) ∙ ap w.owner (eqb-true r.0.object x r.2))) r.2)
            (eq-eqb r.0.place r.0.place refl)),
      )

  -- a heard slot that has a place has its target in no list
  unanswered : (t : Standing) → Contains s.slots t → IsTrue (is_heard t.stage) → IsTrue t.slot.has_place → in_list s t.slot.target ≡ false
  unanswered t c heard place = false_from_ne_true (in_list s t.slot.target) (λ there.
      let p = listed_of t.slot.target there in
      both_ways (list_any (may_answer w s (w.owner t.slot.target) t.slot p.0) s.slots) (quiet (Answer (w.owner t.slot.target) t.slot p.0) refl)
      (some_any (may_answer w s (w.owner t.slot.target) t.slot p.0) s.slots t c
      (and_from (same_slot t.slot t.slot && is_heard t.stage && t.slot.has_place && w.owner t.slot.target == w.owner t.slot.target) (is_listed s (w.owner t.slot.target) t.slot.target p.0)
      (and_from (same_slot t.slot t.slot && is_heard t.stage && t.slot.has_place) (w.owner t.slot.target == w.owner t.slot.target)
      (and_from (same_slot t.slot t.slot && is_heard t.stage) t.slot.has_place
      (and_from (same_slot t.slot t.slot) (is_heard t.stage) (same_slot_itself t.slot) heard) place)
      (eq-eqb (w.owner t.slot.target) (w.owner t.slot.target) refl)) p.1)))

  -- the target of a heard Keep slot is in a list
  kept_forwarded : (t : Standing) → Contains s.slots t → IsTrue (is_heard t.stage) → IsTrue (is_keep t.slot.want) → IsTrue (in_list s t.slot.target)
  kept_forwarded t c heard keep = at (cases_Bool (in_list s t.slot.target))
    where
      x : ℕ
      x = t.slot.target

      at : (in_list s t.slot.target ≡ true) ⊎ (in_list s t.slot.target ≡ false) → IsTrue (in_list s t.slot.target)
      at (inl there) = there
      at (inr absent) =
          let p = room t.slot.target in
          absurd (both_ways (may_forward w s (w.owner t.slot.target) t.slot.target p.0) (quiet (Forward (w.owner t.slot.target) t.slot.target p.0) refl)
          (and_from (w.owner t.slot.target == w.owner t.slot.target && not (in_list s t.slot.target) && list_any (is_heard_keep t.slot.target) s.slots) (is_place_for w s t.slot.target p.0)
          (and_from (w.owner t.slot.target == w.owner t.slot.target && not (in_list s t.slot.target)) (list_any (is_heard_keep t.slot.target) s.slots)
          (and_from (w.owner t.slot.target == w.owner t.slot.target) (not (in_list s t.slot.target)) (eq-eqb (w.owner t.slot.target) (w.owner t.slot.target) refl) (not_from_false (in_list s t.slot.target) absent))
          (some_any (is_heard_keep t.slot.target) s.slots t c (and_from (is_keep t.slot.want && t.slot.target == t.slot.target) (is_heard t.stage)
          (and_from (is_keep t.slot.want) (t.slot.target == t.slot.target) keep (eq-eqb t.slot.target t.slot.target refl)) heard))) p.1))

  rests_heard : (t : Standing) → Contains s.slots t → IsTrue (is_heard t.stage) → (keep place : Bool) → is_keep t.slot.want ≡ keep → t.slot.has_place ≡ place
      → IsTrue (cond keep (not place && in_list s t.slot.target) (not (in_list s t.slot.target)))
  rests_heard t c heard true true keep place = absurd (both_ways (in_list s t.slot.target) (unanswered t c heard place) (kept_forwarded t c heard keep))
  rests_heard t c heard true false keep place = kept_forwarded t c heard keep
  rests_heard t c heard false place watch is =
      let o = i.was_due t c in
      not_from_false (in_list s t.slot.target) (unanswered t c heard
      (subst (λ (z : Slot). IsTrue z.has_place) o.slot (words o.of o.known (subst (λ (z : Slot). is_keep z.want ≡ false) (sym o.slot) watch))))

  untold : (t : Standing) → Contains s.slots t → (p : ℕ) → IsTrue (is_told_at t.stage p) → ⊥
  untold t c p told = both_ways (list_any (may_fix t.slot.holder t.slot p) s.slots) (quiet (Fix t.slot.holder t.slot p) refl)
      (some_any (may_fix t.slot.holder t.slot p) s.slots t c
      (and_from (same_slot t.slot t.slot && t.slot.holder == t.slot.holder) (is_told_at t.stage p)
      (and_from (same_slot t.slot t.slot) (t.slot.holder == t.slot.holder) (same_slot_itself t.slot) (eq-eqb t.slot.holder t.slot.holder refl)) told))

  rests_by : (t : Standing) → Contains s.slots t → (g : Stage) → t.stage ≡ g → is_sent g ≡ false → IsTrue (rests s t.slot g)
  rests_by t c Asked e sent = absurd (false≢true (sym sent))
  rests_by t c Heard e sent = rests_heard t c (subst (λ g. IsTrue (is_heard g)) (sym e) refl) (is_keep t.slot.want) t.slot.has_place refl refl
  rests_by t c (Answered p) e sent = absurd (false≢true (sym sent))
  rests_by t c (Told p) e sent = absurd (untold t c p (subst (λ g. IsTrue (is_told_at g p)) (sym e) (eq-eqb p p refl)))
  rests_by t c (Fixed p) e sent = refl

  pub quiet_rests : IsIdle s ⊎ ((a : Slot) × IsTrue (can_happen w s (Deliver a)))
  quiet_rests = elim (cases_Bool (list_any (λ (t : Standing). is_sent t.stage) s.slots)) [
    | inl some ↦
        let r = any_some (λ (t : Standing). is_sent t.stage) s.slots some in
        inr (r.0.slot, some_any (may_deliver r.0.slot) s.slots r.0 r.1 (and_from (same_slot r.0.slot r.0.slot) (is_sent r.0.stage) (same_slot_itself r.0.slot) r.2))
    | inr no_more ↦ inl (record {
      all_swept = nobody_left s.unswept (λ x. false_from_ne_true (has s.unswept x) (λ is.
          both_ways (may_sweep w s (w.owner x) x) (quiet (Sweep (w.owner x) x) refl) (and_from (w.owner x == w.owner x) (has s.unswept x) (eq-eqb (w.owner x) (w.owner x) refl) is)));
      all_rest = λ t c. rests_by t c t.stage refl (false_from_ne_true (is_sent t.stage) (λ is.
          both_ways (list_any (λ (t : Standing). is_sent t.stage) s.slots) no_more (some_any (λ (t : Standing). is_sent t.stage) s.slots t c is)));
    })
  ]

pub quiet_is_idle_or_sends : (w : Setting) (s : State) → Invariant w s → HasRoom w s → WatchesHavePlaces w
    → ((e : Event) → IsTrue (is_work e) → can_happen w s e ≡ false)
    → IsIdle s ⊎ ((a : Slot) × IsTrue (can_happen w s (Deliver a)))
quiet_is_idle_or_sends = quiet_rests
