-- No slot stands twice.
use Rattle.std.proofs.Common.{◌≡◌, ℕ, false, Contains, IsTrue, subst, ◌∙◌, inl, inr, Some}
use Rattle.std.proofs.lemmas.Bool.{or_cases, both_ways, not-true, false_from_ne_true}
use Rattle.trace_types.specs.Rules.{has}
use Rattle.owned_core.specs.Events.{swept}
use Rattle.owned_core.specs.Invariants.{Invariant}
use Rattle.owned_core.specs.Owned.{State, is_due, is_opened, is_swept, is_there}
use Rattle.owned_core.specs.Settings.{Setting, all_dues, is_collected}
use Rattle.owned_core.specs.Slots.{Due, Slot, Standing, same_slot}
use Rattle.owned_core.proofs.Lists.{any_some}
use Rattle.owned_core.proofs.SameSlots.{and_l, and_r, slot_is}

pub slots_once : (w : Setting) (s : State) → Invariant w s → (t u : Standing) → Contains s.slots t → Contains s.slots u → IsTrue (same_slot t.slot u.slot) → t ≡ u
slots_once w s i = i.slots_once

pub unmet_absent : (w : Setting) (s : State) → Invariant w s → (a : Slot)
    → ((d : Due) → Contains (all_dues w) d → d.slot ≡ a → is_due w s d ≡ false) → is_there s.slots a ≡ false
unmet_absent w s i a unmet = false_from_ne_true (is_there s.slots a) (λ there.
    let r = any_some (λ (t : Standing). same_slot t.slot a) s.slots there in
    let o = i.was_due r.0 r.1 in
    both_ways (is_due w s o.of) (unmet o.of o.known (o.slot ∙ slot_is r.0.slot a r.2)) o.met)

pub unswept_absent : (w : Setting) (s : State) → Invariant w s → (a : Slot) (x : ℕ)
    → ((d : Due) → Contains (all_dues w) d → d.slot ≡ a → d.member ≡ Some x)
    → IsTrue (is_collected w x) → is_swept s x ≡ false → is_there s.slots a ≡ false
unswept_absent w s i a x member collected unswept = unmet_absent w s i a (λ d known is. false_from_ne_true (is_due w s d) (λ due.
    let opened : IsTrue (is_opened w s (Some x)) = subst (λ m. IsTrue (is_opened w s m)) (member d known is)
    (and_r (is_collected w d.slot.target) (is_opened w s d.member) (and_l _ _ due)) in
    elim (or_cases (has w.older x) (is_swept s x) opened) [
      | inl old ↦ both_ways (has w.older x) (not-true (has w.older x) collected) old
      | inr swept ↦ both_ways (is_swept s x) unswept swept
    ]))
