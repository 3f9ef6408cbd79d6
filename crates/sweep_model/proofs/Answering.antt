-- A slot that was heard of is answered.
use Rattle.std.proofs.Common.{◌≡◌, ◌≢◌, ℕ, false, ◌&&◌, ◌==◌, List, ◌∷◌, cond, Contains, IsTrue, refl, sym, ap, subst, ◌∙◌, inl, inr, arith, Some}
use Rattle.std.proofs.lemmas.Bool.{and_from, both_ways, eq-eqb, false_from_ne_true, ne_eqb}
use Rattle.gc_mail.specs.declared.message.Message.TheVariants as message
use Rattle.gc_mail.specs.declared.message.Slot.{Slot as Back}
use Rattle.gc_mail.specs.Recipients.{holder_of, owner}
use Rattle.owned_core.specs.declared.slot.Want.TheVariants.{Keep}
use Rattle.owned_core.specs.declared.slot.Stage.{Stage}
use Rattle.owned_core.specs.declared.slot.Stage.TheVariants.{Answered, Heard, Told}
use Rattle.owned_core.specs.declared.slot.Slot.{Slot}
use Rattle.owned_core.specs.declared.slot.Standing.{Standing}
use Rattle.owned_core.specs.declared.machine.Entry.{Entry}
use Rattle.owned_core.specs.declared.event.Event.TheVariants.{Answer}
use Rattle.owned_core.specs.Events.{after_answer, may_answer}
use Rattle.owned_core.specs.Owned.{is_listed}
use Rattle.owned_core.specs.Parts.{BecomesHere, Part, alone, moved_here}
use Rattle.owned_core.specs.Settings.{Setting}
use Rattle.owned_core.specs.Slots.{same_slot}
use Rattle.owned_core.proofs.Lists.{contains_cases, contains_here, contains_there, some_any, some_map}
use Rattle.owned_core.proofs.SameSlots.{and_l, and_r, same_slot_itself}
use Rattle.sweep_model.specs.World.{World, asks}
use Rattle.sweep_model.specs.Settings.{IsSettingOf, slot_at}
use Rattle.sweep_model.specs.Hands.{Hand, with_sent}
use Rattle.sweep_model.specs.Holding.{Goes, Holds, entry_of, in_standing, mail_of, or_zero, out_standing}
use Rattle.sweep_model.specs.Moves.{AnswerGoes}
use Rattle.sweep_model.proofs.Asking.{fixed_in_mail, sent_cases, sent_count, sent_keeps, sent_new}
use Rattle.sweep_model.proofs.Going.{goes_one, same_itself}
use Rattle.sweep_model.proofs.Turning.{IsTurned, holds_again, turned}

-- the slot at hand was heard of, and the object x that it asks for is at the place q
module _ (world : World) (w : Setting) (h : Hand) (todo : List Standing) (x q : ℕ) (b : Back) (p : Part)
    (setting : IsSettingOf world w) (mine : owner world.sweepers x ≡ h.number)
    (place : Contains h.own (x, q))
    (holds : Holds world w h (in_standing world (message.Forward x b) ∷ todo) p) where
  abbrev slot : Slot
  slot = slot_at world b Keep x

  abbrev to : Standing → Stage
  to = after_answer w (alone p) h.number (slot_at world b Keep x) q

  abbrev after : Part
  after = moved_here p (after_answer w (alone p) h.number (slot_at world b Keep x) q)

  listed : IsTrue (is_listed (alone p) h.number x q)
  listed =
      some_any (λ (e : Entry). e.sweeper == h.number && e.object == x && e.place == q) p.own
      (entry_of h.number (x, q))
      (subst (λ l. Contains l (entry_of h.number (x, q))) (sym holds.own)
      (some_map (entry_of h.number) h.own (x, q) place))
      (and_from _ _ (and_from _ _ (eq-eqb h.number h.number refl) (eq-eqb x x refl)) (eq-eqb q q refl))

  may : IsTrue (may_answer w (alone p) h.number slot q (record { slot = slot; stage = Heard }))
  may = and_from _ _
      (and_from _ _ (and_from _ _ (and_from _ _ (same_slot_itself slot) refl) refl)
      (eq-eqb (w.owner x) h.number (setting.owner x ∙ mine)))
      listed

  goes : to (record { slot = slot; stage = Heard }) ≡ cond (slot.holder == h.number) (Told q) (Answered q)
  goes = ap (λ z. cond z (cond (slot.holder == h.number) (Told q) (Answered q)) Heard) may

  left : (u : Standing) → same_slot u.slot slot ≡ false → to u ≡ u.stage
  left u differ = ap (λ z. cond z (cond (u.slot.holder == h.number) (Told q) (Answered q)) u.stage)
      (false_from_ne_true (may_answer w (alone p) h.number slot q u)
      (λ m. both_ways (same_slot u.slot slot) differ (search (and_l, and_r))))

  pub answers : BecomesHere w h.number p (Answer h.number (slot_at world b Keep x) q)
      (moved_here p (after_answer w (alone p) h.number (slot_at world b Keep x) q))
  answers = (refl, refl)

  turns : (g : Stage) → cond (slot.holder == h.number) (Told q) (Answered q) ≡ g
      → IsTurned world h (mail_of world h todo) (record { slot = slot; stage = g }) after
  turns g e = turned world w h todo (record { slot = slot; stage = Heard }) p to g holds (goes ∙ e) left

  -- another sweeper holds the slot, and is told by a message
  pub answers_other : asks world b ≡ Some x → holder_of world.sweepers b ≢ h.number
      → Holds world w (with_sent h (message.Moved b q)) todo
      (moved_here p (after_answer w (alone p) h.number (slot_at world b Keep x) q))
  answers_other wants other =
      let now : Standing = record { slot = slot; stage = Answered q } in
      let is : out_standing world (message.Moved b q) ≡ now =
      ap {B = Standing} (λ z. record { slot = slot_at world b Keep (or_zero z); stage = Answered q })
      wants in
      holds_again world w h (with_sent h (message.Moved b q)) todo (mail_of world h todo) now after
      (turns (Answered q) (ap (λ z. cond z (Told q) (Answered q)) (ne_eqb _ _ other)))
      refl holds.own holds.unswept
      (λ u c. elim (sent_cases world h todo (message.Moved b q) u c) [
        | inl r ↦ inl r
        | inr e ↦ inr (e ∙ is)
      ])
      (λ u c. sent_keeps world h todo (message.Moved b q) u c)
      (inl (subst (Contains (mail_of world (with_sent h (message.Moved b q)) todo)) is
      (sent_new world h todo (message.Moved b q))))
      (λ u f _. fixed_in_mail world h h.inbox (with_sent h (message.Moved b q)).outbox u f)
      (λ a. omega (
        arith,
        holds.once a,
        sent_count world h todo (message.Moved b q) (record { slot = slot; stage = Heard }) a
            (sym (ap (λ (z : Standing). z.slot) is)),
      ))
      (λ y s. s)

  -- this sweeper holds the slot, and it is told
  pub answers_own : asks world b ≡ Some x → holder_of world.sweepers b ≡ h.number
      → Holds world w h (in_standing world (message.Moved b q) ∷ todo)
      (moved_here p (after_answer w (alone p) h.number (slot_at world b Keep x) q))
  answers_own wants own =
      let now : Standing = in_standing world (message.Moved b q) in
      let is : record { slot = slot; stage = Told q } ≡ now =
      ap {B = Standing} (λ z. record { slot = slot_at world b Keep (or_zero z); stage = Told q })
      (sym wants) in
      subst (λ z. Holds world w h (z ∷ todo) after) is
      (holds_again world w h h (record { slot = slot; stage = Told q } ∷ todo) (mail_of world h todo)
      (record { slot = slot; stage = Told q }) after
      (turns (Told q) (ap (λ z. cond z (Told q) (Answered q)) (eq-eqb _ _ own))) refl holds.own holds.unswept
      (λ u c. elim (contains_cases (record { slot = slot; stage = Told q }) (mail_of world h todo) u c) [
        | inl e ↦ inr (sym e)
        | inr r ↦ inl r
      ])
      (λ u c. contains_there (record { slot = slot; stage = Told q }) (mail_of world h todo) u c)
      (inl (contains_here (record { slot = slot; stage = Told q }) (mail_of world h todo)))
      (λ u f _. f)
      (λ a. holds.once a)
      (λ y s. s))

-- a slot that another sweeper holds is answered by a message
pub answer_goes : AnswerGoes
answer_goes world w h todo x q b setting wants mine other place p holds =
    goes_one world w h.number (with_sent h (message.Moved b q)) todo p
    (moved_here p (after_answer w (alone p) h.number (slot_at world b Keep x) q)) _
    (Answer h.number (slot_at world b Keep x) q)
    (answers world w h todo x q b p setting mine place holds) (same_itself _)
    (answers_other world w h todo x q b p setting mine place holds wants other)

-- a slot of its own that was heard of is told
pub answer_own_goes : (world : World) (w : Setting) (h : Hand) (todo : List Standing) (x q : ℕ) (b : Back)
    → IsSettingOf world w → asks world b ≡ Some x → owner world.sweepers x ≡ h.number
    → holder_of world.sweepers b ≡ h.number → Contains h.own (x, q)
    → Goes world w h (in_standing world (message.Forward x b) ∷ todo) h
    (in_standing world (message.Moved b q) ∷ todo)
answer_own_goes world w h todo x q b setting wants mine own place p holds =
    goes_one world w h.number h (in_standing world (message.Moved b q) ∷ todo) p
    (moved_here p (after_answer w (alone p) h.number (slot_at world b Keep x) q)) _
    (Answer h.number (slot_at world b Keep x) q)
    (answers world w h todo x q b p setting mine place holds) (same_itself _)
    (answers_own world w h todo x q b p setting mine place holds wants own)
