-- A slot that was told its place is fixed.
use Rattle.std.proofs.Common.{◌≡◌, ◌≢◌, ℕ, false, List, [], ◌∷◌, ◌++◌, map, cond, Contains, IsTrue, refl, sym, ap, subst, ◌∙◌, inl, inr, arith, Some}
use Rattle.std.proofs.lemmas.Bool.{and_from, both_ways, eq-eqb, false_from_ne_true}
use Rattle.std.proofs.lemmas.Option.{same_Some}
use Rattle.gc_mail.specs.declared.message.Message.TheVariants as message
use Rattle.gc_mail.specs.declared.message.Slot.{Slot as Back}
use Rattle.gc_mail.specs.Recipients.{holder_of}
use Rattle.owned_core.specs.declared.slot.Want.TheVariants.{Keep}
use Rattle.owned_core.specs.declared.slot.Stage.{Stage}
use Rattle.owned_core.specs.declared.slot.Stage.TheVariants.{Fixed, Told}
use Rattle.owned_core.specs.declared.slot.Slot.{Slot}
use Rattle.owned_core.specs.declared.slot.Standing.{Standing}
use Rattle.owned_core.specs.declared.event.Event.TheVariants.{Fix}
use Rattle.owned_core.specs.Events.{after_fix, may_fix}
use Rattle.owned_core.specs.Parts.{BecomesHere, Part, moved_here, with_news}
use Rattle.owned_core.specs.Settings.{Setting}
use Rattle.owned_core.specs.Slots.{same_slot}
use Rattle.owned_core.proofs.Making.{makes_nothing}
use Rattle.owned_core.proofs.SameSlots.{and_l, and_r, same_slot_itself}
use Rattle.sweep_model.specs.World.{World, asks}
use Rattle.sweep_model.specs.Settings.{slot_at}
use Rattle.sweep_model.specs.Hands.{Hand, object_of, unswept_of}
use Rattle.sweep_model.specs.Holding.{Holds, count_of, entry_of, in_standing, mail_of, or_zero, out_standing}
use Rattle.sweep_model.specs.Moves.{AnswerFixes, IsWritten, ToldFixes}
use Rattle.sweep_model.proofs.Answering.{answer_own_goes}
use Rattle.sweep_model.proofs.Asking.{fixed_there}
use Rattle.sweep_model.proofs.Going.{goes_on, goes_one, no_news}
use Rattle.sweep_model.proofs.Turning.{holds_again, turned}

-- the slot at hand was told the place q, which was written where the slot wants it
module _ (world : World) (w : Setting) (h h' : Hand) (todo : List Standing) (x q : ℕ) (b : Back) (p : Part)
    (wants : asks world b ≡ Some x) (own : holder_of world.sweepers b ≡ h.number)
    (written : IsWritten world h h' b q)
    (holds : Holds world w h (record { slot = slot_at world b Keep x; stage = Told q } ∷ todo) p) where
  abbrev slot : Slot
  slot = slot_at world b Keep x

  abbrev to : Standing → Stage
  to = after_fix h.number (slot_at world b Keep x) q

  abbrev after : Part
  after = moved_here p (after_fix h.number (slot_at world b Keep x) q)

  may : IsTrue (may_fix h.number slot q (record { slot = slot; stage = Told q }))
  may = and_from _ _ (and_from _ _ (same_slot_itself slot) (eq-eqb _ _ own)) (eq-eqb q q refl)

  left : (u : Standing) → same_slot u.slot slot ≡ false → to u ≡ u.stage
  left u differ = ap (λ z. cond z (Fixed q) u.stage) (false_from_ne_true (may_fix h.number slot q u)
      (λ m. both_ways (same_slot u.slot slot) differ (search (and_l, and_r))))

  pub fixes : BecomesHere w h.number p (Fix h.number (slot_at world b Keep x) q)
      (with_news (moved_here p (after_fix h.number (slot_at world b Keep x) q)) [])
  fixes = (refl, ([], makes_nothing w h.number p slot q refl, refl))

  mail_same : mail_of world h' todo ≡ mail_of world h todo
  mail_same =
      ap (λ l. todo ++ (map (in_standing world) l ++ map (out_standing world) h'.outbox)) written.inbox
      ∙ ap (λ l. todo ++ (map (in_standing world) h.inbox ++ map (out_standing world) l)) written.outbox

  unswept_same : unswept_of h' ≡ unswept_of h
  unswept_same = ap (map object_of) written.unswept

  -- another slot wants its place elsewhere
  elsewhere : (u : Standing) → same_slot u.slot slot ≡ false → (c : Back) → asks world c ≡ Some u.slot.target
      → u.slot ≡ slot_at world c Keep u.slot.target → c ≢ b
  elsewhere u differ c e s is =
      let target : u.slot.target ≡ x = same_Some _ _ (sym e ∙ ap (asks world) is ∙ wants) in
      let same : u.slot ≡ slot =
      s ∙ (ap (λ z. slot_at world z Keep u.slot.target) is ∙ ap (slot_at world b Keep) target) in
      both_ways (same_slot u.slot slot) differ
      (subst (λ z. IsTrue (same_slot u.slot z)) same (same_slot_itself u.slot))

  pub holds_fixed : Holds world w h' todo (moved_here p (after_fix h.number (slot_at world b Keep x) q))
  holds_fixed =
      holds_again world w h h' todo (mail_of world h todo) (record { slot = slot; stage = Fixed q }) after
      (turned world w h todo (record { slot = slot; stage = Told q }) p to (Fixed q) holds
      (ap (λ z. cond z (Fixed q) (Told q)) may) left)
      written.number
      (holds.own ∙ ap (λ k. map (entry_of k) h.own) (sym written.number)
      ∙ ap (map (entry_of h'.number)) (sym written.own))
      (holds.unswept ∙ sym unswept_same)
      (λ u c. inl (subst (λ l. Contains l u) mail_same c))
      (λ u c. subst (λ l. Contains l u) (sym mail_same) c)
      (inr (record {
        where_to = b;
        place = q;
        wants = wants;
        slot = refl;
        stage = refl;
        there = written.there;
      }))
      (λ u f differ. fixed_there world h h' u
      (λ c r e s there. written.others c u.slot.target r e (elsewhere u differ c e s) there) f)
      (λ a.
      let o : count_of a (mail_of world h' todo) ≡ count_of a (mail_of world h todo) =
      ap (count_of a) mail_same in
      omega (arith, holds.once a, o))
      (λ y s. (
        (s.0.0, subst (λ l. Contains l (y, s.0.0)) (sym written.own) s.0.1),
        λ r c. s.1 r (subst (λ l. Contains l (y, r)) written.unswept c),
      ))

-- a slot that was told its place is fixed, and makes no new ones
pub told_fixes : ToldFixes
told_fixes world w h h' todo x q b wants own written p holds =
    let is : in_standing world (message.Moved b q)
    ≡ record { slot = slot_at world b Keep x; stage = Told q } =
    ap {B = Standing} (λ z. record { slot = slot_at world b Keep (or_zero z); stage = Told q }) wants in
    let told = subst (λ z. Holds world w h (z ∷ todo) p) is holds in
    goes_one world w h.number h' todo p
    (with_news (moved_here p (after_fix h.number (slot_at world b Keep x) q)) [])
    (moved_here p (after_fix h.number (slot_at world b Keep x) q)) (Fix h.number (slot_at world b Keep x) q)
    (fixes world w h h' todo x q b p wants own written told) (no_news _)
    (holds_fixed world w h h' todo x q b p wants own written told)

-- a slot of its own that was heard of is told by itself, and fixed
pub answer_fixes : AnswerFixes
answer_fixes world w h h' todo x q b setting wants mine own place written =
    goes_on world w h h h' (in_standing world (message.Forward x b) ∷ todo)
    (in_standing world (message.Moved b q) ∷ todo) todo
    refl (answer_own_goes world w h todo x q b setting wants mine own place)
    (told_fixes world w h h' todo x q b wants own written)
