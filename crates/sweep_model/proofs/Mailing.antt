-- A sweeper after an exchange: its memory stays, and it is ready for what came.
use Rattle.std.proofs.Common.{◌≡◌, ℕ, ◌<◌, List, [], Contains, sym, ◌∙◌, ap, subst, Some}
use Rattle.gc_mail.specs.declared.message.Message.{Message}
use Rattle.gc_mail.specs.declared.message.Message.TheVariants as message
use Rattle.gc_mail.specs.declared.message.Slot.{Slot as Back}
use Rattle.gc_mail.specs.declared.message.Slot.TheVariants as back
use Rattle.gc_mail.specs.Recipients.{holder_of, recipient_of}
use Rattle.owned_core.specs.declared.slot.Standing.{Standing}
use Rattle.owned_core.specs.declared.slot.Want.TheVariants.{Keep}
use Rattle.owned_core.specs.Owned.{State}
use Rattle.owned_core.specs.Settings.{Setting}
use Rattle.owned_core.proofs.Lists.{contains_none}
use Rattle.sweep_model.specs.World.{World, IsWorld, asks}
use Rattle.sweep_model.specs.Settings.{IsSettingOf, slot_at}
use Rattle.sweep_model.specs.Hands.{Hand, IsAt}
use Rattle.sweep_model.specs.Holding.{or_zero, out_standing}
use Rattle.sweep_model.specs.Wholes.{AreMailed, IsPlaced, IsReady, MayCome, MayGo, Stand}
use Rattle.sweep_model.proofs.Members.{member_placed}
use Rattle.sweep_model.proofs.Memory.{mail_keeps_tied}
use Rattle.sweep_model.proofs.Sending.{came, sent_stands}

-- the sweeper with these messages in its inbox, and none that go
abbrev pub mailed_hand : Hand → List Message → Hand
mailed_hand h ms = record h { inbox = ms; outbox = [] }

-- what has its place keeps it
placed_in : (world : World) (h : Hand) (ms : List Message) (b : Back) → IsPlaced world h b
    → IsPlaced world (mailed_hand h ms) b
placed_in world h ms (back.Register r) p = p
placed_in world h ms (back.Field i x) p = p
placed_in world h ms (back.Entry line part) p = p
placed_in world h ms (back.Wait x) p = p
placed_in world h ms back.Nothing p = p

-- ---- what comes to a sweeper

module _ (world : World) (w : Setting) (before after : ℕ → Hand) (s : State) (good : IsWorld world)
    (setting : IsSettingOf world w) (stand : Stand world w before s)
    (mailed : AreMailed world.sweepers before after) where
  -- a slot that is told its place stands, so its object has a place
  placed : (j : ℕ) → j < world.sweepers → (b : Back) (q t : ℕ)
      → Contains (before j).outbox (message.Moved b q) → asks world b ≡ Some t
      → (k : ℕ) → holder_of world.sweepers b ≡ k → IsPlaced world (before k) b
  placed j inside (back.Register r) q t c wants k held = tt
  placed j inside (back.Field i x) q t c wants k held =
      let u : Standing = out_standing world (message.Moved (back.Field i x) q) in
      let stood = sent_stands world w before s stand j inside (message.Moved (back.Field i x) q) c in
      let slot : u.slot ≡ slot_at world (back.Field i x) Keep t =
      ap (λ o. slot_at world (back.Field i x) Keep (or_zero o)) wants in
      subst (λ m. (p : ℕ) × IsAt world (before m).own x p) held
      (member_placed world w before s setting stand good u stood.0 x i t wants slot)
  placed j inside (back.Entry line part) q t c wants k held = tt
  placed j inside (back.Wait x) q t c wants k held = tt
  placed j inside back.Nothing q t c wants k held = tt

  -- a message that went from j to k may come there
  may_come : (j k : ℕ) → j < world.sweepers → (before k).number ≡ k → (m : Message)
      → Contains (before j).outbox m → MayGo world (before j) m → recipient_of world.sweepers m ≡ k
      → MayCome world (mailed_hand (before k) (after k).inbox) m
  may_come j k inside number (message.Forward t b) c goes is_for =
      (goes.0, is_for ∙ sym number, λ own. absurd (goes.2 (is_for ∙ (sym number ∙ (sym own ∙ goes.1)))))
  may_come j k inside number (message.Watch t b) c goes is_for = goes
  may_come j k inside number (message.Moved b q) c goes is_for = (
    (goes.0, goes.1),
    is_for ∙ sym number,
    placed_in world (before k) (after k).inbox b (placed j inside b q goes.0 c goes.1 k is_for),
  )

  pub ready_mailed : (k : ℕ) → k < world.sweepers → IsReady world (mailed_hand (before k) (after k).inbox)
  ready_mailed k b = record {
    number_in = (stand.ready k b).number_in;
    tied = mail_keeps_tied world (before k) (after k).inbox [] (stand.ready k b).tied;
    comes = λ m c.
        let r = came world w before s stand after mailed k b m c in
        may_come r.0 k r.1 (stand.numbers k b) m r.2 ((stand.ready r.0 r.1).goes m r.2) r.3;
    goes = λ m c. absurd (contains_none m c);
  }
