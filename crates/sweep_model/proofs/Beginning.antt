-- The stage at which a slot begins.
use Rattle.std.proofs.Common.{◌≡◌, ◌≢◌, ℕ, suc, ◌+◌, Bool, ◌==◌, ◌∷◌, ◌++◌, cond, sym, ap, ◌∙◌, None, Some}
use Rattle.std.proofs.lemmas.Bool.{eq-eqb, ne_eqb}
use Rattle.gc_mail.specs.declared.message.Message.TheVariants as message
use Rattle.gc_mail.specs.declared.message.Slot.{Slot as Back}
use Rattle.gc_mail.specs.declared.message.Slot.TheVariants as back
use Rattle.gc_mail.specs.Recipients.{holder_of, owner}
use Rattle.owned_core.specs.declared.slot.Want.TheVariants.{Keep}
use Rattle.owned_core.specs.declared.slot.Stage.TheVariants.{Asked, Heard}
use Rattle.owned_core.specs.declared.slot.Standing.{Standing}
use Rattle.owned_core.specs.Owned.{begun}
use Rattle.owned_core.specs.Settings.{Setting}
use Rattle.sweep_model.specs.World.{World, asks}
use Rattle.sweep_model.specs.Settings.{IsSettingOf, slot_at}
use Rattle.sweep_model.specs.Holding.{in_standing, news_at, news_from, out_standing}

begun_at : (world : World) (w : Setting) (b : Back) (t : ℕ) (z : Bool)
    → w.owner t == holder_of world.sweepers b ≡ z
    → begun w (slot_at world b Keep t) ≡ record { slot = slot_at world b Keep t; stage = cond z Heard Asked }
begun_at world w b t z e =
    ap {B = Standing} (λ y. record { slot = slot_at world b Keep t; stage = cond y Heard Asked }) e

-- a slot of a sweeper's own object is heard of at once
pub begun_own : (world : World) (w : Setting) (b : Back) (t : ℕ) → IsSettingOf world w
    → owner world.sweepers t ≡ holder_of world.sweepers b
    → begun w (slot_at world b Keep t) ≡ in_standing world (message.Forward t b)
begun_own world w b t setting own = begun_at world w b t _ (eq-eqb _ _ (setting.owner t ∙ own))

-- that of another sweeper's object is asked for
pub begun_other : (world : World) (w : Setting) (b : Back) (t : ℕ) → IsSettingOf world w
    → owner world.sweepers t ≢ holder_of world.sweepers b
    → begun w (slot_at world b Keep t) ≡ out_standing world (message.Forward t b)
begun_other world w b t setting other =
    begun_at world w b t _ (ne_eqb _ _ (λ e. other (sym (setting.owner t) ∙ e)))

-- ---- the slots of the fields from i on

-- a field that asks for nothing has no slot
pub news_none : (world : World) (w : Setting) (x i n : ℕ) → asks world (back.Field i x) ≡ None
    → news_from world w x i (suc n) ≡ news_from world w x (i + 1) n
news_none world w x i n e = ap (λ o. news_at world w x i o ++ news_from world w x (i + 1) n) e

-- the slot of one that asks for an object of the same owner was heard of
pub news_own : (world : World) (w : Setting) (x i n t : ℕ) → IsSettingOf world w
    → asks world (back.Field i x) ≡ Some t → owner world.sweepers t ≡ owner world.sweepers x
    → news_from world w x i (suc n)
    ≡ in_standing world (message.Forward t (back.Field i x)) ∷ news_from world w x (i + 1) n
news_own world w x i n t setting e own =
    ap (λ o. news_at world w x i o ++ news_from world w x (i + 1) n) e
    ∙ ap (λ z. z ∷ news_from world w x (i + 1) n) (begun_own world w (back.Field i x) t setting own)

-- that of one that asks for an object of another owner is asked for
pub news_other : (world : World) (w : Setting) (x i n t : ℕ) → IsSettingOf world w
    → asks world (back.Field i x) ≡ Some t → owner world.sweepers t ≢ owner world.sweepers x
    → news_from world w x i (suc n)
    ≡ out_standing world (message.Forward t (back.Field i x)) ∷ news_from world w x (i + 1) n
news_other world w x i n t setting e other =
    ap (λ o. news_at world w x i o ++ news_from world w x (i + 1) n) e
    ∙ ap (λ z. z ∷ news_from world w x (i + 1) n) (begun_other world w (back.Field i x) t setting other)
