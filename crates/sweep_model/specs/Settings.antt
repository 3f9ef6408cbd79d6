-- The slots of a world as those of the owned core.
use Rattle.std.specs.Prelude.{◌≡◌, ℕ, ◌+◌, ◌*◌, true, false, [], Option, None, Some, Contains, is_some}
use Rattle.trace_types.specs.Rules.{has}
use Rattle.gc_mail.specs.declared.message.Slot.{Slot as Back}
use Rattle.gc_mail.specs.declared.message.Slot.TheVariants as back
use Rattle.gc_mail.specs.Recipients.{holder_of, owner as sweeper_of}
use Rattle.owned_core.specs.declared.slot.Want.{Want}
use Rattle.owned_core.specs.declared.slot.Want.TheVariants.{Keep}
use Rattle.owned_core.specs.declared.slot.Slot.{Slot}
use Rattle.owned_core.specs.Slots.{Due}
use Rattle.owned_core.specs.Settings.{Setting}
use Rattle.sweep_model.specs.World.{World, asks, is_older}

-- Names differ: those of registers are multiples of 4, those of fields one more. No object has 2^23 fields.
abbrev pub name_of : Back → ℕ
name_of (back.Register r) = 4 * r
name_of (back.Field i x) = 4 * (x * 8388608 + i) + 1
name_of _ = 2

-- the object whose sweep makes the slot
abbrev pub member_of : Back → Option ℕ
member_of (back.Field i x) = Some x
member_of _ = None

-- the slot among so many sweepers, and in a world
abbrev pub slot_among : ℕ → Back → Want → ℕ → Slot
slot_among sweepers b want t = record {
  name = name_of b;
  holder = holder_of sweepers b;
  target = t;
  want = want;
  has_place = true;
}

abbrev pub slot_at : World → Back → Want → ℕ → Slot
slot_at world = slot_among world.sweepers

abbrev pub due_of : World → Back → ℕ → Due
due_of world b t = record { slot = slot_at world b Keep t; member = member_of b; watched = [] }

-- The setting of the core has exactly the slots of the world. No object stays at its place, and nothing is believed
-- of what was read in a forwarding word.
pub record IsSettingOf (world : World) (w : Setting) : Type 0 where
  pub older : (x : ℕ) → has w.older x ≡ is_older world x
  pub given : w.given ≡ []
  pub past : w.past ≡ []
  pub believed : (x p : ℕ) → w.believed x p ≡ false
  pub owner : (x : ℕ) → w.owner x ≡ sweeper_of world.sweepers x
  pub place_owner : (x : ℕ) → w.place_owner x ≡ sweeper_of world.sweepers x
  pub stays : (x : ℕ) → w.stays x ≡ false
  pub was_place : (x : ℕ) → w.was_place x ≡ is_some (world.image x)
  pub from : (d : Due) → Contains w.dues d → (b : Back) × (t : ℕ) × (asks world b ≡ Some t) × (d ≡ due_of world b t)
  pub to : (b : Back) (t : ℕ) → asks world b ≡ Some t → Contains w.dues (due_of world b t)
