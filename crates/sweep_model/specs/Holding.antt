-- The part of the core's state that a sweeper stands for: the stage of a slot is read off where it lies.
use Rattle.std.specs.Prelude.{◌≡◌, ℕ, zero, suc, ◌+◌, ◌≤◌, Bool, true, false, List, [], ◌∷◌, ◌++◌, map, Option, None, Some, Contains, IsTrue, ◌⊎◌}
use Rattle.gc_mail.specs.declared.message.Message.{Message}
use Rattle.gc_mail.specs.declared.message.Message.TheVariants as message
use Rattle.gc_mail.specs.declared.message.Slot.{Slot as Back}
use Rattle.gc_mail.specs.declared.message.Slot.TheVariants as back
use Rattle.gc_mail.specs.Recipients.{owner}
use Rattle.owned_core.specs.declared.slot.Want.TheVariants.{Keep, Watch}
use Rattle.owned_core.specs.declared.slot.Stage.TheVariants.{Asked, Heard, Answered, Told, Fixed}
use Rattle.owned_core.specs.declared.slot.Slot.{Slot}
use Rattle.owned_core.specs.declared.slot.Standing.{Standing}
use Rattle.owned_core.specs.declared.machine.Entry.{Entry}
use Rattle.owned_core.specs.Slots.{same_slot}
use Rattle.owned_core.specs.Owned.{begun}
use Rattle.owned_core.specs.Settings.{Setting}
use Rattle.owned_core.specs.declared.event.Event.{Event}
use Rattle.owned_core.specs.Parts.{Part, ReachesHere}
use Rattle.sweep_model.specs.World.{World, asks, is_collected}
use Rattle.sweep_model.specs.Settings.{slot_at}
use Rattle.sweep_model.specs.Hands.{Hand, FixedAt, IsSwept, unswept_of}

abbrev pub entry_of : ℕ → ℕ × ℕ → Entry
entry_of k f = record { sweeper = k; object = f.0; place = f.1 }

-- the object that the slot asks for
abbrev pub or_zero : Option ℕ → ℕ
or_zero None = 0
or_zero (Some t) = t

-- ---- the slots that messages stand for

-- a message that came: its slot was heard, or told a place
abbrev pub in_standing : World → Message → Standing
in_standing world (message.Forward t b) = record { slot = slot_at world b Keep t; stage = Heard }
in_standing world (message.Watch t b) = record { slot = slot_at world b Watch t; stage = Heard }
in_standing world (message.Moved b p) = record { slot = slot_at world b Keep (or_zero (asks world b)); stage = Told p }

-- a message that goes: its slot is asked for, or answered
abbrev pub out_standing : World → Message → Standing
out_standing world (message.Forward t b) = record { slot = slot_at world b Keep t; stage = Asked }
out_standing world (message.Watch t b) = record { slot = slot_at world b Watch t; stage = Asked }
out_standing world (message.Moved b p) =
    record { slot = slot_at world b Keep (or_zero (asks world b)); stage = Answered p }

-- the slots that are at hand just now, and those of the mail
abbrev pub mail_of : World → Hand → List Standing → List Standing
mail_of world h todo = todo ++ (map (in_standing world) h.inbox ++ map (out_standing world) h.outbox)

abbrev pub one_if : Bool → ℕ
one_if true = 1
one_if false = 0

-- how often the slot stands there
abbrev pub count_of : Slot → List Standing → ℕ
count_of a [] = 0
count_of a (t ∷ ts) = one_if (same_slot t.slot a) + count_of a ts

-- ---- the slots that are fixed

-- the place stands where the slot wants it
pub record IsFixedThere (world : World) (h : Hand) (t : Standing) : Type 0 where
  pub where_to : Back
  pub place : ℕ
  pub wants : asks world where_to ≡ Some t.slot.target
  pub slot : t.slot ≡ slot_at world where_to Keep t.slot.target
  pub stage : t.stage ≡ Fixed place
  pub there : FixedAt world h where_to place

-- the slot is one of the world
pub record IsKnown (world : World) (a : Slot) : Type 0 where
  pub where_to : Back
  pub wants : asks world where_to ≡ Some a.target
  pub slot : a ≡ slot_at world where_to Keep a.target

-- ---- the part

pub record Holds (world : World) (w : Setting) (h : Hand) (todo : List Standing) (p : Part) : Type 0 where
  pub own : p.own ≡ map (entry_of h.number) h.own
  pub unswept : p.unswept ≡ unswept_of h
  -- what lies here is at hand, in the mail or fixed, and nothing stands twice
  pub mail : (t : Standing) → Contains (mail_of world h todo) t → Contains p.here t
  pub here : (t : Standing) → Contains p.here t → Contains (mail_of world h todo) t ⊎ IsFixedThere world h t
  pub once : (a : Slot) → count_of a (mail_of world h todo) ≤ 1
  pub apart : (t u : Standing) → Contains p.here t → Contains p.here u → IsTrue (same_slot t.slot u.slot) → t ≡ u
  pub known : (t : Standing) → Contains p.here t → IsKnown world t.slot
  -- the slots of an object of its own come with its sweep
  pub begun : (t : Standing) → Contains p.here t → (x i : ℕ) → asks world (back.Field i x) ≡ Some t.slot.target
      → t.slot ≡ slot_at world (back.Field i x) Keep t.slot.target → owner world.sweepers x ≡ h.number
      → (is_collected world x ≡ false) ⊎ IsSwept h x

-- What is done leads from the one to the other, by events of this sweeper, from each part that it stood for.
abbrev pub Goes : World → Setting → Hand → List Standing → Hand → List Standing → Type 0
Goes world w h todo h' todo' =
    (p : Part) → Holds world w h todo p
    → (es : List Event) × (q : Part) × ReachesHere w h.number p es q × Holds world w h' todo' q

-- ---- the slots that a sweep makes: of field i, and of n fields from i on

abbrev pub news_at : World → Setting → ℕ → ℕ → Option ℕ → List Standing
news_at world w x i None = []
news_at world w x i (Some t) = begun w (slot_at world (back.Field i x) Keep t) ∷ []

abbrev pub news_from : World → Setting → ℕ → ℕ → ℕ → List Standing
news_from world w x i zero = []
news_from world w x i (suc n) =
    news_at world w x i (asks world (back.Field i x)) ++ news_from world w x (i + 1) n
