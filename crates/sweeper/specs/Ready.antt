-- What a sweeper stands for in a world, and what its rounds do.
use Rattle.std.specs.Prelude.{◌≡◌, ◌≢◌, ℕ, ◌≤◌, true, false, List, [], ◌∷◌, Option, None, Some, IsSome, Contains}
use Rattle.segment.specs.Segments.{Start}
use Rattle.territory.specs.Territories.{Refers}
use Rattle.gc_mail.specs.declared.message.Message.{Message}
use Rattle.gc_mail.specs.declared.message.Message.TheVariants as message
use Rattle.gc_mail.specs.declared.message.Slot.{Slot}
use Rattle.gc_mail.specs.declared.message.Slot.TheVariants as back
use Rattle.gc_mail.specs.Recipients.{holder_of, owner}
use Rattle.owned_core.specs.declared.slot.Standing.{Standing}
use Rattle.owned_core.specs.Settings.{Setting}
use Rattle.directory.specs.declared.table.FromSegment.{FromSegment}
use Rattle.territory.specs.Finishing.{target_of}
use Rattle.directory.specs.Directories.{CanStart, from_at}
use Rattle.sweep_model.specs.World.{IsWorld, World, asks, goes_to, is_collected}
use Rattle.sweep_model.specs.Settings.{IsSettingOf}
use Rattle.sweep_model.specs.Holding.{Goes, in_standing}
use Rattle.sweep_model.specs.Wholes.{IsReady, MayCome}
use Rattle.sweep_share.specs.Shares.{AreSound, is_aside}
use Rattle.sweep_share.specs.Registers.{register_in}
use Rattle.sweeper.specs.declared.lists.BegunPair.{BegunPair}
use Rattle.sweeper.specs.declared.lists.NextPair.{NextPair}
use Rattle.sweeper.specs.Sweepers.{CanKeep, IsHalfway, IsJoined, IsKept, IsSteady, SweeperView, Writes, hand_of, in_hand, left_of, sends}

-- ---- cards

-- What was older is of a generation to which nothing younger goes beyond, and each word refers to what started somewhere.
pub record IsOrdered (world : World) : Type 0 where
  pub above : (x : ℕ) (s : Start) → world.image x ≡ Some s → is_collected world x ≡ false → world.targets.max ≤ s.generation
  pub refers : (x i b : ℕ) (s : Start) → world.image x ≡ Some s → Refers s i b → IsSome (world.image b)

-- The generations after the collection, as far as they are known: older objects keep theirs, nothing is at the old places
-- of collected ones, and what was forwarded, or told by these messages, has its new one at its place.
pub record Agrees (world : World) (own : List (ℕ × ℕ)) (told : List Message) (generation_at : ℕ → Option ℕ) : Type 0 where
  pub older : (x : ℕ) (s : Start) → world.image x ≡ Some s → is_collected world x ≡ false → generation_at x ≡ Some s.generation
  pub gone : (x : ℕ) → is_collected world x ≡ true → generation_at x ≡ None
  pub kept : (x q : ℕ) (s : Start) → Contains own (x, q) → world.image x ≡ Some s
      → generation_at q ≡ Some (goes_to world.targets s.generation)
  pub moved : (b : Slot) (q t : ℕ) (s : Start) → Contains told (message.Moved b q) → asks world b ≡ Some t
      → world.image t ≡ Some s → generation_at q ≡ Some (goes_to world.targets s.generation)

-- Cards stay sound by the generations after the collection, where the places of these messages were told.
abbrev pub KeepsCards : World → List Message → SweeperView → SweeperView → Type 0
KeepsCards world told old new =
    IsOrdered world → (generation_at : ℕ → Option ℕ) → Agrees world new.places.own told generation_at
    → AreSound generation_at old.share → AreSound generation_at new.share

-- ---- a sweeper in a world

-- The directory tells of each start whether it is collected, and its generation; each register that asks is there.
pub record Fits (world : World) (v : SweeperView) : Type 0 where
  pub sweepers : world.sweepers ≡ v.share.sweepers
  pub targets : world.targets ≡ v.places.directory.targets
  pub can_start : (x : ℕ) (s : Start) → world.image x ≡ Some s → is_collected world x ≡ true
      → CanStart v.places.directory x
  pub generations : (x : ℕ) (s : Start) → world.image x ≡ Some s → is_collected world x ≡ true
      → (f : FromSegment) × (from_at v.places.directory x ≡ Some f) × (f.generation ≡ s.generation)
  pub older : (x : ℕ) (s : Start) → world.image x ≡ Some s → is_collected world x ≡ false
      → from_at v.places.directory x ≡ None
  pub registers : (r t : ℕ) → asks world (back.Register r) ≡ Some t → holder_of world.sweepers (back.Register r) ≡ v.share.number
      → IsSome (register_in v.registers r)

-- what is collected lies in from-segments, and nothing else does
pub record IsApart (world : World) (v : SweeperView) : Type 0 where
  pub starts : (x : ℕ) (s : Start) → world.image x ≡ Some s → owner world.sweepers x ≡ v.share.number
      → is_aside v.share x ≡ is_collected world x
  pub copies : (x p : ℕ) → Contains v.places.own (x, p) → is_aside v.share p ≡ false

pub record IsReadyIn (world : World) (v : SweeperView) : Type 0 where
  pub is_world : IsWorld world
  pub joined : IsJoined v
  pub fits : Fits world v
  pub ready : IsReady world (hand_of v)
  pub apart : IsApart world v

-- a sweeper between two messages, in some world
abbrev pub Ready : SweeperView → Type 0
Ready v = (world : World) × (w : Setting) × IsSettingOf world w × IsReadyIn world v

-- ---- what was done

-- The sweeper stands for the world as before: nothing came, no place was forgotten, and cards are sound where they were
-- and these messages told places.
pub record Follows (world : World) (told : List Message) (v v' : SweeperView) : Type 0 where
  pub ready : IsReadyIn world v'
  pub steady : IsSteady v v'
  pub inbox : (m : Message) → Contains v'.inbox m → Contains v.inbox m
  pub own : (x q : ℕ) → Contains v.places.own (x, q) → Contains v'.places.own (x, q)
  pub cards : KeepsCards world told v v'

-- from the one to the other, where these slots were at hand before and after
pub record Went (world : World) (w : Setting) (told : List Message) (v v' : SweeperView) (todo todo' : List Standing)
    : Type 0 where
  pub follows : Follows world told v v'
  pub goes : Goes world w (hand_of v) todo (hand_of v') todo'

-- a list of events of the sweeper, in each world and from each part for which it stood
abbrev pub Runs : SweeperView → SweeperView → Type 0
Runs v v' = (world : World) (w : Setting) → IsSettingOf world w → IsReadyIn world v → Went world w v.inbox v v' [] []

-- a run, after which another round comes next
abbrev pub RunsRound : SweeperView → SweeperView → Type 0
RunsRound v v' = Runs v (record v' { round = v.round })

-- the message was handled
abbrev pub Handles : SweeperView → Message → SweeperView → Type 0
Handles v m v' =
    (world : World) (w : Setting) → IsSettingOf world w → IsReadyIn world v → MayCome world (hand_of v) m
    → Went world w (m ∷ []) v v' (in_standing world m ∷ []) []

abbrev pub MayHandle : SweeperView → Message → Type 0
MayHandle v m =
    (world : World) × (w : Setting) × IsSettingOf world w × IsReadyIn world v × MayCome world (hand_of v) m

-- An object of its own was asked for: it is kept, and its place is written where the slot is its own, else told.
pub data Answered (v v' : SweeperView) (t : ℕ) (b : Slot) : Type 0 where
  IsWrittenNow : (q : ℕ) (mid : SweeperView) (c : CanKeep v t) → holder_of v.share.sweepers b ≡ v.share.number
      → IsKept v mid t q → Writes mid v' b q (target_of v.places.directory.targets c.start.generation) → Answered v v' t b
  IsTold : (q : ℕ) (mid : SweeperView) → holder_of v.share.sweepers b ≢ v.share.number
      → IsKept v mid t q → v' ≡ sends mid (message.Moved b q) → Answered v v' t b

-- the pair is in hand, and the sweeper was ready before its car was swept, or is
pub record HasBegun (v : SweeperView) (b : BegunPair) : Type 0 where
  pub before : SweeperView
  pub ready : Ready (in_hand before b.pair.object b.pair.copy)
  pub halfway : IsHalfway before v b

-- From the pair in hand it went on to another one, whose car was swept then, or was not.
pub record ComesTo (old new : SweeperView) (first : NextPair) (b : BegunPair) : Type 0 where
  pub before : SweeperView
  pub runs : Runs (in_hand old first.object first.copy) (in_hand before b.pair.object b.pair.copy)
  pub halfway : IsHalfway before new b
  pub directory : before.places.directory ≡ old.places.directory
  pub most : left_of (in_hand before b.pair.object b.pair.copy) ≤ left_of (in_hand old first.object first.copy)
