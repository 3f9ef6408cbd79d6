-- What a sweeper is made of, and what it asks for as it begins.
use Rattle.std.specs.Prelude.{◌≡◌, ℕ, ◌%◌, ◌<◌, ◌≤◌, ◌==◌, false, true, List, [], ◌∷◌, ◌++◌, length, slice_get, slice_index, if◌then◌else◌, Option, None, Some, Contains}
use Rattle.std.specs.FinMap.{get}
use Rattle.gc_words.specs.declared.value.Value.{Value}
use Rattle.gc_words.specs.declared.value.Value.TheVariants as value
use Rattle.segment.specs.Segments.{Start}
use Rattle.territory.specs.Territories.{HaveAddresses, TerritoryView, card_byte, words_of}
use Rattle.territory.specs.Olds.{AreOldByWords, AreOldOnes, olds_of}
use Rattle.gc_mail.specs.declared.message.Message.{Message}
use Rattle.gc_mail.specs.declared.message.Message.TheVariants as message
use Rattle.gc_mail.specs.declared.message.Slot.{Slot}
use Rattle.gc_mail.specs.declared.message.Slot.TheVariants as back
use Rattle.gc_mail.specs.Recipients.{owner}
use Rattle.directory.specs.declared.table.FromSegment.{FromSegment}
use Rattle.directory.specs.Directories.{CanStart, DirectoryView, IsCollected, from_at, sweeper_count}
use Rattle.sweep_model.specs.World.{World, is_collected}
use Rattle.sweep_model.specs.Wholes.{Begins}
use Rattle.sweep_share.specs.Registers.{RegistersView, item_at, register_in}
use Rattle.sweep_share.specs.Shares.{AreSound, ShareView, is_aside, start_in, territory_at}
use Rattle.sweeper.specs.declared.starting.Mail.{Mail}
use Rattle.sweeper.specs.Sweepers.{SweeperView, asked_by, asked_in, hand_of}
use Rattle.sweeper.specs.Ready.{Agrees, IsOrdered, IsReadyIn}

-- ---- the parts of a sweeper that is made

abbrev pub first_share : ℕ → DirectoryView → List TerritoryView → ShareView
first_share number d territories =
    record { number = number; sweepers = sweeper_count d; territories = territories }

abbrev pub first_registers : ℕ → DirectoryView → List (ℕ × Value) → RegistersView
first_registers number d items = record { number = number; sweepers = sweeper_count d; items = items }

abbrev pub generation_of : Option Start → Option ℕ
generation_of None = None
generation_of (Some s) = Some s.generation

-- The territories and registers of sweeper `number` are those of the world, as the collection begins in it. The
-- directory tells of each start whether it is collected. What is collected lies in from-segments, and the cards of
-- the sweeper's territories are sound by the generations that the starts have.
pub record IsBeginning (world : World) (number : ℕ) (d : DirectoryView) (territories : List TerritoryView)
    (registers : List (ℕ × Value)) : Type 0 where
  pub sweepers : world.sweepers ≡ sweeper_count d
  pub targets : world.targets ≡ d.targets
  pub starts : (a : ℕ) → owner world.sweepers a ≡ number
      → start_in (first_share number d territories) a ≡ world.image a
  pub held : (r : ℕ) → r % world.sweepers ≡ number
      → register_in (first_registers number d registers) r ≡ world.registers r
  pub can_start : (x : ℕ) (s : Start) → world.image x ≡ Some s → is_collected world x ≡ true → CanStart d x
  pub generations : (x : ℕ) (s : Start) → world.image x ≡ Some s → is_collected world x ≡ true
      → (f : FromSegment) × (from_at d x ≡ Some f) × (f.generation ≡ s.generation)
  pub older : (x : ℕ) (s : Start) → world.image x ≡ Some s → is_collected world x ≡ false → from_at d x ≡ None
  pub aside : (x : ℕ) (s : Start) → world.image x ≡ Some s → owner world.sweepers x ≡ number
      → is_aside (first_share number d territories) x ≡ is_collected world x
  pub cards : AreSound (λ a. generation_of (world.image a)) (first_share number d territories)

-- The sweeper is ready and stands for the start of the core, and its cards are sound by whatever generations the
-- collection will leave: each field that it is to fix yet gets its mark with its new place.
pub record IsBegun (world : World) (v : SweeperView) : Type 0 where
  pub ready : IsReadyIn world v
  pub begins : Begins world (hand_of v)
  pub cards : IsOrdered world → (generation_at : ℕ → Option ℕ) → Agrees world v.places.own [] generation_at
      → AreSound generation_at v.share

-- ---- the first mail

-- of slots and the objects that they ask for, the messages to itself and those to others
abbrev pub to_itself : ShareView → List (Slot × ℕ) → List Message
to_itself s [] = []
to_itself s (a ∷ rest) =
    if owner s.sweepers a.1 == s.number then message.Forward a.1 a.0 ∷ to_itself s rest else to_itself s rest

abbrev pub to_others : ShareView → List (Slot × ℕ) → List Message
to_others s [] = []
to_others s (a ∷ rest) =
    if owner s.sweepers a.1 == s.number then to_others s rest else message.Forward a.1 a.0 ∷ to_others s rest

-- no slot is there twice
abbrev pub NoSlotTwice : List (Slot × ℕ) → Type 0
NoSlotTwice [] = Unit {0}
NoSlotTwice (a ∷ rest) = ((t : ℕ) → Contains rest (a.0, t) → ⊥) × NoSlotTwice rest

-- exactly the slots that want an object asked for it, each once
pub record AreAsked (s : ShareView) (old new : Mail) (Wants : Slot → ℕ → Type 0) : Type 0 where
  pub asks : List (Slot × ℕ)
  pub inbox : new.inbox ≡ old.inbox ++ to_itself s asks
  pub outbox : new.outbox ≡ old.outbox ++ to_others s asks
  pub each : (b : Slot) (t : ℕ) → Contains asks (b, t) → Wants b t
  pub all : (b : Slot) (t : ℕ) → Wants b t → Contains asks (b, t)
  pub once : NoSlotTwice asks

-- ---- what asks: slot b for object t

-- this slot for this object, where it is collected
abbrev pub AsksFor : DirectoryView → Slot → ℕ → Slot → ℕ → Type 0
AsksFor d back target b t = (b ≡ back) × (t ≡ target) × IsCollected d t

-- one of the first n
abbrev pub OfFirst : (ℕ → Slot → ℕ → Type 0) → ℕ → Slot → ℕ → Type 0
OfFirst Wants n b t = (k : ℕ) × (k < n) × Wants k b t

-- the register at index k
abbrev pub AsksOfRegister : DirectoryView → RegistersView → ℕ → Slot → ℕ → Type 0
AsksOfRegister d s k b t =
    (b ≡ back.Register (item_at s.items k).0) × ((item_at s.items k).1 ≡ value.Object t) × IsCollected d t

abbrev pub AsksOfRegisters : DirectoryView → RegistersView → ℕ → Slot → ℕ → Type 0
AsksOfRegisters d s = OfFirst (AsksOfRegister d s)

-- field i of x
abbrev pub AsksAt : DirectoryView → TerritoryView → ℕ → ℕ → Slot → ℕ → Type 0
AsksAt d t x i b u = (b ≡ back.Field i x) × (asked_in d (get t.starts x) i ≡ Some u)

-- the words of x from one on and before another, under cards that tell of collected generations, ask for nothing
abbrev pub AskNothingOld : DirectoryView → TerritoryView → ℕ → ℕ → ℕ → Type 0
AskNothingOld d t x from end =
    (i : ℕ) → from ≤ i → i < end → card_byte t x i ≤ d.targets.cg
    → asked_by d (slice_index (words_of (get t.starts x)) i) ≡ None

-- field i of x, under a card that tells of a collected generation
abbrev pub AsksOfField : DirectoryView → TerritoryView → ℕ → ℕ → Slot → ℕ → Type 0
AsksOfField d t x i b u = (card_byte t x i ≤ d.targets.cg) × AsksAt d t x i b u

abbrev pub AsksOfObject : DirectoryView → TerritoryView → ℕ → ℕ → Slot → ℕ → Type 0
AsksOfObject d t x = OfFirst (AsksOfField d t x)

-- such a field of the older object at index k
abbrev pub AsksOfOld : DirectoryView → TerritoryView → ℕ → Slot → ℕ → Type 0
AsksOfOld d t k b u =
    (x : ℕ) × (slice_get (olds_of t d.targets.cg) k ≡ Some x)
    × AsksOfObject d t x (length (words_of (get t.starts x))) b u

abbrev pub AsksOfOlds : DirectoryView → TerritoryView → ℕ → Slot → ℕ → Type 0
AsksOfOlds d t = OfFirst (AsksOfOld d t)

-- ... of the territory at index k
abbrev pub AsksOfTerritory : DirectoryView → ShareView → ℕ → Slot → ℕ → Type 0
AsksOfTerritory d s k =
    AsksOfOlds d (territory_at s k) (length (olds_of (territory_at s k) d.targets.cg))

abbrev pub AsksOfOldsOfAll : DirectoryView → ShareView → ℕ → Slot → ℕ → Type 0
AsksOfOldsOfAll d s = OfFirst (AsksOfTerritory d s)

-- what a territory tells of its older objects
pub record AreTold (t : TerritoryView) (cg : ℕ) : Type 0 where
  pub olds : AreOldOnes t cg (olds_of t cg)
  pub words : AreOldByWords t cg
  pub addresses : HaveAddresses t
