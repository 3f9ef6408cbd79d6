-- All sweepers together, and the state of the core that they stand for.
use Rattle.std.specs.Prelude.{◌≡◌, ◌≢◌, ℕ, ◌<◌, ◌≤◌, true, false, List, [], ◌++◌, length, slice_index_or, None, Some, Contains, IsTrue}
use Rattle.gc_words.specs.declared.value.Value.TheVariants as value
use Rattle.trace_types.specs.Rules.{has, least}
use Rattle.gc_mail.specs.declared.message.Message.{Message}
use Rattle.gc_mail.specs.declared.message.Message.TheVariants as message
use Rattle.gc_mail.specs.declared.message.Slot.{Slot as Back}
use Rattle.gc_mail.specs.declared.message.Slot.TheVariants as back
use Rattle.gc_mail.specs.Recipients.{IsDelivered, all_of, holder_of, owner, recipient_of}
use Rattle.segment.specs.Segments.{Start}
use Rattle.owned_core.specs.declared.event.Event.{Event}
use Rattle.owned_core.specs.declared.slot.Slot.{Slot}
use Rattle.owned_core.specs.Settings.{Setting, rules_of}
use Rattle.owned_core.specs.Owned.{State}
use Rattle.owned_core.specs.Events.{Reaches}
use Rattle.owned_core.specs.Invariants.{Invariant, IsIdle}
use Rattle.owned_core.specs.Ranks.{Covers, rank}
use Rattle.owned_core.specs.Parts.{InTerritory, Part}
use Rattle.owned_core.specs.Rounds.{ArePartsOf, HeldInRange}
use Rattle.sweep_model.specs.World.{World, IsWorld, asks, is_collected}
use Rattle.sweep_model.specs.Settings.{IsSettingOf}
use Rattle.sweep_model.specs.Hands.{Hand, IsAt, Tied, field_of}
use Rattle.sweep_model.specs.Holding.{Goes, Holds, count_of, mail_of}

-- ---- messages that may come and go

-- the object of the slot has its place already
abbrev pub IsPlaced : World → Hand → Back → Type 0
IsPlaced world h (back.Field i x) = (p : ℕ) × IsAt world h.own x p
IsPlaced world h _ = Unit {0}

-- A message that may come to the sweeper: another one asks for an object of its own, or it does itself; or it is
-- told a place for which it asked.
abbrev pub MayCome : World → Hand → Message → Type 0
MayCome world h (message.Forward t b) =
    (asks world b ≡ Some t) × (owner world.sweepers t ≡ h.number)
    × (holder_of world.sweepers b ≡ h.number → IsPlaced world h b)
MayCome world h (message.Moved b q) =
    ((t : ℕ) × (asks world b ≡ Some t)) × (holder_of world.sweepers b ≡ h.number) × IsPlaced world h b
MayCome world h (message.Watch t b) = ⊥

-- a message that it may send
abbrev pub MayGo : World → Hand → Message → Type 0
MayGo world h (message.Forward t b) =
    (asks world b ≡ Some t) × (holder_of world.sweepers b ≡ h.number) × (owner world.sweepers t ≢ h.number)
MayGo world h (message.Moved b q) =
    (t : ℕ) × (asks world b ≡ Some t) × (owner world.sweepers t ≡ h.number) × (holder_of world.sweepers b ≢ h.number)
MayGo world h (message.Watch t b) = ⊥

-- a sweeper between two messages
pub record IsReady (world : World) (h : Hand) : Type 0 where
  pub number_in : h.number < world.sweepers
  pub tied : Tied world h
  pub comes : (m : Message) → Contains h.inbox m → MayCome world h m
  pub goes : (m : Message) → Contains h.outbox m → MayGo world h m

-- what a round has done
pub record Went (world : World) (w : Setting) (h h' : Hand) : Type 0 where
  pub ready : IsReady world h'
  pub number : h'.number ≡ h.number
  pub goes : Goes world w h [] h' []

-- ---- the whole

-- the hands of sweepers 0 to n - 1 stand for a state that meets the invariant
pub record Stand (world : World) (w : Setting) (hands : ℕ → Hand) (s : State) : Type 0 where
  pub parts : ℕ → Part
  pub invariant : Invariant w s
  pub territory : InTerritory w s
  pub held : HeldInRange world.sweepers s
  pub are_parts : ArePartsOf w world.sweepers s parts
  pub numbers : (k : ℕ) → k < world.sweepers → (hands k).number ≡ k
  pub ready : (k : ℕ) → k < world.sweepers → IsReady world (hands k)
  pub holds : (k : ℕ) → k < world.sweepers → Holds world w (hands k) [] (parts k)

-- A state that is reached from s, for which the sweepers stand. Whatever slots are counted, no more is left to do for
-- them than in s.
pub record After (world : World) (w : Setting) (hands : ℕ → Hand) (s : State) : Type 0 where
  pub state : State
  pub events : List Event
  pub reached : Reaches w s events state
  pub stand : Stand world w hands state
  pub lower : (names : List Slot) → Covers w names → rank names state ≤ rank names s

-- a round of each sweeper, in threads or not, leads to a state that they stand for
abbrev pub RoundStands : Type 0
RoundStands =
    (world : World) (w : Setting) (before after : ℕ → Hand) (s : State) → IsWorld world → IsSettingOf world w
    → Stand world w before s → ((k : ℕ) → k < world.sweepers → Went world w (before k) (after k))
    → After world w after s

-- The mail was exchanged: each inbox, which was empty, has what was for it, and the outboxes are empty.
pub record AreMailed (n : ℕ) (before after : ℕ → Hand) : Type 0 where
  pub emptied : (k : ℕ) → k < n → (before k).inbox ≡ []
  pub same : (k : ℕ) → k < n → after k ≡ record (before k) { inbox = (after k).inbox; outbox = [] }
  pub sent : List (List Message)
  pub count : length sent ≡ n
  pub sent_is : (k : ℕ) → k < n → slice_index_or sent k [] ≡ (before k).outbox
  pub inboxes : List (List Message)
  pub inbox_is : (k : ℕ) → k < n → slice_index_or inboxes k [] ≡ (after k).inbox
  pub delivered : IsDelivered n (all_of sent) inboxes

-- so does the exchange
abbrev pub ExchangeStands : Type 0
ExchangeStands =
    (world : World) (w : Setting) (before after : ℕ → Hand) (s : State) → IsWorld world → IsSettingOf world w
    → Stand world w before s → AreMailed world.sweepers before after → After world w after s

-- ---- the end

-- nothing is left to do
pub record IsQuiet (h : Hand) : Type 0 where
  pub inbox : h.inbox ≡ []
  pub outbox : h.outbox ≡ []
  pub swept : h.unswept ≡ []

-- Each object that the rules reach was forwarded by its owner, and nothing else; each slot of what was forwarded, of
-- what is older and of registers has the place of its object.
pub record AreDone (world : World) (w : Setting) (hands : ℕ → Hand) (s : State) : Type 0 where
  pub idle : IsIdle s
  pub kept : (x : ℕ) → is_collected world x ≡ true → IsTrue (has (least (rules_of w)) x)
      → (p : ℕ) × Contains (hands (owner world.sweepers x)).own (x, p)
  pub alone : (k x p : ℕ) → k < world.sweepers → Contains (hands k).own (x, p)
      → (is_collected world x ≡ true) × IsTrue (has (least (rules_of w)) x)
  pub fields : (x p i t : ℕ) → IsAt world (hands (owner world.sweepers x)).own x p → asks world (back.Field i x) ≡ Some t
      → (q : ℕ) × Contains (hands (owner world.sweepers t)).own (t, q)
      × (field_of ((hands (owner world.sweepers x)).now p) i ≡ Some (value.Object q))
  pub registers : (r t : ℕ) → asks world (back.Register r) ≡ Some t
      → (q : ℕ) × Contains (hands (owner world.sweepers t)).own (t, q)
      × ((hands (holder_of world.sweepers (back.Register r))).register r ≡ Some (value.Object q))

abbrev pub QuietIsDone : Type 0
QuietIsDone =
    (world : World) (w : Setting) (hands : ℕ → Hand) (s : State) → IsWorld world → IsSettingOf world w
    → Stand world w hands s → ((k : ℕ) → k < world.sweepers → IsQuiet (hands k)) → AreDone world w hands s

-- ---- the start

-- a slot that is there from the start: of a register, or of a field of an older object
abbrev pub IsRoot : World → Back → Type 0
IsRoot world (back.Register r) = Unit {0}
IsRoot world (back.Field i x) = is_collected world x ≡ false
IsRoot world _ = ⊥

-- the message asks for the object of a root that the sweeper holds
pub record AsksForRoot (world : World) (h : Hand) (m : Message) : Type 0 where
  pub where_to : Back
  pub target : ℕ
  pub is : m ≡ message.Forward target where_to
  pub wants : asks world where_to ≡ Some target
  pub root : IsRoot world where_to
  pub holder : holder_of world.sweepers where_to ≡ h.number

-- What a sweeper begins with: nothing is forwarded, and each root that it holds is asked for once, of itself where the
-- object is its own.
pub record Begins (world : World) (h : Hand) : Type 0 where
  pub number_in : h.number < world.sweepers
  pub tied : Tied world h
  pub own : h.own ≡ []
  pub unswept : h.unswept ≡ []
  pub comes : (m : Message) → Contains h.inbox m
      → AsksForRoot world h m × (recipient_of world.sweepers m ≡ h.number)
  pub goes : (m : Message) → Contains h.outbox m
      → AsksForRoot world h m × (recipient_of world.sweepers m ≢ h.number)
  pub all : (b : Back) (t : ℕ) → asks world b ≡ Some t → IsRoot world b → holder_of world.sweepers b ≡ h.number
      → Contains (h.inbox ++ h.outbox) (message.Forward t b)
  pub once : (a : Slot) → count_of a (mail_of world h []) ≤ 1

-- sweepers that begin so stand for the state in which the core begins
abbrev pub StartStands : Type 0
StartStands =
    (world : World) (w : Setting) (hands : ℕ → Hand) → IsWorld world → IsSettingOf world w
    → ((k : ℕ) → k < world.sweepers → Begins world (hands k) × ((hands k).number ≡ k))
    → (s : State) × Stand world w hands s

-- the starts of a world are finitely many, and so are its registers
pub record IsListed (world : World) : Type 0 where
  pub starts : List ℕ
  pub all : (a : ℕ) (x : Start) → world.image a ≡ Some x → Contains starts a
  pub registers : ℕ
  pub none : (r : ℕ) → registers ≤ r → world.registers r ≡ None

-- each world has a setting
abbrev pub WorldHasSetting : Type 0
WorldHasSetting = (world : World) → IsListed world → (w : Setting) × IsSettingOf world w
