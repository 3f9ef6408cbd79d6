-- What contracts see of a sweeper, and what its steps change.
use Rattle.std.specs.Prelude.{◌≡◌, ◌≢◌, ℕ, ◌+◌, ◌-◌, ◌^◌, ◌<◌, ◌≤◌, Bool, true, false, List, [], ◌∷◌, ◌++◌, length, is_some, if◌then◌else◌, Option, None, Some, IsSome, Contains, ◌⊎◌}
use Rattle.gc_words.specs.declared.value.Value.TheVariants as value
use Rattle.gc_words.specs.Word.{value_of}
use Rattle.segment.specs.Segments.{Start}
use Rattle.territory.specs.Copies.{RefersToNoneBelow}
use Rattle.territory.specs.Following.{IfSwept}
use Rattle.territory.specs.Territories.{words_of}
use Rattle.gc_mail.specs.declared.message.Message.{Message}
use Rattle.gc_mail.specs.declared.message.Message.TheVariants as message
use Rattle.gc_mail.specs.declared.message.Slot.{Slot}
use Rattle.gc_mail.specs.declared.message.Slot.TheVariants as back
use Rattle.gc_mail.specs.Recipients.{owner}
use Rattle.directory.specs.declared.table.FromSegment.{FromSegment}
use Rattle.territory.specs.Finishing.{target_of}
use Rattle.directory.specs.Directories.{DirectoryView, IsCollected, from_at, sweeper_count}
use Rattle.sweep_model.specs.World.{is_strong, object_in, strong_value}
use Rattle.sweep_model.specs.Hands.{Hand, IsCopiedNow, IsPutAt, IsRegisterSet}
use Rattle.sweep_share.specs.Shares.{AreSound, IsAlike, IsPairOf, ShareView, is_aside, start_in}
use Rattle.sweep_share.specs.Registers.{RegistersView, register_in}
use Rattle.sweep_places.specs.Places.{IsOwnStart, PlacesView}
use Rattle.sweeper.specs.declared.lists.NextPair.{NextPair}
use Rattle.sweeper.specs.declared.lists.BegunPair.{BegunPair}

-- The territories and registers that it serves; the places of its objects, in the order of forwarding, and which of them
-- are not swept; its mail; which round comes next, and whether a round ran out of memory.
pub record SweeperView : Type 0 where
  pub share : ShareView
  pub registers : RegistersView
  pub places : PlacesView
  pub inbox : List Message
  pub outbox : List Message
  pub round : ℕ
  pub ran_out : Bool

-- its parts are of one sweeper of one collection
pub record IsJoined (v : SweeperView) : Type 0 where
  pub places : v.places.number ≡ v.share.number
  pub registers : v.registers.number ≡ v.share.number
  pub count : sweeper_count v.places.directory ≡ v.share.sweepers
  pub register_count : v.registers.sweepers ≡ v.share.sweepers

-- as a hand of the model
abbrev pub hand_of : SweeperView → Hand
hand_of v = record {
  number = v.share.number;
  now = start_in v.share;
  own = v.places.own;
  unswept = v.places.unswept;
  register = register_in v.registers;
  inbox = v.inbox;
  outbox = v.outbox;
}

-- with an object that was taken and is not swept yet: x, whose copy stands at p
abbrev pub in_hand : SweeperView → ℕ → ℕ → SweeperView
in_hand v x p = record v { places = record v.places { unswept = v.places.unswept ++ (x, p) ∷ [] } }

-- with the pair that is swept next in hand, where there is one
abbrev pub with_next : SweeperView → Option NextPair → SweeperView
with_next v None = v
with_next v (Some pair) = in_hand v pair.object pair.copy

-- its words are those of the object
abbrev pub IsNextPair : SweeperView → NextPair → Type 0
IsNextPair v pair = IsPairOf (start_in v.share pair.object) pair.car pair.cdr

-- ---- what a field asks for, as the directory tells it

abbrev pub if_aside : DirectoryView → Option ℕ → Option ℕ
if_aside d None = None
if_aside d (Some t) = if is_some (from_at d t) then Some t else None

abbrev pub asked_in : DirectoryView → Option Start → ℕ → Option ℕ
asked_in d start i = if_aside d (object_in (strong_value start i))

-- the same of a word that is a strong field
abbrev pub asked_by : DirectoryView → ℕ → Option ℕ
asked_by d word = if_aside d (object_in (value_of word))

-- the fields from one on and before another are strong
abbrev pub AreStrong : Option Start → ℕ → ℕ → Type 0
AreStrong None from end = Unit {0}
AreStrong (Some s) from end = (i : ℕ) → from ≤ i → i < end → is_strong s.kind i ≡ true

-- the fields of x from one on and before another ask for nothing
abbrev pub AskNothing : SweeperView → ℕ → ℕ → ℕ → Type 0
AskNothing v x from end =
    (i : ℕ) → from ≤ i → i < end → asked_in v.places.directory (start_in v.share x) i ≡ None

-- how much sweeping may be left: what may be forwarded yet, and what is unswept
abbrev pub left_of : SweeperView → ℕ
left_of v = 2 ^ 64 - length v.places.own + length v.places.unswept

-- ---- steps

-- the same collection, and neither the round nor the memory changed
pub record IsSteady (old new : SweeperView) : Type 0 where
  pub alike : IsAlike old.share new.share
  pub number : new.places.number ≡ old.places.number
  pub directory : new.places.directory ≡ old.places.directory
  pub registers : new.registers.number ≡ old.registers.number
  pub register_count : new.registers.sweepers ≡ old.registers.sweepers
  pub round : new.round ≡ old.round
  pub ran_out : new.ran_out ≡ old.ran_out

-- an object of its own that may be kept: it starts in a from-segment of a collected generation
pub record CanKeep (v : SweeperView) (x : ℕ) : Type 0 where
  pub start : Start
  pub here : start_in v.share x ≡ Some start
  pub own : IsOwnStart v.places.directory v.places.number x
  pub from : FromSegment
  pub lies : from_at v.places.directory x ≡ Some from
  pub same : from.generation ≡ start.generation
  pub young : start.generation ≤ v.places.directory.targets.cg

-- what starts at x goes to this generation
abbrev pub GoesTo : SweeperView → ℕ → ℕ → Type 0
GoesTo v x generation =
    (s : Start) → start_in v.share x ≡ Some s → generation ≡ target_of v.places.directory.targets s.generation

-- x was copied to q
pub record Copies (old new : SweeperView) (x q : ℕ) : Type 0 where
  pub steady : IsSteady old new
  pub copied : IsCopiedNow old.places.directory.targets (hand_of old) (hand_of new) x q
  pub few : length new.places.own < 2 ^ 64
  pub stays : is_aside new.share q ≡ false
  pub sound : (generation_at : ℕ → Option ℕ) (s : Start) → start_in old.share x ≡ Some s
      → RefersToNoneBelow generation_at s (target_of old.places.directory.targets s.generation)
      → AreSound generation_at old.share → AreSound generation_at new.share

-- x has the place q, from now on or since before
pub data IsKept (old new : SweeperView) (x q : ℕ) : Type 0 where
  WasKept : Contains old.places.own (x, q) → new ≡ old → IsKept old new x q
  IsKeptNow : Copies old new x q → IsKept old new x q

-- Field i of what stands at p has the place q. Cards stay sound where q is of no lower generation than `refers`.
pub record Puts (old new : SweeperView) (p i q refers : ℕ) : Type 0 where
  pub steady : IsSteady old new
  pub word : ℕ
  pub is_word : value_of word ≡ Some (value.Object q)
  pub put : IsPutAt (hand_of old) (hand_of new) p i word
  pub sound : (generation_at : ℕ → Option ℕ) → ((h : ℕ) → generation_at q ≡ Some h → refers ≤ h)
      → AreSound generation_at old.share → AreSound generation_at new.share

-- register r has the place q
pub record Sets (old new : SweeperView) (r q : ℕ) : Type 0 where
  pub steady : IsSteady old new
  pub share : new.share ≡ old.share
  pub put : IsRegisterSet (hand_of old) (hand_of new) r q

abbrev pub sends : SweeperView → Message → SweeperView
sends v m = record v { outbox = v.outbox ++ m ∷ [] }

-- where an object is: at its old place, where it is not collected, or where it was forwarded to
abbrev pub IsAtIn : SweeperView → ℕ → ℕ → Type 0
IsAtIn v x p = ((is_some (from_at v.places.directory x) ≡ false) × (p ≡ x)) ⊎ Contains v.places.own (x, p)

-- the object of the field has a place, and a word there that can be written
pub record HasField (v : SweeperView) (x i : ℕ) : Type 0 where
  pub at : (p : ℕ) × IsAtIn v x p
  pub index_in : (p : ℕ) → IsAtIn v x p → i < length (words_of (start_in v.share p))
  pub own : IsCollected v.places.directory x → IsOwnStart v.places.directory v.places.number x

abbrev pub HasWord : SweeperView → Slot → Type 0
HasWord v (back.Register r) = IsSome (register_in v.registers r)
HasWord v (back.Field i x) = HasField v x i
HasWord v _ = ⊥

-- the slot has the place q
abbrev pub Writes : SweeperView → SweeperView → Slot → ℕ → ℕ → Type 0
Writes old new (back.Register r) q refers = Sets old new r q
Writes old new (back.Field i x) q refers = (p : ℕ) × IsAtIn old x p × Puts old new p i q refers
Writes old new _ q refers = ⊥

-- What is done with field i of x, whose copy stands at p: nothing where it asks for nothing; where it asks for an object
-- of its own, that is kept and its place put; else its owner is asked.
pub data FieldDone (old new : SweeperView) (x p i : ℕ) : Type 0 where
  IsPlain : asked_in old.places.directory (start_in old.share x) i ≡ None → new ≡ old → FieldDone old new x p i
  IsOwn : (t q : ℕ) (mid : SweeperView) (c : CanKeep old t) → asked_in old.places.directory (start_in old.share x) i ≡ Some t
      → IsKept old mid t q → Puts mid new p i q (target_of old.places.directory.targets c.start.generation)
      → FieldDone old new x p i
  IsForeign : (t : ℕ) → asked_in old.places.directory (start_in old.share x) i ≡ Some t
      → owner old.share.sweepers t ≢ old.share.number → new ≡ sends old (message.Forward t (back.Field i x))
      → FieldDone old new x p i

-- ---- pairs that are followed

-- The pair b is in hand of u: its words are those of the object, and its car was swept then, or was not.
pub record IsHalfway (u new : SweeperView) (b : BegunPair) : Type 0 where
  pub words : IsNextPair u b.pair
  pub car : IfSwept b.car_swept (λ v w x p. FieldDone v w x p 0) u new b.pair.object b.pair.copy
