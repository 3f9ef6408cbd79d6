-- What one sweeper has in hand.
use Rattle.std.specs.Prelude.{◌≡◌, ◌≢◌, ℕ, ◌<◌, true, false, List, [], ◌∷◌, ◌++◌, map, length, slice_index, slice_index_or, slice_set, Option, None, Some, Contains, ◌⊎◌}
use Rattle.gc_words.specs.declared.value.Value.{Value}
use Rattle.gc_words.specs.declared.value.Value.TheVariants as value
use Rattle.gc_words.specs.Word.{value_of}
use Rattle.gc_words.specs.Layout.{thread_of}
use Rattle.segment.specs.Segments.{Start}
use Rattle.territory.specs.declared.territory.Targets.{Targets}
use Rattle.gc_mail.specs.declared.message.Message.{Message}
use Rattle.gc_mail.specs.declared.message.Slot.{Slot as Back}
use Rattle.gc_mail.specs.declared.message.Slot.TheVariants as back
use Rattle.gc_mail.specs.Recipients.{holder_of, owner}
use Rattle.sweep_model.specs.World.{World, asks, is_collected, goes_to}

-- A sweeper: its number; what starts in its territories; the pairs of an object and its place in the order of
-- forwarding, and of these pairs those whose objects are not swept yet; its registers; and its mail. The last of the
-- unswept is swept next.
pub record Hand : Type 0 where
  pub number : ℕ
  pub now : ℕ → Option Start
  pub own : List (ℕ × ℕ)
  pub unswept : List (ℕ × ℕ)
  pub register : ℕ → Option Value
  pub inbox : List Message
  pub outbox : List Message

-- object n in the order of forwarding
abbrev pub forwarded_at : List (ℕ × ℕ) → ℕ → ℕ × ℕ
forwarded_at own n = slice_index_or own n (0, 0)

abbrev pub object_of : ℕ × ℕ → ℕ
object_of f = f.0

abbrev pub unswept_of : Hand → List ℕ
unswept_of h = map object_of h.unswept

-- the object was forwarded and is not among the unswept
abbrev pub IsSwept : Hand → ℕ → Type 0
IsSwept h x = ((p : ℕ) × Contains h.own (x, p)) × ((q : ℕ) → Contains h.unswept (x, q) → ⊥)

-- the object has no place yet
abbrev pub IsAbsent : List (ℕ × ℕ) → ℕ → Type 0
IsAbsent own x = (n : ℕ) → n < length own → (forwarded_at own n).0 ≢ x

-- where the object is: an older one stays, a collected one is where it was forwarded to
abbrev pub IsAt : World → List (ℕ × ℕ) → ℕ → ℕ → Type 0
IsAt world own x p = ((is_collected world x ≡ false) × (p ≡ x)) ⊎ Contains own (x, p)

-- the field of a start
abbrev pub field_of : Option Start → ℕ → Option Value
field_of None i = None
field_of (Some x) i = value_of (slice_index x.words i)

-- the slot's word has the place q
abbrev pub FixedAt : World → Hand → Back → ℕ → Type 0
FixedAt world h (back.Register r) q = h.register r ≡ Some (value.Object q)
FixedAt world h (back.Field i x) q =
    (p : ℕ) × IsAt world h.own x p × (field_of (h.now p) i ≡ Some (value.Object q))
FixedAt world h _ q = ⊥

-- ---- what the memory has

-- What stands at p is what stood at x, but for its generation and the fields that ask for an object.
pub record IsKeptAt (world : World) (h : Hand) (x p : ℕ) : Type 0 where
  pub old : Start
  pub new : Start
  pub was : world.image x ≡ Some old
  pub is : h.now p ≡ Some new
  pub kind : new.kind ≡ old.kind
  pub size : new.length ≡ old.length
  pub birth : new.birth ≡ old.birth
  pub generation : new.generation ≡ goes_to world.targets old.generation
  pub words : length new.words ≡ length old.words
  pub plain : (i : ℕ) → asks world (back.Field i x) ≡ None → slice_index new.words i ≡ slice_index old.words i

pub record Tied (world : World) (h : Hand) : Type 0 where
  -- the collected objects can still be read at their old places
  pub frozen : (x : ℕ) (s : Start) → world.image x ≡ Some s → owner world.sweepers x ≡ h.number
      → is_collected world x ≡ true → h.now x ≡ Some s
  -- older objects stay, and those that were forwarded have copies
  pub older : (x : ℕ) (s : Start) → world.image x ≡ Some s → owner world.sweepers x ≡ h.number
      → is_collected world x ≡ false → IsKeptAt world h x x
  pub copied : (x p : ℕ) → Contains h.own (x, p) → IsKeptAt world h x p
  -- each collected object has one copy, where nothing was
  pub mine : (x p : ℕ) → Contains h.own (x, p) → (owner world.sweepers x ≡ h.number) × (is_collected world x ≡ true)
  pub fresh : (x p : ℕ) → Contains h.own (x, p) → (world.image p ≡ None) × (thread_of p ≡ thread_of x)
  pub objects_once : (m n : ℕ) → m < length h.own → n < length h.own
      → (forwarded_at h.own m).0 ≡ (forwarded_at h.own n).0 → m ≡ n
  pub places_once : (m n : ℕ) → m < length h.own → n < length h.own
      → (forwarded_at h.own m).1 ≡ (forwarded_at h.own n).1 → m ≡ n
  -- the unswept are forwarded, each once
  pub unswept_in : (x p : ℕ) → Contains h.unswept (x, p) → Contains h.own (x, p)
  pub unswept_once : (m n : ℕ) → m < length h.unswept → n < length h.unswept
      → (forwarded_at h.unswept m).0 ≡ (forwarded_at h.unswept n).0 → m ≡ n
  -- and there is nothing else
  pub only : (p : ℕ) (s : Start) → h.now p ≡ Some s
      → (owner world.sweepers p ≡ h.number) × (((s' : Start) × (world.image p ≡ Some s')) ⊎ ((x : ℕ) × Contains h.own (x, p)))
  -- a register of its own that asks for nothing is as it was
  pub registers : (r : ℕ) → holder_of world.sweepers (back.Register r) ≡ h.number → asks world (back.Register r) ≡ None
      → h.register r ≡ world.registers r

-- ---- what the code does to it

-- the object x was copied to the place q
pub record IsCopiedNow (targets : Targets) (h h' : Hand) (x q : ℕ) : Type 0 where
  pub number : h'.number ≡ h.number
  pub own : h'.own ≡ h.own ++ (x, q) ∷ []
  pub unswept : h'.unswept ≡ h.unswept ++ (x, q) ∷ []
  pub register : h'.register ≡ h.register
  pub inbox : h'.inbox ≡ h.inbox
  pub outbox : h'.outbox ≡ h.outbox
  pub absent : IsAbsent h.own x
  pub free : h.now q ≡ None
  pub thread : thread_of q ≡ thread_of x
  pub here : (y : Start) → h.now x ≡ Some y
      → h'.now q ≡ Some (record y { generation = goes_to targets y.generation })
  pub others : (b : ℕ) → b ≢ q → h'.now b ≡ h.now b

-- word i of what starts at p is `word` now
pub record IsPutAt (h h' : Hand) (p i word : ℕ) : Type 0 where
  pub number : h'.number ≡ h.number
  pub own : h'.own ≡ h.own
  pub unswept : h'.unswept ≡ h.unswept
  pub register : h'.register ≡ h.register
  pub inbox : h'.inbox ≡ h.inbox
  pub outbox : h'.outbox ≡ h.outbox
  pub here : (y : Start) → h.now p ≡ Some y → h'.now p ≡ Some (record y { words = slice_set y.words i word })
  pub others : (b : ℕ) → b ≢ p → h'.now b ≡ h.now b

-- register r holds the place q now
pub record IsRegisterSet (h h' : Hand) (r q : ℕ) : Type 0 where
  pub number : h'.number ≡ h.number
  pub now : h'.now ≡ h.now
  pub own : h'.own ≡ h.own
  pub unswept : h'.unswept ≡ h.unswept
  pub inbox : h'.inbox ≡ h.inbox
  pub outbox : h'.outbox ≡ h.outbox
  pub here : h'.register r ≡ Some (value.Object q)
  pub others : (s : ℕ) → s ≢ r → h'.register s ≡ h.register s

-- a message more was sent
abbrev pub with_sent : Hand → Message → Hand
with_sent h m = record h { outbox = h.outbox ++ m ∷ [] }

abbrev pub with_inbox : Hand → List Message → Hand
with_inbox h ms = record h { inbox = ms }

-- only these are unswept now
abbrev pub with_unswept : Hand → List (ℕ × ℕ) → Hand
with_unswept h rest = record h { unswept = rest }
