-- Who gets a message, and what an exchange delivers.
use Rattle.std.specs.Prelude.{◌≡◌, ℕ, ◌%◌, ◌==◌, Bool, List, [], ◌∷◌, ◌++◌, filter, ◌<◌, slice_index_or}
use Rattle.gc_words.specs.Layout.{thread_of}
use Rattle.gc_mail.specs.declared.message.Slot.{Slot}
use Rattle.gc_mail.specs.declared.message.Slot.TheVariants.{Register, Field, Entry, Wait, Nothing}
use Rattle.gc_mail.specs.declared.message.Message.{Message}
use Rattle.gc_mail.specs.declared.message.Message.TheVariants.{Forward, Watch, Moved}

-- the owner of an object: its thread modulo the sweepers
abbrev pub owner : ℕ → ℕ → ℕ
owner sweepers a = thread_of a % sweepers

-- the sweeper that holds a slot: registers and registrations go round the sweepers by their number and
-- line, and what belongs to an object is its owner's; nobody holds Nothing
abbrev pub holder_of : ℕ → Slot → ℕ
holder_of sweepers (Register number) = number % sweepers
holder_of sweepers (Field index object) = owner sweepers object
holder_of sweepers (Entry line part) = line % sweepers
holder_of sweepers (Wait object) = owner sweepers object
holder_of sweepers Nothing = 0

-- the sweeper that gets a message: the owner of what is asked for, or the holder of the slot that is told
abbrev pub recipient_of : ℕ → Message → ℕ
recipient_of sweepers (Forward target back) = owner sweepers target
recipient_of sweepers (Watch key back) = owner sweepers key
recipient_of sweepers (Moved back new) = holder_of sweepers back

-- a message that somebody is to get: a new place is told to a slot that somebody holds
abbrev pub HasRecipient : Message → Type 0
HasRecipient (Moved Nothing new) = ⊥
HasRecipient m = Unit {0}

-- the message is for sweeper k
abbrev pub is_for : ℕ → ℕ → Message → Bool
is_for sweepers k m = recipient_of sweepers m == k

-- all messages, by sender, and of one sender in the order of sending
abbrev pub all_of : List (List Message) → List Message
all_of [] = []
all_of (outbox ∷ outboxes) = outbox ++ all_of outboxes

-- each inbox k has, of the messages that were sent, exactly those for k, in the same order
abbrev pub IsDelivered : ℕ → List Message → List (List Message) → Type 0
IsDelivered sweepers sent inboxes =
    (k : ℕ) → k < sweepers → slice_index_or inboxes k [] ≡ filter (is_for sweepers k) sent

-- whatever the inboxes had before, `more` is delivered after it
abbrev pub AlsoDelivers : ℕ → List Message → List (List Message) → List (List Message) → Type 0
AlsoDelivers sweepers more old new =
    (sent : List Message) → IsDelivered sweepers sent old → IsDelivered sweepers (sent ++ more) new
