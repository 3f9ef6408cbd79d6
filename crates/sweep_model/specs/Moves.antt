-- What a sweeper does, step by step, and that each step is a list of events of its own.
use Rattle.std.specs.Prelude.{◌≡◌, ◌≢◌, ℕ, true, List, [], ◌∷◌, ◌++◌, length, Some, Contains}
use Rattle.gc_words.specs.declared.value.Value.TheVariants as value
use Rattle.gc_words.specs.Word.{value_of}
use Rattle.segment.specs.Segments.{Start}
use Rattle.gc_mail.specs.declared.message.Message.{Message}
use Rattle.gc_mail.specs.declared.message.Message.TheVariants as message
use Rattle.gc_mail.specs.declared.message.Slot.{Slot as Back}
use Rattle.gc_mail.specs.declared.message.Slot.TheVariants as back
use Rattle.gc_mail.specs.Recipients.{holder_of, owner}
use Rattle.owned_core.specs.declared.slot.Standing.{Standing}
use Rattle.owned_core.specs.Settings.{Setting}
use Rattle.sweep_model.specs.World.{World, IsWorld, asks, is_collected}
use Rattle.sweep_model.specs.Settings.{IsSettingOf}
use Rattle.sweep_model.specs.Hands.{Hand, FixedAt, IsAt, IsCopiedNow, IsPutAt, IsRegisterSet, Tied, with_inbox, with_sent, with_unswept}
use Rattle.sweep_model.specs.Holding.{Goes, in_standing, news_from, out_standing}

-- the place q was written where the slot wants it, and nowhere else
pub record IsWritten (world : World) (h h' : Hand) (b : Back) (q : ℕ) : Type 0 where
  pub number : h'.number ≡ h.number
  pub own : h'.own ≡ h.own
  pub unswept : h'.unswept ≡ h.unswept
  pub inbox : h'.inbox ≡ h.inbox
  pub outbox : h'.outbox ≡ h.outbox
  pub there : FixedAt world h' b q
  pub others : (c : Back) (t r : ℕ) → asks world c ≡ Some t → c ≢ b → FixedAt world h c r → FixedAt world h' c r

-- ---- memory

-- a copy of a collected object of its own keeps the memory tied
abbrev pub CopyKeepsTied : Type 0
CopyKeepsTied =
    (world : World) (h h' : Hand) (x q : ℕ) → Tied world h → is_collected world x ≡ true
    → owner world.sweepers x ≡ h.number → IsCopiedNow world.targets h h' x q → Tied world h'

-- a place put into a field that asks writes it, and keeps the memory tied
abbrev pub PutWrites : Type 0
PutWrites =
    (world : World) (h h' : Hand) (x p i t word q : ℕ) → Tied world h → owner world.sweepers x ≡ h.number
    → IsAt world h.own x p → asks world (back.Field i x) ≡ Some t → value_of word ≡ Some (value.Object q)
    → IsPutAt h h' p i word → IsWritten world h h' (back.Field i x) q × Tied world h'

-- so does a place set in a register that asks
abbrev pub SetWrites : Type 0
SetWrites =
    (world : World) (h h' : Hand) (r t q : ℕ) → Tied world h → asks world (back.Register r) ≡ Some t
    → IsRegisterSet h h' r q → IsWritten world h h' (back.Register r) q × Tied world h'

-- mail and sweeping leave it tied
abbrev pub MailKeepsTied : Type 0
MailKeepsTied =
    (world : World) (h : Hand) (inbox outbox : List Message) → Tied world h
    → Tied world (record h { inbox = inbox; outbox = outbox })

abbrev pub SweepKeepsTied : Type 0
SweepKeepsTied =
    (world : World) (h : Hand) (rest : List (ℕ × ℕ)) (x p : ℕ) → Tied world h
    → h.unswept ≡ rest ++ (x, p) ∷ [] → Tied world (with_unswept h rest)

-- ---- events

-- an object that was heard of is forwarded: the slot at hand stays there
abbrev pub CopyGoes : Type 0
CopyGoes =
    (world : World) (w : Setting) (h h' : Hand) (todo : List Standing) (x q : ℕ) (b : Back)
    → IsSettingOf world w → Tied world h → owner world.sweepers x ≡ h.number
    → IsCopiedNow world.targets h h' x q
    → Goes world w h (in_standing world (message.Forward x b) ∷ todo) h' (in_standing world (message.Forward x b) ∷ todo)

-- the last unswept object is swept: the slots of its fields are at hand
abbrev pub SweepGoes : Type 0
SweepGoes =
    (world : World) (w : Setting) (h : Hand) (rest : List (ℕ × ℕ)) (x p : ℕ) (s : Start)
    → IsWorld world → IsSettingOf world w → Tied world h
    → h.unswept ≡ rest ++ (x, p) ∷ [] → world.image x ≡ Some s
    → Goes world w h [] (with_unswept h rest) (news_from world w x 0 (length s.words))

-- a slot that was not heard of is asked for
abbrev pub AskGoes : Type 0
AskGoes =
    (world : World) (w : Setting) (h : Hand) (todo : List Standing) (m : Message)
    → Goes world w h (out_standing world m ∷ todo) (with_sent h m) todo

-- a slot that another sweeper holds is answered
abbrev pub AnswerGoes : Type 0
AnswerGoes =
    (world : World) (w : Setting) (h : Hand) (todo : List Standing) (x q : ℕ) (b : Back)
    → IsSettingOf world w → asks world b ≡ Some x → owner world.sweepers x ≡ h.number → (holder_of world.sweepers b ≢ h.number)
    → Contains h.own (x, q)
    → Goes world w h (in_standing world (message.Forward x b) ∷ todo) (with_sent h (message.Moved b q)) todo

-- a slot of its own that was heard of is answered and fixed
abbrev pub AnswerFixes : Type 0
AnswerFixes =
    (world : World) (w : Setting) (h h' : Hand) (todo : List Standing) (x q : ℕ) (b : Back)
    → IsSettingOf world w → asks world b ≡ Some x → owner world.sweepers x ≡ h.number → holder_of world.sweepers b ≡ h.number
    → Contains h.own (x, q) → IsWritten world h h' b q
    → Goes world w h (in_standing world (message.Forward x b) ∷ todo) h' todo

-- a slot that was told its place is fixed
abbrev pub ToldFixes : Type 0
ToldFixes =
    (world : World) (w : Setting) (h h' : Hand) (todo : List Standing) (x q : ℕ) (b : Back)
    → asks world b ≡ Some x → holder_of world.sweepers b ≡ h.number → IsWritten world h h' b q
    → Goes world w h (in_standing world (message.Moved b q) ∷ todo) h' todo

-- the first message of the inbox is at hand
abbrev pub PopGoes : Type 0
PopGoes =
    (world : World) (w : Setting) (h : Hand) (m : Message) (ms : List Message)
    → Goes world w (with_inbox h (m ∷ ms)) [] (with_inbox h ms) (in_standing world m ∷ [])

-- nothing done, and one thing after the other
abbrev pub GoesOn : Type 0
GoesOn =
    (world : World) (w : Setting) (a b c : Hand) (s t u : List Standing) → b.number ≡ a.number
    → Goes world w a s b t → Goes world w b t c u → Goes world w a s c u
