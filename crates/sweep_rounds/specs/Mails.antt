-- The exchange of all messages, call by call.
use Rattle.std.specs.Prelude.{◌≡◌, ℕ, ◌<◌, List, [], length, slice_index_or}
use Rattle.gc_mail.specs.declared.message.Message.{Message}
use Rattle.gc_mail.specs.Recipients.{IsDelivered, all_of}
use Rattle.sweeper.specs.Sweepers.{SweeperView}
use Rattle.sweep_rounds.specs.Turns.{sweeper_at}

-- the box of sweeper k
abbrev pub box_at : List (List Message) → ℕ → List Message
box_at boxes k = slice_index_or boxes k []

-- each sweeper's messages were taken, and its outbox is empty
pub record AreTaken (old new : List SweeperView) (outboxes : List (List Message)) : Type 0 where
  pub count : length outboxes ≡ length old
  pub same : length new ≡ length old
  pub taken : (k : ℕ) (d : SweeperView) → k < length old → box_at outboxes k ≡ (sweeper_at old d k).outbox
  pub emptied : (k : ℕ) (d : SweeperView) → k < length old
      → sweeper_at new d k ≡ record (sweeper_at old d k) { outbox = [] }

-- each sweeper has its inbox
pub record ArePut (old new : List SweeperView) (inboxes : List (List Message)) : Type 0 where
  pub same : length new ≡ length old
  pub put : (k : ℕ) (d : SweeperView) → k < length old
      → sweeper_at new d k ≡ record (sweeper_at old d k) { inbox = box_at inboxes k }

-- The messages of all were exchanged: each sweeper has those for it, and its outbox is empty.
pub record AreMailed (n : ℕ) (f g : ℕ → SweeperView) : Type 0 where
  pub sent : List (List Message)
  pub count : length sent ≡ n
  pub sent_is : (k : ℕ) → k < n → box_at sent k ≡ (f k).outbox
  pub inboxes : List (List Message)
  pub inbox_is : (k : ℕ) → k < n → box_at inboxes k ≡ (g k).inbox
  pub delivered : IsDelivered n (all_of sent) inboxes
  pub same : (k : ℕ) → k < n → g k ≡ record (f k) { inbox = (g k).inbox; outbox = [] }
