-- What the code of answering reads, as clauses say it.
use Rattle.std.proofs.Common.{◌≡◌, ◌≢◌, ℕ, List, [], ◌∷◌, ◌++◌, sym, ap, subst, ◌∙◌}
use Rattle.gc_mail.specs.declared.message.Message.{Message}
use Rattle.gc_mail.specs.declared.message.Slot.{Slot}
use Rattle.gc_mail.specs.Recipients.{holder_of}
use Rattle.directory.specs.Directories.{DirectoryView, sweeper_count}
use Rattle.sweeper.specs.Sweepers.{IsJoined, IsKept, IsKeptNow, IsSteady, SweeperView, WasKept, sends}
use Rattle.sweeper.proofs.WorldSteady.{steady_itself}

kept_steady : (old mid : SweeperView) (t q : ℕ) → IsKept old mid t q → IsSteady old mid
kept_steady old mid t q (WasKept c same) = subst (IsSteady old) (sym same) (steady_itself old)
kept_steady old mid t q (IsKeptNow c) = c.steady

-- the holder of a slot, found after an object was kept
module _ (old mid s : SweeperView) (d : DirectoryView) (t q n h k : ℕ) (b : Slot) (kept : IsKept old mid t q)
    (is : s ≡ mid) (joined : IsJoined s) (same : old.places.directory ≡ d) (count : n ≡ sweeper_count d)
    (holder : h ≡ holder_of n b) (number : k ≡ s.share.number) where
  holder_was : h ≡ holder_of old.share.sweepers b
  holder_was =
      let steady : IsSteady old mid = kept_steady old mid t q kept in
      let now : IsJoined mid = subst IsJoined is joined in
      holder ∙ ap (λ m. holder_of m b)
      (count ∙ ap sweeper_count (sym same ∙ sym steady.directory) ∙ now.count ∙ steady.alike.sweepers)

  number_was : k ≡ old.share.number
  number_was =
      let steady : IsSteady old mid = kept_steady old mid t q kept in
      number ∙ ap (λ (v : SweeperView). v.share.number) is ∙ steady.alike.number

  pub held : h ≡ k → holder_of old.share.sweepers b ≡ old.share.number
  held e = sym holder_was ∙ e ∙ number_was

  pub not_held : h ≢ k → holder_of old.share.sweepers b ≢ old.share.number
  not_held other e = other (holder_was ∙ e ∙ sym number_was)

-- a message was sent
pub sent_is : (s v : SweeperView) (outbox : List Message) (m : Message) → s ≡ v
    → outbox ≡ s.outbox ++ m ∷ [] → record s { outbox = outbox } ≡ sends v m
sent_is s v outbox m is sent = ap (λ l. record s { outbox = l }) sent ∙ ap (λ z. sends z m) is
