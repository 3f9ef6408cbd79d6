-- A pair in hand, of which the car may have been swept already.
use Rattle.std.proofs.Common.{◌≡◌, ℕ, ◌<◌, Bool, true, false, length, Option, None, Some, IfSome, refl, sym, ap, subst, ◌∙◌, arith}
use Rattle.gc_mail.specs.Recipients.{owner}
use Rattle.territory.specs.Following.{IfSwept}
use Rattle.territory.specs.Territories.{words_of}
use Rattle.directory.specs.Directories.{DirectoryView}
use Rattle.sweep_share.specs.Shares.{start_in}
use Rattle.sweeper.specs.declared.lists.BegunPair.{BegunPair}
use Rattle.sweeper.specs.declared.lists.NextPair.{NextPair}
use Rattle.sweeper.specs.Sweepers.{CanKeep, FieldDone, IsHalfway, IsNextPair, IsPlain, SweeperView, asked_by, asked_in, in_hand, left_of, with_next}
use Rattle.sweeper.specs.Ready.{Ready, Runs}
use Rattle.sweeper.proofs.SweptFields.{IsTaken, field_left}
use Rattle.sweeper.proofs.SweptPairs.{IsPairTo, next_same, pair_asks, pair_begun, pair_copy, pair_keeps, pair_more, pair_runs, pair_taken}

-- what the car's sweep left as it was
record IsSame (u v : SweeperView) : Type 0 where
  directory : v.places.directory ≡ u.places.directory
  inbox : v.inbox ≡ u.inbox

same_if : (c : Bool) (u v : SweeperView) (x p : ℕ) → IfSwept c (λ u v x p. FieldDone u v x p 0) u v x p → IsSame u v
same_if true u v x p done =
    let left = field_left u v x p 0 done in
    record { directory = left.directory; inbox = left.inbox }
same_if false u v x p e = record {
  directory = ap (λ (z : SweeperView). z.places.directory) e;
  inbox = ap (λ (z : SweeperView). z.inbox) e;
}

same_half : (u v : SweeperView) (b : BegunPair) → IsHalfway u v b → IsSame u v
same_half u v b half = same_if b.car_swept u v b.pair.object b.pair.copy half.car

-- the car was swept, or the sweeper is as it was
pub was_swept : (u v : SweeperView) (b : BegunPair) → IsHalfway u v b → b.car_swept ≡ true
    → FieldDone u v b.pair.object b.pair.copy 0
was_swept u v b half e =
    subst (λ c. IfSwept c (λ v w x p. FieldDone v w x p 0) u v b.pair.object b.pair.copy) e half.car

pub not_swept : (u v : SweeperView) (b : BegunPair) → IsHalfway u v b → b.car_swept ≡ false → v ≡ u
not_swept u v b half e =
    subst (λ c. IfSwept c (λ v w x p. FieldDone v w x p 0) u v b.pair.object b.pair.copy) e half.car

-- what is swept next is no part of these
next_directory : (v : SweeperView) (next : Option NextPair) → (with_next v next).places.directory ≡ v.places.directory
next_directory v None = refl
next_directory v (Some pair) = refl

next_inbox : (v : SweeperView) (next : Option NextPair) → (with_next v next).inbox ≡ v.inbox
next_inbox v None = refl
next_inbox v (Some pair) = refl

-- ---- the car is swept now

module _ (v : SweeperView) (b : BegunPair) (u : SweeperView) (ready : Ready (in_hand u b.pair.object b.pair.copy))
    (half : IsHalfway u v b) (d : DirectoryView) (same : v.places.directory ≡ d) (left : b.car_swept ≡ false) where
  abbrev held : SweeperView
  held = in_hand v b.pair.object b.pair.copy

  is : u ≡ v
  is = sym (not_swept u v b half left)

  ready_now : Ready held
  ready_now = subst (λ (z : SweeperView). Ready (in_hand z b.pair.object b.pair.copy)) is ready

  words_now : IsNextPair v b.pair
  words_now = subst (λ (z : SweeperView). IsNextPair z b.pair) is half.words

  taken_now : IsTaken held b.pair.object b.pair.copy 0 2
  taken_now = pair_taken v b.pair ready_now words_now

  begun : IsPairTo held v d b.pair.object 0
  begun = pair_begun v b.pair ready_now words_now d same

  pub car_asks : asked_in v.places.directory (start_in v.share b.pair.object) 0 ≡ asked_by d b.pair.car
  car_asks = pair_asks v b.pair ready_now words_now v d 0 begun (omega arith)

  pub car_copy : 0 < length (words_of (start_in v.share b.pair.copy))
  car_copy = pair_copy held b.pair.object b.pair.copy taken_now v d 0 begun (omega arith)

  pub car_keeps : (a : ℕ) → asked_by d b.pair.car ≡ Some a → owner v.share.sweepers a ≡ v.share.number → CanKeep v a
  car_keeps = pair_keeps held b.pair.object b.pair.copy taken_now v d 0 begun (omega arith) b.pair.car car_asks

-- ---- the car was swept

module _ (v : SweeperView) (b : BegunPair) (u : SweeperView) (ready : Ready (in_hand u b.pair.object b.pair.copy))
    (half : IsHalfway u v b) (d : DirectoryView) (same : v.places.directory ≡ d) (now : SweeperView)
    (done : FieldDone u now b.pair.object b.pair.copy 0) where
  abbrev h : SweeperView
  h = in_hand u b.pair.object b.pair.copy

  its : IsTaken h b.pair.object b.pair.copy 0 2
  its = pair_taken u b.pair ready half.words

  one : IsPairTo h now d b.pair.object 1
  one = pair_more h b.pair.object b.pair.copy its u d 0
      (pair_begun u b.pair ready half.words d (sym (same_half u v b half).directory ∙ same))
      (omega arith) now done

  pub cdr_asks : asked_in now.places.directory (start_in now.share b.pair.object) 1 ≡ asked_by d b.pair.cdr
  cdr_asks = pair_asks u b.pair ready half.words now d 1 one (omega arith)

  pub cdr_copy : 1 < length (words_of (start_in now.share b.pair.copy))
  cdr_copy = pair_copy h b.pair.object b.pair.copy its now d 1 one (omega arith)

  pub cdr_keeps : (a : ℕ) → asked_by d b.pair.cdr ≡ Some a → owner now.share.sweepers a ≡ now.share.number
      → CanKeep now a
  cdr_keeps = pair_keeps h b.pair.object b.pair.copy its now d 1 one (omega arith) b.pair.cdr cdr_asks

  pub car_directory : now.places.directory ≡ d
  car_directory = one.directory

  pub car_less : left_of now < left_of h
  car_less = one.left

  -- the cdr asks for nothing
  pub plain_runs : asked_by d b.pair.cdr ≡ None → Runs h now
  plain_runs none = pair_runs h b.pair.object b.pair.copy its now d
      (pair_more h b.pair.object b.pair.copy its now d 1 one (omega arith) now (IsPlain (cdr_asks ∙ none) refl))

  -- ... or for something
  module _ (last : SweeperView) (next : Option NextPair)
      (field : FieldDone now (with_next last next) b.pair.object b.pair.copy 1) where
    both : IsPairTo h (with_next last next) d b.pair.object 2
    both = pair_more h b.pair.object b.pair.copy its now d 1 one (omega arith) (with_next last next) field

    pub both_run : Runs h (with_next last next)
    both_run = pair_runs h b.pair.object b.pair.copy its (with_next last next) d both

    pub both_less : left_of (with_next last next) < left_of h
    both_less = both.left

    pub both_words : IfSome next (IsNextPair now) → IfSome next (IsNextPair last)
    both_words = next_same u b.pair ready half.words now last d one next both_run

    pub both_directory : last.places.directory ≡ d
    both_directory = sym (next_directory last next) ∙ both.directory

    pub both_inbox : last.inbox ≡ v.inbox
    both_inbox = sym (next_inbox last next) ∙ both.inbox ∙ sym (same_half u v b half).inbox
