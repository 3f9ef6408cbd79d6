-- Messages are handled, and one run follows the other.
use Rattle.std.proofs.Common.{◌≡◌, ◌≢◌, ℕ, List, [], ◌∷◌, Contains, Some, refl, sym, ap, subst, ◌∙◌, inl, inr}
use Rattle.std.proofs.lemmas.Option.{none-some}
use Rattle.gc_mail.specs.declared.message.Message.{Message}
use Rattle.gc_mail.specs.declared.message.Message.TheVariants as message
use Rattle.gc_mail.specs.declared.message.Slot.{Slot}
use Rattle.gc_mail.specs.declared.message.Slot.TheVariants as back
use Rattle.gc_mail.specs.Recipients.{HasRecipient, holder_of}
use Rattle.owned_core.proofs.Lists.{contains_cases, contains_here, contains_none}
use Rattle.territory.specs.Finishing.{target_of}
use Rattle.sweep_model.specs.World.{World, asks}
use Rattle.sweep_model.specs.Hands.{with_inbox}
use Rattle.sweep_model.specs.Holding.{Goes, in_standing}
use Rattle.sweep_model.specs.Wholes.{IsPlaced}
use Rattle.sweep_model.proofs.Ages.{collected_start}
use Rattle.sweep_model.proofs.Answering.{answer_goes}
use Rattle.sweep_model.proofs.Asking.{pop_goes}
use Rattle.sweep_model.proofs.Fixing.{answer_fixes, told_fixes}
use Rattle.sweep_model.proofs.Going.{goes_none, goes_on}
use Rattle.sweep_model.proofs.Names.{asks_collected}
use Rattle.sweeper.specs.Sweepers.{CanKeep, HasWord, SweeperView, Writes, hand_of, sends}
use Rattle.sweeper.specs.Ready.{Answered, Handles, IsReadyIn, IsTold, IsWrittenNow, MayHandle, Ready, Runs, Went}
use Rattle.sweeper.proofs.WorldKept.{can_keep, can_keep_start, keep_least, kept_ready, told_least}
use Rattle.sweeper.proofs.WorldReady.{follows_none, follows_on, follows_told, popped_follows, popped_ready, sent_follows, went_on, went_told}
use Rattle.sweeper.proofs.WorldTold.{has_word}
use Rattle.sweeper.proofs.WorldWritten.{written_ready}

-- ---- runs

-- nothing done
pub runs_none : (v : SweeperView) → Runs v v
runs_none v world w setting ready =
    record { follows = follows_none world v.inbox v ready; goes = goes_none world w (hand_of v) [] }

-- one after the other
pub runs_on : (a b c : SweeperView) → Runs a b → Runs b c → Runs a c
runs_on a b c f g world w setting ready =
    let one = f world w setting ready in
    went_on world w a.inbox a b c [] [] [] one
    (went_told world w b.inbox a.inbox b c [] [] one.follows.inbox (g world w setting one.follows.ready))

-- the first message is taken and handled
pub popped_runs : (v v' : SweeperView) (m : Message) (ms : List Message) → v.inbox ≡ m ∷ ms
    → Handles (record v { inbox = ms }) m v' → Runs v v'
popped_runs v v' m ms is handles world w setting ready =
    let p = popped_ready world v m ms is ready in
    let one = handles world w setting p.0 p.1 in
    record {
      follows = follows_on world v.inbox v (record v { inbox = ms }) v' (popped_follows world v.inbox v m ms is ready)
          (follows_told world (m ∷ []) v.inbox (record v { inbox = ms }) v' among one.follows);
      goes = goes_on world w (hand_of v) (with_inbox (hand_of v) ms) (hand_of v') [] (in_standing world m ∷ []) [] refl
          (subst (λ l. Goes world w (with_inbox (hand_of v) l) [] (with_inbox (hand_of v) ms) (in_standing world m ∷ []))
          (sym is) (pop_goes world w (hand_of v) m ms))
          one.goes;
    }
  where
    among : (n : Message) → Contains (m ∷ []) n → Contains v.inbox n
    among n c = elim (contains_cases m [] n c) [
      | inl e ↦ rw is (subst (Contains (m ∷ ms)) e (contains_here m ms))
      | inr none ↦ absurd (contains_none n none)
    ]

-- ---- an object of its own is asked for

-- it is kept, and its place is written or told
pub answered_handles : (v v' : SweeperView) (t : ℕ) (b : Slot) → Answered v v' t b
    → Handles v (message.Forward t b) v'
answered_handles v v' t b (IsWrittenNow q mid c held kept writes) world w setting ready may =
    let told : List Message = message.Forward t b ∷ [] in
    let k = kept_ready world w told v mid b t q [] setting ready may.0 may.1 kept in
    let steady = k.0.steady in
    let held_there : holder_of world.sweepers b ≡ mid.share.number =
    ap (λ n. holder_of n b) ready.fits.sweepers ∙ held ∙ sym steady.alike.number in
    let r = written_ready world told mid v' b t q (target_of v.places.directory.targets c.start.generation) c.start
    k.0.ready may.0 (can_keep_start world v b t ready may.0 may.1 c) held_there (inl k.1)
    (keep_least world v t ready c) writes in
    record {
      follows = follows_on world told v mid v' k.0 r.0;
      goes = goes_on world w (hand_of v) (hand_of mid) (hand_of v') (in_standing world (message.Forward t b) ∷ [])
          (in_standing world (message.Forward t b) ∷ []) [] steady.alike.number k.2
          (answer_fixes world w (hand_of mid) (hand_of v') [] t q b setting may.0 (may.1 ∙ sym steady.alike.number)
          held_there k.1 r.1);
    }
answered_handles v v' t b (IsTold q mid other kept is) world w setting ready may =
    let told : List Message = message.Forward t b ∷ [] in
    let k = kept_ready world w told v mid b t q [] setting ready may.0 may.1 kept in
    let steady = k.0.steady in
    let own = may.1 ∙ sym steady.alike.number in
    let other_there : holder_of world.sweepers b ≢ mid.share.number =
    λ e. other (sym (ap (λ n. holder_of n b) ready.fits.sweepers) ∙ e ∙ steady.alike.number) in
    let went : Went world w told v (sends mid (message.Moved b q)) (in_standing world (message.Forward t b) ∷ []) [] =
    record {
      follows = follows_on world told v mid (sends mid (message.Moved b q)) k.0
          (sent_follows world told mid (message.Moved b q) k.0.ready (t, may.0, own, other_there));
      goes = goes_on world w (hand_of v) (hand_of mid) (hand_of (sends mid (message.Moved b q)))
          (in_standing world (message.Forward t b) ∷ []) (in_standing world (message.Forward t b) ∷ []) []
          steady.alike.number k.2 (answer_goes world w (hand_of mid) [] t q b setting may.0 own other_there k.1);
    } in
    subst (λ u. Went world w told v u (in_standing world (message.Forward t b) ∷ []) []) (sym is) went

-- ---- a place is told

pub learned_handles : (v v' : SweeperView) (b : Slot) (q : ℕ)
    → Writes v v' b q (target_of v.places.directory.targets 0) → Handles v (message.Moved b q) v'
learned_handles v v' b q writes world w setting ready may =
    let told : List Message = message.Moved b q ∷ [] in
    let t = may.0.0 in
    let s = collected_start world t (asks_collected world b t may.0.1) in
    let r = written_ready world told v v' b t q (target_of v.places.directory.targets 0) s.0 ready may.0.1 s.1 may.1
    (inr (contains_here (message.Moved b q) [])) (told_least world v b t s.0 ready may.0.1 s.1) writes in
    record {
      follows = r.0;
      goes = told_fixes world w (hand_of v) (hand_of v') [] t q b may.0.1 may.1 r.1;
    }

-- ---- what is known of a message

-- the first message of the inbox may be handled
pub popped_may : (v : SweeperView) (m : Message) (ms : List Message) → v.inbox ≡ m ∷ ms → Ready v
    → MayHandle (record v { inbox = ms }) m
popped_may v m ms is ready =
    let p = popped_ready ready.0 v m ms is ready.3 in
    (ready.0, ready.1, ready.2, p.0, p.1)

-- somebody holds a slot that asks
asks_recipient : (world : World) (b : Slot) (t q : ℕ) → asks world b ≡ Some t → HasRecipient (message.Moved b q)
asks_recipient world (back.Register r) t q e = tt
asks_recipient world (back.Field i x) t q e = tt
asks_recipient world (back.Entry line part) t q e = tt
asks_recipient world (back.Wait x) t q e = tt
asks_recipient world back.Nothing t q e = absurd (none-some t e)

held_word : (world : World) (v : SweeperView) (b : Slot) (t : ℕ) → IsReadyIn world v → asks world b ≡ Some t
    → (holder_of world.sweepers b ≡ v.share.number → IsPlaced world (hand_of v) b)
    → holder_of v.share.sweepers b ≡ v.share.number → HasWord v b
held_word world v b t ready wants placed e =
    let held : holder_of world.sweepers b ≡ v.share.number = ap (λ n. holder_of n b) ready.fits.sweepers ∙ e in
    has_word world v b t ready wants held (placed held)

-- what a message asks for may be kept, and where the slot is its own, it has a word
pub may_answer : (v : SweeperView) (t : ℕ) (b : Slot) → MayHandle v (message.Forward t b)
    → CanKeep v t × HasRecipient (message.Moved b t) × (holder_of v.share.sweepers b ≡ v.share.number → HasWord v b)
may_answer v t b may = (
  can_keep may.0 v b t may.3 may.4.0 may.4.1,
  asks_recipient may.0 b t t may.4.0,
  held_word may.0 v b t may.3 may.4.0 may.4.2,
)

-- a slot that is told a place has a word
pub may_learn : (v : SweeperView) (b : Slot) (q : ℕ) → MayHandle v (message.Moved b q) → HasWord v b
may_learn v b q may = has_word may.0 v b may.4.0.0 may.3 may.4.0.1 may.4.1 may.4.2
