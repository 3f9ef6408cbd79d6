-- What is ready stays so: messages come and go, and one step follows the other.
use Rattle.std.proofs.Common.{◌≡◌, ℕ, ◌<◌, List, [], ◌∷◌, ◌++◌, Contains, Option, IsSome, refl, sym, ap, subst, ◌∙◌, inl, inr}
use Rattle.std.proofs.lemmas.List.Elements.{Contains-push_cases}
use Rattle.gc_mail.specs.declared.message.Message.{Message}
use Rattle.gc_mail.specs.declared.message.Message.TheVariants as message
use Rattle.gc_mail.specs.declared.message.Slot.{Slot}
use Rattle.gc_mail.specs.declared.message.Slot.TheVariants as back
use Rattle.owned_core.specs.declared.slot.Standing.{Standing}
use Rattle.owned_core.specs.Settings.{Setting}
use Rattle.owned_core.proofs.Lists.{contains_here, contains_there}
use Rattle.directory.specs.Directories.{CanStart, DirectoryView, from_at}
use Rattle.sweep_model.specs.World.{World}
use Rattle.sweep_model.specs.Hands.{Hand, IsAt, Tied}
use Rattle.sweep_model.specs.Wholes.{IsPlaced, IsReady, MayCome, MayGo}
use Rattle.sweep_model.proofs.Going.{goes_on}
use Rattle.sweep_model.proofs.Memory.{mail_keeps_tied, sweep_keeps_tied}
use Rattle.sweep_share.specs.Registers.{register_in}
use Rattle.sweeper.specs.Sweepers.{IsSteady, SweeperView, hand_of, sends}
use Rattle.sweeper.specs.Ready.{Agrees, Fits, Follows, IsApart, IsReadyIn, Went}
use Rattle.sweeper.proofs.WorldSteady.{joined_on, steady_itself, steady_more, steady_same}

-- ---- messages

-- no place was forgotten
abbrev pub Grows : List (ℕ × ℕ) → List (ℕ × ℕ) → Type 0
Grows own own' = (x q : ℕ) → Contains own (x, q) → Contains own' (x, q)

-- where an object is, it stays
pub at_on : (world : World) (own own' : List (ℕ × ℕ)) → Grows own own' → (x p : ℕ) → IsAt world own x p → IsAt world own' x p
at_on world own own' grows x p (inl old) = inl old
at_on world own own' grows x p (inr c) = inr (grows x p c)

placed_on : (world : World) (h h' : Hand) → Grows h.own h'.own → (b : Slot) → IsPlaced world h b → IsPlaced world h' b
placed_on world h h' grows (back.Field i x) p = (p.0, at_on world h.own h'.own grows x p.0 p.1)
placed_on world h h' grows (back.Register r) p = p
placed_on world h h' grows (back.Entry line part) p = p
placed_on world h h' grows (back.Wait x) p = p
placed_on world h h' grows back.Nothing p = p

-- what may come may still come
pub may_come_on : (world : World) (h h' : Hand) → h'.number ≡ h.number → Grows h.own h'.own → (m : Message)
    → MayCome world h m → MayCome world h' m
may_come_on world h h' number grows (message.Forward t b) c = (
  c.0,
  c.1 ∙ sym number,
  λ e. placed_on world h h' grows b (c.2 (e ∙ number)),
)
may_come_on world h h' number grows (message.Moved b q) c =
    (c.0, c.1 ∙ sym number, placed_on world h h' grows b c.2)
may_come_on world h h' number grows (message.Watch t b) c = c

-- and what may go may still go
pub may_go_on : (world : World) (h h' : Hand) → h'.number ≡ h.number → (m : Message) → MayGo world h m → MayGo world h' m
may_go_on world h h' number (message.Forward t b) c = (c.0, c.1 ∙ sym number, λ e. c.2 (e ∙ number))
may_go_on world h h' number (message.Moved b q) c = (c.0, c.1, c.2 ∙ sym number, λ e. c.3 (e ∙ number))
may_go_on world h h' number (message.Watch t b) c = c

-- the mail is as good as it was
pub ready_on : (world : World) (h h' : Hand) → IsReady world h → h'.number ≡ h.number → Grows h.own h'.own
    → h'.inbox ≡ h.inbox → h'.outbox ≡ h.outbox → Tied world h' → IsReady world h'
ready_on world h h' ready number grows inbox outbox tied = record {
  number_in = subst (λ n. n < world.sweepers) (sym number) ready.number_in;
  tied = tied;
  comes = λ m c. may_come_on world h h' number grows m (ready.comes m (subst (λ l. Contains l m) inbox c));
  goes = λ m c. may_go_on world h h' number m (ready.goes m (subst (λ l. Contains l m) outbox c));
}

-- ---- the directory and the registers

pub fits_on : (world : World) (v v' : SweeperView) → Fits world v → IsSteady v v'
    → ((r : ℕ) → IsSome (register_in v.registers r) → IsSome (register_in v'.registers r)) → Fits world v'
fits_on world v v' fits steady keeps =
    let d : v.places.directory ≡ v'.places.directory = sym steady.directory in
    record {
      sweepers = fits.sweepers ∙ sym steady.alike.sweepers;
      targets = fits.targets ∙ ap (λ (d : DirectoryView). d.targets) d;
      can_start = λ x s was young. subst (λ d. CanStart d x) d (fits.can_start x s was young);
      generations = λ x s was young.
          let f = fits.generations x s was young in
          (f.0, sym (ap (λ d. from_at d x) d) ∙ f.1, f.2);
      older = λ x s was old. sym (ap (λ d. from_at d x) d) ∙ fits.older x s was old;
      registers = λ r t wants e. keeps r (fits.registers r t wants (e ∙ steady.alike.number));
    }

-- what lies aside still does
pub apart_on : (world : World) (v v' : SweeperView) → IsApart world v → IsSteady v v' → v'.places.own ≡ v.places.own
    → IsApart world v'
apart_on world v v' apart steady own = record {
  starts = λ x s was mine. steady.alike.aside x ∙ apart.starts x s was (mine ∙ steady.alike.number);
  copies = λ x p c. steady.alike.aside p ∙ apart.copies x p (subst (λ l. Contains l (x, p)) own c);
}

-- ---- one step after the other

-- nothing done
pub follows_none : (world : World) (told : List Message) (v : SweeperView) → IsReadyIn world v → Follows world told v v
follows_none world told v ready = record {
  ready = ready;
  steady = steady_itself v;
  inbox = λ m c. c;
  own = λ x q c. c;
  cards = λ ordered g agrees sound. sound;
}

-- what agrees with more, agrees with less
pub agrees_less : (world : World) (own own' : List (ℕ × ℕ)) (told told' : List Message) (g : ℕ → Option ℕ)
    → Grows own own' → ((m : Message) → Contains told m → Contains told' m) → Agrees world own' told' g
    → Agrees world own told g
agrees_less world own own' told told' g grows more agrees = record {
  older = agrees.older;
  gone = agrees.gone;
  kept = λ x q s c was. agrees.kept x q s (grows x q c) was;
  moved = λ b q t s c wants was. agrees.moved b q t s (more (message.Moved b q) c) wants was;
}

-- more messages told places
pub follows_told : (world : World) (told told' : List Message) (v v' : SweeperView)
    → ((m : Message) → Contains told m → Contains told' m) → Follows world told v v' → Follows world told' v v'
follows_told world told told' v v' more f = record {
  ready = f.ready;
  steady = f.steady;
  inbox = f.inbox;
  own = f.own;
  cards = λ ordered g agrees sound.
      f.cards ordered g (agrees_less world v'.places.own v'.places.own told told' g (λ x q c. c) more agrees) sound;
}

pub follows_on : (world : World) (told : List Message) (a b c : SweeperView) → Follows world told a b
    → Follows world told b c → Follows world told a c
follows_on world told a b c f g = record {
  ready = g.ready;
  steady = steady_more a b c f.steady g.steady;
  inbox = λ m e. f.inbox m (g.inbox m e);
  own = λ x q e. g.own x q (f.own x q e);
  cards = λ ordered gen agrees sound.
      g.cards ordered gen agrees
      (f.cards ordered gen
      (agrees_less world b.places.own c.places.own told told gen g.own (λ m e. e) agrees) sound);
}

pub went_told : (world : World) (w : Setting) (told told' : List Message) (v v' : SweeperView) (todo todo' : List Standing)
    → ((m : Message) → Contains told m → Contains told' m) → Went world w told v v' todo todo'
    → Went world w told' v v' todo todo'
went_told world w told told' v v' todo todo' more went =
    record { follows = follows_told world told told' v v' more went.follows; goes = went.goes }

pub went_on : (world : World) (w : Setting) (told : List Message) (a b c : SweeperView) (s t u : List Standing)
    → Went world w told a b s t → Went world w told b c t u → Went world w told a c s u
went_on world w told a b c s t u f g = record {
  follows = follows_on world told a b c f.follows g.follows;
  goes =
      goes_on world w (hand_of a) (hand_of b) (hand_of c) s t u f.follows.steady.alike.number f.goes g.goes;
}

-- ---- mail and sweeping

-- other objects unswept, and other mail
abbrev pub mailed : SweeperView → List (ℕ × ℕ) → List Message → List Message → SweeperView
mailed v unswept inbox outbox =
    record v { places = record v.places { unswept = unswept }; inbox = inbox; outbox = outbox }

module _ (world : World) (v : SweeperView) (unswept : List (ℕ × ℕ)) (inbox outbox : List Message)
    (ready : IsReadyIn world v) where
  pub mailed_steady : IsSteady v (mailed v unswept inbox outbox)
  mailed_steady = steady_same v (mailed v unswept inbox outbox) refl refl refl refl refl refl

  pub mailed_ready : Tied world (hand_of (mailed v unswept inbox outbox))
      → ((m : Message) → Contains inbox m → MayCome world (hand_of v) m)
      → ((m : Message) → Contains outbox m → MayGo world (hand_of v) m)
      → IsReadyIn world (mailed v unswept inbox outbox)
  mailed_ready tied comes goes =
      let v' : SweeperView = mailed v unswept inbox outbox in
      record {
        is_world = ready.is_world;
        joined = joined_on v v' ready.joined mailed_steady;
        fits = fits_on world v v' ready.fits mailed_steady (λ r e. e);
        ready = record {
          number_in = ready.ready.number_in;
          tied = tied;
          comes = λ m c. may_come_on world (hand_of v) (hand_of v') refl (λ x q e. e) m (comes m c);
          goes = λ m c. may_go_on world (hand_of v) (hand_of v') refl m (goes m c);
        };
        apart = apart_on world v v' ready.apart mailed_steady refl;
      }

-- a message that may go is sent
pub sent_ready : (world : World) (v : SweeperView) (m : Message) → IsReadyIn world v → MayGo world (hand_of v) m
    → IsReadyIn world (sends v m)
sent_ready world v m ready may =
    mailed_ready world v v.places.unswept v.inbox (v.outbox ++ m ∷ []) ready
    (mail_keeps_tied world (hand_of v) v.inbox (v.outbox ++ m ∷ []) ready.ready.tied)
    ready.ready.comes
    (λ n c. elim (Contains-push_cases v.outbox m n c) [
      | inl e ↦ ready.ready.goes n e
      | inr e ↦ subst (MayGo world (hand_of v)) e may
    ])

pub sent_follows : (world : World) (told : List Message) (v : SweeperView) (m : Message) → IsReadyIn world v
    → MayGo world (hand_of v) m → Follows world told v (sends v m)
sent_follows world told v m ready may = record {
  ready = sent_ready world v m ready may;
  steady = mailed_steady world v v.places.unswept v.inbox (v.outbox ++ m ∷ []) ready;
  inbox = λ n c. c;
  own = λ x q c. c;
  cards = λ ordered g agrees sound. sound;
}

-- the first message is taken
pub popped_ready : (world : World) (v : SweeperView) (m : Message) (ms : List Message) → v.inbox ≡ m ∷ ms
    → IsReadyIn world v
    → IsReadyIn world (record v { inbox = ms }) × MayCome world (hand_of (record v { inbox = ms })) m
popped_ready world v m ms is ready = (
  mailed_ready world v v.places.unswept ms v.outbox ready (mail_keeps_tied world (hand_of v) ms v.outbox ready.ready.tied)
      (λ n c. ready.ready.comes n (rw is (contains_there m ms n c)))
      ready.ready.goes,
  may_come_on world (hand_of v) (hand_of (record v { inbox = ms })) refl (λ x q e. e) m
      (ready.ready.comes m (rw is (contains_here m ms))),
)

pub popped_follows : (world : World) (told : List Message) (v : SweeperView) (m : Message) (ms : List Message)
    → v.inbox ≡ m ∷ ms → IsReadyIn world v → Follows world told v (record v { inbox = ms })
popped_follows world told v m ms is ready = record {
  ready = (popped_ready world v m ms is ready).0;
  steady = mailed_steady world v v.places.unswept ms v.outbox ready;
  inbox = λ n c. rw is (contains_there m ms n c);
  own = λ x q c. c;
  cards = λ ordered g agrees sound. sound;
}

-- one object fewer is unswept
abbrev pub with_rest : SweeperView → List (ℕ × ℕ) → SweeperView
with_rest v rest = record v { places = record v.places { unswept = rest } }

pub swept_ready : (world : World) (v : SweeperView) (rest : List (ℕ × ℕ)) (x p : ℕ) → IsReadyIn world v
    → v.places.unswept ≡ rest ++ (x, p) ∷ [] → IsReadyIn world (with_rest v rest)
swept_ready world v rest x p ready is =
    mailed_ready world v rest v.inbox v.outbox ready
    (sweep_keeps_tied world (hand_of v) rest x p ready.ready.tied is)
    ready.ready.comes ready.ready.goes

pub swept_follows : (world : World) (told : List Message) (v : SweeperView) (rest : List (ℕ × ℕ)) (x p : ℕ)
    → IsReadyIn world v → v.places.unswept ≡ rest ++ (x, p) ∷ [] → Follows world told v (with_rest v rest)
swept_follows world told v rest x p ready is = record {
  ready = swept_ready world v rest x p ready is;
  steady = mailed_steady world v rest v.inbox v.outbox ready;
  inbox = λ n c. c;
  own = λ x q c. c;
  cards = λ ordered g agrees sound. sound;
}
