-- An object of its own that is asked for may be kept, and then the sweeper is ready again.
use Rattle.std.proofs.Common.{◌≡◌, ℕ, ◌%◌, ◌≤◌, true, false, List, [], ◌∷◌, ◌++◌, Contains, Option, None, Some, IsSome, refl, sym, ap, subst, ◌∙◌, inl, inr, arith}
use Rattle.std.proofs.lemmas.Bool.{both_ways, cases_Bool, leb-true}
use Rattle.std.proofs.lemmas.List.Elements.{Contains-append_left, Contains-push, Contains-push_cases}
use Rattle.std.proofs.lemmas.Option.{none-some, same_Some}
use Rattle.gc_words.specs.declared.value.Value.{Value}
use Rattle.gc_words.specs.Layout.{thread_of}
use Rattle.segment.specs.Segments.{Start}
use Rattle.territory.specs.declared.territory.Targets.{Targets}
use Rattle.territory.specs.Copies.{RefersToNoneBelow}
use Rattle.gc_mail.specs.declared.message.Message.{Message}
use Rattle.gc_mail.specs.declared.message.Message.TheVariants as message
use Rattle.gc_mail.specs.declared.message.Slot.{Slot}
use Rattle.gc_mail.specs.Recipients.{owner}
use Rattle.owned_core.specs.declared.slot.Standing.{Standing}
use Rattle.owned_core.specs.Settings.{Setting}
use Rattle.territory.specs.Finishing.{target_of}
use Rattle.sweep_model.specs.World.{World, asks, goes_to, is_collected, is_young}
use Rattle.sweep_model.specs.Settings.{IsSettingOf}
use Rattle.sweep_model.specs.Hands.{IsCopiedNow}
use Rattle.sweep_model.specs.Holding.{Goes, in_standing}
use Rattle.sweep_model.proofs.Ages.{collected_start}
use Rattle.sweep_model.proofs.Copying.{copy_goes}
use Rattle.sweep_model.proofs.Going.{goes_none}
use Rattle.sweep_model.proofs.MemoryCopies.{copy_keeps_tied}
use Rattle.sweep_model.proofs.Names.{asks_collected}
use Rattle.sweep_share.specs.Shares.{is_aside}
use Rattle.sweeper.specs.Sweepers.{CanKeep, Copies, IsKept, IsKeptNow, SweeperView, WasKept, hand_of}
use Rattle.sweeper.specs.Ready.{Agrees, Follows, IsApart, IsOrdered, IsReadyIn}
use Rattle.sweeper.proofs.WorldReady.{fits_on, follows_none, ready_on}
use Rattle.sweeper.proofs.WorldSteady.{goes_within, joined_on, least_target, target_goes}

-- ---- it may be kept

-- what is collected is of a collected generation
young_of : (cg : ℕ) (o : Option Start) (s : Start) → o ≡ Some s → is_young cg o ≡ true → s.generation ≤ cg
young_of cg o s is e = leb-true s.generation cg (sym (ap (is_young cg) is) ∙ e)

pub collected_young : (world : World) (t : ℕ) (s : Start) → world.image t ≡ Some s → is_collected world t ≡ true
    → s.generation ≤ world.targets.cg
collected_young world t s is e = young_of world.targets.cg (world.image t) s is e

-- a collected object of its own
pub can_keep_collected : (world : World) (v : SweeperView) (t : ℕ) (s : Start) → IsReadyIn world v
    → world.image t ≡ Some s → is_collected world t ≡ true → owner world.sweepers t ≡ v.share.number → CanKeep v t
can_keep_collected world v t s ready is young mine =
    let f = ready.fits.generations t s is young in
    record {
      start = s;
      here = ready.ready.tied.frozen t s is mine young;
      own = record {
        start = ready.fits.can_start t s is young;
        own = ap (λ n. thread_of t % n) (ready.joined.count ∙ sym ready.fits.sweepers) ∙ mine ∙ sym ready.joined.places;
      };
      from = f.0;
      lies = f.1;
      same = f.2;
      young = subst (λ (x : Targets). s.generation ≤ x.cg) ready.fits.targets (collected_young world t s is young);
    }

pub can_keep : (world : World) (v : SweeperView) (b : Slot) (t : ℕ) → IsReadyIn world v → asks world b ≡ Some t
    → owner world.sweepers t ≡ v.share.number → CanKeep v t
can_keep world v b t ready wants mine =
    let young = asks_collected world b t wants in
    let s = collected_start world t young in
    can_keep_collected world v t s.0 ready s.1 young mine

-- it is what started there
pub can_keep_start : (world : World) (v : SweeperView) (b : Slot) (t : ℕ) → IsReadyIn world v → asks world b ≡ Some t
    → owner world.sweepers t ≡ v.share.number → (c : CanKeep v t) → world.image t ≡ Some c.start
can_keep_start world v b t ready wants mine c =
    let young = asks_collected world b t wants in
    let s = collected_start world t young in
    let e : s.0 ≡ c.start = same_Some _ _ (sym (ready.ready.tied.frozen t s.0 s.1 mine young) ∙ c.here) in
    s.1 ∙ ap (λ z. Some z) e

-- where it goes
pub keep_goes : (world : World) (v : SweeperView) (t : ℕ) → IsReadyIn world v → (c : CanKeep v t)
    → target_of v.places.directory.targets c.start.generation ≡ goes_to world.targets c.start.generation
keep_goes world v t ready c =
    target_goes v.places.directory.targets c.start.generation c.young
    ∙ ap (λ x. goes_to x c.start.generation) (sym ready.fits.targets)

-- ---- a copy

-- What a collected object refers to is of no lower generation than where it goes: what is collected has none any more.
refers_to_none : (world : World) (own : List (ℕ × ℕ)) (told : List Message) (g : ℕ → Option ℕ) (t : ℕ) (s : Start)
    → IsOrdered world → Agrees world own told g → world.image t ≡ Some s → s.generation ≤ world.targets.cg
    → RefersToNoneBelow g s (goes_to world.targets s.generation)
refers_to_none world own told g t s ordered agrees is young index b h refers e = elim (cases_Bool (is_collected world b)) [
  | inl gone ↦ absurd (none-some h (sym (agrees.gone b gone) ∙ e))
  | inr stays ↦
      let r = some_of (world.image b) (ordered.refers t index b s is refers) in
      let same : r.0.generation ≡ h = same_Some _ _ (sym (agrees.older b r.0 r.1 stays) ∙ e) in
      let above = ordered.above b r.0 r.1 stays in
      let within = goes_within world.targets s.generation young in
      omega (arith, same, above, within)
]
  where
    some_of : (o : Option Start) → IsSome o → (x : Start) × (o ≡ Some x)
    some_of None e = absurd (both_ways false refl e)
    some_of (Some x) e = (x, refl)

module _ (world : World) (v mid : SweeperView) (told : List Message) (t q : ℕ) (s : Start) (ready : IsReadyIn world v)
    (is : world.image t ≡ Some s) (young : is_collected world t ≡ true)
    (mine : owner world.sweepers t ≡ v.share.number) (copies : Copies v mid t q) where
  copied_now : IsCopiedNow world.targets (hand_of v) (hand_of mid) t q
  copied_now = subst (λ x. IsCopiedNow x (hand_of v) (hand_of mid) t q) (sym ready.fits.targets) copies.copied

  own_on : (x p : ℕ) → Contains v.places.own (x, p) → Contains mid.places.own (x, p)
  own_on x p c =
      subst (λ l. Contains l (x, p)) (sym copies.copied.own)
      (Contains-append_left v.places.own ((t, q) ∷ []) (x, p) c)

  pub copied_there : Contains mid.places.own (t, q)
  copied_there = subst (λ l. Contains l (t, q)) (sym copies.copied.own) (Contains-push v.places.own (t, q))

  own_before : (x p : ℕ) → Contains mid.places.own (x, p) → Contains (v.places.own ++ (t, q) ∷ []) (x, p)
  own_before x p c = subst (λ l. Contains l (x, p)) copies.copied.own c

  apart_copied : IsApart world mid
  apart_copied = record {
    starts = λ x y was own. copies.steady.alike.aside x ∙ ready.apart.starts x y was (own ∙ copies.steady.alike.number);
    copies = λ x p c. elim (Contains-push_cases v.places.own (t, q) (x, p) (own_before x p c)) [
      | inl e ↦ copies.steady.alike.aside p ∙ ready.apart.copies x p e
      | inr e ↦ subst (λ (f : ℕ × ℕ). is_aside mid.share f.1 ≡ false) e copies.stays
    ];
  }

  pub copied_ready : IsReadyIn world mid
  copied_ready = record {
    is_world = ready.is_world;
    joined = joined_on v mid ready.joined copies.steady;
    fits = fits_on world v mid ready.fits copies.steady
        (λ r e. subst (λ (f : ℕ → Option Value). IsSome (f r)) (sym copies.copied.register) e);
    ready = ready_on world (hand_of v) (hand_of mid) ready.ready copies.copied.number own_on copies.copied.inbox
        copies.copied.outbox
        (copy_keeps_tied world (hand_of v) (hand_of mid) t q ready.ready.tied young mine copied_now);
    apart = apart_copied;
  }

  pub copied_follows : Follows world told v mid
  copied_follows = record {
    ready = copied_ready;
    steady = copies.steady;
    inbox = λ m c. subst (λ l. Contains l m) copies.copied.inbox c;
    own = own_on;
    cards = λ ordered g agrees sound.
        copies.sound g s (ready.ready.tied.frozen t s is mine young)
        (subst (RefersToNoneBelow g s) to
        (refers_to_none world mid.places.own told g t s ordered agrees is (collected_young world t s is young)))
        sound;
  }
    where
      to : goes_to world.targets s.generation ≡ target_of v.places.directory.targets s.generation
      to =
          sym (target_goes world.targets s.generation (collected_young world t s is young))
          ∙ ap (λ x. target_of x s.generation) ready.fits.targets

-- ---- an object is kept

-- An object of its own that was asked for has the place q now: the sweeper is ready again, and its slot is at hand as it
-- was.
pub kept_ready : (world : World) (w : Setting) (told : List Message) (v mid : SweeperView) (b : Slot) (t q : ℕ)
    (todo : List Standing)
    → IsSettingOf world w → IsReadyIn world v → asks world b ≡ Some t → owner world.sweepers t ≡ v.share.number
    → IsKept v mid t q
    → Follows world told v mid × Contains mid.places.own (t, q)
    × Goes world w (hand_of v) (in_standing world (message.Forward t b) ∷ todo) (hand_of mid)
    (in_standing world (message.Forward t b) ∷ todo)
kept_ready world w told v mid b t q todo setting ready wants mine (WasKept c same) = (
  subst (Follows world told v) (sym same) (follows_none world told v ready),
  subst (λ (u : SweeperView). Contains u.places.own (t, q)) (sym same) c,
  subst
      (λ u. Goes world w (hand_of v) (in_standing world (message.Forward t b) ∷ todo) (hand_of u)
      (in_standing world (message.Forward t b) ∷ todo))
      (sym same) (goes_none world w (hand_of v) (in_standing world (message.Forward t b) ∷ todo)),
)
kept_ready world w told v mid b t q todo setting ready wants mine (IsKeptNow copies) =
    let young = asks_collected world b t wants in
    let s = collected_start world t young in (
      copied_follows world v mid told t q s.0 ready s.1 young mine copies,
      copied_there world v mid told t q s.0 ready s.1 young mine copies,
      copy_goes world w (hand_of v) (hand_of mid) todo t q b setting ready.ready.tied mine
          (copied_now world v mid told t q s.0 ready s.1 young mine copies),
    )

-- ---- generations told to cards

-- an object that is kept goes to the generation that is told
pub keep_least : (world : World) (v : SweeperView) (t : ℕ) → IsReadyIn world v → (c : CanKeep v t)
    → target_of v.places.directory.targets c.start.generation ≤ goes_to world.targets c.start.generation
keep_least world v t ready c = let e = keep_goes world v t ready c in omega (arith, e)

-- and none to a lower one than where those of generation 0 go
pub told_least : (world : World) (v : SweeperView) (b : Slot) (t : ℕ) (s : Start) → IsReadyIn world v
    → asks world b ≡ Some t → world.image t ≡ Some s
    → target_of v.places.directory.targets 0 ≤ goes_to world.targets s.generation
told_least world v b t s ready wants is =
    subst (λ x. target_of x 0 ≤ goes_to world.targets s.generation) ready.fits.targets
    (least_target world.targets s.generation (collected_young world t s is (asks_collected world b t wants)))
