-- A place is written where a slot wants it, and then the sweeper is ready again.
use Rattle.std.proofs.Common.{◌≡◌, ℕ, ◌≤◌, List, Contains, Option, Some, IsSome, refl, sym, ap, subst, ◌∙◌, inl, inr, ◌⊎◌, arith}
use Rattle.std.proofs.lemmas.Bool.{cases_eq}
use Rattle.std.proofs.lemmas.Option.{none-some, same_Some}
use Rattle.gc_words.specs.declared.value.Value.{Value}
use Rattle.segment.specs.Segments.{Start}
use Rattle.gc_mail.specs.declared.message.Message.{Message}
use Rattle.gc_mail.specs.declared.message.Message.TheVariants as message
use Rattle.gc_mail.specs.declared.message.Slot.{Slot}
use Rattle.gc_mail.specs.declared.message.Slot.TheVariants as back
use Rattle.gc_mail.specs.Recipients.{holder_of, owner}
use Rattle.sweep_model.specs.World.{World, asks, goes_to}
use Rattle.sweep_model.specs.Hands.{IsAt, Tied}
use Rattle.sweep_model.specs.Moves.{IsWritten}
use Rattle.sweep_model.proofs.MemoryPuts.{put_writes, set_writes}
use Rattle.sweep_model.proofs.Names.{field_in}
use Rattle.sweep_share.specs.Shares.{AreSound}
use Rattle.sweep_share.specs.Registers.{register_in}
use Rattle.sweeper.specs.Sweepers.{Puts, Sets, SweeperView, Writes, hand_of}
use Rattle.sweeper.specs.Ready.{Agrees, Follows, IsReadyIn}
use Rattle.sweeper.proofs.WorldReady.{apart_on, fits_on, ready_on}
use Rattle.sweeper.proofs.WorldSteady.{joined_on}
use Rattle.sweeper.proofs.WorldTold.{at_known}

-- the place of t is known here: it was forwarded, or a message tells it
abbrev pub IsKnownPlace : List (ℕ × ℕ) → List Message → Slot → ℕ → ℕ → Type 0
IsKnownPlace own told b t q = Contains own (t, q) ⊎ Contains told (message.Moved b q)

-- so its generation is
known_generation : (world : World) (own : List (ℕ × ℕ)) (told : List Message) (g : ℕ → Option ℕ) (b : Slot) (t q : ℕ)
    (s : Start) → Agrees world own told g → asks world b ≡ Some t → world.image t ≡ Some s
    → IsKnownPlace own told b t q → g q ≡ Some (goes_to world.targets s.generation)
known_generation world own told g b t q s agrees wants is (inl c) = agrees.kept t q s c is
known_generation world own told g b t q s agrees wants is (inr c) = agrees.moved b q t s c wants is

-- ---- a field

-- field i of x, which stands at p and asks for t, has the place q
module _ (world : World) (told : List Message) (v v' : SweeperView) (x p i t q refers : ℕ) (s : Start)
    (ready : IsReadyIn world v) (mine : owner world.sweepers x ≡ v.share.number) (at : IsAt world v.places.own x p)
    (wants : asks world (back.Field i x) ≡ Some t) (is : world.image t ≡ Some s)
    (known : IsKnownPlace v.places.own told (back.Field i x) t q) (least : refers ≤ goes_to world.targets s.generation)
    (puts : Puts v v' p i q refers) where
  put_done : IsWritten world (hand_of v) (hand_of v') (back.Field i x) q × Tied world (hand_of v')
  put_done =
      put_writes world (hand_of v) (hand_of v') x p i t puts.word q ready.ready.tied mine at wants puts.is_word puts.put

  own_same : (y r : ℕ) → Contains v.places.own (y, r) → Contains v'.places.own (y, r)
  own_same y r c = subst (λ l. Contains l (y, r)) (sym puts.put.own) c

  put_is_ready : IsReadyIn world v'
  put_is_ready = record {
    is_world = ready.is_world;
    joined = joined_on v v' ready.joined puts.steady;
    fits = fits_on world v v' ready.fits puts.steady
        (λ r e. subst (λ (f : ℕ → Option Value). IsSome (f r)) (sym puts.put.register) e);
    ready = ready_on world (hand_of v) (hand_of v') ready.ready puts.put.number own_same puts.put.inbox puts.put.outbox
        put_done.1;
    apart = apart_on world v v' ready.apart puts.steady puts.put.own;
  }

  lower : (g : ℕ → Option ℕ) → Agrees world v'.places.own told g → (h : ℕ) → g q ≡ Some h → refers ≤ h
  lower g agrees h e =
      let to : g q ≡ Some (goes_to world.targets s.generation) =
      known_generation world v.places.own told g (back.Field i x) t q s
      (subst (λ l. Agrees world l told g) puts.put.own agrees) wants is known in
      let same : goes_to world.targets s.generation ≡ h = same_Some _ _ (sym to ∙ e) in
      omega (arith, least, same)

  pub put_ready : Follows world told v v' × IsWritten world (hand_of v) (hand_of v') (back.Field i x) q
  put_ready = (
    record {
      ready = put_is_ready;
      steady = puts.steady;
      inbox = λ m c. subst (λ l. Contains l m) puts.put.inbox c;
      own = own_same;
      cards = λ ordered g agrees sound. puts.sound g (lower g agrees) sound;
    },
    put_done.0,
  )

-- ---- a register

module _ (world : World) (told : List Message) (v v' : SweeperView) (r t q : ℕ)
    (ready : IsReadyIn world v) (wants : asks world (back.Register r) ≡ Some t) (sets : Sets v v' r q) where
  set_done : IsWritten world (hand_of v) (hand_of v') (back.Register r) q × Tied world (hand_of v')
  set_done = set_writes world (hand_of v) (hand_of v') r t q ready.ready.tied wants sets.put

  own_held : (y p : ℕ) → Contains v.places.own (y, p) → Contains v'.places.own (y, p)
  own_held y p c = subst (λ l. Contains l (y, p)) (sym sets.put.own) c

  still_some : (n : ℕ) → IsSome (register_in v.registers n) → IsSome (register_in v'.registers n)
  still_some n e = elim (cases_eq n r) [
    | inl is ↦ subst (λ (o : Option Value). IsSome o) (sym (ap (register_in v'.registers) is ∙ sets.put.here)) refl
    | inr ne ↦ subst (λ (o : Option Value). IsSome o) (sym (sets.put.others n ne)) e
  ]

  pub set_ready : Follows world told v v' × IsWritten world (hand_of v) (hand_of v') (back.Register r) q
  set_ready = (
    record {
      ready = record {
        is_world = ready.is_world;
        joined = joined_on v v' ready.joined sets.steady;
        fits = fits_on world v v' ready.fits sets.steady still_some;
        ready = ready_on world (hand_of v) (hand_of v') ready.ready sets.put.number own_held sets.put.inbox
            sets.put.outbox set_done.1;
        apart = apart_on world v v' ready.apart sets.steady sets.put.own;
      };
      steady = sets.steady;
      inbox = λ m c. subst (λ l. Contains l m) sets.put.inbox c;
      own = own_held;
      cards = λ ordered g agrees sound. subst (AreSound g) (sym sets.share) sound;
    },
    set_done.0,
  )

-- ---- a slot

-- A slot of its own that asks for t has the place q, which is known: the sweeper is ready again.
pub written_ready : (world : World) (told : List Message) (v v' : SweeperView) (b : Slot) (t q refers : ℕ) (s : Start)
    → IsReadyIn world v → asks world b ≡ Some t → world.image t ≡ Some s → holder_of world.sweepers b ≡ v.share.number
    → IsKnownPlace v.places.own told b t q → refers ≤ goes_to world.targets s.generation → Writes v v' b q refers
    → Follows world told v v' × IsWritten world (hand_of v) (hand_of v') b q
written_ready world told v v' (back.Register r) t q refers s ready wants is mine known least done =
    set_ready world told v v' r t q ready wants done
written_ready world told v v' (back.Field i x) t q refers s ready wants is mine known least done =
    let f = field_in world x i t wants in
    put_ready world told v v' x done.0 i t q refers s ready mine
    (at_known world v x done.0 f.start ready f.is done.1) wants is known least done.2
written_ready world told v v' (back.Entry line part) t q refers s ready wants is mine known least done =
    absurd (none-some t wants)
written_ready world told v v' (back.Wait x) t q refers s ready wants is mine known least done = absurd (none-some t wants)
written_ready world told v v' back.Nothing t q refers s ready wants is mine known least done = absurd (none-some t wants)
