-- The sweeper that was made is ready, and begins.
use Rattle.std.proofs.Common.{◌≡◌, ◌≢◌, ℕ, ◌<◌, ◌≤◌, Bool, true, false, cond, List, [], ◌++◌, length, map, nat_le, Option, None, Some, IsSome, Contains, refl, sym, ap, subst, ◌∙◌, inl, inr, ◌⊎◌, arith}
use Rattle.std.proofs.lemmas.Bool.{false≢true}
use Rattle.std.proofs.lemmas.List.Elements.{Contains-append_left, Contains-append_right}
use Rattle.std.proofs.lemmas.Option.{none-some, same_Some}
use Rattle.std.specs.FinMap.{get}
use Rattle.gc_words.specs.declared.value.Value.{Value}
use Rattle.segment.specs.Segments.{Start}
use Rattle.territory.specs.Territories.{TerritoryView, card_byte}
use Rattle.territory.specs.Olds.{TellsAbove}
use Rattle.gc_mail.specs.declared.message.Message.{Message}
use Rattle.gc_mail.specs.declared.message.Message.TheVariants as message
use Rattle.gc_mail.specs.declared.message.Slot.{Slot}
use Rattle.gc_mail.specs.declared.message.Slot.TheVariants as back
use Rattle.gc_mail.specs.Recipients.{holder_of, owner, recipient_of}
use Rattle.owned_core.proofs.Lists.{contains_none}
use Rattle.directory.specs.Directories.{DirectoryView, sweeper_count}
use Rattle.sweep_model.specs.World.{IsWorld, World, asks, goes_to, is_collected, is_young, object_in}
use Rattle.sweep_model.specs.Hands.{Tied}
use Rattle.sweep_model.specs.Holding.{in_standing, out_standing}
use Rattle.sweep_model.specs.Wholes.{AsksForRoot, Begins, IsPlaced, IsRoot, MayCome, MayGo}
use Rattle.sweep_model.proofs.Counting.{count_append}
use Rattle.sweep_model.proofs.Names.{collected_some}
use Rattle.sweep_share.specs.Registers.{AreRegistersOf, RegistersView, register_in}
use Rattle.sweep_share.specs.Shares.{AreShareOf, AreSound, IsRaised, ShareView, start_in, territory_at}
use Rattle.sweep_share.proofs.Places.{own_of}
use Rattle.sweep_places.specs.Places.{PlacesView}
use Rattle.sweeper.specs.declared.starting.Mail.{Mail}
use Rattle.sweeper.specs.Sweepers.{SweeperView, hand_of}
use Rattle.sweeper.specs.Ready.{Agrees, IsOrdered, IsReadyIn}
use Rattle.sweeper.specs.Starting.{AreAsked, AreTold, AsksOfOldsOfAll, AsksOfRegisters, IsBeginning, IsBegun, NoSlotTwice, first_registers, first_share, generation_of, to_itself, to_others}
use Rattle.sweeper.proofs.Asked.{asked_more}
use Rattle.sweeper.proofs.StartingWorld.{AsksAsRoot, field_root, image_is, is_high, register_root, root_field, root_register, some_start}
use Rattle.sweeper.proofs.Beginnings.{count_mail, count_once, itself_in, others_in, sent}

-- the older starts' generations alone
abbrev older_alone : World → ℕ → Option ℕ
older_alone world a = cond (is_collected world a) None (generation_of (world.image a))

-- a sweeper with the first places and no round behind it
abbrev pub made : ShareView → RegistersView → PlacesView → List Message → List Message → SweeperView
made share registers places inbox outbox = record {
  share = share;
  registers = registers;
  places = places;
  inbox = inbox;
  outbox = outbox;
  round = 0;
  ran_out = false;
}

module _ (world : World) (number : ℕ) (d : DirectoryView) (territories : List TerritoryView)
    (items : List (ℕ × Value))
    (good : IsWorld world) (begins : IsBeginning world number d territories items)
    (share : AreShareOf number (sweeper_count d) territories)
    (are : AreRegistersOf number (sweeper_count d) items)
    (raised_share : ShareView) (raised : IsRaised
    (first_share number d territories) raised_share d.targets.cg)
    (told : (i : ℕ) → i < length territories → AreTold
    (territory_at (first_share number d territories) i) d.targets.cg)
    (asked : List (Slot × ℕ)) (once : NoSlotTwice asked)
    (each : (b : Slot) (t : ℕ) → Contains asked (b, t) → AsksAsRoot world number b t)
    (all : (b : Slot) (t : ℕ) → AsksAsRoot world number b t → Contains asked (b, t)) where
  abbrev s : ShareView
  s = first_share number d territories

  abbrev v : SweeperView
  v = made raised_share (first_registers number d items) (record { number = number; directory = d; own = []; unswept = [] })
      (to_itself s asked) (to_others s asked)

  number_is : raised_share.number ≡ number
  number_is = raised.alike.number

  -- what starts at an address of its own is what the image has
  now_is : (x : ℕ) → owner world.sweepers x ≡ number → start_in raised_share x ≡ world.image x
  now_is x own = raised.starts x ∙ begins.starts x own

  now_own : (x : ℕ) (y : Start) → start_in raised_share x ≡ Some y → owner world.sweepers x ≡ number
  now_own x y e =
      ap (λ n. owner n x) begins.sweepers
      ∙ own_of s x (subst IsSome (sym (sym (raised.starts x) ∙ e)) refl)

  stays_old : (y : Start) → nat_le y.generation world.targets.cg ≡ false → y.generation
      ≡ goes_to world.targets y.generation
  stays_old y e = sym (at (nat_le y.generation world.targets.cg) _ e)
    where
      at : (b : Bool) (g : ℕ) → b ≡ false → cond b g y.generation ≡ y.generation
      at true g e = absurd (false≢true (sym e))
      at false g e = refl

  tied : Tied world (hand_of v)
  tied = record {
    frozen = λ x y was own young. now_is x (own ∙ number_is) ∙ was;
    older = λ x y was own old. record {
      old = y;
      new = y;
      was = was;
      is = now_is x (own ∙ number_is) ∙ was;
      kind = refl;
      size = refl;
      birth = refl;
      generation = stays_old y (sym (ap (is_young world.targets.cg) was) ∙ old);
      words = refl;
      plain = λ i none. refl;
    };
    copied = λ x p c. absurd (contains_none (x, p) c);
    mine = λ x p c. absurd (contains_none (x, p) c);
    fresh = λ x p c. absurd (contains_none (x, p) c);
    objects_once = λ m n h k e. absurd (omega (arith, h));
    places_once = λ m n h k e. absurd (omega (arith, h));
    unswept_in = λ x p c. absurd (contains_none (x, p) c);
    unswept_once = λ m n h k e. absurd (omega (arith, h));
    only = λ p y is. let own = now_own p y is in (own ∙ sym number_is, inl (y, sym (now_is p own) ∙ is));
    registers = λ r mine none. begins.held r (mine ∙ number_is);
  }

  number_in : raised_share.number < world.sweepers
  number_in = omega (arith, number_is, begins.sweepers, share.number_in)

  placed : (b : Slot) → IsRoot world b → IsPlaced world (hand_of v) b
  placed (back.Register r) h = tt
  placed (back.Field i x) h = (x, inl (h, refl))
  placed (back.Entry line part) h = tt
  placed (back.Wait x) h = tt
  placed back.Nothing h = tt

  -- a message to itself, and one to another
  record Comes (m : Message) : Type 0 where
    may : MayCome world (hand_of v) m
    root : AsksForRoot world (hand_of v) m
    to : recipient_of world.sweepers m ≡ raised_share.number

  comes : (m : Message) → Contains (to_itself s asked) m → Comes m
  comes m c =
      let w = itself_in s asked m c in
      let a = each w.0 w.1 w.3 in
      let own : owner world.sweepers w.1 ≡ raised_share.number =
      ap (λ n. owner n w.1) begins.sweepers ∙ (w.4 ∙ sym number_is) in
      record {
        may = subst (MayCome world (hand_of v)) (sym w.2) (a.wants, own, λ h. placed w.0 a.root);
        root = record {
          where_to = w.0;
          target = w.1;
          is = w.2;
          wants = a.wants;
          root = a.root;
          holder = a.holder ∙ sym number_is;
        };
        to = ap (recipient_of world.sweepers) w.2 ∙ own;
      }

  record IsSent (m : Message) : Type 0 where
    may : MayGo world (hand_of v) m
    root : AsksForRoot world (hand_of v) m
    to : recipient_of world.sweepers m ≢ raised_share.number

  goes : (m : Message) → Contains (to_others s asked) m → IsSent m
  goes m c =
      let w = others_in s asked m c in
      let a = each w.0 w.1 w.3 in
      let other : owner world.sweepers w.1 ≢ raised_share.number =
      λ o. w.4 (ap (λ n. owner n w.1) (sym begins.sweepers) ∙ (o ∙ number_is)) in
      record {
        may = subst (MayGo world (hand_of v)) (sym w.2) (a.wants, a.holder ∙ sym number_is, other);
        root = record {
          where_to = w.0;
          target = w.1;
          is = w.2;
          wants = a.wants;
          root = a.root;
          holder = a.holder ∙ sym number_is;
        };
        to = λ o. other (ap (recipient_of world.sweepers) (sym w.2) ∙ o);
      }

  pub its_start : Begins world (hand_of v)
  its_start = record {
    number_in = number_in;
    tied = tied;
    own = refl;
    unswept = refl;
    comes = λ m c. let r = comes m c in (r.root, r.to);
    goes = λ m c. let r = goes m c in (r.root, r.to);
    all = λ b t wants root holder. elim (sent s asked b t
        (all b t (record { wants = wants; root = root; holder = holder ∙ number_is }))) [
          | inl c ↦ Contains-append_left (to_itself s asked) (to_others s asked) (message.Forward t b) c
          | inr c ↦ Contains-append_right (to_itself s asked) (to_others s asked) (message.Forward t b) c
        ];
    once = λ a. omega (
      arith,
      count_append a (map (in_standing world) (to_itself s asked))
          (map (out_standing world) (to_others s asked)),
      count_mail world s a asked,
      count_once world a asked good once (λ x c. (each x.0 x.1 c).wants),
    );
  }

  register_there : (r t : ℕ) → asks world (back.Register r) ≡ Some t
      → holder_of world.sweepers (back.Register r) ≡ raised_share.number
      → IsSome (register_in (first_registers number d items) r)
  register_there r t wants holder =
      subst IsSome (sym (begins.held r (holder ∙ number_is)))
      (some_of (world.registers r) (collected_some world (object_in (world.registers r)) t wants).0)
    where
      some_of : (o : Option Value) → object_in o ≡ Some t → IsSome o
      some_of None e = absurd (none-some t e)
      some_of (Some a) e = refl

  pub is_ready : IsReadyIn world v
  is_ready = record {
    is_world = good;
    joined = record {
      places = sym number_is;
      registers = sym number_is;
      count = sym raised.alike.sweepers;
      register_count = sym raised.alike.sweepers;
    };
    fits = record {
      sweepers = begins.sweepers ∙ sym raised.alike.sweepers;
      targets = begins.targets;
      can_start = begins.can_start;
      generations = begins.generations;
      older = begins.older;
      registers = register_there;
    };
    ready = record {
      number_in = number_in;
      tied = tied;
      comes = λ m c. (comes m c).may;
      goes = λ m c. (goes m c).may;
    };
    apart = record {
      starts = λ x y was own. raised.alike.aside x ∙ begins.aside x y was (own ∙ number_is);
      copies = λ x p c. absurd (contains_none (x, p) c);
    };
  }

  -- ---- cards

  older_tells : TellsAbove d.targets.cg (older_alone world)
  older_tells a h e = at (world.image a) refl
    where
      at : (o : Option Start) → world.image a ≡ o → d.targets.cg < h
      at None is =
          let n : older_alone world a ≡ None =
          ap (λ o. cond (is_young world.targets.cg o) None (generation_of o)) is in
          absurd (none-some h (sym n ∙ e))
      at (Some y) is = high y (is_young world.targets.cg (Some y)) refl
          (sym (ap (λ o. cond (is_young world.targets.cg o) None (generation_of o)) is) ∙ e)
        where
          high : (y : Start) (b : Bool) → nat_le y.generation world.targets.cg ≡ b → cond b None
              (Some y.generation) ≡ Some h
              → d.targets.cg < h
          high y true low g = absurd (none-some h g)
          high y false low g =
              let above : world.targets.cg < y.generation = is_high y.generation world.targets.cg low in
              omega (arith, above, same_Some _ _ g, ap (λ m. m.cg) begins.targets)

  older_sound : AreSound (older_alone world) s
  older_sound i within a index b h x has refers gen less =
      begins.cards i within a index b h x has refers (whole (is_collected world b) gen) less
    where
      whole : (c : Bool) → cond c None (generation_of (world.image b)) ≡ Some h → generation_of
          (world.image b) ≡ Some h
      whole true e = absurd (none-some h e)
      whole false e = e

  pub its_cards : IsOrdered world → (generation_at : ℕ → Option ℕ) → Agrees world [] [] generation_at
      → AreSound generation_at raised_share
  its_cards ordered g agrees i within a index b h x has refers gen less = at (is_collected world b) refl
    where
      here : i < length territories
      here = omega (arith, within, raised.alike.count)

      old_has : get (territory_at s i).starts a ≡ Some x
      old_has = ap (λ m. get m a) (sym (raised.there i)) ∙ has

      image : world.image a ≡ Some x
      image =
          (image_is world number d territories items good begins share i a
          (((told i here).addresses a x old_has).1 ∙ share.threads i here)).1 ∙ old_has

      at : (c : Bool) → is_collected world b ≡ c → card_byte (territory_at raised_share i) a index ≤ h
      at true young = absurd (none-some h (sym (agrees.gone b young) ∙ gen))
      at false old =
          let y = some_start (world.image b) (ordered.refers a index b x image refers) in
          let same : y.0.generation ≡ h = same_Some _ _ (sym (agrees.older b y.0 y.1 old) ∙ gen) in
          let alone : older_alone world b ≡ Some h =
          ap (λ c. cond c None (generation_of (world.image b))) old ∙ (ap generation_of y.1 ∙ ap Some same) in
          raised.sound (older_alone world) older_tells older_sound i within a index b h x has refers alone
          less

  pub its_begun : IsBegun world v
  its_begun = record { ready = is_ready; begins = its_start; cards = its_cards }

-- ---- as it is made

same_slot : (r x i : ℕ) → back.Register r ≡ back.Field i x → ⊥
same_slot r x i e = cc

-- all that was asked for, of registers and of older objects
module _ (world : World) (number : ℕ) (d : DirectoryView) (territories : List TerritoryView)
    (items : List (ℕ × Value))
    (good : IsWorld world) (begins : IsBeginning world number d territories items)
    (share : AreShareOf number (sweeper_count d) territories)
    (are : AreRegistersOf number (sweeper_count d) items)
    (told : (i : ℕ) → i < length territories → AreTold
    (territory_at (first_share number d territories) i) d.targets.cg)
    (first mid last : Mail)
    (registers : AreAsked (first_share number d territories) first mid
    (AsksOfRegisters d (first_registers number d items) (length items)))
    (olds : AreAsked (first_share number d territories) mid last
    (AsksOfOldsOfAll d (first_share number d territories) (length territories))) where
  either : (b : Slot) (t : ℕ) → AsksAsRoot world number b t
      → AsksOfRegisters d (first_registers number d items) (length items) b t
      ⊎ AsksOfOldsOfAll d (first_share number d territories) (length territories) b t
  either (back.Register r) t w = inl (root_register world number d territories items good begins share are r
      t w)
  either (back.Field i x) t w = inr (root_field world number d territories items good begins share told x i
      t w)
  either (back.Entry line part) t w = absurd (none-some t w.wants)
  either (back.Wait x) t w = absurd (none-some t w.wants)
  either back.Nothing t w = absurd (none-some t w.wants)

  pub roots_asked : AreAsked (first_share number d territories) first last (AsksAsRoot world number)
  roots_asked =
      asked_more (first_share number d territories) first mid last
      (AsksOfRegisters d (first_registers number d items) (length items))
      (AsksOfOldsOfAll d (first_share number d territories) (length territories))
      (AsksAsRoot world number) registers olds
      (λ b t u w w'. same_slot _ _ _ (sym w.2.0 ∙ w'.2.2.2.2.1.0))
      (λ b t w. register_root world number d territories items good begins share are b t w)
      (λ b t w. field_root world number d territories items good begins share told b t w)
      either

pub begun : (world : World) (number : ℕ) (d : DirectoryView) (territories : List TerritoryView)
    (items : List (ℕ × Value))
    (share raised_share : ShareView) (registers : RegistersView) (places : PlacesView)
    (first mid last : Mail) (cg : ℕ)
    → AreShareOf number (sweeper_count d) territories → AreRegistersOf number (sweeper_count d) items
    → share ≡ first_share number d territories → registers ≡ first_registers number d items
    → places ≡ record { number = number; directory = d; own = []; unswept = [] } → first.inbox ≡ [] → first.outbox ≡ []
    → AreAsked share first mid (AsksOfRegisters d registers (length registers.items))
    → AreAsked share mid last (AsksOfOldsOfAll d share (length share.territories))
    → ((i : ℕ) → i < length share.territories → AreTold (territory_at share i) d.targets.cg)
    → cg ≡ d.targets.cg → IsRaised share raised_share cg → IsWorld world
    → IsBeginning world number d territories items
    → IsBegun world (made raised_share registers places last.inbox last.outbox)
begun world number d territories items share raised_share registers places first mid last cg share_of
    registers_of
    share_is registers_is places_is inbox outbox asked asked_olds told cg_is raised good begins =
    subst (λ z. IsBegun world (made raised_share registers places z last.outbox)) (sym inbox_is)
    (subst (λ z. IsBegun world (made raised_share registers places
    (to_itself (first_share number d territories) all.asks) z)) (sym outbox_is)
    (subst (λ z. IsBegun world (made raised_share z places
    (to_itself (first_share number d territories) all.asks)
    (to_others (first_share number d territories) all.asks))) (sym registers_is)
    (subst (λ z. IsBegun world (made raised_share (first_registers number d items) z
    (to_itself (first_share number d territories) all.asks)
    (to_others (first_share number d territories) all.asks)))
    (sym places_is)
    (its_begun world number d territories items good begins share_of registers_of raised_share its_raised
    its_told
    all.asks all.once all.each all.all))))
  where
    its_told : (i : ℕ) → i < length territories → AreTold
        (territory_at (first_share number d territories) i) d.targets.cg
    its_told = subst (λ z. (i : ℕ) → i < length z.territories → AreTold
        (territory_at z i) d.targets.cg) share_is told

    its_raised : IsRaised (first_share number d territories) raised_share d.targets.cg
    its_raised = subst (λ z. IsRaised z raised_share d.targets.cg) share_is
        (subst (IsRaised share raised_share) cg_is raised)

    all : AreAsked (first_share number d territories) first last (AsksAsRoot world number)
    all = roots_asked world number d territories items good begins share_of registers_of its_told first mid
        last
        (subst (λ z. AreAsked (first_share number d territories) first mid
        (AsksOfRegisters d z (length z.items))) registers_is
        (subst (λ z. AreAsked z first mid (AsksOfRegisters d registers
        (length registers.items))) share_is asked))
        (subst (λ z. AreAsked z mid last (AsksOfOldsOfAll d z (length z.territories))) share_is asked_olds)

    inbox_is : last.inbox ≡ to_itself (first_share number d territories) all.asks
    inbox_is = all.inbox ∙ ap (λ l. l ++ to_itself (first_share number d territories) all.asks) inbox

    outbox_is : last.outbox ≡ to_others (first_share number d territories) all.asks
    outbox_is = all.outbox ∙ ap (λ l. l ++ to_others (first_share number d territories) all.asks) outbox
