-- The exchange of all messages leads to a state that the sweepers stand for.
use Rattle.std.proofs.Common.{◌≡◌, ◌≢◌, ℕ, ◌<◌, ◌≤◌, List, [], ◌∷◌, map, Contains, IsTrue, refl, sym, ◌∙◌, ap, subst, inl, inr, ◌⊎◌, append-nil, arith, Some}
use Rattle.std.proofs.lemmas.List.Elements.{Contains-append_cases}
use Rattle.gc_mail.specs.declared.message.Message.{Message}
use Rattle.gc_mail.specs.declared.message.Message.TheVariants as message
use Rattle.gc_mail.specs.Recipients.{recipient_of}
use Rattle.owned_core.specs.declared.event.Event.TheVariants.{Deliver}
use Rattle.owned_core.specs.declared.slot.Slot.{Slot}
use Rattle.owned_core.specs.declared.slot.Standing.{Standing}
use Rattle.owned_core.specs.Events.{delivered}
use Rattle.owned_core.specs.Owned.{State}
use Rattle.owned_core.specs.Parts.{Part, lies_at}
use Rattle.owned_core.specs.Ranks.{Covers, rank, slot_rank}
use Rattle.owned_core.specs.Rounds.{AfterExchange, deliver}
use Rattle.owned_core.specs.Settings.{Setting}
use Rattle.owned_core.specs.Slots.{same_slot}
use Rattle.owned_core.proofs.Lists.{contains_here, contains_none, map_some, some_map}
use Rattle.owned_core.proofs.Ranks.{rank_falls, rank_stays}
use Rattle.owned_core.proofs.Rounds.{exchange_is_events}
use Rattle.sweep_model.specs.World.{World, IsWorld}
use Rattle.sweep_model.specs.Settings.{IsSettingOf}
use Rattle.sweep_model.specs.Hands.{Hand, IsSwept}
use Rattle.sweep_model.specs.Holding.{Holds, IsFixedThere, IsKnown, count_of, in_standing, mail_of, out_standing}
use Rattle.sweep_model.specs.Turns.{ExchangeLowersRank}
use Rattle.sweep_model.specs.Wholes.{After, AreMailed, ExchangeStands, IsReady, Stand}
use Rattle.sweep_model.proofs.Apt.{has_places, in_range, recipient_in}
use Rattle.sweep_model.proofs.Asking.{fixed_in_mail}
use Rattle.sweep_model.proofs.ExchangedParts.{after_some, are_exchanged, parts_after, some_after}
use Rattle.sweep_model.proofs.Mailing.{mailed_hand, ready_mailed}
use Rattle.sweep_model.proofs.Members.{member_swept}
use Rattle.sweep_model.proofs.Outboxes.{delivered_is, lies_for, same_slots}
use Rattle.sweep_model.proofs.Sending.{came, comes, inbox_once, sent_stands, to_part}

-- a fixed slot is not delivered
fixed_stays : (world : World) (h : Hand) (u : Standing) → IsFixedThere world h u → deliver u ≡ u
fixed_stays world h u f =
    ap {B = Standing} (λ g. record { slot = u.slot; stage = delivered g }) f.stage
    ∙ ap {B = Standing} (λ g. record { slot = u.slot; stage = g }) (sym f.stage)

-- a list that is not empty has a message
some_of : (ms : List Message) → ms ≢ [] → (m : Message) × Contains ms m
some_of [] ne = absurd (ne refl)
some_of (m ∷ ms) ne = (m, contains_here m ms)

-- the slot of a message has less left to do where it came than where it goes
less_to_do : (world : World) (m : Message)
    → slot_rank (Some (in_standing world m).stage) < slot_rank (Some (out_standing world m).stage)
less_to_do world (message.Forward t b) = omega arith
less_to_do world (message.Watch t b) = omega arith
less_to_do world (message.Moved b q) = omega arith

module _ (world : World) (w : Setting) (before after : ℕ → Hand) (s : State) (good : IsWorld world)
    (setting : IsSettingOf world w) (stand : Stand world w before s)
    (mailed : AreMailed world.sweepers before after) where
  -- sweeper k and its part after it
  abbrev now : ℕ → Hand
  now k = mailed_hand (before k) (after k).inbox

  abbrev parts_now : ℕ → Part
  parts_now = parts_after w world.sweepers stand.parts

  mail_now : (k : ℕ) → mail_of world (now k) [] ≡ map (in_standing world) (after k).inbox
  mail_now k = append-nil (map (in_standing world) (after k).inbox)

  -- ---- what a sweeper holds after it

  -- what lies at a sweeper before it is a message that goes, or fixed
  was_part : (j : ℕ) → j < world.sweepers → (u : Standing) → Contains (stand.parts j).here u
      → ((m : Message) × Contains (before j).outbox m × (out_standing world m ≡ u))
      ⊎ IsFixedThere world (before j) u
  was_part j b u c =
      let came : List Standing = map (in_standing world) (before j).inbox in
      let sent : List Standing = map (out_standing world) (before j).outbox in
      elim ((stand.holds j b).here u c) [
        | inl mail ↦ elim (Contains-append_cases came sent u mail) [
          | inl old ↦ absurd (contains_none u
              (subst (λ l. Contains (map (in_standing world) l) u) (mailed.emptied j b) old))
          | inr new ↦ inl (map_some (out_standing world) (before j).outbox u new)
        ]
        | inr fixed ↦ inr fixed
      ]

  -- what lies at k stood in the state before, delivered
  was_in : (k : ℕ) (t : Standing) → Contains (parts_now k).here t
      → (u : Standing) × Contains s.slots u × (deliver u ≡ t)
  was_in k t c =
      let r = after_some w world.sweepers stand.parts k t c in
      (r.2.0, ((stand.are_parts r.0 r.1).here r.2.0 r.2.1).0, r.2.2)

  -- a message of the inbox lies at k
  mail_here : (k : ℕ) → k < world.sweepers → (t : Standing) → Contains (mail_of world (now k) []) t
      → Contains (parts_now k).here t
  mail_here k b t c =
      let m = map_some (in_standing world) (after k).inbox t (subst (λ l. Contains l t) (mail_now k) c) in
      let r = came world w before s stand after mailed k b m.0 m.1 in
      let lies : lies_at w (deliver (out_standing world m.0)) ≡ k =
      ap (lies_at w) (delivered_is world m.0) ∙ (lies_for world w setting m.0 ∙ r.3) in
      subst (Contains (parts_now k).here) (delivered_is world m.0 ∙ m.2)
      (some_after w world.sweepers stand.parts r.0 k (out_standing world m.0) r.1
      (to_part world w before s stand r.0 r.1 m.0 r.2) lies)

  -- what lies at k is in its inbox, or fixed
  here_mail : (k : ℕ) → k < world.sweepers → (t : Standing) → Contains (parts_now k).here t
      → Contains (mail_of world (now k) []) t ⊎ IsFixedThere world (now k) t
  here_mail k b t c =
      let r = after_some w world.sweepers stand.parts k t c in
      elim (was_part r.0 r.1 r.2.0 r.2.1) [
        | inl m ↦
            let is : in_standing world m.0 ≡ t = sym (delivered_is world m.0) ∙ (ap deliver m.2 ∙ r.2.2) in
            let is_for : recipient_of world.sweepers m.0 ≡ k =
            sym (lies_for world w setting m.0) ∙ (ap (lies_at w) is ∙ r.2.3) in
            let inside : Contains (after k).inbox m.0 =
            comes world w before s stand after mailed r.0 k r.1 b m.0 m.1 is_for in
            let lies : Contains (map (in_standing world) (after k).inbox) t =
            subst (Contains (map (in_standing world) (after k).inbox)) is
            (some_map (in_standing world) (after k).inbox m.0 inside) in
            inl (subst (λ l. Contains l t) (sym (mail_now k)) lies)
        | inr f ↦
            let same : r.2.0 ≡ t = sym (fixed_stays world (before r.0) r.2.0 f) ∙ r.2.2 in
            let mine : r.0 ≡ k =
            sym ((stand.are_parts r.0 r.1).here r.2.0 r.2.1).1 ∙ (ap (lies_at w) same ∙ r.2.3) in
            inr (subst (IsFixedThere world (now k)) same
            (fixed_in_mail world (before k) (after k).inbox [] r.2.0
            (subst (λ j. IsFixedThere world (before j) r.2.0) mine f)))
      ]

  holds_now : (k : ℕ) → k < world.sweepers → Holds world w (now k) [] (parts_now k)
  holds_now k b = record {
    own = (stand.holds k b).own;
    unswept = (stand.holds k b).unswept;
    mail = mail_here k b;
    here = here_mail k b;
    once = λ a.
        subst (λ l. count_of a l ≤ 1) (sym (mail_now k))
        (inbox_once world w before s stand after mailed k b a);
    apart = λ t u ct cu same.
        let x = was_in k t ct in
        let y = was_in k u cu in
        let alike : IsTrue (same_slot x.0.slot y.0.slot) =
        subst (λ (z : Standing). IsTrue (same_slot z.slot y.0.slot)) (sym x.2)
        (subst (λ (z : Standing). IsTrue (same_slot t.slot z.slot)) (sym y.2) same) in
        sym x.2 ∙ (ap deliver (stand.invariant.slots_once x.0 y.0 x.1 y.1 alike) ∙ y.2);
    known = λ t c.
        let r = after_some w world.sweepers stand.parts k t c in
        subst (λ (z : Standing). IsKnown world z.slot) r.2.2 ((stand.holds r.0 r.1).known r.2.0 r.2.1);
    begun = λ t c x i wants is mine.
        let u = was_in k t c in
        let slot : u.0.slot ≡ t.slot = ap (λ (z : Standing). z.slot) u.2 in
        elim (member_swept world w before s setting stand good u.0 u.1 x i t.slot.target wants (slot ∙ is)) [
          | inl stays ↦ inl stays
          | inr swept ↦ inr (subst (λ j. IsSwept (before j) x) (mine ∙ stand.numbers k b) swept)
        ];
  }

  -- ---- the state after it

  exchange_of : AfterExchange w world.sweepers s (parts_after w world.sweepers stand.parts)
  exchange_of = exchange_is_events w (has_places world w setting) world.sweepers
      (in_range world w setting good.some) s stand.parts parts_now stand.invariant stand.territory stand.held
      stand.are_parts (are_exchanged w world.sweepers stand.parts)

  exchange_leads : After world w after s
  exchange_leads = record {
    state = exchange_of.after;
    events = map (λ a. Deliver a) exchange_of.slots;
    reached = exchange_of.reached;
    stand = record {
      parts = parts_now;
      invariant = exchange_of.invariant;
      territory = exchange_of.territory;
      held = exchange_of.held;
      are_parts = exchange_of.are_parts;
      numbers = λ k b. ap (λ (h : Hand). h.number) (mailed.same k b) ∙ stand.numbers k b;
      ready = λ k b. subst (IsReady world) (sym (mailed.same k b))
          (ready_mailed world w before after s good setting stand mailed k b);
      holds = λ k b. subst (λ h. Holds world w h [] (parts_now k)) (sym (mailed.same k b)) (holds_now k b);
    };
    lower = λ names _.
        rank_stays w (has_places world w setting) names s (map (λ a. Deliver a) exchange_of.slots)
        exchange_of.after stand.invariant exchange_of.reached;
  }

  -- ---- a message that goes

  -- the slot of a message that goes stands where it came after it
  came_in : (k : ℕ) → k < world.sweepers → (m : Message) → Contains (before k).outbox m
      → Contains exchange_of.after.slots (in_standing world m)
  came_in k b m c =
      let for_it : ℕ = recipient_of world.sweepers m in
      let inside : for_it < world.sweepers = recipient_in world.sweepers m good.some in
      let lies : lies_at w (deliver (out_standing world m)) ≡ for_it =
      ap (lies_at w) (delivered_is world m) ∙ lies_for world w setting m in
      let here : Contains (parts_now for_it).here (deliver (out_standing world m)) =
      some_after w world.sweepers stand.parts k for_it (out_standing world m) b
      (to_part world w before s stand k b m c) lies in
      ((exchange_of.are_parts for_it inside).here (in_standing world m)
      (subst (Contains (parts_now for_it).here) (delivered_is world m) here)).0

  -- so there is less left to do
  exchange_lowers : (k : ℕ) → k < world.sweepers → (before k).outbox ≢ []
      → (then : After world w after s)
      × ((names : List Slot) → Covers w names → rank names then.state < rank names s)
  unfolding exchange_leads
  exchange_lowers k b more =
      let r = some_of (before k).outbox more in (
        exchange_leads,
        λ names covers.
            rank_falls w (has_places world w setting) names covers s (map (λ a. Deliver a) exchange_of.slots)
            exchange_of.after stand.invariant exchange_of.invariant exchange_of.reached
            (out_standing world r.0)
            (in_standing world r.0) (sent_stands world w before s stand k b r.0 r.1).0 (came_in k b r.0 r.1)
            (same_slots world r.0) (less_to_do world r.0),
      )

pub exchange_stands : ExchangeStands
exchange_stands = exchange_leads

pub exchange_lowers_rank : ExchangeLowersRank
exchange_lowers_rank = exchange_lowers
