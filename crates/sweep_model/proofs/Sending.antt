-- The mail of an exchange: what came was sent by one sweeper, and no slot has two messages.
use Rattle.std.proofs.Common.{◌≡◌, ℕ, ◌+◌, ◌<◌, ◌≤◌, List, [], map, filter, get_or, Contains, IsTrue, sym, ◌∙◌, ap, subst, arith}
use Rattle.std.proofs.lemmas.Bool.{eq-eqb, eqb-true}
use Rattle.std.proofs.lemmas.List.Elements.{Contains-append_right}
use Rattle.gc_mail.specs.declared.message.Message.{Message}
use Rattle.gc_mail.specs.Recipients.{all_of, is_for, recipient_of}
use Rattle.owned_core.specs.declared.slot.Slot.{Slot}
use Rattle.owned_core.specs.declared.slot.Standing.{Standing}
use Rattle.owned_core.specs.Owned.{State}
use Rattle.owned_core.specs.Parts.{lies_at}
use Rattle.owned_core.specs.Settings.{Setting}
use Rattle.owned_core.specs.Slots.{same_slot}
use Rattle.owned_core.proofs.Lists.{filter_some, map_some, some_filter, some_map}
use Rattle.sweep_model.specs.World.{World}
use Rattle.sweep_model.specs.Hands.{Hand}
use Rattle.sweep_model.specs.Holding.{count_of, in_standing, mail_of, out_standing}
use Rattle.sweep_model.specs.Wholes.{AreMailed, Stand}
use Rattle.sweep_model.proofs.Counting.{alike_both, count_append, count_found}
use Rattle.sweep_model.proofs.Outboxes.{came_count, count_all, count_at, count_filter, count_once, from_one, sent_count, to_all}

module _ (world : World) (w : Setting) (before : ℕ → Hand) (s : State) (stand : Stand world w before s) where
  -- a message that goes lies at its sender
  pub to_part : (j : ℕ) → j < world.sweepers → (m : Message) → Contains (before j).outbox m
      → Contains (stand.parts j).here (out_standing world m)
  to_part j b m c =
      let came : List Standing = map (in_standing world) (before j).inbox in
      let sent : List Standing = map (out_standing world) (before j).outbox in
      let goes : Contains sent (out_standing world m) = some_map (out_standing world) (before j).outbox m c in
      (stand.holds j b).mail (out_standing world m)
      (Contains-append_right came sent (out_standing world m) goes)

  -- and its slot stands in the state
  pub sent_stands : (j : ℕ) → j < world.sweepers → (m : Message) → Contains (before j).outbox m
      → Contains s.slots (out_standing world m) × (lies_at w (out_standing world m) ≡ j)
  sent_stands j b m c = (stand.are_parts j b).here (out_standing world m) (to_part j b m c)

  -- a sweeper sends one message for a slot
  out_once : (j : ℕ) → j < world.sweepers → (a : Slot) → sent_count world a (before j).outbox ≤ 1
  out_once j b a =
      let came : List Standing = map (in_standing world) (before j).inbox in
      let sent : List Standing = map (out_standing world) (before j).outbox in
      let once : count_of a (mail_of world (before j) []) ≤ 1 = (stand.holds j b).once a in
      let both : count_of a (mail_of world (before j) [])
      ≡ came_count world a (before j).inbox + sent_count world a (before j).outbox =
      count_append a came sent in
      omega (arith, once, both)

  module _ (after : ℕ → Hand) (mailed : AreMailed world.sweepers before after) where
    inbox_is : (k : ℕ) → k < world.sweepers
        → (after k).inbox ≡ filter (is_for world.sweepers k) (all_of mailed.sent)
    inbox_is k b = sym (mailed.inbox_is k b) ∙ mailed.delivered k b

    -- a message in the inbox was in an outbox
    pub came : (k : ℕ) → k < world.sweepers → (m : Message) → Contains (after k).inbox m
        → (j : ℕ) × (j < world.sweepers) × Contains (before j).outbox m × (recipient_of world.sweepers m ≡ k)
    came k b m c =
        let in_all : Contains (filter (is_for world.sweepers k) (all_of mailed.sent)) m =
        subst (λ l. Contains l m) (inbox_is k b) c in
        let f = filter_some (is_for world.sweepers k) (all_of mailed.sent) m in_all in
        let r = from_one mailed.sent m f.0 in
        let inside : r.0 < world.sweepers = omega (arith, r.1, mailed.count) in
        let for_k : recipient_of world.sweepers m ≡ k = eqb-true (recipient_of world.sweepers m) k f.1 in
        (r.0, inside, subst (λ l. Contains l m) (mailed.sent_is r.0 inside) r.2, for_k)

    -- a message in an outbox is in the inbox of its recipient
    pub comes : (j k : ℕ) → j < world.sweepers → k < world.sweepers → (m : Message)
        → Contains (before j).outbox m → recipient_of world.sweepers m ≡ k → Contains (after k).inbox m
    comes j k bj bk m c e =
        let sent : Contains (get_or mailed.sent j []) m =
        subst (λ l. Contains l m) (sym (mailed.sent_is j bj)) c in
        let all : Contains (all_of mailed.sent) m =
        to_all mailed.sent j m (omega (arith, bj, mailed.count)) sent in
        subst (λ l. Contains l m) (sym (inbox_is k bk))
        (some_filter (is_for world.sweepers k) (all_of mailed.sent) m all
        (eq-eqb (recipient_of world.sweepers m) k e))

    -- a slot that is counted in outbox j stands in the state, and lies at j
    counted : (a : Slot) (j : ℕ) → j < world.sweepers → 1 ≤ count_at world a mailed.sent j
        → (u : Standing) × Contains s.slots u × (lies_at w u ≡ j) × IsTrue (same_slot u.slot a)
    counted a j b h =
        let u = count_found a (map (out_standing world) (get_or mailed.sent j [])) h in
        let m = map_some (out_standing world) (get_or mailed.sent j []) u.0 u.1 in
        let sent : Contains (before j).outbox m.0 = subst (λ l. Contains l m.0) (mailed.sent_is j b) m.1 in
        let stands = (stand.are_parts j b).here u.0
        (subst (Contains (stand.parts j).here) m.2 (to_part j b m.0 sent)) in
        (u.0, stands.0, stands.1, u.2)

    -- two messages for a slot would be one standing that lies at two sweepers
    one_sender : (a : Slot) (i j : ℕ) → i < world.sweepers → j < world.sweepers
        → 1 ≤ count_at world a mailed.sent i → 1 ≤ count_at world a mailed.sent j → i ≡ j
    one_sender a i j bi bj hi hj =
        let u = counted a i bi hi in
        let v = counted a j bj hj in
        let same : u.0 ≡ v.0 =
        stand.invariant.slots_once u.0 v.0 u.1 v.1 (alike_both u.0.slot v.0.slot a u.3 v.3) in
        sym u.2 ∙ (ap (lies_at w) same ∙ v.2)

    all_once : (a : Slot) → count_all world a mailed.sent ≤ 1
    all_once a = count_once world a mailed.sent
        (λ i b.
        let inside : i < world.sweepers = omega (arith, b, mailed.count) in
        subst (λ l. sent_count world a l ≤ 1) (sym (mailed.sent_is i inside)) (out_once i inside a))
        (λ i j bi bj. one_sender a i j (omega (arith, bi, mailed.count)) (omega (arith, bj, mailed.count)))

    -- a slot has one message in an inbox
    pub inbox_once : (k : ℕ) → k < world.sweepers → (a : Slot) → came_count world a (after k).inbox ≤ 1
    inbox_once k b a =
        let is : came_count world a (after k).inbox
        ≡ came_count world a (filter (is_for world.sweepers k) (all_of mailed.sent)) =
        ap (came_count world a) (inbox_is k b) in
        let most : came_count world a (filter (is_for world.sweepers k) (all_of mailed.sent))
        ≤ count_all world a mailed.sent =
        count_filter world a (is_for world.sweepers k) (all_of mailed.sent) in
        let once : count_all world a mailed.sent ≤ 1 = all_once a in
        omega (arith, is, most, once)
