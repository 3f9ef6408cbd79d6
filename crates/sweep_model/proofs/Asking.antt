-- Mail alone changes: no event.
use Rattle.std.proofs.Common.{◌≡◌, ℕ, ◌≤◌, List, [], ◌∷◌, ◌++◌, map, Contains, refl, sym, ap, subst, ◌∙◌, inl, inr, arith, ◌⊎◌, append_assoc, Some}
use Rattle.std.proofs.lemmas.List.{map_push}
use Rattle.std.proofs.lemmas.List.Elements.{Contains-append_left, Contains-push, Contains-push_cases}
use Rattle.gc_mail.specs.declared.message.Message.{Message}
use Rattle.gc_mail.specs.declared.message.Slot.{Slot as Back}
use Rattle.gc_mail.specs.declared.message.Slot.TheVariants as back
use Rattle.owned_core.specs.declared.slot.Want.TheVariants.{Keep}
use Rattle.owned_core.specs.declared.slot.Slot.{Slot}
use Rattle.owned_core.specs.declared.slot.Standing.{Standing}
use Rattle.owned_core.specs.Parts.{Part}
use Rattle.owned_core.specs.Settings.{Setting}
use Rattle.owned_core.specs.Slots.{same_slot}
use Rattle.owned_core.proofs.Lists.{contains_cases, contains_here, contains_there}
use Rattle.sweep_model.specs.World.{World, asks}
use Rattle.sweep_model.specs.Settings.{slot_at}
use Rattle.sweep_model.specs.Hands.{FixedAt, Hand, with_sent}
use Rattle.sweep_model.specs.Holding.{Holds, IsFixedThere, count_of, in_standing, mail_of, one_if, out_standing}
use Rattle.sweep_model.specs.Moves.{AskGoes, PopGoes}
use Rattle.sweep_model.proofs.Counting.{count_append}
use Rattle.sweep_model.proofs.Going.{same_itself}

-- ---- what is fixed stays fixed

-- a slot that is fixed stays so where the places of what asks stay
pub fixed_there : (world : World) (h h' : Hand) (t : Standing)
    → ((b : Back) (q : ℕ) → asks world b ≡ Some t.slot.target → t.slot ≡ slot_at world b Keep t.slot.target
    → FixedAt world h b q → FixedAt world h' b q)
    → IsFixedThere world h t → IsFixedThere world h' t
fixed_there world h h' t f is = record {
  where_to = is.where_to;
  place = is.place;
  wants = is.wants;
  slot = is.slot;
  stage = is.stage;
  there = f is.where_to is.place is.wants is.slot is.there;
}

-- mail leaves the places
mail_leaves : (world : World) (h : Hand) (inbox outbox : List Message) (b : Back) (q : ℕ)
    → FixedAt world h b q
    → FixedAt world (record h { inbox = inbox; outbox = outbox }) b q
mail_leaves world h inbox outbox (back.Register r) q f = f
mail_leaves world h inbox outbox (back.Field i x) q f = f
mail_leaves world h inbox outbox (back.Entry line part) q f = f
mail_leaves world h inbox outbox (back.Wait x) q f = f
mail_leaves world h inbox outbox back.Nothing q f = f

-- so what is fixed stays fixed
pub fixed_in_mail : (world : World) (h : Hand) (inbox outbox : List Message) (t : Standing)
    → IsFixedThere world h t
    → IsFixedThere world (record h { inbox = inbox; outbox = outbox }) t
fixed_in_mail world h inbox outbox t =
    fixed_there world h (record h { inbox = inbox; outbox = outbox }) t
    (λ b q _ _. mail_leaves world h inbox outbox b q)

-- ---- the same slots in another order

-- where the mail and what is at hand have the same slots as before, the same part is held
pub mail_moves : (world : World) (w : Setting) (h : Hand) (todo todo' : List Standing)
    (inbox outbox : List Message) (p : Part)
    → Holds world w h todo p
    → ((t : Standing) → Contains (mail_of world (record h { inbox = inbox; outbox = outbox }) todo') t
    → Contains (mail_of world h todo) t)
    → ((t : Standing) → Contains (mail_of world h todo) t
    → Contains (mail_of world (record h { inbox = inbox; outbox = outbox }) todo') t)
    → ((a : Slot) → count_of a (mail_of world (record h { inbox = inbox; outbox = outbox }) todo')
    ≤ count_of a (mail_of world h todo))
    → Holds world w (record h { inbox = inbox; outbox = outbox }) todo' p
mail_moves world w h todo todo' inbox outbox p holds old new few = record {
  own = holds.own;
  unswept = holds.unswept;
  mail = λ t c. holds.mail t (old t c);
  here = λ t c. elim (holds.here t c) [
    | inl m ↦ inl (new t m)
    | inr f ↦ inr (fixed_in_mail world h inbox outbox t f)
  ];
  once = λ a. omega (arith, holds.once a, few a);
  apart = holds.apart;
  known = holds.known;
  begun = holds.begun;
}

-- ---- a message more in the outbox

sent_mail : (world : World) (h : Hand) (todo : List Standing) (m : Message)
    → mail_of world (with_sent h m) todo ≡ mail_of world h todo ++ out_standing world m ∷ []
sent_mail world h todo m =
    ap (λ l. todo ++ (map (in_standing world) h.inbox ++ l)) (map_push (out_standing world) h.outbox m)
    ∙ ap (λ l. todo ++ l)
    (sym (append_assoc (map (in_standing world) h.inbox) (map (out_standing world) h.outbox)
    (out_standing world m ∷ [])))
    ∙ sym (append_assoc todo (map (in_standing world) h.inbox ++ map (out_standing world) h.outbox)
    (out_standing world m ∷ []))

-- what the mail has then was there before, or is that message
pub sent_cases : (world : World) (h : Hand) (todo : List Standing) (m : Message) (u : Standing)
    → Contains (mail_of world (with_sent h m) todo) u
    → Contains (mail_of world h todo) u ⊎ (u ≡ out_standing world m)
sent_cases world h todo m u c =
    elim (Contains-push_cases (mail_of world h todo) (out_standing world m) u
    (subst (λ l. Contains l u) (sent_mail world h todo m) c)) [ inl e ↦ inl e | inr e ↦ inr (sym e) ]

-- what was there stays
pub sent_keeps : (world : World) (h : Hand) (todo : List Standing) (m : Message) (u : Standing)
    → Contains (mail_of world h todo) u → Contains (mail_of world (with_sent h m) todo) u
sent_keeps world h todo m u c =
    subst (λ l. Contains l u) (sym (sent_mail world h todo m))
    (Contains-append_left (mail_of world h todo) (out_standing world m ∷ []) u c)

-- and that message is there
pub sent_new : (world : World) (h : Hand) (todo : List Standing) (m : Message)
    → Contains (mail_of world (with_sent h m) todo) (out_standing world m)
sent_new world h todo m =
    subst (λ l. Contains l (out_standing world m)) (sym (sent_mail world h todo m))
    (Contains-push (mail_of world h todo) (out_standing world m))

-- a slot that was at hand and was sent stands as often as before
pub sent_count : (world : World) (h : Hand) (todo : List Standing) (m : Message) (t : Standing) (a : Slot)
    → t.slot ≡ (out_standing world m).slot
    → count_of a (mail_of world (with_sent h m) todo) ≤ count_of a (t ∷ mail_of world h todo)
sent_count world h todo m t a e =
    let s : count_of a (mail_of world (with_sent h m) todo)
    ≡ count_of a (mail_of world h todo ++ out_standing world m ∷ []) =
    ap (count_of a) (sent_mail world h todo m) in
    let r = count_append a (mail_of world h todo) (out_standing world m ∷ []) in
    let q : one_if (same_slot t.slot a) ≡ one_if (same_slot (out_standing world m).slot a) =
    ap (λ z. one_if (same_slot z a)) e in
    omega (arith, s, r, q)

-- ---- asking, and a message that comes to hand

-- a slot at hand that is asked for goes to the outbox
pub ask_goes : AskGoes
ask_goes world w h todo m p holds = (
  [],
  p,
  same_itself p,
  mail_moves world w h (out_standing world m ∷ todo) todo h.inbox (h.outbox ++ m ∷ []) p holds
      (λ t c. elim (sent_cases world h todo m t c) [
        | inl old ↦ contains_there (out_standing world m) (mail_of world h todo) t old
        | inr is ↦ subst (Contains (out_standing world m ∷ mail_of world h todo)) (sym is)
            (contains_here (out_standing world m) (mail_of world h todo))
      ])
      (λ t c. elim (contains_cases (out_standing world m) (mail_of world h todo) t c) [
        | inl is ↦ subst (Contains (mail_of world (with_sent h m) todo)) is (sent_new world h todo m)
        | inr old ↦ sent_keeps world h todo m t old
      ])
      (λ a. sent_count world h todo m (out_standing world m) a refl),
)

-- the first message of the inbox comes to hand
pub pop_goes : PopGoes
pop_goes world w h m ms p holds = (
  [],
  p,
  same_itself p,
  mail_moves world w (record h { inbox = m ∷ ms }) [] (in_standing world m ∷ []) ms h.outbox p holds
      (λ t c. c) (λ t c. c) (λ a. omega arith),
)
