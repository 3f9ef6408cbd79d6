-- The setting of a world meets what the laws of the core ask of a setting.
use Rattle.std.proofs.Common.{◌≡◌, ℕ, ◌<◌, true, [], ◌++◌, Contains, IsTrue, sym, ◌∙◌, ap, subst, arith, Some}
use Rattle.std.proofs.lemmas.Bool.{both_ways, not_from_false}
use Rattle.std.proofs.lemmas.Option.{none-some, same_Some}
use Rattle.gc_mail.specs.declared.message.Message.{Message}
use Rattle.gc_mail.specs.declared.message.Message.TheVariants as message
use Rattle.gc_mail.specs.declared.message.Slot.{Slot as Back}
use Rattle.gc_mail.specs.declared.message.Slot.TheVariants as back
use Rattle.gc_mail.specs.Recipients.{holder_of, owner, recipient_of}
use Rattle.trace_types.specs.Rules.{has}
use Rattle.owned_core.specs.Invariants.{HasWatches, IsConfirmed}
use Rattle.owned_core.specs.Owned.{State}
use Rattle.owned_core.specs.Parts.{HoldsWell}
use Rattle.owned_core.specs.Rounds.{InRange}
use Rattle.owned_core.specs.Settings.{HasPlaces, Setting, all_dues}
use Rattle.owned_core.specs.Settings as core
use Rattle.owned_core.specs.Slots.{Due}
use Rattle.owned_core.proofs.Lists.{contains_none}
use Rattle.sweep_model.specs.World.{World, asks, is_collected}
use Rattle.sweep_model.specs.Settings.{IsSettingOf, due_of, member_of}
use Rattle.sweep_model.proofs.Ages.{collected_new}

-- ---- sweepers

pub owner_in : (n a : ℕ) → 0 < n → owner n a < n
owner_in n a h = omega arith

pub holder_in : (n : ℕ) (b : Back) → 0 < n → holder_of n b < n
holder_in n (back.Register r) h = omega arith
holder_in n (back.Field i x) h = omega arith
holder_in n (back.Entry line part) h = omega arith
holder_in n (back.Wait x) h = omega arith
holder_in n back.Nothing h = h

-- who gets a message is a sweeper
pub recipient_in : (n : ℕ) (m : Message) → 0 < n → recipient_of n m < n
recipient_in n (message.Forward t b) h = owner_in n t h
recipient_in n (message.Watch t b) h = owner_in n t h
recipient_in n (message.Moved b q) h = holder_in n b h

-- ---- the setting

module _ (world : World) (w : Setting) (setting : IsSettingOf world w) where
  pub has_places : HasPlaces w
  has_places = record {
    was = λ x stays. absurd (both_ways (w.stays x) (setting.stays x) stays);
    apart = λ x y stays. absurd (both_ways (w.stays x) (setting.stays x) stays);
  }

  -- all dues are those of this phase
  pub due_now : (d : Due) → Contains (all_dues w) d → Contains w.dues d
  due_now d c = subst (λ l. Contains (l ++ w.dues) d) setting.past c

  -- each due is of a slot that asks
  pub due_from : (d : Due) → Contains (all_dues w) d
      → (b : Back) × (t : ℕ) × (asks world b ≡ Some t) × (d ≡ due_of world b t)
  due_from d c = setting.from d (due_now d c)

  -- what has a member is held by the owner of the member
  member_held : (b : Back) (x : ℕ) → member_of b ≡ Some x → w.owner x ≡ holder_of world.sweepers b
  member_held (back.Register r) x e = absurd (none-some x e)
  member_held (back.Field i y) x e = setting.owner x ∙ ap (owner world.sweepers) (sym (same_Some _ _ e))
  member_held (back.Entry line part) x e = absurd (none-some x e)
  member_held (back.Wait y) x e = absurd (none-some x e)
  member_held back.Nothing x e = absurd (none-some x e)

  -- nothing is watched
  pub watches_none : (d : Due) → Contains (all_dues w) d → d.watched ≡ []
  watches_none d c = let f = due_from d c in ap (λ (z : Due). z.watched) f.3

  pub holds_well : HoldsWell w
  holds_well = record {
    member = λ d c x is.
        let f = due_from d c in
        let member_is : member_of f.0 ≡ Some x = sym (ap (λ (z : Due). z.member) f.3) ∙ is in
        member_held f.0 x member_is ∙ sym (ap (λ (z : Due). z.slot.holder) f.3);
    watched = λ d c a inside. absurd (contains_none a (subst (λ l. Contains l a) (watches_none d c) inside));
  }

  pub in_range : 0 < world.sweepers → InRange w world.sweepers
  in_range some = record {
    owners = λ x. subst (λ k. k < world.sweepers) (sym (setting.owner x)) (owner_in world.sweepers x some);
    holders = λ d c.
        let f = setting.from d c in
        subst (λ (z : Due). z.slot.holder < world.sweepers) (sym f.3) (holder_in world.sweepers f.0 some);
  }

  pub has_watches : HasWatches w
  has_watches d c a inside =
      let f = setting.from d c in
      absurd (contains_none a (subst (λ (z : Due). Contains z.watched a) f.3 inside))

  -- nothing is believed
  pub is_confirmed : (s : State) → IsConfirmed w s
  is_confirmed s x p seen = absurd (both_ways (w.believed x p) (setting.believed x p) seen)

  -- what is collected is so for the core
  pub core_collects : (x : ℕ) → is_collected world x ≡ true → IsTrue (core.is_collected w x)
  core_collects x h = not_from_false (has w.older x) (setting.older x ∙ collected_new world x h)
