-- One slot at hand goes to a stage, and the sweeper stands for the part after it.
use Rattle.std.proofs.Common.{◌≡◌, ℕ, ◌≤◌, false, ◌⊎◌, List, ◌∷◌, map, Contains, IsTrue, sym, ap, subst, ◌∙◌, inl, inr, Some}
use Rattle.std.proofs.lemmas.Bool.{both_ways, cases_Bool}
use Rattle.gc_mail.specs.declared.message.Slot.TheVariants as back
use Rattle.gc_mail.specs.Recipients.{owner}
use Rattle.owned_core.specs.declared.slot.Want.TheVariants.{Keep}
use Rattle.owned_core.specs.declared.slot.Stage.{Stage}
use Rattle.owned_core.specs.declared.slot.Slot.{Slot}
use Rattle.owned_core.specs.declared.slot.Standing.{Standing}
use Rattle.owned_core.specs.Parts.{Part, moved_here}
use Rattle.owned_core.specs.Settings.{Setting}
use Rattle.owned_core.specs.Slots.{same_slot}
use Rattle.owned_core.proofs.Holding.{at_stage}
use Rattle.owned_core.proofs.Lists.{contains_cases, contains_here, contains_there, map_some, some_map}
use Rattle.owned_core.proofs.SameSlots.{same_slot_itself}
use Rattle.sweep_model.specs.World.{World, asks, is_collected}
use Rattle.sweep_model.specs.Settings.{slot_at}
use Rattle.sweep_model.specs.Hands.{Hand, IsSwept, unswept_of}
use Rattle.sweep_model.specs.Holding.{Holds, IsFixedThere, IsKnown, count_of, entry_of, mail_of}
use Rattle.sweep_model.proofs.Counting.{others_differ}

-- the slots of an object of its own come with its sweep
abbrev pub ComesWithSweep : World → Hand → Standing → Type 0
ComesWithSweep world h t =
    (x i : ℕ) → asks world (back.Field i x) ≡ Some t.slot.target
    → t.slot ≡ slot_at world (back.Field i x) Keep t.slot.target → owner world.sweepers x ≡ h.number
    → (is_collected world x ≡ false) ⊎ IsSwept h x

-- A part in which one slot is at the stage of `now`, those of `rest` are as they were, and all others are fixed.
pub record IsTurned (world : World) (h : Hand) (rest : List Standing) (now : Standing)
    (p : Part) : Type 0 where
  pub stays : (u : Standing) → Contains rest u → Contains p.here u
  pub is : Contains p.here now
  pub here : (u : Standing) → Contains p.here u
      → (u ≡ now) ⊎ Contains rest u ⊎ (IsFixedThere world h u × (same_slot u.slot now.slot ≡ false))
  pub apart : (t u : Standing) → Contains p.here t → Contains p.here u → IsTrue (same_slot t.slot u.slot)
      → t ≡ u
  pub known : (t : Standing) → Contains p.here t → IsKnown world t.slot
  pub begun : (t : Standing) → Contains p.here t → ComesWithSweep world h t

-- the slot t at hand goes to the stage g, and no other slot goes anywhere
module _ (world : World) (w : Setting) (h : Hand) (todo : List Standing) (t : Standing) (p : Part)
    (to : Standing → Stage) (g : Stage) (holds : Holds world w h (t ∷ todo) p) (goes : to t ≡ g)
    (left : (u : Standing) → same_slot u.slot t.slot ≡ false → to u ≡ u.stage) where
  t_here : Contains p.here t
  t_here = holds.mail t (contains_here t (mail_of world h todo))

  apart_rest : (u : Standing) → Contains (mail_of world h todo) u → same_slot u.slot t.slot ≡ false
  apart_rest u c = others_differ t (mail_of world h todo) (holds.once t.slot) u c

  same_left : (u : Standing) → same_slot u.slot t.slot ≡ false → at_stage to u ≡ u
  same_left u e = ap {B = Standing} (λ s. record { slot = u.slot; stage = s }) (left u e)

  t_now : at_stage to t ≡ record { slot = t.slot; stage = g }
  t_now = ap {B = Standing} (λ s. record { slot = t.slot; stage = s }) goes

  came : (v : Standing) → Contains (map (at_stage to) p.here) v
      → (u : Standing) × Contains p.here u × (at_stage to u ≡ v)
  came v c = map_some (at_stage to) p.here v c

  came_here : (v u : Standing) → Contains p.here u → at_stage to u ≡ v
      → (v ≡ record { slot = t.slot; stage = g }) ⊎ Contains (mail_of world h todo) v
      ⊎ (IsFixedThere world h v × (same_slot v.slot t.slot ≡ false))
  came_here v u c e = elim (cases_Bool (same_slot u.slot t.slot)) [
    | inl alike ↦ inl (sym e ∙ ap (at_stage to) (holds.apart u t c t_here alike) ∙ t_now)
    | inr differ ↦
        let same : u ≡ v = sym (same_left u differ) ∙ e in
        elim (holds.here u c) [
          | inl m ↦ elim (contains_cases t (mail_of world h todo) u m) [
            | inl is ↦ absurd (both_ways (same_slot u.slot t.slot) differ
                (subst (λ (z : Standing). IsTrue (same_slot z.slot t.slot)) is (same_slot_itself t.slot)))
            | inr r ↦ inr (inl (subst (Contains (mail_of world h todo)) same r))
          ]
          | inr f ↦
              inr (inr (subst (λ (z : Standing). IsFixedThere world h z × (same_slot z.slot t.slot ≡ false))
              same (f, differ)))
        ]
  ]

  pub turned : IsTurned world h (mail_of world h todo) (record { slot = t.slot; stage = g })
      (moved_here p to)
  turned = record {
    stays = λ u c. subst (Contains (map (at_stage to) p.here)) (same_left u (apart_rest u c))
        (some_map (at_stage to) p.here u (holds.mail u (contains_there t (mail_of world h todo) u c)));
    is = subst (Contains (map (at_stage to) p.here)) t_now (some_map (at_stage to) p.here t t_here);
    here = λ v c. let r = came v c in came_here v r.0 r.1 r.2;
    apart = λ a b ca cb e.
        let ra = came a ca in
        let rb = came b cb in
        let alike : IsTrue (same_slot ra.0.slot rb.0.slot) =
        subst (λ (z : Standing). IsTrue (same_slot z.slot rb.0.slot)) (sym ra.2)
        (subst (λ (z : Standing). IsTrue (same_slot a.slot z.slot)) (sym rb.2) e) in
        sym ra.2 ∙ ap (at_stage to) (holds.apart ra.0 rb.0 ra.1 rb.1 alike) ∙ rb.2;
    known = λ a c.
        let r = came a c in
        subst (λ (z : Standing). IsKnown world z.slot) r.2 (holds.known r.0 r.1);
    begun = λ a c. let r = came a c in subst (ComesWithSweep world h) r.2 (holds.begun r.0 r.1);
  }

-- The part is held again, where what was at hand went to the mail or to its place, and the rest is as it was.
pub holds_again : (world : World) (w : Setting) (h h' : Hand) (todo rest : List Standing) (now : Standing)
    (p : Part)
    → IsTurned world h rest now p → h'.number ≡ h.number → p.own ≡ map (entry_of h'.number) h'.own
    → p.unswept ≡ unswept_of h'
    → ((u : Standing) → Contains (mail_of world h' todo) u → Contains rest u ⊎ (u ≡ now))
    → ((u : Standing) → Contains rest u → Contains (mail_of world h' todo) u)
    → (Contains (mail_of world h' todo) now ⊎ IsFixedThere world h' now)
    → ((u : Standing) → IsFixedThere world h u → same_slot u.slot now.slot ≡ false → IsFixedThere world h' u)
    → ((a : Slot) → count_of a (mail_of world h' todo) ≤ 1)
    → ((x : ℕ) → IsSwept h x → IsSwept h' x)
    → Holds world w h' todo p
holds_again world w h h' todo rest now p turn number own unswept among keeps lands fixed once swept = record {
  own = own;
  unswept = unswept;
  mail = λ u c. elim (among u c) [
    | inl r ↦ turn.stays u r
    | inr e ↦ subst (Contains p.here) (sym e) turn.is
  ];
  here = λ u c. elim (turn.here u c) [
    | inl e ↦ subst (λ z. Contains (mail_of world h' todo) z ⊎ IsFixedThere world h' z) (sym e) lands
    | inr (inl r) ↦ inl (keeps u r)
    | inr (inr f) ↦ inr (fixed u f.0 f.1)
  ];
  once = once;
  apart = turn.apart;
  known = turn.known;
  begun = λ u c x i a e o. elim (turn.begun u c x i a e (o ∙ number)) [
    | inl old ↦ inl old
    | inr s ↦ inr (swept x s)
  ];
}
