-- What all sweepers have forwarded and swept, as the state of the core says it. The object of a slot that
-- stands is older or swept, and so it has its place.
use Rattle.std.proofs.Common.{◌≡◌, ℕ, ◌<◌, ◌==◌, ◌&&◌, not, false, map, Contains, IsTrue, refl, sym, ◌∙◌, ap, subst, inl, inr, ◌⊎◌, Some}
use Rattle.std.proofs.lemmas.Bool.{both_ways, eq-eqb, eqb-true, not-true, or_cases}
use Rattle.gc_mail.specs.declared.message.Slot.{Slot as Back}
use Rattle.gc_mail.specs.declared.message.Slot.TheVariants as back
use Rattle.gc_mail.specs.Recipients.{owner}
use Rattle.trace_types.specs.Rules.{has}
use Rattle.owned_core.specs.declared.machine.Entry.{Entry}
use Rattle.owned_core.specs.declared.slot.Slot.{Slot}
use Rattle.owned_core.specs.declared.slot.Standing.{Standing}
use Rattle.owned_core.specs.declared.slot.Want.TheVariants.{Keep}
use Rattle.owned_core.specs.Owned.{State, in_list, is_listed, is_opened, is_swept}
use Rattle.owned_core.specs.Settings.{Setting}
use Rattle.owned_core.specs.Settings as core
use Rattle.owned_core.specs.Slots.{Due}
use Rattle.owned_core.proofs.Lists.{any_some, filter_some, map_some, some_any, some_filter, some_map}
use Rattle.owned_core.proofs.Parts.{owners}
use Rattle.owned_core.proofs.SameSlots.{and_l, and_r}
use Rattle.sweep_model.specs.World.{World, IsWorld, asks, is_collected}
use Rattle.sweep_model.specs.Settings.{IsSettingOf, member_of, slot_at}
use Rattle.sweep_model.specs.Hands.{Hand, IsAt, IsSwept, object_of, unswept_of}
use Rattle.sweep_model.specs.Holding.{entry_of}
use Rattle.sweep_model.specs.Wholes.{Stand}
use Rattle.sweep_model.proofs.Ages.{older_stays}
use Rattle.sweep_model.proofs.Apt.{due_from, owner_in}
use Rattle.sweep_model.proofs.Names.{named_once}

-- the object of an unswept pair is among the unswept
pub unswept_has : (h : Hand) (x p : ℕ) → Contains h.unswept (x, p) → IsTrue (has (unswept_of h) x)
unswept_has h x p c =
    some_any (λ y. y == x) (unswept_of h) x (some_map object_of h.unswept (x, p) c) (eq-eqb x x refl)

-- ---- the state and the sweepers

module _ (world : World) (w : Setting) (hands : ℕ → Hand) (s : State) (setting : IsSettingOf world w)
    (stand : Stand world w hands s) where
  -- an entry of the state is a pair of its sweeper
  pair_of : (k : ℕ) → k < world.sweepers → (e : Entry) → Contains s.own e → e.sweeper ≡ k
      → Contains (hands k).own (e.object, e.place)
  pair_of k b e c is =
      let in_part : Contains (stand.parts k).own e = subst (λ l. Contains l e) (stand.are_parts k b).own
      (some_filter (λ (e : Entry). e.sweeper == k) s.own e c (eq-eqb e.sweeper k is)) in
      let in_hand : Contains (map (entry_of (hands k).number) (hands k).own) e =
      subst (λ l. Contains l e) (stand.holds k b).own in_part in
      let m = map_some (entry_of (hands k).number) (hands k).own e in_hand in
      subst (λ (e : Entry). Contains (hands k).own (e.object, e.place)) m.2 m.1

  pub pair_down : (k : ℕ) → k < world.sweepers → (x q : ℕ) → IsTrue (is_listed s k x q)
      → Contains (hands k).own (x, q)
  pair_down k b x q h =
      let r = any_some (λ (e : Entry). e.sweeper == k && e.object == x && e.place == q) s.own h in
      let sweeper_is : r.0.sweeper ≡ k = eqb-true r.0.sweeper k (and_l _ _ (and_l _ _ r.2)) in
      let object_is : r.0.object ≡ x = eqb-true r.0.object x (and_r _ _ (and_l _ _ r.2)) in
      let place_is : r.0.place ≡ q = eqb-true r.0.place q (and_r _ _ r.2) in
      subst (Contains (hands k).own) (ap (λ z. (z, r.0.place)) object_is ∙ ap (λ z. (x, z)) place_is)
      (pair_of k b r.0 r.1 sweeper_is)

  -- and a pair of a sweeper is in the lists of the state
  pub pair_up : (k : ℕ) → k < world.sweepers → (x q : ℕ) → Contains (hands k).own (x, q)
      → IsTrue (in_list s x)
  pair_up k b x q c =
      let e : Entry = entry_of (hands k).number (x, q) in
      let in_part : Contains (stand.parts k).own e = subst (λ l. Contains l e) (sym (stand.holds k b).own)
      (some_map (entry_of (hands k).number) (hands k).own (x, q) c) in
      let f = filter_some (λ (e : Entry). e.sweeper == k) s.own e
      (subst (λ l. Contains l e) (sym (stand.are_parts k b).own) in_part) in
      some_any (λ (e : Entry). e.object == x) s.own e f.0 (eq-eqb x x refl)

  module _ (good : IsWorld world) where
    -- what is in a list is a pair of its owner
    pub owner_has : (x : ℕ) → IsTrue (in_list s x)
        → (p : ℕ) × Contains (hands (owner world.sweepers x)).own (x, p)
    owner_has x h =
        let r = any_some (λ (e : Entry). e.object == x) s.own h in
        let object_is : r.0.object ≡ x = eqb-true r.0.object x r.2 in
        let sweeper_is : r.0.sweeper ≡ owner world.sweepers x =
        sym (owners w s stand.invariant r.0 r.1) ∙ (ap w.owner object_is ∙ setting.owner x) in (
          r.0.place,
          subst (λ z. Contains (hands (owner world.sweepers x)).own (z, r.0.place)) object_is
              (pair_of (owner world.sweepers x) (owner_in world.sweepers x good.some) r.0 r.1 sweeper_is),
        )

    -- what is swept is so at its owner
    pub owner_swept : (x : ℕ) → IsTrue (is_swept s x) → IsSwept (hands (owner world.sweepers x)) x
    owner_swept x h =
        let k : ℕ = owner world.sweepers x in
        let b : k < world.sweepers = owner_in world.sweepers x good.some in
        let none : has s.unswept x ≡ false =
        not-true (has s.unswept x) (and_r (in_list s x) (not (has s.unswept x)) h) in (
          owner_has x (and_l _ _ h),
          λ q c. both_ways (has s.unswept x) none
              ((stand.are_parts k b).unswept x (setting.owner x)
              ∙ (ap (λ l. has l x) (stand.holds k b).unswept ∙ unswept_has (hands k) x q c)),
        )

    -- ---- slots that stand

    -- the slot was due, so its object is older or swept
    opened : (t : Standing) → Contains s.slots t → (b : Back) (u : ℕ) → asks world b ≡ Some u
        → t.slot ≡ slot_at world b Keep u → IsTrue (is_opened w s (member_of b))
    opened t c b u wants is =
        let o = stand.invariant.was_due t c in
        let f = due_from world w setting o.of o.known in
        let name_is : (slot_at world f.0 Keep f.1).name ≡ (slot_at world b Keep u).name =
        sym (ap (λ (d : Due). d.slot.name) f.3)
        ∙ (ap (λ (a : Slot). a.name) o.slot ∙ ap (λ (a : Slot). a.name) is) in
        let same : f.0 ≡ b = named_once world good f.0 b f.1 u f.2 wants name_is in
        let due : IsTrue (is_opened w s o.of.member) =
        and_r (core.is_collected w o.of.slot.target) (is_opened w s o.of.member) (and_l _ _ o.met) in
        subst (λ m. IsTrue (is_opened w s m)) (ap (λ (d : Due). d.member) f.3 ∙ ap member_of same) due

    pub member_swept : (t : Standing) → Contains s.slots t → (x i u : ℕ)
        → asks world (back.Field i x) ≡ Some u → t.slot ≡ slot_at world (back.Field i x) Keep u
        → (is_collected world x ≡ false) ⊎ IsSwept (hands (owner world.sweepers x)) x
    member_swept t c x i u wants is =
        elim (or_cases (has w.older x) (is_swept s x) (opened t c (back.Field i x) u wants is)) [
          | inl old ↦ inl (older_stays world x (sym (setting.older x) ∙ old))
          | inr swept ↦ inr (owner_swept x swept)
        ]

    pub member_placed : (t : Standing) → Contains s.slots t → (x i u : ℕ)
        → asks world (back.Field i x) ≡ Some u → t.slot ≡ slot_at world (back.Field i x) Keep u
        → (p : ℕ) × IsAt world (hands (owner world.sweepers x)).own x p
    member_placed t c x i u wants is = elim (member_swept t c x i u wants is) [
      | inl stays ↦ (x, inl (stays, refl))
      | inr swept ↦ (swept.0.0, inr swept.0.1)
    ]
