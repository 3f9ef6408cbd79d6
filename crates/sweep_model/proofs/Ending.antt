-- At the end exactly what the rules reach was forwarded, and each slot of it has the place of its object.
use Rattle.std.proofs.Common.{◌≡◌, ℕ, ◌<◌, ◌&&◌, not, true, false, cond, Contains, IsTrue, refl, sym, ◌∙◌, ap, subst, inl, inr, Some}
use Rattle.std.proofs.lemmas.Bool.{and_from, both_ways, eq-eqb, or_left, or_right}
use Rattle.gc_words.specs.declared.value.Value.TheVariants as value
use Rattle.gc_mail.specs.declared.message.Slot.{Slot as Back}
use Rattle.gc_mail.specs.declared.message.Slot.TheVariants as back
use Rattle.gc_mail.specs.Recipients.{holder_of, owner}
use Rattle.trace_types.specs.Rules.{has, least}
use Rattle.owned_core.specs.declared.slot.Slot.{Slot}
use Rattle.owned_core.specs.declared.slot.Stage.TheVariants.{Fixed}
use Rattle.owned_core.specs.declared.slot.Standing.{Standing}
use Rattle.owned_core.specs.declared.slot.Want.TheVariants.{Keep}
use Rattle.owned_core.specs.Owned.{State, in_list, is_due, is_listed, is_opened, is_swept}
use Rattle.owned_core.specs.Parts.{is_with_holder, lies_at}
use Rattle.owned_core.specs.Settings.{Setting, rules_of}
use Rattle.owned_core.specs.Settings as core
use Rattle.owned_core.specs.Slots.{is_at, same_slot}
use Rattle.owned_core.proofs.Adding.{vouched_cases}
use Rattle.owned_core.proofs.Lists.{any_some}
use Rattle.owned_core.proofs.Parts.{lies_with_holder}
use Rattle.owned_core.proofs.Resting.{idle_exact}
use Rattle.owned_core.proofs.SameSlots.{and_r, slot_is}
use Rattle.sweep_model.specs.World.{World, IsWorld, asks, is_collected}
use Rattle.sweep_model.specs.Settings.{IsSettingOf, due_of, member_of, name_of, slot_at}
use Rattle.sweep_model.specs.Hands.{FixedAt, Hand, IsAt, field_of}
use Rattle.sweep_model.specs.Holding.{IsFixedThere}
use Rattle.sweep_model.specs.Wholes.{AreDone, IsQuiet, QuietIsDone, Stand}
use Rattle.sweep_model.proofs.Ages.{staying_older}
use Rattle.sweep_model.proofs.Apt.{core_collects, has_watches, in_range, is_confirmed, owner_in}
use Rattle.sweep_model.proofs.Idling.{all_fixed, is_idle}
use Rattle.sweep_model.proofs.Members.{owner_has, pair_down, pair_up}
use Rattle.sweep_model.proofs.Memory.{one_place}
use Rattle.sweep_model.proofs.Names.{asks_collected, field_in, named_once}

module _ (world : World) (w : Setting) (hands : ℕ → Hand) (s : State)
    (good : IsWorld world) (setting : IsSettingOf world w) (stand : Stand world w hands s)
    (quiet : (k : ℕ) → k < world.sweepers → IsQuiet (hands k)) where
  -- ---- objects

  -- exactly the collected objects that the rules reach are in the lists
  exact : (x : ℕ) → in_list s x ≡ (core.is_collected w x && has (least (rules_of w)) x)
  exact = idle_exact w s stand.invariant (has_watches world w setting) (is_confirmed world w setting s)
      (is_idle world w hands s good setting stand quiet)

  kept : (x : ℕ) → is_collected world x ≡ true → IsTrue (has (least (rules_of w)) x)
      → (p : ℕ) × Contains (hands (owner world.sweepers x)).own (x, p)
  kept x collected reached = owner_has world w hands s setting stand good x
      (exact x ∙ and_from (core.is_collected w x) (has (least (rules_of w)) x)
      (core_collects world w setting x collected) reached)

  alone : (k x p : ℕ) → k < world.sweepers → Contains (hands k).own (x, p)
      → (is_collected world x ≡ true) × IsTrue (has (least (rules_of w)) x)
  alone k x p b c = (
    ((stand.ready k b).tied.mine x p c).1,
    and_r (core.is_collected w x) (has (least (rules_of w)) x)
        (sym (exact x) ∙ pair_up world w hands s setting stand k b x p c),
  )

  -- ---- slots

  -- the place of a fixed slot is the one in the list of its target's owner
  found : (t : Standing) → Contains s.slots t → (q : ℕ) → t.stage ≡ Fixed q
      → Contains (hands (owner world.sweepers t.slot.target)).own (t.slot.target, q)
  found t c q fixed =
      let x : ℕ = t.slot.target in
      let there : IsTrue (is_at t.stage q) = subst (λ g. IsTrue (is_at g q)) (sym fixed) (eq-eqb q q refl) in
      let listed : IsTrue (is_listed s (w.owner x) x q) =
      elim (vouched_cases w s t.slot q (stand.invariant.placed t c q there)) [
        | inl l ↦ l
        | inr seen ↦ absurd (both_ways (w.believed x q) (setting.believed x q) seen.1)
      ] in
      let inside : owner world.sweepers x < world.sweepers = owner_in world.sweepers x good.some in
      pair_down world w hands s setting stand (owner world.sweepers x) inside x q
      (subst (λ k. IsTrue (is_listed s k x q)) (setting.owner x) listed)

  -- the place is where the slot wants it, and in the list of its target's owner
  abbrev IsMet : Back → ℕ → Type 0
  IsMet b t =
      (q : ℕ) × Contains (hands (owner world.sweepers t)).own (t, q)
      × FixedAt world (hands (holder_of world.sweepers b)) b q

  -- a slot that stands lies at some sweeper, where it is fixed
  fixed_at : (u : Standing) → Contains s.slots u → IsFixedThere world (hands (lies_at w u)) u
  fixed_at u c = all_fixed world w hands s good setting stand quiet (lies_at w u) inside u
      ((stand.are_parts (lies_at w u) inside).whole u c refl)
    where
      inside : lies_at w u < world.sweepers
      inside =
          let at_owner : w.owner u.slot.target < world.sweepers =
          (in_range world w setting good.some).owners u.slot.target in
          elim (is_with_holder u.stage) as (λ z. cond z u.slot.holder (w.owner u.slot.target) < world.sweepers) [
            | true ↦ stand.held u c
            | false ↦ at_owner
          ]

  -- a slot that stands is met
  there_met : (b : Back) (t : ℕ) → asks world b ≡ Some t → (u : Standing) → Contains s.slots u
      → u.slot ≡ slot_at world b Keep t → IsMet b t
  there_met b t wants u c is =
      let f = fixed_at u c in
      let target_is : u.slot.target ≡ t = ap (λ (a : Slot). a.target) is in
      let name_is : name_of f.where_to ≡ name_of b =
      sym (ap (λ (a : Slot). a.name) f.slot) ∙ ap (λ (a : Slot). a.name) is in
      let same : f.where_to ≡ b = named_once world good f.where_to b u.slot.target t f.wants wants name_is in
      let lies : lies_at w u ≡ holder_of world.sweepers b =
      lies_with_holder w u (ap is_with_holder f.stage) ∙ ap (λ (a : Slot). a.holder) is in (
        f.place,
        subst (λ z. Contains (hands (owner world.sweepers z)).own (z, f.place)) target_is
            (found u c f.place f.stage),
        subst (λ z. FixedAt world (hands (holder_of world.sweepers b)) z f.place) same
            (subst (λ k. FixedAt world (hands k) f.where_to f.place) lies f.there),
      )

  -- a slot whose object is older or swept, or that has none, is met
  open_met : (b : Back) (t : ℕ) → asks world b ≡ Some t → IsTrue (is_opened w s (member_of b)) → IsMet b t
  open_met b t wants opened =
      let due : IsTrue (is_due w s (due_of world b t)) =
      and_from (core.is_collected w t && is_opened w s (member_of b)) true
      (and_from (core.is_collected w t) (is_opened w s (member_of b))
      (core_collects world w setting t (asks_collected world b t wants)) opened) refl in
      let u = any_some (λ (z : Standing). same_slot z.slot (slot_at world b Keep t)) s.slots
      (stand.invariant.due (due_of world b t) (setting.to b t wants) due) in
      there_met b t wants u.0 u.1 (slot_is u.0.slot (slot_at world b Keep t) u.2)

  -- ---- what is kept is older or swept

  place_open : (x p i t : ℕ) → IsAt world (hands (owner world.sweepers x)).own x p
      → asks world (back.Field i x) ≡ Some t → IsTrue (is_opened w s (Some x))
  place_open x p i t (inl stays) wants =
      let f = field_in world x i t wants in
      or_left (has w.older x) (is_swept s x) (setting.older x ∙ staying_older world x f.start f.is stays.0)
  place_open x p i t (inr pair) wants =
      let none : IsTrue (not (has s.unswept x)) =
      ap (λ l. not (has l x)) (is_idle world w hands s good setting stand quiet).all_swept in
      let inside : owner world.sweepers x < world.sweepers = owner_in world.sweepers x good.some in
      or_right (has w.older x) (is_swept s x) (and_from (in_list s x) (not (has s.unswept x))
      (pair_up world w hands s setting stand (owner world.sweepers x) inside x p pair) none)

  are_done : AreDone world w hands s
  are_done = record {
    idle = is_idle world w hands s good setting stand quiet;
    kept = kept;
    alone = alone;
    fields = λ x p i t place wants.
        let h : Hand = hands (owner world.sweepers x) in
        let met = open_met (back.Field i x) t wants (place_open x p i t place wants) in
        let tied = (stand.ready (owner world.sweepers x) (owner_in world.sweepers x good.some)).tied in
        let same : met.2.0 ≡ p = one_place world h tied x met.2.0 p met.2.1 place in
        (met.0, met.1, subst (λ z. field_of (h.now z) i ≡ Some (value.Object met.0)) same met.2.2);
    registers = λ r t wants. open_met (back.Register r) t wants refl;
  }

pub quiet_is_done : QuietIsDone
quiet_is_done = are_done
