-- A place that a message tells stands in the list of the object's owner.
use Rattle.std.proofs.Common.{◌≡◌, ℕ, ◌<◌, map, [], Contains, IsTrue, Option, refl, ap, subst, inl, inr, Some}
use Rattle.std.proofs.lemmas.Bool.{both_ways, eq-eqb}
use Rattle.std.proofs.lemmas.List.Elements.{Contains-append_left}
use Rattle.gc_mail.specs.declared.message.Message.TheVariants as message
use Rattle.gc_mail.specs.declared.message.Slot.{Slot}
use Rattle.gc_mail.specs.Recipients.{owner}
use Rattle.owned_core.specs.declared.slot.Standing.{Standing}
use Rattle.owned_core.specs.Owned.{State, is_listed}
use Rattle.owned_core.specs.Settings.{Setting}
use Rattle.owned_core.proofs.Adding.{vouched_cases}
use Rattle.owned_core.proofs.Lists.{some_map}
use Rattle.sweep_model.specs.World.{World, asks}
use Rattle.sweep_model.specs.Holding.{in_standing, or_zero, out_standing}
use Rattle.sweep_model.proofs.Apt.{owner_in}
use Rattle.sweep_model.proofs.Members.{pair_down}
use Rattle.sweeper.specs.Sweepers.{SweeperView}
use Rattle.sweeper.specs.Ready.{Agrees}
use Rattle.sweep_rounds.specs.Turns.{StandTogether, hands_of}

module _ (world : World) (w : Setting) (f : ℕ → SweeperView) (s : State) (t : StandTogether world w f s) where
  -- the slot of a message that came stands in the state
  stands : (k : ℕ) → k < world.sweepers → (a : Slot) (q : ℕ) → Contains (f k).inbox (message.Moved a q)
      → Contains s.slots (in_standing world (message.Moved a q))
  stands k b a q c =
      let u : Standing = in_standing world (message.Moved a q) in
      let came : Contains (map (in_standing world) (f k).inbox) u =
      some_map (in_standing world) (f k).inbox (message.Moved a q) c in
      let mail = Contains-append_left (map (in_standing world) (f k).inbox) (map (out_standing world) (f k).outbox) u
      came in
      ((t.stand.are_parts k b).here u ((t.stand.holds k b).mail u mail)).0

  -- so the place is the object's in the list of its owner
  pub told_place : (k : ℕ) → k < world.sweepers → (a : Slot) (q x : ℕ) → Contains (f k).inbox (message.Moved a q)
      → asks world a ≡ Some x → Contains (f (owner world.sweepers x)).places.own (x, q)
  told_place k b a q x c wants =
      let u : Standing = in_standing world (message.Moved a q) in
      let target_is : u.slot.target ≡ x = ap or_zero wants in
      let listed : IsTrue (is_listed s (w.owner u.slot.target) u.slot.target q) =
      elim (vouched_cases w s u.slot q (t.stand.invariant.placed u (stands k b a q c) q (eq-eqb q q refl))) [
        | inl l ↦ l
        | inr seen ↦ absurd (both_ways (w.believed u.slot.target q) (t.setting.believed u.slot.target q) seen.1)
      ] in
      let at_owner : IsTrue (is_listed s (owner world.sweepers x) x q) =
      subst (λ m. IsTrue (is_listed s m x q)) (t.setting.owner x)
      (subst (λ z. IsTrue (is_listed s (w.owner z) z q)) target_is listed) in
      pair_down world w (hands_of f) s t.setting t.stand (owner world.sweepers x)
      (owner_in world.sweepers x t.is_world.some) x q at_owner

  -- What agrees with the places of all sweepers, as they are after, agrees with what was told before.
  pub agrees_told : (g : ℕ → SweeperView)
      → ((k x q : ℕ) → k < world.sweepers → Contains (f k).places.own (x, q) → Contains (g k).places.own (x, q))
      → (generation_at : ℕ → Option ℕ)
      → ((k : ℕ) → k < world.sweepers → Agrees world (g k).places.own [] generation_at)
      → (k : ℕ) → k < world.sweepers → Agrees world (g k).places.own (f k).inbox generation_at
  agrees_told g own generation_at agrees k b = record {
    older = (agrees k b).older;
    gone = (agrees k b).gone;
    kept = (agrees k b).kept;
    moved = λ a q x start c wants was.
        let j : ℕ = owner world.sweepers x in
        let inside : j < world.sweepers = owner_in world.sweepers x t.is_world.some in
        (agrees j inside).kept x q start (own j x q inside (told_place k b a q x c wants)) was;
  }
