-- Where no mail is left and all is swept, the state is idle.
use Rattle.std.proofs.Common.{◌≡◌, ℕ, ◌<◌, [], map, Contains, IsTrue, refl, sym, ◌∙◌, ap, subst, inl, inr}
use Rattle.owned_core.specs.declared.slot.Standing.{Standing}
use Rattle.owned_core.specs.Invariants.{IsIdle, rests}
use Rattle.owned_core.specs.Owned.{State}
use Rattle.owned_core.specs.Parts.{alone}
use Rattle.owned_core.specs.Rounds.{IsDone}
use Rattle.owned_core.specs.Settings.{Setting}
use Rattle.owned_core.proofs.Lists.{contains_none}
use Rattle.owned_core.proofs.Rounds.{done_is_idle}
use Rattle.sweep_model.specs.World.{World, IsWorld}
use Rattle.sweep_model.specs.Settings.{IsSettingOf}
use Rattle.sweep_model.specs.Hands.{Hand, object_of}
use Rattle.sweep_model.specs.Holding.{IsFixedThere, mail_of, out_standing}
use Rattle.sweep_model.specs.Wholes.{IsQuiet, Stand}
use Rattle.sweep_model.proofs.Apt.{in_range}

-- no mail is left
no_mail : (world : World) (h : Hand) → IsQuiet h → mail_of world h [] ≡ []
no_mail world h quiet =
    ap (λ l. mail_of world (record h { inbox = l }) []) quiet.inbox
    ∙ ap (λ l. map (out_standing world) l) quiet.outbox

module _ (world : World) (w : Setting) (hands : ℕ → Hand) (s : State)
    (good : IsWorld world) (setting : IsSettingOf world w) (stand : Stand world w hands s)
    (quiet : (k : ℕ) → k < world.sweepers → IsQuiet (hands k)) where
  -- what lies at a sweeper is fixed
  pub all_fixed : (k : ℕ) → k < world.sweepers → (t : Standing) → Contains (stand.parts k).here t
      → IsFixedThere world (hands k) t
  all_fixed k b t c = elim ((stand.holds k b).here t c) [
    | inl m ↦ absurd (contains_none t (subst (λ l. Contains l t) (no_mail world (hands k) (quiet k b)) m))
    | inr f ↦ f
  ]

  -- nothing is left to do in its part
  done : (k : ℕ) → k < world.sweepers → IsDone (stand.parts k)
  done k b = record {
    all_swept = (stand.holds k b).unswept
        ∙ ap (map object_of) (quiet k b).swept;
    all_rest = λ t c.
        subst (λ g. IsTrue (rests (alone (stand.parts k)) t.slot g)) (sym (all_fixed k b t c).stage) refl;
  }

  pub is_idle : IsIdle s
  is_idle = done_is_idle w world.sweepers (in_range world w setting good.some) s stand.parts stand.invariant
      stand.held stand.are_parts done
