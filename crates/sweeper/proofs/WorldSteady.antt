-- Steady steps one after the other, and where objects go.
use Rattle.std.proofs.Common.{◌≡◌, ℕ, ◌+◌, ◌≤◌, min, max, cond, refl, sym, ap, subst, ◌∙◌, arith}
use Rattle.std.proofs.lemmas.Bool.{le-leb}
use Rattle.territory.specs.declared.territory.Targets.{Targets}
use Rattle.territory.specs.Finishing.{target_of}
use Rattle.directory.specs.Directories.{sweeper_count}
use Rattle.sweep_model.specs.World.{goes_to}
use Rattle.sweep_share.specs.Shares.{IsAlike, ShareView}
use Rattle.sweep_share.specs.Registers.{RegistersView}
use Rattle.sweeper.specs.Sweepers.{IsJoined, IsSteady, SweeperView}

-- ---- steady steps

alike_itself : (s : ShareView) → IsAlike s s
alike_itself s = record {
  number = refl;
  sweepers = refl;
  count = refl;
  threads = λ i. refl;
  targets = λ i. refl;
  aside = λ a. refl;
}

alike_more : (a b c : ShareView) → IsAlike a b → IsAlike b c → IsAlike a c
alike_more a b c h g = record {
  number = g.number ∙ h.number;
  sweepers = g.sweepers ∙ h.sweepers;
  count = g.count ∙ h.count;
  threads = λ i. g.threads i ∙ h.threads i;
  targets = λ i. g.targets i ∙ h.targets i;
  aside = λ x. g.aside x ∙ h.aside x;
}

-- nothing done is a steady step
pub steady_itself : (v : SweeperView) → IsSteady v v
steady_itself v = record {
  alike = alike_itself v.share;
  number = refl;
  directory = refl;
  registers = refl;
  register_count = refl;
  round = refl;
  ran_out = refl;
}

-- what has the same share and registers, and places of the same sweeper and directory
pub steady_same : (a b : SweeperView) → b.share ≡ a.share → b.places.number ≡ a.places.number
    → b.places.directory ≡ a.places.directory → b.registers ≡ a.registers
    → b.round ≡ a.round → b.ran_out ≡ a.ran_out → IsSteady a b
steady_same a b share number directory registers round ran_out = record {
  alike = subst (IsAlike a.share) (sym share) (alike_itself a.share);
  number = number;
  directory = directory;
  registers = ap (λ (r : RegistersView). r.number) registers;
  register_count = ap (λ (r : RegistersView). r.sweepers) registers;
  round = round;
  ran_out = ran_out;
}

-- and so is one after the other
pub steady_more : (a b c : SweeperView) → IsSteady a b → IsSteady b c → IsSteady a c
steady_more a b c h g = record {
  alike = alike_more a.share b.share c.share h.alike g.alike;
  number = g.number ∙ h.number;
  directory = g.directory ∙ h.directory;
  registers = g.registers ∙ h.registers;
  register_count = g.register_count ∙ h.register_count;
  round = g.round ∙ h.round;
  ran_out = g.ran_out ∙ h.ran_out;
}

-- the parts stay of one sweeper of one collection
pub joined_on : (a b : SweeperView) → IsJoined a → IsSteady a b → IsJoined b
joined_on a b joined steady = record {
  places = steady.number ∙ joined.places ∙ sym steady.alike.number;
  registers = steady.registers ∙ joined.registers ∙ sym steady.alike.number;
  count = ap sweeper_count steady.directory ∙ joined.count ∙ sym steady.alike.sweepers;
  register_count = steady.register_count ∙ joined.register_count ∙ sym steady.alike.sweepers;
}

-- ---- where objects go

-- what is collected goes where the directory says
pub target_goes : (targets : Targets) (g : ℕ) → g ≤ targets.cg → target_of targets g ≡ goes_to targets g
target_goes targets g young =
    sym (ap (λ b. cond b (min (max (g + 1) targets.min) targets.max) g) (le-leb g targets.cg young))

-- and to no lower generation than where one of generation 0 goes
pub least_target : (targets : Targets) (g : ℕ) → g ≤ targets.cg → target_of targets 0 ≤ goes_to targets g
least_target targets g young =
    let e : target_of targets g ≡ goes_to targets g = target_goes targets g young in
    let least : target_of targets 0 ≤ target_of targets g = omega arith in
    omega (arith, e, least)

-- and to none above the greatest
pub goes_within : (targets : Targets) (g : ℕ) → g ≤ targets.cg → goes_to targets g ≤ targets.max
goes_within targets g young =
    let e : target_of targets g ≡ goes_to targets g = target_goes targets g young in
    let most : target_of targets g ≤ targets.max = omega arith in
    omega (arith, e, most)
