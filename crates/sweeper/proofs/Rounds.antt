-- A round is a run, after which another round comes next.
use Rattle.std.proofs.Common.{◌≡◌, ℕ, sym, ap, subst, ◌∙◌}
use Rattle.sweep_model.specs.World.{World}
use Rattle.sweeper.specs.Sweepers.{SweeperView}
use Rattle.sweeper.specs.Ready.{IsReadyIn, Ready, Runs, RunsRound}

-- what ran to `mid`, where the fields show the value, and then counted a round
pub round_runs : (s v mid : SweeperView) → s ≡ mid → Ready v → Runs v mid → RunsRound v s
round_runs s v mid same ready runs =
    let before : s.round ≡ v.round =
    ap (λ (z : SweeperView). z.round) same ∙ (runs ready.0 ready.1 ready.2 ready.3).follows.steady.round in
    subst (Runs v) (sym same ∙ ap (λ n. record s { round = n }) before) runs

-- a sweeper that is ready before one round is ready before any other
pub ready_any_round : (world : World) (v : SweeperView) (n : ℕ) → IsReadyIn world (record v { round = n })
    → IsReadyIn world v
ready_any_round world v n ready = record {
  is_world = ready.is_world;
  joined = record {
    places = ready.joined.places;
    registers = ready.joined.registers;
    count = ready.joined.count;
    register_count = ready.joined.register_count;
  };
  fits = record {
    sweepers = ready.fits.sweepers;
    targets = ready.fits.targets;
    can_start = ready.fits.can_start;
    generations = ready.fits.generations;
    older = ready.fits.older;
    registers = ready.fits.registers;
  };
  ready = ready.ready;
  apart = record { starts = ready.apart.starts; copies = ready.apart.copies };
}
