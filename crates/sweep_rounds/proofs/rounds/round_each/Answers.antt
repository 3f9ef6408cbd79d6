use Rattle.std.proofs.Common.{rules, ◌≡◌, false, sym, ap, subst, ◌∙◌}
use Rattle.sweeper.specs.Sweepers.{SweeperView}
use Rattle.sweeper.specs.Ready.{Ready}
use Rattle.sweep_rounds.specs.Turns.{Rounded, sweeper_at}
use denote.Param.Send.{sendable}
use Rattle.std.proofs.Crossing.{crosses}
use Rattle.sweep_rounds.proofs.Sent.{sweeper_send}
use Rattle.sweep_rounds.proofs.rounds.round_each.Goals as goal

abbrev Ran : SweeperView → SweeperView → Type 0
Ran v v' = v'.ran_out ≡ false → Rounded v v'

ran : (v v' x y : SweeperView) → v ≡ x → v' ≡ y → Ran v v' → Ran x y
ran v v' x y e f h = subst (λ (p : SweeperView × SweeperView). Ran p.0 p.1) (λ i. (e i, f i)) h

pub for_each_mut-requires-clause-accepts : goal.for_each_mut-requires-clause-accepts
for_each_mut-requires-clause-accepts g c κs within i p h e = (
  ap (λ (v : SweeperView). v.places.directory) e ∙ c.requires.same i p.now h,
  (subst Ready (sym e) (c.requires.ready i p.now h), search rules),
)

pub returns : goal.returns
returns g c k d h = let r = (c.for_each_mut.ensures k d h).1 in
    ran r.argument.now r.after_call.now (sweeper_at c.args.sweepers.now d k) (sweeper_at c.for_each_mut.new.s d k) r.argument_is r.left r.call

-- a sweeper may go to another thread
pub for_each_mut-requires-send-T : goal.for_each_mut-requires-send-T
for_each_mut-requires-send-T g c κs within = search (sendable, crosses, sweeper_send)
