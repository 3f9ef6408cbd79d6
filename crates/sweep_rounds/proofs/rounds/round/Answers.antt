use Rattle.std.proofs.Common.{◌≡◌, ◌+◌, ◌-◌, ◌^◌, false, true, [], min, Result, Ok, Err, OnErr, OnOk, sym, ◌∙◌}
use Rattle.std.proofs.lemmas.Bool.{false≢true}
use Rattle.sweeper.specs.Sweepers.{SweeperView}
use Rattle.sweeper.specs.Ready.{RunsRound}
use Rattle.sweep_rounds.specs.Turns.{Rounded}
use Rattle.sweep_rounds.proofs.rounds.round.Goals as goal

-- a round of which nothing was refused
rounded : {T E : Type 0} (r : Result T E) (v v' : SweeperView) → OnOk r (RunsRound v v') → OnOk r (v'.inbox ≡ [])
    → OnOk r (v'.places.unswept ≡ []) → OnOk r (v'.round ≡ min (v.round + 1) (2 ^ 64 - 1))
    → OnErr r (v'.ran_out ≡ true) → v'.ran_out ≡ false → Rounded v v'
rounded (Ok x) v v' runs inbox swept round refused ran =
    record { runs = runs; inbox = inbox; swept = swept; round = round }
rounded (Err e) v v' runs inbox swept round refused ran = absurd (false≢true (sym ran ∙ refused))

pub returns : goal.returns
returns g c = rounded c.round.result c.args.sweeper.now c.round.new.self c.round.ensures.runs c.round.ensures.inbox
    c.round.ensures.swept c.round.ensures.round c.round.ensures.refused
