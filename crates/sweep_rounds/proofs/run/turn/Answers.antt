use Rattle.std.proofs.Common.{◌≡◌, ℕ, ◌<◌, length, sym, ◌∙◌, ap, subst}
use Rattle.sweeper.specs.Sweepers.{SweeperView}
use Rattle.sweep_rounds.specs.Turns.{sweeper_at}
use Rattle.sweep_rounds.specs.Mails.{AreMailed}
use Rattle.sweep_rounds.proofs.Leading.{whole_directory, whole_ready}
use Rattle.sweep_rounds.proofs.Turning.{counts_turn, ends_turn, leads_turn, lowers_turn}
use Rattle.sweep_rounds.proofs.run.turn.Goals as goal

-- of as many sweepers
mailed_of : (m n : ℕ) (f g : ℕ → SweeperView) → m ≡ n → AreMailed m f g → AreMailed n f g
mailed_of m n f g e mailed = subst (λ k. AreMailed k f g) e mailed

pub round_all-requires-clause-same : goal.round_all-requires-clause-same
round_all-requires-clause-same g c κs within = λ k d h.
    whole_directory (length c.args.sweepers.now) c.args.directory.now (sweeper_at c.args.sweepers.now d)
    (c.requires.whole d) k h

pub round_all-requires-clause-ready : goal.round_all-requires-clause-ready
round_all-requires-clause-ready g c κs within = λ k d h.
    whole_ready (length c.args.sweepers.now) c.args.directory.now (sweeper_at c.args.sweepers.now d)
    (c.requires.whole d) k h

pub returns-clause-leads : goal.returns-clause-leads
returns-clause-leads g c = λ d.
    leads_turn (length c.args.sweepers.now) (sweeper_at c.args.sweepers.now d) (sweeper_at c.round_all.new.sweepers d)
    (sweeper_at c.deliver.new.sweepers d) (c.in_ok-round_all.ensures.rounds d)
    (mailed_of (length c.round_all.new.sweepers) (length c.args.sweepers.now) (sweeper_at c.round_all.new.sweepers d)
    (sweeper_at c.deliver.new.sweepers d) c.round_all.auto.sweepers (c.in_ok-count.ensures.mailed d))

pub returns-clause-ends : goal.returns-clause-ends
returns-clause-ends g c = λ none d.
    ends_turn (length c.args.sweepers.now) (sweeper_at c.args.sweepers.now d) (sweeper_at c.round_all.new.sweepers d)
    (sweeper_at c.deliver.new.sweepers d) (c.in_ok-round_all.ensures.rounds d)
    (mailed_of (length c.round_all.new.sweepers) (length c.args.sweepers.now) (sweeper_at c.round_all.new.sweepers d)
    (sweeper_at c.deliver.new.sweepers d) c.round_all.auto.sweepers (c.in_ok-count.ensures.mailed d))
    (λ k b. c.in_ok-count.ensures.none none k d (subst (λ n. k < n) (sym c.round_all.auto.sweepers) b))

pub returns-clause-lowers : goal.returns-clause-lowers
returns-clause-lowers g c = λ some d.
    let r = c.in_ok-count.ensures.some some in
    lowers_turn (length c.args.sweepers.now) (sweeper_at c.args.sweepers.now d) (sweeper_at c.round_all.new.sweepers d)
    (sweeper_at c.deliver.new.sweepers d) (c.in_ok-round_all.ensures.rounds d)
    (mailed_of (length c.round_all.new.sweepers) (length c.args.sweepers.now) (sweeper_at c.round_all.new.sweepers d)
    (sweeper_at c.deliver.new.sweepers d) c.round_all.auto.sweepers (c.in_ok-count.ensures.mailed d))
    r.0 (subst (λ n. r.0 < n) c.round_all.auto.sweepers r.1) (r.2 d)

pub returns-clause-rounds : goal.returns-clause-rounds
returns-clause-rounds g c = λ d.
    counts_turn (length c.args.sweepers.now) (sweeper_at c.args.sweepers.now d) (sweeper_at c.round_all.new.sweepers d)
    (sweeper_at c.deliver.new.sweepers d) (c.in_ok-round_all.ensures.rounds d)
    (mailed_of (length c.round_all.new.sweepers) (length c.args.sweepers.now) (sweeper_at c.round_all.new.sweepers d)
    (sweeper_at c.deliver.new.sweepers d) c.round_all.auto.sweepers (c.in_ok-count.ensures.mailed d))

pub returns-clause-enough : goal.returns-clause-enough
returns-clause-enough g c = λ k d b.
    let mailed = mailed_of (length c.round_all.new.sweepers) (length c.args.sweepers.now)
    (sweeper_at c.round_all.new.sweepers d) (sweeper_at c.deliver.new.sweepers d) c.round_all.auto.sweepers
    (c.in_ok-count.ensures.mailed d) in
    ap (λ (v : SweeperView). v.ran_out) (mailed.same k b) ∙ c.in_ok-round_all.ensures.enough k d b
