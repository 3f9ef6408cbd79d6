use Rattle.std.proofs.Common.{rules, List, ◌≡◌, ℕ, ◌+◌, ◌-◌, ◌*◌, ◌<◌, ◌≤◌, false, length, sym, subst, arith, []}
use Rattle.directory.specs.Directories.{DirectoryView}
use Rattle.owned_core.specs.declared.slot.Slot.{Slot}
use Rattle.sweeper.specs.Sweepers.{SweeperView}
use Rattle.sweep_rounds.specs.Turns.{CountRounds, Ends, Leads, Lowers, Whole, sweeper_at}
use Rattle.sweep_rounds.proofs.Leading.{leads_end, leads_more, leads_none}
use Rattle.sweep_rounds.proofs.Slots.{left_first, names_of}
use Rattle.sweep_rounds.proofs.Turning.{CountsOn, IsLeft, counts_first, counts_more, counts_on, left_on}
use Rattle.sweep_rounds.proofs.run.run_turns.Goals as goal

-- of as many sweepers
whole_of : (m n : ℕ) (dir : DirectoryView) (f : ℕ → SweeperView) → m ≡ n → Whole m dir f → Whole n dir f
whole_of m n dir f e h = subst (λ k. Whole k dir f) e h

leads_of : (m n : ℕ) (f g : ℕ → SweeperView) → m ≡ n → Leads m f g → Leads n f g
leads_of m n f g e h = subst (λ k. Leads k f g) e h

lowers_of : (m n : ℕ) (f g : ℕ → SweeperView) → m ≡ n → Lowers m f g → Lowers n f g
lowers_of m n f g e h = subst (λ k. Lowers k f g) e h

ends_of : (m n : ℕ) (f g : ℕ → SweeperView) → m ≡ n → Ends m f g → Ends n f g
ends_of m n f g e h = subst (λ k. Ends k f g) e h

counts_of : (m n : ℕ) (f g : ℕ → SweeperView) → m ≡ n → CountRounds m f g 1 → CountRounds n f g 1
counts_of m n f g e h = subst (λ k. CountRounds k f g 1) e h

-- some sweeper, for what is said of sweepers that are not there
none_there : DirectoryView → SweeperView
none_there d = record {
  share = record { number = 0; sweepers = 0; territories = [] };
  registers = record { number = 0; sweepers = 0; items = [] };
  places = record { number = 0; directory = d; own = []; unswept = [] };
  inbox = [];
  outbox = [];
  round = 0;
  ran_out = false;
}

-- what is left before a turn that leaves less
turn_left : (n : ℕ) (dir : DirectoryView) (names : List Slot) (turns : ℕ) (f : ℕ → SweeperView)
    → IsLeft n dir names turns f → turns ≤ 7 * length names
turn_left n dir names turns f left = omega (arith, left.left)

pub loop-count-init : goal.loop-count-init
loop-count-init g c = record {
  left = λ d. left_first c.args.sweepers.now d c.args.directory.now (c.requires.whole d);
  leads = λ d. leads_none (length c.args.sweepers.now) (sweeper_at c.args.sweepers.now d);
  counts = λ d. counts_first (length c.args.sweepers.now) (sweeper_at c.args.sweepers.now d);
  mail = omega arith;
  few = omega arith;
}

pub turn-requires-clause-whole : goal.turn-requires-clause-whole
turn-requires-clause-whole g c κs within = λ d.
    whole_of (length c.args.sweepers.now) (length c.loop-count.sweepers) c.args.directory.now
    (sweeper_at c.loop-count.sweepers d) (sym c.loop-count.auto.sweepers) (c.loop-count.invariant.left d).whole

pub returns-then-count-eq0-clause-ends : goal.returns-then-count-eq0-clause-ends
returns-then-count-eq0-clause-ends g c = λ d.
    leads_end (length c.args.sweepers.now) (sweeper_at c.args.sweepers.now d) (sweeper_at c.loop-count.sweepers d)
    (sweeper_at c.turn.new.sweepers d) (c.loop-count.invariant.leads d)
    (ends_of (length c.loop-count.sweepers) (length c.args.sweepers.now) (sweeper_at c.loop-count.sweepers d)
    (sweeper_at c.turn.new.sweepers d) c.loop-count.auto.sweepers (c.in_ok-count.ensures.ends c.if-count-eq0.true d))

pub loop-count-preserved : goal.loop-count-preserved
loop-count-preserved g c =
    let n : ℕ = length c.args.sweepers.now in
    let m : ℕ = length c.loop-count.sweepers in
    let e : m ≡ n = c.loop-count.auto.sweepers in
    let some : 0 < c.in_ok-count.count = omega (arith, c.if-count-eq0.false) in
    let up : c.in_ok-done.field-0 ≡ c.loop-count.done.rounds + 1 = search rules in
    let more : c.in_ok-done-2.field-0 ≡ c.loop-count.done.messages + c.in_ok-count.count = search rules in
    let mailed : c.turn.new.mail ≡ c.loop-count.mail + c.in_ok-count.count + 1 = c.in_ok-count.ensures.mail in
    let before = c.loop-count.invariant in
    record {
      left = λ d.
          let f : ℕ → SweeperView = sweeper_at c.loop-count.sweepers d in
          let h : ℕ → SweeperView = sweeper_at c.turn.new.sweepers d in
          subst (λ r. IsLeft n c.args.directory.now (names_of c.args.sweepers.now) r h) (sym up)
          (left_on n c.args.directory.now (names_of c.args.sweepers.now) c.loop-count.done.rounds f h (before.left d)
          (lowers_of m n f h e (c.in_ok-count.ensures.lowers some d)));
      leads = λ d.
          let f : ℕ → SweeperView = sweeper_at c.loop-count.sweepers d in
          let h : ℕ → SweeperView = sweeper_at c.turn.new.sweepers d in
          leads_more n (sweeper_at c.args.sweepers.now d) f h (before.leads d)
          (leads_of m n f h e (c.in_ok-count.ensures.leads d));
      counts = λ d.
          let start : ℕ → SweeperView = sweeper_at c.args.sweepers.now d in
          let f : ℕ → SweeperView = sweeper_at c.loop-count.sweepers d in
          let h : ℕ → SweeperView = sweeper_at c.turn.new.sweepers d in
          subst (CountsOn n start h) (sym up)
          (counts_on n start h c.loop-count.done.rounds
          (counts_more n start f h c.loop-count.done.rounds (before.counts d)
          (counts_of m n f h e (c.in_ok-count.ensures.rounds d))));
      mail = omega (arith, up, more, mailed, before.mail);
      few = omega (arith, up, more, some, before.few);
    }

pub loop-count-smaller : goal.loop-count-smaller
loop-count-smaller g c =
    let up : c.in_ok-done.field-0 ≡ c.loop-count.done.rounds + 1 = search rules in
    let some : 0 < c.in_ok-count.count = omega (arith, c.if-count-eq0.false) in
    let d : SweeperView = none_there c.args.directory.now in
    let f : ℕ → SweeperView = sweeper_at c.loop-count.sweepers d in
    let h : ℕ → SweeperView = sweeper_at c.turn.new.sweepers d in
    let least : c.loop-count.done.rounds + 1 ≤ 7 * length (names_of c.args.sweepers.now) =
    turn_left (length c.args.sweepers.now) c.args.directory.now (names_of c.args.sweepers.now)
    (c.loop-count.done.rounds + 1) h
    (left_on (length c.args.sweepers.now) c.args.directory.now (names_of c.args.sweepers.now)
    c.loop-count.done.rounds f h (c.loop-count.invariant.left d)
    (lowers_of (length c.loop-count.sweepers) (length c.args.sweepers.now) f h c.loop-count.auto.sweepers
    (c.in_ok-count.ensures.lowers some d))) in
    let now_less : 7 * length (names_of c.args.sweepers.now) - c.in_ok-done.field-0
    < 7 * length (names_of c.args.sweepers.now) - c.loop-count.done.rounds = omega (arith, up, least) in
    now_less
