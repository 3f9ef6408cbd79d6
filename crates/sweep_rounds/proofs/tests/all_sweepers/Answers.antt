use Rattle.std.proofs.Common.{◌≡◌, ℕ, ◌+◌, ◌<◌, List, length, sym, ◌∙◌, ap, subst, arith}
use Rattle.std.proofs.lemmas.List.{length_push}
use Rattle.directory.specs.Directories.{DirectoryView, sweeper_count}
use Rattle.sweeper.specs.Sweepers.{SweeperView}
use Rattle.sweeper.specs.Starting.{IsBeginning, IsBegun}
use Rattle.sweep_rounds.specs.Turns.{sweeper_at}
use Rattle.sweep_rounds.proofs.Nothing.{is_beginning, is_world, nothing, pushed_at, whole_nothing}
use Rattle.sweep_rounds.proofs.tests.all_sweepers.Goals as goal

pub loop-number-preserved : goal.loop-number-preserved
loop-number-preserved c =
    let dir : DirectoryView = c.args.directory.now in
    let more = c.in_ok-push.ensures.items in
    let old : List SweeperView = c.loop-number.sweepers.items in
    let all : List SweeperView = c.push.new.self.items in
    let made : SweeperView = c.in_ok-new.field-0 in
    let before : length old ≡ c.loop-number.number = c.loop-number.invariant.count in
    let count : length all ≡ length old + 1 = ap length more ∙ length_push _ _ in
    let is_count : c.sweepers-count.result ≡ sweeper_count dir = c.sweepers-count.ensures.value in
    let begun : IsBegun (nothing dir) made =
    c.in_ok-new.ensures.begun (nothing dir)
    (is_world dir (omega (arith, is_count, c.sweepers-count.ensures.range)) (omega (arith, is_count, c.sweepers-count.ensures.range)))
    (subst (λ r. IsBeginning (nothing dir) c.loop-number.number dir c.in_ok-territories.territories.items r)
    (sym c.new-registers.ensures.items)
    (is_beginning dir c.loop-number.number c.in_ok-territories.territories.items c.in_ok-territories.ensures.nothing)) in
    let within : (k : ℕ) → k < length old → k < c.loop-number.number = λ k b. subst (λ n. k < n) before b in
    let to_end : (k : ℕ) → k < c.loop-number.number + 1 → k < length old + 1 =
    λ k b. subst (λ n. k < n + 1) (sym before) b in
    record {
      count = omega (arith, count, before);
      begun = λ k d b.
          pushed_at (λ (i : ℕ) (v : SweeperView). IsBegun (nothing dir) v) old all made d more
          (λ i low. c.loop-number.invariant.begun i d (within i low)) begun k (to_end k b);
      numbers = λ k d b.
          pushed_at (λ (i : ℕ) (v : SweeperView). v.share.number ≡ i) old all made d more
          (λ i low. c.loop-number.invariant.numbers i d (within i low)) (c.in_ok-new.ensures.number ∙ sym before)
          k (to_end k b);
      directory = λ k d b.
          pushed_at (λ (i : ℕ) (v : SweeperView). v.places.directory ≡ dir) old all made d more
          (λ i low. c.loop-number.invariant.directory i d (within i low)) c.in_ok-new.ensures.directory k (to_end k b);
    }

pub returns-clause-whole : goal.returns-clause-whole
returns-clause-whole c = λ d.
    let dir : DirectoryView = c.args.directory.now in
    let all : List SweeperView = c.loop-number.sweepers.items in
    let before : length all ≡ c.loop-number.number = c.loop-number.invariant.count in
    let is_count : c.sweepers-count.result ≡ sweeper_count dir = c.sweepers-count.ensures.value in
    let full : sweeper_count dir ≡ length all = omega (arith, before, is_count) in
    let within : (k : ℕ) → k < length all → k < c.loop-number.number = λ k b. subst (λ n. k < n) before b in
    whole_nothing (length all) dir (sweeper_at all d) full
    (omega (arith, is_count, c.sweepers-count.ensures.range)) (omega (arith, is_count, c.sweepers-count.ensures.range))
    (λ k b. c.loop-number.invariant.begun k d (within k b)) (λ k b. c.loop-number.invariant.numbers k d (within k b))
    (λ k b. c.loop-number.invariant.directory k d (within k b))
