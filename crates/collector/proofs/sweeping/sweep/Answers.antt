-- From call to call of a collection.
use Rattle.std.proofs.Common.{◌≡◌, ℕ, ◌<◌, ◌≤◌, List, length, slice_index, sym, ◌∙◌, ap, subst}
use Rattle.gc_words.specs.declared.value.Value.{Value}
use Rattle.heap_store.specs.Used.{HoldNoneFrom}
use Rattle.directory.specs.Directories.{AreOfThreads, HaveBegun as HaveTargets}
use Rattle.sweeper.specs.Sweepers.{SweeperView}
use Rattle.sweep_rounds.specs.Turns.{sweeper_at}
use Rattle.collector.specs.Swept.{IsSwept}
use Rattle.collector.proofs.Beginning.{ready_targets, ready_threads}
use Rattle.collector.proofs.Course.{all_swept, begun_is, directed_is, ended_whole, first_after, made_for, made_whole, registers_inside, registers_number, registers_sweepers, shares_dealt}
use Rattle.collector.proofs.sweeping.sweep.Goals as goal

pub new-requires-clause-threads : goal.new-requires-clause-threads
new-requires-clause-threads g c =
    subst AreOfThreads (sym c.deref.ensures.value)
    (ready_threads c.args.territories.items c.begin_all.new.territories.items c.args.registers.items c.args.targets
    c.args.sweepers c.requires.collectable c.begin_all.ensures c.requires.sweepers.0 c.requires.sweepers.1)

pub new-requires-clause-begun : goal.new-requires-clause-begun
new-requires-clause-begun g c =
    subst (λ ts. HaveTargets ts c.args.targets) (sym c.deref.ensures.value)
    (ready_targets c.args.territories.items c.begin_all.new.territories.items c.args.registers.items c.args.targets
    c.args.sweepers c.requires.collectable c.begin_all.ensures c.requires.sweepers.0 c.requires.sweepers.1)

pub make_sweepers-requires-clause-shares : goal.make_sweepers-requires-clause-shares
make_sweepers-requires-clause-shares g c =
    let is = begun_is c.requires.collectable c.begin_all.ensures c.requires.sweepers in
    shares_dealt is c.in_ok-directory.ensures.sweepers c.in_ok-owns.ensures

pub make_sweepers-requires-clause-within : goal.make_sweepers-requires-clause-within
make_sweepers-requires-clause-within g c =
    subst (λ (l : List Value). c.args.used ≤ length l) (sym c.deref-2.ensures.value) c.requires.within

pub make_sweepers-requires-clause-none : goal.make_sweepers-requires-clause-none
make_sweepers-requires-clause-none g c =
    subst (λ (l : List Value). HoldNoneFrom l c.args.used) (sym c.deref-2.ensures.value) c.requires.none

pub run_to_idle-requires-clause-whole : goal.run_to_idle-requires-clause-whole
run_to_idle-requires-clause-whole g c = λ κs h.
    let made = made_for c.deref-2.ensures.value c.in_ok-all.ensures in
    let is = begun_is c.requires.collectable c.begin_all.ensures c.requires.sweepers in
    let told = c.in_ok-directory.ensures in
    let directed = directed_is c.deref.ensures.value told.targets told.sweepers told.segments in
    made_whole is directed c.in_ok-owns.ensures made

pub end_all-requires-clause-numbers : goal.end_all-requires-clause-numbers
end_all-requires-clause-numbers g c = λ k e inside.
    let made = made_for c.deref-2.ensures.value c.in_ok-all.ensures in
    let is = begun_is c.requires.collectable c.begin_all.ensures c.requires.sweepers in
    let told = c.in_ok-directory.ensures in
    let directed = directed_is c.deref.ensures.value told.targets told.sweepers told.segments in (
      registers_number is directed c.in_ok-owns.ensures made c.run_to_idle.new.sweepers.items
          c.in_ok-done.ensures.same c.in_ok-done.ensures.ends k e inside,
      registers_sweepers is directed c.in_ok-owns.ensures made c.run_to_idle.new.sweepers.items
          c.in_ok-done.ensures.same c.in_ok-done.ensures.ends k e inside,
    )

pub end_all-requires-clause-within : goal.end_all-requires-clause-within
end_all-requires-clause-within g c = λ k i e inside within numbers.
    let made = made_for c.deref-2.ensures.value c.in_ok-all.ensures in
    let is = begun_is c.requires.collectable c.begin_all.ensures c.requires.sweepers in
    let told = c.in_ok-directory.ensures in
    let directed = directed_is c.deref.ensures.value told.targets told.sweepers told.segments in
    registers_inside is directed c.in_ok-owns.ensures made c.run_to_idle.new.sweepers.items
    c.in_ok-done.ensures.same c.in_ok-done.ensures.ends k i e inside within numbers

pub gather_territories-requires-clause-whole : goal.gather_territories-requires-clause-whole
gather_territories-requires-clause-whole g c =
    let after : List SweeperView = c.run_to_idle.new.sweepers.items in
    let made = made_for c.deref-2.ensures.value c.in_ok-all.ensures in
    let is = begun_is c.requires.collectable c.begin_all.ensures c.requires.sweepers in
    let told = c.in_ok-directory.ensures in
    let directed = directed_is c.deref.ensures.value told.targets told.sweepers told.segments in
    let e : SweeperView =
    first_after is directed c.in_ok-owns.ensures made after c.in_ok-done.ensures.same c.in_ok-done.ensures.ends in
    ended_whole is directed c.in_ok-owns.ensures made after c.in_ok-done.ensures.same c.in_ok-done.ensures.ends e
    c.in_ok-owns-2.ensures

pub returns-clause-swept : goal.returns-clause-swept
returns-clause-swept g c =
    let after : List SweeperView = c.run_to_idle.new.sweepers.items in
    let made = made_for c.deref-2.ensures.value c.in_ok-all.ensures in
    let is = begun_is c.requires.collectable c.begin_all.ensures c.requires.sweepers in
    let told = c.in_ok-directory.ensures in
    let directed = directed_is c.deref.ensures.value told.targets told.sweepers told.segments in
    let e : SweeperView =
    first_after is directed c.in_ok-owns.ensures made after c.in_ok-done.ensures.same c.in_ok-done.ensures.ends in
    let counts : List ℕ = c.in_ok-copied.field-0.items in
    let count : length counts ≡ length after = c.in_ok-copied.ensures.count ∙ ap length c.deref-3.ensures.value in
    let copied : (k : ℕ) (u : SweeperView) → k < length after
    → slice_index counts k ≡ length (sweeper_at after u k).places.own =
    subst (λ (l : List SweeperView). (k : ℕ) (u : SweeperView) → k < length l
    → slice_index counts k ≡ length (sweeper_at l u k).places.own) c.deref-3.ensures.value c.in_ok-copied.ensures.each in
    subst (IsSwept c.args.territories.items c.args.registers.items c.args.targets c.args.sweepers
    c.in_ok-territories.territories.items c.end_all.new.registers.items) (sym c.new-forwarded.ensures)
    (all_swept is directed c.in_ok-owns.ensures made after c.in_ok-done.ensures.same c.in_ok-done.ensures.ends e
    c.in_ok-owns-2.ensures c.in_ok-territories.ensures count copied)
