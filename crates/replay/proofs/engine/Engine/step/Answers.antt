use Rattle.trace_types.specs.declared.command.Command.TheVariants.{Thread, Cons, MakeBox, Vector, Bytes, Get, Set, Mov, Version, Collect}
use Rattle.replay.proofs.Stepping.{silent_steps, print_steps, census_steps, generation_steps, prints_cards, prints_last, cards_same, on_ok}
use Rattle.replay.proofs.engine.Engine.step.Goals as goal
use Rattle.std.proofs.Common.{refl, ap, arith}
use Rattle.replay.specs.Engine.{EngineView}

pub returns-in-Thread-clause-step : goal.returns-in-Thread-clause-step
returns-in-Thread-clause-step g c = λ s stands.
    rw c.in-Thread.is
    (silent_steps s c.args.line (Thread c.in-Thread.thread) refl refl c.select_thread.result c.args.text.now.items c.select_thread.new.self
    (c.select_thread.ensures.step s c.args.line (rw (← c.self.view_is) at stands)))

pub returns-in-Thread-clause-cards : goal.returns-in-Thread-clause-cards
returns-in-Thread-clause-cards g c = λ sound. on_ok _ _ (cards_same c.self.inside.heap c.select_thread.new.self c.select_thread.ensures.objects (rw (← c.self.view_is) at sound))

pub returns-in-Cons-clause-step : goal.returns-in-Cons-clause-step
returns-in-Cons-clause-step g c = λ s stands.
    rw c.in-Cons.is
    (silent_steps s c.args.line (Cons c.in-Cons.d c.in-Cons.car c.in-Cons.cdr) refl refl c.cons.result c.args.text.now.items c.cons.new.self
    (c.cons.ensures.step s (rw (← c.self.view_is) at stands)))

pub returns-in-MakeBox-clause-step : goal.returns-in-MakeBox-clause-step
returns-in-MakeBox-clause-step g c = λ s stands.
    rw c.in-MakeBox.is
    (silent_steps s c.args.line (MakeBox c.in-MakeBox.d c.in-MakeBox.value) refl refl c.make_box.result c.args.text.now.items c.make_box.new.self
    (c.make_box.ensures.step s (rw (← c.self.view_is) at stands)))

pub returns-in-Vector-clause-step : goal.returns-in-Vector-clause-step
returns-in-Vector-clause-step g c = λ s stands.
    rw c.in-Vector.is
    (silent_steps s c.args.line (Vector c.in-Vector.d c.in-Vector.length c.in-Vector.value) refl refl c.vector.result c.args.text.now.items c.vector.new.self
    (c.vector.ensures.step s (rw (← c.self.view_is) at stands)))

pub returns-in-Bytes-clause-step : goal.returns-in-Bytes-clause-step
returns-in-Bytes-clause-step g c = λ s stands.
    rw c.in-Bytes.is
    (silent_steps s c.args.line (Bytes c.in-Bytes.d c.in-Bytes.length c.in-Bytes.byte) refl refl c.bytes.result c.args.text.now.items c.bytes.new.self
    (c.bytes.ensures.step s (rw (← c.self.view_is) at stands)))

pub returns-in-Get-clause-step : goal.returns-in-Get-clause-step
returns-in-Get-clause-step g c = λ s stands.
    rw c.in-Get.is
    (silent_steps s c.args.line (Get c.in-Get.d c.in-Get.s c.in-Get.index) refl refl c.get.result c.args.text.now.items c.get.new.self
    (c.get.ensures.step s c.args.line (rw (← c.self.view_is) at stands)))

pub returns-in-Get-clause-cards : goal.returns-in-Get-clause-cards
returns-in-Get-clause-cards g c = λ sound. on_ok _ _ (cards_same c.self.inside.heap c.get.new.self c.get.ensures.objects (rw (← c.self.view_is) at sound))

pub returns-in-Set-clause-step : goal.returns-in-Set-clause-step
returns-in-Set-clause-step g c = λ s stands.
    rw c.in-Set.is
    (silent_steps s c.args.line (Set c.in-Set.s c.in-Set.index c.in-Set.value) refl refl c.set.result c.args.text.now.items c.set.new.self
    (c.set.ensures.step s c.args.line (rw (← c.self.view_is) at stands)))

pub returns-in-Mov-clause-step : goal.returns-in-Mov-clause-step
returns-in-Mov-clause-step g c = λ s stands.
    rw c.in-Mov.is
    (silent_steps s c.args.line (Mov c.in-Mov.d c.in-Mov.value) refl refl c.mov.result c.args.text.now.items c.mov.new.self
    (c.mov.ensures.step s c.args.line (rw (← c.self.view_is) at stands)))

pub returns-in-Mov-clause-cards : goal.returns-in-Mov-clause-cards
returns-in-Mov-clause-cards g c = λ sound. on_ok _ _ (cards_same c.self.inside.heap c.mov.new.self c.mov.ensures.objects (rw (← c.self.view_is) at sound))

pub returns-in-Version-clause-step : goal.returns-in-Version-clause-step
returns-in-Version-clause-step g c = λ s stands.
    rw c.in-Version.is
    (silent_steps s c.args.line (Version) refl refl c.version_two.result c.args.text.now.items c.version_two.new.self
    (c.version_two.ensures.step s (rw (← c.self.view_is) at stands)))

pub returns-in-Version-clause-cards : goal.returns-in-Version-clause-cards
returns-in-Version-clause-cards g c = λ sound. on_ok _ _ (cards_same c.self.inside.heap c.version_two.new.self c.version_two.ensures.objects (rw (← c.self.view_is) at sound))

pub returns-in-Collect-clause-step : goal.returns-in-Collect-clause-step
returns-in-Collect-clause-step g c = λ s stands.
    rw c.in-Collect.is
    (silent_steps s c.args.line (Collect c.in-Collect.args) refl refl c.collect_heap.result c.args.text.now.items
    c.collect_heap.new.heap (c.collect_heap.ensures.step s c.args.line (rw (← c.self.view_is) at stands)))

pub returns-in-Print-clause-step : goal.returns-in-Print-clause-step
returns-in-Print-clause-step g c = λ s stands.
    rw c.in-Print.is
    (print_steps s c.args.line c.in-Print.value c.print_graph.result c.args.text.now.items c.print_graph.new.text.items c.self.inside.heap c.print_graph.new.heap
    (rw (← c.self.view_is) at stands) c.print_graph.ensures)

pub returns-in-Print-clause-cards : goal.returns-in-Print-clause-cards
returns-in-Print-clause-cards g c = λ sound. prints_cards _ _ _ _ _ c.print_graph.result c.print_graph.ensures (rw (← c.self.view_is) at sound)

pub returns-in-Census-clause-step : goal.returns-in-Census-clause-step
returns-in-Census-clause-step g c = λ s stands.
    rw c.in-Census.is
    (census_steps s c.args.line c.print_census.result c.args.text.now.items c.print_census.new.text.items c.self.inside.heap c.print_census.new.heap
    (rw (← c.self.view_is) at stands) c.print_census.ensures)

pub returns-in-Census-clause-cards : goal.returns-in-Census-clause-cards
returns-in-Census-clause-cards g c = λ sound. prints_cards _ _ _ _ _ c.print_census.result c.print_census.ensures (rw (← c.self.view_is) at sound)

pub returns-in-Gen-clause-step : goal.returns-in-Gen-clause-step
returns-in-Gen-clause-step g c = λ s stands.
    rw c.in-Gen.is
    (generation_steps s c.args.line c.in-Gen.value c.print_generation.result c.args.text.now.items c.print_generation.new.text.items c.self.inside.heap c.print_generation.new.heap
    (rw (← c.self.view_is) at stands) c.print_generation.ensures)

pub returns-in-Gen-clause-cards : goal.returns-in-Gen-clause-cards
returns-in-Gen-clause-cards g c = λ sound. prints_cards _ _ _ _ _ c.print_generation.result c.print_generation.ensures (rw (← c.self.view_is) at sound)

pub invariant_of-self-in-Print : goal.invariant_of-self-in-Print
invariant_of-self-in-Print g c = (
  prints_last _ _ _ _ _ c.args.line c.print_graph.result c.print_graph.ensures
      (omega (arith, c.self.invariant.0, c.requires.newer, ap (λ (e : EngineView). e.newest) c.self.view_is)),
  c.self.invariant.1,
  c.self.invariant.2,
)

pub invariant_of-self-in-Census : goal.invariant_of-self-in-Census
invariant_of-self-in-Census g c = (
  prints_last _ _ _ _ _ c.args.line c.print_census.result c.print_census.ensures
      (omega (arith, c.self.invariant.0, c.requires.newer, ap (λ (e : EngineView). e.newest) c.self.view_is)),
  c.self.invariant.1,
  c.self.invariant.2,
)

pub invariant_of-self-in-Gen : goal.invariant_of-self-in-Gen
invariant_of-self-in-Gen g c = (
  prints_last _ _ _ _ _ c.args.line c.print_generation.result c.print_generation.ensures
      (omega (arith, c.self.invariant.0, c.requires.newer, ap (λ (e : EngineView). e.newest) c.self.view_is)),
  c.self.invariant.1,
  c.self.invariant.2,
)

pub returns-in-Collect-clause-kept : goal.returns-in-Collect-clause-kept
returns-in-Collect-clause-kept g c = λ other. absurd (other c.in-Collect.args c.in-Collect.is)

pub returns-in-Collect-clause-fixed : goal.returns-in-Collect-clause-fixed
returns-in-Collect-clause-fixed g c = λ args same. rw (← c.self.view_is) c.collect_heap.ensures.fixed
