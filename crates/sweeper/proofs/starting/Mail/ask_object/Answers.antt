use Rattle.std.proofs.Common.{arith}
use Rattle.std.specs.FinMap.{get}
use Rattle.sweeper.proofs.StrongFields.{counted_some, end_within, length_some}
use Rattle.sweeper.proofs.AskedRoots.{field_next, fields_done, fields_first}
use Rattle.sweeper.proofs.starting.Mail.ask_object.Goals as goal

pub strong_fields-first-requires : goal.strong_fields-first-requires
strong_fields-first-requires c =
    length_some (get c.args.territory.now.starts c.args.object) c.length.result c.requires.start c.length.ensures.shaped c.length.ensures.value

pub loop-asked-init : goal.loop-asked-init
loop-asked-init c =
    let all = counted_some (get c.args.territory.now.starts c.args.object) c.length.result c.strong_fields-first.result.0 c.strong_fields-first.result.1 c.kind.result
    c.requires.start c.kind.ensures.shaped c.kind.ensures.value c.length.ensures.value c.strong_fields-first.ensures.order
    c.strong_fields-first.ensures.within c.strong_fields-first.ensures.strong c.strong_fields-first.ensures.before
    c.strong_fields-first.ensures.after in
    record {
      asked = fields_first c.args.share.now c.args.self.now c.args.self.now c.args.directory.now c.args.territory.now c.args.object c.strong_fields-first.result.0 c.strong_fields-first.result.1 all;
      begun = omega arith;
      order = c.strong_fields-first.ensures.order;
      near = c.requires.near;
    }

pub next_old_asked-requires : goal.next_old_asked-requires
next_old_asked-requires c =
    let all = counted_some (get c.args.territory.now.starts c.args.object) c.length.result c.strong_fields-first.result.0 c.strong_fields-first.result.1 c.kind.result
    c.requires.start c.kind.ensures.shaped c.kind.ensures.value c.length.ensures.value c.strong_fields-first.ensures.order
    c.strong_fields-first.ensures.within c.strong_fields-first.ensures.strong c.strong_fields-first.ensures.before
    c.strong_fields-first.ensures.after in
    record {
      near = c.loop-asked.invariant.near;
      start = c.requires.start;
      end = end_within c.args.directory.now (get c.args.territory.now.starts c.args.object) c.strong_fields-first.result.0 c.strong_fields-first.result.1 all;
    }

pub loop-asked-preserved : goal.loop-asked-preserved
loop-asked-preserved c =
    let all = counted_some (get c.args.territory.now.starts c.args.object) c.length.result c.strong_fields-first.result.0 c.strong_fields-first.result.1 c.kind.result
    c.requires.start c.kind.ensures.shaped c.kind.ensures.value c.length.ensures.value c.strong_fields-first.ensures.order
    c.strong_fields-first.ensures.within c.strong_fields-first.ensures.strong c.strong_fields-first.ensures.before
    c.strong_fields-first.ensures.after in
    let found = c.in-Some.ensures in
    record {
      asked = field_next c.args.share.now c.args.self.now c.loop-asked.self c.args.directory.now c.args.territory.now c.args.object c.strong_fields-first.result.0 c.strong_fields-first.result.1 all
          c.ask.new.self c.loop-asked.from c.in-Some.asked.index c.in-Some.asked.target c.loop-asked.invariant.begun
          found.within.0 found.within.1 c.loop-asked.invariant.asked found.first found.marked found.target c.in_ok-ask.ensures;
      begun = omega (arith, c.loop-asked.invariant.begun, found.within.0);
      order = omega (arith, found.within.1);
      near = c.next_old_asked.ensures.near;
    }

pub returns-clause-asked : goal.returns-clause-asked
returns-clause-asked c =
    let all = counted_some (get c.args.territory.now.starts c.args.object) c.length.result c.strong_fields-first.result.0 c.strong_fields-first.result.1 c.kind.result
    c.requires.start c.kind.ensures.shaped c.kind.ensures.value c.length.ensures.value c.strong_fields-first.ensures.order
    c.strong_fields-first.ensures.within c.strong_fields-first.ensures.strong c.strong_fields-first.ensures.before
    c.strong_fields-first.ensures.after in
    fields_done c.args.share.now c.args.self.now c.loop-asked.self c.args.directory.now c.args.territory.now c.args.object c.strong_fields-first.result.0 c.strong_fields-first.result.1 all c.loop-asked.from
    c.loop-asked.invariant.begun c.loop-asked.invariant.order c.loop-asked.invariant.asked c.in_default.ensures.none
