use Rattle.std.proofs.Common.{◌<◌, length, arith}
use Rattle.std.proofs.lemmas.List.{get_or_read}
use Rattle.territory.specs.Territories.{no_territory}
use Rattle.sweep_share.specs.Shares.{IsFinished}
use Rattle.sweep_share.proofs.EachOfThem.{changed_more}
use Rattle.sweep_share.proofs.share.finish_all.Goals as goal

pub loop-i-preserved : goal.loop-i-preserved
loop-i-preserved c =
    let within : c.loop-i.i < length c.loop-i.territories.items = omega (arith, c.len-i-end.ensures, c.loop-i.invariant.count) in
    changed_more IsFinished c.args.territories.now.items c.loop-i.territories.items c.loop-i.i c.index_mut.result.now
    c.finish.new.self within
    c.loop-i.invariant (get_or_read c.loop-i.territories.items c.loop-i.i c.index_mut.result.now within c.index_mut.ensures.value (no_territory 0))
    (record {
      starts = c.finish.ensures.starts;
      segments = c.finish.ensures.segments;
      thread = c.finish.ensures.thread;
      targets = c.finish.ensures.targets;
      sound = c.finish.ensures.sound;
      thread_in = c.finish.ensures.thread_in;
      addresses = c.finish.ensures.addresses;
    })
