-- The territories of all sweepers that are ended, gathered again, have sound cards.
use Rattle.std.proofs.Common.{ℕ, ◌/◌, ◌%◌, ◌<◌, List, [], Option, sym, subst, arith}
use Rattle.std.specs.FinMap.{get}
use Rattle.gc_words.specs.declared.value.Value.{Value}
use Rattle.gc_words.specs.Layout.{segment_of}
use Rattle.territory.specs.Territories.{AreCardsSound, TerritoryView, segment_at}
use Rattle.territory.specs.Finishing.{AreCardsSoundFor}
use Rattle.sweep_share.specs.Shares.{AreSound}
use Rattle.heap_store.specs.HeapView.{starts_in}
use Rattle.heap_store.specs.Changes.{HaveSoundCards, generation_at}
use Rattle.sweep_model.specs.World.{World}
use Rattle.sweeper.specs.Sweepers.{SweeperView}
use Rattle.sweeper.specs.Ready.{Agrees, IsOrdered}
use Rattle.sweeper.specs.Starting.{IsBegun}
use Rattle.sweep_rounds.specs.Turns.{hands_of}
use Rattle.collector.specs.Dealt.{AreGathered}
use Rattle.collect_model.specs.Worlds.{HasEnded}
use Rattle.collector.proofs.Running.{HaveRun}
use Rattle.collector.proofs.Returned.{AreReturned, inside_before, is_after, is_thread, territory_before, thread_finished, was_there}
use Rattle.collector.proofs.Agreeing.{agrees_after, agrees_first}

-- what is sound for all starts is sound for those that stay
sound_for : (generations : ℕ → Option ℕ) (t : TerritoryView) → AreCardsSound generations t
    → AreCardsSoundFor generations t []
sound_for generations t sound a index b h x here refers at lower =
    sound a index b h x
    (was_there t.targets a (segment_at t (segment_of a)) (get t.starts a) x here)
    refers at lower

module _ {world : World} {f g : ℕ → SweeperView} (run : HaveRun world f g) {owns : List (List TerritoryView)}
    {new : List TerritoryView} {held : List Value} (ordered : IsOrdered world)
    (begun : (k : ℕ) → k < world.sweepers → IsBegun world (f k)) (back : AreReturned world.sweepers g owns)
    (gathered : AreGathered world.sweepers owns new)
    (ended : HasEnded world (hands_of g) (starts_in new) held) where
  sound_before : (k : ℕ) → k < world.sweepers → AreSound (generation_at (starts_in new)) (f k).share
  sound_before k less =
      (begun k less).cards ordered (generation_at (starts_in new))
      (subst (λ own. Agrees world own [] (generation_at (starts_in new))) (sym (begun k less).begins.own)
      (agrees_first back.some ended))

  sound_after : (k : ℕ) → k < world.sweepers → AreSound (generation_at (starts_in new)) (g k).share
  sound_after k less =
      run.ended.led.cards ordered (generation_at (starts_in new)) (agrees_after back.some ended) k less
      (sound_before k less)

  pub gathered_sound : HaveSoundCards new
  gathered_sound i t e =
      let small : i < 64 = is_thread back gathered i t e in
      let some : 0 < world.sweepers = back.some in
      let less : i % world.sweepers < world.sweepers = omega arith in
      subst (AreCardsSound (generation_at (starts_in new))) (is_after back gathered i t e)
      ((thread_finished back i small).sound (generation_at (starts_in new))
      (sound_for (generation_at (starts_in new)) (territory_before world.sweepers g i)
      (sound_after (i % world.sweepers) less (i / world.sweepers) (inside_before back i small))))
