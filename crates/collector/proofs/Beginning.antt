-- The territories and registers of a heap, dealt out once their collection has begun, are a beginning for the sweepers.
use Rattle.std.proofs.Common.{◌≡◌, ℕ, ◌%◌, ◌≤◌, ◌<◌, nat_le, List, Some, sym, ap, ◌∙◌}
use Rattle.gc_words.specs.Layout.{thread_of}
use Rattle.gc_words.specs.declared.value.Value.{Value}
use Rattle.segment.specs.Segments.{Start}
use Rattle.territory.specs.declared.territory.Targets.{Targets}
use Rattle.territory.specs.Territories.{TerritoryView}
use Rattle.directory.specs.Directories.{AreOfThreads, DirectoryView, HaveBegun as HaveTargets, from_at, sweeper_count}
use Rattle.directory.specs.Tables.{aside_at, shown}
use Rattle.heap_store.specs.HeapView.{starts_in}
use Rattle.sweep_model.specs.World.{is_young}
use Rattle.sweep_share.specs.Shares.{AreShareOf}
use Rattle.sweeper.specs.Starting.{IsBeginning}
use Rattle.collect_model.specs.Worlds.{world_in}
use Rattle.collector.specs.Begun.{AreCollectable, HaveBegun}
use Rattle.collector.specs.Dealt.{AreRegistersDealtTo, IsDealtTo}
use Rattle.collector.proofs.BegunTerritories.{begun_from}
use Rattle.collector.proofs.BegunDealt.{dealt_share_of}
use Rattle.collector.proofs.BegunAside.{LiesIn, lies_in}
use Rattle.collector.proofs.BegunShare.{share_aside, share_sound, share_starts}
use Rattle.collector.proofs.BegunDirectory.{can_start, told_collected, told_older}

module _ (old new : List TerritoryView) (registers : List Value) (targets : Targets) (n : ℕ)
    (ready : AreCollectable old registers targets) (begun : HaveBegun old new targets)
    (some : 1 ≤ n) (most : n ≤ 64) where
  -- they are of the threads 0 to 63
  pub ready_threads : AreOfThreads new
  ready_threads = record {
    count = begun.count ∙ ready.settled.count;
    each = λ i u there.
        let t = begun_from old new targets i u begun there in
        t.2.thread ∙ ready.settled.threads i t.0 t.1;
  }

  -- and have the targets
  pub ready_targets : HaveTargets new targets
  ready_targets i u there = (begun_from old new targets i u begun there).2.its_targets

  -- what is dealt to a sweeper is a share
  pub dealt_share : (k : ℕ) (own : List TerritoryView) → k < n → IsDealtTo n k new own → AreShareOf k n own
  dealt_share k own number_in dealt = dealt_share_of n k new own ready_threads number_in most dealt

  -- ---- the beginning

  -- where a start lies
  lying : (a : ℕ) (x : Start) → starts_in old a ≡ Some x → LiesIn new targets.cg a x
  lying a x here = lies_in old new targets a x ready.settled begun here

  -- whether it is collected
  young_by : (a : ℕ) (x : Start) → starts_in old a ≡ Some x
      → nat_le x.generation targets.cg ≡ is_young targets.cg (starts_in old a)
  young_by a x here = sym (ap (is_young targets.cg) here)

  -- with a directory that tells what was set aside, each sweeper has its part of the world
  pub is_beginning : (d : DirectoryView) → d.targets ≡ targets → sweeper_count d ≡ n
      → ((a : ℕ) → shown (from_at d a) ≡ aside_at new a)
      → (k : ℕ) (own : List TerritoryView) (own_registers : List (ℕ × Value)) → k < n
      → IsDealtTo (sweeper_count d) k new own → AreRegistersDealtTo (sweeper_count d) k registers own_registers
      → IsBeginning (world_in old registers targets n) k d own own_registers
  is_beginning d its_targets count tells k own own_registers number_in dealt registers_dealt = record {
    sweepers = sym count;
    targets = sym its_targets;
    starts = λ a mine.
        share_starts old new own targets m k a begun dealt (ap (λ w. thread_of a % w) count ∙ mine);
    held = λ r mine. registers_dealt.held r (ap (λ w. r % w) count ∙ mine);
    can_start = λ a x here young. can_start d new targets.cg a x (lying a x here) tells (young_by a x here ∙ young);
    generations = λ a x here young.
        let told = told_collected d new targets.cg a x (lying a x here) tells (young_by a x here ∙ young) in
        (told.from, told.is, told.generation);
    older = λ a x here young. told_older d new targets.cg a x (lying a x here) tells (young_by a x here ∙ young);
    aside = λ a x here mine.
        share_aside new own targets.cg m k a x dealt (lying a x here) (ap (λ w. thread_of a % w) count ∙ mine)
        ∙ young_by a x here;
    cards = share_sound old new own targets m k begun ready.cards dealt;
  }
    where
      m : ℕ
      m = sweeper_count d
