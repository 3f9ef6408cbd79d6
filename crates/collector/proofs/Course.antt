-- From begun territories to what is left of a collection: what the calls in between ask for and tell.
use Rattle.std.proofs.Common.{◌≡◌, ℕ, ◌<◌, ◌≤◌, List, [], ◌∷◌, length, slice_index, slice_index_or, refl, sym, ap, ◌∙◌, subst, arith}
use Rattle.gc_words.specs.declared.value.Value.{Value}
use Rattle.territory.specs.declared.territory.Targets.{Targets}
use Rattle.territory.specs.Territories.{HaveAddresses, TerritoryView, no_territory}
use Rattle.directory.specs.Directories.{DirectoryView, from_at, sweeper_count}
use Rattle.directory.specs.Tables.{aside_at, shown}
use Rattle.sweep_model.specs.World.{IsWorld, World}
use Rattle.sweep_share.specs.Registers.{AreRegistersOf, item_at}
use Rattle.sweep_share.specs.Shares.{AreShareOf}
use Rattle.sweeper.specs.Sweepers.{SweeperView}
use Rattle.sweep_rounds.specs.Turns.{Ends, Whole, sweeper_at}
use Rattle.collect_model.specs.Worlds.{world_in}
use Rattle.collector.specs.Begun.{AreCollectable, AreMade, HaveBegun}
use Rattle.collector.specs.Dealt.{AreDealt, AreGathered, AreWhole, IsDealtTo, own_at}
use Rattle.collector.specs.Swept.{AreEnded, IsSwept}
use Rattle.collector.proofs.BegunWorld.{begun_listed, begun_ordered, begun_world}
use Rattle.collector.proofs.Beginning.{dealt_share, is_beginning}
use Rattle.collector.proofs.Running.{AllBegun, HaveRun, ended_of, number_after, sweepers_after, whole_of}
use Rattle.collector.proofs.Returned.{AreReturned}
use Rattle.collector.proofs.EndedRegisters.{registers_within}
use Rattle.collector.proofs.Gathered.{addresses_after, gathered_whole}
use Rattle.collector.proofs.Swept.{is_swept, returned_of}

-- what a call that begins a collection has: the territories before and after, and the number of sweepers
pub record IsBegun (old new : List TerritoryView) (registers : List Value) (targets : Targets) (n : ℕ) : Type 0 where
  pub ready : AreCollectable old registers targets
  pub begun : HaveBegun old new targets
  pub some : 1 ≤ n
  pub most : n ≤ 64

-- and a directory of them
pub record IsDirected (new : List TerritoryView) (targets : Targets) (n : ℕ) (d : DirectoryView) : Type 0 where
  pub its_targets : d.targets ≡ targets
  pub count : sweeper_count d ≡ n
  pub segments : (a : ℕ) → shown (from_at d a) ≡ aside_at new a

-- ---- the same from what the calls tell

pub begun_is : {old new : List TerritoryView} {registers : List Value} {targets : Targets} {n : ℕ}
    → AreCollectable old registers targets → HaveBegun old new targets → (1 ≤ n) × (n ≤ 64)
    → IsBegun old new registers targets n
begun_is ready begun sweepers = record { ready = ready; begun = begun; some = sweepers.0; most = sweepers.1 }

pub directed_is : {read new : List TerritoryView} {targets : Targets} {n : ℕ} {d : DirectoryView} → read ≡ new
    → d.targets ≡ targets → sweeper_count d ≡ n → ((a : ℕ) → shown (from_at d a) ≡ aside_at read a)
    → IsDirected new targets n d
directed_is same its_targets count segments =
    record { its_targets = its_targets; count = count; segments = λ a. segments a ∙ ap (λ ts. aside_at ts a) same }

pub made_for : {d : DirectoryView} {owns : List (List TerritoryView)} {read registers : List Value}
    {made : List SweeperView} → read ≡ registers → AreMade d owns read made → AreMade d owns registers made
made_for {d} {owns} {read} {registers} {made} same = subst (λ rs. AreMade d owns rs made) same

-- ----

-- the first of a list
first_of : (l : List SweeperView) → 0 < length l → SweeperView
first_of [] some = absurd (omega (arith, some))
first_of (v ∷ l) some = v

-- what is dealt to each sweeper is its share
pub shares_dealt : {old new : List TerritoryView} {registers : List Value} {targets : Targets} {n m : ℕ}
    {owns : List (List TerritoryView)} → IsBegun old new registers targets n → m ≡ n → AreDealt n new owns
    → (k : ℕ) → k < length owns → AreShareOf k m (own_at owns k)
shares_dealt {old} {new} {registers} {targets} {n} {m} {owns} is same dealt k inside =
    let less : k < n = subst (λ c. k < c) dealt.count inside in
    subst (λ c. AreShareOf k c (own_at owns k)) (sym same)
    (dealt_share old new registers targets n is.ready is.begun is.some is.most k (own_at owns k) less
    (dealt.each k less))

module _ {old new : List TerritoryView} {registers : List Value} {targets : Targets} {n : ℕ} {d : DirectoryView}
    {owns : List (List TerritoryView)} {made : List SweeperView} (is : IsBegun old new registers targets n)
    (directed : IsDirected new targets n d) (dealt : AreDealt n new owns) (are_made : AreMade d owns registers made)
  where
    abbrev world : World
    world = world_in old registers targets n

    pub made_count : length made ≡ n
    made_count = are_made.count ∙ dealt.count

    is_world : IsWorld world
    is_world = begun_world old new registers targets n is.ready is.begun is.some is.most

    -- they stand at the beginning of the heap's world
    all_begun : (e : SweeperView) → AllBegun world n d (sweeper_at made e)
    all_begun e =
        let within : (k : ℕ) → k < n → k < length made = λ k less. subst (λ c. k < c) (sym made_count) less in
        record {
          is_world = is_world;
          listed = begun_listed old new registers targets n is.ready is.begun is.some is.most;
          count = refl;
          begun = λ k less.
              let m = are_made.each k e (within k less) in
              m.begun world is_world
              (is_beginning old new registers targets n is.ready is.begun is.some is.most d directed.its_targets
              directed.count directed.segments k (own_at owns k) m.own_registers less
              (subst (λ c. IsDealtTo c k new (own_at owns k)) (sym directed.count) (dealt.each k less)) m.dealt);
          numbers = λ k less. (are_made.each k e (within k less)).number;
          directory = λ k less. (are_made.each k e (within k less)).directory;
        }

    -- so they may run
    pub made_whole : (e : SweeperView) → Whole (length made) d (sweeper_at made e)
    made_whole e = subst (λ c. Whole c d (sweeper_at made e)) (sym made_count) (whole_of (all_begun e))

    -- ---- after the run

    module _ (after : List SweeperView) (same : length after ≡ length made)
        (ends : (e : SweeperView) → Ends (length made) (sweeper_at made e) (sweeper_at after e)) where
      after_count : length after ≡ n
      after_count = same ∙ made_count

      ends_all : (e : SweeperView) → Ends n (sweeper_at made e) (sweeper_at after e)
      ends_all e = subst (λ c. Ends c (sweeper_at made e) (sweeper_at after e)) made_count (ends e)

      run : (e : SweeperView) → HaveRun world (sweeper_at made e) (sweeper_at after e)
      run e = ended_of (all_begun e) (ends_all e)

      less_of : (k : ℕ) → k < length after → k < n
      less_of k inside = subst (λ c. k < c) after_count inside

      -- there is one
      pub first_after : SweeperView
      first_after = first_of after (omega (arith, after_count, is.some))

      -- the registers of each sweeper are those of its number
      pub registers_number : (k : ℕ) (e : SweeperView) → k < length after
          → (sweeper_at after e k).registers.number ≡ k
      registers_number k e inside =
          ((run e).ended.led.ready k (less_of k inside)).joined.registers
          ∙ number_after (run e) k (less_of k inside)

      pub registers_sweepers : (k : ℕ) (e : SweeperView) → k < length after
          → (sweeper_at after e k).registers.sweepers ≡ length after
      registers_sweepers k e inside =
          ((run e).ended.led.ready k (less_of k inside)).joined.register_count
          ∙ (sweepers_after (run e) k (less_of k inside) ∙ sym after_count)

      pub registers_inside : (k i : ℕ) (e : SweeperView) → k < length after
          → i < length (sweeper_at after e k).registers.items
          → AreRegistersOf (sweeper_at after e k).registers.number (sweeper_at after e k).registers.sweepers
          (sweeper_at after e k).registers.items
          → (item_at (sweeper_at after e k).registers.items i).0 < length registers
      registers_inside k i e inside within numbers =
          let v : SweeperView = sweeper_at after e k in
          registers_within (run e) registers (λ r. refl) k i (less_of k inside) within
          (subst (λ c. AreRegistersOf k c v.registers.items) (registers_sweepers k e inside ∙ after_count)
          (subst (λ j. AreRegistersOf j v.registers.sweepers v.registers.items) (registers_number k e inside) numbers))

      -- ---- ended

      module _ (e : SweeperView) {ends_of : List (List TerritoryView)} {now : List Value}
          (ended : AreEnded after ends_of registers now) where
        ended_count : length ends_of ≡ n
        ended_count = ended.count ∙ after_count

        shares : (k : ℕ) → k < n → AreShareOf k n (sweeper_at after e k).share.territories
        shares k less =
            let v : SweeperView = sweeper_at after e k in
            subst (λ j. AreShareOf j n v.share.territories) (number_after (run e) k less)
            (subst (λ c. AreShareOf v.share.number c v.share.territories) (sweepers_after (run e) k less)
            (ended.shares k e (subst (λ c. k < c) (sym after_count) less)))

        back : AreReturned n (sweeper_at after e) ends_of
        back = returned_of n e after_count ended is.some shares

        threads : (k i : ℕ) → k < n → i < length (sweeper_at after e k).share.territories
            → (slice_index_or (sweeper_at after e k).share.territories i (no_territory 0)).thread < 64
        threads k i less inside =
            let finished = (back.finished k less).each i inside in
            subst (λ t. t < 64) finished.thread finished.thread_in

        pub ended_some : 1 ≤ length ends_of
        ended_some = subst (λ c. 1 ≤ c) (sym ended_count) is.some

        pub ended_whole : AreWhole (length ends_of) ends_of
        ended_whole = subst (λ c. AreWhole c ends_of) (sym ended_count) (gathered_whole back threads)

        addresses : (k i : ℕ) → k < n → i < length (own_at ends_of k)
            → HaveAddresses (slice_index_or (own_at ends_of k) i (no_territory 0))
        addresses k i less inside =
            let finished = back.finished k less in
            (finished.each i (subst (λ c. i < c) finished.count inside)).addresses

        -- and gathered
        pub all_swept : {gathered : List TerritoryView} {counts : List ℕ}
            → AreGathered (length ends_of) ends_of gathered → length counts ≡ length after
            → ((k : ℕ) (e : SweeperView) → k < length after
            → slice_index counts k ≡ length (sweeper_at after e k).places.own)
            → IsSwept old registers targets n gathered now counts
        all_swept {gathered} {counts} are_gathered count copied =
            let here : AreGathered n ends_of gathered =
            subst (λ c. AreGathered c ends_of gathered) ended_count are_gathered in
            is_swept counts e (all_begun e)
            (begun_ordered old new registers targets n is.ready is.begun is.some is.most) (ends_all e) after_count
            ended back here (addresses_after back here addresses)
            (count ∙ after_count, λ k less. copied k e (subst (λ c. k < c) (sym after_count) less))
