-- What a territory tells of a start. `q` is the segment that was read, and k the number of the start in it.
use Rattle.std.proofs.Common.{◌≡◌, ◌≢◌, ℕ, ◌/◌, ◌%◌, ◌<◌, ◌≤◌, List, length, get_or, Option, Some, None, IsSome, IfSome, refl, sym, ◌∙◌, ap, subst, arith}
use Rattle.std.specs.FinMap.{get}
use Rattle.gc_words.specs.declared.address.TheConstants.{THREADS}
use Rattle.gc_words.specs.Layout.{thread_of, segment_of, offset_of}
use Rattle.segment.specs.Layout.{count_of}
use Rattle.segment.specs.Segments.{Segment, Start, IsStart, object_at}
use Rattle.segment.proofs.Spots.{spot_start, words_length}
use Rattle.segment.proofs.Sizes.{HasLength_le}
use Rattle.territory.specs.declared.territory.Targets.{Targets}
use Rattle.territory.specs.Territories.{TerritoryView, IsShaped, AreShaped, HaveAddresses, words_of}
use Rattle.territory.specs.Pools.{PoolView, IsSettled, numbered, territory_view}
use Rattle.territory.proofs.Present.{IsPresent, present, born}

pub record IsReached (thread : ℕ) (pool : PoolView) (now : TerritoryView) (a : ℕ) : Type 0 where
  pub start : Start
  pub has : get now.starts a ≡ Some start
  pub present : IsPresent thread pool.segments a start
  pub shaped : IsShaped start

some_of : (o : Option Start) → IsSome o → (x : Start) × (o ≡ Some x)
some_of None h = cc
some_of (Some x) h = (x, refl)

object_shaped : (pool : PoolView) (n k : ℕ) → IsSettled pool → IsStart (numbered pool.segments n) k → IsShaped (object_at (numbered pool.segments n) k)
unfolding count_of
object_shaped pool n k s is = record {
  has_length = s.lengths n k (object_at (numbered pool.segments n) k) (spot_start (numbered pool.segments n) k is);
  its_words = words_length (numbered pool.segments n) k (s.sound n).laid is.1;
  generation_in = omega (arith, s.generations n);
  born = omega (arith, is.1);
}

pub reach : (thread : ℕ) (pool : PoolView) (targets : Targets) (now : TerritoryView) (a : ℕ) → IsSettled pool → territory_view thread pool targets ≡ now → IsSome (get now.starts a) → IsReached thread pool now a
reach thread pool targets now a s e h =
    let x : (x : Start) × (get now.starts a ≡ Some x) = some_of (get now.starts a) h in
    let p : IsPresent thread pool.segments a x.0 = present thread pool a x.0 s (ap (λ (v : TerritoryView). get v.starts a) e ∙ x.1) in
    record { start = x.0; has = x.1; present = p; shaped = subst IsShaped (sym p.object) (object_shaped pool (segment_of a) (offset_of a / 2) s p.starts) }

pub reach_segment : (thread : ℕ) (pool : PoolView) (targets : Targets) (now : TerritoryView) (a n : ℕ) → IsSettled pool → territory_view thread pool targets ≡ now → IsSome (get now.starts a) → n ≡ segment_of a → n < length pool.segments
reach_segment thread pool targets now a n s e h is = let r : IsReached thread pool now a = reach thread pool targets now a s e h in subst (λ v. v < length pool.segments) (sym is) r.present.within

pub has_index : (o : Option Start) (index : ℕ) → index < length (words_of o) → IsSome o
has_index None index h = absurd (omega arith)
has_index (Some x) index h = refl

-- the segment that is read has the start
pub record IsAt (thread : ℕ) (pool : PoolView) (now : TerritoryView) (a k : ℕ) (q : Segment) : Type 0 where
  pub reached : IsReached thread pool now a
  pub starts : IsStart q k
  pub object : reached.start ≡ object_at q k

pub at : (thread : ℕ) (pool : PoolView) (targets : Targets) (now : TerritoryView) (a n k : ℕ) (q : Segment) → IsSettled pool → territory_view thread pool targets ≡ now → IsSome (get now.starts a) → n ≡ segment_of a → k ≡ offset_of a / 2 → q ≡ numbered pool.segments n
    → IsAt thread pool now a k q
at thread pool targets now a n k q s e h is ks read =
    let r : IsReached thread pool now a = reach thread pool targets now a s e h in
    let same : numbered pool.segments (segment_of a) ≡ q = sym (read ∙ ap (numbered pool.segments) is) in
    record {
      reached = r;
      starts = subst (λ v. IsStart v k) same (subst (λ v. IsStart (numbered pool.segments (segment_of a)) v) (sym ks) r.present.starts);
      object = r.present.object ∙ (ap (object_at (numbered pool.segments (segment_of a))) (sym ks) ∙ ap (λ v. object_at v k) same);
    }

pub if_some : (o : Option Start) (x : Start) (P : Start → Type 0) → o ≡ Some x → P x → IfSome o P
if_some o x P e p = subst (λ v. IfSome v P) (sym e) p

pub value : {Y : Type 0} (F : Start → Y) (r : Y) (thread : ℕ) (pool : PoolView) (now : TerritoryView) (a k : ℕ) (q : Segment) → IsAt thread pool now a k q → r ≡ F (object_at q k) → IfSome (get now.starts a) (λ x. r ≡ F x)
value F r thread pool now a k q i e = if_some (get now.starts a) i.reached.start (λ x. r ≡ F x) i.reached.has (e ∙ ap F (sym i.object))

pub shaped : (thread : ℕ) (pool : PoolView) (targets : Targets) (now : TerritoryView) (a : ℕ) → IsSettled pool → territory_view thread pool targets ≡ now → IsSome (get now.starts a) → IfSome (get now.starts a) IsShaped
shaped thread pool targets now a s e h = let r : IsReached thread pool now a = reach thread pool targets now a s e h in if_some (get now.starts a) r.start IsShaped r.has r.shaped

pub length_fits : (thread : ℕ) (pool : PoolView) (now : TerritoryView) (a k r : ℕ) (q : Segment) → IsAt thread pool now a k q → r ≡ (object_at q k).length → r ≤ 4000000
length_fits thread pool now a k r q i e = omega (arith, e, ap (λ (x : Start). x.length) i.object, HasLength_le i.reached.start.kind i.reached.start.length i.reached.shaped.has_length)

pub index_in : (thread : ℕ) (pool : PoolView) (now : TerritoryView) (a k index : ℕ) (q : Segment) → IsAt thread pool now a k q → index < length (words_of (get now.starts a)) → index < length (object_at q k).words
index_in thread pool now a k index q i h = subst (λ (x : Start). index < length x.words) i.object (subst (λ o. index < length (words_of o)) i.reached.has h)

pub word_is : (thread : ℕ) (pool : PoolView) (now : TerritoryView) (a k index r : ℕ) (q : Segment) → IsAt thread pool now a k q → r ≡ get_or (object_at q k).words index 0 → r ≡ get_or (words_of (get now.starts a)) index 0
word_is thread pool now a k index r q i e = e ∙ (ap (λ (x : Start). get_or x.words index 0) (sym i.object) ∙ ap (λ o. get_or (words_of o) index 0) (sym i.reached.has))

pub fields_are : (thread : ℕ) (pool : PoolView) (now : TerritoryView) (a k : ℕ) (q : Segment) (r : List ℕ) → IsAt thread pool now a k q → r ≡ (object_at q k).words → r ≡ words_of (get now.starts a)
fields_are thread pool now a k q r i e = e ∙ (ap (λ (x : Start). x.words) (sym i.object) ∙ ap words_of (sym i.reached.has))

-- ---- whether something starts at an address
pub other_thread : (thread : ℕ) (pool : PoolView) (targets : Targets) (now : TerritoryView) (a : ℕ) → IsSettled pool → territory_view thread pool targets ≡ now → thread_of a ≢ thread → IsSome (get now.starts a) → ⊥
other_thread thread pool targets now a s e ne h = let r : IsReached thread pool now a = reach thread pool targets now a s e h in ne r.present.thread_is

pub start_told : (thread : ℕ) (pool : PoolView) (targets : Targets) (now : TerritoryView) (a n o : ℕ) → IsSettled pool → territory_view thread pool targets ≡ now → thread_of a ≡ thread → n ≡ segment_of a → o ≡ offset_of a → o % 2 ≡ 0
    → (IsStart (numbered pool.segments n) (o / 2) → IsSome (get now.starts a)) × (IsSome (get now.starts a) → IsStart (numbered pool.segments n) (o / 2))
start_told thread pool targets now a n o s e t is io even = (
  (λ h. subst (λ (v : TerritoryView). IsSome (get v.starts a)) e (born thread pool a s t (subst (λ v. v % 2 ≡ 0) io even) (subst (λ v. IsStart (numbered pool.segments v) (offset_of a / 2)) is (subst (λ v. IsStart (numbered pool.segments n) (v / 2)) io h)))),
  (λ h. let r : IsReached thread pool now a = reach thread pool targets now a s e h in
      subst (λ v. IsStart (numbered pool.segments n) (v / 2)) (sym io) (subst (λ v. IsStart (numbered pool.segments v) (offset_of a / 2)) (sym is) r.present.starts)),
)

-- each start has an address of the thread
pub addresses : (thread : ℕ) (pool : PoolView) (targets : Targets) (now : TerritoryView) → thread < THREADS → IsSettled pool → territory_view thread pool targets ≡ now → HaveAddresses now
addresses thread pool targets now small s e = λ a x has.
    let p : IsPresent thread pool.segments a x = present thread pool a x s (ap (λ (v : TerritoryView). get v.starts a) e ∙ has) in
    ((omega (arith, p.address, p.within, s.count, p.small, small), omega (arith, p.address)), p.thread_is ∙ ap (λ (v : TerritoryView). v.thread) e)

-- each start has the shape of its kind
pub all_shaped : (thread : ℕ) (pool : PoolView) (targets : Targets) (now : TerritoryView) → IsSettled pool → territory_view thread pool targets ≡ now → AreShaped now
all_shaped thread pool targets now s e = λ a x has.
    let p : IsPresent thread pool.segments a x = present thread pool a x s (ap (λ (v : TerritoryView). get v.starts a) e ∙ has) in
    subst IsShaped (sym p.object) (object_shaped pool (segment_of a) (offset_of a / 2) s p.starts)
