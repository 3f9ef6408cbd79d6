-- Pairs that were followed from one segment to another were followed in the territory.
use Rattle.std.proofs.Common.{List, IfSome, ◌≡◌, ◌≢◌, ℕ, zero, suc, ◌+◌, ◌*◌, ◌/◌, ◌%◌, ◌<◌, ◌≤◌, Bool, true, false, length, get_or, set, Some, refl, sym, ◌∙◌, ap, subst, arith, inl, inr}
use Rattle.std.proofs.lemmas.List.{set-get_or, set-set}
use Rattle.std.specs.FinMap.{get}
use Rattle.gc_words.specs.declared.address.TheConstants.{THREADS}
use Rattle.gc_words.specs.Layout.{HasParts, IsMadeOf, address_of, offset_of, segment_of}
use Rattle.gc_words.specs.Word.{value_of}
use Rattle.gc_words.proofs.LayoutLaws.{address_of-its_parts, address_of_parts}
use Rattle.segment.specs.Layout.{skip_of}
use Rattle.segment.specs.Segments.{IsStart, Segment, Start, vacant, first_at, object_at as start_of, put_in}
use Rattle.segment.specs.Copies.{with_copy}
use Rattle.segment.proofs.Spots.{word_in}
use Rattle.territory.specs.declared.territory.Targets.{Targets}
use Rattle.territory.specs.declared.pool.following.Between.{Between}
use Rattle.territory.specs.Territories.{TerritoryView, words_of}
use Rattle.territory.specs.Pools.{AreUsed, IsSettled, PoolView, numbered, territory_view}
use Rattle.territory.specs.FinishedPools.{IsBetween}
use Rattle.territory.specs.Following.{AreFollowed, IsCarSwept, IsCdrSwept, IsCopyOf, IsFollowedTo, IsPairAt, IsReached, IsTaken, IsTrail, IsWordPut, Trail, trail, word_at}
use Rattle.territory.specs.FollowedSegments.{CanFollow, IsCarSweptIn, IsCdrSweptIn, IsReachedIn, IsTakenIn, IsTrailIn, Reel, copy_at, object_at, with_segment}
use Rattle.territory.proofs.Copied.{CanCopy}
use Rattle.territory.proofs.Numbers.{numbered-set_same, numbered-set_other}
use Rattle.territory.proofs.Present.{IsPresent, present}
use Rattle.territory.proofs.Reading.{if_some}
use Rattle.territory.proofs.Reeling.{count_pair, start_small, start_copied, start_new}
use Rattle.territory.proofs.Stepping.{IsNext, IsSteady, IsStepped, can_copy, copy_parts, object_parts, pair_kind, started, step, stepped, target, to_within, view}

-- ---- from one kind of state to another

-- What a sweep of a car and of a cdr lead to, where states, pairs and copies are seen in another way.
pub record AreSeen {S T : Type 0} (Good : S → ℕ → ℕ → Type 0) (F : S → T) (A C : ℕ → ℕ)
    (Car : S → S → ℕ → ℕ → Type 0) (Cdr : S → S → ℕ → ℕ → ℕ → ℕ → Type 0)
    (Car' : T → T → ℕ → ℕ → Type 0) (Cdr' : T → T → ℕ → ℕ → ℕ → ℕ → Type 0) : Type 0 where
  pub car : (s t : S) (k q : ℕ) → Good s k q → Car s t k q → Good t k q × Car' (F s) (F t) (A k) (C q)
  pub cdr : (s t : S) (k q j r : ℕ) → Good s k q → Cdr s t k q j r → Good t j r × Cdr' (F s) (F t) (A k) (C q) (A j) (C r)

pub followed_seen : {S T : Type 0} (Good : S → ℕ → ℕ → Type 0) (F : S → T) (A C : ℕ → ℕ) (Car : S → S → ℕ → ℕ → Type 0) (Cdr : S → S → ℕ → ℕ → ℕ → ℕ → Type 0) (Car' : T → T → ℕ → ℕ → Type 0) (Cdr' : T → T → ℕ → ℕ → ℕ → ℕ → Type 0)
    → AreSeen Good F A C Car Cdr Car' Cdr' → (n : ℕ) (s t : S) (k q j r : ℕ) → Good s k q → AreFollowed Car Cdr n s k q t j r
    → Good t j r × AreFollowed Car' Cdr' n (F s) (A k) (C q) (F t) (A j) (C r)
followed_seen Good F A C Car Cdr Car' Cdr' x zero s t k q j r good (e, ej, er) = (
  subst (λ v. Good t j v) (sym er) (subst (λ v. Good t v q) (sym ej) (subst (λ v. Good v k q) (sym e) good)),
  (ap F e, ap A ej, ap C er),
)
followed_seen Good F A C Car Cdr Car' Cdr' x (suc n) s t k q j r good (mid, c, p, now, before, car, cdr) =
    let b = followed_seen Good F A C Car Cdr Car' Cdr' x n s mid k q c p good before in
    let d = x.car mid now c p b.0 car in
    let f = x.cdr now t c p j r d.0 cdr in
    (f.0, (F mid, A c, C p, F now, b.1, d.1, f.1))

pub trail_followed : {S T : Type 0} (Good : S → ℕ → ℕ → Type 0) (F : S → T) (A C : ℕ → ℕ) (Car : S → S → ℕ → ℕ → Type 0) (Cdr : S → S → ℕ → ℕ → ℕ → ℕ → Type 0) (Car' : T → T → ℕ → ℕ → Type 0) (Cdr' : T → T → ℕ → ℕ → ℕ → ℕ → Type 0)
    → AreSeen Good F A C Car Cdr Car' Cdr' → (s t : S) (k q j r : ℕ) (swept : Bool) → Good s k q → IsFollowedTo Car Cdr s k q t j r swept
    → Good t j r × IsFollowedTo Car' Cdr' (F s) (A k) (C q) (F t) (A j) (C r) swept
trail_followed Good F A C Car Cdr Car' Cdr' x s t k q j r true good h =
    let b = followed_seen Good F A C Car Cdr Car' Cdr' x h.count s h.mid k q j r good h.followed in
    let d = x.car h.mid t j r b.0 h.car in
    (d.0, record { count = h.count; mid = F h.mid; followed = b.1; car = d.1 })
trail_followed Good F A C Car Cdr Car' Cdr' x s t k q j r false good h =
    let b = followed_seen Good F A C Car Cdr Car' Cdr' x h.count s h.mid k q j r good h.followed in
    (subst (λ v. Good v j r) (sym h.car) b.0, record { count = h.count; mid = F h.mid; followed = b.1; car = ap F h.car })

-- ---- the two segments, in the territory

-- the pool in which pairs are followed, and the generation of the copies
pub record Stage : Type 0 where
  pub targets : Targets
  pub between : Between
  pub pool : PoolView
  pub from : Segment
  pub generation : ℕ

pub record IsStage (g : Stage) : Type 0 where
  pub thread_in : g.between.thread < THREADS
  pub apart : g.between.from ≢ g.between.to
  pub within : g.between.to < length g.pool.segments
  pub from_is : numbered g.pool.segments g.between.from ≡ g.from

-- the pool with the segment to which pairs were copied
abbrev pub pool_at : Stage → Reel → PoolView
pool_at g s = with_segment g.pool g.between.to s.to

abbrev pub told : Stage → Reel → Trail
told g s = trail (view g.targets g.between (pool_at g s)) s.places s.own s.waiting

-- start k and its copy at offset q are there
pub record IsGood (g : Stage) (s : Reel) (k q : ℕ) : Type 0 where
  pub steady : IsSteady g.targets g.between (pool_at g s)
  pub generation : s.to.generation ≡ g.generation
  pub start : IsStart g.from k
  pub copy : IsStart s.to (q / 2)
  pub even : q % 2 ≡ 0

from_at : (g : Stage) (s : Reel) → IsStage g → numbered (pool_at g s).segments g.between.from ≡ g.from
from_at g s h = numbered-set_other g.pool.segments g.between.to g.between.from s.to h.apart ∙ h.from_is

to_at : (g : Stage) (s : Reel) → IsStage g → numbered (pool_at g s).segments g.between.to ≡ s.to
to_at g s h = numbered-set_same g.pool.segments g.between.to s.to h.within

-- a word of start k, as the territory has it
word_seen : (g : Stage) (s : Reel) (k q index : ℕ) → IsStage g → IsGood g s k q → index < 2 → word_at (told g s).territory (object_at g.between k) index ≡ get_or g.from.words (2 * k + index) 0
word_seen g s k q index h good i =
    let p : PoolView = pool_at g s in
    let from : Segment = numbered p.segments g.between.from in
    let is : from ≡ g.from = from_at g s h in
    let start : IsStart from k = subst (λ v. IsStart v k) (sym is) good.start in
    let has = started g.between.thread p g.between.from k good.steady.settled (object_parts g.targets g.between p k good.steady h.thread_in start).offset_in start in
    let place : 2 * k + skip_of from.space + index ≡ 2 * k + index = ap (λ v. 2 * k + skip_of v + index) good.steady.can.from_space ∙ (let zero : 2 * k + 0 + index ≡ 2 * k + index = omega arith in zero) in
    ap (λ o. get_or (words_of o) index 0) has
    ∙ (word_in from k index (omega (arith, count_pair from (first_at from k) good.steady.can.from_space))
    ∙ (ap (λ v. get_or from.words v 0) place ∙ ap (λ (v : Segment). get_or v.words (2 * k + index) 0) is))

-- ---- a pair that was reached

next_of : (g : Stage) (s t : Reel) (k q index j r : ℕ) → IsStage g → IsGood g s k q → index < 2 → IsReachedIn g.between g.from s t k q index j r → IsNext g.between (pool_at g s) q index j r
next_of g s t k q index j r h good i x =
    let to : s.to ≡ numbered (pool_at g s).segments g.between.to = sym (to_at g s h) in
    record {
      thread_in = h.thread_in;
      start = subst (λ v. IsStart v j) (sym (from_at g s h)) x.starts;
      copy = subst (λ v. IsStart v (q / 2)) to good.copy;
      even = good.even;
      index_in = i;
      room = subst (λ (v : Segment). (v.top + 2 ≤ length v.words) × (v.top < 2 * length v.births)) to x.room;
      offset = x.offset ∙ ap (λ (v : Segment). v.top) to;
    }

pool_next : (g : Stage) (s t : Reel) (k q index j r : ℕ) → IsStage g → (x : IsReachedIn g.between g.from s t k q index j r) → stepped (pool_at g s) g.between q index j x.word ≡ pool_at g t
pool_next g s t k q index j r h x =
    let p : PoolView = pool_at g s in
    let n : ℕ = g.between.to in
    let made : put_in (target p g.between j) (q / 2) index x.word ≡ t.to =
    ap (λ v. put_in (with_copy v (numbered p.segments g.between.from) j) (q / 2) index x.word) (to_at g s h)
    ∙ (ap (λ v. put_in (with_copy s.to v j) (q / 2) index x.word) (from_at g s h) ∙ sym x.to) in
    ap (λ v. record g.pool { segments = v }) (set-set g.pool.segments n s.to (put_in (target p g.between j) (q / 2) index x.word) ∙ ap (set g.pool.segments n) made)

stepping : (g : Stage) (s t : Reel) (k q index j r : ℕ) → IsStage g → IsGood g s k q → index < 2 → (x : IsReachedIn g.between g.from s t k q index j r) → IsStepped g.targets g.between (pool_at g s) (pool_at g t) q index j r x.word
stepping g s t k q index j r h good i x =
    subst (λ v. IsStepped g.targets g.between (pool_at g s) v q index j r x.word) (pool_next g s t k q index j r h x)
    (step g.targets g.between (pool_at g s) q index j r x.word good.steady (next_of g s t k q index j r h good i x))

can_here : (g : Stage) (s t : Reel) (k q index j r : ℕ) → IsStage g → IsGood g s k q → index < 2 → IsReachedIn g.between g.from s t k q index j r → CanCopy s.to g.from j
can_here g s t k q index j r h good i x =
    subst (λ v. CanCopy s.to v j) (from_at g s h)
    (subst (λ v. CanCopy v (numbered (pool_at g s).segments g.between.from) j) (to_at g s h)
    (can_copy g.targets g.between (pool_at g s) q index j r good.steady (next_of g s t k q index j r h good i x)))

-- what starts there still does
starts_next : (g : Stage) (s t : Reel) (k q index j r i : ℕ) → (x : IsReachedIn g.between g.from s t k q index j r) → IsStart (with_copy s.to g.from j) i → IsStart t.to i
starts_next g s t k q index j r i x start = subst (λ v. IsStart v i) (sym x.to) start

good_same : (g : Stage) (s t : Reel) (k q index j r : ℕ) → IsStage g → IsGood g s k q → index < 2 → IsReachedIn g.between g.from s t k q index j r → IsGood g t k q
good_same g s t k q index j r h good i x = record {
  steady = (stepping g s t k q index j r h good i x).steady;
  generation = ap (λ (v : Segment). v.generation) x.to ∙ good.generation;
  start = good.start;
  copy = starts_next g s t k q index j r (q / 2) x (start_copied g.from s.to j (q / 2) (can_here g s t k q index j r h good i x) good.copy);
  even = good.even;
}

good_next : (g : Stage) (s t : Reel) (k q index j r : ℕ) → IsStage g → IsGood g s k q → index < 2 → IsReachedIn g.between g.from s t k q index j r → IsGood g t j r
good_next g s t k q index j r h good i x =
    let c : CanCopy s.to g.from j = can_here g s t k q index j r h good i x in
    record {
      steady = (stepping g s t k q index j r h good i x).steady;
      generation = ap (λ (v : Segment). v.generation) x.to ∙ good.generation;
      start = x.starts;
      copy = starts_next g s t k q index j r (r / 2) x (subst (λ v. IsStart (with_copy s.to g.from j) (v / 2)) (sym x.offset) (start_new g.from s.to j c));
      even = ap (λ v. v % 2) x.offset ∙ c.sound.laid.even;
    }

reached_seen : (g : Stage) (s t : Reel) (k q index j r : ℕ) → IsStage g → IsGood g s k q → index < 2 → IsReachedIn g.between g.from s t k q index j r
    → IsReached g.generation (told g s) (told g t) (object_at g.between k) (copy_at g.between q) index (object_at g.between j) (copy_at g.between r)
reached_seen g s t k q index j r h good i x =
    let p : PoolView = pool_at g s in
    let u : IsStepped g.targets g.between p (pool_at g t) q index j r x.word = stepping g s t k q index j r h good i x in
    let same : (numbered p.segments g.between.to).generation ≡ g.generation = ap (λ (v : Segment). v.generation) (to_at g s h) ∙ good.generation in
    let from : g.from ≡ numbered p.segments g.between.from = sym (from_at g s h) in
    let made : IsMadeOf (object_at g.between j) g.between.thread g.between.from (2 * j) = address_of_parts g.between.thread g.between.from (2 * j) (object_parts g.targets g.between p j good.steady h.thread_in (subst (λ v. IsStart v j) from x.starts)) in
    let was : IsMadeOf (object_at g.between k) g.between.thread g.between.from (2 * k) = address_of_parts g.between.thread g.between.from (2 * k) (object_parts g.targets g.between p k good.steady h.thread_in (subst (λ v. IsStart v k) from good.start)) in
    let place : j ≡ offset_of (object_at g.between j) / 2 = omega (arith, made.its_offset) in
    let small : j < 256 = start_small (numbered p.segments g.between.from) j (good.steady.settled.sound g.between.from) (omega (arith, good.steady.can.from_size)) (subst (λ v. IsStart v j) from x.starts) in
    record {
      inside = omega (arith, small, made.its_offset);
      refers = ap value_of (word_seen g s k q index h good i) ∙ x.refers;
      segment = made.its_segment ∙ sym was.its_segment;
      thread = made.its_thread;
      unplaced = ap (λ v. get_or s.places v 0) (sym place) ∙ x.unplaced;
      start = u.start;
      has = u.has;
      pair = u.pair;
      mid = u.mid;
      copied = subst (λ v. IsCopyOf (told g s).territory u.mid (object_at g.between j) v (copy_at g.between r) u.start) same u.copied;
      word = x.word;
      word_is = x.word_is;
      put = subst (IsWordPut u.mid (told g t).territory (copy_at g.between q) index x.word) same u.put;
      places = x.places ∙ ap (λ v. set s.places v x.word) place;
      own = x.own;
    }

-- ---- the run

car_seen : (g : Stage) (s t : Reel) (k q : ℕ) → IsStage g → IsGood g s k q → IsCarSweptIn g.between g.from s t k q
    → IsGood g t k q × IsCarSwept g.generation (told g s) (told g t) (object_at g.between k) (copy_at g.between q)
car_seen g s t k q h good (inl (none, same)) =
    let zero : 2 * k + 0 ≡ 2 * k = omega arith in
    let word : word_at (told g s).territory (object_at g.between k) 0 ≡ get_or g.from.words (2 * k) 0 = word_seen g s k q 0 h good (omega arith) ∙ ap (λ v. get_or g.from.words v 0) zero in
    (subst (λ v. IsGood g v k q) (sym same) good, inl ((λ b e. none b (ap value_of (sym word) ∙ e)), ap (told g) same))
car_seen g s t k q h good (inr (j, r, x, waits)) =
    let i : 0 < 2 = omega arith in
    (good_same g s t k q 0 j r h good i x, inr (object_at g.between j, copy_at g.between r, reached_seen g s t k q 0 j r h good i x, waits))

-- ---- a pair that was taken

good_taken : (g : Stage) (s t : Reel) (k q j r : ℕ) → IsGood g s k q → IsTakenIn g.between g.from s t k j r → IsGood g t j r
good_taken g s t k q j r good x = subst (λ v. IsGood g v j r) (sym x.others) (record {
  steady = good.steady;
  generation = good.generation;
  start = x.starts;
  copy = x.copy;
  even = x.even;
})

taken_seen : (g : Stage) (s t : Reel) (k q j r : ℕ) → IsStage g → IsGood g s k q → IsTakenIn g.between g.from s t k j r
    → IsTaken g.generation (told g s) (told g t) (object_at g.between k) (object_at g.between j) (copy_at g.between r)
taken_seen g s t k q j r h good x =
    let p : PoolView = pool_at g s in
    let n : ℕ = g.between.to in
    let to : Segment = numbered p.segments n in
    let at_from : (i : ℕ) → IsStart g.from i → IsStart (numbered p.segments g.between.from) i = λ i e. subst (λ v. IsStart v i) (sym (from_at g s h)) e in
    let made : (i : ℕ) → IsStart g.from i → IsMadeOf (object_at g.between i) g.between.thread g.between.from (2 * i) = λ i e. address_of_parts g.between.thread g.between.from (2 * i) (object_parts g.targets g.between p i good.steady h.thread_in (at_from i e)) in
    let copy : IsStart to (r / 2) = subst (λ v. IsStart v (r / 2)) (sym (to_at g s h)) x.copy in
    let small : r / 2 < 256 = start_small to (r / 2) (good.steady.settled.sound n) (omega (arith, good.steady.can.to_size)) copy in
    let two : 2 * (r / 2) ≡ r = omega (arith, x.even) in
    record {
      nothing = λ c e. x.nothing c (ap value_of (sym (word_seen g s k q 1 h good (omega arith))) ∙ e);
      segment = (made j x.starts).its_segment ∙ sym (made k good.start).its_segment;
      thread = (made j x.starts).its_thread;
      pair = (
        start_of (numbered p.segments g.between.from) j,
        started g.between.thread p g.between.from j good.steady.settled (object_parts g.targets g.between p j good.steady h.thread_in (at_from j x.starts)).offset_in (at_from j x.starts),
        pair_kind (numbered p.segments g.between.from) j good.steady.can.from_space,
      );
      copy_thread = (address_of_parts g.between.thread n r (copy_parts g.targets g.between p r good.steady h.thread_in (omega arith) x.even)).its_thread;
      copy = start_of to (r / 2);
      has = subst (λ v. get (told g s).territory.starts (address_of g.between.thread n v) ≡ Some (start_of to (r / 2))) two (started g.between.thread p n (r / 2) good.steady.settled (omega arith) copy);
      copy_pair = pair_kind to (r / 2) good.steady.can.to_space;
      generation = ap (λ (v : Segment). v.generation) (to_at g s h) ∙ good.generation;
      waited = x.waited;
      others = ap (told g) x.others;
    }

cdr_seen : (g : Stage) (s t : Reel) (k q j r : ℕ) → IsStage g → IsGood g s k q → IsCdrSweptIn g.between g.from s t k q j r
    → IsGood g t j r × IsCdrSwept g.generation (told g s) (told g t) (object_at g.between k) (copy_at g.between q) (object_at g.between j) (copy_at g.between r)
cdr_seen g s t k q j r h good (inl (x, waits)) =
    let i : 1 < 2 = omega arith in
    (good_next g s t k q 1 j r h good i x, inl (reached_seen g s t k q 1 j r h good i x, waits))
cdr_seen g s t k q j r h good (inr x) = (good_taken g s t k q j r good x, inr (taken_seen g s t k q j r h good x))

pub trail_told : (g : Stage) (s t : Reel) (k q j r : ℕ) (swept : Bool) → IsStage g → IsGood g s k q → IsTrailIn g.between g.from s k q t j r swept
    → IsGood g t j r × IsTrail g.generation (told g s) (object_at g.between k) (copy_at g.between q) (told g t) (object_at g.between j) (copy_at g.between r) swept
trail_told g s t k q j r swept h good trail_in =
    trail_followed (IsGood g) (told g) (object_at g.between) (copy_at g.between) (IsCarSweptIn g.between g.from) (IsCdrSweptIn g.between g.from) (IsCarSwept g.generation) (IsCdrSwept g.generation)
    (record { car = λ a b c d good' e. car_seen g a b c d h good' e; cdr = λ a b c d e f good' i. cdr_seen g a b c d e f h good' i })
    s t k q j r swept good trail_in

-- ---- for the answers

-- a pair of the territory: start k of segment n
pub record IsPairIn (thread : ℕ) (p : PoolView) (now : TerritoryView) (a n k : ℕ) : Type 0 where
  pub pair : Start
  pub has : get now.starts a ≡ Some pair
  pub within : n < length p.segments
  pub start : IsStart (numbered p.segments n) k
  pub generation : pair.generation ≡ (numbered p.segments n).generation
  pub offset : offset_of a ≡ 2 * k
  pub address : a ≡ address_of thread n (2 * k)

pub pair_in : (thread : ℕ) (p : PoolView) (targets : Targets) (now : TerritoryView) (a n k : ℕ) → IsSettled p → territory_view thread p targets ≡ now → IsPairAt now a → n ≡ segment_of a → k ≡ offset_of a / 2 → IsPairIn thread p now a n k
pair_in thread p targets now a n k s e (x, has, kind) is ks =
    let u : IsPresent thread p.segments a x = present thread p a x s (ap (λ (v : TerritoryView). get v.starts a) e ∙ has) in
    let offset : offset_of a ≡ 2 * k = u.even ∙ ap (λ v. 2 * v) (sym ks) in
    record {
      pair = x;
      has = has;
      within = subst (λ v. v < length p.segments) (sym is) u.within;
      start = subst (λ v. IsStart (numbered p.segments n) v) (sym ks) (subst (λ v. IsStart (numbered p.segments v) (offset_of a / 2)) (sym is) u.starts);
      generation = ap (λ (v : Start). v.generation) u.object ∙ ap (λ v. (numbered p.segments v).generation) (sym is);
      offset = offset;
      address = sym (address_of-its_parts a)
          ∙ (ap (λ v. address_of v (segment_of a) (offset_of a)) u.thread_is
          ∙ (ap (λ v. address_of thread v (offset_of a)) (sym is) ∙ ap (address_of thread n) offset));
    }

-- nothing was followed
pub trail_none : (g : ℕ) (old new : Trail) (a q : ℕ) → new ≡ old → IsTrail g old a q new a q false
trail_none g old new a q same = record { count = 0; mid = old; followed = (refl, refl, refl); car = same }

pub trail_same : (g g' : ℕ) (old old' new new' : Trail) (a a' q q' b b' r r' : ℕ) (swept : Bool) → g ≡ g' → old ≡ old' → new ≡ new' → a ≡ a' → q ≡ q' → b ≡ b' → r ≡ r' → IsTrail g old a q new b r swept → IsTrail g' old' a' q' new' b' r' swept
trail_same g g' old old' new new' a a' q q' b b' r r' swept eg eo en ea eq eb er h =
    subst (λ v. IsTrail v old' a' q' new' b' r' swept) eg
    (subst (λ v. IsTrail g v a' q' new' b' r' swept) eo
    (subst (λ v. IsTrail g old a' q' v b' r' swept) en
    (subst (λ v. IsTrail g old v q' new b' r' swept) ea
    (subst (λ v. IsTrail g old a v new b' r' swept) eq
    (subst (λ v. IsTrail g old a q new v r' swept) eb
    (subst (λ v. IsTrail g old a q new b v swept) er h))))))

-- the pool from which pairs are followed
pub record IsBegin (targets : Targets) (between : Between) (p : PoolView) (k q : ℕ) : Type 0 where
  pub steady : IsSteady targets between p
  pub thread_in : between.thread < THREADS
  pub start : IsStart (numbered p.segments between.from) k
  pub copy : IsStart (numbered p.segments between.to) (q / 2)
  pub even : q % 2 ≡ 0

-- the pool in which they were
pub record IsEnd (targets : Targets) (between : Between) (p new : PoolView) (s t : Reel) (k q j r : ℕ) (swept : Bool) : Type 0 where
  pub begin : IsBegin targets between new j r
  pub trail_is : IsTrail (numbered p.segments between.to).generation (trail (view targets between p) s.places s.own s.waiting) (object_at between k) (copy_at between q)
      (trail (view targets between new) t.places t.own t.waiting) (object_at between j) (copy_at between r) swept

pub ended : (targets : Targets) (between : Between) (p new : PoolView) (s t : Reel) (k q j r : ℕ) (swept : Bool) → IsBegin targets between p k q → s.to ≡ numbered p.segments between.to → t.to ≡ numbered new.segments between.to
    → new ≡ with_segment p between.to (numbered new.segments between.to) → IsTrailIn between (numbered p.segments between.from) s k q t j r swept → IsEnd targets between p new s t k q j r swept
ended targets between p new s t k q j r swept b s_is t_is new_is followed =
    let n : ℕ = between.to in
    let g : Stage = record { targets = targets; between = between; pool = p; from = numbered p.segments between.from; generation = (numbered p.segments n).generation } in
    let h : IsStage g = record { thread_in = b.thread_in; apart = b.steady.can.apart; within = to_within targets between p b.steady; from_is = refl } in
    let same : p ≡ pool_at g s = ap (λ v. record p { segments = v }) (sym (set-get_or p.segments n vacant) ∙ ap (set p.segments n) (sym s_is)) in
    let then : pool_at g t ≡ new = ap (with_segment p n) t_is ∙ sym new_is in
    let good : IsGood g s k q = record {
      steady = subst (IsSteady targets between) same b.steady;
      generation = ap (λ (v : Segment). v.generation) s_is;
      start = b.start;
      copy = subst (λ v. IsStart v (q / 2)) (sym s_is) b.copy;
      even = b.even;
    } in
    let both : IsGood g t j r × IsTrail g.generation (told g s) (object_at between k) (copy_at between q) (told g t) (object_at between j) (copy_at between r) swept = trail_told g s t k q j r swept h good followed in
    let from : numbered p.segments between.from ≡ numbered new.segments between.from = sym (from_at g t h) ∙ ap (λ (v : PoolView). numbered v.segments between.from) then in
    record {
      begin = record {
        steady = subst (IsSteady targets between) then both.0.steady;
        thread_in = b.thread_in;
        start = subst (λ v. IsStart v j) from both.0.start;
        copy = subst (λ v. IsStart v (r / 2)) t_is both.0.copy;
        even = both.0.even;
      };
      trail_is = subst (λ v. IsTrail g.generation (trail (view targets between p) s.places s.own s.waiting) (object_at between k) (copy_at between q) (trail (view targets between v) t.places t.own t.waiting) (object_at between j) (copy_at between r) swept) then
          (subst (λ v. IsTrail g.generation (trail (view targets between v) s.places s.own s.waiting) (object_at between k) (copy_at between q) (told g t) (object_at between j) (copy_at between r) swept) (sym same) both.1);
    }

-- the addresses where it ended
pub end_parts : (targets : Targets) (between : Between) (p : PoolView) (k q : ℕ) → IsBegin targets between p k q → HasParts between.thread between.from (2 * k) × HasParts between.thread between.to q
end_parts targets between p k q b =
    let small : q / 2 < 256 = start_small (numbered p.segments between.to) (q / 2) (b.steady.settled.sound between.to) (omega (arith, b.steady.can.to_size)) b.copy in
    (object_parts targets between p k b.steady b.thread_in b.start, copy_parts targets between p q b.steady b.thread_in (omega (arith, b.even)) b.even)

-- all of it, from what `follow` knows of its arguments
pub led : (targets : Targets) (between : Between) (now : TerritoryView) (p new : PoolView) (object copy k o : ℕ) (s t : Reel) (j r : ℕ) (swept : Bool) → between.thread < THREADS → IsSettled p → AreUsed p.segments → IsBetween p.segments targets
    → territory_view between.thread p targets ≡ now → IsPairAt now object → IsPairAt now copy → between.from ≡ segment_of object → k ≡ offset_of object / 2 → between.to ≡ segment_of copy → o ≡ offset_of copy → o % 2 ≡ 0 → CanFollow p between
    → s.to ≡ numbered p.segments between.to → t.to ≡ numbered new.segments between.to → new ≡ with_segment p between.to (numbered new.segments between.to)
    → IsTrailIn between (numbered p.segments between.from) s k o t j r swept → IsEnd targets between p new s t k o j r swept
led targets between now p new object copy k o s t j r swept small settled used unheld e at_object at_copy from_is k_is to_is o_is even can s_is t_is new_is followed =
    ended targets between p new s t k o j r swept
    (record {
      steady = record { settled = settled; used = used; unheld = unheld; can = can };
      thread_in = small;
      start = (pair_in between.thread p targets now object between.from k settled e at_object from_is k_is).start;
      copy = (pair_in between.thread p targets now copy between.to (o / 2) settled e at_copy to_is (ap (λ v. v / 2) o_is)).start;
      even = even;
    }) s_is t_is new_is followed

-- the run as contracts tell it
pub trail_led : (targets : Targets) (between : Between) (now : TerritoryView) (p new : PoolView) (object copy k o : ℕ) (s t : Reel) (old_waiting : List (ℕ × ℕ)) (j r b a : ℕ) (swept : Bool) → IsSettled p
    → territory_view between.thread p targets ≡ now → IsPairAt now object → IsPairAt now copy → between.from ≡ segment_of object → k ≡ offset_of object / 2 → between.to ≡ segment_of copy → o ≡ offset_of copy → o % 2 ≡ 0
    → s.waiting ≡ old_waiting → b ≡ object_at between j → a ≡ copy_at between r → IsEnd targets between p new s t k o j r swept
    → IfSome (get now.starts copy) (λ y. IsTrail y.generation (trail now s.places s.own old_waiting) object copy (trail (view targets between new) t.places t.own t.waiting) b a swept)
trail_led targets between now p new object copy k o s t old_waiting j r b a swept settled e at_object at_copy from_is k_is to_is o_is even waits b_is a_is done =
    let x = pair_in between.thread p targets now object between.from k settled e at_object from_is k_is in
    let y = pair_in between.thread p targets now copy between.to (o / 2) settled e at_copy to_is (ap (λ v. v / 2) o_is) in
    let two : 2 * (o / 2) ≡ o = omega arith in
    let seen : trail (view targets between p) s.places s.own s.waiting ≡ trail now s.places s.own old_waiting = ap (λ v. trail v s.places s.own s.waiting) e ∙ ap (trail now s.places s.own) waits in
    if_some (get now.starts copy) y.pair (λ v. IsTrail v.generation (trail now s.places s.own old_waiting) object copy (trail (view targets between new) t.places t.own t.waiting) b a swept) y.has
    (trail_same _ y.pair.generation _ _ _ (trail (view targets between new) t.places t.own t.waiting) _ object _ copy _ b _ a swept (sym y.generation) seen refl (sym x.address) (sym (y.address ∙ ap (copy_at between) two)) (sym b_is) (sym a_is) done.trail_is)
