-- A copy in a segment of its own: `p` is the pool with a number taken for it, and q the segment that is opened there.
use Rattle.std.proofs.Common.{◌≡◌, ◌≢◌, ℕ, ◌<◌, ◌≤◌, true, false, List, ◌++◌, length, get_or, set, Result, Ok, Err, OnOk, sym, ◌∙◌, ap, arith, ◌+◌, ◌*◌, subst, refl, cond, take, drop}
use Rattle.std.proofs.lemmas.List.{take_at, length-set, length-replicate, get_or_read, get_or_default, set-set}
use Rattle.gc_words.specs.declared.address.TheConstants.{SEGMENTS, OFFSETS}
use Rattle.seg_chain.specs.Lists.{chain_of, link_count, moved, EachOnce}
use Rattle.segment.specs.declared.space.Space.{Space}
use Rattle.segment.specs.declared.space.Space.TheVariants as space
use Rattle.segment.specs.declared.segment.Role.TheVariants.{Free}
use Rattle.segment.specs.Segments.{Segment, IsStart, is_free, vacant, first_at, IsSound, HasRoom, size_at, opened}
use Rattle.segment.specs.Copies.{opened_copy, with_copy}
use Rattle.segment.specs.Layout as layout
use Rattle.segment.specs.Layout.{size_of}
use Rattle.segment.proofs.Copies.{source_fits}
use Rattle.territory.specs.Pools.{numbered, PoolView, IsSettled, is_cell_space}
use Rattle.territory.specs.Copies.{with_opened, with_copied, IsLargeCopy}
use Rattle.territory.specs.Changes.{IsSame, IsTaken, IsOpened}
use Rattle.territory.proofs.Numbers.{used_within, numbered-set_same, numbered-set_other}
use Rattle.territory.proofs.Copied.{changed_up, changed_down, CanCopy, copy_words, settled_copied}
use Rattle.territory.proofs.Listing.{free_of}
use Rattle.territory.proofs.Opened.{settled_opened, words_fit}

if_ok : {A E : Type 0} {P Q : Type 0} (r : Result A E) → (P → Q) → OnOk r P → OnOk r Q
if_ok (Ok x) f p = f p
if_ok (Err e) f p = tt

-- a segment in use is no free one
apart : (segments : List Segment) (from k n : ℕ) → IsStart (numbered segments from) k → is_free (numbered segments n).role ≡ true → from ≢ n
apart segments from k n start free e = let c : false ≡ true = sym start.0 ∙ (ap (λ v. is_free (numbered segments v).role) e ∙ free) in cc

pub opened_up : {A E : Type 0} (r : Result A E) (segments front back : List Segment) (from k n g : ℕ) (q new : Segment) → segments ≡ front ++ back → length front ≡ n → n < length segments → from < n
    → OnOk r (new ≡ opened_copy (get_or front from q) k g) → OnOk r (front ++ set back 0 new ≡ with_opened segments from k n g)
opened_up r segments front back from k n g q new e l within lt is = if_ok r (changed_up (λ v w. opened_copy w k g) segments front back from n q q new e l within lt) is

pub opened_down : {A E : Type 0} (r : Result A E) (segments front back : List Segment) (from k n g : ℕ) (q new : Segment) → segments ≡ front ++ back → length front ≡ from → IsStart (numbered segments from) k
    → is_free (numbered segments n).role ≡ true → n ≤ from → OnOk r (new ≡ opened_copy (get_or back 0 q) k g) → OnOk r (set front n new ++ back ≡ with_opened segments from k n g)
opened_down r segments front back from k n g q new e l start free le is =
    let ne : from ≢ n = apart segments from k n start free in
    if_ok r (changed_down (λ v w. opened_copy w k g) segments front back from n q q new e l (used_within segments from start.0) (omega arith)) is

-- what is written into a part of a list that is all of it
written : (items new : List Segment) (len : ℕ) → length new ≡ len → length items ≡ len → take len (new ++ drop (length new) items) ≡ new
written items new len e l = ap (λ v. take v (new ++ drop (length new) items)) (sym e) ∙ take_at new (drop (length new) items) (length new) refl

-- ... where that part was read before
pub opened_in : (items read new : List Segment) (from k n g len : ℕ) → new ≡ with_opened read from k n g → read ≡ items → length items ≡ len → take len (new ++ drop (length new) items) ≡ with_opened items from k n g
opened_in items read new from k n g len is e l =
    let same : new ≡ with_opened items from k n g = is ∙ ap (λ v. with_opened v from k n g) e in
    written items new len (ap length same ∙ (length-set items n (opened_copy (numbered items from) k g) ∙ l)) l ∙ same

-- a queue cell has two words
cell_small : (s : Space) (first : ℕ) → 128 < size_of s first → is_cell_space s ≡ false
unfolding size_of layout.count_of layout.kind_of
cell_small space.Cell first large = let two : size_of space.Cell first ≡ 2 = refl in absurd (omega arith)
cell_small space.Pair first large = refl
cell_small space.Weak first large = refl
cell_small space.Ephemeron first large = refl
cell_small space.Typed first large = refl
cell_small space.Raw first large = refl
cell_small space.Immobile first large = refl
cell_small space.ImmobileRaw first large = refl

-- ---- the copy: `old` is the pool before, `p` and `now` are the one with the number n taken, and `lists` are those
-- afterwards
pub record IsNumbered (p now old : PoolView) (from k g n to : ℕ) (lists : List (List ℕ)) : Type 0 where
  pub seen : p ≡ now
  pub settled : IsSettled now
  pub same : IsSame old now
  pub taken : IsTaken old now n
  pub start : IsStart (numbered old.segments from) k
  pub large : 128 < size_at (numbered old.segments from) k
  pub small : g < 9
  pub to_is : to ≡ g
  pub lists_are : lists ≡ moved p.lists 0 (1 + to) n
  pub links : link_count lists ≡ link_count p.lists
  pub once : EachOnce lists

-- q is the segment that is opened, of so many words, and `segments` are those afterwards
pub record IsOpening (p now old : PoolView) (from k g n to words : ℕ) (segments : List Segment) (q : Segment) (lists : List (List ℕ)) : Type 0 where
  pub number : IsNumbered p now old from k g n to lists
  pub segments_are : segments ≡ with_opened p.segments from k n g
  pub its_segment : q ≡ get_or segments n q
  pub its_words : words ≡ length q.words

-- the segment as it is opened first, and the pool between the two
abbrev fresh : PoolView → ℕ → ℕ → ℕ → Segment
fresh old from k g = opened (numbered old.segments from).space g (size_at (numbered old.segments from) k) 1

abbrev between : PoolView → PoolView → ℕ → ℕ → ℕ → ℕ → List (List ℕ) → PoolView
between p old from k g n lists = record p {
  segments = set p.segments n (fresh old from k g);
  lists = lists;
  counts = record p.counts { segment_words = p.counts.segment_words + size_at (numbered old.segments from) k };
}

source_is : (p now old : PoolView) (from k g n to : ℕ) (lists : List (List ℕ)) → IsNumbered p now old from k g n to lists → (m : ℕ) → numbered p.segments m ≡ numbered old.segments m
source_is p now old from k g n to lists o m = ap (λ (v : PoolView). numbered v.segments m) o.seen ∙ o.same.segments m

-- number n is free, and the start is in another segment
was_free : (p now old : PoolView) (from k g n to : ℕ) (lists : List (List ℕ)) → IsNumbered p now old from k g n to lists → (numbered old.segments n).role ≡ Free
was_free p now old from k g n to lists o =
    ap (λ (v : Segment). v.role) (sym (o.same.segments n)) ∙ free_of (numbered now.segments n) (o.settled.listed.fits 0 n o.taken.loose)

other : (p now old : PoolView) (from k g n to : ℕ) (lists : List (List ℕ)) → IsNumbered p now old from k g n to lists → from ≢ n
other p now old from k g n to lists o = apart old.segments from k n o.start (ap is_free (was_free p now old from k g n to lists o))

size_fits : (p now old : PoolView) (from k g n to : ℕ) (lists : List (List ℕ)) → IsNumbered p now old from k g n to lists → size_at (numbered old.segments from) k ≤ OFFSETS
size_fits p now old from k g n to lists o =
    let w : Segment = numbered old.segments from in
    let sound : IsSound w = subst IsSound (o.same.segments from) (o.settled.sound from) in
    let f : (2 * k + size_at w k ≤ length w.words) × (k < length w.births) × (2 ≤ size_at w k) = source_fits w w k (size_at w k) sound refl o.start refl in
    omega (arith, sound.small)

opened_first : (p now old : PoolView) (from k g n to : ℕ) (lists : List (List ℕ)) → IsNumbered p now old from k g n to lists
    → IsOpened old (between p old from k g n lists) (numbered old.segments from).space g (size_at (numbered old.segments from) k) 1 n
opened_first p now old from k g n to lists o =
    let within : n < length p.segments = subst (λ (v : PoolView). n < length v.segments) (sym o.seen) o.taken.within in
    record {
      next = o.taken.next;
      lists = o.lists_are ∙ (ap (λ v. moved p.lists 0 (1 + v) n) o.to_is ∙ ap (λ v. moved v 0 (1 + g) n) (ap (λ (v : PoolView). v.lists) o.seen ∙ o.taken.lists));
      within = omega (arith, length-set p.segments n (fresh old from k g));
      was_free = was_free p now old from k g n to lists o;
      here = numbered-set_same p.segments n (fresh old from k g) within;
      others = λ m ne. numbered-set_other p.segments n m (fresh old from k g) ne ∙ source_is p now old from k g n to lists o m;
      dirty = ap (λ (v : PoolView). chain_of v.dirty 1) o.seen ∙ o.same.dirty;
    }

settled_first : (p now old : PoolView) (from k g n to : ℕ) (lists : List (List ℕ)) → IsNumbered p now old from k g n to lists → IsSettled (between p old from k g n lists)
settled_first p now old from k g n to lists o =
    let w : Segment = numbered old.segments from in
    settled_opened p now old n w.space g (size_at w k) 1 (fresh old from k g) lists to o.seen o.settled o.taken o.small (omega (arith, o.large)) (λ several. absurd (omega arith))
    (size_fits p now old from k g n to lists o) refl o.to_is o.lists_are o.links o.once

-- and the start is copied then
copied_then : (p now old : PoolView) (from k g n to words : ℕ) (segments : List Segment) (q : Segment) (lists : List (List ℕ)) → IsOpening p now old from k g n to words segments q lists
    → segments ≡ with_copied (between p old from k g n lists).segments from k n
copied_then p now old from k g n to words segments q lists o =
    let f : Segment = fresh old from k g in
    let w : Segment = numbered old.segments from in
    let within : n < length p.segments = subst (λ (v : PoolView). n < length v.segments) (sym o.number.seen) o.number.taken.within in
    let here : numbered (set p.segments n f) n ≡ f = numbered-set_same p.segments n f within in
    let there : numbered (set p.segments n f) from ≡ w = (opened_first p now old from k g n to lists o.number).others from (other p now old from k g n to lists o.number) in
    let same : numbered p.segments from ≡ w = source_is p now old from k g n to lists o.number from in
    o.segments_are
    ∙ (ap (λ v. set p.segments n (opened_copy v k g)) same
    ∙ sym (ap (λ v. set (set p.segments n f) n (with_copy v (numbered (set p.segments n f) from) k)) here
    ∙ (ap (λ v. set (set p.segments n f) n (with_copy f v k)) there ∙ set-set p.segments n f (with_copy f w k))))

can_copy : (p now old : PoolView) (from k g n to : ℕ) (lists : List (List ℕ)) → IsNumbered p now old from k g n to lists
    → CanCopy (fresh old from k g) (numbered old.segments from) k
can_copy p now old from k g n to lists o =
    let w : Segment = numbered old.segments from in
    record {
      sound = subst IsSound (opened_first p now old from k g n to lists o).here ((settled_first p now old from k g n to lists o).sound n);
      source_sound = subst IsSound (o.same.segments from) (o.settled.sound from);
      in_use = refl;
      start = o.start;
      space = refl;
      room = (omega (arith, length-replicate {A = ℕ} (size_at w k) 0), omega (arith, length-replicate {A = ℕ} 1 0));
    }

words_are : (p now old : PoolView) (from k g n to words : ℕ) (segments : List Segment) (q : Segment) (lists : List (List ℕ)) → IsOpening p now old from k g n to words segments q lists → words ≡ size_at (numbered old.segments from) k
words_are p now old from k g n to words segments q lists o =
    let w : Segment = numbered old.segments from in
    let f : Segment = fresh old from k g in
    let mid : PoolView = between p old from k g n lists in
    let first : IsOpened old mid w.space g (size_at w k) 1 n = opened_first p now old from k g n to lists o.number in
    let new : Segment = with_copy (numbered mid.segments n) (numbered mid.segments from) k in
    let are : segments ≡ set mid.segments n new = copied_then p now old from k g n to words segments q lists o in
    let within : n < length segments = omega (arith, first.within, ap length are, length-set mid.segments n new) in
    let there : numbered mid.segments from ≡ w = first.others from (other p now old from k g n to lists o.number) in
    let q_is : q ≡ with_copy f w k = get_or_read segments n q within o.its_segment vacant ∙ (ap (λ v. numbered v n) are ∙ (numbered-set_same mid.segments n new first.within
    ∙ (ap (λ v. with_copy v (numbered mid.segments from) k) first.here ∙ ap (λ v. with_copy f v k) there))) in
    o.its_words ∙ (ap (λ (v : Segment). length v.words) q_is ∙ (copy_words f w k (can_copy p now old from k g n to lists o.number) ∙ length-replicate {A = ℕ} (size_at w k) 0))

-- ---- for the answers

pub settled_large : (p now old : PoolView) (from k g n to words : ℕ) (segments : List Segment) (q : Segment) (lists : List (List ℕ)) → IsOpening p now old from k g n to words segments q lists
    → IsSettled (record p { segments = segments; lists = lists; counts = record p.counts { segment_words = p.counts.segment_words + words } })
settled_large p now old from k g n to words segments q lists o =
    let w : Segment = numbered old.segments from in
    let mid : PoolView = between p old from k g n lists in
    let first : IsOpened old mid w.space g (size_at w k) 1 n = opened_first p now old from k g n to lists o.number in
    let c : CanCopy (fresh old from k g) w k = can_copy p now old from k g n to lists o.number in
    let there : numbered mid.segments from ≡ w = first.others from (other p now old from k g n to lists o.number) in
    let no_cell : is_cell_space (numbered mid.segments n).space ≡ false = ap (λ (v : Segment). is_cell_space v.space) first.here ∙ cell_small w.space (first_at w k) o.number.large in
    let done : IsSettled (record mid { segments = segments; counts = record mid.counts { cells = mid.counts.cells + 0 } }) =
    settled_copied mid mid from k n (size_at w k) 0 segments (numbered mid.segments n) refl (settled_first p now old from k g n to lists o.number)
    (subst (λ v. IsStart v k) (sym there) o.number.start) (ap (λ v. size_at v k) (sym there)) first.within (ap (λ (v : Segment). is_free v.role) first.here)
    (ap (λ (v : Segment). v.space) there ∙ ap (λ (v : Segment). v.space) (sym first.here)) (subst (λ v. HasRoom v (size_at w k)) (sym first.here) c.room)
    (copied_then p now old from k g n to words segments q lists o) (get_or_default mid.segments n vacant (numbered mid.segments n) first.within) (ap (λ b. cond b 1 0) (sym no_cell)) in
    let cells : mid.counts.cells + 0 ≡ p.counts.cells = omega arith in
    subst (λ v. IsSettled (record p { segments = segments; lists = lists; counts = record p.counts { segment_words = p.counts.segment_words + v } })) (sym (words_are p now old from k g n to words segments q lists o))
    (subst (λ v. IsSettled (record mid { segments = segments; counts = record mid.counts { cells = v } })) cells done)

pub large_copy : (p now old : PoolView) (from k g n to words : ℕ) (segments : List Segment) (q : Segment) (lists : List (List ℕ)) → IsOpening p now old from k g n to words segments q lists
    → IsLargeCopy old (record p { segments = segments; lists = lists; counts = record p.counts { segment_words = p.counts.segment_words + words } }) from k g n
large_copy p now old from k g n to words segments q lists o = record {
  mid = between p old from k g n lists;
  settled = settled_first p now old from k g n to lists o.number;
  opened = opened_first p now old from k g n to lists o.number;
  segments = copied_then p now old from k g n to words segments q lists o;
  lists = refl;
  dirty = refl;
  areas = ap (λ (v : PoolView). v.areas) o.number.seen ∙ o.number.same.areas;
  same_areas = refl;
}

-- the counter does not overflow
pub large_fits : (p now old : PoolView) (from k g n to words : ℕ) (segments : List Segment) (q : Segment) (lists : List (List ℕ)) → IsOpening p now old from k g n to words segments q lists
    → p.counts.segment_words + words ≤ SEGMENTS * OFFSETS + OFFSETS
large_fits p now old from k g n to words segments q lists o =
    omega (arith, words_fit p now o.number.seen o.number.settled, words_are p now old from k g n to words segments q lists o, size_fits p now old from k g n to lists o.number)
