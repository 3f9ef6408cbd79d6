-- One pair that was reached by following, in the territory: the pool with a copy, and then with a word put.
use Rattle.std.proofs.Common.{◌≡◌, ℕ, ◌+◌, ◌*◌, ◌/◌, ◌%◌, ◌<◌, false, cond, nat_lt, length, set, Option, Some, IsSome, IfSome, refl, sym, ◌∙◌, ap, subst, arith}
use Rattle.std.proofs.lemmas.Bool.Decides.{nat_tests}
use Rattle.std.proofs.lemmas.List.{get_or_default, length-set, set-set}
use Rattle.std.specs.FinMap.{get, insert}
use Rattle.std.specs.List.{slice_get}
use Rattle.gc_words.specs.declared.address.TheConstants.{SEGMENTS, OFFSETS, THREADS}
use Rattle.gc_words.specs.Layout.{HasParts, IsMadeOf, address_of, segment_of}
use Rattle.gc_words.proofs.LayoutLaws.{address_of_parts, address_of_valid}
use Rattle.trace_types.specs.declared.kind.Kind.TheVariants.{Pair}
use Rattle.segment.specs.declared.space.Space.TheVariants as space
use Rattle.segment.specs.declared.segment.Role.{Role}
use Rattle.segment.specs.declared.segment.Role.TheVariants.{Current}
use Rattle.segment.specs.Layout.{kind_of}
use Rattle.segment.specs.Segments.{HasRoom, IsSound, IsStart, Segment, Start, vacant, first_at, is_free, object_at as start_of, place_in, put_in, size_at, words_at}
use Rattle.segment.specs.Copies.{with_copy}
use Rattle.segment.proofs.Spots.{spot_start}
use Rattle.territory.specs.declared.territory.Targets.{Targets}
use Rattle.territory.specs.declared.pool.following.Between.{Between}
use Rattle.territory.specs.Territories.{AreCardsSound, TerritoryView, needs_mark, words_of}
use Rattle.territory.specs.Pools.{is_cell_space, PoolView, AreUsed, IsSettled, is_from_role, numbered, starts_of, territory_view}
use Rattle.territory.specs.Changes.{IsRoom}
use Rattle.territory.specs.Copies.{IsPlacedLike, RefersToNoneBelow, copy_in, with_copied}
use Rattle.territory.specs.FinishedPools.{IsBetween}
use Rattle.territory.specs.Following.{IsCopyOf, IsWordPut}
use Rattle.territory.specs.FollowedSegments.{CanFollow, copy_at, object_at, with_segment}
use Rattle.territory.proofs.Allocated.{address_is}
use Rattle.territory.proofs.Copied.{CanCopy, copy_words, settled_copied}
use Rattle.territory.proofs.Copying.{IsCopied, IsRead, no_start, read, told_starts, told_place, told_sound, used_copy}
use Rattle.territory.proofs.Entries.{get-starts}
use Rattle.territory.proofs.Numbers.{numbered-set_same, numbered-set_other, used_within}
use Rattle.territory.proofs.Putting.{IsHere, put_here, unmarked_put, with_put}
use Rattle.territory.proofs.Reeling.{start_small, pair_length, size_pair, start_copied}
use Rattle.territory.proofs.Roomy.{open_within, room_open}
use Rattle.territory.proofs.Slots.{all_small, start_here}
use Rattle.territory.proofs.Unheld.{between_copied, between_put}
use Rattle.territory.proofs.Worded.{IsPut, put_view, put_sound, used_put}

-- what the map has at the address of a start
pub started : (thread : ℕ) (p : PoolView) (n k : ℕ) → IsSettled p → 2 * k < OFFSETS → IsStart (numbered p.segments n) k → get (starts_of (thread * SEGMENTS) p.segments) (address_of thread n (2 * k)) ≡ Some (start_of (numbered p.segments n) k)
started thread p n k s small start =
    get-starts (thread * SEGMENTS) p.segments (all_small p.segments s.sound) (address_of thread n (2 * k))
    ∙ (start_here (thread * SEGMENTS) p.segments n k (address_of thread n (2 * k)) small (address_is (address_of thread n (2 * k)) thread n (2 * k) (2 * k) refl refl) ∙ spot_start (numbered p.segments n) k start)

pub pair_kind : (p : Segment) (k : ℕ) → p.space ≡ space.Pair → (start_of p k).kind ≡ Pair
unfolding kind_of
pair_kind p k e = ap (λ s. kind_of s (first_at p k)) e

-- ---- what a pool is in which pairs are followed

pub record IsSteady (targets : Targets) (between : Between) (p : PoolView) : Type 0 where
  pub settled : IsSettled p
  pub used : AreUsed p.segments
  pub unheld : IsBetween p.segments targets
  pub can : CanFollow p between

-- start j of the one segment fits the other one, and word `index` of start q / 2 of that can be put
pub record IsNext (between : Between) (p : PoolView) (q index j r : ℕ) : Type 0 where
  pub thread_in : between.thread < THREADS
  pub start : IsStart (numbered p.segments between.from) j
  pub copy : IsStart (numbered p.segments between.to) (q / 2)
  pub even : q % 2 ≡ 0
  pub index_in : index < 2
  pub room : HasRoom (numbered p.segments between.to) 2
  pub offset : r ≡ (numbered p.segments between.to).top

abbrev pub copied_pool : PoolView → Between → ℕ → PoolView
copied_pool p between j = record p { segments = with_copied p.segments between.from j between.to }

abbrev pub view : Targets → Between → PoolView → TerritoryView
view targets between p = territory_view between.thread p targets

pub to_within : (targets : Targets) (between : Between) (p : PoolView) → IsSteady targets between p → between.to < length p.segments
to_within targets between p s = open_within p p (numbered p.segments between.to).generation between.to refl s.settled s.can.is_open

open_room : (targets : Targets) (between : Between) (p : PoolView) → IsSteady targets between p → HasRoom (numbered p.segments between.to) 2 → IsRoom p p space.Pair (numbered p.segments between.to).generation 2 between.to
open_room targets between p s room =
    let g : ℕ = (numbered p.segments between.to).generation in
    room_open p space.Pair g 2 0 g between.to s.settled (record { is_open = s.can.is_open; within = to_within targets between p s; room = room }) refl (omega arith) (s.settled.generations between.to) (omega arith) (omega arith)

-- ---- the copy

two_words : (targets : Targets) (between : Between) (p : PoolView) (j : ℕ) → IsSteady targets between p → 2 ≡ size_at (numbered p.segments between.from) j
two_words targets between p j s = sym (size_pair (numbered p.segments between.from) (first_at (numbered p.segments between.from) j) s.can.from_space)

copy_settled : (targets : Targets) (between : Between) (p : PoolView) (j : ℕ) → IsSteady targets between p → IsStart (numbered p.segments between.from) j → HasRoom (numbered p.segments between.to) 2 → IsSettled (copied_pool p between j)
copy_settled targets between p j s start room =
    let n : ℕ = between.to in
    let to : Segment = numbered p.segments n in
    let within : n < length p.segments = to_within targets between p s in
    let zero : p.counts.cells + 0 ≡ p.counts.cells = omega arith in
    let none : 0 ≡ cond (is_cell_space to.space) 1 0 = sym (ap (λ v. cond (is_cell_space v) 1 0) s.can.to_space) in
    subst (λ v. IsSettled (record p { segments = with_copied p.segments between.from j n; counts = record p.counts { cells = v } })) zero
    (settled_copied p p between.from j n 2 0 (with_copied p.segments between.from j n) to refl s.settled start (two_words targets between p j s) within (ap is_free (open_room targets between p s room).current) (s.can.from_space ∙ sym s.can.to_space) room refl (get_or_default p.segments n vacant to within) none)

copied : (targets : Targets) (between : Between) (p : PoolView) (j : ℕ) → IsSteady targets between p → IsStart (numbered p.segments between.from) j → HasRoom (numbered p.segments between.to) 2
    → IsCopied p p (copied_pool p between j) between.from j (numbered p.segments between.to).generation 2 between.to
copied targets between p j s start room = record {
  old_settled = s.settled;
  mid_settled = s.settled;
  new_settled = copy_settled targets between p j s start room;
  start = start;
  size_is = two_words targets between p j s;
  room = subst (λ v. IsRoom p p v (numbered p.segments between.to).generation 2 between.to) (sym s.can.from_space) (open_room targets between p s room);
  segments = refl;
}

-- the addresses
pub object_parts : (targets : Targets) (between : Between) (p : PoolView) (j : ℕ) → IsSteady targets between p → between.thread < THREADS → IsStart (numbered p.segments between.from) j → HasParts between.thread between.from (2 * j)
object_parts targets between p j s small start =
    let within : between.from < length p.segments = used_within p.segments between.from start.0 in
    let k : j < 256 = start_small (numbered p.segments between.from) j (s.settled.sound between.from) (omega (arith, s.can.from_size)) start in
    record { thread_in = small; segment_in = omega (arith, s.settled.count); offset_in = omega arith; even = omega arith }

pub copy_parts : (targets : Targets) (between : Between) (p : PoolView) (q : ℕ) → IsSteady targets between p → between.thread < THREADS → q < 512 → q % 2 ≡ 0 → HasParts between.thread between.to q
copy_parts targets between p q s small b even = record { thread_in = small; segment_in = omega (arith, s.settled.count, to_within targets between p s); offset_in = omega arith; even = even }

reading : (targets : Targets) (between : Between) (p : PoolView) (j : ℕ) → IsSteady targets between p → between.thread < THREADS → IsStart (numbered p.segments between.from) j
    → IsRead between.thread (view targets between p) p (object_at between j) between.from j 2 space.Pair
reading targets between p j s small start =
    let parts : HasParts between.thread between.from (2 * j) = object_parts targets between p j s small start in
    let made : IsMadeOf (object_at between j) between.thread between.from (2 * j) = address_of_parts between.thread between.from (2 * j) parts in
    let has : IsSome (get (starts_of (between.thread * SEGMENTS) p.segments) (object_at between j)) = subst IsSome (sym (started between.thread p between.from j s.settled parts.offset_in start)) refl in
    read between.thread p targets (view targets between p) (object_at between j) between.from j 2 space.Pair (numbered p.segments between.from) s.settled refl has (sym made.its_segment) (omega (arith, made.its_offset)) refl (sym s.can.from_space) (two_words targets between p j s)

told_of : (P : Start → Type 0) (o : Option Start) (x : Start) → o ≡ Some x → IfSome o P → P x
told_of P o x e h = subst (λ v. IfSome v P) e h

pub copy_told : (targets : Targets) (between : Between) (p : PoolView) (q index j r : ℕ) → IsSteady targets between p → IsNext between p q index j r
    → IsCopyOf (view targets between p) (view targets between (copied_pool p between j)) (object_at between j) (numbered p.segments between.to).generation (copy_at between r) (start_of (numbered p.segments between.from) j)
copy_told targets between p q index j r s x =
    let n : ℕ = between.to in
    let to : Segment = numbered p.segments n in
    let g : ℕ = to.generation in
    let now : TerritoryView = view targets between p in
    let m : PoolView = copied_pool p between j in
    let b : ℕ = object_at between j in
    let a : ℕ = copy_at between r in
    let sound : IsSound to = s.settled.sound n in
    let even : r % 2 ≡ 0 = omega (arith, x.offset, sound.laid.even) in
    let parts : HasParts between.thread n r = copy_parts targets between p r s x.thread_in (omega (arith, x.offset, x.room.0, s.can.to_size)) even in
    let made : IsMadeOf a between.thread n r = address_of_parts between.thread n r parts in
    let d : IsCopied p p m between.from j g 2 n = copied targets between p j s x.start x.room in
    let rd : IsRead between.thread now p b between.from j 2 space.Pair = reading targets between p j s x.thread_in x.start in
    let is : a ≡ (between.thread * SEGMENTS + n) * OFFSETS + to.top = address_is a between.thread n r to.top refl x.offset in
    let has : get now.starts b ≡ Some (start_of (numbered p.segments between.from) j) = started between.thread p between.from j s.settled (object_parts targets between p j s x.thread_in x.start).offset_in x.start in
    record {
      address = address_of_valid between.thread n r parts;
      thread_is = made.its_thread;
      free = no_start (between.thread * SEGMENTS) p p m between.from j g 2 n a d is;
      starts = told_of (λ y. starts_of (between.thread * SEGMENTS) m.segments ≡ insert now.starts a (copy_in g y)) (get now.starts b) (start_of (numbered p.segments between.from) j) has (told_starts between.thread targets now p p m b between.from j g 2 n a space.Pair refl rd d is);
      placed = told_of (λ y. IsPlacedLike now (view targets between m) b y g (segment_of a)) (get now.starts b) (start_of (numbered p.segments between.from) j) has (told_place between.thread targets now p p m b between.from j g 2 n (segment_of a) space.Pair refl rd d refl refl (sym made.its_segment));
      sound = told_of (λ y. (generation_at : ℕ → Option ℕ) → RefersToNoneBelow generation_at y g → AreCardsSound generation_at now → AreCardsSound generation_at (view targets between m)) (get now.starts b) (start_of (numbered p.segments between.from) j) has (told_sound between.thread targets now p p m b between.from j g 2 n a space.Pair refl rd d is);
      thread = refl;
      dirty = refl;
      targets = refl;
    }

-- ---- the word put

-- the segment with the copy
abbrev pub target : PoolView → Between → ℕ → Segment
target p between j = with_copy (numbered p.segments between.to) (numbered p.segments between.from) j

here_copied : (targets : Targets) (between : Between) (p : PoolView) (j : ℕ) → IsSteady targets between p → numbered (copied_pool p between j).segments between.to ≡ target p between j
here_copied targets between p j s = numbered-set_same p.segments between.to (target p between j) (to_within targets between p s)

pub can_copy : (targets : Targets) (between : Between) (p : PoolView) (q index j r : ℕ) → IsSteady targets between p → IsNext between p q index j r → CanCopy (numbered p.segments between.to) (numbered p.segments between.from) j
can_copy targets between p q index j r s x = record {
  sound = s.settled.sound between.to;
  source_sound = s.settled.sound between.from;
  in_use = x.copy.0;
  start = x.start;
  space = s.can.from_space ∙ sym s.can.to_space;
  room = subst (HasRoom (numbered p.segments between.to)) (two_words targets between p j s) x.room;
}

put_ready : (targets : Targets) (between : Between) (p : PoolView) (q index j r : ℕ) → IsSteady targets between p → IsNext between p q index j r
    → IsHere (copied_pool p between j) (copied_pool p between j) between.to (q / 2) index (target p between j)
put_ready targets between p q index j r s x =
    let n : ℕ = between.to in
    let m : PoolView = copied_pool p between j in
    let t : Segment = target p between j in
    let is : t ≡ numbered m.segments n = sym (here_copied targets between p j s) in
    let settled : IsSettled m = copy_settled targets between p j s x.start x.room in
    let start : IsStart t (q / 2) = start_copied (numbered p.segments between.from) (numbered p.segments n) j (q / 2) (can_copy targets between p q index j r s x) x.copy in
    let sound : IsSound t = subst IsSound (sym is) (settled.sound n) in
    record {
      settled = settled;
      within = omega (arith, to_within targets between p s, length-set p.segments n t);
      is = is;
      starts = start;
      index_in = omega (arith, pair_length t (q / 2) sound s.can.to_space start, x.index_in);
    }

unmarked : (role : Role) (g : ℕ) → role ≡ Current → needs_mark (is_from_role role) g g ≡ false
unmarked role g e = ap (λ v. needs_mark (is_from_role v) g g) e ∙ (let same : nat_lt g g ≡ false = grind (arith, nat_tests) in same)

-- the pool with the copy and the word
abbrev pub stepped : PoolView → Between → ℕ → ℕ → ℕ → ℕ → PoolView
stepped p between q index j word = with_segment p between.to (put_in (target p between j) (q / 2) index word)

is_put : (targets : Targets) (between : Between) (p : PoolView) (q index j r word : ℕ) → IsSteady targets between p → IsNext between p q index j r
    → IsPut between.thread targets (view targets between (copied_pool p between j)) (copied_pool p between j) (stepped p between q index j word) (copy_at between q) between.to (q / 2) index word (numbered p.segments between.to).generation
is_put targets between p q index j r word s x =
    let n : ℕ = between.to in
    let g : ℕ = (numbered p.segments n).generation in
    let m : PoolView = copied_pool p between j in
    let t : Segment = target p between j in
    let t' : Segment = put_in t (q / 2) index word in
    let h : IsHere m m n (q / 2) index t = put_ready targets between p q index j r s x in
    let again : set m.segments n t' ≡ set p.segments n t' = set-set p.segments n t t' in
    let seen : numbered (with_put m n t').segments n ≡ t' = numbered-set_same m.segments n t' h.within in
    let no : needs_mark (is_from_role (numbered (with_put m n t').segments n).role) (numbered (with_put m n t').segments n).generation g ≡ false =
    ap (λ (v : Segment). needs_mark (is_from_role v.role) v.generation g) seen ∙ unmarked (numbered p.segments n).role g (open_room targets between p s x.room).current in
    let both = unmarked_put m m n (q / 2) index word g t t' refl h refl no in
    let two : 2 * (q / 2) ≡ q = omega (arith, x.even) in
    let k : q / 2 < 256 = start_small (numbered p.segments n) (q / 2) (s.settled.sound n) (omega (arith, s.can.to_size)) x.copy in
    let parts : HasParts between.thread n q = copy_parts targets between p q s x.thread_in (omega arith) x.even in
    let made : IsMadeOf (copy_at between q) between.thread n q = address_of_parts between.thread n q parts in
    let start : IsStart (numbered m.segments n) (q / 2) = subst (λ v. IsStart v (q / 2)) h.is h.starts in
    let has : get (starts_of (between.thread * SEGMENTS) m.segments) (copy_at between q) ≡ Some (start_of (numbered m.segments n) (q / 2)) =
    subst (λ v. get (starts_of (between.thread * SEGMENTS) m.segments) (address_of between.thread n v) ≡ Some (start_of (numbered m.segments n) (q / 2))) two (started between.thread m n (q / 2) h.settled (omega arith) start) in
    record {
      view_is = refl;
      settled = h.settled;
      new_settled = subst (λ v. IsSettled (record p { segments = v })) again (put_here m m n (q / 2) index word t t' h refl).settled;
      index_in = subst (λ o. index < length (words_of o)) (sym has) (subst (λ v. index < length (words_at v (q / 2))) h.is h.index_in);
      segment = sym made.its_segment;
      start = ap (λ v. v / 2) (sym made.its_offset);
      segments = sym again ∙ both.0;
      dirty = both.1;
      areas = refl;
      lists = refl;
    }

-- ---- both

-- a pair that was reached, in the territory
pub record IsStepped (targets : Targets) (between : Between) (p new : PoolView) (q index j r word : ℕ) : Type 0 where
  pub steady : IsSteady targets between new
  pub start : Start
  pub has : get (view targets between p).starts (object_at between j) ≡ Some start
  pub pair : start.kind ≡ Pair
  pub mid : TerritoryView
  pub copied : IsCopyOf (view targets between p) mid (object_at between j) (numbered p.segments between.to).generation (copy_at between r) start
  pub put : IsWordPut mid (view targets between new) (copy_at between q) index word (numbered p.segments between.to).generation

pub step : (targets : Targets) (between : Between) (p : PoolView) (q index j r word : ℕ) → IsSteady targets between p → IsNext between p q index j r → IsStepped targets between p (stepped p between q index j word) q index j r word
step targets between p q index j r word s x =
    let n : ℕ = between.to in
    let to : Segment = numbered p.segments n in
    let from : Segment = numbered p.segments between.from in
    let g : ℕ = to.generation in
    let m : PoolView = copied_pool p between j in
    let t : Segment = target p between j in
    let t' : Segment = put_in t (q / 2) index word in
    let new : PoolView = stepped p between q index j word in
    let d : IsPut between.thread targets (view targets between m) m new (copy_at between q) n (q / 2) index word g = is_put targets between p q index j r word s x in
    let c : IsCopied p p m between.from j g 2 n = copied targets between p j s x.start x.room in
    let seen : numbered new.segments n ≡ t' = numbered-set_same p.segments n t' (to_within targets between p s) in
    let other : numbered new.segments between.from ≡ from = numbered-set_other p.segments n between.from t' s.can.apart in
    let long : length t'.words ≡ length to.words = length-set t.words (place_in t (q / 2) index) word ∙ copy_words to from j (can_copy targets between p q index j r s x) in
    record {
      steady = record {
        settled = d.new_settled;
        used = used_put between.thread targets (view targets between m) m new (copy_at between q) n (q / 2) index word g d (used_copy p p m between.from j g 2 n c s.used);
        unheld = between_put m new targets n (q / 2) index word g d.segments (between_copied p p m targets from.space between.from j g 2 n c.room refl s.unheld);
        can = record {
          apart = s.can.apart;
          from_space = ap (λ (v : Segment). v.space) other ∙ s.can.from_space;
          to_space = ap (λ (v : Segment). v.space) seen ∙ s.can.to_space;
          from_size = ap (λ (v : Segment). length v.words) other ∙ s.can.from_size;
          from_starts = ap (λ (v : Segment). length v.births) other ∙ s.can.from_starts;
          to_size = ap (λ (v : Segment). length v.words) seen ∙ (long ∙ s.can.to_size);
          is_open = ap (λ (v : Segment). slice_get p.areas v.generation) seen ∙ s.can.is_open;
        };
      };
      start = start_of from j;
      has = started between.thread p between.from j s.settled (object_parts targets between p j s x.thread_in x.start).offset_in x.start;
      pair = pair_kind from j s.can.from_space;
      mid = view targets between m;
      copied = copy_told targets between p q index j r s x;
      put = record {
        after = put_view between.thread targets (view targets between m) m new (copy_at between q) n (q / 2) index word g d;
        sound = λ generation_at. put_sound between.thread targets (view targets between m) m new (copy_at between q) n (q / 2) index word g generation_at d;
      };
    }
