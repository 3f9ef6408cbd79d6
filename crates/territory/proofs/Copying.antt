-- What `copy` leaves of a territory: a copy of start k of segment `from` in segment n; `mid` is the pool in which there
-- is room for it.
use Rattle.std.proofs.Common.{◌≡◌, ◌≢◌, ℕ, ◌+◌, ◌*◌, ◌/◌, ◌%◌, ◌<◌, ◌≤◌, Bool, true, false, cond, eqb, length, get_or, map, Option, Some, None, IsSome, IfSome, refl, sym, ◌∙◌, ap, subst, arith, inl, inr}
use Rattle.std.proofs.lemmas.Bool.{cases_eq}
use Rattle.std.proofs.lemmas.Option.{same_Some}
use Rattle.std.specs.FinMap.{get, insert}
use Rattle.gc_words.specs.declared.address.TheConstants.{SEGMENTS, OFFSETS}
use Rattle.gc_words.specs.Layout.{address_of, segment_of, offset_of}
use Rattle.trace_types.specs.declared.kind.Kind.TheVariants as kind
use Rattle.segment.specs.declared.space.Space.{Space}
use Rattle.segment.specs.declared.space.Space.TheVariants as space
use Rattle.segment.specs.Layout.{space_of, skip_of, kind_of, kind_of_code, count_of, size_of, words_after}
use Rattle.segment.specs.Segments.{Segment, Start, IsSound, IsStart, is_free, size_at, first_at, object_at, spot}
use Rattle.segment.specs.Copies.{with_copy}
use Rattle.segment.proofs.Sizes.{size_pos}
use Rattle.segment.proofs.Spots.{spot_is, spot_top, start_in}
use Rattle.territory.specs.declared.territory.Targets.{Targets}
use Rattle.territory.specs.Territories.{SegmentView, TerritoryView, segment_at, size_for, words_for, IsPlaced, Refers, AreCardsSound, card_byte, byte_at}
use Rattle.territory.specs.Pools.{PoolView, IsSettled, AreUsed, numbered, starts_of, seen, is_from_role, territory_view}
use Rattle.territory.specs.Changes.{IsOpened, IsRoom}
use Rattle.territory.specs.Copies.{with_copied, copy_in, IsLargeCopy, IsPlacedLike, RefersToNoneBelow}
use Rattle.territory.proofs.Numbers.{numbered-set_same, numbered-set_other, seen_at}
use Rattle.territory.proofs.Entries.{get-starts}
use Rattle.territory.proofs.Slots.{all_small, IsSlot, start_here, changed_map, get_here, get_other}
use Rattle.territory.proofs.Present.{IsPresent, present}
use Rattle.territory.proofs.Reading.{IsReached, reach, if_some}
use Rattle.territory.proofs.Roomy.{room_large}
use Rattle.territory.proofs.Allocated.{address_is, mid_spot, mid_other, used, if_seen, seen_current, seen_opened, seen_free, none_some, some_none}
use Rattle.territory.proofs.Copied.{CanCopy, copy_other, copy_here, copy_words}

pub record IsCopied (old mid new : PoolView) (from k g size n : ℕ) : Type 0 where
  pub old_settled : IsSettled old
  pub mid_settled : IsSettled mid
  pub new_settled : IsSettled new
  pub start : IsStart (numbered old.segments from) k
  pub size_is : size ≡ size_at (numbered old.segments from) k
  pub room : IsRoom old mid (numbered old.segments from).space g size n
  pub segments : new.segments ≡ with_copied mid.segments from k n

-- a segment in use is as before where room was made
pub mid_same : (old mid : PoolView) (s : Space) (g size n m : ℕ) → IsRoom old mid s g size n → is_free (numbered old.segments m).role ≡ false → numbered mid.segments m ≡ numbered old.segments m
mid_same old mid s g size n m r in_use =
    elim (cases_eq m n) [
      | inr ne ↦ mid_other old mid s g size n m r ne
      | inl e ↦ elim r.way [
        | inl w ↦ ap (λ (p : PoolView). numbered p.segments m) w.same
        | inr o ↦ absurd (let f : is_free (numbered old.segments m).role ≡ true = ap (λ v. is_free (numbered old.segments v).role) e ∙ ap is_free o.1.was_free in let c : true ≡ false = sym f ∙ in_use in cc)
      ]
    ]

source_same : (old mid new : PoolView) (from k g size n : ℕ) → IsCopied old mid new from k g size n → numbered mid.segments from ≡ numbered old.segments from
source_same old mid new from k g size n d = mid_same old mid (numbered old.segments from).space g size n from d.room d.start.0

can : (old mid new : PoolView) (from k g size n : ℕ) → IsCopied old mid new from k g size n → CanCopy (numbered mid.segments n) (numbered mid.segments from) k
can old mid new from k g size n d =
    let same : numbered old.segments from ≡ numbered mid.segments from = sym (source_same old mid new from k g size n d) in
    record {
      sound = d.mid_settled.sound n;
      source_sound = d.mid_settled.sound from;
      in_use = used (numbered mid.segments n) d.room.current;
      start = subst (λ v. IsStart v k) same d.start;
      space = ap (λ (v : Segment). v.space) (sym same) ∙ sym d.room.space_is;
      room = subst (λ v. ((numbered mid.segments n).top + v ≤ length (numbered mid.segments n).words) × ((numbered mid.segments n).top < 2 * length (numbered mid.segments n).births)) (d.size_is ∙ ap (λ v. size_at v k) same) d.room.room;
    }

copied_here : (old mid new : PoolView) (from k g size n : ℕ) → IsCopied old mid new from k g size n → numbered new.segments n ≡ with_copy (numbered mid.segments n) (numbered mid.segments from) k
copied_here old mid new from k g size n d = ap (λ v. numbered v n) d.segments ∙ numbered-set_same mid.segments n (with_copy (numbered mid.segments n) (numbered mid.segments from) k) d.room.within

copied_other : (old mid new : PoolView) (from k g size n m : ℕ) → IsCopied old mid new from k g size n → m ≢ n → numbered new.segments m ≡ numbered mid.segments m
copied_other old mid new from k g size n m d ne = ap (λ v. numbered v m) d.segments ∙ numbered-set_other mid.segments n m (with_copy (numbered mid.segments n) (numbered mid.segments from) k) ne

copied_slot : (base : ℕ) (old mid new : PoolView) (from k g size n a : ℕ) → IsCopied old mid new from k g size n → a ≡ (base + n) * OFFSETS + (numbered mid.segments n).top
    → IsSlot base old.segments new.segments n ((numbered mid.segments n).top / 2) a
copied_slot base old mid new from k g size n a d is =
    let p : Segment = numbered mid.segments n in
    let q : Segment = numbered mid.segments from in
    let sound : IsSound p = d.mid_settled.sound n in
    let c : CanCopy p q k = can old mid new from k g size n d in
    record {
      small = omega (arith, c.room.0, size_pos q.space (first_at q k), sound.small, sound.laid.even);
      address = omega (arith, sound.laid.even);
      others = λ j ne. ap (λ v. spot v j) (copied_here old mid new from k g size n d) ∙ (copy_other p q k j c ne ∙ mid_spot old mid (numbered old.segments from).space g size n d.room n j);
      elsewhere = λ m j ne. ap (λ v. spot v j) (copied_other old mid new from k g size n m d ne) ∙ mid_spot old mid (numbered old.segments from).space g size n d.room m j;
    }

copied_start : (old mid new : PoolView) (from k g size n : ℕ) → IsCopied old mid new from k g size n → spot (numbered new.segments n) ((numbered mid.segments n).top / 2) ≡ Some (copy_in g (object_at (numbered old.segments from) k))
copied_start old mid new from k g size n d =
    let p : Segment = numbered mid.segments n in
    let q : Segment = numbered mid.segments from in
    ap (λ v. spot v (p.top / 2)) (copied_here old mid new from k g size n d) ∙ (copy_here p q k (can old mid new from k g size n d)
    ∙ (ap (λ v. Some (copy_in v (object_at q k))) d.room.generation_is ∙ ap (λ v. Some (copy_in g (object_at v k))) (source_same old mid new from k g size n d)))

-- nothing starts at the new address before
pub no_start : (base : ℕ) (old mid new : PoolView) (from k g size n a : ℕ) → IsCopied old mid new from k g size n → a ≡ (base + n) * OFFSETS + (numbered mid.segments n).top → get (starts_of base old.segments) a ≡ None
no_start base old mid new from k g size n a d is =
    let p : Segment = numbered mid.segments n in
    let slot : IsSlot base old.segments new.segments n (p.top / 2) a = copied_slot base old mid new from k g size n a d is in
    get-starts base old.segments (all_small old.segments d.old_settled.sound) a
    ∙ (start_here base old.segments n (p.top / 2) a slot.small slot.address ∙ (sym (mid_spot old mid (numbered old.segments from).space g size n d.room n (p.top / 2)) ∙ spot_top p (d.mid_settled.sound n).laid))

-- the copy at the new address
pub one_copy : (base : ℕ) (old mid new : PoolView) (from k g size n a : ℕ) → IsCopied old mid new from k g size n → a ≡ (base + n) * OFFSETS + (numbered mid.segments n).top
    → starts_of base new.segments ≡ insert (starts_of base old.segments) a (copy_in g (object_at (numbered old.segments from) k))
one_copy base old mid new from k g size n a d is =
    changed_map base old.segments new.segments n ((numbered mid.segments n).top / 2) a (copy_in g (object_at (numbered old.segments from) k)) (all_small old.segments d.old_settled.sound) (all_small new.segments d.new_settled.sound)
    (copied_slot base old mid new from k g size n a d is) (copied_start old mid new from k g size n d)

-- ---- the segments as contracts see them
seen_copy : (p q : Segment) (k : ℕ) → CanCopy p q k → seen (with_copy p q k) ≡ seen p
seen_copy p q k c = ap (λ v. cond (is_free p.role) None (Some (let w : SegmentView = record { space = p.space; generation = p.generation; words = v; is_from = is_from_role p.role; was_held = p.was_held; cards = p.cards } in w))) (copy_words p q k c)

seen_here : (old mid new : PoolView) (from k g size n : ℕ) → IsCopied old mid new from k g size n → seen (numbered new.segments n) ≡ seen (numbered mid.segments n)
seen_here old mid new from k g size n d = ap seen (copied_here old mid new from k g size n d) ∙ seen_copy (numbered mid.segments n) (numbered mid.segments from) k (can old mid new from k g size n d)

pub placed_copy : (thread : ℕ) (targets : Targets) (now : TerritoryView) (old mid new : PoolView) (from k g size n : ℕ) → territory_view thread old targets ≡ now → IsCopied old mid new from k g size n → new.areas ≡ mid.areas → new.lists ≡ mid.lists
    → IsPlaced now (territory_view thread new targets) (numbered old.segments from).space g size n
placed_copy thread targets now old mid new from k g size n e d areas lists =
    let s : Space = (numbered old.segments from).space in
    let t : TerritoryView = territory_view thread new targets in
    let here : segment_at t n ≡ seen (numbered mid.segments n) = seen_at new.segments n ∙ seen_here old mid new from k g size n d in
    subst (λ v. IsPlaced v t s g size n) e (record {
      used = λ h. elim d.room.way [
        | inl w ↦ (here ∙ (ap (λ (p : PoolView). seen (numbered p.segments n)) w.same ∙ sym (seen_at old.segments n)), lists ∙ ap (λ (p : PoolView). p.lists) w.same, w.area, w.shared)
        | inr o ↦ absurd (some_none (get_or (map seen old.segments) n None) (seen_at old.segments n ∙ seen_free (numbered old.segments n) o.1.was_free) h)
      ];
      fresh = λ h. elim d.room.way [
        | inl w ↦ absurd (none_some (get_or (map seen old.segments) n None) _ (seen_at old.segments n ∙ (ap (λ (p : PoolView). seen (numbered p.segments n)) (sym w.same) ∙ seen_current (numbered mid.segments n) d.room.current)) h)
        | inr o ↦ (here ∙ (ap seen o.1.here ∙ seen_opened s g (words_for size) o.0), o.1.next, lists ∙ o.1.lists)
      ];
      fits = if_seen (segment_at t n) (numbered mid.segments n) s g (here ∙ seen_current (numbered mid.segments n) d.room.current) d.room.space_is d.room.generation_is;
      others = λ m ne. seen_at new.segments m ∙ (ap seen (copied_other old mid new from k g size n m d ne ∙ mid_other old mid s g size n m d.room ne) ∙ sym (seen_at old.segments m));
      areas = areas ∙ d.room.areas;
    })

-- the kinds with a header lie in spaces with headers
codes : (a b c d e f : Bool) → skip_of (space_of (cond a kind.Boxed (cond b kind.Vector (cond c kind.Bytes (cond d kind.ImmVector (cond e kind.ImmBytes (cond f kind.Guard kind.OrderedGuard))))))) ≡ 1
codes true b c d e f = refl
codes false true c d e f = refl
codes false false true d e f = refl
codes false false false true e f = refl
codes false false false false true f = refl
codes false false false false false true = refl
codes false false false false false false = refl

code_skip : (n : ℕ) → skip_of (space_of (kind_of_code n)) ≡ 1
code_skip n = codes (eqb n 0) (eqb n 1) (eqb n 2) (eqb n 3) (eqb n 4) (eqb n 5)

kind_skip : (s : Space) (first : ℕ) → skip_of (space_of (kind_of s first)) ≡ skip_of s
unfolding kind_of
kind_skip space.Pair first = refl
kind_skip space.Weak first = refl
kind_skip space.Ephemeron first = refl
kind_skip space.Typed first = code_skip (first / 8 % 32)
kind_skip space.Raw first = code_skip (first / 8 % 32)
kind_skip space.Immobile first = code_skip (first / 8 % 32)
kind_skip space.ImmobileRaw first = code_skip (first / 8 % 32)
kind_skip space.Cell first = refl

pub size_of_start : (p : Segment) (k : ℕ) → size_at p k ≡ size_for (object_at p k).kind (object_at p k).length
unfolding size_of count_of
size_of_start p k = ap (λ v. (v + words_after (object_at p k).kind (object_at p k).length + 1) / 2 * 2) (sym (kind_skip p.space (first_at p k)))

-- ---- cards stay sound
stays : (thread : ℕ) (old mid new : PoolView) (from k g size n q : ℕ) (x : Start) → IsCopied old mid new from k g size n → get (starts_of (thread * SEGMENTS) old.segments) q ≡ Some x
    → get_or (map seen new.segments) (segment_of q) None ≡ get_or (map seen old.segments) (segment_of q) None
stays thread old mid new from k g size n q x d has =
    let p : IsPresent thread old.segments q x = present thread old q x d.old_settled has in
    let same : numbered mid.segments (segment_of q) ≡ numbered old.segments (segment_of q) = mid_same old mid (numbered old.segments from).space g size n (segment_of q) d.room p.starts.0 in
    seen_at new.segments (segment_of q)
    ∙ (elim (cases_eq (segment_of q) n) [
      | inr ne ↦ ap seen (copied_other old mid new from k g size n (segment_of q) d ne)
      | inl e ↦ ap (λ v. seen (numbered new.segments v)) e ∙ (seen_here old mid new from k g size n d ∙ ap (λ v. seen (numbered mid.segments v)) (sym e))
    ] ∙ (ap seen same ∙ sym (seen_at old.segments (segment_of q))))

pub sound_copy : (thread : ℕ) (targets : Targets) (now : TerritoryView) (old mid new : PoolView) (from k g size n at a : ℕ) (x : Start) (generation_at : ℕ → Option ℕ)
    → territory_view thread old targets ≡ now → IsCopied old mid new from k g size n → get now.starts at ≡ Some x → starts_of (thread * SEGMENTS) new.segments ≡ insert now.starts a (copy_in g x)
    → RefersToNoneBelow generation_at x g → AreCardsSound generation_at now
    → AreCardsSound generation_at (territory_view thread new targets)
sound_copy thread targets now old mid new from k g size n at a x generation_at e d source starts none sound =
    let u : TerritoryView = territory_view thread old targets in
    λ q index b h y has refers gen young.
    elim (cases_eq q a) [
      | inl same ↦
          let y_is : copy_in g x ≡ y = same_Some _ _ (sym (ap (λ v. get v q) starts ∙ (ap (get (insert now.starts a (copy_in g x))) same ∙ get_here now.starts a (copy_in g x))) ∙ has) in
          let r : Refers (copy_in g x) index b = subst (λ v. Refers v index b) (sym y_is) refers in
          let r' : Refers x index b = record { within = r.within; values = r.values; names = r.names } in
          let young' : h < g = subst (λ (v : Start). h < v.generation) (sym y_is) young in
          let low : g ≤ h = none index b h r' gen in
          absurd (omega arith)
      | inr ne ↦
          let had : get now.starts q ≡ Some y = sym (get_other now.starts a (copy_in g x) q ne) ∙ (ap (λ v. get v q) (sym starts) ∙ has) in
          let had' : get (starts_of (thread * SEGMENTS) old.segments) q ≡ Some y = ap (λ (v : TerritoryView). get v.starts q) e ∙ had in
          let le : card_byte now q index ≤ h = sound q index b h y had refers gen young in
          let le' : card_byte u q index ≤ h = subst (λ v. card_byte v q index ≤ h) (sym e) le in
          subst (λ v. byte_at v q index ≤ h) (sym (stays thread old mid new from k g size n q y d had')) le'
    ]

-- each segment in use has a start again
pub used_copy : (old mid new : PoolView) (from k g size n : ℕ) → IsCopied old mid new from k g size n → AreUsed old.segments → AreUsed new.segments
used_copy old mid new from k g size n d u m in_use =
    elim (cases_eq m n) [
      | inl e ↦ subst (λ v. (j : ℕ) × IsStart (numbered new.segments v) j) (sym e) ((numbered mid.segments n).top / 2, (spot_is (numbered new.segments n) ((numbered mid.segments n).top / 2) _ (copied_start old mid new from k g size n d)).0)
      | inr ne ↦
          let same : numbered new.segments m ≡ numbered old.segments m = copied_other old mid new from k g size n m d ne ∙ mid_other old mid (numbered old.segments from).space g size n m d.room ne in
          subst (λ v. (j : ℕ) × IsStart v j) (sym same) (u m (subst (λ (v : Segment). is_free v.role ≡ false) same in_use))
    ]

-- ---- for the answers
-- the start that is copied
pub record IsRead (thread : ℕ) (now : TerritoryView) (p : PoolView) (at from k size : ℕ) (s : Space) : Type 0 where
  pub reached : IsReached thread p now at
  pub object : reached.start ≡ object_at (numbered p.segments from) k
  pub start : IsStart (numbered p.segments from) k
  pub size_is : size ≡ size_at (numbered p.segments from) k
  pub space_is : s ≡ (numbered p.segments from).space
  pub segment : segment_of at ≡ from

pub read : (thread : ℕ) (p : PoolView) (targets : Targets) (now : TerritoryView) (at from k size : ℕ) (s : Space) (q : Segment) → IsSettled p → territory_view thread p targets ≡ now → IsSome (get now.starts at) → from ≡ segment_of at → k ≡ offset_of at / 2
    → q ≡ numbered p.segments from → s ≡ q.space → size ≡ size_at q k → IsRead thread now p at from k size s
read thread p targets now at from k size s q t e h es ek is s_is z =
    let r : IsReached thread p now at = reach thread p targets now at t e h in
    record {
      reached = r;
      object = r.present.object ∙ (ap (λ v. object_at (numbered p.segments v) (offset_of at / 2)) (sym es) ∙ ap (object_at (numbered p.segments from)) (sym ek));
      start = subst (IsStart (numbered p.segments from)) (sym ek) (subst (λ v. IsStart (numbered p.segments v) (offset_of at / 2)) (sym es) r.present.starts);
      size_is = z ∙ ap (λ v. size_at v k) is;
      space_is = s_is ∙ ap (λ (v : Segment). v.space) is;
      segment = sym es;
    }

pub read_size : (thread : ℕ) (now : TerritoryView) (p : PoolView) (at from k size : ℕ) (s : Space) → IsSettled p → IsRead thread now p at from k size s → (2 ≤ size) × (size ≤ OFFSETS)
read_size thread now p at from k size s t r =
    let q : Segment = numbered p.segments from in
    let b : (k < length q.births) × (2 * k + size_at q k ≤ q.top) × (q.top ≤ length q.words) = start_in q k (t.sound from).laid r.start.1 in
    (omega (arith, r.size_is, size_pos q.space (first_at q k)), omega (arith, r.size_is, b.1, b.2, (t.sound from).small))

pub copied : (thread : ℕ) (now : TerritoryView) (old mid new : PoolView) (at from k g size n : ℕ) (s : Space) → IsSettled old → IsSettled mid → IsSettled new → IsRead thread now old at from k size s → IsRoom old mid s g size n
    → new.segments ≡ with_copied mid.segments from k n → IsCopied old mid new from k g size n
copied thread now old mid new at from k g size n s t t' t'' r room is = record {
  old_settled = t;
  mid_settled = t';
  new_settled = t'';
  start = r.start;
  size_is = r.size_is;
  room = subst (λ v. IsRoom old mid v g size n) r.space_is room;
  segments = is;
}

-- what the pool's `copy` needs, of the pool in which there is room
pub record IsReady (mid : PoolView) (from k n size : ℕ) : Type 0 where
  pub start : IsStart (numbered mid.segments from) k
  pub size_is : size ≡ size_at (numbered mid.segments from) k
  pub space : (numbered mid.segments from).space ≡ (numbered mid.segments n).space

pub ready : (thread : ℕ) (now : TerritoryView) (old mid : PoolView) (at from k g size n : ℕ) (s : Space) → IsRead thread now old at from k size s → IsRoom old mid s g size n → IsReady mid from k n size
ready thread now old mid at from k g size n s r room =
    let same : numbered old.segments from ≡ numbered mid.segments from = sym (mid_same old mid s g size n from room r.start.0) in
    record {
      start = subst (λ v. IsStart v k) same r.start;
      size_is = r.size_is ∙ ap (λ v. size_at v k) same;
      space = ap (λ (v : Segment). v.space) (sym same) ∙ (sym r.space_is ∙ sym room.space_is);
    }

pub told_start : (thread : ℕ) (targets : Targets) (now : TerritoryView) (old mid new : PoolView) (at from k g size n a : ℕ) (s : Space) → territory_view thread old targets ≡ now → (r : IsRead thread now old at from k size s) → IsCopied old mid new from k g size n
    → a ≡ (thread * SEGMENTS + n) * OFFSETS + (numbered mid.segments n).top → starts_of (thread * SEGMENTS) new.segments ≡ insert now.starts a (copy_in g r.reached.start)
told_start thread targets now old mid new at from k g size n a s e r d is =
    one_copy (thread * SEGMENTS) old mid new from k g size n a d is
    ∙ (ap (λ (v : TerritoryView). insert v.starts a (copy_in g (object_at (numbered old.segments from) k))) e ∙ ap (λ v. insert now.starts a (copy_in g v)) (sym r.object))

pub told_starts : (thread : ℕ) (targets : Targets) (now : TerritoryView) (old mid new : PoolView) (at from k g size n a : ℕ) (s : Space) → territory_view thread old targets ≡ now → IsRead thread now old at from k size s → IsCopied old mid new from k g size n
    → a ≡ (thread * SEGMENTS + n) * OFFSETS + (numbered mid.segments n).top → IfSome (get now.starts at) (λ x. starts_of (thread * SEGMENTS) new.segments ≡ insert now.starts a (copy_in g x))
told_starts thread targets now old mid new at from k g size n a s e r d is =
    if_some (get now.starts at) r.reached.start (λ x. starts_of (thread * SEGMENTS) new.segments ≡ insert now.starts a (copy_in g x)) r.reached.has (told_start thread targets now old mid new at from k g size n a s e r d is)

seen_in_use : (p : Segment) → is_free p.role ≡ false → seen p ≡ Some (record { space = p.space; generation = p.generation; words = length p.words; is_from = is_from_role p.role; was_held = p.was_held; cards = p.cards })
seen_in_use p e = ap (λ b. cond b None (Some (let w : SegmentView = record { space = p.space; generation = p.generation; words = length p.words; is_from = is_from_role p.role; was_held = p.was_held; cards = p.cards } in w))) e

pub told_place : (thread : ℕ) (targets : Targets) (now : TerritoryView) (old mid new : PoolView) (at from k g size n m : ℕ) (s : Space) → territory_view thread old targets ≡ now → IsRead thread now old at from k size s → IsCopied old mid new from k g size n → new.areas ≡ mid.areas → new.lists ≡ mid.lists → n ≡ m
    → IfSome (get now.starts at) (λ x. IsPlacedLike now (territory_view thread new targets) at x g m)
told_place thread targets now old mid new at from k g size n m s e r d areas lists same =
    let q : Segment = numbered old.segments from in
    let t : TerritoryView = territory_view thread new targets in
    let x : Start = r.reached.start in
    let v : SegmentView = record { space = q.space; generation = q.generation; words = length q.words; is_from = is_from_role q.role; was_held = q.was_held; cards = q.cards } in
    let there : segment_at now (segment_of at) ≡ Some v = ap (λ (u : TerritoryView). segment_at u (segment_of at)) (sym e) ∙ (seen_at old.segments (segment_of at) ∙ (ap (λ w. seen (numbered old.segments w)) r.segment ∙ seen_in_use q r.start.0)) in
    let size' : size ≡ size_for x.kind x.length = r.size_is ∙ (size_of_start q k ∙ ap (λ (y : Start). size_for y.kind y.length) (sym r.object)) in
    if_some (get now.starts at) x (λ y. IsPlacedLike now t at y g m) r.reached.has
    (v, there, subst (λ w. IsPlaced now t q.space g w m) size' (subst (λ w. IsPlaced now t q.space g size w) same (placed_copy thread targets now old mid new from k g size n e d areas lists)))

pub told_sound : (thread : ℕ) (targets : Targets) (now : TerritoryView) (old mid new : PoolView) (at from k g size n a : ℕ) (s : Space) → territory_view thread old targets ≡ now → IsRead thread now old at from k size s → IsCopied old mid new from k g size n
    → a ≡ (thread * SEGMENTS + n) * OFFSETS + (numbered mid.segments n).top
    → IfSome (get now.starts at) (λ x. (generation_at : ℕ → Option ℕ) → RefersToNoneBelow generation_at x g → AreCardsSound generation_at now → AreCardsSound generation_at (territory_view thread new targets))
told_sound thread targets now old mid new at from k g size n a s e r d is =
    if_some (get now.starts at) r.reached.start (λ x. (generation_at : ℕ → Option ℕ) → RefersToNoneBelow generation_at x g → AreCardsSound generation_at now → AreCardsSound generation_at (territory_view thread new targets)) r.reached.has
    (λ generation_at. sound_copy thread targets now old mid new from k g size n at a r.reached.start generation_at e d r.reached.has (told_start thread targets now old mid new at from k g size n a s e r d is))

-- ---- a copy in a segment of its own

pub large_copied : (thread : ℕ) (now : TerritoryView) (old new : PoolView) (at from k g size n : ℕ) (s : Space) → IsSettled old → IsSettled new → IsRead thread now old at from k size s → 128 < size → (l : IsLargeCopy old new from k g n)
    → IsCopied old l.mid new from k g size n
large_copied thread now old new at from k g size n s t t' r large l = record {
  old_settled = t;
  mid_settled = l.settled;
  new_settled = t';
  start = r.start;
  size_is = r.size_is;
  room = room_large old l.mid (numbered old.segments from).space g size n (subst (λ v. IsOpened old l.mid (numbered old.segments from).space g v 1 n) (sym r.size_is) l.opened) large l.areas;
  segments = l.segments;
}

-- ... is at its beginning
pub large_place : (old new : PoolView) (from k g n a thread : ℕ) (l : IsLargeCopy old new from k g n) → a ≡ address_of thread n 0 → a ≡ (thread * SEGMENTS + n) * OFFSETS + (numbered l.mid.segments n).top
large_place old new from k g n a thread l is = address_is a thread n 0 (numbered l.mid.segments n).top is (sym (ap (λ (v : Segment). v.top) l.opened.here))
