-- What `allocate` leaves.
use Rattle.std.proofs.Common.{◌≡◌, ◌≢◌, ℕ, ◌+◌, ◌*◌, ◌/◌, ◌<◌, ◌≤◌, true, false, cond, [], length, get_or, set, map, replicate, Option, Some, None, IsSome, IsNone, IfSome, Result, Ok, Err, OnErr, refl, sym, ◌∙◌, ap, subst, arith, inl, inr}
use Rattle.std.proofs.lemmas.Bool.{cases_eq}
use Rattle.std.proofs.lemmas.List.{length-set, length-replicate, get_or-replicate}
use Rattle.std.proofs.lemmas.Option.{same_Some}
use Rattle.gc_words.specs.declared.value.Value.TheVariants as value
use Rattle.gc_words.specs.Word.{value_of}
use Rattle.cards.specs.Cards.{card_count}
use Rattle.std.specs.FinMap.{get, insert}
use Rattle.gc_words.specs.declared.address.TheConstants.{SEGMENTS, OFFSETS}
use Rattle.gc_words.specs.Layout.{address_of, segment_of}
use Rattle.seg_chain.specs.Lists.{chain_of}
use Rattle.trace_types.specs.declared.kind.Kind.{Kind}
use Rattle.segment.specs.declared.space.Space.{Space}
use Rattle.segment.specs.declared.segment.Role.TheVariants.{Free, Current}
use Rattle.segment.specs.Layout.{space_of, first_word, size_of, skip_of, kind_of, length_of, count_of, words_after, HasLength}
use Rattle.segment.specs.Segments.{Segment, Start, IsSound, IsStart, is_free, grown, opened, spot}
use Rattle.segment.proofs.Sizes.{size_pos, first_kind, first_length, first_count, first_bare, first_size_le}
use Rattle.segment.proofs.Spots.{spot_is, spot_free, spot_grown, spot_grown_other, spot_top, spot_opened}
use Rattle.territory.specs.declared.territory.Targets.{Targets}
use Rattle.territory.specs.Territories.{SegmentView, TerritoryView, no_territory, segment_at, fresh_start, fresh_segment, size_for, words_for, IsPlaced, IsAsBefore, Refers, IsToldMore, AreCardsSound, card_byte, byte_at}
use Rattle.territory.specs.Pools.{PoolView, IsSettled, AreUsed, numbered, starts_of, seen, is_from_role, territory_view}
use Rattle.territory.specs.Changes.{IsSame, IsRoom}
use Rattle.territory.proofs.Numbers.{numbered-set_same, numbered-set_other, seen_at}
use Rattle.territory.proofs.Entries.{get-starts}
use Rattle.territory.proofs.Slots.{all_small, same_map, IsSlot, start_here, changed_map, get_here, get_other, starts_of_none}
use Rattle.territory.proofs.Present.{IsPresent, present}

-- ---- the first word of a kind
pub size_seen : (kind : Kind) (len first size : ℕ) (s : Space) → HasLength kind len → s ≡ space_of kind → first ≡ first_word kind len → size ≡ size_of s first → (2 ≤ size) × (size ≤ OFFSETS)
size_seen kind len first size s h es ef z = (
  subst (λ v. 2 ≤ v) (sym z) (size_pos s first),
  let l : size_of (space_of kind) (first_word kind len) ≤ 4000006 = first_size_le kind len h in
      let same : size_of s first ≡ size_of (space_of kind) (first_word kind len) = ap (λ v. size_of v first) es ∙ ap (size_of (space_of kind)) ef in
      omega arith,
)

pub size_is : (kind : Kind) (len : ℕ) → HasLength kind len → size_of (space_of kind) (first_word kind len) ≡ size_for kind len
unfolding size_of
size_is kind len h = ap (λ v. (skip_of (space_of kind) + v + 1) / 2 * 2) (first_count kind len h)

-- ---- nothing differs where memory was refused
pub refused : (thread : ℕ) (pool pool' : PoolView) (targets : Targets) (now : TerritoryView) → territory_view thread pool targets ≡ now → IsSettled pool → IsSettled pool' → IsSame pool pool' → IsAsBefore now (territory_view thread pool' targets)
refused thread pool pool' targets now e s s' same =
    subst (λ v. IsAsBefore v (territory_view thread pool' targets)) e (record {
      starts = same_map (thread * SEGMENTS) pool.segments pool'.segments (all_small pool.segments s.sound) (all_small pool'.segments s'.sound) (λ m j. ap (λ p. spot p j) (same.segments m));
      segments = λ n. seen_at pool'.segments n ∙ (ap seen (same.segments n) ∙ sym (seen_at pool.segments n));
      areas = same.areas;
    })

-- ---- a new object in segment n: `mid` is the pool in which there is room for it
pub record IsMade (old mid new : PoolView) (s : Space) (g first size birth n : ℕ) : Type 0 where
  pub old_settled : IsSettled old
  pub mid_settled : IsSettled mid
  pub new_settled : IsSettled new
  pub room : IsRoom old mid s g size n
  pub segments : new.segments ≡ set mid.segments n (grown (numbered mid.segments n) first size birth)
  pub size_is : size ≡ size_of s first
  pub born : 0 < birth
  pub bare : skip_of s ≡ 0 → first ≡ 0

-- before it, nothing started in the segment that did not start there already
pub mid_spot : (old mid : PoolView) (s : Space) (g size n : ℕ) → IsRoom old mid s g size n → (m j : ℕ) → spot (numbered mid.segments m) j ≡ spot (numbered old.segments m) j
mid_spot old mid s g size n r m j =
    elim r.way [
      | inl w ↦ ap (λ (p : PoolView). spot (numbered p.segments m) j) w.same
      | inr o ↦ elim (cases_eq m n) [
        | inl e ↦
            let free : spot (numbered old.segments n) j ≡ None = spot_free (numbered old.segments n) j (ap is_free o.1.was_free) in
            ap (λ v. spot (numbered mid.segments v) j) e ∙ (ap (λ p. spot p j) o.1.here ∙ (spot_opened s g (words_for size) o.0 j ∙ (sym free ∙ ap (λ v. spot (numbered old.segments v) j) (sym e))))
        | inr ne ↦ ap (λ p. spot p j) (o.1.others m ne)
      ]
    ]

pub used : (p : Segment) → p.role ≡ Current → is_free p.role ≡ false
used p e = ap is_free e

made_here : (old mid new : PoolView) (s : Space) (g first size birth n : ℕ) → IsMade old mid new s g first size birth n → numbered new.segments n ≡ grown (numbered mid.segments n) first size birth
made_here old mid new s g first size birth n d = ap (λ v. numbered v n) d.segments ∙ numbered-set_same mid.segments n (grown (numbered mid.segments n) first size birth) d.room.within

made_other : (old mid new : PoolView) (s : Space) (g first size birth n m : ℕ) → IsMade old mid new s g first size birth n → m ≢ n → numbered new.segments m ≡ numbered mid.segments m
made_other old mid new s g first size birth n m d ne = ap (λ v. numbered v m) d.segments ∙ numbered-set_other mid.segments n m (grown (numbered mid.segments n) first size birth) ne

pub made_slot : (base : ℕ) (old mid new : PoolView) (s : Space) (g first size birth n a : ℕ) → IsMade old mid new s g first size birth n → a ≡ (base + n) * OFFSETS + (numbered mid.segments n).top
    → IsSlot base old.segments new.segments n ((numbered mid.segments n).top / 2) a
made_slot base old mid new s g first size birth n a d is =
    let p : Segment = numbered mid.segments n in
    let sound : IsSound p = d.mid_settled.sound n in
    let some : 2 ≤ size = subst (λ v. 2 ≤ v) (sym d.size_is) (size_pos s first) in
    record {
      small = omega (arith, d.room.room.0, sound.small, sound.laid.even);
      address = omega (arith, sound.laid.even);
      others = λ j ne. ap (λ v. spot v j) (made_here old mid new s g first size birth n d) ∙ (spot_grown_other p first size birth j sound.laid ne ∙ mid_spot old mid s g size n d.room n j);
      elsewhere = λ m j ne. ap (λ v. spot v j) (made_other old mid new s g first size birth n m d ne) ∙ mid_spot old mid s g size n d.room m j;
    }

made_start : (old mid new : PoolView) (s : Space) (g first size birth n : ℕ) → IsMade old mid new s g first size birth n
    → spot (numbered new.segments n) ((numbered mid.segments n).top / 2) ≡ Some (record { kind = kind_of s first; length = length_of s first; generation = g; birth = birth; words = replicate (count_of s first) 0 })
made_start old mid new s g first size birth n d =
    let p : Segment = numbered mid.segments n in
    let sound : IsSound p = d.mid_settled.sound n in
    let made : spot (grown p first size birth) (p.top / 2) ≡ Some (record { kind = kind_of p.space first; length = length_of p.space first; generation = p.generation; birth = birth; words = replicate (count_of p.space first) 0 }) =
    spot_grown p first size birth sound.laid (used p d.room.current) (omega (arith, d.born)) (d.size_is ∙ ap (λ v. size_of v first) (sym d.room.space_is)) d.room.room (subst (λ v. skip_of v ≡ 0 → first ≡ 0) (sym d.room.space_is) d.bare) in
    ap (λ v. spot v (p.top / 2)) (made_here old mid new s g first size birth n d) ∙ (made
    ∙ (ap (λ v. Some (let x : Start = record { kind = kind_of v first; length = length_of v first; generation = p.generation; birth = birth; words = replicate (count_of v first) 0 } in x)) d.room.space_is
    ∙ ap (λ v. Some (let x : Start = record { kind = kind_of s first; length = length_of s first; generation = v; birth = birth; words = replicate (count_of s first) 0 } in x)) d.room.generation_is))

-- nothing starts at the new address before
pub was_nothing : (base : ℕ) (old mid new : PoolView) (s : Space) (g first size birth n a : ℕ) → IsMade old mid new s g first size birth n → a ≡ (base + n) * OFFSETS + (numbered mid.segments n).top → get (starts_of base old.segments) a ≡ None
was_nothing base old mid new s g first size birth n a d is =
    let p : Segment = numbered mid.segments n in
    let slot : IsSlot base old.segments new.segments n (p.top / 2) a = made_slot base old mid new s g first size birth n a d is in
    get-starts base old.segments (all_small old.segments d.old_settled.sound) a
    ∙ (start_here base old.segments n (p.top / 2) a slot.small slot.address ∙ (sym (mid_spot old mid s g size n d.room n (p.top / 2)) ∙ spot_top p (d.mid_settled.sound n).laid))

-- a new start at the new address
pub one_start : (base : ℕ) (old mid new : PoolView) (kind : Kind) (len : ℕ) (s : Space) (g first size birth n a : ℕ) → IsMade old mid new s g first size birth n → a ≡ (base + n) * OFFSETS + (numbered mid.segments n).top
    → HasLength kind len → s ≡ space_of kind → first ≡ first_word kind len → starts_of base new.segments ≡ insert (starts_of base old.segments) a (fresh_start kind len g birth)
one_start base old mid new kind len s g first size birth n a d is h es ef =
    let p : Segment = numbered mid.segments n in
    let x : Start = record { kind = kind_of s first; length = length_of s first; generation = g; birth = birth; words = replicate (count_of s first) 0 } in
    let k1 : kind_of s first ≡ kind = ap (λ v. kind_of v first) es ∙ (ap (kind_of (space_of kind)) ef ∙ first_kind kind len) in
    let k2 : length_of s first ≡ len = ap (λ v. length_of v first) es ∙ (ap (length_of (space_of kind)) ef ∙ first_length kind len h) in
    let k3 : count_of s first ≡ words_after kind len = ap (λ v. count_of v first) es ∙ (ap (count_of (space_of kind)) ef ∙ first_count kind len h) in
    let x_is : x ≡ fresh_start kind len g birth =
    ap (λ v. let y : Start = record { kind = v; length = length_of s first; generation = g; birth = birth; words = replicate (count_of s first) 0 } in y) k1
    ∙ (ap (λ v. let y : Start = record { kind = kind; length = v; generation = g; birth = birth; words = replicate (count_of s first) 0 } in y) k2
    ∙ ap (λ v. let y : Start = record { kind = kind; length = len; generation = g; birth = birth; words = replicate v 0 } in y) k3) in
    changed_map base old.segments new.segments n (p.top / 2) a x (all_small old.segments d.old_settled.sound) (all_small new.segments d.new_settled.sound)
    (made_slot base old mid new s g first size birth n a d is) (made_start old mid new s g first size birth n d)
    ∙ ap (insert (starts_of base old.segments) a) x_is

pub bare_seen : (kind : Kind) (len : ℕ) (s : Space) (first : ℕ) → s ≡ space_of kind → first ≡ first_word kind len → skip_of s ≡ 0 → first ≡ 0
bare_seen kind len s first es ef h = ef ∙ first_bare kind len (ap skip_of (sym es) ∙ h)

pub made : (old mid new : PoolView) (kind : Kind) (len : ℕ) (s : Space) (g first size birth n : ℕ) → IsSettled old → IsSettled mid → IsSettled new → IsRoom old mid s g size n → new.segments ≡ set mid.segments n (grown (numbered mid.segments n) first size birth)
    → size ≡ size_of s first → 0 < birth → s ≡ space_of kind → first ≡ first_word kind len → IsMade old mid new s g first size birth n
made old mid new kind len s g first size birth n t t' t'' r is z pos es ef = record {
  old_settled = t;
  mid_settled = t';
  new_settled = t'';
  room = r;
  segments = is;
  size_is = z;
  born = pos;
  bare = bare_seen kind len s first es ef;
}

pub fits_seen : (kind : Kind) (len : ℕ) (s : Space) (first : ℕ) → HasLength kind len → s ≡ space_of kind → first ≡ first_word kind len → HasLength (kind_of s first) (length_of s first)
fits_seen kind len s first h es ef =
    let k1 : kind_of s first ≡ kind = ap (λ v. kind_of v first) es ∙ (ap (kind_of (space_of kind)) ef ∙ first_kind kind len) in
    let k2 : length_of s first ≡ len = ap (λ v. length_of v first) es ∙ (ap (length_of (space_of kind)) ef ∙ first_length kind len h) in
    subst (λ v. HasLength v (length_of s first)) (sym k1) (subst (HasLength kind) (sym k2) h)

pub address_is : (a thread n o top : ℕ) → a ≡ address_of thread n o → o ≡ top → a ≡ (thread * SEGMENTS + n) * OFFSETS + top
unfolding address_of
address_is a thread n o top is e = is ∙ ap (λ v. (thread * SEGMENTS + n) * OFFSETS + v) e

-- ---- the segments as contracts see them
seen_grown : (p : Segment) (first size birth : ℕ) → seen (grown p first size birth) ≡ seen p
seen_grown p first size birth = ap (λ v. cond (is_free p.role) None (Some (let w : SegmentView = record { space = p.space; generation = p.generation; words = v; is_from = is_from_role p.role; was_held = p.was_held; cards = p.cards } in w))) (length-set p.words p.top first)

pub seen_current : (p : Segment) → p.role ≡ Current → seen p ≡ Some (record { space = p.space; generation = p.generation; words = length p.words; is_from = false; was_held = p.was_held; cards = p.cards })
seen_current p e = ap (λ r. seen (record p { role = r })) e

pub seen_opened : (s : Space) (g words births : ℕ) → seen (opened s g words births) ≡ Some (fresh_segment s g words)
seen_opened s g words births = ap (λ v. Some (let w : SegmentView = record { space = s; generation = g; words = v; is_from = false; was_held = false; cards = replicate (card_count words) 255 } in w)) (length-replicate {A = ℕ} words 0)

pub seen_free : (p : Segment) → p.role ≡ Free → seen p ≡ None
seen_free p e = ap (λ r. seen (record p { role = r })) e

pub none_some : (o : Option SegmentView) (v : SegmentView) → o ≡ Some v → IsNone o → ⊥
none_some None v e h = cc
none_some (Some w) v e h = cc

pub some_none : (o : Option SegmentView) → o ≡ None → IsSome o → ⊥
some_none None e h = cc
some_none (Some w) e h = cc

pub mid_other : (old mid : PoolView) (s : Space) (g size n m : ℕ) → IsRoom old mid s g size n → m ≢ n → numbered mid.segments m ≡ numbered old.segments m
mid_other old mid s g size n m r ne = elim r.way [ inl w ↦ ap (λ (p : PoolView). numbered p.segments m) w.same | inr o ↦ o.1.others m ne ]

pub if_seen : (o : Option SegmentView) (p : Segment) (s : Space) (g : ℕ) → o ≡ Some (record { space = p.space; generation = p.generation; words = length p.words; is_from = false; was_held = p.was_held; cards = p.cards }) → p.space ≡ s → p.generation ≡ g
    → IfSome o (λ v. (v.space ≡ s) × (v.generation ≡ g) × (v.is_from ≡ false))
if_seen o p s g e a b = subst (λ w. IfSome w (λ v. (v.space ≡ s) × (v.generation ≡ g) × (v.is_from ≡ false))) (sym e) (a, b, refl)

pub placed : (thread : ℕ) (targets : Targets) (now : TerritoryView) (old mid new : PoolView) (s : Space) (g first size birth n : ℕ) → territory_view thread old targets ≡ now → IsMade old mid new s g first size birth n → new.areas ≡ mid.areas → new.lists ≡ mid.lists
    → IsPlaced now (territory_view thread new targets) s g size n
placed thread targets now old mid new s g first size birth n e d areas lists =
    let t : TerritoryView = territory_view thread new targets in
    let here : segment_at t n ≡ seen (numbered mid.segments n) = seen_at new.segments n ∙ (ap seen (made_here old mid new s g first size birth n d) ∙ seen_grown (numbered mid.segments n) first size birth) in
    subst (λ v. IsPlaced v t s g size n) e (record {
      used = λ h. elim d.room.way [
        | inl w ↦ (here ∙ (ap (λ (p : PoolView). seen (numbered p.segments n)) w.same ∙ sym (seen_at old.segments n)), lists ∙ ap (λ (p : PoolView). p.lists) w.same, w.area, w.shared)
        | inr o ↦ absurd (some_none (get_or (map seen old.segments) n None) (seen_at old.segments n ∙ seen_free (numbered old.segments n) o.1.was_free) h)
      ];
      fresh = λ h. elim d.room.way [
        | inl w ↦ absurd (none_some (get_or (map seen old.segments) n None) _ (seen_at old.segments n ∙ (ap (λ (p : PoolView). seen (numbered p.segments n)) (sym w.same) ∙ seen_current (numbered mid.segments n) d.room.current)) h)
        | inr o ↦ (here ∙ (ap seen o.1.here ∙ seen_opened s g (words_for size) o.0), o.1.next, lists ∙ o.1.lists)
      ];
      fits = if_seen (segment_at t n) (numbered mid.segments n) s g (here ∙ seen_current (numbered mid.segments n) d.room.current) d.room.space_is d.room.generation_is;
      others = λ m ne. seen_at new.segments m ∙ (ap seen (made_other old mid new s g first size birth n m d ne ∙ mid_other old mid s g size n m d.room ne) ∙ sym (seen_at old.segments m));
      areas = areas ∙ d.room.areas;
    })

-- ---- cards stay sound
-- the segment of each start is as before
stays : (thread : ℕ) (old mid new : PoolView) (s : Space) (g first size birth n q : ℕ) (x : Start) → IsMade old mid new s g first size birth n → get (starts_of (thread * SEGMENTS) old.segments) q ≡ Some x
    → get_or (map seen new.segments) (segment_of q) None ≡ get_or (map seen old.segments) (segment_of q) None
stays thread old mid new s g first size birth n q x d has =
    let p : IsPresent thread old.segments q x = present thread old q x d.old_settled has in
    seen_at new.segments (segment_of q)
    ∙ (elim (cases_eq (segment_of q) n) [
      | inr ne ↦ ap seen (made_other old mid new s g first size birth n (segment_of q) d ne ∙ mid_other old mid s g size n (segment_of q) d.room ne)
      | inl same ↦ elim d.room.way [
        | inl w ↦
            ap (λ v. seen (numbered new.segments v)) same ∙ (ap seen (made_here old mid new s g first size birth n d) ∙ (seen_grown (numbered mid.segments n) first size birth
            ∙ (ap (λ (v : PoolView). seen (numbered v.segments n)) w.same ∙ ap (λ v. seen (numbered old.segments v)) (sym same))))
        | inr o ↦ absurd (let f : is_free (numbered old.segments (segment_of q)).role ≡ true = ap (λ v. is_free (numbered old.segments v).role) same ∙ ap is_free o.1.was_free in let c : true ≡ false = sym f ∙ p.starts.0 in cc)
      ]
    ] ∙ sym (seen_at old.segments (segment_of q)))

zero_value : (b : ℕ) → value_of 0 ≡ Some (value.Object b) → ⊥
unfolding value_of
zero_value b e = cc

no_reference : (kind : Kind) (len g birth index b : ℕ) → Refers (fresh_start kind len g birth) index b → ⊥
no_reference kind len g birth index b r =
    zero_value b (ap value_of (sym (get_or-replicate (words_after kind len) index 0 0 (omega (arith, r.within, length-replicate {A = ℕ} (words_after kind len) 0)))) ∙ r.names)

pub sound_made : (thread : ℕ) (targets : Targets) (now : TerritoryView) (old mid new : PoolView) (kind : Kind) (len : ℕ) (s : Space) (g first size birth n a : ℕ) (before after : ℕ → Option ℕ)
    → territory_view thread old targets ≡ now → IsMade old mid new s g first size birth n → starts_of (thread * SEGMENTS) new.segments ≡ insert (starts_of (thread * SEGMENTS) old.segments) a (fresh_start kind len g birth)
    → IsToldMore before after now a → AreCardsSound before now → AreCardsSound after (territory_view thread new targets)
sound_made thread targets now old mid new kind len s g first size birth n a before after e d starts more0 sound0 =
    let u : TerritoryView = territory_view thread old targets in
    let more : IsToldMore before after u a = subst (λ v. IsToldMore before after v a) (sym e) more0 in
    let sound : AreCardsSound before u = subst (AreCardsSound before) (sym e) sound0 in
    λ q index b h x has refers gen young.
    elim (cases_eq q a) [
      | inl same ↦ absurd (let x_is : fresh_start kind len g birth ≡ x = same_Some _ _ (sym (ap (λ v. get v q) starts ∙ (ap (get (insert (starts_of (thread * SEGMENTS) old.segments) a (fresh_start kind len g birth))) same ∙ get_here (starts_of (thread * SEGMENTS) old.segments) a (fresh_start kind len g birth))) ∙ has) in
          no_reference kind len g birth index b (subst (λ v. Refers v index b) (sym x_is) refers))
      | inr ne ↦
          let had : get (starts_of (thread * SEGMENTS) old.segments) q ≡ Some x = sym (get_other (starts_of (thread * SEGMENTS) old.segments) a (fresh_start kind len g birth) q ne) ∙ (ap (λ v. get v q) (sym starts) ∙ has) in
          let other : b ≢ a = λ same. more.alone q index x had (subst (Refers x index) same refers) in
          let le : card_byte u q index ≤ h = sound q index b h x had refers (sym (more.others b other) ∙ gen) young in
          subst (λ v. byte_at v q index ≤ h) (sym (stays thread old mid new s g first size birth n q x d had)) le
    ]

-- ---- for the answers
pub on_err : {A E : Type 0} {P : Type 0} (r : Result A E) → P → OnErr r P
on_err (Ok x) p = tt
on_err (Err e) p = p

pub placed_for : (old new : TerritoryView) (s s' : Space) (g size size' n n' : ℕ) → IsPlaced old new s g size n → s ≡ s' → size ≡ size' → n ≡ n' → IsPlaced old new s' g size' n'
placed_for old new s s' g size size' n n' l a b c = subst (λ v. IsPlaced old new s' g size' v) c (subst (λ v. IsPlaced old new s' g v n) b (subst (λ v. IsPlaced old new v g size n) a l))

pub size_for_is : (kind : Kind) (len first size : ℕ) (s : Space) → HasLength kind len → s ≡ space_of kind → first ≡ first_word kind len → size ≡ size_of s first → size ≡ size_for kind len
size_for_is kind len first size s h es ef z = z ∙ (ap (λ v. size_of v first) es ∙ (ap (size_of (space_of kind)) ef ∙ size_is kind len h))

pub new_view : (thread : ℕ) (pool : PoolView) → pool.segments ≡ [] → pool.areas ≡ replicate 72 None → pool.lists ≡ replicate 19 [] → pool.dirty ≡ replicate 2 [] → territory_view thread pool (record { cg = 0; min = 0; max = 0 }) ≡ no_territory thread
new_view thread pool e f g h =
    ap (λ v. let t : TerritoryView = record (territory_view thread pool (record { cg = 0; min = 0; max = 0 })) { starts = v } in t) (starts_of_none (thread * SEGMENTS) pool.segments e)
    ∙ (ap (λ v. let t : TerritoryView = record (no_territory thread) { segments = map seen v; areas = pool.areas; lists = pool.lists; dirty = chain_of pool.dirty 1 } in t) e
    ∙ (ap (λ v. let t : TerritoryView = record (no_territory thread) { areas = v; lists = pool.lists; dirty = chain_of pool.dirty 1 } in t) f
    ∙ (ap (λ v. let t : TerritoryView = record (no_territory thread) { lists = v; dirty = chain_of pool.dirty 1 } in t) g
    ∙ ap (λ v. let t : TerritoryView = record (no_territory thread) { dirty = chain_of v 1 } in t) h)))

-- each segment in use has a start again
pub used_made : (old mid new : PoolView) (s : Space) (g first size birth n : ℕ) → IsMade old mid new s g first size birth n → AreUsed old.segments → AreUsed new.segments
used_made old mid new s g first size birth n d u m used =
    elim (cases_eq m n) [
      | inl e ↦ subst (λ v. (k : ℕ) × IsStart (numbered new.segments v) k) (sym e) ((numbered mid.segments n).top / 2, (spot_is (numbered new.segments n) ((numbered mid.segments n).top / 2) _ (made_start old mid new s g first size birth n d)).0)
      | inr ne ↦
          let same : numbered new.segments m ≡ numbered old.segments m = made_other old mid new s g first size birth n m d ne ∙ mid_other old mid s g size n m d.room ne in
          subst (λ v. (k : ℕ) × IsStart v k) (sym same) (u m (subst (λ (v : Segment). is_free v.role ≡ false) same used))
    ]
