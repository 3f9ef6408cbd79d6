-- What `put` leaves.
use Rattle.std.proofs.Common.{◌≡◌, ℕ, ◌+◌, ◌*◌, ◌/◌, ◌<◌, ◌≤◌, Bool, true, false, cond, List, length, get_or, set, map, min, Option, Some, None, option_map, refl, sym, ◌∙◌, ap, subst, arith, inl, inr}
use Rattle.std.proofs.lemmas.Bool.{cases_eq, cases_lt}
use Rattle.std.proofs.lemmas.Bool.Decides.{nat_tests}
use Rattle.std.proofs.lemmas.List.{length-set, length-map, get_or-set_same, get_or-set_other, map-set, get_or_past, set_past}
use Rattle.std.proofs.lemmas.Option.{same_Some}
use Rattle.std.specs.FinMap.{get, insert}
use Rattle.gc_words.specs.declared.address.TheConstants.{SEGMENTS, OFFSETS}
use Rattle.gc_words.specs.declared.value.Value.TheVariants as value
use Rattle.gc_words.specs.Word.{value_of}
use Rattle.gc_words.specs.Layout.{segment_of, offset_of}
use Rattle.cards.specs.Cards.{card_of}
use Rattle.seg_chain.specs.Lists.{chain_of}
use Rattle.segment.specs.Layout.{skip_of}
use Rattle.segment.specs.Segments.{Segment, Start, IsStart, is_free, object_at, words_at, spot, place_in, put_in, marked_at}
use Rattle.segment.proofs.Spots.{in_words, spot_put, spot_put_other, spot_start}
use Rattle.territory.specs.declared.territory.Targets.{Targets}
use Rattle.territory.specs.Territories.{SegmentView, TerritoryView, segment_at, put_start, words_of, place_of, byte_at, card_byte, Refers, AreCardsSound, needs_mark, with_card, marks, with_dirty, with_word, TellsLower}
use Rattle.territory.specs.Pools.{PoolView, IsSettled, AreUsed, numbered, starts_of, seen, is_from_role, noted, dirty_after, territory_view}
use Rattle.territory.proofs.Numbers.{numbered-set_same, numbered-set_other, seen_at}
use Rattle.territory.proofs.Slots.{all_small, changed_map, get_here, get_other}
use Rattle.territory.proofs.Reading.{IsReached, reach, has_index}

-- ---- cards
-- a byte that became the lesser of itself and a generation
set_min_le : (cards : List ℕ) (c d g : ℕ) → get_or (set cards c (min (get_or cards c 0) g)) d 0 ≤ get_or cards d 0
set_min_le cards c d g =
    elim (cases_lt c (length cards)) [
      | inr far ↦ omega (arith, ap (λ v. get_or v d 0) (set_past cards c (min (get_or cards c 0) g) far))
      | inl b ↦ elim (cases_eq d c) [
        | inl e ↦ omega (arith, ap (λ v. get_or (set cards c (min (get_or cards c 0) g)) v 0) e, get_or-set_same cards c (min (get_or cards c 0) g) 0 b, ap (λ v. get_or cards v 0) e)
        | inr ne ↦ omega (arith, get_or-set_other cards c d (min (get_or cards c 0) g) 0 ne)
      ]
    ]

set_min_here : (cards : List ℕ) (c g : ℕ) → get_or (set cards c (min (get_or cards c 0) g)) c 0 ≤ g
set_min_here cards c g =
    elim (cases_lt c (length cards)) [
      | inl b ↦ omega (arith, get_or-set_same cards c (min (get_or cards c 0) g) 0 b)
      | inr far ↦ omega (arith, get_or_past (set cards c (min (get_or cards c 0) g)) c 0 (omega (arith, length-set cards c (min (get_or cards c 0) g))))
    ]

byte_falls : (s : SegmentView) (a index refers q i : ℕ) → byte_at (Some (with_card a index refers s)) q i ≤ byte_at (Some s) q i
byte_falls s a index refers q i =
    elim (needs_mark s.is_from s.generation refers) as (λ b. byte_at (Some (cond b (record s { cards = set s.cards (card_of (place_of s a index)) (min (get_or s.cards (card_of (place_of s a index)) 0) refers) }) s)) q i ≤ byte_at (Some s) q i) [
      | true ↦ set_min_le s.cards (card_of (place_of s a index)) (card_of (place_of s q i)) refers
      | false ↦ omega arith
    ]

byte_marked : (s : SegmentView) (a index refers : ℕ) → needs_mark s.is_from s.generation refers ≡ true → byte_at (Some (with_card a index refers s)) a index ≤ refers
byte_marked s a index refers e =
    let f : with_card a index refers s ≡ record s { cards = set s.cards (card_of (place_of s a index)) (min (get_or s.cards (card_of (place_of s a index)) 0) refers) } =
    ap (λ b. cond b (record s { cards = set s.cards (card_of (place_of s a index)) (min (get_or s.cards (card_of (place_of s a index)) 0) refers) }) s) e in
    subst (λ v. byte_at (Some v) a index ≤ refers) (sym f) (set_min_here s.cards (card_of (place_of s a index)) refers)

-- a reference to a lower generation is told and marked
needs : (from : Bool) (g refers h : ℕ) → refers ≤ h → h < g → g ≤ 8 → needs_mark from g refers ≡ true
needs true g refers h a b c = grind (arith, nat_tests, a, b, c)
needs false g refers h a b c = grind (arith, nat_tests, a, b, c)

pub sound_put : (generation_at : ℕ → Option ℕ) (t : TerritoryView) (a index word refers : ℕ) (x : Start) (s : SegmentView) → get t.starts a ≡ Some x → segment_at t (segment_of a) ≡ Some s → s.generation ≡ x.generation → x.generation ≤ 8 → segment_of a < length t.segments → index < length x.words
    → TellsLower generation_at (get t.starts a) word refers → AreCardsSound generation_at t → AreCardsSound generation_at (with_word t a index word refers)
sound_put generation_at t a index word refers x s has at_s same small within index_in told sound =
    let n : ℕ = segment_of a in
    let u : TerritoryView = with_word t a index word refers in
    let x' : Start = record x { words = set x.words index word } in
    let starts : u.starts ≡ insert t.starts a x' = ap (λ o. put_start t.starts a o index word) has in
    let here : segment_at u n ≡ Some (with_card a index refers s) = get_or-set_same t.segments n (option_map (with_card a index refers) (segment_at t n)) None within ∙ ap (option_map (with_card a index refers)) at_s in
    let falls : (q i : ℕ) → card_byte u q i ≤ card_byte t q i = λ q i.
    elim (cases_eq (segment_of q) n) [
      | inl e ↦ subst (λ v. byte_at (segment_at u v) q i ≤ byte_at (segment_at t v) q i) (sym e)
          (subst (λ v. byte_at v q i ≤ byte_at (segment_at t n) q i) (sym here) (subst (λ v. byte_at (Some (with_card a index refers s)) q i ≤ byte_at v q i) (sym at_s) (byte_falls s a index refers q i)))
      | inr ne ↦ omega (arith, ap (λ v. byte_at v q i) (get_or-set_other t.segments n (segment_of q) (option_map (with_card a index refers) (segment_at t n)) None ne))
    ] in
    λ q i b h y got r gen young.
    elim (cases_eq q a) [
      | inr ne ↦
          let had : get t.starts q ≡ Some y = sym (get_other t.starts a x' q ne) ∙ (ap (λ v. get v q) (sym starts) ∙ got) in
          let le : card_byte t q i ≤ h = sound q i b h y had r gen young in
          omega (arith, falls q i)
      | inl e ↦
          let y_is : x' ≡ y = same_Some _ _ (sym (get_here t.starts a x') ∙ (ap (λ v. get v a) (sym starts) ∙ (ap (get u.starts) (sym e) ∙ got))) in
          let r' : Refers x' i b = subst (λ v. Refers v i b) (sym y_is) r in
          let young' : h < x.generation = subst (λ (v : Start). h < v.generation) (sym y_is) young in
          let i_in : i < length x.words = omega (arith, r'.within, length-set x.words index word) in
          subst (λ v. card_byte u v i ≤ h) (sym e) (elim (cases_eq i index) [
            | inl j ↦
                let names : value_of word ≡ Some (value.Object b) = ap value_of (sym (ap (λ v. get_or (set x.words index word) v 0) j ∙ get_or-set_same x.words index word 0 index_in)) ∙ r'.names in
                let le : refers ≤ h = (subst (λ o. TellsLower generation_at o word refers) has told) b h r'.values names gen young' in
                let m : needs_mark s.is_from s.generation refers ≡ true = needs s.is_from s.generation refers h le (omega (arith, same)) (omega (arith, same)) in
                subst (λ v. card_byte u a v ≤ h) (sym j) (subst (λ v. byte_at v a index ≤ h) (sym here) (omega (arith, byte_marked s a index refers m)))
            | inr nj ↦
                let old : Refers x i b = record { within = i_in; values = r'.values; names = ap value_of (sym (get_or-set_other x.words index i word 0 nj)) ∙ r'.names } in
                let le : card_byte t a i ≤ h = sound a i b h x has old gen young' in
                omega (arith, falls a i)
          ])
    ]

-- ---- the parts of what contracts see
same_view : (t u : TerritoryView) → t.thread ≡ u.thread → t.starts ≡ u.starts → t.segments ≡ u.segments → t.areas ≡ u.areas → t.lists ≡ u.lists → t.dirty ≡ u.dirty → t.targets ≡ u.targets → t ≡ u
same_view t u a b c d e f g = λ i. record { thread = a i; starts = b i; segments = c i; areas = d i; lists = e i; dirty = f i; targets = g i }

view_of : Segment → SegmentView
view_of p = record { space = p.space; generation = p.generation; words = length p.words; is_from = is_from_role p.role; was_held = p.was_held; cards = p.cards }

seen_used : (p : Segment) → is_free p.role ≡ false → seen p ≡ Some (view_of p)
unfolding view_of
seen_used p e = ap (λ b. cond b None (Some (view_of p))) e

view_noted : (b : Bool) (p : Segment) (word g : ℕ) → view_of (cond b (marked_at p word g) p) ≡ cond b (record (view_of p) { cards = set p.cards (card_of word) (min (get_or p.cards (card_of word) 0) g) }) (view_of p)
unfolding view_of
view_noted true p word g = refl
view_noted false p word g = refl

spot_noted : (b : Bool) (p : Segment) (word g j : ℕ) → spot (cond b (marked_at p word g) p) j ≡ spot p j
spot_noted true p word g j = refl
spot_noted false p word g j = refl

free_noted : (b : Bool) (p : Segment) (word g : ℕ) → is_free (cond b (marked_at p word g) p).role ≡ is_free p.role
free_noted true p word g = refl
free_noted false p word g = refl

-- the view of the segment, with the word put and the card marked
view_put : (p : Segment) (a k index word refers : ℕ) → offset_of a ≡ 2 * k → view_of (noted (put_in p k index word) k index refers) ≡ with_card a index refers (view_of p)
unfolding view_of
view_put p a k index word refers o =
    let q : Segment = put_in p k index word in
    let b : Bool = needs_mark (is_from_role p.role) p.generation refers in
    let words : length q.words ≡ length p.words = length-set p.words (place_in p k index) word in
    let card : card_of (place_in q k index) ≡ card_of (place_of (view_of p) a index) = ap (λ v. card_of (v + skip_of p.space + index)) (sym o) in
    view_noted b q (place_in q k index) refers
    ∙ (ap (λ v. cond b (let w : SegmentView = record { space = p.space; generation = p.generation; words = v; is_from = is_from_role p.role; was_held = p.was_held; cards = set p.cards (card_of (place_in q k index)) (min (get_or p.cards (card_of (place_in q k index)) 0) refers) } in w)
    (let w : SegmentView = record { space = p.space; generation = p.generation; words = v; is_from = is_from_role p.role; was_held = p.was_held; cards = p.cards } in w)) words
    ∙ ap (λ v. cond b (record (view_of p) { cards = set p.cards v (min (get_or p.cards v 0) refers) }) (view_of p)) card)

-- ---- `put`, all together
pub record IsPut (thread : ℕ) (targets : Targets) (now : TerritoryView) (old new : PoolView) (a n k index word refers : ℕ) : Type 0 where
  pub view_is : territory_view thread old targets ≡ now
  pub settled : IsSettled old
  pub new_settled : IsSettled new
  pub index_in : index < length (words_of (get now.starts a))
  pub segment : n ≡ segment_of a
  pub start : k ≡ offset_of a / 2
  pub segments : new.segments ≡ set old.segments n (noted (put_in (numbered old.segments n) k index word) k index refers)
  pub dirty : chain_of new.dirty 1 ≡ dirty_after (put_in (numbered old.segments n) k index word) (chain_of old.dirty 1) n refers
  pub areas : new.areas ≡ old.areas
  pub lists : new.lists ≡ old.lists

record IsAll (thread : ℕ) (targets : Targets) (now : TerritoryView) (old new : PoolView) (a n k index word refers : ℕ) : Type 0 where
  start : Start
  has : get now.starts a ≡ Some start
  within : n < length old.segments
  starts : IsStart (numbered old.segments n) k
  object : start ≡ object_at (numbered old.segments n) k
  offset : offset_of a ≡ 2 * k
  small : 2 * k < OFFSETS
  address : a ≡ (thread * SEGMENTS + n) * OFFSETS + 2 * k
  index_in : index < length (words_at (numbered old.segments n) k)
  generation_in : start.generation ≤ 8

pub put_starts : (thread : ℕ) (targets : Targets) (now : TerritoryView) (old : PoolView) (a n k index : ℕ) → territory_view thread old targets ≡ now → IsSettled old → index < length (words_of (get now.starts a)) → n ≡ segment_of a → k ≡ offset_of a / 2
    → IsStart (numbered old.segments n) k × (index < length (words_at (numbered old.segments n) k))
put_starts thread targets now old a n k index e s i is ks =
    let r : IsReached thread old now a = reach thread old targets now a s e (has_index (get now.starts a) index i) in
    let x_is : r.start ≡ object_at (numbered old.segments n) k = r.present.object ∙ (ap (λ v. object_at (numbered old.segments v) (offset_of a / 2)) (sym is) ∙ ap (object_at (numbered old.segments n)) (sym ks)) in (
      subst (λ v. IsStart (numbered old.segments n) v) (sym ks) (subst (λ v. IsStart (numbered old.segments v) (offset_of a / 2)) (sym is) r.present.starts),
      subst (λ (v : Start). index < length v.words) x_is (subst (λ o. index < length (words_of o)) r.has i),
    )

all : (thread : ℕ) (targets : Targets) (now : TerritoryView) (old new : PoolView) (a n k index word refers : ℕ) → IsPut thread targets now old new a n k index word refers → IsAll thread targets now old new a n k index word refers
all thread targets now old new a n k index word refers d =
    let r : IsReached thread old now a = reach thread old targets now a d.settled d.view_is (has_index (get now.starts a) index d.index_in) in
    let within : n < length old.segments = subst (λ v. v < length old.segments) (sym d.segment) r.present.within in
    let i : IsStart (numbered old.segments n) k × (index < length (words_at (numbered old.segments n) k)) = put_starts thread targets now old a n k index d.view_is d.settled d.index_in d.segment d.start in
    let offset : offset_of a ≡ 2 * k = r.present.even ∙ ap (λ v. 2 * v) (sym d.start) in
    record {
      start = r.start;
      has = r.has;
      within = within;
      starts = i.0;
      object = r.present.object ∙ (ap (λ v. object_at (numbered old.segments v) (offset_of a / 2)) (sym d.segment) ∙ ap (object_at (numbered old.segments n)) (sym d.start));
      offset = offset;
      small = subst (λ v. 2 * v < OFFSETS) (sym d.start) r.present.small;
      address = r.present.address ∙ (ap (λ v. (thread * SEGMENTS + v) * OFFSETS + 2 * (offset_of a / 2)) (sym d.segment) ∙ ap (λ v. (thread * SEGMENTS + n) * OFFSETS + 2 * v) (sym d.start));
      index_in = i.1;
      generation_in = r.shaped.generation_in;
    }

put_map : (thread : ℕ) (targets : Targets) (now : TerritoryView) (old new : PoolView) (a n k index word refers : ℕ) → IsPut thread targets now old new a n k index word refers → (l : IsAll thread targets now old new a n k index word refers)
    → starts_of (thread * SEGMENTS) new.segments ≡ insert (starts_of (thread * SEGMENTS) old.segments) a (record l.start { words = set l.start.words index word })
put_map thread targets now old new a n k index word refers d l =
    let p : Segment = numbered old.segments n in
    let q : Segment = put_in p k index word in
    let b : Bool = needs_mark (is_from_role p.role) p.generation refers in
    let here : numbered new.segments n ≡ noted q k index refers = ap (λ v. numbered v n) d.segments ∙ numbered-set_same old.segments n (noted q k index refers) l.within in
    let at_p : spot p k ≡ Some l.start = spot_start p k l.starts ∙ ap Some (sym l.object) in
    changed_map (thread * SEGMENTS) old.segments new.segments n k a (record l.start { words = set l.start.words index word }) (all_small old.segments d.settled.sound) (all_small new.segments d.new_settled.sound)
    (record {
      small = l.small;
      address = l.address;
      others = λ j ne. ap (λ v. spot v j) here ∙ (spot_noted b q (place_in q k index) refers j ∙ spot_put_other p k index word j (d.settled.sound n).laid l.starts.1 (in_words p k index l.index_in) ne);
      elsewhere = λ m j ne. ap (λ v. spot (numbered v m) j) d.segments ∙ ap (λ v. spot v j) (numbered-set_other old.segments n m (noted q k index refers) ne);
    })
    (ap (λ v. spot v k) here ∙ (spot_noted b q (place_in q k index) refers k ∙ spot_put p k index word l.start at_p))

seen_before : (thread : ℕ) (targets : Targets) (now : TerritoryView) (old new : PoolView) (a n k index word refers : ℕ) → (l : IsAll thread targets now old new a n k index word refers) → n ≡ segment_of a
    → segment_at (territory_view thread old targets) (segment_of a) ≡ Some (view_of (numbered old.segments n))
seen_before thread targets now old new a n k index word refers l is =
    ap (λ v. get_or (map seen old.segments) v None) (sym is) ∙ (seen_at old.segments n ∙ seen_used (numbered old.segments n) l.starts.0)

pub put_view : (thread : ℕ) (targets : Targets) (now : TerritoryView) (old new : PoolView) (a n k index word refers : ℕ) → IsPut thread targets now old new a n k index word refers → territory_view thread new targets ≡ with_word now a index word refers
unfolding view_of
put_view thread targets now old new a n k index word refers d =
    let l : IsAll thread targets now old new a n k index word refers = all thread targets now old new a n k index word refers d in
    let u : TerritoryView = territory_view thread old targets in
    let p : Segment = numbered old.segments n in
    let q : Segment = noted (put_in p k index word) k index refers in
    let b : Bool = needs_mark (is_from_role p.role) p.generation refers in
    let has : get u.starts a ≡ Some l.start = ap (λ (v : TerritoryView). get v.starts a) d.view_is ∙ l.has in
    let seg : segment_at u (segment_of a) ≡ Some (view_of p) = seen_before thread targets now old new a n k index word refers l d.segment in
    let q_used : is_free q.role ≡ false = free_noted b (put_in p k index word) (place_in (put_in p k index word) k index) refers ∙ l.starts.0 in
    let q_seen : seen q ≡ option_map (with_card a index refers) (segment_at u (segment_of a)) = seen_used q q_used ∙ (ap Some (view_put p a k index word refers l.offset) ∙ sym (ap (option_map (with_card a index refers)) seg)) in
    same_view (territory_view thread new targets) (with_word u a index word refers)
    refl
    (put_map thread targets now old new a n k index word refers d l ∙ sym (ap (λ o. put_start u.starts a o index word) has))
    (ap (map seen) d.segments ∙ (map-set seen old.segments n q ∙ (ap (set (map seen old.segments) n) q_seen ∙ ap (λ v. set (map seen old.segments) v (option_map (with_card a index refers) (segment_at u (segment_of a)))) d.segment)))
    d.areas
    d.lists
    (d.dirty ∙ (ap (λ v. cond b (with_dirty (chain_of old.dirty 1) v) (chain_of old.dirty 1)) d.segment ∙ sym (ap (λ o. cond (marks o refers) (with_dirty (chain_of old.dirty 1) (segment_of a)) (chain_of old.dirty 1)) seg)))
    refl
    ∙ ap (λ v. with_word v a index word refers) d.view_is

pub put_sound : (thread : ℕ) (targets : Targets) (now : TerritoryView) (old new : PoolView) (a n k index word refers : ℕ) (generation_at : ℕ → Option ℕ) → IsPut thread targets now old new a n k index word refers
    → TellsLower generation_at (get now.starts a) word refers → AreCardsSound generation_at now → AreCardsSound generation_at (territory_view thread new targets)
unfolding view_of
put_sound thread targets now old new a n k index word refers generation_at d told sound =
    let l : IsAll thread targets now old new a n k index word refers = all thread targets now old new a n k index word refers d in
    let u : TerritoryView = territory_view thread old targets in
    let p : Segment = numbered old.segments n in
    let has : get u.starts a ≡ Some l.start = ap (λ (v : TerritoryView). get v.starts a) d.view_is ∙ l.has in
    let seg : segment_at u (segment_of a) ≡ Some (view_of p) = seen_before thread targets now old new a n k index word refers l d.segment in
    let done : AreCardsSound generation_at (with_word u a index word refers) = sound_put generation_at u a index word refers l.start (view_of p) has seg (ap (λ (v : Start). v.generation) (sym l.object)) l.generation_in
    (subst (λ v. v < length (map seen old.segments)) d.segment (omega (arith, l.within, length-map old.segments seen)))
    (subst (λ (v : Start). index < length v.words) (sym l.object) l.index_in)
    (subst (λ (v : TerritoryView). TellsLower generation_at (get v.starts a) word refers) (sym d.view_is) told) (subst (AreCardsSound generation_at) (sym d.view_is) sound) in
    subst (AreCardsSound generation_at) (ap (λ v. with_word v a index word refers) d.view_is ∙ sym (put_view thread targets now old new a n k index word refers d)) done

-- each segment in use has its starts
starts_noted : (b : Bool) (p : Segment) (word g j : ℕ) → IsStart p j → IsStart (cond b (marked_at p word g) p) j
starts_noted true p word g j s = s
starts_noted false p word g j s = s

pub used_put : (thread : ℕ) (targets : Targets) (now : TerritoryView) (old new : PoolView) (a n k index word refers : ℕ) → IsPut thread targets now old new a n k index word refers → AreUsed old.segments → AreUsed new.segments
used_put thread targets now old new a n k index word refers d u m used =
    let l : IsAll thread targets now old new a n k index word refers = all thread targets now old new a n k index word refers d in
    let p : Segment = numbered old.segments n in
    let q : Segment = put_in p k index word in
    let r : Segment = noted q k index refers in
    elim (cases_eq m n) [
      | inl e ↦
          let here : numbered new.segments m ≡ r = ap (λ v. numbered v m) d.segments ∙ (ap (numbered (set old.segments n r)) e ∙ numbered-set_same old.segments n r l.within) in
          subst (λ v. (j : ℕ) × IsStart v j) (sym here) (k, starts_noted (needs_mark (is_from_role p.role) p.generation refers) q (place_in q k index) refers k l.starts)
      | inr ne ↦
          let same : numbered new.segments m ≡ numbered old.segments m = ap (λ v. numbered v m) d.segments ∙ numbered-set_other old.segments n m r ne in
          subst (λ v. (j : ℕ) × IsStart v j) (sym same) (u m (subst (λ (v : Segment). is_free v.role ≡ false) same used))
    ]
