-- A pool puts a word into a start, and marks its card.
use Rattle.std.proofs.Common.{◌≡◌, ℕ, ◌+◌, ◌<◌, Bool, true, false, cond, eqb, ◌&&◌, ◌||◌, List, [], ◌∷◌, ◌++◌, length, get_or, set, Some, Contains, IsTrue, refl, sym, ◌∙◌, ap, subst, arith, inl, inr}
use Rattle.std.proofs.lemmas.List.{length-set, get_or_read, set-get_or, set-set}
use Rattle.std.proofs.lemmas.Bool.{cases_eq, cases_lt}
use Rattle.std.proofs.lemmas.Option.{same_Some}
use Rattle.std.proofs.lemmas.Bool.Decides.{nat_tests}
use Rattle.std.specs.List.{list_any}
use Rattle.cards.specs.Cards.{card_of}
use Rattle.seg_chain.specs.Lists.{chain_of, link_count, times, moved, EachOnce}
use Rattle.seg_chain.proofs.Laws.{contains_of, chain_of-moved_to}
use Rattle.segment.specs.declared.segment.Role.{Role}
use Rattle.segment.specs.Layout.{HasLength, count_of, skip_of}
use Rattle.segment.specs.Segments.{Segment, Start, IsSound, IsStart, is_free, first_at, object_at, words_at, spot, place_in, put_in, marked_at, vacant}
use Rattle.segment.proofs.Changes.{IsSound-put}
use Rattle.segment.proofs.Collected.{IsSound-marked}
use Rattle.segment.proofs.Spots.{in_words, spot_put, spot_put_other, spot_start}
use Rattle.segment.proofs.Calls.{card_seen}
use Rattle.territory.specs.Territories.{needs_mark, with_dirty}
use Rattle.territory.specs.Pools.{PoolView, numbered, IsSettled, AreDirty, is_from_role, shows_dirty, noted, dirty_after}
use Rattle.territory.proofs.Numbers.{numbered-set_same, each_set, spot_set, used_within}
use Rattle.territory.proofs.Listing.{listed_same}
use Rattle.territory.proofs.Dirtying.{dirty_same, dirty_marked, clean_in}
use Rattle.territory.proofs.Opening.{open_changed}
use Rattle.territory.proofs.Counting.{counted_changed}
use Rattle.territory.proofs.Grown.{used_same}

-- where something starts there is a segment
pub start_within : (segments : List Segment) (n k : ℕ) → IsStart (numbered segments n) k → n < length segments
start_within segments n k s = used_within segments n s.0

pub seen_within : (p now : PoolView) (n k : ℕ) → p ≡ now → IsStart (numbered now.segments n) k → n < length p.segments
seen_within p now n k e s = subst (λ (v : PoolView). n < length v.segments) (sym e) (start_within now.segments n k s)

-- the segment that is read
pub record IsHere (p now : PoolView) (n k index : ℕ) (q : Segment) : Type 0 where
  pub settled : IsSettled p
  pub within : n < length p.segments
  pub is : q ≡ numbered p.segments n
  pub starts : IsStart q k
  pub index_in : index < length (words_at q k)

pub here : (p now : PoolView) (n k index : ℕ) (q : Segment) → p ≡ now → IsSettled now → IsStart (numbered now.segments n) k → index < length (words_at (numbered now.segments n) k) → q ≡ get_or p.segments n q → IsHere p now n k index q
here p now n k index q e done s i read =
    let b : n < length p.segments = seen_within p now n k e s in
    let is : q ≡ numbered p.segments n = get_or_read p.segments n q b read vacant in
    let back : q ≡ numbered now.segments n = is ∙ ap (λ (v : PoolView). numbered v.segments n) e in
    record {
      settled = subst IsSettled (sym e) done;
      within = b;
      is = is;
      starts = subst (λ v. IsStart v k) (sym back) s;
      index_in = subst (λ v. index < length (words_at v k)) (sym back) i;
    }

put_lengths : (p : Segment) (k index word : ℕ) → IsSound p → IsStart p k → index < count_of p.space (first_at p k) → ((j : ℕ) (x : Start) → spot p j ≡ Some x → HasLength x.kind x.length)
    → (j : ℕ) (x : Start) → spot (put_in p k index word) j ≡ Some x → HasLength x.kind x.length
put_lengths p k index word s is i old j x h =
    elim (cases_eq j k) [
      | inl e ↦
          let o : Start = object_at p k in
          let same : Some (record o { words = set o.words index word }) ≡ Some x = sym (spot_put p k index word o (spot_start p k is)) ∙ (ap (spot (put_in p k index word)) (sym e) ∙ h) in
          subst (λ (v : Start). HasLength v.kind v.length) (same_Some _ _ same) (old k o (spot_start p k is))
      | inr ne ↦ old j x (sym (spot_put_other p k index word j s.laid is.1 i ne) ∙ h)
    ]

pub settled_put : (p now : PoolView) (n k index word : ℕ) (q q' : Segment) → IsHere p now n k index q → q' ≡ put_in q k index word → IsSettled (record p { segments = set p.segments n q' })
settled_put p now n k index word q q' h is' =
    let t : IsSettled p = h.settled in
    let old : Segment = numbered p.segments n in
    let s : IsStart old k = subst (λ v. IsStart v k) h.is h.starts in
    let i : index < count_of old.space (first_at old k) = in_words old k index (subst (λ v. index < length (words_at v k)) h.is h.index_in) in
    let g : Segment = put_in old k index word in
    let g_is : g ≡ q' = sym (is' ∙ ap (λ v. put_in v k index word) h.is) in
    let words : length g.words ≡ length old.words = length-set old.words (place_in old k index) word in
    subst (λ v. IsSettled (record p { segments = set p.segments n v })) g_is (record {
      count = omega (arith, length-set p.segments n g, t.count);
      sound = each_set IsSound p.segments n g t.sound (IsSound-put old k index word (t.sound n) s.1 i);
      generations = each_set (λ (v : Segment). v.generation < 9) p.segments n g t.generations (t.generations n);
      lengths = spot_set p.segments n g t.lengths (put_lengths old k index word (t.sound n) s i (t.lengths n));
      listed = listed_same p.segments p.lists n g t.listed refl;
      open_areas = open_changed p.segments p.areas n g t.open_areas h.within (λ k o. record { current = o.current; space_is = o.space_is; generation_is = o.generation_is; never_held = o.never_held });
      dirty = dirty_same p.segments p.dirty n g t.dirty refl;
      counted = counted_changed p.segments p.areas p.counts p.counts n g 0 0 t.counted h.within
          (used_same (is_free old.role) (length g.words) (length old.words) words) (ap (λ v. cond (is_free old.role) false (old.was_held && eqb v 512)) words) (omega arith) (omega arith) refl refl (omega arith);
    })

-- ---- a card marked
any_yes : (n : ℕ) (xs : List ℕ) → 0 < times n xs → list_any (λ m. eqb n m) xs ≡ true
any_yes n [] h = absurd (omega arith)
any_yes n (x ∷ xs) h = elim (eqb n x) as (λ b. 0 < cond b 1 0 + times n xs → (b || list_any (λ m. eqb n m) xs) ≡ true) [ true ↦ λ k. refl | false ↦ λ k. any_yes n xs (omega arith) ] h

any_no : (n : ℕ) (xs : List ℕ) → times n xs ≡ 0 → list_any (λ m. eqb n m) xs ≡ false
any_no n [] h = refl
any_no n (x ∷ xs) h = elim (eqb n x) as (λ b. cond b 1 0 + times n xs ≡ 0 → (b || list_any (λ m. eqb n m) xs) ≡ false) [ true ↦ λ k. absurd (omega arith) | false ↦ λ k. any_no n xs (omega arith) ] h

pub settled_marked : (p now : PoolView) (n k index g : ℕ) (q q' : Segment) → IsHere p now n k index q → g < 255 → q' ≡ marked_at q (place_in q k index) g → (dirty : List (List ℕ)) → AreDirty (set p.segments n (marked_at (numbered p.segments n) (place_in (numbered p.segments n) k index) g)) dirty
    → IsSettled (record p { segments = set p.segments n q'; dirty = dirty })
settled_marked p now n k index g q q' h small is' dirty d =
    let t : IsSettled p = h.settled in
    let old : Segment = numbered p.segments n in
    let s : IsStart old k = subst (λ v. IsStart v k) h.is h.starts in
    let i : index < length (words_at old k) = subst (λ v. index < length (words_at v k)) h.is h.index_in in
    let card : card_of (place_in old k index) < length old.cards = card_seen old old k index (skip_of old.space) (t.sound n) refl s i refl in
    let m : Segment = marked_at old (place_in old k index) g in
    let m_is : m ≡ q' = sym (is' ∙ ap (λ v. marked_at v (place_in v k index) g) h.is) in
    subst (λ v. IsSettled (record p { segments = set p.segments n v; dirty = dirty })) m_is (record {
      count = omega (arith, length-set p.segments n m, t.count);
      sound = each_set IsSound p.segments n m t.sound (IsSound-marked old (place_in old k index) g (t.sound n) s.0 card small);
      generations = each_set (λ (v : Segment). v.generation < 9) p.segments n m t.generations (t.generations n);
      lengths = spot_set p.segments n m t.lengths (λ j x e. t.lengths n j x e);
      listed = listed_same p.segments p.lists n m t.listed refl;
      open_areas = open_changed p.segments p.areas n m t.open_areas h.within (λ k o. record { current = o.current; space_is = o.space_is; generation_is = o.generation_is; never_held = o.never_held });
      dirty = d;
      counted = counted_changed p.segments p.areas p.counts p.counts n m 0 0 t.counted h.within (omega arith) refl (omega arith) (omega arith) refl refl (omega arith);
    })

shows_marked : (p : Segment) (word g k : ℕ) → IsStart p k → shows_dirty (marked_at p word g) ≡ true
shows_marked p word g k s = ap (λ b. cond b false true) s.0

shows_as : (p : Segment) (k : ℕ) (b : Bool) → IsStart p k → p.is_dirty ≡ b → shows_dirty p ≡ b
shows_as p k b s e = ap (λ f. cond f false p.is_dirty) s.0 ∙ e

-- the segment was clean
pub clean_loose : (p now : PoolView) (n k index : ℕ) (q : Segment) → IsHere p now n k index q → q.is_dirty ≡ false → Contains (chain_of p.dirty 0) n
clean_loose p now n k index q h e =
    let c : shows_dirty (numbered p.segments n) ≡ false = subst (λ v. shows_dirty v ≡ false) h.is (shows_as q k false h.starts e) in
    contains_of n (chain_of p.dirty 0) (clean_in p.segments p.dirty n h.settled.dirty h.within c)

pub dirty_now : (p now : PoolView) (n k index g : ℕ) (q : Segment) (dirty : List (List ℕ)) → IsHere p now n k index q → dirty ≡ moved p.dirty 0 1 n → link_count dirty ≡ link_count p.dirty → EachOnce dirty
    → AreDirty (set p.segments n (marked_at (numbered p.segments n) (place_in (numbered p.segments n) k index) g)) dirty
dirty_now p now n k index g q dirty h is links once =
    let old : Segment = numbered p.segments n in
    let s : IsStart old k = subst (λ v. IsStart v k) h.is h.starts in
    subst (AreDirty (set p.segments n (marked_at old (place_in old k index) g))) (sym is)
    (dirty_marked p.segments p.dirty n (marked_at old (place_in old k index) g) h.settled.dirty h.within (shows_marked old (place_in old k index) g k s) (ap link_count (sym is) ∙ links) (subst EachOnce is once))

pub dirty_still : (p now : PoolView) (n k index g : ℕ) (q : Segment) → IsHere p now n k index q → q.is_dirty ≡ true → AreDirty (set p.segments n (marked_at (numbered p.segments n) (place_in (numbered p.segments n) k index) g)) p.dirty
dirty_still p now n k index g q h e =
    let old : Segment = numbered p.segments n in
    let s : IsStart old k = subst (λ v. IsStart v k) h.is h.starts in
    let c : shows_dirty old ≡ true = subst (λ v. shows_dirty v ≡ true) h.is (shows_as q k true h.starts e) in
    dirty_same p.segments p.dirty n (marked_at old (place_in old k index) g) h.settled.dirty (shows_marked old (place_in old k index) g k s ∙ sym c)

-- ---- what `note` leaves
needed : (p : Segment) (b : Bool) (r : Role) (g refers : ℕ) → b ≡ needs_mark (is_from_role r) g refers → r ≡ p.role → g ≡ p.generation → needs_mark (is_from_role p.role) p.generation refers ≡ b
needed p b r g refers e er eg = sym (e ∙ (ap (λ v. needs_mark (is_from_role v) g refers) er ∙ ap (λ v. needs_mark (is_from_role p.role) v refers) eg))

pub mark_small : (f : Bool) (g refers : ℕ) → needs_mark f g refers ≡ true → g < 9 → refers < 255
mark_small true g refers e small = grind (arith, nat_tests, e)
mark_small false g refers e small = let l : refers < g = grind (arith, nat_tests, e) in omega arith

pub marked_small : (p now : PoolView) (n k index refers : ℕ) (q : Segment) → IsHere p now n k index q → needs_mark (is_from_role (numbered p.segments n).role) (numbered p.segments n).generation refers ≡ true → refers < 255
marked_small p now n k index refers q h e = mark_small (is_from_role (numbered p.segments n).role) (numbered p.segments n).generation refers e (h.settled.generations n)

-- the segment tells whether a mark is needed
pub need : (p now : PoolView) (n k index : ℕ) (q : Segment) (b : Bool) (role : Role) (g refers : ℕ) → IsHere p now n k index q → role ≡ q.role → g ≡ q.generation → b ≡ needs_mark (is_from_role role) g refers
    → needs_mark (is_from_role (numbered p.segments n).role) (numbered p.segments n).generation refers ≡ b
need p now n k index q b role g refers h er eg e = needed (numbered p.segments n) b role g refers e (er ∙ ap (λ (v : Segment). v.role) h.is) (eg ∙ ap (λ (v : Segment). v.generation) h.is)

pub not_noted : (p now : PoolView) (n k index refers : ℕ) → p ≡ now → n < length p.segments → needs_mark (is_from_role (numbered p.segments n).role) (numbered p.segments n).generation refers ≡ false
    → (now.segments ≡ set now.segments n (noted (numbered now.segments n) k index refers)) × (chain_of now.dirty 1 ≡ dirty_after (numbered now.segments n) (chain_of now.dirty 1) n refers)
not_noted p now n k index refers e b unmarked =
    let no' : needs_mark (is_from_role (numbered now.segments n).role) (numbered now.segments n).generation refers ≡ false = subst (λ (v : PoolView). needs_mark (is_from_role (numbered v.segments n).role) (numbered v.segments n).generation refers ≡ false) e unmarked in (
      sym (ap (λ v. set now.segments n (cond v (marked_at (numbered now.segments n) (place_in (numbered now.segments n) k index) refers) (numbered now.segments n))) no' ∙ set-get_or now.segments n vacant),
      sym (ap (λ v. cond v (with_dirty (chain_of now.dirty 1) n) (chain_of now.dirty 1)) no'),
    )

pub was_noted : (p now : PoolView) (n k index refers : ℕ) (q q' : Segment) → p ≡ now → IsHere p now n k index q → needs_mark (is_from_role (numbered p.segments n).role) (numbered p.segments n).generation refers ≡ true → q' ≡ marked_at q (place_in q k index) refers
    → set p.segments n q' ≡ set now.segments n (noted (numbered now.segments n) k index refers)
was_noted p now n k index refers q q' e h need_is is' =
    let old : Segment = numbered p.segments n in
    ap (set p.segments n) (is' ∙ (ap (λ v. marked_at v (place_in v k index) refers) h.is ∙ sym (ap (λ v. cond v (marked_at old (place_in old k index) refers) old) need_is)))
    ∙ ap (λ (v : PoolView). set v.segments n (noted (numbered v.segments n) k index refers)) e

pub dirty_grown : (p now : PoolView) (n k index refers : ℕ) (q : Segment) (dirty : List (List ℕ)) → p ≡ now → IsHere p now n k index q → needs_mark (is_from_role (numbered p.segments n).role) (numbered p.segments n).generation refers ≡ true → q.is_dirty ≡ false
    → dirty ≡ moved p.dirty 0 1 n → chain_of dirty 1 ≡ dirty_after (numbered now.segments n) (chain_of now.dirty 1) n refers
dirty_grown p now n k index refers q dirty e h need_is clean is =
    let c : shows_dirty (numbered p.segments n) ≡ false = subst (λ v. shows_dirty v ≡ false) h.is (shows_as q k false h.starts clean) in
    let z : times n (chain_of p.dirty 1) ≡ 0 = elim (cases_lt 0 (times n (chain_of p.dirty 1))) [ inl b ↦ absurd (let y : shows_dirty (numbered p.segments n) ≡ true = h.settled.dirty.shown n b in cc) | inr b ↦ omega arith ] in
    ap (λ v. chain_of v 1) is ∙ (chain_of-moved_to p.dirty 0 1 n (omega (arith, h.settled.dirty.chains))
    ∙ (sym (ap (λ v. cond v (chain_of p.dirty 1) (chain_of p.dirty 1 ++ n ∷ [])) (any_no n (chain_of p.dirty 1) z))
    ∙ (sym (ap (λ v. cond v (with_dirty (chain_of p.dirty 1) n) (chain_of p.dirty 1)) need_is)
    ∙ ap (λ (v : PoolView). dirty_after (numbered v.segments n) (chain_of v.dirty 1) n refers) e)))

pub dirty_kept : (p now : PoolView) (n k index refers : ℕ) (q : Segment) → p ≡ now → IsHere p now n k index q → needs_mark (is_from_role (numbered p.segments n).role) (numbered p.segments n).generation refers ≡ true → q.is_dirty ≡ true
    → chain_of p.dirty 1 ≡ dirty_after (numbered now.segments n) (chain_of now.dirty 1) n refers
dirty_kept p now n k index refers q e h need_is was =
    let c : shows_dirty (numbered p.segments n) ≡ true = subst (λ v. shows_dirty v ≡ true) h.is (shows_as q k true h.starts was) in
    sym (ap (λ v. cond v (chain_of p.dirty 1) (chain_of p.dirty 1 ++ n ∷ [])) (any_yes n (chain_of p.dirty 1) (h.settled.dirty.listed n c)))
    ∙ (sym (ap (λ v. cond v (with_dirty (chain_of p.dirty 1) n) (chain_of p.dirty 1)) need_is)
    ∙ ap (λ (v : PoolView). dirty_after (numbered v.segments n) (chain_of v.dirty 1) n refers) e)

pub dirty_if : (b d : Bool) → (IsTrue b → d ≡ false) × (d ≡ false → IsTrue b) → b ≡ false → d ≡ true
dirty_if b true h e = refl
dirty_if b false h e = absurd (let t : IsTrue b = h.1 refl in cc)

-- ---- a word put, and then its card marked: `q` is the segment as it was read, `q'` as it is with the word
abbrev pub with_put : PoolView → ℕ → Segment → PoolView
with_put p n q' = record p { segments = set p.segments n q' }

pub put_here : (p now : PoolView) (n k index word : ℕ) (q q' : Segment) → IsHere p now n k index q → q' ≡ put_in q k index word → IsHere (with_put p n q') (with_put p n q') n k index q'
put_here p now n k index word q q' h is' =
    let after : Some (object_at (put_in q k index word) k) ≡ Some (record (object_at q k) { words = set (words_at q k) index word }) = sym (spot_start (put_in q k index word) k h.starts) ∙ spot_put q k index word (object_at q k) (spot_start q k h.starts) in
    let words : words_at (put_in q k index word) k ≡ set (words_at q k) index word = ap (λ (v : Start). v.words) (same_Some _ _ after) in
    record {
      settled = settled_put p now n k index word q q' h is';
      within = omega (arith, h.within, length-set p.segments n q');
      is = sym (numbered-set_same p.segments n q' h.within);
      starts = subst (λ v. IsStart v k) (sym is') h.starts;
      index_in = subst (λ v. index < length (words_at v k)) (sym is') (omega (arith, ap length words, length-set (words_at q k) index word, h.index_in));
    }

-- the segment with the word, as contracts see it
put_now : (p now : PoolView) (n k index word : ℕ) (q q' : Segment) → p ≡ now → IsHere p now n k index q → q' ≡ put_in q k index word → numbered (with_put p n q').segments n ≡ put_in (numbered now.segments n) k index word
put_now p now n k index word q q' e h is' = numbered-set_same p.segments n q' h.within ∙ (is' ∙ (ap (λ v. put_in v k index word) h.is ∙ ap (λ (v : PoolView). put_in (numbered v.segments n) k index word) e))

pub segments_put : (p now : PoolView) (n k index word refers : ℕ) (q q' : Segment) (segments : List Segment) → p ≡ now → IsHere p now n k index q → q' ≡ put_in q k index word
    → segments ≡ set (with_put p n q').segments n (noted (numbered (with_put p n q').segments n) k index refers) → segments ≡ set now.segments n (noted (put_in (numbered now.segments n) k index word) k index refers)
segments_put p now n k index word refers q q' segments e h is' made =
    made ∙ (ap (λ v. set (set p.segments n q') n (noted v k index refers)) (put_now p now n k index word q q' e h is')
    ∙ (set-set p.segments n q' (noted (put_in (numbered now.segments n) k index word) k index refers)
    ∙ ap (λ (v : PoolView). set v.segments n (noted (put_in (numbered now.segments n) k index word) k index refers)) e))

pub dirty_put : (p now : PoolView) (n k index word refers : ℕ) (q q' : Segment) (dirty : List ℕ) → p ≡ now → IsHere p now n k index q → q' ≡ put_in q k index word
    → dirty ≡ dirty_after (numbered (with_put p n q').segments n) (chain_of p.dirty 1) n refers → dirty ≡ dirty_after (put_in (numbered now.segments n) k index word) (chain_of now.dirty 1) n refers
dirty_put p now n k index word refers q q' dirty e h is' made =
    made ∙ (ap (λ v. dirty_after v (chain_of p.dirty 1) n refers) (put_now p now n k index word q q' e h is') ∙ ap (λ (v : PoolView). dirty_after (put_in (numbered now.segments n) k index word) (chain_of v.dirty 1) n refers) e)

-- no mark is needed
pub unmarked_put : (p now : PoolView) (n k index word refers : ℕ) (q q' : Segment) → p ≡ now → IsHere p now n k index q → q' ≡ put_in q k index word
    → needs_mark (is_from_role (numbered (with_put p n q').segments n).role) (numbered (with_put p n q').segments n).generation refers ≡ false
    → (set p.segments n q' ≡ set now.segments n (noted (put_in (numbered now.segments n) k index word) k index refers))
    × (chain_of p.dirty 1 ≡ dirty_after (put_in (numbered now.segments n) k index word) (chain_of now.dirty 1) n refers)
unmarked_put p now n k index word refers q q' e h is' unmarked =
    let both = not_noted (with_put p n q') (with_put p n q') n k index refers refl (put_here p now n k index word q q' h is').within unmarked in
    (segments_put p now n k index word refers q q' (set p.segments n q') e h is' both.0, dirty_put p now n k index word refers q q' (chain_of p.dirty 1) e h is' both.1)

-- two changes of one segment are one
pub marked_put : (p now : PoolView) (n k index word g : ℕ) (q q' q'' : Segment) → IsHere p now n k index q → q' ≡ put_in q k index word → g < 255 → q'' ≡ marked_at q' (place_in q' k index) g → (dirty : List (List ℕ))
    → AreDirty (set (with_put p n q').segments n (marked_at (numbered (with_put p n q').segments n) (place_in (numbered (with_put p n q').segments n) k index) g)) dirty → IsSettled (record p { segments = set p.segments n q''; dirty = dirty })
marked_put p now n k index word g q q' q'' h is' small is'' dirty d =
    subst (λ v. IsSettled (record p { segments = v; dirty = dirty })) (set-set p.segments n q' q'')
    (settled_marked (with_put p n q') (with_put p n q') n k index g q' q'' (put_here p now n k index word q q' h is') small is'' dirty d)
