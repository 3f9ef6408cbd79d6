-- Pairs that are copied from one segment to another.
use Rattle.std.proofs.Common.{suc, ◌-◌, ◌++◌, Bool, set, ◌≡◌, ℕ, ◌+◌, ◌*◌, ◌/◌, ◌<◌, ◌≤◌, List, [], ◌∷◌, length, get_or, drop, sym, ◌∙◌, ap, subst, arith, inl, inr, get_or-set_same, get_or-set_other}
use Rattle.std.proofs.lemmas.Bool.{cases_eq, cases_lt}
use Rattle.std.proofs.lemmas.List.{get_or_default, get_or_append_left, get_or-append_right, set-append_left, set-append_right, length-append, ext_get_or, get_or_past, get_or-take, get_or-drop, length-set}
use Rattle.segment.specs.declared.space.Space.TheVariants as space
use Rattle.segment.specs.Layout.{kind_of, length_of, count_of, size_of}
use Rattle.segment.specs.Segments.{vacant, HasRoom, IsSound, IsStart, Segment, first_at, place_in, put_in, size_at, words_at}
use Rattle.segment.specs.Copies.{run_at, with_run, with_copy}
use Rattle.segment.proofs.Changes.{IsSound-put}
use Rattle.segment.proofs.Copies.{length-run}
use Rattle.segment.proofs.Spots.{words_length}
use Rattle.territory.specs.declared.pool.following.Between.{Between}
use Rattle.territory.specs.declared.pool.following.Tip.{Tip}
use Rattle.territory.specs.Following.{AreFollowed}
use Rattle.territory.specs.FollowedSegments.{HasSpare, IsBetween, IsCarSweptIn, IsCdrSweptIn, IsTip, IsTrailIn, Reel, reel}
use Rattle.territory.specs.Pools.{numbered}
use Rattle.territory.proofs.Numbers.{numbered-set_same}
use Rattle.territory.proofs.Copied.{CanCopy, copy_sound, copy_words}

-- where something starts there is a birth
pub start_small : (p : Segment) (k : ℕ) → IsSound p → length p.words ≤ 512 → IsStart p k → k < 256
start_small p k sound size start =
    elim (cases_lt k (length p.births)) [
      | inl near ↦ omega (arith, sound.births)
      | inr far ↦ absurd (start.1 (get_or_past p.births k 0 far))
    ]

-- ---- pairs have two words

pub size_pair : (p : Segment) (first : ℕ) → p.space ≡ space.Pair → size_of p.space first ≡ 2
unfolding size_of count_of kind_of length_of
size_pair p first e = ap (λ s. size_of s first) e

pub count_pair : (p : Segment) (first : ℕ) → p.space ≡ space.Pair → count_of p.space first ≡ 2
unfolding count_of kind_of length_of
count_pair p first e = ap (λ s. count_of s first) e

pub pair_length : (p : Segment) (k : ℕ) → IsSound p → p.space ≡ space.Pair → IsStart p k → length (words_at p k) ≡ 2
pair_length p k sound e start = words_length p k sound.laid start.1 ∙ count_pair p (first_at p k) e

pair_run : (p : Segment) (k : ℕ) → IsSound p → p.space ≡ space.Pair → IsStart p k → run_at p k ≡ get_or p.words (2 * k) 0 ∷ get_or p.words (2 * k + 1) 0 ∷ []
pair_run p k sound e start =
    let two : size_at p k ≡ 2 = size_pair p (first_at p k) e in
    let long : length (run_at p k) ≡ 2 = length-run p k sound.laid start.1 ∙ two in
    let zero : 2 * k + 0 ≡ 2 * k = omega arith in
    ext_get_or 0 (run_at p k) (get_or p.words (2 * k) 0 ∷ get_or p.words (2 * k + 1) 0 ∷ []) long (λ i lt.
    let below : i < size_at p k = omega arith in
    get_or-take (size_at p k) (drop (2 * k) p.words) i 0 below ∙ (get_or-drop (2 * k) p.words i 0
    ∙ elim (cases_eq i 0) [
      | inl z ↦ ap (λ v. get_or p.words (2 * k + v) 0) z ∙ (ap (λ v. get_or p.words v 0) zero ∙ ap (λ v. get_or (get_or p.words (2 * k) 0 ∷ get_or p.words (2 * k + 1) 0 ∷ []) v 0) (sym z))
      | inr nz ↦
          let one : i ≡ 1 = omega arith in
          ap (λ v. get_or p.words (2 * k + v) 0) one ∙ ap (λ v. get_or (get_or p.words (2 * k) 0 ∷ get_or p.words (2 * k + 1) 0 ∷ []) v 0) (sym one)
    ]))

-- ---- a copy at the top

pub can : (between : Between) (from to : Segment) (places : List ℕ) (k : ℕ) → IsBetween between from to places → IsStart from k → HasRoom to 2 → CanCopy to from k
can between from to places k b start room = record {
  sound = b.to_sound;
  source_sound = b.from_sound;
  in_use = b.to_used;
  start = start;
  space = b.from_space ∙ sym b.to_space;
  room = subst (HasRoom to) (sym (size_pair from (first_at from k) b.from_space)) room;
}

-- two words and a birth are a copy
pub copied_two : (from to mid : Segment) (k first second birth : ℕ) → IsSound from → from.space ≡ space.Pair → IsStart from k → first ≡ get_or from.words (2 * k) 0 → second ≡ get_or from.words (2 * k + 1) 0 → birth ≡ get_or from.births k 0
    → mid ≡ with_run to (first ∷ second ∷ []) birth → mid ≡ with_copy to from k
copied_two from to mid k first second birth sound e start f s b is =
    is ∙ (ap (λ v. with_run to (v ∷ second ∷ []) birth) f
    ∙ (ap (λ v. with_run to (get_or from.words (2 * k) 0 ∷ v ∷ []) birth) s
    ∙ (ap (with_run to (get_or from.words (2 * k) 0 ∷ get_or from.words (2 * k + 1) 0 ∷ [])) b
    ∙ ap (λ v. with_run to v (get_or from.births k 0)) (sym (pair_run from k sound e start)))))

pub start_copied : (from to : Segment) (k j : ℕ) → CanCopy to from k → IsStart to j → IsStart (with_copy to from k) j
start_copied from to k j c start =
    let birth : ℕ = get_or from.births k 0 in
    elim (cases_eq j (to.top / 2)) [
      | inl e ↦ absurd (start.1 (c.sound.laid.loose j (omega (arith, c.sound.laid.even))))
      | inr ne ↦ (start.0, λ z. start.1 (sym (get_or-set_other to.births (to.top / 2) j birth 0 ne) ∙ z))
    ]

pub start_new : (from to : Segment) (k : ℕ) → CanCopy to from k → IsStart (with_copy to from k) (to.top / 2)
start_new from to k c =
    let birth : ℕ = get_or from.births k 0 in
    (c.in_use, λ z. c.start.1 (sym (get_or-set_same to.births (to.top / 2) birth 0 (omega (arith, c.room.1))) ∙ z))

-- ---- the two segments with an object copied and a word put

pub reached_between : (between : Between) (from to : Segment) (places new_places : List ℕ) (k q index word : ℕ) → IsBetween between from to places → IsStart from k → HasRoom to 2 → IsStart to (q / 2) → index < 2 → length new_places ≡ length places
    → IsBetween between from (put_in (with_copy to from k) (q / 2) index word) new_places
reached_between between from to places new_places k q index word b start room copy i same =
    let c : CanCopy to from k = can between from to places k b start room in
    let mid : Segment = with_copy to from k in
    let new : Segment = put_in mid (q / 2) index word in
    let long : length new.words ≡ length to.words = length-set mid.words (place_in mid (q / 2) index) word ∙ copy_words to from k c in
    record {
      thread = b.thread;
      from_in = b.from_in;
      to_in = b.to_in;
      from_sound = b.from_sound;
      to_sound = IsSound-put mid (q / 2) index word (copy_sound to from k c) (start_copied from to k (q / 2) c copy).1 (omega (arith, count_pair to (first_at mid (q / 2)) b.to_space));
      from_space = b.from_space;
      to_space = b.to_space;
      from_size = b.from_size;
      from_starts = b.from_starts;
      to_size = omega (arith, b.to_size);
      to_used = b.to_used;
      each_two = same ∙ b.each_two;
    }

pub put_at : (between : Between) (from to mid : Segment) (places : List ℕ) (k q index : ℕ) → IsBetween between from to places → IsStart from k → HasRoom to 2 → IsStart to (q / 2) → index < 2 → mid ≡ with_copy to from k → index < length (words_at mid (q / 2))
put_at between from to mid places k q index b start room copy i is =
    let c : CanCopy to from k = can between from to places k b start room in
    let long : length (words_at (with_copy to from k) (q / 2)) ≡ 2 = pair_length (with_copy to from k) (q / 2) (copy_sound to from k c) b.to_space (start_copied from to k (q / 2) c copy) in
    subst (λ v. index < length (words_at v (q / 2))) (sym is) (omega (arith, long))

-- ---- one pair more

-- what has been followed so far, from a copy of start k at offset q on
pub record IsUnderway (between : Between) (from : Segment) (old : Reel) (k q : ℕ) (new : Reel) (tip : Tip) (capacity : ℕ) : Type 0 where
  pub count : ℕ
  pub followed : AreFollowed (IsCarSweptIn between from) (IsCdrSweptIn between from) count old k q new tip.start tip.offset
  pub between_is : IsBetween between from new.to new.places
  pub tip_is : IsTip from new.to tip.start tip.offset tip.car tip.cdr
  pub spare : HasSpare new.to (length new.waiting) capacity
  pub counted : 2 * length new.own + old.to.top ≡ 2 * length old.own + new.to.top
  pub grows : old.to.top ≤ new.to.top

pub underway_next : (between : Between) (from : Segment) (old : Reel) (k q : ℕ) (now mid new : Reel) (tip next : Tip) (capacity new_capacity : ℕ) → IsUnderway between from old k q now tip capacity
    → IsCarSweptIn between from now mid tip.start tip.offset → 2 * length mid.own + now.to.top ≡ 2 * length now.own + mid.to.top → now.to.top ≤ mid.to.top
    → IsCdrSweptIn between from mid new tip.start tip.offset next.start next.offset → 2 * length new.own + mid.to.top ≡ 2 * length mid.own + new.to.top → mid.to.top ≤ new.to.top
    → IsBetween between from new.to new.places → IsTip from new.to next.start next.offset next.car next.cdr → HasSpare new.to (length new.waiting) new_capacity
    → IsUnderway between from old k q new next new_capacity
underway_next between from old k q now mid new tip next capacity new_capacity u car more grows cdr more' grows' b t spare = record {
  count = suc u.count;
  followed = (now, tip.start, tip.offset, mid, u.followed, car, cdr);
  between_is = b;
  tip_is = t;
  spare = spare;
  counted = omega (arith, u.counted, more, more');
  grows = omega (arith, u.grows, grows, grows');
}

-- ---- the list of segments is cut in two between the two

pub at_front : (segments front back : List Segment) (i : ℕ) (p : Segment) → segments ≡ front ++ back → i < length front → get_or front i p ≡ numbered segments i
at_front segments front back i p e b = get_or_default front i p vacant b ∙ (sym (get_or_append_left front back vacant i b) ∙ ap (λ v. numbered v i) (sym e))

pub at_back : (segments front back : List Segment) (n : ℕ) (p : Segment) → segments ≡ front ++ back → length front ≡ n → n < length segments → get_or back 0 p ≡ numbered segments n
at_back segments front back n p e l b =
    let some : 0 < length back = omega (arith, ap length e, length-append front back) in
    let zero : n - n ≡ 0 = omega arith in
    get_or_default back 0 p vacant some ∙ (ap (λ v. get_or back v vacant) (sym zero) ∙ (sym (get_or-append_right front back n n vacant l (omega arith)) ∙ ap (λ v. numbered v n) (sym e)))

pub set_front : (segments front back : List Segment) (n : ℕ) (new : Segment) → segments ≡ front ++ back → n < length front → set front n new ++ back ≡ set segments n new
set_front segments front back n new e b = sym (set-append_left front back n new b) ∙ ap (λ v. set v n new) (sym e)

pub set_back : (segments front back : List Segment) (n : ℕ) (new : Segment) → segments ≡ front ++ back → length front ≡ n → front ++ set back 0 new ≡ set segments n new
set_back segments front back n new e l =
    let zero : n - n ≡ 0 = omega arith in
    ap (λ v. front ++ set back v new) (sym zero) ∙ (sym (set-append_right front back n n new l (omega arith)) ∙ ap (λ v. set v n new) (sym e))

-- one segment of the list is another one
pub set_seen : (segments now : List Segment) (n : ℕ) (new : Segment) → now ≡ set segments n new → n < length segments → new ≡ numbered now n
set_seen segments now n new e b = sym (ap (λ v. numbered v n) e ∙ numbered-set_same segments n new b)

pub set_again : (segments now : List Segment) (n : ℕ) (new : Segment) → now ≡ set segments n new → n < length segments → now ≡ set segments n (numbered now n)
set_again segments now n new e b = e ∙ ap (set segments n) (set_seen segments now n new e b)

pub trail_seen : (between : Between) (q from p to r new : Segment) (places new_places : List ℕ) (own waiting new_own new_waiting : List (ℕ × ℕ)) (k o j t : ℕ) (swept : Bool) → q ≡ from → p ≡ to → r ≡ new
    → IsTrailIn between q (reel p places own waiting) k o (reel r new_places new_own new_waiting) j t swept → IsTrailIn between from (reel to places own waiting) k o (reel new new_places new_own new_waiting) j t swept
trail_seen between q from p to r new places new_places own waiting new_own new_waiting k o j t swept eq ep er h =
    subst (λ v. IsTrailIn between v (reel to places own waiting) k o (reel new new_places new_own new_waiting) j t swept) eq
    (subst (λ v. IsTrailIn between q (reel v places own waiting) k o (reel new new_places new_own new_waiting) j t swept) ep
    (subst (λ v. IsTrailIn between q (reel p places own waiting) k o (reel v new_places new_own new_waiting) j t swept) er h))
