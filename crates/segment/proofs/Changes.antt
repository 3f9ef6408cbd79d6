-- A word put and an object made leave a sound segment: objects still lie apart, below the top.
use Rattle.std.proofs.Common.{◌≡◌, ◌≢◌, ℕ, ◌+◌, ◌*◌, ◌/◌, ◌%◌, ◌<◌, ◌≤◌, length, get_or, set, refl, sym, ◌∙◌, ap, subst, arith, inl, inr, get_or-set_same, get_or-set_other}
use Rattle.std.proofs.lemmas.List.{length-set}
use Rattle.std.proofs.lemmas.Bool.{cases_eq, cases_lt}
use Rattle.segment.specs.Layout.{skip_of, kind_of, length_of, count_of, size_of}
use Rattle.segment.specs.Segments.{Segment, first_at, size_at, place_in, IsLaid, IsSound, HasRoom, put_in, grown}
use Rattle.segment.proofs.Sizes.{size_even, size_covers, size_pos, bare_kind, bare_length, count_same, size_same}

-- ---- a word put into start k

-- it lies in start k, so no other start's first word changes
pub put_first_other : (p : Segment) (k index w j : ℕ) → IsLaid p → get_or p.births k 0 ≢ 0 → get_or p.births j 0 ≢ 0 → j ≢ k → index < count_of p.space (first_at p k)
    → first_at (put_in p k index w) j ≡ first_at p j
put_first_other p k index w j h bk bj ne i =
    get_or-set_other p.words (place_in p k index) (2 * j) w 0 (λ e.
    elim (cases_lt j k) [
      | inl lt ↦ absurd (omega (arith, h.apart j k lt bj bk, size_covers p.space (first_at p j)))
      | inr ge ↦ absurd (omega (arith, h.apart k j (omega arith) bk bj, size_covers p.space (first_at p k)))
    ])

-- what the first word of start k tells stays: where it has a header the word lies behind it
pub record IsRead (p q : Segment) (k : ℕ) : Type 0 where
  pub kind : kind_of q.space (first_at q k) ≡ kind_of p.space (first_at p k)
  pub length : length_of q.space (first_at q k) ≡ length_of p.space (first_at p k)
  pub count : count_of q.space (first_at q k) ≡ count_of p.space (first_at p k)

read_by : (p q : Segment) (k : ℕ) → q.space ≡ p.space → first_at q k ≡ first_at p k → IsRead p q k
read_by p q k s f = record { kind = cc; length = cc; count = cc }

pub put_read : (p : Segment) (k index w : ℕ) → IsRead p (put_in p k index w) k
put_read p k index w =
    elim (cases_eq (skip_of p.space) 0) [
      | inl bare ↦
          let a : ℕ = first_at (put_in p k index w) k in
          let b : ℕ = first_at p k in
          let same_kind : kind_of p.space a ≡ kind_of p.space b = bare_kind p.space a b bare in
          let same_length : length_of p.space a ≡ length_of p.space b = bare_length p.space a b bare in
          record { kind = same_kind; length = same_length; count = count_same p.space a b same_kind same_length }
      | inr head ↦ read_by p (put_in p k index w) k refl (get_or-set_other p.words (place_in p k index) (2 * k) w 0 (λ e. absurd (omega arith)))
    ]

pub IsLaid-put : (p : Segment) (k index w : ℕ) → IsLaid p → get_or p.births k 0 ≢ 0 → index < count_of p.space (first_at p k) → IsLaid (put_in p k index w)
IsLaid-put p k index w h bk i =
    let l : length (set p.words (place_in p k index) w) ≡ length p.words = length-set p.words (place_in p k index) w in
    let size : (j : ℕ) → get_or p.births j 0 ≢ 0 → size_at (put_in p k index w) j ≡ size_at p j = λ j bj.
    elim (cases_eq j k) [
      | inl e ↦ subst (λ v. size_at (put_in p k index w) v ≡ size_at p v) (sym e) (size_same p.space _ _ (put_read p k index w).count)
      | inr ne ↦ ap (size_of p.space) (put_first_other p k index w j h bk bj ne i)
    ] in
    record {
      top_in = omega (arith, l, h.top_in);
      even = h.even;
      zero_above = λ j b. get_or-set_other p.words (place_in p k index) j w 0 (λ e. absurd (omega (arith, h.fit k bk, size_covers p.space (first_at p k)))) ∙ h.zero_above j b;
      loose = h.loose;
      fit = λ j bj. omega (arith, size j bj, h.fit j bj);
      apart = λ j m lt bj bm. omega (arith, size j bj, h.apart j m lt bj bm);
    }

pub IsSound-put : (p : Segment) (k index w : ℕ) → IsSound p → get_or p.births k 0 ≢ 0 → index < count_of p.space (first_at p k) → IsSound (put_in p k index w)
IsSound-put p k index w h bk i =
    let l : length (set p.words (place_in p k index) w) ≡ length p.words = length-set p.words (place_in p k index) w in
    record {
      small = omega (arith, l, h.small);
      births = omega (arith, l, h.births);
      single = λ several. l ∙ h.single several;
      marks = h.marks;
      cards = λ some. rw l (h.cards some);
      clean = h.clean;
      dirty = h.dirty;
      free = h.free;
      unheld = h.unheld;
      laid = IsLaid-put p k index w h.laid bk i;
    }

-- ---- a new object at the top

pub born_below : (p : Segment) (j : ℕ) → IsLaid p → get_or p.births j 0 ≢ 0 → 2 * j < p.top
born_below p j h bj = elim (cases_lt (2 * j) p.top) [ inl y ↦ y | inr n ↦ absurd (bj (h.loose j n)) ]

pub grown_first : (p : Segment) (first size birth j : ℕ) → IsLaid p → get_or p.births j 0 ≢ 0 → first_at (grown p first size birth) j ≡ first_at p j
grown_first p first size birth j h bj = let b : 2 * j < p.top = born_below p j h bj in get_or-set_other p.words p.top (2 * j) first 0 (λ e. absurd (omega arith))

pub grown_new_first : (p : Segment) (first size birth : ℕ) → IsLaid p → p.top < length p.words → first_at (grown p first size birth) (p.top / 2) ≡ first
grown_new_first p first size birth h room =
    let t : 2 * (p.top / 2) ≡ p.top = omega (arith, h.even) in
    ap (λ v. get_or (set p.words p.top first) v 0) t ∙ get_or-set_same p.words p.top first 0 room

pub IsLaid-grown : (p : Segment) (first size birth : ℕ) → IsLaid p → size ≡ size_of p.space first → HasRoom p size → IsLaid (grown p first size birth)
IsLaid-grown p first size birth h is room =
    let fits : p.top + size ≤ length p.words = room.0 in
    let some : 2 ≤ size = omega (arith, size_pos p.space first) in
    let l : length (set p.words p.top first) ≡ length p.words = length-set p.words p.top first in
    let ev : size % 2 ≡ 0 = ap (λ v. v % 2) is ∙ size_even p.space first in
    let t : 2 * (p.top / 2) ≡ p.top = omega (arith, h.even) in
    let born : (j : ℕ) → j ≢ p.top / 2 → get_or (set p.births (p.top / 2) birth) j 0 ≡ get_or p.births j 0 = λ j ne. get_or-set_other p.births (p.top / 2) j birth 0 ne in
    let old : (j : ℕ) → j ≢ p.top / 2 → get_or (set p.births (p.top / 2) birth) j 0 ≢ 0 → get_or p.births j 0 ≢ 0 = λ j ne bj z. bj (born j ne ∙ z) in
    let old_size : (j : ℕ) → get_or p.births j 0 ≢ 0 → size_at (grown p first size birth) j ≡ size_at p j = λ j bj. ap (size_of p.space) (grown_first p first size birth j h bj) in
    let new_size : size_at (grown p first size birth) (p.top / 2) ≡ size = ap (size_of p.space) (grown_new_first p first size birth h (omega arith)) ∙ sym is in
    record {
      top_in = omega (arith, l, fits);
      even = omega (arith, h.even, ev);
      zero_above = λ i b. get_or-set_other p.words p.top i first 0 (λ e. absurd (omega arith)) ∙ h.zero_above i (omega arith);
      loose = λ k b. born k (λ e. absurd (omega arith)) ∙ h.loose k (omega arith);
      fit = λ k bk. elim (cases_eq k (p.top / 2)) [
        | inl e ↦ subst (λ v. 2 * v + size_at (grown p first size birth) v ≤ p.top + size) (sym e) (omega (arith, new_size, t))
        | inr ne ↦ let bk' : get_or p.births k 0 ≢ 0 = old k ne bk in omega (arith, old_size k bk', h.fit k bk')
      ];
      apart = λ j k lt bj bk. elim (cases_eq j (p.top / 2)) [
        | inl e ↦ absurd (let ne : k ≢ p.top / 2 = omega arith in omega (arith, born_below p k h (old k ne bk)))
        | inr ne ↦
            let bj' : get_or p.births j 0 ≢ 0 = old j ne bj in
            elim (cases_eq k (p.top / 2)) [
              | inl e ↦ omega (arith, old_size j bj', h.fit j bj', t)
              | inr ne' ↦ omega (arith, old_size j bj', h.apart j k lt bj' (old k ne' bk))
            ]
      ];
    }

pub IsSound-grown : (p : Segment) (first size birth : ℕ) → IsSound p → size ≡ size_of p.space first → HasRoom p size → IsSound (grown p first size birth)
IsSound-grown p first size birth h is room =
    let l : length (set p.words p.top first) ≡ length p.words = length-set p.words p.top first in
    let b : length (set p.births (p.top / 2) birth) ≡ length p.births = length-set p.births (p.top / 2) birth in
    record {
      small = omega (arith, l, h.small);
      births = omega (arith, l, b, h.births);
      single = λ several. l ∙ h.single (omega (arith, b));
      marks = h.marks ∙ sym b;
      cards = λ some. rw l (h.cards (omega (arith, b)));
      clean = h.clean;
      dirty = h.dirty;
      free = h.free;
      unheld = h.unheld;
      laid = IsLaid-grown p first size birth h.laid is room;
    }
