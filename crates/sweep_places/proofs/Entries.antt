-- The table of places and the list of pairs say the same.
use Rattle.std.proofs.Common.{◌≡◌, ℕ, ◌+◌, ◌-◌, ◌<◌, ◌≤◌, List, [], ◌∷◌, ◌++◌, length, get_or, replicate, set, slice_index, Option, None, Some, IsSome, Contains, refl, sym, ap, subst, ◌∙◌, inl, inr, arith, length-append}
use Rattle.std.proofs.lemmas.Bool.{cases_eq, cases_lt}
use Rattle.std.proofs.lemmas.Grind.{common_steps}
use Rattle.std.proofs.lemmas.List.{get_or_append_left, get_or_past, get_or_read, get_or-replicate, get_or-set_same, get_or-set_other, length-replicate, length-set}
use Rattle.std.proofs.lemmas.List.Elements.{Contains-get_or}
use Rattle.std.proofs.Math.Seq.{get_or-append_seam}
use Rattle.gc_words.specs.declared.value.Value.TheVariants.{Object}
use Rattle.gc_words.specs.Word.{value_of}
use Rattle.directory.specs.Directories.{DirectoryView, HasOwnWords, IsWithin, TellsApart, start_of, word_in}
use Rattle.directory.specs.declared.table.FromSegment.{FromSegment}
use Rattle.sweep_model.specs.Hands.{IsAbsent, forwarded_at}
use Rattle.sweep_places.specs.Places.{ArePlaces, HasPlace, IsOwnStart, PlacesView}

-- what is known is there
is_some : (o : Option FromSegment) (x : FromSegment) → o ≡ Some x → IsSome o
is_some None x e = absurd (cc)
is_some (Some y) x e = refl

-- the words of a range follow one another
next_range : (ranges : List ℕ) (k : ℕ) → k < length ranges → start_of ranges (k + 1) ≡ start_of ranges k + slice_index ranges k
next_range ranges k h = grind (arith, common_steps)

-- the word of a sweeper's own object lies in the sweeper's range
word_within : (d : DirectoryView) (k a : ℕ) → HasOwnWords d → IsOwnStart d k a → IsWithin d.ranges k (word_in d a)
word_within d k a within own =
    let P : ℕ → Type 0 = λ k. IsWithin d.ranges k (word_in d a) in
    subst P own.own (within a (is_some _ own.start.from own.start.lies))

-- the pairs after another one
old_pair : (own : List (ℕ × ℕ)) (f : ℕ × ℕ) (n : ℕ) → n < length own → forwarded_at (own ++ f ∷ []) n ≡ forwarded_at own n
old_pair own f n h = get_or_append_left own (f ∷ []) (0, 0) n h

-- ... and the other one
new_pair : (own : List (ℕ × ℕ)) (f : ℕ × ℕ) → forwarded_at (own ++ f ∷ []) (length own) ≡ f
new_pair own f = get_or-append_seam own f [] (0, 0)

-- ... of which there is one more
more : (own : List (ℕ × ℕ)) (f : ℕ × ℕ) → length (own ++ f ∷ []) ≡ length own + 1
more own f = length-append own (f ∷ [])

-- no place
pub zero_is : (q : ℕ) → value_of 0 ≡ Some (Object q) → ⊥
unfolding value_of
zero_is q e = cc

object_is : (a b : ℕ) → Some (Object a) ≡ Some (Object b) → a ≡ b
object_is a b e = cc

module _ (d : DirectoryView) (k first : ℕ) (table : List ℕ) (own : List (ℕ × ℕ)) (places : ArePlaces d k first table own)
    (a : ℕ) (start : IsOwnStart d k a) where
  -- an own object's entry lies in the table
  pub first_below : (b : ℕ) → IsOwnStart d k b → (first ≤ word_in d b) × (word_in d b < first + length table)
  first_below b s =
      let w = word_within d k b places.within s in
      let r = next_range d.ranges k places.number_in in
      (omega (arith, w.0, places.first_is), omega (arith, w.1, r, places.first_is, places.size))

  -- an entry tells its object
  same_entry : (b : ℕ) → IsOwnStart d k b → word_in d b - first ≡ word_in d a - first → b ≡ a
  same_entry b s e = places.apart b a s.start start.start
      (omega (arith, e, (first_below b s).0, (first_below a start).0))

  -- an entry without a place tells that the object was not forwarded
  pub is_absent : ((q : ℕ) → value_of (get_or table (word_in d a - first) 0) ≡ Some (Object q) → ⊥) → IsAbsent own a
  is_absent none = λ n h same.
      none (forwarded_at own n).1
      (ap (λ b. value_of (get_or table (word_in d b - first) 0)) (sym same) ∙ places.noted n h)

  -- a place is that of the object's pair
  its_object : (q : ℕ) (at : HasPlace d own (first + (word_in d a - first)) q) → (forwarded_at own at.index).0 ≡ a
  its_object q at =
      places.apart (forwarded_at own at.index).0 a (places.starts at.index at.below).start start.start
      (omega (arith, at.word_is, (first_below a start).0))

  -- ... which is among the pairs
  pub is_place : (q : ℕ) → value_of (get_or table (word_in d a - first) 0) ≡ Some (Object q) → Contains own (a, q)
  is_place q e =
      let at = places.shown (word_in d a - first) q e in
      let is_a : (forwarded_at own at.index).0 ≡ a = its_object q at in
      let found : Contains own (forwarded_at own at.index) = Contains-get_or own at.index (0, 0) at.below in
      subst (λ x. Contains own (x, q)) is_a (subst (λ y. Contains own ((forwarded_at own at.index).0, y)) at.place_is found)

  -- an object that was not forwarded has no place
  pub is_zero : IsAbsent own a → get_or table (word_in d a - first) 0 ≡ 0
  is_zero absent = elim (places.words (word_in d a - first)) [
    | inl none ↦ none
    | inr place ↦
        let at = places.shown (word_in d a - first) place.0 place.1 in
        absurd (absent at.index at.below (its_object place.0 at))
  ]

  -- another place noted
  pub noted : (p word : ℕ) → IsAbsent own a → value_of word ≡ Some (Object p)
      → ArePlaces d k first (set table (word_in d a - first) word) (own ++ (a, p) ∷ [])
  noted p word absent is = record {
    number_in = places.number_in;
    first_is = places.first_is;
    size = length-set table entry word ∙ places.size;
    within = places.within;
    apart = places.apart;
    starts = λ n h. elim (cases_eq n (length own)) [
      | inl e ↦ subst (λ f. IsOwnStart d k f.0) (sym (ap (forwarded_at (own ++ (a, p) ∷ [])) e ∙ new_pair own (a, p))) start
      | inr ne ↦ let below : n < length own = omega (arith, h, more own (a, p), ne) in
          subst (λ f. IsOwnStart d k f.0) (sym (old_pair own (a, p) n below)) (places.starts n below)
    ];
    words = λ w. elim (cases_eq w entry) [
      | inl same ↦ inr (p, put w same)
      | inr ne ↦
          let other : get_or (set table entry word) w 0 ≡ get_or table w 0 = get_or-set_other table entry w word 0 ne in
          elim (places.words w) [
            | inl none ↦ inl (other ∙ none)
            | inr place ↦ inr (place.0, ap value_of other ∙ place.1)
          ]
    ];
    shown = λ w q e. elim (cases_eq w entry) [
      | inl same ↦
          record {
            index = length own;
            below = omega (arith, more own (a, p));
            word_is = ap (λ f. word_in d f.0) (new_pair own (a, p)) ∙ omega (arith, same, (first_below a start).0);
            place_is = ap (λ f. f.1) (new_pair own (a, p)) ∙ object_is p q (sym (put w same) ∙ e);
          }
      | inr ne ↦
          let was = places.shown w q (ap value_of (sym (get_or-set_other table entry w word 0 ne)) ∙ e) in
          record {
            index = was.index;
            below = omega (arith, was.below, more own (a, p));
            word_is = ap (λ f. word_in d f.0) (old_pair own (a, p) was.index was.below) ∙ was.word_is;
            place_is = ap (λ f. f.1) (old_pair own (a, p) was.index was.below) ∙ was.place_is;
          }
    ];
    noted = λ n h. elim (cases_eq n (length own)) [
      | inl e ↦
          let f : forwarded_at (own ++ (a, p) ∷ []) n ≡ (a, p) = ap (forwarded_at (own ++ (a, p) ∷ [])) e ∙ new_pair own (a, p) in
          ap (λ f. value_of (get_or (set table entry word) (word_in d f.0 - first) 0)) f
          ∙ (ap value_of (get_or-set_same table entry word 0 inside) ∙ (is ∙ ap (λ f. Some (Object f.1)) (sym f)))
      | inr ne ↦
          let below : n < length own = omega (arith, h, more own (a, p), ne) in
          ap (λ f. value_of (get_or (set table entry word) (word_in d f.0 - first) 0)) (old_pair own (a, p) n below)
          ∙ (ap value_of (get_or-set_other table entry (word_in d (forwarded_at own n).0 - first) word 0
          (λ same. absent n below (same_entry (forwarded_at own n).0 (places.starts n below) same)))
          ∙ (places.noted n below ∙ ap (λ f. Some (Object f.1)) (sym (old_pair own (a, p) n below))))
    ];
  }
    where
      entry : ℕ
      entry = word_in d a - first

      inside : entry < length table
      inside = omega (arith, (first_below a start).0, (first_below a start).1)

      put : (w : ℕ) → w ≡ entry → value_of (get_or (set table entry word) w 0) ≡ Some (Object p)
      put w same =
          ap (λ j. value_of (get_or (set table entry word) j 0)) same
          ∙ (ap value_of (get_or-set_same table entry word 0 inside) ∙ is)

zeros : (count w : ℕ) → get_or (replicate {A = ℕ} count 0) w 0 ≡ 0
zeros count w = elim (cases_lt w count) [
  | inl below ↦ get_or-replicate count w 0 0 below
  | inr past ↦ get_or_past (replicate count 0) w 0 (omega (arith, past, length-replicate {A = ℕ} count 0))
]

-- no place at first
pub none_noted : (d : DirectoryView) (number first count : ℕ) → number < length d.ranges → first ≡ start_of d.ranges number
    → count ≡ slice_index d.ranges number → HasOwnWords d → TellsApart d → ArePlaces d number first (replicate count 0) []
none_noted d number first count number_in first_is size within apart = record {
  number_in = number_in;
  first_is = first_is;
  size = length-replicate {A = ℕ} count 0 ∙ size;
  within = within;
  apart = apart;
  starts = λ n h. absurd (omega (arith, h));
  words = λ w. inl (zeros count w);
  shown = λ w q e. absurd (zero_is q (ap value_of (sym (zeros count w)) ∙ e));
  noted = λ n h. absurd (omega (arith, h));
}

-- ---- what is read at the entry of an object, by the word that was told

module _ (p v : PlacesView) (first : ℕ) (table : List ℕ) (a w e : ℕ) (places : ArePlaces p.directory p.number first table p.own)
    (view : p ≡ v) (own : IsOwnStart v.directory v.number a) (word : w ≡ word_in v.directory a)
    (is : e ≡ get_or table (w - first) e) where
  its_own : IsOwnStart p.directory p.number a
  its_own = subst (λ (x : PlacesView). IsOwnStart x.directory x.number a) (sym view) own

  its_word : w ≡ word_in p.directory a
  its_word = word ∙ sym (ap (λ (x : PlacesView). word_in x.directory a) view)

  -- it lies in the table
  pub entry_inside : (first ≤ w) × (w - first < length table)
  entry_inside =
      let b = first_below p.directory p.number first table p.own places a its_own a its_own in
      (omega (arith, b.0, its_word), omega (arith, b.0, b.1, its_word))

  read : get_or table (word_in p.directory a - first) 0 ≡ e
  read = ap (λ n. get_or table (n - first) 0) (sym its_word) ∙ sym (get_or_read table (w - first) e entry_inside.1 is 0)

  -- a place is the object's
  pub place_found : (q : ℕ) → value_of e ≡ Some (Object q) → Contains v.own (a, q)
  place_found q h =
      subst (λ (x : PlacesView). Contains x.own (a, q)) view
      (is_place p.directory p.number first table p.own places a its_own q (ap value_of read ∙ h))

  -- and else it has none
  pub none_found : ((q : ℕ) → value_of e ≡ Some (Object q) → ⊥) → IsAbsent v.own a
  none_found none =
      subst (λ (x : PlacesView). IsAbsent x.own a) view
      (is_absent p.directory p.number first table p.own places a its_own (λ q h. none q (ap value_of (sym read) ∙ h)))

  -- the entry is 0 exactly where it has none
  pub absent_told : ((e ≡ 0) → IsAbsent v.own a) × (IsAbsent v.own a → (e ≡ 0))
  absent_told = (
    (λ none. none_found (λ q h. zero_is q (ap value_of (sym none) ∙ h))),
    (λ absent. sym read ∙ is_zero p.directory p.number first table p.own places a its_own
        (subst (λ (x : PlacesView). IsAbsent x.own a) (sym view) absent)),
  )

-- another place noted there
pub noted_there : (p v : PlacesView) (first : ℕ) (table : List ℕ) (a w e q : ℕ) (own : List (ℕ × ℕ))
    → ArePlaces p.directory p.number first table p.own → p ≡ v → IsOwnStart v.directory v.number a → w ≡ word_in v.directory a
    → IsAbsent v.own a → value_of e ≡ Some (Object q) → own ≡ p.own ++ (a, q) ∷ []
    → ArePlaces p.directory p.number first (set table (w - first) e) own
noted_there p v first table a w e q own places view start word absent is more_is =
    subst (ArePlaces p.directory p.number first (set table (w - first) e)) (sym more_is)
    (subst (λ n. ArePlaces p.directory p.number first (set table (n - first) e) (p.own ++ (a, q) ∷ []))
    (sym (word ∙ sym (ap (λ (x : PlacesView). word_in x.directory a) view)))
    (noted p.directory p.number first table p.own places a
    (subst (λ (x : PlacesView). IsOwnStart x.directory x.number a) (sym view) start) q e
    (subst (λ (x : PlacesView). IsAbsent x.own a) (sym view) absent) is))
