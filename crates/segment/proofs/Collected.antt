-- What a collection does with a segment leaves it sound, and what starts in it then.
use Rattle.std.proofs.Common.{◌≡◌, ◌≢◌, ℕ, zero, suc, ◌*◌, ◌<◌, ◌≤◌, min, Bool, true, false, cond, eqb, List, [], ◌∷◌, length, get_or, replicate, Some, None, refl, sym, ◌∙◌, ap, arith, inl, inr, get_or-set_same}
use Rattle.std.proofs.lemmas.List.{get_or_past, length-set, length-replicate, get_or-replicate}
use Rattle.std.proofs.lemmas.Bool.{cases_eq, cases_lt}
use Rattle.gc_words.specs.declared.address.TheConstants.{OFFSETS}
use Rattle.cards.specs.Cards.{card_of, card_count}
use Rattle.segment.specs.declared.space.Space.{Space}
use Rattle.segment.specs.declared.segment.Role.TheVariants.{Free, From}
use Rattle.segment.specs.Segments.{Start, Segment, object_at, is_free, spot, IsStart, IsLaid, IsSound, vacant, opened, marked_at, set_aside, held_at, marked_births, kept_marked, in_generation, kept_spot, emptied, given_back}
use Rattle.segment.proofs.Spots.{spot_is, spot_start, spot_none, spot_same, zero_at}

-- ---- a card marked

pub IsSound-marked : (p : Segment) (word generation : ℕ) → IsSound p → is_free p.role ≡ false → card_of word < length p.cards → generation < 255 → IsSound (marked_at p word generation)
IsSound-marked p word generation h used within small =
    let l : length (marked_at p word generation).cards ≡ length p.cards = length-set p.cards (card_of word) (min (get_or p.cards (card_of word) 0) generation) in
    let new : get_or (marked_at p word generation).cards (card_of word) 0 ≡ min (get_or p.cards (card_of word) 0) generation = get_or-set_same p.cards (card_of word) (min (get_or p.cards (card_of word) 0) generation) 0 within in
    record {
      small = h.small;
      births = h.births;
      single = h.single;
      marks = h.marks;
      cards = λ some. l ∙ h.cards some;
      clean = λ u e. cc;
      dirty = λ e. (card_of word, omega arith, λ is. absurd (omega arith));
      free = λ f. cc;
      unheld = h.unheld;
      laid = record { top_in = h.laid.top_in; even = h.laid.even; zero_above = h.laid.zero_above; loose = h.laid.loose; fit = h.laid.fit; apart = h.laid.apart };
    }

-- ---- the marked births

pub length-marked_births : (births : List ℕ) (marks : List Bool) → length (marked_births births marks) ≡ length births
length-marked_births [] [] = refl
length-marked_births [] (m ∷ ms) = refl
length-marked_births (b ∷ bs) [] = refl
length-marked_births (b ∷ bs) (m ∷ ms) = ap suc (length-marked_births bs ms)

pub get_or-marked_births : (births : List ℕ) (marks : List Bool) (k : ℕ) → length marks ≡ length births → get_or (marked_births births marks) k 0 ≡ cond (get_or marks k false) (get_or births k 0) 0
get_or-marked_births [] [] k same = refl
get_or-marked_births [] (m ∷ ms) k same = absurd (omega arith)
get_or-marked_births (b ∷ bs) [] k same = absurd (omega arith)
get_or-marked_births (b ∷ bs) (m ∷ ms) zero same = refl
get_or-marked_births (b ∷ bs) (m ∷ ms) (suc k) same = get_or-marked_births bs ms k (omega arith)

-- ---- fewer births

-- each birth is as it was, or taken out
fewer_marked : (births : List ℕ) (marks : List Bool) → length marks ≡ length births → (k : ℕ) → get_or (marked_births births marks) k 0 ≢ 0 → get_or (marked_births births marks) k 0 ≡ get_or births k 0
fewer_marked births marks same k =
    let e = get_or-marked_births births marks k same in
    elim (get_or marks k false) as (λ t. get_or (marked_births births marks) k 0 ≡ cond t (get_or births k 0) 0 → get_or (marked_births births marks) k 0 ≢ 0 → get_or (marked_births births marks) k 0 ≡ get_or births k 0) [
      | true ↦ λ is some. is
      | false ↦ λ is some. absurd (some is)
    ] e

pub IsLaid-kept : (p : Segment) (generation : ℕ) → IsLaid p → length p.marks ≡ length p.births → IsLaid (kept_marked p generation)
IsLaid-kept p generation h same =
    let few : (k : ℕ) → get_or (marked_births p.births p.marks) k 0 ≢ 0 → get_or (marked_births p.births p.marks) k 0 ≡ get_or p.births k 0 = fewer_marked p.births p.marks same in
    let was : (k : ℕ) → get_or (marked_births p.births p.marks) k 0 ≢ 0 → get_or p.births k 0 ≢ 0 = λ k bk z. bk (few k bk ∙ z) in
    record {
      top_in = h.top_in;
      even = h.even;
      zero_above = h.zero_above;
      loose = λ k above. elim (cases_eq (get_or (marked_births p.births p.marks) k 0) 0) [ inl z ↦ z | inr some ↦ absurd (was k some (h.loose k above)) ];
      fit = λ k bk. h.fit k (was k bk);
      apart = λ j k lt bj bk. h.apart j k lt (was j bj) (was k bk);
    }

no_mark : (n k : ℕ) → get_or (replicate n false) k false ≡ false
no_mark n k = elim (cases_lt k n) [ inl h ↦ get_or-replicate n k false false h | inr h ↦ get_or_past (replicate n false) k false (omega (arith, length-replicate {A = Bool} n false)) ]

pub IsSound-kept : (p : Segment) (generation : ℕ) → IsSound p → p.role ≡ From → IsSound (kept_marked p generation)
IsSound-kept p generation h aside =
    let b : length (marked_births p.births p.marks) ≡ length p.births = length-marked_births p.births p.marks in
    let used : is_free p.role ≡ false = ap is_free aside in
    record {
      small = h.small;
      births = omega (arith, b, h.births);
      single = λ several. h.single (omega (arith, b));
      marks = length-replicate {A = Bool} (length p.marks) false ∙ (h.marks ∙ sym b);
      cards = λ some. h.cards (omega (arith, b));
      clean = λ u e. h.clean used e;
      dirty = h.dirty;
      free = λ f. cc;
      unheld = λ e k. no_mark (length p.marks) k;
      laid = IsLaid-kept p generation h.laid h.marks;
    }

-- ---- the other calls leave a sound segment

pub IsSound-vacant : IsSound vacant
IsSound-vacant = record {
  small = omega arith;
  births = omega arith;
  single = λ several. absurd (omega arith);
  marks = refl;
  cards = λ some. absurd (omega arith);
  clean = λ u e card within. absurd (omega arith);
  dirty = λ e. cc;
  free = λ f. refl;
  unheld = λ e. cc;
  laid = record { top_in = omega arith; even = refl; zero_above = λ i h. refl; loose = λ k h. refl; fit = λ k some. absurd (some refl); apart = λ j k lt some other. absurd (some refl) };
}

pub IsSound-opened : (s : Space) (generation words births : ℕ) → 2 * births ≤ words → (1 < births → words ≡ 512) → words ≤ OFFSETS → IsSound (opened s generation words births)
IsSound-opened s generation words births h single small =
    let lw : length (replicate {A = ℕ} words 0) ≡ words = length-replicate {A = ℕ} words 0 in
    let lb : length (replicate {A = ℕ} births 0) ≡ births = length-replicate {A = ℕ} births 0 in
    let lm : length (replicate {A = Bool} births false) ≡ births = length-replicate {A = Bool} births false in
    let lc : length (replicate {A = ℕ} (card_count words) 255) ≡ card_count words = length-replicate {A = ℕ} (card_count words) 255 in
    record {
      small = omega arith;
      births = omega arith;
      single = λ several. lw ∙ single (omega arith);
      marks = lm ∙ sym lb;
      cards = λ some. lc ∙ ap card_count (sym lw);
      clean = λ u e card within. get_or-replicate (card_count words) card 255 0 (omega arith);
      dirty = λ e. cc;
      free = λ f. refl;
      unheld = λ e k. no_mark births k;
      laid = record {
        top_in = omega arith;
        even = refl;
        zero_above = λ i above. zero_at words i 0;
        loose = λ k above. zero_at births k 0;
        fit = λ k some. absurd (some (zero_at births k 0));
        apart = λ j k lt some other. absurd (some (zero_at births j 0));
      };
    }

pub IsSound-aside : (p : Segment) → IsSound p → is_free p.role ≡ false → IsSound (set_aside p)
IsSound-aside p h used = record {
  small = h.small;
  births = h.births;
  single = h.single;
  marks = h.marks;
  cards = h.cards;
  clean = λ u. h.clean used;
  dirty = h.dirty;
  free = λ f. cc;
  unheld = λ e. cc;
  laid = record { top_in = h.laid.top_in; even = h.laid.even; zero_above = h.laid.zero_above; loose = h.laid.loose; fit = h.laid.fit; apart = h.laid.apart };
}

pub IsSound-held : (p : Segment) (k : ℕ) → IsSound p → p.role ≡ From → IsSound (held_at p k)
IsSound-held p k h aside = record {
  small = h.small;
  births = h.births;
  single = h.single;
  marks = length-set p.marks k true ∙ h.marks;
  cards = h.cards;
  clean = h.clean;
  dirty = h.dirty;
  free = h.free;
  unheld = λ e. cc;
  laid = record { top_in = h.laid.top_in; even = h.laid.even; zero_above = h.laid.zero_above; loose = h.laid.loose; fit = h.laid.fit; apart = h.laid.apart };
}

IsSound-emptied : (p : Segment) → IsSound p → IsSound (emptied p)
IsSound-emptied p h = record {
  small = omega arith;
  births = omega arith;
  single = λ several. absurd (omega arith);
  marks = refl;
  cards = λ some. absurd (omega arith);
  clean = h.clean;
  dirty = h.dirty;
  free = h.free;
  unheld = λ e k. refl;
  laid = record { top_in = omega arith; even = refl; zero_above = λ i above. refl; loose = λ k above. refl; fit = λ k some. absurd (some refl); apart = λ j k lt some other. absurd (some refl) };
}

IsSound-freed : (p : Segment) → IsSound p → IsSound (record p { role = Free; was_held = false; is_dirty = false })
IsSound-freed p h = record {
  small = h.small;
  births = h.births;
  single = h.single;
  marks = h.marks;
  cards = h.cards;
  clean = λ u. cc;
  dirty = λ e. cc;
  free = λ f. refl;
  unheld = λ e. cc;
  laid = record { top_in = h.laid.top_in; even = h.laid.even; zero_above = h.laid.zero_above; loose = h.laid.loose; fit = h.laid.fit; apart = h.laid.apart };
}

pub IsSound-given_back : (p : Segment) → IsSound p → IsSound (given_back p)
IsSound-given_back p h =
    let none : IsSound (record (emptied p) { role = Free; was_held = false; is_dirty = false }) = IsSound-freed (emptied p) (IsSound-emptied p h) in
    let whole : IsSound (record p { role = Free; was_held = false; is_dirty = false }) = IsSound-freed p h in
    elim (eqb (length p.births) 1) as (λ t. IsSound (let q : Segment = cond t (emptied p) p in record q { role = Free; was_held = false; is_dirty = false })) [ true ↦ none | false ↦ whole ]

-- ---- what starts after these calls

pub spot_aside : (p : Segment) (k : ℕ) → is_free p.role ≡ false → spot (set_aside p) k ≡ spot p k
spot_aside p k used = spot_same p (set_aside p) k (sym used) refl (λ some. refl)

pub spot_held : (p : Segment) (j k : ℕ) → spot (held_at p j) k ≡ spot p k
spot_held p j k = refl

-- a held start stays, in the new generation
pub spot_kept : (p : Segment) (generation k : ℕ) (x : Start) → IsSound p → spot p k ≡ Some x → get_or p.marks k false ≡ true → spot (kept_marked p generation) k ≡ Some (record x { generation = generation })
spot_kept p generation k x h e mark =
    let is : IsStart p k × (x ≡ object_at p k) = spot_is p k x e in
    let b : get_or (marked_births p.births p.marks) k 0 ≡ get_or p.births k 0 = get_or-marked_births p.births p.marks k h.marks ∙ ap (λ t. cond t (get_or p.births k 0) 0) mark in
    let object : object_at (kept_marked p generation) k ≡ record (object_at p k) { generation = generation } = cc in
    spot_start (kept_marked p generation) k (refl, λ z. is.0.1 (sym b ∙ z)) ∙ (ap Some object ∙ ap (λ (v : Start). Some (record v { generation = generation })) (sym is.1))

-- nothing else starts
pub spot_dropped : (p : Segment) (generation k : ℕ) → IsSound p → get_or p.marks k false ≡ false → spot (kept_marked p generation) k ≡ None
spot_dropped p generation k h mark =
    spot_none (kept_marked p generation) k (get_or-marked_births p.births p.marks k h.marks ∙ ap (λ t. cond t (get_or p.births k 0) 0) mark)

pub spot_kept_all : (p : Segment) (generation k : ℕ) → IsSound p → is_free p.role ≡ false → spot (kept_marked p generation) k ≡ kept_spot p generation k
spot_kept_all p generation k h used =
    elim (get_or p.marks k false) as (λ t. get_or p.marks k false ≡ t → spot (kept_marked p generation) k ≡ cond t (in_generation generation (spot p k)) None) [
      | true ↦ λ m.
          elim (cases_eq (get_or p.births k 0) 0) [
            | inl z ↦ spot_none (kept_marked p generation) k (get_or-marked_births p.births p.marks k h.marks ∙ (ap (λ t. cond t (get_or p.births k 0) 0) m ∙ z)) ∙ sym (ap (in_generation generation) (spot_none p k z))
            | inr some ↦ let s : spot p k ≡ Some (object_at p k) = spot_start p k (used, some) in spot_kept p generation k (object_at p k) h s m ∙ sym (ap (in_generation generation) s)
          ]
      | false ↦ λ m. spot_dropped p generation k h m
    ] refl

pub spot_given_back : (p : Segment) (k : ℕ) → spot (given_back p) k ≡ None
spot_given_back p k = refl

pub spot_vacant : (k : ℕ) → spot vacant k ≡ None
spot_vacant k = refl
