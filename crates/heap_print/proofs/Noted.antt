-- Notes as they are once a block has a row, and once an object has a number.
use Rattle.std.proofs.Common.{◌≡◌, ◌<◌, ◌≤◌, ℕ, ◌+◌, ◌-◌, ◌*◌, ◌/◌, ◌%◌, eqb, cond, not, nat_lt, Bool, true, false, List, [], ◌∷◌, ◌++◌, length, get_or, slice_index, set, replicate, refl, sym, ap, subst, ◌∙◌, arith, get_or-set_other, get_or-set_same}
use Rattle.std.proofs.lemmas.Bool.{lt-ltb, eqb-true, eqb-false, ltb-true, ltb-false, false≢true}
use Rattle.std.proofs.lemmas.Cmp.{nat_eq_equiv}
use Rattle.std.proofs.lemmas.List.{length-append, length-set, length-replicate, get_or_append_left, get_or-append_right, get_or-replicate, get_or_past}
use Rattle.std.specs.List.{list_any}
use Rattle.trace_types.specs.Rules.{has}
use Rattle.trace_types.specs.Printing.{with_number}
use Rattle.heap_print.specs.Notes.{place_in, place_of, note_of, AreNoted}

not_below : (m n : ℕ) → n ≤ m → nat_lt m n ≡ false
not_below m n h = by (nat_lt m n) refl
  where
    by : (b : Bool) → nat_lt m n ≡ b → nat_lt m n ≡ false
    by true e = absurd (omega (arith, h, ltb-true m n e))
    by false e = e

-- ---- places in lists

-- what is in a list has its place there
pub place_within : (xs : List ℕ) (x : ℕ) → list_any (eqb x) xs ≡ true → place_in xs x < length xs
place_within [] x e = absurd (false≢true e)
place_within (y ∷ xs) x e = by (place_within xs x) (eqb x y) refl
  where
    by : (list_any (eqb x) xs ≡ true → place_in xs x < length xs) → (b : Bool) → eqb x y ≡ b → place_in (y ∷ xs) x < length (y ∷ xs)
    by rest true d = rw d (omega arith)
    by rest false d = rw d (let more = rest (rw d at e) in omega (arith, more))

-- and what is not the length
pub place_past : (xs : List ℕ) (x : ℕ) → list_any (eqb x) xs ≡ false → place_in xs x ≡ length xs
place_past [] x e = refl
place_past (y ∷ xs) x e = by (place_past xs x) (eqb x y) refl
  where
    by : (list_any (eqb x) xs ≡ false → place_in xs x ≡ length xs) → (b : Bool) → eqb x y ≡ b → place_in (y ∷ xs) x ≡ length (y ∷ xs)
    by rest true d = absurd (false≢true (sym (rw d at e)))
    by rest false d = rw d (let more = rest (rw d at e) in omega (arith, more))

-- one has the place of its own
pub place_own : (xs : List ℕ) (x y : ℕ) → place_in xs x < length xs → place_in xs y ≡ place_in xs x → x ≡ y
place_own [] x y within same = absurd (omega (arith, within))
place_own (z ∷ xs) x y within same = by (place_own xs x y) (eqb x z) (eqb y z) refl refl
  where
    by : (place_in xs x < length xs → place_in xs y ≡ place_in xs x → x ≡ y) → (a b : Bool) → eqb x z ≡ a → eqb y z ≡ b → x ≡ y
    by rest true true d e = eqb-true x z d ∙ sym (eqb-true y z e)
    by rest true false d e = absurd (let bad = rw (d, e) at same in omega (arith, bad))
    by rest false true d e = absurd (let bad = rw (d, e) at same in omega (arith, bad))
    by rest false false d e =
        let less = rw d at within in
        let more = rw (d, e) at same in
        rest (omega (arith, less)) (omega (arith, more))

-- one more at the end
pub place_pushed : (xs : List ℕ) (x y : ℕ) → place_in (xs ++ y ∷ []) x ≡ cond (nat_lt (place_in xs x) (length xs)) (place_in xs x) (cond (eqb x y) (length xs) (length xs + 1))
place_pushed xs x y = by xs (list_any (eqb x) xs) refl
  where
    before : (zs : List ℕ) → list_any (eqb x) zs ≡ true → place_in (zs ++ y ∷ []) x ≡ place_in zs x
    before [] e = absurd (false≢true e)
    before (z ∷ zs) e = at (before zs) (eqb x z) refl
      where
        at : (list_any (eqb x) zs ≡ true → place_in (zs ++ y ∷ []) x ≡ place_in zs x) → (b : Bool) → eqb x z ≡ b → place_in (z ∷ zs ++ y ∷ []) x ≡ place_in (z ∷ zs) x
        at rest true d = ap (λ b. cond (not b) (1 + place_in (zs ++ y ∷ []) x) 0) d ∙ sym (ap (λ b. cond (not b) (1 + place_in zs x) 0) d)
        at rest false d = ap (λ b. cond (not b) (1 + place_in (zs ++ y ∷ []) x) 0) d ∙ ap (λ n. 1 + n) (rest (rw d at e)) ∙ sym (ap (λ b. cond (not b) (1 + place_in zs x) 0) d)

    behind : (zs : List ℕ) → list_any (eqb x) zs ≡ false → place_in (zs ++ y ∷ []) x ≡ cond (eqb x y) (length zs) (length zs + 1)
    behind [] e = elim (eqb x y) as (λ b. ◌≡◌ {A = ℕ} (cond (not b) 1 0) (cond b 0 1)) [ true ↦ refl | false ↦ refl ]
    behind (z ∷ zs) e = at (behind zs) (eqb x z) refl
      where
        at : (list_any (eqb x) zs ≡ false → place_in (zs ++ y ∷ []) x ≡ cond (eqb x y) (length zs) (length zs + 1)) → (b : Bool) → eqb x z ≡ b
            → place_in (z ∷ zs ++ y ∷ []) x ≡ cond (eqb x y) (length (z ∷ zs)) (length (z ∷ zs) + 1)
        at rest true d = absurd (false≢true (sym (rw d at e)))
        at rest false d = ap (λ b. cond (not b) (1 + place_in (zs ++ y ∷ []) x) 0) d ∙ ap (λ n. 1 + n) (rest (rw d at e)) ∙ (elim (eqb x y) as (λ b. 1 + cond b (length zs) (length zs + 1) ≡ cond b (length (z ∷ zs)) (length (z ∷ zs) + 1)) [ true ↦ omega arith | false ↦ omega arith ])

    by : (zs : List ℕ) (b : Bool) → list_any (eqb x) zs ≡ b → place_in (zs ++ y ∷ []) x ≡ cond (nat_lt (place_in zs x) (length zs)) (place_in zs x) (cond (eqb x y) (length zs) (length zs + 1))
    by zs true e = rw (lt-ltb (place_in zs x) (length zs) (place_within zs x e)) (before zs e)
    by zs false e = rw (place_past zs x e) (behind zs e ∙ sym (ap (λ b. cond b (length zs) (cond (eqb x y) (length zs) (length zs + 1))) (not_below (length zs) (length zs) (omega arith))))

-- a place is that of a member, or past the end
has_place : (xs : List ℕ) (x : ℕ) → has xs x ≡ list_any (eqb x) xs
has_place [] x = refl
has_place (y ∷ xs) x = rw (nat_eq_equiv.symm y x, has_place xs x) refl

-- ---- what a note says

module _ (numbers : List ℕ) (w note : ℕ) (is : note ≡ note_of numbers w) where
  by_member : (b : Bool) → list_any (eqb w) numbers ≡ b → note ≡ cond b (place_in numbers w + 1) 0
  by_member true e = is ∙ ap (λ b. cond b (place_in numbers w + 1) 0) (lt-ltb (place_in numbers w) (length numbers) (place_within numbers w e))
  by_member false e = is ∙ none (nat_lt (place_in numbers w) (length numbers)) refl
    where
      none : (b : Bool) → nat_lt (place_in numbers w) (length numbers) ≡ b → cond b (place_in numbers w + 1) 0 ≡ 0
      none true d = absurd (omega (arith, ltb-true (place_in numbers w) (length numbers) d, place_past numbers w e))
      none false d = refl

  pub note_some : 0 < note → numbers ≡ with_number numbers w
  note_some more = by (list_any (eqb w) numbers) refl
    where
      by : (b : Bool) → list_any (eqb w) numbers ≡ b → numbers ≡ with_number numbers w
      by true e = ap (λ b. cond b numbers (numbers ++ w ∷ [])) (sym (has_place numbers w ∙ e))
      by false e = absurd (omega (arith, more, by_member false e))

  pub note_none : note ≡ 0 → list_any (eqb w) numbers ≡ false
  note_none zero = by (list_any (eqb w) numbers) refl
    where
      by : (b : Bool) → list_any (eqb w) numbers ≡ b → list_any (eqb w) numbers ≡ false
      by true e = absurd (omega (arith, zero, by_member true e))
      by false e = e

  pub number_new : note ≡ 0 → with_number numbers w ≡ numbers ++ w ∷ []
  number_new zero = ap (λ b. cond b numbers (numbers ++ w ∷ [])) (has_place numbers w ∙ note_none zero)

  pub place_new : note ≡ 0 → length numbers ≡ place_in numbers w
  place_new zero = sym (place_past numbers w (note_none zero))

-- ---- rows

-- rows with the same notes, and no fewer
pub notes_same : (numbers blocks old new : List ℕ) → AreNoted numbers blocks old → length old ≤ length new → ((i : ℕ) → slice_index new i ≡ slice_index old i) →
    AreNoted numbers blocks new
notes_same numbers blocks old new noted more same = record {
  room = omega (arith, noted.room, more);
  spare = λ i past. same i ∙ noted.spare i past;
  notes = λ w form. same (place_of blocks w) ∙ noted.notes w form;
}

-- zeros more
pub zeros_more : (rows : List ℕ) (n i : ℕ) → slice_index (rows ++ replicate n 0) i ≡ slice_index rows i
zeros_more rows n i = by (nat_lt i (length rows)) refl
  where
    zero_there : (k : ℕ) → slice_index (replicate n 0) k ≡ 0
    zero_there k = at (nat_lt k n) refl
      where
        at : (b : Bool) → nat_lt k n ≡ b → slice_index (replicate n 0) k ≡ 0
        at true e = get_or-replicate n k 0 0 (ltb-true k n e)
        at false e = get_or_past (replicate n 0) k 0 (omega (arith, length-replicate {A = ℕ} n 0, ltb-false k n e))

    by : (b : Bool) → nat_lt i (length rows) ≡ b → slice_index (rows ++ replicate n 0) i ≡ slice_index rows i
    by true e = get_or_append_left rows (replicate n 0) 0 i (ltb-true i (length rows) e)
    by false e =
        let past : length rows ≤ i = ltb-false i (length rows) e in
        get_or-append_right rows (replicate n 0) (length rows) i 0 refl past ∙ zero_there (i - length rows) ∙ sym (get_or_past rows i 0 past)

-- a block got the next row
row_more : (numbers blocks rows : List ℕ) (block : ℕ) → AreNoted numbers blocks rows → list_any (eqb block) blocks ≡ false → 256 * length blocks + 256 ≤ length rows →
    AreNoted numbers (blocks ++ block ∷ []) rows
row_more numbers blocks rows block noted new room = record {
  room = omega (arith, room, length-append blocks (block ∷ []));
  spare = λ i past. noted.spare i (omega (arith, past, length-append blocks (block ∷ [])));
  notes = λ w form. by w (nat_lt (place_in blocks (w / 4096)) (length blocks)) (eqb (w / 4096) block) refl refl ∙ noted.notes w form;
}
  where
    by : (w : ℕ) (b d : Bool) → nat_lt (place_in blocks (w / 4096)) (length blocks) ≡ b → eqb (w / 4096) block ≡ d →
        get_or rows (place_of (blocks ++ block ∷ []) w) 0 ≡ get_or rows (place_of blocks w) 0
    by w true d e k = ap (λ p. get_or rows (256 * p + w / 16 % 256) 0) (place_pushed blocks (w / 4096) block ∙ ap (λ b. cond b (place_in blocks (w / 4096)) (cond (eqb (w / 4096) block) (length blocks) (length blocks + 1))) e)
    by w false true e k =
        let own : place_in blocks (w / 4096) ≡ length blocks = place_past blocks (w / 4096) (ap (λ z. list_any (eqb z) blocks) (eqb-true (w / 4096) block k) ∙ new) in
        ap (λ p. get_or rows (256 * p + w / 16 % 256) 0) (place_pushed blocks (w / 4096) block
        ∙ ap (λ b. cond b (place_in blocks (w / 4096)) (cond (eqb (w / 4096) block) (length blocks) (length blocks + 1))) e
        ∙ ap (λ b. cond b (length blocks) (length blocks + 1)) k ∙ sym own)
    by w false false e k =
        let past : length blocks ≤ place_in blocks (w / 4096) = ltb-false _ _ e in
        let next : place_in (blocks ++ block ∷ []) (w / 4096) ≡ length blocks + 1 =
        place_pushed blocks (w / 4096) block
        ∙ ap (λ b. cond b (place_in blocks (w / 4096)) (cond (eqb (w / 4096) block) (length blocks) (length blocks + 1))) e
        ∙ ap (λ b. cond b (length blocks) (length blocks + 1)) k in
        noted.spare (place_of (blocks ++ block ∷ []) w) (omega (arith, next)) ∙ sym (noted.spare (place_of blocks w) (omega (arith, past)))

pub row_made : (numbers blocks after rows : List ℕ) (block : ℕ) → AreNoted numbers blocks rows → 256 * length blocks + 256 ≤ length rows →
    after ≡ cond (list_any (eqb block) blocks) blocks (blocks ++ block ∷ []) → AreNoted numbers after rows
row_made numbers blocks after rows block noted room is = by (list_any (eqb block) blocks) refl
  where
    by : (b : Bool) → list_any (eqb block) blocks ≡ b → AreNoted numbers after rows
    by true e = subst (λ bs. AreNoted numbers bs rows) (sym (is ∙ ap (λ b. cond b blocks (blocks ++ block ∷ [])) e)) noted
    by false e = subst (λ bs. AreNoted numbers bs rows) (sym (is ∙ ap (λ b. cond b blocks (blocks ++ block ∷ [])) e)) (row_more numbers blocks rows block noted e room)

-- ---- a new number

-- no two words have one place
places_apart : (blocks : List ℕ) (u w : ℕ) → u % 16 ≡ 1 → w % 16 ≡ 1 → place_in blocks (w / 4096) < length blocks → place_of blocks u ≡ place_of blocks w → u ≡ w
places_apart blocks u w form of within same =
    let rows : place_in blocks (u / 4096) ≡ place_in blocks (w / 4096) = omega (arith, same) in
    let block : w / 4096 ≡ u / 4096 = place_own blocks (w / 4096) (u / 4096) within rows in
    omega (arith, same, rows, block, form, of)

note_pushed : (numbers : List ℕ) (u w : ℕ) → eqb u w ≡ false → note_of (numbers ++ w ∷ []) u ≡ note_of numbers u
note_pushed numbers u w apart = by (list_any (eqb u) numbers) refl
  where
    longer : length (numbers ++ w ∷ []) ≡ length numbers + 1
    longer = length-append numbers (w ∷ [])

    whole : place_in (numbers ++ w ∷ []) u ≡ cond (nat_lt (place_in numbers u) (length numbers)) (place_in numbers u) (length numbers + 1)
    whole = place_pushed numbers u w ∙ ap (λ b. cond (nat_lt (place_in numbers u) (length numbers)) (place_in numbers u) (cond b (length numbers) (length numbers + 1))) apart

    by : (b : Bool) → list_any (eqb u) numbers ≡ b → note_of (numbers ++ w ∷ []) u ≡ note_of numbers u
    by true e =
        let within = place_within numbers u e in
        let less = lt-ltb (place_in numbers u) (length numbers) within in
        let same : place_in (numbers ++ w ∷ []) u ≡ place_in numbers u = whole ∙ ap (λ b. cond b (place_in numbers u) (length numbers + 1)) less in
        rw (same, longer, less, lt-ltb (place_in numbers u) (length numbers + 1) (omega (arith, within))) refl
    by false e =
        let past = place_past numbers u e in
        let none = not_below (length numbers) (length numbers) (omega arith) in
        let same : place_in (numbers ++ w ∷ []) u ≡ length numbers + 1 =
        whole ∙ ap (λ n. cond (nat_lt n (length numbers)) n (length numbers + 1)) past ∙ ap (λ b. cond b (length numbers) (length numbers + 1)) none in
        rw (same, longer, past, none, not_below (length numbers + 1) (length numbers + 1) (omega arith)) refl

note_own : (numbers : List ℕ) (w : ℕ) → list_any (eqb w) numbers ≡ false → note_of (numbers ++ w ∷ []) w ≡ length numbers + 1
note_own numbers w e =
    let past = place_past numbers w e in
    let none = not_below (length numbers) (length numbers) (omega arith) in
    let same : place_in (numbers ++ w ∷ []) w ≡ length numbers =
    place_pushed numbers w w ∙ ap (λ n. cond (nat_lt n (length numbers)) n (cond (eqb w w) (length numbers) (length numbers + 1))) past
    ∙ ap (λ b. cond b (length numbers) (cond (eqb w w) (length numbers) (length numbers + 1))) none
    ∙ ap (λ b. cond b (length numbers) (length numbers + 1)) (nat_eq_equiv.refl w) in
    let longer : length (numbers ++ w ∷ []) ≡ length numbers + 1 = length-append numbers (w ∷ []) in
    rw (same, longer, lt-ltb (length numbers) (length numbers + 1) (omega arith)) refl

pub number_noted : (numbers blocks rows : List ℕ) (w place : ℕ) → AreNoted numbers blocks rows → w % 16 ≡ 1 → place ≡ place_of blocks w →
    place_in blocks (w / 4096) < length blocks → place < length rows → list_any (eqb w) numbers ≡ false → AreNoted (numbers ++ w ∷ []) blocks (set rows place (length numbers + 1))
number_noted numbers blocks rows w place noted form is within there new = record {
  room = omega (arith, noted.room, length-set rows place (length numbers + 1));
  spare = λ i past. get_or-set_other rows place i (length numbers + 1) 0 (λ same. omega (arith, same, past, is, within)) ∙ noted.spare i past;
  notes = λ u of. by u of (eqb u w) refl;
}
  where
    by : (u : ℕ) → u % 16 ≡ 1 → (b : Bool) → eqb u w ≡ b → get_or (set rows place (length numbers + 1)) (place_of blocks u) 0 ≡ note_of (numbers ++ w ∷ []) u
    by u of true e =
        let same : u ≡ w = eqb-true u w e in
        ap (λ x. get_or (set rows place (length numbers + 1)) (place_of blocks x) 0) same
        ∙ ap (λ p. get_or (set rows place (length numbers + 1)) p 0) (sym is)
        ∙ get_or-set_same rows place (length numbers + 1) 0 there
        ∙ sym (ap (note_of (numbers ++ w ∷ [])) same ∙ note_own numbers w new)
    by u of false e =
        get_or-set_other rows place (place_of blocks u) (length numbers + 1) 0 (λ same. eqb-false u w e (places_apart blocks u w of form within (same ∙ is)))
        ∙ noted.notes u of ∙ sym (note_pushed numbers u w e)
