-- The counters, told of what contracts see.
use Rattle.std.proofs.Common.{◌≡◌, ℕ, zero, suc, ◌+◌, ◌*◌, ◌/◌, ◌%◌, ◌<◌, ◌≤◌, Bool, true, false, cond, not, eqb, List, [], ◌∷◌, ◌++◌, length, get_or, map, take, Option, Some, None, refl, sym, ◌∙◌, ap, arith, append_assoc, add-one}
use Rattle.std.proofs.lemmas.List.{take_more, take_all}
use Rattle.std.proofs.lemmas.List.Sums.{sum_by-cons, sum_by_push}
use Rattle.std.proofs.lemmas.Bool.Decides.{nat_tests}
use Rattle.std.specs.declared.cmp.Ordering.TheVariants.{Less, Equal, Greater}
use Rattle.std.specs.List.{sum_by, count_by}
use Rattle.std.specs.Ordering.{nat_cmp, is_eq}
use Rattle.std.specs.Cmp.{nat_cmp_total}
use Rattle.std.specs.FinMap.{FinMap, from_entries, find, put, get, insert, values, entries, entries-insert, get-entries, get-from_entries, empty, len-entries, len-empty}
use Rattle.std.specs.FinMap.Entries.{by_order}
use Rattle.segment.specs.declared.segment.Role.TheVariants.{Free, Current, From}
use Rattle.gc_words.specs.declared.address.TheConstants.{OFFSETS}
use Rattle.segment.specs.declared.space.Space.{Space}
use Rattle.segment.specs.declared.space.Space.TheVariants as space
use Rattle.segment.specs.Layout.{kind_of, kind_of_code}
use Rattle.segment.specs.Segments.{Segment, Start, is_free, first_at, object_at, spot}
use Rattle.territory.specs.Territories.{SegmentView, words_in, counts_as_held, is_cell}
use Rattle.territory.specs.Pools.{numbered, seen, used_words, is_held, is_cell_space, cells_in, entry, entries_in, entries_of, starts_of}
use Rattle.territory.proofs.Entries.{AllSmall, find_out, find_none, find-append_out, small_tail}

-- ---- a sum over the segments
sum_seen : (f : Option SegmentView → ℕ) (g : Segment → ℕ) → ((p : Segment) → f (seen p) ≡ g p) → (segments : List Segment) → sum_by f (map seen segments) ≡ sum_by g segments
sum_seen f g h [] = refl
sum_seen f g h (p ∷ segments) = omega (arith, sum_by-cons f (seen p) (map seen segments), sum_by-cons g p segments, sum_seen f g h segments, h p)

seen_words : (p : Segment) → words_in (seen p) ≡ used_words p
seen_words p = elim p.role as (λ r. words_in (seen (record p { role = r })) ≡ used_words (record p { role = r })) [ Free ↦ refl | Current ↦ refl | From ↦ refl ]

pub words_told : (segments : List Segment) → sum_by used_words segments ≡ sum_by words_in (map seen segments)
words_told segments = sym (sum_seen words_in used_words seen_words segments)

seen_held : (p : Segment) → counts_as_held (seen p) ≡ is_held p
seen_held p = elim p.role as (λ r. counts_as_held (seen (record p { role = r })) ≡ is_held (record p { role = r })) [ Free ↦ refl | Current ↦ refl | From ↦ refl ]

pub held_told : (segments : List Segment) → count_by is_held segments ≡ count_by counts_as_held (map seen segments)
held_told segments = sym (sum_seen (λ o. cond (counts_as_held o) 1 0) (λ p. cond (is_held p) 1 0) (λ p. ap (λ b. cond b 1 0) (seen_held p)) segments)

-- ---- a count over the starts
pub one : Start → ℕ
one x = cond (is_cell x.kind) 1 0

put_one : (a : ℕ) (x : Start) (es : List (ℕ × Start)) → find nat_cmp a es ≡ None → sum_by one (map (λ e. e.1) (put nat_cmp a x es)) ≡ sum_by one (map (λ e. e.1) es) + one x
put_one a x [] h = omega (arith, sum_by-cons one x [])
put_one a x (e ∷ es) h =
    let ih : find nat_cmp a es ≡ None → sum_by one (map (λ e. e.1) (put nat_cmp a x es)) ≡ sum_by one (map (λ e. e.1) es) + one x = put_one a x es in
    elim (nat_cmp a e.0) as (λ o. nat_cmp a e.0 ≡ o → cond (is_eq o) (Some e.1) (find nat_cmp a es) ≡ None → sum_by one (map (λ e. e.1) (by_order o ((a, x) ∷ e ∷ es) ((e.0, x) ∷ es) (e ∷ put nat_cmp a x es))) ≡ sum_by one (e.1 ∷ map (λ e. e.1) es) + one x) [
      | Less ↦ λ t k. omega (arith, sum_by-cons one x (e.1 ∷ map (λ e. e.1) es))
      | Equal ↦ λ t k. cc
      | Greater ↦ λ t k. omega (arith, sum_by-cons one e.1 (map (λ e. e.1) es), sum_by-cons one e.1 (map (λ e. e.1) (put nat_cmp a x es)), ih k)
    ] refl h

-- the cells of a map
ones : FinMap nat_cmp Start → ℕ
ones m = sum_by one (values m)

ones-insert : (m : FinMap nat_cmp Start) (a : ℕ) (x : Start) → get m a ≡ None → ones (insert m a x) ≡ ones m + one x
unfolding ones
ones-insert m a x h = ap (λ es. sum_by one (map (λ e. e.1) es)) (entries-insert nat_cmp_total m a x) ∙ put_one a x (entries m) (sym (get-entries m a) ∙ h)

pub one_at : Option Start → ℕ
one_at None = 0
one_at (Some x) = one x

ones-entry : (a : ℕ) (o : Option Start) (es : List (ℕ × Start)) → find nat_cmp a es ≡ None → ones (from_entries (entry a o ++ es)) ≡ ones (from_entries es) + one_at o
unfolding one_at
ones-entry a None es h = omega arith
ones-entry a (Some x) es h = ones-insert (from_entries es) a x (get-from_entries nat_cmp_total es a ∙ h)

-- the cells that start at the first n places of a segment
pub ones_in : Segment → ℕ → ℕ
ones_in p zero = 0
ones_in p (suc k) = one_at (spot p k) + ones_in p k

ones-entries_in : (page : ℕ) (p : Segment) (n : ℕ) (es : List (ℕ × Start)) → ((k : ℕ) → k < n → find nat_cmp (page * OFFSETS + 2 * k) es ≡ None) → ones (from_entries (entries_in page p n ++ es)) ≡ ones (from_entries es) + ones_in p n
unfolding entries_in ones_in
ones-entries_in page p zero es h = omega arith
ones-entries_in page p (suc n) es h =
    let a : ℕ = page * OFFSETS + 2 * n in
    let rest : List (ℕ × Start) = entries_in page p n ++ es in
    let none : find nat_cmp a rest ≡ None = find-append_out a (entries_in page p n) es (find_out a page p n (λ k b e. absurd (omega arith))) ∙ h n (omega arith) in
    let e : ones (from_entries (entry a (spot p n) ++ entries_in page p n ++ es)) ≡ ones (from_entries (entry a (spot p n) ++ rest)) = ap (λ v. ones (from_entries v)) (append_assoc (entry a (spot p n)) (entries_in page p n) es) in
    let ih : ones (from_entries rest) ≡ ones (from_entries es) + ones_in p n = ones-entries_in page p n es (λ k b. h k (omega arith)) in
    omega (arith, e, ones-entry a (spot p n) rest none, ih)

pub none_left : {X : Type 0} (xs : List X) → length xs ≡ 0 → xs ≡ []
none_left [] h = refl
none_left (x ∷ xs) h = absurd (omega arith)

no_entries : entries (empty {X = Start} {R = nat_cmp}) ≡ []
no_entries = none_left (entries (empty {X = Start} {R = nat_cmp})) (sym (len-entries (empty {X = Start} {R = nat_cmp})) ∙ len-empty nat_cmp Start)

ones-entries_of : (page : ℕ) (segments : List Segment) → AllSmall segments → ones (from_entries (entries_of page segments)) ≡ sum_by (λ p. ones_in p (length p.births)) segments
unfolding entries_of ones
ones-entries_of page [] small = ap (λ es. sum_by one (map (λ e. e.1) es)) no_entries
ones-entries_of page (p ∷ segments) small =
    let s : 2 * length p.births ≤ OFFSETS = small 0 (omega arith) in
    let apart : (k : ℕ) → k < length p.births → find nat_cmp (page * OFFSETS + 2 * k) (entries_of (page + 1) segments) ≡ None = λ k b.
    find_none (page * OFFSETS + 2 * k) (page + 1) segments (small_tail p segments small) (λ i j c d e. let t : 2 * length (numbered segments i).births ≤ OFFSETS = small (suc i) (omega arith) in absurd (omega arith)) in
    let all : ones (from_entries (entries_in page p (length p.births) ++ entries_of (page + 1) segments)) ≡ ones (from_entries (entries_of (page + 1) segments)) + ones_in p (length p.births) =
    ones-entries_in page p (length p.births) (entries_of (page + 1) segments) apart in
    omega (arith, all, ones-entries_of (page + 1) segments (small_tail p segments small), sum_by-cons (λ p. ones_in p (length p.births)) p segments)

-- ---- the cells of a segment: all that starts in its space, or nothing
header_kind : (code : ℕ) → is_cell (kind_of_code code) ≡ false
header_kind code = grind (arith, nat_tests)

cell_kind : (s : Space) (first : ℕ) → is_cell (kind_of s first) ≡ is_cell_space s
unfolding kind_of
cell_kind space.Pair first = refl
cell_kind space.Weak first = refl
cell_kind space.Ephemeron first = refl
cell_kind space.Cell first = refl
cell_kind space.Typed first = header_kind (first / 8 % 32)
cell_kind space.Raw first = header_kind (first / 8 % 32)
cell_kind space.Immobile first = header_kind (first / 8 % 32)
cell_kind space.ImmobileRaw first = header_kind (first / 8 % 32)

born_one : Bool → Bool → ℕ → ℕ
born_one free cell birth = cond free 0 (cond cell (cond (not (eqb birth 0)) 1 0) 0)

spot_one : (p : Segment) (k : ℕ) → one_at (spot p k) ≡ born_one (is_free p.role) (is_cell_space p.space) (get_or p.births k 0)
unfolding one_at one born_one
spot_one p k =
    elim (is_free p.role) as (λ f. one_at (cond f None (cond (eqb (get_or p.births k 0) 0) None (Some (object_at p k)))) ≡ cond f 0 (cond (is_cell_space p.space) (cond (not (eqb (get_or p.births k 0) 0)) 1 0) 0)) [
      | true ↦ refl
      | false ↦ elim (eqb (get_or p.births k 0) 0) as (λ z. one_at (cond z None (Some (object_at p k))) ≡ cond (is_cell_space p.space) (cond (not z) 1 0) 0) [
        | true ↦ elim (is_cell_space p.space) as (λ c. ◌≡◌ {A = ℕ} 0 (cond c 0 0)) [ true ↦ refl | false ↦ refl ]
        | false ↦ ap (λ c. cond c 1 0) (cell_kind p.space (first_at p k))
      ]
    ]

both_sum : (f c : Bool) (a b x y : ℕ) → a ≡ cond f 0 (cond c b 0) → x ≡ cond f 0 (cond c y 0) → a + x ≡ cond f 0 (cond c (y + b) 0)
both_sum true c a b x y h k = omega arith
both_sum false true a b x y h k = omega arith
both_sum false false a b x y h k = omega arith

ones_born : (p : Segment) (n : ℕ) → n ≤ length p.births → ones_in p n ≡ cond (is_free p.role) 0 (cond (is_cell_space p.space) (count_by (λ birth. not (eqb birth 0)) (take n p.births)) 0)
unfolding ones_in born_one
ones_born p zero h = elim (is_free p.role) as (λ f. ◌≡◌ {A = ℕ} 0 (cond f 0 (cond (is_cell_space p.space) 0 0))) [ true ↦ refl | false ↦ elim (is_cell_space p.space) as (λ c. ◌≡◌ {A = ℕ} 0 (cond c 0 0)) [ true ↦ refl | false ↦ refl ] ]
ones_born p (suc n) h =
    let birth : ℕ = get_or p.births n 0 in
    let more : count_by (λ b. not (eqb b 0)) (take (n + 1) p.births) ≡ count_by (λ b. not (eqb b 0)) (take n p.births) + cond (not (eqb birth 0)) 1 0 =
    ap (count_by (λ b. not (eqb b 0))) (take_more p.births n 0 (omega arith)) ∙ sum_by_push (λ b. cond (not (eqb b 0)) 1 0) (take n p.births) birth in
    let ih : ones_in p n ≡ cond (is_free p.role) 0 (cond (is_cell_space p.space) (count_by (λ b. not (eqb b 0)) (take n p.births)) 0) = ones_born p n (omega arith) in
    let here : one_at (spot p n) ≡ cond (is_free p.role) 0 (cond (is_cell_space p.space) (cond (not (eqb birth 0)) 1 0) 0) = spot_one p n in
    both_sum (is_free p.role) (is_cell_space p.space) (one_at (spot p n)) (cond (not (eqb birth 0)) 1 0) (ones_in p n) (count_by (λ b. not (eqb b 0)) (take n p.births)) here ih
    ∙ ap (λ v. cond (is_free p.role) 0 (cond (is_cell_space p.space) v 0)) (sym more ∙ ap (λ v. count_by (λ b. not (eqb b 0)) (take v p.births)) (add-one n))

pub ones_are : (p : Segment) → ones_in p (length p.births) ≡ cells_in p
ones_are p = ones_born p (length p.births) (omega arith) ∙ ap (λ v. cond (is_free p.role) 0 (cond (is_cell_space p.space) (count_by (λ b. not (eqb b 0)) v) 0)) (take_all (length p.births) p.births (omega arith))

sum_same : (f g : Segment → ℕ) → ((p : Segment) → f p ≡ g p) → (segments : List Segment) → sum_by f segments ≡ sum_by g segments
sum_same f g h [] = refl
sum_same f g h (p ∷ segments) = omega (arith, sum_by-cons f p segments, sum_by-cons g p segments, sum_same f g h segments, h p)

pub cells_told : (base : ℕ) (segments : List Segment) → AllSmall segments → sum_by cells_in segments ≡ count_by (λ x. is_cell x.kind) (values (starts_of base segments))
unfolding ones one starts_of
cells_told base segments small = sum_same cells_in (λ p. ones_in p (length p.births)) (λ p. sym (ones_are p)) segments ∙ sym (ones-entries_of base segments small)
