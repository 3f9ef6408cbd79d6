-- The map of starts has at each address what the segments have there.
use Rattle.std.proofs.Common.{◌≡◌, ◌≢◌, ℕ, zero, suc, ◌+◌, ◌-◌, ◌*◌, ◌/◌, ◌%◌, ◌<◌, ◌≤◌, ◌&&◌, Bool, true, false, cond, eqb, nat_le, List, [], ◌∷◌, ◌++◌, length, get_or, Option, Some, None, refl, sym, ◌∙◌, ap, subst, arith, inl, inr}
use Rattle.std.proofs.lemmas.List.{get_or_past}
use Rattle.std.proofs.lemmas.Bool.{cases_eq, cases_lt}
use Rattle.std.proofs.lemmas.Bool.Decides.{nat_tests}
use Rattle.std.specs.Ordering.{nat_cmp, eq_by_cmp}
use Rattle.std.specs.Cmp.{nat_cmp_total}
use Rattle.std.specs.FinMap.{FinMap, find, get, insert, get-from_entries, get-insert, same_map, nat_cmp-IsAntisymmetric}
use Rattle.gc_words.specs.declared.address.TheConstants.{OFFSETS}
use Rattle.segment.specs.Segments.{vacant, Segment, Start, is_free, start_at, spot}
use Rattle.territory.specs.Pools.{numbered, start_in, entry, entries_in, entries_of, starts_of}

or_else : Option Start → Option Start → Option Start
or_else None b = b
or_else (Some x) b = Some x

-- the entry at one address, and the rest
find-entry_same : (q : ℕ) (o : Option Start) (es : List (ℕ × Start)) → find nat_cmp q es ≡ None → find nat_cmp q (entry q o ++ es) ≡ o
find-entry_same q None es h = h
find-entry_same q (Some x) es h = grind (arith, nat_tests)

find-entry_other : (q k : ℕ) (o : Option Start) (es : List (ℕ × Start)) → q ≢ k → find nat_cmp q (entry k o ++ es) ≡ find nat_cmp q es
find-entry_other q k None es h = refl
find-entry_other q k (Some x) es h = grind (arith, nat_tests, h)

pub find_out : (q page : ℕ) (p : Segment) (n : ℕ) → ((k : ℕ) → k < n → q ≢ page * OFFSETS + 2 * k) → find nat_cmp q (entries_in page p n) ≡ None
unfolding entries_in
find_out q page p zero h = refl
find_out q page p (suc n) h = find-entry_other q (page * OFFSETS + 2 * n) (spot p n) (entries_in page p n) (h n (omega arith)) ∙ find_out q page p n (λ k b. h k (omega arith))

pub find_in : (page : ℕ) (p : Segment) (n k : ℕ) → k < n → find nat_cmp (page * OFFSETS + 2 * k) (entries_in page p n) ≡ spot p k
unfolding entries_in
find_in page p zero k h = absurd (omega arith)
find_in page p (suc n) k h =
    elim (cases_eq k n) [
      | inl e ↦ subst (λ w. find nat_cmp (page * OFFSETS + 2 * w) (entry (page * OFFSETS + 2 * n) (spot p n) ++ entries_in page p n) ≡ spot p w) (sym e)
          (find-entry_same (page * OFFSETS + 2 * n) (spot p n) (entries_in page p n) (find_out (page * OFFSETS + 2 * n) page p n (λ j b e'. absurd (omega arith))))
      | inr ne ↦ find-entry_other (page * OFFSETS + 2 * k) (page * OFFSETS + 2 * n) (spot p n) (entries_in page p n) (λ e. ne (omega arith)) ∙ find_in page p n k (omega arith)
    ]

none_here : (b : Bool) (x : Start) (r : Option Start) → cond b (Some x) r ≡ None → (s t : Option Start) → (r ≡ None → s ≡ t) → cond b (Some x) s ≡ t
none_here true x r h s t k = cc
none_here false x r h s t k = k h

pub find-append_out : (q : ℕ) (es fs : List (ℕ × Start)) → find nat_cmp q es ≡ None → find nat_cmp q (es ++ fs) ≡ find nat_cmp q fs
find-append_out q [] fs h = refl
find-append_out q (e ∷ es) fs h = none_here (eq_by_cmp nat_cmp q e.0) e.1 (find nat_cmp q es) h (find nat_cmp q (es ++ fs)) (find nat_cmp q fs) (find-append_out q es fs)

none_or : (b : Bool) (x : Start) (r s : Option Start) → r ≡ s → cond b (Some x) r ≡ cond b (Some x) s
none_or b x r s e = ap (λ w. cond b (Some x) w) e

find-append_left : (q : ℕ) (es fs : List (ℕ × Start)) → find nat_cmp q fs ≡ None → find nat_cmp q (es ++ fs) ≡ find nat_cmp q es
find-append_left q [] fs h = h
find-append_left q (e ∷ es) fs h = none_or (eq_by_cmp nat_cmp q e.0) e.1 _ _ (find-append_left q es fs h)

-- segments whose addresses stay apart
abbrev pub AllSmall : List Segment → Type 0
AllSmall segments = (i : ℕ) → i < length segments → 2 * length (numbered segments i).births ≤ OFFSETS

pub small_tail : (p : Segment) (segments : List Segment) → AllSmall (p ∷ segments) → AllSmall segments
small_tail p segments h i k = h (suc i) (omega arith)

-- an address of no page from this one on has no entry
pub find_none : (q page : ℕ) (segments : List Segment) → AllSmall segments → ((i k : ℕ) → i < length segments → k < length (numbered segments i).births → q ≢ (page + i) * OFFSETS + 2 * k) → find nat_cmp q (entries_of page segments) ≡ None
unfolding entries_of
find_none q page [] small h = refl
find_none q page (p ∷ segments) small h =
    find-append_out q (entries_in page p (length p.births)) (entries_of (page + 1) segments) (find_out q page p (length p.births) (λ k b e. h 0 k (omega arith) b (omega arith)))
    ∙ find_none q (page + 1) segments (small_tail p segments small) (λ i k b b' e. h (suc i) k (omega arith) b' (omega arith))

pub find_at : (page : ℕ) (segments : List Segment) (i k : ℕ) → AllSmall segments → i < length segments → k < length (numbered segments i).births
    → find nat_cmp ((page + i) * OFFSETS + 2 * k) (entries_of page segments) ≡ spot (numbered segments i) k
unfolding entries_of
find_at page [] i k small h b = absurd (omega arith)
find_at page (p ∷ segments) zero k small h b =
    let q : ℕ = (page + 0) * OFFSETS + 2 * k in
    let e : q ≡ page * OFFSETS + 2 * k = omega arith in
    let s : 2 * length p.births ≤ OFFSETS = small 0 (omega arith) in
    find-append_left q (entries_in page p (length p.births)) (entries_of (page + 1) segments)
    (find_none q (page + 1) segments (small_tail p segments small) (λ j l a c e'. absurd (omega arith)))
    ∙ (ap (λ w. find nat_cmp w (entries_in page p (length p.births))) e ∙ find_in page p (length p.births) k b)
find_at page (p ∷ segments) (suc i) k small h b =
    let q : ℕ = (page + suc i) * OFFSETS + 2 * k in
    let e : q ≡ ((page + 1) + i) * OFFSETS + 2 * k = omega arith in
    let s : 2 * length (numbered segments i).births ≤ OFFSETS = small (suc i) h in
    find-append_out q (entries_in page p (length p.births)) (entries_of (page + 1) segments) (find_out q page p (length p.births) (λ j l e'. absurd (omega (arith, small 0 (omega arith)))))
    ∙ (ap (λ w. find nat_cmp w (entries_of (page + 1) segments)) e ∙ find_at (page + 1) segments i k (small_tail p segments small) (omega arith) b)

spot_none : (p : Segment) (k : ℕ) → length p.births ≤ k → spot p k ≡ None
spot_none p k h =
    let z : get_or p.births k 0 ≡ 0 = get_or_past p.births k 0 h in
    let s : start_at p k ≡ None = rw z refl in
    elim (is_free p.role) as (λ b. cond b None (start_at p k) ≡ None) [ true ↦ refl | false ↦ s ]

none_of_page : (segments : List Segment) (i k : ℕ) → length segments ≤ i → spot (numbered segments i) k ≡ None
none_of_page segments i k h = rw (get_or_past segments i vacant h) refl

outside : (base : ℕ) (segments : List Segment) (q : ℕ) → AllSmall segments → ((i k : ℕ) → i < length segments → k < length (numbered segments i).births → base ≤ q / OFFSETS → q % 2 ≡ 0 → q / OFFSETS - base ≡ i → q % OFFSETS / 2 ≡ k → ⊥)
    → find nat_cmp q (entries_of base segments) ≡ None
outside base segments q small h = find_none q base segments small (λ i k a b e.
    let s : 2 * length (numbered segments i).births ≤ OFFSETS = small i a in
    h i k a b (omega arith) (omega arith) (omega arith) (omega arith))

-- what the map has at an address is what stands there
pub get-starts : (base : ℕ) (segments : List Segment) → AllSmall segments → (q : ℕ) → get (starts_of base segments) q ≡ start_in base segments q
unfolding starts_of
get-starts base segments small q =
    get-from_entries nat_cmp_total (entries_of base segments) q ∙
    elim (nat_le base (q / OFFSETS) && eqb (q % 2) 0) as (λ b. nat_le base (q / OFFSETS) && eqb (q % 2) 0 ≡ b → find nat_cmp q (entries_of base segments) ≡ cond b (spot (numbered segments (q / OFFSETS - base)) (q % OFFSETS / 2)) None) [
      | false ↦ λ e. outside base segments q small (λ i k a b c d f g. grind (arith, nat_tests, e, c, d))
      | true ↦ λ e.
          let c : base ≤ q / OFFSETS = grind (arith, nat_tests, e) in
          let d : q % 2 ≡ 0 = grind (arith, nat_tests, e) in
          elim (cases_lt (q / OFFSETS - base) (length segments)) [
            | inr far ↦ outside base segments q small (λ i k a b c d f g. omega arith) ∙ sym (none_of_page segments (q / OFFSETS - base) (q % OFFSETS / 2) far)
            | inl near ↦ elim (cases_lt (q % OFFSETS / 2) (length (numbered segments (q / OFFSETS - base)).births)) [
              | inr far ↦ outside base segments q small (λ i k a b c d f g. omega (arith, far, b, g, ap (λ w. length (numbered segments w).births) f)) ∙ sym (spot_none (numbered segments (q / OFFSETS - base)) (q % OFFSETS / 2) far)
              | inl in' ↦
                  let e' : q ≡ (base + (q / OFFSETS - base)) * OFFSETS + 2 * (q % OFFSETS / 2) = omega arith in
                  ap (λ w. find nat_cmp w (entries_of base segments)) e' ∙ find_at base segments (q / OFFSETS - base) (q % OFFSETS / 2) small near in'
            ]
          ]
    ] refl

-- two maps that have the same at each address are one
pub same_starts : (m n : FinMap nat_cmp Start) → ((q : ℕ) → get m q ≡ get n q) → m ≡ n
same_starts m n h = same_map nat_cmp_total nat_cmp-IsAntisymmetric m n h

pub get_inserted : (m : FinMap nat_cmp Start) (a : ℕ) (x : Start) (q : ℕ) → get (insert m a x) q ≡ cond (eq_by_cmp nat_cmp q a) (Some x) (get m q)
get_inserted m a x q = get-insert nat_cmp_total m a x q
