-- A pool makes an object.
use Rattle.std.proofs.Common.{◌≡◌, ℕ, ◌+◌, ◌*◌, ◌/◌, ◌<◌, ◌≤◌, Bool, true, false, cond, not, eqb, ◌&&◌, List, length, get_or, set, replicate, Some, refl, sym, ◌∙◌, ap, subst, arith, inl, inr}
use Rattle.std.proofs.lemmas.List.{length-set, get_or_read}
use Rattle.std.proofs.lemmas.List.Sums.{count_by-le-length}
use Rattle.std.proofs.lemmas.Bool.{cases_eq}
use Rattle.std.proofs.lemmas.Option.{same_Some}
use Rattle.std.proofs.lemmas.Bool.Decides.{nat_tests}
use Rattle.std.specs.List.{count_by}
use Rattle.gc_words.specs.declared.address.TheConstants.{SEGMENTS, OFFSETS}
use Rattle.segment.specs.Layout.{size_of, skip_of, kind_of, length_of, count_of, HasLength}
use Rattle.segment.specs.Segments.{Segment, Start, IsSound, spot, HasRoom, is_free, grown, vacant}
use Rattle.segment.proofs.Changes.{IsSound-grown}
use Rattle.segment.proofs.Spots.{spot_grown, spot_grown_other}
use Rattle.territory.specs.Pools.{PoolView, numbered, IsSettled, is_cell_space, cells_in}
use Rattle.territory.proofs.Numbers.{each_set, spot_set, sum_by-set}
use Rattle.territory.proofs.Listing.{listed_same}
use Rattle.territory.proofs.Dirtying.{dirty_same}
use Rattle.territory.proofs.Opening.{open_changed}
use Rattle.territory.proofs.Counting.{counted_changed, sum_small}

pub one_more : (births : List ℕ) (k birth : ℕ) → k < length births → get_or births k 0 ≡ 0 → 0 < birth → count_by (λ b. not (eqb b 0)) (set births k birth) ≡ count_by (λ b. not (eqb b 0)) births + 1
one_more births k birth b z pos =
    let e : ◌≡◌ {A = ℕ} (cond (not (eqb birth 0)) 1 0) 1 = (let t : eqb birth 0 ≡ false = grind (arith, nat_tests, pos) in ap (λ v. cond (not v) 1 0) t) in
    let f : ◌≡◌ {A = ℕ} (cond (not (eqb (get_or births k 0) 0)) 1 0) 0 = ap (λ v. cond (not (eqb v 0)) 1 0) z in
    omega (arith, sum_by-set (λ v. cond (not (eqb v 0)) 1 0) births k birth 0 b)

pub cells_more : (free cell : Bool) (a b : ℕ) → free ≡ false → a ≡ b + 1 → cond free 0 (cond cell a 0) ≡ cond free 0 (cond cell b 0) + cond cell 1 0
cells_more true cell a b e f = absurd (let c : true ≡ false = e in cc)
cells_more false true a b e f = f
cells_more false false a b e f = refl

pub grown_cells : (p : Segment) (first size birth : ℕ) → IsSound p → HasRoom p size → is_free p.role ≡ false → 0 < birth → cells_in (grown p first size birth) ≡ cells_in p + cond (is_cell_space p.space) 1 0
grown_cells p first size birth s room used pos =
    let k_in : p.top / 2 < length p.births = omega (arith, room.1) in
    let z : get_or p.births (p.top / 2) 0 ≡ 0 = s.laid.loose (p.top / 2) (omega (arith, s.laid.even)) in
    cells_more (is_free p.role) (is_cell_space p.space) (count_by (λ b. not (eqb b 0)) (set p.births (p.top / 2) birth)) (count_by (λ b. not (eqb b 0)) p.births) used (one_more p.births (p.top / 2) birth k_in z pos)

pub used_same : (free : Bool) (a b : ℕ) → a ≡ b → cond free 0 a ≡ cond free 0 b + 0
used_same true a b e = refl
used_same false a b e = omega arith

pub cells_small : (p : Segment) → IsSound p → cells_in p ≤ OFFSETS
cells_small p s =
    let c : count_by (λ b. not (eqb b 0)) p.births ≤ OFFSETS = omega (arith, count_by-le-length (λ b. not (eqb b 0)) p.births, s.births, s.small) in
    elim (is_free p.role) as (λ f. cond f 0 (cond (is_cell_space p.space) (count_by (λ b. not (eqb b 0)) p.births) 0) ≤ OFFSETS) [
      | true ↦ omega arith
      | false ↦ elim (is_cell_space p.space) as (λ f. cond f (count_by (λ b. not (eqb b 0)) p.births) 0 ≤ OFFSETS) [ true ↦ c | false ↦ omega arith ]
    ]

pub cells_fit : (p now : PoolView) → p ≡ now → IsSettled now → p.counts.cells ≤ SEGMENTS * OFFSETS
cells_fit p now e done =
    let t : IsSettled p = subst IsSettled (sym e) done in
    omega (arith, t.counted.cells, t.count, sum_small cells_in p.segments (λ n. cells_small (numbered p.segments n) (t.sound n)))

pub at_most_one : (b : Bool) (n : ℕ) → n ≡ cond b 1 0 → n ≤ 1
at_most_one true n e = omega arith
at_most_one false n e = omega arith

grown_lengths : (p : Segment) (first size birth : ℕ) → IsSound p → is_free p.role ≡ false → 0 < birth → size ≡ size_of p.space first → HasRoom p size → (skip_of p.space ≡ 0 → first ≡ 0) → HasLength (kind_of p.space first) (length_of p.space first)
    → ((k : ℕ) (x : Start) → spot p k ≡ Some x → HasLength x.kind x.length) → (k : ℕ) (x : Start) → spot (grown p first size birth) k ≡ Some x → HasLength x.kind x.length
grown_lengths p first size birth s used pos is room bare fits old k x h =
    elim (cases_eq k (p.top / 2)) [
      | inl e ↦
          let here : Some (record { kind = kind_of p.space first; length = length_of p.space first; generation = p.generation; birth = birth; words = replicate (count_of p.space first) 0 }) ≡ Some x =
          sym (spot_grown p first size birth s.laid used (omega arith) is room bare) ∙ (ap (spot (grown p first size birth)) (sym e) ∙ h) in
          subst (λ (v : Start). HasLength v.kind v.length) (same_Some _ _ here) fits
      | inr ne ↦ old k x (sym (spot_grown_other p first size birth k s.laid ne) ∙ h)
    ]

pub settled_grown : (p now : PoolView) (n first size birth cells : ℕ) (q q' r : Segment) → p ≡ now → IsSettled now → n < length now.segments → is_free (numbered now.segments n).role ≡ false → HasRoom (numbered now.segments n) size → size ≡ size_of (numbered now.segments n).space first → 0 < birth → (skip_of (numbered now.segments n).space ≡ 0 → first ≡ 0) → HasLength (kind_of (numbered now.segments n).space first) (length_of (numbered now.segments n).space first)
    → q ≡ get_or p.segments n q → q' ≡ grown q first size birth → r ≡ get_or p.segments n r → cells ≡ cond (is_cell_space r.space) 1 0
    → IsSettled (record p { segments = set p.segments n q'; counts = record p.counts { cells = p.counts.cells + cells } })
settled_grown p now n first size birth cells q q' r e done within used room is pos bare fits read is' again cells_is =
    let t : IsSettled p = subst IsSettled (sym e) done in
    let old : Segment = numbered p.segments n in
    let back : old ≡ numbered now.segments n = ap (λ (v : PoolView). numbered v.segments n) e in
    let b : n < length p.segments = subst (λ (v : PoolView). n < length v.segments) (sym e) within in
    let same : q ≡ old = get_or_read p.segments n q b read vacant in
    let used' : is_free old.role ≡ false = subst (λ (v : Segment). is_free v.role ≡ false) (sym back) used in
    let room' : HasRoom old size = subst (λ v. HasRoom v size) (sym back) room in
    let size' : size ≡ size_of old.space first = subst (λ (v : Segment). size ≡ size_of v.space first) (sym back) is in
    let bare' : skip_of old.space ≡ 0 → first ≡ 0 = subst (λ (v : Segment). skip_of v.space ≡ 0 → first ≡ 0) (sym back) bare in
    let fits' : HasLength (kind_of old.space first) (length_of old.space first) = subst (λ (v : Segment). HasLength (kind_of v.space first) (length_of v.space first)) (sym back) fits in
    let g : Segment = grown old first size birth in
    let g_is : g ≡ q' = sym (is' ∙ ap (λ v. grown v first size birth) same) in
    let words : length g.words ≡ length old.words = length-set old.words old.top first in
    subst (λ v. IsSettled (record p { segments = set p.segments n v; counts = record p.counts { cells = p.counts.cells + cells } })) g_is (record {
      count = omega (arith, length-set p.segments n g, t.count);
      sound = each_set IsSound p.segments n g t.sound (IsSound-grown old first size birth (t.sound n) size' room');
      generations = each_set (λ (v : Segment). v.generation < 9) p.segments n g t.generations (t.generations n);
      lengths = spot_set p.segments n g t.lengths (grown_lengths old first size birth (t.sound n) used' pos size' room' bare' fits' (t.lengths n));
      listed = listed_same p.segments p.lists n g t.listed refl;
      open_areas = open_changed p.segments p.areas n g t.open_areas b (λ k o. record { current = o.current; space_is = o.space_is; generation_is = o.generation_is; never_held = o.never_held });
      dirty = dirty_same p.segments p.dirty n g t.dirty refl;
      counted = counted_changed p.segments p.areas p.counts (record p.counts { cells = p.counts.cells + cells }) n g 0 cells t.counted b
          (used_same (is_free old.role) (length g.words) (length old.words) words)
          (ap (λ v. cond (is_free old.role) false (old.was_held && eqb v 512)) words)
          (grown_cells old first size birth (t.sound n) room' used' pos ∙ ap (λ v. cells_in old + v) (ap (λ (v : Segment). cond (is_cell_space v.space) 1 0) (sym (get_or_read p.segments n r b again vacant)) ∙ sym cells_is))
          (omega arith) refl refl refl;
    })
