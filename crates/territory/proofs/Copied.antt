-- What a copy of a start leaves: of segment `from`, start k, at the top of segment n.
use Rattle.std.proofs.Common.{◌≡◌, ◌≢◌, ℕ, ◌+◌, ◌-◌, ◌/◌, ◌<◌, ◌≤◌, false, cond, not, eqb, ◌&&◌, List, ◌++◌, length, get_or, set, Some, refl, sym, ◌∙◌, ap, subst, arith, inl, inr}
use Rattle.std.proofs.lemmas.Bool.{cases_eq}
use Rattle.std.proofs.lemmas.List.{length-set, get_or_read, get_or_default, get_or_append_left, get_or-append_right, set-append_left, set-append_right, length-append}
use Rattle.std.proofs.lemmas.Option.{same_Some}
use Rattle.std.specs.List.{count_by}
use Rattle.segment.specs.Layout.{HasLength}
use Rattle.segment.specs.Segments.{Segment, Start, IsSound, IsStart, HasRoom, is_free, size_at, object_at, spot, vacant}
use Rattle.segment.specs.Copies.{run_at, with_words, with_copy}
use Rattle.segment.proofs.Copies.{length-pasted, length-run, is_run, IsSound-run, spot_run_other, spot_copy}
use Rattle.segment.proofs.Spots.{spot_start}
use Rattle.territory.specs.Pools.{PoolView, IsSettled, numbered, is_cell_space, cells_in}
use Rattle.territory.specs.Copies.{with_copied, copy_in}
use Rattle.territory.proofs.Numbers.{each_set, spot_set, used_within}
use Rattle.territory.proofs.Listing.{listed_same}
use Rattle.territory.proofs.Dirtying.{dirty_same}
use Rattle.territory.proofs.Opening.{open_changed}
use Rattle.territory.proofs.Counting.{counted_changed}
use Rattle.territory.proofs.Grown.{one_more, cells_more, used_same}

-- ---- from one segment to another: the list of segments is cut in two between them, and the one of number n becomes
-- F of itself and of the other

pub changed_up : (F : Segment → Segment → Segment) (segments front back : List Segment) (from n : ℕ) (p q new : Segment) → segments ≡ front ++ back → length front ≡ n → n < length segments → from < n
    → new ≡ F (get_or back 0 p) (get_or front from q) → front ++ set back 0 new ≡ set segments n (F (numbered segments n) (numbered segments from))
changed_up F segments front back from n p q new e l within lt is =
    let some : 0 < length back = omega (arith, ap length e, length-append front back) in
    let zero : n - n ≡ 0 = omega arith in
    let at_p : get_or back 0 p ≡ numbered segments n =
    get_or_default back 0 p vacant some ∙ (ap (λ v. get_or back v vacant) (sym zero) ∙ (sym (get_or-append_right front back n n vacant l (omega arith)) ∙ ap (λ v. numbered v n) (sym e))) in
    let at_q : get_or front from q ≡ numbered segments from = get_or_default front from q vacant (omega arith) ∙ (sym (get_or_append_left front back vacant from (omega arith)) ∙ ap (λ v. numbered v from) (sym e)) in
    let new_is : new ≡ F (numbered segments n) (numbered segments from) = is ∙ (ap (λ v. F v (get_or front from q)) at_p ∙ ap (F (numbered segments n)) at_q) in
    ap (λ v. front ++ set back v new) (sym zero) ∙ (sym (set-append_right front back n n new l (omega arith)) ∙ (ap (λ v. set v n new) (sym e) ∙ ap (set segments n) new_is))

pub changed_down : (F : Segment → Segment → Segment) (segments front back : List Segment) (from n : ℕ) (p q new : Segment) → segments ≡ front ++ back → length front ≡ from → from < length segments → n < from
    → new ≡ F (get_or front n p) (get_or back 0 q) → set front n new ++ back ≡ set segments n (F (numbered segments n) (numbered segments from))
changed_down F segments front back from n p q new e l within lt is =
    let some : 0 < length back = omega (arith, ap length e, length-append front back) in
    let zero : from - from ≡ 0 = omega arith in
    let at_q : get_or back 0 q ≡ numbered segments from =
    get_or_default back 0 q vacant some ∙ (ap (λ v. get_or back v vacant) (sym zero) ∙ (sym (get_or-append_right front back from from vacant l (omega arith)) ∙ ap (λ v. numbered v from) (sym e))) in
    let at_p : get_or front n p ≡ numbered segments n = get_or_default front n p vacant (omega arith) ∙ (sym (get_or_append_left front back vacant n (omega arith)) ∙ ap (λ v. numbered v n) (sym e)) in
    let new_is : new ≡ F (numbered segments n) (numbered segments from) = is ∙ (ap (λ v. F v (get_or back 0 q)) at_p ∙ ap (F (numbered segments n)) at_q) in
    sym (set-append_left front back n new (omega arith)) ∙ (ap (λ v. set v n new) (sym e) ∙ ap (set segments n) new_is)

pub copied_up : (segments front back : List Segment) (from k n : ℕ) (p q new : Segment) → segments ≡ front ++ back → length front ≡ n → n < length segments → from < n
    → new ≡ with_copy (get_or back 0 p) (get_or front from q) k → front ++ set back 0 new ≡ with_copied segments from k n
copied_up segments front back from k n p q new e l within lt is = changed_up (λ v w. with_copy v w k) segments front back from n p q new e l within lt is

pub copied_down : (segments front back : List Segment) (from k n : ℕ) (p q new : Segment) → segments ≡ front ++ back → length front ≡ from → IsStart (numbered segments from) k → from ≢ n → n ≤ from
    → new ≡ with_copy (get_or front n p) (get_or back 0 q) k → set front n new ++ back ≡ with_copied segments from k n
copied_down segments front back from k n p q new e l start apart le is =
    changed_down (λ v w. with_copy v w k) segments front back from n p q new e l (used_within segments from start.0) (omega arith) is

-- ---- the pool stays settled

-- a copy of start k of `source` at the top of p is possible
pub record CanCopy (p source : Segment) (k : ℕ) : Type 0 where
  pub sound : IsSound p
  pub source_sound : IsSound source
  pub in_use : is_free p.role ≡ false
  pub start : IsStart source k
  pub space : source.space ≡ p.space
  pub room : HasRoom p (size_at source k)

run_room : (p q : Segment) (k : ℕ) → CanCopy p q k → HasRoom p (length (run_at q k))
run_room p q k c = subst (HasRoom p) (sym (length-run q k c.source_sound.laid c.start.1)) c.room

pub copy_sound : (p q : Segment) (k : ℕ) → CanCopy p q k → IsSound (with_copy p q k)
copy_sound p q k c = IsSound-run p (run_at q k) (get_or q.births k 0) c.sound (is_run p q k c.source_sound.laid c.start.1 c.space) (run_room p q k c)

pub copy_other : (p q : Segment) (k j : ℕ) → CanCopy p q k → j ≢ p.top / 2 → spot (with_copy p q k) j ≡ spot p j
copy_other p q k j c ne = spot_run_other p (run_at q k) (get_or q.births k 0) j c.sound.laid (run_room p q k c) ne

pub copy_here : (p q : Segment) (k : ℕ) → CanCopy p q k → spot (with_copy p q k) (p.top / 2) ≡ Some (copy_in p.generation (object_at q k))
copy_here p q k c = spot_copy p q k c.sound.laid c.source_sound.laid c.in_use c.start c.space c.room

pub copy_words : (p q : Segment) (k : ℕ) → CanCopy p q k → length (with_words p.words p.top (run_at q k)) ≡ length p.words
copy_words p q k c = length-pasted p.words (run_at q k) p.top (run_room p q k c).0

copy_cells : (p q : Segment) (k : ℕ) → CanCopy p q k → cells_in (with_copy p q k) ≡ cells_in p + cond (is_cell_space p.space) 1 0
copy_cells p q k c =
    let birth : ℕ = get_or q.births k 0 in
    let k_in : p.top / 2 < length p.births = omega (arith, c.room.1) in
    let z : get_or p.births (p.top / 2) 0 ≡ 0 = c.sound.laid.loose (p.top / 2) (omega (arith, c.sound.laid.even)) in
    cells_more (is_free p.role) (is_cell_space p.space) (count_by (λ b. not (eqb b 0)) (set p.births (p.top / 2) birth)) (count_by (λ b. not (eqb b 0)) p.births) c.in_use
    (one_more p.births (p.top / 2) birth k_in z (omega (arith, c.start.1)))

copy_lengths : (p q : Segment) (k : ℕ) → CanCopy p q k → ((j : ℕ) (x : Start) → spot p j ≡ Some x → HasLength x.kind x.length) → ((j : ℕ) (x : Start) → spot q j ≡ Some x → HasLength x.kind x.length)
    → (j : ℕ) (x : Start) → spot (with_copy p q k) j ≡ Some x → HasLength x.kind x.length
copy_lengths p q k c old source j x h =
    elim (cases_eq j (p.top / 2)) [
      | inl e ↦
          let same : Some (copy_in p.generation (object_at q k)) ≡ Some x = sym (copy_here p q k c) ∙ (ap (spot (with_copy p q k)) (sym e) ∙ h) in
          subst (λ (v : Start). HasLength v.kind v.length) (same_Some _ _ same) (source k (object_at q k) (spot_start q k c.start))
      | inr ne ↦ old j x (sym (copy_other p q k j c ne) ∙ h)
    ]

pub settled_copied : (p now : PoolView) (from k n size cells : ℕ) (segments : List Segment) (r : Segment) → p ≡ now → IsSettled now → IsStart (numbered now.segments from) k → size ≡ size_at (numbered now.segments from) k → n < length now.segments → is_free (numbered now.segments n).role ≡ false
    → (numbered now.segments from).space ≡ (numbered now.segments n).space → HasRoom (numbered now.segments n) size → segments ≡ with_copied p.segments from k n → r ≡ get_or p.segments n r → cells ≡ cond (is_cell_space r.space) 1 0
    → IsSettled (record p { segments = segments; counts = record p.counts { cells = p.counts.cells + cells } })
settled_copied p now from k n size cells segments r e done start0 size_is within used0 space0 room0 is again cells_is =
    let t : IsSettled p = subst IsSettled (sym e) done in
    let old : Segment = numbered p.segments n in
    let source : Segment = numbered p.segments from in
    let back : old ≡ numbered now.segments n = ap (λ (v : PoolView). numbered v.segments n) e in
    let source_back : source ≡ numbered now.segments from = ap (λ (v : PoolView). numbered v.segments from) e in
    let b : n < length p.segments = subst (λ (v : PoolView). n < length v.segments) (sym e) within in
    let start : IsStart source k = subst (λ v. IsStart v k) (sym source_back) start0 in
    let size' : size ≡ size_at source k = size_is ∙ ap (λ v. size_at v k) (sym source_back) in
    let c : CanCopy old source k = record {
      sound = t.sound n;
      source_sound = t.sound from;
      in_use = subst (λ (v : Segment). is_free v.role ≡ false) (sym back) used0;
      start = start;
      space = ap (λ (v : Segment). v.space) source_back ∙ (space0 ∙ ap (λ (v : Segment). v.space) (sym back));
      room = subst (HasRoom old) size' (subst (λ v. HasRoom v size) (sym back) room0);
    } in
    let g : Segment = with_copy old source k in
    let words : length g.words ≡ length old.words = copy_words old source k c in
    subst (λ v. IsSettled (record p { segments = v; counts = record p.counts { cells = p.counts.cells + cells } })) (sym is) (record {
      count = omega (arith, length-set p.segments n g, t.count);
      sound = each_set IsSound p.segments n g t.sound (copy_sound old source k c);
      generations = each_set (λ (v : Segment). v.generation < 9) p.segments n g t.generations (t.generations n);
      lengths = spot_set p.segments n g t.lengths (copy_lengths old source k c (t.lengths n) (t.lengths from));
      listed = listed_same p.segments p.lists n g t.listed refl;
      open_areas = open_changed p.segments p.areas n g t.open_areas b (λ j o. record { current = o.current; space_is = o.space_is; generation_is = o.generation_is; never_held = o.never_held });
      dirty = dirty_same p.segments p.dirty n g t.dirty refl;
      counted = counted_changed p.segments p.areas p.counts (record p.counts { cells = p.counts.cells + cells }) n g 0 cells t.counted b
          (used_same (is_free old.role) (length g.words) (length old.words) words)
          (ap (λ v. cond (is_free old.role) false (old.was_held && eqb v 512)) words)
          (copy_cells old source k c ∙ ap (λ v. cells_in old + v) (ap (λ (v : Segment). cond (is_cell_space v.space) 1 0) (sym (get_or_read p.segments n r b again vacant)) ∙ sym cells_is))
          (omega arith) refl refl refl;
    })
