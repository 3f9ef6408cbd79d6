-- A pool opens a segment at a free number.
use Rattle.std.proofs.Common.{◌≡◌, ◌≢◌, ℕ, zero, suc, ◌+◌, ◌*◌, ◌<◌, ◌≤◌, true, false, cond, not, eqb, List, length, set, replicate, Some, None, Contains, refl, sym, ◌∙◌, ap, subst, arith}
use Rattle.std.proofs.lemmas.List.{length-set, length-replicate}
use Rattle.std.proofs.lemmas.List.Sums.{sum_by-cons}
use Rattle.std.specs.List.{count_by}
use Rattle.gc_words.specs.declared.address.TheConstants.{SEGMENTS, OFFSETS}
use Rattle.seg_chain.specs.Lists.{chain_of, link_count, moved, EachOnce}
use Rattle.seg_chain.proofs.Laws.{contains_of}
use Rattle.segment.specs.declared.space.Space.{Space}
use Rattle.segment.specs.declared.segment.Role.TheVariants.{Free, Current}
use Rattle.segment.specs.Segments.{Segment, IsSound, is_free, opened}
use Rattle.segment.proofs.Spots.{spot_opened}
use Rattle.segment.proofs.Collected.{IsSound-opened}
use Rattle.territory.specs.Pools.{PoolView, numbered, list_of, IsIn, AreListed, IsSettled, used_words, is_held, is_cell_space, cells_in, shows_dirty}
use Rattle.territory.specs.Changes.{IsTaken}
use Rattle.territory.proofs.Numbers.{each_set, spot_set}
use Rattle.territory.proofs.Listing.{listed_moved, free_of}
use Rattle.territory.proofs.Dirtying.{dirty_same}
use Rattle.territory.proofs.Opening.{open_changed}
use Rattle.territory.proofs.Counting.{counted_changed, sum_small}

none_born : (n : ℕ) → count_by (λ birth. not (eqb birth 0)) (replicate n 0) ≡ 0
none_born zero = refl
none_born (suc n) = omega (arith, sum_by-cons (λ (birth : ℕ). cond (not (eqb birth 0)) 1 0) 0 (replicate n 0), none_born n)

opened_cells : (s : Space) (g words births : ℕ) → cells_in (opened s g words births) ≡ 0
opened_cells s g words births = elim (is_cell_space s) as (λ b. cond b (count_by (λ birth. not (eqb birth 0)) (replicate births 0)) 0 ≡ 0) [ true ↦ none_born births | false ↦ refl ]

-- a free segment counts for nothing
pub record CountsNothing (p : Segment) : Type 0 where
  pub words : used_words p ≡ 0
  pub held : is_held p ≡ false
  pub cells : cells_in p ≡ 0
  pub dirty : shows_dirty p ≡ false

pub free_counts : (p : Segment) → p.role ≡ Free → CountsNothing p
free_counts p e = record {
  words = ap (λ r. cond (is_free r) 0 (length p.words)) e;
  held = ap (λ r. is_held (record p { role = r })) e;
  cells = ap (λ r. cells_in (record p { role = r })) e;
  dirty = ap (λ r. shows_dirty (record p { role = r })) e;
}

pub loose_in : (p now : PoolView) (old : PoolView) (n : ℕ) → p ≡ now → IsTaken old now n → Contains (chain_of p.lists 0) n
loose_in p now old n e t = contains_of n (chain_of p.lists 0) (subst (λ (q : PoolView). IsIn q.lists 0 n) (sym e) t.loose)

used_small : (p : Segment) → IsSound p → used_words p ≤ OFFSETS
used_small p s = elim (is_free p.role) as (λ b. cond b 0 (length p.words) ≤ OFFSETS) [ true ↦ omega arith | false ↦ s.small ]

pub words_fit : (p now : PoolView) → p ≡ now → IsSettled now → p.counts.segment_words ≤ SEGMENTS * OFFSETS
words_fit p now e done =
    let t : IsSettled p = subst IsSettled (sym e) done in
    omega (arith, t.counted.words, t.count, sum_small used_words p.segments (λ n. used_small (numbered p.segments n) (t.sound n)))

pub settled_opened : (p now old : PoolView) (n : ℕ) (s : Space) (g words births : ℕ) (q : Segment) (lists : List (List ℕ)) (to : ℕ) → p ≡ now → IsSettled now → IsTaken old now n → g < 9 → 2 * births ≤ words → (1 < births → words ≡ 512) → words ≤ OFFSETS → q ≡ opened s g words births
    → to ≡ g → lists ≡ moved p.lists 0 (1 + to) n → link_count lists ≡ link_count p.lists → EachOnce lists
    → IsSettled (record p { segments = set p.segments n q; lists = lists; counts = record p.counts { segment_words = p.counts.segment_words + words } })
settled_opened p now old n s g words births q lists to e done taken small births_in single words_in is to_is moved_is' links once =
    let moved_is : lists ≡ moved p.lists 0 (1 + g) n = moved_is' ∙ ap (λ v. moved p.lists 0 (1 + v) n) to_is in
    let t : IsSettled p = subst IsSettled (sym e) done in
    let loose : IsIn p.lists 0 n = subst (λ (v : PoolView). IsIn v.lists 0 n) (sym e) taken.loose in
    let within : n < length p.segments = subst (λ (v : PoolView). n < length v.segments) (sym e) taken.within in
    let zero_is : list_of (numbered p.segments n) ≡ 0 = t.listed.fits 0 n loose in
    let free : (numbered p.segments n).role ≡ Free = free_of (numbered p.segments n) zero_is in
    let nothing : CountsNothing (numbered p.segments n) = free_counts (numbered p.segments n) free in
    let o : Segment = opened s g words births in
    let lw : length (replicate {A = ℕ} words 0) ≡ words = length-replicate {A = ℕ} words 0 in
    let moved' : AreListed (set p.segments n o) (moved p.lists 0 (1 + g) n) =
    subst (λ f. list_of o ≡ 1 + g → 1 + g < 19 → f ≢ 1 + g → link_count (moved p.lists f (1 + g) n) ≡ link_count p.lists → EachOnce (moved p.lists f (1 + g) n) → IsIn p.lists f n → AreListed (set p.segments n o) (moved p.lists f (1 + g) n)) zero_is
    (λ a b c d f i. listed_moved p.segments p.lists n (1 + g) o t.listed i within a b c d f)
    refl (omega arith) (omega arith) (ap link_count (sym moved_is) ∙ links) (subst EachOnce moved_is once) loose in
    subst (λ v. IsSettled (record p { segments = set p.segments n v; lists = lists; counts = record p.counts { segment_words = p.counts.segment_words + words } })) (sym is) (record {
      count = omega (arith, length-set p.segments n o, t.count);
      sound = each_set IsSound p.segments n o t.sound (IsSound-opened s g words births births_in single words_in);
      generations = each_set (λ (v : Segment). v.generation < 9) p.segments n o t.generations small;
      lengths = λ m k x h. spot_set p.segments n o t.lengths (λ j y h'. absurd (let z : None ≡ Some y = sym (spot_opened s g words births j) ∙ h' in cc)) m k x h;
      listed = subst (AreListed (set p.segments n o)) (sym moved_is) moved';
      open_areas = open_changed p.segments p.areas n o t.open_areas within (λ k i. absurd (let c : Free ≡ Current = sym free ∙ i.current in cc));
      dirty = dirty_same p.segments p.dirty n o t.dirty (sym nothing.dirty);
      counted = counted_changed p.segments p.areas p.counts (record p.counts { segment_words = p.counts.segment_words + words }) n o words 0 t.counted within
          (omega (arith, nothing.words)) (sym nothing.held) (omega (arith, nothing.cells, opened_cells s g words births)) refl refl refl (omega arith);
    })
