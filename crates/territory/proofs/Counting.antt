-- The counters, after each change.
use Rattle.std.proofs.Common.{◌≡◌, ℕ, suc, ◌+◌, ◌*◌, ◌<◌, ◌≤◌, cond, List, [], ◌∷◌, ◌++◌, length, get_or, set, Option, Some, None, is_some, ◌∙◌, ap, arith}
use Rattle.std.proofs.lemmas.List.Sums.{sum_by-cons, sum_by_push}
use Rattle.std.specs.List.{sum_by}
use Rattle.gc_words.specs.declared.address.TheConstants.{OFFSETS}
use Rattle.segment.specs.Segments.{vacant, Segment}
use Rattle.territory.specs.declared.counts.SegmentCounts.{SegmentCounts}
use Rattle.territory.specs.Pools.{numbered, AreCounted, used_words, is_held, cells_in}
use Rattle.territory.proofs.Numbers.{sum_by-set}

pub counted_push : (segments : List Segment) (areas : List (Option ℕ)) (counts : SegmentCounts) → AreCounted segments areas counts → AreCounted (segments ++ vacant ∷ []) areas counts
counted_push segments areas counts c = record {
  words = omega (arith, c.words, sum_by_push used_words segments vacant);
  open_areas = c.open_areas;
  held = omega (arith, c.held, sum_by_push (λ p. cond (is_held p) 1 0) segments vacant);
  cells = omega (arith, c.cells, sum_by_push cells_in segments vacant);
}

-- a segment that counts for so many words and cells more
pub counted_changed : (segments : List Segment) (areas : List (Option ℕ)) (counts counts' : SegmentCounts) (n : ℕ) (p : Segment) (words cells : ℕ) → AreCounted segments areas counts → n < length segments
    → used_words p ≡ used_words (numbered segments n) + words → is_held p ≡ is_held (numbered segments n) → cells_in p ≡ cells_in (numbered segments n) + cells
    → counts'.segment_words ≡ counts.segment_words + words → counts'.open_areas ≡ counts.open_areas → counts'.held_segments ≡ counts.held_segments → counts'.cells ≡ counts.cells + cells
    → AreCounted (set segments n p) areas counts'
counted_changed segments areas counts counts' n p words cells c b w h k iw io ih ic = record {
  words = omega (arith, c.words, sum_by-set used_words segments n p vacant b);
  open_areas = io ∙ c.open_areas;
  held = let e : ◌≡◌ {A = ℕ} (cond (is_held p) 1 0) (cond (is_held (numbered segments n)) 1 0) = ap (λ t. cond t 1 0) h in omega (arith, c.held, e, sum_by-set (λ p. cond (is_held p) 1 0) segments n p vacant b);
  cells = omega (arith, c.cells, sum_by-set cells_in segments n p vacant b);
}

-- the counters are far below 2^64
pub sum_small : (f : Segment → ℕ) (segments : List Segment) → ((n : ℕ) → f (numbered segments n) ≤ OFFSETS) → sum_by f segments ≤ length segments * OFFSETS
sum_small f [] h = omega arith
sum_small f (x ∷ segments) h = omega (arith, sum_by-cons f x segments, h 0, sum_small f segments (λ n. h (suc n)))

-- an area is open from now on
pub counted_open : (segments : List Segment) (areas : List (Option ℕ)) (counts : SegmentCounts) (k n more : ℕ) → AreCounted segments areas counts → k < length areas → more + cond (is_some (get_or areas k None)) 1 0 ≡ 1
    → AreCounted segments (set areas k (Some n)) (record counts { open_areas = counts.open_areas + more })
counted_open segments areas counts k n more c b e = record {
  words = c.words;
  open_areas = omega (arith, c.open_areas, sum_by-set (λ o. cond (is_some o) 1 0) areas k (Some n) None b);
  held = c.held;
  cells = c.cells;
}
