-- Each start lies in a segment in use.
use Rattle.std.proofs.Common.{◌≡◌, ℕ, ◌*◌, ◌/◌, ◌%◌, ◌<◌, ◌⊎◌, cond, length, Some, None, ◌∙◌, ap, sym, arith, inl, inr}
use Rattle.std.proofs.lemmas.Bool.{cases_lt}
use Rattle.std.specs.FinMap.{get}
use Rattle.gc_words.specs.Layout.{segment_of, offset_of}
use Rattle.segment.specs.Segments.{Segment, Start, IsSound, IsStart, first_at, object_at}
use Rattle.segment.proofs.Sizes.{size_pos}
use Rattle.segment.proofs.Spots.{start_in}
use Rattle.territory.specs.declared.territory.Targets.{Targets}
use Rattle.territory.specs.Territories.{SegmentView, TerritoryView, HasStart, LieInSegments, segment_at}
use Rattle.territory.specs.Pools.{PoolView, IsSettled, is_from_role, numbered, seen, territory_view}
use Rattle.territory.proofs.Numbers.{seen_at}
use Rattle.territory.proofs.Present.{IsPresent, present}

-- a segment that has not 512 words has one place for a start
start_place : (p : Segment) (k o : ℕ) → IsSound p → k < length p.births → o ≡ 2 * k
    → ((length p.words ≡ 512) × (o % 2 ≡ 0)) ⊎ (o ≡ 0)
start_place p k o h born even =
    elim (cases_lt 1 (length p.births)) [
      | inl several ↦ inl (h.single several, omega arith)
      | inr few ↦ inr (omega arith)
    ]

-- what contracts see of the segment of a start
has_start : (p : Segment) (a : ℕ) (x : Start) → IsSound p → IsStart p (offset_of a / 2)
    → x ≡ object_at p (offset_of a / 2) → offset_of a ≡ 2 * (offset_of a / 2)
    → (s : SegmentView) × (seen p ≡ Some s) × HasStart s a x
has_start p a x h start is even =
    let k : ℕ = offset_of a / 2 in
    let s : SegmentView = record {
      space = p.space;
      generation = p.generation;
      words = length p.words;
      is_from = is_from_role p.role;
      was_held = p.was_held;
      cards = p.cards;
    } in
    let within = start_in p k h.laid start.1 in (
      s,
      ap (λ b. cond b None (Some s)) start.0,
      record {
        generation = ap (λ (v : Start). v.generation) (sym is);
        inside = omega (arith, within.1, within.2, size_pos p.space (first_at p k));
        place = start_place p k (offset_of a) h within.0 even;
      },
    )

pub lie_in_segments : (thread : ℕ) (pool : PoolView) (targets : Targets) (now : TerritoryView) → IsSettled pool
    → territory_view thread pool targets ≡ now → LieInSegments now
lie_in_segments thread pool targets now s e = λ a x has.
    let p : IsPresent thread pool.segments a x = present thread pool a x s (ap (λ (v : TerritoryView). get v.starts a) e ∙ has) in
    let q : Segment = numbered pool.segments (segment_of a) in
    let h : (s : SegmentView) × (seen q ≡ Some s) × HasStart s a x = has_start q a x (s.sound (segment_of a)) p.starts p.object p.even in
    (h.0, ap (λ (v : TerritoryView). segment_at v (segment_of a)) (sym e) ∙ (seen_at pool.segments (segment_of a) ∙ h.1), h.2)
