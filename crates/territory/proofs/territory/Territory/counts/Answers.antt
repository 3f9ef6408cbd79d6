use Rattle.std.proofs.Common.{ap, ◌∙◌}
use Rattle.std.specs.FinMap as map
use Rattle.std.specs.List.{sum_by, count_by}
use Rattle.territory.specs.declared.counts.SegmentCounts.{SegmentCounts}
use Rattle.territory.specs.Territories.{TerritoryView, words_in, counts_as_held, is_cell}
use Rattle.territory.proofs.Slots.{all_small}
use Rattle.territory.proofs.Cells.{words_told, held_told, cells_told}
use Rattle.territory.proofs.territory.Territory.counts.Goals as goal

pub returns-clause-words : goal.returns-clause-words
returns-clause-words c = ap (λ (v : SegmentCounts). v.segment_words) c.counts.ensures ∙ (c.self.invariant.1.counted.words ∙ (words_told c.self.inside.pool.segments ∙ ap (λ (v : TerritoryView). sum_by words_in v.segments) c.self.view_is))

pub returns-clause-held : goal.returns-clause-held
returns-clause-held c = ap (λ (v : SegmentCounts). v.held_segments) c.counts.ensures ∙ (c.self.invariant.1.counted.held ∙ (held_told c.self.inside.pool.segments ∙ ap (λ (v : TerritoryView). count_by counts_as_held v.segments) c.self.view_is))

pub returns-clause-cells : goal.returns-clause-cells
returns-clause-cells c = ap (λ (v : SegmentCounts). v.cells) c.counts.ensures ∙ (c.self.invariant.1.counted.cells ∙ (cells_told _ c.self.inside.pool.segments (all_small c.self.inside.pool.segments c.self.invariant.1.sound) ∙ ap (λ (v : TerritoryView). count_by (λ x. is_cell x.kind) (map.values v.starts)) c.self.view_is))
