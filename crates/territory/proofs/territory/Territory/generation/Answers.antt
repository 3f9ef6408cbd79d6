use Rattle.territory.proofs.Reading.{reach_segment, at, value, shaped}
use Rattle.territory.proofs.territory.Territory.generation.Goals as goal
use Rattle.segment.specs.Segments.{Start}
use Rattle.std.proofs.Common.{refl}

pub segment-requires : goal.segment-requires
segment-requires c = reach_segment _ _ _ _ _ _ c.self.invariant.1 c.self.view_is c.requires c.place-segment.ensures.segment

pub returns-clause-value : goal.returns-clause-value
returns-clause-value c = value (λ (x : Start). x.generation) _ _ _ _ _ _ _ (at _ _ _ _ _ _ _ _ c.self.invariant.1 c.self.view_is c.requires c.place-segment.ensures.segment refl c.segment.ensures) c.generation.ensures

pub returns-clause-shaped : goal.returns-clause-shaped
returns-clause-shaped c = shaped _ _ _ _ _ c.self.invariant.1 c.self.view_is c.requires
