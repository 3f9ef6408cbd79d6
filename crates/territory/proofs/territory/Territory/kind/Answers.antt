use Rattle.territory.proofs.Reading.{reach_segment, at, value, shaped, addresses}
use Rattle.territory.proofs.territory.Territory.kind.Goals as goal
use Rattle.segment.specs.Segments.{Start}

pub segment-requires : goal.segment-requires
segment-requires c = reach_segment _ _ _ _ _ _ c.self.invariant.1 c.self.view_is c.requires c.place-segment.ensures.segment

pub kind-requires : goal.kind-requires
kind-requires c = (at _ _ _ _ _ _ _ _ c.self.invariant.1 c.self.view_is c.requires c.place-segment.ensures.segment c.place-segment.ensures.start c.segment.ensures).starts

pub returns-clause-value : goal.returns-clause-value
returns-clause-value c = value (λ (x : Start). x.kind) _ _ _ _ _ _ _ (at _ _ _ _ _ _ _ _ c.self.invariant.1 c.self.view_is c.requires c.place-segment.ensures.segment c.place-segment.ensures.start c.segment.ensures) c.kind.ensures

pub returns-clause-shaped : goal.returns-clause-shaped
returns-clause-shaped c = shaped _ _ _ _ _ c.self.invariant.1 c.self.view_is c.requires

pub returns-clause-addresses : goal.returns-clause-addresses
returns-clause-addresses c = addresses _ _ _ _ c.self.invariant.0 c.self.invariant.1 c.self.view_is
