use Rattle.territory.proofs.Reading.{reach_segment, at, fields_are}
use Rattle.territory.proofs.territory.Territory.fields.Goals as goal

pub segment-requires : goal.segment-requires
segment-requires c = reach_segment _ _ _ _ _ _ c.self.invariant.1 c.self.view_is c.requires c.place-segment.ensures.segment

pub fields-requires : goal.fields-requires
fields-requires c = (at _ _ _ _ _ _ _ _ c.self.invariant.1 c.self.view_is c.requires c.place-segment.ensures.segment c.place-segment.ensures.start c.segment.ensures).starts

pub returns : goal.returns
returns c = fields_are _ _ _ _ _ _ _ (at _ _ _ _ _ _ _ _ c.self.invariant.1 c.self.view_is c.requires c.place-segment.ensures.segment c.place-segment.ensures.start c.segment.ensures) c.fields.ensures
