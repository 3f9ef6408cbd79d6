use Rattle.std.proofs.Common.{refl}
use Rattle.territory.proofs.Reading.{addresses, all_shaped}
use Rattle.territory.proofs.Lying.{lie_in_segments}
use Rattle.territory.proofs.Unheld.{between_begun}
use Rattle.territory.proofs.BegunTerritory.{begun_used, begun_starts, begun_segments, begun_areas, begun_lists, begun_dirty, begun_sound}
use Rattle.territory.proofs.territory.Territory.begin.Goals as goal

pub invariant_of-self : goal.invariant_of-self
invariant_of-self c = (c.self.invariant.0, c.begin.ensures.settled, begun_used _ _ _ c.begin.ensures.begun c.self.invariant.2, between_begun _ _ _ _ _ c.begin.ensures.begun c.requires.generations c.self.invariant.3)

pub returns-clause-starts : goal.returns-clause-starts
returns-clause-starts c = begun_starts _ _ _ _ _ _ c.self.view_is c.self.invariant.1 c.begin.ensures.settled c.begin.ensures.begun

pub returns-clause-segments : goal.returns-clause-segments
returns-clause-segments c = λ n. begun_segments _ _ _ _ _ c.args.targets.cg n c.self.view_is c.begin.ensures.begun

pub returns-clause-areas : goal.returns-clause-areas
returns-clause-areas c = λ k. begun_areas _ _ _ _ _ c.args.targets.cg k c.self.view_is c.begin.ensures.begun

pub returns-clause-lists : goal.returns-clause-lists
returns-clause-lists c = begun_lists _ _ _ _ _ c.args.targets.cg c.self.view_is c.begin.ensures.begun

pub returns-clause-dirty : goal.returns-clause-dirty
returns-clause-dirty c = begun_dirty _ _ _ _ _ _ c.self.view_is c.begin.ensures.begun

pub returns-clause-sound : goal.returns-clause-sound
returns-clause-sound c = λ generation_at. begun_sound _ _ _ _ c.args.targets _ c.args.targets.cg generation_at c.self.view_is c.self.invariant.1 c.begin.ensures.settled c.begin.ensures.begun

pub returns-clause-addresses : goal.returns-clause-addresses
returns-clause-addresses c = addresses _ _ c.args.targets _ c.self.invariant.0 c.begin.ensures.settled refl

pub returns-clause-shaped : goal.returns-clause-shaped
returns-clause-shaped c = all_shaped _ _ c.args.targets _ c.begin.ensures.settled refl

pub returns-clause-lie : goal.returns-clause-lie
returns-clause-lie c = lie_in_segments _ _ c.args.targets _ c.begin.ensures.settled refl
