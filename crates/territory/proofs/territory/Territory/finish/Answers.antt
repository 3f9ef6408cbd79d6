use Rattle.std.proofs.Common.{ap, refl, sym, ◌∙◌}
use Rattle.std.specs.FinMap.{get}
use Rattle.gc_words.specs.Layout.{segment_of}
use Rattle.territory.specs.Territories.{TerritoryView, segment_at}
use Rattle.territory.specs.Finishing.{start_finished, when_finished}
use Rattle.territory.proofs.Marks.{holdable}
use Rattle.territory.proofs.Reading.{addresses}
use Rattle.territory.proofs.FinishedTerritory.{ended, ended_starts, ended_segments, ended_lists, ended_dirty, ended_sound, ended_used, ended_between}
use Rattle.territory.proofs.territory.Territory.finish.Goals as goal

pub hold-requires-clause-holdable : goal.hold-requires-clause-holdable
hold-requires-clause-holdable c = holdable _ _ _ c.self.inside.pool _ c.self.view_is c.self.invariant.1 c.requires

pub returns-clause-starts : goal.returns-clause-starts
returns-clause-starts c = λ a. ended_starts _ _ _ _ _ _ _ a (ended c.self.inside.thread c.self.inside.targets c.args.self.now c.self.inside.pool c.hold.new.self c.finish.new.self c.args.held.now c.self.view_is c.self.invariant.1 c.self.invariant.3 c.requires c.hold.ensures.settled c.hold.ensures.segments c.hold.ensures.rest c.finish.ensures.settled c.finish.ensures.finished) ∙ ap (λ t. start_finished t c.args.held.now a (segment_at c.args.self.now (segment_of a)) (get c.args.self.now.starts a)) (ap (λ (v : TerritoryView). v.targets) c.self.view_is)

pub returns-clause-segments : goal.returns-clause-segments
returns-clause-segments c = λ n. ended_segments _ _ _ _ _ _ _ n (ended c.self.inside.thread c.self.inside.targets c.args.self.now c.self.inside.pool c.hold.new.self c.finish.new.self c.args.held.now c.self.view_is c.self.invariant.1 c.self.invariant.3 c.requires c.hold.ensures.settled c.hold.ensures.segments c.hold.ensures.rest c.finish.ensures.settled c.finish.ensures.finished) ∙ ap (λ t. when_finished t c.args.held.now n (segment_at c.args.self.now n)) (ap (λ (v : TerritoryView). v.targets) c.self.view_is)

pub returns-clause-lists : goal.returns-clause-lists
returns-clause-lists c = ended_lists _ _ _ _ _ _ _ (ended c.self.inside.thread c.self.inside.targets c.args.self.now c.self.inside.pool c.hold.new.self c.finish.new.self c.args.held.now c.self.view_is c.self.invariant.1 c.self.invariant.3 c.requires c.hold.ensures.settled c.hold.ensures.segments c.hold.ensures.rest c.finish.ensures.settled c.finish.ensures.finished) (ap (λ (v : TerritoryView). v.targets) (sym c.self.view_is))

pub returns-clause-dirty : goal.returns-clause-dirty
returns-clause-dirty c = ended_dirty _ _ _ _ _ _ _ (ended c.self.inside.thread c.self.inside.targets c.args.self.now c.self.inside.pool c.hold.new.self c.finish.new.self c.args.held.now c.self.view_is c.self.invariant.1 c.self.invariant.3 c.requires c.hold.ensures.settled c.hold.ensures.segments c.hold.ensures.rest c.finish.ensures.settled c.finish.ensures.finished)

pub returns-clause-sound : goal.returns-clause-sound
returns-clause-sound c = λ generation_at. ended_sound _ _ _ _ _ _ _ generation_at (ended c.self.inside.thread c.self.inside.targets c.args.self.now c.self.inside.pool c.hold.new.self c.finish.new.self c.args.held.now c.self.view_is c.self.invariant.1 c.self.invariant.3 c.requires c.hold.ensures.settled c.hold.ensures.segments c.hold.ensures.rest c.finish.ensures.settled c.finish.ensures.finished) (ap (λ (v : TerritoryView). v.targets) (sym c.self.view_is))

pub invariant_of-self : goal.invariant_of-self
invariant_of-self c = (c.self.invariant.0, c.finish.ensures.settled, ended_used _ _ _ _ _ _ _ (ended c.self.inside.thread c.self.inside.targets c.args.self.now c.self.inside.pool c.hold.new.self c.finish.new.self c.args.held.now c.self.view_is c.self.invariant.1 c.self.invariant.3 c.requires c.hold.ensures.settled c.hold.ensures.segments c.hold.ensures.rest c.finish.ensures.settled c.finish.ensures.finished) c.self.invariant.2, ended_between _ _ _ _ _ _ _ (ended c.self.inside.thread c.self.inside.targets c.args.self.now c.self.inside.pool c.hold.new.self c.finish.new.self c.args.held.now c.self.view_is c.self.invariant.1 c.self.invariant.3 c.requires c.hold.ensures.settled c.hold.ensures.segments c.hold.ensures.rest c.finish.ensures.settled c.finish.ensures.finished) c.self.invariant.3)

pub returns-clause-addresses : goal.returns-clause-addresses
returns-clause-addresses c = addresses _ _ c.self.inside.targets _ c.self.invariant.0 c.finish.ensures.settled refl
