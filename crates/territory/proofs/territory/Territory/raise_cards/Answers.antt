use Rattle.std.proofs.Common.{◌∙◌, ap, arith}
use Rattle.territory.specs.Territories.{TerritoryView}
use Rattle.territory.proofs.AgedTerritory.{aged_used, aged_starts, aged_segments, aged_dirty, aged_sound}
use Rattle.territory.proofs.Unheld.{between_aged}
use Rattle.territory.proofs.territory.Territory.raise_cards.Goals as goal

pub invariant_of-self : goal.invariant_of-self
invariant_of-self c = (
  c.self.invariant.0,
  c.raise_cards.ensures.settled,
  aged_used _ _ _ c.raise_cards.ensures.aged c.self.invariant.2,
  between_aged _ _ _ _ c.raise_cards.ensures.aged c.self.invariant.3,
)

pub returns-clause-starts : goal.returns-clause-starts
returns-clause-starts c = aged_starts _ _ _ _ _ _ c.self.view_is c.self.invariant.1 c.raise_cards.ensures.settled c.raise_cards.ensures.aged

pub returns-clause-segments : goal.returns-clause-segments
returns-clause-segments c = λ n. aged_segments _ _ _ _ _ _ n c.self.view_is c.self.invariant.1 (omega arith) c.raise_cards.ensures.aged

pub returns-clause-areas : goal.returns-clause-areas
returns-clause-areas c = c.raise_cards.ensures.aged.areas ∙ ap (λ (v : TerritoryView). v.areas) c.self.view_is

pub returns-clause-lists : goal.returns-clause-lists
returns-clause-lists c = c.raise_cards.ensures.aged.lists ∙ ap (λ (v : TerritoryView). v.lists) c.self.view_is

pub returns-clause-dirty : goal.returns-clause-dirty
returns-clause-dirty c = aged_dirty _ _ _ c.raise_cards.ensures.settled

pub returns-clause-sound : goal.returns-clause-sound
returns-clause-sound c = λ generation_at. aged_sound _ _ _ _ c.self.inside.targets _ c.args.cg generation_at c.self.view_is c.self.invariant.1 c.raise_cards.ensures.settled (omega arith) c.raise_cards.ensures.aged
