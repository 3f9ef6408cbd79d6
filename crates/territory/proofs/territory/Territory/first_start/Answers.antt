use Rattle.std.proofs.Common.{sym, ap, ◌∙◌}
use Rattle.std.specs.List.{slice_get}
use Rattle.territory.specs.Territories.{TerritoryView, numbers_of}
use Rattle.territory.proofs.Showing.{its_starts, listed_used, generation_none, generation_first}
use Rattle.territory.proofs.territory.Territory.first_start.Goals as goal

pub returns-in_err-n-clause-first : goal.returns-in_err-n-clause-first
returns-in_err-n-clause-first c = c.from_residual.ensures ∙ generation_none _ c.args.generation _ (c.first_of.ensures ∙ ap (λ (v : TerritoryView). slice_get (numbers_of v.lists c.args.generation) 0) c.self.view_is) c.in_err-n.was

pub returns-in_err-n-clause-all : goal.returns-in_err-n-clause-all
returns-in_err-n-clause-all c = its_starts _ _ _ _ _ c.self.view_is c.self.invariant.1 c.requires

pub first_in-requires : goal.first_in-requires
first_in-requires c = listed_used _ _ _ _ c.args.generation _ 0 c.self.view_is c.self.invariant.1 (sym c.first_of.ensures ∙ c.in_ok-n.was)

pub returns-clause-first : goal.returns-clause-first
returns-clause-first c = generation_first _ _ _ _ (ap (λ (v : TerritoryView). slice_get (numbers_of v.lists c.args.generation) 0) (sym c.self.view_is) ∙ (sym c.first_of.ensures ∙ c.in_ok-n.was)) c.first_in.ensures.some c.first_in.ensures.first

pub returns-clause-all : goal.returns-clause-all
returns-clause-all c = its_starts _ _ _ _ _ c.self.view_is c.self.invariant.1 c.requires
