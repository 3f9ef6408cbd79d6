use Rattle.std.proofs.Common.{◌≡◌, ◌++◌, take, flat_map}
use Rattle.plain_model.specs.Census.{generation_line}
use Rattle.plain_model.proofs.census.push_generations.Given as goal

abbrev pub invariant-loop-generation : goal.invariant-loop-generation
invariant-loop-generation l = l.text.items ≡ l.initial.text.items ++ flat_map (generation_line l.state.graph) (take l.generation-index l.generations)
