use Rattle.std.proofs.Common.{◌≡◌, take, flat_map}
use Rattle.plain_model.specs.Walks.{longer_walk}
use Rattle.plain_model.proofs.finder.longer.Given as goal

abbrev pub invariant-loop-from : goal.invariant-loop-from
invariant-loop-from l = l.found.items ≡ flat_map (λ entry. longer_walk l.state.graph l.walks entry.0) (take l.from-index l.state.graph)
