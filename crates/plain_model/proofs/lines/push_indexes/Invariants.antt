use Rattle.std.proofs.Common.{◌≡◌, ◌++◌, take, flat_map, codes, decimal}
use Rattle.plain_model.proofs.lines.push_indexes.Given as goal

abbrev pub invariant-loop-index : goal.invariant-loop-index
invariant-loop-index l = l.text.items ≡ l.initial.text.items ++ flat_map (λ index. codes " " ++ decimal index) (take l.index-index l.walk)
