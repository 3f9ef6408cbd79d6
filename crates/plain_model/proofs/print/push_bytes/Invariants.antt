use Rattle.std.proofs.Common.{◌≡◌, ◌++◌, ◌∷◌, take, map, flat_map}
use Rattle.trace_types.specs.Printing.{byte_text}
use Rattle.plain_model.specs.Plain.{meaning}
use Rattle.plain_model.proofs.print.push_bytes.Given as goal

abbrev pub invariant-loop-byte : goal.invariant-loop-byte
invariant-loop-byte l = l.text.items ≡ l.initial.text.items ++ flat_map (λ v. 32 ∷ byte_text v) (map meaning (take l.byte-index l.bytes))
