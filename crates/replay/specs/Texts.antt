-- The messages.
use Rattle.std.specs.Prelude.{ℕ, List, [], ◌∷◌, ◌++◌, codes, decimal}
use Rattle.trace_types.specs.declared.fault.Fault.{Fault}
use Rattle.trace_types.specs.Words.{fault_text}

unfoldable pub refusal : ℕ → Fault → List ℕ
refusal n f = codes "heapreplay: line " ++ decimal n ++ codes ": " ++ fault_text f ++ 10 ∷ []

unfoldable pub read_message : List ℕ
read_message = codes "heapreplay: read fault" ++ 10 ∷ []

unfoldable pub write_message : List ℕ
write_message = codes "heapreplay: write fault" ++ 10 ∷ []

unfoldable pub memory_message : List ℕ
memory_message = codes "heapreplay: out of memory" ++ 10 ∷ []

unfoldable pub usage_message : List ℕ
usage_message = codes "heapreplay: usage: heapreplay [--sweepers N] [--generations G] [--max-lines N] [--workload NUMBER --count COUNT]" ++ 10 ∷ []
