-- What may be refused with a fault.
use Rattle.std.specs.Prelude.{Result, Ok, Err}
use Rattle.trace_types.specs.declared.fault.Fault.{Fault}

-- the next answer, from what there is, or the fault
infixl 20 ◌>>=◌
abbrev pub ◌>>=◌ : {A B : Type 0} → Result A Fault → (A → Result B Fault) → Result B Fault
(Ok a) >>= next = next a
(Err fault) >>= next = Err fault
