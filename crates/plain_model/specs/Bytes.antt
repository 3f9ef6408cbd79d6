-- What a print asks of a graph.
use Rattle.std.specs.Prelude.{Bool, true, All, IsTrue, if◌then◌else◌}
use Rattle.std.specs.List.{list_all}
use Rattle.trace_types.specs.Values.{is_byte, has_bytes, Object, Graph}

-- whether the fields are numbers from 0 to 255 where the kind is one of bytes
abbrev pub are_bytes : Object → Bool
are_bytes o = if has_bytes o.kind then list_all is_byte o.fields else true

-- byte objects have bytes
abbrev pub HasBytes : Graph → Type 0
HasBytes graph = All (λ entry. IsTrue (are_bytes entry.1)) graph
