-- What is left of a line that is split at spaces.
use Rattle.std.specs.Prelude.{ℕ, List, [], ◌∷◌, Option, Some, None}
use Rattle.std.specs.Borrow.{Bor}
use Rattle.trace_types.specs.Reading.{fields}

abbrev pub fields_left : Option (Bor (List ℕ)) → List (List ℕ)
fields_left None = []
fields_left (Some text) = fields text.now

-- the field, where there is one
abbrev pub fields_of : Option (Bor (List ℕ)) → List (List ℕ)
fields_of None = []
fields_of (Some field) = field.now ∷ []
