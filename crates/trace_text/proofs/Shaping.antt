-- A command from the operands of a shape.
use Rattle.std.proofs.Common.{◌≡◌, ℕ, List, [], ◌∷◌, Result, Ok, Err, refl}
use Rattle.trace_types.specs.Faults.{◌>>=◌}
use Rattle.trace_types.specs.declared.fault.Fault.{Fault}
use Rattle.trace_types.specs.Reading.{three_operands}
use Rattle.trace_text.specs.Shapes.{triple}

made_later : {A B C T : Type 0} (make : A → B → C → T) (x : Result A Fault) (y : Result B Fault) (z : Result C Fault) → (x >>= λ a. y >>= λ b. z >>= λ c. Ok (make a b c)) ≡ ((x >>= λ a. y >>= λ b. z >>= λ c. Ok (triple a b c)) >>= λ values. Ok (make values.0 values.1 values.2))
made_later make (Err e) y z = refl
made_later make (Ok a) (Err e) z = refl
made_later make (Ok a) (Ok b) (Err e) = refl
made_later make (Ok a) (Ok b) (Ok c) = refl

-- what is made of three operands can be made once their values stand side by side
pub three_operands_made : {A B C T : Type 0} (first : List ℕ → Result A Fault) (second : List ℕ → Result B Fault) (third : List ℕ → Result C Fault) (make : A → B → C → T) (operands : List (List ℕ)) → three_operands first second third make operands ≡ (three_operands first second third triple operands >>= λ values. Ok (make values.0 values.1 values.2))
three_operands_made first second third make [] = refl
three_operands_made first second third make (a ∷ []) = refl
three_operands_made first second third make (a ∷ b ∷ []) = refl
three_operands_made first second third make (a ∷ b ∷ c ∷ []) = made_later make (first a) (second b) (third c)
three_operands_made first second third make (a ∷ b ∷ c ∷ d ∷ others) = refl
