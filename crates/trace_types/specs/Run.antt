-- What a run over a list of lines is, whatever a line does.
use Rattle.std.specs.Prelude.{ℕ, ◌+◌, List, [], ◌∷◌, ◌++◌, Option, Some, None, Result, Ok, Err}
use Rattle.trace_types.specs.declared.fault.Fault.{Fault}

-- where a run stands: its state, its text, and the line and the fault at which it ended, if it did
pub record Ran (S : Type 0) : Type 0 where
  pub state : S
  pub text : List ℕ
  pub stop : Option (ℕ × Fault)

-- a run that has gone through its lines
abbrev pub all : {S : Type 0} → S → List ℕ → Ran S
all s text = record { state = s; text = text; stop = None }

-- the same with text before it
abbrev pub after_text : {S : Type 0} → List ℕ → Ran S → Ran S
after_text t r = record { state = r.state; text = t ++ r.text; stop = r.stop }

-- What a line does: a new state and a text, or a fault.
abbrev pub Turn : Type 0 → Type 0
Turn S = S → ℕ → List ℕ → Result (S × List ℕ) Fault

-- the run after what a line did, from the state before it
abbrev pub after_turn : {S : Type 0} → S → ℕ → (S → Ran S) → Result (S × List ℕ) Fault → Ran S
after_turn s n rest (Ok p) = after_text p.1 (rest p.0)
after_turn s n rest (Err f) = record { state = s; text = []; stop = Some (n, f) }

-- The run from a state at the line of a number. It ends at the first line with a fault.
unfoldable pub run_from : {S : Type 0} → Turn S → S → ℕ → List (List ℕ) → Ran S
run_from turn s n [] = all s []
run_from turn s n (l ∷ ls) = after_turn s n (λ r. run_from turn r (n + 1) ls) (turn s n l)
