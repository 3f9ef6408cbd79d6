-- The state of a run is well formed.
use Rattle.std.proofs.Common.{◌≡◌, ℕ, ◌+◌, ◌≤◌, true, false, List, [], ◌∷◌, length, nat_lt, cond, IsTrue, Option, Some, None, Result, Ok, Err, refl, arith}
use Rattle.std.proofs.lemmas.Bool.{ltb-false}
use Rattle.trace_types.specs.declared.command.Command.{Command}
use Rattle.trace_types.specs.declared.fault.Fault.{Fault}
use Rattle.trace_types.specs.declared.fault.Fault.TheVariants.{TooLong, TooManyLines}
use Rattle.trace_types.specs.declared.limits.Limits.{Limits}
use Rattle.trace_types.specs.States.{State, opening, Answer}
use Rattle.trace_types.specs.WellFormed.{IsWellFormed, IsNext, AllBefore, operands_fit, greatest_line}
use Rattle.trace_types.specs.Steps.{step}
use Rattle.trace_types.specs.Reading.{read}
use Rattle.trace_types.specs.Lines.{lines_of}
use Rattle.trace_types.specs.Run.{run_from, after_turn}
use Rattle.trace_types.specs.Runs.{performed, line_turn, run}
use Rattle.trace_types.proofs.Steadiness.{step_well_formed}
use Rattle.trace_types.proofs.Opening.{opening_well_formed, step_leaves_next}
use Rattle.trace_types.proofs.ReadingFits.{read_fits}

-- the new state, where there is one, is well formed, with no number above the line
abbrev pub Lasts : ℕ → Answer → Type 0
Lasts n (Ok answer) = IsWellFormed answer.0 × AllBefore answer.0 (n + 1)
Lasts n (Err fault) = Unit {0}

step_lasts : (s : State) (n : ℕ) (c : Command) → IsWellFormed s → IsNext s n → IsTrue (operands_fit c) → Lasts n (step s n c)
step_lasts s n c well next fits = by_answer (step s n c) refl
  where
    by_answer : (answer : Answer) → step s n c ≡ answer → Lasts n answer
    by_answer (Ok p) e = (step_well_formed greatest_line s p.0 n c p.1 well next next.bounded fits e, step_leaves_next s p.0 n c p.1 well next fits e)
    by_answer (Err fault) e = tt

performed_lasts : (s : State) (n : ℕ) (line : List ℕ) → IsWellFormed s → IsNext s n → (r : Result (Option Command) Fault) → read line ≡ r → Lasts n (performed step s n r)
performed_lasts s n line well next (Err fault) e = tt
performed_lasts s n line well next (Ok None) e = (well, λ m h. let below = next.above m h in omega arith)
performed_lasts s n line well next (Ok (Some c)) e = step_lasts s n c well next (read_fits line c e)

-- a line leaves a well-formed state for the next line
pub turn_lasts : (limits : Limits) (s : State) (n : ℕ) (line : List ℕ) → limits.max_lines ≤ greatest_line → 1 ≤ n → IsWellFormed s → AllBefore s n → Lasts n (line_turn step limits s n line)
turn_lasts limits s n line most counted well before =
    elim (nat_lt 1024 (length line)) as (λ b. Lasts n (cond b (Err TooLong) (cond (nat_lt limits.max_lines n) (Err TooManyLines) (performed step s n (read line))))) [
      | true ↦ tt
      | false ↦ elim (nat_lt limits.max_lines n) as (λ b. nat_lt limits.max_lines n ≡ b → Lasts n (cond b (Err TooManyLines) (performed step s n (read line)))) [
        | true ↦ λ e. tt
        | false ↦ λ e. let within = ltb-false limits.max_lines n e in performed_lasts s n line well (record { counted = counted; bounded = omega arith; above = before }) (read line) refl
      ] refl
    ]

run_lasts : (limits : Limits) (ls : List (List ℕ)) (s : State) (n : ℕ) → limits.max_lines ≤ greatest_line → 1 ≤ n → IsWellFormed s → AllBefore s n → IsWellFormed (run_from (line_turn step limits) s n ls).state
unfolding run_from
run_lasts limits [] s n most counted well before = well
run_lasts limits (l ∷ ls) s n most counted well before =
    by_answer (line_turn step limits s n l) (turn_lasts limits s n l most counted well before) (λ r w b. run_lasts limits ls r (n + 1) most (omega arith) w b)
  where
    by_answer : (answer : Answer) → Lasts n answer → ((r : State) → IsWellFormed r → AllBefore r (n + 1) → IsWellFormed (run_from (line_turn step limits) r (n + 1) ls).state)
        → IsWellFormed (after_turn s n (λ r. run_from (line_turn step limits) r (n + 1) ls) answer).state
    by_answer (Ok p) h rest = rest p.0 h.0 h.1
    by_answer (Err fault) h rest = well

pub run_well_formed : (limits : Limits) (bytes : List ℕ) → 1 ≤ limits.generations → limits.generations ≤ 7 → limits.max_lines ≤ greatest_line → IsWellFormed (run step limits bytes).state
unfolding run
run_well_formed limits bytes least most lines = run_lasts limits (lines_of bytes) (opening limits.generations) 1 lines (omega arith) (opening_well_formed limits.generations least most) (λ n h. absurd (omega (arith, h)))
