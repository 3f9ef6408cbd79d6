-- A run on its way: what it has come to after some lines.
use Rattle.std.proofs.Common.{◌≡◌, ℕ, ◌+◌, ◌<◌, ◌≤◌, List, [], ◌∷◌, ◌++◌, length, Some, None, Ok, Err, refl, sym, ap, subst, ◌∙◌, append_assoc, arith}
use Rattle.std.proofs.lemmas.List.{append-nil}
use Rattle.std.proofs.lemmas.List.Elements.{All-from_recursion}
use Rattle.trace_types.specs.declared.fault.Fault.{Fault}
use Rattle.trace_types.specs.declared.limits.Limits.{Limits}
use Rattle.trace_types.specs.States.{State, opening}
use Rattle.trace_types.specs.WellFormed.{IsWellFormed, AllBefore, greatest_line}
use Rattle.trace_types.specs.Lines.{lines_of}
use Rattle.trace_types.specs.Run.{Ran, after_text, after_turn, run_from}
use Rattle.trace_types.specs.Runs.{line_turn, run}
use Rattle.trace_types.specs.Steps.{step}
use Rattle.trace_types.proofs.Opening.{opening_well_formed}
use Rattle.trace_types.proofs.Lasting.{Lasts, turn_lasts}
use Rattle.plain_model.specs.Stepping.{CountsBelow}
use Rattle.plain_model.proofs.Counts.{turn_counts}

-- the whole run is the text so far and the run over what is left
pub record Halfway (limits : Limits) (bytes : List ℕ) (s : State) (text : List ℕ) (n : ℕ) (rest : List ℕ) : Type 0 where
  pub so_far : run step limits bytes ≡ after_text text (run_from (line_turn step limits) s n (lines_of rest))
  pub well : IsWellFormed s
  pub before : AllBefore s n
  pub counts : CountsBelow n s
  pub first : 1 ≤ n
  pub within : n + length rest ≤ length bytes + 1

-- before the first line
pub begun : (limits : Limits) (bytes : List ℕ) → 1 ≤ limits.generations → limits.generations ≤ 7
    → Halfway limits bytes (opening limits.generations) [] 1 bytes
begun limits bytes least most = record {
  so_far = refl;
  well = opening_well_formed limits.generations least most;
  before = λ n h. absurd (omega (arith, h));
  counts = record { collects = omega arith; locks = All-from_recursion _ [] tt };
  first = omega arith;
  within = omega arith;
}

-- one line more
pub one_more : (limits : Limits) (bytes : List ℕ) (s : State) (text : List ℕ) (n : ℕ) (rest line others : List ℕ) (t : State) (said : List ℕ)
    → limits.max_lines ≤ greatest_line → Halfway limits bytes s text n rest → lines_of rest ≡ line ∷ lines_of others
    → length others < length rest → line_turn step limits s n line ≡ Ok (t, said) → Halfway limits bytes t (text ++ said) (n + 1) others
unfolding run_from
one_more limits bytes s text n rest line others t said most half lines shorter e =
    let lasts : Lasts n (Ok (t, said)) = subst (Lasts n) e (turn_lasts limits s n line most half.first half.well half.before) in record {
      so_far = half.so_far
          ∙ ap (λ (ls : List (List ℕ)). after_text text (run_from (line_turn step limits) s n ls)) lines
          ∙ ap (λ a. after_text text (after_turn s n (λ r. run_from (line_turn step limits) r (n + 1) (lines_of others)) a)) e
          ∙ again (run_from (line_turn step limits) t (n + 1) (lines_of others));
      well = lasts.0;
      before = lasts.1;
      counts = turn_counts limits n line s t said half.counts e;
      first = omega arith;
      within = let within = half.within in omega arith;
    }
  where
    again : (r : Ran State) → after_text text (after_text said r) ≡ after_text (text ++ said) r
    again r = rw append_assoc refl

-- a line is refused
pub refused : (limits : Limits) (bytes : List ℕ) (s : State) (text : List ℕ) (n : ℕ) (rest line others : List ℕ) (fault : Fault)
    → Halfway limits bytes s text n rest → lines_of rest ≡ line ∷ lines_of others → line_turn step limits s n line ≡ Err fault
    → record { state = s; text = text; stop = Some (n, fault) } ≡ run step limits bytes
unfolding run_from
refused limits bytes s text n rest line others fault half lines e =
    sym (half.so_far
    ∙ ap (λ (ls : List (List ℕ)). after_text text (run_from (line_turn step limits) s n ls)) lines
    ∙ ap (λ a. after_text text (after_turn s n (λ r. run_from (line_turn step limits) r (n + 1) (lines_of others)) a)) e
    ∙ ap (λ (xs : List ℕ). record { state = s; text = xs; stop = Some (n, fault) }) (append-nil text))

-- no line is left
pub ended : (limits : Limits) (bytes : List ℕ) (s : State) (text : List ℕ) (n : ℕ) (rest : List ℕ) → Halfway limits bytes s text n rest → length rest ≡ 0
    → record { state = s; text = text; stop = None } ≡ run step limits bytes
unfolding run_from lines_of
ended limits bytes s text n rest half none =
    sym (half.so_far
    ∙ ap (λ (xs : List ℕ). after_text text (run_from (line_turn step limits) s n (lines_of xs))) (nothing rest none)
    ∙ ap (λ (xs : List ℕ). record { state = s; text = xs; stop = None }) (append-nil text))
  where
    nothing : (xs : List ℕ) → length xs ≡ 0 → xs ≡ []
    nothing [] e = refl
    nothing (x ∷ xs) e = absurd (omega arith)
