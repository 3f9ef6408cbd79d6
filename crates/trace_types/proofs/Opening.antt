-- The state in which a trace begins is well formed, and each line leaves room for the next one.
use Rattle.std.proofs.Common.{◌≡◌, ℕ, zero, suc, ◌+◌, ◌≤◌, List, [], flat_map, replicate, IsTrue, refl, arith, Ok}
use Rattle.std.proofs.lemmas.List.{length-replicate}
use Rattle.std.proofs.lemmas.List.Elements.{All-from_recursion}
use Rattle.trace_types.specs.declared.command.Command.{Command}
use Rattle.trace_types.specs.Values.{nil, is_value, objects_in}
use Rattle.trace_types.specs.States.{State, opening, empty}
use Rattle.trace_types.specs.Rules.{◌⊆◌}
use Rattle.trace_types.specs.WellFormed.{IsWellFormed, IsWellFormedTo, IsNext, operands_fit, AllBefore, noted}
use Rattle.trace_types.specs.Steps.{step}
use Rattle.trace_types.proofs.Named.{names_whole}
use Rattle.trace_types.proofs.Ranges.{all_copies}
use Rattle.trace_types.proofs.Answering.{no_objects}
use Rattle.trace_types.proofs.Steadiness.{step_well_formed}

no_registers : (n : ℕ) → objects_in (replicate n nil) ⊆ []
no_registers zero = no_objects []
no_registers (suc n) = no_registers n

no_notes : (n : ℕ) → flat_map noted (replicate n empty) ⊆ []
no_notes zero = no_objects []
no_notes (suc n) = no_notes n

pub opening_well_formed : (oldest : ℕ) → 1 ≤ oldest → oldest ≤ 7 → IsWellFormed (opening oldest)
opening_well_formed oldest least most = record {
  ordered = refl;
  objects = All-from_recursion _ [] tt;
  in_graph = names_whole (opening oldest) [] (record {
    objects = tt;
    registers = no_registers 4096;
    locks = no_objects [];
    notes = no_notes 256;
    registrations = tt;
  });
  guardians = All-from_recursion _ [] tt;
  differ = λ n. omega arith;
  in_range = λ n h. absurd (omega (arith, h));
  lines_ordered = refl;
  registration_values = All-from_recursion _ [] tt;
  locks_ordered = refl;
  locks = All-from_recursion _ [] tt;
  registers = length-replicate 4096 nil;
  register_values = all_copies is_value 4096 nil refl;
  notes = length-replicate 256 empty;
  thread = omega arith;
  oldest = (least, most);
  version = refl;
}

-- with no number above the line before
before_line : (s : State) (line : ℕ) → IsWellFormed s → IsNext s line → IsWellFormedTo line s
before_line s line well next = record {
  ordered = well.ordered;
  objects = well.objects;
  in_graph = well.in_graph;
  guardians = well.guardians;
  differ = well.differ;
  in_range = λ n h. let below = next.above n h in ((well.in_range n h).0, omega arith);
  lines_ordered = well.lines_ordered;
  registration_values = well.registration_values;
  locks_ordered = well.locks_ordered;
  locks = well.locks;
  registers = well.registers;
  register_values = well.register_values;
  notes = well.notes;
  thread = well.thread;
  oldest = well.oldest;
  version = well.version;
}

-- after a command the next line comes after every birth and line of the state
pub step_leaves_next : (s s' : State) (line : ℕ) (c : Command) (text : List ℕ) → IsWellFormed s → IsNext s line → IsTrue (operands_fit c) → step s line c ≡ Ok (s', text) → AllBefore s' (line + 1)
step_leaves_next s s' line c text well next fits e n h =
    let after = step_well_formed line s s' line c text (before_line s line well next) next (omega arith) fits e in
    let range = (after.in_range n h).1 in
    omega arith
