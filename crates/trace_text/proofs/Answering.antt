-- What a line says, by its first bytes and its fields.
use Rattle.std.proofs.Common.{◌≡◌, ℕ, true, false, not, List, Some, None, Ok, Err, ap, ◌∙◌}
use Rattle.std.specs.List.{list_all}
use Rattle.std.proofs.lemmas.Bool.{cond-true, cond-false}
use Rattle.trace_types.specs.Faults.{◌>>=◌}
use Rattle.trace_types.specs.declared.command.Command.{Command}
use Rattle.trace_types.specs.declared.fault.Fault.{Fault}
use Rattle.trace_types.specs.declared.fault.Fault.TheVariants.{NotText}
use Rattle.trace_types.specs.Reading.{is_skipped, is_printable, fields, command_in, read}

pub read-skipped : (line : List ℕ) → is_skipped line ≡ true → read line ≡ Ok None
unfolding read
read-skipped line skipped = cond-true _ _ _ skipped

pub read-not_text : (line : List ℕ) → is_skipped line ≡ false → list_all is_printable line ≡ false → read line ≡ Err NotText
unfolding read
read-not_text line says not_text = cond-false _ _ _ says ∙ cond-true _ _ _ (ap not not_text)

-- a line that is read has the command of its fields, or their fault
read-fields : (line : List ℕ) → is_skipped line ≡ false → list_all is_printable line ≡ true → read line ≡ (command_in (fields line) >>= λ command. Ok (Some command))
unfolding read
read-fields line says text = cond-false _ _ _ says ∙ cond-false _ _ _ (ap not text)

pub read-Ok : (line : List ℕ) (command : Command) → is_skipped line ≡ false → list_all is_printable line ≡ true → command_in (fields line) ≡ Ok command → read line ≡ Ok (Some command)
read-Ok line command says text e = read-fields line says text ∙ ap (λ r. r >>= λ command. Ok (Some command)) e

pub read-Err : (line : List ℕ) (fault : Fault) → is_skipped line ≡ false → list_all is_printable line ≡ true → command_in (fields line) ≡ Err fault → read line ≡ Err fault
read-Err line fault says text e = read-fields line says text ∙ ap (λ r. r >>= λ command. Ok (Some command)) e
