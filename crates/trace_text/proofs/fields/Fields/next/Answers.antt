use Rattle.std.proofs.Common.{◌+◌, ◌∷◌, ◌==◌, sym, ◌∙◌, ap, take}
use Rattle.std.proofs.lemmas.List.{take_rest}
use Rattle.trace_types.specs.Reading.{fields}
use Rattle.trace_text.specs.Fields.{fields_left}
use Rattle.trace_text.proofs.Splitting.{slice_split-position-Some, slice_split-position-None}
use Rattle.trace_text.proofs.fields.Fields.next.Goals as goal

pub returns-in-Some : goal.returns-in-Some
returns-in-Some c =
    let text = c.in_ok-text.text.now in
    let i = c.in-Some.i in
    sym c.self.view_is
    ∙ ap fields_left c.in_ok-text.was
    ∙ slice_split-position-Some (λ b. b == 32) text i (sym c.first_space.ensures ∙ c.in-Some.is)
    ∙ ap (λ rest. take i text ∷ fields rest) (sym (take_rest text (i + 1)))

pub returns-in-None : goal.returns-in-None
returns-in-None c =
    sym c.self.view_is
    ∙ ap fields_left c.in_ok-text.was
    ∙ slice_split-position-None (λ b. b == 32) c.in_ok-text.text.now (sym c.first_space.ensures ∙ c.in-None.is)
