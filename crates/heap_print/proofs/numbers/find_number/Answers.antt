use Rattle.std.proofs.Common.{◌≡◌, ◌++◌, ◌∷◌, [], ◌+◌, length, set, sym, subst, ◌∙◌, arith}
use Rattle.std.proofs.lemmas.List.{get_or_default}
use Rattle.heap_print.specs.Notes.{AreNoted}
use Rattle.heap_print.proofs.Noted.{note_some, note_none, number_new, place_new, number_noted}
use Rattle.heap_print.proofs.numbers.find_number.Goals as goal

pub returns-then-note-gt0-clause-numbers : goal.returns-then-note-gt0-clause-numbers
returns-then-note-gt0-clause-numbers c =
    note_some c.args.words.now.items c.args.word _ (c.index-note.ensures ∙ get_or_default _ _ _ 0 c.requires.within ∙ c.requires.note) c.if-note-gt0.true

pub returns-clause-numbers : goal.returns-clause-numbers
returns-clause-numbers c =
    c.in_ok-push.ensures.items
    ∙ sym (number_new c.args.words.now.items c.args.word _ (c.index-note.ensures ∙ get_or_default _ _ _ 0 c.requires.within ∙ c.requires.note) (omega (arith, c.if-note-gt0.false)))

pub returns-clause-number : goal.returns-clause-number
returns-clause-number c =
    let new = place_new c.args.words.now.items c.args.word _ (c.index-note.ensures ∙ get_or_default _ _ _ 0 c.requires.within ∙ c.requires.note) (omega (arith, c.if-note-gt0.false)) in
    omega (arith, new, c.len-number.ensures)

pub returns-clause-noted : goal.returns-clause-noted
returns-clause-noted c = λ blocks place within noted.
    let new = note_none c.args.words.now.items c.args.word _ (c.index-note.ensures ∙ get_or_default _ _ _ 0 c.requires.within ∙ c.requires.note) (omega (arith, c.if-note-gt0.false)) in
    let count : c.len-number.result ≡ length c.args.words.now.items = omega (arith, c.len-number.ensures) in
    subst (λ words. AreNoted words blocks (set c.args.rows.now.items c.args.place (c.len-number.result + 1))) (sym c.in_ok-push.ensures.items)
    (subst (λ n. AreNoted (c.args.words.now.items ++ c.args.word ∷ []) blocks (set c.args.rows.now.items c.args.place (n + 1))) (sym count)
    (number_noted c.args.words.now.items blocks c.args.rows.now.items c.args.word c.args.place noted c.requires.form place within c.requires.within new))
