use Rattle.std.proofs.Common.{sym, ◌∙◌, ap, subst}
use Rattle.directory.specs.Tables.{word_at}
use Rattle.directory.specs.Directories.{IsWithin, owner_in}
use Rattle.directory.proofs.Telling.{found_now, sound_now, word_fits, own_word, own_words, tells_apart}
use Rattle.directory.proofs.directory.Directory.find.Goals as goal

pub returns-in_err-from-clause-own : goal.returns-in_err-from-clause-own
returns-in_err-from-clause-own c = own_words c.args.self.now _ (sound_now _ _ _ c.self.view_is c.self.invariant.1)

pub returns-in_err-from-clause-apart : goal.returns-in_err-from-clause-apart
returns-in_err-from-clause-apart c = tells_apart _ _ (sound_now _ _ _ c.self.view_is c.self.invariant.1)

pub word-requires-clause-fits : goal.word-requires-clause-fits
word-requires-clause-fits c =
    let s = sound_now _ _ _ c.self.view_is c.self.invariant.1 in
    word_fits c.args.self.now _ _ _ s (found_now _ _ _ _ _ c.self.view_is c.deref.ensures.value c.in_ok-from.ensures)

pub returns-clause-range : goal.returns-clause-range
returns-clause-range c =
    let s = sound_now _ _ _ c.self.view_is c.self.invariant.1 in
    let lies = found_now _ _ _ _ _ c.self.view_is c.deref.ensures.value c.in_ok-from.ensures in
    subst (IsWithin c.args.self.now.ranges (owner_in c.args.self.now c.args.at))
    (sym (c.word.ensures ∙ ap (word_at c.in_ok-from.from) c.offset.ensures.value)) (own_word c.args.self.now _ _ _ s lies)

pub returns-clause-own : goal.returns-clause-own
returns-clause-own c = own_words c.args.self.now _ (sound_now _ _ _ c.self.view_is c.self.invariant.1)

pub returns-clause-apart : goal.returns-clause-apart
returns-clause-apart c = tells_apart _ _ (sound_now _ _ _ c.self.view_is c.self.invariant.1)
