use Rattle.directory.proofs.Telling.{own_words, sound_now, tells_apart}
use Rattle.directory.proofs.directory.Directory.range.Goals as goal

pub returns-clause-own : goal.returns-clause-own
returns-clause-own c = own_words c.args.self.now _ (sound_now _ _ _ c.self.view_is c.self.invariant.1)

pub returns-clause-apart : goal.returns-clause-apart
returns-clause-apart c = tells_apart _ _ (sound_now _ _ _ c.self.view_is c.self.invariant.1)
