use Rattle.std.proofs.Common.{refl, ◌∙◌, ap}
use Rattle.gc_words.specs.Word.{word_of}
use Rattle.gc_words.specs.declared.value.Value.TheVariants.{Object}
use Rattle.territory.proofs.Turned.{start_turned}
use Rattle.territory.proofs.pool.following.start_of.Goals as goal

pub returns-then-start-lt256-clause-object : goal.returns-then-start-lt256-clause-object
returns-then-start-lt256-clause-object c =
    start_turned c.args.word c.encode-first.result _ _ c.args.thread c.args.segment c.ranges.word.fits c.requires.thread_in c.requires.segment_in
    (c.encode-first.ensures.word ∙ ap (λ a. word_of (Object a)) c.at.ensures.value) refl c.rotate_right-start.ensures c.if-start-lt256.true
