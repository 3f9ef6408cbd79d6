use Rattle.std.proofs.Common.{◌/◌, Some, sym, ◌∙◌, ap}
use Rattle.gc_words.specs.declared.value.Value.TheVariants.{Object}
use Rattle.directory.proofs.Turning.{parts_out, word_object}
use Rattle.directory.proofs.reach.address_in.Goals as goal

pub returns : goal.returns
returns c = word_object c.args.word c.requires ∙ ap (λ n. Some (Object n)) (sym (c.at.ensures.value ∙ parts_out (c.args.word / 8)))
