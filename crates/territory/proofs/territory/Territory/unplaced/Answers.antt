use Rattle.std.proofs.Common.{ap, sym, ◌∙◌}
use Rattle.gc_words.specs.Word.{value_of}
use Rattle.territory.proofs.territory.Territory.unplaced.Goals as goal

pub returns-then-leads_away-clause-none : goal.returns-then-leads_away-clause-none
returns-then-leads_away-clause-none c = λ b r.
    c.leads_away.ensures c.if-leads_away.true b (ap value_of c.pair_word-word.ensures.word ∙ r.refers) r.segment (r.thread ∙ sym c.pair_word-word.ensures.thread) r.inside
