use Rattle.std.proofs.Common.{◌≡◌, ℕ, ◌<◌, length, Option, Some, None, IsSome, IfSome, ◌∙◌, ap, arith, rules}
use Rattle.std.proofs.lemmas.Bool.Decides.{nat_tests}
use Rattle.std.specs.FinMap.{get}
use Rattle.segment.specs.Layout.{words_after}
use Rattle.segment.specs.Segments.{Start}
use Rattle.trace_types.specs.declared.kind.Kind.{Kind}
use Rattle.territory.specs.Territories.{IsShaped, words_of}
use Rattle.territory.proofs.copy_rows.has_word.Goals as goal

within : (o : Option Start) (kind : Kind) (len count index : ℕ) → IsSome o → IfSome o (λ x. kind ≡ x.kind) → IfSome o (λ x. len ≡ x.length) → IfSome o IsShaped → count ≡ words_after kind len → index < count → index < length (words_of o)
within None kind len count index s k l h c i = cc
within (Some x) kind len count index s k l h c i = omega (arith, h.its_words, c ∙ (ap (λ v. words_after v len) k ∙ ap (words_after x.kind) l))

pub returns : goal.returns
returns c = λ t.
    let less : c.from-2.result < c.words_after-count.result = grind (arith, nat_tests, t) in
    let some : IsSome (get c.args.territory.now.starts c.args.at) = search rules in
    within _ _ _ _ _ some c.kind.ensures.value c.length.ensures.value c.kind.ensures.shaped (c.words_after-count.ensures.value ∙ ap (words_after c.kind.result) c.from.ensures) (omega (arith, c.from-2.ensures))
