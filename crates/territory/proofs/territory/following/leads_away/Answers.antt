use Rattle.std.proofs.Common.{◌≡◌, ℕ, ◌+◌, ◌-◌, ◌*◌, ◌/◌, IsTrue, nat_eq, not, arith, ap, sym, ◌∙◌}
use Rattle.std.proofs.lemmas.Bool.Decides.{nat_tests}
use Rattle.territory.proofs.Turned.{offset_below, same_block}
use Rattle.territory.proofs.territory.following.leads_away.Goals as goal

apart : (x y : ℕ) → IsTrue (not (nat_eq x y)) → x ≡ y → ⊥
apart x y t e = grind (arith, nat_tests, t, e)

pub overflow_sub-first : goal.overflow_sub-first
overflow_sub-first c = omega (arith, c.encode.ensures.word, c.from.ensures, c.offset.ensures.value, offset_below c.args.object)

pub returns : goal.returns
returns c = λ t b refers segment thread inside.
    let word : c.encode.result ≡ c.args.object * 8 + 1 = c.encode.ensures.word in
    let offset : c.from.result ≡ c.offset.result = c.from.ensures in
    apart _ _ t (sym (ap (λ v. (v - 8 * c.from.result) / 4096) word ∙ same_block c.args.object b c.args.word c.from.result refers segment thread inside (offset ∙ c.offset.ensures.value)))
