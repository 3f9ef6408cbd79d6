use Rattle.std.proofs.Common.{◌≡◌, ℕ, length, sym, ◌∙◌, ap, true, arith}
use Rattle.std.specs.Prelude.{◌==◌}
use Rattle.std.proofs.lemmas.Bool.Decides.{nat_tests}
use Rattle.territory.specs.Pools.{PoolView}
use Rattle.territory.proofs.Fromward.{none_without}
use Rattle.territory.proofs.pool.Pool.first_aside.Goals as goal

none_there : (n : ℕ) → (n == 0) ≡ true → n ≡ 0
none_there n test = grind (arith, nat_tests)

pub returns-then-is_empty : goal.returns-then-is_empty
returns-then-is_empty c =
    let none : c.self.inside.segments.len ≡ 0 = none_there _ (sym c.is_empty.ensures ∙ c.if-is_empty.true) in
    let same : length c.self.inside.segments.items ≡ c.self.inside.segments.len = omega arith in
    none_without _ c.requires (sym (ap (λ (p : PoolView). length p.segments) c.self.view_is) ∙ same ∙ none)
