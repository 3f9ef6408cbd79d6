-- A power of 4 that does not divide the number is passed.
use Rattle.std.proofs.Common.{◌≡◌, ℕ, zero, suc, ◌^◌, ◌-◌, ◌%◌, ◌<◌, ◌≤◌, cond, sym, ◌∙◌, ap, arith}
use Rattle.std.proofs.Math.Nat.{one-le-pow, pow-le-pow_right}
use Rattle.std.proofs.lemmas.Bool.{ne_eqb}
use Rattle.trace_types.specs.Collections.{greatest_power}
use Rattle.collector.proofs.arguments.greatest_power.Goals as goal

-- a power of 4 that a generation has
power_fits : (m : ℕ) → m ≤ 7 → 4 ^ m < 18446744073709551616
power_fits m few =
    let most : 4 ^ m ≤ 4 ^ 7 = pow-le-pow_right {n = 4} (omega arith) {i = m} {j = 7} few in
    omega (arith, most)

-- one that does not divide the number is passed
power_less : (n m : ℕ) → 0 < m → (n % 4 ^ m ≡ 0 → ⊥) → greatest_power n (m - 1) ≡ greatest_power n m
power_less n zero some other = absurd (omega arith)
power_less n (suc m) some other =
    let less : suc m - 1 ≡ m = omega arith in
    ap (greatest_power n) less
    ∙ sym (ap (λ b. cond b (suc m) (greatest_power n m)) (ne_eqb (n % 4 ^ suc m) 0 other))

pub pow-requires : goal.pow-requires
pow-requires c = power_fits c.from.result (omega arith)

pub nonzero_rem-number : goal.nonzero_rem-number
nonzero_rem-number c = omega (arith, one-le-pow c.from.result 4 (omega arith))

pub loop-m-preserved : goal.loop-m-preserved
loop-m-preserved c =
    let power : c.pow.result ≡ 4 ^ c.loop-m.m = c.pow.ensures ∙ ap (λ m. 4 ^ m) c.from.ensures in
    record {
      same = power_less c.args.number c.loop-m.m c.loop-m-test.true
          (λ e. c.if-number-pow-eq0.false (ap (λ d. c.args.number % d) power ∙ e))
          ∙ c.loop-m.invariant.same;
      most = omega arith;
    }
