-- Powers of 4.
use Rattle.std.proofs.Common.{◌≡◌, ℕ, zero, suc, ◌%◌, ◌^◌, ◌<◌, ◌==◌, ap, sym, arith}
use Rattle.std.proofs.Math.Nat.{pow-suc, mod-eq_of_lt}

pub power_positive : (m : ℕ) → 0 < 4 ^ m
power_positive zero = omega arith
power_positive (suc m) = rw (pow-suc 4 m) (omega (arith, power_positive m))

-- a power above the number divides none but 0
pub too_great : (n m : ℕ) → n < 4 ^ m → (n == 0) ≡ (n % 4 ^ m == 0)
too_great n m above = ap (λ r. r == 0) (sym (mod-eq_of_lt above))
