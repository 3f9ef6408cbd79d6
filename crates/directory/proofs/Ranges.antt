-- Where ranges begin, when one more is put behind them.
use Rattle.std.proofs.Common.{◌≡◌, ℕ, ◌+◌, ◌≤◌, List, [], ◌∷◌, ◌++◌, length, take, sum, ap, arith}
use Rattle.std.proofs.lemmas.List.{take-append-le, take_all, length_push}
use Rattle.std.proofs.lemmas.List.Sums.{sum_by_push}
use Rattle.directory.specs.Directories.{start_of}

-- all ranges that were there begin as before, and the new one begins where they end
pub start_kept : (ranges : List ℕ) (size k : ℕ) → k ≤ length ranges → start_of (ranges ++ size ∷ []) k ≡ start_of ranges k
start_kept ranges size k h = ap (λ v. 1 + sum v) (take-append-le k ranges (size ∷ []) h)

pub start_end : (ranges : List ℕ) → start_of ranges (length ranges) ≡ 1 + sum ranges
start_end ranges = ap (λ v. 1 + sum v) (take_all (length ranges) ranges (omega arith))

pub start_last : (ranges : List ℕ) (size : ℕ) → start_of (ranges ++ size ∷ []) (length ranges + 1) ≡ 1 + sum ranges + size
start_last ranges size =
    let whole : take (length ranges + 1) (ranges ++ size ∷ []) ≡ ranges ++ size ∷ [] = take_all (length ranges + 1) (ranges ++ size ∷ []) (omega (arith, length_push ranges size)) in
    omega (arith, ap sum whole, sum_by_push (λ x. x) ranges size)
