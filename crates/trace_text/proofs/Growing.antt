-- A number grows with its digits.
use Rattle.std.proofs.Common.{◌≡◌, ℕ, ◌+◌, ◌-◌, ◌*◌, ◌<◌, ◌≤◌, false, nat_le, List, [], ◌∷◌, ◌++◌, take, drop, length, get_or, ap, ◌∙◌, arith}
use Rattle.std.specs.List.{fold}
use Rattle.std.proofs.Math.Nat.{le_refl}
use Rattle.std.proofs.lemmas.Bool.{lt-leb}
use Rattle.std.proofs.lemmas.List.{take-append-drop, take_more}
use Rattle.std.proofs.lemmas.List.Sums.{fold-append, fold_push}
use Rattle.trace_types.specs.Reading.{numeral_value}

fold-with_digit-grows : (n : ℕ) (cs : List ℕ) → n ≤ fold (λ n c. 10 * n + (c - 48)) n cs
fold-with_digit-grows n [] = le_refl n
fold-with_digit-grows n (c ∷ cs) =
    let rest : 10 * n + (c - 48) ≤ fold (λ n c. 10 * n + (c - 48)) (10 * n + (c - 48)) cs = fold-with_digit-grows (10 * n + (c - 48)) cs in
    omega arith

-- a number is above a limit where that of its first digits is
numeral_value_above : (limit : ℕ) (cs : List ℕ) (i : ℕ) → limit < numeral_value (take i cs) → nat_le (numeral_value cs) limit ≡ false
numeral_value_above limit cs i above =
    let whole : numeral_value (take i cs ++ drop i cs) ≡ fold (λ n c. 10 * n + (c - 48)) (numeral_value (take i cs)) (drop i cs) = fold-append (λ n c. 10 * n + (c - 48)) 0 (take i cs) (drop i cs) in
    let more : numeral_value (take i cs) ≤ fold (λ n c. 10 * n + (c - 48)) (numeral_value (take i cs)) (drop i cs) = fold-with_digit-grows (numeral_value (take i cs)) (drop i cs) in
    let same : numeral_value (take i cs ++ drop i cs) ≡ numeral_value cs = ap numeral_value (take-append-drop i cs) in
    lt-leb (numeral_value cs) limit (omega arith)

-- so it is above a limit where the next digit takes it there
pub numeral_value_over : (limit : ℕ) (cs : List ℕ) (i : ℕ) → i < length cs → limit < 10 * numeral_value (take i cs) + (get_or cs i 0 - 48) → nat_le (numeral_value cs) limit ≡ false
numeral_value_over limit cs i here above =
    let next : numeral_value (take (i + 1) cs) ≡ 10 * numeral_value (take i cs) + (get_or cs i 0 - 48) =
    ap numeral_value (take_more cs i 0 here) ∙ fold_push (λ n c. 10 * n + (c - 48)) 0 (take i cs) (get_or cs i 0) in
    numeral_value_above limit cs (i + 1) (omega arith)
