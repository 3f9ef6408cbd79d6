-- What a search for a newline says of the bytes that it went over.
use Rattle.std.proofs.Common.{ℕ, ◌+◌, ◌-◌, ◌<◌, ◌≤◌, List, length, take, drop, ◌∙◌, arith}
use Rattle.std.proofs.lemmas.Bool.{eq-eqb}
use Rattle.std.proofs.lemmas.List.{get_or-take}
use Rattle.memchr.specs.Find.{Nowhere, Passes, is_byte}
use Rattle.trace_types.specs.Lines.{IsPlain}
use Rattle.trace_text.proofs.Cuts.{plain-more}

-- a plain front, and n more bytes that a search went over
pub plain-searched : (b : List ℕ) (s n : ℕ) → n ≤ length b - s → IsPlain (take s b) →
    Nowhere (Passes (is_byte 10) (take (length b - s) (drop s b))) 0 n → IsPlain (take (s + n) b)
plain-searched b s n fits front none =
    plain-more b s n front
    (λ k lt is.
    let below : k < length b - s = omega arith in
    none k (omega arith) lt (eq-eqb _ 10 (get_or-take (length b - s) (drop s b) k 0 below ∙ is)))
