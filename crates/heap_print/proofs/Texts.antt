-- The lines of a census, one after the other.
use Rattle.std.proofs.Common.{◌≡◌, ◌≤◌, ◌<◌, ℕ, suc, ◌+◌, List, ◌∷◌, ◌++◌, map, drop, length, get_or, sym, ap, subst, ◌∙◌, arith, append-nil}
use Rattle.std.proofs.Math.Seq.{drop-cons}
use Rattle.std.proofs.lemmas.List.{length-map, append_assoc, get_or-map, drop_all}
use Rattle.trace_types.specs.Printing.{census_lines}
use Rattle.heap_print.specs.Lines.{count_line}
use Rattle.heap_print.specs.declared.counts.Counted.{Counted}

abbrev pair_of : Counted → ℕ × ℕ
pair_of c = (c.objects, c.words)

cut : (pairs : List (ℕ × ℕ)) (g : ℕ) (p : ℕ × ℕ) → g < length pairs → get_or pairs g p ≡ p → census_lines g (drop g pairs) ≡ count_line g p.0 p.1 ++ census_lines (g + 1) (drop (g + 1) pairs)
cut pairs g p within is =
    let one_more : suc g ≡ g + 1 = omega arith in
    ap (census_lines g) (drop-cons pairs g p within ∙ ap (λ q. q ∷ drop (suc g) pairs) is)
    ∙ ap (λ n. count_line g p.0 p.1 ++ census_lines n (drop n pairs)) one_more

-- the line of one generation more
pub lines_more : (counts : List Counted) (pairs : List (ℕ × ℕ)) (g k : ℕ) (d : Counted) (front text whole : List ℕ) → map pair_of counts ≡ pairs →
    g < length counts → k ≡ g → front ++ census_lines g (drop g pairs) ≡ whole →
    text ≡ front ++ count_line g (get_or counts k d).objects (get_or counts k d).words →
    text ++ census_lines (g + 1) (drop (g + 1) pairs) ≡ whole
lines_more counts pairs g k d front text whole seen within same before wrote =
    let c = get_or counts k d in
    ap (λ t. t ++ census_lines (g + 1) (drop (g + 1) pairs)) wrote
    ∙ append_assoc front (count_line g c.objects c.words) (census_lines (g + 1) (drop (g + 1) pairs))
    ∙ ap (λ t. front ++ t) (sym (cut pairs g (pair_of c) (subst (λ n. g < n) (sym (length-map counts pair_of) ∙ ap length seen) within)
    (ap (λ ps. get_or ps g (pair_of c)) (sym seen) ∙ get_or-map pair_of counts g d (pair_of c) within ∙ ap (λ n. pair_of (get_or counts n d)) (sym same))))
    ∙ before

-- all lines
pub lines_all : (counts : List Counted) (pairs : List (ℕ × ℕ)) (g : ℕ) (text whole : List ℕ) → map pair_of counts ≡ pairs →
    length counts ≤ g → text ++ census_lines g (drop g pairs) ≡ whole → text ≡ whole
lines_all counts pairs g text whole seen past h =
    sym (append-nil text)
    ∙ ap (λ ps. text ++ census_lines g ps) (sym (drop_all g pairs (subst (λ n. n ≤ g) (sym (length-map counts pair_of) ∙ ap length seen) past)))
    ∙ h
