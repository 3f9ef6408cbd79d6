-- The lines of a workload are those that were generated.
use Rattle.std.proofs.Common.{◌≡◌, ℕ, zero, suc, ◌+◌, ◌*◌, ◌%◌, ◌-◌, ◌≤◌, ◌<◌, Bool, true, false, not, ◌&&◌, ◌==◌, List, [], ◌∷◌, ◌++◌, length, flat_map, cond, IsTrue, refl, ap, ◌∙◌, arith, nat_lt, nat_le, codes, decimal, append_assoc, length-append, inl, inr}
use Rattle.std.specs.List.{list_all, AllByRecursion}
use Rattle.std.specs.Fmt.{digits}
use Rattle.std.proofs.lemmas.Bool.{and_parts, cases_Bool, eq-eqb, eqb-true, eqb-false, leb-true, both_ways, not-true}
use Rattle.std.proofs.lemmas.List.Elements.{All-from_recursion}
use Rattle.trace_types.specs.Lines.{lines_of, IsPlain}
use Rattle.trace_types.specs.Workloads.{words, reg, next_state, drawn, drawn_line, drawn_from, workload_line, state_after_line, workload_from, generated}
use Rattle.trace_types.specs.Laws.{IsWorkload}
use Rattle.trace_types.proofs.Least.{each_weaker}
use Rattle.trace_types.proofs.LineLaws.{lines-empty, lines-newline}
use Rattle.trace_types.proofs.Ranges.{all_both}

-- ---- pieces of a line

abbrev is_plain : List ℕ → Bool
is_plain bs = list_all (λ b. not (b == 10)) bs

plain_from : (bs : List ℕ) → IsTrue (is_plain bs) → IsPlain bs
plain_from [] h = tt
plain_from (b ∷ bs) h =
    let parts = and_parts (not (b == 10)) (is_plain bs) h in
    ((λ e. both_ways (b == 10) (not-true (b == 10) parts.0) (eq-eqb b 10 e)), plain_from bs parts.1)

abbrev is_piece : List ℕ → Bool
is_piece w = is_plain w && nat_le (length w) 8

abbrev pub all_below : (ℕ → Bool) → ℕ → Bool
all_below test zero = true
all_below test (suc n) = test n && all_below test n

pub at_below : (test : ℕ → Bool) (k n : ℕ) → IsTrue (all_below test k) → n < k → IsTrue (test n)
at_below test zero n h less = absurd (omega arith)
at_below test (suc k) n h less =
    let parts = and_parts (test k) (all_below test k) h in
    elim (cases_Bool (n == k)) [
      | inl same ↦ ap test (eqb-true n k same) ∙ parts.0
      | inr other ↦ let e = eqb-false n k other in at_below test k n parts.1 (omega (arith, e))
    ]

small_numbers : IsTrue (all_below (λ n. is_piece (decimal n)) 68)
unfolding digits
small_numbers = refl

small_registers : IsTrue (all_below (λ n. is_piece (reg n)) 68)
unfolding digits
small_registers = refl

number_piece : (n : ℕ) → n < 68 → IsTrue (is_piece (decimal n))
number_piece n h = at_below (λ n. is_piece (decimal n)) 68 n small_numbers h

register_piece : (n : ℕ) → n < 68 → IsTrue (is_piece (reg n))
register_piece n h = at_below (λ n. is_piece (reg n)) 68 n small_registers h

-- ---- lines

record IsLine (line : List ℕ) : Type 0 where
  plain : IsTrue (is_plain line)
  short : length line ≤ 1024

abbrev Pieces : List (List ℕ) → Type 0
Pieces ws = AllByRecursion (λ w. IsTrue (is_piece w)) ws

words_plain : (ws : List (List ℕ)) → Pieces ws → IsTrue (is_plain (words ws))
words_plain [] h = refl
words_plain (w ∷ []) h = (and_parts (is_plain w) (nat_le (length w) 8) h.0).0
words_plain (w ∷ v ∷ ws) h =
    all_both (λ b. not (b == 10)) (w ++ codes " ") (words (v ∷ ws))
    (all_both (λ b. not (b == 10)) w (codes " ") (and_parts (is_plain w) (nat_le (length w) 8) h.0).0 refl)
    (words_plain (v ∷ ws) h.1)

words_long : (ws : List (List ℕ)) → Pieces ws → length (words ws) ≤ 9 * length ws
words_long [] h = omega arith
words_long (w ∷ []) h = let l = leb-true (length w) 8 (and_parts (is_plain w) (nat_le (length w) 8) h.0).1 in omega (arith, l)
words_long (w ∷ v ∷ ws) h =
    let l = leb-true (length w) 8 (and_parts (is_plain w) (nat_le (length w) 8) h.0).1 in
    let rest = words_long (v ∷ ws) h.1 in
    let whole = length-append (w ++ codes " ") (words (v ∷ ws)) in
    let front = length-append w (codes " ") in
    omega (arith, l, rest, whole, front)

words_line : (ws : List (List ℕ)) → length ws ≤ 4 → Pieces ws → IsLine (words ws)
words_line ws few h = let long = words_long ws h in record { plain = words_plain ws h; short = omega (arith, long) }

either_line : (b : Bool) (one other : List ℕ) → IsLine one → IsLine other → IsLine (cond b one other)
either_line true one other h k = h
either_line false one other h k = k

abbrev Piece : Type 0
Piece = (w : List ℕ) × IsTrue (is_piece w)

four : (a b c d : Piece) → IsLine (words (a.0 ∷ b.0 ∷ c.0 ∷ d.0 ∷ []))
four a b c d = words_line (a.0 ∷ b.0 ∷ c.0 ∷ d.0 ∷ []) (omega arith) (a.1, (b.1, (c.1, (d.1, tt))))

three : (a b c : Piece) → IsLine (words (a.0 ∷ b.0 ∷ c.0 ∷ []))
three a b c = words_line (a.0 ∷ b.0 ∷ c.0 ∷ []) (omega arith) (a.1, (b.1, (c.1, tt)))

two : (a b : Piece) → IsLine (words (a.0 ∷ b.0 ∷ []))
two a b = words_line (a.0 ∷ b.0 ∷ []) (omega arith) (a.1, (b.1, tt))

drawn_is_line : (a p q b : ℕ) → p < 64 → q < 64 → b < 64 → IsLine (drawn_line a p q b)
drawn_is_line a p q b hp hq hb =
    either_line (nat_lt a 4) _ _ (four (codes "cons", refl) rp rq rb)
    (either_line (a == 4) _ _ (four (codes "weak", refl) rp rq rb)
    (either_line (a == 5) _ _ (four (codes "eph", refl) rp rq rb)
    (either_line (nat_lt a 9) _ _ (four (codes "set", refl) rp (decimal (b % 2), number_piece (b % 2) (omega arith)) rq)
    (either_line (a == 9) _ _ (three (codes "reg", refl) (codes "r64", refl) rp)
    (either_line (a == 10) _ _ (three (codes "reg", refl) (codes "r65", refl) rp)
    (either_line (a == 11) _ _ (three (codes "take", refl) (codes "r66", refl) (reg (64 + b % 2), register_piece (64 + b % 2) (omega arith)))
    (either_line (a == 12) _ _ (two (codes "thread", refl) (decimal (b % 8), number_piece (b % 8) (omega arith)))
    (either_line (a == 13) _ _ (four (codes "vec", refl) (codes "r67", refl) (decimal b, number_piece b (omega arith)) rq)
    (either_line (a == 14) _ _ (four (codes "set", refl) rp (codes "1", refl) (codes "r67", refl))
    (either_line (nat_lt b 8) _ _ (record { plain = refl; short = omega arith }) (four (codes "cons", refl) rp rq (codes "r66", refl))))))))))))
  where
    rp : Piece
    rp = (reg p, register_piece p (omega arith))

    rq : Piece
    rq = (reg q, register_piece q (omega arith))

    rb : Piece
    rb = (reg b, register_piece b (omega arith))

draws_line : (x : ℕ) → IsLine (drawn_from x)
draws_line x =
    let first = next_state x in
    let second = next_state first in
    let third = next_state second in
    let fourth = next_state third in
    drawn_is_line (drawn first % 16) (drawn second % 64) (drawn third % 64) (drawn fourth % 64) (below (drawn second)) (below (drawn third)) (below (drawn fourth))
  where
    below : (n : ℕ) → n % 64 < 64
    below n = omega arith

line_is_line : (i x : ℕ) → IsLine (workload_line i x)
line_is_line i x = by_low (nat_le i 64) refl
  where
    later : IsLine (cond (i == 65) (codes "guard r64") (cond (i == 66) (codes "oguard r65") (drawn_from x)))
    later =
        either_line (i == 65) _ _ (record { plain = refl; short = omega arith })
        (either_line (i == 66) _ _ (record { plain = refl; short = omega arith }) (draws_line x))

    by_low : (t : Bool) → nat_le i 64 ≡ t → IsLine (cond t (words (codes "cons" ∷ reg (i - 1) ∷ decimal i ∷ codes "nil" ∷ [])) (cond (i == 65) (codes "guard r64") (cond (i == 66) (codes "oguard r65") (drawn_from x))))
    by_low true e = let l = leb-true i 64 e in four (codes "cons", refl) (reg (i - 1), register_piece (i - 1) (omega (arith, l))) (decimal i, number_piece i (omega (arith, l))) (codes "nil", refl)
    by_low false e = later

each_is_line : (count i x : ℕ) → AllByRecursion IsLine (workload_from count i x)
each_is_line zero i x = tt
each_is_line (suc zero) i x = (record { plain = refl; short = omega arith }, tt)
each_is_line (suc (suc more)) i x = (line_is_line i x, each_is_line (suc more) (suc i) (state_after_line i x))

so_many : (count i x : ℕ) → length (workload_from count i x) ≡ count
so_many zero i x = refl
so_many (suc zero) i x = refl
so_many (suc (suc more)) i x = let rest = so_many (suc more) (suc i) (state_after_line i x) in omega (arith, rest)

-- lines that are ended one by one are the lines of what they make
lines-ended : (ls : List (List ℕ)) → AllByRecursion IsLine ls → lines_of (flat_map (λ line. line ++ 10 ∷ []) ls) ≡ ls
lines-ended [] h = lines-empty
lines-ended (l ∷ ls) h =
    ap lines_of (append_assoc l (10 ∷ []) (flat_map (λ line. line ++ 10 ∷ []) ls))
    ∙ lines-newline l (flat_map (λ line. line ++ 10 ∷ []) ls) (plain_from l h.0.plain)
    ∙ ap (λ rest. l ∷ rest) (lines-ended ls h.1)

pub workload_lines : (number count : ℕ) → IsWorkload number count
unfolding generated
workload_lines number count =
    let each = each_is_line count 1 number in
    record {
      lines = lines-ended (workload_from count 1 number) each;
      so_many = so_many count 1 number;
      short = All-from_recursion _ (workload_from count 1 number) (each_weaker IsLine (λ line. length line ≤ 1024) (λ line h. h.short) (workload_from count 1 number) each);
    }

-- ---- how long a line is

short_piece : (w : List ℕ) → IsTrue (is_piece w) → length w ≤ 8
short_piece w h = leb-true (length w) 8 (and_parts (is_plain w) (nat_le (length w) 8) h).1

pub number_short : (n : ℕ) → n < 68 → length (decimal n) ≤ 8
number_short n h = short_piece (decimal n) (number_piece n h)

pub register_short : (n : ℕ) → n < 68 → length (reg n) ≤ 8
register_short n h = short_piece (reg n) (register_piece n h)

pub two_short : (a b : List ℕ) → length a ≤ 8 → length b ≤ 8 → length (words (a ∷ b ∷ [])) ≤ 1024
two_short a b h i =
    let whole = length-append (a ++ codes " ") b in
    let front = length-append a (codes " ") in
    omega (arith, whole, front)

pub three_short : (a b c : List ℕ) → length a ≤ 8 → length b ≤ 8 → length c ≤ 8 → length (words (a ∷ b ∷ c ∷ [])) ≤ 1024
three_short a b c h i j =
    let whole = length-append (a ++ codes " ") (words (b ∷ c ∷ [])) in
    let front = length-append a (codes " ") in
    let rest = length-append (b ++ codes " ") c in
    let second = length-append b (codes " ") in
    omega (arith, whole, front, rest, second)

pub four_short : (a b c d : List ℕ) → length a ≤ 8 → length b ≤ 8 → length c ≤ 8 → length d ≤ 8 → length (words (a ∷ b ∷ c ∷ d ∷ [])) ≤ 1024
four_short a b c d h i j k =
    let whole = length-append (a ++ codes " ") (words (b ∷ c ∷ d ∷ [])) in
    let front = length-append a (codes " ") in
    let rest = length-append (b ++ codes " ") (words (c ∷ d ∷ [])) in
    let second = length-append b (codes " ") in
    let last = length-append (c ++ codes " ") d in
    let third = length-append c (codes " ") in
    omega (arith, whole, front, rest, second, last, third)
