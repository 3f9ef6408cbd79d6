-- The lines of a workload are read as they were meant.
use Rattle.std.proofs.Common.{◌≡◌, ℕ, ◌<◌, pos, negsuc, Bool, false, not, ◌&&◌, ◌==◌, List, [], ◌∷◌, ◌++◌, IsTrue, Some, Result, Ok, Err, refl, ap, ◌∙◌, arith, codes, decimal, append_assoc, nat_le}
use Rattle.std.specs.List.{list_all, AllByRecursion}
use Rattle.std.specs.Fmt.{digits}
use Rattle.std.proofs.lemmas.Bool.{and_parts, and_from, eqb-true, leb-true, le-leb, ne_eqb, cond-false, false≢true, not_from_true}
use Rattle.std.proofs.lemmas.List.Elements.{All-from_recursion}
use Rattle.std.proofs.lemmas.List.Splits.{slice_split_at, slice_split_none}
use Rattle.trace_types.specs.declared.operand.Operand.{Operand}
use Rattle.trace_types.specs.declared.operand.Operand.TheVariants.{Fixnum, Nil, True, False}
use Rattle.trace_types.specs.declared.command.Command.{Command}
use Rattle.trace_types.specs.declared.fault.Fault.{Fault}
use Rattle.trace_types.specs.Faults.{◌>>=◌}
use Rattle.trace_types.specs.Reading.{is_between, is_printable, is_skipped, space, fields, register, value, count, thread, one_operand, two_operands, three_operands, command_in, read}
use Rattle.trace_types.specs.Workloads.{words, reg}
use Rattle.trace_types.proofs.Least.{each_weaker, all_from_list_all}
use Rattle.trace_types.proofs.Ranges.{all_both, all_weaker}
use Rattle.trace_types.proofs.Generating.{all_below, at_below}

-- ---- fields

abbrev pub is_word : List ℕ → Bool
is_word w = list_all (is_between 33 126) w

abbrev pub AreWords : List (List ℕ) → Type 0
AreWords ws = AllByRecursion (λ w. IsTrue (is_word w)) ws

no_space : (w : List ℕ) → IsTrue (is_word w) → AllByRecursion (λ b. (b == space) ≡ false) w
no_space w h = each_weaker (λ b. IsTrue (is_between 33 126 b)) (λ b. (b == space) ≡ false) (λ b is. let l = leb-true 33 b (and_parts (nat_le 33 b) (nat_le b 126) is).0 in ne_eqb b 32 (λ e. omega arith)) w (all_from_list_all (is_between 33 126) w h)

pub fields-words : (w : List ℕ) (ws : List (List ℕ)) → AreWords (w ∷ ws) → fields (words (w ∷ ws)) ≡ w ∷ ws
fields-words w [] h = slice_split_none (λ c. c == space) w (All-from_recursion _ w (no_space w h.0))
fields-words w (v ∷ ws) h =
    ap fields (append_assoc w (codes " ") (words (v ∷ ws)))
    ∙ slice_split_at (λ c. c == space) w 32 (words (v ∷ ws)) (All-from_recursion _ w (no_space w h.0)) refl
    ∙ ap (λ (rest : List (List ℕ)). w ∷ rest) (fields-words v ws h.1)

word_printable : (w : List ℕ) → IsTrue (is_word w) → IsTrue (list_all is_printable w)
word_printable w h = all_weaker (is_between 33 126) is_printable (λ b is.
    let parts = and_parts (nat_le 33 b) (nat_le b 126) is in
    let l = leb-true 33 b parts.0 in
    and_from (nat_le 32 b) (nat_le b 126) (le-leb 32 b (omega arith)) parts.1) w h

words_printable : (ws : List (List ℕ)) → AreWords ws → IsTrue (list_all is_printable (words ws))
words_printable [] h = refl
words_printable (w ∷ []) h = word_printable w h.0
words_printable (w ∷ v ∷ ws) h = all_both is_printable (w ++ codes " ") (words (v ∷ ws)) (all_both is_printable w (codes " ") (word_printable w h.0) refl) (words_printable (v ∷ ws) h.1)

-- a line of words is read as the command that they make
pub read-words : (w : List ℕ) (ws : List (List ℕ)) (c : Command) → AreWords (w ∷ ws) → is_skipped (words (w ∷ ws)) ≡ false → command_in (w ∷ ws) ≡ Ok c → read (words (w ∷ ws)) ≡ Ok (Some c)
unfolding read
read-words w ws c h first e =
    cond-false (is_skipped (words (w ∷ ws))) _ _ first
    ∙ cond-false (not (list_all is_printable (words (w ∷ ws)))) _ _ (not_from_true (list_all is_printable (words (w ∷ ws))) (words_printable (w ∷ ws) h))
    ∙ ap (λ parts. command_in parts >>= λ command. Ok (Some command)) (fields-words w ws h)
    ∙ ap (λ r. r >>= λ command. Ok (Some command)) e

-- ---- operands

pub three-ok : {A B C : Type 0} (first : List ℕ → Result A Fault) (second : List ℕ → Result B Fault) (third : List ℕ → Result C Fault) (make : A → B → C → Command) (a b c : List ℕ) (x : A) (y : B) (z : C) → first a ≡ Ok x → second b ≡ Ok y → third c ≡ Ok z → three_operands first second third make (a ∷ b ∷ c ∷ []) ≡ Ok (make x y z)
three-ok first second third make a b c x y z e f g =
    ap (λ r. r >>= λ x. second b >>= λ y. third c >>= λ z. Ok (make x y z)) e
    ∙ ap (λ r. r >>= λ y. third c >>= λ z. Ok (make x y z)) f
    ∙ ap (λ r. r >>= λ z. Ok (make x y z)) g

pub two-ok : {A B : Type 0} (first : List ℕ → Result A Fault) (second : List ℕ → Result B Fault) (make : A → B → Command) (a b : List ℕ) (x : A) (y : B) → first a ≡ Ok x → second b ≡ Ok y → two_operands first second make (a ∷ b ∷ []) ≡ Ok (make x y)
two-ok first second make a b x y e f =
    ap (λ r. r >>= λ x. second b >>= λ y. Ok (make x y)) e
    ∙ ap (λ r. r >>= λ y. Ok (make x y)) f

pub one-ok : {A : Type 0} (first : List ℕ → Result A Fault) (make : A → Command) (a : List ℕ) (x : A) → first a ≡ Ok x → one_operand first make (a ∷ []) ≡ Ok (make x)
one-ok first make a x e = ap (λ r. r >>= λ x. Ok (make x)) e

abbrev gives : ℕ → Result ℕ Fault → Bool
gives n (Ok m) = m == n
gives n (Err fault) = false

given : (n : ℕ) (r : Result ℕ Fault) → IsTrue (gives n r) → r ≡ Ok n
given n (Ok m) h = ap (λ k. Ok k) (eqb-true m n h)
given n (Err fault) h = absurd (false≢true h)

abbrev gives_fixnum : ℕ → Result Operand Fault → Bool
gives_fixnum n (Ok (Fixnum (pos m))) = m == n
gives_fixnum n (Ok (Fixnum (negsuc m))) = false
gives_fixnum n (Ok (Operand.Reg r)) = false
gives_fixnum n (Ok Nil) = false
gives_fixnum n (Ok True) = false
gives_fixnum n (Ok False) = false
gives_fixnum n (Err fault) = false

given_fixnum : (n : ℕ) (r : Result Operand Fault) → IsTrue (gives_fixnum n r) → r ≡ Ok (Fixnum (pos n))
given_fixnum n (Ok (Fixnum (pos m))) h = ap (λ k. Ok (Fixnum (pos k))) (eqb-true m n h)
given_fixnum n (Ok (Fixnum (negsuc m))) h = absurd (false≢true h)
given_fixnum n (Ok (Operand.Reg r)) h = absurd (false≢true h)
given_fixnum n (Ok Nil) h = absurd (false≢true h)
given_fixnum n (Ok True) h = absurd (false≢true h)
given_fixnum n (Ok False) h = absurd (false≢true h)
given_fixnum n (Err fault) h = absurd (false≢true h)

-- what is read of small numbers and registers, tried one by one
tried : IsTrue (all_below (λ n. is_word (decimal n) && is_word (reg n) && gives n (register (reg n)) && gives n (count (decimal n)) && gives_fixnum n (value (decimal n))) 68)
unfolding digits
tried = refl

tried_threads : IsTrue (all_below (λ n. gives n (thread (decimal n))) 64)
unfolding digits
tried_threads = refl

pub record IsSmall (n : ℕ) : Type 0 where
  pub number_word : IsTrue (is_word (decimal n))
  pub register_word : IsTrue (is_word (reg n))
  pub register_read : register (reg n) ≡ Ok n
  pub value_read : value (reg n) ≡ Ok (Operand.Reg n)
  pub count_read : count (decimal n) ≡ Ok n
  pub fixnum_read : value (decimal n) ≡ Ok (Fixnum (pos n))

pub small : (n : ℕ) → n < 68 → IsSmall n
small n h =
    let a = is_word (decimal n) in
    let b = is_word (reg n) in
    let c = gives n (register (reg n)) in
    let d = gives n (count (decimal n)) in
    let e = gives_fixnum n (value (decimal n)) in
    let all = at_below (λ n. is_word (decimal n) && is_word (reg n) && gives n (register (reg n)) && gives n (count (decimal n)) && gives_fixnum n (value (decimal n))) 68 n tried h in
    let four = and_parts (a && b && c && d) e all in
    let three = and_parts (a && b && c) d four.0 in
    let two = and_parts (a && b) c three.0 in
    let one = and_parts a b two.0 in
    let register_is = given n (register (reg n)) two.1 in
    record {
      number_word = one.0;
      register_word = one.1;
      register_read = register_is;
      value_read = ap (λ r. r >>= λ k. Ok (Operand.Reg k)) register_is;
      count_read = given n (count (decimal n)) three.1;
      fixnum_read = given_fixnum n (value (decimal n)) four.1;
    }

pub thread_read : (n : ℕ) → n < 64 → thread (decimal n) ≡ Ok n
thread_read n h = given n (thread (decimal n)) (at_below (λ n. gives n (thread (decimal n))) 64 n tried_threads h)
