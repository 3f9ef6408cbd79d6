-- What is read has operands without a fault of their own.
use Rattle.std.proofs.Common.{◌≡◌, ℕ, zero, suc, ◌-◌, ◌≤◌, ◌^◌, pos, neg_ℤ, Bool, true, false, not, ◌&&◌, ◌==◌, List, [], ◌∷◌, codes, bytes_eq, nat_le, cond, IsTrue, Option, Some, None, Result, Ok, Err, refl, subst, arith}
use Rattle.std.specs.List.{list_all, AllByRecursion}
use Rattle.std.proofs.lemmas.Bool.{and_parts, and_from, leb-true, le-leb, lt-ltb, not_from_false}
use Rattle.trace_types.specs.declared.operand.Operand.{Operand}
use Rattle.trace_types.specs.declared.command.Command.{Command}
use Rattle.trace_types.specs.declared.fault.Fault.{Fault}
use Rattle.trace_types.specs.declared.fault.Fault.TheVariants.{BadNumber}
use Rattle.trace_types.specs.Faults.{◌>>=◌}
use Rattle.trace_types.specs.Values.{is_fixnum}
use Rattle.trace_types.specs.WellFormed.{operand_fits, operands_fit}
use Rattle.trace_types.specs.Reading as reading
use Rattle.trace_types.specs.Reading.{numeral_to, is_numeral, numeral_value, register, value, plain, negated, count, byte, thread, generation, generation_or_static, mode, register_but, value_but, is_register, one_operand, two_operands, three_operands, no_operand, registration, collection, version, table_put, grammar, by_word, command_in, fields, is_skipped, is_printable, read}

-- what is given, where something is, has P
abbrev pub Gives : {A : Type 0} → (A → Type 0) → Result A Fault → Type 0
Gives P (Ok a) = P a
Gives P (Err fault) = Unit {0}

abbrev Any : {A : Type 0} → A → Type 0
Any a = Unit {0}

anything : {A : Type 0} (r : Result A Fault) → Gives Any r
anything (Ok a) = tt
anything (Err fault) = tt

and_then : {A B : Type 0} (P : A → Type 0) (Q : B → Type 0) (r : Result A Fault) (next : A → Result B Fault) → Gives P r → ((a : A) → P a → Gives Q (next a)) → Gives Q (r >>= next)
and_then P Q (Ok a) next h k = k a h
and_then P Q (Err fault) next h k = tt

chosen : {A : Type 0} (P : A → Type 0) (b : Bool) (one other : Result A Fault) → (b ≡ true → Gives P one) → (b ≡ false → Gives P other) → Gives P (cond b one other)
chosen P true one other h k = h refl
chosen P false one other h k = k refl

-- ---- classes of operands

numeral_gives : (limit : ℕ) (fault : Fault) (field : List ℕ) → Gives (λ n. n ≤ limit) (numeral_to limit fault field)
numeral_gives limit fault field =
    chosen _ (is_numeral field && nat_le (numeral_value field) limit) _ _
    (λ e. leb-true (numeral_value field) limit (and_parts (is_numeral field) (nat_le (numeral_value field) limit) e).1) (λ e. tt)

abbrev Fits : Operand → Type 0
Fits o = IsTrue (operand_fits o)

negative_fits : (n : ℕ) → n ≤ 2 ^ 60 → IsTrue (is_fixnum (neg_ℤ (pos n)))
negative_fits zero h = refl
negative_fits (suc n) h = lt-ltb n (2 ^ 60) (omega arith)

negated_gives : (number : List ℕ) → Gives Fits (negated number)
negated_gives number = chosen Fits (bytes_eq number (codes "0")) _ _ (λ e. tt) (λ e. and_then (λ n. n ≤ 2 ^ 60) Fits (numeral_to (2 ^ 60) BadNumber number) _ (numeral_gives (2 ^ 60) BadNumber number) negative_fits)

plain_gives : (field : List ℕ) → Gives Fits (plain field)
plain_gives field =
    chosen Fits (bytes_eq field (codes "nil")) _ _ (λ e. refl) (λ e.
    chosen Fits (bytes_eq field (codes "t")) _ _ (λ e. refl) (λ e.
    chosen Fits (bytes_eq field (codes "f")) _ _ (λ e. refl) (λ e.
    and_then (λ n. n ≤ 2 ^ 60 - 1) Fits (numeral_to (2 ^ 60 - 1) BadNumber field) _ (numeral_gives (2 ^ 60 - 1) BadNumber field) (λ n h. lt-ltb n (2 ^ 60) (omega arith)))))

pub value_gives : (field : List ℕ) → Gives Fits (value field)
value_gives [] = tt
value_gives (c ∷ cs) =
    chosen Fits (c == reading.letter_r) _ _
    (λ e. and_then Any Fits (register (c ∷ cs)) _ (anything (register (c ∷ cs))) (λ r h. refl))
    (λ e. chosen Fits (c == reading.minus) _ _ (λ e. negated_gives cs) (λ e. plain_gives (c ∷ cs)))

-- ---- so many operands

module _ {A B C : Type 0} (P : A → Type 0) (Q : B → Type 0) (R : C → Type 0) (first : List ℕ → Result A Fault) (second : List ℕ → Result B Fault) (third : List ℕ → Result C Fault) where
  abbrev Readable : Command → Type 0
  Readable c = IsTrue (operands_fit c)

  one_gives : ((field : List ℕ) → Gives P (first field)) → (make : A → Command) → ((a : A) → P a → Readable (make a)) → (operands : List (List ℕ)) → Gives Readable (one_operand first make operands)
  one_gives p make h [] = tt
  one_gives p make h (a ∷ []) = and_then P Readable (first a) _ (p a) h
  one_gives p make h (a ∷ b ∷ rest) = tt

  two_give : ((field : List ℕ) → Gives P (first field)) → ((field : List ℕ) → Gives Q (second field)) → (make : A → B → Command) → ((a : A) (b : B) → P a → Q b → Readable (make a b)) → (operands : List (List ℕ)) → Gives Readable (two_operands first second make operands)
  two_give p q make h [] = tt
  two_give p q make h (a ∷ []) = tt
  two_give p q make h (a ∷ b ∷ []) = and_then P Readable (first a) _ (p a) (λ x px. and_then Q Readable (second b) _ (q b) (λ y qy. h x y px qy))
  two_give p q make h (a ∷ b ∷ c ∷ rest) = tt

  three_give : ((field : List ℕ) → Gives P (first field)) → ((field : List ℕ) → Gives Q (second field)) → ((field : List ℕ) → Gives R (third field)) → (make : A → B → C → Command) → ((a : A) (b : B) (c : C) → P a → Q b → R c → Readable (make a b c)) → (operands : List (List ℕ)) → Gives Readable (three_operands first second third make operands)
  three_give p q r make h [] = tt
  three_give p q r make h (a ∷ []) = tt
  three_give p q r make h (a ∷ b ∷ []) = tt
  three_give p q r make h (a ∷ b ∷ c ∷ []) =
      and_then P Readable (first a) _ (p a) (λ x px. and_then Q Readable (second b) _ (q b) (λ y qy. and_then R Readable (third c) _ (r c) (λ z rz. h x y z px qy rz)))
  three_give p q r make h (a ∷ b ∷ c ∷ d ∷ rest) = tt

abbrev pub IsReadable : Command → Type 0
IsReadable c = IsTrue (operands_fit c)

any_register : (field : List ℕ) → Gives Any (register field)
any_register field = anything (register field)

any_count : (field : List ℕ) → Gives Any (count field)
any_count field = anything (count field)

bytes_give : (field : List ℕ) → Gives (λ n. n ≤ 255) (byte field)
bytes_give field = numeral_gives 255 BadNumber field

both_fit : (a b : Operand) → Fits a → Fits b → IsTrue (operand_fits a && operand_fits b)
both_fit a b h k = and_from (operand_fits a) (operand_fits b) h k

-- ---- commands that take their operands in a way of their own

registration_gives : (operands : List (List ℕ)) → Gives IsReadable (registration operands)
registration_gives [] = tt
registration_gives (g ∷ []) = tt
registration_gives (g ∷ o ∷ []) = two_give Any Fits Any register value register any_register value_gives _ (λ x y _ h. and_from (operand_fits y) true h refl) (g ∷ o ∷ [])
registration_gives (g ∷ o ∷ r ∷ []) = three_give Any Fits Fits register value value any_register value_gives value_gives _ (λ x y z _ h k. both_fit y z h k) (g ∷ o ∷ r ∷ [])
registration_gives (g ∷ o ∷ r ∷ s ∷ rest) = tt

collection_gives : (operands : List (List ℕ)) → Gives IsReadable (collection operands)
collection_gives [] = refl
collection_gives (a ∷ rest) =
    three_give Any Any Any generation generation_or_static generation_or_static (λ f. anything (generation f)) (λ f. anything (generation_or_static f)) (λ f. anything (generation_or_static f)) _ (λ x y z _ _ _. refl) (a ∷ rest)

version_gives : (operands : List (List ℕ)) → Gives IsReadable (version operands)
version_gives [] = tt
version_gives (a ∷ []) = chosen IsReadable (bytes_eq a (codes "2")) _ _ (λ e. refl) (λ e. tt)
version_gives (a ∷ b ∷ rest) = tt

register_but_gives : (d : ℕ) (field : List ℕ) → Gives (λ r. (r == d) ≡ false) (register_but d field)
register_but_gives d field = and_then Any (λ r. (r == d) ≡ false) (register field) _ (anything (register field)) (λ r _. chosen (λ r. (r == d) ≡ false) (r == d) _ _ (λ e. tt) (λ e. e))

abbrev FitsBeside : ℕ → Operand → Type 0
FitsBeside d o = Fits o × (is_register d o ≡ false)

value_but_gives : (d : ℕ) (field : List ℕ) → Gives (FitsBeside d) (value_but d field)
value_but_gives d field = and_then Fits (FitsBeside d) (value field) _ (value_gives field) (λ v h. chosen (FitsBeside d) (is_register d v) _ _ (λ e. tt) (λ e. (h, e)))

put_fits : (d t : ℕ) (k v : Operand) → (t == d) ≡ false → FitsBeside d k → FitsBeside d v → IsTrue (operand_fits k && operand_fits v && not (t == d) && not (is_register d k) && not (is_register d v))
put_fits d t k v e h i =
    and_from (operand_fits k && operand_fits v && not (t == d) && not (is_register d k)) (not (is_register d v))
    (and_from (operand_fits k && operand_fits v && not (t == d)) (not (is_register d k))
    (and_from (operand_fits k && operand_fits v) (not (t == d)) (both_fit k v h.0 i.0) (not_from_false (t == d) e))
    (not_from_false (is_register d k) h.1))
    (not_from_false (is_register d v) i.1)

table_put_gives : (operands : List (List ℕ)) → Gives IsReadable (table_put operands)
table_put_gives [] = tt
table_put_gives (a ∷ []) = tt
table_put_gives (a ∷ b ∷ []) = tt
table_put_gives (a ∷ b ∷ c ∷ []) = tt
table_put_gives (a ∷ b ∷ c ∷ d ∷ []) = tt
table_put_gives (a ∷ b ∷ c ∷ d ∷ e ∷ []) =
    and_then Any IsReadable (register a) _ (any_register a) (λ entry _.
    and_then (λ r. (r == entry) ≡ false) IsReadable (register_but entry b) _ (register_but_gives entry b) (λ table apart.
    and_then Any IsReadable (mode c) _ (anything (mode c)) (λ made _.
    and_then (FitsBeside entry) IsReadable (value_but entry d) _ (value_but_gives entry d) (λ key h.
    and_then (FitsBeside entry) IsReadable (value_but entry e) _ (value_but_gives entry e) (λ datum i.
    put_fits entry table key datum apart h i)))))
table_put_gives (a ∷ b ∷ c ∷ d ∷ e ∷ f ∷ rest) = tt

nothing_gives : (c : Command) → IsReadable c → (operands : List (List ℕ)) → Gives IsReadable (no_operand c operands)
nothing_gives c h [] = h
nothing_gives c h (a ∷ rest) = tt

-- ---- lines

abbrev Row : Type 0
Row = List ℕ × (List (List ℕ) → Result Command Fault)

abbrev IsSound : Row → Type 0
IsSound row = (operands : List (List ℕ)) → Gives IsReadable (row.1 operands)

by_word_gives : (rows : List Row) → AllByRecursion IsSound rows → (word : List ℕ) (operands : List (List ℕ)) → Gives IsReadable (by_word rows word operands)
by_word_gives [] h word operands = tt
by_word_gives (row ∷ rows) h word operands = chosen IsReadable (bytes_eq word row.0) _ _ (λ e. h.0 operands) (λ e. by_word_gives rows h.1 word operands)

values_give : (make : ℕ → Operand → Operand → Command) → ((d : ℕ) (a b : Operand) → IsTrue (operand_fits a && operand_fits b) → IsReadable (make d a b)) → (operands : List (List ℕ)) → Gives IsReadable (three_operands register value value make operands)
values_give make h = three_give Any Fits Fits register value value any_register value_gives value_gives make (λ d a b _ p q. h d a b (both_fit a b p q))

one_value_gives : (make : Operand → Command) → ((a : Operand) → Fits a → IsReadable (make a)) → (operands : List (List ℕ)) → Gives IsReadable (one_operand value make operands)
one_value_gives make h = one_gives Fits Any Any value register register value_gives make h

register_value_gives : (make : ℕ → Operand → Command) → ((d : ℕ) (a : Operand) → Fits a → IsReadable (make d a)) → (operands : List (List ℕ)) → Gives IsReadable (two_operands register value make operands)
register_value_gives make h = two_give Any Fits Any register value register any_register value_gives make (λ d a _ p. h d a p)

counted_value_gives : (make : ℕ → ℕ → Operand → Command) → ((d n : ℕ) (a : Operand) → Fits a → IsReadable (make d n a)) → (operands : List (List ℕ)) → Gives IsReadable (three_operands register count value make operands)
counted_value_gives make h = three_give Any Any Fits register count value any_register any_count value_gives make (λ d n a _ _ p. h d n a p)

counted_byte_gives : (make : ℕ → ℕ → ℕ → Command) → ((d n b : ℕ) → b ≤ 255 → IsReadable (make d n b)) → (operands : List (List ℕ)) → Gives IsReadable (three_operands register count byte make operands)
counted_byte_gives make h = three_give Any Any (λ n. n ≤ 255) register count byte any_register any_count bytes_give make (λ d n b _ _ p. h d n b p)

one_register_gives : (make : ℕ → Command) → ((d : ℕ) → IsReadable (make d)) → (operands : List (List ℕ)) → Gives IsReadable (one_operand register make operands)
one_register_gives make h = one_gives Any Any Any register register register any_register make (λ d _. h d)

grammar_gives : AllByRecursion IsSound grammar
grammar_gives = (
  one_gives (λ t. t ≤ 63) Any Any thread register register (λ f. numeral_gives 63 _ f) _ (λ t h. le-leb t 63 h),
  (
    values_give _ (λ d a b h. h),
    (
      values_give _ (λ d a b h. h),
      (
        values_give _ (λ d a b h. h),
        (
          register_value_gives _ (λ d a h. h),
          (
            counted_value_gives _ (λ d n a h. h),
            (
              counted_byte_gives _ (λ d n b h. le-leb b 255 h),
              (
                counted_value_gives _ (λ d n a h. h),
                (
                  counted_byte_gives _ (λ d n b h. le-leb b 255 h),
                  (
                    one_register_gives _ (λ d. refl),
                    (
                      one_register_gives _ (λ d. refl),
                      (
                        registration_gives,
                        (
                          two_give Any Any Any register register register any_register any_register _ (λ d g _ _. refl),
                          (
                            three_give Any Any Any register register count any_register any_register any_count _ (λ d s i _ _ _. refl),
                            (
                              counted_value_gives _ (λ d n a h. h),
                              (
                                register_value_gives _ (λ d a h. h),
                                (
                                  one_value_gives _ (λ a h. h),
                                  (
                                    one_value_gives _ (λ a h. h),
                                    (
                                      two_give Any Any Any byte register register (λ f. anything (byte f)) any_register _ (λ k r _ _. refl),
                                      (
                                        two_give Any Any Any byte register register (λ f. anything (byte f)) any_register _ (λ k r _ _. refl),
                                        (
                                          collection_gives,
                                          (
                                            one_value_gives _ (λ a h. h),
                                            (
                                              nothing_gives _ refl,
                                              (
                                                one_value_gives _ (λ a h. h),
                                                (
                                                  version_gives,
                                                  (
                                                    table_put_gives,
                                                    (
                                                      three_give Any Any Fits register register value any_register any_register value_gives _ (λ d t k _ _ h. h),
                                                      (register_value_gives _ (λ d a h. h), (register_value_gives _ (λ d a h. h), (one_register_gives _ (λ d. refl), tt))),
                                                    ),
                                                  ),
                                                ),
                                              ),
                                            ),
                                          ),
                                        ),
                                      ),
                                    ),
                                  ),
                                ),
                              ),
                            ),
                          ),
                        ),
                      ),
                    ),
                  ),
                ),
              ),
            ),
          ),
        ),
      ),
    ),
  ),
)

command_gives : (parts : List (List ℕ)) → Gives IsReadable (command_in parts)
command_gives [] = tt
command_gives (word ∷ operands) = by_word_gives grammar grammar_gives word operands

abbrev IsReadableIf : Option Command → Type 0
IsReadableIf None = Unit {0}
IsReadableIf (Some c) = IsReadable c

read_gives : (line : List ℕ) → Gives IsReadableIf (read line)
unfolding read
read_gives line =
    chosen IsReadableIf (is_skipped line) _ _ (λ e. tt) (λ e.
    chosen IsReadableIf (not (list_all is_printable line)) _ _ (λ e. tt) (λ e.
    and_then IsReadable IsReadableIf (command_in (fields line)) _ (command_gives (fields line)) (λ c h. h)))

-- a command that is read has operands without a fault of their own
pub read_fits : (line : List ℕ) (c : Command) → read line ≡ Ok (Some c) → IsTrue (operands_fit c)
read_fits line c e = subst (Gives IsReadableIf) e (read_gives line)
