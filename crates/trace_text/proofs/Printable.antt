-- A line that says a command has only printable bytes.
use Rattle.std.proofs.Common.{◌≡◌, ℕ, ◌-◌, ◌^◌, ◌≤◌, ◌==◌, Bool, true, false, nat_le, ◌&&◌, List, [], ◌∷◌, codes, cond, Result, Ok, Err, pos, neg_ℤ, refl, sym, subst, inl, inr, arith}
use Rattle.std.specs.List.{list_all, onto_first}
use Rattle.std.specs.Str.{bytes_eq}
use Rattle.std.proofs.lemmas.Bool.{cases_Bool, cond-true, cond-false, eqb-true, leb-true, le-leb}
use Rattle.std.specs.Cmp.Derive.{both_true}
use Rattle.std.proofs.lemmas.Slice.Eq.{bytes_eq-Decides}
use Rattle.trace_types.specs.Faults.{◌>>=◌}
use Rattle.trace_types.specs.declared.operand.Operand.{Operand}
use Rattle.trace_types.specs.declared.command.Command.{Command}
use Rattle.trace_types.specs.declared.fault.Fault.{Fault}
use Rattle.trace_types.specs.Reading.{is_digit, is_numeral, numeral_value, numeral_to, register, negated, plain, value, count, byte, thread, generation, generation_or_static, mode, register_but, value_but, one_operand, two_operands, three_operands, no_operand, registration, collection, version, table_put, by_word, grammar, command_in, fields, is_printable}

-- ---- bytes

-- each byte is printable
abbrev Prints : List ℕ → Type 0
Prints [] = Unit {0}
Prints (c ∷ cs) = (32 ≤ c) × (c ≤ 126) × Prints cs

-- each byte of each field is printable
abbrev AllPrint : List (List ℕ) → Type 0
AllPrint [] = Unit {0}
AllPrint (field ∷ others) = Prints field × AllPrint others

-- ---- what an answer Ok says

and_first : (a b : Bool) → (a && b) ≡ true → a ≡ true
and_first true b h = refl
and_first false b h = h

and_second : (a b : Bool) → (a && b) ≡ true → b ≡ true
and_second true b h = h
and_second false b h = cc

between : (least greatest c : ℕ) → (nat_le least c && nat_le c greatest) ≡ true → (least ≤ c) × (c ≤ greatest)
between least greatest c h = (leb-true _ _ (and_first _ _ h), leb-true _ _ (and_second (nat_le least c) _ h))

-- an answer of a choice is that of one side
either : {R P : Type 0} (b : Bool) (x y v : R) → (b ≡ true → x ≡ v → P) → (y ≡ v → P) → cond b x y ≡ v → P
either true x y v first second h = first refl h
either false x y v first second h = second h

-- an answer Ok of `>>=` has one before it
abbrev Given : {A B : Type 0} → Result A Fault → (A → Result B Fault) → B → Type 0
Given {A} r next b = (a : A) × (r ≡ Ok a) × (next a ≡ Ok b)

given : {A B : Type 0} (r : Result A Fault) (next : A → Result B Fault) (b : B) → (r >>= next) ≡ Ok b → Given r next b
given (Ok a) next b h = (a, refl, h)
given (Err e) next b h = absurd (no e h)
  where
    no : (e : Fault) → Err e ≡ Ok b → ⊥
    no e h = cc

-- ---- classes

-- from the test
prints_from : (text : List ℕ) → list_all is_printable text ≡ true → Prints text
prints_from [] h = tt
prints_from (c ∷ cs) h =
    let here = between 32 126 c (and_first (is_printable c) _ h) in
    (here.0, here.1, prints_from cs (and_second (is_printable c) _ h))

-- the field is this word
same_text : (field word : List ℕ) → list_all is_printable word ≡ true → bytes_eq field word ≡ true → Prints field
same_text field word printable same = subst Prints (sym ((bytes_eq-Decides field word).0 same)) (prints_from word printable)

digits_print : (cs : List ℕ) → list_all is_digit cs ≡ true → Prints cs
digits_print [] h = tt
digits_print (c ∷ cs) h =
    let here = between 48 57 c (and_first (is_digit c) _ h) in
    (omega (arith, here.0), omega (arith, here.1), digits_print cs (and_second (is_digit c) _ h))

numeral_prints : (cs : List ℕ) → is_numeral cs ≡ true → Prints cs
numeral_prints [] h = tt
numeral_prints (c ∷ cs) h =
    elim (cases_Bool (bytes_eq (c ∷ cs) (codes "0"))) [
      | inl zero ↦ same_text (c ∷ cs) (codes "0") refl zero
      | inr not_zero ↦
          let digits : (nat_le 49 c && nat_le c 57 && list_all is_digit cs) ≡ true = rw not_zero at h in
          let here = between 49 57 c (and_first (nat_le 49 c && nat_le c 57) _ digits) in
          (omega (arith, here.0), omega (arith, here.1), digits_print cs (and_second (nat_le 49 c && nat_le c 57) _ digits))
    ]

numeral_to_prints : (limit : ℕ) (fault : Fault) (field : List ℕ) (n : ℕ) → numeral_to limit fault field ≡ Ok n → Prints field
numeral_to_prints limit fault field n = either (is_numeral field && nat_le (numeral_value field) limit) (Ok (numeral_value field)) (Err fault) (Ok n)
    (λ good _. numeral_prints field (and_first _ _ good))
    (λ h. absurd (let no : ⊥ = cc in no))

register_prints : (field : List ℕ) (r : ℕ) → register field ≡ Ok r → Prints field
register_prints [] r = λ h. tt
register_prints (c ∷ number) r = either (c == 114) (numeral_to 4095 Fault.BadRegister number) (Err Fault.BadRegister) (Ok r)
    (λ is_r h. let is : c ≡ 114 = eqb-true _ _ is_r in (omega arith, omega arith, numeral_to_prints 4095 Fault.BadRegister number r h))
    (λ h. absurd (let no : ⊥ = cc in no))

-- what the class reads is printable
abbrev Reads : {A : Type 0} → (List ℕ → Result A Fault) → Type 0
Reads {A} class = (field : List ℕ) (a : A) → class field ≡ Ok a → Prints field

refused : {A P : Type 0} (fault : Fault) (a : A) → Err fault ≡ Ok a → P
refused fault a h = absurd (let no : ⊥ = cc in no)

negated_prints : Reads negated
negated_prints number v = either (bytes_eq number (codes "0")) (Err Fault.BadNumber) (numeral_to (2 ^ 60) Fault.BadNumber number >>= λ n. Ok (Operand.Fixnum (neg_ℤ (pos n)))) (Ok v)
    (λ _ h. refused _ _ h)
    (λ h. let n = given (numeral_to (2 ^ 60) Fault.BadNumber number) _ v h in numeral_to_prints (2 ^ 60) Fault.BadNumber number n.0 n.1)

plain_prints : Reads plain
plain_prints field v = either (bytes_eq field (codes "nil")) _ _ (Ok v)
    (λ is _. same_text field (codes "nil") refl is)
    (either (bytes_eq field (codes "t")) _ _ (Ok v)
    (λ is _. same_text field (codes "t") refl is)
    (either (bytes_eq field (codes "f")) _ _ (Ok v)
    (λ is _. same_text field (codes "f") refl is)
    (λ h. let n = given (numeral_to (2 ^ 60 - 1) Fault.BadNumber field) _ v h in numeral_to_prints (2 ^ 60 - 1) Fault.BadNumber field n.0 n.1)))

value_prints : Reads value
value_prints [] v = λ h. tt
value_prints (c ∷ cs) v = either (c == 114) _ _ (Ok v)
    (λ _ h. let r = given (register (c ∷ cs)) _ v h in register_prints (c ∷ cs) r.0 r.1)
    (either (c == 45) _ _ (Ok v)
    (λ is_minus h. let is : c ≡ 45 = eqb-true _ _ is_minus in (omega arith, omega arith, negated_prints cs v h))
    (plain_prints (c ∷ cs) v))

count_prints : Reads count
count_prints = numeral_to_prints 4294967295 Fault.BadNumber

byte_prints : Reads byte
byte_prints = numeral_to_prints 255 Fault.BadNumber

thread_prints : Reads thread
thread_prints = numeral_to_prints 63 Fault.BadThread

generation_prints : Reads generation
generation_prints [] g h = tt
generation_prints (c ∷ []) g h = either (nat_le 48 c && nat_le c 55) _ _ (Ok g) (λ is _. let here = between 48 55 c is in (omega (arith, here.0), omega (arith, here.1), tt)) (λ h. refused _ _ h) h
generation_prints (c ∷ d ∷ cs) g h = refused _ _ h

generation_or_static_prints : Reads generation_or_static
generation_or_static_prints field g = either (bytes_eq field (codes "s")) _ _ (Ok g)
    (λ is _. same_text field (codes "s") refl is)
    (generation_prints field g)

mode_prints : Reads mode
mode_prints field m = either (bytes_eq field (codes "p")) _ _ (Ok m)
    (λ is _. same_text field (codes "p") refl is)
    (either (bytes_eq field (codes "w")) _ _ (Ok m)
    (λ is _. same_text field (codes "w") refl is)
    (either (bytes_eq field (codes "e")) _ _ (Ok m)
    (λ is _. same_text field (codes "e") refl is)
    (λ h. refused _ _ h)))

register_but_prints : (d : ℕ) → Reads (register_but d)
register_but_prints d field r h = let first = given (register field) _ r h in register_prints field first.0 first.1

value_but_prints : (d : ℕ) → Reads (value_but d)
value_but_prints d field v h = let first = given (value field) _ v h in value_prints field first.0 first.1

-- ---- operands

-- what the operands are read from is printable
abbrev ReadAll : {T : Type 0} → (List (List ℕ) → Result T Fault) → Type 0
ReadAll {T} shape = (operands : List (List ℕ)) (t : T) → shape operands ≡ Ok t → AllPrint operands

no_operand_prints : (command : Command) → ReadAll (no_operand command)
no_operand_prints command [] t h = tt
no_operand_prints command (a ∷ others) t h = refused _ _ h

one_operand_prints : {A T : Type 0} (first : List ℕ → Result A Fault) (make : A → T) → Reads first → ReadAll (one_operand first make)
one_operand_prints first make of_first [] t h = tt
one_operand_prints first make of_first (a ∷ []) t h =
    let x = given (first a) _ t h in
    (of_first a x.0 x.1, tt)
one_operand_prints first make of_first (a ∷ b ∷ others) t h = refused _ _ h

two_operands_print : {A B T : Type 0} (first : List ℕ → Result A Fault) (second : List ℕ → Result B Fault) (make : A → B → T) → Reads first → Reads second → ReadAll (two_operands first second make)
two_operands_print first second make of_first of_second [] t h = tt
two_operands_print first second make of_first of_second (a ∷ []) t h = refused _ _ h
two_operands_print first second make of_first of_second (a ∷ b ∷ []) t h =
    let x = given (first a) _ t h in
    let y = given (second b) _ t x.2 in
    (of_first a x.0 x.1, (of_second b y.0 y.1, tt))
two_operands_print first second make of_first of_second (a ∷ b ∷ c ∷ others) t h = refused _ _ h

three_operands_print : {A B C T : Type 0} (first : List ℕ → Result A Fault) (second : List ℕ → Result B Fault) (third : List ℕ → Result C Fault) (make : A → B → C → T) → Reads first → Reads second → Reads third → ReadAll (three_operands first second third make)
three_operands_print first second third make of_first of_second of_third [] t h = tt
three_operands_print first second third make of_first of_second of_third (a ∷ []) t h = refused _ _ h
three_operands_print first second third make of_first of_second of_third (a ∷ b ∷ []) t h = refused _ _ h
three_operands_print first second third make of_first of_second of_third (a ∷ b ∷ c ∷ []) t h =
    let x = given (first a) _ t h in
    let y = given (second b) _ t x.2 in
    let z = given (third c) _ t y.2 in
    (of_first a x.0 x.1, (of_second b y.0 y.1, (of_third c z.0 z.1, tt)))
three_operands_print first second third make of_first of_second of_third (a ∷ b ∷ c ∷ d ∷ others) t h = refused _ _ h

registration_prints : ReadAll registration
registration_prints [] t h = tt
registration_prints (g ∷ []) t h = refused _ _ h
registration_prints (g ∷ o ∷ []) t h = two_operands_print register value _ register_prints value_prints (g ∷ o ∷ []) t h
registration_prints (g ∷ o ∷ r ∷ []) t h = three_operands_print register value value _ register_prints value_prints value_prints (g ∷ o ∷ r ∷ []) t h
registration_prints (g ∷ o ∷ r ∷ more ∷ others) t h = refused _ _ h

collection_prints : ReadAll collection
collection_prints [] t h = tt
collection_prints (a ∷ others) t h = three_operands_print generation generation_or_static generation_or_static _ generation_prints generation_or_static_prints generation_or_static_prints (a ∷ others) t h

version_prints : ReadAll version
version_prints [] t h = refused _ _ h
version_prints (number ∷ []) t h = either (bytes_eq number (codes "2")) _ _ (Ok t) (λ is _. (same_text number (codes "2") refl is, tt)) (λ h. refused _ _ h) h
version_prints (number ∷ more ∷ others) t h = refused _ _ h

table_put_prints : ReadAll table_put
table_put_prints [] t h = tt
table_put_prints (d ∷ []) t h = refused _ _ h
table_put_prints (d ∷ a ∷ []) t h = refused _ _ h
table_put_prints (d ∷ a ∷ m ∷ []) t h = refused _ _ h
table_put_prints (d ∷ a ∷ m ∷ k ∷ []) t h = refused _ _ h
table_put_prints (d ∷ a ∷ m ∷ k ∷ v ∷ []) t h =
    let entry = given (register d) _ t h in
    let table = given (register_but entry.0 a) _ t entry.2 in
    let made = given (mode m) _ t table.2 in
    let key = given (value_but entry.0 k) _ t made.2 in
    let datum = given (value_but entry.0 v) _ t key.2 in
    (register_prints d entry.0 entry.1, (register_but_prints entry.0 a table.0 table.1, (mode_prints m made.0 made.1, (value_but_prints entry.0 k key.0 key.1, (value_but_prints entry.0 v datum.0 datum.1, tt)))))
table_put_prints (d ∷ a ∷ m ∷ k ∷ v ∷ more ∷ others) t h = refused _ _ h

-- ---- rows

-- the word is printable, and so are the operands that it takes
abbrev RowPrints : (List ℕ × (List (List ℕ) → Result Command Fault)) → Type 0
RowPrints row = (list_all is_printable row.0 ≡ true) × ReadAll row.1

abbrev EachRowPrints : List (List ℕ × (List (List ℕ) → Result Command Fault)) → Type 0
EachRowPrints [] = Unit {0}
EachRowPrints (row ∷ rows) = RowPrints row × EachRowPrints rows

by_word_prints : (rows : List (List ℕ × (List (List ℕ) → Result Command Fault))) → EachRowPrints rows → (word : List ℕ) (operands : List (List ℕ)) (command : Command) → by_word rows word operands ≡ Ok command → AllPrint (word ∷ operands)
by_word_prints [] each word operands command = λ h. refused _ _ h
by_word_prints (row ∷ rows) each word operands command = either (bytes_eq word row.0) (row.1 operands) (by_word rows word operands) (Ok command)
    (λ same h. (same_text word row.0 each.0.0 same, each.0.1 operands command h))
    (by_word_prints rows each.1 word operands command)

infixr 4 ◌and◌
abbrev ◌and◌ : {A B : Type 0} → A → B → A × B
a and b = (a, b)

grammar_prints : EachRowPrints grammar
grammar_prints =
    (refl, one_operand_prints thread _ thread_prints)
    and (refl, three_operands_print register value value _ register_prints value_prints value_prints)
    and (refl, three_operands_print register value value _ register_prints value_prints value_prints)
    and (refl, three_operands_print register value value _ register_prints value_prints value_prints)
    and (refl, two_operands_print register value _ register_prints value_prints)
    and (refl, three_operands_print register count value _ register_prints count_prints value_prints)
    and (refl, three_operands_print register count byte _ register_prints count_prints byte_prints)
    and (refl, three_operands_print register count value _ register_prints count_prints value_prints)
    and (refl, three_operands_print register count byte _ register_prints count_prints byte_prints)
    and (refl, one_operand_prints register _ register_prints)
    and (refl, one_operand_prints register _ register_prints)
    and (refl, registration_prints)
    and (refl, two_operands_print register register _ register_prints register_prints)
    and (refl, three_operands_print register register count _ register_prints register_prints count_prints)
    and (refl, three_operands_print register count value _ register_prints count_prints value_prints)
    and (refl, two_operands_print register value _ register_prints value_prints)
    and (refl, one_operand_prints value _ value_prints)
    and (refl, one_operand_prints value _ value_prints)
    and (refl, two_operands_print byte register _ byte_prints register_prints)
    and (refl, two_operands_print byte register _ byte_prints register_prints)
    and (refl, collection_prints)
    and (refl, one_operand_prints value _ value_prints)
    and (refl, no_operand_prints _)
    and (refl, one_operand_prints value _ value_prints)
    and (refl, version_prints)
    and (refl, table_put_prints)
    and (refl, three_operands_print register register value _ register_prints register_prints value_prints)
    and (refl, two_operands_print register value _ register_prints value_prints)
    and (refl, two_operands_print register value _ register_prints value_prints)
    and (refl, one_operand_prints register _ register_prints)
    and tt

-- ---- fields

onto_first_prints : (c : ℕ) (parts : List (List ℕ)) → AllPrint (onto_first c parts) → (32 ≤ c) × (c ≤ 126) × AllPrint parts
onto_first_prints c [] h = (h.0.0, h.0.1, tt)
onto_first_prints c (part ∷ parts) h = (h.0.0, h.0.1, (h.0.2, h.1))

fields_print : (line : List ℕ) → AllPrint (fields line) → Prints line
fields_print [] h = tt
fields_print (c ∷ cs) h =
    elim (cases_Bool (c == 32)) [
      | inl space ↦
          let is : c ≡ 32 = eqb-true _ _ space in
          let rest : AllPrint ([] ∷ fields cs) = rw (cond-true _ ([] ∷ fields cs) (onto_first c (fields cs)) space) at h in
          (omega arith, omega arith, fields_print cs rest.1)
      | inr other ↦
          let rest : AllPrint (onto_first c (fields cs)) = rw (cond-false _ ([] ∷ fields cs) (onto_first c (fields cs)) other) at h in
          let parts = onto_first_prints c (fields cs) rest in
          (parts.0, parts.1, fields_print cs parts.2)
    ]

-- to the test
printable_from : (text : List ℕ) → Prints text → list_all is_printable text ≡ true
printable_from [] h = refl
printable_from (c ∷ cs) h =
    both_true (both_true (le-leb _ _ h.0) (le-leb _ _ h.1)) (printable_from cs h.2)

-- a line that says a command has only printable bytes
pub command_in-printable : (line : List ℕ) (command : Command) → command_in (fields line) ≡ Ok command → list_all is_printable line ≡ true
command_in-printable line command h = printable_from line (fields_print line (all_print (fields line) h))
  where
    all_print : (split : List (List ℕ)) → command_in split ≡ Ok command → AllPrint split
    all_print [] h = tt
    all_print (word ∷ operands) h = by_word_prints grammar grammar_prints word operands command h
