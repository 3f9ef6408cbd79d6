-- A command word is one of those of its length.
use Rattle.std.proofs.Common.{◌≡◌, ℕ, ◌==◌, true, false, List, [], ◌∷◌, length, cond, Result, refl, sym, ap, subst, ◌∙◌, eq-eqb, inl, inr}
use Rattle.std.specs.List.{filter}
use Rattle.std.specs.Str.{bytes_eq}
use Rattle.std.proofs.lemmas.Bool.{cond-true, cond-false, cases_Bool}
use Rattle.std.proofs.lemmas.Slice.Eq.{bytes_eq-Decides}
use Rattle.trace_types.specs.declared.command.Command.{Command}
use Rattle.trace_types.specs.declared.fault.Fault.{Fault}
use Rattle.trace_types.specs.Reading.{by_word}

apart : (word other : List ℕ) → (length other == length word) ≡ false → bytes_eq word other ≡ false
apart word other lengths =
    elim (cases_Bool (bytes_eq word other)) [
      | inl same ↦
          let lengths_same : (length other == length word) ≡ true = eq-eqb _ _ (ap length (sym ((bytes_eq-Decides word other).0 same))) in
          cc
      | inr different ↦ different
    ]

by_word-filter : (rows : List (List ℕ × (List (List ℕ) → Result Command Fault))) (word : List ℕ) (operands : List (List ℕ)) → by_word rows word operands ≡ by_word (filter (λ row. length row.0 == length word) rows) word operands
by_word-filter [] word operands = refl
by_word-filter (row ∷ rows) word operands =
    let others = filter (λ (r : List ℕ × (List (List ℕ) → Result Command Fault)). length r.0 == length word) rows in
    elim (cases_Bool (length row.0 == length word)) [
      | inl kept ↦
          ap (λ rest. cond (bytes_eq word row.0) (row.1 operands) rest) (by_word-filter rows word operands)
          ∙ ap (λ left. by_word left word operands) (sym (cond-true _ (row ∷ others) others kept))
      | inr dropped ↦
          cond-false _ (row.1 operands) (by_word rows word operands) (apart word row.0 dropped)
          ∙ by_word-filter rows word operands
          ∙ ap (λ left. by_word left word operands) (sym (cond-false _ (row ∷ others) others dropped))
    ]

-- a word is looked for among the words of its length alone
pub by_word-of_length : (rows : List (List ℕ × (List (List ℕ) → Result Command Fault))) (n : ℕ) (word : List ℕ) (operands : List (List ℕ)) → length word ≡ n → by_word (filter (λ row. length row.0 == n) rows) word operands ≡ by_word rows word operands
by_word-of_length rows n word operands e = subst (λ (n : ℕ). by_word (filter (λ row. length row.0 == n) rows) word operands ≡ by_word rows word operands) e (sym (by_word-filter rows word operands))
