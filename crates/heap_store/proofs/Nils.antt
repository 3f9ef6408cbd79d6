-- Registers that all hold nil.
use Rattle.std.proofs.Common.{◌≡◌, ℕ, ◌<◌, ◌≤◌, List, get_or, replicate, ◌∙◌, ap, inl, inr, arith}
use Rattle.std.proofs.lemmas.Bool.{cases_lt}
use Rattle.std.proofs.lemmas.List.{get_or-replicate, get_or_past, length-replicate}
use Rattle.gc_words.specs.declared.value.Value.{Value}
use Rattle.gc_words.specs.declared.value.Value.TheVariants as word
use Rattle.heap_store.specs.Fields.{place_in}
use Rattle.heap_store.specs.Used.{HoldNoneFrom}

pub nils_hold_none : (all : List Value) (n : ℕ) → all ≡ replicate n word.Nil → HoldNoneFrom all 0
nils_hold_none all n is r past = ap (λ l. place_in (get_or l r word.Nil)) is ∙ ap place_in (elim (cases_lt r n) [
  | inl low ↦ get_or-replicate n r word.Nil word.Nil low
  | inr over ↦ get_or_past (replicate n word.Nil) r word.Nil (omega (arith, over, length-replicate {A = Value} n word.Nil))
])
