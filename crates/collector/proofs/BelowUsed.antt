-- Registers that hold objects lie below a bound: who looks below it has found all of them, and a collection leaves it one.
use Rattle.std.proofs.Common.{◌≡◌, ℕ, ◌<◌, ◌≤◌, List, length, get_or, take, option_map, slice_get, None, Some, refl, sym, ◌∙◌, ap, inl, inr, arith}
use Rattle.std.proofs.lemmas.Bool.{cases_lt}
use Rattle.std.proofs.lemmas.List.{get_or-take, get_or_past, length-take-le}
use Rattle.std.proofs.lemmas.Option.{slice_get-get_or, slice_get_past}
use Rattle.gc_words.specs.declared.value.Value.{Value}
use Rattle.gc_words.specs.declared.value.Value.TheVariants.{Bwp, False, Fixnum, Nil, Object, True}
use Rattle.heap_store.specs.Fields.{place_in}
use Rattle.heap_store.specs.Used.{HoldNoneFrom}
use Rattle.sweep_model.specs.World.{object_in}
use Rattle.collect_model.specs.Worlds.{KeepsOthers}
use Rattle.collector.specs.Dealt.{AreRegistersDealt, NumberedValues}

place_of : (v : Value) → object_in (Some v) ≡ place_in v
place_of (Object a) = refl
place_of (Fixnum n) = refl
place_of Nil = refl
place_of True = refl
place_of False = refl
place_of Bwp = refl

-- the object in a register, as the heap and as the world of a collection have it
object_seen : (all : List Value) (r : ℕ) → object_in (slice_get all r) ≡ place_in (get_or all r Nil)
object_seen all r = elim (cases_lt r (length all)) [
  | inl inside ↦ ap object_in (slice_get-get_or all r Nil inside) ∙ place_of (get_or all r Nil)
  | inr outside ↦ ap object_in (slice_get_past all r outside) ∙ sym (ap place_in (get_or_past all r Nil outside))
]

-- the registers below the bound hold all objects
below_same : (all : List Value) (used r : ℕ) → used ≤ length all → HoldNoneFrom all used
    → object_in (slice_get (take used all) r) ≡ object_in (slice_get all r)
below_same all used r within none = elim (cases_lt r used) [
  | inl low ↦ object_seen (take used all) r ∙ (ap place_in (get_or-take used all r Nil low) ∙ sym (object_seen all r))
  | inr past ↦
      ap object_in (slice_get_past (take used all) r (omega (arith, past, length-take-le used all within)))
      ∙ sym (object_seen all r ∙ none r past)
]

-- so who deals those out deals out all
pub registers_below : (n : ℕ) (all : List Value) (used : ℕ) (owns : List NumberedValues) → used ≤ length all
    → HoldNoneFrom all used → AreRegistersDealt n (take used all) owns → AreRegistersDealt n all owns
registers_below n all used owns within none dealt = record {
  count = dealt.count;
  each = λ k low. record {
    are = (dealt.each k low).are;
    held = λ r mine. (dealt.each k low).held r mine ∙ ap (option_map Object) (below_same all used r within none);
  };
}

-- a register that held no object is as it was
pub none_after : (before after : List Value) (used : ℕ) → KeepsOthers before after → HoldNoneFrom before used
    → HoldNoneFrom after used
none_after before after used others none r past =
    let was : object_in (slice_get before r) ≡ None = object_seen before r ∙ none r past in
    sym (object_seen after r) ∙ (ap object_in (others r was) ∙ was)
