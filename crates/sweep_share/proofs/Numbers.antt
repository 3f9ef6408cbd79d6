-- Where a register stands among a sweeper's registers.
use Rattle.std.proofs.Common.{◌≡◌, ◌≢◌, ℕ, zero, suc, ◌%◌, ◌<◌, ◌≤◌, ◌==◌, false, cond, List, [], ◌∷◌, length, set, Option, None, Some, IsSome, refl, sym, ap, subst, ◌∙◌, inl, inr, arith, get_or-set_same, get_or-set_other}
use Rattle.std.specs.FinMap.{find}
use Rattle.std.specs.Ordering.{nat_cmp}
use Rattle.std.specs.Cmp.{unsigned_tied}
use Rattle.std.proofs.lemmas.Bool.{cases_Bool, cases_eq, cases_lt, eq-eqb, eqb-true}
use Rattle.std.proofs.lemmas.List.{length-set}
use Rattle.std.proofs.lemmas.Option.{none-some, same_Some}
use Rattle.gc_words.specs.declared.value.Value.{Value}
use Rattle.gc_words.specs.declared.value.Value.TheVariants.{Nil, Object}
use Rattle.sweep_share.specs.Registers.{AreRegistersOf, IsSet, RegistersView, item_at, register_in}

-- ---- what a list has for a number

-- the first item has it, or one of the others
pub find_first : (r : ℕ) (item : ℕ × Value) (items : List (ℕ × Value))
    → find nat_cmp r (item ∷ items) ≡ cond (r == item.0) (Some item.1) (find nat_cmp r items)
find_first r item items = ap (λ b. cond b (Some item.1) (find nat_cmp r items)) (unsigned_tied r item.0)

pub find_here : (r : ℕ) (item : ℕ × Value) (items : List (ℕ × Value)) → r ≡ item.0
    → find nat_cmp r (item ∷ items) ≡ Some item.1
find_here r item items is =
    find_first r item items ∙ ap (λ b. cond b (Some item.1) (find nat_cmp r items)) (eq-eqb r item.0 is)

differs : (q r : ℕ) → q ≢ r → (q == r) ≡ false
differs q r ne = elim (cases_Bool (q == r)) [
  | inl same ↦ absurd (ne (eqb-true q r same))
  | inr other ↦ other
]

pub find_later : (r : ℕ) (item : ℕ × Value) (items : List (ℕ × Value)) → r ≢ item.0
    → find nat_cmp r (item ∷ items) ≡ find nat_cmp r items
find_later r item items ne =
    find_first r item items ∙ ap (λ b. cond b (Some item.1) (find nat_cmp r items)) (differs r item.0 ne)

-- where a number was found
pub record IsFoundAt (items : List (ℕ × Value)) (r : ℕ) (v : Value) (i : ℕ) : Type 0 where
  pub within : i < length items
  pub number : (item_at items i).0 ≡ r
  pub value : (item_at items i).1 ≡ v

pub found_at : (items : List (ℕ × Value)) (r : ℕ) (v : Value) → find nat_cmp r items ≡ Some v
    → (i : ℕ) × IsFoundAt items r v i
found_at [] r v is = absurd (none-some v is)
found_at (item ∷ items) r v is = elim (cases_eq r item.0) [
  | inl e ↦ (
    0,
    record {
      within = omega arith;
      number = sym e;
      value = same_Some _ _ (sym (find_here r item items e) ∙ is);
    },
  )
  | inr ne ↦
      let f = found_at items r v (sym (find_later r item items ne) ∙ is) in (
        suc f.0,
        record { within = omega (arith, f.1.within); number = f.1.number; value = f.1.value },
      )
]

-- numbers that ascend
abbrev pub Ascend : List (ℕ × Value) → Type 0
Ascend items = (i j : ℕ) → i < j → j < length items → (item_at items i).0 < (item_at items j).0

-- what stands at an index is found by its number
pub finds : (items : List (ℕ × Value)) (i : ℕ) → Ascend items → i < length items
    → find nat_cmp (item_at items i).0 items ≡ Some (item_at items i).1
finds [] i up within = absurd (omega (arith, within))
finds (item ∷ items) zero up within = find_here item.0 item items refl
finds (item ∷ items) (suc i) up within =
    let later : item.0 < (item_at items i).0 = up 0 (suc i) (omega arith) within in
    find_later (item_at items i).0 item items (λ e. absurd (omega (arith, later, e)))
    ∙ finds items i (λ j k low b. up (suc j) (suc k) (omega (arith, low)) (omega (arith, b))) (omega (arith, within))

-- the register at an index holds what stands there
pub holds : (s : RegistersView) (i : ℕ) (item : ℕ × Value) → AreRegistersOf s.number s.sweepers s.items
    → i < length s.items → item ≡ item_at s.items i → register_in s item.0 ≡ Some item.1
holds s i item are within is =
    subst (λ (v : ℕ × Value). register_in s v.0 ≡ Some v.1) (sym is) (finds s.items i are.ascend within)

-- ---- an item is set

-- no other number is found elsewhere
find_other : (items : List (ℕ × Value)) (i q r : ℕ) (v : Value) → q ≢ r → (item_at items i).0 ≡ r
    → find nat_cmp q (set items i (r, v)) ≡ find nat_cmp q items
find_other [] i q r v ne is = refl
find_other (item ∷ items) zero q r v ne is =
    find_later q (r, v) items ne ∙ sym (find_later q item items (λ e. ne (e ∙ is)))
find_other (item ∷ items) (suc i) q r v ne is =
    find_first q item (set items i (r, v))
    ∙ (ap (cond (q == item.0) (Some item.1)) (find_other items i q r v ne is)
    ∙ sym (find_first q item items))

-- numbers stay
set_number : (items : List (ℕ × Value)) (i j r : ℕ) (v : Value) → i < length items → (item_at items i).0 ≡ r
    → (item_at (set items i (r, v)) j).0 ≡ (item_at items j).0
set_number items i j r v within is = elim (cases_eq j i) [
  | inl e ↦
      ap (λ n. (item_at (set items i (r, v)) n).0) e
      ∙ (ap (λ (z : ℕ × Value). z.0) (get_or-set_same items i (r, v) (0, Nil) within)
      ∙ (sym is ∙ ap (λ n. (item_at items n).0) (sym e)))
  | inr ne ↦ ap (λ (z : ℕ × Value). z.0) (get_or-set_other items i j (r, v) (0, Nil) ne)
]

-- so they are registers of the sweeper again
pub still_registers : (number sweepers : ℕ) (items : List (ℕ × Value)) (i r : ℕ) (v : Value) → i < length items
    → (item_at items i).0 ≡ r → AreRegistersOf number sweepers items
    → AreRegistersOf number sweepers (set items i (r, v))
still_registers number sweepers items i r v within is are = record {
  number_in = are.number_in;
  numbers = λ j b.
      ap (λ n. n % sweepers) (set_number items i j r v within is)
      ∙ are.numbers j (omega (arith, b, length-set items i (r, v)));
  ascend = λ j k low b.
      let up = are.ascend j k low (omega (arith, b, length-set items i (r, v))) in
      omega (arith, up, set_number items i j r v within is, set_number items i k r v within is);
}

-- and register r is set
pub is_set : (s : RegistersView) (i r place : ℕ) → i < length s.items → (item_at s.items i).0 ≡ r
    → AreRegistersOf s.number s.sweepers s.items
    → IsSet s (record s { items = set s.items i (r, Object place) }) r place
is_set s i r place within is are = record {
  number = refl;
  sweepers = refl;
  count = length-set s.items i item;
  here =
      holds (record s { items = set s.items i item }) i item
      (still_registers s.number s.sweepers s.items i r (Object place) within is are)
      (omega (arith, within, length-set s.items i item))
      (sym (get_or-set_same s.items i item (0, Nil) within));
  others = λ q ne. find_other s.items i q r (Object place) ne is;
}
  where
    item : ℕ × Value
    item = (r, Object place)

-- ---- where a register is looked for

-- numbers that ascend do not fall
pub rising : (items : List (ℕ × Value)) → Ascend items → (i j : ℕ) → i ≤ j → j < length items
    → (item_at items i).0 ≤ (item_at items j).0
rising items up i j most within = elim (cases_eq i j) [
  | inl e ↦ let same = ap (λ n. (item_at items n).0) e in omega (arith, same)
  | inr ne ↦ let less = up i j (omega (arith, most, ne)) within in omega (arith, less)
]

-- before the index numbers are lower than r, and from it on none is
pub record IsLowest (items : List (ℕ × Value)) (r i : ℕ) : Type 0 where
  pub below : (j : ℕ) → j < i → (item_at items j).0 < r
  pub above : (j : ℕ) → i ≤ j → j < length items → r ≤ (item_at items j).0

-- there it stands
pub stands_at : (items : List (ℕ × Value)) (r i : ℕ) → Ascend items → IsSome (find nat_cmp r items)
    → IsLowest items r i → (i < length items) × ((item_at items i).0 ≡ r)
stands_at items r i up some lowest = at (find nat_cmp r items) refl some
  where
    at : (o : Option Value) → find nat_cmp r items ≡ o → IsSome o
        → (i < length items) × ((item_at items i).0 ≡ r)
    at None e h = absurd (cc)
    at (Some v) e h =
        let f = found_at items r v e in
        elim (cases_lt f.0 i) [
          | inl low ↦ absurd (omega (arith, lowest.below f.0 low, f.1.number))
          | inr far ↦
              let within : i < length items = omega (arith, far, f.1.within) in
              let first : f.0 ≤ i = elim (cases_lt i f.0) [
                | inl less ↦
                    absurd (omega (arith, up i f.0 less f.1.within, f.1.number, lowest.above i (omega arith) within))
                | inr most ↦ most
              ] in
              let same : f.0 ≡ i = omega (arith, far, first) in
              (within, ap (λ n. (item_at items n).0) (sym same) ∙ f.1.number)
        ]
