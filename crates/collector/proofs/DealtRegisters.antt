-- Registers that hold objects are dealt out one by one, each to its sweeper.
use Rattle.std.proofs.Common.{◌≡◌, ◌≢◌, ℕ, ◌+◌, ◌%◌, ◌<◌, ◌≤◌, ◌==◌, cond, List, [], ◌∷◌, ◌++◌, length, get_or, set, replicate, option_map, slice_get, Option, None, Some, IsSome, refl, sym, ◌∙◌, ap, subst, inl, inr, arith, get_or-set_same, get_or-set_other}
use Rattle.std.specs.FinMap.{find}
use Rattle.std.specs.Ordering.{nat_cmp}
use Rattle.std.proofs.Math.Nat.{mod-lt}
use Rattle.std.proofs.lemmas.Bool.{cases_eq, cases_lt}
use Rattle.std.proofs.lemmas.List.{get_or-replicate, get_or_append_left, get_or_push, length-replicate, length-set, length_push}
use Rattle.std.proofs.lemmas.Option.{none-some, same_Some, slice_get-get_or, slice_get_past}
use Rattle.gc_words.specs.declared.value.Value.{Value}
use Rattle.gc_words.specs.declared.value.Value.TheVariants.{Nil, Object}
use Rattle.sweep_model.specs.World.{object_in}
use Rattle.sweep_share.specs.Registers.{AreRegistersOf, item_at}
use Rattle.sweep_share.proofs.Numbers.{find_first, find_here, find_later, found_at}
use Rattle.collect_model.specs.Worlds.{objects_only}
use Rattle.collect_model.proofs.References.{place_is}
use Rattle.collector.specs.Dealt.{AreRegistersDealt, AreRegistersDealtTo, HoldNone, NumberedValues, registers_at}

-- ---- what a list has for a number

-- with one more item at its end, which is the first of its number
find_push_here : (items : List (ℕ × Value)) (item : ℕ × Value) → find nat_cmp item.0 items ≡ None
    → find nat_cmp item.0 (items ++ item ∷ []) ≡ Some item.1
find_push_here [] item none = find_here item.0 item [] refl
find_push_here (x ∷ xs) item none = elim (cases_eq item.0 x.0) [
  | inl e ↦ absurd (none-some x.1 (sym none ∙ find_here item.0 x xs e))
  | inr ne ↦
      find_later item.0 x (xs ++ item ∷ []) ne
      ∙ find_push_here xs item (sym (find_later item.0 x xs ne) ∙ none)
]

find_push_other : (items : List (ℕ × Value)) (item : ℕ × Value) (q : ℕ) → q ≢ item.0
    → find nat_cmp q (items ++ item ∷ []) ≡ find nat_cmp q items
find_push_other [] item q ne = find_later q item [] ne
find_push_other (x ∷ xs) item q ne =
    find_first q x (xs ++ item ∷ [])
    ∙ (ap (cond (q == x.0) (Some x.1)) (find_push_other xs item q ne) ∙ sym (find_first q x xs))

-- the numbers are below one
abbrev AreBelow : List (ℕ × Value) → ℕ → Type 0
AreBelow items next = (i : ℕ) → i < length items → (item_at items i).0 < next

-- for which they have nothing
find_above : (items : List (ℕ × Value)) (next : ℕ) → AreBelow items next → find nat_cmp next items ≡ None
find_above items next below = at (find nat_cmp next items) refl
  where
    at : (o : Option Value) → find nat_cmp next items ≡ o → find nat_cmp next items ≡ None
    at None e = e
    at (Some v) e =
        let f = found_at items next v e in
        let under = below f.0 f.1.within in
        absurd (omega (arith, under, f.1.number))

-- ---- dealt so far

-- the registers of sweeper k below the next one are dealt to it, as far as they hold objects
pub record AreFirstDealt (n k : ℕ) (all : List Value) (next : ℕ) (own : NumberedValues) : Type 0 where
  pub are : AreRegistersOf k n own
  pub below : AreBelow own next
  pub held : (r : ℕ) → r % n ≡ k → r < next → find nat_cmp r own ≡ objects_only (slice_get all r)

first_none : (n k : ℕ) (all : List Value) → k < n → AreFirstDealt n k all 0 []
first_none n k all low = record {
  are = record {
    number_in = low;
    numbers = λ i b. absurd (omega (arith, b));
    ascend = λ i j l b. absurd (omega (arith, b));
  };
  below = λ i b. absurd (omega (arith, b));
  held = λ r mine less. absurd (omega (arith, less));
}

-- registers that hold no objects are passed
first_past : (n k : ℕ) (all : List Value) (from next : ℕ) (own : NumberedValues) → from ≤ next → HoldNone all from next
    → AreFirstDealt n k all from own → AreFirstDealt n k all next own
first_past n k all from next own most none first = record {
  are = first.are;
  below = λ i b. let low = first.below i b in omega (arith, low, most);
  held = λ r mine less. elim (cases_lt r from) [
    | inl low ↦ first.held r mine low
    | inr past ↦
        find_above own r (λ i b. let low = first.below i b in omega (arith, low, past))
        ∙ sym (ap (option_map Object) (none r past less))
  ];
}

module _ (n k : ℕ) (all : List Value) (next : ℕ) (own : NumberedValues)
    (first : AreFirstDealt n k all next own) where
  -- a number below the one after the next, if it is not the next
  before : (r : ℕ) → r < next + 1 → r ≢ next → r < next
  before r less ne = omega (arith, less, ne)

  -- a register of another sweeper is passed
  first_other : next % n ≢ k → AreFirstDealt n k all (next + 1) own
  first_other other = record {
    are = first.are;
    below = λ i b. let low = first.below i b in omega (arith, low);
    held = λ r mine less. first.held r mine (before r less (λ e. other (sym (ap (λ m. m % n) e) ∙ mine)));
  }

  -- one of its own that holds an object is dealt out
  first_more : (v : Value) → next % n ≡ k → objects_only (slice_get all next) ≡ Some v
      → AreFirstDealt n k all (next + 1) (own ++ (next, v) ∷ [])
  first_more v place object = record {
    are = record {
      number_in = first.are.number_in;
      numbers = λ i b. elim (cases_lt i (length own)) [
        | inl low ↦ ap (λ m. m % n) (number_old i low) ∙ first.are.numbers i low
        | inr far ↦
            let same : length own ≡ i = omega (arith, b, far, count) in
            subst (λ m. (item_at more m).0 % n ≡ k) same (ap (λ m. m % n) number_new ∙ place)
      ];
      ascend = λ i j less b. elim (cases_lt j (length own)) [
        | inl low ↦
            let up = first.are.ascend i j less low in
            omega (arith, up, number_old i (omega (arith, less, low)), number_old j low)
        | inr far ↦
            let same : length own ≡ j = omega (arith, b, far, count) in
            let inside : i < length own = omega (arith, less, same) in
            subst (λ m. (item_at more i).0 < (item_at more m).0) same
            (omega (arith, first.below i inside, number_old i inside, number_new))
      ];
    };
    below = λ i b. elim (cases_lt i (length own)) [
      | inl low ↦ omega (arith, first.below i low, number_old i low)
      | inr far ↦
          let same : length own ≡ i = omega (arith, b, far, count) in
          subst (λ m. (item_at more m).0 < next + 1) same (omega (arith, number_new))
    ];
    held = λ r mine less. elim (cases_eq r next) [
      | inl e ↦
          ap (λ m. find nat_cmp m more) e
          ∙ (find_push_here own (next, v) (find_above own next first.below)
          ∙ (sym object ∙ sym (ap (λ m. objects_only (slice_get all m)) e)))
      | inr ne ↦ find_push_other own (next, v) r ne ∙ first.held r mine (before r less ne)
    ];
  }
    where
      more : NumberedValues
      more = own ++ (next, v) ∷ []

      count : length more ≡ length own + 1
      count = length_push own (next, v)

      number_old : (i : ℕ) → i < length own → (item_at more i).0 ≡ (item_at own i).0
      number_old i low = ap (λ (z : ℕ × Value). z.0) (get_or_append_left own ((next, v) ∷ []) (0, Nil) i low)

      number_new : (item_at more (length own)).0 ≡ next
      number_new = ap (λ (z : ℕ × Value). z.0) (get_or_push own (next, v) (0, Nil) (length own) refl)

-- where no more registers hold objects, all are dealt out
first_all : (n k : ℕ) (all : List Value) (from : ℕ) (own : NumberedValues) → HoldNone all from (length all)
    → AreFirstDealt n k all from own → AreRegistersDealtTo n k all own
first_all n k all from own none first = record {
  are = first.are;
  held = λ r mine. elim (cases_lt r from) [
    | inl less ↦ first.held r mine less
    | inr past ↦
        find_above own r (λ i b. let low = first.below i b in omega (arith, low, past))
        ∙ sym (ap (option_map Object) (elim (cases_lt r (length all)) [
          | inl inside ↦ none r past inside
          | inr outside ↦ ap object_in (slice_get_past all r outside)
        ]))
  ];
}

-- ---- to all sweepers

-- the registers below the next one are dealt out to n sweepers, as far as they hold objects
pub record AreDealtBelow (n : ℕ) (all : List Value) (next : ℕ) (owns : List NumberedValues) : Type 0 where
  pub count : length owns ≡ n
  pub each : (k : ℕ) → k < n → AreFirstDealt n k all next (registers_at owns k)

pub registers_none : (n : ℕ) (all : List Value) → AreDealtBelow n all 0 (replicate n [])
registers_none n all = record {
  count = length-replicate n [];
  each = λ k low. subst (AreFirstDealt n k all 0) (sym (get_or-replicate n k [] [] low)) (first_none n k all low);
}

-- the next register that holds an object goes to its sweeper
pub registers_more : (n : ℕ) (all : List Value) (from next : ℕ) (owns : List NumberedValues) (v : Value) → 0 < n
    → from ≤ next → HoldNone all from next → objects_only (slice_get all next) ≡ Some v → AreDealtBelow n all from owns
    → AreDealtBelow n all (next + 1) (set owns (next % n) (registers_at owns (next % n) ++ (next, v) ∷ []))
registers_more n all from next owns v some most none object begun = record {
  count = length-set owns turn more ∙ begun.count;
  each = λ k low.
      let first : AreFirstDealt n k all next (registers_at owns k) =
      first_past n k all from next (registers_at owns k) most none (begun.each k low) in
      elim (cases_eq k turn) [
        | inl e ↦
            let mine : registers_at (set owns turn more) k ≡ registers_at owns k ++ (next, v) ∷ [] =
            ap (registers_at (set owns turn more)) e
            ∙ (get_or-set_same owns turn more [] (omega (arith, begun.count, mod-lt next some))
            ∙ ap (λ j. registers_at owns j ++ (next, v) ∷ []) (sym e)) in
            subst (AreFirstDealt n k all (next + 1)) (sym mine)
            (first_more n k all next (registers_at owns k) first v (sym e) object)
        | inr ne ↦
            subst (AreFirstDealt n k all (next + 1)) (sym (get_or-set_other owns turn k more [] ne))
            (first_other n k all next (registers_at owns k) first (λ e. ne (sym e)))
      ];
}
  where
    turn : ℕ
    turn = next % n

    more : NumberedValues
    more = registers_at owns turn ++ (next, v) ∷ []

-- where no more hold objects
pub registers_all : (n : ℕ) (all : List Value) (from : ℕ) (owns : List NumberedValues) → HoldNone all from (length all)
    → AreDealtBelow n all from owns → AreRegistersDealt n all owns
registers_all n all from owns none begun = record {
  count = begun.count;
  each = λ k low. first_all n k all from (registers_at owns k) none (begun.each k low);
}

-- ---- what a register holds

-- a value that is no object
no_object : (v : Value) → ((t : ℕ) → v ≡ Object t → ⊥) → object_in (Some v) ≡ None
no_object v other = at (object_in (Some v)) refl
  where
    at : (o : Option ℕ) → object_in (Some v) ≡ o → object_in (Some v) ≡ None
    at None e = e
    at (Some t) e = absurd (other t (same_Some v (Object t) (place_is (Some v) t e)))

-- one more is passed
pub hold_none_more : (all : List Value) (from r : ℕ) (d : Value) → r < length all
    → ((t : ℕ) → get_or all r d ≡ Object t → ⊥) → HoldNone all from r → HoldNone all from (r + 1)
hold_none_more all from r d inside other none q most less = elim (cases_eq q r) [
  | inl e ↦
      ap (λ m. object_in (slice_get all m)) e
      ∙ (ap object_in (slice_get-get_or all r d inside) ∙ no_object (get_or all r d) other)
  | inr ne ↦ none q most (omega (arith, less, ne))
]

not_some : (o : Option ℕ) → o ≡ None → IsSome o → ⊥
not_some None e h = cc
not_some (Some t) e h = cc

-- a register that holds an object holds nothing else
pub object_held : (o : Option Value) (v : Value) → o ≡ Some v → IsSome (object_in o) → objects_only o ≡ Some v
object_held o v is some = at (object_in o) refl
  where
    at : (p : Option ℕ) → object_in o ≡ p → objects_only o ≡ Some v
    at None e = absurd (not_some (object_in o) e some)
    at (Some t) e = ap (option_map Object) e ∙ (sym (place_is o t e) ∙ is)
