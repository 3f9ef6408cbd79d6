-- Territories are taken from the ends of the sweepers' lists, from the last thread to the first.
use Rattle.std.proofs.Common.{◌≡◌, ◌≢◌, ℕ, ◌+◌, ◌-◌, ◌*◌, ◌/◌, ◌%◌, ◌<◌, ◌≤◌, List, [], ◌∷◌, ◌++◌, length, reverse, set, slice_index_or, Option, None, Some, refl, sym, ◌∙◌, ap, subst, inl, inr, arith, get_or-set_same, get_or-set_other}
use Rattle.std.specs.List.{slice_get}
use Rattle.std.proofs.Math.Nat.{add-mul-mod_self_right, add-mul-div_right, mod-lt, mul-le-mul_right}
use Rattle.std.proofs.lemmas.Bool.{cases_eq, cases_lt}
use Rattle.std.proofs.lemmas.List.{get_or_append_left, get_or_push, get_or-reverse, length-reverse, length-set, length_push}
use Rattle.std.proofs.lemmas.Nat.{div-add-mod', le-div}
use Rattle.std.proofs.lemmas.Option.{none-some, slice_get-get_or, slice_get_past, slice_get_within}
use Rattle.territory.specs.Territories.{TerritoryView, no_territory}
use Rattle.collector.specs.Dealt.{AreGathered, AreWhole, own_at}

-- ---- lists

pub slice_get_push_left : {X : Type 0} (xs : List X) (y : X) (i : ℕ) → i < length xs
    → slice_get (xs ++ y ∷ []) i ≡ slice_get xs i
slice_get_push_left xs y i below =
    slice_get-get_or (xs ++ y ∷ []) i y (omega (arith, below, length_push xs y))
    ∙ (ap Some (get_or_append_left xs (y ∷ []) y i below) ∙ sym (slice_get-get_or xs i y below))

pub slice_get_push_here : {X : Type 0} (xs : List X) (y : X) (i : ℕ) → length xs ≡ i
    → slice_get (xs ++ y ∷ []) i ≡ Some y
slice_get_push_here xs y i is =
    slice_get-get_or (xs ++ y ∷ []) i y (omega (arith, is, length_push xs y))
    ∙ ap Some (get_or_push xs y y i is)

slice_get_reverse : (xs : List TerritoryView) (i : ℕ) → i < length xs
    → slice_get (reverse xs) i ≡ slice_get xs (length xs - 1 - i)
slice_get_reverse xs i below =
    slice_get-get_or (reverse xs) i (no_territory 0) (omega (arith, below, length-reverse xs))
    ∙ (ap Some (get_or-reverse xs i (no_territory 0) below)
    ∙ sym (slice_get-get_or xs (length xs - 1 - i) (no_territory 0) (omega (arith, below))))

-- ---- quotients

-- of two numbers with the same remainder the lesser has the lesser quotient
div_less : (t u n : ℕ) → t % n ≡ u % n → t < u → t / n < u / n
div_less t u n same less = elim (cases_lt (t / n) (u / n)) [
  | inl below ↦ below
  | inr past ↦
      let product : u / n * n ≤ t / n * n = mul-le-mul_right n past in
      absurd (omega (arith, product, same, less, div-add-mod' t n, div-add-mod' u n))
]

-- ---- the territory of a thread

-- what stands for thread t among the lists of n sweepers
abbrev pub dealt_at : ℕ → List (List TerritoryView) → ℕ → Option TerritoryView
dealt_at n owns t = slice_get (own_at owns (t % n)) (t / n)

-- The territories of the threads from `thread` on were taken from `owns`, the last thread first, and `now`
-- is left.
pub record AreTaken (n : ℕ) (owns now : List (List TerritoryView)) (territories : List TerritoryView)
    (thread : ℕ) : Type 0 where
  pub count : length now ≡ n
  pub taken_count : length territories + thread ≡ 64
  pub there : (t : ℕ) → t < thread → dealt_at n now t ≡ dealt_at n owns t
  pub gone : (t : ℕ) → thread ≤ t → dealt_at n now t ≡ None
  pub taken : (t : ℕ) → thread ≤ t → t < 64 → slice_get territories (63 - t) ≡ dealt_at n owns t

-- each thread has one
whole_some : (n : ℕ) (owns : List (List TerritoryView)) (t : ℕ) → 1 ≤ n → AreWhole n owns → t < 64
    → t / n < length (own_at owns (t % n))
whole_some n owns t some whole below =
    (whole (t % n) (t / n) (mod-lt t some)).1 (omega (arith, below, div-add-mod' t n))

whole_none : (n : ℕ) (owns : List (List TerritoryView)) (t : ℕ) → 1 ≤ n → AreWhole n owns → 64 ≤ t
    → dealt_at n owns t ≡ None
whole_none n owns t some whole past = elim (cases_lt (t / n) (length (own_at owns (t % n)))) [
  | inl below ↦
      let few : t % n + t / n * n < 64 = (whole (t % n) (t / n) (mod-lt t some)).0 below in
      absurd (omega (arith, few, past, div-add-mod' t n))
  | inr over ↦ slice_get_past (own_at owns (t % n)) (t / n) over
]

pub taken_none : (n : ℕ) (owns : List (List TerritoryView)) → 1 ≤ n → length owns ≡ n → AreWhole n owns
    → AreTaken n owns owns [] 64
taken_none n owns some count whole = record {
  count = count;
  taken_count = omega arith;
  there = λ t below. refl;
  gone = λ t past. whole_none n owns t some whole past;
  taken = λ t past below. absurd (omega (arith, past, below));
}

module _ (n : ℕ) (owns now : List (List TerritoryView)) (territories : List TerritoryView) (u : ℕ)
    (some : 1 ≤ n) (whole : AreWhole n owns) (taken : AreTaken n owns now territories (u + 1)) where
  own : List TerritoryView
  own = own_at now (u % n)

  -- its list has the territory of the next thread
  pub next_there : u / n < length (own_at now (u % n))
  next_there =
      let b : u / n < length (own_at owns (u % n)) =
      whole_some n owns u some whole (omega (arith, taken.taken_count)) in
      let d : TerritoryView = no_territory 0 in
      slice_get_within (own_at now (u % n)) (u / n) (slice_index_or (own_at owns (u % n)) (u / n) d)
      (taken.there u (omega arith) ∙ slice_get-get_or (own_at owns (u % n)) (u / n) d b)

  -- and nothing after it
  next_last : length (own_at now (u % n)) ≤ u / n + 1
  next_last = elim (cases_lt (u / n + 1) (length (own_at now (u % n)))) [
    | inl below ↦
        let same : slice_get (own_at now ((u + 1 * n) % n)) ((u + 1 * n) / n) ≡ None =
        taken.gone (u + 1 * n) (omega arith) in
        let here : slice_get (own_at now (u % n)) (u / n + 1) ≡ None =
        subst (λ k. slice_get (own_at now k) (u / n + 1) ≡ None) (add-mul-mod_self_right u 1 n)
        (subst (λ k. slice_get (own_at now ((u + 1 * n) % n)) k ≡ None) (add-mul-div_right u 1 some) same) in
        absurd (none-some (slice_index_or (own_at now (u % n)) (u / n + 1) (no_territory 0))
        (sym here ∙ slice_get-get_or (own_at now (u % n)) (u / n + 1) (no_territory 0) below))
    | inr past ↦ past
  ]

  module _ (rest : List TerritoryView) (y : TerritoryView)
      (popped : own_at now (u % n) ≡ rest ++ y ∷ []) where
    rest_count : length rest ≡ u / n
    rest_count =
        omega (arith, next_there, next_last, ap length popped, length_push rest y)

    here : slice_get (own_at now (u % n)) (u / n) ≡ Some y
    here = ap (λ l. slice_get l (u / n)) popped ∙ slice_get_push_here rest y (u / n) rest_count

    -- one more is taken
    pub taken_more : AreTaken n owns (set now (u % n) rest) (territories ++ y ∷ []) u
    taken_more = record {
      count = length-set now (u % n) rest ∙ taken.count;
      taken_count = omega (arith, length_push territories y, taken.taken_count);
      there = λ t below. elim (cases_eq (t % n) (u % n)) [
        | inl e ↦
            let low : t / n < u / n = div_less t u n e below in
            let mine : slice_get (own_at now (t % n)) (t / n) ≡ slice_get rest (t / n) =
            ap (λ k. slice_get (own_at now k) (t / n)) e
            ∙ (ap (λ l. slice_get l (t / n)) popped
            ∙ slice_get_push_left rest y (t / n) (omega (arith, low, rest_count))) in
            at_rest t e ∙ (sym mine ∙ taken.there t (omega (arith, below)))
        | inr ne ↦ at_others t ne ∙ taken.there t (omega (arith, below))
      ];
      gone = λ t past. elim (cases_eq (t % n) (u % n)) [
        | inl e ↦
            let most : u / n ≤ t / n = le-div (u / n) t n some (omega (arith, past, div-add-mod' u n)) in
            at_rest t e ∙ slice_get_past rest (t / n) (omega (arith, most, rest_count))
        | inr ne ↦ at_others t ne ∙ taken.gone t (omega (arith, past, other t ne))
      ];
      taken = λ t past below. elim (cases_eq t u) [
        | inl e ↦
            slice_get_push_here territories y (63 - t) (omega (arith, e, taken.taken_count, below))
            ∙ (sym here ∙ (ap (dealt_at n now) (sym e) ∙ taken.there t (omega (arith, e))))
        | inr ne ↦
            slice_get_push_left territories y (63 - t) (omega (arith, ne, past, below, taken.taken_count))
            ∙ taken.taken t (omega (arith, ne, past)) below
      ];
    }
      where
        in_now : u % n < length now
        in_now = omega (arith, taken.count, mod-lt u some)

        at_rest : (t : ℕ) → t % n ≡ u % n → dealt_at n (set now (u % n) rest) t ≡ slice_get rest (t / n)
        at_rest t e =
            ap (λ k. slice_get (own_at (set now (u % n) rest) k) (t / n)) e
            ∙ ap (λ l. slice_get l (t / n)) (get_or-set_same now (u % n) rest [] in_now)

        at_others : (t : ℕ) → t % n ≢ u % n → dealt_at n (set now (u % n) rest) t ≡ dealt_at n now t
        at_others t ne = ap (λ l. slice_get l (t / n)) (get_or-set_other now (u % n) (t % n) rest [] ne)

        other : (t : ℕ) → t % n ≢ u % n → t ≢ u
        other t ne e = ne (ap (λ k. k % n) e)

-- all are taken, and stand in order when they are turned round
pub gathered : (n : ℕ) (owns now : List (List TerritoryView)) (territories : List TerritoryView)
    → AreTaken n owns now territories 0 → AreGathered n owns (reverse territories)
gathered n owns now territories taken = record {
  count = length-reverse territories ∙ omega (arith, taken.taken_count);
  each = λ t below.
      slice_get_reverse territories t (omega (arith, below, taken.taken_count))
      ∙ (ap (slice_get territories) (omega (arith, taken.taken_count)) ∙ taken.taken t (omega arith) below);
}

-- ---- one sweeper

-- it has all of them, in order
pub gathered_one : (owns rest : List (List TerritoryView)) (all : List TerritoryView) → owns ≡ rest ++ all ∷ []
    → length owns ≡ 1 → AreWhole 1 owns → AreGathered 1 owns all
gathered_one owns rest all is one whole =
    let none : length rest ≡ 0 = omega (arith, ap length is, length_push rest all, one) in
    let first : own_at owns 0 ≡ all = ap (λ l. own_at l 0) is ∙ get_or_push rest all [] 0 none in
    let most : length (own_at owns 0) ≤ 64 = elim (cases_lt 64 (length (own_at owns 0))) [
      | inl more ↦
          let far : 0 + 64 * 1 < 64 = (whole 0 64 (omega arith)).0 more in
          absurd (omega (arith, far))
      | inr few ↦ few
    ] in
    let last : 63 < length (own_at owns 0) = (whole 0 63 (omega arith)).1 (omega arith) in
    record {
      count = omega (arith, most, last, ap length first);
      each = λ t below.
          let some : 0 < 1 = omega arith in
          let only : 0 ≡ t % 1 = omega (arith, mod-lt t some) in
          let place : t ≡ t / 1 = omega (arith, only, div-add-mod' t 1) in
          ap (λ l. slice_get l t) (sym first)
          ∙ (ap (λ k. slice_get (own_at owns k) t) only ∙ ap (slice_get (own_at owns (t % 1))) place);
    }
