-- The threads of a sweeper get their indices, one after the other.
use Rattle.std.proofs.Common.{◌≡◌, ◌≢◌, ℕ, ◌+◌, ◌*◌, ◌/◌, ◌%◌, ◌<◌, ◌≤◌, cond, List, length, get_or, set, replicate, sym, ◌∙◌, ap, arith, inl, inr}
use Rattle.std.proofs.lemmas.Bool.{cases_lt, cases_order, eq-eqb, ne_eqb}
use Rattle.std.proofs.lemmas.List.{get_or-replicate, get_or-set_same, get_or-set_other, length-replicate, length-set}
use Rattle.std.proofs.lemmas.Nat.{div-add-mod', div-mul-add, mod-mul-add, mod_below}
use Rattle.std.proofs.Math.Nat.{mod-eq_of_lt, mul-le-mul_right}
use Rattle.sweep_share.specs.Shares.{AreIndicesOf, index_of}

-- ---- the index of a thread

no_index : (number sweepers t : ℕ) → t % sweepers ≢ number → index_of number sweepers t ≡ 255
no_index number sweepers t ne = ap (λ b. cond b (t / sweepers) 255) (ne_eqb (t % sweepers) number ne)

index_there : (number sweepers i : ℕ) → number < sweepers → index_of number sweepers (i * sweepers + number) ≡ i
index_there number sweepers i small =
    ap (λ b. cond b ((i * sweepers + number) / sweepers) 255)
    (eq-eqb ((i * sweepers + number) % sweepers) number (mod-mul-add i sweepers number small))
    ∙ div-mul-add i sweepers number small

-- two threads of one sweeper are not less than its step apart
not_between : (sweepers number i j : ℕ) → i * sweepers + number < j * sweepers + number
    → j * sweepers + number < i * sweepers + number + sweepers → ⊥
not_between sweepers number i j low high = elim (cases_lt i j) [
  | inl l ↦ let m : (i + 1) * sweepers ≤ j * sweepers = mul-le-mul_right sweepers (omega (arith, l)) in omega (arith, m, high)
  | inr g ↦ let m : j * sweepers ≤ i * sweepers = mul-le-mul_right sweepers g in omega (arith, m, low)
]

between_none : (number sweepers i t : ℕ) → i * sweepers + number < t → t < i * sweepers + number + sweepers
    → t % sweepers ≢ number
between_none number sweepers i t low high e =
    let is : t / sweepers * sweepers + number ≡ t =
    ap (λ v. t / sweepers * sweepers + v) (sym e) ∙ div-add-mod' t sweepers in
    not_between sweepers number i (t / sweepers) (omega (arith, low, is)) (omega (arith, high, is))

-- ---- the table so far

-- The threads below one have what they are to have, and the others 255.
pub record IsFilled (number sweepers : ℕ) (indices : List ℕ) (thread index : ℕ) : Type 0 where
  pub number_in : number < sweepers
  pub count : length indices ≡ 64
  pub here : thread ≡ index * sweepers + number
  pub few : index ≤ thread
  pub done : (t : ℕ) → t < thread → t < 64 → get_or indices t 0 ≡ index_of number sweepers t
  pub rest : (t : ℕ) → thread ≤ t → t < 64 → get_or indices t 0 ≡ 255

-- none is filled in
filled_with : (indices : List ℕ) (t : ℕ) → indices ≡ replicate 64 255 → t < 64 → get_or indices t 0 ≡ 255
filled_with indices t are small = ap (λ l. get_or l t 0) are ∙ get_or-replicate 64 t 255 0 small

count_with : (indices : List ℕ) → indices ≡ replicate 64 255 → length indices ≡ 64
count_with indices are = ap length are ∙ length-replicate {A = ℕ} 64 255

pub filled_none : (number sweepers : ℕ) (indices : List ℕ) → number < sweepers → indices ≡ replicate 64 255
    → IsFilled number sweepers indices number 0
filled_none number sweepers indices small are = record {
  number_in = small;
  count = count_with indices are;
  here = omega arith;
  few = omega arith;
  done = λ t below within.
      filled_with indices t are within
      ∙ sym (no_index number sweepers t
      (λ e. let same : t % sweepers ≡ t = mod-eq_of_lt (omega (arith, below, small)) in omega (arith, e, same, below)));
  rest = λ t above within. filled_with indices t are within;
}

-- a number that is no remainder has no threads
pub filled_never : (number sweepers : ℕ) (indices : List ℕ) → 0 < sweepers → sweepers ≤ number
    → indices ≡ replicate 64 255 → AreIndicesOf number sweepers indices
filled_never number sweepers indices some far are = (
  count_with indices are,
  λ t within.
      filled_with indices t are within
      ∙ sym (no_index number sweepers t (λ e. omega (arith, e, far, mod_below t sweepers some))),
)

-- one more is filled in
pub filled_more : (number sweepers : ℕ) (indices : List ℕ) (thread index : ℕ) → thread < 64
    → IsFilled number sweepers indices thread index
    → IsFilled number sweepers (set indices thread index) (thread + sweepers) (index + 1)
filled_more number sweepers indices thread index within f = record {
  number_in = f.number_in;
  count = length-set indices thread index ∙ f.count;
  here = omega (arith, f.here);
  few = omega (arith, f.few, f.number_in);
  done = λ t below small. elim (cases_order t thread) [
    | inl e ↦
        ap (λ m. get_or (set indices thread index) m 0) e
        ∙ (get_or-set_same indices thread index 0 (omega (arith, within, f.count))
        ∙ sym (ap (index_of number sweepers) (e ∙ f.here) ∙ index_there number sweepers index f.number_in))
    | inr o ↦ elim o [
      | inl less ↦
          get_or-set_other indices thread t index 0 (λ e. omega (arith, e, less)) ∙ f.done t less small
      | inr more ↦
          get_or-set_other indices thread t index 0 (λ e. omega (arith, e, more))
          ∙ (f.rest t (omega (arith, more)) small
          ∙ sym (no_index number sweepers t
          (between_none number sweepers index t (omega (arith, more, f.here)) (omega (arith, below, f.here)))))
    ]
  ];
  rest = λ t above small.
      get_or-set_other indices thread t index 0 (λ e. omega (arith, e, above, f.number_in))
      ∙ f.rest t (omega (arith, above)) small;
}

-- all are filled in
pub filled_all : (number sweepers : ℕ) (indices : List ℕ) (thread index : ℕ) → 64 ≤ thread
    → IsFilled number sweepers indices thread index → AreIndicesOf number sweepers indices
filled_all number sweepers indices thread index far f = (f.count, λ t small. f.done t (omega (arith, far, small)) small)
