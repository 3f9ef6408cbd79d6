-- The words of a new byte object.
use Rattle.std.proofs.Common.{◌≡◌, ◌≢◌, ℕ, zero, suc, ◌+◌, ◌-◌, ◌/◌, ◌%◌, ◌<◌, ◌≤◌, ◌==◌, cond, List, [], ◌∷◌, ◌++◌, length, replicate, get_or, refl, ◌∙◌, ap, arith, inl, inr, append-nil}
use Rattle.std.proofs.lemmas.Bool.{cases_eq, cases_lt, eq-eqb, ne_eqb}
use Rattle.std.proofs.lemmas.List.{length-append, length-replicate, get_or-replicate, get_or_append_left, get_or-append_right, get_or_past}
use Rattle.heap_store.specs.Starts.{word_bytes, byte_at, bytes_of}
use Rattle.heap_store.specs.Shapes.{packed_word, packed}
use Rattle.heap_store.proofs.Bytes.{bytes_back, bytes_same}

-- ---- lists

-- an element of so many times the one and then so many times the other
pub at_first : (k m x y i d : ℕ) → i < k → get_or (replicate k x ++ replicate m y) i d ≡ x
at_first k m x y i d less = get_or_append_left (replicate k x) (replicate m y) d i (omega (arith, less, length-replicate k x)) ∙ get_or-replicate k i x d less

zeros_at : (m i : ℕ) → ◌≡◌ {A = ℕ} (get_or (replicate m 0) i 0) 0
zeros_at zero i = refl
zeros_at (suc m) zero = refl
zeros_at (suc m) (suc i) = zeros_at m i

at_later : (k m x i : ℕ) → k ≤ i → get_or (replicate k x ++ replicate m 0) i 0 ≡ 0
at_later k m x i past = get_or-append_right (replicate k x) (replicate m 0) k i 0 (length-replicate k x) past ∙ zeros_at m (i - k)

small_at : (k m b j : ℕ) → b < 256 → get_or (replicate k b ++ replicate m 0) j 0 < 256
small_at k m b j less =
    elim (cases_lt j k) [
      | inl first ↦ let e = at_first k m b 0 j 0 first in omega (arith, e, less)
      | inr later ↦ let e = at_later k m b j later in omega (arith, e)
    ]

-- ---- one word

packed_bytes : (b count : ℕ) → b < 256 → count ≤ 8 → word_bytes (packed_word b count) ≡ replicate count b ++ replicate (8 - count) 0
unfolding packed_word
packed_bytes b count less most =
    bytes_back (replicate count b ++ replicate (8 - count) 0) (packed_word b count)
    (length-append (replicate count b) (replicate (8 - count) 0) ∙ sum)
    (λ j. small_at count (8 - count) b j less) refl
  where
    sum : length (replicate count b) + length {A = ℕ} (replicate (8 - count) 0) ≡ 8
    sum = omega (arith, most, length-replicate count b, length-replicate {A = ℕ} (8 - count) 0)

zero_bytes : (j : ℕ) → get_or (word_bytes 0) j 0 ≡ 0
unfolding word_bytes
zero_bytes zero = refl
zero_bytes (suc zero) = refl
zero_bytes (suc (suc zero)) = refl
zero_bytes (suc (suc (suc zero))) = refl
zero_bytes (suc (suc (suc (suc zero)))) = refl
zero_bytes (suc (suc (suc (suc (suc zero))))) = refl
zero_bytes (suc (suc (suc (suc (suc (suc zero)))))) = refl
zero_bytes (suc (suc (suc (suc (suc (suc (suc zero))))))) = refl
zero_bytes (suc (suc (suc (suc (suc (suc (suc (suc j)))))))) = refl

-- ---- all words

module _ (b n : ℕ) (less : b < 256) where
  abbrev rest : List ℕ
  rest = cond (n % 8 == 0) [] (packed_word b (n % 8) ∷ [])

  rest_whole : n % 8 ≡ 0 → packed b n ≡ replicate (n / 8) (packed_word b 8)
  rest_whole e = ap (λ c. replicate (n / 8) (packed_word b 8) ++ cond c [] (packed_word b (n % 8) ∷ [])) (eq-eqb (n % 8) 0 e) ∙ append-nil (replicate (n / 8) (packed_word b 8))

  rest_part : n % 8 ≢ 0 → packed b n ≡ replicate (n / 8) (packed_word b 8) ++ packed_word b (n % 8) ∷ []
  rest_part ne = ap (λ c. replicate (n / 8) (packed_word b 8) ++ cond c [] (packed_word b (n % 8) ∷ [])) (ne_eqb (n % 8) 0 ne)

  pub packed_count : length (packed b n) ≡ (n + 7) / 8
  packed_count =
      elim (cases_eq (n % 8) 0) [
        | inl e ↦ let count = ap length (rest_whole e) ∙ length-replicate (n / 8) (packed_word b 8) in omega (arith, count, e)
        | inr ne ↦
            let count = ap length (rest_part ne) ∙ length-append (replicate (n / 8) (packed_word b 8)) (packed_word b (n % 8) ∷ []) in
            omega (arith, count, ne, length-replicate (n / 8) (packed_word b 8))
      ]

  first_words : (j : ℕ) → j < n / 8 → get_or (packed b n) j 0 ≡ packed_word b 8
  first_words j within = get_or_append_left (replicate (n / 8) (packed_word b 8)) rest 0 j (omega (arith, within, length-replicate (n / 8) (packed_word b 8))) ∙ get_or-replicate (n / 8) j (packed_word b 8) 0 within

  last_word : n % 8 ≢ 0 → get_or (packed b n) (n / 8) 0 ≡ packed_word b (n % 8)
  last_word ne =
      let none : n / 8 - n / 8 ≡ 0 = omega arith in
      ap (λ ws. get_or ws (n / 8) 0) (rest_part ne)
      ∙ get_or-append_right (replicate (n / 8) (packed_word b 8)) (packed_word b (n % 8) ∷ []) (n / 8) (n / 8) 0 (length-replicate (n / 8) (packed_word b 8)) (omega arith)
      ∙ ap (λ k. get_or (packed_word b (n % 8) ∷ []) k 0) none

  byte_in : (j w : ℕ) (count i : ℕ) → get_or (packed b n) j 0 ≡ w → w ≡ packed_word b count → count ≤ 8 → get_or (word_bytes (get_or (packed b n) j 0)) i 0 ≡ get_or (replicate count b ++ replicate (8 - count) 0) i 0
  byte_in j w count i e is most = ap (λ v. get_or (word_bytes v) i 0) (e ∙ is) ∙ ap (λ bs. get_or bs i 0) (packed_bytes b count less most)

  pub packed_byte : (i : ℕ) → i < n → byte_at (packed b n) i ≡ b
  packed_byte i within =
      elim (cases_lt (i / 8) (n / 8)) [
        | inl first ↦ byte_in (i / 8) (packed_word b 8) 8 (i % 8) (first_words (i / 8) first) refl (omega arith) ∙ at_first 8 (8 - 8) b 0 (i % 8) 0 (omega arith)
        | inr past ↦
            let here : i / 8 ≡ n / 8 = omega (arith, within, past) in
            let part : n % 8 ≢ 0 = λ e. absurd (omega (arith, e, within, past)) in
            ap (λ j. get_or (word_bytes (get_or (packed b n) j 0)) (i % 8) 0) here
            ∙ byte_in (n / 8) (packed_word b (n % 8)) (n % 8) (i % 8) (last_word part) refl (omega arith) ∙ at_first (n % 8) (8 - n % 8) b 0 (i % 8) 0 (omega (arith, here, within))
      ]

  past_words : (i : ℕ) → length (packed b n) ≤ i / 8 → byte_at (packed b n) i ≡ 0
  past_words i past = ap (λ w. get_or (word_bytes w) (i % 8) 0) (get_or_past (packed b n) (i / 8) 0 past) ∙ zero_bytes (i % 8)

  pub packed_padding : (i : ℕ) → n ≤ i → byte_at (packed b n) i ≡ 0
  packed_padding i past =
      elim (cases_lt (i / 8) ((n + 7) / 8)) [
        | inr beyond ↦ past_words i (omega (arith, packed_count, beyond))
        | inl within ↦
            let here : i / 8 ≡ n / 8 = omega (arith, within, past) in
            let part : n % 8 ≢ 0 = λ e. absurd (omega (arith, e, within, past)) in
            ap (λ j. get_or (word_bytes (get_or (packed b n) j 0)) (i % 8) 0) here
            ∙ byte_in (n / 8) (packed_word b (n % 8)) (n % 8) (i % 8) (last_word part) refl (omega arith) ∙ at_later (n % 8) (8 - n % 8) b (i % 8) (omega (arith, here, past))
      ]

  pub packed_all : bytes_of (packed b n) n ≡ replicate n b
  packed_all = bytes_same (packed b n) n b packed_byte
