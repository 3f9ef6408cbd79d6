-- Bytes that are packed eight to a word.
use Rattle.std.proofs.Common.{◌≡◌, ◌≢◌, ℕ, zero, suc, ◌/◌, ◌%◌, ◌<◌, List, [], ◌∷◌, length, set, replicate, get_or, refl, sym, ◌∙◌, ap, arith, inl, inr, get_or-set_same, get_or-set_other}
use Rattle.std.specs.Int.{w64, from_le_bytes, bytes_low_first}
use Rattle.std.proofs.lemmas.Bool.{cases_eq}
use Rattle.std.proofs.lemmas.List.{ext_get_or, length-set, length-replicate, get_or-replicate}
use Rattle.std.proofs.lemmas.List.FromFn.{length-map-range_with_len, get_or-map-range_with_len}
use Rattle.std.proofs.lemmas.Nat.{le_bytes_8}
use Rattle.heap_store.specs.Starts.{word_bytes, byte_at, bytes_of}

-- ---- the bytes of one word

low_bytes_small : (i k n j : ℕ) → get_or (bytes_low_first i k n) j 0 < 256
low_bytes_small i zero n j = omega arith
low_bytes_small zero (suc k) n zero = omega arith
low_bytes_small (suc i) (suc k) n zero = omega arith
low_bytes_small i (suc k) n (suc j) = low_bytes_small (suc i) k n j

pub bytes_small : (w j : ℕ) → get_or (word_bytes w) j 0 < 256
unfolding word_bytes
bytes_small w j = low_bytes_small 0 8 w j

pub bytes_count : (w : ℕ) → length (word_bytes w) ≡ 8
unfolding word_bytes
bytes_count w = refl

set_small : (bs : List ℕ) (k b : ℕ) → b < 256 → ((j : ℕ) → get_or bs j 0 < 256) → (j : ℕ) → get_or (set bs k b) j 0 < 256
set_small [] k b less small j = small j
set_small (c ∷ bs) zero b less small zero = less
set_small (c ∷ bs) zero b less small (suc j) = small (suc j)
set_small (c ∷ bs) (suc k) b less small zero = small zero
set_small (c ∷ bs) (suc k) b less small (suc j) = set_small bs k b less (λ i. small (suc i)) j

-- the bytes of a word that was made of eight bytes
pub bytes_back : (bs : List ℕ) (w : ℕ) → length bs ≡ 8 → ((j : ℕ) → get_or bs j 0 < 256) → w ≡ from_le_bytes w64 bs → word_bytes w ≡ bs
unfolding word_bytes
bytes_back bs w count small is = le_bytes_8 bs w count small is

-- the bytes of a word with one byte changed
pub bytes_set : (w w' k b : ℕ) → b < 256 → w' ≡ from_le_bytes w64 (set (word_bytes w) k b) → word_bytes w' ≡ set (word_bytes w) k b
bytes_set w w' k b less is =
    bytes_back (set (word_bytes w) k b) w' (length-set (word_bytes w) k b ∙ bytes_count w) (set_small (word_bytes w) k b less (bytes_small w)) is

-- ---- the bytes of words

-- one byte of one word changed: that byte changed, and no other
pub byte_set_same : (words : List ℕ) (i w' b : ℕ) → i / 8 < length words → word_bytes w' ≡ set (word_bytes (get_or words (i / 8) 0)) (i % 8) b → byte_at (set words (i / 8) w') i ≡ b
byte_set_same words i w' b within is =
    ap (λ w. get_or (word_bytes w) (i % 8) 0) (get_or-set_same words (i / 8) w' 0 within)
    ∙ ap (λ bs. get_or bs (i % 8) 0) is
    ∙ get_or-set_same (word_bytes (get_or words (i / 8) 0)) (i % 8) b 0 (omega (arith, bytes_count (get_or words (i / 8) 0)))

pub byte_set_other : (words : List ℕ) (i j w' b : ℕ) → j ≢ i → i / 8 < length words → word_bytes w' ≡ set (word_bytes (get_or words (i / 8) 0)) (i % 8) b → byte_at (set words (i / 8) w') j ≡ byte_at words j
byte_set_other words i j w' b ne within is =
    elim (cases_eq (j / 8) (i / 8)) [
      | inl e ↦
          let apart : j % 8 ≢ i % 8 = λ same. ne (omega (arith, e, same)) in
          ap (λ n. get_or (word_bytes (get_or (set words (i / 8) w') n 0)) (j % 8) 0) e
          ∙ ap (λ w. get_or (word_bytes w) (j % 8) 0) (get_or-set_same words (i / 8) w' 0 within)
          ∙ ap (λ bs. get_or bs (j % 8) 0) is
          ∙ get_or-set_other (word_bytes (get_or words (i / 8) 0)) (i % 8) (j % 8) b 0 apart
          ∙ ap (λ n. get_or (word_bytes (get_or words n 0)) (j % 8) 0) (sym e)
      | inr other ↦ ap (λ w. get_or (word_bytes w) (j % 8) 0) (get_or-set_other words (i / 8) (j / 8) w' 0 other)
    ]

pub bytes_of_set : (words : List ℕ) (n i w' b : ℕ) → i / 8 < length words → word_bytes w' ≡ set (word_bytes (get_or words (i / 8) 0)) (i % 8) b → bytes_of (set words (i / 8) w') n ≡ set (bytes_of words n) i b
bytes_of_set words n i w' b within is =
    ext_get_or 0 (bytes_of (set words (i / 8) w') n) (set (bytes_of words n) i b)
    (length-map-range_with_len (byte_at (set words (i / 8) w')) 0 n ∙ sym (length-set (bytes_of words n) i b ∙ length-map-range_with_len (byte_at words) 0 n))
    (λ j below.
    let less : j < n = omega (arith, below, length-map-range_with_len (byte_at (set words (i / 8) w')) 0 n) in
    get_or-map-range_with_len (byte_at (set words (i / 8) w')) 0 n j j 0 less (omega arith)
    ∙ elim (cases_eq j i) [
      | inl e ↦
          let here : i < length (bytes_of words n) = omega (arith, e, less, length-map-range_with_len (byte_at words) 0 n) in
          ap (byte_at (set words (i / 8) w')) e ∙ byte_set_same words i w' b within is ∙ sym (get_or-set_same (bytes_of words n) i b 0 here) ∙ ap (λ k. get_or (set (bytes_of words n) i b) k 0) (sym e)
      | inr ne ↦
          byte_set_other words i j w' b ne within is
          ∙ sym (get_or-set_other (bytes_of words n) i j b 0 ne ∙ get_or-map-range_with_len (byte_at words) 0 n j j 0 less (omega arith))
    ])

-- where each byte is the same one, there are n of it
pub bytes_same : (words : List ℕ) (n b : ℕ) → ((i : ℕ) → i < n → byte_at words i ≡ b) → bytes_of words n ≡ replicate n b
bytes_same words n b same =
    ext_get_or 0 (bytes_of words n) (replicate n b) (length-map-range_with_len (byte_at words) 0 n ∙ sym (length-replicate n b))
    (λ i below.
    let less : i < n = omega (arith, below, length-map-range_with_len (byte_at words) 0 n) in
    get_or-map-range_with_len (byte_at words) 0 n i i 0 less (omega arith) ∙ same i less ∙ sym (get_or-replicate n i b 0 less))

-- byte i of the first n
pub byte_of_bytes : (words : List ℕ) (n i : ℕ) → i < n → get_or (bytes_of words n) i 0 ≡ byte_at words i
byte_of_bytes words n i less = get_or-map-range_with_len (byte_at words) 0 n i i 0 less (omega arith)
