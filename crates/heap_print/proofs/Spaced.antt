-- Bytes that are printed one after the other.
use Rattle.std.proofs.Common.{◌≡◌, ℕ, ◌+◌, ◌/◌, ◌%◌, List, [], ◌∷◌, ◌++◌, flat_map, get_or, append_assoc, sym, ap, ◌∙◌, arith}
use Rattle.std.specs.Int.{w64, to_le_bytes}
use Rattle.std.proofs.lemmas.List.FromFn.{map-range_with_len_more}
use Rattle.std.proofs.lemmas.Grind.{flat_map-append}
use Rattle.heap_store.specs.Starts.{word_bytes, byte_at, bytes_of}
use Rattle.heap_print.specs.Lines.{spaced_byte}

byte_is : (words bytes : List ℕ) (n w : ℕ) → bytes ≡ to_le_bytes w64 w → w ≡ get_or words (n / 8) 0 → get_or bytes (n % 8) 0 ≡ byte_at words n
unfolding word_bytes
byte_is words bytes n w told is = ap (λ (bs : List ℕ). get_or bs (n % 8) 0) (told ∙ ap (to_le_bytes w64) is)

pub one_more : (words bytes : List ℕ) (n w : ℕ) (old before after : List ℕ) → bytes ≡ to_le_bytes w64 w → w ≡ get_or words (n / 8) 0 →
    before ≡ old ++ flat_map spaced_byte (bytes_of words n) → after ≡ before ++ spaced_byte (get_or bytes (n % 8) 0) →
    after ≡ old ++ flat_map spaced_byte (bytes_of words (n + 1))
one_more words bytes n w old before after told is was byte =
    let more : bytes_of words (n + 1) ≡ bytes_of words n ++ byte_at words n ∷ [] = map-range_with_len_more (byte_at words) 0 n n (omega arith) in
    byte ∙ ap (λ (b : ℕ). before ++ spaced_byte b) (byte_is words bytes n w told is)
    ∙ ap (λ (t : List ℕ). t ++ spaced_byte (byte_at words n)) was
    ∙ append_assoc old (flat_map spaced_byte (bytes_of words n)) (spaced_byte (byte_at words n))
    ∙ ap (λ (t : List ℕ). old ++ t) (sym (flat_map-append spaced_byte (bytes_of words n) (byte_at words n ∷ [])))
    ∙ ap (λ (bs : List ℕ). old ++ flat_map spaced_byte bs) (sym more)
