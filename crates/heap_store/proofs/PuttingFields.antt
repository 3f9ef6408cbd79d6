-- A byte put into a byte object.
use Rattle.std.proofs.Common.{◌≡◌, ℕ, ◌/◌, ◌%◌, ◌<◌, pos, true, cond, List, set, get_or, IsSome, IfSome, Option, Some, None, refl, sym, ◌∙◌, ap, arith}
use Rattle.std.specs.FinMap.{get}
use Rattle.std.specs.Int.{w64, to_le_bytes, from_le_bytes}
use Rattle.std.proofs.lemmas.Bool.{false≢true}
use Rattle.gc_words.specs.declared.value.Value.{Value}
use Rattle.gc_words.specs.declared.value.Value.TheVariants as word
use Rattle.trace_types.specs.Values.{has_bytes}
use Rattle.segment.specs.Segments.{Start}
use Rattle.territory.specs.Territories.{TerritoryView, words_of, with_word, TellsLower, AreCardsSound}
use Rattle.heap_store.specs.Starts.{word_bytes}
use Rattle.heap_store.specs.Fields.{IsPut}
use Rattle.heap_store.proofs.Bytes.{bytes_set}

-- the bytes of the new word
byte_word : (w w' k b : ℕ) (bytes : List ℕ) → b < 256 → bytes ≡ to_le_bytes w64 w → w' ≡ from_le_bytes w64 (set bytes k b) → word_bytes w' ≡ set (word_bytes w) k b
unfolding word_bytes
byte_word w w' k b bytes less are is = bytes_set w w' k b less (is ∙ ap (λ bs. from_le_bytes w64 (set bs k b)) are)

pub byte_put : (old new : TerritoryView) (a i len b w w' mark : ℕ) (v : Value) (bytes : List ℕ) → IsSome (get old.starts a) → IfSome (get old.starts a) (λ x. has_bytes x.kind ≡ true) → IfSome (get old.starts a) (λ x. len ≡ x.length)
    → i < len → v ≡ word.Fixnum (pos b) → b < 256 → w ≡ get_or (words_of (get old.starts a)) (i / 8) 0 → bytes ≡ to_le_bytes w64 w → w' ≡ from_le_bytes w64 (set bytes (i % 8) b) → new ≡ with_word old a (i / 8) w' mark
    → ((g : ℕ → Option ℕ) → TellsLower g (get old.starts a) w' mark → AreCardsSound g old → AreCardsSound g new)
    → (refers : ℕ) → IfSome (get old.starts a) (λ x. IsPut old new a x i v refers)
byte_put old new a i len b w w' mark v bytes there kind count less value small got are is put sound refers = by_start (get old.starts a) refl there kind count
  where
    by_start : (o : Option Start) → get old.starts a ≡ o → IsSome o → IfSome o (λ x. has_bytes x.kind ≡ true) → IfSome o (λ x. len ≡ x.length) → IfSome o (λ x. IsPut old new a x i v refers)
    by_start None e some k n = absurd (false≢true some)
    by_start (Some x) e some k n = record {
      within = omega (arith, less, n);
      put_word = w';
      mark = mark;
      put = put ∙ ap (λ j. with_word old a j w' mark) (sym (ap (λ c. cond c (i / 8) i) k));
      sound = sound;
      value = λ none. absurd (false≢true (sym none ∙ k));
      byte = λ _. (b, small, value, byte_word w w' (i % 8) b bytes small are is ∙ ap (λ u. set (word_bytes u) (i % 8) b) (got ∙ ap (λ o. get_or (words_of o) (i / 8) 0) e));
    }
