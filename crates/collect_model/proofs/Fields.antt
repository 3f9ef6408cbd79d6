-- The fields of an object read as before, and its words are laid out, where it stands in the end.
use Rattle.std.proofs.Common.{◌≡◌, ℕ, ◌<◌, ◌≤◌, Bool, true, false, cond, List, map, length, get_or, pos, IsTrue, None, sym, ◌∙◌, ap, subst, inl, inr}
use Rattle.std.specs.List.{AllByRecursion}
use Rattle.std.proofs.lemmas.Bool.{both_ways}
use Rattle.std.proofs.lemmas.Grind.{same_number_lists}
use Rattle.gc_words.specs.declared.value.Value.{Value}
use Rattle.gc_words.specs.Word.{value_of}
use Rattle.trace_types.specs.declared.kind.Kind.{Kind}
use Rattle.trace_types.specs.Values.{fixnum, has_bytes}
use Rattle.segment.specs.Layout.{HasLength, words_after}
use Rattle.segment.specs.Segments.{Start}
use Rattle.gc_mail.specs.declared.message.Slot.TheVariants as back
use Rattle.sweep_model.specs.World.{World, IsWorld, asks, if_collected, is_strong, object_in, strong_value}
use Rattle.sweep_model.specs.Hands.{Hand, field_of}
use Rattle.heap_store.specs.Starts.{Starts, IsLaidOut, IsWordThere, byte_at, bytes_of, fields_of, has_values}
use Rattle.heap_store.specs.Plain.{is_plain}
use Rattle.collect_model.specs.Worlds.{HasEnded}
use Rattle.collect_model.proofs.PlainKinds.{HasBytes, HasFields, fields_of-bytes, fields_of-words, fields_or_bytes, strong_value_is}
use Rattle.collect_model.proofs.Landing.{Lands}
use Rattle.collect_model.proofs.Rereading.{ReadsAs, reads_again, word_there, words_again}

-- ---- an object in the end

-- the fields of y in g read as those of x in f, and its words are laid out
pub record IsAgain (f g : Starts) (x y : Start) : Type 0 where
  pub fields : fields_of g y ≡ fields_of f x
  pub laid_out : IsLaidOut g y

same_size : (k k' : Kind) (m n : ℕ) → k' ≡ k → n ≡ m → HasLength k m → HasLength k' n
same_size k k' m n kind size has = rw (kind, size) has

-- it is laid out where its words are there and nothing but zeros follows its bytes
laid_again : (f g : Starts) (x y : Start) → y.kind ≡ x.kind → y.length ≡ x.length
    → length y.words ≡ length x.words → IsLaidOut f x
    → (IsTrue (has_values y.kind) → AllByRecursion (IsWordThere g) y.words)
    → (IsTrue (has_bytes y.kind) → (i : ℕ) → y.length ≤ i → byte_at y.words i ≡ 0) → IsLaidOut g y
laid_again f g x y kind size count laid values padding = record {
  sized = same_size x.kind y.kind x.length y.length kind size laid.sized;
  words = count ∙ laid.words ∙ (λ i. words_after (sym kind i) (sym size i));
  values = values;
  padding = padding;
}

module _ (world : World) (hands : ℕ → Hand) (g : Starts) (registers : List Value) (good : IsWorld world)
    (ended : HasEnded world hands g registers) (x p : ℕ) (l : Lands world hands g x p) where
  abbrev old : Start
  old = l.kept.old

  abbrev new : Start
  new = l.kept.new

  -- what a field asks for
  field_asks : (i : ℕ) (b : Bool) → is_strong old.kind i ≡ b
      → asks world (back.Field i x)
      ≡ if_collected world (object_in (cond b (value_of (get_or old.words i 0)) None))
  field_asks i b is =
      ap (λ o. if_collected world (object_in o))
      (ap (λ o. strong_value o i) l.kept.was ∙ strong_value_is old i b is)

  -- each word with a value reads as before
  word_again : HasFields old.kind → AllByRecursion (IsWordThere world.image) old.words → (i : ℕ)
      → i < length old.words
      → ReadsAs world.image g (value_of (get_or old.words i 0)) (value_of (get_or new.words i 0))
  word_again has there i below =
      reads_again world hands g registers good ended
      (value_of (get_or old.words i 0)) (value_of (get_or new.words i 0)) (asks world (back.Field i x))
      (word_there world.image old.words there i below)
      (sym (field_asks i true (has.strong i)))
      (λ none. ap value_of (l.kept.plain i none))
      (λ t wants.
      let f = ended.done.fields x p i t l.at wants in
      (f.0, f.1, sym (ap (λ o. field_of o i) l.kept.is) ∙ f.2))

  values_are : HasFields old.kind → IsLaidOut world.image old → IsAgain world.image g old new
  values_are has laid =
      let has_new : HasFields new.kind = subst HasFields (sym l.kept.kind) has in
      let words = words_again world.image g old.words new.words l.kept.words
      (word_again has (laid.values has.values)) in
      record {
        fields = fields_of-words g new has_new ∙ words.1 ∙ sym (fields_of-words world.image old has);
        laid_out = laid_again world.image g old new l.kept.kind l.kept.size l.kept.words laid (λ v. words.0)
            (λ bytes. absurd (both_ways (has_bytes new.kind) has_new.no_bytes bytes));
      }

  -- where no word is a field, all are the same
  same_words : HasBytes old.kind → new.words ≡ old.words
  same_words has = same_number_lists new.words old.words l.kept.words (λ i below.
      l.kept.plain i (field_asks i false (has.no_strong i)))

  bytes_are : HasBytes old.kind → IsLaidOut world.image old → IsAgain world.image g old new
  bytes_are has laid =
      let has_new : HasBytes new.kind = subst HasBytes (sym l.kept.kind) has in
      record {
        fields = fields_of-bytes g new has_new.bytes
            ∙ (λ i. map (λ b. fixnum (pos b)) (bytes_of (same_words has i) (l.kept.size i)))
            ∙ sym (fields_of-bytes world.image old has.bytes);
        laid_out = laid_again world.image g old new l.kept.kind l.kept.size l.kept.words laid
            (λ v. absurd (both_ways (has_values new.kind) has_new.no_values v))
            (λ bytes i past. ap (λ ws. byte_at ws i) (same_words has)
            ∙ laid.padding has.bytes i (subst (λ n. n ≤ i) l.kept.size past));
      }

  -- an object of either sort is as it was
  pub again : is_plain l.kept.old.kind ≡ true → IsLaidOut world.image l.kept.old
      → IsAgain world.image g l.kept.old l.kept.new
  again is laid = elim (fields_or_bytes old.kind is) [
    | inl has ↦ values_are has laid
    | inr has ↦ bytes_are has laid
  ]
