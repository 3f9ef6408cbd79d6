-- What the words of an object ask for.
use Rattle.std.proofs.Common.{◌≡◌, ℕ, ◌<◌, ◌≤◌, true, cond, length, slice_index, Option, None, Some, IfNone, IfSome, ap, ◌∙◌, arith}
use Rattle.std.specs.Prelude.{is_some}
use Rattle.gc_words.specs.Word.{value_of}
use Rattle.segment.specs.Segments.{Start}
use Rattle.territory.specs.Territories.{words_of}
use Rattle.directory.specs.declared.directory.Found.{Found}
use Rattle.directory.specs.Directories.{DirectoryView, found_at}
use Rattle.directory.proofs.Finding.{found_none, found_some}
use Rattle.sweep_model.specs.World.{is_strong, object_in}
use Rattle.sweeper.specs.declared.fields.Asked.{Asked}
use Rattle.sweeper.specs.Sweepers.{AreStrong, asked_by, asked_in, if_aside}

-- ---- a word

-- nothing that it refers to, or nothing in a from-segment
pub refers_not : (d : DirectoryView) (word : ℕ) → object_in (value_of word) ≡ None → asked_by d word ≡ None
refers_not d word e = ap (if_aside d) e

pub lies_elsewhere : (d : DirectoryView) (word t : ℕ) → object_in (value_of word) ≡ Some t → found_at d t ≡ None
    → asked_by d word ≡ None
lies_elsewhere d word t e none =
    ap (if_aside d) e ∙ ap (λ o. cond (is_some o) (Some t) None) (found_none d t none)

-- something in a from-segment
pub lies_aside : (d : DirectoryView) (word t : ℕ) (f : Found) → object_in (value_of word) ≡ Some t → found_at d t ≡ Some f
    → asked_by d word ≡ Some t
lies_aside d word t f e is =
    ap (if_aside d) e ∙ ap (λ o. cond (is_some o) (Some t) None) (found_some d t f is).lies

-- ---- the words of an object

-- a strong field asks for what its word asks for
pub asked_word : (d : DirectoryView) (s : Start) (i : ℕ) → is_strong s.kind i ≡ true
    → asked_in d (Some s) i ≡ asked_by d (slice_index s.words i)
asked_word d s i e = ap (λ b. if_aside d (object_in (cond b (value_of (slice_index s.words i)) None))) e

module _ (d : DirectoryView) (o : Option Start) (from end : ℕ) (within : end ≤ length (words_of o))
    (strong : AreStrong o from end) where
  pub asked_there : (i : ℕ) → from ≤ i → i < end → asked_in d o i ≡ asked_by d (slice_index (words_of o) i)
  asked_there i a b = there o within strong
    where
      there : (o : Option Start) → end ≤ length (words_of o) → AreStrong o from end
          → asked_in d o i ≡ asked_by d (slice_index (words_of o) i)
      there None within strong = absurd (omega (arith, within, b))
      there (Some s) within strong = asked_word d s i (strong i a b)

  -- the same of what was found among the words
  pub asked_target : (r : Option Asked) → IfSome r (λ a. (from ≤ a.index) × (a.index < end))
      → IfSome r (λ a. asked_by d (slice_index (words_of o) a.index) ≡ Some a.target)
      → IfSome r (λ a. asked_in d o a.index ≡ Some a.target)
  asked_target None inside target = tt
  asked_target (Some a) inside target = asked_there a.index inside.0 inside.1 ∙ target

  pub asked_first : (r : Option Asked) → IfSome r (λ a. (from ≤ a.index) × (a.index < end))
      → IfSome r (λ a. (i : ℕ) → from ≤ i → i < a.index → asked_by d (slice_index (words_of o) i) ≡ None)
      → IfSome r (λ a. (i : ℕ) → from ≤ i → i < a.index → asked_in d o i ≡ None)
  asked_first None inside none = tt
  asked_first (Some a) inside none = λ i h k. asked_there i h (omega (arith, k, inside.1)) ∙ none i h k

  pub asked_none : (r : Option Asked) → IfNone r ((i : ℕ) → from ≤ i → i < end → asked_by d (slice_index (words_of o) i) ≡ None)
      → IfNone r ((i : ℕ) → from ≤ i → i < end → asked_in d o i ≡ None)
  asked_none None none = λ i a b. asked_there i a b ∙ none i a b
  asked_none (Some a) none = tt
