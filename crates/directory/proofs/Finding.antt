-- What finding an address tells.
use Rattle.std.proofs.Common.{◌≡◌, ℕ, Option, Some, None, refl, sym, ◌∙◌, ap}
use Rattle.std.proofs.lemmas.Option.{same_Some}
use Rattle.gc_words.specs.Layout.{offset_of}
use Rattle.directory.specs.declared.table.FromSegment.{FromSegment}
use Rattle.directory.specs.declared.directory.Found.{Found}
use Rattle.directory.specs.Tables.{word_at}
use Rattle.directory.specs.Directories.{DirectoryView, found_at, found_in, from_at, word_in, word_or_0}

-- the address lies in a from-segment of this generation, and has this word
pub record IsFound (d : DirectoryView) (a : ℕ) (f : Found) : Type 0 where
  pub from : FromSegment
  pub lies : from_at d a ≡ Some from
  pub generation : f.generation ≡ from.generation
  pub word : f.word ≡ word_in d a

found_by : (o : Option FromSegment) (offset : ℕ) (f : Found) → found_in o offset ≡ Some f → (from : FromSegment) × (o ≡ Some from) × (record { generation = from.generation; word = word_at from offset } ≡ f)
found_by None offset f e = absurd (let c : None ≡ Some f = e in cc)
found_by (Some from) offset f e = (from, refl, same_Some _ f e)

none_by : (o : Option FromSegment) (offset : ℕ) → found_in o offset ≡ None → o ≡ None
none_by None offset e = refl
none_by (Some from) offset e = absurd (cc)

pub found_some : (d : DirectoryView) (a : ℕ) (f : Found) → found_at d a ≡ Some f → IsFound d a f
found_some d a f e =
    let by = found_by (from_at d a) (offset_of a) f e in
    record {
      from = by.0;
      lies = by.1;
      generation = sym (ap (λ (x : Found). x.generation) by.2);
      word = sym (ap (λ (x : Found). x.word) by.2) ∙ sym (ap (λ o. word_or_0 o (offset_of a)) by.1);
    }

-- an address that is not found lies in no from-segment
pub found_none : (d : DirectoryView) (a : ℕ) → found_at d a ≡ None → from_at d a ≡ None
found_none d a e = none_by (from_at d a) (offset_of a) e
