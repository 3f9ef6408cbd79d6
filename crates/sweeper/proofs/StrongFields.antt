-- The strong fields of what starts somewhere, as the code counts them.
use Rattle.std.proofs.Common.{◌≡◌, ℕ, ◌<◌, ◌≤◌, true, false, cond, length, get_or, Option, None, Some, IsSome, IfSome, refl, sym, ap, subst, ◌∙◌, arith}
use Rattle.std.proofs.lemmas.Bool.{false≢true}
use Rattle.trace_types.specs.declared.kind.Kind.{Kind}
use Rattle.trace_types.specs.declared.kind.Kind.TheVariants as kind
use Rattle.gc_words.specs.Word.{value_of}
use Rattle.segment.specs.Layout.{HasLength, words_after}
use Rattle.segment.specs.Segments.{Start}
use Rattle.territory.specs.Territories.{IsShaped, words_of}
use Rattle.directory.specs.Directories.{DirectoryView}
use Rattle.sweep_model.specs.World.{is_strong, object_in}
use Rattle.sweeper.specs.Sweepers.{AreStrong, asked_in, if_aside}

pub length_most : (k : Kind) (n : ℕ) → HasLength k n → n ≤ 4000000
length_most kind.Boxed n h = omega (arith, h)
length_most kind.Guard n h = omega (arith, h)
length_most kind.OrderedGuard n h = omega (arith, h)
length_most kind.Vector n h = h
length_most kind.ImmVector n h = h
length_most kind.Bytes n h = h
length_most kind.ImmBytes n h = h
length_most kind.Pair n h = omega (arith, h)
length_most kind.Weak n h = omega (arith, h)
length_most kind.Eph n h = omega (arith, h)
length_most kind.Cell n h = omega (arith, h)

pub if_there : (o : Option Start) (P : Start → Type 0) (s : Start) → o ≡ Some s → IfSome o P → P s
if_there o P s e h = subst (λ z. IfSome z P) e h

-- the length that was read is none above the greatest
pub length_in : (o : Option Start) (s : Start) (len : ℕ) → o ≡ Some s → IsShaped s → IfSome o (λ y. len ≡ y.length)
    → len ≤ 4000000
length_in o s len here shaped is =
    let same : len ≡ s.length = if_there o (λ y. len ≡ y.length) s here is in
    let most : s.length ≤ 4000000 = length_most s.kind s.length shaped.has_length in
    omega (arith, same, most)

-- these fields of it are strong and no others
pub record AreCounted (o : Option Start) (first end : ℕ) : Type 0 where
  pub start : Start
  pub here : o ≡ Some start
  pub order : first ≤ end
  pub within : end ≤ length start.words
  pub strong : (j : ℕ) → first ≤ j → j < end → is_strong start.kind j ≡ true
  pub before : (j : ℕ) → j < first → is_strong start.kind j ≡ false
  pub after : (j : ℕ) → end ≤ j → j < length start.words → is_strong start.kind j ≡ false

pub counted_of : (o : Option Start) (s : Start) (len first end : ℕ) (k : Kind) → o ≡ Some s → IsShaped s
    → IfSome o (λ y. k ≡ y.kind) → IfSome o (λ y. len ≡ y.length) → first ≤ end → end ≤ words_after k len
    → ((i : ℕ) → first ≤ i → i < end → is_strong k i ≡ true) → ((i : ℕ) → i < first → is_strong k i ≡ false)
    → ((i : ℕ) → end ≤ i → i < words_after k len → is_strong k i ≡ false) → AreCounted o first end
counted_of o s len first end k here shaped kind_is length_is order within strong before after =
    let k_is : k ≡ s.kind = if_there o (λ y. k ≡ y.kind) s here kind_is in
    let l_is : len ≡ s.length = if_there o (λ y. len ≡ y.length) s here length_is in
    let words : words_after k len ≡ length s.words =
    ap (λ z. words_after z len) k_is ∙ (ap (words_after s.kind) l_is ∙ sym shaped.its_words) in
    record {
      start = s;
      here = here;
      order = order;
      within = subst (λ z. end ≤ z) words within;
      strong = λ j a b. ap (λ z. is_strong z j) (sym k_is) ∙ strong j a b;
      before = λ j a. ap (λ z. is_strong z j) (sym k_is) ∙ before j a;
      after = λ j a b. ap (λ z. is_strong z j) (sym k_is) ∙ after j a (subst (λ z. j < z) (sym words) b);
    }

-- the same of a start that is known to be there
pub length_some : (o : Option Start) (len : ℕ) → IsSome o → IfSome o IsShaped → IfSome o (λ y. len ≡ y.length) → len ≤ 4000000
length_some None len some shaped is = absurd (false≢true some)
length_some (Some s) len some shaped is = length_in (Some s) s len refl shaped is

pub counted_some : (o : Option Start) (len first end : ℕ) (k : Kind) → IsSome o → IfSome o IsShaped
    → IfSome o (λ y. k ≡ y.kind) → IfSome o (λ y. len ≡ y.length) → first ≤ end → end ≤ words_after k len
    → ((i : ℕ) → first ≤ i → i < end → is_strong k i ≡ true) → ((i : ℕ) → i < first → is_strong k i ≡ false)
    → ((i : ℕ) → end ≤ i → i < words_after k len → is_strong k i ≡ false) → AreCounted o first end
counted_some None len first end k some shaped kind_is length_is order within strong before after = absurd (false≢true some)
counted_some (Some s) len first end k some shaped kind_is length_is order within strong before after =
    counted_of (Some s) s len first end k refl shaped kind_is length_is order within strong before after

module _ (d : DirectoryView) (o : Option Start) (first end : ℕ) (c : AreCounted o first end) where
  plain : (i : ℕ) → is_strong c.start.kind i ≡ false → asked_in d o i ≡ None
  plain i e =
      ap (λ z. asked_in d z i) c.here
      ∙ ap (λ z. if_aside d (object_in (cond z (value_of (get_or c.start.words i 0)) None))) e

  -- what no strong field is asks for nothing
  pub before_asks_none : (i : ℕ) → i < first → asked_in d o i ≡ None
  before_asks_none i a = plain i (c.before i a)

  pub after_asks_none : (i : ℕ) → end ≤ i → i < length (words_of o) → asked_in d o i ≡ None
  after_asks_none i a b = plain i (c.after i a (subst (λ z. i < length (words_of z)) c.here b))

  pub strong_from : (from : ℕ) → first ≤ from → AreStrong o from end
  strong_from from h = subst (λ z. AreStrong z from end) (sym c.here) (λ i a b. c.strong i (omega (arith, h, a)) b)

  pub end_within : end ≤ length (words_of o)
  end_within = subst (λ z. end ≤ length (words_of z)) (sym c.here) c.within
