-- Threads whose from-segments have words, put together.
use Rattle.std.proofs.Common.{◌≡◌, ℕ, ◌+◌, ◌≤◌, List, [], get_or, Option, ◌⊎◌, sym, ◌∙◌, ap, arith, inl, inr}
use Rattle.territory.specs.Territories.{TerritoryView, segment_at}
use Rattle.directory.specs.declared.table.FromSegment.{FromSegment}
use Rattle.directory.specs.Tables.{entry_in, entry_at, run_of, aside, shown, segment_for}
use Rattle.directory.specs.Numbered.{IsNumbered, HaveWords}

abbrev pub Entries : Type 0
Entries = List (Option FromSegment)

-- no thread
pub have_none : (among : ℕ → Type 0) (territories : List TerritoryView) (tables : List Entries) (first : ℕ) → ((t : ℕ) → among t → ⊥) → HaveWords among territories tables first first
have_none among territories tables first never = record {
  order = omega arith;
  same = λ t n i. absurd (never t i);
  inside = λ t n e i h. absurd (never t i);
  apart = λ t u m n e f w i j a b x y. absurd (never t i);
}

-- one thread
pub have_one : (thread : ℕ) (territories : List TerritoryView) (tables : List Entries) (first next : ℕ) (t : TerritoryView) (table : Entries) → get_or tables thread [] ≡ table → ((n : ℕ) → segment_for territories thread n ≡ segment_at t n) → IsNumbered t table first next → HaveWords (λ u. u ≡ thread) territories tables first next
have_one thread territories tables first next t table put its d =
    let at : (u n : ℕ) → u ≡ thread → entry_at tables u n ≡ entry_in table n = λ u n i. ap (λ v. entry_at tables v n) i ∙ ap (λ v. entry_in v n) put in
    record {
      order = d.order;
      same = λ u n i. ap shown (at u n i) ∙ (d.same n ∙ (ap aside (sym (its n)) ∙ ap (λ v. aside (segment_for territories v n)) (sym i)));
      inside = λ u n e i h. d.inside n e (sym (at u n i) ∙ h);
      apart = λ u v m n e f w i j a b x y. (i ∙ sym j, d.apart m n e f w (sym (at u m i) ∙ a) (sym (at v n j) ∙ b) x y);
    }

-- tables that no longer are the same for other threads alone
pub have_kept : (among : ℕ → Type 0) (territories : List TerritoryView) (old new : List Entries) (first next : ℕ) → ((t : ℕ) → among t → get_or new t [] ≡ get_or old t []) → HaveWords among territories old first next → HaveWords among territories new first next
have_kept among territories old new first next same h =
    let at : (t n : ℕ) → among t → entry_at new t n ≡ entry_at old t n = λ t n i. ap (λ v. entry_in v n) (same t i) in
    record {
      order = h.order;
      same = λ t n i. ap shown (at t n i) ∙ h.same t n i;
      inside = λ t n e i k. h.inside t n e i (sym (at t n i) ∙ k);
      apart = λ t u m n e f w i j a b x y. h.apart t u m n e f w i j (sym (at t m i) ∙ a) (sym (at u n j) ∙ b) x y;
    }

-- the words of some threads, and after them those of others
pub have_both : (among others all : ℕ → Type 0) (territories : List TerritoryView) (tables : List Entries) (first middle next : ℕ) → ((t : ℕ) → all t → among t ⊎ others t) → HaveWords among territories tables first middle → HaveWords others territories tables middle next → HaveWords all territories tables first next
have_both among others all territories tables first middle next cut h k = record {
  order = omega (arith, h.order, k.order);
  same = λ t n i. elim (cut t i) [ inl a ↦ h.same t n a | inr b ↦ k.same t n b ];
  inside = λ t n e i x. elim (cut t i) [
    | inl a ↦ (let r : (first ≤ e.first_word) × (e.first_word + run_of e.size ≤ middle) = h.inside t n e a x in (r.0, omega (arith, r.1, k.order)))
    | inr b ↦ (let r : (middle ≤ e.first_word) × (e.first_word + run_of e.size ≤ next) = k.inside t n e b x in (omega (arith, r.0, h.order), r.1))
  ];
  apart = λ t u m n e f w i j x y v z. elim (cut t i) [
    | inl a ↦ elim (cut u j) [
      | inl b ↦ h.apart t u m n e f w a b x y v z
      | inr b ↦ absurd (omega (arith, v.1, (h.inside t m e a x).1, z.0, (k.inside u n f b y).0))
    ]
    | inr a ↦ elim (cut u j) [
      | inl b ↦ absurd (omega (arith, z.1, (h.inside u n f b y).1, v.0, (k.inside t m e a x).0))
      | inr b ↦ k.apart t u m n e f w a b x y v z
    ]
  ];
}

-- fewer threads
pub have_some : (among some : ℕ → Type 0) (territories : List TerritoryView) (tables : List Entries) (first next : ℕ) → ((t : ℕ) → some t → among t) → HaveWords among territories tables first next → HaveWords some territories tables first next
have_some among some territories tables first next cut h = record {
  order = h.order;
  same = λ t n i. h.same t n (cut t i);
  inside = λ t n e i x. h.inside t n e (cut t i) x;
  apart = λ t u m n e f w i j x y v z. h.apart t u m n e f w (cut t i) (cut u j) x y v z;
}
