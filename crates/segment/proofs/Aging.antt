-- The cards of older objects: a segment with raised cards is sound, and where a word under a dirty card is found.
use Rattle.std.proofs.Common.{◌≡◌, ℕ, ◌+◌, ◌-◌, ◌*◌, ◌<◌, ◌≤◌, Bool, false, List, length, get_or, take, drop, sym, ◌∙◌, ap, subst, arith}
use Rattle.std.proofs.lemmas.List.{get_or_read}
use Rattle.gc_words.specs.declared.address.TheConstants.{OFFSETS}
use Rattle.trace_types.specs.declared.kind.Kind.{Kind}
use Rattle.cards.specs.Cards.{has_mark, raised_bytes}
use Rattle.cards.proofs.Raised.{length-raised_bytes}
use Rattle.cards.proofs.Marks.{mark_at, clean_at}
use Rattle.segment.specs.Layout.{skip_of, kind_of, length_of, words_after, count_of}
use Rattle.segment.specs.Segments.{Segment, first_at, words_at, is_free, IsStart, IsSound}
use Rattle.segment.specs.Aging.{raised}
use Rattle.segment.proofs.Sizes.{size_covers}
use Rattle.segment.proofs.Spots.{start_in, words_length}

pub IsSound-raised : (p : Segment) (limit to : ℕ) → IsSound p → is_free p.role ≡ false → IsSound (raised limit to p)
IsSound-raised p limit to h used = record {
  small = h.small;
  births = h.births;
  single = h.single;
  marks = h.marks;
  cards = λ some. length-raised_bytes limit to p.cards ∙ h.cards some;
  clean = λ u e. clean_at (raised_bytes limit to p.cards) e;
  dirty = λ e. mark_at (raised_bytes limit to p.cards) e;
  free = λ f. cc;
  unheld = h.unheld;
  laid = record { top_in = h.laid.top_in; even = h.laid.even; zero_above = h.laid.zero_above; loose = h.laid.loose; fit = h.laid.fit; apart = h.laid.apart };
}

pub raised_seen : (p now : Segment) (limit to : ℕ) (cards : List ℕ) (dirty : Bool) → IsSound p → p ≡ now → is_free now.role ≡ false → cards ≡ raised_bytes limit to p.cards → dirty ≡ has_mark cards → IsSound (record p { is_dirty = dirty; cards = cards })
raised_seen p now limit to cards dirty h e used is marked =
    let s : IsSound (raised limit to p) = IsSound-raised p limit to h (ap (λ (v : Segment). is_free v.role) e ∙ used) in
    subst (λ (v : Bool). IsSound (record p { is_dirty = v; cards = cards })) (sym marked) (subst (λ (v : List ℕ). IsSound (record p { is_dirty = has_mark v; cards = v })) (sym is) s)

-- the words of a start lie in the segment
pub words_fit : (p now : Segment) (k : ℕ) → IsSound p → p ≡ now → IsStart now k
    → (2 * k + skip_of p.space + length (words_at now k) ≤ length p.words) × ((2 * k < length p.words) × (length (words_at now k) ≡ count_of p.space (first_at p k)))
words_fit p now k h e start =
    let start' : IsStart p k = subst (λ (v : Segment). IsStart v k) (sym e) start in
    let within : (k < length p.births) × _ × _ = start_in p k h.laid start'.1 in
    let count : length (words_at p k) ≡ count_of p.space (first_at p k) = words_length p k h.laid start'.1 in
    let same : length (words_at now k) ≡ length (words_at p k) = ap (λ (v : Segment). length (words_at v k)) (sym e) in (
      omega (arith, size_covers p.space (first_at p k), within.1, within.2),
      (omega (arith, h.births), same ∙ count),
    )

-- ... and so at offsets that an address has
pub start_fits : (p now : Segment) (k : ℕ) → IsSound p → p ≡ now → IsStart now k → (2 * k + skip_of p.space + length (words_at now k) ≤ OFFSETS) × (2 * k < length p.words)
start_fits p now k h e start = let fit = words_fit p now k h e start in (omega (arith, fit.0, h.small), fit.1.0)

-- the part of the segment's words that begins at the first word of a start is its words
pub fields_are : (p now : Segment) (k s n : ℕ) (words : List ℕ) → IsSound p → p ≡ now → IsStart now k → s ≡ skip_of p.space → n ≡ length (words_at now k)
    → words ≡ p.words → take (2 * k + s + n - (2 * k + s)) (drop (2 * k + s) words) ≡ words_at now k
fields_are p now k s n words h e start is count read =
    let long : 2 * k + s + n - (2 * k + s) ≡ count_of p.space (first_at p k) = omega (arith, count, (words_fit p now k h e start).1.1) in
    ap (λ v. take v (drop (2 * k + s) words)) long
    ∙ (ap (λ v. take (count_of p.space (first_at p k)) (drop (2 * k + v) words)) is
    ∙ (ap (λ (v : List ℕ). take (count_of p.space (first_at p k)) (drop (2 * k + skip_of p.space) v)) read
    ∙ ap (λ (v : Segment). words_at v k) e))

pub count_is : (p now : Segment) (k first n count : ℕ) (kind : Kind) → IsSound p → p ≡ now → IsStart now k → first ≡ get_or p.words (2 * k) first → kind ≡ kind_of p.space first → n ≡ length_of p.space first → count ≡ words_after kind n → count ≡ length (words_at now k)
unfolding count_of
count_is p now k first n count kind h e start read ek en is =
    let start' : IsStart p k = subst (λ (v : Segment). IsStart v k) (sym e) start in
    let first_is : first ≡ first_at p k = get_or_read p.words (2 * k) first (start_fits p now k h e start).1 read 0 in
    is
    ∙ (ap (λ v. words_after v n) ek ∙ (ap (words_after (kind_of p.space first)) en ∙ (ap (count_of p.space) first_is
    ∙ (sym (words_length p k h.laid start'.1) ∙ ap (λ (v : Segment). length (words_at v k)) e))))
