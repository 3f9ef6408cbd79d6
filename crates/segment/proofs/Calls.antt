-- What the calls of `Segment` owe, over plain variables: `p` is the segment's fields, `now` what a contract sees.
use Rattle.std.proofs.Common.{◌≡◌, ℕ, ◌+◌, ◌*◌, ◌<◌, length, set, replicate, Bool, true, false, List, sym, ◌∙◌, ap, subst, arith}
use Rattle.cards.specs.Cards.{card_of, card_count}
use Rattle.segment.specs.Layout.{skip_of, count_of, size_of}
use Rattle.segment.specs.declared.segment.Role.TheVariants.{Current, From}
use Rattle.segment.specs.Segments.{Segment, first_at, words_at, is_free, IsStart, IsSound, HasRoom, grown, marked_at, marked_births, kept_marked, start_at, kept_spot}
use Rattle.segment.proofs.Sizes.{size_covers}
use Rattle.segment.proofs.Changes.{IsSound-put, IsSound-grown}
use Rattle.segment.proofs.Collected.{IsSound-marked, IsSound-kept, spot_kept_all}
use Rattle.segment.proofs.Spots.{in_words, start_in}

pub put_seen : (p now : Segment) (k index s w : ℕ) → IsSound p → p ≡ now → IsStart now k → index < length (words_at now k) → s ≡ skip_of p.space
    → IsSound (record p { words = set p.words (2 * k + s + index) w })
put_seen p now k index s w h e start i is =
    let start' : IsStart p k = subst (λ (v : Segment). IsStart v k) (sym e) start in
    let i' : index < length (words_at p k) = subst (λ (v : Segment). index < length (words_at v k)) (sym e) i in
    subst (λ v. IsSound (record p { words = set p.words (2 * k + v + index) w })) (sym is) (IsSound-put p k index w h start'.1 (in_words p k index i'))

pub grown_seen : (p now : Segment) (first size birth : ℕ) → IsSound p → p ≡ now → HasRoom now size → size ≡ size_of now.space first → IsSound (grown p first size birth)
grown_seen p now first size birth h e room is =
    let is' : size ≡ size_of p.space first = is ∙ ap (λ (v : Segment). size_of v.space first) (sym e) in
    IsSound-grown p first size birth h is' (subst (λ v. HasRoom v size) (sym e) room)

-- a word of a start has a card
pub card_seen : (p now : Segment) (k index s : ℕ) → IsSound p → p ≡ now → IsStart now k → index < length (words_at now k) → s ≡ skip_of p.space → card_of (2 * k + s + index) < length p.cards
card_seen p now k index s h e start i is =
    let start' : IsStart p k = subst (λ (v : Segment). IsStart v k) (sym e) start in
    let i' : index < count_of p.space (first_at p k) = in_words p k index (subst (λ (v : Segment). index < length (words_at v k)) (sym e) i) in
    let within = start_in p k h.laid start'.1 in
    let cards : length p.cards ≡ card_count (length p.words) = h.cards (omega (arith, within.0)) in
    omega (arith, size_covers p.space (first_at p k), within.1, within.2)

pub marked_seen : (p now : Segment) (k index s g : ℕ) (cards : List ℕ) → IsSound p → p ≡ now → IsStart now k → index < length (words_at now k) → s ≡ skip_of p.space → g < 255
    → cards ≡ (marked_at p (2 * k + s + index) g).cards → IsSound (record p { is_dirty = true; cards = cards })
marked_seen p now k index s g cards h e start i is small marked =
    subst (λ (v : List ℕ). IsSound (record p { is_dirty = true; cards = v })) (sym marked)
    (IsSound-marked p (2 * k + s + index) g h (ap (λ (v : Segment). is_free v.role) e ∙ start.0) (card_seen p now k index s h e start i is) small)

pub kept_seen : (p now : Segment) (g n : ℕ) (births : List ℕ) (marks : List Bool) → IsSound p → p ≡ now → now.role ≡ From → births ≡ marked_births p.births p.marks → marks ≡ replicate n false → n ≡ length p.marks
    → IsSound (record p { generation = g; role = Current; was_held = true; births = births; marks = marks })
kept_seen p now g n births marks h e aside b m long =
    let k : IsSound (kept_marked p g) = IsSound-kept p g h (ap (λ (v : Segment). v.role) e ∙ aside) in
    subst (λ (v : List ℕ). IsSound (record p { generation = g; role = Current; was_held = true; births = v; marks = marks })) (sym b)
    (subst (λ (v : List Bool). IsSound (record p { generation = g; role = Current; was_held = true; births = marked_births p.births p.marks; marks = v })) (sym (m ∙ ap (λ v. replicate v false) long)) k)

pub kept_starts : (p now : Segment) (g k : ℕ) (births : List ℕ) (marks : List Bool) → IsSound p → p ≡ now → now.role ≡ From → births ≡ marked_births p.births p.marks
    → start_at (record p { generation = g; role = Current; was_held = true; births = births; marks = marks }) k ≡ kept_spot now g k
kept_starts p now g k births marks h e aside b =
    let used : is_free p.role ≡ false = ap (λ (v : Segment). is_free v.role) e ∙ ap is_free aside in
    ap (λ (v : List ℕ). start_at (record p { generation = g; role = Current; was_held = true; births = v; marks = marks }) k) b
    ∙ (spot_kept_all p g k h used ∙ ap (λ (v : Segment). kept_spot v g k) e)
