-- The search for starts under dirty cards.
use Rattle.std.proofs.Common.{◌≡◌, ◌≢◌, ℕ, ◌+◌, ◌*◌, ◌/◌, ◌<◌, ◌≤◌, max, List, length, get_or, false, sym, ◌∙◌, ap, subst, arith, inl, inr}
use Rattle.std.proofs.lemmas.List.{get_or_read}
use Rattle.std.proofs.lemmas.Bool.{cases_eq, cases_lt}
use Rattle.cards.specs.Cards.{card_of, IsDirty, NoneDirty}
use Rattle.segment.specs.Segments.{Segment, size_at, first_at, is_free, IsStart, IsLaid, IsSound, HasDirtyWord, EndsPast}
use Rattle.segment.specs.Layout.{size_of}
use Rattle.segment.proofs.Sizes.{size_pos}
use Rattle.segment.proofs.Spots.{start_in}

-- ---- the start that covers the first word of a card

-- `last` is the greatest birth before the card, and what starts there ends by then: so does what starts earlier
pub covering_none : (p : Segment) (births : List ℕ) (card at last j : ℕ) → IsLaid p → births ≡ p.births → last < at → get_or births last 0 ≢ 0 → ((i : ℕ) → last < i → i < at → get_or births i 0 ≡ 0)
    → 2 * last + size_at p last ≤ 64 * card → j < at → EndsPast p card j → ⊥
covering_none p births card at last j h b low born none ends within past =
    elim (cases_eq j last) [
      | inl same ↦ absurd (let e : size_at p j ≡ size_at p last = ap (size_at p) same in omega arith)
      | inr other ↦
          elim (cases_lt j last) [
            | inl before ↦ absurd (omega (arith, h.apart j last before past.0.1 (λ z. born (ap (λ v. get_or v last 0) b ∙ z))))
            | inr after ↦ absurd (past.0.1 (ap (λ v. get_or v j 0) (sym b) ∙ none j (omega arith) within))
          ]
    ]

-- ---- cards already passed

-- no start from `from` on has a dirty word under a card below this one
abbrev pub NoneBelow : Segment → ℕ → ℕ → ℕ → Type 0
NoneBelow p limit from card =
    (j word : ℕ) → from ≤ j → IsStart p j → 2 * j ≤ word → word < 2 * j + size_at p j → IsDirty p.cards limit (card_of word) → card ≤ card_of word

pub below_first : (p : Segment) (limit from : ℕ) → NoneBelow p limit from (from / 32)
below_first p limit from = λ j word h start low high dirty. omega arith

pub below_dirty : (p : Segment) (cards : List ℕ) (limit from card dirty : ℕ) → cards ≡ p.cards → NoneBelow p limit from card → NoneDirty cards limit card dirty → NoneBelow p limit from dirty
below_dirty p cards limit from card dirty e below none = λ j word h start low high is.
    elim (cases_lt (card_of word) dirty) [
      | inl lt ↦ absurd (let b = none (card_of word) (below j word h start low high is) lt in let c = ap (λ v. get_or v (card_of word) 0) e in omega (arith, is.1))
      | inr ge ↦ ge
    ]

-- where nothing from `from` on ends past the card, nothing more is found
pub below_none : (p : Segment) (limit from dirty j : ℕ) → NoneBelow p limit from dirty → from ≤ j → (EndsPast p dirty j → ⊥) → HasDirtyWord p limit j → ⊥
below_none p limit from dirty j below h ends has =
    ends (has.0, omega (arith, below j has.1.0 h has.0 has.1.1 has.1.2 has.1.3))

pub below_end : (p : Segment) (cards : List ℕ) (limit from card j : ℕ) → cards ≡ p.cards → NoneBelow p limit from card → NoneDirty cards limit card (length cards) → from ≤ j → HasDirtyWord p limit j → ⊥
below_end p cards limit from card j e below none h has =
    let below_all : NoneBelow p limit from (length cards) = below_dirty p cards limit from card (length cards) e below none in
    absurd (omega (arith, ap (length {A = ℕ}) e, below_all j has.1.0 h has.0 has.1.1 has.1.2 has.1.3, has.1.3.0))

pub below_next : (p : Segment) (limit from dirty k : ℕ) → NoneBelow p limit from dirty → ((j : ℕ) → from ≤ j → j < k → EndsPast p dirty j → ⊥) → NoneBelow p limit from (k / 32)
below_next p limit from dirty k below least = λ j word h start low high is.
    elim (cases_lt j k) [
      | inl lt ↦ absurd (least j h lt (start, omega (arith, below j word h start low high is)))
      | inr ge ↦ omega arith
    ]

-- a start on the dirty card, or one that covers its first word
pub found : (p : Segment) (cards : List ℕ) (limit dirty k : ℕ) → cards ≡ p.cards → EndsPast p dirty k → k / 32 ≤ dirty → IsDirty cards limit dirty → HasDirtyWord p limit k
found p cards limit dirty k e past near is =
    let some : 2 ≤ size_at p k = size_pos p.space (first_at p k) in
    let card : card_of (max (2 * k) (64 * dirty)) ≡ dirty = grind arith in
    (past.0, (max (2 * k) (64 * dirty), grind arith, grind arith, subst (λ v. IsDirty p.cards limit v) (sym card) (subst (λ (v : List ℕ). IsDirty v limit dirty) e is)))

-- ---- over a segment's fields `p` and what a contract sees of them, `now`

pub covering_seen : (p now : Segment) (births : List ℕ) (card at last first size j : ℕ) → IsSound p → p ≡ now → births ≡ p.births → last < at → get_or births last 0 ≢ 0 → ((i : ℕ) → last < i → i < at → get_or births i 0 ≡ 0)
    → 2 * last < length p.words → first ≡ get_or p.words (2 * last) first → size ≡ size_of p.space first → 2 * last + size ≤ 64 * card → (j < length p.births → j < at) → EndsPast now card j → ⊥
covering_seen p now births card at last first size j h e b low born none inside read is before within past =
    let first_is : first ≡ first_at p last = get_or_read p.words (2 * last) first inside read 0 in
    let size_is : size ≡ size_at p last = is ∙ ap (size_of p.space) first_is in
    let past' : EndsPast p card j = subst (λ (v : Segment). EndsPast v card j) (sym e) past in
    covering_none p births card at last j h.laid b low born none (omega arith) (within (start_in p j h.laid past'.0.1).0) past'

pub after_seen : (p now : Segment) (births : List ℕ) (from card k : ℕ) → IsSound p → p ≡ now → births ≡ p.births → is_free now.role ≡ false → max from (card * 32) ≤ k → get_or births k 0 ≢ 0 → (from ≤ k) × EndsPast now card k
after_seen p now births from card k h e b used above born =
    let bn : get_or births k 0 ≡ get_or now.births k 0 = ap (λ v. get_or v k 0) b ∙ ap (λ (v : Segment). get_or v.births k 0) e in
    let some : 2 ≤ size_at now k = size_pos now.space (first_at now k) in
    (grind arith, ((used, λ z. born (bn ∙ z)), grind arith))
