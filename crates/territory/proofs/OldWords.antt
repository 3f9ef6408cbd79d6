-- What a territory tells of the cards of a start's words.
use Rattle.std.proofs.Common.{◌≡◌, ℕ, ◌+◌, ◌*◌, ◌/◌, false, length, get_or, Option, None, IsSome, IfNone, sym, ◌∙◌, ap, subst}
use Rattle.std.specs.FinMap.{get}
use Rattle.gc_words.specs.Layout.{segment_of, offset_of}
use Rattle.cards.specs.Cards.{card_of}
use Rattle.segment.specs.declared.segment.Role.TheVariants.{Free, Current, From}
use Rattle.segment.specs.Layout.{skip_of}
use Rattle.segment.specs.Segments.{Segment, Start, is_free, words_at}
use Rattle.segment.specs.Aging.{word_byte}
use Rattle.territory.specs.declared.territory.Targets.{Targets}
use Rattle.territory.specs.Territories.{TerritoryView, byte_at, card_byte, words_of}
use Rattle.territory.specs.Pools.{PoolView, IsSettled, numbered, seen, territory_view}
use Rattle.territory.proofs.Numbers.{seen_at}
use Rattle.territory.proofs.Reading.{IsReached, IsAt, reach}

byte_seen : (p : Segment) (a k index : ℕ) → is_free p.role ≡ false → offset_of a ≡ 2 * k → byte_at (seen p) a index ≡ word_byte p k index
byte_seen p a k index used o =
    let same : get_or p.cards (card_of (offset_of a + skip_of p.space + index)) 0 ≡ word_byte p k index = ap (λ v. get_or p.cards (card_of (v + skip_of p.space + index)) 0) o in
    elim p.role as (λ r. is_free r ≡ false → byte_at (seen (record p { role = r })) a index ≡ word_byte p k index) [ Free ↦ λ h. cc | Current ↦ λ h. same | From ↦ λ h. same ] used

-- the byte of the card of a word, as the segment has it
pub byte_told : (thread : ℕ) (pool : PoolView) (targets : Targets) (now : TerritoryView) (a n k index : ℕ) (q : Segment) → IsSettled pool → territory_view thread pool targets ≡ now → IsSome (get now.starts a) → n ≡ segment_of a → k ≡ offset_of a / 2 → q ≡ numbered pool.segments n
    → card_byte now a index ≡ word_byte q k index
byte_told thread pool targets now a n k index q s e h en ek is =
    let r : IsReached thread pool now a = reach thread pool targets now a s e h in
    let here : Segment = numbered pool.segments (segment_of a) in
    let told : card_byte now a index ≡ byte_at (seen here) a index = sym (ap (λ (v : TerritoryView). card_byte v a index) e) ∙ ap (λ o. byte_at o a index) (seen_at pool.segments (segment_of a)) in
    let q_is : here ≡ q = sym (is ∙ ap (numbered pool.segments) en) in
    told ∙ (byte_seen here a k index r.present.starts.0 (r.present.even ∙ ap (λ v. 2 * v) (sym ek)) ∙ ap (λ v. word_byte v k index) q_is)

-- how many words it has
pub words_told : (thread : ℕ) (pool : PoolView) (now : TerritoryView) (a k : ℕ) (q : Segment) → IsAt thread pool now a k q → length (words_of (get now.starts a)) ≡ length (words_at q k)
words_told thread pool now a k q i = ap (λ o. length (words_of o)) i.reached.has ∙ ap (λ (x : Start). length x.words) i.object

pub if_none : (r : Option ℕ) (P : Type 0) → r ≡ None → P → IfNone r P
if_none r P e p = subst (λ v. IfNone v P) (sym e) p
