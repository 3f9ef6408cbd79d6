-- A start with a word under a marked card is an old one.
use Rattle.std.proofs.Common.{◌≡◌, ℕ, ◌+◌, ◌*◌, ◌/◌, ◌<◌, ◌≤◌, false, length, get_or, IsSome, refl, sym, ◌∙◌, ap, subst, arith}
use Rattle.std.proofs.lemmas.Option.{same_Some}
use Rattle.std.specs.FinMap.{get}
use Rattle.gc_words.specs.Layout.{segment_of, offset_of}
use Rattle.cards.specs.Cards.{card_of}
use Rattle.segment.specs.declared.segment.Role.TheVariants.{Free, Current, From}
use Rattle.segment.specs.Layout.{skip_of, space_of, words_after}
use Rattle.segment.specs.Segments.{Segment, Start, is_free, first_at, object_at, words_at}
use Rattle.segment.proofs.Calls.{card_seen}
use Rattle.territory.specs.declared.territory.Targets.{Targets}
use Rattle.territory.specs.Territories.{TerritoryView, byte_at, segment_at, size_for}
use Rattle.territory.specs.Pools.{PoolView, IsSettled, numbered, seen, territory_view}
use Rattle.territory.specs.Olds.{AreOldByWords, IsMarkedAt}
use Rattle.territory.proofs.Numbers.{seen_at}
use Rattle.territory.proofs.OldTests.{skip_same}
use Rattle.territory.proofs.Reading.{IsReached, reach}

-- what a segment in use shows is marked where its byte is
marked_seen : (p : Segment) (cg a k index : ℕ) → is_free p.role ≡ false → offset_of a ≡ 2 * k
    → card_of (2 * k + skip_of p.space + index) < length p.cards → byte_at (seen p) a index ≤ cg
    → IsMarkedAt cg (seen p) (2 * k + skip_of p.space + index)
marked_seen p cg a k index used o within le =
    elim p.role as (λ r. is_free r ≡ false → byte_at (seen (record p { role = r })) a index ≤ cg
    → IsMarkedAt cg (seen (record p { role = r })) (2 * k + skip_of p.space + index)) [
      | Free ↦ λ h l. cc
      | Current ↦ λ h l. (
        within,
        subst (λ v. get_or p.cards
            (card_of (v + skip_of p.space + index)) 0 ≤ cg) o l,
      )
      | From ↦ λ h l. (within, subst (λ v. get_or p.cards (card_of (v + skip_of p.space + index)) 0 ≤ cg) o l)
    ] used le

-- a word of an object lies in the words that it takes
in_size : (o k skip skip' count index : ℕ) → o ≡ 2 * k → skip ≡ skip' → index < count
    → 2 * k + skip' + index < o + (skip + count + 1) / 2 * 2
in_size o k skip skip' count index e f h = omega arith

pub old_by_words : (thread : ℕ) (p : PoolView) (targets : Targets) (now : TerritoryView) (cg : ℕ)
    → territory_view thread p targets ≡ now → IsSettled p → AreOldByWords now cg
old_by_words thread p targets now cg e s a index x has older below le =
    let some : IsSome (get now.starts a) = subst IsSome (sym has) refl in
    let r : IsReached thread p now a = reach thread p targets now a s e some in
    let same : r.start ≡ x = same_Some _ _ (sym r.has ∙ has) in
    let q : Segment = numbered p.segments (segment_of a) in
    let k : ℕ = offset_of a / 2 in
    let object : r.start ≡ object_at q k = r.present.object in
    let inside : index < length r.start.words =
    subst (λ (v : Start). index < length v.words) (sym same) below in
    let there : index < length (words_at q k) = subst (λ (v : Start). index < length v.words) object inside in
    let within : card_of (2 * k + skip_of q.space + index) < length q.cards =
    card_seen q q k index (skip_of q.space) (s.sound (segment_of a)) refl r.present.starts there refl in
    let seen_is : segment_at now (segment_of a) ≡ seen q =
    sym (ap (λ (v : TerritoryView). segment_at v (segment_of a)) e) ∙ seen_at p.segments (segment_of a) in
    let low : byte_at (seen q) a index ≤ cg = subst (λ o. byte_at o a index ≤ cg) seen_is le in
    let skip : skip_of (space_of r.start.kind) ≡ skip_of q.space =
    ap (λ (v : Start). skip_of (space_of v.kind)) object ∙ skip_same q.space (first_at q k) in
    let count : length r.start.words ≡ words_after r.start.kind r.start.length = r.shaped.its_words in
    let size : 2 * k + skip_of q.space + index < offset_of a + size_for r.start.kind r.start.length =
    in_size (offset_of a) k (skip_of (space_of r.start.kind)) (skip_of q.space)
    (words_after r.start.kind r.start.length) index r.present.even skip
    (subst (λ n. index < n) count inside) in
    record {
      older = older;
      marked = (
        2 * k + skip_of q.space + index,
        omega (arith, r.present.even),
        subst (λ (v : Start). 2 * k + skip_of q.space + index < offset_of a + size_for v.kind v.length) same
            size,
        subst (λ o. IsMarkedAt cg o (2 * k + skip_of q.space + index)) (sym seen_is)
            (marked_seen q cg a k index r.present.starts.0 r.present.even within low),
      );
    }
