-- The list of dirty segments, told of what contracts see.
use Rattle.std.proofs.Common.{◌≡◌, ◌≢◌, ℕ, ◌<◌, true, false, cond, length, get_or, Contains, refl, sym, ap, subst, arith}
use Rattle.seg_chain.specs.Lists.{chain_of, link_count}
use Rattle.seg_chain.proofs.Laws.{contains_of, times_of, is_index}
use Rattle.segment.specs.Segments.{Segment, IsSound, is_free}
use Rattle.segment.specs.declared.segment.Role.TheVariants.{Free, Current, From}
use Rattle.territory.specs.declared.territory.Targets.{Targets}
use Rattle.territory.specs.Territories.{TerritoryView, HasMark, AreDirtyOnes}
use Rattle.territory.specs.Pools.{PoolView, IsSettled, numbered, seen, shows_dirty, territory_view}
use Rattle.territory.proofs.Asides.{once_in}
use Rattle.territory.proofs.Numbers.{seen_at}

seen_mark : (p : Segment) → IsSound p → shows_dirty p ≡ true → HasMark (seen p)
seen_mark p s e = elim p.role as (λ r. cond (is_free r) false p.is_dirty ≡ true → HasMark (seen (record p { role = r }))) [ Free ↦ λ h. cc | Current ↦ λ h. s.dirty h | From ↦ λ h. s.dirty h ] e

pub marked_dirty : (p : Segment) → IsSound p → is_free p.role ≡ false → (card : ℕ) × (card < length p.cards) × (get_or p.cards card 0 ≢ 255) → p.is_dirty ≡ true
marked_dirty p s u m = elim p.is_dirty as (λ b. p.is_dirty ≡ b → b ≡ true) [ true ↦ λ e. refl | false ↦ λ e. absurd (m.2 (s.clean u e m.0 m.1)) ] refl

mark_shown : (p : Segment) → IsSound p → HasMark (seen p) → shows_dirty p ≡ true
mark_shown p s m =
    elim p.role as (λ r. p.role ≡ r → HasMark (seen (record p { role = r })) → cond (is_free r) false p.is_dirty ≡ true) [
      | Free ↦ λ e h. absurd h
      | Current ↦ λ e h. marked_dirty p s (ap is_free e) h
      | From ↦ λ e h. marked_dirty p s (ap is_free e) h
    ] refl m

pub dirty_ones : (thread : ℕ) (p : PoolView) (targets : Targets) (now : TerritoryView) → territory_view thread p targets ≡ now → IsSettled p → AreDirtyOnes now
dirty_ones thread p targets now e s = subst AreDirtyOnes e (record {
  marked = λ n c. subst HasMark (sym (seen_at p.segments n)) (seen_mark (numbered p.segments n) (s.sound n) (s.dirty.shown n (times_of (chain_of p.dirty 1) n c)));
  all = λ n m. contains_of n (chain_of p.dirty 1) (s.dirty.listed n (mark_shown (numbered p.segments n) (s.sound n) (subst HasMark (seen_at p.segments n) m)));
  once = λ n. once_in p.dirty 1 n s.dirty.each_once (omega (arith, s.dirty.chains));
})

pub dirty_linked_in : (p now : PoolView) (n : ℕ) → p ≡ now → IsSettled now → Contains (chain_of now.dirty 1) n → n < link_count p.dirty
dirty_linked_in p now n e s c =
    let t : IsSettled p = subst IsSettled (sym e) s in
    is_index p.dirty n 1 t.dirty.each_once (omega (arith, t.dirty.chains)) (subst (λ (v : PoolView). Contains (chain_of v.dirty 1) n) (sym e) c)
