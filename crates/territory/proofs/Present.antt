-- Where a start stands: its segment, and its spot there.
use Rattle.std.proofs.Common.{◌≡◌, ℕ, ◌+◌, ◌-◌, ◌*◌, ◌/◌, ◌%◌, ◌<◌, ◌≤◌, ◌&&◌, true, false, cond, eqb, nat_le, List, length, Some, None, IsSome, refl, sym, ◌∙◌, ap, subst, arith, inl, inr}
use Rattle.std.proofs.lemmas.Bool.{cases_lt}
use Rattle.std.proofs.lemmas.Bool.Decides.{nat_tests}
use Rattle.std.specs.FinMap.{get}
use Rattle.gc_words.specs.declared.address.TheConstants.{SEGMENTS, OFFSETS}
use Rattle.gc_words.specs.Layout.{thread_of, segment_of, offset_of}
use Rattle.segment.specs.Segments.{vacant, Segment, Start, IsStart, object_at, spot}
use Rattle.segment.proofs.Spots.{spot_is, spot_start}
use Rattle.territory.specs.Pools.{numbered, start_in, starts_of, PoolView, IsSettled}
use Rattle.territory.proofs.Numbers.{numbered_past}
use Rattle.territory.proofs.Entries.{get-starts}
use Rattle.territory.proofs.Slots.{all_small, start_here}

-- x is the start at a: its segment exists, and has it at its offset
pub record IsPresent (thread : ℕ) (segments : List Segment) (a : ℕ) (x : Start) : Type 0 where
  pub thread_is : thread_of a ≡ thread
  pub within : segment_of a < length segments
  pub starts : IsStart (numbered segments (segment_of a)) (offset_of a / 2)
  pub object : x ≡ object_at (numbered segments (segment_of a)) (offset_of a / 2)
  pub address : a ≡ (thread * SEGMENTS + segment_of a) * OFFSETS + 2 * (offset_of a / 2)
  pub even : offset_of a ≡ 2 * (offset_of a / 2)
  pub small : 2 * (offset_of a / 2) < OFFSETS

no_spot : (k : ℕ) → spot vacant k ≡ None
no_spot k = refl

from_spot : (thread : ℕ) (p : PoolView) → IsSettled p → (a : ℕ) (x : Start) → start_in (thread * SEGMENTS) p.segments a ≡ Some x → IsPresent thread p.segments a x
unfolding thread_of segment_of offset_of
from_spot thread p s a x e =
    elim (nat_le (thread * SEGMENTS) (a / OFFSETS) && eqb (a % 2) 0) as (λ b. nat_le (thread * SEGMENTS) (a / OFFSETS) && eqb (a % 2) 0 ≡ b → cond b (spot (numbered p.segments (a / OFFSETS - thread * SEGMENTS)) (a % OFFSETS / 2)) None ≡ Some x → IsPresent thread p.segments a x) [
      | false ↦ λ t h. cc
      | true ↦ λ t h.
          let c : thread * SEGMENTS ≤ a / OFFSETS = grind (arith, nat_tests, t) in
          let d : a % 2 ≡ 0 = grind (arith, nat_tests, t) in
          elim (cases_lt (a / OFFSETS - thread * SEGMENTS) (length p.segments)) [
            | inr far ↦ absurd (let n : spot (numbered p.segments (a / OFFSETS - thread * SEGMENTS)) (a % OFFSETS / 2) ≡ None = ap (λ w. spot w (a % OFFSETS / 2)) (numbered_past p.segments (a / OFFSETS - thread * SEGMENTS) far) ∙ no_spot (a % OFFSETS / 2) in cc)
            | inl near ↦
                let i : a / OFFSETS % SEGMENTS ≡ a / OFFSETS - thread * SEGMENTS = omega (arith, s.count) in
                let q : a / OFFSETS / SEGMENTS ≡ thread = omega (arith, s.count) in
                let here : spot (numbered p.segments (a / OFFSETS % SEGMENTS)) (a % OFFSETS / 2) ≡ Some x = ap (λ w. spot (numbered p.segments w) (a % OFFSETS / 2)) i ∙ h in
                let is : IsStart (numbered p.segments (a / OFFSETS % SEGMENTS)) (a % OFFSETS / 2) × (x ≡ object_at (numbered p.segments (a / OFFSETS % SEGMENTS)) (a % OFFSETS / 2)) = spot_is (numbered p.segments (a / OFFSETS % SEGMENTS)) (a % OFFSETS / 2) x here in
                record {
                  thread_is = q;
                  within = omega arith;
                  starts = is.0;
                  object = is.1;
                  address = omega arith;
                  even = omega arith;
                  small = omega arith;
                }
          ]
    ] refl e

pub present : (thread : ℕ) (p : PoolView) (a : ℕ) (x : Start) → IsSettled p → get (starts_of (thread * SEGMENTS) p.segments) a ≡ Some x → IsPresent thread p.segments a x
present thread p a x s e = from_spot thread p s a x (sym (get-starts (thread * SEGMENTS) p.segments (all_small p.segments s.sound) a) ∙ e)

-- what is born in a segment of the thread is a start
pub born : (thread : ℕ) (p : PoolView) (a : ℕ) → IsSettled p → thread_of a ≡ thread → offset_of a % 2 ≡ 0 → IsStart (numbered p.segments (segment_of a)) (offset_of a / 2) → IsSome (get (starts_of (thread * SEGMENTS) p.segments) a)
unfolding thread_of segment_of offset_of
born thread p a s t even is =
    let small : 2 * (offset_of a / 2) < OFFSETS = omega arith in
    let address : a ≡ (thread * SEGMENTS + segment_of a) * OFFSETS + 2 * (offset_of a / 2) = omega arith in
    let e : get (starts_of (thread * SEGMENTS) p.segments) a ≡ Some (object_at (numbered p.segments (segment_of a)) (offset_of a / 2)) =
    get-starts (thread * SEGMENTS) p.segments (all_small p.segments s.sound) a ∙ (start_here (thread * SEGMENTS) p.segments (segment_of a) (offset_of a / 2) a small address ∙ spot_start (numbered p.segments (segment_of a)) (offset_of a / 2) is) in
    subst IsSome (sym e) refl
