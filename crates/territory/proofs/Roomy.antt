-- A pool finds room for an object.
use Rattle.std.proofs.Common.{◌≡◌, ℕ, ◌+◌, ◌*◌, ◌<◌, ◌≤◌, true, false, cond, is_some, List, length, get_or, set, Option, Some, None, refl, sym, ◌∙◌, ap, subst, arith, inl, inr}
use Rattle.std.proofs.lemmas.Bool.{cases_lt}
use Rattle.std.proofs.lemmas.Bool.Decides.{nat_tests}
use Rattle.std.proofs.lemmas.List.{length-replicate, get_or_read, set-get_or}
use Rattle.std.proofs.lemmas.Option.{slice_get-get_or, get_or_from_slice_get}
use Rattle.std.specs.List.{slice_get}
use Rattle.segment.specs.declared.space.Space.{Space}
use Rattle.segment.specs.declared.segment.Role.TheVariants.{Free, Current}
use Rattle.segment.specs.Layout.{space_index}
use Rattle.segment.specs.Segments.{Segment, HasRoom, opened, vacant}
use Rattle.territory.specs.declared.counts.SegmentCounts.{SegmentCounts}
use Rattle.territory.specs.Territories.{area_of, is_large, words_for, areas_for}
use Rattle.territory.specs.Pools.{PoolView, numbered, IsOpenFor, IsSettled}
use Rattle.territory.specs.Changes.{IsOpened, IsOpenRoom, IsRoom}
use Rattle.territory.proofs.Numbers.{numbered_past}
use Rattle.territory.proofs.Opening.{open_set, its_space, its_generation}
use Rattle.territory.proofs.Counting.{counted_open}

large_is : (size : ℕ) → 128 < size → is_large size ≡ true
large_is size h = grind (arith, nat_tests, h)

shared_is : (size : ℕ) → size ≤ 128 → is_large size ≡ false
shared_is size h = grind (arith, nat_tests, h)

-- an empty segment has room
opened_room : (s : Space) (g words births size : ℕ) → size ≤ words → 0 < births → HasRoom (opened s g words births) size
opened_room s g words births size fits some = (omega (arith, length-replicate {A = ℕ} words 0), omega (arith, length-replicate {A = ℕ} births 0))

room_opened : (old new : PoolView) (s : Space) (g size words births n : ℕ) → IsOpened old new s g words births n → words_for size ≡ words → size ≤ words → 0 < births → new.areas ≡ areas_for old.areas (area_of s g) size n → IsRoom old new s g size n
room_opened old new s g size words births n o w fits some areas = record {
  within = o.within;
  current = ap (λ (p : Segment). p.role) o.here;
  space_is = ap (λ (p : Segment). p.space) o.here;
  generation_is = ap (λ (p : Segment). p.generation) o.here;
  room = subst (λ p. HasRoom p size) (sym o.here) (opened_room s g words births size fits some);
  areas = areas;
  dirty = o.dirty;
  way = inr (births, subst (λ v. IsOpened old new s g v births n) (sym w) o);
}

pub room_large : (old new : PoolView) (s : Space) (g size n : ℕ) → IsOpened old new s g size 1 n → 128 < size → new.areas ≡ old.areas → IsRoom old new s g size n
room_large old new s g size n o large same =
    room_opened old new s g size size 1 n o (ap (λ b. cond b size 512) (large_is size large)) (omega arith) (omega arith) (same ∙ sym (ap (λ b. cond b old.areas (set old.areas (area_of s g) (Some n))) (large_is size large)))

pub room_small : (old p mid : PoolView) (s : Space) (g size n k area : ℕ) (areas : List (Option ℕ)) (counts : SegmentCounts) → p ≡ mid → IsOpened old mid s g 512 256 n → size ≤ 128 → mid.areas ≡ old.areas → k ≡ space_index s → area ≡ k * 9 + g
    → areas ≡ set p.areas area (Some n) → IsRoom old (record p { areas = areas; counts = counts }) s g size n
room_small old p mid s g size n k area areas counts e o small same ks is set_is =
    let o' : IsOpened old p s g 512 256 n = subst (λ v. IsOpened old v s g 512 256 n) (sym e) o in
    let here : area ≡ area_of s g = is ∙ ap (λ v. v * 9 + g) ks in
    let same' : p.areas ≡ old.areas = ap (λ (v : PoolView). v.areas) e ∙ same in
    room_opened old (record p { areas = areas; counts = counts }) s g size 512 256 n
    (record { next = o'.next; lists = o'.lists; within = o'.within; was_free = o'.was_free; here = o'.here; others = o'.others; dirty = o'.dirty })
    (ap (λ b. cond b size 512) (shared_is size small)) (omega arith) (omega arith)
    (set_is ∙ (ap (λ v. set v area (Some n)) same' ∙ (ap (λ v. set old.areas v (Some n)) here ∙ sym (ap (λ b. cond b old.areas (set old.areas (area_of s g) (Some n))) (shared_is size small)))))

-- the open segment of an area is in use
pub open_within : (p now : PoolView) (area n : ℕ) → p ≡ now → IsSettled now → slice_get p.areas area ≡ Some (Some n) → n < length p.segments
open_within p now area n e done is =
    let t : IsSettled p = subst IsSettled (sym e) done in
    elim (cases_lt n (length p.segments)) [
      | inl b ↦ b
      | inr far ↦ absurd (let c : Free ≡ Current = sym (ap (λ (v : Segment). v.role) (numbered_past p.segments n far)) ∙ (t.open_areas.fits area n is).current in cc)
    ]

pub area_read : (p now : PoolView) (area n : ℕ) (o : Option ℕ) → p ≡ now → IsSettled now → area < 72 → o ≡ get_or p.areas area o → o ≡ Some n → slice_get p.areas area ≡ Some (Some n)
area_read p now area n o e done small read is =
    let t : IsSettled p = subst IsSettled (sym e) done in
    slice_get-get_or p.areas area o (omega (arith, t.open_areas.count)) ∙ ap Some (sym read ∙ is)

pub open_found : (p now : PoolView) (area size n : ℕ) (q : Segment) → p ≡ now → IsSettled now → slice_get p.areas area ≡ Some (Some n) → q ≡ get_or p.segments n q → HasRoom q size → IsOpenRoom now area size n
open_found p now area size n q e done is at room =
    let b : n < length p.segments = open_within p now area n e done is in
    subst (λ v. IsOpenRoom v area size n) e (record { is_open = is; within = b; room = subst (λ v. HasRoom v size) (get_or_read p.segments n q b at vacant) room })

pub room_open : (p : PoolView) (s : Space) (g size k area n : ℕ) → IsSettled p → IsOpenRoom p area size n → k ≡ space_index s → k < 8 → g < 9 → area ≡ k * 9 + g → size ≤ 128 → IsRoom p p s g size n
room_open p s g size k area n t o ks kin gin is small =
    let here : area ≡ area_of s g = is ∙ ap (λ v. v * 9 + g) ks in
    let a : slice_get p.areas (area_of s g) ≡ Some (Some n) = subst (λ v. slice_get p.areas v ≡ Some (Some n)) here o.is_open in
    let w : IsOpenFor (numbered p.segments n) (area_of s g) = t.open_areas.fits (area_of s g) n a in
    record {
      within = o.within;
      current = w.current;
      space_is = its_space (numbered p.segments n) s g w gin;
      generation_is = its_generation (numbered p.segments n) s g w gin;
      room = o.room;
      areas = sym (ap (λ b. cond b p.areas (set p.areas (area_of s g) (Some n))) (shared_is size small)
          ∙ (ap (set p.areas (area_of s g)) (sym (get_or_from_slice_get p.areas (area_of s g) (Some n) None a)) ∙ set-get_or p.areas (area_of s g) None));
      dirty = refl;
      way = inl (record { same = refl; area = a; shared = shared_is size small });
    }

-- the segment that was opened becomes the open one of its area
pub settled_area : (p now old : PoolView) (s : Space) (g n k area more : ℕ) (areas : List (Option ℕ)) → p ≡ now → IsSettled now → IsOpened old now s g 512 256 n → k ≡ space_index s → k < 8 → g < 9 → area ≡ k * 9 + g
    → areas ≡ set p.areas area (Some n) → more + cond (is_some (get_or p.areas area None)) 1 0 ≡ 1
    → IsSettled (record p { areas = areas; counts = record p.counts { open_areas = p.counts.open_areas + more } })
settled_area p now old s g n k area more areas e done o ks kin gin is set_is more_is =
    let t : IsSettled p = subst IsSettled (sym e) done in
    let here : numbered p.segments n ≡ opened s g 512 256 = ap (λ (v : PoolView). numbered v.segments n) e ∙ o.here in
    let fits : IsOpenFor (numbered p.segments n) area = record {
      current = ap (λ (v : Segment). v.role) here;
      space_is = ap (λ (v : Segment). space_index v.space) here ∙ omega (arith, ks);
      generation_is = ap (λ (v : Segment). v.generation) here ∙ omega arith;
      never_held = ap (λ (v : Segment). v.was_held) here;
    } in
    subst (λ v. IsSettled (record p { areas = v; counts = record p.counts { open_areas = p.counts.open_areas + more } })) (sym set_is) (record {
      count = t.count;
      sound = t.sound;
      generations = t.generations;
      lengths = t.lengths;
      listed = t.listed;
      open_areas = open_set p.segments p.areas area n t.open_areas (omega arith) fits;
      dirty = t.dirty;
      counted = counted_open p.segments p.areas p.counts area n more t.counted (omega (arith, t.open_areas.count)) more_is;
    })
