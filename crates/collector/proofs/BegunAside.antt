-- What is collected lies in segments that were set aside, and nothing else does.
use Rattle.std.proofs.Common.{◌≡◌, ℕ, ◌<◌, Bool, true, false, cond, nat_le, List, slice_get, option_map, Option, None, Some, refl, sym, ap, subst, ◌∙◌, lt-ltb}
use Rattle.std.proofs.lemmas.Option.{none-some, same_Some}
use Rattle.gc_words.specs.Layout.{offset_of, segment_of, thread_of}
use Rattle.segment.specs.Segments.{Start}
use Rattle.territory.specs.declared.territory.Targets.{Targets}
use Rattle.territory.specs.Territories.{HasStart, SegmentView, TerritoryView, segment_at, when_begun}
use Rattle.directory.specs.Tables.{Aside, aside, aside_at, aside_with, segment_in}
use Rattle.heap_store.specs.HeapView.{starts_in}
use Rattle.collector.specs.Begun.{HaveBegun}
use Rattle.collector.proofs.BegunTerritories.{found}
use Rattle.heap_store.specs.Stands.{AreSettled}

-- a segment that has begun is a from-segment where its generation is collected
from_begun : (cg : ℕ) (p : SegmentView) → p.is_from ≡ false
    → (when_begun cg p).is_from ≡ nat_le (when_begun cg p).generation cg
from_begun cg p plain = by (nat_le p.generation cg) refl
  where
    chosen : Bool → SegmentView
    chosen b = cond b (record p { is_from = true }) p

    by : (b : Bool) → nat_le p.generation cg ≡ b → (chosen b).is_from ≡ nat_le (chosen b).generation cg
    by true e = sym e
    by false e = plain ∙ sym e

from_of : (cg : ℕ) (o : Option SegmentView) (s : SegmentView) → option_map (when_begun cg) o ≡ Some s
    → ((p : SegmentView) → o ≡ Some p → p.is_from ≡ false) → s.is_from ≡ nat_le s.generation cg
from_of cg None s e no_from = absurd (none-some s e)
from_of cg (Some p) s e no_from =
    subst (λ (z : SegmentView). z.is_from ≡ nat_le z.generation cg) (same_Some (when_begun cg p) s e)
    (from_begun cg p (no_from p refl))

-- The segment of what starts at a, as it has begun.
pub record LiesIn (new : List TerritoryView) (cg a : ℕ) (x : Start) : Type 0 where
  pub territory : TerritoryView
  pub there : slice_get new (thread_of a) ≡ Some territory
  pub segment : SegmentView
  pub here : segment_at territory (segment_of a) ≡ Some segment
  pub start : HasStart segment a x
  pub from : segment.is_from ≡ nat_le x.generation cg

-- each start lies in such a segment, since none was set aside before
pub lies_in : (old new : List TerritoryView) (targets : Targets) (a : ℕ) (x : Start) → AreSettled old
    → HaveBegun old new targets → starts_in old a ≡ Some x → LiesIn new targets.cg a x
lies_in old new targets a x settled begun is =
    let f = found old new targets a x begun is in
    let s = f.begun.lie a x f.starts in
    let from = from_of targets.cg (segment_at f.before (segment_of a)) s.0 (sym (f.begun.segments (segment_of a)) ∙ s.1)
    (λ p e. settled.no_from (thread_of a) f.before f.was (segment_of a) p e) in
    record {
      territory = f.after;
      there = f.now;
      segment = s.0;
      here = s.1;
      start = s.2;
      from = from ∙ ap (λ g. nat_le g targets.cg) s.2.generation;
    }

-- ---- where it is set aside

shown_aside : (s : SegmentView) (offset : ℕ) (b : Bool) → s.is_from ≡ b → offset < s.words
    → aside_with (aside (Some s)) offset ≡ cond b (Some (record { size = s.words; generation = s.generation })) None
shown_aside s offset true e within =
    let there : Option Aside = Some (record { size = s.words; generation = s.generation }) in
    ap (λ c. aside_with (cond c there None) offset) e ∙ ap (λ c. cond c there None) (lt-ltb offset s.words within)
shown_aside s offset false e within =
    let there : Option Aside = Some (record { size = s.words; generation = s.generation }) in
    ap (λ c. aside_with (cond c there None) offset) e

-- at a start there is what was set aside, where it is collected, and nothing else
pub aside_is : (new : List TerritoryView) (cg a : ℕ) (x : Start) (l : LiesIn new cg a x)
    → aside_at new a
    ≡ cond (nat_le x.generation cg) (Some (record { size = l.segment.words; generation = x.generation })) None
aside_is new cg a x l =
    ap (λ o. aside_with (aside (segment_in o (segment_of a))) (offset_of a)) l.there
    ∙ (ap (λ o. aside_with (aside o) (offset_of a)) l.here
    ∙ (shown_aside l.segment (offset_of a) (nat_le x.generation cg) l.from l.start.inside
    ∙ ap (λ g. cond (nat_le x.generation cg) (Some (record { size = l.segment.words; generation = g })) None)
    l.start.generation))
