-- Between collections nothing is held.
use Rattle.std.proofs.Common.{◌≡◌, ℕ, ◌≤◌, Bool, true, false, cond, ◌&&◌, nat_lt, List, set, refl, sym, ◌∙◌, ap, subst, arith, inl, inr}
use Rattle.std.proofs.lemmas.Bool.{cases_eq}
use Rattle.segment.specs.declared.space.Space.{Space}
use Rattle.segment.specs.Segments.{Segment, is_some_marked, set_aside, grown, put_in, place_in, marked_at}
use Rattle.segment.proofs.Tallies.{none_marked}
use Rattle.territory.specs.declared.territory.Targets.{Targets}
use Rattle.territory.specs.Territories.{needs_mark}
use Rattle.territory.specs.Pools.{PoolView, numbered, shows_dirty, noted, is_from_role}
use Rattle.territory.specs.Changes.{IsRoom, AreBegun, begun, is_current}
use Rattle.segment.specs.Copies.{with_copy}
use Rattle.territory.specs.Copies.{with_copied}
use Rattle.segment.specs.Aging.{raised}
use Rattle.territory.specs.Olds.{AreAged, byte_above}
use Rattle.territory.specs.FinishedPools.{AreUnheld, IsBetween}
use Rattle.territory.proofs.Numbers.{each_same}

-- marks that stay
pub between_by : (old new : List Segment) (targets : Targets) → ((n : ℕ) → (numbered new n).marks ≡ (numbered old n).marks) → IsBetween old targets → IsBetween new targets
between_by old new targets e b = record { unheld = λ n. ap is_some_marked (e n) ∙ b.unheld n; greatest = b.greatest }

-- a segment whose marks are as good
unheld_set : (segments : List Segment) (n : ℕ) (q : Segment) → AreUnheld segments → is_some_marked q.marks ≡ is_some_marked (numbered segments n).marks → AreUnheld (set segments n q)
unheld_set segments n q b e = λ m. each_same (λ (v : Segment). is_some_marked v.marks) segments n q e m ∙ b m

-- a word put
noted_marks : (p : Segment) (k index refers : ℕ) → (noted p k index refers).marks ≡ p.marks
noted_marks p k index refers = elim (needs_mark (is_from_role p.role) p.generation refers) as (λ b. (cond b (marked_at p (place_in p k index) refers) p).marks ≡ p.marks) [ true ↦ refl | false ↦ refl ]

pub between_put : (old new : PoolView) (targets : Targets) (n k index word refers : ℕ) → new.segments ≡ set old.segments n (noted (put_in (numbered old.segments n) k index word) k index refers) → IsBetween old.segments targets → IsBetween new.segments targets
between_put old new targets n k index word refers is b =
    let q : Segment = put_in (numbered old.segments n) k index word in
    record {
      unheld = subst AreUnheld (sym is) (unheld_set old.segments n (noted q k index refers) b.unheld (ap is_some_marked (noted_marks q k index refers)));
      greatest = b.greatest;
    }

-- an object made
room_unheld : (old mid : PoolView) (s : Space) (g size n : ℕ) → IsRoom old mid s g size n → AreUnheld old.segments → AreUnheld mid.segments
room_unheld old mid s g size n r b m =
    elim r.way [
      | inl w ↦ ap (λ (v : PoolView). is_some_marked (numbered v.segments m).marks) w.same ∙ b m
      | inr o ↦ elim (cases_eq m n) [
        | inl e ↦ ap (λ v. is_some_marked (numbered mid.segments v).marks) e ∙ (ap (λ (v : Segment). is_some_marked v.marks) o.1.here ∙ none_marked o.0)
        | inr ne ↦ ap (λ (v : Segment). is_some_marked v.marks) (o.1.others m ne) ∙ b m
      ]
    ]

pub between_made : (old mid new : PoolView) (targets : Targets) (s : Space) (g first size birth n : ℕ) → IsRoom old mid s g size n → new.segments ≡ set mid.segments n (grown (numbered mid.segments n) first size birth) → IsBetween old.segments targets → IsBetween new.segments targets
between_made old mid new targets s g first size birth n r is b = record {
  unheld = subst AreUnheld (sym is) (unheld_set mid.segments n (grown (numbered mid.segments n) first size birth) (room_unheld old mid s g size n r b.unheld) refl);
  greatest = b.greatest;
}

-- an object copied
pub between_copied : (old mid new : PoolView) (targets : Targets) (s : Space) (from k g size n : ℕ) → IsRoom old mid s g size n → new.segments ≡ with_copied mid.segments from k n → IsBetween old.segments targets → IsBetween new.segments targets
between_copied old mid new targets s from k g size n r is b = record {
  unheld = subst AreUnheld (sym is) (unheld_set mid.segments n (with_copy (numbered mid.segments n) (numbered mid.segments from) k) (room_unheld old mid s g size n r b.unheld) refl);
  greatest = b.greatest;
}

-- marks on cards raised
aged_marks : (dirty older : Bool) (cg : ℕ) (p : Segment)
    → (cond dirty (cond older (raised cg (byte_above cg p.generation) p) p) p).marks ≡ p.marks
aged_marks true true cg p = refl
aged_marks true false cg p = refl
aged_marks false older cg p = refl

pub between_aged : (old new : PoolView) (targets : Targets) (cg : ℕ) → AreAged old new cg → IsBetween old.segments targets
    → IsBetween new.segments targets
between_aged old new targets cg a b = record {
  unheld = λ n. ap (λ (p : Segment). is_some_marked p.marks) (a.segments n)
      ∙ (ap is_some_marked (aged_marks (shows_dirty (numbered old.segments n)) (nat_lt cg (numbered old.segments n).generation) cg (numbered old.segments n)) ∙ b.unheld n);
  greatest = b.greatest;
}

-- generations set aside
begun_marks : (p : Segment) (end : ℕ) → (begun end p).marks ≡ p.marks
begun_marks p end = elim (is_current p.role && nat_lt p.generation end) as (λ b. (cond b (set_aside p) p).marks ≡ p.marks) [ true ↦ refl | false ↦ refl ]

pub between_begun : (old new : PoolView) (targets targets' : Targets) (end : ℕ) → AreBegun old new end → targets'.max ≤ 8 → IsBetween old.segments targets → IsBetween new.segments targets'
between_begun old new targets targets' end a small b = record {
  unheld = (between_by old.segments new.segments targets (λ n. ap (λ (v : Segment). v.marks) (a.segments n) ∙ begun_marks (numbered old.segments n) end) b).unheld;
  greatest = omega arith;
}
