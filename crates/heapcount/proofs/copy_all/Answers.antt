use Rattle.std.proofs.Common.{◌≡◌, ℕ, cond, Bool, true, false, IsSome, IfSome, Option, Some, None, refl, sym, ◌∙◌, ap, subst}
use Rattle.std.specs.FinMap.{FinMap, get, insert}
use Rattle.std.specs.Ordering.{nat_cmp, eq_by_cmp}
use Rattle.segment.specs.Segments.{Start}
use Rattle.territory.specs.Copies.{copy_in}
use Rattle.territory.proofs.Entries.{get_inserted}
use Rattle.territory.proofs.Slots.{get_here}
use Rattle.heapcount.proofs.copy_all.Goals as goal

some_new : (m m' : FinMap nat_cmp Start) (a : ℕ) (x : Start) → m' ≡ insert m a x → IsSome (get m' a)
some_new m m' a x e = subst IsSome (sym (ap (λ v. get v a) e ∙ get_here m a x)) refl

some_either : (b : Bool) (x : Start) (o : Option Start) → IsSome o → IsSome (cond b (Some x) o)
some_either true x o h = refl
some_either false x o h = h

some_more : (m m' : FinMap nat_cmp Start) (o : Option Start) (at a g : ℕ) → get m at ≡ o → IsSome o → IfSome o (λ x. m' ≡ insert m a (copy_in g x)) → IsSome (get m' at)
some_more m m' None at a g e h is = cc
some_more m m' (Some x) at a g e h is =
    subst IsSome (sym (ap (λ v. get v at) is ∙ get_inserted m a (copy_in g x) at)) (some_either (eq_by_cmp nat_cmp at a) (copy_in g x) (get m at) (subst IsSome (sym e) refl))

pub loop-init : goal.loop-init
loop-init c = some_new _ _ _ _ c.in_ok-at.ensures.starts

pub loop-preserved : goal.loop-preserved
loop-preserved c = some_more _ _ _ _ _ _ refl c.loop.invariant c.in_ok-copy.ensures.starts
