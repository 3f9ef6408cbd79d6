-- What is collected started somewhere, and so did what is older. Nothing is both.
use Rattle.std.proofs.Common.{◌≡◌, ℕ, true, false, not, Option, None, Some, refl, ap}
use Rattle.std.proofs.lemmas.Bool.{both_ways, not-true}
use Rattle.std.proofs.lemmas.Option.{none-some}
use Rattle.segment.specs.Segments.{Start}
use Rattle.sweep_model.specs.World.{World, is_collected, is_old, is_older, is_young}

young_start : (cg : ℕ) (o : Option Start) → is_young cg o ≡ true → (s : Start) × (o ≡ Some s)
young_start cg None e = absurd (both_ways false refl e)
young_start cg (Some s) e = (s, refl)

old_start : (cg : ℕ) (o : Option Start) → is_old cg o ≡ true → (s : Start) × (o ≡ Some s)
old_start cg None e = absurd (both_ways false refl e)
old_start cg (Some s) e = (s, refl)

pub collected_start : (world : World) (x : ℕ) → is_collected world x ≡ true
    → (s : Start) × (world.image x ≡ Some s)
collected_start world x e = young_start world.targets.cg (world.image x) e

pub older_start : (world : World) (x : ℕ) → is_older world x ≡ true → (s : Start) × (world.image x ≡ Some s)
older_start world x e = old_start world.targets.cg (world.image x) e

older_kept : (cg : ℕ) (s : Option Start) → is_old cg s ≡ true → is_young cg s ≡ false
older_kept cg None h = refl
older_kept cg (Some x) h = not-true _ h

young_new : (cg : ℕ) (s : Option Start) → is_young cg s ≡ true → is_old cg s ≡ false
young_new cg None h = refl
young_new cg (Some x) h = ap not h

kept_older : (cg : ℕ) (s : Option Start) (x : Start) → s ≡ Some x → is_young cg s ≡ false → is_old cg s ≡ true
kept_older cg None x e h = absurd (none-some x e)
kept_older cg (Some y) x e h = ap not h

-- an older object is not collected
pub older_stays : (world : World) (x : ℕ) → is_older world x ≡ true → is_collected world x ≡ false
older_stays world x h = older_kept world.targets.cg (world.image x) h

-- a collected one is no older one
pub collected_new : (world : World) (x : ℕ) → is_collected world x ≡ true → is_older world x ≡ false
collected_new world x h = young_new world.targets.cg (world.image x) h

-- what started somewhere and is not collected is older
pub staying_older : (world : World) (x : ℕ) (s : Start) → world.image x ≡ Some s
    → is_collected world x ≡ false → is_older world x ≡ true
staying_older world x s e h = kept_older world.targets.cg (world.image x) s e h
