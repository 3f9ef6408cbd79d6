-- In the end an older object stands where it stood, and each copy at its place. Nothing stands elsewhere.
use Rattle.std.proofs.Common.{◌≡◌, ℕ, false, List, Contains, IsTrue, Some, refl, sym, ◌∙◌, ap, inl, inr}
use Rattle.std.proofs.lemmas.Bool.{cases_Bool}
use Rattle.gc_words.specs.declared.value.Value.{Value}
use Rattle.gc_words.specs.Layout.{thread_of}
use Rattle.trace_types.specs.Rules.{has, least}
use Rattle.segment.specs.Segments.{Start}
use Rattle.gc_mail.specs.Recipients.{owner}
use Rattle.owned_core.specs.Settings.{rules_of}
use Rattle.sweep_model.specs.World.{World, IsWorld, is_collected}
use Rattle.sweep_model.specs.Hands.{Hand, IsAt, IsKeptAt, Tied}
use Rattle.sweep_model.proofs.Ages.{staying_older}
use Rattle.sweep_model.proofs.Apt.{owner_in}
use Rattle.sweep_model.proofs.Memory.{one_place}
use Rattle.heap_store.specs.Starts.{Starts}
use Rattle.heap_store.proofs.Kept.{some_is}
use Rattle.collect_model.specs.Worlds.{HasEnded}
use Rattle.collect_model.proofs.RulesReach.{older_reached}

-- what its owner kept of the object x stands at p
pub record Lands (world : World) (hands : ℕ → Hand) (g : Starts) (x p : ℕ) : Type 0 where
  pub at : IsAt world (hands (owner world.sweepers x)).own x p
  pub kept : IsKeptAt world (hands (owner world.sweepers x)) x p
  pub here : g p ≡ Some kept.new

module _ (world : World) (hands : ℕ → Hand) (g : Starts) (registers : List Value) (good : IsWorld world)
    (ended : HasEnded world hands g registers) where
  -- ---- places

  -- each object is of a hand that is tied
  tied_at : (x : ℕ) → Tied world (hands (owner world.sweepers x))
  tied_at x = ended.tied (owner world.sweepers x) (owner_in world.sweepers x good.some)

  number_at : (x : ℕ) → owner world.sweepers x ≡ (hands (owner world.sweepers x)).number
  number_at x = sym (ended.numbers (owner world.sweepers x) (owner_in world.sweepers x good.some))

  -- an older object stays where it was
  pub older_lands : (x : ℕ) (s : Start) → world.image x ≡ Some s → is_collected world x ≡ false
      → Lands world hands g x x
  older_lands x s was older =
      let k = (tied_at x).older x s was (number_at x) older in
      record { at = inl (older, refl); kept = k; here = ended.older x s was older ∙ k.is }

  -- a copy is at its place
  pub copy_lands : (x p : ℕ) → Contains (hands (owner world.sweepers x)).own (x, p) → Lands world hands g x p
  copy_lands x p copy =
      let k = (tied_at x).copied x p copy in
      record { at = inr copy; kept = k; here = ended.copies x p copy ∙ k.is }

  -- whatever stands somewhere is one of these
  pub landed : (p : ℕ) (y : Start) → g p ≡ Some y → (x : ℕ) × Lands world hands g x p
  landed p y e = elim (ended.only p y e) [
    | inl older ↦ let s = some_is (world.image p) older.0 in (p, older_lands p s.0 s.1 older.1)
    | inr copy ↦ (copy.0, copy_lands copy.0 p copy.1)
  ]

  -- an object has one place
  pub lands_once : (x p q : ℕ) → Lands world hands g x p → Lands world hands g x q → p ≡ q
  lands_once x p q a b = one_place world (hands (owner world.sweepers x)) (tied_at x) x p q a.at b.at

  -- the place is of the object's thread
  pub same_thread : (x p : ℕ) → Lands world hands g x p → thread_of p ≡ thread_of x
  same_thread x p l = elim l.at [
    | inl stays ↦ ap thread_of stays.1
    | inr copy ↦ ((tied_at x).fresh x p copy).1
  ]

  -- ---- what the rules reach

  -- what the rules reach lands somewhere
  pub reached_lands : (x : ℕ) (s : Start) → world.image x ≡ Some s
      → IsTrue (has (least (rules_of ended.setting)) x) → (p : ℕ) × Lands world hands g x p
  reached_lands x s was reached = elim (cases_Bool (is_collected world x)) [
    | inl collected ↦ let k = ended.done.kept x collected reached in (k.0, copy_lands x k.0 k.1)
    | inr older ↦ (x, older_lands x s was older)
  ]

  -- and nothing else does
  pub lands_reached : (x p : ℕ) → Lands world hands g x p → IsTrue (has (least (rules_of ended.setting)) x)
  lands_reached x p l = elim l.at [
    | inl stays ↦ older_reached world ended.setting ended.is_setting x
        (staying_older world x l.kept.old l.kept.was stays.0)
    | inr copy ↦
        (ended.done.alone (owner world.sweepers x) x p (owner_in world.sweepers x good.some) copy).1
  ]
