-- What a phase of a collection is given, and its rules.
use Rattle.std.specs.Prelude.{◌≡◌, ℕ, Bool, not, List, ◌++◌, map, filter, IsTrue}
use Rattle.trace_types.specs.Rules.{Rule, has, facts}
use Rattle.owned_core.specs.Slots.{Due, keeps, member_list}

pub record Setting : Type 0 where
  pub older : List ℕ  -- the objects that are not collected
  pub owner : ℕ → ℕ  -- the sweeper of each object
  pub stays : ℕ → Bool  -- whether the object is locked or immobile
  pub old_place : ℕ → ℕ
  pub was_place : ℕ → Bool  -- whether it was the place of an object before the collection
  pub place_owner : ℕ → ℕ  -- the sweeper in whose territories the place lies
  pub dues : List Due  -- each slot of an object, a register, a lock, a registration or a rule of the phase
  pub past : List Due  -- the dues of the phases before
  pub given : List ℕ  -- objects that are in the set without premises and have slots already
  pub believed : ℕ → ℕ → Bool  -- the pairs of an object and a place that some sweeper has seen in a forwarding word

-- objects that stay have places of their own
pub record HasPlaces (w : Setting) : Type 0 where
  pub was : (x : ℕ) → IsTrue (w.stays x) → IsTrue (w.was_place (w.old_place x))
  pub apart : (x y : ℕ) → IsTrue (w.stays x) → IsTrue (w.stays y) → w.old_place x ≡ w.old_place y → x ≡ y

abbrev pub is_collected : Setting → ℕ → Bool
is_collected w x = not (has w.older x)

-- the dues of this phase and of those before
abbrev pub all_dues : Setting → List Due
all_dues w = w.past ++ w.dues

-- the rule that a Keep slot stands for: from the member and the watched targets, the target
abbrev pub rule_of : Due → Rule
rule_of d = record { premises = member_list d.member ++ map (λ a. a.target) d.watched; conclusion = d.slot.target }

-- R, the rules of the phase: an older object is met from the start, and so is a given one
abbrev pub rules_of : Setting → List Rule
rules_of w = facts w.older ++ (facts w.given ++ map rule_of (filter keeps w.dues))
