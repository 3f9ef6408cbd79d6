-- What sweepers do to the state, event by event.
use Rattle.std.specs.Prelude.{◌≡◌, ℕ, Bool, true, false, not, ◌||◌, ◌&&◌, ◌==◌, List, [], ◌∷◌, ◌++◌, map, filter, Contains, IsTrue, ◌⊎◌, if◌then◌else◌}
use Rattle.std.specs.List.{list_any}
use Rattle.trace_types.specs.Rules.{has}
use Rattle.owned_core.specs.Slots.{Stage, Asked, Heard, Answered, Told, Fixed, Slot, Standing, Due, is_keep, same_slot, is_asked, is_heard, is_told_at}
use Rattle.owned_core.specs.Settings.{Setting}
use Rattle.owned_core.specs.Owned.{State, in_list, is_taken, is_listed, is_there, is_due, begun, with_slots}
-- Sweeper k forwards x to the place p. It sweeps an object of its list, or one of the slots that it has in hand:
-- it answers one that it heard with the place p, or fixes one that it was told. A slot is delivered to the owner
-- of its target, or back to its holder. Sweeper k learns the place from the object's forwarding word.
pub use Rattle.owned_core.specs.declared.event.Event.{Event}
pub use Rattle.owned_core.specs.declared.event.Event.TheVariants.{Forward, Sweep, Answer, Fix, Deliver, Learn}

-- ---- when it can happen

-- The old place of an object that stays; else a place that is in no list and was no object's before the collection.
abbrev pub is_place_for : Setting → State → ℕ → ℕ → Bool
is_place_for w s x p = if w.stays x then p == w.old_place x else not (is_taken s p) && not (w.was_place p)

abbrev pub is_heard_keep : ℕ → Standing → Bool
is_heard_keep x t = is_keep t.slot.want && t.slot.target == x && is_heard t.stage

abbrev pub may_forward : Setting → State → ℕ → ℕ → ℕ → Bool
may_forward w s k x p =
    w.owner x == k && not (in_list s x) && list_any (is_heard_keep x) s.slots && is_place_for w s x p

abbrev pub may_sweep : Setting → State → ℕ → ℕ → Bool
may_sweep w s k x = w.owner x == k && has s.unswept x

abbrev pub may_answer : Setting → State → ℕ → Slot → ℕ → Standing → Bool
may_answer w s k a p t =
    same_slot t.slot a && is_heard t.stage && t.slot.has_place && w.owner t.slot.target == k
    && is_listed s k t.slot.target p

abbrev pub may_fix : ℕ → Slot → ℕ → Standing → Bool
may_fix k a p t = same_slot t.slot a && t.slot.holder == k && is_told_at t.stage p

abbrev pub is_sent : Stage → Bool
is_sent Asked = true
is_sent (Answered p) = true
is_sent _ = false

abbrev pub may_deliver : Slot → Standing → Bool
may_deliver a t = same_slot t.slot a && is_sent t.stage

-- The pair stands in the list of the target's owner, or was seen in the forwarding words.
abbrev pub may_learn : Setting → State → ℕ → Slot → ℕ → Standing → Bool
may_learn w s k a p t =
    same_slot t.slot a && t.slot.holder == k && is_keep t.slot.want && is_asked t.stage
    && (is_listed s (w.owner t.slot.target) t.slot.target p || w.believed t.slot.target p)

abbrev pub can_happen : Setting → State → Event → Bool
can_happen w s (Forward k x p) = may_forward w s k x p
can_happen w s (Sweep k x) = may_sweep w s k x
can_happen w s (Answer k a p) = list_any (may_answer w s k a p) s.slots
can_happen w s (Fix k a p) = list_any (may_fix k a p) s.slots
can_happen w s (Deliver a) = list_any (may_deliver a) s.slots
can_happen w s (Learn k a p) = list_any (may_learn w s k a p) s.slots

-- ---- what it does

abbrev pub after_answer : Setting → State → ℕ → Slot → ℕ → Standing → Stage
after_answer w s k a p t =
    if may_answer w s k a p t then (if t.slot.holder == k then Told p else Answered p) else t.stage

abbrev pub after_fix : ℕ → Slot → ℕ → Standing → Stage
after_fix k a p t = if may_fix k a p t then Fixed p else t.stage

abbrev pub delivered : Stage → Stage
delivered Asked = Heard
delivered (Answered p) = Told p
delivered Heard = Heard
delivered (Told p) = Told p
delivered (Fixed p) = Fixed p

abbrev pub after_delivery : Slot → Standing → Stage
after_delivery a t = if same_slot t.slot a then delivered t.stage else t.stage

abbrev pub after_learning : Setting → State → ℕ → Slot → ℕ → Standing → Stage
after_learning w s k a p t = if may_learn w s k a p t then Told p else t.stage

-- each slot goes to a stage
abbrev pub moved : State → (Standing → Stage) → State
moved s to = record s { slots = map (λ (t : Standing). record { slot = t.slot; stage = to t }) s.slots }

abbrev pub forwarded : State → ℕ → ℕ → ℕ → State
forwarded s k x p =
    record s { own = s.own ++ record { sweeper = k; object = x; place = p } ∷ []; unswept = s.unswept ++ x ∷ [] }

abbrev pub swept : State → ℕ → State
swept s x = record s { unswept = filter (λ y. not (y == x)) s.unswept }

-- What an event does; where it cannot happen, nothing. What is newly due gets its slot.
abbrev pub happens : Setting → State → Event → State
happens w s (Forward k x p) = if may_forward w s k x p then forwarded s k x p else s
happens w s (Sweep k x) = if may_sweep w s k x then with_slots w (swept s x) else s
happens w s (Answer k a p) = moved s (after_answer w s k a p)
happens w s (Fix k a p) = with_slots w (moved s (after_fix k a p))
happens w s (Deliver a) = moved s (after_delivery a)
happens w s (Learn k a p) = moved s (after_learning w s k a p)

-- events one after the other
abbrev pub run : Setting → State → List Event → State
run w s [] = s
run w s (e ∷ es) = run w (happens w s e) es

-- ---- the same where new slots come in any order

-- Slots to which each one that is due and was absent is added, in any order, and nothing else.
pub record Adds (w : Setting) (s : State) (ts : List Standing) : Type 0 where
  pub stays : (t : Standing) → Contains s.slots t → Contains ts t
  pub comes : (t : Standing) → Contains ts t → Contains s.slots t
      ⊎ ((d : Due) × Contains w.dues d × IsTrue (is_due w s d) × (begun w d.slot ≡ t) × (is_there s.slots d.slot ≡ false))
  pub all : (d : Due) → Contains w.dues d → IsTrue (is_due w s d) → IsTrue (is_there ts d.slot)

-- the state t may be what the event makes of s
abbrev pub Becomes : Setting → State → Event → State → Type 0
Becomes w s (Forward k x p) t = t ≡ happens w s (Forward k x p)
Becomes w s (Sweep k x) t =
    (ts : List Standing) × IsTrue (may_sweep w s k x) × Adds w (swept s x) ts × (t ≡ record (swept s x) { slots = ts })
Becomes w s (Answer k a p) t = t ≡ happens w s (Answer k a p)
Becomes w s (Fix k a p) t =
    (ts : List Standing) × Adds w (moved s (after_fix k a p)) ts × (t ≡ record (moved s (after_fix k a p)) { slots = ts })
Becomes w s (Deliver a) t = t ≡ happens w s (Deliver a)
Becomes w s (Learn k a p) t = t ≡ happens w s (Learn k a p)

-- the state t is reached by the events, one after the other
abbrev pub Reaches : Setting → State → List Event → State → Type 0
Reaches w s [] t = t ≡ s
Reaches w s (e ∷ es) t = (u : State) × Becomes w s e u × Reaches w u es t
