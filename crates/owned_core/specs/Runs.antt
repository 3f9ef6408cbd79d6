-- Small runs of two sweepers, computed to their ends. Sweeper 0 owns the even objects, sweeper 1 the odd ones.
use Rattle.std.specs.Prelude.{◌≡◌, ℕ, ◌+◌, ◌%◌, Bool, true, false, ◌&&◌, ◌==◌, None, Some, List, [], ◌∷◌}
use Rattle.std.specs.List.{list_all}
use Rattle.trace_types.specs.declared.kind.Kind.TheVariants.{Eph}
use Rattle.trace_types.specs.Values.{Object, object}
use Rattle.trace_types.specs.Rules.{has, least}
use Rattle.trace_types.specs.Kept.{object_rules, without_premise}
use Rattle.owned_core.specs.Slots.{Keep, Watch, Heard, Fixed, Slot, Due}
use Rattle.owned_core.specs.Settings.{Setting, is_collected, rules_of}
use Rattle.owned_core.specs.Owned.{State, nothing_yet, in_list, is_kept, is_there, is_due, with_slots}
use Rattle.owned_core.specs.Events.{Event, Forward, Sweep, Answer, Fix, Deliver, run}
use Rattle.owned_core.specs.Invariants.{rests}
use Rattle.owned_core.specs.Dues.{wait_name, watch_at, keep_nowhere, as_though_object}

-- object 8 is older, and object 2 stays at its place
abbrev pub two_sweepers : List Due → Setting
two_sweepers dues = record {
  older = 8 ∷ [];
  owner = λ x. x % 2;
  stays = λ x. x == 2;
  old_place = λ x. 500 + x;
  was_place = λ p. p == 502;
  place_owner = λ p. p % 2;
  dues = dues;
  past = [];
  given = [];
  believed = λ x p. false;
}

abbrev pub end_of : List Due → List Event → State
end_of dues events = run (two_sweepers dues) (with_slots (two_sweepers dues) nothing_yet) events

-- whether each slot rests, and nothing is unswept
abbrev pub is_idle : State → Bool
is_idle s = list_all (λ x. false) s.unswept && list_all (λ t. rests s t.slot t.stage) s.slots

-- whether of these objects exactly the collected members of the least set are in the lists
abbrev pub is_exact : List Due → State → List ℕ → Bool
is_exact dues s = list_all (λ x. same (in_list s x) (is_collected (two_sweepers dues) x && has (least (rules_of (two_sweepers dues))) x))
  where
    same : Bool → Bool → Bool
    same true b = b
    same false true = false
    same false false = true

-- ---- an ephemeron

-- Sweeper 0 has a register that refers to the ephemeron 1, whose key is 2 and whose value is 3. Sweeper 1 has a
-- register that refers to the key.
abbrev pub to_ephemeron : Slot
to_ephemeron = record { name = 100; holder = 0; target = 1; want = Keep; has_place = true }

abbrev pub to_key : Slot
to_key = record { name = 101; holder = 1; target = 2; want = Keep; has_place = true }

abbrev pub key : Slot
key = record { name = 10; holder = 1; target = 2; want = Watch; has_place = true }

abbrev pub value : Slot
value = record { name = 11; holder = 1; target = 3; want = Keep; has_place = true }

abbrev pub root : Slot → Due
root a = record { slot = a; member = None; watched = [] }

abbrev pub value_due : Due
value_due = record { slot = value; member = Some 1; watched = key ∷ [] }

abbrev pub ephemeron_dues : List Due
ephemeron_dues = root to_ephemeron ∷ record { slot = key; member = Some 1; watched = [] } ∷ value_due ∷ []

abbrev pub with_key : List Due
with_key = root to_key ∷ ephemeron_dues

abbrev pub events : List Event
events =
    Deliver to_ephemeron ∷ Deliver to_key
    ∷ Forward 1 1 601 ∷ Answer 1 to_ephemeron 601 ∷ Sweep 1 1 ∷ Forward 0 2 502 ∷ Answer 0 to_key 502 ∷ Sweep 0 2
    ∷ Deliver to_ephemeron ∷ Deliver to_key ∷ Deliver key
    ∷ Fix 0 to_ephemeron 601 ∷ Fix 1 to_key 502 ∷ Answer 0 key 502
    ∷ Deliver key
    ∷ Fix 1 key 502 ∷ Forward 1 3 603 ∷ Sweep 1 3 ∷ Answer 1 value 603 ∷ Fix 1 value 603 ∷ []

-- The value is kept, and each slot is fixed: that of the value was made when the watch of its key was fixed.
abbrev pub EphemeronIsKept : Type 0
EphemeronIsKept =
    (end_of with_key events ≡ record {
      own = record { sweeper = 1; object = 1; place = 601 } ∷ record { sweeper = 0; object = 2; place = 502 } ∷ record { sweeper = 1; object = 3; place = 603 } ∷ [];
      unswept = [];
      slots =
          record { slot = to_key; stage = Fixed 502 } ∷ record { slot = to_ephemeron; stage = Fixed 601 } ∷ record { slot = key; stage = Fixed 502 }
          ∷ record { slot = value; stage = Fixed 603 } ∷ [];
    })
    × (is_idle (end_of with_key events) ≡ true)
    × (is_exact with_key (end_of with_key events) (0 ∷ 1 ∷ 2 ∷ 3 ∷ 8 ∷ []) ≡ true)

-- Without the second register the key goes, and the value with it: the watch stays at Heard.
abbrev pub EphemeronIsBroken : Type 0
EphemeronIsBroken =
    (end_of ephemeron_dues events ≡ record {
      own = record { sweeper = 1; object = 1; place = 601 } ∷ [];
      unswept = [];
      slots = record { slot = to_ephemeron; stage = Fixed 601 } ∷ record { slot = key; stage = Heard } ∷ [];
    })
    × (is_idle (end_of ephemeron_dues events) ≡ true)
    × (is_exact ephemeron_dues (end_of ephemeron_dues events) (0 ∷ 1 ∷ 2 ∷ 3 ∷ 8 ∷ []) ≡ true)

-- ---- why a rule's own slot must be there

-- a register that refers to the value too
abbrev pub to_value : Slot
to_value = record { name = 102; holder = 0; target = 3; want = Keep; has_place = true }

abbrev pub with_value : List Due
with_value = root to_value ∷ with_key

-- All three are kept, the key's watch is fixed, and the value is the target of a Keep slot, that of the register. But
-- the value's own slot was not made.
abbrev pub without_own_slot : State
without_own_slot = record {
  own = record { sweeper = 1; object = 1; place = 601 } ∷ record { sweeper = 0; object = 2; place = 502 } ∷ record { sweeper = 1; object = 3; place = 603 } ∷ [];
  unswept = [];
  slots =
      record { slot = to_value; stage = Fixed 603 } ∷ record { slot = to_key; stage = Fixed 502 } ∷ record { slot = to_ephemeron; stage = Fixed 601 }
      ∷ record { slot = key; stage = Fixed 502 } ∷ [];
}

-- So its conclusion is the target of some Keep slot, the state is idle and its lists are exact, and yet the field of
-- the value would keep the old address. The invariant asks for the slot itself.
abbrev pub OwnSlotIsAsked : Type 0
OwnSlotIsAsked =
    (is_due (two_sweepers with_value) without_own_slot value_due ≡ true)
    × (is_kept without_own_slot 3 ≡ true)
    × (is_idle without_own_slot ≡ true)
    × (is_exact with_value without_own_slot (0 ∷ 1 ∷ 2 ∷ 3 ∷ 8 ∷ []) ≡ true)
    × (is_there without_own_slot.slots value ≡ false)

-- ---- why an ephemeron that is its own key watches nothing

-- the ephemeron 5 of a candidate, whose key is itself and whose value is 7
abbrev pub own_key : Object
own_key = record { kind = Eph; creator = 1; generation = 0; fields = object 5 ∷ object 7 ∷ []; queue = [] }

-- its value, with a watch on the ephemeron, which nothing may ever keep
abbrev pub watching_itself : List Due
watching_itself =
    root (watch_at (wait_name 5) 1 5)
    ∷ record { slot = keep_nowhere 1 7; member = None; watched = watch_at (wait_name 5) 1 5 ∷ [] } ∷ []

-- As though the ephemeron were a member its value would be one too: nothing is left of the premises. Its dues watch
-- nothing and the value is forwarded. With a watch on itself the state would be idle with the value in no list.
abbrev pub OwnKeyWatchesNothing : Type 0
OwnKeyWatchesNothing =
    (has (least (without_premise 5 (object_rules 5 own_key))) 7 ≡ true)
    × (as_though_object 1 5 own_key ≡ record { slot = keep_nowhere 1 7; member = None; watched = [] } ∷ [])
    × (end_of (as_though_object 1 5 own_key) (Forward 1 7 707 ∷ Sweep 1 7 ∷ []) ≡ record {
      own = record { sweeper = 1; object = 7; place = 707 } ∷ [];
      unswept = [];
      slots = record { slot = keep_nowhere 1 7; stage = Heard } ∷ [];
    })
    × (is_idle (end_of (as_though_object 1 5 own_key) (Forward 1 7 707 ∷ Sweep 1 7 ∷ [])) ≡ true)
    × (in_list (end_of watching_itself (Forward 1 7 707 ∷ Sweep 1 7 ∷ [])) 7 ≡ false)
    × (is_idle (end_of watching_itself (Forward 1 7 707 ∷ Sweep 1 7 ∷ [])) ≡ true)
