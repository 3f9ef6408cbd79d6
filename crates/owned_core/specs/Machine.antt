-- The machine that runs, as a setting and a state of the core.
use Rattle.std.specs.Prelude.{◌%◌, false, not, ◌&&◌, nat_lt, [], ◌∷◌, ◌++◌, map, if◌then◌else◌}
use Rattle.trace_types.specs.Rules.{has}
use Rattle.owned_core.specs.declared.plan.Due.{Due as CodeDue}
use Rattle.owned_core.specs.declared.plan.Plan.{Plan}
use Rattle.owned_core.specs.declared.machine.Machine.{Machine}
use Rattle.owned_core.specs.Slots.{Stage, Standing, Due}
use Rattle.owned_core.specs.Settings.{Setting}
use Rattle.owned_core.specs.Owned.{State, is_there, is_due, begun}

abbrev pub due_of : CodeDue → Due
due_of d = record { slot = d.slot; member = d.member; watched = d.watched.items }

-- an object's name is its old place, and its sweeper the remainder of its name
abbrev pub setting_of : Plan → Setting
setting_of p = record {
  older = p.older.items;
  owner = λ x. x % p.sweepers;
  stays = has p.staying.items;
  old_place = λ x. x;
  was_place = λ q. nat_lt q p.first_new;
  place_owner = λ q. q % p.sweepers;
  dues = map due_of p.dues.items;
  past = [];
  given = [];
  believed = λ x q. false;
}

abbrev pub state_of : Machine → State
state_of m = record { own = m.own.items; unswept = m.unswept.items; slots = m.slots.items }

-- the slot of one due comes last where it is due and not there
abbrev pub with_one : Setting → State → Due → State
with_one w s d = if is_due w s d && not (is_there s.slots d.slot) then record s { slots = s.slots ++ begun w d.slot ∷ [] } else s

abbrev pub at_stage : (Standing → Stage) → Standing → Standing
at_stage to t = record { slot = t.slot; stage = to t }
