-- The runs, computed.
use Rattle.std.proofs.Common.{refl}
use Rattle.trace_types.specs.Rules.{least}
use Rattle.owned_core.specs.Runs.{EphemeronIsKept, EphemeronIsBroken, OwnSlotIsAsked, OwnKeyWatchesNothing}

pub ephemeron_is_kept : EphemeronIsKept
unfolding least
ephemeron_is_kept = (refl, refl, refl)

pub ephemeron_is_broken : EphemeronIsBroken
unfolding least
ephemeron_is_broken = (refl, refl, refl)

pub own_slot_is_asked : OwnSlotIsAsked
unfolding least
own_slot_is_asked = (refl, refl, refl, refl, refl)

pub own_key_watches_nothing : OwnKeyWatchesNothing
unfolding least
own_key_watches_nothing = (refl, refl, refl, refl, refl, refl)
