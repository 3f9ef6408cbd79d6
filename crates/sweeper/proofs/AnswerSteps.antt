-- The first message of a sweeper whose fields show the value.
use Rattle.std.proofs.Common.{◌≡◌, List, [], ◌∷◌, sym, ap, subst, ◌∙◌}
use Rattle.gc_mail.specs.declared.message.Message.{Message}
use Rattle.sweep_places.specs.Places.{PlacesView}
use Rattle.sweeper.specs.Sweepers.{SweeperView}
use Rattle.sweeper.specs.Ready.{Handles, MayHandle, Ready, Runs}
use Rattle.sweeper.proofs.WorldMail.{popped_may, popped_runs, runs_none}

-- there is none
pub runs_idle : (s v : SweeperView) (ms : List Message) → s ≡ v → (s.inbox ≡ []) × (ms ≡ [])
    → Runs v (record s { inbox = ms })
runs_idle s v ms same none =
    subst (Runs v) (sym same ∙ ap (λ l. record s { inbox = l }) (none.0 ∙ sym none.1)) (runs_none v)

-- no object was taken
pub runs_nowhere : (s v : SweeperView) (places : PlacesView) → s ≡ v → places ≡ s.places
    → Runs v (record s { places = places })
runs_nowhere s v places is same =
    subst (Runs v) (sym is ∙ ap (λ (p : PlacesView). record s { places = p }) (sym same)) (runs_none v)

-- it may be handled
pub may_handle : (s v : SweeperView) (m : Message) (ms : List Message) → s ≡ v → s.inbox ≡ m ∷ ms
    → Ready v → MayHandle (record s { inbox = ms }) m
may_handle s v m ms same is ready = popped_may s m ms is (subst Ready (sym same) ready)

-- and it was
pub runs_first : (s v v' : SweeperView) (m : Message) (ms : List Message) → s ≡ v → s.inbox ≡ m ∷ ms
    → Handles (record s { inbox = ms }) m v' → Runs v v'
runs_first s v v' m ms same is handles = subst (λ z. Runs z v') same (popped_runs s v' m ms is handles)

-- ---- a run

-- the sweeper is ready after a run
pub ready_after : (v v' : SweeperView) → Ready v → Runs v v' → Ready v'
ready_after v v' ready runs =
    (ready.0, ready.1, ready.2, (runs ready.0 ready.1 ready.2 ready.3).follows.ready)
