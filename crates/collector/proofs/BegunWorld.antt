-- A heap that can be collected is a world, in order, with finitely many starts and registers.
use Rattle.std.proofs.Common.{◌≡◌, ℕ, zero, suc, ◌<◌, ◌≤◌, false, List, [], ◌∷◌, map, flat_map, length, slice_get, Contains, Option, Some, sym, ap, subst, ◌∙◌, inl, inr, leb-false}
use Rattle.std.proofs.lemmas.List.Elements.{Contains-append_left, Contains-append_right}
use Rattle.std.proofs.lemmas.Option.{none-some, slice_get_past}
use Rattle.std.specs.FinMap.{entries, get}
use Rattle.gc_words.specs.Layout.{thread_of}
use Rattle.gc_words.specs.declared.value.Value.{Value}
use Rattle.segment.specs.Segments.{Start}
use Rattle.territory.specs.declared.territory.Targets.{Targets}
use Rattle.territory.specs.Territories.{TerritoryView}
use Rattle.heap_store.specs.HeapView.{start_in, starts_in}
use Rattle.owned_core.proofs.Lists.{contains_here, contains_none, contains_there, contains_cases}
use Rattle.sweep_model.specs.World.{IsWorld, is_young}
use Rattle.sweeper.specs.Ready.{IsOrdered}
use Rattle.sweep_model.specs.Wholes.{IsListed}
use Rattle.sweep_model.proofs.Tallying.{entry_there}
use Rattle.collect_model.specs.Worlds.{objects_only, world_in}
use Rattle.collect_model.proofs.References.{object_only}
use Rattle.collector.specs.Begun.{AreCollectable, HaveBegun}
use Rattle.collector.proofs.BegunTerritories.{found}

-- ---- a list of all starts

-- the addresses at which something starts in a territory, and in several
addresses_in : TerritoryView → List ℕ
addresses_in t = map (λ (e : ℕ × Start). e.0) (entries t.starts)

addresses_of : List TerritoryView → List ℕ
addresses_of territories = flat_map addresses_in territories

contains_map : {X Y : Type 0} (f : X → Y) (xs : List X) (x : X) → Contains xs x → Contains (map f xs) (f x)
contains_map f [] x c = absurd (contains_none x c)
contains_map f (y ∷ xs) x c = elim (contains_cases y xs x c) [
  | inl is ↦ subst (λ z. Contains (f y ∷ map f xs) (f z)) is (contains_here (f y) (map f xs))
  | inr later ↦ contains_there (f y) (map f xs) (f x) (contains_map f xs x later)
]

has_address : (t : TerritoryView) (a : ℕ) (x : Start) → get t.starts a ≡ Some x → Contains (addresses_in t) a
unfolding addresses_in
has_address t a x h =
    contains_map (λ (e : ℕ × Start). e.0) (entries t.starts) (a, x) (entry_there t.starts a x h)

address_there : (territories : List TerritoryView) (i a : ℕ) (x : Start)
    → start_in (slice_get territories i) a ≡ Some x → Contains (addresses_of territories) a
unfolding addresses_of
address_there [] i a x h = absurd (none-some x h)
address_there (t ∷ ts) zero a x h =
    Contains-append_left (addresses_in t) (flat_map addresses_in ts) a (has_address t a x h)
address_there (t ∷ ts) (suc i) a x h =
    Contains-append_right (addresses_in t) (flat_map addresses_in ts) a (address_there ts i a x h)

-- ---- the world

older_than : (cg : ℕ) (x : Start) (o : Option Start) → o ≡ Some x → is_young cg o ≡ false → cg < x.generation
older_than cg x o e h = leb-false x.generation cg (sym (ap (is_young cg) e) ∙ h)

module _ (old new : List TerritoryView) (registers : List Value) (targets : Targets) (n : ℕ)
    (ready : AreCollectable old registers targets) (begun : HaveBegun old new targets)
    (some : 1 ≤ n) (most : n ≤ 64) where
  pub begun_world : IsWorld (world_in old registers targets n)
  begun_world = record {
    some = some;
    most = most;
    addresses = λ a x here.
        let f = found old new targets a x begun here in
        (f.begun.addresses a x f.starts).0;
    shaped = λ a x here.
        let f = found old new targets a x begun here in
        f.begun.shaped a x f.starts;
    fields = ready.fields;
    held = λ r b names. ready.held r b (sym (object_only (slice_get registers r)) ∙ names);
  }

  -- what is not collected is older than all that goes anywhere
  pub begun_ordered : IsOrdered (world_in old registers targets n)
  begun_ordered = record {
    above = λ a x here young. ready.above a x here (older_than targets.cg x (starts_in old a) here young);
    refers = λ a i b x here refers. ready.refers a i b x here refers;
  }

  pub begun_listed : IsListed (world_in old registers targets n)
  begun_listed = record {
    starts = addresses_of old;
    all = λ a x here. address_there old (thread_of a) a x here;
    registers = length registers;
    none = λ r past. ap objects_only (slice_get_past registers r past);
  }
