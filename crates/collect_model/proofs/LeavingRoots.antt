-- What has no locks, notes and registrations has none after a collection.
use Rattle.std.proofs.Common.{◌≡◌, ℕ, zero, suc, not, List, [], ◌∷◌, map, filter, flat_map, replicate, ◌&&◌, IsTrue, IsSome, Option, Some, None, nat_cmp, refl, sym, ap, subst, ◌∙◌}
use Rattle.std.specs.List.{AllByRecursion}
use Rattle.std.specs.FinMap.{find}
use Rattle.std.proofs.lemmas.Bool.{false≢true}
use Rattle.gc_words.specs.declared.registration.Registration.{Registration}
use Rattle.trace_types.specs.States.{State}
use Rattle.trace_types.specs.Rules.{has}
use Rattle.trace_types.specs.Kept.{is_given, kept}
use Rattle.trace_types.specs.Collections.{Arguments, note_left, registrations_left}
use Rattle.segment.specs.Segments.{Start}
use Rattle.heap_store.specs.declared.notes.Noted.{Noted}
use Rattle.heap_store.specs.declared.notes.Noted.TheVariants.{Empty}
use Rattle.heap_store.specs.Starts.{Starts, birth_of, is_object}
use Rattle.heap_store.specs.Registries.{level_count}
use Rattle.heap_store.specs.Roots.{IsNoteThere, IsRegistrationThere, LocksStand, NotesStand, RegistryStands, by_line, level_of, read_note, read_registration}
use Rattle.heap_store.proofs.Kept.{at_index}
use Rattle.heap_store.proofs.Plain.{plain_kind}
use Rattle.collect_model.proofs.Left.{AreLeft}
use Rattle.collect_model.proofs.PlainKinds.{ArePlain}

-- ---- locks

module _ (f g : Starts) (s : State) (a : Arguments) (counts : List (ℕ × ℕ)) (none : counts ≡ [])
    (set : List ℕ) (kinds : ArePlain f) (left : AreLeft set a f g) (stands : LocksStand f counts s.locks)
  where
    unlocked_before : (p : ℕ) (x : Start) → f p ≡ Some x → find nat_cmp x.birth s.locks ≡ None
    unlocked_before p x there =
        let no_cell = (plain_kind x.kind (kinds p x there)).no_cell in
        ap (λ o. find nat_cmp (birth_of o) s.locks) (sym there)
        ∙ stands.same p (ap is_object there ∙ ap not no_cell) ∙ ap (find nat_cmp p) none

    unlocked : (q : ℕ) (o : Option Start) → g q ≡ o → IsTrue (is_object o)
        → find nat_cmp (birth_of o) s.locks ≡ None
    unlocked q None here is = absurd (false≢true is)
    unlocked q (Some y) here is =
        let was = left.from q y here in
        ap (λ n. find nat_cmp n s.locks) was.left.birth ∙ unlocked_before was.place was.start was.there

    -- nothing that is left is locked
    pub locks_left : LocksStand g counts s.locks
    locks_left = record {
      there = λ q is. absurd (false≢true (subst (λ locks. IsSome (find nat_cmp q locks)) none is));
      same = λ q is. unlocked q (g q) refl is ∙ sym (ap (find nat_cmp q) none);
    }

-- ---- notes

-- an empty note stays empty
notes_empty : (f g : Starts) (s : State) (cg n : ℕ)
    → map (note_left s cg) (map (read_note f) (replicate n Empty)) ≡ map (read_note g) (replicate n Empty)
notes_empty f g s cg zero = refl
notes_empty f g s cg (suc n) = ap (λ notes. read_note g Empty ∷ notes) (notes_empty f g s cg n)

notes_there : (g : Starts) (n : ℕ) → AllByRecursion (IsNoteThere g) (replicate n Empty)
notes_there g zero = tt
notes_there g (suc n) = (tt, notes_there g n)

-- notes that are empty stay so
pub notes_left : (f g : Starts) (s : State) (cg : ℕ) (notes : List Noted) → notes ≡ replicate 256 Empty
    → NotesStand f notes s.notes → NotesStand g notes (map (note_left s cg) s.notes)
notes_left f g s cg notes empty stands = record {
  there = subst (AllByRecursion (IsNoteThere g)) (sym empty) (notes_there g 256);
  reads =
      ap (map (note_left s cg)) (stands.reads ∙ ap (map (read_note f)) empty)
      ∙ notes_empty f g s cg 256 ∙ sym (ap (map (read_note g)) empty);
}

-- ---- registrations

-- a registry that is empty stays so
pub registry_left : (g : Starts) (s : State) (cg : ℕ) (registry : List (List Registration))
    → registry ≡ replicate level_count [] → s.registrations ≡ []
    → RegistryStands g registry (registrations_left s cg)
registry_left g s cg registry empty none = record {
  there = nothing (IsRegistrationThere g);
  levels = λ level below.
      let P = λ (r : Registration). level_of g r ≡ level in
      at_index (AllByRecursion P) [] tt registry (nothing P) level;
  reads =
      ap (filter (λ r. has (kept s cg) r.guardian && not (is_given s cg r))) none
      ∙ sym (ap (λ lists. by_line (map (read_registration g) (flat_map (λ rs. rs) lists))) empty);
}
  where
    nothing : (P : Registration → Type 0) → AllByRecursion (AllByRecursion P) registry
    nothing P =
        subst (AllByRecursion (AllByRecursion P)) (sym empty)
        (tt, (tt, (tt, (tt, (tt, (tt, (tt, (tt, (tt, tt)))))))))
