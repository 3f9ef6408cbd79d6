-- The Keep dues of each phase are the rules of the phase.
use Rattle.std.proofs.Common.{◌≡◌, ℕ, ◌+◌, ◌%◌, true, false, not, ◌&&◌, ◌==◌, List, [], ◌∷◌, ◌++◌, map, filter, cond, IsTrue, refl, sym, ap, ◌∙◌, Option, Some, None}
use Rattle.std.specs.List.{flat_map}
use Rattle.std.proofs.lemmas.Bool.{eq-eqb}
use Rattle.std.proofs.lemmas.List.{map-append}
use Rattle.std.proofs.lemmas.List.Elements.{filter-append}
use Rattle.trace_types.specs.Values.{Value, fixnum, nil, true_value, false_value, bwp, object, objects_in, Object, is_ephemeron, strong_references, strong_values}
use Rattle.trace_types.specs.States.{State, Registration, locked}
use Rattle.trace_types.specs.Rules.{Rule, facts}
use Rattle.trace_types.specs.Values.{key_of, value_of}
use Rattle.trace_types.specs.Kept.{rules_to, strong_rules, ephemeron_rules, object_rules, registration_rules, rules, is_dead, is_unordered, is_ordered, served, is_candidate, without_premise, as_though_member, as_though, ready, unready_rules}
use Rattle.owned_core.specs.Dues.{always, as_though_dues, as_though_object, base_dues, entry_slots, ephemeron_dues, field_name, guardian_slot, is_weak, keep_at, keep_nowhere, key_slots, lock_dues, object_dues, of_member, owner_in, ready_dues, register_dues, registration_dues, representative_dues, served_dues, strong_dues, unready_dues, wait_name, wait_slots, watch_at, weak_dues}
use Rattle.owned_core.specs.Settings.{rule_of}
use Rattle.owned_core.specs.Slots.{Due, Slot, is_keep, keeps}

-- the rules of the Keep slots
abbrev pub kept_rules : List Due → List Rule
kept_rules ds = map rule_of (filter keeps ds)

pub kept_append : (ds es : List Due) → kept_rules (ds ++ es) ≡ kept_rules ds ++ kept_rules es
kept_append ds es = ap (map rule_of) (filter-append keeps ds es) ∙ map-append rule_of (filter keeps ds) (filter keeps es)

kept_flat_map : {X : Type 0} (f : X → List Due) (g : X → List Rule) → ((x : X) → kept_rules (f x) ≡ g x) → (xs : List X) → kept_rules (flat_map f xs) ≡ flat_map g xs
kept_flat_map f g h [] = refl
kept_flat_map f g h (x ∷ xs) = kept_append (f x) (flat_map f xs) ∙ ap (λ l. l ++ kept_rules (flat_map f xs)) (h x) ∙ ap (λ l. g x ++ l) (kept_flat_map f g h xs)

-- Keep dues have a rule each, and Watch dues have none
kept_each : {X : Type 0} (f : X → Due) → ((x : X) → IsTrue (keeps (f x))) → (xs : List X) → kept_rules (map f xs) ≡ map (λ x. rule_of (f x)) xs
kept_each f h [] = refl
kept_each f h (x ∷ xs) = ap (λ b. map rule_of (cond b (f x ∷ filter keeps (map f xs)) (filter keeps (map f xs)))) (h x) ∙ ap (λ l. rule_of (f x) ∷ l) (kept_each f h xs)

kept_none : {X : Type 0} (f : X → Due) → ((x : X) → keeps (f x) ≡ false) → (xs : List X) → kept_rules (map f xs) ≡ []
kept_none f h [] = refl
kept_none f h (x ∷ xs) = ap (λ b. map rule_of (cond b (f x ∷ filter keeps (map f xs)) (filter keeps (map f xs)))) (h x) ∙ kept_none f h xs

map_twice : {X Y Z : Type 0} (f : Y → Z) (g : X → Y) (xs : List X) → map f (map g xs) ≡ map (λ x. f (g x)) xs
map_twice f g [] = refl
map_twice f g (x ∷ xs) = ap (λ l. f (g x) ∷ l) (map_twice f g xs)

map_itself : (xs : List ℕ) → map (λ x. x) xs ≡ xs
map_itself [] = refl
map_itself (x ∷ xs) = ap (λ l. x ∷ l) (map_itself xs)

targets_are : (name k : ℕ) (xs : List ℕ) → map (λ (a : Slot). a.target) (map (watch_at name k) xs) ≡ xs
targets_are name k xs = map_twice (λ (a : Slot). a.target) (watch_at name k) xs ∙ map_itself xs

-- Watch slots alone have no rules
watches_none : (d : Slot → Due) → ((a : Slot) → keeps (d a) ≡ is_keep a.want) → (name k : ℕ) (xs : List ℕ) → kept_rules (map d (map (watch_at name k) xs)) ≡ []
watches_none d h name k xs = ap kept_rules (map_twice d (watch_at name k) xs) ∙ kept_none (λ x. d (watch_at name k x)) (λ x. h (watch_at name k x)) xs

-- ---- an object

kept_strong : (k x i : ℕ) (ys : List ℕ) → kept_rules (strong_dues k x i ys) ≡ map (λ y. record { premises = x ∷ []; conclusion = y }) ys
kept_strong k x i [] = refl
kept_strong k x i (y ∷ ys) = ap (λ l. record { premises = x ∷ []; conclusion = y } ∷ l) (kept_strong k x (i + 1) ys)

rules_to_each : (x : ℕ) (vs : List Value) → map (λ y. record { premises = x ∷ []; conclusion = y }) (objects_in vs) ≡ flat_map (λ v. rules_to v (x ∷ [])) vs
rules_to_each x [] = refl
rules_to_each x (object y ∷ vs) = ap (λ l. record { premises = x ∷ []; conclusion = y } ∷ l) (rules_to_each x vs)
rules_to_each x (fixnum z ∷ vs) = rules_to_each x vs
rules_to_each x (nil ∷ vs) = rules_to_each x vs
rules_to_each x (true_value ∷ vs) = rules_to_each x vs
rules_to_each x (false_value ∷ vs) = rules_to_each x vs
rules_to_each x (bwp ∷ vs) = rules_to_each x vs

kept_weak : (k x : ℕ) (o : Object) → kept_rules (weak_dues k x o) ≡ []
kept_weak k x o = elim (is_weak o.kind) as (λ b. kept_rules (cond b (map (of_member x) (key_slots k x o)) []) ≡ []) [
  | true ↦ watches_none (of_member x) (λ a. refl) (field_name x 0) k (objects_in (key_of o ∷ []))
  | false ↦ refl
]

-- rules to a value from Keep dues of its own
kept_to : (slot : ℕ → Slot) → ((v : ℕ) → is_keep (slot v).want ≡ true) → ((v : ℕ) → (slot v).target ≡ v) → (m : Option ℕ) (watched : List Slot) (premises : List ℕ) → ((v : ℕ) → (rule_of (record { slot = slot v; member = m; watched = watched })).premises ≡ premises) → (value : Value)
    → kept_rules (map (λ v. record { slot = slot v; member = m; watched = watched }) (objects_in (value ∷ []))) ≡ rules_to value premises
kept_to slot keep target m watched premises same value =
    kept_each (λ v. record { slot = slot v; member = m; watched = watched }) keep (objects_in (value ∷ []))
    ∙ each (objects_in (value ∷ []))
  where
    each : (vs : List ℕ) → map (λ v. rule_of (record { slot = slot v; member = m; watched = watched })) vs ≡ map (λ v. record { premises = premises; conclusion = v }) vs
    each [] = refl
    each (v ∷ vs) =
        ap {B = List Rule} (λ l. l ∷ map (λ u. rule_of (record { slot = slot u; member = m; watched = watched })) vs)
        (ap {B = Rule} (λ z. record { premises = z; conclusion = (slot v).target }) (same v) ∙ ap {B = Rule} (λ z. record { premises = premises; conclusion = z }) (target v))
        ∙ ap (λ l. record { premises = premises; conclusion = v } ∷ l) (each vs)

kept_ephemeron : (k x : ℕ) (o : Object) → kept_rules (ephemeron_dues k x o) ≡ ephemeron_rules x o
kept_ephemeron k x o = elim (is_ephemeron o.kind) as (λ b.
    kept_rules (cond b (map (of_member x) (key_slots k x o) ++ map (λ v. record { slot = keep_at (field_name x 1) k v; member = Some x; watched = key_slots k x o }) (objects_in (value_of o ∷ []))) [])
    ≡ cond b (rules_to (value_of o) (x ∷ objects_in (key_of o ∷ []))) []) [
      | true ↦
          kept_append (map (of_member x) (key_slots k x o)) (map (λ v. record { slot = keep_at (field_name x 1) k v; member = Some x; watched = key_slots k x o }) (objects_in (value_of o ∷ [])))
          ∙ ap (λ l. l ++ kept_rules (map (λ v. record { slot = keep_at (field_name x 1) k v; member = Some x; watched = key_slots k x o }) (objects_in (value_of o ∷ []))))
          (watches_none (of_member x) (λ a. refl) (field_name x 0) k (objects_in (key_of o ∷ [])))
          ∙ kept_to (keep_at (field_name x 1) k) (λ v. refl) (λ v. refl) (Some x) (key_slots k x o) (x ∷ objects_in (key_of o ∷ []))
          (λ v. ap (λ l. x ∷ l) (targets_are (field_name x 0) k (objects_in (key_of o ∷ [])))) (value_of o)
      | false ↦ refl
    ]

kept_object : (k x : ℕ) (o : Object) → kept_rules (object_dues k x o) ≡ object_rules x o
kept_object k x o =
    kept_append (strong_dues k x 0 (strong_references o)) (weak_dues k x o ++ ephemeron_dues k x o)
    ∙ ap (λ l. l ++ kept_rules (weak_dues k x o ++ ephemeron_dues k x o)) (kept_strong k x 0 (strong_references o) ∙ rules_to_each x (strong_values o))
    ∙ ap (λ l. strong_rules x o ++ l)
    (kept_append (weak_dues k x o) (ephemeron_dues k x o) ∙ ap (λ l. l ++ kept_rules (ephemeron_dues k x o)) (kept_weak k x o) ∙ kept_ephemeron k x o)

-- ---- registrations, registers and locks

kept_representative : (n : ℕ) (r : Registration) (watched : List Slot) (premises : List ℕ) → map (λ (a : Slot). a.target) watched ≡ premises → kept_rules (representative_dues n r watched) ≡ rules_to r.representative premises
kept_representative n r watched premises same = kept_to (keep_at _ (r.line % n)) (λ v. refl) (λ v. refl) None watched premises (λ v. same) r.representative

entry_targets : (n : ℕ) (r : Registration) → map (λ (a : Slot). a.target) (entry_slots n r) ≡ r.guardian ∷ objects_in (r.object ∷ [])
entry_targets n r = ap (λ l. r.guardian ∷ l) (targets_are _ (r.line % n) (objects_in (r.object ∷ [])))

kept_registration : (n : ℕ) (r : Registration) → kept_rules (registration_dues n r) ≡ registration_rules r
kept_registration n r =
    kept_append (map always (entry_slots n r)) (representative_dues n r (entry_slots n r))
    ∙ ap (λ l. l ++ kept_rules (representative_dues n r (entry_slots n r))) (watches_none always (λ a. refl) _ (r.line % n) (objects_in (r.object ∷ [])))
    ∙ kept_representative n r (entry_slots n r) (r.guardian ∷ objects_in (r.object ∷ [])) (entry_targets n r)

kept_registers : (n i : ℕ) (vs : List Value) → kept_rules (register_dues n i vs) ≡ facts (objects_in vs)
kept_registers n i [] = refl
kept_registers n i (object x ∷ vs) = ap (λ l. record { premises = []; conclusion = x } ∷ l) (kept_registers n (i + 1) vs)
kept_registers n i (fixnum z ∷ vs) = kept_registers n (i + 1) vs
kept_registers n i (nil ∷ vs) = kept_registers n (i + 1) vs
kept_registers n i (true_value ∷ vs) = kept_registers n (i + 1) vs
kept_registers n i (false_value ∷ vs) = kept_registers n (i + 1) vs
kept_registers n i (bwp ∷ vs) = kept_registers n (i + 1) vs

kept_locks : (s : State) (n : ℕ) → kept_rules (lock_dues s n) ≡ facts (locked s)
kept_locks s n = kept_each (λ x. always (keep_nowhere (owner_in s n x) x)) (λ x. refl) (locked s)

-- ---- the phases

pub kept_base : (s : State) (n : ℕ) → kept_rules (base_dues s n) ≡ facts (objects_in s.registers) ++ (facts (locked s) ++ rules s)
kept_base s n =
    kept_append (register_dues n 0 s.registers) (lock_dues s n ++ (objects ++ registrations))
    ∙ ap (λ l. l ++ kept_rules (lock_dues s n ++ (objects ++ registrations))) (kept_registers n 0 s.registers)
    ∙ ap (λ l. facts (objects_in s.registers) ++ l)
    (kept_append (lock_dues s n) (objects ++ registrations)
    ∙ ap (λ l. l ++ kept_rules (objects ++ registrations)) (kept_locks s n)
    ∙ ap (λ l. facts (locked s) ++ l)
    (kept_append objects registrations
    ∙ ap (λ l. l ++ kept_rules registrations) (kept_flat_map (λ (entry : ℕ × Object). object_dues (owner_in s n entry.0) entry.0 entry.1) (λ entry. object_rules entry.0 entry.1) (λ entry. kept_object (owner_in s n entry.0) entry.0 entry.1) s.graph)
    ∙ ap (λ l. flat_map (λ (entry : ℕ × Object). object_rules entry.0 entry.1) s.graph ++ l) (kept_flat_map (registration_dues n) registration_rules (kept_registration n) s.registrations)))
  where
    objects : List Due
    objects = flat_map (λ (entry : ℕ × Object). object_dues (owner_in s n entry.0) entry.0 entry.1) s.graph

    registrations : List Due
    registrations = flat_map (registration_dues n) s.registrations

pub kept_served : (s : State) (cg n : ℕ) → kept_rules (served_dues s cg n) ≡ served s cg
kept_served s cg n = kept_flat_map (λ r. representative_dues n r (guardian_slot n r ∷ [])) (λ (r : Registration). rules_to r.representative (r.guardian ∷ []))
    (λ r. kept_representative n r (guardian_slot n r ∷ []) (r.guardian ∷ []) refl) (filter (λ r. is_dead s cg r && is_unordered s r) s.registrations)

pub kept_unready : (s : State) (cg n : ℕ) → kept_rules (unready_dues s cg n) ≡ unready_rules s cg
kept_unready s cg n = kept_flat_map (λ (r : Registration). map (λ x. record { slot = keep_nowhere (r.line % n) x; member = None; watched = guardian_slot n r ∷ [] }) (objects_in (r.object ∷ []))) (λ (r : Registration). rules_to r.object (r.guardian ∷ []))
    (λ r. kept_to (keep_nowhere (r.line % n)) (λ v. refl) (λ v. refl) None (guardian_slot n r ∷ []) (r.guardian ∷ []) (λ v. refl) r.object)
    (filter (λ r. is_dead s cg r && is_ordered s r && not (is_candidate s cg r)) s.registrations)

ready_facts : (rs : List Registration) → flat_map (λ (r : Registration). rules_to r.representative []) rs ≡ facts (objects_in (map (λ (r : Registration). r.representative) rs))
ready_facts [] = refl
ready_facts (r ∷ rs) = elim r.representative as (λ v. rules_to v [] ++ flat_map (λ (q : Registration). rules_to q.representative []) rs ≡ facts (objects_in (v ∷ map (λ (q : Registration). q.representative) rs))) [
  | object x ↦ ap (λ l. record { premises = []; conclusion = x } ∷ l) (ready_facts rs)
  | fixnum z ↦ ready_facts rs
  | nil ↦ ready_facts rs
  | true_value ↦ ready_facts rs
  | false_value ↦ ready_facts rs
  | bwp ↦ ready_facts rs
]

pub kept_ready : (s : State) (cg n : ℕ) → kept_rules (ready_dues s cg n) ≡ facts (objects_in (map (λ r. r.representative) (ready s cg)))
kept_ready s cg n = kept_flat_map (λ r. representative_dues n r []) (λ (r : Registration). rules_to r.representative []) (λ r. kept_representative n r [] [] refl) (ready s cg) ∙ ready_facts (ready s cg)

-- ---- a candidate's object

-- what is struck from premises that begin with x
strike_first : (x : ℕ) (keys : List ℕ) → filter (λ y. not (x == y)) (x ∷ keys) ≡ filter (λ y. not (x == y)) keys
strike_first x keys = ap (λ b. cond (not b) (x ∷ filter (λ y. not (x == y)) keys) (filter (λ y. not (x == y)) keys)) (eq-eqb x x refl)

map_pointwise : {X Y : Type 0} (f g : X → Y) → ((x : X) → f x ≡ g x) → (xs : List X) → map f xs ≡ map g xs
map_pointwise f g h [] = refl
map_pointwise f g h (x ∷ xs) = ap (λ y. y ∷ map f xs) (h x) ∙ ap (λ l. g x ∷ l) (map_pointwise f g h xs)

without_rules_to : (x : ℕ) (keys : List ℕ) (value : Value) → without_premise x (rules_to value (x ∷ keys)) ≡ rules_to value (filter (λ y. not (x == y)) keys)
without_rules_to x keys value =
    map_twice (λ (r : Rule). record r { premises = filter (λ y. not (x == y)) r.premises }) (λ v. record { premises = x ∷ keys; conclusion = v }) (objects_in (value ∷ []))
    ∙ map_pointwise _ (λ v. record { premises = filter (λ y. not (x == y)) keys; conclusion = v }) (λ v. ap {B = Rule} (λ z. record { premises = z; conclusion = v }) (strike_first x keys)) (objects_in (value ∷ []))

waits_none : (x k : ℕ) (keys : List ℕ) → kept_rules (map always (filter (λ (a : Slot). not (x == a.target)) (map (watch_at (wait_name x) k) keys))) ≡ []
waits_none x k [] = refl
waits_none x k (key ∷ keys) = elim (x == key) as (λ b. kept_rules (map always (cond (not b) (watch_at (wait_name x) k key ∷ filter (λ (a : Slot). not (x == a.target)) (map (watch_at (wait_name x) k) keys)) (filter (λ (a : Slot). not (x == a.target)) (map (watch_at (wait_name x) k) keys)))) ≡ []) [
  | true ↦ waits_none x k keys
  | false ↦ waits_none x k keys
]

wait_targets : (x k : ℕ) (keys : List ℕ) → map (λ (a : Slot). a.target) (filter (λ (a : Slot). not (x == a.target)) (map (watch_at (wait_name x) k) keys)) ≡ filter (λ y. not (x == y)) keys
wait_targets x k [] = refl
wait_targets x k (key ∷ keys) = elim (x == key) as (λ b. map (λ (a : Slot). a.target) (cond (not b) (watch_at (wait_name x) k key ∷ filter (λ (a : Slot). not (x == a.target)) (map (watch_at (wait_name x) k) keys)) (filter (λ (a : Slot). not (x == a.target)) (map (watch_at (wait_name x) k) keys)))
    ≡ cond (not b) (key ∷ filter (λ y. not (x == y)) keys) (filter (λ y. not (x == y)) keys)) [
      | true ↦ wait_targets x k keys
      | false ↦ ap (λ l. key ∷ l) (wait_targets x k keys)
    ]

kept_as_though_object : (k x : ℕ) (o : Object) → kept_rules (as_though_object k x o) ≡ without_premise x (object_rules x o)
kept_as_though_object k x o =
    kept_append (map (λ y. always (keep_nowhere k y)) (strong_references o)) ephemeron
    ∙ ap (λ l. l ++ kept_rules ephemeron) strong
    ∙ ap (λ l. without_premise x (strong_rules x o) ++ l) whole
    ∙ sym (map-append (λ (r : Rule). record r { premises = filter (λ y. not (x == y)) r.premises }) (strong_rules x o) (ephemeron_rules x o))
  where
    ephemeron : List Due
    ephemeron = cond (is_ephemeron o.kind) (map always (wait_slots k x o) ++ map (λ v. record { slot = keep_nowhere k v; member = None; watched = wait_slots k x o }) (objects_in (value_of o ∷ []))) []

    strong : kept_rules (map (λ y. always (keep_nowhere k y)) (strong_references o)) ≡ without_premise x (strong_rules x o)
    strong =
        kept_each (λ y. always (keep_nowhere k y)) (λ y. refl) (strong_references o)
        ∙ map_pointwise (λ y. rule_of (always (keep_nowhere k y))) (λ y. record { premises = filter (λ z. not (x == z)) (x ∷ []); conclusion = y }) (λ y. ap {B = Rule} (λ z. record { premises = z; conclusion = y }) (sym (strike_first x []))) (strong_references o)
        ∙ sym (map_twice (λ (r : Rule). record r { premises = filter (λ y. not (x == y)) r.premises }) (λ y. record { premises = x ∷ []; conclusion = y }) (strong_references o))
        ∙ ap (without_premise x) (rules_to_each x (strong_values o))

    whole : kept_rules ephemeron ≡ without_premise x (ephemeron_rules x o)
    whole = elim (is_ephemeron o.kind) as (λ b.
        kept_rules (cond b (map always (wait_slots k x o) ++ map (λ v. record { slot = keep_nowhere k v; member = None; watched = wait_slots k x o }) (objects_in (value_of o ∷ []))) [])
        ≡ without_premise x (cond b (rules_to (value_of o) (x ∷ objects_in (key_of o ∷ []))) [])) [
          | true ↦
              kept_append (map always (wait_slots k x o)) (map (λ v. record { slot = keep_nowhere k v; member = None; watched = wait_slots k x o }) (objects_in (value_of o ∷ [])))
              ∙ ap (λ l. l ++ kept_rules (map (λ v. record { slot = keep_nowhere k v; member = None; watched = wait_slots k x o }) (objects_in (value_of o ∷ [])))) (waits_none x k (objects_in (key_of o ∷ [])))
              ∙ kept_to (keep_nowhere k) (λ v. refl) (λ v. refl) None (wait_slots k x o) (filter (λ y. not (x == y)) (objects_in (key_of o ∷ []))) (λ v. wait_targets x k (objects_in (key_of o ∷ []))) (value_of o)
              ∙ sym (without_rules_to x (objects_in (key_of o ∷ [])) (value_of o))
          | false ↦ refl
        ]

pub kept_as_though : (s : State) (cg n : ℕ) → kept_rules (as_though_dues s cg n) ≡ as_though s cg
kept_as_though s cg n =
    kept_flat_map (λ (r : Registration). flat_map (λ x. member x) (objects_in (r.object ∷ []))) (λ (r : Registration). flat_map (as_though_member s) (objects_in (r.object ∷ [])))
    (λ r. kept_flat_map member (as_though_member s) (λ x. kept_flat_map (λ (entry : ℕ × Object). one x entry) (λ (entry : ℕ × Object). cond (x == entry.0) (without_premise x (object_rules x entry.1)) []) (each x) s.graph) (objects_in (r.object ∷ [])))
    (filter (is_candidate s cg) s.registrations)
  where
    one : ℕ → ℕ × Object → List Due
    one x entry = cond (x == entry.0) (as_though_object (owner_in s n x) x entry.1) []

    member : ℕ → List Due
    member x = flat_map (one x) s.graph

    each : (x : ℕ) (entry : ℕ × Object) → kept_rules (one x entry) ≡ cond (x == entry.0) (without_premise x (object_rules x entry.1)) []
    each x entry = elim (x == entry.0) as (λ b. kept_rules (cond b (as_though_object (owner_in s n x) x entry.1) []) ≡ cond b (without_premise x (object_rules x entry.1)) []) [
      | true ↦ kept_as_though_object (owner_in s n x) x entry.1
      | false ↦ refl
    ]
