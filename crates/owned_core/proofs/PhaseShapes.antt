-- The dues have their Watch slots, and their holders own what they speak of.
use Rattle.std.proofs.Common.{◌≡◌, ℕ, ◌+◌, ◌%◌, true, false, not, ◌&&◌, ◌==◌, List, [], ◌∷◌, ◌++◌, map, filter, cond, Contains, refl, sym, ap, subst, ◌∙◌, inl, inr, Option, Some, None}
use Rattle.std.specs.List.{flat_map}
use Rattle.std.proofs.lemmas.List.Elements.{Contains-append_left, Contains-append_right, Contains-append_cases}
use Rattle.trace_types.specs.Values.{Value, objects_in, Object, is_ephemeron, strong_references}
use Rattle.trace_types.specs.States.{State, Registration, locked}
use Rattle.trace_types.specs.Values.{key_of, value_of}
use Rattle.trace_types.specs.Kept.{is_dead, is_unordered, is_ordered, is_candidate, ready}
use Rattle.owned_core.specs.Dues.{always, as_though_dues, as_though_object, base_dues, entry_slots, ephemeron_dues, field_name, guardian_slot, is_weak, keep_at, keep_nowhere, key_slots, lock_dues, object_dues, of_member, owner_in, ready_dues, register_dues, registration_dues, representative_dues, served_dues, setting, strong_dues, unready_dues, wait_slots, watch_at, weak_dues}
use Rattle.owned_core.specs.Invariants.{HasWatches, IsWatchFor}
use Rattle.owned_core.specs.Parts.{HoldsWell}
use Rattle.owned_core.specs.Settings.{Setting}
use Rattle.owned_core.specs.Slots.{Due, Slot, is_keep}
use Rattle.owned_core.proofs.Lists.{contains_cases, contains_here, contains_none, contains_there, filter_some, map_some, some_map}

-- each watched premise of ds has its Watch slot among pool
abbrev AreWatched : List Due → List Due → Type 0
AreWatched pool ds = (d : Due) → Contains ds d → (a : Slot) → Contains d.watched a → (v : Due) × Contains pool v × IsWatchFor d a v

more_pool : (pool others ds : List Due) → ((v : Due) → Contains pool v → Contains others v) → AreWatched pool ds → AreWatched others ds
more_pool pool others ds sub h d c a in_d = let r = h d c a in_d in (r.0, sub r.0 r.1, r.2)

watched_append : (pool ds es : List Due) → AreWatched pool ds → AreWatched pool es → AreWatched pool (ds ++ es)
watched_append pool ds es f g d c = elim (Contains-append_cases ds es d c) [ inl e ↦ f d e | inr e ↦ g d e ]

-- each part has its own Watch slots
watched_flat_map : {X : Type 0} (f : X → List Due) → ((x : X) → AreWatched (f x) (f x)) → (xs : List X) → AreWatched (flat_map f xs) (flat_map f xs)
watched_flat_map f h [] = λ d c. absurd (contains_none d c)
watched_flat_map f h (x ∷ xs) = watched_append (f x ++ flat_map f xs) (f x) (flat_map f xs)
    (more_pool (f x) (f x ++ flat_map f xs) (f x) (λ v c. Contains-append_left (f x) (flat_map f xs) v c) (h x))
    (more_pool (flat_map f xs) (f x ++ flat_map f xs) (flat_map f xs) (λ v c. Contains-append_right (f x) (flat_map f xs) v c) (watched_flat_map f h xs))

watched_map : {X : Type 0} (pool : List Due) (f : X → Due) → ((x : X) → (f x).watched ≡ []) → (xs : List X) → AreWatched pool (map f xs)
watched_map pool f h xs d c a in_d = let m = map_some f xs d c in absurd (contains_none a (subst (λ l. Contains l a) (h m.0) (subst (λ (z : Due). Contains z.watched a) (sym m.2) in_d)))

watched_strong : (pool : List Due) (k x i : ℕ) (ys : List ℕ) → AreWatched pool (strong_dues k x i ys)
watched_strong pool k x i [] d c a in_d = absurd (contains_none d c)
watched_strong pool k x i (y ∷ ys) d c a in_d = elim (contains_cases _ (strong_dues k x (i + 1) ys) d c) [
  | inl e ↦ absurd (contains_none a (subst (λ (z : Due). Contains z.watched a) (sym e) in_d))
  | inr e ↦ watched_strong pool k x (i + 1) ys d e a in_d
]

watch_is : (name k : ℕ) (xs : List ℕ) (a : Slot) → Contains (map (watch_at name k) xs) a → is_keep a.want ≡ false
watch_is name k xs a c = let m = map_some (watch_at name k) xs a c in ap (λ (z : Slot). is_keep z.want) (sym m.2)

watched_ephemeron : (k x : ℕ) (o : Object) → AreWatched (ephemeron_dues k x o) (ephemeron_dues k x o)
watched_ephemeron k x o = elim (is_ephemeron o.kind) as (λ b. AreWatched (cond b (watches ++ values) []) (cond b (watches ++ values) [])) [
  | true ↦ watched_append (watches ++ values) watches values (watched_map (watches ++ values) (of_member x) (λ a. refl) (key_slots k x o)) of_values
  | false ↦ λ d c. absurd (contains_none d c)
]
  where
    watches : List Due
    watches = map (of_member x) (key_slots k x o)

    values : List Due
    values = map (λ v. record { slot = keep_at (field_name x 1) k v; member = Some x; watched = key_slots k x o }) (objects_in (value_of o ∷ []))

    of_values : AreWatched (watches ++ values) values
    of_values d c a in_d =
        let m = map_some (λ v. record { slot = keep_at (field_name x 1) k v; member = Some x; watched = key_slots k x o }) (objects_in (value_of o ∷ [])) d c in
        let in_keys : Contains (key_slots k x o) a = subst (λ (z : Due). Contains z.watched a) (sym m.2) in_d in (
          of_member x a,
          Contains-append_left watches values (of_member x a) (some_map (of_member x) (key_slots k x o) a in_keys),
          record { slot = refl; watch = watch_is (field_name x 0) k (objects_in (key_of o ∷ [])) a in_keys; alone = refl; member = inr (ap (λ (z : Due). z.member) m.2) },
        )

watched_weak : (pool : List Due) (k x : ℕ) (o : Object) → AreWatched pool (weak_dues k x o)
watched_weak pool k x o = elim (is_weak o.kind) as (λ b. AreWatched pool (cond b (map (of_member x) (key_slots k x o)) [])) [
  | true ↦ watched_map pool (of_member x) (λ a. refl) (key_slots k x o)
  | false ↦ λ d c. absurd (contains_none d c)
]

watched_object : (k x : ℕ) (o : Object) → AreWatched (object_dues k x o) (object_dues k x o)
watched_object k x o =
    watched_append (object_dues k x o) (strong_dues k x 0 (strong_references o)) (weak_dues k x o ++ ephemeron_dues k x o)
    (watched_strong (object_dues k x o) k x 0 (strong_references o))
    (watched_append (object_dues k x o) (weak_dues k x o) (ephemeron_dues k x o) (watched_weak (object_dues k x o) k x o)
    (more_pool (ephemeron_dues k x o) (object_dues k x o) (ephemeron_dues k x o)
    (λ v c. Contains-append_right (strong_dues k x 0 (strong_references o)) (weak_dues k x o ++ ephemeron_dues k x o) v (Contains-append_right (weak_dues k x o) (ephemeron_dues k x o) v c))
    (watched_ephemeron k x o)))

entry_is_watch : (n : ℕ) (r : Registration) (a : Slot) → Contains (entry_slots n r) a → is_keep a.want ≡ false
entry_is_watch n r a c = elim (contains_cases (guardian_slot n r) _ a c) [
  | inl e ↦ ap (λ (z : Slot). is_keep z.want) (sym e)
  | inr e ↦ watch_is _ (r.line % n) (objects_in (r.object ∷ [])) a e
]

watched_representative : (pool : List Due) (n : ℕ) (r : Registration) (watched : List Slot) → ((a : Slot) → Contains watched a → Contains pool (always a) × (is_keep a.want ≡ false)) → AreWatched pool (representative_dues n r watched)
watched_representative pool n r watched h d c a in_d =
    let m = map_some (λ v. record { slot = keep_at _ (r.line % n) v; member = None; watched = watched }) (objects_in (r.representative ∷ [])) d c in
    let in_watched : Contains watched a = subst (λ (z : Due). Contains z.watched a) (sym m.2) in_d in
    (always a, (h a in_watched).0, record { slot = refl; watch = (h a in_watched).1; alone = refl; member = inl refl })

watched_registration : (n : ℕ) (r : Registration) → AreWatched (registration_dues n r) (registration_dues n r)
watched_registration n r =
    watched_append (registration_dues n r) (map always (entry_slots n r)) (representative_dues n r (entry_slots n r))
    (watched_map (registration_dues n r) always (λ a. refl) (entry_slots n r))
    (watched_representative (registration_dues n r) n r (entry_slots n r)
    (λ a c. (Contains-append_left (map always (entry_slots n r)) (representative_dues n r (entry_slots n r)) (always a) (some_map always (entry_slots n r) a c), entry_is_watch n r a c)))

watched_registers : (pool : List Due) (n i : ℕ) (vs : List Value) → AreWatched pool (register_dues n i vs)
watched_registers pool n i [] = λ d c. absurd (contains_none d c)
watched_registers pool n i (v ∷ vs) = watched_append pool (map (λ x. always (keep_at _ (i % n) x)) (objects_in (v ∷ []))) (register_dues n (i + 1) vs)
    (watched_map pool (λ x. always (keep_at _ (i % n) x)) (λ x. refl) (objects_in (v ∷ []))) (watched_registers pool n (i + 1) vs)

pub watched_base : (s : State) (n : ℕ) → AreWatched (base_dues s n) (base_dues s n)
watched_base s n =
    watched_append all registers (locks ++ (objects ++ registrations)) (watched_registers all n 0 s.registers)
    (watched_append all locks (objects ++ registrations) (watched_map all (λ x. always (keep_nowhere (owner_in s n x) x)) (λ x. refl) (locked s))
    (watched_append all objects registrations
    (more_pool objects all objects (λ v c. up v (Contains-append_left objects registrations v c)) (watched_flat_map (λ (entry : ℕ × Object). object_dues (owner_in s n entry.0) entry.0 entry.1) (λ entry. watched_object (owner_in s n entry.0) entry.0 entry.1) s.graph))
    (more_pool registrations all registrations (λ v c. up v (Contains-append_right objects registrations v c)) (watched_flat_map (registration_dues n) (watched_registration n) s.registrations))))
  where
    registers : List Due
    registers = register_dues n 0 s.registers

    locks : List Due
    locks = lock_dues s n

    objects : List Due
    objects = flat_map (λ (entry : ℕ × Object). object_dues (owner_in s n entry.0) entry.0 entry.1) s.graph

    registrations : List Due
    registrations = flat_map (registration_dues n) s.registrations

    all : List Due
    all = registers ++ (locks ++ (objects ++ registrations))

    up : (v : Due) → Contains (objects ++ registrations) v → Contains all v
    up v c = Contains-append_right registers (locks ++ (objects ++ registrations)) v (Contains-append_right locks (objects ++ registrations) v c)

pub first_has_watches : (places : Setting) (s : State) (cg n : ℕ) (given : List ℕ) → HasWatches (record (setting places s cg n (base_dues s n)) { given = given })
first_has_watches places s cg n given d c a in_d = inr (watched_base s n d c a in_d)

-- ---- the later phases

watched_flat_map_in : {X : Type 0} (pool : List Due) (f : X → List Due) (xs : List X) → ((x : X) → Contains xs x → AreWatched pool (f x)) → AreWatched pool (flat_map f xs)
watched_flat_map_in pool f [] h = λ d c. absurd (contains_none d c)
watched_flat_map_in pool f (x ∷ xs) h = watched_append pool (f x) (flat_map f xs) (h x (contains_here x xs)) (watched_flat_map_in pool f xs (λ y c. h y (contains_there x xs y c)))

flat_map_in : {X : Type 0} (f : X → List Due) (xs : List X) (x : X) → Contains xs x → (d : Due) → Contains (f x) d → Contains (flat_map f xs) d
flat_map_in f [] x c d h = absurd (contains_none x c)
flat_map_in f (y ∷ ys) x c d h = elim (contains_cases y ys x c) [
  | inl e ↦ Contains-append_left (f y) (flat_map f ys) d (subst (λ z. Contains (f z) d) (sym e) h)
  | inr e ↦ Contains-append_right (f y) (flat_map f ys) d (flat_map_in f ys x e d h)
]

-- the slot that watches the guardian of a registration is among the first dues
guardian_there : (s : State) (n : ℕ) (r : Registration) → Contains s.registrations r → Contains (base_dues s n) (always (guardian_slot n r))
guardian_there s n r c =
    Contains-append_right (register_dues n 0 s.registers) (lock_dues s n ++ (objects ++ registrations)) guardian
    (Contains-append_right (lock_dues s n) (objects ++ registrations) guardian
    (Contains-append_right objects registrations guardian
    (flat_map_in (registration_dues n) s.registrations r c guardian
    (Contains-append_left (map always (entry_slots n r)) (representative_dues n r (entry_slots n r)) guardian (some_map always (entry_slots n r) (guardian_slot n r) (contains_here (guardian_slot n r) _))))))
  where
    guardian : Due
    guardian = always (guardian_slot n r)

    objects : List Due
    objects = flat_map (λ (entry : ℕ × Object). object_dues (owner_in s n entry.0) entry.0 entry.1) s.graph

    registrations : List Due
    registrations = flat_map (registration_dues n) s.registrations

one_slot : (a b : Slot) → Contains (a ∷ []) b → a ≡ b
one_slot a b c = elim (contains_cases a [] b c) [ inl e ↦ e | inr e ↦ absurd (contains_none b e) ]

watched_served : (s : State) (cg n : ℕ) → AreWatched (base_dues s n) (served_dues s cg n)
watched_served s cg n = watched_flat_map_in (base_dues s n) (λ r. representative_dues n r (guardian_slot n r ∷ [])) (filter (λ r. is_dead s cg r && is_unordered s r) s.registrations)
    (λ r c. watched_representative (base_dues s n) n r (guardian_slot n r ∷ []) (λ a in_one.
    let same = one_slot (guardian_slot n r) a in_one in
    (subst (λ z. Contains (base_dues s n) (always z)) same (guardian_there s n r (filter_some (λ q. is_dead s cg q && is_unordered s q) s.registrations r c).0), ap (λ (z : Slot). is_keep z.want) (sym same))))

watched_ready : (pool : List Due) (s : State) (cg n : ℕ) → AreWatched pool (ready_dues s cg n)
watched_ready pool s cg n = watched_flat_map_in pool (λ r. representative_dues n r []) (ready s cg) (λ r c. watched_representative pool n r [] (λ a none. absurd (contains_none a none)))

watched_unready : (s : State) (cg n : ℕ) → AreWatched (base_dues s n) (unready_dues s cg n)
watched_unready s cg n = watched_flat_map_in (base_dues s n) (λ (r : Registration). map (λ x. record { slot = keep_nowhere (r.line % n) x; member = None; watched = guardian_slot n r ∷ [] }) (objects_in (r.object ∷ [])))
    (filter (λ r. is_dead s cg r && is_ordered s r && not (is_candidate s cg r)) s.registrations)
    (λ r c d in_map a in_d.
    let m = map_some (λ x. record { slot = keep_nowhere (r.line % n) x; member = None; watched = guardian_slot n r ∷ [] }) (objects_in (r.object ∷ [])) d in_map in
    let same = one_slot (guardian_slot n r) a (subst (λ (z : Due). Contains z.watched a) (sym m.2) in_d) in (
      always a,
      subst (λ z. Contains (base_dues s n) (always z)) same (guardian_there s n r (filter_some (λ q. is_dead s cg q && is_ordered s q && not (is_candidate s cg q)) s.registrations r c).0),
      record { slot = refl; watch = ap (λ (z : Slot). is_keep z.want) (sym same); alone = refl; member = inl refl },
    ))

watched_as_though_object : (k x : ℕ) (o : Object) → AreWatched (as_though_object k x o) (as_though_object k x o)
watched_as_though_object k x o = watched_append (strong ++ ephemeron) strong ephemeron
    (watched_map (strong ++ ephemeron) (λ y. always (keep_nowhere k y)) (λ y. refl) (strong_references o))
    (more_pool ephemeron (strong ++ ephemeron) ephemeron (λ v c. Contains-append_right strong ephemeron v c)
    (elim (is_ephemeron o.kind) as (λ b. AreWatched (cond b (waits ++ values) []) (cond b (waits ++ values) [])) [
      | true ↦ watched_append (waits ++ values) waits values (watched_map (waits ++ values) always (λ a. refl) (wait_slots k x o)) of_values
      | false ↦ λ d c. absurd (contains_none d c)
    ]))
  where
    strong : List Due
    strong = map (λ y. always (keep_nowhere k y)) (strong_references o)

    waits : List Due
    waits = map always (wait_slots k x o)

    values : List Due
    values = map (λ v. record { slot = keep_nowhere k v; member = None; watched = wait_slots k x o }) (objects_in (value_of o ∷ []))

    ephemeron : List Due
    ephemeron = cond (is_ephemeron o.kind) (waits ++ values) []

    of_values : AreWatched (waits ++ values) values
    of_values d c a in_d =
        let m = map_some (λ v. record { slot = keep_nowhere k v; member = None; watched = wait_slots k x o }) (objects_in (value_of o ∷ [])) d c in
        let in_waits : Contains (wait_slots k x o) a = subst (λ (z : Due). Contains z.watched a) (sym m.2) in_d in (
          always a,
          Contains-append_left waits values (always a) (some_map always (wait_slots k x o) a in_waits),
          record { slot = refl; watch = watch_is _ k (objects_in (key_of o ∷ [])) a (filter_some (λ (b : Slot). not (x == b.target)) (map (watch_at _ k) (objects_in (key_of o ∷ []))) a in_waits).0; alone = refl; member = inl refl },
        )

watched_as_though : (s : State) (cg n : ℕ) → AreWatched (as_though_dues s cg n) (as_though_dues s cg n)
watched_as_though s cg n = watched_flat_map (λ (r : Registration). flat_map member (objects_in (r.object ∷ []))) (λ r. watched_flat_map member (λ x. watched_flat_map (one x) (each x) s.graph) (objects_in (r.object ∷ []))) (filter (is_candidate s cg) s.registrations)
  where
    one : ℕ → ℕ × Object → List Due
    one x entry = cond (x == entry.0) (as_though_object (owner_in s n x) x entry.1) []

    member : ℕ → List Due
    member x = flat_map (one x) s.graph

    each : (x : ℕ) (entry : ℕ × Object) → AreWatched (one x entry) (one x entry)
    each x entry = elim (x == entry.0) as (λ b. AreWatched (cond b (as_though_object (owner_in s n x) x entry.1) []) (cond b (as_though_object (owner_in s n x) x entry.1) [])) [
      | true ↦ watched_as_though_object (owner_in s n x) x entry.1
      | false ↦ λ d c. absurd (contains_none d c)
    ]

-- more dues that have their Watch slots among the first ones
watched_more : (s : State) (n : ℕ) (ds es : List Due) → AreWatched ds ds → ((v : Due) → Contains (base_dues s n) v → Contains ds v) → AreWatched (base_dues s n) es → AreWatched (ds ++ es) (ds ++ es)
watched_more s n ds es f up g = watched_append (ds ++ es) ds es (more_pool ds (ds ++ es) ds (λ v c. Contains-append_left ds es v c) f) (more_pool (base_dues s n) (ds ++ es) es (λ v c. Contains-append_left ds es v (up v c)) g)

pub second_has_watches : (places : Setting) (s : State) (cg n : ℕ) (given : List ℕ) → HasWatches (record (setting places s cg n (base_dues s n ++ served_dues s cg n)) { given = given })
second_has_watches places s cg n given d c a in_d = inr (watched_more s n (base_dues s n) (served_dues s cg n) (watched_base s n) (λ v h. h) (watched_served s cg n) d c a in_d)

pub third_has_watches : (places : Setting) (s : State) (cg n : ℕ) (given : List ℕ) → HasWatches (record (setting places s cg n ((base_dues s n ++ served_dues s cg n) ++ as_though_dues s cg n)) { given = given })
third_has_watches places s cg n given d c a in_d = inr (watched_append (two ++ three) two three
    (more_pool two (two ++ three) two (λ v h. Contains-append_left two three v h) (watched_more s n (base_dues s n) (served_dues s cg n) (watched_base s n) (λ v h. h) (watched_served s cg n)))
    (more_pool three (two ++ three) three (λ v h. Contains-append_right two three v h) (watched_as_though s cg n)) d c a in_d)
  where
    two : List Due
    two = base_dues s n ++ served_dues s cg n

    three : List Due
    three = as_though_dues s cg n

pub fourth_has_watches : (places : Setting) (s : State) (cg n : ℕ) (given : List ℕ) → HasWatches (record (setting places s cg n (((base_dues s n ++ served_dues s cg n) ++ ready_dues s cg n) ++ unready_dues s cg n)) { given = given })
fourth_has_watches places s cg n given d c a in_d = inr (watched_more s n (two ++ ready_dues s cg n) (unready_dues s cg n)
    (watched_more s n two (ready_dues s cg n) (watched_more s n (base_dues s n) (served_dues s cg n) (watched_base s n) (λ v h. h) (watched_served s cg n)) up_two (watched_ready (base_dues s n) s cg n))
    (λ v h. Contains-append_left two (ready_dues s cg n) v (up_two v h)) (watched_unready s cg n) d c a in_d)
  where
    two : List Due
    two = base_dues s n ++ served_dues s cg n

    up_two : (v : Due) → Contains (base_dues s n) v → Contains two v
    up_two v h = Contains-append_left (base_dues s n) (served_dues s cg n) v h

-- ---- holders

-- the member belongs to the slot's holder, and so do the Watch slots
record Well (s : State) (n : ℕ) (d : Due) : Type 0 where
  member : (x : ℕ) → d.member ≡ Some x → owner_in s n x ≡ d.slot.holder
  watched : (a : Slot) → Contains d.watched a → a.holder ≡ d.slot.holder

abbrev AreWell : State → ℕ → List Due → Type 0
AreWell s n ds = (d : Due) → Contains ds d → Well s n d

well_append : (s : State) (n : ℕ) (ds es : List Due) → AreWell s n ds → AreWell s n es → AreWell s n (ds ++ es)
well_append s n ds es f g d c = elim (Contains-append_cases ds es d c) [ inl e ↦ f d e | inr e ↦ g d e ]

well_flat_map : {X : Type 0} (s : State) (n : ℕ) (f : X → List Due) → ((x : X) → AreWell s n (f x)) → (xs : List X) → AreWell s n (flat_map f xs)
well_flat_map s n f h [] = λ d c. absurd (contains_none d c)
well_flat_map s n f h (x ∷ xs) = well_append s n (f x) (flat_map f xs) (h x) (well_flat_map s n f h xs)

well_map : {X : Type 0} (s : State) (n : ℕ) (f : X → Due) (xs : List X) → ((x : X) → Contains xs x → Well s n (f x)) → AreWell s n (map f xs)
well_map s n f xs h d c = let m = map_some f xs d c in subst (Well s n) m.2 (h m.0 m.1)

some_is : (x y : ℕ) → Some x ≡ Some y → y ≡ x
some_is x y e = cc

none_is : (y : ℕ) → ◌≡◌ {A = Option ℕ} None (Some y) → ⊥
none_is y e = cc

well_of_member : (s : State) (n x : ℕ) (a : Slot) → owner_in s n x ≡ a.holder → Well s n (of_member x a)
well_of_member s n x a e = record { member = λ y is. ap (owner_in s n) (some_is x y is) ∙ e; watched = λ b c. absurd (contains_none b c) }

well_always : (s : State) (n : ℕ) (a : Slot) → Well s n (always a)
well_always s n a = record { member = λ y is. absurd (none_is y is); watched = λ b c. absurd (contains_none b c) }

well_strong : (s : State) (n x i : ℕ) (ys : List ℕ) → AreWell s n (strong_dues (owner_in s n x) x i ys)
well_strong s n x i [] = λ d c. absurd (contains_none d c)
well_strong s n x i (y ∷ ys) = λ d c. elim (contains_cases _ (strong_dues (owner_in s n x) x (i + 1) ys) d c) [
  | inl e ↦ subst (Well s n) e (well_of_member s n x (keep_at _ (owner_in s n x) y) refl)
  | inr e ↦ well_strong s n x (i + 1) ys d e
]

holder_is : (name k : ℕ) (xs : List ℕ) (a : Slot) → Contains (map (watch_at name k) xs) a → a.holder ≡ k
holder_is name k xs a c = let m = map_some (watch_at name k) xs a c in ap (λ (z : Slot). z.holder) (sym m.2)

well_object : (s : State) (n x : ℕ) (o : Object) → AreWell s n (object_dues (owner_in s n x) x o)
well_object s n x o = well_append s n (strong_dues k x 0 (strong_references o)) (weak_dues k x o ++ ephemeron_dues k x o) (well_strong s n x 0 (strong_references o))
    (well_append s n (weak_dues k x o) (ephemeron_dues k x o)
    (elim (is_weak o.kind) as (λ b. AreWell s n (cond b (map (of_member x) (key_slots k x o)) [])) [ true ↦ keys | false ↦ λ d c. absurd (contains_none d c) ])
    (elim (is_ephemeron o.kind) as (λ b. AreWell s n (cond b (map (of_member x) (key_slots k x o) ++ values) [])) [
      | true ↦ well_append s n (map (of_member x) (key_slots k x o)) values keys
          (well_map s n (λ v. record { slot = keep_at (field_name x 1) k v; member = Some x; watched = key_slots k x o }) (objects_in (value_of o ∷ []))
          (λ v c. record { member = λ y is. ap (owner_in s n) (some_is x y is); watched = λ a in_keys. holder_is (field_name x 0) k (objects_in (key_of o ∷ [])) a in_keys }))
      | false ↦ λ d c. absurd (contains_none d c)
    ]))
  where
    k : ℕ
    k = owner_in s n x

    values : List Due
    values = map (λ v. record { slot = keep_at (field_name x 1) k v; member = Some x; watched = key_slots k x o }) (objects_in (value_of o ∷ []))

    keys : AreWell s n (map (of_member x) (key_slots k x o))
    keys = well_map s n (of_member x) (key_slots k x o) (λ a c. well_of_member s n x a (sym (holder_is (field_name x 0) k (objects_in (key_of o ∷ [])) a c)))

entry_holder : (n : ℕ) (r : Registration) (a : Slot) → Contains (entry_slots n r) a → a.holder ≡ r.line % n
entry_holder n r a c = elim (contains_cases (guardian_slot n r) _ a c) [
  | inl e ↦ ap (λ (z : Slot). z.holder) (sym e)
  | inr e ↦ holder_is _ (r.line % n) (objects_in (r.object ∷ [])) a e
]

well_representative : (s : State) (n : ℕ) (r : Registration) (watched : List Slot) → ((a : Slot) → Contains watched a → a.holder ≡ r.line % n) → AreWell s n (representative_dues n r watched)
well_representative s n r watched h = well_map s n (λ v. record { slot = keep_at _ (r.line % n) v; member = None; watched = watched }) (objects_in (r.representative ∷ [])) (λ v c. record { member = λ y is. absurd (none_is y is); watched = h })

well_registration : (s : State) (n : ℕ) (r : Registration) → AreWell s n (registration_dues n r)
well_registration s n r = well_append s n (map always (entry_slots n r)) (representative_dues n r (entry_slots n r))
    (well_map s n always (entry_slots n r) (λ a c. well_always s n a)) (well_representative s n r (entry_slots n r) (entry_holder n r))

well_registers : (s : State) (n i : ℕ) (vs : List Value) → AreWell s n (register_dues n i vs)
well_registers s n i [] = λ d c. absurd (contains_none d c)
well_registers s n i (v ∷ vs) = well_append s n (map (λ x. always (keep_at _ (i % n) x)) (objects_in (v ∷ []))) (register_dues n (i + 1) vs)
    (well_map s n (λ x. always (keep_at _ (i % n) x)) (objects_in (v ∷ [])) (λ x c. well_always s n (keep_at _ (i % n) x))) (well_registers s n (i + 1) vs)

well_base : (s : State) (n : ℕ) → AreWell s n (base_dues s n)
well_base s n = well_append s n (register_dues n 0 s.registers) (lock_dues s n ++ (objects ++ registrations)) (well_registers s n 0 s.registers)
    (well_append s n (lock_dues s n) (objects ++ registrations) (well_map s n (λ x. always (keep_nowhere (owner_in s n x) x)) (locked s) (λ x c. well_always s n (keep_nowhere (owner_in s n x) x)))
    (well_append s n objects registrations
    (well_flat_map s n (λ (entry : ℕ × Object). object_dues (owner_in s n entry.0) entry.0 entry.1) (λ entry. well_object s n entry.0 entry.1) s.graph)
    (well_flat_map s n (registration_dues n) (well_registration s n) s.registrations)))
  where
    objects : List Due
    objects = flat_map (λ (entry : ℕ × Object). object_dues (owner_in s n entry.0) entry.0 entry.1) s.graph

    registrations : List Due
    registrations = flat_map (registration_dues n) s.registrations

pub first_holds_well : (places : Setting) (s : State) (cg n : ℕ) (given : List ℕ) → HoldsWell (record (setting places s cg n (base_dues s n)) { given = given })
first_holds_well places s cg n given = record {
  member = λ d c x is. (well_base s n d c).member x is;
  watched = λ d c a in_d. (well_base s n d c).watched a in_d;
}
