-- What stands after one start, no queue cell, was added or changed.
use Rattle.std.proofs.Common.{◌≡◌, ◌≢◌, ℕ, true, false, cond, List, [], Contains, IsTrue, IsSome, Option, Some, None, nat_cmp, refl, sym, ◌∙◌, ap, subst, arith, inl, inr, ◌⊎◌}
use Rattle.std.specs.FinMap.{find, put}
use Rattle.std.proofs.lemmas.Bool.{cases_eq, cases_Bool, false≢true, eq-eqb, ne_eqb}
use Rattle.std.proofs.lemmas.Option.{same_Some}
use Rattle.trace_types.specs.declared.kind.Kind.{Kind}
use Rattle.trace_types.specs.Values.{Graph, object_at, is_guardian}
use Rattle.trace_types.proofs.Graphs.{object_at-put}
use Rattle.segment.specs.Segments.{Start}
use Rattle.heap_store.specs.Starts.{Starts, is_cell, is_object, birth_of, object_of, IsLaidOut, IsClosed, lasting, Keeps, IsChanged}
use Rattle.heap_store.specs.Queues.{Queue, HasQueue, IsQueued}
use Rattle.heap_store.specs.Graphs.{IsInGraph, GraphStands}
use Rattle.heap_store.specs.Roots.{LocksStand}
use Rattle.heap_store.proofs.Kept.{is_some, same_object, same_birth, laid_out_kept, object_kept, queue_kept, birth_kept, place_kept}

birth_part : (x y : Start) → lasting (Some x) ≡ lasting (Some y) → x.birth ≡ y.birth
birth_part x y e = same_birth (Some x) (Some y) e

kind_in : Option (Kind × ℕ × ℕ) → Kind → Kind
kind_in None k = k
kind_in (Some p) k = p.0

pub kind_part : (x y : Start) → lasting (Some x) ≡ lasting (Some y) → x.kind ≡ y.kind
unfolding kind_in
kind_part x y e = ap (λ p. kind_in p x.kind) e

not_none : (o : Option Start) (x : Start) → o ≡ None → o ≡ Some x → ⊥
not_none o x n e = let e' : None ≡ Some x = sym n ∙ e in cc

module _ (f g : Starts) (a : ℕ) (x : Start) (changed : IsChanged f g a x) where
  pub keeps : Keeps f g
  keeps b there =
      elim (cases_eq b a) [
        | inl e ↦ ap (λ c. lasting (g c)) e ∙ ap lasting changed.here ∙ sym (changed.same (subst (λ c. IsSome (f c)) e there)) ∙ ap (λ c. lasting (f c)) (sym e)
        | inr ne ↦ ap lasting (changed.others b ne)
      ]

  -- what started there was no queue cell
  no_cell_before : (y : Start) → f a ≡ Some y → is_cell y.kind ≡ false
  no_cell_before y e = ap is_cell (kind_part y x (ap lasting (sym e) ∙ changed.same (is_some (f a) y e))) ∙ changed.no_cell

  pub cells_as_before : (b : ℕ) (y : Start) → f b ≡ Some y → is_cell y.kind ≡ true → g b ≡ Some y
  cells_as_before b y e cell =
      elim (cases_eq b a) [
        | inl p ↦ absurd (false≢true (sym (no_cell_before y (ap f (sym p) ∙ e)) ∙ cell))
        | inr ne ↦ changed.others b ne ∙ e
      ]

  -- what starts at b now: what was changed, or what was there
  pub now : (b : ℕ) (y : Start) → g b ≡ Some y → ((b ≡ a) × (x ≡ y)) ⊎ ((b ≢ a) × (f b ≡ Some y))
  now b y e =
      elim (cases_eq b a) [
        | inl p ↦ inl (p, same_Some _ _ (sym changed.here ∙ ap g (sym p) ∙ e))
        | inr ne ↦ inr (ne, sym (changed.others b ne) ∙ e)
      ]

  pub changed_closed : IsClosed f → IsLaidOut g x → IsClosed g
  changed_closed closed laid = record {
    single = λ b c y z eb ec same.
        elim (now b y eb) [
          | inl p ↦ elim (now c z ec) [
            | inl q ↦ p.0 ∙ sym q.0
            | inr q ↦ absurd (changed.apart c z q.0 q.1 (sym same ∙ ap (λ (v : Start). v.birth) (sym p.1)))
          ]
          | inr p ↦ elim (now c z ec) [
            | inl q ↦ absurd (changed.apart b y p.0 p.1 (same ∙ ap (λ (v : Start). v.birth) (sym q.1)))
            | inr q ↦ closed.single b c y z p.1 q.1 same
          ]
        ];
    laid_out = λ b y e.
        elim (now b y e) [
          | inl p ↦ subst (λ v. IsLaidOut g v) p.1 laid
          | inr p ↦ laid_out_kept f g keeps y (closed.laid_out b y p.1)
        ];
  }

  -- the graph has it as an object, new or changed
  pub changed_graph : (graph : Graph) (cells : List ℕ) (q : Queue) → IsClosed f → HasQueue g a x cells q → GraphStands f graph → GraphStands g (put nat_cmp x.birth (object_of g a x q) graph)
  changed_graph graph cells q closed queue stands = record {
    objects = λ b y e no_cell.
        elim (now b y e) [
          | inl p ↦ subst (λ v. IsInGraph g (put nat_cmp x.birth (object_of g a x q) graph) b v) p.1 (subst (λ c. IsInGraph g (put nat_cmp x.birth (object_of g a x q) graph) c x) (sym p.0) (record {
            cells = cells;
            queue = q;
            has_queue = queue;
            found = object_at-put graph x.birth (object_of g a x q) x.birth ∙ ap (λ t. cond t (Some (object_of g a x q)) (object_at graph x.birth)) (eq-eqb x.birth x.birth refl);
          }))
          | inr p ↦ let was = stands.objects b y p.1 no_cell in record {
            cells = was.cells;
            queue = was.queue;
            has_queue = queue_kept f g keeps cells_as_before b y was.cells was.queue was.has_queue;
            found = object_at-put graph x.birth (object_of g a x q) y.birth
                ∙ ap (λ t. cond t (Some (object_of g a x q)) (object_at graph y.birth)) (ne_eqb y.birth x.birth (changed.apart b y p.0 p.1))
                ∙ was.found ∙ ap Some (sym (object_kept f g keeps b y was.queue no_cell (closed.laid_out b y p.1)));
          }
        ];
    places = λ birth o e.
        elim (cases_eq birth x.birth) [
          | inl p ↦ record { place = a; start = x; here = changed.here; same_birth = sym p; no_cell = changed.no_cell }
          | inr ne ↦
              let was = stands.places birth o (sym (object_at-put graph x.birth (object_of g a x q) birth ∙ ap (λ t. cond t (Some (object_of g a x q)) (object_at graph birth)) (ne_eqb birth x.birth ne)) ∙ e) in
              let elsewhere : was.place ≢ a = λ p. ne (sym was.same_birth ∙ birth_part was.start x (ap lasting (sym (ap f (sym p) ∙ was.here)) ∙ changed.same (is_some (f a) was.start (ap f (sym p) ∙ was.here)))) in
              record { place = was.place; start = was.start; here = changed.others was.place elsewhere ∙ was.here; same_birth = was.same_birth; no_cell = was.no_cell }
        ];
  }

  -- a cell in a queue stays in it, unless a guardian is what changed
  pub queued_kept : ((y : Start) → f a ≡ Some y → is_guardian y.kind ≡ false) → (c : ℕ) → IsQueued f c → IsQueued g c
  queued_kept no_guardian c h =
      elim (cases_eq h.place a) [
        | inl p ↦ absurd (empty (subst (λ cells. Contains cells c) (h.has_queue.no_guardian (no_guardian h.guardian (ap f (sym p) ∙ h.here))) h.within))
        | inr ne ↦ record {
          place = h.place;
          guardian = h.guardian;
          cells = h.cells;
          queue = h.queue;
          here = changed.others h.place ne ∙ h.here;
          has_queue = queue_kept f g keeps cells_as_before h.place h.guardian h.cells h.queue h.has_queue;
          within = h.within;
        }
      ]
    where
      empty : Contains [] c → ⊥
      empty h = absurd (omega (arith, h.1))

  -- a new object isn't locked
  pub changed_locks : (counts locks : List (ℕ × ℕ)) → (f a ≡ None → find nat_cmp x.birth locks ≡ None) → LocksStand f counts locks → LocksStand g counts locks
  changed_locks counts locks unlocked stands = record {
    there = λ b h. place_kept f g keeps b (stands.there b h);
    same = λ b is. elim (cases_Bool (is_object (f b))) [
      | inl was ↦ ap (λ n. find nat_cmp n locks) (birth_kept f g keeps b was) ∙ stands.same b was
      | inr none ↦ new b is none
    ];
  }
    where
      uncounted : (b : ℕ) → is_object (f b) ≡ false → find nat_cmp b counts ≡ None
      uncounted b none = by_count (find nat_cmp b counts) refl
        where
          by_count : (o : Option ℕ) → find nat_cmp b counts ≡ o → find nat_cmp b counts ≡ None
          by_count None e = e
          by_count (Some n) e = absurd (false≢true (sym none ∙ stands.there b (subst IsSome (sym e) refl)))

      nothing : (b : ℕ) (o : Option Start) → f b ≡ o → IsTrue (is_object (g b)) → is_object o ≡ false → o ≡ None
      nothing b None e is none = refl
      nothing b (Some y) e is none = absurd (false≢true (sym none ∙ sym (ap is_object e) ∙ sym (same_object (g b) (f b) (keeps b (is_some (f b) y e))) ∙ is))

      new : (b : ℕ) → IsTrue (is_object (g b)) → is_object (f b) ≡ false → find nat_cmp (birth_of (g b)) locks ≡ find nat_cmp b counts
      new b is none =
          let nothing_there : f b ≡ None = nothing b (f b) refl is none in
          elim (cases_eq b a) [
            | inl p ↦ ap (λ c. find nat_cmp (birth_of (g c)) locks) p ∙ ap (λ o. find nat_cmp (birth_of o) locks) changed.here
                ∙ unlocked (ap f (sym p) ∙ nothing_there) ∙ sym (uncounted b none)
            | inr ne ↦ absurd (false≢true (sym (ap is_object (changed.others b ne ∙ nothing_there)) ∙ is))
          ]
