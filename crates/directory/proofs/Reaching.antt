-- What the from-segments of tables reach.
use Rattle.std.proofs.Common.{◌≡◌, ◌≢◌, ℕ, ◌+◌, ◌-◌, ◌*◌, ◌^◌, ◌<◌, ◌≤◌, ◌↔◌, true, cond, ltb, List, [], length, get_or, set, Option, Some, None, IsSome, min, inl, inr, refl, sym, ◌∙◌, ap, subst, arith}
use Rattle.std.proofs.lemmas.Bool.{cases_eq, cases_lt}
use Rattle.std.proofs.lemmas.Bool.Decides.{nat_tests}
use Rattle.std.proofs.lemmas.List.{get_or-set_other, get_or-set_same, get_or_default, get_or_past}
use Rattle.gc_words.specs.Layout.{thread_of, segment_of, offset_of}
use Rattle.directory.specs.declared.reach.Reach.{Reach}
use Rattle.directory.specs.declared.table.FromSegment.{FromSegment}
use Rattle.directory.specs.Tables.{entry_in, entry_at}
use Rattle.directory.specs.Directories.{DirectoryView, from_in, with_offset, IsCollected}
use Rattle.directory.specs.Reaches.{IsWithinReach, IsBetween, LiesInTable, Reaches, ReachesIn, Spans}
use Rattle.directory.proofs.Joining.{Entries}
use Rattle.directory.proofs.Spanning.{IsWithinOne, spans_both, spans_itself, spans_same}

-- what lies in an entry lies in an equal one
lies_by : (o p : Option FromSegment) (k : ℕ) → p ≡ o → IsSome (with_offset o k) → IsSome (with_offset p k)
lies_by o p k e lies = subst (λ v. IsSome (with_offset v k)) (sym e) lies

-- nothing lies where no from-segment is
no_entry : (o : Option FromSegment) (k : ℕ) → o ≡ None → IsSome (with_offset o k) → ⊥
no_entry o k none lies = absurd (let there : IsSome {T = FromSegment} None = lies_by o None k (sym none) lies in cc)

-- ---- the words of one segment
pub among_words : (a segment size least beyond : ℕ) → segment < 4294967296 → least ≡ segment * 8388608 → beyond ≡ least + min size 8388608 → (least ≤ a) × (a < beyond) ↔ (thread_of a ≡ 0) × (segment_of a ≡ segment) × (offset_of a < size)
unfolding thread_of segment_of offset_of
among_words a segment size least beyond small low high = (
  λ w. (omega (arith, w.0, w.1, small, low, high), omega (arith, w.0, w.1, small, low, high), omega (arith, w.0, w.1, small, low, high)),
  λ p. (omega (arith, p.0, p.1, low), omega (arith, p.0, p.1, p.2, low, high)),
)

pub no_words : (a segment size : ℕ) → 4294967296 ≤ segment → (thread_of a ≡ 0) × (segment_of a ≡ segment) × (offset_of a < size) → ⊥
unfolding segment_of
no_words a segment size great p = absurd (omega (arith, great, p.1))

-- ---- one more from-segment

-- what lies in one
in_one : (e : FromSegment) (k : ℕ) → k < e.size → IsSome (with_offset (Some e) k)
in_one e k small =
    let t : ltb k e.size ≡ true = grind (arith, nat_tests, small) in
    subst (λ b. IsSome (cond b (Some e) None)) (sym t) refl

out_one : (e : FromSegment) (k : ℕ) → IsSome (with_offset (Some e) k) → k < e.size
out_one e k lies = grind (arith, nat_tests, lies)

reached_put : (old new : Entries) (r its all : Reach) (segment : ℕ) (e : FromSegment)
    → entry_in old segment ≡ None → entry_in new segment ≡ Some e → ((n : ℕ) → n ≢ segment → entry_in new n ≡ entry_in old n)
    → ((a : ℕ) → IsWithinReach its a ↔ (thread_of a ≡ 0) × (segment_of a ≡ segment) × (offset_of a < e.size))
    → Spans all (IsWithinOne r its) → Spans r (LiesInTable old 0) → Spans all (LiesInTable new 0)
reached_put old new r its all segment e none here others words both spans =
    spans_both r its all (LiesInTable old 0) (IsWithinReach its) (LiesInTable new 0) spans (spans_itself its) both
    (λ a w. elim w [
      | inl was ↦
          let ne : segment_of a ≢ segment = λ q. absurd (no_entry (entry_in old (segment_of a)) (offset_of a) (ap (entry_in old) q ∙ none) was.1) in
          (was.0, lies_by _ _ (offset_of a) (others (segment_of a) ne) was.1)
      | inr i ↦
          let p : (thread_of a ≡ 0) × (segment_of a ≡ segment) × (offset_of a < e.size) = (words a).0 i in
          (p.0, lies_by _ _ (offset_of a) (ap (entry_in new) p.1 ∙ here) (in_one e (offset_of a) p.2))
    ])
    (λ a lies. elim (cases_eq (segment_of a) segment) [
      | inl q ↦ inr ((words a).1 (lies.0, q, out_one e (offset_of a) (lies_by _ _ (offset_of a) (sym (ap (entry_in new) q ∙ here)) lies.1)))
      | inr ne ↦ inl (lies.0, lies_by _ _ (offset_of a) (sym (others (segment_of a) ne)) lies.1)
    ])

-- the same entries
pub reached_kept : (old new : Entries) (r : Reach) → ((n : ℕ) → entry_in new n ≡ entry_in old n) → Spans r (LiesInTable old 0) → Spans r (LiesInTable new 0)
reached_kept old new r same =
    spans_same r (LiesInTable old 0) (LiesInTable new 0)
    (λ a lies. (lies.0, lies_by _ _ (offset_of a) (same (segment_of a)) lies.1))
    (λ a lies. (lies.0, lies_by _ _ (offset_of a) (sym (same (segment_of a))) lies.1))

pub reached_set : (old long : Entries) (r its all : Reach) (segment : ℕ) (e : FromSegment)
    → entry_in old segment ≡ None → ((n : ℕ) → entry_in long n ≡ entry_in old n) → segment < length long
    → ((a : ℕ) → IsWithinReach its a ↔ (thread_of a ≡ 0) × (segment_of a ≡ segment) × (offset_of a < e.size))
    → Spans all (IsWithinOne r its) → Spans r (LiesInTable old 0) → Spans all (LiesInTable (set long segment (Some e)) 0)
reached_set old long r its all segment e none same small words both spans =
    reached_put old (set long segment (Some e)) r its all segment e none (get_or-set_same long segment (Some e) None small)
    (λ n ne. get_or-set_other long segment n (Some e) None ne ∙ same n) words both spans

-- ---- the same from-segments, of another thread
moved_parts : (a b thread : ℕ) → a ≡ thread * 2 ^ 55 + b → b < 2 ^ 55 → (thread_of a ≡ thread) × (segment_of a ≡ segment_of b) × (offset_of a ≡ offset_of b)
unfolding thread_of segment_of offset_of
moved_parts a b thread e small = (omega (arith, e, small), omega (arith, e, small), omega (arith, e, small))

thread_begins : (a thread : ℕ) → thread_of a ≡ thread → (thread * 2 ^ 55 ≤ a) × (a < thread * 2 ^ 55 + 2 ^ 55)
unfolding thread_of
thread_begins a thread e = (omega (arith, e), omega (arith, e))

lies_moved : (table : Entries) (a b thread : ℕ) → a ≡ thread * 2 ^ 55 + b → LiesInTable table 0 b → LiesInTable table thread a
lies_moved table a b thread e lies =
    let p = moved_parts a b thread e (omega (arith, (thread_begins b 0 lies.0).1)) in (
      p.0,
      subst (λ o. IsSome (with_offset (entry_in table (segment_of a)) o)) (sym p.2)
          (subst (λ n. IsSome (with_offset (entry_in table n) (offset_of b))) (sym p.1) lies.1),
    )

between_moved : (table : Entries) (b c a thread : ℕ) → LiesInTable table 0 b → LiesInTable table 0 c → thread * 2 ^ 55 + b ≤ a → a ≤ thread * 2 ^ 55 + c → IsBetween (LiesInTable table thread) a
between_moved table b c a thread lies lies_too above below =
    (thread * 2 ^ 55 + b, thread * 2 ^ 55 + c, lies_moved table (thread * 2 ^ 55 + b) b thread refl lies, lies_moved table (thread * 2 ^ 55 + c) c thread refl lies_too, above, below)

lies_back : (table : Entries) (a thread : ℕ) → LiesInTable table thread a → (b : ℕ) × (a ≡ thread * 2 ^ 55 + b) × LiesInTable table 0 b
lies_back table a thread lies =
    let t = thread_begins a thread lies.0 in
    let b : ℕ = a - thread * 2 ^ 55 in
    let e : a ≡ thread * 2 ^ 55 + b = omega (arith, t.0) in
    let small : b < 2 ^ 55 = omega (arith, t.1) in
    let p = moved_parts a b thread e small in
    let q = moved_parts b b 0 (omega arith) small in (
      b,
      e,
      (
        q.0,
        subst (λ o. IsSome (with_offset (entry_in table (segment_of b)) o)) p.2
            (subst (λ n. IsSome (with_offset (entry_in table n) (offset_of a))) p.1 lies.1),
      ),
    )

pub reached_moved : (table : Entries) (r s : Reach) (thread first : ℕ) → thread < 64 → first ≡ thread * 2 ^ 55
    → s.least ≡ min (first + r.least) (2 ^ 64 - 1) → s.beyond ≡ min (first + r.beyond) (2 ^ 64 - 1)
    → Spans r (LiesInTable table 0) → Spans s (LiesInTable table thread)
reached_moved table r s thread first small begins low high spans a = (
  λ w.
      let i : IsBetween (LiesInTable table 0) (a - thread * 2 ^ 55) =
      (spans (a - thread * 2 ^ 55)).0 (omega (arith, w.0, w.1, begins, low, high), omega (arith, w.0, w.1, begins, low, high)) in
      between_moved table i.0 i.1 a thread i.2 i.3 (omega (arith, w.0, w.1, begins, low, high, i.4)) (omega (arith, w.0, w.1, begins, low, high, i.5)),
  λ i.
      let b = lies_back table i.0 thread i.2 in
      let c = lies_back table i.1 thread i.3 in
      let m : ℕ = a - thread * 2 ^ 55 in
      let w : IsWithinReach r m = (spans m).1 (b.0, c.0, b.2, c.2, omega (arith, b.1, i.4), omega (arith, c.1, i.5, b.1, i.4)) in
      let far : a < 2 ^ 61 = omega (arith, i.5, (thread_begins i.1 thread i.3.0).1, small) in
      (omega (arith, w.0, begins, low, b.1, i.4), omega (arith, w.1, begins, high, far, b.1, i.4)),
)

-- ---- the tables of some threads, and of one more

-- an address of a thread below a number that lies in a from-segment of its thread's table
abbrev pub LiesBelow : List Entries → ℕ → ℕ → Type 0
LiesBelow tables thread a = (thread_of a < thread) × IsSome (from_in tables a)

pub reached_more : (tables : List Entries) (table : Entries) (r its all : Reach) (thread : ℕ) → thread < length tables → table ≡ get_or tables thread table
    → Spans its (LiesInTable table thread) → Spans all (IsWithinOne r its) → Spans r (LiesBelow tables thread) → Spans all (LiesBelow tables (thread + 1))
reached_more tables table r its all thread small read segments both below =
    let here : (a : ℕ) → thread_of a ≡ thread → entry_at tables (thread_of a) (segment_of a) ≡ entry_in table (segment_of a) =
    λ a e. ap (λ t. entry_at tables t (segment_of a)) e ∙ ap (λ v. entry_in v (segment_of a)) (get_or_default tables thread [] table small ∙ sym read) in
    spans_both r its all (LiesBelow tables thread) (LiesInTable table thread) (LiesBelow tables (thread + 1)) below segments both
    (λ a w. elim w [
      | inl b ↦ (omega (arith, b.0), b.1)
      | inr i ↦ (omega (arith, i.0), lies_by _ _ (offset_of a) (here a i.0) i.1)
    ])
    (λ a lies. elim (cases_lt (thread_of a) thread) [
      | inl b ↦ inl (b, lies.1)
      | inr far ↦
          let e : thread_of a ≡ thread = omega (arith, lies.0, far) in
          inr (e, lies_by _ _ (offset_of a) (sym (here a e)) lies.1)
    ])

-- there are no further threads
pub reached_all : (tables : List Entries) (r : Reach) (thread : ℕ) → length tables ≤ thread → Spans r (LiesBelow tables thread) → ReachesIn r tables
reached_all tables r thread far =
    spans_same r (LiesBelow tables thread) (λ a. IsSome (from_in tables a)) (λ a lies. lies.1)
    (λ a lies. elim (cases_lt (thread_of a) thread) [
      | inl b ↦ (b, lies)
      | inr past ↦ absurd (no_entry (entry_at tables (thread_of a) (segment_of a)) (offset_of a)
          (ap (λ v. entry_in v (segment_of a)) (get_or_past tables (thread_of a) [] (omega (arith, far, past)))) lies)
    ])

-- ---- a directory
pub collected_within : (d : DirectoryView) (r : Reach) (a : ℕ) → Reaches r d → IsCollected d a → IsWithinReach r a
collected_within d r a reaches lies = (reaches a).1 (a, a, lies, lies, omega arith, omega arith)
