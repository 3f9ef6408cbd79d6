-- A walk over the from-segments of a territory that gives each its words.
use Rattle.std.proofs.Common.{◌≡◌, ◌≢◌, ℕ, zero, suc, ◌+◌, ◌<◌, ◌≤◌, true, false, cond, eqb, List, [], ◌∷◌, ◌++◌, length, take, drop, Option, Some, None, IfSome, refl, sym, ◌∙◌, ap, subst, arith, inl, inr}
use Rattle.std.proofs.lemmas.Bool.{cases_eq, cases_lt}
use Rattle.std.proofs.lemmas.Bool.Decides.{nat_tests}
use Rattle.std.proofs.lemmas.List.{take-append-drop, take_more, take_all}
use Rattle.std.proofs.lemmas.Option.{same_Some, slice_get_within, get_or_from_slice_get}
use Rattle.std.specs.List.{slice_get}
use Rattle.seg_chain.specs.Lists.{times}
use Rattle.seg_chain.proofs.Counts.{times-append, times_from_index}
use Rattle.seg_chain.proofs.Laws.{contains_of, times_of}
use Rattle.territory.specs.Territories.{SegmentView, TerritoryView, segment_at, IsFrom, IsNext, AreFromOnes, from_list}
use Rattle.directory.specs.declared.table.FromSegment.{FromSegment}
use Rattle.directory.specs.Tables.{Aside, entry_in, run_of, HasWord, aside, shown}
use Rattle.directory.specs.Numbered.{IsNumbered}

-- ---- a place in a list

-- what stands at a place is in the list
pub in_at : (xs : List ℕ) (k n : ℕ) → slice_get xs k ≡ Some n → 0 < times n xs
in_at xs k n e = times_from_index xs n k (slice_get_within xs k n e) (get_or_from_slice_get xs k n n e)

take_next : (xs : List ℕ) (k n : ℕ) → slice_get xs k ≡ Some n → take (k + 1) xs ≡ take k xs ++ n ∷ []
take_next xs k n h = take_more xs k n (slice_get_within xs k n h) ∙ ap (λ v. take k xs ++ v ∷ []) (get_or_from_slice_get xs k n n h)

one_more : (xs : List ℕ) (k n m : ℕ) → slice_get xs k ≡ Some n → times m (take (k + 1) xs) ≡ times m (take k xs) + times m (n ∷ [])
one_more xs k n m h = ap (times m) (take_next xs k n h) ∙ times-append m (take k xs) (n ∷ [])

once_here : (n : ℕ) → times n (n ∷ []) ≡ 1
once_here n = grind (arith, nat_tests)

none_there : (n m : ℕ) → m ≢ n → times m (n ∷ []) ≡ 0
none_there n m ne = grind (arith, nat_tests, ne)

pub past : (xs : List ℕ) (k : ℕ) → slice_get xs k ≡ None → length xs ≤ k
past [] k h = omega arith
past (x ∷ xs) zero h = absurd (let c : Some x ≡ None = h in cc)
past (x ∷ xs) (suc k) h = omega (arith, past xs k h)

-- ---- how many are left

-- how many there are from a number on
abbrev pub left_at : List ℕ → ℕ → ℕ
left_at [] n = 0
left_at (x ∷ xs) n = cond (eqb n x) (suc (length xs)) (left_at xs n)

abbrev pub left : List ℕ → Option ℕ → ℕ
left xs None = 0
left xs (Some n) = left_at xs n

pub left_there : (xs : List ℕ) (k n : ℕ) → times n xs ≤ 1 → slice_get xs k ≡ Some n → left_at xs n + k ≡ length xs
left_there [] k n once h = absurd (let c : None ≡ Some n = h in cc)
left_there (x ∷ xs) zero n once h =
    let t : eqb n x ≡ true = (let e : x ≡ n = same_Some x n h in grind (arith, nat_tests, e)) in
    let c : left_at (x ∷ xs) n ≡ suc (length xs) = ap (λ b. cond b (suc (length xs)) (left_at xs n)) t in
    omega (arith, c)
left_there (x ∷ xs) (suc k) n once h =
    let i : 0 < times n xs = in_at xs k n h in
    let ne : n ≢ x = λ e. absurd (let two : 1 < times n (x ∷ xs) = grind (arith, nat_tests, e, i) in omega arith) in
    let t : eqb n x ≡ false = grind (arith, nat_tests, ne) in
    let c : left_at (x ∷ xs) n ≡ left_at xs n = ap (λ b. cond b (suc (length xs)) (left_at xs n)) t in
    let fewer : times n xs ≤ 1 = omega arith in
    omega (arith, c, left_there xs k n fewer h)

pub left_next : (xs : List ℕ) (k n : ℕ) (r : Option ℕ) → ((m : ℕ) → times m xs ≤ 1) → slice_get xs k ≡ Some n → r ≡ slice_get xs (k + 1) → left xs r < left_at xs n
left_next xs k n None once h e = omega (arith, left_there xs k n (once n) h, slice_get_within xs k n h)
left_next xs k n (Some m) once h e =
    omega (arith, left_there xs k n (once n) h, left_there xs (k + 1) m (once m) (sym e), slice_get_within xs k n h)

-- ---- the walk

-- The from-segments before the one at a place of the list have their words, and no other segment has an entry.
pub record IsWalked (t : TerritoryView) (table : List (Option FromSegment)) (first next : ℕ) (at : Option ℕ) : Type 0 where
  pub place : ℕ
  pub here : at ≡ slice_get (from_list t.lists) place
  pub ones : AreFromOnes t
  pub order : first ≤ next
  pub done : (n : ℕ) → 0 < times n (take place (from_list t.lists)) → shown (entry_in table n) ≡ aside (segment_at t n)
  pub rest : (n : ℕ) → times n (take place (from_list t.lists)) ≡ 0 → entry_in table n ≡ None
  pub inside : (n : ℕ) (e : FromSegment) → entry_in table n ≡ Some e → (first ≤ e.first_word) × (e.first_word + run_of e.size ≤ next)
  pub apart : (m n : ℕ) (e f : FromSegment) (w : ℕ) → entry_in table m ≡ Some e → entry_in table n ≡ Some f → HasWord e w → HasWord f w → m ≡ n

pub walked_none : (t : TerritoryView) (table : List (Option FromSegment)) (first : ℕ) (at : Option ℕ) → AreFromOnes t → table ≡ [] → at ≡ slice_get (from_list t.lists) 0 → IsWalked t table first first at
walked_none t table first at ones empty h =
    let nothing : (n : ℕ) → entry_in table n ≡ None = λ n. ap (λ v. entry_in v n) empty in
    record {
      place = 0;
      here = h;
      ones = ones;
      order = omega arith;
      done = λ n i. absurd (omega arith);
      rest = λ n i. nothing n;
      inside = λ n e i. absurd (let c : None ≡ Some e = sym (nothing n) ∙ i in cc);
      apart = λ m n e f w i j a b. absurd (let c : None ≡ Some e = sym (nothing m) ∙ i in cc);
    }

-- the next one is a from-segment
pub next_from_one : (t : TerritoryView) (table : List (Option FromSegment)) (first next : ℕ) (at : Option ℕ) (n : ℕ) → IsWalked t table first next at → at ≡ Some n → IsFrom (segment_at t n)
next_from_one t table first next at n w s =
    w.ones.aside n (contains_of n (from_list t.lists) (in_at (from_list t.lists) w.place n (sym w.here ∙ s)))

-- and has no entry yet
pub unput : (t : TerritoryView) (table : List (Option FromSegment)) (first next : ℕ) (at : Option ℕ) (n : ℕ) → IsWalked t table first next at → at ≡ Some n → entry_in table n ≡ None
unput t table first next at n w s =
    let xs : List ℕ = from_list t.lists in
    let cut : times n (take (w.place + 1) xs) + times n (drop (w.place + 1) xs) ≡ times n xs =
    sym (times-append n (take (w.place + 1) xs) (drop (w.place + 1) xs)) ∙ ap (times n) (take-append-drop (w.place + 1) xs) in
    w.rest n (omega (arith, cut, w.ones.once n, one_more xs w.place n n (sym w.here ∙ s), once_here n))

aside_is : (o : Option SegmentView) (e : FromSegment) → IsFrom o → IfSome o (λ s. e.size ≡ s.words) → IfSome o (λ s. e.generation ≡ s.generation) → shown (Some e) ≡ aside o
aside_is None e f a b = absurd f
aside_is (Some s) e f a b =
    let here : Aside = record { size = s.words; generation = s.generation } in
    let t : aside (Some s) ≡ Some here = ap (λ v. cond v (Some here) None) f in
    let g : shown (Some e) ≡ Some here = ap (λ v. Some (record { size = v; generation = e.generation })) a ∙ ap (λ v. Some (record { size = s.words; generation = v })) b in
    g ∙ sym t

aside_no : (o : Option SegmentView) → (IsFrom o → ⊥) → aside o ≡ None
aside_no None h = refl
aside_no (Some s) h =
    let here : Option Aside = Some (record { size = s.words; generation = s.generation }) in
    elim s.is_from as (λ b. (b ≡ true → ⊥) → cond b here None ≡ None) [
      | true ↦ λ k. absurd (k refl)
      | false ↦ λ k. refl
    ] h

pub walked_more : (t : TerritoryView) (old new : List (Option FromSegment)) (first next after : ℕ) (at r : Option ℕ) (n : ℕ) (e : FromSegment) → IsWalked t old first next at → at ≡ Some n → IfSome (segment_at t n) (λ s. e.size ≡ s.words) → IfSome (segment_at t n) (λ s. e.generation ≡ s.generation) → e.first_word ≡ next → after ≡ next + run_of e.size → entry_in new n ≡ Some e → ((m : ℕ) → m ≢ n → entry_in new m ≡ entry_in old m) → IsNext (from_list t.lists) n r → IsWalked t new first after r
walked_more t old new first next after at r n e w s size generation begins ends new_here others follows =
    let xs : List ℕ = from_list t.lists in
    let there : slice_get xs w.place ≡ Some n = sym w.here ∙ s in
    let is_from : IsFrom (segment_at t n) = next_from_one t old first next at n w s in
    let mine : (f : FromSegment) → entry_in new n ≡ Some f → f ≡ e = λ f h. same_Some f e (sym h ∙ new_here) in
    record {
      place = w.place + 1;
      here = follows w.place there;
      ones = w.ones;
      order = omega (arith, w.order);
      done = λ m i. elim (cases_eq m n) [
        | inl q ↦ ap (λ v. shown (entry_in new v)) q ∙ (ap shown new_here ∙ (aside_is (segment_at t n) e is_from size generation ∙ ap (λ v. aside (segment_at t v)) (sym q)))
        | inr ne ↦ ap shown (others m ne) ∙ w.done m (omega (arith, i, one_more xs w.place n m there, none_there n m ne))
      ];
      rest = λ m i.
          let ne : m ≢ n = λ q. absurd (omega (arith, i, one_more xs w.place n m there, subst (λ v. times v (n ∷ []) ≡ 1) (sym q) (once_here n))) in
          others m ne ∙ w.rest m (omega (arith, i, one_more xs w.place n m there));
      inside = λ m f i. elim (cases_eq m n) [
        | inl q ↦
            let same : f ≡ e = mine f (ap (entry_in new) (sym q) ∙ i) in
            subst (λ (v : FromSegment). (first ≤ v.first_word) × (v.first_word + run_of v.size ≤ after)) (sym same) (omega (arith, w.order, begins), omega (arith, begins, ends))
        | inr ne ↦
            let in_old : (first ≤ f.first_word) × (f.first_word + run_of f.size ≤ next) = w.inside m f (sym (others m ne) ∙ i) in
            (in_old.0, omega (arith, in_old.1, ends))
      ];
      apart = λ m k f g v i j a b. elim (cases_eq m n) [
        | inl q ↦ elim (cases_eq k n) [
          | inl p ↦ q ∙ sym p
          | inr ne ↦
              let same : f ≡ e = mine f (ap (entry_in new) (sym q) ∙ i) in
              let low : next ≤ v = omega (arith, begins, subst (λ (u : FromSegment). u.first_word ≤ v) same a.0) in
              absurd (omega (arith, low, b.1, (w.inside k g (sym (others k ne) ∙ j)).1))
        ]
        | inr ne ↦ elim (cases_eq k n) [
          | inl p ↦
              let same : g ≡ e = mine g (ap (entry_in new) (sym p) ∙ j) in
              let low : next ≤ v = omega (arith, begins, subst (λ (u : FromSegment). u.first_word ≤ v) same b.0) in
              absurd (omega (arith, low, a.1, (w.inside m f (sym (others m ne) ∙ i)).1))
          | inr nk ↦ w.apart m k f g v (sym (others m ne) ∙ i) (sym (others k nk) ∙ j) a b
        ]
      ];
    }

pub walked_falls : (t : TerritoryView) (table : List (Option FromSegment)) (first next : ℕ) (at r : Option ℕ) (n : ℕ) → IsWalked t table first next at → at ≡ Some n → IsNext (from_list t.lists) n r → left (from_list t.lists) r < left (from_list t.lists) at
walked_falls t table first next at r n w s follows =
    let there : slice_get (from_list t.lists) w.place ≡ Some n = sym w.here ∙ s in
    subst (λ v. left (from_list t.lists) r < left (from_list t.lists) v) (sym s)
    (left_next (from_list t.lists) w.place n r w.ones.once there (follows w.place there))

pub walked_all : (t : TerritoryView) (table : List (Option FromSegment)) (first next : ℕ) (at : Option ℕ) → IsWalked t table first next at → at ≡ None → IsNumbered t table first next
walked_all t table first next at w none =
    let xs : List ℕ = from_list t.lists in
    let all : take w.place xs ≡ xs = take_all w.place xs (past xs w.place (sym w.here ∙ none)) in
    record {
      order = w.order;
      same = λ n. elim (cases_lt 0 (times n (take w.place xs))) [
        | inl i ↦ w.done n i
        | inr z ↦
            let zero_times : times n (take w.place xs) ≡ 0 = omega arith in
            let no : IsFrom (segment_at t n) → ⊥ = λ f. absurd (omega (arith, zero_times, ap (times n) all, times_of xs n (w.ones.all n f))) in
            ap shown (w.rest n zero_times) ∙ sym (aside_no (segment_at t n) no)
      ];
      inside = w.inside;
      apart = w.apart;
    }
