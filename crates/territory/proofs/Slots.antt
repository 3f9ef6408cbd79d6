-- Where one spot of one segment changed, one start changed.
use Rattle.std.proofs.Common.{◌≡◌, ◌≢◌, ℕ, ◌+◌, ◌-◌, ◌*◌, ◌/◌, ◌%◌, ◌<◌, ◌≤◌, ◌&&◌, true, false, cond, eqb, nat_le, List, [], Some, None, refl, sym, ◌∙◌, ap, arith, inl, inr}
use Rattle.std.proofs.lemmas.Bool.{cases_eq}
use Rattle.std.proofs.lemmas.Bool.Decides.{nat_tests}
use Rattle.std.specs.Ordering.{nat_cmp, eq_by_cmp}
use Rattle.std.specs.FinMap.{FinMap, get, insert, empty}
use Rattle.gc_words.specs.declared.address.TheConstants.{OFFSETS}
use Rattle.segment.specs.Segments.{Segment, Start, IsSound, spot}
use Rattle.territory.specs.Pools.{numbered, start_in, starts_of, entries_of}
use Rattle.territory.proofs.Entries.{AllSmall, get-starts, same_starts, get_inserted}

pub all_small : (segments : List Segment) → ((n : ℕ) → IsSound (numbered segments n)) → AllSmall segments
all_small segments s i k = let p : IsSound (numbered segments i) = s i in omega (arith, p.births, p.small)

-- spots that are the same give the same starts
pub same_in : (base : ℕ) (before after : List Segment) → ((m j : ℕ) → spot (numbered after m) j ≡ spot (numbered before m) j) → (q : ℕ) → start_in base after q ≡ start_in base before q
same_in base before after same q = ap (λ v. cond (nat_le base (q / OFFSETS) && eqb (q % 2) 0) v None) (same (q / OFFSETS - base) (q % OFFSETS / 2))

pub same_map : (base : ℕ) (before after : List Segment) → AllSmall before → AllSmall after → ((m j : ℕ) → spot (numbered after m) j ≡ spot (numbered before m) j) → starts_of base after ≡ starts_of base before
same_map base before after small small' same =
    same_starts (starts_of base after) (starts_of base before) (λ q. get-starts base after small' q ∙ (same_in base before after same q ∙ sym (get-starts base before small q)))

-- spot k of segment n is the start at a, and no other spot changed
pub record IsSlot (base : ℕ) (before after : List Segment) (n k a : ℕ) : Type 0 where
  pub small : 2 * k < OFFSETS
  pub address : a ≡ (base + n) * OFFSETS + 2 * k
  pub others : (j : ℕ) → j ≢ k → spot (numbered after n) j ≡ spot (numbered before n) j
  pub elsewhere : (m j : ℕ) → m ≢ n → spot (numbered after m) j ≡ spot (numbered before m) j

pub start_here : (base : ℕ) (segments : List Segment) (n k a : ℕ) → 2 * k < OFFSETS → a ≡ (base + n) * OFFSETS + 2 * k → start_in base segments a ≡ spot (numbered segments n) k
start_here base segments n k a small is =
    let page : a / OFFSETS ≡ base + n = omega arith in
    let index : a / OFFSETS - base ≡ n = omega arith in
    let place : a % OFFSETS / 2 ≡ k = omega arith in
    let test : nat_le base (a / OFFSETS) && eqb (a % 2) 0 ≡ true = (let l : base ≤ a / OFFSETS = omega arith in let m : a % 2 ≡ 0 = omega arith in grind (arith, nat_tests, l, m)) in
    ap (λ b. cond b (spot (numbered segments (a / OFFSETS - base)) (a % OFFSETS / 2)) None) test
    ∙ (ap (λ w. spot (numbered segments w) (a % OFFSETS / 2)) index ∙ ap (spot (numbered segments n)) place)

pub start_elsewhere : (base : ℕ) (before after : List Segment) (n k a : ℕ) → IsSlot base before after n k a → (q : ℕ) → q ≢ a → start_in base after q ≡ start_in base before q
start_elsewhere base before after n k a s q ne =
    elim (nat_le base (q / OFFSETS) && eqb (q % 2) 0) as (λ b. nat_le base (q / OFFSETS) && eqb (q % 2) 0 ≡ b → cond b (spot (numbered after (q / OFFSETS - base)) (q % OFFSETS / 2)) None ≡ cond b (spot (numbered before (q / OFFSETS - base)) (q % OFFSETS / 2)) None) [
      | false ↦ λ e. refl
      | true ↦ λ e.
          let c : base ≤ q / OFFSETS = grind (arith, nat_tests, e) in
          let d : q % 2 ≡ 0 = grind (arith, nat_tests, e) in
          elim (cases_eq (q / OFFSETS - base) n) [
            | inl same ↦
                let far : q % OFFSETS / 2 ≢ k = λ f. ne (omega (arith, s.address, s.small)) in
                ap (λ w. spot (numbered after w) (q % OFFSETS / 2)) same ∙ (s.others (q % OFFSETS / 2) far ∙ ap (λ w. spot (numbered before w) (q % OFFSETS / 2)) (sym same))
            | inr apart ↦ s.elsewhere (q / OFFSETS - base) (q % OFFSETS / 2) apart
          ]
    ] refl

eq_yes : (q a : ℕ) → q ≡ a → eq_by_cmp nat_cmp q a ≡ true
eq_yes q a e = grind (arith, nat_tests, e)

eq_no : (q a : ℕ) → q ≢ a → eq_by_cmp nat_cmp q a ≡ false
eq_no q a ne = grind (arith, nat_tests, ne)

pub get_here : (m : FinMap nat_cmp Start) (a : ℕ) (x : Start) → get (insert m a x) a ≡ Some x
get_here m a x = get_inserted m a x a ∙ ap (λ b. cond b (Some x) (get m a)) (eq_yes a a refl)

pub get_other : (m : FinMap nat_cmp Start) (a : ℕ) (x : Start) (q : ℕ) → q ≢ a → get (insert m a x) q ≡ get m q
get_other m a x q ne = get_inserted m a x q ∙ ap (λ b. cond b (Some x) (get m q)) (eq_no q a ne)

-- the map after one start changed
pub changed_map : (base : ℕ) (before after : List Segment) (n k a : ℕ) (x : Start) → AllSmall before → AllSmall after → IsSlot base before after n k a → spot (numbered after n) k ≡ Some x
    → starts_of base after ≡ insert (starts_of base before) a x
changed_map base before after n k a x small small' s here =
    same_starts (starts_of base after) (insert (starts_of base before) a x) (λ q.
    get-starts base after small' q ∙
    elim (cases_eq q a) [
      | inl e ↦ ap (start_in base after) e ∙ (start_here base after n k a s.small s.address ∙ (here ∙ (sym (get_here (starts_of base before) a x) ∙ ap (get (insert (starts_of base before) a x)) (sym e))))
      | inr ne ↦ start_elsewhere base before after n k a s q ne ∙ (sym (get-starts base before small q) ∙ sym (get_other (starts_of base before) a x q ne))
    ])

pub starts_of_none : (base : ℕ) (segments : List Segment) → segments ≡ [] → starts_of base segments ≡ empty
unfolding starts_of entries_of
starts_of_none base segments e = ap (starts_of base) e
