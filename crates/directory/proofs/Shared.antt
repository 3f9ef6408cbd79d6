-- The ranges of the sweepers, one after the other.
use Rattle.std.proofs.Common.{◌≡◌, ℕ, ◌+◌, ◌-◌, ◌%◌, ◌^◌, ◌<◌, ◌≤◌, true, false, cond, ltb, List, [], ◌∷◌, ◌++◌, length, sum, get_or, Option, Some, None, ◌⊎◌, refl, sym, ◌∙◌, ap, subst, arith, inl, inr}
use Rattle.std.proofs.lemmas.Bool.{cases_lt, cases_eq}
use Rattle.std.proofs.lemmas.List.{get_or_past, get_or_append_left, get_or_push, length_push}
use Rattle.std.proofs.lemmas.Nat.{mod_below}
use Rattle.std.proofs.lemmas.Option.{slice_get_past}
use Rattle.std.proofs.lemmas.List.Sums.{sum_by_push}
use Rattle.gc_words.specs.Layout.{thread_of, segment_of, offset_of}
use Rattle.territory.specs.Territories.{TerritoryView}
use Rattle.directory.specs.declared.table.FromSegment.{FromSegment}
use Rattle.directory.specs.Tables.{Aside, entry_in, entry_at, run_of, aside, aside_at, aside_with, shown, segment_for, segment_in}
use Rattle.directory.specs.Numbered.{HaveWords, IsOwned, AreNumbered}
use Rattle.directory.specs.Directories.{IsSound, from_in, start_of, with_offset}
use Rattle.directory.proofs.Joining.{Entries, have_none, have_kept, have_both}
use Rattle.directory.proofs.Ranges.{start_kept, start_end, start_last}

-- a thread whose sweeper is below a number
abbrev pub IsServed : ℕ → ℕ → ℕ → Type 0
IsServed sweepers end thread = (thread < 64) × (thread % sweepers < end)

-- its words lie in its sweeper's range
abbrev pub LiesIn : List ℕ → ℕ → FromSegment → Type 0
LiesIn ranges k e = (start_of ranges k ≤ e.first_word) × (e.first_word + run_of e.size ≤ start_of ranges (k + 1))

-- The sweepers below a number have their ranges.
pub record AreCut (territories : List TerritoryView) (tables : List Entries) (ranges firsts : List ℕ) (word sweepers sweeper : ℕ) : Type 0 where
  pub count : length tables ≡ 64
  pub size : length ranges ≡ sweeper
  pub size_too : length firsts ≡ sweeper
  pub ends : word ≡ 1 + sum ranges
  pub begin : (k : ℕ) → k < sweeper → get_or firsts k 0 ≡ start_of ranges k
  pub have : HaveWords (IsServed sweepers sweeper) territories tables 1 word
  pub own : (t n : ℕ) (e : FromSegment) → IsServed sweepers sweeper t → entry_at tables t n ≡ Some e → LiesIn ranges (t % sweepers) e

pub cut_none : (territories : List TerritoryView) (tables : List Entries) (sweepers : ℕ) → length tables ≡ 64 → AreCut territories tables [] [] 1 sweepers 0
cut_none territories tables sweepers count = record {
  count = count;
  size = refl;
  size_too = refl;
  ends = refl;
  begin = λ k h. absurd (omega arith);
  have = have_none (IsServed sweepers 0) territories tables 1 (λ t i. absurd (omega (arith, i.1)));
  own = λ t n e i h. absurd (omega (arith, i.1));
}

pub cut_more : (territories : List TerritoryView) (old new : List Entries) (ranges firsts : List ℕ) (word next sweepers sweeper : ℕ) → AreCut territories old ranges firsts word sweepers sweeper → length new ≡ 64 → AreNumbered territories old new sweeper sweepers word next → AreCut territories new (ranges ++ (next - word) ∷ []) (firsts ++ word ∷ []) next sweepers (sweeper + 1)
cut_more territories old new ranges firsts word next sweepers sweeper s count d =
    let more : List ℕ = ranges ++ (next - word) ∷ [] in
    let order : word ≤ next = d.have.order in
    let total : sum more ≡ sum ranges + (next - word) = sum_by_push (λ x. x) ranges (next - word) in
    let size : length more ≡ sweeper + 1 = length_push ranges (next - word) ∙ ap (λ v. v + 1) s.size in
    let kept : (k : ℕ) → k ≤ sweeper → start_of more k ≡ start_of ranges k = λ k h. start_kept ranges (next - word) k (omega (arith, s.size)) in
    let its_start : start_of more sweeper ≡ word = kept sweeper (omega arith) ∙ (ap (start_of ranges) (sym s.size) ∙ (start_end ranges ∙ sym s.ends)) in
    let its_end : start_of more (sweeper + 1) ≡ next =
    ap (λ v. start_of more (v + 1)) (sym s.size) ∙ (start_last ranges (next - word) ∙ omega (arith, s.ends, order)) in
    let same : (t : ℕ) → IsServed sweepers sweeper t → get_or new t [] ≡ get_or old t [] = λ t i. d.others t (λ e. absurd (omega (arith, i.1))) in
    let cut : (t : ℕ) → IsServed sweepers (sweeper + 1) t → IsServed sweepers sweeper t ⊎ IsOwned sweepers sweeper t =
    λ t i. elim (cases_eq (t % sweepers) sweeper) [ inl e ↦ inr (i.0, e) | inr ne ↦ inl (i.0, omega (arith, i.1, ne)) ] in
    record {
      count = count;
      size = size;
      size_too = length_push firsts word ∙ ap (λ v. v + 1) s.size_too;
      ends = omega (arith, total, s.ends, order);
      begin = λ k h. elim (cases_lt k sweeper) [
        | inl b ↦ get_or_append_left firsts (word ∷ []) 0 k (omega (arith, s.size_too)) ∙ (s.begin k b ∙ sym (kept k (omega arith)))
        | inr a ↦
            let e : k ≡ sweeper = omega arith in
            get_or_push firsts word 0 k (s.size_too ∙ sym e) ∙ (sym its_start ∙ ap (start_of more) (sym e))
      ];
      have = have_both (IsServed sweepers sweeper) (IsOwned sweepers sweeper) (IsServed sweepers (sweeper + 1)) territories new 1 word next cut
          (have_kept (IsServed sweepers sweeper) territories old new 1 word same s.have) d.have;
      own = λ t n e i h. elim (cut t i) [
        | inl b ↦
            let was : LiesIn ranges (t % sweepers) e = s.own t n e b (sym (ap (λ v. entry_in v n) (same t b)) ∙ h) in
            (omega (arith, was.0, kept (t % sweepers) (omega (arith, b.1))), omega (arith, was.1, kept (t % sweepers + 1) (omega (arith, b.1))))
        | inr o ↦
            let at : (word ≤ e.first_word) × (e.first_word + run_of e.size ≤ next) = d.have.inside t n e o h in
            let low : start_of more (t % sweepers) ≡ word = ap (start_of more) o.1 ∙ its_start in
            let high : start_of more (t % sweepers + 1) ≡ next = ap (λ v. start_of more (v + 1)) o.1 ∙ its_end in
            (omega (arith, at.0, low), omega (arith, at.1, high))
      ];
    }

-- ---- all sweepers

-- there are no tables of further threads
within : (tables : List Entries) (t n : ℕ) (e : FromSegment) → length tables ≡ 64 → entry_at tables t n ≡ Some e → t < 64
within tables t n e count h =
    elim (cases_lt t 64) [
      | inl b ↦ b
      | inr a ↦ absurd (let none : entry_at tables t n ≡ None = ap (λ v. entry_in v n) (get_or_past tables t [] (omega (arith, count))) in let c : None ≡ Some e = sym none ∙ h in cc)
    ]

pub cut_all : (territories : List TerritoryView) (tables : List Entries) (ranges firsts : List ℕ) (word sweepers : ℕ) → 1 ≤ sweepers → sweepers ≤ 64 → word < 2 ^ 64 → AreCut territories tables ranges firsts word sweepers sweepers → IsSound ranges firsts tables
cut_all territories tables ranges firsts word sweepers some most small s =
    let served : (t n : ℕ) (e : FromSegment) → entry_at tables t n ≡ Some e → IsServed sweepers sweepers t = λ t n e h. (within tables t n e s.count h, mod_below t sweepers (omega arith)) in
    record {
      some = omega (arith, s.size);
      most = omega (arith, s.size);
      fits = omega (arith, start_end ranges, s.ends);
      firsts_too = s.size_too ∙ sym s.size;
      begin = λ k h. s.begin k (omega (arith, s.size));
      threads = s.count;
      own = λ t n e h. subst (λ v. LiesIn ranges (t % v) e) (sym s.size) (s.own t n e (served t n e h) h);
      apart = λ t u m n e f w a b x y. s.have.apart t u m n e f w (served t m e a) (served u n f b) a b x y;
    }

shown_with : (o : Option FromSegment) (k : ℕ) → shown (with_offset o k) ≡ aside_with (shown o) k
shown_with None k = refl
shown_with (Some e) k =
    let here : Aside = record { size = e.size; generation = e.generation } in
    elim (ltb k e.size) as (λ b. shown (cond b (Some e) None) ≡ cond b (Some here) None) [ true ↦ refl | false ↦ refl ]

pub cut_shown : (territories : List TerritoryView) (tables : List Entries) (ranges firsts : List ℕ) (word sweepers : ℕ) → length territories ≡ 64 → 1 ≤ sweepers → AreCut territories tables ranges firsts word sweepers sweepers → (a : ℕ) → shown (from_in tables a) ≡ aside_at territories a
cut_shown territories tables ranges firsts word sweepers count some s a =
    let same : shown (entry_at tables (thread_of a) (segment_of a)) ≡ aside (segment_for territories (thread_of a) (segment_of a)) =
    elim (cases_lt (thread_of a) 64) [
      | inl b ↦ s.have.same (thread_of a) (segment_of a) (b, mod_below (thread_of a) sweepers (omega arith))
      | inr far ↦
          let none : entry_at tables (thread_of a) (segment_of a) ≡ None = ap (λ v. entry_in v (segment_of a)) (get_or_past tables (thread_of a) [] (omega (arith, s.count))) in
          let no : segment_for territories (thread_of a) (segment_of a) ≡ None = ap (λ v. segment_in v (segment_of a)) (slice_get_past territories (thread_of a) (omega (arith, count))) in
          ap shown none ∙ sym (ap aside no)
    ] in
    shown_with (entry_at tables (thread_of a) (segment_of a)) (offset_of a) ∙ ap (λ v. aside_with v (offset_of a)) same

-- the same, by what was put last in both lists
pub cut_pushed : (territories : List TerritoryView) (old new : List Entries) (ranges firsts more_ranges more_firsts : List ℕ) (word next sweepers sweeper : ℕ) → AreCut territories old ranges firsts word sweepers sweeper → length new ≡ 64 → AreNumbered territories old new sweeper sweepers word next → more_ranges ≡ ranges ++ (next - word) ∷ [] → more_firsts ≡ firsts ++ word ∷ [] → AreCut territories new more_ranges more_firsts next sweepers (sweeper + 1)
cut_pushed territories old new ranges firsts more_ranges more_firsts word next sweepers sweeper s count d e f =
    subst (λ v. AreCut territories new v more_firsts next sweepers (sweeper + 1)) (sym e)
    (subst (λ v. AreCut territories new (ranges ++ (next - word) ∷ []) v next sweepers (sweeper + 1)) (sym f)
    (cut_more territories old new ranges firsts word next sweepers sweeper s count d))

pub cut_end : (territories : List TerritoryView) (tables : List Entries) (ranges firsts : List ℕ) (word sweepers sweeper : ℕ) → sweeper ≡ sweepers → AreCut territories tables ranges firsts word sweepers sweeper → AreCut territories tables ranges firsts word sweepers sweepers
cut_end territories tables ranges firsts word sweepers sweeper e s = subst (λ v. AreCut territories tables ranges firsts word sweepers v) e s
