-- A segment that is opened with a copy: `q` has the fields of the segment that is copied from, and `from` is what
-- contracts see of it.
use Rattle.std.proofs.Common.{◌≡◌, ℕ, ◌+◌, ◌-◌, ◌*◌, ◌<◌, ◌≤◌, Bool, false, List, [], ◌∷◌, ◌++◌, length, get_or, take, drop, replicate, refl, sym, ◌∙◌, ap, subst, arith, nat_lt}
use Rattle.std.proofs.lemmas.List.{append-nil, drop_all, get_or_read, length-replicate}
use mir.Val.{bool_byte}
use Rattle.cards.specs.Cards.{card_count}
use Rattle.segment.specs.declared.segment.Role.TheVariants.{Current}
use Rattle.segment.specs.Segments.{Segment, IsSound, IsStart, HasRoom, size_at, opened, count_of_births, is_some_marked}
use Rattle.segment.specs.Copies.{run_at, with_words, opened_copy}
use Rattle.segment.proofs.Collected.{IsSound-opened}
use Rattle.segment.proofs.Copies.{IsSound-run, is_run, length-run, run_seen, source_fits}
use Rattle.segment.proofs.Tallies.{grown_tally, fresh_count, fresh_marks}

-- what is taken for the copy
pub record IsTaken (q from : Segment) (k size birth : ℕ) (read words births cards : List ℕ) (marks : List Bool) : Type 0 where
  pub sound : IsSound q
  pub seen : q ≡ from
  pub start : IsStart from k
  pub size_is : size ≡ size_at from k
  pub its_words : words ≡ take (2 * k + size - 2 * k) (drop (2 * k) read)
  pub read_is : read ≡ q.words
  pub its_birth : birth ≡ get_or q.births k birth
  pub births_are : births ≡ birth ∷ []
  pub cards_are : cards ≡ replicate (card_count size) 255
  pub marks_are : marks ≡ replicate 1 false

-- a run over just as many words
pasted_all : (n : ℕ) (run : List ℕ) → length run ≡ n → with_words (replicate n 0) 0 run ≡ run
pasted_all n run e =
    let none : drop (0 + length run) (replicate {A = ℕ} n 0) ≡ [] = drop_all (0 + length run) (replicate {A = ℕ} n 0) (omega (arith, length-replicate {A = ℕ} n 0)) in
    ap (λ v. take 0 (replicate {A = ℕ} n 0) ++ (run ++ v)) none ∙ append-nil run

-- ---- a copy of start k of a sound segment
copy_room : (q : Segment) (k g : ℕ) → IsSound q → IsStart q k → HasRoom (opened q.space g (size_at q k) 1) (length (run_at q k))
copy_room q k g h start =
    (omega (arith, length-run q k h.laid start.1, length-replicate {A = ℕ} (size_at q k) 0), omega (arith, length-replicate {A = ℕ} 1 0))

opened_sound : (q : Segment) (k g : ℕ) → IsSound q → IsStart q k → IsSound (opened q.space g (size_at q k) 1)
opened_sound q k g h start =
    let f : (2 * k + size_at q k ≤ length q.words) × (k < length q.births) × (2 ≤ size_at q k) = source_fits q q k (size_at q k) h refl start refl in
    IsSound-opened q.space g (size_at q k) 1 (omega arith) (λ several. absurd (omega arith)) (omega (arith, h.small))

pub IsSound-opened_copy : (q : Segment) (k g : ℕ) → IsSound q → IsStart q k → IsSound (opened_copy q k g)
IsSound-opened_copy q k g h start =
    IsSound-run (opened q.space g (size_at q k) 1) (run_at q k) (get_or q.births k 0) (opened_sound q k g h start)
    (is_run (opened q.space g (size_at q k) 1) q k h.laid start.1 refl) (copy_room q k g h start)

-- ---- for the answers

pub opened_is : (q from : Segment) (k g size birth : ℕ) (read words births cards : List ℕ) (marks : List Bool) → IsTaken q from k size birth read words births cards marks
    → ◌≡◌ {A = Segment} (record { space = q.space; generation = g; role = Current; was_held = false; is_dirty = false; top = size; words = words; births = births; cards = cards; marks = marks }) (opened_copy from k g)
opened_is q from k g size birth read words births cards marks t =
    let fits : (2 * k + size ≤ length q.words) × (k < length q.births) × (2 ≤ size) = source_fits q from k size t.sound t.seen t.start t.size_is in
    let long : 2 * k + size - 2 * k ≡ size = omega arith in
    let run : words ≡ run_at from k = t.its_words ∙ (ap (λ v. take v (drop (2 * k) read)) long ∙ (ap (λ v. take size (drop (2 * k) v)) t.read_is ∙ run_seen q from k size t.seen t.size_is)) in
    let count : length (run_at from k) ≡ size_at from k = length-run from k (subst IsSound t.seen t.sound).laid t.start.1 in
    let its_words : words ≡ with_words (replicate (size_at from k) 0) 0 (run_at from k) = run ∙ sym (pasted_all (size_at from k) (run_at from k) count) in
    let its_birth : birth ≡ get_or from.births k 0 = get_or_read q.births k birth fits.1 t.its_birth 0 ∙ ap (λ (v : Segment). get_or v.births k 0) t.seen in
    let its_births : births ≡ get_or from.births k 0 ∷ [] = t.births_are ∙ ap (λ v. v ∷ []) its_birth in
    let its_cards : cards ≡ replicate (card_count (size_at from k)) 255 = t.cards_are ∙ ap (λ v. replicate (card_count v) 255) t.size_is in
    let its_top : size ≡ 0 + length (run_at from k) = omega (arith, t.size_is, count) in
    let its_space : q.space ≡ from.space = ap (λ (v : Segment). v.space) t.seen in
    let its_marks : marks ≡ replicate 1 false = t.marks_are in
    cc

pub opened_seen : (q from : Segment) (k g size birth more : ℕ) (read words births cards : List ℕ) (marks : List Bool) → IsTaken q from k size birth read words births cards marks → more ≡ bool_byte (nat_lt 0 birth)
    → IsSound (record { space = q.space; generation = g; role = Current; was_held = false; is_dirty = false; top = size; words = words; births = births; cards = cards; marks = marks })
    × (more ≡ count_of_births births) × (false ≡ is_some_marked marks)
opened_seen q from k g size birth more read words births cards marks t is =
    let source : IsSound from = subst IsSound t.seen t.sound in
    let o : Segment = opened from.space g (size_at from k) 1 in
    let grown : 0 + more ≡ count_of_births (birth ∷ []) = grown_tally o o 0 (length (run_at from k)) birth more (opened_sound from k g source t.start) refl (copy_room from k g source t.start) (fresh_count (replicate 1 0) 1 refl) is in
    let count : more ≡ count_of_births (birth ∷ []) = omega (arith, grown) in (
      subst IsSound (sym (opened_is q from k g size birth read words births cards marks t)) (IsSound-opened_copy from k g source t.start),
      count ∙ ap count_of_births (sym t.births_are),
      fresh_marks marks 1 t.marks_are,
    )
