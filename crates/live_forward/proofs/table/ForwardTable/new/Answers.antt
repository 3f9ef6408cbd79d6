use Rattle.std.proofs.Common.{◌≡◌, ℕ, ◌+◌, ◌<◌, ◌≤◌, List, [], ◌∷◌, length, take, ap, sym, ◌∙◌, subst, ⊎_elim}
use Rattle.std.specs.Prelude.{sum, slice_index, replicate}
use Rattle.std.proofs.lemmas.Bool.{cases_lt}
use Rattle.std.proofs.lemmas.List.{take_all, get_or-replicate, get_or_past, length-replicate}
use Rattle.live_forward.specs.Forwarding.{first_view, KeepsRule}
use Rattle.live_forward.proofs.Keeps.{begins}
use Rattle.live_forward.proofs.table.ForwardTable.new.Goals as goal

zeros : (n w : ℕ) → slice_index (replicate n 0) w ≡ 0
zeros n w =
    ⊎_elim
    (λ (l : w < n). get_or-replicate n w 0 0 l)
    (λ (l : n ≤ w). get_or_past (replicate n 0) w 0 (let r : length (replicate n 0) ≡ n = length-replicate n 0 in subst (λ k. k ≤ w) (sym r) l))
    (cases_lt w n)

begins_at : (ranges key words : List ℕ) (n i : ℕ) → key ≡ ranges → words ≡ replicate n 0 → n ≡ 1 + sum (take i ranges) → length ranges ≤ i → KeepsRule key words (first_view key ∷ [])
begins_at ranges key words n i same filled count all =
    subst (λ (p : List ℕ × List ℕ). KeepsRule p.0 p.1 (first_view p.0 ∷ [])) (λ k. (sym same k, sym filled k))
    (begins ranges (replicate n 0) (length-replicate n 0 ∙ count ∙ ap (λ t. 1 + sum t) (take_all i ranges all)) (zeros n))

pub of_words-requires : goal.of_words-requires
of_words-requires c =
    begins_at c.args.ranges.now _ _ c.loop-size.count c.loop-size.size-index
    (c.in_ok-key.ensures.items_if_clones_equal (λ x y e. e))
    (c.as_slice.ensures.value ∙ c.in_ok-words.ensures.items_if_clones_equal (λ y e. e))
    c.loop-size.invariant
    c.loop-size-test.false
