use Rattle.std.proofs.Common.{◌≡◌, ℕ, zero, suc, ◌+◌, ◌-◌, ◌*◌, ◌/◌, ◌%◌, ◌<◌, ◌≤◌, List, [], length, get_or, take, drop, length-take, length-drop, sym, ◌∙◌, ap, arith}
use Rattle.std.specs.Simd.{first_chunks}
use Rattle.std.proofs.lemmas.List.{get_or-take, get_or-drop}
use Rattle.cards.proofs.scan.after_clean.Goals as goal

-- place k of group i is place 8 i + k of the whole
get_or-first_chunks : (xs : List ℕ) (n i k : ℕ) → i < n → k < 8 → get_or (get_or (first_chunks 8 n xs) i []) k 0 ≡ get_or xs (8 * i + k) 0
get_or-first_chunks xs zero i k few small = absurd (omega arith)
get_or-first_chunks xs (suc n) zero k few small = get_or-take 8 xs k 0 small ∙ ap (λ j. get_or xs j 0) (omega arith)
get_or-first_chunks xs (suc n) (suc i) k few small =
    get_or-first_chunks (drop 8 xs) n i k (omega arith) small ∙ (get_or-drop 8 xs (8 * i + k) 0 ∙ ap (λ j. get_or xs j 0) (omega arith))

-- groups of eight that are clean are so many clean cards
all_clean : (bytes : List ℕ) (eights : List (List ℕ)) (from count : ℕ) → let rest : List ℕ = take (length bytes - from) (drop from bytes) in
    eights ≡ first_chunks 8 (length rest / 8) rest → length eights ≡ length rest / 8 → count ≤ length eights
    → ((i k : ℕ) → i < count → k < 8 → get_or (get_or eights i []) k 0 ≡ 255) → (card : ℕ) → from ≤ card → card < from + 8 * count → get_or bytes card 0 ≡ 255
all_clean bytes eights from count is groups within clean card low high =
    let rest : List ℕ = take (length bytes - from) (drop from bytes) in
    let long : length rest ≡ length bytes - from = simp (length-take, length-drop) (omega arith) in
    let i : ℕ = (card - from) / 8 in
    let k : ℕ = (card - from) % 8 in
    let few : i < count = omega arith in
    let back : from + (8 * i + k) ≡ card = omega arith in
    let there : get_or (get_or (first_chunks 8 (length rest / 8) rest) i []) k 0 ≡ get_or bytes card 0 =
    get_or-first_chunks rest (length rest / 8) i k (omega arith) (omega arith)
    ∙ (get_or-take (length bytes - from) (drop from bytes) (8 * i + k) 0 (omega arith) ∙ (get_or-drop from bytes (8 * i + k) 0 ∙ ap (λ j. get_or bytes j 0) back)) in
    sym there ∙ (ap (λ w. get_or (get_or w i []) k 0) (sym is) ∙ clean i k few (omega arith))

pub returns-clause-clean : goal.returns-clause-clean
returns-clause-clean c = all_clean _ _ _ _ c.as_chunks.ensures.front c.as_chunks.ensures.front_len c.clean_eights.ensures.within c.clean_eights.ensures.clean
