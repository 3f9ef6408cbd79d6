-- Lists from which a number is taken.
use Rattle.std.proofs.Common.{◌≡◌, ◌≢◌, ℕ, ◌<◌, ◌≤◌, List, [], ◌∷◌, ◌++◌, length, refl, sym, ◌∙◌, ap, subst, arith, inl, inr, append-nil}
use Rattle.std.proofs.lemmas.Bool.{cases_eq}
use Rattle.std.proofs.lemmas.List.{ext_get_or}
use Rattle.std.specs.List.{flat_map}
use Rattle.seg_chain.specs.Lists.{chain_of, times, without, moved}
use Rattle.seg_chain.proofs.Laws.{length-moved, chain_of-moved_from, chain_of-moved_to, chain_of-moved_other}
use Rattle.seg_chain.proofs.Counts.{times-here, times-append, not_there, without-append, without-here, without_split}

-- the first one taken out
pub without_first : (n : ℕ) (xs : List ℕ) → times n (n ∷ xs) ≤ 1 → without n (n ∷ xs) ≡ xs
without_first n xs h = without-here n xs ∙ not_there n xs (omega (arith, times-here n xs))

-- the last one taken out
pub without_last : (n : ℕ) (xs : List ℕ) → times n xs ≡ 0 → without n (xs ++ n ∷ []) ≡ xs
without_last n xs h = without_split n xs [] (omega (arith, times-append n xs (n ∷ []), times-here n [])) ∙ append-nil xs

pub flat-without : (n : ℕ) (f g : ℕ → List ℕ) → ((h : ℕ) → g h ≡ without n (f h)) → (hs : List ℕ) → flat_map g hs ≡ without n (flat_map f hs)
flat-without n f g e [] = refl
flat-without n f g e (h ∷ hs) = ap (λ v. v ++ flat_map g hs) (e h) ∙ (ap (λ v. without n (f h) ++ v) (flat-without n f g e hs) ∙ sym (without-append n (f h) (flat_map f hs)))

-- moved by way of chain 0
pub moved_twice : (lists : List (List ℕ)) (from to n : ℕ) → from < length lists → to < length lists → from ≢ to → from ≢ 0 → to ≢ 0 → times n (chain_of lists 0) ≡ 0
    → moved (moved lists from 0 n) 0 to n ≡ moved lists from to n
moved_twice lists from to n f t ne nf nt none =
    let mid : List (List ℕ) = moved lists from 0 n in
    let long : length mid ≡ length lists = length-moved lists from 0 n in
    ext_get_or [] (moved mid 0 to n) (moved lists from to n) (length-moved mid 0 to n ∙ (long ∙ sym (length-moved lists from to n))) (λ c within.
    elim (cases_eq c to) [
      | inl same ↦ subst (λ v. chain_of (moved mid 0 to n) v ≡ chain_of (moved lists from to n) v) (sym same)
          (chain_of-moved_to mid 0 to n (omega arith) ∙ (ap (λ v. v ++ n ∷ []) (chain_of-moved_other lists from 0 n to (λ e. ne (sym e)) nt) ∙ sym (chain_of-moved_to lists from to n t)))
      | inr other ↦ elim (cases_eq c 0) [
        | inl zero_is ↦ subst (λ v. chain_of (moved mid 0 to n) v ≡ chain_of (moved lists from to n) v) (sym zero_is)
            (chain_of-moved_from mid 0 to n (omega arith) (λ e. nt (sym e)) ∙ (ap (without n) (chain_of-moved_to lists from 0 n (omega arith)) ∙ (without_last n (chain_of lists 0) none ∙ sym (chain_of-moved_other lists from to n 0 (λ e. nf (sym e)) (λ e. nt (sym e))))))
        | inr nz ↦ elim (cases_eq c from) [
          | inl same ↦ subst (λ v. chain_of (moved mid 0 to n) v ≡ chain_of (moved lists from to n) v) (sym same)
              (chain_of-moved_other mid 0 to n from nf ne ∙ (chain_of-moved_from lists from 0 n f nf ∙ sym (chain_of-moved_from lists from to n f ne)))
          | inr nfrom ↦ chain_of-moved_other mid 0 to n c nz other ∙ (chain_of-moved_other lists from 0 n c nfrom nz ∙ sym (chain_of-moved_other lists from to n c nfrom other))
        ]
      ]
    ])
