-- The census adds up.
use Rattle.std.proofs.Common.{◌≡◌, ℕ, zero, suc, ◌+◌, ◌≤◌, true, false, ◌&&◌, ◌==◌, [], ◌∷◌, length, cond, IsTrue, refl, ◌∙◌, arith, nat_le, inl, inr}
use Rattle.std.specs.List.{AllByRecursion}
use Rattle.std.proofs.lemmas.Bool.{or_cases, and_parts, leb-true, eqb-true}
use Rattle.std.proofs.lemmas.List.Elements.{recursion_from_All}
use Rattle.std.proofs.lemmas.List.Sums.{sum_by-append}
use Rattle.trace_types.specs.Values.{Object, Graph, size_of}
use Rattle.trace_types.specs.States.{State}
use Rattle.trace_types.specs.WellFormed.{IsWellFormed, IsObject, is_generation}
use Rattle.trace_types.specs.Printing.{of_generation, words_of}
use Rattle.trace_types.specs.Laws.{AddsUp}
use Rattle.trace_types.proofs.Differing.{one_if}
use Rattle.trace_types.proofs.Least.{each_weaker}

abbrev size_in : ℕ × Object → ℕ
size_in entry = size_of entry.1.kind entry.1.fields

-- the words of one more object
pub words-more : (e : ℕ × Object) (g : Graph) → words_of (e ∷ g) ≡ size_in e + words_of g
words-more e g = sum_by-append size_in (e ∷ []) g ∙ grind (arith)

pub objects-more : (k : ℕ) (e : ℕ × Object) (g : Graph) → length (of_generation k (e ∷ g)) ≡ one_if (e.1.generation == k) + length (of_generation k g)
objects-more k e g = elim (e.1.generation == k) as (λ b. length (cond b (e ∷ of_generation k g) (of_generation k g)) ≡ one_if b + length (of_generation k g)) [ true ↦ omega arith | false ↦ omega arith ]

pub words-of-generation : (k : ℕ) (e : ℕ × Object) (g : Graph) → words_of (of_generation k (e ∷ g)) ≡ cond (e.1.generation == k) (size_in e) 0 + words_of (of_generation k g)
words-of-generation k e g = elim (e.1.generation == k) as (λ b. words_of (cond b (e ∷ of_generation k g) (of_generation k g)) ≡ cond b (size_in e) 0 + words_of (of_generation k g)) [ true ↦ words-more e (of_generation k g) | false ↦ omega arith ]

-- what is in one of the generations 0 to 8 counts once
once : (n : ℕ) (g : ℕ) → g ≤ 8 →
    cond (g == 0) n 0 + cond (g == 1) n 0 + cond (g == 2) n 0 + cond (g == 3) n 0 + cond (g == 4) n 0 + cond (g == 5) n 0 + cond (g == 6) n 0 + cond (g == 7) n 0 + cond (g == 8) n 0 ≡ n
once n zero h = omega arith
once n (suc zero) h = omega arith
once n (suc (suc zero)) h = omega arith
once n (suc (suc (suc zero))) h = omega arith
once n (suc (suc (suc (suc zero)))) h = omega arith
once n (suc (suc (suc (suc (suc zero))))) h = omega arith
once n (suc (suc (suc (suc (suc (suc zero)))))) h = omega arith
once n (suc (suc (suc (suc (suc (suc (suc zero))))))) h = omega arith
once n (suc (suc (suc (suc (suc (suc (suc (suc zero)))))))) h = omega arith
once n (suc (suc (suc (suc (suc (suc (suc (suc (suc g))))))))) h = absurd (omega arith)

abbrev count : ℕ → Graph → ℕ
count k g = length (of_generation k g)

abbrev words : ℕ → Graph → ℕ
words k g = words_of (of_generation k g)

objects_add_up : (g : Graph) → AllByRecursion (λ e. e.1.generation ≤ 8) g →
    count 0 g + count 1 g + count 2 g + count 3 g + count 4 g + count 5 g + count 6 g + count 7 g + count 8 g ≡ length g
objects_add_up [] h = refl
objects_add_up (e ∷ g) h =
    let rest = objects_add_up g h.1 in
    let here = once 1 e.1.generation h.0 in
    let m0 = objects-more 0 e g in
    let m1 = objects-more 1 e g in
    let m2 = objects-more 2 e g in
    let m3 = objects-more 3 e g in
    let m4 = objects-more 4 e g in
    let m5 = objects-more 5 e g in
    let m6 = objects-more 6 e g in
    let m7 = objects-more 7 e g in
    let m8 = objects-more 8 e g in
    omega (arith, rest, here, m0, m1, m2, m3, m4, m5, m6, m7, m8)

words_add_up : (g : Graph) → AllByRecursion (λ e. e.1.generation ≤ 8) g →
    words 0 g + words 1 g + words 2 g + words 3 g + words 4 g + words 5 g + words 6 g + words 7 g + words 8 g ≡ words_of g
words_add_up [] h = refl
words_add_up (e ∷ g) h =
    let rest = words_add_up g h.1 in
    let whole = words-more e g in
    let here = once (size_in e) e.1.generation h.0 in
    let m0 = words-of-generation 0 e g in
    let m1 = words-of-generation 1 e g in
    let m2 = words-of-generation 2 e g in
    let m3 = words-of-generation 3 e g in
    let m4 = words-of-generation 4 e g in
    let m5 = words-of-generation 5 e g in
    let m6 = words-of-generation 6 e g in
    let m7 = words-of-generation 7 e g in
    let m8 = words-of-generation 8 e g in
    omega (arith, rest, whole, here, m0, m1, m2, m3, m4, m5, m6, m7, m8)

at_most_eight : (version oldest g : ℕ) → oldest ≤ 7 → IsTrue (is_generation version oldest g) → g ≤ 8
at_most_eight version oldest g most h =
    elim (or_cases (nat_le g oldest) (version == 2 && g == 8) h) [
      | inl low ↦ let l = leb-true g oldest low in omega arith
      | inr high ↦ let e = eqb-true g 8 (and_parts (version == 2) (g == 8) high).1 in omega arith
    ]

pub census_adds_up : (s : State) → IsWellFormed s → AddsUp s.graph
census_adds_up s well =
    let generations = each_weaker (λ e. IsObject s.version s.oldest e.1) (λ e. e.1.generation ≤ 8) (λ e is. at_most_eight s.version s.oldest e.1.generation well.oldest.1 is.generation) s.graph (recursion_from_All (λ e. IsObject s.version s.oldest e.1) s.graph well.objects) in
    record {
      objects = let all = objects_add_up s.graph generations in omega (arith, all);
      words = let all = words_add_up s.graph generations in omega (arith, all);
    }
