-- How many births there are, and whether a start is held, after each change.
use Rattle.std.proofs.Common.{◌≡◌, ◌≢◌, ℕ, zero, suc, ◌+◌, ◌*◌, ◌/◌, ◌<◌, ◌≤◌, Bool, true, false, cond, not, eqb, nat_lt, ◌||◌, List, [], ◌∷◌, length, get_or, set, replicate, refl, sym, ◌∙◌, ap, subst, arith, inl, inr}
use Rattle.std.proofs.lemmas.Bool.{cases_lt}
use Rattle.std.proofs.lemmas.Bool.Decides.{nat_tests}
use Rattle.std.proofs.lemmas.List.Sums.{sum_by-cons}
use Rattle.std.proofs.lemmas.List.{get_or_past}
use mir.Val.{bool_byte}
use Rattle.gc_words.specs.declared.address.TheConstants.{OFFSETS}
use Rattle.cards.specs.Cards.{card_count}
use Rattle.segment.specs.declared.segment.Role.TheVariants.{From}
use Rattle.segment.specs.Segments.{Segment, IsSound, IsStart, HasRoom, is_free, opened, renewed, held_at, count_of_births, is_some_marked}
use Rattle.segment.proofs.Collected.{IsSound-opened, IsSound-held}

count-cons : (x : ℕ) (xs : List ℕ) → count_of_births (x ∷ xs) ≡ cond (not (eqb x 0)) 1 0 + count_of_births xs
count-cons x xs = sum_by-cons (λ (birth : ℕ). cond (not (eqb birth 0)) 1 0) x xs

pub count_none : (n : ℕ) → count_of_births (replicate n 0) ≡ 0
count_none zero = refl
count_none (suc n) = omega (arith, count-cons 0 (replicate n 0), count_none n)

-- one more birth
pub count-set : (births : List ℕ) (k birth : ℕ) → k < length births → get_or births k 0 ≡ 0 → count_of_births (set births k birth) ≡ count_of_births births + cond (not (eqb birth 0)) 1 0
count-set [] k birth h z = absurd (omega arith)
count-set (x ∷ xs) zero birth h z =
    let t : ◌≡◌ {A = ℕ} (cond (not (eqb x 0)) 1 0) 0 = ap (λ v. cond (not (eqb v 0)) 1 0) z in
    omega (arith, count-cons x xs, count-cons birth xs)
count-set (x ∷ xs) (suc k) birth h z = omega (arith, count-cons x xs, count-cons x (set xs k birth), count-set xs k birth (omega arith) z)

pub none_marked : (n : ℕ) → is_some_marked (replicate n false) ≡ false
none_marked zero = refl
none_marked (suc n) = none_marked n

pub marked-set : (marks : List Bool) (k : ℕ) → k < length marks → is_some_marked (set marks k true) ≡ true
marked-set [] k h = absurd (omega arith)
marked-set (m ∷ ms) zero h = refl
marked-set (m ∷ ms) (suc k) h = elim m as (λ b. (b || is_some_marked (set ms k true)) ≡ true) [ true ↦ refl | false ↦ marked-set ms k (omega arith) ]

-- ---- what the calls of `Segment` owe: `p` is the segment's fields, `now` what a contract sees

byte_one : (b : Bool) → bool_byte b ≡ cond b 1 0
byte_one true = refl
byte_one false = refl

born_one : (birth : ℕ) → ◌≡◌ {A = ℕ} (cond (nat_lt 0 birth) 1 0) (cond (not (eqb birth 0)) 1 0)
born_one zero = refl
born_one (suc n) =
    let s : nat_lt 0 (suc n) ≡ true = (let b : 0 < suc n = omega arith in grind (arith, nat_tests, b)) in
    let t : eqb (suc n) 0 ≡ false = (let b : suc n ≢ 0 = λ e. absurd (omega arith) in grind (arith, nat_tests, b)) in
    ap (λ b. cond b 1 0) s ∙ sym (ap (λ b. cond (not b) 1 0) t)

pub grown_tally : (p now : Segment) (starts size birth more : ℕ) → IsSound p → p ≡ now → HasRoom now size → starts ≡ count_of_births p.births → more ≡ bool_byte (nat_lt 0 birth) → starts + more ≡ count_of_births (set p.births (p.top / 2) birth)
grown_tally p now starts size birth more h e room told is =
    let room' : HasRoom p size = subst (λ v. HasRoom v size) (sym e) room in
    let none : get_or p.births (p.top / 2) 0 ≡ 0 = h.laid.loose (p.top / 2) (omega (arith, h.laid.even)) in
    omega (arith, count-set p.births (p.top / 2) birth (omega (arith, room'.1, h.laid.even)) none, byte_one (nat_lt 0 birth), born_one birth)

pub held_tally : (p now : Segment) (k : ℕ) → IsSound p → p ≡ now → IsStart now k → true ≡ is_some_marked (set p.marks k true)
held_tally p now k h e start =
    let start' : IsStart p k = subst (λ (v : Segment). IsStart v k) (sym e) start in
    let within : k < length p.births = elim (cases_lt k (length p.births)) [ inl b ↦ b | inr far ↦ absurd (start'.1 (get_or_past p.births k 0 far)) ] in
    sym (marked-set p.marks k (omega (arith, h.marks)))

pub held_seen : (p now : Segment) (k : ℕ) → IsSound p → p ≡ now → now.role ≡ From → IsSound (held_at p k)
held_seen p now k h e aside = IsSound-held p k h (ap (λ (v : Segment). v.role) e ∙ aside)

pub fresh_count : (births : List ℕ) (n : ℕ) → births ≡ replicate n 0 → 0 ≡ count_of_births births
fresh_count births n e = sym (ap count_of_births e ∙ count_none n)

pub fresh_marks : (marks : List Bool) (n : ℕ) → marks ≡ replicate n false → false ≡ is_some_marked marks
fresh_marks marks n e = sym (ap is_some_marked e ∙ none_marked n)

pub renewed_seen : (p now : Segment) (n births : ℕ) (w b c : List ℕ) (m : List Bool) → IsSound p → p ≡ now → is_free now.role ≡ true → 2 * births ≤ n → (1 < births → n ≡ 512) → n ≤ OFFSETS
    → w ≡ replicate n 0 → b ≡ replicate births 0 → c ≡ replicate (card_count n) 255 → m ≡ replicate births false
    → IsSound (record p { top = 0; words = w; births = b; cards = c; marks = m })
renewed_seen p now n births w b c m h e free fit single small ew eb ec em =
    let free' : is_free p.role ≡ true = ap (λ (v : Segment). is_free v.role) e ∙ free in
    let o : IsSound (opened p.space p.generation n births) = IsSound-opened p.space p.generation n births fit single small in
    let r : IsSound (renewed p n births) = record {
      small = o.small;
      births = o.births;
      single = o.single;
      marks = o.marks;
      cards = o.cards;
      clean = λ u. cc;
      dirty = λ d. cc (h.free free');
      free = h.free;
      unheld = λ is. cc;
      laid = record { top_in = o.laid.top_in; even = o.laid.even; zero_above = o.laid.zero_above; loose = o.laid.loose; fit = o.laid.fit; apart = o.laid.apart };
    } in
    subst (λ v. IsSound (record p { top = 0; words = v; births = b; cards = c; marks = m })) (sym ew)
    (subst (λ v. IsSound (record p { top = 0; words = replicate n 0; births = v; cards = c; marks = m })) (sym eb)
    (subst (λ v. IsSound (record p { top = 0; words = replicate n 0; births = replicate births 0; cards = v; marks = m })) (sym ec)
    (subst (λ v. IsSound (record p { top = 0; words = replicate n 0; births = replicate births 0; cards = replicate (card_count n) 255; marks = v })) (sym em) r)))
