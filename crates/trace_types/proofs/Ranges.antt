-- Values in range, bytes, and ascending lines.
use Rattle.std.proofs.Common.{◌≡◌, ℕ, zero, suc, ◌<◌, ◌^◌, pos, negsuc, Bool, true, false, List, [], ◌∷◌, ◌++◌, map, filter, set, replicate, slice_index_or, cond, IsTrue, refl, ◌∙◌, arith, nat_lt}
use Rattle.std.specs.List.{list_all, AllByRecursion}
use Rattle.std.proofs.lemmas.Bool.{and_parts, and_from, ltb-true, lt-ltb, false≢true}
use Rattle.std.proofs.lemmas.List.Folds.{list_all-append}
use Rattle.trace_types.specs.declared.kind.Kind.{Kind}
use Rattle.trace_types.specs.declared.kind.Kind.TheVariants.{Pair, Weak, Eph, Boxed, Vector, Bytes, ImmVector, ImmBytes, Guard, OrderedGuard, Cell}
use Rattle.trace_types.specs.Values.{Value, fixnum, nil, true_value, false_value, bwp, object, is_byte, is_value, has_bytes}
use Rattle.trace_types.specs.States.{Registration}
use Rattle.trace_types.specs.Collections.{fields_left, unless_outside}
use Rattle.trace_types.specs.Kept.{is_outside}
use Rattle.trace_types.specs.Tables.{is_table, is_entry}
use Rattle.trace_types.specs.WellFormed.{fields_fit, is_ascending}

-- ---- tests of all values of a list

module _ {X : Type 0} (p : X → Bool) where
  pub all_both : (xs ys : List X) → IsTrue (list_all p xs) → IsTrue (list_all p ys) → IsTrue (list_all p (xs ++ ys))
  all_both xs ys h k = list_all-append p xs ys ∙ and_from (list_all p xs) (list_all p ys) h k

  pub all_set : (xs : List X) (i : ℕ) (x : X) → IsTrue (list_all p xs) → IsTrue (p x) → IsTrue (list_all p (set xs i x))
  all_set [] i x h k = h
  all_set (y ∷ xs) zero x h k = and_from (p x) (list_all p xs) k (and_parts (p y) (list_all p xs) h).1
  all_set (y ∷ xs) (suc i) x h k = let parts = and_parts (p y) (list_all p xs) h in and_from (p y) (list_all p (set xs i x)) parts.0 (all_set xs i x parts.1 k)

  pub all_copies : (n : ℕ) (x : X) → IsTrue (p x) → IsTrue (list_all p (replicate n x))
  all_copies zero x k = refl
  all_copies (suc n) x k = and_from (p x) (list_all p (replicate n x)) k (all_copies n x k)

  pub all_slot : (xs : List X) (i : ℕ) (otherwise : X) → IsTrue (list_all p xs) → IsTrue (p otherwise) → IsTrue (p (slice_index_or xs i otherwise))
  all_slot [] i otherwise h k = k
  all_slot (y ∷ xs) zero otherwise h k = (and_parts (p y) (list_all p xs) h).0
  all_slot (y ∷ xs) (suc i) otherwise h k = all_slot xs i otherwise (and_parts (p y) (list_all p xs) h).1 k

  pub all_weaker : (q : X → Bool) → ((x : X) → IsTrue (p x) → IsTrue (q x)) → (xs : List X) → IsTrue (list_all p xs) → IsTrue (list_all q xs)
  all_weaker q f [] h = refl
  all_weaker q f (x ∷ xs) h = let parts = and_parts (p x) (list_all p xs) h in and_from (q x) (list_all q xs) (f x parts.0) (all_weaker q f xs parts.1)

  pub all_filter : (test : X → Bool) (xs : List X) → IsTrue (list_all p xs) → IsTrue (list_all p (filter test xs))
  all_filter test [] h = refl
  all_filter test (x ∷ xs) h =
      let parts = and_parts (p x) (list_all p xs) h in
      elim (test x) as (λ b. IsTrue (list_all p (cond b (x ∷ filter test xs) (filter test xs)))) [
        | true ↦ and_from (p x) (list_all p (filter test xs)) parts.0 (all_filter test xs parts.1)
        | false ↦ all_filter test xs parts.1
      ]

-- ---- bytes and values

pub byte_is_value : (v : Value) → IsTrue (is_byte v) → IsTrue (is_value v)
byte_is_value (fixnum (pos n)) h = let l = ltb-true n 256 h in lt-ltb n (2 ^ 60) (omega arith)
byte_is_value (fixnum (negsuc n)) h = absurd (false≢true h)
byte_is_value nil h = refl
byte_is_value true_value h = refl
byte_is_value false_value h = refl
byte_is_value bwp h = refl
byte_is_value (object x) h = refl

pub fields_values : (kind : Kind) (fields : List Value) → IsTrue (fields_fit kind fields) → IsTrue (list_all is_value fields)
fields_values kind fields = by_bytes (has_bytes kind)
  where
    by_bytes : (b : Bool) → IsTrue (cond b (list_all is_byte fields) (list_all is_value fields)) → IsTrue (list_all is_value fields)
    by_bytes true h = all_weaker is_byte is_value byte_is_value fields h
    by_bytes false h = h

unless_outside_value : (set : List ℕ) (v : Value) → IsTrue (is_value v) → IsTrue (is_value (unless_outside set v))
unless_outside_value set v h = elim (is_outside set v) as (λ b. IsTrue (is_value (cond b bwp v))) [ true ↦ refl | false ↦ h ]

pub fields_left_fit : (set : List ℕ) (kind : Kind) (fields : List Value) → IsTrue (fields_fit kind fields) → IsTrue (fields_fit kind (fields_left set kind fields))
fields_left_fit set Weak [] h = h
fields_left_fit set Weak (car ∷ rest) h =
    let parts = and_parts (is_value car) (list_all is_value rest) h in
    and_from (is_value (unless_outside set car)) (list_all is_value rest) (unless_outside_value set car parts.0) parts.1
fields_left_fit set Eph [] h = h
fields_left_fit set Eph (key ∷ []) h = h
fields_left_fit set Eph (key ∷ value ∷ rest) h =
    elim (is_outside set key) as (λ b. IsTrue (list_all is_value (cond b (bwp ∷ bwp ∷ rest) (key ∷ value ∷ rest)))) [
      | true ↦ (and_parts (is_value value) (list_all is_value rest) (and_parts (is_value key) (list_all is_value (value ∷ rest)) h).1).1
      | false ↦ h
    ]
fields_left_fit set Pair fields h = h
fields_left_fit set Boxed fields h = h
fields_left_fit set Vector fields h = h
fields_left_fit set Bytes fields h = h
fields_left_fit set ImmVector fields h = h
fields_left_fit set ImmBytes fields h = h
fields_left_fit set Guard fields h = h
fields_left_fit set OrderedGuard fields h = h
fields_left_fit set Cell fields h = h

-- ---- kinds without bytes

-- neither a table nor an entry has bytes
pub table_has_values : (kind : Kind) → IsTrue (is_table kind) → has_bytes kind ≡ false
table_has_values Vector h = refl
table_has_values ImmVector h = refl
table_has_values Pair h = refl
table_has_values Weak h = refl
table_has_values Eph h = refl
table_has_values Boxed h = refl
table_has_values Bytes h = absurd (false≢true h)
table_has_values ImmBytes h = absurd (false≢true h)
table_has_values Guard h = refl
table_has_values OrderedGuard h = refl
table_has_values Cell h = refl

pub entry_has_values : (kind : Kind) → IsTrue (is_entry kind) → has_bytes kind ≡ false
entry_has_values Pair h = refl
entry_has_values Weak h = refl
entry_has_values Eph h = refl
entry_has_values Vector h = refl
entry_has_values ImmVector h = refl
entry_has_values Boxed h = refl
entry_has_values Bytes h = absurd (false≢true h)
entry_has_values ImmBytes h = absurd (false≢true h)
entry_has_values Guard h = refl
entry_has_values OrderedGuard h = refl
entry_has_values Cell h = refl

-- ---- ascending lines

abbrev line_of : Registration → ℕ
line_of r = r.line

lines_filter : (p : ℕ → Bool) (test : Registration → Bool) (rs : List Registration) → IsTrue (list_all p (map line_of rs)) → IsTrue (list_all p (map line_of (filter test rs)))
lines_filter p test [] h = refl
lines_filter p test (r ∷ rs) h =
    let parts = and_parts (p r.line) (list_all p (map line_of rs)) h in
    elim (test r) as (λ b. IsTrue (list_all p (map line_of (cond b (r ∷ filter test rs) (filter test rs))))) [
      | true ↦ and_from (p r.line) (list_all p (map line_of (filter test rs))) parts.0 (lines_filter p test rs parts.1)
      | false ↦ lines_filter p test rs parts.1
    ]

pub ascending_filter : (test : Registration → Bool) (rs : List Registration) → IsTrue (is_ascending (map line_of rs)) → IsTrue (is_ascending (map line_of (filter test rs)))
ascending_filter test [] h = refl
ascending_filter test (r ∷ rs) h =
    let parts = and_parts (list_all (nat_lt r.line) (map line_of rs)) (is_ascending (map line_of rs)) h in
    elim (test r) as (λ b. IsTrue (is_ascending (map line_of (cond b (r ∷ filter test rs) (filter test rs))))) [
      | true ↦ and_from (list_all (nat_lt r.line) (map line_of (filter test rs))) (is_ascending (map line_of (filter test rs))) (lines_filter (nat_lt r.line) test rs parts.0) (ascending_filter test rs parts.1)
      | false ↦ ascending_filter test rs parts.1
    ]

-- a line above all may stand last
pub ascending_last : (ns : List ℕ) (line : ℕ) → IsTrue (is_ascending ns) → AllByRecursion (λ n. n < line) ns → IsTrue (is_ascending (ns ++ line ∷ []))
ascending_last [] line h below = refl
ascending_last (n ∷ ns) line h below =
    let parts = and_parts (list_all (nat_lt n) ns) (is_ascending ns) h in
    and_from (list_all (nat_lt n) (ns ++ line ∷ [])) (is_ascending (ns ++ line ∷ []))
    (all_both (nat_lt n) ns (line ∷ []) parts.0 (and_from (nat_lt n line) true (lt-ltb n line below.0) refl))
    (ascending_last ns line parts.1 below.1)
