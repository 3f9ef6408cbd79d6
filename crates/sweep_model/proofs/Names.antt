-- Names of slots: two slots that ask and have one name are one.
use Rattle.std.proofs.Common.{◌≡◌, ℕ, ◌<◌, ◌≤◌, Bool, true, false, List, length, get_or, cond, refl, sym, ap, ◌∙◌, inl, inr, arith, Option, None, Some}
use Rattle.std.proofs.lemmas.Bool.{cases_lt}
use Rattle.std.proofs.lemmas.List.{get_or_past}
use Rattle.std.proofs.lemmas.Option.{none-some, same_Some}
use Rattle.gc_words.specs.Word.{value_of}
use Rattle.trace_types.specs.declared.kind.Kind.{Kind}
use Rattle.trace_types.specs.declared.kind.Kind.TheVariants as kind
use Rattle.segment.specs.Layout.{HasLength, words_after}
use Rattle.segment.specs.Segments.{Start}
use Rattle.gc_mail.specs.declared.message.Slot.{Slot as Back}
use Rattle.gc_mail.specs.declared.message.Slot.TheVariants as back
use Rattle.sweep_model.specs.World.{World, IsWorld, asks, if_collected, is_collected, is_strong, object_in, strong_value}
use Rattle.sweep_model.specs.Settings.{name_of}

-- ---- what asks for an object

-- what is asked for is what was referred to, and is collected
pub collected_some : (world : World) (o : Option ℕ) (t : ℕ) → if_collected world o ≡ Some t
    → (o ≡ Some t) × (is_collected world t ≡ true)
collected_some world None t e = absurd (none-some _ e)
collected_some world (Some s) t e = at (is_collected world s) refl
  where
    at : (b : Bool) → is_collected world s ≡ b → (Some s ≡ Some t) × (is_collected world t ≡ true)
    at true c =
        let is : s ≡ t = same_Some _ _ (sym (ap (λ z. cond z (Some s) None) c) ∙ e) in
        (ap (λ z. Some z) is, ap (is_collected world) (sym is) ∙ c)
    at false c = absurd (none-some _ (sym (ap (λ z. cond z (Some s) None) c) ∙ e))

-- what a slot asks for is collected
pub asks_collected : (world : World) (b : Back) (t : ℕ) → asks world b ≡ Some t → is_collected world t ≡ true
asks_collected world (back.Register r) t e = (collected_some world (object_in (world.registers r)) t e).1
asks_collected world (back.Field i x) t e =
    (collected_some world (object_in (strong_value (world.image x) i)) t e).1
asks_collected world (back.Entry line part) t e = absurd (none-some _ e)
asks_collected world (back.Wait x) t e = absurd (none-some _ e)
asks_collected world back.Nothing t e = absurd (none-some _ e)

-- ---- fields that ask

-- past the words nothing is referred to
no_word : (words : List ℕ) (i : ℕ) → length words ≤ i → object_in (value_of (get_or words i 0)) ≡ None
unfolding value_of
no_word words i past = ap (λ z. object_in (value_of z)) (get_or_past words i 0 past)

-- so what refers to something is a word
pub word_in : (words : List ℕ) (i t : ℕ) → object_in (value_of (get_or words i 0)) ≡ Some t → i < length words
word_in words i t e = elim (cases_lt i (length words)) [
  | inl inside ↦ inside
  | inr past ↦ absurd (none-some t (sym (no_word words i past) ∙ e))
]

-- and a strong field that does is a word that does
pub strong_word : (s : Start) (i t : ℕ) → object_in (strong_value (Some s) i) ≡ Some t
    → object_in (value_of (get_or s.words i 0)) ≡ Some t
strong_word s i t = at (is_strong s.kind i)
  where
    at : (b : Bool) → object_in (cond b (value_of (get_or s.words i 0)) None) ≡ Some t
        → object_in (value_of (get_or s.words i 0)) ≡ Some t
    at true e = e
    at false e = absurd (none-some t e)

-- an object whose field asks for something, and the word of that field
pub record HasField (world : World) (x i : ℕ) : Type 0 where
  pub start : Start
  pub is : world.image x ≡ Some start
  pub below : i < length start.words

strong_in : (world : World) (x i : ℕ) (o : Option Start) (b : ℕ) → world.image x ≡ o
    → object_in (strong_value o i) ≡ Some b
    → HasField world x i
strong_in world x i None b is e = absurd (none-some _ e)
strong_in world x i (Some s) b is e =
    record { start = s; is = is; below = word_in s.words i b (strong_word s i b e) }

-- a field that asks is a word of an object
pub field_in : (world : World) (x i t : ℕ) → asks world (back.Field i x) ≡ Some t → HasField world x i
field_in world x i t e =
    strong_in world x i (world.image x) t refl
    (collected_some world (object_in (strong_value (world.image x) i)) t e).0

-- no object has more than 4,000,000 words
words_few : (k : Kind) (n : ℕ) → HasLength k n → words_after k n ≤ 4000000
words_few kind.Pair n h = omega arith
words_few kind.Weak n h = omega arith
words_few kind.Eph n h = omega arith
words_few kind.Boxed n h = omega arith
words_few kind.Vector n h = h
words_few kind.Bytes n h = omega arith
words_few kind.ImmVector n h = h
words_few kind.ImmBytes n h = omega arith
words_few kind.Guard n h = omega arith
words_few kind.OrderedGuard n h = omega arith
words_few kind.Cell n h = omega arith

-- so its index is small
field_small : (world : World) (x i t : ℕ) → IsWorld world → asks world (back.Field i x) ≡ Some t
    → i < 8388608
field_small world x i t h e =
    let f = field_in world x i t e in
    let s = h.shaped x f.start f.is in
    let few : words_after f.start.kind f.start.length ≤ 4000000 =
    words_few f.start.kind f.start.length s.has_length in
    omega (arith, f.below, s.its_words)

-- ---- names

-- two slots that ask are one where their names are equal
pub named_once : (world : World) → IsWorld world → (b c : Back) (t u : ℕ) → asks world b ≡ Some t
    → asks world c ≡ Some u → name_of b ≡ name_of c → b ≡ c
named_once world h (back.Register r) (back.Register s) t u e f n = ap back.Register (omega (arith, n))
named_once world h (back.Register r) (back.Field j y) t u e f n = absurd (omega (arith, n))
named_once world h (back.Field i x) (back.Register s) t u e f n = absurd (omega (arith, n))
named_once world h (back.Field i x) (back.Field j y) t u e f n =
    let first : i < 8388608 = field_small world x i t h e in
    let second : j < 8388608 = field_small world y j u h f in
    let object : x ≡ y = omega (arith, n, first, second) in
    let index : i ≡ j = omega (arith, n, first, second) in
    ap (λ z. back.Field i z) object ∙ ap (λ z. back.Field z y) index
named_once world h (back.Entry line part) c t u e f n = absurd (none-some _ e)
named_once world h (back.Wait x) c t u e f n = absurd (none-some _ e)
named_once world h back.Nothing c t u e f n = absurd (none-some _ e)
named_once world h b (back.Entry line part) t u e f n = absurd (none-some _ f)
named_once world h b (back.Wait x) t u e f n = absurd (none-some _ f)
named_once world h b back.Nothing t u e f n = absurd (none-some _ f)
