-- What registers and older objects ask for, one after the other.
use Rattle.std.proofs.Common.{◌≡◌, ℕ, ◌+◌, ◌*◌, ◌<◌, ◌≤◌, cond, length, slice_index, Option, None, Some, IsSome, refl, sym, ap, subst, ◌∙◌, inl, inr, arith}
use Rattle.std.specs.Prelude.{is_some}
use Rattle.std.proofs.lemmas.Bool.{cases_lt}
use Rattle.std.proofs.lemmas.Option.{none-some, same_Some}
use Rattle.std.proofs.Math.Nat.{mul-le-mul_right}
use Rattle.std.specs.FinMap.{get}
use Rattle.gc_words.specs.declared.value.Value.{Value}
use Rattle.gc_words.specs.declared.value.Value.TheVariants as value
use Rattle.territory.specs.Territories.{TerritoryView, card_byte, words_of}
use Rattle.gc_mail.specs.declared.message.Slot.TheVariants as back
use Rattle.directory.specs.declared.table.FromSegment.{FromSegment}
use Rattle.directory.specs.Directories.{DirectoryView, IsCollected, from_at}
use Rattle.sweep_model.specs.World.{object_in, strong_value}
use Rattle.sweep_share.specs.Registers.{AreRegistersOf, RegistersView, item_at}
use Rattle.sweep_share.specs.Shares.{ShareView}
use Rattle.sweeper.specs.Sweepers.{asked_by, asked_in, if_aside}
use Rattle.sweeper.specs.declared.starting.Mail.{Mail}
use Rattle.sweeper.specs.Starting.{AreAsked, AskNothingOld, AsksAt, AsksFor, AsksOfField, AsksOfObject, AsksOfRegister, AsksOfRegisters}
use Rattle.sweeper.proofs.FieldWords.{asked_there}
use Rattle.sweeper.proofs.StrongFields.{AreCounted, after_asks_none, before_asks_none, end_within, strong_from}
use Rattle.sweeper.proofs.Asked.{asked_as, asked_first, asked_next, asked_past}

-- ---- registers

same_register : (q r : ℕ) → back.Register q ≡ back.Register r → q ≡ r
same_register q r e = cc

same_object : (v : Value) (t u : ℕ) → v ≡ value.Object t → v ≡ value.Object u → t ≡ u
same_object v t u e f = cc

pub times_apart : (k i n : ℕ) → k < i → 0 < n → k * n ≡ i * n → ⊥
times_apart k i n less some e =
    let le : k + 1 ≤ i = omega (arith, less) in
    let more : (k + 1) * n ≤ i * n = mul-le-mul_right n le in
    absurd (omega (arith, more, some, e))

-- register i was asked for
pub register_asked : (s : ShareView) (m m' m'' : Mail) (d : DirectoryView) (r : RegistersView)
    (i number target : ℕ)
    → AreRegistersOf r.number r.sweepers r.items → i < length r.items → AreAsked s m m' (AsksOfRegisters d r i)
    → number ≡ (item_at r.items i).0 → (item_at r.items i).1 ≡ value.Object target
    → AreAsked s m' m'' (AsksFor d (back.Register number) target) → AreAsked s m m'' (AsksOfRegisters d r (i + 1))
register_asked s m m' m'' d r i number target are within a is holds asked =
    asked_next s m m' m'' (AsksOfRegister d r) i a
    (asked_as s m' m'' (AsksFor d (back.Register number) target) (AsksOfRegister d r i) asked
    (λ b t w. (w.0 ∙ ap (λ n. back.Register n) is, holds ∙ ap (λ n. value.Object n) (sym w.1), w.2))
    (λ b t w. (w.0 ∙ ap (λ n. back.Register n) (sym is), same_object _ t target w.1 holds, w.2)))
    (λ k b t u less w w'. apart k less (same_register _ _ (sym w.0 ∙ w'.0)))
  where
    apart : (k : ℕ) → k < i → (item_at r.items k).0 ≡ (item_at r.items i).0 → ⊥
    apart k less e = let up = are.ascend k i less within in absurd (omega (arith, up, e))

-- a register that holds no object asks for nothing
pub register_past : (s : ShareView) (m m' : Mail) (d : DirectoryView) (r : RegistersView) (i : ℕ)
    → AreAsked s m m' (AsksOfRegisters d r i) → ((t : ℕ) → (item_at r.items i).1 ≡ value.Object t → ⊥)
    → AreAsked s m m' (AsksOfRegisters d r (i + 1))
register_past s m m' d r i a none =
    asked_past s m m' (AsksOfRegister d r) i (i + 1) (omega arith) a
    (λ k b t low high w.
    let e : k ≡ i = omega (arith, low, high) in
    none t (ap (λ n. (item_at r.items n).1) (sym e) ∙ w.1))

-- ---- fields

pub same_field : (x y i j : ℕ) → back.Field i x ≡ back.Field j y → (x ≡ y) × (i ≡ j)
same_field x y i j e = (cc, cc)

pub aside_told : (d : DirectoryView) (o : Option ℕ) (t : ℕ) → if_aside d o ≡ Some t → (o ≡ Some t)
    × IsCollected d t
aside_told d None t e = absurd (none-some t e)
aside_told d (Some u) t e = at (from_at d u) refl e
  where
    at : (o : Option FromSegment) → from_at d u ≡ o → cond (is_some o) (Some u) None ≡ Some t
        → (Some u ≡ Some t) × IsCollected d t
    at None is h = absurd (none-some t h)
    at (Some f) is h = (h, subst (λ n. IsSome (from_at d n)) (same_Some _ _ h) (subst IsSome (sym is) refl))

-- what a field asks for is asked of its owner
pub field_one : (s : ShareView) (m m' : Mail) (d : DirectoryView) (t : TerritoryView) (x i target : ℕ)
    → asked_in d (get t.starts x) i ≡ Some target → AreAsked s m m' (AsksFor d (back.Field i x) target)
    → AreAsked s m m' (AsksAt d t x i)
field_one s m m' d t x i target is asked =
    asked_as s m m' (AsksFor d (back.Field i x) target) (AsksAt d t x i) asked
    (λ b u w. (w.0, is ∙ ap Some (sym w.1)))
    (λ b u w. (w.0, same_Some _ _ (sym w.1 ∙ is), (aside_told d (object_in (strong_value (get t.starts x) i)) u w.1).1))

-- ---- the fields of an object

-- those that ask for nothing, or stand under other cards, are passed
pub fields_past : (s : ShareView) (m m' : Mail) (d : DirectoryView) (t : TerritoryView) (x from to : ℕ) → from ≤ to
    → AreAsked s m m' (AsksOfObject d t x from)
    → ((i : ℕ) → from ≤ i → i < to → card_byte t x i ≤ d.targets.cg → asked_in d (get t.starts x) i ≡ None)
    → AreAsked s m m' (AsksOfObject d t x to)
fields_past s m m' d t x from to le a none =
    asked_past s m m' (AsksOfField d t x) from to le a
    (λ k b u low high w. none-some u (sym (none k low high w.0) ∙ w.1.1))

-- one under a marked card was asked for
pub field_asked : (s : ShareView) (m m' m'' : Mail) (d : DirectoryView) (t : TerritoryView) (x i : ℕ)
    → AreAsked s m m' (AsksOfObject d t x i) → card_byte t x i ≤ d.targets.cg → AreAsked s m' m'' (AsksAt d t x i)
    → AreAsked s m m'' (AsksOfObject d t x (i + 1))
field_asked s m m' m'' d t x i a marked asked =
    asked_next s m m' m'' (AsksOfField d t x) i a
    (asked_as s m' m'' (AsksAt d t x i) (AsksOfField d t x i) asked (λ b u w. (marked, w)) (λ b u w. w.1))
    (λ k b u v less w w'.
    let e : k ≡ i = (same_field x x k i (sym w.1.0 ∙ w'.1.0)).1 in
    absurd (omega (arith, less, e)))

-- the strong fields of an older object
module _ (s : ShareView) (m m' : Mail) (d : DirectoryView) (t : TerritoryView) (x first end : ℕ)
    (c : AreCounted (get t.starts x) first end) where
  -- before them nothing is asked for
  pub fields_first : AreAsked s m m (AsksOfObject d t x first)
  fields_first =
      fields_past s m m d t x 0 first (omega arith) (asked_first s m (AsksOfField d t x))
      (λ i low high card. before_asks_none d (get t.starts x) first end c i high)

  -- of these words none asks
  words_none : (from to : ℕ) → first ≤ from → to ≤ end → AskNothingOld d t x from to → (i : ℕ) → from ≤ i → i < to
      → card_byte t x i ≤ d.targets.cg → asked_in d (get t.starts x) i ≡ None
  words_none from to a b none i low high card =
      asked_there d (get t.starts x) from end (end_within d (get t.starts x) first end c)
      (strong_from d (get t.starts x) first end c from a) i low (omega (arith, b, high)) ∙ none i low high card

  -- the next one that asks
  pub field_next : (m'' : Mail) (from i target : ℕ) → first ≤ from → from ≤ i → i < end
      → AreAsked s m m' (AsksOfObject d t x from) → AskNothingOld d t x from i → card_byte t x i ≤ d.targets.cg
      → asked_by d (slice_index (words_of (get t.starts x)) i) ≡ Some target
      → AreAsked s m' m'' (AsksFor d (back.Field i x) target) → AreAsked s m m'' (AsksOfObject d t x (i + 1))
  field_next m'' from i target a low high before none marked is asked =
      field_asked s m m' m'' d t x i
      (fields_past s m m' d t x from i low before (words_none from i a (omega (arith, high)) none)) marked
      (field_one s m' m'' d t x i target
      (asked_there d (get t.starts x) from end (end_within d (get t.starts x) first end c)
      (strong_from d (get t.starts x) first end c from a) i low high ∙ is) asked)

  -- after the last of them nothing is asked for
  pub fields_done : (from : ℕ) → first ≤ from → from ≤ end → AreAsked s m m' (AsksOfObject d t x from)
      → AskNothingOld d t x from end → AreAsked s m m' (AsksOfObject d t x (length (words_of (get t.starts x))))
  fields_done from a b before none =
      let n : ℕ = length (words_of (get t.starts x)) in
      let within : end ≤ length (words_of (get t.starts x)) = end_within d (get t.starts x) first end c in
      fields_past s m m' d t x from n (omega (arith, b, within)) before
      (λ i low high card. elim (cases_lt i end) [
        | inl h ↦ words_none from end a (omega arith) none i low h card
        | inr h ↦ after_asks_none d (get t.starts x) first end c i h high
      ])
