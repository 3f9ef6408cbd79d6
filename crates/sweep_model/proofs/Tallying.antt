-- All slots of a world are among those that are counted from its starts and registers.
use Rattle.std.proofs.Common.{◌≡◌, ℕ, zero, suc, ◌+◌, ◌<◌, cond, List, [], ◌∷◌, length, get_or, Contains, refl, sym, ap, subst, ◌∙◌, arith, inl, inr, Option, None, Some}
use Rattle.std.specs.FinMap.{FinMap, entries, find, get, get-entries, nat_cmp-IsAntisymmetric}
use Rattle.std.specs.Ordering.{eq_by_cmp, nat_cmp}
use Rattle.std.proofs.lemmas.Bool.{cases_Bool}
use Rattle.std.proofs.lemmas.List.Elements.{Contains-append_left, Contains-append_right}
use Rattle.std.proofs.lemmas.Map.Views.{tells_apart}
use Rattle.std.proofs.lemmas.Option.{none-some, same_Some}
use Rattle.gc_words.specs.declared.value.Value.{Value}
use Rattle.gc_words.specs.Word.{value_of}
use Rattle.segment.specs.Segments.{Start}
use Rattle.gc_mail.specs.declared.message.Slot.{Slot as Back}
use Rattle.gc_mail.specs.declared.message.Slot.TheVariants as back
use Rattle.owned_core.specs.declared.slot.Want.TheVariants.{Keep}
use Rattle.owned_core.specs.declared.slot.Slot.{Slot}
use Rattle.owned_core.specs.Slots.{Due}
use Rattle.owned_core.proofs.Lists.{contains_cases, contains_here, contains_none, contains_there}
use Rattle.sweep_model.specs.World.{World, asks, object_in, strong_value}
use Rattle.sweep_model.specs.Settings.{slot_among}
use Rattle.sweep_model.specs.Turns.{AreOfWorld, NamesCover, name_if, names_of, names_of_registers, names_of_starts, names_of_words}
use Rattle.sweep_model.proofs.Apt.{due_from}
use Rattle.sweep_model.proofs.Names.{collected_some, strong_word, word_in}

-- ---- entries

-- what starts at an address of a territory is one of its entries
pub entry_there : (starts : FinMap nat_cmp Start) (a : ℕ) (s : Start) → get starts a ≡ Some s
    → Contains (entries starts) (a, s)
entry_there starts a s e = go (entries starts) (sym (get-entries starts a) ∙ e)
  where
    go : (es : List (ℕ × Start)) → find nat_cmp a es ≡ Some s → Contains es (a, s)
    go [] h = absurd (none-some s h)
    go (f ∷ es) h = elim (cases_Bool (eq_by_cmp nat_cmp a f.0)) [
      | inl same ↦
          let is_key : a ≡ f.0 = tells_apart nat_cmp-IsAntisymmetric a f.0 same in
          let is_start : f.1 ≡ s =
          same_Some _ _ (sym (ap (λ b. cond b (Some f.1) (find nat_cmp a es)) same) ∙ h) in
          subst (Contains (f ∷ es)) (ap (λ z. (z, f.1)) (sym is_key) ∙ ap (λ z. (a, z)) is_start)
          (contains_here f es)
      | inr other ↦
          contains_there f es (a, s) (go es (sym (ap (λ b. cond b (Some f.1) (find nat_cmp a es)) other) ∙ h))
    ]

-- ---- what is counted

module _ (n : ℕ) where
  -- the slot at which t is wanted
  abbrev keep : Back → ℕ → Slot
  keep b t = slot_among n b Keep t

  -- the slot of what stands in it is counted
  if_named : (b : Back) (o : Option ℕ) (t : ℕ) → o ≡ Some t → Contains (name_if n b o) (keep b t)
  if_named b o t e = subst (λ z. Contains (name_if n b z) (keep b t)) (sym e) (contains_here (keep b t) [])

  -- so is that of word i of an object
  word_named : (x i index t : ℕ) (words : List ℕ) → object_in (value_of (get_or words i 0)) ≡ Some t
      → i < length words → Contains (names_of_words n x index words) (keep (back.Field (index + i) x) t)
  word_named x i index t [] e l = absurd (omega (arith, l))
  word_named x zero index t (word ∷ words) e l =
      let first : List Slot = name_if n (back.Field index x) (object_in (value_of word)) in
      let field : index ≡ index + 0 = omega arith in
      let here = if_named (back.Field index x) (object_in (value_of word)) t e in
      Contains-append_left first (names_of_words n x (index + 1) words) (keep (back.Field (index + 0) x) t)
      (subst (λ z. Contains first (keep (back.Field z x) t)) field here)
  word_named x (suc i) index t (word ∷ words) e l =
      let later : List Slot = names_of_words n x (index + 1) words in
      let field : index + 1 + i ≡ index + suc i = omega arith in
      let there = word_named x i (index + 1) t words e (omega (arith, l)) in
      Contains-append_right (name_if n (back.Field index x) (object_in (value_of word))) later
      (keep (back.Field (index + suc i) x) t)
      (subst (λ z. Contains later (keep (back.Field z x) t)) field there)

  -- what is counted of a start is counted
  start_named : (x : ℕ) (s : Start) (starts : List (ℕ × Start)) (a : Slot) → Contains starts (x, s)
      → Contains (names_of_words n x 0 s.words) a → Contains (names_of_starts n starts) a
  start_named x s [] a c h = absurd (contains_none (x, s) c)
  start_named x s (e ∷ starts) a c h =
      let first : List Slot = names_of_words n e.0 0 e.1.words in
      elim (contains_cases e starts (x, s) c) [
        | inl is ↦ Contains-append_left first (names_of_starts n starts) a
            (subst (λ (z : ℕ × Start). Contains (names_of_words n z.0 0 z.1.words) a) (sym is) h)
        | inr later ↦
            Contains-append_right first (names_of_starts n starts) a (start_named x s starts a later h)
      ]

  -- and so is a register that holds an object
  register_named : (r t : ℕ) (v : Value) (registers : List (ℕ × Value)) → Contains registers (r, v)
      → object_in (Some v) ≡ Some t → Contains (names_of_registers n registers) (keep (back.Register r) t)
  register_named r t v [] c h = absurd (contains_none (r, v) c)
  register_named r t v (e ∷ registers) c h =
      let a : Slot = keep (back.Register r) t in
      let first : List Slot = name_if n (back.Register e.0) (object_in (Some e.1)) in
      elim (contains_cases e registers (r, v) c) [
        | inl is ↦ Contains-append_left first (names_of_registers n registers) a
            (subst (λ (z : ℕ × Value). Contains (name_if n (back.Register z.0) (object_in (Some z.1))) a)
            (sym is) (if_named (back.Register r) (object_in (Some v)) t h))
        | inr later ↦
            Contains-append_right first (names_of_registers n registers) a
            (register_named r t v registers later h)
      ]

-- ---- what a world asks for

module _ (world : World) (starts : List (ℕ × Start)) (registers : List (ℕ × Value))
    (are : AreOfWorld world starts registers) where
  abbrev n : ℕ
  n = world.sweepers

  abbrev IsCounted : Back → ℕ → Type 0
  IsCounted b t = Contains (names_of n starts registers) (keep n b t)

  slot_named : (b : Back) (t : ℕ) → asks world b ≡ Some t → IsCounted b t
  slot_named (back.Register r) t e =
      held (world.registers r) refl (collected_some world (object_in (world.registers r)) t e).0
    where
      held : (o : Option Value) → world.registers r ≡ o → object_in o ≡ Some t → IsCounted (back.Register r) t
      held None is h = absurd (none-some t h)
      held (Some v) is h =
          Contains-append_right (names_of_starts n starts) (names_of_registers n registers)
          (keep n (back.Register r) t) (register_named n r t v registers (are.has_registers r v is) h)
  slot_named (back.Field i x) t e = found (world.image x) refl
      (collected_some world (object_in (strong_value (world.image x) i)) t e).0
    where
      found : (o : Option Start) → world.image x ≡ o → object_in (strong_value o i) ≡ Some t
          → IsCounted (back.Field i x) t
      found None is h = absurd (none-some t h)
      found (Some s) is h =
          let now = are.has_starts x s is in
          let words : List ℕ = now.0.words in
          let word : object_in (value_of (get_or words i 0)) ≡ Some t =
          ap (λ z. object_in (value_of z)) (now.2 i t e) ∙ strong_word s i t h in
          let there = word_named n x i 0 t words word (word_in words i t word) in
          let index : 0 + i ≡ i = omega arith in
          Contains-append_left (names_of_starts n starts) (names_of_registers n registers)
          (keep n (back.Field i x) t) (start_named n x now.0 starts (keep n (back.Field i x) t) now.1
          (subst (λ z. Contains (names_of_words n x 0 words) (keep n (back.Field z x) t)) index there))
  slot_named (back.Entry line part) t e = absurd (none-some t e)
  slot_named (back.Wait x) t e = absurd (none-some t e)
  slot_named back.Nothing t e = absurd (none-some t e)

pub names_cover : NamesCover
names_cover world w starts registers setting are d c =
    let f = due_from world w setting d c in
    subst (λ (z : Due). Contains (names_of world.sweepers starts registers) z.slot) (sym f.3)
    (slot_named world starts registers are f.0 f.1 f.2)
