-- What was asked for is what the roots of the world ask for.
use Rattle.std.proofs.Common.{◌≡◌, ℕ, suc, ◌+◌, ◌*◌, ◌/◌, ◌%◌, ◌<◌, ◌≤◌, Bool, true, false, cond, List, [], ◌∷◌, length, get_or, nat_le, slice_get, Option, None, Some, IsSome, Contains, refl, sym, ap, subst, ◌∙◌, inl, inr, arith}
use Rattle.std.specs.Prelude.{is_some}
use Rattle.std.proofs.Math.Nat.{mod-add-div}
use Rattle.std.proofs.lemmas.Bool.{cases_Bool, false≢true}
use Rattle.std.proofs.lemmas.Bool.Decides.{nat_tests}
use Rattle.std.proofs.lemmas.Nat.{div-mul-add, mod-mul-add}
use Rattle.std.proofs.lemmas.Option.{none-some, same_Some, slice_get_within}
use Rattle.std.specs.FinMap.{get}
use Rattle.gc_words.specs.declared.value.Value.{Value}
use Rattle.gc_words.specs.declared.value.Value.TheVariants as value
use Rattle.gc_words.specs.Layout.{IsAddress, thread_of}
use Rattle.gc_words.specs.Word.{value_of}
use Rattle.trace_types.specs.declared.kind.Kind.{Kind}
use Rattle.trace_types.specs.declared.kind.Kind.TheVariants as kind
use Rattle.segment.specs.Segments.{Start}
use Rattle.territory.specs.Territories.{Refers, TerritoryView, card_byte, has_values, no_territory, words_of}
use Rattle.territory.specs.Olds.{IsOld, olds_of}
use Rattle.gc_mail.specs.declared.message.Slot.{Slot}
use Rattle.gc_mail.specs.declared.message.Slot.TheVariants as back
use Rattle.gc_mail.specs.Recipients.{holder_of, owner}
use Rattle.seg_chain.proofs.Laws.{contains_of}
use Rattle.owned_core.proofs.Lists.{contains_cases, contains_none}
use Rattle.directory.proofs.Walk.{in_at}
use Rattle.directory.specs.declared.table.FromSegment.{FromSegment}
use Rattle.directory.specs.Directories.{DirectoryView, IsCollected, from_at, sweeper_count}
use Rattle.sweep_model.specs.World.{IsWorld, World, asks, if_collected, is_collected, is_strong, is_young, object_in, strong_value}
use Rattle.sweep_model.specs.Wholes.{IsRoot}
use Rattle.sweep_model.proofs.Names.{collected_some, field_in}
use Rattle.sweep_share.specs.Registers.{AreRegistersOf, item_at, register_in}
use Rattle.sweep_share.specs.Shares.{AreShareOf, ShareView, territory_at, territory_of}
use Rattle.sweep_share.proofs.Numbers.{found_at, holds}
use Rattle.sweep_share.proofs.Places.{own_start}
use Rattle.sweeper.specs.Sweepers.{asked_in, if_aside}
use Rattle.sweeper.specs.Starting.{AreTold, AsksOfOldsOfAll, AsksOfRegisters, IsBeginning, first_registers, first_share, generation_of}
use Rattle.sweeper.proofs.StrongFields.{if_there}
use Rattle.sweeper.proofs.AskedRoots.{aside_told}

-- a slot of the sweeper's own, whose root asks for t
pub record AsksAsRoot (world : World) (number : ℕ) (b : Slot) (t : ℕ) : Type 0 where
  pub wants : asks world b ≡ Some t
  pub root : IsRoot world b
  pub holder : holder_of world.sweepers b ≡ number

pub young_start : (world : World) (x : ℕ) → is_collected world x ≡ true → (s : Start)
    × (world.image x ≡ Some s)
young_start world x e = at (world.image x) refl e
  where
    at : (o : Option Start) → world.image x ≡ o → is_young world.targets.cg o ≡ true → (s : Start)
        × (world.image x ≡ Some s)
    at None is h = absurd (false≢true h)
    at (Some s) is h = (s, is)

pub some_start : (o : Option Start) → IsSome o → (s : Start) × (o ≡ Some s)
some_start None h = absurd (false≢true h)
some_start (Some s) h = (s, refl)

pub object_is : (o : Option Value) (t : ℕ) → object_in o ≡ Some t → o ≡ Some (value.Object t)
object_is None t e = absurd (none-some t e)
object_is (Some (value.Object a)) t e = ap (λ n. Some (value.Object n)) (same_Some _ _ e)
object_is (Some v) t e = absurd (none-some t e)

-- strong fields are of objects whose words are values
strong_values : (k : Kind) (i : ℕ) → is_strong k i ≡ true → has_values k ≡ true
strong_values kind.Bytes i e = absurd (false≢true e)
strong_values kind.ImmBytes i e = absurd (false≢true e)
strong_values kind.Pair i e = refl
strong_values kind.Weak i e = refl
strong_values kind.Eph i e = refl
strong_values kind.Boxed i e = refl
strong_values kind.Vector i e = refl
strong_values kind.ImmVector i e = refl
strong_values kind.Guard i e = refl
strong_values kind.OrderedGuard i e = refl
strong_values kind.Cell i e = refl

-- a strong field that refers to something
refers_in : (x : Start) (i t : ℕ) → i < length x.words → object_in (strong_value (Some x) i) ≡ Some t
    → Refers x i t
refers_in x i t below e = at (is_strong x.kind i) refl e
  where
    at : (b : Bool) → is_strong x.kind i ≡ b → object_in (cond b (value_of (get_or x.words i 0)) None)
        ≡ Some t → Refers x i t
    at true strong h = record {
      within = below;
      values = strong_values x.kind i strong;
      names = object_is _
          t h;
    }
    at false strong h = absurd (none-some t h)

index_of : (xs : List ℕ) (a : ℕ) → Contains xs a → (j : ℕ) × (slice_get xs j ≡ Some a)
index_of [] a c = absurd (contains_none a c)
index_of (x ∷ xs) a c = elim (contains_cases x xs a c) [
  | inl e ↦ (0, ap Some e)
  | inr r ↦ let n = index_of xs a r in (suc n.0, n.1)
]

thread_small : (x : ℕ) → IsAddress x → thread_of x < 64
unfolding thread_of
thread_small x h = omega (arith, h.0)

-- a generation that is collected, or is not
is_low : (g cg : ℕ) → nat_le g cg ≡ true → g ≤ cg
is_low g cg e = grind (arith, nat_tests, e)

pub is_high : (g cg : ℕ) → nat_le g cg ≡ false → cg < g
is_high g cg e = grind (arith, nat_tests, e)

pub not_low : (g cg : ℕ) → cg < g → nat_le g cg ≡ false
not_low g cg h = grind (arith, nat_tests, h)

module _ (world : World) (number : ℕ) (d : DirectoryView) (territories : List TerritoryView)
    (items : List (ℕ × Value))
    (good : IsWorld world) (begins : IsBeginning world number d territories items)
    (share : AreShareOf number (sweeper_count d) territories) where
  abbrev s : ShareView
  s = first_share number d territories

  -- what the directory tells to be collected is, where it started
  young : (t : ℕ) → IsSome (world.image t) → IsCollected d t → is_collected world t ≡ true
  young t some h = elim (cases_Bool (is_collected world t)) [
    | inl so ↦ so
    | inr not_so ↦
        let x = some_start (world.image t) some in
        absurd (false≢true (sym (ap is_some (begins.older t x.0 x.1 not_so)) ∙ told (from_at d t) h))
  ]
    where
      told : (o : Option FromSegment) → IsSome o → is_some o ≡ true
      told None e = e
      told (Some f) e = refl

  aside : (t : ℕ) → is_collected world t ≡ true → IsCollected d t
  aside t e =
      let x = young_start world t e in
      subst IsSome (sym (begins.generations t x.0 x.1 e).1) refl

  -- what is asked for, as the world tells it and as the directory does
  to_world : (o : Option ℕ) (t : ℕ) → ((b : ℕ) → o ≡ Some b → IsSome (world.image b)) → if_aside d o ≡ Some t
      → if_collected world o ≡ Some t
  to_world o t some e =
      let told = aside_told d o t e in
      ap (if_collected world) told.0 ∙ ap (λ b. cond b (Some t) None) (young t (some t told.0) told.1)

  from_world : (o : Option ℕ) (t : ℕ) → if_collected world o ≡ Some t → if_aside d o ≡ Some t
  from_world o t e =
      let c = collected_some world o t e in
      ap (if_aside d) c.0 ∙ in_aside t (aside t c.1)
    where
      in_aside : (t : ℕ) → IsCollected d t → if_aside d (Some t) ≡ Some t
      in_aside t h = told (from_at d t) h
        where
          told : (o : Option FromSegment) → IsSome o → cond (is_some o) (Some t) None ≡ Some t
          told None e = absurd (false≢true e)
          told (Some f) e = refl

  -- ---- registers

  pub register_root : (are : AreRegistersOf number (sweeper_count d) items) (b : Slot) (t : ℕ)
      → AsksOfRegisters d (first_registers number d items) (length items) b t → AsksAsRoot world number b t
  register_root are b t w =
      let r : ℕ = (item_at items w.0).0 in
      let mine : r % world.sweepers ≡ number = ap (λ n. r % n) begins.sweepers ∙ are.numbers w.0 w.1 in
      let held : register_in (first_registers number d items) r ≡ Some (item_at items w.0).1 =
      holds (first_registers number d items) w.0 (item_at items w.0) are w.1 refl in
      let there : object_in (world.registers r) ≡ Some t =
      ap object_in (sym (begins.held r mine) ∙ (held ∙ ap Some w.2.1)) in
      let wants : asks world (back.Register r) ≡ Some t =
      ap (if_collected world) there ∙ ap (λ c. cond c (Some t) None) (young t (good.held r t there) w.2.2) in
      record {
        wants = ap (asks world) w.2.0 ∙ wants;
        root = subst (IsRoot world) (sym w.2.0) tt;
        holder = ap (holder_of world.sweepers) w.2.0 ∙ mine;
      }

  pub root_register : (are : AreRegistersOf number (sweeper_count d) items) (r t : ℕ)
      → AsksAsRoot world number (back.Register r) t
      → AsksOfRegisters d (first_registers number d items) (length items) (back.Register r) t
  root_register are r t w =
      let c = collected_some world (object_in (world.registers r)) t w.wants in
      let held : object_in (register_in (first_registers number d items) r) ≡ Some t =
      ap object_in (begins.held r w.holder) ∙ c.0 in
      let f =
      found_at items r (value.Object t) (object_is (register_in (first_registers number d items) r) t held) in
      (f.0, f.1.within, (ap back.Register (sym f.1.number), f.1.value, aside t c.1))

  -- ---- fields of older objects

  in_territory : (k x : ℕ) → thread_of x ≡ number + k * sweeper_count d
      → (owner (sweeper_count d) x ≡ number) × (territory_of s x ≡ territory_at s k)
  in_territory k x e =
      let turned : thread_of x ≡ k * sweeper_count d + number = omega (arith, e) in (
        ap (λ n. n % sweeper_count d) turned ∙ mod-mul-add k (sweeper_count d) number share.number_in,
        ap (λ n. get_or territories n (no_territory 0))
            (ap (λ n. n / sweeper_count d) turned ∙ div-mul-add k (sweeper_count d) number share.number_in),
      )

  -- what started there, as its territory tells it
  pub image_is : (k x : ℕ) → thread_of x ≡ number + k * sweeper_count d
      → (owner world.sweepers x ≡ number) × (world.image x ≡ get (territory_at s k).starts x)
  image_is k x e =
      let inside = in_territory k x e in
      let own : owner world.sweepers x ≡ number = ap (λ n. owner n x) begins.sweepers ∙ inside.0 in (
        own,
        sym (begins.starts x own) ∙ (own_start s x inside.0 ∙ ap
            (λ (z : TerritoryView). get z.starts x) inside.1),
      )

  pub field_root : (told : (i : ℕ) → i < length territories → AreTold (territory_at s i) d.targets.cg)
      (b : Slot) (t : ℕ)
      → AsksOfOldsOfAll d s (length territories) b t → AsksAsRoot world number b t
  field_root told b t w =
      let k : ℕ = w.0 in
      let x : ℕ = w.2.2.0 in
      let i : ℕ = w.2.2.2.0 in
      let tells : AreTold (territory_at s k) d.targets.cg = told k w.1 in
      let c : Contains (olds_of (territory_at s k) d.targets.cg) x =
      contains_of x (olds_of (territory_at s k) d.targets.cg)
      (in_at (olds_of (territory_at s k) d.targets.cg) w.2.0 x w.2.2.1) in
      let old = tells.olds.old x c in
      let st = some_start (get (territory_at s k).starts x) old.1 in
      let is_old : IsOld (territory_at s k) d.targets.cg x st.0 =
      if_there (get (territory_at s k).starts x) (IsOld (territory_at s k) d.targets.cg x) st.0 st.1 old.0 in
      let thread : thread_of x ≡ number + k * sweeper_count d =
      (tells.addresses x st.0 st.1).1 ∙ share.threads k w.1 in
      let image = image_is k x thread in
      let asked : asked_in d (world.image x) i ≡ Some t = ap (λ o. asked_in d o i) image.1 ∙ w.2.2.2.2.1.1 in
      record {
        wants = ap (asks world) w.2.2.2.2.1.0
            ∙ to_world (object_in (strong_value (world.image x) i)) t (λ b e. good.fields x i b e) asked;
        root = subst (IsRoot world) (sym w.2.2.2.2.1.0)
            (ap (is_young world.targets.cg) (image.1 ∙ st.1)
            ∙ (ap (λ n. nat_le st.0.generation n.cg) begins.targets
            ∙ not_low st.0.generation d.targets.cg is_old.older));
        holder = ap (holder_of world.sweepers) w.2.2.2.2.1.0 ∙ image.0;
      }

  pub root_field : (told : (i : ℕ) → i < length territories → AreTold (territory_at s i) d.targets.cg)
      (x i t : ℕ)
      → AsksAsRoot world number (back.Field i x) t
      → AsksOfOldsOfAll d s (length territories) (back.Field i x) t
  root_field told x i t w =
      let f = field_in world x i t w.wants in
      let n : ℕ = sweeper_count d in
      let k : ℕ = thread_of x / n in
      let own : thread_of x % n ≡ number = ap (λ m. thread_of x % m) (sym begins.sweepers) ∙ w.holder in
      let within : k < length territories =
      share.covers (thread_of x) (thread_small x (good.addresses x f.start f.is)) own in
      let thread : thread_of x ≡ number + k * n = whole (thread_of x) n number own in
      let image : world.image x ≡ get (territory_at s k).starts x = (image_is k x thread).1 in
      let has : get (territory_at s k).starts x ≡ Some f.start = sym image ∙ f.is in
      let older : d.targets.cg < f.start.generation =
      is_high f.start.generation d.targets.cg
      (ap (λ m. nat_le f.start.generation m.cg) (sym begins.targets)
      ∙ (ap (is_young world.targets.cg) (sym f.is) ∙ w.root)) in
      let c = collected_some world (object_in (strong_value (world.image x) i)) t w.wants in
      let names : Refers f.start i t =
      refers_in f.start i t f.below (ap (λ o. object_in (strong_value o i)) (sym f.is) ∙ c.0) in
      let y = young_start world t c.1 in
      let low : y.0.generation ≤ d.targets.cg =
      is_low y.0.generation d.targets.cg
      (ap (λ m. nat_le y.0.generation m.cg) (sym begins.targets)
      ∙ (ap (is_young world.targets.cg) (sym y.1) ∙ c.1)) in
      let told_by : generation_of (world.image t) ≡ Some y.0.generation = ap generation_of y.1 in
      let card : card_byte (territory_at s k) x i ≤ y.0.generation =
      begins.cards k within x i t y.0.generation f.start has names told_by (omega (arith, low, older)) in
      let marked : card_byte (territory_at s k) x i ≤ d.targets.cg = omega (arith, card, low) in
      let old : IsOld (territory_at s k) d.targets.cg x f.start =
      (told k within).words x i f.start has older f.below marked in
      let j =
      index_of (olds_of (territory_at s k) d.targets.cg) x ((told k within).olds.all x f.start has old) in
      let below : i < length (words_of (get (territory_at s k).starts x)) =
      subst (λ o. i < length (words_of o)) (sym has) f.below in
      let asked : asked_in d (get (territory_at s k).starts x) i ≡ Some t =
      ap (λ o. asked_in d o i) (sym image) ∙ from_world
      (object_in (strong_value (world.image x) i)) t w.wants in (
        k,
        within,
        (
          j.0,
          slice_get_within (olds_of (territory_at s k) d.targets.cg) j.0 x j.1,
          (x, j.1, (i, below, (marked, (refl, asked)))),
        ),
      )
    where
      whole : (r n m : ℕ) → r % n ≡ m → r ≡ m + r / n * n
      whole r n m e = let h = mod-add-div r n in omega (arith, h, e)
