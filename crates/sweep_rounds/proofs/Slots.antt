-- Slots to count: those of all words and registers that the sweepers have, with each object that starts at one.
-- More of them do no harm: each slot of the world is among them, whatever of them is written already.
use Rattle.std.proofs.Common.{◌≡◌, ℕ, zero, suc, ◌*◌, ◌/◌, ◌<◌, ◌≤◌, ◌==◌, false, true, cond, List, [], ◌∷◌, ◌++◌, map, length, Contains, IsSome, refl, sym, ◌∙◌, ap, subst, arith, inl, inr, Option, None, Some}
use Rattle.std.specs.FinMap.{entries, find, get, get-empty}
use Rattle.std.specs.Ordering.{nat_cmp}
use Rattle.std.proofs.lemmas.Bool.{both_ways, cases_Bool, cases_eq, cases_lt}
use Rattle.std.proofs.lemmas.List.{get_or_past}
use Rattle.std.proofs.lemmas.List.Elements.{Contains-append_left, Contains-append_right, Contains-get_or}
use Rattle.std.proofs.lemmas.Option.{none-some, same_Some}
use Rattle.gc_words.specs.Layout.{thread_of}
use Rattle.gc_words.specs.declared.value.Value.{Value}
use Rattle.segment.specs.Segments.{Start}
use Rattle.territory.specs.Territories.{TerritoryView, no_territory}
use Rattle.gc_mail.specs.declared.message.Slot.{Slot as Back}
use Rattle.gc_mail.specs.declared.message.Slot.TheVariants as back
use Rattle.gc_mail.specs.Recipients.{holder_of, owner}
use Rattle.owned_core.specs.declared.slot.Slot.{Slot}
use Rattle.owned_core.specs.declared.slot.Want.TheVariants.{Keep}
use Rattle.owned_core.specs.Owned.{State}
use Rattle.owned_core.specs.Ranks.{Covers, rank}
use Rattle.owned_core.specs.Settings.{Setting}
use Rattle.owned_core.specs.Slots.{Due}
use Rattle.owned_core.proofs.Lists.{contains_cases, contains_here, contains_none, contains_there, some_map}
use Rattle.owned_core.proofs.Ranks.{rank_top}
use Rattle.directory.specs.Directories.{DirectoryView}
use Rattle.sweep_model.specs.World.{World, asks, is_collected, is_young}
use Rattle.sweep_model.specs.Settings.{slot_among}
use Rattle.sweep_model.specs.Hands.{IsKeptAt}
use Rattle.sweep_model.proofs.Apt.{due_from, holder_in, owner_in}
use Rattle.sweep_model.proofs.Names.{asks_collected, field_in}
use Rattle.sweep_model.proofs.Tallying.{entry_there}
use Rattle.sweep_share.specs.Registers.{register_in}
use Rattle.sweep_share.specs.Shares.{ShareView, start_in, territory_of}
use Rattle.sweep_share.proofs.Numbers.{find_later}
use Rattle.sweeper.specs.Sweepers.{SweeperView, hand_of}
use Rattle.sweep_rounds.specs.Turns.{StandTogether, Whole, sweeper_at}
use Rattle.sweep_rounds.proofs.Turning.{IsLeft}

-- ---- what is counted

starts_of_territories : List TerritoryView → List (ℕ × Start)
starts_of_territories [] = []
starts_of_territories (t ∷ ts) = entries t.starts ++ starts_of_territories ts

starts_of : List SweeperView → List (ℕ × Start)
starts_of [] = []
starts_of (v ∷ vs) = starts_of_territories v.share.territories ++ starts_of vs

-- the first n fields of x
fields_of : ℕ → ℕ → List Back
fields_of x zero = []
fields_of x (suc n) = back.Field n x ∷ fields_of x n

fields_of_starts : List (ℕ × Start) → List Back
fields_of_starts [] = []
fields_of_starts (e ∷ es) = fields_of e.0 (length e.1.words) ++ fields_of_starts es

-- the registers of a sweeper
registers_of : List (ℕ × Value) → List Back
registers_of [] = []
registers_of (item ∷ items) = back.Register item.0 ∷ registers_of items

registers_of_all : List SweeperView → List Back
registers_of_all [] = []
registers_of_all (v ∷ vs) = registers_of v.registers.items ++ registers_of_all vs

-- each of these slots, with each of these objects
slots_of : ℕ → List (ℕ × Start) → List Back → List Slot
slots_of n starts [] = []
slots_of n starts (b ∷ bs) = map (λ (e : ℕ × Start). slot_among n b Keep e.0) starts ++ slots_of n starts bs

pub names_of : List SweeperView → List Slot
names_of vs = slots_of (length vs) (starts_of vs) (fields_of_starts (starts_of vs) ++ registers_of_all vs)

-- ---- each is among them

in_territories : (ts : List TerritoryView) (t : TerritoryView) (x : ℕ) (s : Start) → Contains ts t
    → get t.starts x ≡ Some s → Contains (starts_of_territories ts) (x, s)
unfolding starts_of_territories
in_territories [] t x s c is = absurd (contains_none t c)
in_territories (u ∷ us) t x s c is = elim (contains_cases u us t c) [
  | inl e ↦ Contains-append_left (entries u.starts) (starts_of_territories us) (x, s)
      (entry_there u.starts x s (subst (λ (z : TerritoryView). get z.starts x ≡ Some s) (sym e) is))
  | inr more ↦ Contains-append_right (entries u.starts) (starts_of_territories us) (x, s)
      (in_territories us t x s more is)
]

in_sweepers : (vs : List SweeperView) (d : SweeperView) (k x : ℕ) (s : Start) → k < length vs
    → Contains (starts_of_territories (sweeper_at vs d k).share.territories) (x, s) → Contains (starts_of vs) (x, s)
unfolding starts_of
in_sweepers [] d k x s b c = absurd (omega (arith, b))
in_sweepers (v ∷ vs) d zero x s b c =
    Contains-append_left (starts_of_territories v.share.territories) (starts_of vs) (x, s) c
in_sweepers (v ∷ vs) d (suc k) x s b c =
    Contains-append_right (starts_of_territories v.share.territories) (starts_of vs) (x, s)
    (in_sweepers vs d k x s (omega (arith, b)) c)

in_fields : (x n i : ℕ) → i < n → Contains (fields_of x n) (back.Field i x)
unfolding fields_of
in_fields x zero i b = absurd (omega (arith, b))
in_fields x (suc n) i b = elim (cases_lt i n) [
  | inl low ↦ contains_there (back.Field n x) (fields_of x n) (back.Field i x) (in_fields x n i low)
  | inr far ↦
      let same : n ≡ i = omega (arith, b, far) in
      subst (λ j. Contains (back.Field n x ∷ fields_of x n) (back.Field j x)) same
      (contains_here (back.Field n x) (fields_of x n))
]

in_fields_of_starts : (es : List (ℕ × Start)) (x i : ℕ) (s : Start) → Contains es (x, s) → i < length s.words
    → Contains (fields_of_starts es) (back.Field i x)
unfolding fields_of_starts
in_fields_of_starts [] x i s c b = absurd (contains_none (x, s) c)
in_fields_of_starts (e ∷ es) x i s c b = elim (contains_cases e es (x, s) c) [
  | inl is ↦ Contains-append_left (fields_of e.0 (length e.1.words)) (fields_of_starts es) (back.Field i x)
      (subst (λ (z : ℕ × Start). Contains (fields_of z.0 (length z.1.words)) (back.Field i x)) (sym is)
      (in_fields x (length s.words) i b))
  | inr more ↦ Contains-append_right (fields_of e.0 (length e.1.words)) (fields_of_starts es) (back.Field i x)
      (in_fields_of_starts es x i s more b)
]

in_all_registers : (vs : List SweeperView) (d : SweeperView) (k : ℕ) (b : Back) → k < length vs
    → Contains (registers_of (sweeper_at vs d k).registers.items) b → Contains (registers_of_all vs) b
unfolding registers_of_all
in_all_registers [] d k b inside c = absurd (omega (arith, inside))
in_all_registers (v ∷ vs) d zero b inside c =
    Contains-append_left (registers_of v.registers.items) (registers_of_all vs) b c
in_all_registers (v ∷ vs) d (suc k) b inside c =
    Contains-append_right (registers_of v.registers.items) (registers_of_all vs) b
    (in_all_registers vs d k b (omega (arith, inside)) c)

in_slots : (n : ℕ) (es : List (ℕ × Start)) (bs : List Back) (b : Back) (x : ℕ) (s : Start) → Contains bs b
    → Contains es (x, s) → Contains (slots_of n es bs) (slot_among n b Keep x)
unfolding slots_of
in_slots n es [] b x s c there = absurd (contains_none b c)
in_slots n es (a ∷ bs) b x s c there = elim (contains_cases a bs b c) [
  | inl same ↦
      Contains-append_left (map (λ (e : ℕ × Start). slot_among n a Keep e.0) es) (slots_of n es bs)
      (slot_among n b Keep x)
      (subst (λ z. Contains (map (λ (e : ℕ × Start). slot_among n z Keep e.0) es) (slot_among n b Keep x)) (sym same)
      (some_map (λ (e : ℕ × Start). slot_among n b Keep e.0) es (x, s) there))
  | inr more ↦
      Contains-append_right (map (λ (e : ℕ × Start). slot_among n a Keep e.0) es) (slots_of n es bs)
      (slot_among n b Keep x) (in_slots n es bs b x s more there)
]

-- ---- what a sweeper has

-- what starts in a share starts in one of its territories
started : (v : ShareView) (x : ℕ) (s : Start) → start_in v x ≡ Some s
    → Contains (starts_of_territories v.territories) (x, s)
started v x s is = elim (cases_Bool (owner v.sweepers x == v.number)) [
  | inl own ↦
      let at : get (territory_of v x).starts x ≡ Some s =
      sym (ap (λ b. cond b (get (territory_of v x).starts x) None) own) ∙ is in
      elim (cases_lt (thread_of x / v.sweepers) (length v.territories)) [
        | inl inside ↦
            in_territories v.territories (territory_of v x) x s
            (Contains-get_or v.territories (thread_of x / v.sweepers) (no_territory 0) inside) at
        | inr past ↦
            let none : territory_of v x ≡ no_territory 0 =
            get_or_past v.territories (thread_of x / v.sweepers) (no_territory 0) past in
            absurd (none-some s (sym (get-empty nat_cmp x)
            ∙ (sym (ap (λ (t : TerritoryView). get t.starts x) none) ∙ at)))
      ]
  | inr other ↦ absurd (none-some s (sym (ap (λ b. cond b (get (territory_of v x).starts x) None) other) ∙ is))
]

-- a register that is there is one of them
registered : (items : List (ℕ × Value)) (r : ℕ) → IsSome (find nat_cmp r items)
    → Contains (registers_of items) (back.Register r)
unfolding registers_of
registered [] r e = absurd (both_ways false refl e)
registered (item ∷ items) r e = elim (cases_eq r item.0) [
  | inl same ↦
      subst (λ n. Contains (back.Register item.0 ∷ registers_of items) (back.Register n)) (sym same)
      (contains_here (back.Register item.0) (registers_of items))
  | inr ne ↦
      contains_there (back.Register item.0) (registers_of items) (back.Register r)
      (registered items r (subst IsSome (find_later r item items ne) e))
]

-- ---- all slots of the world

module _ (world : World) (w : Setting) (vs : List SweeperView) (d : SweeperView) (s : State)
    (t : StandTogether world w (sweeper_at vs d) s) (count : world.sweepers ≡ length vs) where
  -- the sweeper of a start has it, with as many words
  start_there : (x : ℕ) (s : Start) → world.image x ≡ Some s
      → (now : Start) × Contains (starts_of vs) (x, now) × (length now.words ≡ length s.words)
  start_there x start was =
      let k : ℕ = owner world.sweepers x in
      let b : k < world.sweepers = owner_in world.sweepers x t.is_world.some in
      let inside : k < length vs = subst (λ m. k < m) count b in
      let v : SweeperView = sweeper_at vs d k in
      let tied = (t.stand.ready k b).tied in
      let mine : k ≡ v.share.number = sym (t.stand.numbers k b) in
      let among : (now : Start) → start_in v.share x ≡ Some now → Contains (starts_of vs) (x, now) =
      λ now is. in_sweepers vs d k x now inside (started v.share x now is) in
      elim (cases_Bool (is_collected world x)) [
        | inl young ↦ (start, among start (tied.frozen x start was mine young), refl)
        | inr old ↦
            let kept : IsKeptAt world (hand_of v) x x = tied.older x start was mine old in
            let same : kept.old ≡ start = same_Some _ _ (sym kept.was ∙ was) in
            (kept.new, among kept.new kept.is, kept.words ∙ ap (λ (z : Start). length z.words) same)
      ]

  -- the slot of one that asks is among them
  back_there : (b : Back) (u : ℕ) → asks world b ≡ Some u
      → Contains (fields_of_starts (starts_of vs) ++ registers_of_all vs) b
  back_there (back.Field i x) u wants =
      let f = field_in world x i u wants in
      let there = start_there x f.start f.is in
      let few : length there.0.words ≡ length f.start.words = there.2 in
      Contains-append_left (fields_of_starts (starts_of vs)) (registers_of_all vs) (back.Field i x)
      (in_fields_of_starts (starts_of vs) x i there.0 there.1 (omega (arith, few, f.below)))
  back_there (back.Register r) u wants =
      let k : ℕ = holder_of world.sweepers (back.Register r) in
      let b : k < world.sweepers = holder_in world.sweepers (back.Register r) t.is_world.some in
      let inside : k < length vs = subst (λ m. k < m) count b in
      let v : SweeperView = sweeper_at vs d k in
      let has : IsSome (register_in v.registers r) =
      (t.ready k b).fits.registers r u wants (sym (t.stand.numbers k b)) in
      Contains-append_right (fields_of_starts (starts_of vs)) (registers_of_all vs) (back.Register r)
      (in_all_registers vs d k (back.Register r) inside (registered v.registers.items r has))
  back_there (back.Entry line part) u wants = absurd (none-some u wants)
  back_there (back.Wait x) u wants = absurd (none-some u wants)
  back_there back.Nothing u wants = absurd (none-some u wants)

  collected_start : (u : ℕ) (o : Option Start) → world.image u ≡ o → is_collected world u ≡ true
      → (z : Start) × (world.image u ≡ Some z)
  collected_start u None is young =
      absurd (both_ways false refl (sym (ap (is_young world.targets.cg) is) ∙ young))
  collected_start u (Some z) is young = (z, is)

  -- so is each slot that may be due
  covered : Covers w (names_of vs)
  unfolding names_of
  covered due c =
      let f = due_from world w t.setting due c in
      let start = collected_start f.1 (world.image f.1) refl (asks_collected world f.0 f.1 f.2) in
      let there = start_there f.1 start.0 start.1 in
      let slot : Contains (slots_of (length vs) (starts_of vs) (fields_of_starts (starts_of vs) ++ registers_of_all vs))
      (slot_among (length vs) f.0 Keep f.1) =
      in_slots (length vs) (starts_of vs) (fields_of_starts (starts_of vs) ++ registers_of_all vs) f.0 f.1 there.0
      (back_there f.0 f.1 f.2) there.1 in
      subst (Contains (slots_of (length vs) (starts_of vs) (fields_of_starts (starts_of vs) ++ registers_of_all vs)))
      (ap (λ n. slot_among n f.0 Keep f.1) (sym count) ∙ sym (ap (λ (z : Due). z.slot) f.3)) slot

-- before the first turn no more is left to do than 7 for each of them
pub left_first : (vs : List SweeperView) (d : SweeperView) (dir : DirectoryView)
    → Whole (length vs) dir (sweeper_at vs d) → IsLeft (length vs) dir (names_of vs) 0 (sweeper_at vs d)
left_first vs d dir h = record {
  whole = h;
  covers = covered h.world h.setting vs d h.state h.together h.count;
  left =
      let most : rank (names_of vs) h.state ≤ 7 * length (names_of vs) = rank_top (names_of vs) h.state in
      omega (arith, most);
}
