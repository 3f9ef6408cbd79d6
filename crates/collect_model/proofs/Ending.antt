-- What the sweepers have in the end is what is left of the kept starts and of the registers.
use Rattle.std.proofs.Common.{◌≡◌, ℕ, ◌<◌, ◌%◌, List, length, get_or, option_map, slice_get, IsSome, IsTrue, Option, None, Some, sym, ◌∙◌, ap, subst, arith, refl}
use Rattle.std.proofs.lemmas.Option.{same_Some, slice_get-get_or}
use Rattle.gc_words.specs.declared.value.Value.{Value}
use Rattle.gc_words.specs.declared.value.Value.TheVariants as word
use Rattle.trace_types.specs.States.{State}
use Rattle.trace_types.specs.Rules.{has, least}
use Rattle.segment.specs.Segments.{Start}
use Rattle.territory.specs.declared.territory.Targets.{Targets}
use Rattle.gc_mail.specs.declared.message.Slot.TheVariants as back
use Rattle.gc_mail.specs.Recipients.{holder_of}
use Rattle.owned_core.specs.Settings.{Setting, rules_of}
use Rattle.sweep_model.specs.World.{IsWorld, World, asks, if_collected, object_in}
use Rattle.sweep_model.specs.Hands.{Hand}
use Rattle.sweep_model.proofs.Apt.{holder_in}
use Rattle.sweep_model.proofs.Names.{collected_some}
use Rattle.heap_store.specs.Starts.{Starts}
use Rattle.heap_store.specs.HeapView.{HeapView, starts_of}
use Rattle.heap_store.specs.Plain.{IsPlain}
use Rattle.heap_store.specs.Stands.{Stands}
use Rattle.collect_model.specs.Worlds.{HasEnded, KeepsOthers, arguments_of, world_of}
use Rattle.collect_model.proofs.Left.{AreLeft, AreRegistersLeft, IsLeft, IsLeftOf, WasKept}
use Rattle.collect_model.proofs.PlainKinds.{all_left}
use Rattle.collect_model.proofs.Fields.{again}
use Rattle.collect_model.proofs.References.{object_only, only_object}
use Rattle.collect_model.proofs.Landing.{Lands, landed, lands_once, lands_reached, reached_lands, same_thread}
use Rattle.collect_model.proofs.Rereading.{ReadsAs, reads_again, value_there, values_again}

-- the set `set` of births is what the rules reach
abbrev pub IsReached : HeapView → Targets → ℕ → Setting → List ℕ → Type 0
IsReached h targets n w set =
    (p : ℕ) (x : Start) → starts_of h p ≡ Some x → has set x.birth ≡ has (least (rules_of w)) p

module _ (h : HeapView) (s : State) (targets : Targets) (n : ℕ) (hands : ℕ → Hand) (g : Starts)
    (registers : List Value) (stands : Stands h s) (plain : IsPlain h)
    (is_world : IsWorld (world_of h targets n)) (ended : HasEnded (world_of h targets n) hands g registers)
    (set : List ℕ) (reached : IsReached h targets n ended.setting set) where
  abbrev world : World
  world = world_of h targets n

  -- ---- starts

  -- what lands is what is left of what was there
  left_of : (x p : ℕ) (l : Lands world hands g x p)
      → IsLeftOf set (arguments_of targets) (starts_of h) g x l.kept.old p l.kept.new
  left_of x p l =
      let is = plain.kinds x l.kept.old l.kept.was in
      let a = again world hands g registers is_world ended x p l is
      (stands.closed.laid_out x l.kept.old l.kept.was) in
      record {
        kind = l.kept.kind;
        birth = l.kept.birth;
        generation = l.kept.generation;
        thread = same_thread world hands g registers is_world ended x p l;
        fields = a.fields ∙ sym (all_left set l.kept.old.kind _ is);
        laid_out = a.laid_out;
      }

  to : (x : ℕ) (y : Start) → starts_of h x ≡ Some y → IsTrue (has set y.birth)
      → IsLeft set (arguments_of targets) (starts_of h) g x y
  to x y there kept =
      let r = reached_lands world hands g registers is_world ended x y there
      (sym (reached x y there) ∙ kept) in
      let same : r.1.kept.old ≡ y = same_Some _ _ (sym r.1.kept.was ∙ there) in
      record {
        place = r.0;
        start = r.1.kept.new;
        here = r.1.here;
        left = subst (λ z. IsLeftOf set (arguments_of targets) (starts_of h) g x z r.0 r.1.kept.new) same
            (left_of x r.0 r.1);
      }

  from : (q : ℕ) (y : Start) → g q ≡ Some y → WasKept set (arguments_of targets) (starts_of h) g q y
  from q y here =
      let r = landed world hands g registers is_world ended q y here in
      let same : r.1.kept.new ≡ y = same_Some _ _ (sym r.1.here ∙ here) in
      record {
        place = r.0;
        start = r.1.kept.old;
        there = r.1.kept.was;
        kept = reached r.0 r.1.kept.old r.1.kept.was
            ∙ lands_reached world hands g registers is_world ended r.0 q r.1;
        left = subst (IsLeftOf set (arguments_of targets) (starts_of h) g r.0 r.1.kept.old q) same
            (left_of r.0 q r.1);
      }

  -- the birth of what stands at q is that of what landed there
  birth_landed : (x q : ℕ) (y : Start) (l : Lands world hands g x q) → g q ≡ Some y
      → l.kept.old.birth ≡ y.birth
  birth_landed x q y l here =
      sym l.kept.birth ∙ ap (λ (z : Start). z.birth) (same_Some _ _ (sym l.here ∙ here))

  once : (q r : ℕ) (y z : Start) → g q ≡ Some y → g r ≡ Some z → y.birth ≡ z.birth → q ≡ r
  once q r y z here_q here_r same =
      let a = landed world hands g registers is_world ended q y here_q in
      let b = landed world hands g registers is_world ended r z here_r in
      let births : a.1.kept.old.birth ≡ b.1.kept.old.birth =
      birth_landed a.0 q y a.1 here_q ∙ same ∙ sym (birth_landed b.0 r z b.1 here_r) in
      let object : a.0 ≡ b.0 =
      stands.closed.single a.0 b.0 a.1.kept.old b.1.kept.old a.1.kept.was b.1.kept.was births in
      lands_once world hands g registers is_world ended b.0 q r
      (subst (λ x. Lands world hands g x q) object a.1) b.1

  -- all that starts in the end
  pub starts_left : AreLeft set (arguments_of targets) (starts_of h) g
  starts_left = record { to = to; from = from; once = once }

  -- ---- registers

  -- what a register that held an object holds in the end, its sweeper holds
  held_by : (r t : ℕ) → object_in (slice_get h.registers r) ≡ Some t → r < length registers
      → slice_get registers r ≡ (hands (r % n)).register r
  held_by r t names below =
      let is = slice_get-get_or registers r word.Nil below in
      let some : IsSome (world.registers r) = subst IsSome (ap (option_map word.Object) (sym names)) refl in
      is ∙ sym (ended.registers r (get_or registers r word.Nil) some is)

  -- one that asks for nothing holds what it held
  same_again : KeepsOthers h.registers registers → (r : ℕ) → r < length registers
      → asks world (back.Register r) ≡ None → slice_get registers r ≡ slice_get h.registers r
  same_again others r inside none = at (object_in (slice_get h.registers r)) refl
    where
      at : (o : Option ℕ) → object_in (slice_get h.registers r) ≡ o
          → slice_get registers r ≡ slice_get h.registers r
      at None is = others r is
      at (Some t) is =
          let k : ℕ = holder_of n (back.Register r) in
          let less : k < n = holder_in n (back.Register r) is_world.some in
          held_by r t is inside
          ∙ ((ended.tied k less).registers r (sym (ended.numbers k less)) none
          ∙ only_object (slice_get h.registers r) t is)

  register_again : KeepsOthers h.registers registers → (r : ℕ) → r < length h.registers → r < length registers
      → ReadsAs (starts_of h) g (slice_get h.registers r) (slice_get registers r)
  register_again others r below inside =
      let only = object_only (slice_get h.registers r) in
      reads_again world hands g registers is_world ended
      (slice_get h.registers r) (slice_get registers r) (asks world (back.Register r))
      (value_there (starts_of h) h.registers stands.registers.there r below)
      (ap (if_collected world) (sym only))
      (same_again others r inside)
      (λ t wants.
      let d = ended.done.registers r t wants in
      let names = sym only ∙ (collected_some world (object_in (world.registers r)) t wants).0 in
      (d.0, d.1, held_by r t names inside ∙ d.2))

  -- and all that registers hold
  pub registers_left : KeepsOthers h.registers registers → length registers ≡ length h.registers
      → AreRegistersLeft (starts_of h) g h.registers registers
  registers_left others count =
      let r = values_again (starts_of h) g h.registers registers count
      (λ i below. register_again others i below (omega arith)) in
      record { there = r.0; reads = r.1 }
