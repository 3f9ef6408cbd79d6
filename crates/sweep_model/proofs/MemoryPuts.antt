-- A place put into a field or a register that asks is written there and nowhere else. The memory stays tied.
use Rattle.std.proofs.Common.{◌≡◌, ◌≢◌, ℕ, ◌<◌, true, length, set, Contains, Option, None, Some, refl, sym, ap, subst, ◌∙◌, inl, inr, arith, get_or-set_same, get_or-set_other}
use Rattle.std.proofs.lemmas.Bool.{both_ways, cases_eq}
use Rattle.std.proofs.lemmas.List.{length-set}
use Rattle.std.proofs.lemmas.Option.{none-some}
use Rattle.gc_words.specs.declared.value.Value.{Value}
use Rattle.gc_words.specs.declared.value.Value.TheVariants as value
use Rattle.gc_words.specs.Word.{value_of}
use Rattle.segment.specs.Segments.{Start}
use Rattle.gc_mail.specs.declared.message.Slot.{Slot as Back}
use Rattle.gc_mail.specs.declared.message.Slot.TheVariants as back
use Rattle.gc_mail.specs.Recipients.{owner}
use Rattle.sweep_model.specs.World.{World, asks, is_collected}
use Rattle.sweep_model.specs.Hands.{FixedAt, Hand, IsAt, IsKeptAt, IsPutAt, IsRegisterSet, Tied, field_of}
use Rattle.sweep_model.specs.Moves.{IsWritten}
use Rattle.sweep_model.proofs.Memory.{at_once, kept_again, kept_at}
use Rattle.sweep_model.proofs.Names.{HasField, field_in}

-- ---- a field

module _ (world : World) (h h' : Hand) (x p i t word q : ℕ) (tied : Tied world h)
    (mine : owner world.sweepers x ≡ h.number) (at : IsAt world h.own x p)
    (wants : asks world (back.Field i x) ≡ Some t) (is_word : value_of word ≡ Some (value.Object q))
    (put : IsPutAt h h' p i word) where
  was : HasField world x i
  was = field_in world x i t wants

  kept : IsKeptAt world h x p
  kept = kept_at world h tied x p was.start was.is mine at

  now_there : h'.now p ≡ Some (record kept.new { words = set kept.new.words i word })
  now_there = put.here kept.new kept.is

  -- the field is a word of what stands there
  inside : i < length kept.new.words
  inside = omega (arith, was.below, kept.words, ap words_in (sym was.is ∙ kept.was))
    where
      words_in : Option Start → ℕ
      words_in None = 0
      words_in (Some s) = length s.words

  -- a field that asks for nothing is another one
  other_field : (j : ℕ) → asks world (back.Field j x) ≡ None → j ≢ i
  other_field j none is = none-some t (sym none ∙ ap (λ z. asks world (back.Field z x)) is ∙ wants)

  -- what stands at p is still the object, with one word that asks changed
  put_kept : IsKeptAt world h' x p
  put_kept = record {
    old = kept.old;
    new = record kept.new { words = set kept.new.words i word };
    was = kept.was;
    is = now_there;
    kind = kept.kind;
    size = kept.size;
    birth = kept.birth;
    generation = kept.generation;
    words = length-set kept.new.words i word ∙ kept.words;
    plain = λ j none. get_or-set_other kept.new.words i j word 0 (other_field j none) ∙ kept.plain j none;
  }

  -- no other object is there
  alone_there : (y : ℕ) (s : Start) → world.image y ≡ Some s → IsAt world h.own y p → y ≡ x
  alone_there y s started there = at_once world h tied y x p s was.start started was.is there at

  -- each object is kept where it is
  kept_on : (y r : ℕ) (s : Start) → world.image y ≡ Some s → IsAt world h.own y r → IsKeptAt world h y r
      → IsKeptAt world h' y r
  kept_on y r s started there k = elim (cases_eq r p) [
    | inl e ↦
        let is : y ≡ x = alone_there y s started (subst (IsAt world h.own y) e there) in
        subst (λ z. IsKeptAt world h' z r) (sym is) (subst (IsKeptAt world h' x) (sym e) put_kept)
    | inr d ↦ kept_again world h h' y r (put.others r d) k
  ]

  -- no collected object was there
  elsewhere : (y : ℕ) (s : Start) → world.image y ≡ Some s → is_collected world y ≡ true → y ≢ p
  elsewhere y s started young is = elim at [
    | inl a ↦ both_ways (is_collected world x) a.0 (ap (is_collected world) (sym (is ∙ a.1)) ∙ young)
    | inr pair ↦ none-some s (sym (tied.fresh x p pair).0 ∙ ap world.image (sym is) ∙ started)
  ]

  -- another slot that asks has the word that it had
  still : (c : Back) (u r : ℕ) → asks world c ≡ Some u → c ≢ back.Field i x → FixedAt world h c r
      → FixedAt world h' c r
  still (back.Register n) u r asked ne f = ap (λ (g : ℕ → Option Value). g n) put.register ∙ f
  still (back.Field j y) u r asked ne f =
      let started = field_in world y j u asked in (
        f.0,
        subst (λ l. IsAt world l y f.0) (sym put.own) f.1,
        elim (cases_eq f.0 p) [
          | inl e ↦
              let yx : y ≡ x = alone_there y started.start started.is (subst (IsAt world h.own y) e f.1) in
              let ji : j ≢ i = λ d. ne (ap (λ z. back.Field j z) yx ∙ ap (λ n. back.Field n x) d) in
              ap (λ z. field_of (h'.now z) j) e ∙ ap (λ z. field_of z j) now_there
              ∙ ap value_of (get_or-set_other kept.new.words i j word 0 ji)
              ∙ sym (ap (λ z. field_of z j) kept.is) ∙ ap (λ z. field_of (h.now z) j) (sym e) ∙ f.2
          | inr d ↦ ap (λ z. field_of z j) (put.others f.0 d) ∙ f.2
        ],
      )
  still (back.Entry line part) u r asked ne f = f
  still (back.Wait y) u r asked ne f = f
  still back.Nothing u r asked ne f = f

  put_is_written : IsWritten world h h' (back.Field i x) q
  put_is_written = record {
    number = put.number;
    own = put.own;
    unswept = put.unswept;
    inbox = put.inbox;
    outbox = put.outbox;
    there = (
      p,
      subst (λ l. IsAt world l x p) (sym put.own) at,
      ap (λ z. field_of z i) now_there
          ∙ ap value_of (get_or-set_same kept.new.words i word 0 inside) ∙ is_word,
    );
    others = still;
  }

  own_before : (y r : ℕ) → Contains h'.own (y, r) → Contains h.own (y, r)
  own_before y r c = subst (λ l. Contains l (y, r)) put.own c

  -- where something stands, something stood
  stood : (b : ℕ) (v : Start) → h'.now b ≡ Some v → (s : Start) × (h.now b ≡ Some s)
  stood b v e = elim (cases_eq b p) [
    | inl is ↦ (kept.new, ap h.now is ∙ kept.is)
    | inr d ↦ (v, sym (put.others b d) ∙ e)
  ]

  put_keeps_tied : Tied world h'
  put_keeps_tied = record {
    frozen = λ y s started o young.
        put.others y (elsewhere y s started young) ∙ tied.frozen y s started (o ∙ put.number) young;
    older = λ y s started o old.
        kept_on y y s started (inl (old, refl)) (tied.older y s started (o ∙ put.number) old);
    copied = λ y r c.
        let k = tied.copied y r (own_before y r c) in
        kept_on y r k.old k.was (inr (own_before y r c)) k;
    mine = λ y r c. let m = tied.mine y r (own_before y r c) in (m.0 ∙ sym put.number, m.1);
    fresh = λ y r c. tied.fresh y r (own_before y r c);
    objects_once = rw put.own tied.objects_once;
    places_once = rw put.own tied.places_once;
    unswept_in = rw (put.own, put.unswept) tied.unswept_in;
    unswept_once = rw put.unswept tied.unswept_once;
    only = λ b v e.
        let s = stood b v e in
        let r = tied.only b s.0 s.1 in
        (r.0 ∙ sym put.number, rw put.own r.1);
    registers = λ r mine none.
        ap (λ (f : ℕ → Option Value). f r) put.register ∙ tied.registers r (mine ∙ put.number) none;
  }

  pub put_writes : IsWritten world h h' (back.Field i x) q × Tied world h'
  put_writes = (put_is_written, put_keeps_tied)

-- ---- a register

module _ (world : World) (h h' : Hand) (r t q : ℕ) (tied : Tied world h)
    (wants : asks world (back.Register r) ≡ Some t) (set : IsRegisterSet h h' r q) where
  -- another slot that asks has the word that it had
  still_set : (c : Back) (u z : ℕ) → asks world c ≡ Some u → c ≢ back.Register r → FixedAt world h c z
      → FixedAt world h' c z
  still_set (back.Register n) u z asked ne f = set.others n (λ e. ne (ap back.Register e)) ∙ f
  still_set (back.Field j y) u z asked ne f = (
    f.0,
    subst (λ l. IsAt world l y f.0) (sym set.own) f.1,
    ap (λ (g : ℕ → Option Start). field_of (g f.0) j) set.now ∙ f.2,
  )
  still_set (back.Entry line part) u z asked ne f = f
  still_set (back.Wait y) u z asked ne f = f
  still_set back.Nothing u z asked ne f = f

  set_is_written : IsWritten world h h' (back.Register r) q
  set_is_written = record {
    number = set.number;
    own = set.own;
    unswept = set.unswept;
    inbox = set.inbox;
    outbox = set.outbox;
    there = set.here;
    others = still_set;
  }

  now_same : (b : ℕ) → h'.now b ≡ h.now b
  now_same b = ap (λ (g : ℕ → Option Start). g b) set.now

  pairs_before : (y p : ℕ) → Contains h'.own (y, p) → Contains h.own (y, p)
  pairs_before y p c = subst (λ l. Contains l (y, p)) set.own c

  -- a register that asks for nothing is another one
  other_register : (n : ℕ) → asks world (back.Register n) ≡ None → n ≢ r
  other_register n none is = none-some t (sym none ∙ ap (λ z. asks world (back.Register z)) is ∙ wants)

  set_keeps_tied : Tied world h'
  set_keeps_tied = record {
    frozen = λ y s was o young. now_same y ∙ tied.frozen y s was (o ∙ set.number) young;
    older = λ y s was o old.
        kept_again world h h' y y (now_same y) (tied.older y s was (o ∙ set.number) old);
    copied = λ y p c. kept_again world h h' y p (now_same p) (tied.copied y p (pairs_before y p c));
    mine = λ y p c. let m = tied.mine y p (pairs_before y p c) in (m.0 ∙ sym set.number, m.1);
    fresh = λ y p c. tied.fresh y p (pairs_before y p c);
    objects_once = rw set.own tied.objects_once;
    places_once = rw set.own tied.places_once;
    unswept_in = rw (set.own, set.unswept) tied.unswept_in;
    unswept_once = rw set.unswept tied.unswept_once;
    only = λ b v e.
        let u = tied.only b v (sym (now_same b) ∙ e) in
        (u.0 ∙ sym set.number, rw set.own u.1);
    registers = λ n mine none. set.others n (other_register n none) ∙ tied.registers n (mine ∙ set.number) none;
  }

  pub set_writes : IsWritten world h h' (back.Register r) q × Tied world h'
  set_writes = (set_is_written, set_keeps_tied)
