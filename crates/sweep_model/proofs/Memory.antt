-- What a sweeper's memory has: its places apart, and the parts of `Tied` that do not change.
use Rattle.std.proofs.Common.{◌≡◌, ◌≢◌, ℕ, suc, ◌<◌, List, [], ◌∷◌, ◌++◌, length, Contains, Some, refl, sym, ap, subst, ◌∙◌, inl, inr, arith}
use Rattle.std.proofs.lemmas.Bool.{both_ways, cases_Bool}
use Rattle.std.proofs.lemmas.List.{get_or_append_left, get_or_push, length_push}
use Rattle.std.proofs.lemmas.List.Elements.{Contains-append_left}
use Rattle.std.proofs.lemmas.Option.{none-some}
use Rattle.segment.specs.Segments.{Start}
use Rattle.gc_mail.specs.declared.message.Message.{Message}
use Rattle.gc_mail.specs.Recipients.{owner}
use Rattle.owned_core.proofs.Lists.{contains_cases, contains_none}
use Rattle.sweep_model.specs.World.{World, is_collected}
use Rattle.sweep_model.specs.Hands.{Hand, IsAt, IsKeptAt, Tied, forwarded_at, object_of, with_unswept}
use Rattle.sweep_model.specs.Moves.{SweepKeepsTied}

-- ---- places apart

abbrev pub place_of : ℕ × ℕ → ℕ
place_of f = f.1

-- where a pair lies in the list
pub index_some : (own : List (ℕ × ℕ)) (f : ℕ × ℕ) → Contains own f
    → (n : ℕ) × (n < length own) × (forwarded_at own n ≡ f)
index_some [] f c = absurd (contains_none f c)
index_some (g ∷ own) f c = elim (contains_cases g own f c) [
  | inl e ↦ (0, omega arith, e)
  | inr r ↦ let s = index_some own f r in (suc s.0, omega (arith, s.1), s.2)
]

-- at one place is one copy
pub same_object : (world : World) (h : Hand) → Tied world h → (x y p : ℕ)
    → Contains h.own (x, p) → Contains h.own (y, p) → x ≡ y
same_object world h tied x y p a b =
    let i = index_some h.own (x, p) a in
    let j = index_some h.own (y, p) b in
    let e : i.0 ≡ j.0 = tied.places_once i.0 j.0 i.1 j.1 (ap place_of i.2 ∙ sym (ap place_of j.2)) in
    sym (ap object_of i.2) ∙ ap (λ n. (forwarded_at h.own n).0) e ∙ ap object_of j.2

-- one object has one pair
same_place : (world : World) (h : Hand) → Tied world h → (x p q : ℕ) → Contains h.own (x, p)
    → Contains h.own (x, q) → p ≡ q
same_place world h tied x p q a b =
    let i = index_some h.own (x, p) a in
    let j = index_some h.own (x, q) b in
    let e : i.0 ≡ j.0 = tied.objects_once i.0 j.0 i.1 j.1 (ap object_of i.2 ∙ sym (ap object_of j.2)) in
    sym (ap place_of i.2) ∙ ap (λ n. (forwarded_at h.own n).1) e ∙ ap place_of j.2

-- an object is at one place
pub one_place : (world : World) (h : Hand) → Tied world h → (x p q : ℕ) → IsAt world h.own x p
    → IsAt world h.own x q → p ≡ q
one_place world h tied x p q (inl a) (inl b) = a.1 ∙ sym b.1
one_place world h tied x p q (inl a) (inr b) =
    absurd (both_ways (is_collected world x) a.0 (tied.mine x q b).1)
one_place world h tied x p q (inr a) (inl b) =
    absurd (both_ways (is_collected world x) b.0 (tied.mine x p a).1)
one_place world h tied x p q (inr a) (inr b) = same_place world h tied x p q a b

-- what started somewhere in the sweeper's territories still stands there
pub still_there : (world : World) (h : Hand) → Tied world h → (x : ℕ) (s : Start) → world.image x ≡ Some s
    → owner world.sweepers x ≡ h.number → (y : Start) × (h.now x ≡ Some y)
still_there world h tied x s was mine = elim (cases_Bool (is_collected world x)) [
  | inl e ↦ (s, tied.frozen x s was mine e)
  | inr e ↦ let k = tied.older x s was mine e in (k.new, k.is)
]

-- what stands where an object is
pub kept_at : (world : World) (h : Hand) → Tied world h → (x p : ℕ) (s : Start) → world.image x ≡ Some s
    → owner world.sweepers x ≡ h.number → IsAt world h.own x p → IsKeptAt world h x p
kept_at world h tied x p s was mine (inl stays) =
    subst (IsKeptAt world h x) (sym stays.1) (tied.older x s was mine stays.0)
kept_at world h tied x p s was mine (inr pair) = tied.copied x p pair

-- Where an object is, no other one is: copies lie where nothing started.
pub at_once : (world : World) (h : Hand) → Tied world h → (x y p : ℕ) (s t : Start)
    → world.image x ≡ Some s → world.image y ≡ Some t → IsAt world h.own x p → IsAt world h.own y p → x ≡ y
at_once world h tied x y p s t was_x was_y (inl a) (inl b) = sym a.1 ∙ b.1
at_once world h tied x y p s t was_x was_y (inl a) (inr pair) =
    absurd (none-some s (sym (tied.fresh y p pair).0 ∙ ap world.image a.1 ∙ was_x))
at_once world h tied x y p s t was_x was_y (inr pair) (inl b) =
    absurd (none-some t (sym (tied.fresh x p pair).0 ∙ ap world.image b.1 ∙ was_y))
at_once world h tied x y p s t was_x was_y (inr a) (inr b) = same_object world h tied x y p a b

-- ---- what is unswept

-- no two pairs of the list are of one object
abbrev pub AreOnce : List (ℕ × ℕ) → Type 0
AreOnce own = (m n : ℕ) → m < length own → n < length own → (forwarded_at own m).0 ≡ (forwarded_at own n).0
    → m ≡ n

-- nor are any without the last one
front_once : (rest : List (ℕ × ℕ)) (f : ℕ × ℕ) → AreOnce (rest ++ f ∷ []) → AreOnce rest
front_once rest f once m n a b e =
    once m n (omega (arith, a, length_push rest f)) (omega (arith, b, length_push rest f))
    (ap object_of (get_or_append_left rest (f ∷ []) (0, 0) m a) ∙ e
    ∙ sym (ap object_of (get_or_append_left rest (f ∷ []) (0, 0) n b)))

-- and the last one is of another object than each before it
pub last_differs : (rest : List (ℕ × ℕ)) (f g : ℕ × ℕ) → AreOnce (rest ++ f ∷ []) → Contains rest g
    → g.0 ≢ f.0
last_differs rest f g once c e =
    let i = index_some rest g c in
    let same : i.0 ≡ length rest =
    once i.0 (length rest) (omega (arith, i.1, length_push rest f)) (omega (arith, length_push rest f))
    (ap object_of (get_or_append_left rest (f ∷ []) (0, 0) i.0 i.1 ∙ i.2) ∙ e
    ∙ sym (ap object_of (get_or_push rest f (0, 0) (length rest) refl))) in
    absurd (omega (arith, i.1, same))

-- what is unswept after a sweep was so before it
pub still_unswept : (h : Hand) (rest : List (ℕ × ℕ)) (f g : ℕ × ℕ) → h.unswept ≡ rest ++ f ∷ []
    → Contains rest g → Contains h.unswept g
still_unswept h rest f g last c =
    subst (λ l. Contains l g) (sym last) (Contains-append_left rest (f ∷ []) g c)

-- ---- what does not change

-- what stands at p is as it was
pub kept_again : (world : World) (h h' : Hand) (x p : ℕ) → h'.now p ≡ h.now p
    → IsKeptAt world h x p → IsKeptAt world h' x p
kept_again world h h' x p same k = record {
  old = k.old;
  new = k.new;
  was = k.was;
  is = same ∙ k.is;
  kind = k.kind;
  size = k.size;
  birth = k.birth;
  generation = k.generation;
  words = k.words;
  plain = k.plain;
}

-- other mail
pub mail_keeps_tied : (world : World) (h : Hand) (inbox outbox : List Message) → Tied world h
    → Tied world (record h { inbox = inbox; outbox = outbox })
mail_keeps_tied world h inbox outbox tied =
    let h' : Hand = record h { inbox = inbox; outbox = outbox } in
    record {
      frozen = tied.frozen;
      older = λ x s was mine e. kept_again world h h' x x refl (tied.older x s was mine e);
      copied = λ x p c. kept_again world h h' x p refl (tied.copied x p c);
      mine = tied.mine;
      fresh = tied.fresh;
      objects_once = tied.objects_once;
      places_once = tied.places_once;
      unswept_in = tied.unswept_in;
      unswept_once = tied.unswept_once;
      only = tied.only;
      registers = tied.registers;
    }

-- the last unswept object is swept
pub sweep_keeps_tied : SweepKeepsTied
sweep_keeps_tied world h rest x p tied last = record {
  frozen = tied.frozen;
  older = λ y s was mine e. kept_again world h (with_unswept h rest) y y refl (tied.older y s was mine e);
  copied = λ y q c. kept_again world h (with_unswept h rest) y q refl (tied.copied y q c);
  mine = tied.mine;
  fresh = tied.fresh;
  objects_once = tied.objects_once;
  places_once = tied.places_once;
  unswept_in = λ y q c. tied.unswept_in y q (still_unswept h rest (x, p) (y, q) last c);
  unswept_once = front_once rest (x, p) (subst AreOnce last tied.unswept_once);
  only = tied.only;
  registers = tied.registers;
}
