-- What keeping an object and putting a place do to a sweeper.
use Rattle.std.proofs.Common.{◌≡◌, ℕ, ◌+◌, ◌^◌, ◌<◌, ◌≤◌, Bool, true, false, [], ◌∷◌, ◌++◌, length, Option, None, Some, IsSome, IsTrue, refl, sym, ap, subst, ◌∙◌, inl, inr, arith, length-append}
use Rattle.std.specs.Prelude.{is_some}
use Rattle.std.proofs.lemmas.Bool.{false≢true}
use Rattle.std.proofs.lemmas.Bool.Decides.{nat_tests}
use Rattle.std.proofs.lemmas.Option.{same_Some}
use Rattle.gc_words.specs.declared.value.Value.TheVariants as value
use Rattle.gc_words.specs.Word.{value_of}
use Rattle.segment.specs.Segments.{Start}
use Rattle.territory.specs.declared.territory.Targets.{Targets}
use Rattle.territory.specs.Territories.{TellsLower}
use Rattle.territory.specs.Copies.{RefersToNoneBelow, copy_in}
use Rattle.directory.specs.declared.table.FromSegment.{FromSegment}
use Rattle.territory.specs.Finishing.{target_of}
use Rattle.directory.specs.Directories.{from_at}
use Rattle.sweep_model.specs.World.{goes_to}
use Rattle.sweep_model.specs.Hands.{IsAbsent}
use Rattle.sweep_model.proofs.Memory.{index_some}
use Rattle.sweep_share.specs.Shares.{IsAlike, IsCopied, IsPut, ShareView, start_in}
use Rattle.sweep_places.specs.Places.{PlacesView}
use Rattle.sweeper.specs.Sweepers.{CanKeep, Copies, GoesTo, HasField, IsJoined, Puts, SweeperView}

-- a collected generation goes to its target
pub goes_target : (targets : Targets) (g : ℕ) → g ≤ targets.cg → goes_to targets g ≡ target_of targets g
goes_target targets g h = grind (arith, nat_tests)

-- the parts are of one sweeper still
pub joined_share : (v : SweeperView) (share : ShareView) → IsJoined v → IsAlike v.share share → IsJoined (record v { share = share })
joined_share v share j a = record {
  places = j.places ∙ sym a.number;
  registers = j.registers ∙ sym a.number;
  count = j.count ∙ sym a.sweepers;
  register_count = j.register_count ∙ sym a.sweepers;
}

module _ (v : SweeperView) (x q generation : ℕ) (share : ShareView) (places : PlacesView) (c : CanKeep v x)
    (to : GoesTo v x generation) (copied : IsCopied v.share share x generation q)
    (noted : places ≡ record v.places { own = v.places.own ++ (x, q) ∷ []; unswept = v.places.unswept ++ (x, q) ∷ [] })
    (few : length v.places.own + 1 < 2 ^ 64) (absent : IsAbsent v.places.own x) where
  goes : (s : Start) → start_in v.share x ≡ Some s → generation ≡ goes_to v.places.directory.targets s.generation
  goes s e =
      let young : s.generation ≤ v.places.directory.targets.cg =
      subst (λ (z : Start). z.generation ≤ v.places.directory.targets.cg) (same_Some _ _ (sym c.here ∙ e)) c.young in
      to s e ∙ sym (goes_target v.places.directory.targets s.generation young)

  -- the object at x was copied to q
  pub copies : Copies v (record v { share = share; places = places }) x q
  copies = record {
    steady = record {
      alike = copied.alike;
      number = ap (λ (z : PlacesView). z.number) noted;
      directory = ap (λ (z : PlacesView). z.directory) noted;
      registers = refl;
      register_count = refl;
      round = refl;
      ran_out = refl;
    };
    copied = record {
      number = copied.alike.number;
      own = ap (λ (z : PlacesView). z.own) noted;
      unswept = ap (λ (z : PlacesView). z.unswept) noted;
      register = refl;
      inbox = refl;
      outbox = refl;
      absent = absent;
      free = copied.free;
      thread = copied.thread;
      here = λ y e. copied.here y e ∙ ap (λ n. Some (copy_in n y)) (goes y e);
      others = copied.others;
    };
    few = omega (arith, few, ap (λ (z : PlacesView). length z.own) noted, length-append v.places.own ((x, q) ∷ []));
    stays = copied.stays;
    sound = λ told s e none. copied.sound told s e (subst (RefersToNoneBelow told s) (sym (to s e)) none);
  }

-- the same, where the fields show the value
pub copies_shown : (s v : SweeperView) (x q generation : ℕ) (share : ShareView) (places : PlacesView) → s ≡ v
    → CanKeep v x → GoesTo v x generation → IsCopied s.share share x generation q
    → places ≡ record s.places { own = s.places.own ++ (x, q) ∷ []; unswept = s.places.unswept ++ (x, q) ∷ [] }
    → length s.places.own + 1 < 2 ^ 64 → IsAbsent v.places.own x
    → Copies v (record s { share = share; places = places }) x q
copies_shown s v x q generation share places e c goes copied noted few absent =
    subst (λ z. Copies v (record z { share = share; places = places }) x q) (sym e)
    (copies v x q generation share places c goes (subst (λ z. IsCopied z.share share x generation q) e copied)
    (subst (λ (z : SweeperView). places
    ≡ record z.places { own = z.places.own ++ (x, q) ∷ []; unswept = z.places.unswept ++ (x, q) ∷ [] }) e noted)
    (subst (λ (z : SweeperView). length z.places.own + 1 < 2 ^ 64) e few) absent)

-- ---- a place put

object_is : (a b : ℕ) → Some (value.Object a) ≡ Some (value.Object b) → a ≡ b
object_is a b e = cc

tells : (o : Option Start) (word q refers : ℕ) (g : ℕ → Option ℕ) → value_of word ≡ Some (value.Object q)
    → ((h : ℕ) → g q ≡ Some h → refers ≤ h) → TellsLower g o word refers
tells None word q refers g is known = tt
tells (Some x) word q refers g is known = λ b h has names there low.
    known h (ap g (object_is q b (sym is ∙ names)) ∙ there)

pub puts : (s v : SweeperView) (p i q refers word : ℕ) (share : ShareView) → s ≡ v → IsPut s.share share p i word refers
    → value_of word ≡ Some (value.Object q) → Puts v (record s { share = share }) p i q refers
puts s v p i q refers word share e put is = subst (λ z. Puts z (record s { share = share }) p i q refers) e (record {
  steady = record {
    alike = put.alike;
    number = refl;
    directory = refl;
    registers = refl;
    register_count = refl;
    round = refl;
    ran_out = refl;
  };
  word = word;
  is_word = is;
  put = record {
    number = put.alike.number;
    own = refl;
    unswept = refl;
    register = refl;
    inbox = refl;
    outbox = refl;
    here = put.here;
    others = put.others;
  };
  sound = λ g known. put.sound g (tells (start_in s.share p) word q refers g is known);
})

-- ---- the place of an object

pub none_of : (o : Option FromSegment) (b : Bool) → b ≡ false → (IsTrue b → IsSome o) × (IsSome o → IsTrue b) → is_some o ≡ false
none_of None b e h = refl
none_of (Some f) b e h = absurd (false≢true (sym e ∙ h.1 refl))

pub some_of : (o : Option FromSegment) (b : Bool) → b ≡ true → (IsTrue b → IsSome o) × (IsSome o → IsTrue b) → is_some o ≡ true
some_of None b e h = absurd (none (h.0 e))
  where
    none : IsSome {T = FromSegment} None → ⊥
    none s = false≢true s
some_of (Some f) b e h = refl

-- a collected object that was forwarded is in the list
pub is_there : (v : SweeperView) (x i : ℕ) → HasField v x i → is_some (from_at v.places.directory x) ≡ true → IsAbsent v.places.own x → ⊥
is_there v x i field young absent = elim field.at.1 [
  | inl old ↦ false≢true (sym old.0 ∙ young)
  | inr pair ↦ let n = index_some v.places.own (x, field.at.0) pair in absent n.0 n.1 (ap (λ (f : ℕ × ℕ). f.0) n.2)
]
