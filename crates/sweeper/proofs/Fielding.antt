-- What a field asks for, as the code finds it.
use Rattle.std.proofs.Common.{◌≡◌, ℕ, Bool, true, false, cond, List, [], ◌∷◌, ◌++◌, Option, Some, None, IsSome, is_some, IsTrue, refl, sym, ap, subst, ◌∙◌}
use Rattle.std.proofs.lemmas.Bool.{false≢true}
use Rattle.std.proofs.lemmas.Option.{same_Some}
use Rattle.gc_mail.specs.declared.message.Message.{Message}
use Rattle.gc_mail.specs.declared.message.Message.TheVariants as message
use Rattle.gc_mail.specs.declared.message.Slot.TheVariants as back
use Rattle.gc_mail.specs.Recipients.{owner}
use Rattle.gc_words.specs.declared.value.Value.{Value}
use Rattle.gc_words.specs.declared.value.Value.TheVariants as value
use Rattle.gc_words.specs.Word.{value_of}
use Rattle.territory.specs.Finishing.{target_of}
use Rattle.directory.specs.declared.table.FromSegment.{FromSegment}
use Rattle.directory.specs.declared.directory.Found.{Found}
use Rattle.directory.specs.Directories.{DirectoryView, found_at, from_at}
use Rattle.directory.specs.declared.reach.Reach.{Reach}
use Rattle.directory.specs.Reaches.{IsWithinReach, Reaches}
use Rattle.directory.proofs.Finding.{found_some}
use Rattle.directory.proofs.Reaching.{collected_within}
use Rattle.sweep_model.specs.World.{object_in}
use Rattle.sweep_share.specs.Shares.{start_in}
use Rattle.sweeper.specs.Sweepers.{CanKeep, FieldDone, IsForeign, IsKept, IsOwn, Puts, SweeperView, asked_by, asked_in, if_aside, sends}

-- ---- what the directory told

-- of what lies in a from-segment it told the generation
found_is : (d : DirectoryView) (t : ℕ) (from : FromSegment) (found : Found) → from_at d t ≡ Some from
    → found_at d t ≡ Some found → found.generation ≡ from.generation
found_is d t from found lies is =
    let there = found_some d t found is in
    let same : there.from ≡ from = same_Some _ _ (sym there.lies ∙ lies) in
    there.generation ∙ ap (λ (f : FromSegment). f.generation) same

-- so the generation to which it goes
pub goes_to_target : (v : SweeperView) (d : DirectoryView) (t refers : ℕ) (found : Found) (c : CanKeep v t)
    → v.places.directory ≡ d → found_at d t ≡ Some found → refers ≡ target_of d.targets found.generation
    → refers ≡ target_of v.places.directory.targets c.start.generation
goes_to_target v d t refers found c same is target =
    let lies : from_at d t ≡ Some c.from = ap (λ z. from_at z t) (sym same) ∙ c.lies in
    target ∙ ap (λ (z : DirectoryView). target_of z.targets found.generation) (sym same)
    ∙ ap (target_of v.places.directory.targets) (found_is d t c.from found lies is ∙ c.same)

-- ---- which words are passed over

-- what refers to no object within the reach of all that is collected refers to nothing collected
refers_none : (d : DirectoryView) (r : Reach) (o : Option Value) → Reaches r d
    → ((a : ℕ) → o ≡ Some (value.Object a) → IsWithinReach r a → ⊥) → if_aside d (object_in o) ≡ None
refers_none d r (Some (value.Object a)) reaches none =
    at (from_at d a) (λ lies. none a refl (collected_within d r a reaches lies))
  where
    at : (from : Option FromSegment) → (IsSome from → ⊥) → cond (is_some from) (Some a) None ≡ None
    at None never = refl
    at (Some from) never = absurd (never refl)
refers_none d r o reaches none = refl

-- a word that refers to no object within the reach asks for nothing
pub passed_over : (d : DirectoryView) (r : Reach) (word : ℕ) → Reaches r d
    → ((a : ℕ) → value_of word ≡ Some (value.Object a) → IsWithinReach r a → ⊥) → asked_by d word ≡ None
passed_over d r word reaches none = refers_none d r (value_of word) reaches none

-- ---- what a field becomes

-- an object of its own was kept and its place put
pub own_done : (v mid new : SweeperView) (x p i t q refers : ℕ) (c : CanKeep v t)
    → asked_in v.places.directory (start_in v.share x) i ≡ Some t → IsKept v mid t q
    → refers ≡ target_of v.places.directory.targets c.start.generation → Puts mid new p i q refers → FieldDone v new x p i
own_done v mid new x p i t q refers c asked kept is put =
    IsOwn t q mid c asked kept (subst (Puts mid new p i q) is put)

-- ---- where the fields of the struct show the value

pub own_is : (s v : SweeperView) (t : ℕ) (b : Bool) → s ≡ v → b ≡ true
    → (IsTrue b → owner s.share.sweepers t ≡ s.share.number) × (owner s.share.sweepers t ≡ s.share.number → IsTrue b)
    → owner v.share.sweepers t ≡ v.share.number
own_is s v t b e is h = subst (λ (z : SweeperView). owner z.share.sweepers t ≡ z.share.number) e (h.0 is)

-- the owner of a foreign object is asked
pub foreign_done : (s v : SweeperView) (x p i t : ℕ) (b : Bool) (outbox : List Message) → s ≡ v
    → asked_in v.places.directory (start_in v.share x) i ≡ Some t → b ≡ false
    → (IsTrue b → owner s.share.sweepers t ≡ s.share.number) × (owner s.share.sweepers t ≡ s.share.number → IsTrue b)
    → outbox ≡ s.outbox ++ message.Forward t (back.Field i x) ∷ []
    → FieldDone v (record s { outbox = outbox }) x p i
foreign_done s v x p i t b outbox e asked is own sent =
    IsForeign t asked
    (λ o. false≢true (sym is ∙ own.1 (subst (λ (z : SweeperView). owner z.share.sweepers t ≡ z.share.number) (sym e) o)))
    (ap (λ l. record s { outbox = l }) sent ∙ ap (λ (z : SweeperView). sends z (message.Forward t (back.Field i x))) e)
