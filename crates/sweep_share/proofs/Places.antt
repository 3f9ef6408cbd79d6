-- Where the territory of an address stands in a share.
use Rattle.std.proofs.Common.{◌≡◌, ℕ, ◌/◌, ◌<◌, ◌==◌, Bool, true, false, cond, length, get_or, Option, None, Some, IsSome, IfSome, refl, ap, subst, ◌∙◌, arith}
use Rattle.std.proofs.lemmas.Bool.{eq-eqb, eqb-true}
use Rattle.std.proofs.lemmas.List.{get_or_read}
use Rattle.std.specs.FinMap.{get}
use Rattle.gc_words.specs.Layout.{thread_of}
use Rattle.gc_mail.specs.Recipients.{owner}
use Rattle.segment.specs.Segments.{Start}
use Rattle.territory.specs.Territories.{TerritoryView, no_territory, words_of}
use Rattle.sweep_share.specs.Shares.{AreShareOf, ShareView, start_in, territory_of}

chosen : (b : Bool) (o : Option Start) → IsSome (cond b o None) → b ≡ true
chosen true o h = refl
chosen false o h = h

-- what starts in the share is its own
pub own_of : (s : ShareView) (a : ℕ) → IsSome (start_in s a) → owner s.sweepers a ≡ s.number
own_of s a h = eqb-true (owner s.sweepers a) s.number (chosen (owner s.sweepers a == s.number) (get (territory_of s a).starts a) h)

-- at an address of its own the share has what the territory has
pub own_start : (s : ShareView) (a : ℕ) → owner s.sweepers a ≡ s.number → start_in s a ≡ get (territory_of s a).starts a
own_start s a e = ap (λ b. cond b (get (territory_of s a).starts a) None) (eq-eqb (owner s.sweepers a) s.number e)

words_some : (o : Option Start) (i : ℕ) → i < length (words_of o) → IsSome o
words_some None i h = absurd (omega (arith, h))
words_some (Some x) i h = refl

-- a start with a word is one
pub has_word : (s : ShareView) (a i : ℕ) → i < length (words_of (start_in s a)) → IsSome (start_in s a)
has_word s a i h = words_some (start_in s a) i h

-- the territory that is read at its index is that of the address
pub read_is : (s : ShareView) (a i : ℕ) (t : TerritoryView) → i ≡ thread_of a / s.sweepers → i < length s.territories
    → t ≡ get_or s.territories i t → t ≡ territory_of s a
read_is s a i t e h is = get_or_read s.territories i t h is (no_territory 0) ∙ ap (λ n. get_or s.territories n (no_territory 0)) e

-- ... and it is the one of the thread
pub thread_is : (s : ShareView) (a : ℕ) → AreShareOf s.number s.sweepers s.territories → thread_of a < 64 → owner s.sweepers a ≡ s.number
    → (territory_of s a).thread ≡ thread_of a
thread_is s a share small own =
    let some : 0 < s.sweepers = omega (arith, share.number_in) in
    let within : thread_of a / s.sweepers < length s.territories = share.covers (thread_of a) small own in
    share.threads (thread_of a / s.sweepers) within ∙ omega (arith, own, some)

pub some_start : (o : Option Start) → IsSome o → (x : Start) × (o ≡ Some x)
some_start None h = absurd (cc)
some_start (Some x) h = (x, refl)

-- what is said of the start, where it is known
pub if_there : (o : Option Start) (P : Start → Type 0) (x : Start) → o ≡ Some x → IfSome o P → P x
if_there o P x e h = subst (λ v. IfSome v P) e h
