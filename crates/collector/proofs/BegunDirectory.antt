-- A directory of territories that have begun tells of each start whether it is collected, and its generation.
use Rattle.std.proofs.Common.{◌≡◌, ℕ, ◌%◌, true, false, cond, nat_le, List, Option, None, Some, ◌⊎◌, refl, sym, ap, subst, ◌∙◌}
use Rattle.std.proofs.lemmas.Option.{none-some, same_Some}
use Rattle.gc_words.specs.Layout.{offset_of}
use Rattle.segment.specs.Segments.{Start}
use Rattle.territory.specs.Territories.{TerritoryView}
use Rattle.directory.specs.declared.table.FromSegment.{FromSegment}
use Rattle.directory.specs.Directories.{CanStart, DirectoryView, from_at}
use Rattle.directory.specs.Tables.{Aside, aside_at, shown}
use Rattle.collector.proofs.BegunAside.{LiesIn, aside_is}

-- the directory has a from-segment where one was set aside
pub record IsTold (o : Option FromSegment) (s : Aside) : Type 0 where
  pub from : FromSegment
  pub is : o ≡ Some from
  pub size : from.size ≡ s.size
  pub generation : from.generation ≡ s.generation

told_some : (o : Option FromSegment) (s : Aside) → shown o ≡ Some s → IsTold o s
told_some None s e = absurd (none-some s e)
told_some (Some from) s e =
    let same = same_Some (record { size = from.size; generation = from.generation }) s e in
    record {
      from = from;
      is = refl;
      size = ap (λ (z : Aside). z.size) same;
      generation = ap (λ (z : Aside). z.generation) same;
    }

told_none : (o : Option FromSegment) → shown o ≡ None → o ≡ None
told_none None e = refl
told_none (Some from) e = absurd (none-some (record { size = from.size; generation = from.generation }) (sym e))

-- the directory tells what was set aside
abbrev pub TellsAside : DirectoryView → List TerritoryView → Type 0
TellsAside d new = (a : ℕ) → shown (from_at d a) ≡ aside_at new a

-- of a collected start it has the from-segment
pub told_collected : (d : DirectoryView) (new : List TerritoryView) (cg a : ℕ) (x : Start) (l : LiesIn new cg a x)
    → TellsAside d new → nat_le x.generation cg ≡ true
    → IsTold (from_at d a) (record { size = l.segment.words; generation = x.generation })
told_collected d new cg a x l tells young =
    let there : Option Aside = Some (record { size = l.segment.words; generation = x.generation }) in
    told_some (from_at d a) (record { size = l.segment.words; generation = x.generation })
    (tells a ∙ (aside_is new cg a x l ∙ ap (λ b. cond b there None) young))

-- of any other it has none
pub told_older : (d : DirectoryView) (new : List TerritoryView) (cg a : ℕ) (x : Start) → LiesIn new cg a x
    → TellsAside d new → nat_le x.generation cg ≡ false → from_at d a ≡ None
told_older d new cg a x l tells older =
    let there : Option Aside = Some (record { size = l.segment.words; generation = x.generation }) in
    told_none (from_at d a) (tells a ∙ (aside_is new cg a x l ∙ ap (λ b. cond b there None) older))

-- a collected start is where one may start
pub can_start : (d : DirectoryView) (new : List TerritoryView) (cg a : ℕ) (x : Start) → LiesIn new cg a x
    → TellsAside d new → nat_le x.generation cg ≡ true → CanStart d a
can_start d new cg a x l tells young =
    let told = told_collected d new cg a x l tells young in
    record {
      from = told.from;
      lies = told.is;
      offset = subst (λ size. ((size ≡ 512) × (offset_of a % 2 ≡ 0)) ⊎ (offset_of a ≡ 0)) (sym told.size) l.start.place;
    }
