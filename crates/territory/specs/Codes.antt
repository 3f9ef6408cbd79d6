-- Codes of what a territory's value is made of, so that a list of territories has a model.
use Rattle.std.specs.Prelude.{◌≡◌, ℕ, ◌==◌, if◌then◌else◌, List, refl}
use Rattle.std.specs.Coded.{Coded, code_by, coded×, coded_ℕ, coded_list}
use Rattle.trace_types.specs.declared.kind.Kind.{Kind}
use Rattle.trace_types.specs.declared.kind.Kind.TheVariants as kind
use Rattle.segment.specs.declared.space.Space.{Space}
use Rattle.segment.specs.declared.space.Space.TheVariants as space
use Rattle.segment.specs.Layout.{space_index}
use Rattle.segment.specs.Segments.{Start}

-- the kinds by number
abbrev pub kind_index : Kind → ℕ
kind_index kind.Pair = 0
kind_index kind.Weak = 1
kind_index kind.Eph = 2
kind_index kind.Boxed = 3
kind_index kind.Vector = 4
kind_index kind.Bytes = 5
kind_index kind.ImmVector = 6
kind_index kind.ImmBytes = 7
kind_index kind.Guard = 8
kind_index kind.OrderedGuard = 9
kind_index kind.Cell = 10

abbrev pub kind_by_index : ℕ → Kind
kind_by_index n =
    if n == 0 then kind.Pair
    else (if n == 1 then kind.Weak
    else (if n == 2 then kind.Eph
    else (if n == 3 then kind.Boxed
    else (if n == 4 then kind.Vector
    else (if n == 5 then kind.Bytes
    else (if n == 6 then kind.ImmVector
    else (if n == 7 then kind.ImmBytes
    else (if n == 8 then kind.Guard
    else (if n == 9 then kind.OrderedGuard else kind.Cell)))))))))

pub kind_by_index-kind_index : (k : Kind) → kind_by_index (kind_index k) ≡ k
kind_by_index-kind_index kind.Pair = refl
kind_by_index-kind_index kind.Weak = refl
kind_by_index-kind_index kind.Eph = refl
kind_by_index-kind_index kind.Boxed = refl
kind_by_index-kind_index kind.Vector = refl
kind_by_index-kind_index kind.Bytes = refl
kind_by_index-kind_index kind.ImmVector = refl
kind_by_index-kind_index kind.ImmBytes = refl
kind_by_index-kind_index kind.Guard = refl
kind_by_index-kind_index kind.OrderedGuard = refl
kind_by_index-kind_index kind.Cell = refl

abbrev pub coded_kind : Coded Kind
coded_kind = code_by ℕ coded_ℕ kind_index kind_by_index kind_by_index-kind_index

-- the space of a number
abbrev pub space_by_index : ℕ → Space
space_by_index n =
    if n == 0 then space.Pair
    else (if n == 1 then space.Weak
    else (if n == 2 then space.Ephemeron
    else (if n == 3 then space.Typed
    else (if n == 4 then space.Raw
    else (if n == 5 then space.Immobile
    else (if n == 6 then space.ImmobileRaw else space.Cell))))))

pub space_by_index-space_index : (s : Space) → space_by_index (space_index s) ≡ s
space_by_index-space_index space.Pair = refl
space_by_index-space_index space.Weak = refl
space_by_index-space_index space.Ephemeron = refl
space_by_index-space_index space.Typed = refl
space_by_index-space_index space.Raw = refl
space_by_index-space_index space.Immobile = refl
space_by_index-space_index space.ImmobileRaw = refl
space_by_index-space_index space.Cell = refl

abbrev pub coded_space : Coded Space
coded_space = code_by ℕ coded_ℕ space_index space_by_index space_by_index-space_index

abbrev pub coded_start : Coded Start
coded_start = code_by (Kind × (ℕ × (ℕ × (ℕ × List ℕ))))
    (coded× coded_kind (coded× coded_ℕ (coded× coded_ℕ (coded× coded_ℕ (coded_list coded_ℕ)))))
    (λ s. (s.kind, (s.length, (s.generation, (s.birth, s.words)))))
    (λ p. record { kind = p.0; length = p.1.0; generation = p.1.1.0; birth = p.1.1.1.0; words = p.1.1.1.1 })
    (λ _. refl)
