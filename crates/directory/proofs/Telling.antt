-- What a directory's invariant tells of words.
use Rattle.std.proofs.Common.{◌≡◌, ◌⊎◌, ℕ, ◌+◌, ◌%◌, ◌^◌, ◌<◌, ◌≤◌, List, [], length, take, sum, get_or, Option, Some, None, IsSome, refl, sym, ◌∙◌, ap, subst, arith}
use Rattle.std.proofs.lemmas.Option.{same_Some}
use Rattle.std.proofs.lemmas.List.{take_all, get_or_default}
use Rattle.std.proofs.lemmas.List.Sums.{sum_by-take-le}
use Rattle.gc_words.specs.Layout.{address_of, thread_of, segment_of, offset_of}
use Rattle.gc_words.proofs.LayoutLaws.{address_of-its_parts}
use Rattle.directory.specs.declared.table.FromSegment.{FromSegment}
use Rattle.directory.specs.Tables.{entry_at, entry_in, run_of, word_at, HasWord}
use Rattle.directory.specs.Directories.{DirectoryView, IsSound, HasOwnWords, TellsApart, IsWithin, from_at, from_in, owner_in, word_in, word_or_0, start_of}
use Rattle.directory.proofs.Words.{its_word, same_offset, offset_in}

-- equal parts make equal addresses
same_parts : (a b : ℕ) → thread_of a ≡ thread_of b → segment_of a ≡ segment_of b → offset_of a ≡ offset_of b → a ≡ b
same_parts a b t s o =
    sym (address_of-its_parts a)
    ∙ (ap (λ v. address_of v (segment_of a) (offset_of a)) t
    ∙ (ap (λ v. address_of (thread_of b) v (offset_of a)) s
    ∙ (ap (λ v. address_of (thread_of b) (segment_of b) v) o ∙ address_of-its_parts b)))

pub tells_apart : (d : DirectoryView) (firsts : List ℕ) → IsSound d.ranges firsts d.tables → TellsApart d
tells_apart d firsts s a b ca cb eq =
    let e : FromSegment = ca.from in
    let f : FromSegment = cb.from in
    let pa : (entry_at d.tables (thread_of a) (segment_of a) ≡ Some e) × (offset_of a < e.size) = offset_in (entry_at d.tables (thread_of a) (segment_of a)) (offset_of a) e ca.lies in
    let pb : (entry_at d.tables (thread_of b) (segment_of b) ≡ Some f) × (offset_of b < f.size) = offset_in (entry_at d.tables (thread_of b) (segment_of b)) (offset_of b) f cb.lies in
    let wa : word_in d a ≡ word_at e (offset_of a) = ap (λ v. word_or_0 v (offset_of a)) ca.lies in
    let wb : word_in d b ≡ word_at f (offset_of b) = ap (λ v. word_or_0 v (offset_of b)) cb.lies in
    let w : word_at f (offset_of b) ≡ word_at e (offset_of a) = sym wb ∙ (sym eq ∙ wa) in
    let same : (thread_of a ≡ thread_of b) × (segment_of a ≡ segment_of b) =
    s.apart (thread_of a) (thread_of b) (segment_of a) (segment_of b) e f (word_at e (offset_of a)) pa.0 pb.0 (its_word e (offset_of a) pa.1) (subst (HasWord f) w (its_word f (offset_of b) pb.1)) in
    let one : Some e ≡ Some f =
    sym pa.0 ∙ (ap (λ v. entry_at d.tables v (segment_of a)) same.0 ∙ (ap (λ v. entry_at d.tables (thread_of b) v) same.1 ∙ pb.0)) in
    let ef : e ≡ f = same_Some e f one in
    let off : offset_of a ≡ offset_of b =
    same_offset e (offset_of a) (offset_of b) ca.offset
    (subst (λ (v : FromSegment). ((v.size ≡ 512) × (offset_of b % 2 ≡ 0)) ⊎ (offset_of b ≡ 0)) (sym ef) cb.offset)
    (sym w ∙ ap (λ v. word_at v (offset_of b)) (sym ef)) in
    same_parts a b same.0 same.1 off

-- ---- one from-segment

-- the words of all ranges up to a range's end
starts_below : (ranges : List ℕ) (k : ℕ) → start_of ranges k ≤ start_of ranges (length ranges)
starts_below ranges k =
    let whole : take (length ranges) ranges ≡ ranges = take_all (length ranges) ranges (omega arith) in
    omega (arith, sum_by-take-le (λ x. x) ranges k, ap sum whole)

pub lies_in : (d : DirectoryView) (a : ℕ) (e : FromSegment) → from_at d a ≡ Some e → (entry_at d.tables (thread_of a) (segment_of a) ≡ Some e) × (offset_of a < e.size)
lies_in d a e h = offset_in (entry_at d.tables (thread_of a) (segment_of a)) (offset_of a) e h

pub entry_fits : (d : DirectoryView) (firsts : List ℕ) (t n : ℕ) (e : FromSegment) → IsSound d.ranges firsts d.tables → entry_at d.tables t n ≡ Some e → e.first_word + run_of e.size ≤ 2 ^ 64
entry_fits d firsts t n e s h =
    let own : (start_of d.ranges (t % length d.ranges) ≤ e.first_word) × (e.first_word + run_of e.size ≤ start_of d.ranges (t % length d.ranges + 1)) = s.own t n e h in
    omega (arith, own.1, starts_below d.ranges (t % length d.ranges + 1), s.fits)

pub word_fits : (d : DirectoryView) (firsts : List ℕ) (a : ℕ) (e : FromSegment) → IsSound d.ranges firsts d.tables → from_at d a ≡ Some e → e.first_word + run_of e.size ≤ 2 ^ 64
word_fits d firsts a e s h = entry_fits d firsts (thread_of a) (segment_of a) e s (lies_in d a e h).0

pub own_word : (d : DirectoryView) (firsts : List ℕ) (a : ℕ) (e : FromSegment) → IsSound d.ranges firsts d.tables → from_at d a ≡ Some e → IsWithin d.ranges (owner_in d a) (word_at e (offset_of a))
own_word d firsts a e s h =
    let at : (entry_at d.tables (thread_of a) (segment_of a) ≡ Some e) × (offset_of a < e.size) = lies_in d a e h in
    let own : (start_of d.ranges (thread_of a % length d.ranges) ≤ e.first_word) × (e.first_word + run_of e.size ≤ start_of d.ranges (thread_of a % length d.ranges + 1)) = s.own (thread_of a) (segment_of a) e at.0 in
    let w : HasWord e (word_at e (offset_of a)) = its_word e (offset_of a) at.1 in
    (omega (arith, own.0, w.0), omega (arith, own.1, w.1))

some_of : (o : Option FromSegment) → IsSome o → (e : FromSegment) × (o ≡ Some e)
some_of None h = cc
some_of (Some e) h = (e, refl)

pub own_words : (d : DirectoryView) (firsts : List ℕ) → IsSound d.ranges firsts d.tables → HasOwnWords d
own_words d firsts s a h =
    let e : (e : FromSegment) × (from_at d a ≡ Some e) = some_of (from_at d a) h in
    let w : word_in d a ≡ word_at e.0 (offset_of a) = ap (λ v. word_or_0 v (offset_of a)) e.1 in
    subst (IsWithin d.ranges (owner_in d a)) (sym w) (own_word d firsts a e.0 s e.1)

-- ---- what a call sees of its directory
pub sound_now : (d v : DirectoryView) (firsts : List ℕ) → v ≡ d → IsSound v.ranges firsts v.tables → IsSound d.ranges firsts d.tables
sound_now d v firsts e s = subst (λ (w : DirectoryView). IsSound w.ranges firsts w.tables) e s

pub found_now : (d v : DirectoryView) (tables : List (List (Option FromSegment))) (a : ℕ) (e : FromSegment) → v ≡ d → tables ≡ v.tables → Some e ≡ from_in tables a → from_at d a ≡ Some e
found_now d v tables a e same are found =
    ap (λ (w : DirectoryView). from_at w a) (sym same) ∙ (ap (λ w. from_in w a) (sym are) ∙ sym found)

-- what a look into the table of a thread finds
pub entry_now : (d v : DirectoryView) (table : List (Option FromSegment)) (thread segment t n : ℕ) (e : FromSegment) → v ≡ d → thread < length v.tables → table ≡ get_or v.tables thread table → thread ≡ t → segment ≡ n → Some e ≡ entry_in table segment → entry_at d.tables t n ≡ Some e
entry_now d v table thread segment t n e same small its by_thread by_segment found =
    ap (λ (w : DirectoryView). entry_at w.tables t n) (sym same)
    ∙ (ap (λ x. entry_at v.tables x n) (sym by_thread)
    ∙ (ap (λ x. entry_at v.tables thread x) (sym by_segment)
    ∙ (ap (λ x. entry_in x segment) (get_or_default v.tables thread [] table small ∙ sym its) ∙ sym found)))
