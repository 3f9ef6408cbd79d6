-- The words of a new object, filled one after another.
use Rattle.std.proofs.Common.{◌≡◌, ◌≢◌, ℕ, zero, suc, ◌+◌, ◌-◌, ◌/◌, ◌%◌, ◌<◌, ◌≤◌, cond, append-nil, List, [], ◌∷◌, ◌++◌, length, set, drop, replicate, Option, Some, None, refl, sym, ◌∙◌, ap, subst, arith}
use Rattle.std.specs.FinMap.{get, insert}
use Rattle.std.specs.Int.{w64, from_le_bytes}
use Rattle.std.proofs.lemmas.Bool.{eq-eqb, ne_eqb}
use Rattle.std.proofs.lemmas.List.{length-append, length-replicate, length-set}
use Rattle.std.proofs.lemmas.Option.{same_Some}
use Rattle.gc_words.specs.Layout.{thread_of, segment_of, IsAddress}
use Rattle.trace_types.specs.declared.kind.Kind.{Kind}
use Rattle.segment.specs.declared.space.Space.{Space}
use Rattle.segment.specs.Layout.{words_after}
use Rattle.segment.specs.Segments.{Start}
use Rattle.territory.specs.Territories.{TerritoryView, words_of, fresh_start, with_word, IsPlaced, IsToldMore, TellsLower, AreCardsSound}
use Rattle.heap_store.specs.Changes.{HasYoung, IsMade, IsRewritten, new_start, filled}
use Rattle.heap_store.specs.Shapes.{packed, packed_word}
use Rattle.heap_store.proofs.Putting.{unchanged, put_changed, young_put, then_rewritten, rewritten_twice, made_fresh}

-- ---- lists

pub set_next : {X : Type 0} (k m : ℕ) (x z : X) → set (replicate k x ++ replicate (suc m) z) k x ≡ replicate (suc k) x ++ replicate m z
set_next zero m x z = refl
set_next (suc k) m x z = ap (λ xs. x ∷ xs) (set_next k m x z)

set_first : (k w : ℕ) (ws : List ℕ) → k < length ws → set (filled k w ws) k w ≡ filled (suc k) w ws
set_first zero w [] below = absurd (omega arith)
set_first zero w (v ∷ ws) below = refl
set_first (suc k) w [] below = absurd (omega arith)
set_first (suc k) w (v ∷ ws) below = ap (λ xs. w ∷ xs) (set_first k w ws (omega arith))

length-filled : (k w : ℕ) (ws : List ℕ) → k ≤ length ws → length (filled k w ws) ≡ length ws
length-filled zero w ws below = refl
length-filled (suc k) w [] below = absurd (omega arith)
length-filled (suc k) w (v ∷ ws) below = ap suc (length-filled k w ws (omega arith))

-- the next byte of a word
pub byte_next : (bytes after : List ℕ) (k b : ℕ) → k < 8 → bytes ≡ replicate k b ++ replicate (8 - k) 0 → after ≡ set bytes k b → after ≡ replicate (k + 1) b ++ replicate (8 - (k + 1)) 0
byte_next bytes after k b less is e =
    let rest : 8 - k ≡ suc (8 - (k + 1)) = omega arith in
    let next : suc k ≡ k + 1 = omega arith in
    e ∙ ap (λ bs. set bs k b) (is ∙ ap (λ n. replicate k b ++ replicate n 0) rest) ∙ set_next k (8 - (k + 1)) b 0 ∙ ap (λ n. replicate n b ++ replicate (8 - (k + 1)) 0) next

-- ---- words put one after another

-- the first k words are the word
pub record IsFilledTo (old new : TerritoryView) (a word k count : ℕ) : Type 0 where
  pub start : Start
  pub here : get old.starts a ≡ Some start
  pub its_thread : thread_of a ≡ old.thread
  pub young : start.generation ≡ 0
  pub room : count ≤ length start.words
  pub below : k ≤ count
  pub rewritten : IsRewritten old new a start (filled k word start.words)

pub filled_none : (t : TerritoryView) (a word count : ℕ) → HasYoung t a count → IsFilledTo t t a word 0 count
filled_none t a word count has = record {
  start = has.start;
  here = has.here;
  its_thread = has.its_thread;
  young = has.young;
  room = has.room;
  below = omega arith;
  rewritten = record { changed = unchanged t a has.start has.here has.its_thread; sound = λ g sound. sound };
}

pub next_within : (old mid : TerritoryView) (a word k count : ℕ) → IsFilledTo old mid a word k count → k < count → k < length (words_of (get mid.starts a))
next_within old mid a word k count filled_to less =
    let here : length (words_of (get mid.starts a)) ≡ length (filled k word filled_to.start.words) = ap (λ o. length (words_of o)) filled_to.rewritten.changed.here in
    let all = length-filled k word filled_to.start.words (omega (arith, less, filled_to.room)) in
    omega (arith, here, all, less, filled_to.room)

pub filled_next : (old mid new : TerritoryView) (a word k count refers : ℕ) → IsFilledTo old mid a word k count → k < count → new ≡ with_word mid a k word refers
    → ((g : ℕ → Option ℕ) → TellsLower g (get mid.starts a) word refers → AreCardsSound g mid → AreCardsSound g new)
    → IsFilledTo old new a word (k + 1) count
filled_next old mid new a word k count refers was less is sound =
    let x : Start = was.start in
    let next : suc k ≡ k + 1 = omega arith in
    record {
      start = x;
      here = was.here;
      its_thread = was.its_thread;
      young = was.young;
      room = was.room;
      below = omega arith;
      rewritten = rewritten_twice old mid new a x (filled k word x.words) (filled (k + 1) word x.words) was.rewritten
          (subst (λ ws. IsRewritten mid new a (record x { words = filled k word x.words }) ws) (set_first k word x.words (omega (arith, less, was.room)) ∙ ap (λ n. filled n word x.words) next)
          (young_put mid new a k word refers (record x { words = filled k word x.words }) was.rewritten.changed.here (was.its_thread ∙ sym was.rewritten.changed.thread) was.young is sound));
    }

pub filled_all : (old new : TerritoryView) (a word count : ℕ) → IsFilledTo old new a word count count → (x : Start) → get old.starts a ≡ Some x → IsRewritten old new a x (filled count word x.words)
filled_all old new a word count was x there = subst (λ (y : Start). IsRewritten old new a y (filled count word y.words)) (same_Some _ _ (sym was.here ∙ there)) was.rewritten

-- ---- whole objects

pub packed_is : (bytes : List ℕ) (k count b r : ℕ) → (bytes ≡ replicate k b ++ replicate (8 - k) 0) → k ≤ count → count ≤ k → r ≡ from_le_bytes w64 bytes → r ≡ packed_word b count
unfolding packed_word
packed_is bytes k count b r is most end e =
    let same : k ≡ count = omega (arith, most, end) in
    e ∙ ap (from_le_bytes w64) (is ∙ ap (λ n. replicate n b ++ replicate (8 - n) 0) same)

-- a new start, as `allocate` makes it
pub is_fresh : (old new : TerritoryView) (a : ℕ) (kind : Kind) (len line : ℕ) (s : Space) (g size : ℕ) → IsAddress a × (thread_of a ≡ old.thread) → get old.starts a ≡ None
    → new.starts ≡ insert old.starts a (fresh_start kind len 0 line) → IsPlaced old new s g size (segment_of a)
    → ((before after : ℕ → Option ℕ) → IsToldMore before after old a → AreCardsSound before old → AreCardsSound after new)
    → new.thread ≡ old.thread → IsMade old new a (fresh_start kind len 0 line)
is_fresh old new a kind len line s g size address free starts placed sound thread = made_fresh old new a kind len line s g size address.1 thread free starts placed sound

pub young_there : (old new : TerritoryView) (a : ℕ) (kind : Kind) (len line count : ℕ) → IsMade old new a (fresh_start kind len 0 line) → count ≤ words_after kind len → HasYoung new a count
young_there old new a kind len line count made room = record {
  start = fresh_start kind len 0 line;
  here = made.changed.here;
  its_thread = made.changed.its_thread ∙ sym made.changed.thread;
  young = refl;
  room = omega (arith, room, length-replicate {A = ℕ} (words_after kind len) 0);
}

-- how many words a start has that was rewritten
pub words_there : (t : TerritoryView) (a : ℕ) (x : Start) (k : ℕ) → get t.starts a ≡ Some x → k < length x.words → k < length (words_of (get t.starts a))
words_there t a x k there less = subst (λ o. k < length (words_of o)) (sym there) less

fresh_words : (kind : Kind) (len line n : ℕ) → words_after kind len ≡ n → fresh_start kind len 0 line ≡ new_start kind len line (replicate n 0)
fresh_words kind len line n is = ap (λ k. new_start kind len line (replicate k 0)) is

pub first_room : (old one : TerritoryView) (a : ℕ) (kind : Kind) (line : ℕ) → IsMade old one a (fresh_start kind 2 0 line) → words_after kind 2 ≡ 2 → 0 < length (words_of (get one.starts a))
first_room old one a kind line fresh count = words_there one a (fresh_start kind 2 0 line) 0 fresh.changed.here (omega (arith, count, length-replicate {A = ℕ} (words_after kind 2) 0))

pub second_room : (old one two : TerritoryView) (a : ℕ) (kind : Kind) (line first r : ℕ) → IsMade old one a (fresh_start kind 2 0 line) → words_after kind 2 ≡ 2 → two ≡ with_word one a 0 first r → 1 < length (words_of (get two.starts a))
second_room old one two a kind line first r fresh count put_first =
    let x : Start = fresh_start kind 2 0 line in
    let changed = put_changed one two a 0 first r x fresh.changed.here (fresh.changed.its_thread ∙ sym fresh.changed.thread) put_first in
    words_there two a (record x { words = set x.words 0 first }) 1 changed.here (omega (arith, count, length-set x.words 0 first, length-replicate {A = ℕ} (words_after kind 2) 0))

pub two_made : (old one two three : TerritoryView) (a : ℕ) (kind : Kind) (line first second r : ℕ) → IsMade old one a (fresh_start kind 2 0 line) → words_after kind 2 ≡ 2
    → two ≡ with_word one a 0 first r → ((g : ℕ → Option ℕ) → TellsLower g (get one.starts a) first r → AreCardsSound g one → AreCardsSound g two)
    → three ≡ with_word two a 1 second r → ((g : ℕ → Option ℕ) → TellsLower g (get two.starts a) second r → AreCardsSound g two → AreCardsSound g three)
    → IsMade old three a (new_start kind 2 line (first ∷ second ∷ []))
two_made old one two three a kind line first second r fresh count put_first first_sound put_second second_sound =
    let x : Start = new_start kind 2 line (0 ∷ 0 ∷ []) in
    let made : IsMade old one a x = subst (IsMade old one a) (fresh_words kind 2 line 2 count) fresh in
    let thread : thread_of a ≡ one.thread = made.changed.its_thread ∙ sym made.changed.thread in
    let got_first : IsRewritten one two a x (first ∷ 0 ∷ []) = young_put one two a 0 first r x made.changed.here thread refl put_first first_sound in
    let y : Start = new_start kind 2 line (first ∷ 0 ∷ []) in
    then_rewritten old one three a x (first ∷ second ∷ []) made
    (rewritten_twice one two three a x (first ∷ 0 ∷ []) (first ∷ second ∷ []) got_first
    (young_put two three a 1 second r y got_first.changed.here (thread ∙ sym got_first.changed.thread) refl put_second second_sound))

drop_none : (n : ℕ) → drop {A = ℕ} n (replicate n 0) ≡ []
drop_none zero = refl
drop_none (suc n) = drop_none n

filled_nil : (n w : ℕ) (xs : List ℕ) → xs ≡ [] → replicate n w ++ xs ≡ replicate n w
filled_nil n w xs e = ap (λ ys. replicate n w ++ ys) e ∙ append-nil (replicate n w)

pub filled_made : (old one two : TerritoryView) (a : ℕ) (kind : Kind) (line n w : ℕ) → IsMade old one a (fresh_start kind n 0 line) → words_after kind n ≡ n
    → ((x : Start) → get one.starts a ≡ Some x → IsRewritten one two a x (filled n w x.words)) → IsMade old two a (new_start kind n line (replicate n w))
filled_made old one two a kind line n w fresh count rewritten =
    let x : Start = new_start kind n line (replicate n 0) in
    let made : IsMade old one a x = subst (IsMade old one a) (fresh_words kind n line n count) fresh in
    then_rewritten old one two a x (replicate n w) made
    (subst (IsRewritten one two a x) (filled_nil n w (drop {A = ℕ} n (replicate n 0)) (drop_none n)) (rewritten x made.changed.here))

drop_one : (k : ℕ) → drop {A = ℕ} k (replicate (suc k) 0) ≡ 0 ∷ []
drop_one zero = refl
drop_one (suc k) = drop_one k

set_end : (k x y : ℕ) → set (replicate k x ++ 0 ∷ []) k y ≡ replicate k x ++ y ∷ []
set_end zero x y = refl
set_end (suc k) x y = ap (λ xs. x ∷ xs) (set_end k x y)

pub packed_whole : (old one two : TerritoryView) (a : ℕ) (kind : Kind) (line n b w : ℕ) → n % 8 ≡ 0 → w ≡ packed_word b 8 → IsMade old one a (fresh_start kind n 0 line) → words_after kind n ≡ (n + 7) / 8
    → ((x : Start) → get one.starts a ≡ Some x → IsRewritten one two a x (filled (n / 8) w x.words)) → IsMade old two a (new_start kind n line (packed b n))
packed_whole old one two a kind line n b w whole is fresh count rewritten =
    let k : (n + 7) / 8 ≡ n / 8 = omega (arith, whole) in
    let x : Start = new_start kind n line (replicate (n / 8) 0) in
    let made : IsMade old one a x = subst (IsMade old one a) (fresh_words kind n line (n / 8) (count ∙ k)) fresh in
    then_rewritten old one two a x (packed b n) made
    (subst (IsRewritten one two a x)
    (ap (λ zs. replicate (n / 8) w ++ zs) (drop_none (n / 8)) ∙ ap (λ v. replicate (n / 8) v ++ []) is ∙ ap (λ c. replicate (n / 8) (packed_word b 8) ++ cond c [] (packed_word b (n % 8) ∷ [])) (sym (eq-eqb (n % 8) 0 whole)))
    (rewritten x made.changed.here))

-- with a last word that is not whole
module _ (old one two : TerritoryView) (a : ℕ) (kind : Kind) (line n b w : ℕ) (part : n % 8 ≢ 0) (is : w ≡ packed_word b 8) (fresh : IsMade old one a (fresh_start kind n 0 line)) (count : words_after kind n ≡ (n + 7) / 8) (rewritten : (x : Start) → get one.starts a ≡ Some x → IsRewritten one two a x (filled (n / 8) w x.words)) where
  abbrev before_last : Start
  before_last = new_start kind n line (replicate (n / 8) w ++ 0 ∷ [])

  all_but_one : (n + 7) / 8 ≡ suc (n / 8)
  all_but_one = omega (arith, part)

  pub all_but_last : IsMade old two a before_last
  all_but_last =
      let x : Start = new_start kind n line (replicate (suc (n / 8)) 0) in
      let made : IsMade old one a x = subst (IsMade old one a) (fresh_words kind n line (suc (n / 8)) (count ∙ all_but_one)) fresh in
      then_rewritten old one two a x (replicate (n / 8) w ++ 0 ∷ []) made
      (subst (IsRewritten one two a x) (ap (λ zs. replicate (n / 8) w ++ zs) (drop_one (n / 8))) (rewritten x made.changed.here))

  pub last_within : n / 8 < length (words_of (get two.starts a))
  last_within = words_there two a before_last (n / 8) all_but_last.changed.here (omega (arith, length-append (replicate (n / 8) w) (0 ∷ []), length-replicate (n / 8) w))

  pub packed_part : (three : TerritoryView) (last r : ℕ) → last ≡ packed_word b (n % 8) → three ≡ with_word two a (n / 8) last r
      → ((g : ℕ → Option ℕ) → TellsLower g (get two.starts a) last r → AreCardsSound g two → AreCardsSound g three) → IsMade old three a (new_start kind n line (packed b n))
  packed_part three last r last_is put_last sound =
      then_rewritten old two three a before_last (packed b n) all_but_last
      (subst (IsRewritten two three a before_last) words_are
      (young_put two three a (n / 8) last r before_last all_but_last.changed.here (all_but_last.changed.its_thread ∙ sym all_but_last.changed.thread) refl put_last sound))
    where
      words_are : set (replicate (n / 8) w ++ 0 ∷ []) (n / 8) last ≡ packed b n
      words_are =
          set_end (n / 8) w last ∙ ap (λ v. replicate (n / 8) v ++ last ∷ []) is ∙ ap (λ v. replicate (n / 8) (packed_word b 8) ++ v ∷ []) last_is
          ∙ ap (λ c. replicate (n / 8) (packed_word b 8) ++ cond c [] (packed_word b (n % 8) ∷ [])) (sym (ne_eqb (n % 8) 0 part))
