-- The fields of a forwarded object are handled one after the other.
use Rattle.std.proofs.Common.{◌≡◌, ◌≢◌, ℕ, zero, suc, ◌+◌, ◌-◌, ◌%◌, ◌<◌, ◌≤◌, true, false, cond, List, [], ◌∷◌, ◌++◌, take, length, get_or, Contains, None, Some, refl, sym, ap, subst, ◌∙◌, inl, inr, arith}
use Rattle.std.proofs.lemmas.List.Elements.{Contains-push}
use Rattle.gc_words.specs.Layout.{thread_of}
use Rattle.gc_words.specs.Word.{value_of}
use Rattle.segment.specs.Segments.{Start}
use Rattle.territory.specs.Territories.{words_of}
use Rattle.gc_mail.specs.declared.message.Message.{Message}
use Rattle.gc_mail.specs.declared.message.Message.TheVariants as message
use Rattle.gc_mail.specs.declared.message.Slot.TheVariants as back
use Rattle.gc_mail.specs.Recipients.{owner}
use Rattle.owned_core.specs.declared.slot.Standing.{Standing}
use Rattle.owned_core.specs.Settings.{Setting}
use Rattle.territory.specs.Finishing.{target_of}
use Rattle.sweep_model.specs.World.{World, asks, if_collected, is_collected, is_strong, object_in, strong_value}
use Rattle.sweep_model.specs.Settings.{IsSettingOf}
use Rattle.sweep_model.specs.Holding.{Goes, in_standing, news_from, out_standing}
use Rattle.sweep_model.proofs.Ages.{collected_start}
use Rattle.sweep_model.proofs.Asking.{ask_goes}
use Rattle.sweep_model.proofs.Beginning.{news_none, news_other, news_own}
use Rattle.sweep_model.proofs.Fixing.{answer_fixes}
use Rattle.sweep_model.proofs.Going.{goes_none, goes_on}
use Rattle.sweep_model.proofs.Sweeping.{sweep_goes}
use Rattle.sweep_share.specs.Shares.{start_in}
use Rattle.sweeper.specs.Sweepers.{AskNothing, CanKeep, FieldDone, IsForeign, IsOwn, IsPlain, SweeperView, asked_in, hand_of, sends}
use Rattle.sweeper.specs.Ready.{IsReadyIn, Ready, Runs, Went}
use Rattle.sweeper.proofs.WorldKept.{can_keep, can_keep_start, keep_least, kept_ready}
use Rattle.sweeper.proofs.WorldReady.{follows_none, follows_on, sent_follows, swept_follows, swept_ready, went_on, with_rest}
use Rattle.sweeper.proofs.WorldTold.{asked_is, words_at}
use Rattle.sweeper.proofs.WorldWritten.{put_ready}

-- what may be kept is its own
pub keep_own : (world : World) (v : SweeperView) (t : ℕ) → IsReadyIn world v → CanKeep v t
    → owner world.sweepers t ≡ v.share.number
keep_own world v t ready c =
    ap (λ n. thread_of t % n) (ready.fits.sweepers ∙ sym ready.joined.count) ∙ c.own.own ∙ ready.joined.places

-- ---- one field

-- field i of x is handled, whose copy stands at p
module _ (world : World) (w : Setting) (told : List Message) (x p i n : ℕ) (s : Start) (setting : IsSettingOf world w)
    (was : world.image x ≡ Some s) (young : is_collected world x ≡ true) where
  -- what is asked for there is what the directory tells
  field_asks : (u : SweeperView) → IsReadyIn world u → owner world.sweepers x ≡ u.share.number
      → asked_in u.places.directory (start_in u.share x) i ≡ asks world (back.Field i x)
  field_asks u ready mine =
      ap (λ o. asked_in u.places.directory o i) (ready.ready.tied.frozen x s was mine young)
      ∙ asked_is world u x i s ready was

  sent_goes : (u : SweeperView) (t : ℕ) → IsReadyIn world u → owner world.sweepers x ≡ u.share.number
      → asks world (back.Field i x) ≡ Some t → owner world.sweepers t ≢ u.share.number
      → Went world w told u (sends u (message.Forward t (back.Field i x)))
      (out_standing world (message.Forward t (back.Field i x)) ∷ news_from world w x (i + 1) n)
      (news_from world w x (i + 1) n)
  sent_goes u t ready mine wants other = record {
    follows = sent_follows world told u (message.Forward t (back.Field i x)) ready (wants, mine, other);
    goes = ask_goes world w (hand_of u) (news_from world w x (i + 1) n) (message.Forward t (back.Field i x));
  }

  pub field_went : (u u' : SweeperView) → IsReadyIn world u → owner world.sweepers x ≡ u.share.number
      → Contains u.places.own (x, p) → FieldDone u u' x p i
      → Went world w told u u' (news_from world w x i (suc n)) (news_from world w x (i + 1) n)
  field_went u u' ready mine pair (IsPlain none is) =
      let e : asks world (back.Field i x) ≡ None = sym (field_asks u ready mine) ∙ none in
      subst (λ z. Went world w told u z (news_from world w x i (suc n)) (news_from world w x (i + 1) n)) (sym is)
      (subst (λ l. Went world w told u u l (news_from world w x (i + 1) n)) (sym (news_none world w x i n e))
      (record {
        follows = follows_none world told u ready;
        goes = goes_none world w (hand_of u) (news_from world w x (i + 1) n);
      }))
  field_went u u' ready mine pair (IsOwn t q mid c some kept puts) =
      let e : asks world (back.Field i x) ≡ Some t = sym (field_asks u ready mine) ∙ some in
      let own = keep_own world u t ready c in
      let rest : List Standing = news_from world w x (i + 1) n in
      let at_hand : List Standing = in_standing world (message.Forward t (back.Field i x)) ∷ rest in
      let k = kept_ready world w told u mid (back.Field i x) t q rest setting ready e own kept in
      let same = k.0.steady.alike.number in
      let r = put_ready world told mid u' x p i t q (target_of u.places.directory.targets c.start.generation) c.start
      k.0.ready (mine ∙ sym same) (inr (k.0.own x p pair)) e
      (can_keep_start world u (back.Field i x) t ready e own c) (inl k.1) (keep_least world u t ready c) puts in
      subst (λ l. Went world w told u u' l rest) (sym (news_own world w x i n t setting e (own ∙ sym mine)))
      (record {
        follows = follows_on world told u mid u' k.0 r.0;
        goes = goes_on world w (hand_of u) (hand_of mid) (hand_of u') at_hand at_hand rest same k.2
            (answer_fixes world w (hand_of mid) (hand_of u') rest t q (back.Field i x) setting e (own ∙ sym same)
            (mine ∙ sym same) k.1 r.1);
      })
  field_went u u' ready mine pair (IsForeign t some foreign is) =
      let e : asks world (back.Field i x) ≡ Some t = sym (field_asks u ready mine) ∙ some in
      let other : owner world.sweepers t ≢ u.share.number =
      λ z. foreign (ap (λ n. owner n t) (sym ready.fits.sweepers) ∙ z) in
      subst (λ z. Went world w told u z (news_from world w x i (suc n)) (news_from world w x (i + 1) n)) (sym is)
      (subst
      (λ l. Went world w told u (sends u (message.Forward t (back.Field i x))) l (news_from world w x (i + 1) n))
      (sym (news_other world w x i n t setting e (λ z. other (z ∙ mine))))
      (sent_goes u t ready mine e other))

-- ---- all fields

-- what is unswept but for the last
abbrev pub rest_of : SweeperView → List (ℕ × ℕ)
rest_of v = take (length v.places.unswept - 1) v.places.unswept

-- the last one is taken
abbrev pub one_swept : SweeperView → SweeperView
one_swept v = with_rest v (rest_of v)

-- the object that is swept next
abbrev pub IsNext : SweeperView → ℕ → ℕ → Type 0
IsNext v x p = v.places.unswept ≡ rest_of v ++ (x, p) ∷ []

-- its fields up to i are handled
abbrev pub IsSweptTo : SweeperView → SweeperView → ℕ → ℕ → Type 0
IsSweptTo v u x i =
    (world : World) (w : Setting) (s : Start) → IsSettingOf world w → IsReadyIn world v → world.image x ≡ Some s
    → Went world w v.inbox (one_swept v) u (news_from world w x 0 (length s.words))
    (news_from world w x i (length s.words - i))

pub next_pair : (world : World) (v : SweeperView) (x p : ℕ) → IsReadyIn world v → IsNext v x p
    → Contains v.places.own (x, p)
next_pair world v x p ready next =
    ready.ready.tied.unswept_in x p
    (subst (λ l. Contains l (x, p)) (sym next) (Contains-push (rest_of v) (x, p)))

-- what is known of it
pub next_is : (world : World) (v : SweeperView) (x p : ℕ) → IsReadyIn world v → IsNext v x p
    → (s : Start) × (world.image x ≡ Some s) × (is_collected world x ≡ true)
    × (owner world.sweepers x ≡ v.share.number) × (start_in v.share x ≡ Some s)
next_is world v x p ready next =
    let m = ready.ready.tied.mine x p (next_pair world v x p ready next) in
    let s = collected_start world x m.1 in
    (s.0, s.1, m.1, m.0, ready.ready.tied.frozen x s.0 s.1 m.0 m.1)

-- none at first
pub swept_to_none : (v : SweeperView) (x p : ℕ) → IsNext v x p → IsSweptTo v (one_swept v) x 0
swept_to_none v x p next world w s setting ready was =
    let e : length s.words ≡ length s.words - 0 = omega arith in
    subst (λ n. Went world w v.inbox (one_swept v) (one_swept v) (news_from world w x 0 (length s.words))
    (news_from world w x 0 n)) e
    (record {
      follows = follows_none world v.inbox (one_swept v) (swept_ready world v (rest_of v) x p ready next);
      goes = goes_none world w (hand_of (one_swept v)) (news_from world w x 0 (length s.words));
    })

-- one more
pub swept_to_more : (v u u' : SweeperView) (x p i : ℕ) → IsNext v x p → IsSweptTo v u x i
    → ((s : Start) → start_in v.share x ≡ Some s → i < length s.words) → FieldDone u u' x p i → IsSweptTo v u' x (i + 1)
swept_to_more v u u' x p i next before within done world w s setting ready was =
    let pair = next_pair world v x p ready next in
    let m = ready.ready.tied.mine x p pair in
    let k : i < length s.words = within s (ready.ready.tied.frozen x s was m.0 m.1) in
    let e : length s.words - i ≡ suc (length s.words - (i + 1)) = omega arith in
    let one = before world w s setting ready was in
    let f = one.follows in
    went_on world w v.inbox (one_swept v) u u' (news_from world w x 0 (length s.words))
    (news_from world w x i (length s.words - i)) (news_from world w x (i + 1) (length s.words - (i + 1))) one
    (subst (λ n. Went world w v.inbox u u' (news_from world w x i n) (news_from world w x (i + 1) (length s.words - (i + 1))))
    (sym e)
    (field_went world w v.inbox x p i (length s.words - (i + 1)) s setting was m.1 u u' f.ready
    (m.0 ∙ sym f.steady.alike.number) (f.own x p pair) done))

-- n more that ask for nothing
pub swept_to_later : (v u : SweeperView) (x p i n : ℕ) → IsNext v x p → IsSweptTo v u x i
    → ((s : Start) → start_in v.share x ≡ Some s → i + n ≤ length s.words) → AskNothing u x i (i + n)
    → IsSweptTo v u x (i + n)
swept_to_later v u x p i zero next done within none = subst (IsSweptTo v u x) (omega arith) done
swept_to_later v u x p i (suc n) next done within none =
    let more : i + 1 + n ≡ i + suc n = omega arith in
    subst (IsSweptTo v u x) more
    (swept_to_later v u x p (i + 1) n next
    (swept_to_more v u u x p i next done (λ s is. let k = within s is in omega (arith, k))
    (IsPlain (none i (omega arith) (omega arith)) refl))
    (λ s is. let k = within s is in omega (arith, k))
    (λ j a b. none j (omega (arith, a)) (omega (arith, b))))

-- ... up to the next that does, or to the end
pub swept_up_to : (v u : SweeperView) (x p i j : ℕ) → IsNext v x p → IsSweptTo v u x i → i ≤ j
    → ((s : Start) → start_in v.share x ≡ Some s → j ≤ length s.words) → AskNothing u x i j → IsSweptTo v u x j
swept_up_to v u x p i j next done order within none =
    let e : i + (j - i) ≡ j = omega (arith, order) in
    subst (IsSweptTo v u x) e
    (swept_to_later v u x p i (j - i) next done
    (λ s is. let k : j ≤ length s.words = within s is in omega (arith, k, e))
    (λ k a b. none k a (omega (arith, b, e))))

-- fields that ask for nothing have no slots
news_nothing : (world : World) (w : Setting) (x i n : ℕ)
    → ((j : ℕ) → i ≤ j → j < i + n → asks world (back.Field j x) ≡ None) → news_from world w x i n ≡ []
news_nothing world w x i zero none = refl
news_nothing world w x i (suc n) none =
    news_none world w x i n (none i (omega arith) (omega arith))
    ∙ news_nothing world w x (i + 1) n (λ j a b. none j (omega (arith, a)) (omega (arith, b)))

-- nor does what is no strong field
plain_asks : (world : World) (x j : ℕ) (s : Start) → world.image x ≡ Some s → is_strong s.kind j ≡ false
    → asks world (back.Field j x) ≡ None
plain_asks world x j s was plain =
    ap (λ o. if_collected world (object_in (strong_value o j))) was
    ∙ ap (λ z. if_collected world (object_in (cond z (value_of (get_or s.words j 0)) None))) plain

-- all of them: the object is swept
pub swept_runs : (v u : SweeperView) (x p count : ℕ) → IsNext v x p → IsSweptTo v u x count
    → ((s : Start) → start_in v.share x ≡ Some s
    → (count ≤ length s.words) × ((j : ℕ) → count ≤ j → j < length s.words → is_strong s.kind j ≡ false))
    → Runs v u
swept_runs v u x p count next done rest world w setting ready =
    let s = next_is world v x p ready next in
    let r = rest s.0 s.4 in
    let went = done world w s.0 setting ready s.1 in
    let n : ℕ = length s.0.words in
    let most : count ≤ length s.0.words = r.0 in
    let none : news_from world w x count (length s.0.words - count) ≡ [] =
    news_nothing world w x count (length s.0.words - count)
    (λ j a b. plain_asks world x j s.0 s.1 (r.1 j a (omega (arith, a, b, most)))) in
    record {
      follows = follows_on world v.inbox v (one_swept v) u (swept_follows world v.inbox v (rest_of v) x p ready next)
          went.follows;
      goes = goes_on world w (hand_of v) (hand_of (one_swept v)) (hand_of u) [] (news_from world w x 0 (length s.0.words)) []
          refl
          (sweep_goes world w (hand_of v) (rest_of v) x p s.0 ready.is_world setting ready.ready.tied next s.1)
          (subst (λ l. Goes world w (hand_of (one_swept v)) (news_from world w x 0 (length s.0.words)) (hand_of u) l)
          none went.goes);
    }

-- ---- what is known between two fields

-- the object and its copy, as they stand after some fields
pub record IsThere (u : SweeperView) (x p : ℕ) : Type 0 where
  pub world : World
  pub ready : IsReadyIn world u
  pub start : Start
  pub was : world.image x ≡ Some start
  pub mine : owner world.sweepers x ≡ u.share.number
  pub young : is_collected world x ≡ true
  pub pair : Contains u.places.own (x, p)
  pub here : start_in u.share x ≡ Some start

pub swept_there : (v u : SweeperView) (x p i : ℕ) → Ready v → IsNext v x p → IsSweptTo v u x i → IsThere u x p
swept_there v u x p i r next done =
    let s = next_is r.0 v x p r.3 next in
    let f = (done r.0 r.1 s.0 r.2 r.3 s.1).follows in
    let mine : owner r.0.sweepers x ≡ u.share.number = s.3 ∙ sym f.steady.alike.number in
    record {
      world = r.0;
      ready = f.ready;
      start = s.0;
      was = s.1;
      mine = mine;
      young = s.2;
      pair = f.own x p (next_pair r.0 v x p r.3 next);
      here = f.ready.ready.tied.frozen x s.0 s.1 mine s.2;
    }

-- the copy has as many words as the object
pub there_words : (u : SweeperView) (x p : ℕ) → (a : IsThere u x p)
    → length (words_of (start_in u.share p)) ≡ length a.start.words
there_words u x p a = words_at a.world u x p a.start a.ready a.was a.mine (inr a.pair)

-- what a field asks for may be kept where it is its own
pub there_keeps : (u : SweeperView) (x p i t : ℕ) → IsThere u x p
    → asked_in u.places.directory (start_in u.share x) i ≡ Some t → owner u.share.sweepers t ≡ u.share.number → CanKeep u t
there_keeps u x p i t a asked own =
    let e : asks a.world (back.Field i x) ≡ Some t =
    sym (ap (λ o. asked_in u.places.directory o i) a.here ∙ asked_is a.world u x i a.start a.ready a.was) ∙ asked in
    can_keep a.world u (back.Field i x) t a.ready e (ap (λ n. owner n t) a.ready.fits.sweepers ∙ own)
