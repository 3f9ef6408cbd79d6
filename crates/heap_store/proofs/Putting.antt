-- What the calls of a territory do to its starts and its cards.
use Rattle.std.proofs.Common.{◌≡◌, ◌≢◌, ℕ, Bool, true, false, cond, List, length, set, IsSome, IfSome, Option, Some, None, option_map, nat_cmp, refl, sym, ◌∙◌, ap, subst, arith, inl, inr, get_or-set_same, get_or-set_other}
use Rattle.std.specs.Ordering.{eq_by_cmp}
use Rattle.std.specs.Cmp.{nat_cmp_total}
use Rattle.std.specs.FinMap.{FinMap, get, insert, get-insert}
use Rattle.std.proofs.lemmas.Bool.{cases_eq, cases_lt, false≢true}
use Rattle.std.proofs.lemmas.Bool.Decides.{nat_tests}
use Rattle.std.proofs.lemmas.List.{length-set, get_or_past}
use Rattle.gc_words.specs.Layout.{thread_of, segment_of}
use Rattle.trace_types.specs.declared.kind.Kind.{Kind}
use Rattle.segment.specs.declared.space.Space.{Space}
use Rattle.segment.specs.Segments.{Start}
use Rattle.territory.specs.Territories.{SegmentView, TerritoryView, segment_at, put_start, fresh_start, with_card, with_word, needs_mark, IsPlaced, IsToldMore, TellsLower, AreCardsSound}
use Rattle.heap_store.specs.Starts.{lasting}
use Rattle.heap_store.specs.Changes.{HasNoFrom, IsStartChanged, IsMade, IsRewritten}

at_key : (m : FinMap nat_cmp Start) (k : ℕ) (v : Start) → get (insert m k v) k ≡ Some v
at_key m k v = let t : eq_by_cmp nat_cmp k k ≡ true = grind (arith, nat_tests) in get-insert nat_cmp_total m k v k ∙ ap (λ b. cond b (Some v) (get m k)) t

at_other : (m : FinMap nat_cmp Start) (k : ℕ) (v : Start) (q : ℕ) → q ≢ k → get (insert m k v) q ≡ get m q
at_other m k v q ne = let t : eq_by_cmp nat_cmp q k ≡ false = grind (arith, nat_tests, ne) in get-insert nat_cmp_total m k v q ∙ ap (λ b. cond b (Some v) (get m q)) t

-- ---- a word put

-- a segment with a card marked is set aside where it was before
card_from : (a i refers : ℕ) (o : Option SegmentView) (p : SegmentView) → option_map (with_card a i refers) o ≡ Some p → ((q : SegmentView) → o ≡ Some q → q.is_from ≡ false) → p.is_from ≡ false
card_from a i refers None p e before = absurd (let n : None ≡ Some p = e in cc)
card_from a i refers (Some q) p e before = sym (ap from_of e) ∙ by_mark (needs_mark q.is_from q.generation refers) _ ∙ before q refl
  where
    from_of : Option SegmentView → Bool
    from_of None = false
    from_of (Some r) = r.is_from

    by_mark : (b : Bool) (cards : List ℕ) → (cond b (record q { cards = cards }) q).is_from ≡ q.is_from
    by_mark true cards = refl
    by_mark false cards = refl

put_no_from : (t : TerritoryView) (a i w refers : ℕ) → HasNoFrom t → HasNoFrom (with_word t a i w refers)
put_no_from t a i w refers before n p e =
    elim (cases_eq n (segment_of a)) [
      | inl same ↦ elim (cases_lt (segment_of a) (length t.segments)) [
        | inl within ↦
            card_from a i refers (segment_at t (segment_of a)) p
            (sym (get_or-set_same t.segments (segment_of a) (option_map (with_card a i refers) (segment_at t (segment_of a))) None within)
            ∙ ap (λ m. segment_at (with_word t a i w refers) m) (sym same) ∙ e) (before (segment_of a))
        | inr past ↦
            let none : None ≡ Some p = sym (get_or_past (set t.segments (segment_of a) (option_map (with_card a i refers) (segment_at t (segment_of a)))) n None
            (omega (arith, same, past, length-set t.segments (segment_of a) (option_map (with_card a i refers) (segment_at t (segment_of a)))))) ∙ e in
            absurd (cc)
      ]
      | inr other ↦ before n p (sym (get_or-set_other t.segments (segment_of a) n (option_map (with_card a i refers) (segment_at t (segment_of a))) None other) ∙ e)
    ]

pub put_changed : (old new : TerritoryView) (a i w refers : ℕ) (x : Start) → get old.starts a ≡ Some x → thread_of a ≡ old.thread → new ≡ with_word old a i w refers
    → IsStartChanged old new a (record x { words = set x.words i w })
put_changed old new a i w refers x there thread is =
    subst (λ (t : TerritoryView). IsStartChanged old t a (record x { words = set x.words i w })) (sym is) (record {
      its_thread = thread;
      thread = refl;
      no_from = put_no_from old a i w refers;
      here = ap (λ o. get (put_start old.starts a o i w) a) there ∙ at_key old.starts a (record x { words = set x.words i w });
      others = λ b ne. ap (λ o. get (put_start old.starts a o i w) b) there ∙ at_other old.starts a (record x { words = set x.words i w }) b ne;
      same = λ _. ap lasting there;
    })

-- ---- changes one after another

pub then_changed : (old mid new : TerritoryView) (a : ℕ) (x y : Start) → IsStartChanged old mid a x → IsStartChanged mid new a y → IsStartChanged old new a y
then_changed old mid new a x y first second = record {
  its_thread = first.its_thread;
  thread = second.thread ∙ first.thread;
  no_from = λ before. second.no_from (first.no_from before);
  here = second.here;
  others = λ b ne. second.others b ne ∙ first.others b ne;
  same = λ there. first.same there ∙ sym (ap lasting first.here) ∙ second.same (subst IsSome (sym first.here) refl);
}

pub unchanged : (t : TerritoryView) (a : ℕ) (x : Start) → get t.starts a ≡ Some x → thread_of a ≡ t.thread → IsStartChanged t t a x
unchanged t a x there thread = record {
  its_thread = thread;
  thread = refl;
  no_from = λ before. before;
  here = there;
  others = λ b ne. refl;
  same = λ _. ap lasting there;
}

-- a new object that got its words
pub then_rewritten : (old mid new : TerritoryView) (a : ℕ) (x : Start) (words : List ℕ) → IsMade old mid a x → IsRewritten mid new a x words → IsMade old new a (record x { words = words })
then_rewritten old mid new a x words made rewritten = record {
  changed = then_changed old mid new a x (record x { words = words }) made.changed rewritten.changed;
  free = made.free;
  sound = λ before after told sound. rewritten.sound after (made.sound before after told sound);
}

pub rewritten_twice : (old mid new : TerritoryView) (a : ℕ) (x : Start) (middle words : List ℕ) → IsRewritten old mid a x middle → IsRewritten mid new a (record x { words = middle }) words → IsRewritten old new a x words
rewritten_twice old mid new a x middle words first second = record {
  changed = then_changed old mid new a (record x { words = middle }) (record x { words = words }) first.changed second.changed;
  sound = λ g sound. second.sound g (first.sound g sound);
}

-- a word put into an object of generation 0, which refers to nothing younger
pub young_put : (old new : TerritoryView) (a i w refers : ℕ) (x : Start) → get old.starts a ≡ Some x → thread_of a ≡ old.thread → x.generation ≡ 0 → new ≡ with_word old a i w refers
    → ((g : ℕ → Option ℕ) → TellsLower g (get old.starts a) w refers → AreCardsSound g old → AreCardsSound g new)
    → IsRewritten old new a x (set x.words i w)
young_put old new a i w refers x there thread young is sound = record {
  changed = put_changed old new a i w refers x there thread is;
  sound = λ g before. sound g (subst (λ o. TellsLower g o w refers) (sym there) (λ b h values names told less. absurd (omega (arith, less, young)))) before;
}

-- ---- a new start

pub made_fresh : (old new : TerritoryView) (a : ℕ) (kind : Kind) (length birth : ℕ) (s : Space) (g size : ℕ) → thread_of a ≡ old.thread → new.thread ≡ old.thread → get old.starts a ≡ None
    → new.starts ≡ insert old.starts a (fresh_start kind length 0 birth) → IsPlaced old new s g size (segment_of a)
    → ((before after : ℕ → Option ℕ) → IsToldMore before after old a → AreCardsSound before old → AreCardsSound after new)
    → IsMade old new a (fresh_start kind length 0 birth)
made_fresh old new a kind length birth s g size thread same free is placed sound = record {
  changed = record {
    its_thread = thread;
    thread = same;
    no_from = no_from;
    here = ap (λ m. get m a) is ∙ at_key old.starts a (fresh_start kind length 0 birth);
    others = λ b ne. ap (λ m. get m b) is ∙ at_other old.starts a (fresh_start kind length 0 birth) b ne;
    same = λ there. absurd (none_some (get old.starts a) free there);
  };
  free = free;
  sound = sound;
}
  where
    none_some : (o : Option Start) → o ≡ None → IsSome o → ⊥
    none_some None e h = false≢true h
    none_some (Some x) e h = let n : Some x ≡ None = e in cc

    in_segment : (o : Option SegmentView) (p : SegmentView) → IfSome o (λ v. (v.space ≡ s) × (v.generation ≡ g) × (v.is_from ≡ false)) → o ≡ Some p → p.is_from ≡ false
    in_segment None p h e = absurd (let n : None ≡ Some p = e in cc)
    in_segment (Some q) p h e = sym (ap (λ o. from_of o) e) ∙ h.2
      where
        from_of : Option SegmentView → Bool
        from_of None = false
        from_of (Some r) = r.is_from

    no_from : HasNoFrom old → HasNoFrom new
    no_from before n p e =
        elim (cases_eq n (segment_of a)) [
          | inl here ↦ in_segment (segment_at new (segment_of a)) p placed.fits (ap (segment_at new) (sym here) ∙ e)
          | inr other ↦ before n p (sym (placed.others n other) ∙ e)
        ]
