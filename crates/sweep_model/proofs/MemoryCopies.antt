-- A copy of a collected object of its own keeps a sweeper's memory tied to the world.
use Rattle.std.proofs.Common.{◌≡◌, ◌≢◌, ℕ, ◌%◌, ◌<◌, true, ◌⊎◌, List, [], ◌∷◌, ◌++◌, length, Contains, Option, None, Some, refl, sym, ap, subst, ◌∙◌, inl, inr, arith}
use Rattle.std.proofs.lemmas.Bool.{cases_eq, cases_lt}
use Rattle.std.proofs.lemmas.List.{get_or_append_left, get_or_push, length_push}
use Rattle.std.proofs.lemmas.List.Elements.{Contains-append_left, Contains-get_or, Contains-push, Contains-push_cases}
use Rattle.std.proofs.lemmas.Option.{none-some}
use Rattle.gc_words.specs.declared.value.Value.{Value}
use Rattle.gc_words.specs.Layout.{thread_of}
use Rattle.segment.specs.Segments.{Start}
use Rattle.gc_mail.specs.Recipients.{owner}
use Rattle.sweep_model.specs.World.{World, goes_to, is_collected}
use Rattle.sweep_model.specs.Hands.{Hand, IsCopiedNow, IsKeptAt, Tied, forwarded_at, object_of}
use Rattle.sweep_model.proofs.Memory.{index_some, kept_again, place_of, still_there}
use Rattle.sweep_model.proofs.Ages.{collected_start}

-- a pair of a longer list is one of before or the new one
push_cases : (own : List (ℕ × ℕ)) (f : ℕ × ℕ) (n : ℕ) → n < length (own ++ f ∷ [])
    → ((n < length own) × (forwarded_at (own ++ f ∷ []) n ≡ forwarded_at own n))
    ⊎ ((n ≡ length own) × (forwarded_at (own ++ f ∷ []) n ≡ f))
push_cases own f n h = elim (cases_lt n (length own)) [
  | inl b ↦ inl (b, get_or_append_left own (f ∷ []) (0, 0) n b)
  | inr past ↦
      let e : length own ≡ n = omega (arith, length_push own f) in
      inr (sym e, get_or_push own f (0, 0) n e)
]

-- a part of the pairs that is not that of the new one stays apart
push_once : (part : ℕ × ℕ → ℕ) (own : List (ℕ × ℕ)) (f : ℕ × ℕ)
    → ((m n : ℕ) → m < length own → n < length own
    → part (forwarded_at own m) ≡ part (forwarded_at own n) → m ≡ n)
    → ((n : ℕ) → n < length own → part (forwarded_at own n) ≢ part f)
    → (m n : ℕ) → m < length (own ++ f ∷ []) → n < length (own ++ f ∷ [])
    → part (forwarded_at (own ++ f ∷ []) m) ≡ part (forwarded_at (own ++ f ∷ []) n) → m ≡ n
push_once part own f once new m n a b e = elim (push_cases own f m a) [
  | inl i ↦ elim (push_cases own f n b) [
    | inl j ↦ once m n i.0 j.0 (sym (ap part i.1) ∙ e ∙ ap part j.1)
    | inr j ↦ absurd (new m i.0 (sym (ap part i.1) ∙ e ∙ ap part j.1))
  ]
  | inr i ↦ elim (push_cases own f n b) [
    | inl j ↦ absurd (new n j.0 (sym (ap part j.1) ∙ sym e ∙ ap part i.1))
    | inr j ↦ i.0 ∙ sym j.0
  ]
]

module _ (world : World) (h h' : Hand) (x q : ℕ) (tied : Tied world h) (young : is_collected world x ≡ true)
    (mine : owner world.sweepers x ≡ h.number) (copy : IsCopiedNow world.targets h h' x q) where
  -- the new place is of the same thread, so it is this sweeper's
  owner_q : owner world.sweepers q ≡ h.number
  owner_q = ap (λ z. z % world.sweepers) copy.thread ∙ mine

  -- nothing stood there, so nothing started there
  started : (o : Option Start) → world.image q ≡ o → o ≡ None
  started None e = refl
  started (Some s) e =
      let y = still_there world h tied q s e owner_q in absurd (none-some y.0 (sym copy.free ∙ y.1))

  -- what stood elsewhere still does
  elsewhere : (p : ℕ) (s : Start) → h.now p ≡ Some s → h'.now p ≡ h.now p
  elsewhere p s e = copy.others p (λ is. none-some s (sym copy.free ∙ ap h.now (sym is) ∙ e))

  kept_on : (y p : ℕ) → IsKeptAt world h y p → IsKeptAt world h' y p
  kept_on y p k = kept_again world h h' y p (elsewhere p k.new k.is) k

  new_copy : IsKeptAt world h' x q
  new_copy =
      let old = collected_start world x young in
      record {
        old = old.0;
        new = record old.0 { generation = goes_to world.targets old.0.generation };
        was = old.1;
        is = copy.here old.0 (tied.frozen x old.0 old.1 mine young);
        kind = refl;
        size = refl;
        birth = refl;
        generation = refl;
        words = refl;
        plain = λ i none. refl;
      }

  -- the pairs are those of before and the new one
  own_cases : (y p : ℕ) → Contains h'.own (y, p) → Contains h.own (y, p) ⊎ ((x ≡ y) × (q ≡ p))
  own_cases y p c =
      elim (Contains-push_cases h.own (x, q) (y, p) (subst (λ l. Contains l (y, p)) copy.own c)) [
        | inl e ↦ inl e
        | inr e ↦ inr (ap object_of e, ap place_of e)
      ]

  own_from : (y p : ℕ) → Contains (h.own ++ (x, q) ∷ []) (y, p) → Contains h'.own (y, p)
  own_from y p c = subst (λ l. Contains l (y, p)) (sym copy.own) c

  own_before : (y p : ℕ) → Contains h.own (y, p) → Contains h'.own (y, p)
  own_before y p c = own_from y p (Contains-append_left h.own ((x, q) ∷ []) (y, p) c)

  -- the new object is in no unswept pair of before
  new_object : (n : ℕ) → n < length h.unswept → (forwarded_at h.unswept n).0 ≢ x
  new_object n l is =
      let f = forwarded_at h.unswept n in
      let i = index_some h.own f (tied.unswept_in f.0 f.1 (Contains-get_or h.unswept n (0, 0) l)) in
      copy.absent i.0 i.1 (ap object_of i.2 ∙ is)

  -- the new place is in no pair of before
  new_place : (n : ℕ) → n < length h.own → (forwarded_at h.own n).1 ≢ q
  new_place n l is =
      let f = forwarded_at h.own n in
      let k = tied.copied f.0 f.1 (Contains-get_or h.own n (0, 0) l) in
      none-some k.new (sym copy.free ∙ ap h.now (sym is) ∙ k.is)

  number : {m : ℕ} → m ≡ h.number → m ≡ h'.number
  number e = e ∙ sym copy.number

  -- what stands there is the new copy, or stood there before
  only_there : (p : ℕ) (s : Start) → h'.now p ≡ Some s → (p ≡ q) ⊎ (h.now p ≡ Some s)
  only_there p s e = elim (cases_eq p q) [ inl is ↦ inl is | inr ne ↦ inr (sym (copy.others p ne) ∙ e) ]

  pub copy_keeps_tied : Tied world h'
  copy_keeps_tied = record {
    frozen = λ y s was o e.
        let now = tied.frozen y s was (o ∙ copy.number) e in
        elsewhere y s now ∙ now;
    older = λ y s was o e. kept_on y y (tied.older y s was (o ∙ copy.number) e);
    copied = λ y p c. elim (own_cases y p c) [
      | inl e ↦ kept_on y p (tied.copied y p e)
      | inr e ↦ subst (λ z. IsKeptAt world h' z p) e.0 (subst (IsKeptAt world h' x) e.1 new_copy)
    ];
    mine = λ y p c. elim (own_cases y p c) [
      | inl e ↦ let m = tied.mine y p e in (number m.0, m.1)
      | inr e ↦ (
        number (ap (owner world.sweepers) (sym e.0) ∙ mine),
        ap (is_collected world) (sym e.0) ∙ young,
      )
    ];
    fresh = λ y p c. elim (own_cases y p c) [
      | inl e ↦ tied.fresh y p e
      | inr e ↦ (
        ap world.image (sym e.1) ∙ started (world.image q) refl,
        ap thread_of (sym e.1) ∙ copy.thread ∙ ap thread_of e.0,
      )
    ];
    objects_once = rw copy.own (push_once object_of h.own (x, q) tied.objects_once copy.absent);
    places_once = rw copy.own (push_once place_of h.own (x, q) tied.places_once new_place);
    unswept_in = λ y p c.
        elim (Contains-push_cases h.unswept (x, q) (y, p) (subst (λ l. Contains l (y, p)) copy.unswept c)) [
          | inl e ↦ own_before y p (tied.unswept_in y p e)
          | inr e ↦ own_from y p (subst (Contains (h.own ++ (x, q) ∷ [])) e (Contains-push h.own (x, q)))
        ];
    unswept_once = rw copy.unswept (push_once object_of h.unswept (x, q) tied.unswept_once new_object);
    only = λ p s e. elim (only_there p s e) [
      | inl is ↦ (
        number (ap (owner world.sweepers) is ∙ owner_q),
        inr (
          x,
          own_from x p (subst (λ z. Contains (h.own ++ (x, q) ∷ []) (x, z)) (sym is)
              (Contains-push h.own (x, q))),
        ),
      )
      | inr e ↦ let r = tied.only p s e in (
        number r.0,
        elim r.1 [
          | inl was ↦ inl was
          | inr c ↦ inr (c.0, own_before c.0 p c.1)
        ],
      )
    ];
    registers = λ r mine none.
        ap (λ (f : ℕ → Option Value). f r) copy.register ∙ tied.registers r (mine ∙ copy.number) none;
  }
