-- What was asked for so far.
use Rattle.std.proofs.Common.{◌≡◌, ◌≢◌, ℕ, ◌+◌, ◌<◌, ◌≤◌, ◌==◌, Bool, true, false, cond, List, [], ◌∷◌, ◌++◌, Contains, IsTrue, refl, sym, ap, subst, ◌∙◌, inl, inr, ◌⊎◌, arith, append_assoc}
use Rattle.std.proofs.lemmas.Bool.{cases_eq, cases_lt, eq-eqb, false≢true}
use Rattle.std.proofs.lemmas.Bool.Decides.{nat_tests}
use Rattle.gc_mail.specs.declared.message.Message.{Message}
use Rattle.gc_mail.specs.declared.message.Message.TheVariants as message
use Rattle.gc_mail.specs.declared.message.Slot.{Slot}
use Rattle.gc_mail.specs.Recipients.{owner}
use Rattle.owned_core.proofs.Lists.{contains_cases, contains_here, contains_none, contains_there}
use Rattle.directory.specs.Directories.{DirectoryView, IsCollected}
use Rattle.sweep_share.specs.Shares.{ShareView}
use Rattle.sweeper.specs.declared.starting.Mail.{Mail}
use Rattle.sweeper.specs.Starting.{AreAsked, AsksFor, NoSlotTwice, OfFirst, to_itself, to_others}

-- ---- lists of asks

append_nil : (ms : List Message) → ms ++ [] ≡ ms
append_nil [] = refl
append_nil (x ∷ ms) = ap (λ l. x ∷ l) (append_nil ms)

itself_append : (s : ShareView) (xs ys : List (Slot × ℕ)) → to_itself s (xs ++ ys)
    ≡ to_itself s xs ++ to_itself s ys
itself_append s [] ys = refl
itself_append s (x ∷ xs) ys = at (owner s.sweepers x.1 == s.number) _ _ (itself_append s xs ys)
  where
    at : (b : Bool) (all left : List Message) → all ≡ left ++ to_itself s ys
        → cond b (message.Forward x.1 x.0 ∷ all) all ≡ cond b
        (message.Forward x.1 x.0 ∷ left) left ++ to_itself s ys
    at true all left e = ap (λ l. message.Forward x.1 x.0 ∷ l) e
    at false all left e = e

others_append : (s : ShareView) (xs ys : List (Slot × ℕ)) → to_others s (xs ++ ys)
    ≡ to_others s xs ++ to_others s ys
others_append s [] ys = refl
others_append s (x ∷ xs) ys = at (owner s.sweepers x.1 == s.number) _ _ (others_append s xs ys)
  where
    at : (b : Bool) (all left : List Message) → all ≡ left ++ to_others s ys
        → cond b all (message.Forward x.1 x.0 ∷ all) ≡ cond b left
        (message.Forward x.1 x.0 ∷ left) ++ to_others s ys
    at true all left e = e
    at false all left e = ap (λ l. message.Forward x.1 x.0 ∷ l) e

contains_left : (xs ys : List (Slot × ℕ)) (a : Slot × ℕ) → Contains xs a → Contains (xs ++ ys) a
contains_left [] ys a c = absurd (contains_none a c)
contains_left (x ∷ xs) ys a c = elim (contains_cases x xs a c) [
  | inl e ↦ subst (Contains (x ∷ (xs ++ ys))) e (contains_here x (xs ++ ys))
  | inr r ↦ contains_there x (xs ++ ys) a (contains_left xs ys a r)
]

contains_right : (xs ys : List (Slot × ℕ)) (a : Slot × ℕ) → Contains ys a → Contains (xs ++ ys) a
contains_right [] ys a c = c
contains_right (x ∷ xs) ys a c = contains_there x (xs ++ ys) a (contains_right xs ys a c)

contains_either : (xs ys : List (Slot × ℕ)) (a : Slot × ℕ) → Contains (xs ++ ys) a → Contains xs a
    ⊎ Contains ys a
contains_either [] ys a c = inr c
contains_either (x ∷ xs) ys a c = elim (contains_cases x (xs ++ ys) a c) [
  | inl e ↦ inl (subst (Contains (x ∷ xs)) e (contains_here x xs))
  | inr r ↦ elim (contains_either xs ys a r) [ inl l ↦ inl (contains_there x xs a l) | inr l ↦ inr l ]
]

-- two lists without a slot twice, and without a slot in both
once_append : (xs ys : List (Slot × ℕ)) → NoSlotTwice xs → NoSlotTwice ys
    → ((b : Slot) (t u : ℕ) → Contains xs (b, t) → Contains ys (b, u) → ⊥) → NoSlotTwice (xs ++ ys)
once_append [] ys h k apart = k
once_append (x ∷ xs) ys h k apart = (
  λ t c. elim (contains_either xs ys (x.0, t) c) [
    | inl l ↦ h.0 t l
    | inr r ↦ apart x.0 x.1 t (contains_here x xs) r
  ],
  once_append xs ys h.1 k (λ b t u c d. apart b t u (contains_there x xs (b, t) c) d),
)

-- ---- what was asked for

pub asked_none : (s : ShareView) (m : Mail) (Wants : Slot → ℕ → Type 0) → ((b : Slot) (t : ℕ) → Wants b t → ⊥)
    → AreAsked s m m Wants
asked_none s m Wants none = record {
  asks = [];
  inbox = sym (append_nil m.inbox);
  outbox = sym (append_nil m.outbox);
  each = λ b t c. absurd (contains_none (b, t) c);
  all = λ b t w. absurd (none b t w);
  once = tt;
}

-- the same wants, said in another way
pub asked_as : (s : ShareView) (m m' : Mail) (Wants Wants' : Slot → ℕ → Type 0) → AreAsked s m m' Wants
    → ((b : Slot) (t : ℕ) → Wants b t → Wants' b t) → ((b : Slot) (t : ℕ) → Wants' b t → Wants b t)
    → AreAsked s m m' Wants'
asked_as s m m' Wants Wants' a to from = record {
  asks = a.asks;
  inbox = a.inbox;
  outbox = a.outbox;
  each = λ b t c. to b t (a.each b t c);
  all = λ b t w. a.all b t (from b t w);
  once = a.once;
}

-- and then others
pub asked_more : (s : ShareView) (m m' m'' : Mail) (Wants Wants' All : Slot → ℕ → Type 0)
    → AreAsked s m m' Wants
    → AreAsked s m' m'' Wants' → ((b : Slot) (t u : ℕ) → Wants b t → Wants' b u → ⊥)
    → ((b : Slot) (t : ℕ) → Wants b t → All b t) → ((b : Slot) (t : ℕ) → Wants' b t → All b t)
    → ((b : Slot) (t : ℕ) → All b t → Wants b t ⊎ Wants' b t)
    → AreAsked s m m'' All
asked_more s m m' m'' Wants Wants' All a a' apart old new either = record {
  asks = a.asks ++ a'.asks;
  inbox = a'.inbox ∙ (ap (λ l. l ++ to_itself s a'.asks) a.inbox
      ∙ (append_assoc m.inbox (to_itself s a.asks) (to_itself s a'.asks)
      ∙ ap (λ l. m.inbox ++ l) (sym (itself_append s a.asks a'.asks))));
  outbox = a'.outbox ∙ (ap (λ l. l ++ to_others s a'.asks) a.outbox
      ∙ (append_assoc m.outbox (to_others s a.asks) (to_others s a'.asks)
      ∙ ap (λ l. m.outbox ++ l) (sym (others_append s a.asks a'.asks))));
  each = λ b t c. elim (contains_either a.asks a'.asks (b, t) c) [
    | inl l ↦ old b t (a.each b t l)
    | inr r ↦ new b t (a'.each b t r)
  ];
  all = λ b t w. elim (either b t w) [
    | inl l ↦ contains_left a.asks a'.asks (b, t) (a.all b t l)
    | inr r ↦ contains_right a.asks a'.asks (b, t) (a'.all b t r)
  ];
  once = once_append a.asks a'.asks a.once a'.once (λ b t u c d. apart b t u (a.each b t c) (a'.each b u d));
}

-- ---- one after the other

pub asked_first : (s : ShareView) (m : Mail) (Wants : ℕ → Slot → ℕ → Type 0) → AreAsked s m m
    (OfFirst Wants 0)
asked_first s m Wants = asked_none s m (OfFirst Wants 0) (λ b t w. absurd (omega (arith, w.1)))

-- some that want nothing are passed
pub asked_past : (s : ShareView) (m m' : Mail) (Wants : ℕ → Slot → ℕ → Type 0) (i j : ℕ) → i ≤ j
    → AreAsked s m m' (OfFirst Wants i)
    → ((k : ℕ) (b : Slot) (t : ℕ) → i ≤ k → k < j → Wants k b t → ⊥) → AreAsked s m m' (OfFirst Wants j)
asked_past s m m' Wants i j le a none =
    asked_as s m m' (OfFirst Wants i) (OfFirst Wants j) a (λ b t w. (w.0, omega (arith, w.1, le), w.2))
    (λ b t w. elim (cases_lt w.0 i) [
      | inl h ↦ (w.0, h, w.2)
      | inr h ↦ absurd (none w.0 b t h w.1 w.2)
    ])

-- the next one is asked for
pub asked_next : (s : ShareView) (m m' m'' : Mail) (Wants : ℕ → Slot → ℕ → Type 0) (i : ℕ)
    → AreAsked s m m' (OfFirst Wants i) → AreAsked s m' m'' (Wants i)
    → ((k : ℕ) (b : Slot) (t u : ℕ) → k < i → Wants k b t → Wants i b u → ⊥)
    → AreAsked s m m'' (OfFirst Wants (i + 1))
asked_next s m m' m'' Wants i a a' apart =
    asked_more s m m' m'' (OfFirst Wants i) (Wants i) (OfFirst Wants (i + 1)) a a'
    (λ b t u w w'. apart w.0 b t u w.1 w.2 w')
    (λ b t w. (w.0, omega (arith, w.1), w.2))
    (λ b t w. (i, omega arith, w))
    (λ b t w. elim (cases_eq w.0 i) [
      | inl e ↦ inr (subst (λ n. Wants n b t) e w.2)
      | inr ne ↦ inl (w.0, omega (arith, w.1, ne), w.2)
    ])

-- ---- one slot

one_there : (x a : Slot × ℕ) → Contains (x ∷ []) a → a ≡ x
one_there x a c = elim (contains_cases x [] a c) [ inl e ↦ sym e | inr r ↦ absurd (contains_none a r) ]

one_once : (x : Slot × ℕ) → NoSlotTwice (x ∷ [])
one_once x = (λ t c. contains_none (x.0, t) c, tt)

-- what one message says
pub asked_one : (s : ShareView) (m m' : Mail) (d : DirectoryView) (back : Slot) (target : ℕ)
    → IsCollected d target
    → m'.inbox ≡ m.inbox ++ to_itself s ((back, target) ∷ []) → m'.outbox ≡ m.outbox ++ to_others s
    ((back, target) ∷ [])
    → AreAsked s m m' (AsksFor d back target)
asked_one s m m' d back target young inbox outbox = record {
  asks = (back, target) ∷ [];
  inbox = inbox;
  outbox = outbox;
  each = λ b t c.
      let e : (b, t) ≡ (back, target) = one_there (back, target) (b, t) c in
      let slot : b ≡ back = ap (λ (v : Slot × ℕ). v.0) e in
      let is : t ≡ target = ap (λ (v : Slot × ℕ). v.1) e in
      (slot, is, subst (IsCollected d) (sym is) young);
  all = λ b t w.
      let e : (b, t) ≡ (back, target) = ap (λ z. (z, t)) w.0 ∙ ap (λ z. (back, z)) w.1 in
      subst (Contains ((back, target) ∷ [])) (sym e) (contains_here (back, target) []);
  once = one_once (back, target);
}

module _ (s : ShareView) (m : Mail) (d : DirectoryView) (back : Slot) (target : ℕ) (b : Bool)
    (collected : (IsTrue b → IsCollected d target) × (IsCollected d target → IsTrue b)) where
  -- nothing is asked for
  pub asked_not : b ≡ false → AreAsked s m m (AsksFor d back target)
  asked_not e = asked_none s m (AsksFor d back target)
      (λ c t w. false≢true (sym e ∙ collected.1 (subst (IsCollected d) w.1 w.2)))

  -- the sweeper itself is asked
  pub asked_itself : (inbox : List Message) (o : Bool) → b ≡ true → o ≡ true
      → (IsTrue o → owner s.sweepers target ≡ s.number) × (owner s.sweepers target ≡ s.number → IsTrue o)
      → inbox ≡ m.inbox ++ message.Forward target back ∷ []
      → AreAsked s m (record m { inbox = inbox }) (AsksFor d back target)
  asked_itself inbox o e is own sent =
      let t : owner s.sweepers target == s.number ≡ true = eq-eqb (owner s.sweepers target) s.number
      (own.0 is) in
      asked_one s m (record m { inbox = inbox }) d back target (collected.0 e)
      (sent ∙ ap (λ z. m.inbox ++ cond z (message.Forward target back ∷ []) []) (sym t))
      (sym (append_nil m.outbox) ∙ ap (λ z. m.outbox ++ cond z [] (message.Forward target back ∷ [])) (sym t))

  -- another one is asked
  pub asked_other : (outbox : List Message) (o : Bool) → b ≡ true → o ≡ false
      → (IsTrue o → owner s.sweepers target ≡ s.number) × (owner s.sweepers target ≡ s.number → IsTrue o)
      → outbox ≡ m.outbox ++ message.Forward target back ∷ []
      → AreAsked s m (record m { outbox = outbox }) (AsksFor d back target)
  asked_other outbox o e is own sent =
      let t : owner s.sweepers target == s.number ≡ false = not_own (λ h. false≢true (sym is ∙ own.1 h)) in
      asked_one s m (record m { outbox = outbox }) d back target (collected.0 e)
      (sym (append_nil m.inbox) ∙ ap (λ z. m.inbox ++ cond z (message.Forward target back ∷ []) []) (sym t))
      (sent ∙ ap (λ z. m.outbox ++ cond z [] (message.Forward target back ∷ [])) (sym t))
    where
      not_own : (owner s.sweepers target ≢ s.number) → owner s.sweepers target == s.number ≡ false
      not_own ne = grind (arith, nat_tests, ne)
