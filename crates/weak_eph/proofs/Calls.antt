-- What `add` and `take` do, over the table and the index.
use Rattle.std.proofs.Common.{◌≡◌, ◌≢◌, ℕ, ◌<◌, false, eqb, List, [], ◌∷◌, ◌++◌, length, set, get_or, length-append, refl, sym, ◌∙◌, ap, subst, arith, rules}
use Rattle.std.specs.Prelude.{Option, Some, None, slice_get}
use Rattle.std.specs.Map.{lookup, remove_entry}
use Rattle.std.proofs.lemmas.Option.{slice_get_read}
use Rattle.weak_eph.specs.declared.watches.Entry.{Entry}
use Rattle.weak_eph.specs.declared.watches.Chain.{Chain}
use Rattle.weak_eph.specs.Watching.{IsChain, IsChainOf, IsIndexed, waiting, waits_at, next_at}
use Rattle.weak_eph.proofs.Chains.{not_true}
use Rattle.weak_eph.proofs.Tables.{waiting-push, waiting-set, lookup-waiting, remove-waiting, lookup-waiting_none, remove-waiting_none}
use Rattle.weak_eph.proofs.Watched.{add_first, add_more, take_only, take_first, waits_within}

module _ {B : Type 0} where
  -- the same chains, of the same table
  pub indexed_again : (es now : List (Entry B)) (chain chain' : ℕ → Option Chain) → now ≡ es → ((q : ℕ) → chain' q ≡ chain q) → IsIndexed es chain → IsIndexed now chain'
  indexed_again es now chain chain' s e h = subst (λ l. IsIndexed l chain') (sym s) (λ q. subst (λ o. IsChainOf (waits_at es q) (next_at es) o) (sym (e q)) (h q))

  -- an entry as the code makes it
  abbrev pub entry : ℕ → B → Entry B
  entry key back = record { key = key; back = Some back; next = 0 }

  -- nobody waits for the key yet
  module _ (es now : List (Entry B)) (key place : ℕ) (back : B) (made : now ≡ es ++ entry key back ∷ []) (is : place ≡ length es) where
    pub first_added : (chain chain' : ℕ → Option Chain) → IsIndexed es chain → chain key ≡ None → chain' key ≡ Some (record { first = place; last = place }) → ((q : ℕ) → q ≢ key → chain' q ≡ chain q) → IsIndexed now chain'
    first_added chain chain' h none new others = subst (λ l. IsIndexed l chain') (sym made)
        (add_first es (entry key back) chain chain' h none refl (new ∙ ap (λ p. Some (record { first = p; last = p })) is) others)

    pub first_shown : waiting now ≡ waiting es ++ (key, back) ∷ []
    first_shown = ap waiting made ∙ waiting-push es (entry key back)

    -- somebody waits for the key already
    module _ (c : Chain) (p : Entry B) (last_within : c.last < length es) (read : p ≡ get_or now c.last p) where
      got : slice_get now c.last ≡ Some p
      got = slice_get_read now (length now) c.last p refl (omega (arith, last_within, ap length made, length-append es (entry key back ∷ []))) read

      abbrev pub linked : Entry B
      linked = record { key = p.key; back = p.back; next = place }

      pub next_added : (chain chain' : ℕ → Option Chain) → IsIndexed es chain → chain key ≡ Some c → chain' key ≡ Some (record { first = c.first; last = place }) → ((q : ℕ) → q ≢ key → chain' q ≡ chain q) → IsIndexed (set now c.last linked) chain'
      next_added chain chain' h some new others = subst (λ l. IsIndexed (set l c.last linked) chain') (sym made)
          (add_more es (entry key back) chain chain' c p linked h some refl (subst (λ l. slice_get l c.last ≡ Some p) made got) refl refl is (new ∙ ap (λ l. Some (record { first = c.first; last = l })) is) others)

      pub next_shown : waiting (set now c.last linked) ≡ waiting es ++ (key, back) ∷ []
      next_shown = waiting-set now c.last p linked got refl refl ∙ first_shown

  module _ (es : List (Entry B)) (chain : ℕ → Option Chain) (key : ℕ) (c : Chain) (h : IsIndexed es chain) (some : chain key ≡ Some c) where
    its_chain : IsChain (waits_at es key) (next_at es) c
    its_chain = subst (λ o. IsChainOf (waits_at es key) (next_at es) o) some (h key)

    pub last_within : c.last < length es
    last_within = waits_within es key c.last its_chain.last

    pub first_within : c.first < length es
    first_within = waits_within es key c.first its_chain.first

    none_before : (j : ℕ) → j < c.first → waits_at es key j ≡ false
    none_before j l = not_true (waits_at es key j) (λ t. absurd (omega (arith, l, its_chain.within j t)))

    module _ (x : Entry B) (read : x ≡ get_or es c.first x) where
      has : slice_get es c.first ≡ Some x
      has = slice_get_read es (length es) c.first x refl first_within read

      pub first_back : x.back ≡ lookup (eqb key) (waiting es)
      first_back = sym (lookup-waiting es key c.first x has its_chain.first none_before)

      abbrev pub taken : Entry B
      taken = record { key = x.key; back = None; next = x.next }

      pub first_taken : waiting (set es c.first taken) ≡ remove_entry (eqb key) (waiting es)
      first_taken = remove-waiting es key c.first x taken has its_chain.first none_before refl

      pub only_taken : (chain' : ℕ → Option Chain) → c.first ≡ c.last → chain' key ≡ None → ((q : ℕ) → q ≢ key → chain' q ≡ chain q) → IsIndexed (set es c.first taken) chain'
      only_taken chain' only new others = take_only es chain chain' key c x taken h some has refl refl others only new

      pub one_taken : (chain' : ℕ → Option Chain) (y : Entry B) → y ≡ get_or es c.first y → c.first ≢ c.last → chain' key ≡ Some (record { first = y.next; last = c.last }) → ((q : ℕ) → q ≢ key → chain' q ≡ chain q) → IsIndexed (set es c.first taken) chain'
      one_taken chain' y again more new others =
          let both : Some y ≡ Some x = sym (slice_get_read es (length es) c.first y refl first_within again) ∙ has in
          let same : y ≡ x = search (rules, both) in
          take_first es chain chain' key c x taken h some has refl refl others more (new ∙ ap (λ z. Some (record { first = z.next; last = c.last })) same)

  module _ (es : List (Entry B)) (chain : ℕ → Option Chain) (key : ℕ) (h : IsIndexed es chain) (none : chain key ≡ None) where
    nobody : (j : ℕ) → waits_at es key j ≡ false
    nobody = subst (λ o. IsChainOf (waits_at es key) (next_at es) o) none (h key)

    pub none_back : None ≡ lookup (eqb key) (waiting es)
    none_back = sym (lookup-waiting_none es key nobody)

    pub none_taken : waiting es ≡ remove_entry (eqb key) (waiting es)
    none_taken = sym (remove-waiting_none es key nobody)
