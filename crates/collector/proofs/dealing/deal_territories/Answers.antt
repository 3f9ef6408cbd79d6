-- One more territory goes to the sweeper whose turn it is.
use Rattle.std.proofs.Common.{◌≡◌, ℕ, ◌+◌, ◌<◌, ◌%◌, List, [], ◌∷◌, ◌++◌, length, set, sym, ◌∙◌, ap, subst, arith}
use Rattle.std.proofs.Math.Nat.{mod-add-mod}
use Rattle.std.proofs.lemmas.List.{get_or_read, length_push}
use Rattle.territory.specs.Territories.{TerritoryView}
use Rattle.collector.specs.Dealt.{AreDealt, own_at}
use Rattle.collector.proofs.DealtOut.{dealt_more}
use Rattle.collector.proofs.dealing.deal_territories.Goals as goal

-- whose turn is next
turn_more : (n next m : ℕ) (all : List TerritoryView) (t : TerritoryView) → m ≡ n → next ≡ length all % n
    → (next + 1) % m ≡ length (all ++ t ∷ []) % n
turn_more n next m all t count turn =
    ap (λ k. (next + 1) % k) count
    ∙ (ap (λ k. (k + 1) % n) turn ∙ (mod-add-mod (length all) n 1 ∙ ap (λ k. k % n) (sym (length_push all t))))

-- it was this one's turn
dealt_next : (n next : ℕ) (all : List TerritoryView) (owns : List (List TerritoryView)) (own more : List TerritoryView)
    (t : TerritoryView) → 0 < n → next ≡ length all % n → AreDealt n all owns → own ≡ own_at owns next
    → more ≡ own ++ t ∷ [] → AreDealt n (all ++ t ∷ []) (set owns next more)
dealt_next n next all owns own more t some turn dealt is pushed =
    subst (λ v. AreDealt n (all ++ t ∷ []) (set owns next v)) (sym (pushed ∙ ap (λ l. l ++ t ∷ []) is))
    (subst (λ k. AreDealt n (all ++ t ∷ []) (set owns k (own_at owns k ++ t ∷ []))) (sym turn)
    (dealt_more n all owns t some dealt))

pub loop-territory-preserved : goal.loop-territory-preserved
loop-territory-preserved c =
    let before = c.loop-territory.invariant in
    let owns : List (List TerritoryView) = c.loop-territory.owns.items in
    let within : c.loop-territory.next < length owns = omega (arith, before.next, before.dealt.count) in
    record {
      next = turn_more c.args.sweepers c.loop-territory.next c.len.result c.loop-territory.yielded c.in-Some.territory
          (omega (arith, before.dealt.count, c.loop-territory.owns.ok.0)) before.next;
      dealt = dealt_next c.args.sweepers c.loop-territory.next c.loop-territory.yielded owns c.index_mut.result.now
          c.push.new.self c.in-Some.territory (omega arith) before.next before.dealt
          (get_or_read owns c.loop-territory.next c.index_mut.result.now within c.index_mut.ensures.value [])
          c.in_ok-push.ensures;
    }
