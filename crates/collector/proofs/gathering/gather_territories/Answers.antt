-- The territory of the next thread is taken from the end of its sweeper's list.
use Rattle.std.proofs.Common.{◌≡◌, ℕ, ◌+◌, ◌-◌, ◌/◌, ◌%◌, ◌<◌, ◌≤◌, List, [], ◌∷◌, ◌++◌, length, set, slice_index_or, sym, ◌∙◌, ap, subst, arith}
use Rattle.std.proofs.Math.Nat.{mod-lt}
use Rattle.std.proofs.lemmas.List.{get_or_read}
use Rattle.territory.specs.Territories.{TerritoryView}
use Rattle.collector.specs.Dealt.{AreGathered, AreWhole, own_at}
use Rattle.collector.proofs.Taking.{AreTaken, gathered, next_there, taken_more}
use Rattle.collector.proofs.gathering.gather_territories.Goals as goal

-- what was read at the sweeper's index is its list
read_own : (now : List (List TerritoryView)) (u n m : ℕ) (own : List TerritoryView) → 1 ≤ n
    → length now ≡ n → m ≡ n → own ≡ slice_index_or now (u % m) own → own ≡ own_at now (u % n)
read_own now u n m own some count same is =
    get_or_read now (u % n) own (subst (λ k. u % n < k) (sym count) (mod-lt u some))
    (is ∙ ap (λ k. slice_index_or now (u % k) own) same) []

not_empty : (n : ℕ) (owns now : List (List TerritoryView)) (territories : List TerritoryView) (t : ℕ) → 1 ≤ n
    → AreWhole n owns → AreTaken n owns now territories t → 0 < t → own_at now ((t - 1) % n) ≡ [] → ⊥
not_empty n owns now territories t some whole taken more empty =
    let next : t ≡ t - 1 + 1 = omega (arith, more) in
    let there : (t - 1) / n < length (own_at now ((t - 1) % n)) =
    next_there n owns now territories (t - 1) some whole
    (subst (AreTaken n owns now territories) next taken) in
    let none : length (own_at now ((t - 1) % n)) ≡ 0 = ap length empty in
    omega (arith, there, none)

one_more : (n m : ℕ) (owns now : List (List TerritoryView)) (territories pushed : List TerritoryView) (t : ℕ)
    (rest : List TerritoryView) (y : TerritoryView) → 1 ≤ n → m ≡ n → AreWhole n owns
    → AreTaken n owns now territories t → 0 < t → own_at now ((t - 1) % n) ≡ rest ++ y ∷ []
    → pushed ≡ territories ++ y ∷ [] → AreTaken n owns (set now ((t - 1) % m) rest) pushed (t - 1)
one_more n m owns now territories pushed t rest y some same whole taken more popped push =
    let next : t ≡ t - 1 + 1 = omega (arith, more) in
    subst (λ k. AreTaken n owns (set now ((t - 1) % k) rest) pushed (t - 1)) (sym same)
    (subst (λ ts. AreTaken n owns (set now ((t - 1) % n) rest) ts (t - 1)) (sym push)
    (taken_more n owns now territories (t - 1) some whole (subst (AreTaken n owns now territories) next taken)
    rest y popped))

pub unreachable-requires : goal.unreachable-requires
unreachable-requires c =
    let owns = c.args.owns.items in
    let now = c.loop-thread.owns.items in
    let same : c.len-in-loop-thread.result ≡ length owns = omega (arith, c.len-in-loop-thread.ensures, c.loop-thread.owns.ok.0) in
    not_empty (length owns) owns now c.loop-thread.territories.items c.loop-thread.thread c.requires.some
    c.requires.whole c.loop-thread.invariant (omega arith)
    (sym (read_own now (c.loop-thread.thread - 1) (length owns) c.len-in-loop-thread.result c.index_mut.result.now
    c.requires.some c.loop-thread.invariant.count same c.index_mut.ensures.value) ∙ c.in_default.ensures.none)

pub loop-thread-preserved : goal.loop-thread-preserved
loop-thread-preserved c =
    let owns = c.args.owns.items in
    let now = c.loop-thread.owns.items in
    let same : c.len-in-loop-thread.result ≡ length owns = omega (arith, c.len-in-loop-thread.ensures, c.loop-thread.owns.ok.0) in
    one_more (length owns) c.len-in-loop-thread.result owns now c.loop-thread.territories.items c.push.new.self.items
    c.loop-thread.thread c.pop.new.self c.in-Some.territory c.requires.some same c.requires.whole
    c.loop-thread.invariant (omega arith)
    (sym (read_own now (c.loop-thread.thread - 1) (length owns) c.len-in-loop-thread.result c.index_mut.result.now
    c.requires.some c.loop-thread.invariant.count same c.index_mut.ensures.value) ∙ c.in-Some.ensures.some)
    c.in_ok-push.ensures.items

pub returns : goal.returns
returns c =
    let owns = c.args.owns.items in
    let a : AreTaken (length owns) owns c.loop-thread.owns.items c.loop-thread.territories.items 0 =
    subst (AreTaken (length owns) owns c.loop-thread.owns.items c.loop-thread.territories.items) (omega arith)
    c.loop-thread.invariant in
    subst (AreGathered (length owns) owns) (sym c.reverse.ensures.items)
    (gathered (length owns) owns c.loop-thread.owns.items c.loop-thread.territories.items a)
