-- One more sweeper is made.
use Rattle.std.proofs.Common.{◌≡◌, ℕ, ◌+◌, ◌<◌, ◌≤◌, List, [], ◌∷◌, ◌++◌, get_or, length, set, refl, sym, ◌∙◌, ap, subst, inl, inr, arith, get_or-set_other}
use Rattle.std.proofs.lemmas.Bool.{cases_lt}
use Rattle.std.proofs.lemmas.List.{get_or_append_left, get_or_push, get_or_read, length-set, length_push}
use Rattle.std.proofs.lemmas.Iterator.Adapters.{YieldsList-from_vec}
use Rattle.std.proofs.lemmas.Iterator.Consumers.{YieldsList-turn}
use Rattle.gc_words.specs.declared.value.Value.{Value}
use Rattle.territory.specs.Territories.{TerritoryView}
use Rattle.directory.specs.Directories.{DirectoryView, sweeper_count}
use Rattle.sweep_share.specs.Shares.{AreShareOf}
use Rattle.sweeper.specs.Sweepers.{SweeperView}
use Rattle.sweeper.specs.Starting.{IsBeginning}
use Rattle.sweep_rounds.specs.Turns.{sweeper_at}
use Rattle.collector.specs.Begun.{IsMade}
use Rattle.collector.specs.Dealt.{AreRegistersDealt, AreRegistersDealtTo, NumberedValues, own_at, registers_at}
use Rattle.collector.proofs.BelowUsed.{registers_below}
use Rattle.collector.proofs.sweeping.make_sweepers.Goals as goal

made_more : (d : DirectoryView) (registers : List Value) (owns : List (List TerritoryView)) (own : List TerritoryView)
    (old all : List SweeperView) (v : SweeperView) → all ≡ old ++ v ∷ [] → length old ≡ length owns
    → ((k : ℕ) (e : SweeperView) → k < length owns → IsMade d (own_at owns k) registers k (sweeper_at old e k))
    → IsMade d own registers (length owns) v
    → (k : ℕ) (e : SweeperView) → k < length owns + 1
    → IsMade d (own_at (owns ++ own ∷ []) k) registers k (sweeper_at all e k)
made_more d registers owns own old all v pushed count before here k e less = elim (cases_lt k (length owns)) [
  | inl low ↦
      subst (λ o. IsMade d o registers k (sweeper_at all e k)) (sym (get_or_append_left owns (own ∷ []) [] k low))
      (subst (IsMade d (own_at owns k) registers k)
      (sym (ap (λ l. sweeper_at l e k) pushed ∙ get_or_append_left old (v ∷ []) e k (omega (arith, low, count))))
      (before k e low))
  | inr far ↦
      let last : length owns ≡ k = omega (arith, less, far) in
      subst (λ j. IsMade d (own_at (owns ++ own ∷ []) j) registers j (sweeper_at all e j)) last
      (subst (λ o. IsMade d o registers (length owns) (sweeper_at all e (length owns)))
      (sym (get_or_push owns own [] (length owns) refl))
      (subst (IsMade d own registers (length owns))
      (sym (ap (λ l. sweeper_at l e (length owns)) pushed ∙ get_or_push old v e (length owns) count)) here))
]

-- the next of a list is the one at its index
next_own : (owns : List (List TerritoryView)) (own : List TerritoryView) (number n : ℕ) → number ≡ n
    → (n < length owns) × (own ≡ get_or owns n own) → own_at owns number ≡ own
next_own owns own number n at turn =
    ap (own_at owns) at ∙ sym (get_or_read owns n own turn.0 turn.1 [])

-- the registers of the sweepers from one on
abbrev AreLeft : ℕ → ℕ → List Value → List NumberedValues → Type 0
AreLeft n number registers dealt =
    (k : ℕ) → number ≤ k → k < n → AreRegistersDealtTo n k registers (registers_at dealt k)

-- those of the next one are taken
own_dealt : (n number : ℕ) (registers : List Value) (dealt : List NumberedValues) (read own : NumberedValues)
    → length dealt ≡ n → number < n → AreLeft n number registers dealt → read ≡ get_or dealt number read → own ≡ read
    → AreRegistersDealtTo n number registers own
own_dealt n number registers dealt read own count low left value is =
    subst (AreRegistersDealtTo n number registers)
    (sym (is ∙ get_or_read dealt number read (omega (arith, count, low)) value []))
    (left number (omega arith) low)

-- those of the others stay
left_after : (n number : ℕ) (registers : List Value) (dealt : List NumberedValues) (rest : NumberedValues)
    → AreLeft n number registers dealt → AreLeft n (number + 1) registers (set dealt number rest)
left_after n number registers dealt rest left k after low =
    subst (AreRegistersDealtTo n k registers)
    (sym (get_or-set_other dealt number k rest [] (λ e. absurd (omega (arith, e, after)))))
    (left k (omega (arith, after)) low)

pub loop-own-init : goal.loop-own-init
loop-own-init c =
    let count : c.sweepers-count.result ≡ sweeper_count c.args.directory.now = c.sweepers-count.ensures.value in
    let dealt : AreRegistersDealt (sweeper_count c.args.directory.now) c.args.registers.now c.in_ok-dealt.dealt.items =
    subst (λ n. AreRegistersDealt n c.args.registers.now c.in_ok-dealt.dealt.items) count
    (registers_below c.sweepers-count.result c.args.registers.now c.args.used c.in_ok-dealt.dealt.items
    c.requires.within c.requires.none c.in_ok-dealt.ensures) in
    record {
      at = refl;
      count = ap length c.new-sweepers.ensures.items;
      made = λ k e less. absurd (omega (arith, less));
      dealt_count = dealt.count;
      left = λ k from low. dealt.each k low;
    }

pub index_mut-requires : goal.index_mut-requires
index_mut-requires c =
    let gives = c.into_iter-own-iterator.ensures.into_iter_gives in
    let turn = YieldsList-turn (YieldsList-from_vec {s = c.into_iter-own-iterator.result} c.args.owns.items gives.0 (gives.1 ∙ c.args.owns.ok.0))
    c.loop-own.yielded c.loop-own.own-iterator c.loop-own.yielded_by c.next.result c.next.new.self c.in-Some.own
    c.in-Some.is c.next.ensures.steps in
    omega (arith, turn.0, c.loop-own.invariant.at, c.loop-own.invariant.dealt_count, c.requires.count, c.loop-own.dealt.ok.0)

pub new-requires-clause-territories : goal.new-requires-clause-territories
new-requires-clause-territories c =
    let gives = c.into_iter-own-iterator.ensures.into_iter_gives in
    let turn = YieldsList-turn (YieldsList-from_vec {s = c.into_iter-own-iterator.result} c.args.owns.items gives.0 (gives.1 ∙ c.args.owns.ok.0))
    c.loop-own.yielded c.loop-own.own-iterator c.loop-own.yielded_by c.next.result c.next.new.self c.in-Some.own
    c.in-Some.is c.next.ensures.steps in
    let own : own_at c.args.owns.items c.loop-own.number ≡ c.in-Some.own =
    next_own c.args.owns.items c.in-Some.own c.loop-own.number (length c.loop-own.yielded) c.loop-own.invariant.at turn in
    subst (AreShareOf c.loop-own.number (sweeper_count c.args.directory.now))
    (own ∙ sym c.into_territories-territories.ensures)
    (c.requires.shares c.loop-own.number (omega (arith, turn.0, c.loop-own.invariant.at)))

pub new-requires-clause-registers : goal.new-requires-clause-registers
new-requires-clause-registers c =
    let gives = c.into_iter-own-iterator.ensures.into_iter_gives in
    let turn = YieldsList-turn (YieldsList-from_vec {s = c.into_iter-own-iterator.result} c.args.owns.items gives.0 (gives.1 ∙ c.args.owns.ok.0))
    c.loop-own.yielded c.loop-own.own-iterator c.loop-own.yielded_by c.next.result c.next.new.self c.in-Some.own
    c.in-Some.is c.next.ensures.steps in
    let before = c.loop-own.invariant in
    (own_dealt (sweeper_count c.args.directory.now) c.loop-own.number c.args.registers.now c.loop-own.dealt.items
    c.index_mut.result.now c.take-own_registers.result.items before.dealt_count
    (omega (arith, turn.0, before.at, c.requires.count)) before.left c.index_mut.ensures.value
    c.take-own_registers.ensures.taken).are

pub loop-own-preserved : goal.loop-own-preserved
loop-own-preserved c =
    let gives = c.into_iter-own-iterator.ensures.into_iter_gives in
    let turn = YieldsList-turn (YieldsList-from_vec {s = c.into_iter-own-iterator.result} c.args.owns.items gives.0 (gives.1 ∙ c.args.owns.ok.0))
    c.loop-own.yielded c.loop-own.own-iterator c.loop-own.yielded_by c.next.result c.next.new.self c.in-Some.own
    c.in-Some.is c.next.ensures.steps in
    let d : DirectoryView = c.args.directory.now in
    let number : ℕ = c.loop-own.number in
    let own : List TerritoryView = c.in-Some.own in
    let own_registers : List (ℕ × Value) = c.take-own_registers.result.items in
    let v : SweeperView = c.in_ok-new.field-0 in
    let before = c.loop-own.invariant in
    let at : number ≡ length c.loop-own.yielded = before.at in
    let here : IsMade d own c.args.registers.now number v = record {
      own_registers = own_registers;
      dealt =
          own_dealt (sweeper_count d) number c.args.registers.now c.loop-own.dealt.items c.index_mut.result.now
          own_registers before.dealt_count (omega (arith, turn.0, at, c.requires.count)) before.left
          c.index_mut.ensures.value c.take-own_registers.ensures.taken;
      begun = λ world is_world beginning.
          c.in_ok-new.ensures.begun world is_world
          (subst (λ ts. IsBeginning world number d ts own_registers) (sym c.into_territories-territories.ensures)
          beginning);
      directory = c.in_ok-new.ensures.directory;
      number = c.in_ok-new.ensures.number;
    } in
    record {
      at = ap (λ n. n + 1) at ∙ sym (length_push c.loop-own.yielded own);
      count =
          ap length c.in_ok-push.ensures.items
          ∙ (length_push c.loop-own.sweepers.items v ∙ ap (λ n. n + 1) before.count);
      made = λ k e less.
          made_more d c.args.registers.now c.loop-own.yielded own c.loop-own.sweepers.items c.push.new.self.items v
          c.in_ok-push.ensures.items (before.count ∙ at)
          (λ j f low. before.made j f (subst (λ n. j < n) (sym at) low))
          (subst (λ n. IsMade d own c.args.registers.now n v) at here) k e (subst (λ n. k < n + 1) at less);
      dealt_count =
          length-set c.loop-own.dealt.items number c.take-own_registers.new.self ∙ before.dealt_count;
      left =
          left_after (sweeper_count d) number c.args.registers.now c.loop-own.dealt.items
          c.take-own_registers.new.self before.left;
    }
