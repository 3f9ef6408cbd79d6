use Rattle.std.proofs.Common.{rules, ◌≡◌, ℕ, ◌<◌, ◌≤◌, false, List, ◌++◌, length, take, drop, OnOk, Result, Ok, Err, sym, ◌∙◌, ap, subst, arith, append-nil}
use Rattle.std.proofs.Math.ListN.{drop_of_length-le}
use Rattle.std.proofs.Math.Seq.{take-length}
use Rattle.sweeper.specs.Sweepers.{SweeperView}
use Rattle.sweep_rounds.specs.Turns.{Ends, sweeper_at}
use Rattle.sweep_rounds.proofs.run.run_to_idle.Goals as goal

-- a vector with as many elements of a list has just these
refilled : {X : Type 0} (n : ℕ) (xs ws : List X) → n ≡ length xs → length ws ≡ length xs
    → take n (ws ++ drop (length ws) xs) ≡ ws
refilled n xs ws e f =
    let none : length xs ≤ length ws = omega (arith, f) in
    ap (λ t. take n (ws ++ t)) (drop_of_length-le xs none)
    ∙ (ap (take n) (append-nil ws) ∙ (ap (λ m. take m ws) (e ∙ sym f) ∙ take-length ws))

-- where the answer is Ok, and anyhow
on_ok : {X E : Type 0} (P : Type 0) (r : Result X E) → P → OnOk r P
on_ok P (Ok x) p = p
on_ok P (Err e) p = tt

pub returns-clause-same : goal.returns-clause-same
returns-clause-same g c =
    let start : List SweeperView = c.args.sweepers.now.items in
    let end : List SweeperView = c.run_turns.new.sweepers in
    let full : c.args.sweepers.now.len ≡ length start = search rules in
    let value : c.deref_mut.result.now ≡ start = c.deref_mut.ensures.value in
    let same : length end ≡ length start = c.run_turns.auto.sweepers ∙ ap length value in
    on_ok _ c.run_turns.result (ap length (refilled c.args.sweepers.now.len start end full same) ∙ same)

pub returns-clause-ends : goal.returns-clause-ends
returns-clause-ends g c =
    let start : List SweeperView = c.args.sweepers.now.items in
    let end : List SweeperView = c.run_turns.new.sweepers in
    let full : c.args.sweepers.now.len ≡ length start = search rules in
    let value : c.deref_mut.result.now ≡ start = c.deref_mut.ensures.value in
    let same : length end ≡ length start = c.run_turns.auto.sweepers ∙ ap length value in
    let ends : OnOk c.run_turns.result ((d : SweeperView) → Ends (length start) (sweeper_at start d) (sweeper_at end d)) =
    subst (λ l. OnOk c.run_turns.result ((d : SweeperView) → Ends (length l) (sweeper_at l d) (sweeper_at end d))) value
    c.run_turns.ensures.ends in
    subst (λ l. OnOk c.run_turns.result ((d : SweeperView) → Ends (length start) (sweeper_at start d) (sweeper_at l d)))
    (sym (refilled c.args.sweepers.now.len start end full same)) ends

pub returns-clause-enough : goal.returns-clause-enough
returns-clause-enough g c =
    let start : List SweeperView = c.args.sweepers.now.items in
    let end : List SweeperView = c.run_turns.new.sweepers in
    let full : c.args.sweepers.now.len ≡ length start = search rules in
    let value : c.deref_mut.result.now ≡ start = c.deref_mut.ensures.value in
    let same : length end ≡ length start = c.run_turns.auto.sweepers ∙ ap length value in
    let enough : OnOk c.run_turns.result ((k : ℕ) (d : SweeperView) → k < length start
    → (sweeper_at end d k).ran_out ≡ false) =
    subst (λ l. OnOk c.run_turns.result ((k : ℕ) (d : SweeperView) → k < length l → (sweeper_at end d k).ran_out ≡ false))
    value c.run_turns.ensures.enough in
    subst (λ l. OnOk c.run_turns.result ((k : ℕ) (d : SweeperView) → k < length start
    → (sweeper_at l d k).ran_out ≡ false))
    (sym (refilled c.args.sweepers.now.len start end full same)) enough
