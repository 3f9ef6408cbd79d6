use Rattle.std.proofs.Common.{◌≡◌, ℕ, ◌+◌, ◌*◌, ◌<◌, length, sym, ◌∙◌, ap, subst, arith}
use Rattle.std.specs.FinMap.{empty}
use Rattle.std.proofs.lemmas.List.{length_push}
use Rattle.territory.specs.Territories.{TerritoryView, no_territory}
use Rattle.sweep_rounds.proofs.Nothing.{pushed_at}
use Rattle.sweep_rounds.proofs.tests.own_territories.Goals as goal

next_is : (t n l m s : ℕ) → t ≡ n + l * s → m ≡ l + 1 → t + s ≡ n + m * s
next_is t n l m s e f = subst (λ k. t + s ≡ n + k * s) (sym f) (omega (arith, e))

pub loop-thread-preserved : goal.loop-thread-preserved
loop-thread-preserved c =
    let more = c.in_ok-push.ensures.items in
    let count : length c.push.new.self.items ≡ length c.loop-thread.territories.items + 1 = ap length more ∙ length_push _ _ in
    let new : c.in_ok-new.field-0 ≡ no_territory c.loop-thread.thread = c.in_ok-new.ensures in
    record {
      next = next_is c.loop-thread.thread c.args.number (length c.loop-thread.territories.items)
          (length c.push.new.self.items) c.args.sweepers c.loop-thread.invariant.next count;
      threads = λ i b.
          pushed_at (λ (i : ℕ) (t : TerritoryView). t.thread ≡ c.args.number + i * c.args.sweepers)
          c.loop-thread.territories.items c.push.new.self.items c.in_ok-new.field-0 (no_territory 0) more
          c.loop-thread.invariant.threads
          (ap (λ (t : TerritoryView). t.thread) new ∙ c.loop-thread.invariant.next) i (subst (λ n. i < n) count b);
      nothing = λ i b.
          pushed_at (λ (i : ℕ) (t : TerritoryView). t.starts ≡ empty)
          c.loop-thread.territories.items c.push.new.self.items c.in_ok-new.field-0 (no_territory 0) more
          c.loop-thread.invariant.nothing
          (ap (λ (t : TerritoryView). t.starts) new) i (subst (λ n. i < n) count b);
    }
