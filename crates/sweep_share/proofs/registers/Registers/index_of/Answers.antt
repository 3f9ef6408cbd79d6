-- Below the partition point numbers are lower than that of the register, which stands right there.
use Rattle.std.proofs.Common.{◌≡◌, ℕ, ◌∙◌, ◌<◌, ltb, ltb-false, ltb-true, length, IsSome, ap, sym, subst, arith, rules}
use Rattle.std.specs.FinMap.{find}
use Rattle.std.specs.Ordering.{nat_cmp}
use Rattle.std.proofs.lemmas.List.Sorted.{IsNonDecreasingBy-from_default, IsPartitionPoint-from_clause, IsPartitionedBy-ltb}
use Rattle.gc_words.specs.declared.value.Value.{Value}
use Rattle.gc_words.specs.declared.value.Value.TheVariants.{Nil}
use Rattle.sweep_share.specs.Registers.{RegistersView, item_at}
use Rattle.sweep_share.proofs.Numbers.{Ascend, rising, stands_at}
use Rattle.sweep_share.proofs.registers.Registers.index_of.Goals as goal

stands : (c : goal.After-partition_point) → (c.partition_point.result < length c.args.self.now.items)
    × ((item_at c.args.self.now.items c.partition_point.result).0 ≡ c.args.r)
stands c =
    let up : Ascend c.deref.result.now = subst Ascend (sym c.deref.ensures.value) c.self.invariant.ascend in
    let parted =
    IsPartitionedBy-ltb (λ (item : ℕ × Value). item.0) c.deref.result.now c.args.r
    (IsNonDecreasingBy-from_default (λ (item : ℕ × Value). item.0) c.deref.result.now (0, Nil)
    (rising c.deref.result.now up)) in
    let point =
    IsPartitionPoint-from_clause (λ (item : ℕ × Value). ltb item.0 c.args.r) c.deref.result.now
    c.partition_point.result c.partition_point.ensures.partitioned parted (λ a r q k. search rules) in
    let same = c.deref.ensures.value ∙ ap (λ (s : RegistersView). s.items) c.self.view_is in
    subst (λ l. (c.partition_point.result < length l) × ((item_at l c.partition_point.result).0 ≡ c.args.r)) same
    (stands_at c.deref.result.now c.args.r c.partition_point.result up
    (subst (λ l. IsSome (find nat_cmp c.args.r l)) (sym same) c.requires)
    (record {
      below = λ j low. ltb-true _ _ (point.0 j (0, Nil) (omega arith) low);
      above = λ j from within. ltb-false _ _ (point.1 j (0, Nil) from within);
    }))

pub returns-clause-within : goal.returns-clause-within
returns-clause-within c = (stands c).0

pub returns-clause-number : goal.returns-clause-number
returns-clause-number c = (stands c).1
