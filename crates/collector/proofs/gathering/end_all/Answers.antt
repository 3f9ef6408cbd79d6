-- One more sweeper is ended: the next one of the list.
use Rattle.std.proofs.Common.{◌≡◌, ℕ, ◌+◌, ◌<◌, List, [], ◌∷◌, ◌++◌, length, slice_index_or, sym, ◌∙◌, subst}
use Rattle.std.proofs.lemmas.Iterator.Adapters.{YieldsList-from_vec}
use Rattle.std.proofs.lemmas.Iterator.Consumers.{YieldsList-turn}
use Rattle.std.proofs.lemmas.List.{length_push, with_items_is}
use Rattle.gc_words.specs.declared.value.Value.{Value}
use Rattle.territory.specs.Territories.{TerritoryView}
use Rattle.sweep_share.specs.Shares.{AreFinished, IsShare}
use Rattle.sweep_share.specs.Registers.{AreRegistersOf}
use Rattle.sweeper.specs.Sweepers.{SweeperView}
use Rattle.collector.specs.Swept.{ArePut}
use Rattle.collector.proofs.Closing.{AreEndedSoFar, AreNumbered, ended_more}
use Rattle.collector.proofs.gathering.end_all.Goals as goal

-- what the calls made of a sweeper, as the lemma takes it
one_more : (sweepers yielded : List SweeperView) (owns pushed : List (List TerritoryView))
    (parts own : List TerritoryView) (before now slice new after : List Value)
    (items listed : List (ℕ × Value)) (v : SweeperView) → AreNumbered sweepers
    → AreEndedSoFar sweepers owns before now (length yielded)
    → (length yielded < length sweepers) × (v ≡ slice_index_or sweepers (length yielded) v)
    → items ≡ v.registers.items → AreRegistersOf v.registers.number v.registers.sweepers items
    → slice ≡ now → listed ≡ items → ArePut slice new listed → after ≡ new
    → AreFinished v.share.territories parts → IsShare v.share → own ≡ parts → pushed ≡ owns ++ own ∷ []
    → AreEndedSoFar sweepers pushed before after (length (yielded ++ v ∷ []))
one_more sweepers yielded owns pushed parts own before now slice new after items listed v numbered so turn
    its of was list put is done share same more =
    let of_its : AreRegistersOf v.registers.number v.registers.sweepers v.registers.items =
    subst (AreRegistersOf v.registers.number v.registers.sweepers) its of in
    let put_its : ArePut now new v.registers.items =
    subst (ArePut now new) (list ∙ its) (subst (λ s. ArePut s new listed) was put) in
    let ended : AreEndedSoFar sweepers (owns ++ own ∷ []) before new (length yielded + 1) =
    ended_more sweepers owns own before now new (length yielded) v numbered so turn.0 turn.1 of_its put_its
    (subst (AreFinished v.share.territories) (sym same) done) share in
    subst (AreEndedSoFar sweepers pushed before after) (sym (length_push yielded v))
    (subst (λ a. AreEndedSoFar sweepers pushed before a (length yielded + 1)) (sym is)
    (subst (λ o. AreEndedSoFar sweepers o before new (length yielded + 1)) (sym more) ended))

pub loop-sweeper-preserved : goal.loop-sweeper-preserved
loop-sweeper-preserved c =
    let turn =
    YieldsList-turn (YieldsList-from_vec {s = c.into_iter-sweeper-iterator.result} c.args.sweepers.items (cc)
    (cc (c.args.sweepers.ok.0))) c.loop-sweeper.yielded c.loop-sweeper.sweeper-iterator
    c.loop-sweeper.yielded_by c.next.result c.next.new.self c.in-Some.sweeper c.in-Some.is
    c.next.ensures.steps in
    let count : length c.put_registers.new.registers ≡ c.loop-sweeper.registers.len =
    c.put_registers.ensures.count ∙ c.deref_mut.ensures.len in
    one_more c.args.sweepers.items c.loop-sweeper.yielded c.loop-sweeper.owns.items c.push.new.self.items
    c.finish-parts.result.territories.items c.new.result c.args.registers.now.items
    c.loop-sweeper.registers.items c.deref_mut.result.now c.put_registers.new.registers _
    c.finish-parts.result.registers.items c.deref.result.now c.in-Some.sweeper
    c.requires.numbers c.loop-sweeper.invariant turn c.finish-parts.ensures.registers
    c.finish-parts.ensures.numbers c.deref_mut.ensures.value c.deref.ensures.value c.put_registers.ensures
    (with_items_is c.loop-sweeper.registers c.put_registers.new.registers count)
    c.finish-parts.ensures.territories c.finish-parts.ensures.share c.new.ensures c.in_ok-push.ensures.items
