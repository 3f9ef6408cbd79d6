-- A territory that begins is put in its own place.
use Rattle.std.proofs.Common.{◌≡◌, ℕ, ◌+◌, ◌<◌, List, length, set, Some, inl, inr, refl, sym, ◌∙◌, ap, subst, arith}
use Rattle.std.specs.List.{slice_get}
use Rattle.std.proofs.lemmas.Bool.{cases_eq}
use Rattle.std.proofs.lemmas.List.{length-set}
use Rattle.std.proofs.lemmas.Option.{same_Some, slice_get_read, slice_get_within}
use Rattle.territory.specs.declared.territory.Targets.{Targets}
use Rattle.territory.specs.Territories.{TerritoryView}
use Rattle.heap_store.proofs.Territories.{slice_get-set_other, slice_get-set_same}
use Rattle.collector.specs.Begun.{HasBegun}
use Rattle.collector.proofs.sweeping.begin_all.Goals as goal

-- one more has begun
begun_more : (old now : List TerritoryView) (i j : ℕ) (t v w u : TerritoryView) (targets : Targets)
    → ((k : ℕ) (a b : TerritoryView) → k < i → slice_get old k ≡ Some a → slice_get now k ≡ Some b
    → HasBegun a b targets)
    → slice_get now i ≡ Some v → slice_get now i ≡ slice_get old i → HasBegun v w targets → j < i + 1
    → slice_get old j ≡ Some t → slice_get (set now i w) j ≡ Some u → HasBegun t u targets
begun_more old now i j t v w u targets begun here same more below was is = elim (cases_eq j i) [
  | inl e ↦
      let first : v ≡ t = same_Some v t (sym here ∙ (same ∙ (ap (slice_get old) (sym e) ∙ was))) in
      let last : w ≡ u =
      same_Some w u (sym (slice_get-set_same now i w (slice_get_within now i v here))
      ∙ (ap (slice_get (set now i w)) (sym e) ∙ is)) in
      subst (λ z. HasBegun t z targets) last (subst (λ z. HasBegun z w targets) first more)
  | inr ne ↦ begun j t u (omega (arith, ne)) was (sym (slice_get-set_other now i j w ne) ∙ is)
]

pub loop-i-preserved : goal.loop-i-preserved
loop-i-preserved c =
    let now = c.loop-i.territories.items in
    let i : ℕ = c.loop-i.i in
    let within : i < length now = omega (arith, c.len-i-end.ensures, c.loop-i.invariant.count) in
    record {
      count = length-set now i c.begin.new.self ∙ c.loop-i.invariant.count;
      begun = λ j t u.
          begun_more c.args.territories.now.items now i j t c.index_mut.result.now c.begin.new.self u
          c.args.targets c.loop-i.invariant.begun
          (slice_get_read now (length now) i c.index_mut.result.now refl within c.index_mut.ensures.value)
          (c.loop-i.invariant.others i (omega arith))
          (record {
            starts = c.begin.ensures.starts;
            segments = c.begin.ensures.segments;
            thread = c.begin.ensures.thread;
            its_targets = c.begin.ensures.targets;
            sound = c.begin.ensures.sound;
            addresses = c.begin.ensures.addresses;
            shaped = c.begin.ensures.shaped;
            lie = c.begin.ensures.lie;
          });
      others = λ j past.
          slice_get-set_other now i j c.begin.new.self (λ e. absurd (omega (arith, past, e)))
          ∙ c.loop-i.invariant.others j (omega (arith, past));
    }

pub returns : goal.returns
returns c = record {
  count = c.loop-i.invariant.count;
  each = λ i t u was is.
      c.loop-i.invariant.begun i t u
      (let inside : i < length c.args.territories.now.items =
      slice_get_within c.args.territories.now.items i t was in
      omega (arith, inside, c.len-i-end.ensures)) was is;
}
