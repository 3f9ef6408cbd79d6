-- One more register goes to its sweeper; where no more hold objects, all are dealt out.
use Rattle.std.proofs.Common.{◌≡◌, ℕ, ◌+◌, ◌%◌, ◌<◌, ◌≤◌, List, [], ◌∷◌, ◌++◌, length, set, slice_get, slice_index_or, Some, IsSome, ◌∙◌, refl, ap, subst, sym, arith}
use Rattle.std.proofs.Math.Nat.{mod-lt}
use Rattle.std.proofs.lemmas.List.{get_or_read}
use Rattle.std.proofs.lemmas.Option.{slice_get_read}
use Rattle.gc_words.specs.declared.value.Value.{Value}
use Rattle.sweep_model.specs.World.{object_in}
use Rattle.collector.specs.Dealt.{HoldNone, NumberedValues, registers_at}
use Rattle.collector.proofs.DealtRegisters.{AreDealtBelow, object_held, registers_all, registers_more, registers_none}
use Rattle.collector.proofs.dealing.deal_registers.Goals as goal

-- it goes behind those that its sweeper has
dealt_next : (n m : ℕ) (all : List Value) (from r : ℕ) (owns : List NumberedValues) (own more : NumberedValues)
    (v : Value) → 0 < n → m ≡ n → from ≤ r → HoldNone all from r → slice_get all r ≡ Some v
    → IsSome (object_in (slice_get all r)) → AreDealtBelow n all from owns → own ≡ slice_index_or owns (r % m) own
    → more ≡ own ++ (r, v) ∷ [] → AreDealtBelow n all (r + 1) (set owns (r % m) more)
dealt_next n m all from r owns own more v some same most none held object dealt read pushed =
    let within : r % n < length owns = omega (arith, dealt.count, mod-lt r some) in
    let is : own ≡ registers_at owns (r % n) =
    get_or_read owns (r % n) own within (read ∙ ap (λ k. slice_index_or owns (r % k) own) same) [] in
    subst (λ k. AreDealtBelow n all (r + 1) (set owns (r % k) more)) (sym same)
    (subst (λ w. AreDealtBelow n all (r + 1) (set owns (r % n) w)) (sym (pushed ∙ ap (λ l. l ++ (r, v) ∷ []) is))
    (registers_more n all from r owns v some most none (object_held (slice_get all r) v held object) dealt))

pub loop-register-init : goal.loop-register-init
loop-register-init c =
    subst (AreDealtBelow c.args.sweepers c.args.registers.now 0) (sym c.in_ok-owns.ensures)
    (registers_none c.args.sweepers c.args.registers.now)

pub loop-register-preserved : goal.loop-register-preserved
loop-register-preserved c =
    let owns : List NumberedValues = c.loop-register.owns.items in
    let all : List Value = c.args.registers.now in
    let v : Value = c.index-registers-register.result in
    let told = c.in-Some.ensures in
    dealt_next c.args.sweepers c.len.result all c.loop-register.from c.in-Some.register owns c.index_mut.result.now
    c.push.new.self v (omega arith)
    (omega (arith, c.len.ensures, c.loop-register.owns.ok.0, c.loop-register.invariant.count)) told.within.0 told.first
    (slice_get_read all _ c.in-Some.register v refl told.within.1 c.index-registers-register.is) told.object
    c.loop-register.invariant c.index_mut.ensures.value c.in_ok-push.ensures

pub returns : goal.returns
returns c =
    registers_all c.args.sweepers c.args.registers.now c.loop-register.from c.loop-register.owns.items
    c.in_default.ensures.none c.loop-register.invariant
