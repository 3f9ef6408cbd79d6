use Rattle.std.proofs.Common.{ℕ, ◌+◌, ◌∙◌, sym, ap, subst, arith}
use Rattle.gc_words.specs.declared.value.Value.{Value}
use Rattle.sweeper.specs.declared.starting.Mail.{Mail}
use Rattle.sweeper.specs.Starting.{AreAsked, AsksOfRegister, AsksOfRegisters}
use Rattle.sweeper.proofs.Asked.{asked_first}
use Rattle.sweeper.proofs.AskedRoots.{register_asked, register_past}
use Rattle.sweeper.proofs.starting.Mail.ask_registers.Goals as goal
use Rattle.sweeper.proofs.starting.Mail.ask_registers.Goals.{in-Object+in_ok-ask, in_default}

pub loop-i-init : goal.loop-i-init
loop-i-init c =
    asked_first c.args.share.now c.args.self.now (AsksOfRegister c.args.directory.now c.args.registers.now)

pub loop-i-preserved : goal.loop-i-preserved
loop-i-preserved c = elim c.match-value.branch [
  | in-Object+in_ok-ask w ↦ subst (λ (z : Mail). AreAsked c.args.share.now c.args.self.now z
      (AsksOfRegisters c.args.directory.now c.args.registers.now (c.loop-i.i + 1)))
      (sym w.self-is)
      (register_asked c.args.share.now c.args.self.now c.loop-i.self w.ask.new.self c.args.directory.now
      c.args.registers.now c.loop-i.i
      c.get-register.result.0 w.in-Object.target c.requires
      (omega (arith, c.loop-i-test.true, c.loop-i.auto.i-end, c.len-i-end.ensures)) c.loop-i.invariant
      (ap (λ (v : ℕ × Value). v.0) c.get-register.ensures.value)
      (sym (ap (λ (v : ℕ × Value). v.1) c.get-register.ensures.value) ∙ w.in-Object.is) w.in_ok-ask.ensures)
  | in_default w ↦ subst (λ (z : Mail). AreAsked c.args.share.now c.args.self.now z
      (AsksOfRegisters c.args.directory.now c.args.registers.now (c.loop-i.i + 1)))
      (sym w.self-is)
      (register_past c.args.share.now c.args.self.now c.loop-i.self c.args.directory.now
      c.args.registers.now c.loop-i.i
      c.loop-i.invariant (λ t e. w.in_default.not-Object t
      (ap (λ (v : ℕ × Value). v.1) c.get-register.ensures.value ∙ e)))
]

pub returns : goal.returns
returns c =
    subst (λ n. AreAsked c.args.share.now c.args.self.now c.loop-i.self
    (AsksOfRegisters c.args.directory.now c.args.registers.now n))
    (omega (arith, c.loop-i-test.false, c.loop-i.auto.i-end, c.len-i-end.ensures)) c.loop-i.invariant
