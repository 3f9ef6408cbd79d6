use Rattle.std.proofs.Common.{◌≡◌, sym, subst, ◌∙◌}
use Rattle.gc_mail.specs.Recipients.{holder_of}
use Rattle.sweeper.specs.Sweepers.{Writes}
use Rattle.sweeper.specs.Ready.{IsTold, IsWrittenNow}
use Rattle.sweeper.proofs.AnswerParts.{held, not_held, sent_is}
use Rattle.sweeper.proofs.Fielding.{goes_to_target}
use Rattle.sweeper.proofs.WordsKept.{word_kept}
use Rattle.sweeper.proofs.sweeper.Sweeper.answer.Goals as goal
use Rattle.sweeper.proofs.sweeper.Sweeper.answer.Goals.{Then-holder-number}

-- the slot is its own
own : (c : Then-holder-number)
    → holder_of c.args.self.now.share.sweepers c.args.back.now ≡ c.args.self.now.share.number
own c =
    held c.args.self.now c.keep.new.self _ c.args.directory.now c.args.target c.in_ok-place.place _ _ _
    c.args.back.now c.in_ok-place.ensures c.self.view_is c.self.invariant c.requires.same
    c.sweepers.ensures.value c.holder.ensures.value c.number.ensures c.if-holder-number.true

pub write-requires-clause-word : goal.write-requires-clause-word
write-requires-clause-word c =
    word_kept c.args.self.now c.keep.new.self c.args.target c.in_ok-place.place c.args.back.now
    c.requires.may c.in_ok-place.ensures
    (c.requires.word (own (goal.at.write-requires-clause-word c).Then-holder-number))

pub returns-then-holder-number : goal.returns-then-holder-number
returns-then-holder-number c =
    IsWrittenNow c.in_ok-place.place c.keep.new.self c.requires.may
    (own (goal.at.returns-then-holder-number c).Then-holder-number) c.in_ok-place.ensures
    (subst (Writes c.keep.new.self c.write.new.self c.args.back.now c.in_ok-place.place)
    (goes_to_target c.args.self.now c.args.directory.now c.args.target c.target-refers.result c.in-Some.found
    c.requires.may c.requires.same (sym c.find.ensures.value ∙ c.in-Some.is) c.target-refers.ensures.value)
    c.write.ensures)

pub returns : goal.returns
returns c =
    IsTold c.in_ok-place.place c.keep.new.self
    (not_held c.args.self.now c.keep.new.self _ c.args.directory.now c.args.target c.in_ok-place.place _ _ _
    c.args.back.now c.in_ok-place.ensures c.self.view_is c.self.invariant c.requires.same
    c.sweepers.ensures.value c.holder.ensures.value c.number.ensures c.if-holder-number.false)
    c.in_ok-place.ensures (sent_is _ c.keep.new.self c.send.new.self _ c.self.view_is c.in_ok-send.ensures.ok)
