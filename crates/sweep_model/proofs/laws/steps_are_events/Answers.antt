-- Each step is told in a file of its own.
use Rattle.sweep_model.proofs.laws.steps_are_events.Goals as goal
use Rattle.sweep_model.proofs.Answering.{answer_goes}
use Rattle.sweep_model.proofs.Asking.{ask_goes, pop_goes}
use Rattle.sweep_model.proofs.Copying.{copy_goes}
use Rattle.sweep_model.proofs.Fixing.{answer_fixes, told_fixes}
use Rattle.sweep_model.proofs.Going.{goes_on}
use Rattle.sweep_model.proofs.Sweeping.{sweep_goes}

pub returns-clause-copy : goal.returns-clause-copy
returns-clause-copy c = copy_goes

pub returns-clause-sweep : goal.returns-clause-sweep
returns-clause-sweep c = sweep_goes

pub returns-clause-ask : goal.returns-clause-ask
returns-clause-ask c = ask_goes

pub returns-clause-answer : goal.returns-clause-answer
returns-clause-answer c = answer_goes

pub returns-clause-answer_fixed : goal.returns-clause-answer_fixed
returns-clause-answer_fixed c = answer_fixes

pub returns-clause-told : goal.returns-clause-told
returns-clause-told c = told_fixes

pub returns-clause-pop : goal.returns-clause-pop
returns-clause-pop c = pop_goes

pub returns-clause-on : goal.returns-clause-on
returns-clause-on c = goes_on
